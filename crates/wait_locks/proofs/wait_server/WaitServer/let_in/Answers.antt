use Rattle.std.proofs.Common.{◌≡◌, ◌<◌, ℕ, length, List, [], None, Some, ap, arith, false, nat_le, subst, sym, ◌∙◌}
use Rattle.std.proofs.lemmas.Bool.Decides.{nat_tests}
use Rattle.law_waiting.specs.wait_steps.WaitStep as waits
use Rattle.spec_exchange.specs.State as model
use Rattle.wait_locks.proofs.Begins.{chosen}
use Rattle.wait_locks.proofs.Sends.{there}
use Rattle.wait_locks.specs.Begun.{LetInIs}
use Rattle.wait_locks.specs.Kept.{kept_message}
use Rattle.wait_locks.specs.Shown.{BeforeIs}
use Rattle.wait_locks.specs.declared.waiter.Waiter.{Waiter}
use Rattle.wait_locks.proofs.wait_server.WaitServer.let_in.Goals as goal

ids_left : (n m : ℕ) → n < 0xffff_ffff_ffff_ffff → n ≡ m → nat_le waits.last_async_id m ≡ false
ids_left n m l e = grind (arith, nat_tests)

pub returns-in-Some-clause-lists : goal.returns-in-Some-clause-lists
returns-in-Some-clause-lists g c = λ w e i.
    let ws = c.args.self.now.waiters.items in let K = kept_message c.args.waiter.now in let place = c.in-Some.place in
    let P : List Waiter → Type 0 = λ z. BeforeIs c.args.waiter.now z (Some place) in
    let b : BeforeIs c.args.waiter.now ws (Some place) = subst P c.as_slice.ensures.value c.in-Some.ensures.exact in
    let R : List Waiter → Type 0 = λ z. place < length z in
    let d : Waiter = there ws place (subst R c.as_slice.ensures.value c.in-Some.ensures.there) in
    let t = ids_left c.args.self.now.ids_given w.ids_given c.if-self-ge18446744073709551615.false i in
    let Q : waits.Begun → Type 0 = λ z. LetInIs z c.replace.new.self c.args.finals.now.items c.replace.new.finals.items c.replace.result in
    subst Q
    (sym (chosen (nat_le waits.last_async_id w.ids_given) (waits.turned_away w K []) (waits.taken_in w K [] (waits.sent_before K w.waiters)) t
    ∙ ap (waits.taken_in w K []) (ap (waits.sent_before K) (sym e) ∙ (b d).0)))
    (c.replace.ensures.lists w d e i (b d).1)

pub returns-in-None-clause-lists : goal.returns-in-None-clause-lists
returns-in-None-clause-lists g c = λ w e i.
    let ws = c.args.self.now.waiters.items in let K = kept_message c.args.waiter.now in
    let P : List Waiter → Type 0 = λ z. BeforeIs c.args.waiter.now z None in
    let b : BeforeIs c.args.waiter.now ws None = subst P c.as_slice.ensures.value c.in-None.ensures.exact in
    let t = ids_left c.args.self.now.ids_given w.ids_given c.if-self-ge18446744073709551615.false i in
    let Q : waits.Begun → Type 0 = λ z. LetInIs z c.take_behind.new.self c.args.finals.now.items c.args.finals.now.items c.take_behind.result in
    subst Q
    (sym (chosen (nat_le waits.last_async_id w.ids_given) (waits.turned_away w K []) (waits.taken_in w K [] (waits.sent_before K w.waiters)) t
    ∙ ap (waits.taken_in w K []) (ap (waits.sent_before K) (sym e) ∙ b)))
    (c.take_behind.ensures.lists w c.args.finals.now.items e i)
