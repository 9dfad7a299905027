use Rattle.std.proofs.Common.{true, false, refl, sym, ◌∙◌}
use Rattle.std.specs.Prelude.{is_some}
use Rattle.spec_exchange.specs.Client.{SaidSecond}
use Rattle.spec_world.specs.Dialog.{accepted_end}
use Rattle.client_ends.proofs.response_faults.Forms.{headed}
use Rattle.client_ends.proofs.dialog_calls.Behind.{unpaid_turn}
use Rattle.client_ends.proofs.dialog_calls.Ciphers.{final_cipher}
use Rattle.client_ends.proofs.dialog_calls.Endings.{accepted_keys, accepted_turn, bound_turn, final_pays}
use Rattle.client_ends.proofs.dialog_calls.hearing.take_end.Goals as goal

pub returns-then-bound : goal.returns-then-bound
returns-then-bound c = λ n s j.
    let d = c.args.d.now in
    let rest = c.bind.ensures.rest in
    bound_turn d c.bind.new.d c.pay_in.new.self n c.args.told.now c.args.m.now c.args.channel c.bind.result
    (sym c.is_some-bound.ensures ∙ c.if-bound.true) s j (c.pay_in.ensures.shows n s.talk) c.bind.ensures.line c.bind.ensures.stage
    c.bind.ensures.told (record { config = rest.config; bound = rest.bound; previous = rest.previous; session = rest.session })

pub returns-then-some : goal.returns-then-some
returns-then-some c = λ n s j.
    let d = c.args.d.now in
    let e = c.args.told.now in
    let none = sym c.is_some-bound.ensures ∙ c.if-bound.false in
    let paid = c.pay_in.ensures.shows n s.talk in
    accepted_turn d c.accept.new.d c.pay_in.new.self n e c.args.m.now c.args.channel c.accept.result none s j paid
    (sym c.has_credit-some.ensures.some ∙ c.if-some.true)
    (c.accept.ensures (accepted_end n (headed e.header c.args.m.now) d.session) (record { purse = paid.purse; awaited = paid.awaited })
    (accepted_keys d n e none j.2) j.3 refl refl (final_cipher d n c.args.m.now e s j))

pub returns-else-some : goal.returns-else-some
returns-else-some c = λ n s j.
    let d = c.args.d.now in
    let e = c.args.told.now in
    let none = sym c.is_some-bound.ensures ∙ c.if-bound.false in
    unpaid_turn (SaidSecond (is_some d.bound)) d c.refuse.new.d n c.args.m.now c.args.channel e.header c.refuse.result j.1.0 j.1.1 j.0
    (final_pays c.pay_in.new.self n (is_some d.bound) false e none (c.pay_in.ensures.shows n s.talk)
    (sym c.has_credit-some.ensures.some ∙ c.if-some.false)) c.refuse.ensures
