use Rattle.std.proofs.Common.{◌≡◌, ◌+◌, ◌≤◌, List, length, refl, sym, ap, ◌∙◌, subst, arith}
use Rattle.std.proofs.lemmas.Grind.{common_steps}
use Rattle.spec_exchange.specs.Client.{create_for, next_number}
use Rattle.spec_exchange.specs.Client.{take_slot as takes}
use Rattle.client_rows.specs.declared.operation_rows.slots.Slot.{Slot}
use Rattle.client_rows.specs.lock_slots.Shown.{AreUsed, HaveRows, ShowsSlots}
use Rattle.client_tables.proofs.pushes.Sent.{one_behind, whole}
use Rattle.client_tables.proofs.pushes.sending.take_slot.Goals as goal

pub overflow_cast-index : goal.overflow_cast-index
overflow_cast-index c = let a = c.requires.taken in let b = c.requires.few in omega arith

pub overflow_cast-index-2 : goal.overflow_cast-index-2
overflow_cast-index-2 c = let a = c.requires.taken in let b = c.requires.few in omega arith

pub take_unused-requires : goal.take_unused-requires
take_unused-requires c = record { room = c.requires.room (let t = c.if-slot-len.true in omega arith) }

pub take_used-requires : goal.take_used-requires
take_used-requires c =
    let o = c.deref_mut.ensures.value in
    record {
      above = c.requires.above;
      within = subst (λ (xs : List Slot). c.args.slot ≤ length xs) (sym o) (let t = c.if-slot-len.false in omega arith);
      users = subst (λ (xs : List Slot). HaveRows c.args.rows.now xs) (sym o) c.requires.users;
      taken = c.requires.taken;
    }

pub returns-then-slot-len : goal.returns-then-slot-len
returns-then-slot-len c =
    let rows = c.args.rows.now in
    let old = c.args.slots.now.items in
    let x = c.args.index in
    let e : length old + 1 ≡ c.args.slot =
    one_behind c.args.slot (length old) (let t = c.if-slot-len.true in omega arith) c.requires.within in
    record {
      shown = λ d session h firm. subst (λ i. ShowsSlots rows c.take_unused.new.slots.items session (takes d x i) (create_for d x)) e
          (c.take_unused.ensures.shown d rows session h firm);
      number = λ d session h numbers. sym (ap (λ i. next_number d (d.slot_user (create_for d x) i)) (sym e)
          ∙ c.take_unused.ensures.number d rows session (create_for d x) h);
      most = λ n a b. (let k = c.take_unused.ensures.count in let t = c.if-slot-len.true in omega arith);
      capacity = c.take_unused.ensures.capacity;
      users = c.take_unused.ensures.users rows c.requires.users c.requires.taken;
      positive = λ p used. c.take_unused.ensures.positive p used;
    }

pub returns : goal.returns
returns c =
    let rows = c.args.rows.now in
    let x = c.args.index in
    let o = c.deref_mut.ensures.value in
    let n : length c.args.slots.now.items ≡ c.args.slots.now.len = grind (arith, common_steps) in
    let w = whole c.args.slots.now.len c.args.slots.now.items c.take_used.new.slots n
    (c.take_used.ensures.count ∙ ap (λ (xs : List Slot). length xs) o) in
    record {
      shown = λ d session h firm. subst (λ (xs : List Slot). ShowsSlots rows xs session (takes d x c.args.slot) (create_for d x)) (sym w)
          (c.take_used.ensures.shown d session (subst (λ (xs : List Slot). ShowsSlots rows xs session d (create_for d x)) (sym o) h) firm);
      number = λ d session h numbers. c.take_used.ensures.number d session (create_for d x)
          (subst (λ (xs : List Slot). ShowsSlots rows xs session d (create_for d x)) (sym o) h) numbers;
      most = λ m a b. subst (λ z. z ≤ m) (sym (ap (λ (xs : List Slot). length xs) w ∙ c.take_used.ensures.count
          ∙ ap (λ (xs : List Slot). length xs) o)) b;
      capacity = refl;
      users = subst (λ (xs : List Slot). HaveRows rows xs) (sym w) c.take_used.ensures.users;
      positive = λ p used. subst (λ (xs : List Slot). AreUsed xs) (sym w)
          (c.take_used.ensures.positive p (subst (λ (xs : List Slot). AreUsed xs) (sym o) used));
    }
