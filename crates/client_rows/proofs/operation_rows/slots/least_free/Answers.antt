use Rattle.std.proofs.Common.{◌<◌, ◌≤◌, length, sym, ◌∙◌, arith}
use Rattle.client_rows.proofs.operation_rows.Least.{found_slot, new_slot, no_slot_left}
use Rattle.client_rows.proofs.operation_rows.slots.least_free.Goals as goal

pub returns-then-may_be_taken : goal.returns-then-may_be_taken
returns-then-may_be_taken c =
    let l : c.loop-place.place < length c.args.slots.now = (let t = c.loop-place-test.true in omega arith) in
    sym (found_slot c.args.rows.now c.args.slots.now c.args.session c.loop-place.place l c.requires.few
    (sym c.may_be_taken.ensures ∙ c.if-may_be_taken.true) c.loop-place.invariant)

pub returns-then-slots-lt64 : goal.returns-then-slots-lt64
returns-then-slots-lt64 c =
    let n : length c.args.slots.now < 64 = (let t = c.if-slots-lt64.true in omega arith) in
    sym (new_slot c.args.rows.now c.args.slots.now c.args.session n
    (λ k l. c.loop-place.invariant k (let t = c.loop-place-test.false in omega arith)))

pub returns-else-slots-lt64 : goal.returns-else-slots-lt64
returns-else-slots-lt64 c =
    let n : 64 ≤ length c.args.slots.now = (let t = c.if-slots-lt64.false in omega arith) in
    sym (no_slot_left c.args.rows.now c.args.slots.now c.args.session n
    (λ k l. c.loop-place.invariant k (let t = c.loop-place-test.false in omega arith)))
