use Rattle.std.proofs.Common.{ℕ, ◌+◌, ◌≤◌, true, vec_capacity, refl, arith}
use Rattle.client_tables.proofs.attached_opens.Roomy.{roomy_all, roomy_less, roomy_one}
use Rattle.client_steps.proofs.submits_on_opens.Onto.{clash}
use Rattle.client_steps.proofs.submits_on_opens.joining.make_slots.Goals as goal

same : (n : ℕ) → n ≤ n
same n = omega arith

pub returns-then-not-locks : goal.returns-then-not-locks
returns-then-not-locks c =
    record {
      session = refl;
      slots = refl;
      room = λ n r. r;
      more = λ e. absurd (clash c.args.locks e c.if-not-locks.true);
    }

pub returns-then-counted-ge64 : goal.returns-then-counted-ge64
returns-then-counted-ge64 c =
    let own = c.args.own.now in
    record {
      session = refl;
      slots = refl;
      room = λ n r. r;
      more = λ e n r. roomy_all n (n + 1) own.locks (vec_capacity own.slots) c.if-counted-ge64.true r;
    }

pub returns-in_err-make_room-clause-slots : goal.returns-in_err-make_room-clause-slots
returns-in_err-make_room-clause-slots c = c.make_room.ensures.items

pub returns-in_err-make_room-clause-room : goal.returns-in_err-make_room-clause-room
returns-in_err-make_room-clause-room c = λ n r.
    let own = c.args.own.now in
    roomy_less n n own.locks (vec_capacity own.slots) (vec_capacity c.make_room.new.slots) (same n) c.make_room.ensures.capacity r

pub returns : goal.returns
returns c =
    let own = c.args.own.now in
    let e = c.make_room.ensures in
    let most = c.in_ok-make_room.ensures.room in
    let after = vec_capacity c.make_room.new.slots in
    record {
      session = refl;
      slots = e.items;
      room = λ n r. roomy_less (n + 1) n (own.locks + 1) after after (omega arith) (same after)
          (roomy_one n own.locks (vec_capacity own.slots) after most r);
      more = λ e n r. roomy_one n own.locks (vec_capacity own.slots) after most r;
    }
