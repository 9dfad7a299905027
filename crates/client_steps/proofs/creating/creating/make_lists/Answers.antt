use Rattle.std.proofs.Common.{arith}
use Rattle.client_steps.proofs.taking.Roomed.{ok_more}
use Rattle.client_steps.proofs.creating.creating.make_lists.Goals as goal

pub returns : goal.returns
returns c =
    record {
      attached = c.reserve.ensures.items;
      opened = c.reserve-2.ensures.items;
      marks = c.reserve-3.ensures.items;
      room = ok_more c.reserve-3.result (λ h. (
        (let a = c.in_ok-reserve.ensures.ok in omega arith),
        (let b = c.in_ok-reserve-2.ensures.ok in omega arith),
        omega arith,
      )) c.reserve-3.ensures.ok;
    }
