use Rattle.std.proofs.Common.{◌≡◌, drop}
use Rattle.store_opens.specs.share_modes.Sharing.{least_conflict, least_both}
use Rattle.store_opens.proofs.share_modes.sharing.least_conflict.Given as goal

abbrev pub invariant-loop-open : goal.invariant-loop-open
invariant-loop-open l = least_conflict l.opens l.access l.share ≡ least_both l.least
    (least_conflict (drop l.open-index l.opens) l.access l.share)
