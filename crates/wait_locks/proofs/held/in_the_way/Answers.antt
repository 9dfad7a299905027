use Rattle.std.proofs.Common.{◌≤◌, ◌<◌, ap, subst, sym, ◌∙◌}
use Rattle.std.specs.Prelude.{option_map}
use Rattle.store_opens.specs.share_modes.Locking.{range_of}
use Rattle.wait_locks.proofs.InTheWay.{many, passing, wrapping}
use Rattle.wait_locks.proofs.held.in_the_way.Goals as goal

pub returns-then-count_owned-ge1024 : goal.returns-then-count_owned-ge1024
returns-then-count_owned-ge1024 c =
    sym (many c.args.standing.now c.args.wanted.now (subst (λ n. 1024 ≤ n) c.count_owned.ensures c.if-count_owned-ge1024.true))

pub returns-then-wraps : goal.returns-then-wraps
returns-then-wraps c = sym (wrapping c.args.standing.now c.args.wanted.now c.if-wraps.ensures)

pub returns : goal.returns
returns c =
    ap (option_map range_of) c.first_conflict.ensures
    ∙ passing c.args.standing.now c.args.wanted.now (subst (λ n. n < 1024) c.count_owned.ensures c.if-count_owned-ge1024.false) c.if-wraps.ensures
