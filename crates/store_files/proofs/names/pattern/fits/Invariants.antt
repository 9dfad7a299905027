use Rattle.store_files.specs.names.Walks.{IsUnderWay, turns}
use Rattle.store_files.proofs.names.pattern.fits.Given as goal

abbrev pub invariant-loop-walk : goal.invariant-loop-walk
invariant-loop-walk l = IsUnderWay l.pattern l.name l.walk.i l.walk.j l.walk.behind l.walk.from

abbrev pub decreases-loop-walk : goal.decreases-loop-walk
decreases-loop-walk l = turns l.pattern l.name l.walk.i l.walk.from
