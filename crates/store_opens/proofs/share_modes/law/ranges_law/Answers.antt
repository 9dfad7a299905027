use Rattle.std.proofs.Common.{◌≡◌, ℕ, Bool, true, false, not, ◌&&◌, ◌||◌, if◌then◌else◌, List, [], ◌∷◌, map, is_some, refl, ◌==◌}
use Rattle.std.specs.Prelude.{Option, Some}
use Rattle.spec_exchange.specs.Content.{meets}
use Rattle.spec_exchange.specs.Ranges as model
use Rattle.store_opens.specs.declared.share_modes.lists.Range.{Range}
use Rattle.store_opens.specs.share_modes.Locking.{range_of, read_conflict, write_conflict}
use Rattle.store_opens.proofs.share_modes.Agreed.{locks_agree, unlocks_agree}
use Rattle.store_opens.proofs.share_modes.law.ranges_law.Goals as goal

one_more : (b : Bool) (r : Range) (o : Option Range) (rest : Bool) → rest ≡ not (is_some o)
    → (not b && rest) ≡ not (is_some (if b then Some r else o))
one_more true r o rest e = refl
one_more false r o rest e = e

reads_agree : (rs : List Range) (o at n : ℕ) → model.may_read (map range_of rs) o at n ≡ not (is_some (read_conflict rs o at n))
unfolding model.may_read
reads_agree [] o at n = refl
reads_agree (r ∷ rs) o at n = one_more (meets r.at r.length at n && (r.exclusive && not (r.owner == o))) r (read_conflict rs o at n)
    (model.may_read (map range_of rs) o at n) (reads_agree rs o at n)

writes_agree : (rs : List Range) (o at n : ℕ) → model.may_write (map range_of rs) o at n ≡ not (is_some (write_conflict rs o at n))
unfolding model.may_write
writes_agree [] o at n = refl
writes_agree (r ∷ rs) o at n = one_more (meets r.at r.length at n && (not (r.owner == o) || not r.exclusive)) r (write_conflict rs o at n)
    (model.may_write (map range_of rs) o at n) (writes_agree rs o at n)

pub returns-clause-reads : goal.returns-clause-reads
returns-clause-reads c = reads_agree

pub returns-clause-writes : goal.returns-clause-writes
returns-clause-writes c = writes_agree

pub returns-clause-locks : goal.returns-clause-locks
returns-clause-locks c = locks_agree

pub returns-clause-unlocks : goal.returns-clause-unlocks
returns-clause-unlocks c = unlocks_agree
