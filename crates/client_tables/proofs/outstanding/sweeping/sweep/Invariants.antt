use Rattle.std.proofs.Common.{◌≡◌, ℕ, ◌<◌, ◌≤◌, true, length}
use Rattle.base_lists.specs.number_set.Members.{MembersFit, count, has, member, size}
use Rattle.client_rows.specs.operation_rows.Rows.{is_out}
use Rattle.client_tables.proofs.outstanding.sweeping.sweep.Given as goal

abbrev pub invariant-loop-place : goal.invariant-loop-place
invariant-loop-place l =
    record {
      fits : MembersFit l.out;
      sized : size l.out ≡ length l.rows;
      more : (g : ℕ) → g < length l.rows → is_out l.rows g ≡ true → has l.out g ≡ true;
      least : l.place ≤ count l.out;
      swept : (i : ℕ) → l.place ≤ i → i < count l.out → is_out l.rows (member l.out i) ≡ true;
    }

abbrev pub decreases-loop-place : goal.decreases-loop-place
decreases-loop-place l = l.place
