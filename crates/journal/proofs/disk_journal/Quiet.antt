-- Runs of calls that only read or sync.
use Rattle.std.proofs.Common.{◌≡◌, ℕ, List, refl, ◌∙◌}
use Rattle.base_outside.specs.streams.Disk.{Elapses}
use Rattle.spec_wire.specs.journal.Moments.{Quiet}
use Rattle.journal.proofs.disk_journal.Moments.{started, goes_on, joined, weakened}

module _ {D : Type 0} (told : Type 0) (seen : D → List ℕ) (may_leave : D → List ℕ → Type 0) (moment : D → ℕ)
    (left_since : D → ℕ → List ℕ → Type 0) where
  pub quiet_start : (only_now : (d : D) (c : List ℕ) → left_since d (moment d) c → may_leave d c) (d : D)
      → Quiet told seen may_leave moment left_since d d
  quiet_start only_now d = record {
    same = λ yes. refl;
    no_more = λ c now. now;
    any_moment = started moment left_since d (may_leave d) (only_now d);
  }

  -- one call more
  pub quiet_more : (old mid new : D) → Quiet told seen may_leave moment left_since old mid
      → (told → seen new ≡ seen mid) → ((c : List ℕ) → may_leave new c → may_leave mid c)
      → Elapses (moment mid) (moment new) (left_since mid) (left_since new) (may_leave new) → Quiet told seen may_leave
      moment left_since old new
  quiet_more old mid new so_far same no_more time = record {
    same = λ yes. same yes ∙ so_far.same yes;
    no_more = λ c now. so_far.no_more c (no_more c now);
    any_moment = goes_on moment left_since old mid new (may_leave old) (may_leave new) so_far.any_moment time
        (λ c now. so_far.no_more c (no_more c now));
  }

  -- two runs in a row
  pub quiet_joined : (old mid new : D) → Quiet told seen may_leave moment left_since old mid → Quiet told seen may_leave
      moment left_since mid new → Quiet told seen may_leave moment left_since old new
  quiet_joined old mid new first second = record {
    same = λ yes. second.same yes ∙ first.same yes;
    no_more = λ c now. first.no_more c (second.no_more c now);
    any_moment = joined moment left_since old mid new (may_leave old) first.any_moment
        (weakened moment left_since mid new (may_leave mid) (may_leave old) first.no_more second.any_moment);
  }
