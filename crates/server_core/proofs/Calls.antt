-- Calls of a journal one behind the other.
use Rattle.std.proofs.Common.{inl, inr, ⊎_elim, ℕ, List, refl, ◌∙◌, arith}
use Rattle.spec_wire.specs.journal.Moments.{LeavesOnly, Quiet}

-- ---- runs of calls that only read

module _ {D : Type 0} (told : Type 0) (seen : D → List ℕ) (may_leave : D → List ℕ → Type 0) (moment : D → ℕ)
    (left_since : D → ℕ → List ℕ → Type 0) where
  pub quiet_begun : ((d : D) (c : List ℕ) → left_since d (moment d) c → may_leave d c) → (d : D)
      → Quiet told seen may_leave moment left_since d d
  quiet_begun only_now d = record {
    same = λ yes. refl;
    no_more = λ c now. now;
    any_moment = record { later = omega arith; each = only_now d; before = λ t c le left. inl left };
  }

  one_behind : (old mid new : D) → Quiet told seen may_leave moment left_since old mid
      → Quiet told seen may_leave moment left_since mid new → LeavesOnly moment left_since old new (may_leave old)
  one_behind old mid new first second = record {
    later = omega (arith, first.any_moment.later, second.any_moment.later);
    each = λ c left. ⊎_elim (first.any_moment.each c) (λ here. first.no_more c here)
        (second.any_moment.before (moment old) c first.any_moment.later left);
    before = λ t c le left. ⊎_elim (first.any_moment.before t c le) (λ here. inr (first.no_more c here))
        (second.any_moment.before t c (omega (arith, le, first.any_moment.later)) left);
  }

  pub quiet_behind : (old mid new : D) → Quiet told seen may_leave moment left_since old mid
      → Quiet told seen may_leave moment left_since mid new → Quiet told seen may_leave moment left_since old new
  quiet_behind old mid new first second = record {
    same = λ yes. second.same yes ∙ first.same yes;
    no_more = λ c now. first.no_more c (second.no_more c now);
    any_moment = one_behind old mid new first second;
  }
