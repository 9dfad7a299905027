-- What each place of a history that runs found and was given.
use Rattle.std.proofs.Common.{◌≡◌, ℕ, zero, suc, ◌+◌, ◌==◌, Bool, true, false, List, [], ◌∷◌, ◌++◌, length, get_or, Option, None, Some}
use Rattle.std.proofs.Common.{slice_get, refl, sym, ap, subst, ◌∙◌, arith}
use Rattle.spec_world.specs.Given.{Given}
use Rattle.spec_world.specs.Settings.{ServerSettings}
use Rattle.serve_turns.specs.declared.event_book.turn.Answer.{Answer}
use Rattle.serve_turns.specs.declared.event_book.turn.Turn.{Turn}
use Rattle.serve_turns.specs.declared.shared_book.view.Entry.{Entry}
use Rattle.serve_turns.specs.event_book.History.{AllMeet, Course, Meets, MeetsAt, Placed, Runs, RunsBy, Standing}
use Rattle.serve_turns.specs.shared_book.Histories.{entries_of, entry_if}

module _ (z : ServerSettings) where
  -- what a place found
  unfoldable pub found_by : (from : Standing) (log : List (Entry Turn Answer)) (all : List (Option Given)) (to : Standing) → Runs z from log all to
      → ℕ → Standing
  unfolding Runs
  found_by from [] [] to runs i = from
  found_by from [] (g ∷ gs) to runs i = absurd runs
  found_by from (e ∷ es) [] to runs i = absurd runs
  found_by from (e ∷ es) (g ∷ gs) to runs zero = from
  found_by from (e ∷ es) (g ∷ gs) to runs (suc i) = found_by runs.0 es gs to runs.2 i

  unfoldable pub course_of : (from : Standing) (log : List (Entry Turn Answer)) (all : List (Option Given)) (to : Standing) → Runs z from log all to
      → Course
  course_of from log all to runs = record { found = found_by from log all to runs; given = λ i. get_or all i None }

  found_first : (from : Standing) (log : List (Entry Turn Answer)) (all : List (Option Given)) (to : Standing)
      (runs : Runs z from log all to) → found_by from log all to runs 0 ≡ from
  unfolding Runs found_by
  found_first from [] [] to runs = refl
  found_first from [] (g ∷ gs) to runs = absurd runs
  found_first from (e ∷ es) [] to runs = absurd runs
  found_first from (e ∷ es) (g ∷ gs) to runs = refl

  pub meet_on : (h : Course) (xs ys : List Placed) → AllMeet z h xs → AllMeet z h ys → AllMeet z h (xs ++ ys)
  meet_on h [] ys m n = n
  meet_on h (x ∷ xs) ys m n = (m.0, meet_on h xs ys m.1 n)

  one_meets : (h : Course) (b : Bool) (place : ℕ) (e : Entry Turn Answer)
      → Meets z (h.found place) e (h.given place) (h.found (place + 1)) → AllMeet z h (entry_if b place e)
  one_meets h true place e m = (m, tt)
  one_meets h false place e m = tt

  -- a course that is that of a history from a place on
  pub record Follows (h : Course) (place : ℕ) (from : Standing) (log : List (Entry Turn Answer)) (all : List (Option Given)) (to : Standing)
      (runs : Runs z from log all to) : Type 0 where
    pub found : (i : ℕ) → h.found (place + i) ≡ found_by from log all to runs i
    pub given : (i : ℕ) → h.given (place + i) ≡ get_or all i None

  pub entries_meet : (h : Course) (seat place : ℕ) (from : Standing) (log : List (Entry Turn Answer)) (all : List (Option Given))
      (to : Standing) (runs : Runs z from log all to) → Follows h place from log all to runs → AllMeet z h (entries_of seat place log)
  unfolding Runs found_by
  entries_meet h seat place from [] [] to runs follows = tt
  entries_meet h seat place from [] (g ∷ gs) to runs follows = absurd runs
  entries_meet h seat place from (e ∷ es) [] to runs follows = absurd runs
  entries_meet h seat place from (e ∷ es) (g ∷ gs) to runs follows =
      let here : place + 0 ≡ place = omega arith in
      let found : h.found place ≡ from = sym (ap h.found here) ∙ follows.found 0 in
      let given : h.given place ≡ g = sym (ap h.given here) ∙ follows.given 0 in
      let next : h.found (place + 1) ≡ runs.0 = follows.found 1 ∙ found_first runs.0 es gs to runs.2 in
      let rest : Follows h (place + 1) runs.0 es gs to runs.2 = record {
        found = λ i. ap h.found (let s : (place + 1) + i ≡ place + suc i = omega arith in s) ∙ follows.found (suc i);
        given = λ i. ap h.given (let s : (place + 1) + i ≡ place + suc i = omega arith in s) ∙ follows.given (suc i);
      } in
      meet_on h (entry_if (e.seat == seat) place e) (entries_of seat (place + 1) es)
      (one_meets h (e.seat == seat) place e
      (subst (λ (s : Standing). Meets z s e (h.given place) (h.found (place + 1))) (sym found)
      (subst (λ (o : Option Given). Meets z from e o (h.found (place + 1))) (sym given)
      (subst (λ (s : Standing). Meets z from e g s) (sym next) runs.1))))
      (entries_meet h seat (place + 1) runs.0 es gs to runs.2 rest)

  -- the course of a history is its own from the first place on
  from_first : (from : Standing) (log : List (Entry Turn Answer)) (all : List (Option Given)) (to : Standing)
      (runs : Runs z from log all to) → Follows (course_of from log all to runs) 0 from log all to runs
  unfolding course_of
  from_first from log all to runs = record {
    found = λ i. ap (λ (n : ℕ). found_by from log all to runs n) (let s : 0 + i ≡ i = omega arith in s);
    given = λ i. ap (λ (n : ℕ). get_or all n None) (let s : 0 + i ≡ i = omega arith in s);
  }

  -- each seat's own entries meet what their places found
  pub own_meet : (seat : ℕ) (from : Standing) (log : List (Entry Turn Answer)) (all : List (Option Given)) (to : Standing)
      (runs : Runs z from log all to) → AllMeet z (course_of from log all to runs) (entries_of seat 0 log)
  unfolding course_of
  own_meet seat from log all to runs =
      entries_meet (course_of from log all to runs) seat 0 from log all to runs (from_first from log all to runs)

  -- ---- each entry of the whole history

  entry_of : Entry Turn Answer → Option (Entry Turn Answer) → Entry Turn Answer
  entry_of d None = d
  entry_of d (Some e) = e

  one_entry : (e u : Entry Turn Answer) → Some e ≡ Some u → e ≡ u
  unfolding entry_of
  one_entry e u is = ap (λ (o : Option (Entry Turn Answer)). entry_of e o) is

  runs_meet : (h : Course) (place : ℕ) (from : Standing) (log : List (Entry Turn Answer)) (all : List (Option Given)) (to : Standing)
      (runs : Runs z from log all to) → Follows h place from log all to runs → (i : ℕ) (e : Entry Turn Answer) → slice_get log i ≡ Some e
      → MeetsAt z h (place + i, e)
  unfolding Runs found_by
  runs_meet h place from [] all to runs follows zero u here = absurd cc
  runs_meet h place from [] all to runs follows (suc i) u here = absurd cc
  runs_meet h place from (e ∷ es) [] to runs follows i u here = absurd runs
  runs_meet h place from (e ∷ es) (g ∷ gs) to runs follows zero u here =
      let same : e ≡ u = one_entry e u here in
      let next : h.found ((place + 0) + 1) ≡ runs.0 =
      ap h.found (let s : (place + 0) + 1 ≡ place + 1 = omega arith in s) ∙ (follows.found 1 ∙ found_first runs.0 es gs to runs.2) in
      subst (λ (v : Entry Turn Answer). Meets z (h.found (place + 0)) v (h.given (place + 0)) (h.found ((place + 0) + 1))) same
      (subst (λ (s : Standing). Meets z s e (h.given (place + 0)) (h.found ((place + 0) + 1))) (sym (follows.found 0))
      (subst (λ (o : Option Given). Meets z from e o (h.found ((place + 0) + 1))) (sym (follows.given 0))
      (subst (λ (s : Standing). Meets z from e g s) (sym next) runs.1)))
  runs_meet h place from (e ∷ es) (g ∷ gs) to runs follows (suc i) u here =
      let rest : Follows h (place + 1) runs.0 es gs to runs.2 = record {
        found = λ j. ap h.found (let s : (place + 1) + j ≡ place + suc j = omega arith in s) ∙ follows.found (suc j);
        given = λ j. ap h.given (let s : (place + 1) + j ≡ place + suc j = omega arith in s) ∙ follows.given (suc j);
      } in
      subst (λ (n : ℕ). MeetsAt z h (n, u)) (let s : (place + 1) + i ≡ place + suc i = omega arith in s)
      (runs_meet h (place + 1) runs.0 es gs to runs.2 rest i u here)

  found_last : (from : Standing) (log : List (Entry Turn Answer)) (all : List (Option Given)) (to : Standing)
      (runs : Runs z from log all to) → found_by from log all to runs (length log) ≡ to
  unfolding Runs found_by
  found_last from [] [] to runs = runs
  found_last from [] (g ∷ gs) to runs = absurd runs
  found_last from (e ∷ es) [] to runs = absurd runs
  found_last from (e ∷ es) (g ∷ gs) to runs = found_last runs.0 es gs to runs.2

  pub runs_by : (from : Standing) (log : List (Entry Turn Answer)) (all : List (Option Given)) (to : Standing)
      (runs : Runs z from log all to) → RunsBy z from log (course_of from log all to runs) to
  unfolding course_of
  runs_by from log all to runs = record {
    begins = found_first from log all to runs;
    meets = λ i e here.
        subst (λ (n : ℕ). MeetsAt z (course_of from log all to runs) (n, e)) (let s : 0 + i ≡ i = omega arith in s)
        (runs_meet (course_of from log all to runs) 0 from log all to runs (from_first from log all to runs) i e here);
    ends = found_last from log all to runs;
  }
