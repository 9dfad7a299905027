-- How often an id stands in a list of ids.
use Rattle.std.proofs.Common.{◌≡◌, ℕ, zero, suc, ◌+◌, ◌≤◌, ◌<◌, ◌==◌, ◌||◌, cond, Bool, true, false, List, [], ◌∷◌}
use Rattle.std.proofs.Common.{◌++◌, None, filter, ⊎_elim, refl, ap, sym, ◌∙◌, arith, eq-eqb, ne_eqb}
use mathlib.Core.Logic.{dite}
use native.Mathlib.Decide.{ℕ_discrete}
use Rattle.std.proofs.lemmas.Bool.{cases_lt}
use Rattle.spec_wire.specs.credits.Ids.{ids_from, holds, times, times_if, gap_if, outside}
use Rattle.spec_wire.specs.credits.Window.{HeldIds, first_window}

pub times-append : (id : ℕ) (xs ys : List ℕ) → times id (xs ++ ys) ≡ times id xs + times id ys
times-append id [] ys = omega arith
times-append id (x ∷ xs) ys = let rest = times-append id xs ys in omega arith

pub times-apart : (id x : ℕ) (xs : List ℕ) → (x ≡ id → ⊥) → times id (x ∷ xs) ≡ times id xs
times-apart id x xs apart = let none : times_if (x == id) ≡ 0 = ap times_if (ne_eqb x id apart) in omega arith

pub times-here : (id : ℕ) (xs : List ℕ) → times id (id ∷ xs) ≡ 1 + times id xs
times-here id xs = ap (λ b. times_if b + times id xs) (eq-eqb id id refl)

pub times-below : (id first n : ℕ) → id < first → times id (ids_from first n) ≡ 0
times-below id first zero l = refl
times-below id first (suc n) l = times-apart id first (ids_from (first + 1) n) (λ e. omega arith)
    ∙ times-below id (first + 1) n (omega arith)

pub times-above : (id first n : ℕ) → first + n ≤ id → times id (ids_from first n) ≡ 0
times-above id first zero le = refl
times-above id first (suc n) le = times-apart id first (ids_from (first + 1) n) (λ e. omega arith)
    ∙ times-above id (first + 1) n (omega arith)

pub times-within : (id first n : ℕ) → first ≤ id → id < first + n → times id (ids_from first n) ≡ 1
times-within id first zero le l = absurd (omega arith)
times-within id first (suc n) le l = ⊎_elim
    (λ (later : first < id). times-apart id first (ids_from (first + 1) n) (λ e. omega arith)
    ∙ times-within id (first + 1) n (omega arith) (omega arith))
    (λ (here : id ≤ first). let e : id ≡ first = omega arith in let none = times-below id (first + 1) n (omega arith) in
    let one : times id (first ∷ ids_from (first + 1) n) ≡ 1 + times id (ids_from (first + 1) n) =
    ap (λ b. times_if b + times id (ids_from (first + 1) n)) (eq-eqb first id (sym e)) in omega arith)
    (cases_lt first id)

kept_times : (b : Bool) (id x : ℕ) (ys xs : List ℕ) → times id ys ≤ times id xs → times id (cond b (x ∷ ys) ys) ≤ times id (x ∷ xs)
kept_times true id x ys xs le = omega arith
kept_times false id x ys xs le = omega arith

pub times-filter : (p : ℕ → Bool) (id : ℕ) (xs : List ℕ) → times id (filter p xs) ≤ times id xs
times-filter p id [] = omega arith
times-filter p id (x ∷ xs) = kept_times (p x) id x (filter p xs) xs (times-filter p id xs)

-- an id that does not pass is not there
dropped_times : (p : ℕ → Bool) (b : Bool) (id x : ℕ) (ys : List ℕ) → p x ≡ b → p id ≡ false → times id ys ≡ 0
    → times id (cond b (x ∷ ys) ys) ≡ 0
dropped_times p true id x ys e fails z = times-apart id x ys (λ same. absurd (cc (e, fails, ap p same))) ∙ z
dropped_times p false id x ys e fails z = z

pub times-dropped : (p : ℕ → Bool) (id : ℕ) (xs : List ℕ) → p id ≡ false → times id (filter p xs) ≡ 0
times-dropped p id [] fails = refl
times-dropped p id (x ∷ xs) fails = dropped_times p (p x) id x (filter p xs) refl fails (times-dropped p id xs fails)

pub holds-times : (id : ℕ) (xs : List ℕ) → holds xs id ≡ true → 1 ≤ times id xs
holds-times id [] e = absurd (cc e)
holds-times id (x ∷ xs) e = dite (ℕ_discrete x id)
    (λ (h : (x ≡ id)). let one : times_if (x == id) ≡ 1 = ap times_if (eq-eqb x id h) in omega arith)
    (λ (h : (x ≡ id → ⊥)). let rest = holds-times id xs (sym (ap (λ b. b || holds xs id) (ne_eqb x id h)) ∙ e) in omega arith)

-- where nothing of a charge is outside, all of it is held
no_gap_holds : (b : Bool) (xs : List ℕ) (first n : ℕ) → holds xs first ≡ b → gap_if b first (outside xs (first + 1) n)
    ≡ None → (holds xs first ≡ true) × (outside xs (first + 1) n ≡ None)
no_gap_holds true xs first n e none = (e, none)
no_gap_holds false xs first n e none = absurd (cc none)

pub outside-holds : (xs : List ℕ) (first n id : ℕ) → outside xs first n ≡ None → first ≤ id → id < first + n → holds xs id ≡ true
outside-holds xs first zero id none le l = absurd (omega arith)
outside-holds xs first (suc n) id none le l =
    let h = no_gap_holds (holds xs first) xs first n refl none in ⊎_elim
    (λ (later : first < id). outside-holds xs (first + 1) n id h.1 (omega arith) (omega arith))
    (λ (here : id ≤ first). let e : first ≡ id = omega arith in sym (ap (holds xs) e) ∙ h.0)
    (cases_lt first id)

-- no id is held that was not added yet
abbrev pub AllAdded : HeldIds → Type 0
AllAdded w = (id : ℕ) → w.next ≤ id → times id w.held ≡ 0

pub first_added : AllAdded first_window
first_added id le = times-apart id 0 [] (λ e. omega arith)
