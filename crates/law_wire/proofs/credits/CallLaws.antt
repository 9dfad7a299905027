-- Over every list of calls each id is taken at most once.
use Rattle.std.proofs.Common.{◌≡◌, ℕ, zero, suc, ◌+◌, ◌≤◌, ◌<◌, ◌==◌, ◌||◌, not, cond, Bool, true, false, List, [], ◌∷◌}
use Rattle.std.proofs.Common.{◌++◌, Some, None, filter, ⊎_elim, refl, ap, sym, ◌∙◌, arith, eq-eqb, ne_eqb}
use Rattle.std.specs.Prelude.{Option as Perhaps}
use mathlib.Core.Logic.{dite}
use native.Mathlib.Decide.{ℕ_discrete}
use Rattle.std.proofs.lemmas.Bool.{cases_lt}
use Rattle.spec_wire.specs.credits.Ids.{counted, ids_from, holds, times, times_if, is_among, gap_if, outside}
use Rattle.spec_wire.specs.credits.Window.{HeldIds, first_window, after_take, granted, after_grant}
use Rattle.spec_wire.specs.credits.Calls.{Call, taking, granting, after_taking, ids_taken, all_taken, EachIdOnce}
use Rattle.law_wire.proofs.credits.Rows.{is_among-in}

times-append : (id : ℕ) (xs ys : List ℕ) → times id (xs ++ ys) ≡ times id xs + times id ys
times-append id [] ys = omega arith
times-append id (x ∷ xs) ys = let rest = times-append id xs ys in omega arith

times-apart : (id x : ℕ) (xs : List ℕ) → (x ≡ id → ⊥) → times id (x ∷ xs) ≡ times id xs
times-apart id x xs apart = let none : times_if (x == id) ≡ 0 = ap times_if (ne_eqb x id apart) in omega arith

times-here : (id : ℕ) (xs : List ℕ) → times id (id ∷ xs) ≡ 1 + times id xs
times-here id xs = ap (λ b. times_if b + times id xs) (eq-eqb id id refl)

times-below : (id first n : ℕ) → id < first → times id (ids_from first n) ≡ 0
times-below id first zero l = refl
times-below id first (suc n) l = times-apart id first (ids_from (first + 1) n) (λ e. omega arith)
    ∙ times-below id (first + 1) n (omega arith)

times-above : (id first n : ℕ) → first + n ≤ id → times id (ids_from first n) ≡ 0
times-above id first zero le = refl
times-above id first (suc n) le = times-apart id first (ids_from (first + 1) n) (λ e. omega arith)
    ∙ times-above id (first + 1) n (omega arith)

times-within : (id first n : ℕ) → first ≤ id → id < first + n → times id (ids_from first n) ≡ 1
times-within id first zero le l = absurd (omega arith)
times-within id first (suc n) le l = ⊎_elim
    (λ (later : first < id). times-apart id first (ids_from (first + 1) n) (λ e. omega arith)
    ∙ times-within id (first + 1) n (omega arith) (omega arith))
    (λ (here : id ≤ first). let e : id ≡ first = omega arith in let none = times-below id (first + 1) n (omega arith) in
    let one : times id (first ∷ ids_from (first + 1) n) ≡ 1 + times id (ids_from (first + 1) n) =
    ap (λ b. times_if b + times id (ids_from (first + 1) n)) (eq-eqb first id (sym e)) in omega arith)
    (cases_lt first id)

kept_times : (b : Bool) (id x : ℕ) (ys xs : List ℕ) → times id ys ≤ times id xs → times id (cond b (x ∷ ys) ys) ≤ times id (x ∷ xs)
kept_times true id x ys xs le = omega arith
kept_times false id x ys xs le = omega arith

times-filter : (p : ℕ → Bool) (id : ℕ) (xs : List ℕ) → times id (filter p xs) ≤ times id xs
times-filter p id [] = omega arith
times-filter p id (x ∷ xs) = kept_times (p x) id x (filter p xs) xs (times-filter p id xs)

-- an id that does not pass is not there
dropped_times : (p : ℕ → Bool) (b : Bool) (id x : ℕ) (ys : List ℕ) → p x ≡ b → p id ≡ false → times id ys ≡ 0
    → times id (cond b (x ∷ ys) ys) ≡ 0
dropped_times p true id x ys e fails z = times-apart id x ys (λ same. absurd (cc (e, fails, ap p same))) ∙ z
dropped_times p false id x ys e fails z = z

times-dropped : (p : ℕ → Bool) (id : ℕ) (xs : List ℕ) → p id ≡ false → times id (filter p xs) ≡ 0
times-dropped p id [] fails = refl
times-dropped p id (x ∷ xs) fails = dropped_times p (p x) id x (filter p xs) refl fails (times-dropped p id xs fails)

holds-times : (id : ℕ) (xs : List ℕ) → holds xs id ≡ true → 1 ≤ times id xs
holds-times id [] e = absurd (cc e)
holds-times id (x ∷ xs) e = dite (ℕ_discrete x id)
    (λ (h : (x ≡ id)). let one : times_if (x == id) ≡ 1 = ap times_if (eq-eqb x id h) in omega arith)
    (λ (h : (x ≡ id → ⊥)). let rest = holds-times id xs (sym (ap (λ b. b || holds xs id) (ne_eqb x id h)) ∙ e) in omega arith)

-- where nothing of a charge is outside, all of it is held
no_gap_holds : (b : Bool) (xs : List ℕ) (first n : ℕ) → holds xs first ≡ b → gap_if b first (outside xs (first + 1) n)
    ≡ None → (holds xs first ≡ true) × (outside xs (first + 1) n ≡ None)
no_gap_holds true xs first n e none = (e, none)
no_gap_holds false xs first n e none = absurd (cc none)

outside-holds : (xs : List ℕ) (first n id : ℕ) → outside xs first n ≡ None → first ≤ id → id < first + n → holds xs id ≡ true
outside-holds xs first zero id none le l = absurd (omega arith)
outside-holds xs first (suc n) id none le l =
    let h = no_gap_holds (holds xs first) xs first n refl none in ⊎_elim
    (λ (later : first < id). outside-holds xs (first + 1) n id h.1 (omega arith) (omega arith))
    (λ (here : id ≤ first). let e : first ≡ id = omega arith in sym (ap (holds xs) e) ∙ h.0)
    (cases_lt first id)

-- no id is held that was not added yet
abbrev AllAdded : HeldIds → Type 0
AllAdded w = (id : ℕ) → w.next ≤ id → times id w.held ≡ 0

-- an id that was added is taken no more often than it is held, and one that will be at most once
abbrev IsTakenOnce : List ℕ → HeldIds → ℕ → Type 0
IsTakenOnce taken w id = (id < w.next → times id taken ≤ times id w.held) × (w.next ≤ id → times id taken ≤ 1)

after_taking_once : (first charge id : ℕ) (w : HeldIds) (cs : List Call) → AllAdded w
    → ((v : HeldIds) → AllAdded v → IsTakenOnce (all_taken cs v) v id)
    → (o : Perhaps ℕ) → outside w.held first (counted charge) ≡ o
    → IsTakenOnce (ids_taken o first charge ++ all_taken cs (after_taking o first charge w)) w id
after_taking_once first charge id w cs added further (Some x) e = further w added
after_taking_once first charge id w cs added further None e =
    let n : ℕ = counted charge in
    let p : ℕ → Bool = λ i. not (is_among first n i) in
    let v : HeldIds = after_take first charge w in
    let fewer : (i : ℕ) → times i v.held ≤ times i w.held = λ i. times-filter p i w.held in
    let rest = further v (λ i le. let z = added i le in let f = fewer i in omega arith) in
    let both = times-append id (ids_from first n) (all_taken cs v) in
    let f = fewer id in ⊎_elim
    (λ (below : id < first). let z = times-below id first n below in (
      λ l. let r = rest.0 l in omega arith,
      λ le.
          let r = rest.1 le in omega arith,
    ))
    (λ (from : first ≤ id). ⊎_elim
    (λ (within : id < first + n). let one = times-within id first n from within in
    let held = holds-times id w.held (outside-holds w.held first n id e from within) in
    let gone : times id v.held ≡ 0 = times-dropped p id w.held (ap not (is_among-in first n id from within)) in
    (λ l. let r = rest.0 l in omega arith, λ le. let z = added id le in absurd (omega arith)))
    (λ (above : first + n ≤ id). let z = times-above id first n above in (
      λ l. let r = rest.0 l in omega arith,
      λ le.
          let r = rest.1 le in omega arith,
    ))
    (cases_lt id (first + n)))
    (cases_lt id first)

taken_once : (cs : List Call) (w : HeldIds) (id : ℕ) → AllAdded w → IsTakenOnce (all_taken cs w) w id
taken_once [] w id added = (λ l. omega arith, λ le. omega arith)
taken_once (taking first charge ∷ cs) w id added =
    after_taking_once first charge id w cs added (λ v a. taken_once cs v id a) (outside w.held first (counted charge)) refl
taken_once (granting asked ∷ cs) w id added =
    let g : ℕ = granted asked w in
    let v : HeldIds = after_grant asked w in
    let more : (i : ℕ) → times i v.held ≡ times i w.held + times i (ids_from w.next g) = λ i. times-append i w.held (ids_from w.next g) in
    let rest = taken_once cs v id (λ i le. let z = added i (omega arith) in let none = times-above i w.next g le in
    let m = more i in omega arith) in
    let m = more id in (
      (λ l. let r = rest.0 (omega arith) in let none = times-below id w.next g l in omega arith),
      (λ le. let z = added id le in ⊎_elim
          (λ (within : id < w.next + g). let r = rest.0 within in let one = times-within id w.next g le within in omega arith)
          (λ (above : w.next + g ≤ id). rest.1 above)
          (cases_lt id (w.next + g))),
    )

first_added : AllAdded first_window
first_added id le = times-apart id 0 [] (λ e. omega arith)

pub each_id_once : EachIdOnce
each_id_once calls id =
    let once = taken_once calls first_window id first_added in ⊎_elim
    (λ (first : id < 1). let r = once.0 first in let e : 0 ≡ id = omega arith in let one : times id (0 ∷ [])
    ≡ 1 = ap (λ b. times_if b + 0) (eq-eqb 0 id e) in omega arith)
    (λ (later : 1 ≤ id). once.1 later)
    (cases_lt id 1)
