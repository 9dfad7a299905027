-- Histories that grow by one entry.
use Rattle.std.proofs.Common.{◌≡◌, ◌≢◌, ℕ, suc, ◌+◌, ◌==◌, List, [], ◌∷◌, ◌++◌, length, refl, ap, sym, ◌∙◌, subst}
use Rattle.std.proofs.Common.{arith, append_assoc, append-nil, eq-eqb, ne_eqb, Some, Bool, true, false, zero}
use Rattle.std.specs.Prelude.{slice_get}
use mathlib.Core.List.{IsPrefix}
use Rattle.serve_turns.specs.declared.shared_book.view.Entry.{Entry}
use Rattle.serve_turns.specs.shared_book.Histories.{Replays, entry_if, entries_of, AllPrefix}

pub IsPrefix-self : {A : Type 0} (xs : List A) → IsPrefix xs xs
IsPrefix-self [] = ([], refl)
IsPrefix-self (x ∷ xs) =
    let rest = IsPrefix-self xs in (rest.0, ap (λ ys. x ∷ ys) (IsPrefix-self xs).1)

pub IsPrefix-append : {A : Type 0} (xs ys zs : List A) → IsPrefix xs ys → IsPrefix xs (ys ++ zs)
IsPrefix-append xs ys zs p = (p.0 ++ zs, sym (append_assoc xs p.0 zs) ∙ ap (λ w. w ++ zs) p.1)

module _ {E R : Type 0} where
  pub AllPrefix-append : (hs : List (List (Entry E R))) (ys zs : List (Entry E R)) → AllPrefix hs ys → AllPrefix hs (ys ++ zs)
  AllPrefix-append [] ys zs all = tt
  AllPrefix-append (h ∷ hs) ys zs all =
      (IsPrefix-append h ys zs all.0, AllPrefix-append hs ys zs all.1)

  pub AllPrefix-both : (hs ks : List (List (Entry E R))) (ys : List (Entry E R)) → AllPrefix hs ys → AllPrefix ks ys
      → AllPrefix (hs ++ ks) ys
  AllPrefix-both [] ks ys first second = second
  AllPrefix-both (h ∷ hs) ks ys first second = (first.0, AllPrefix-both hs ks ys first.1 second)

  -- the entries of two pieces, the second further on
  pub entries_of-append : (n k : ℕ) (xs ys : List (Entry E R)) → entries_of n k (xs ++ ys) ≡ entries_of n k xs
      ++ entries_of n (k + length xs) ys
  entries_of-append n k [] ys = ap (λ j. entries_of n j ys) (omega arith)
  entries_of-append n k (x ∷ xs) ys =
      let along : (k + 1) + length xs ≡ k + suc (length xs) = omega arith in
      let mine : List (ℕ × Entry E R) = entry_if (x.seat == n) k x in
      ap (λ w. mine ++ w) (entries_of-append n (k + 1) xs ys ∙ ap (λ j. entries_of n (k + 1) xs ++ entries_of n j ys) along)
      ∙ sym (append_assoc mine (entries_of n (k + 1) xs) (entries_of n (k + suc (length xs)) ys))

  -- an entry of another number adds none
  pub entries_of-other : (n : ℕ) (xs : List (Entry E R)) (e : Entry E R) → e.seat ≢ n → entries_of n 0 (xs ++ e ∷ []) ≡ entries_of n 0 xs
  entries_of-other n xs e other =
      entries_of-append n 0 xs (e ∷ [])
      ∙ ap (λ b. entries_of n 0 xs ++ (entry_if b (0 + length xs) e ++ [])) (ne_eqb e.seat n other)
      ∙ append-nil (entries_of n 0 xs)

  -- an entry of the number stands last, at the place behind the others
  pub entries_of-mine : (n : ℕ) (xs : List (Entry E R)) (e : Entry E R) → e.seat ≡ n → entries_of n 0 (xs ++ e ∷ [])
      ≡ entries_of n 0 xs ++ (length xs, e) ∷ []
  entries_of-mine n xs e mine =
      let place : 0 + length xs ≡ length xs = omega arith in
      entries_of-append n 0 xs (e ∷ [])
      ∙ ap (λ b. entries_of n 0 xs ++ (entry_if b (0 + length xs) e ++ [])) (eq-eqb e.seat n mine)
      ∙ ap (λ (j : ℕ). entries_of n 0 xs ++ (j, e) ∷ []) place

  -- a history that has an entry of the number has entries of it
  pub entry_there : (n k : ℕ) (log : List (Entry E R)) (place : ℕ) (e : Entry E R) → slice_get log place ≡ Some e → e.seat ≡ n
      → entries_of n k log ≡ [] → ⊥
  entry_there n k [] place e here is none = absurd (cc here)
  entry_there n k (x ∷ xs) zero e here is none =
      let same : x ≡ e = one_entry x e here in
      let mine : (x.seat == n) ≡ true = eq-eqb x.seat n (ap (λ (y : Entry E R). y.seat) same ∙ is) in
      not_empty (k, x) (entries_of n (k + 1) xs) (sym (ap (λ b. entry_if b k x ++ entries_of n (k + 1) xs) mine) ∙ none)
    where
      one_entry : (x y : Entry E R) → Some x ≡ Some y → x ≡ y
      one_entry x y q = cc

      not_empty : (y : ℕ × Entry E R) (ys : List (ℕ × Entry E R)) → y ∷ ys ≡ [] → ⊥
      not_empty y ys q = absurd (cc q)
  entry_there n k (x ∷ xs) (suc place) e here is none =
      entry_there n (k + 1) xs place e here is (rest (x.seat == n) (entries_of n (k + 1) xs) none)
    where
      rest : (b : Bool) (ys : List (ℕ × Entry E R)) → entry_if b k x ++ ys ≡ [] → ys ≡ []
      rest true ys q = absurd (cc q)
      rest false ys q = q

module _ {B E R : Type 0} (steps : B → E → R → B → Type 0) where
  pub Replays-append : (from mid to : B) (es : List (Entry E R)) (e : Entry E R) → Replays steps from es mid
      → steps mid e.event e.reply to → Replays steps from (es ++ e ∷ []) to
  Replays-append from mid to [] e before one =
      (to, subst (λ z. steps z e.event e.reply to) (sym before) one, refl)
  Replays-append from mid to (x ∷ es) e before one =
      (before.0, before.1, Replays-append before.0 mid to es e before.2 one)

  -- a front of a history leads somewhere
  pub Replays-front : (from to : B) (xs ys : List (Entry E R)) → Replays steps from (xs ++ ys) to → (mid : B) × Replays steps from xs mid
  Replays-front from to [] ys all = (from, refl)
  Replays-front from to (x ∷ xs) ys all =
      let rest = Replays-front all.0 to xs ys all.2 in (rest.0, (all.0, all.1, rest.1))
