-- One operation more of an open, and the way up to it.
use Rattle.std.proofs.Common.{◌≡◌, ℕ, ◌+◌, ◌<◌, ◌≤◌, true, false, List, [], ◌∷◌, ◌++◌, length, get_or, set}
use Rattle.std.proofs.Common.{ap, sym, ◌∙◌, subst, arith, ◌⊎◌, inl, inr}
use Rattle.std.proofs.lemmas.List.{get_or-set_same, get_or-set_other, get_or_append_left, get_or_push, length-set, length_push}
use Rattle.client_rows.specs.declared.operation_rows.row.Row.{Row}
use Rattle.client_rows.specs.operation_rows.Rows.{owner}
use Rattle.client_rows.proofs.operation_rows.Adding.{at_new, at_old, length_more}
use Rattle.client_rows.specs.open_marks.Marks.{IsHighest}
use Rattle.client_steps.specs.unsent.Ascending.{Ascends}

ways : (x y : ℕ) → (x ≡ y) ⊎ (x ≡ y → ⊥)
ways x y = grind arith

three : (x y : ℕ) → (x < y) ⊎ ((x ≡ y) ⊎ (y < x))
three x y = grind arith

below_apart : (x y : ℕ) → x < y → x ≡ y → ⊥
below_apart x y l e = omega arith

clash : true ≡ false → ⊥
clash e = absurd (cc)

not_more : (x n : ℕ) → x < n + 1 → (x ≡ n → ⊥) → x < n
not_more x n l h = grind arith

through : (g h n : ℕ) → g < h → h < n + 1 → g < n
through g h n a b = omega arith

-- by what is read of the new list, of n numbers and one more
module _ (rows : List Row) (row : Row) (later new : List ℕ) (last : ℕ) (a : Ascends rows later)
    (i : IsHighest (owner rows) (λ h. true) row.create (length rows) last) (counted : length new ≡ length rows + 1)
    (at_end : get_or new (length rows) 0 ≡ 0)
    (at_last : 0 < last → get_or new last 0 ≡ length rows)
    (elsewhere : (g : ℕ) → g < length rows → (g ≡ last → ⊥) → get_or new g 0 ≡ get_or later g 0) where
  old_owner : (g : ℕ) → g < length rows → owner (rows ++ row ∷ []) g ≡ owner rows g
  old_owner g l = ap (λ (r : Row). r.create) (at_old rows row g (below_apart g (length rows) l))

  new_owner : owner (rows ++ row ∷ []) (length rows) ≡ row.create
  new_owner = ap (λ (r : Row). r.create) (at_new rows row)

  fewer : (g : ℕ) → g < length (rows ++ row ∷ []) → g < length rows + 1
  fewer g l = subst (λ m. g < m) (length_more rows row) l

  more_rows : (g : ℕ) → g < length rows + 1 → g < length (rows ++ row ∷ [])
  more_rows g l = subst (λ m. g < m) (sym (length_more rows row)) l

  -- what the new list names
  named_within : (g : ℕ) → 0 < g → g < length rows + 1 → get_or new g 0 < length rows + 1
  named_within g p l =
      elim (ways g (length rows)) as (λ _. get_or new g 0 < length rows + 1) [
        | inl e ↦ (let z : get_or new g 0 ≡ 0 = ap (λ y. get_or new y 0) e ∙ at_end in omega arith)
        | inr e ↦ (
            elim (ways g last) as (λ _. get_or new g 0 < length rows + 1) [
              | inl q ↦ (
                  let z : get_or new g 0 ≡ length rows = ap (λ y. get_or new y 0) q ∙ at_last (subst (λ y. 0 < y) q p) in omega arith
                  )
              | inr q ↦ (
                  let b = not_more g (length rows) l e in
                  let z = elsewhere g b q in
                  let w = a.within g p b in
                  omega arith
                  )
            ]
            )
      ]

  named_higher : (g : ℕ) → 0 < g → g < length rows + 1 → 0 < get_or new g 0 → g < get_or new g 0
  named_higher g p l s =
      elim (ways g (length rows)) as (λ _. g < get_or new g 0) [
        | inl e ↦ absurd (let z : get_or new g 0 ≡ 0 = ap (λ y. get_or new y 0) e ∙ at_end in omega arith)
        | inr e ↦ (
            let b = not_more g (length rows) l e in
            elim (ways g last) as (λ _. g < get_or new g 0) [
              | inl q ↦ (
                  let z : get_or new g 0 ≡ length rows = ap (λ y. get_or new y 0) q ∙ at_last (subst (λ y. 0 < y) q p) in omega arith
                  )
              | inr q ↦ (
                  let z = elsewhere g b q in
                  subst (λ y. g < y) (sym z) (a.higher g p b (subst (λ y. 0 < y) z s))
                  )
            ]
            )
      ]

  named_own : (g : ℕ) → 0 < g → g < length rows + 1 → 0 < get_or new g 0
      → owner (rows ++ row ∷ []) (get_or new g 0) ≡ owner (rows ++ row ∷ []) g
  named_own g p l s =
      elim (ways g (length rows)) as (λ _. owner (rows ++ row ∷ []) (get_or new g 0) ≡ owner (rows ++ row ∷ []) g) [
        | inl e ↦ absurd (let z : get_or new g 0 ≡ 0 = ap (λ y. get_or new y 0) e ∙ at_end in omega arith)
        | inr e ↦ (
            let b = not_more g (length rows) l e in
            elim (ways g last) as (λ _. owner (rows ++ row ∷ []) (get_or new g 0) ≡ owner (rows ++ row ∷ []) g) [
              | inl q ↦ (
                  let t = subst (λ y. 0 < y) q p in
                  ap (λ y. owner (rows ++ row ∷ []) y) (ap (λ y. get_or new y 0) q ∙ at_last t) ∙ new_owner ∙ sym (i.own t)
                  ∙ ap (λ y. owner rows y) (sym q) ∙ sym (old_owner g b)
                  )
              | inr q ↦ (
                  let z = elsewhere g b q in
                  let w = subst (λ y. 0 < y) z s in
                  ap (λ y. owner (rows ++ row ∷ []) y) z ∙ old_owner (get_or later g 0) (a.within g p b) ∙ a.own g p b w
                  ∙ sym (old_owner g b)
                  )
            ]
            )
      ]

  -- the open's last one so far goes before
  led_by : (g : ℕ) → 0 < g → g < length rows → owner rows g ≡ row.create → (g ≡ last → ⊥) → g < last
  led_by g p b o q =
      elim (three g last) as (λ _. g < last) [
        | inl l ↦ l
        | inr (inl e) ↦ absurd (q e)
        | inr (inr l) ↦ absurd (clash (i.none g l b o))
      ]

  named_next : (g h : ℕ) → 0 < g → g < h → h < length rows + 1 → owner (rows ++ row ∷ []) h ≡ owner (rows ++ row ∷ []) g
      → (0 < get_or new g 0) × (get_or new g 0 ≤ h)
  named_next g h p l m o =
      let b = through g h (length rows) l m in
      elim (ways g last) as (λ _. (0 < get_or new g 0) × (get_or new g 0 ≤ h)) [
        | inl q ↦ (
            let t = subst (λ y. 0 < y) q p in
            let z : get_or new g 0 ≡ length rows = ap (λ y. get_or new y 0) q ∙ at_last t in
            elim (ways h (length rows)) as (λ _. (0 < get_or new g 0) × (get_or new g 0 ≤ h)) [
              | inl e ↦ (omega arith, omega arith)
              | inr e ↦ absurd (
                  let k = not_more h (length rows) m e in
                  clash (i.none h (subst (λ y. y < h) q l) k
                  (sym (old_owner h k) ∙ o ∙ old_owner g b ∙ ap (λ y. owner rows y) q ∙ i.own t))
                  )
            ]
            )
        | inr q ↦ (
            let z = elsewhere g b q in
            elim (ways h (length rows)) as (λ _. (0 < get_or new g 0) × (get_or new g 0 ≤ h)) [
              | inl e ↦ (
                  let own : owner rows g ≡ row.create = sym (old_owner g b) ∙ sym o ∙ ap (λ y. owner (rows ++ row ∷ []) y) e ∙ new_owner in
                  let k = led_by g p b own q in
                  let t : 0 < last = positive g last k in
                  let w = a.next g last p k (i.below t) (i.own t ∙ sym own) in
                  let x = i.below t in
                  let u = w.0 in
                  let v = w.1 in
                  (omega arith, omega arith)
                  )
              | inr e ↦ (
                  let k = not_more h (length rows) m e in
                  let w = a.next g h p l k (sym (old_owner h k) ∙ o ∙ old_owner g b) in
                  let u = w.0 in
                  let v = w.1 in
                  (omega arith, omega arith)
                  )
            ]
            )
      ]
    where
      positive : (x y : ℕ) → x < y → 0 < y
      positive x y l = omega arith

  pub ascends_by : Ascends (rows ++ row ∷ []) new
  ascends_by =
      record {
        counted = counted ∙ sym (length_more rows row);
        within = λ g p l. more_rows (get_or new g 0) (named_within g p (fewer g l));
        higher = λ g p l. named_higher g p (fewer g l);
        own = λ g p l. named_own g p (fewer g l);
        next = λ g h p l m. named_next g h p l (fewer h m);
      }

-- the first one of its open
pub ascends_first : (rows : List Row) (row : Row) (later : List ℕ) (last : ℕ) → last ≡ 0 → Ascends rows later
    → IsHighest (owner rows) (λ h. true) row.create (length rows) last → Ascends (rows ++ row ∷ []) (later ++ 0 ∷ [])
ascends_first rows row later last none a i =
    ascends_by rows row later (later ++ 0 ∷ []) last a i (length_push later 0 ∙ ap (λ m. m + 1) a.counted)
    (get_or_push later 0 0 (length rows) a.counted) (λ p. absurd (let z = none in omega arith))
    (λ g l e. get_or_append_left later (0 ∷ []) 0 g (subst (λ m. g < m) (sym a.counted) l))

-- a further one
pub ascends_further : (rows : List Row) (row : Row) (later : List ℕ) (last : ℕ) → (last ≡ 0 → ⊥) → Ascends rows later
    → IsHighest (owner rows) (λ h. true) row.create (length rows) last
    → Ascends (rows ++ row ∷ []) (set (later ++ 0 ∷ []) last (length later))
ascends_further rows row later last some a i =
    let p : 0 < last = above last some in
    let b : last < length rows = i.below p in
    let pushed = later ++ 0 ∷ [] in
    ascends_by rows row later (set pushed last (length later)) last a i
    (length-set pushed last (length later) ∙ length_push later 0 ∙ ap (λ m. m + 1) a.counted)
    (get_or-set_other pushed last (length rows) (length later) 0 (λ e. below_apart last (length rows) b (sym e))
    ∙ get_or_push later 0 0 (length rows) a.counted)
    (λ q. get_or-set_same pushed last (length later) 0 (room last later (subst (λ m. last < m) (sym a.counted) b)) ∙ a.counted)
    (λ g l e. get_or-set_other pushed last g (length later) 0 e
    ∙ get_or_append_left later (0 ∷ []) 0 g (subst (λ m. g < m) (sym a.counted) l))
  where
    above : (x : ℕ) → (x ≡ 0 → ⊥) → 0 < x
    above x h = grind arith

    room : (x : ℕ) (xs : List ℕ) → x < length xs → x < length (xs ++ 0 ∷ [])
    room x xs l = let n = length_push xs 0 in omega arith
