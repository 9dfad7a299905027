-- Counting the locks of an open.
use Rattle.std.proofs.Common.{◌≡◌, ℕ, zero, suc, ◌+◌, ◌<◌, ◌≤◌, ◌==◌, ◌&&◌, nat_lt, not, Bool, true, false}
use Rattle.std.proofs.Common.{if◌then◌else◌, List, [], ◌∷◌, ◌++◌, length}
use Rattle.std.proofs.Common.{refl, ap, sym, ◌∙◌, subst, arith, ◌⊎◌, inl, inr}
use Rattle.std.proofs.lemmas.List.{length_push}
use Rattle.client_values.specs.declared.operations.shapes.Kind.{Kind}
use Rattle.client_values.specs.declared.operations.shapes.Kind.TheVariants as kinds
use Rattle.client_rows.specs.declared.operation_rows.row.Row.{Row}
use Rattle.client_rows.specs.operation_rows.Rows.{row_at, kind}
use Rattle.client_rows.proofs.operation_rows.Adding.{at_new, at_old}
use Rattle.client_rows.specs.open_marks.Marks.{is_lock_kind}
use Rattle.client_tables.specs.attached_opens.Locks.{passing_below, is_lock_on, locks_on}
use Rattle.client_tables.specs.attached_opens.Places.{KeepsPlaces}

ways : (x y : ℕ) → (x ≡ y) ⊎ (x ≡ y → ⊥)
ways x y = grind arith

equal : (x y : ℕ) → x ≡ y → (x == y) ≡ true
equal x y e = grind arith

unequal : (x y : ℕ) → (x ≡ y → ⊥) → (x == y) ≡ false
unequal x y e = grind arith

below : (g n : ℕ) → g < n → g < suc n
below g n l = omega arith

last : (n : ℕ) → n < suc n
last n = omega arith

front : (x n : ℕ) → x < suc n → (x ≡ n → ⊥) → x < n
front x n l e = omega arith

-- ---- counting

pub count_alike : (p q : ℕ → Bool) (n : ℕ) → ((g : ℕ) → g < n → p g ≡ q g) → passing_below p n ≡ passing_below q n
unfolding passing_below
count_alike p q zero e = refl
count_alike p q (suc n) e =
    ap (λ b. if b then passing_below p n + 1 else passing_below p n) (e n (last n))
    ∙ ap (λ m. if q n then m + 1 else m) (count_alike p q n (λ g l. e g (below g n l)))

count_none : (p : ℕ → Bool) (n : ℕ) → ((g : ℕ) → g < n → p g ≡ false) → passing_below p n ≡ 0
unfolding passing_below
count_none p zero e = refl
count_none p (suc n) e =
    ap (λ b. if b then passing_below p n + 1 else passing_below p n) (e n (last n)) ∙ count_none p n (λ g l. e g (below g n l))

-- all but one of them
abbrev pub apart : (ℕ → Bool) → ℕ → ℕ → Bool
apart p x g = p g && not (g == x)

and_not : (a b : Bool) → b ≡ false → (a && not b) ≡ a
and_not a b e = grind arith

and_true : (a b : Bool) → b ≡ true → (a && not b) ≡ false
and_true a b e = grind arith

apart_off : (p : ℕ → Bool) (x g : ℕ) → (g ≡ x → ⊥) → apart p x g ≡ p g
apart_off p x g e = and_not (p g) (g == x) (unequal g x e)

apart_at : (p : ℕ → Bool) (x g : ℕ) → g ≡ x → apart p x g ≡ false
apart_at p x g e = and_true (p g) (g == x) (equal g x e)

not_it : (g n x : ℕ) → g < n → x ≡ n → g ≡ x → ⊥
not_it g n x l e q = omega arith

one_more : (b : Bool) (m n : ℕ) → m ≡ n + 1 → (if b then m + 1 else m) ≡ (if b then n + 1 else n) + 1
one_more true m n e = omega arith
one_more false m n e = e

pub count_apart : (p : ℕ → Bool) (x n : ℕ) → p x ≡ true → x < n → passing_below p n ≡ passing_below (apart p x) n + 1
unfolding passing_below
count_apart p x zero e l = absurd (nothing x l)
  where
    nothing : (x : ℕ) → x < 0 → ⊥
    nothing x l = omega arith
count_apart p x (suc n) e l =
    elim (ways x n) as (λ _. passing_below p (suc n) ≡ passing_below (apart p x) (suc n) + 1) [
      | inl q ↦ ap (λ b. if b then passing_below p n + 1 else passing_below p n) (ap p (sym q) ∙ e)
          ∙ ap (λ m. m + 1) (count_alike p (apart p x) n (λ g k. sym (apart_off p x g (not_it g n x k q))))
          ∙ sym (ap (λ b. (if b then passing_below (apart p x) n + 1 else passing_below (apart p x) n) + 1) (apart_at p x n (sym q)))
      | inr q ↦ one_more (p n) (passing_below p n) (passing_below (apart p x) n) (count_apart p x n e (front x n l q))
          ∙ sym (ap (λ b. (if b then passing_below (apart p x) n + 1 else passing_below (apart p x) n) + 1)
          (apart_off p x n (λ r. q (sym r))))
    ]

-- as many numbers as were given that pass, no two of them the same
pub count_most : (p : ℕ → Bool) (n m : ℕ) (f : ℕ → ℕ) → ((i : ℕ) → i < m → (f i < n) × (p (f i) ≡ true))
    → ((i j : ℕ) → i < m → j < m → f i ≡ f j → i ≡ j) → m ≤ passing_below p n
count_most p n zero f some other = least (passing_below p n)
  where
    least : (x : ℕ) → 0 ≤ x
    least x = omega arith
count_most p n (suc m) f some other =
    more m (passing_below (apart p (f m)) n) (passing_below p n)
    (count_most (apart p (f m)) n m f
    (λ i l. (
      (some i (below i m l)).0,
      apart_off p (f m) (f i) (λ e. differ i m l (other i m (below i m l) (last m) e)) ∙ (some i (below i m l)).1,
    ))
    (λ i j k l e. other i j (below i m k) (below j m l) e))
    (count_apart p (f m) n (some m (last m)).1 (some m (last m)).0)
  where
    more : (m x y : ℕ) → m ≤ x → y ≡ x + 1 → suc m ≤ y
    more m x y l e = omega arith

    differ : (i m : ℕ) → i < m → i ≡ m → ⊥
    differ i m l e = omega arith

-- and one more, which isn't among them
pub count_beside : (p : ℕ → Bool) (n m x : ℕ) (f : ℕ → ℕ) → p x ≡ true → x < n → ((i : ℕ) → i < m → (f i < n) × (p (f i) ≡ true))
    → ((i j : ℕ) → i < m → j < m → f i ≡ f j → i ≡ j) → ((i : ℕ) → i < m → f i ≡ x → ⊥) → m + 1 ≤ passing_below p n
count_beside p n m x f e l some other off =
    more m (passing_below (apart p x) n) (passing_below p n)
    (count_most (apart p x) n m f (λ i k. ((some i k).0, apart_off p x (f i) (off i k) ∙ (some i k).1)) other)
    (count_apart p x n e l)
  where
    more : (m x y : ℕ) → m ≤ x → y ≡ x + 1 → m + 1 ≤ y
    more m x y l e = omega arith

-- ---- the locks of an open

module _ (rows new : List Row) (m : KeepsPlaces rows new) (at : ℕ) where
  pub locks_moved : locks_on new at ≡ locks_on rows at
  locks_moved =
      ap (λ n. passing_below (is_lock_on new at) n) m.count
      ∙ count_alike (is_lock_on new at) (is_lock_on rows at) (length rows)
      (λ g l. ap (λ (k : Kind). nat_lt 0 g && (is_lock_kind k && ((row_at new g).«open» == at))) (m.kinds g)
      ∙ ap (λ o. nat_lt 0 g && (is_lock_kind (kind rows g) && (o == at))) (m.opens g))

-- row 0 is none
pub locks_first : (r : Row) (at : ℕ) → locks_on (r ∷ []) at ≡ locks_on [] at
unfolding passing_below
locks_first r at = refl

-- no operation is on it
pub locks_none : (rows : List Row) (at : ℕ) → ((g : ℕ) → 0 < g → g < length rows → (row_at rows g).«open» ≡ at → ⊥)
    → locks_on rows at ≡ 0
locks_none rows at off = count_none (is_lock_on rows at) (length rows) (λ g l. by_case g l (positive g))
  where
    positive : (g : ℕ) → (nat_lt 0 g ≡ false) ⊎ (0 < g)
    positive g = grind arith

    left : (a b : Bool) → a ≡ false → (a && b) ≡ false
    left a b e = grind arith

    both : (a b c : Bool) → c ≡ false → (a && (b && c)) ≡ false
    both a b c e = grind arith

    by_case : (g : ℕ) → g < length rows → (nat_lt 0 g ≡ false) ⊎ (0 < g) → is_lock_on rows at g ≡ false
    by_case g l (inl e) = left (nat_lt 0 g) (is_lock_kind (kind rows g) && ((row_at rows g).«open» == at)) e
    by_case g l (inr p) =
        both (nat_lt 0 g) (is_lock_kind (kind rows g)) ((row_at rows g).«open» == at) (unequal (row_at rows g).«open» at (off g p l))

pub lock_is : (k : Kind) → is_lock_kind k ≡ true → k ≡ kinds.Lock
lock_is kinds.Create e = absurd (cc)
lock_is kinds.Write e = absurd (cc)
lock_is kinds.Read e = absurd (cc)
lock_is kinds.End e = absurd (cc)
lock_is kinds.Change e = absurd (cc)
lock_is kinds.Lock e = refl
lock_is kinds.Look e = absurd (cc)
lock_is kinds.List e = absurd (cc)
lock_is kinds.Close e = absurd (cc)

module _ (rows : List Row) (r : Row) (at : ℕ) where
  old : passing_below (is_lock_on (rows ++ r ∷ []) at) (length rows) ≡ locks_on rows at
  old =
      count_alike (is_lock_on (rows ++ r ∷ []) at) (is_lock_on rows at) (length rows)
      (λ g l. ap (λ (w : Row). nat_lt 0 g && (is_lock_kind w.kind && (w.«open» == at))) (at_old rows r g (differ g (length rows) l)))
    where
      differ : (g n : ℕ) → g < n → g ≡ n → ⊥
      differ g n l e = omega arith

  grown : locks_on (rows ++ r ∷ []) at ≡ (if is_lock_on (rows ++ r ∷ []) at (length rows) then locks_on rows at + 1 else locks_on rows at)
  unfolding passing_below
  grown =
      ap (λ n. passing_below (is_lock_on (rows ++ r ∷ []) at) n) (length_push rows r ∙ one (length rows))
      ∙ ap (λ n. if is_lock_on (rows ++ r ∷ []) at (length rows) then n + 1 else n) old
    where
      one : (n : ℕ) → n + 1 ≡ suc n
      one n = omega arith

  here : is_lock_on (rows ++ r ∷ []) at (length rows) ≡ (nat_lt 0 (length rows) && (is_lock_kind r.kind && (r.«open» == at)))
  here = ap (λ (w : Row). nat_lt 0 (length rows) && (is_lock_kind w.kind && (w.«open» == at))) (at_new rows r)

  -- one more at most, and none where the new row is no lock of this open
  pub locks_grown : (is_lock_kind r.kind && (r.«open» == at)) ≡ true → locks_on (rows ++ r ∷ []) at ≤ locks_on rows at + 1
  locks_grown e = subst (λ n. n ≤ locks_on rows at + 1) (sym grown) (most (is_lock_on (rows ++ r ∷ []) at (length rows)) (locks_on rows at))
    where
      most : (b : Bool) (n : ℕ) → (if b then n + 1 else n) ≤ n + 1
      most true n = omega arith
      most false n = omega arith

  pub locks_same : (is_lock_kind r.kind && (r.«open» == at)) ≡ false → locks_on (rows ++ r ∷ []) at ≡ locks_on rows at
  locks_same e =
      grown ∙ ap (λ b. if b then locks_on rows at + 1 else locks_on rows at)
      (here ∙ none (nat_lt 0 (length rows)) (is_lock_kind r.kind && (r.«open» == at)) e)
    where
      none : (a b : Bool) → b ≡ false → (a && b) ≡ false
      none a b e = grind arith
