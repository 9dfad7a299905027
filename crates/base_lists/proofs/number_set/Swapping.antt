-- Numbers and places stay paired.
use Rattle.std.proofs.Common.{◌≡◌, ℕ, ◌+◌, ◌<◌, ◌≤◌, ◌==◌, nat_lt, Bool, true, false, if◌then◌else◌, List, [], ◌∷◌, ◌++◌}
use Rattle.std.proofs.Common.{length, get_or, set, take, drop, refl, ap, sym, ◌∙◌, arith, subst, ◌⊎◌, inl, inr, length-append}
use Rattle.std.proofs.Common.{append-nil, ◌^◌, lit<, Result, Ok, Err, OnErr}
use Rattle.std.proofs.lemmas.List.{drop_all, take_all}
use Rattle.std.proofs.Math.ListN.{length-set}
use Rattle.std.proofs.lemmas.List.{get_or-set_same, get_or-set_other}
use Rattle.std.proofs.lemmas.Grind.{common_steps}
use Rattle.base_lists.specs.number_set.Members.{Pairs}

pub same_or_other : (j k : ℕ) → (j ≡ k) ⊎ (j ≡ k → ⊥)
same_or_other j k = grind arith

-- ---- two changes of a list

module _ (xs : List ℕ) (i j v w : ℕ) (k : i < length xs) (l : j < length xs) where
  abbrev pub twice : List ℕ
  twice = set (set xs i v) j w

  pub twice_length : length twice ≡ length xs
  twice_length = length-set (set xs i v) j w ∙ length-set xs i v

  pub twice_last : get_or twice j 0 ≡ w
  twice_last = get_or-set_same (set xs i v) j w 0 (let z = length-set xs i v in omega arith)

  pub twice_first : (i ≡ j → ⊥) → get_or twice i 0 ≡ v
  twice_first n = get_or-set_other (set xs i v) j i w 0 n ∙ get_or-set_same xs i v 0 k

  pub twice_other : (q : ℕ) → (q ≡ i → ⊥) → (q ≡ j → ⊥) → get_or twice q 0 ≡ get_or xs q 0
  twice_other q n m = get_or-set_other (set xs i v) j q w 0 m ∙ get_or-set_other xs i q v 0 n

-- ---- numbers at two places change places

module _ (n : ℕ) (order places : List ℕ) (i j : ℕ) (h : Pairs n order places) (k : i < n) (l : j < n) where
  abbrev a : ℕ
  a = get_or order i 0

  abbrev b : ℕ
  b = get_or order j 0

  abbrev pub order' : List ℕ
  order' = set (set order i b) j a

  abbrev pub places' : List ℕ
  places' = set (set places a j) b i

  i_in : i < length order
  i_in = let z = h.ordered in omega arith

  j_in : j < length order
  j_in = let z = h.ordered in omega arith

  a_in : a < length places
  a_in = let z = h.placed in let y = h.number i k in omega arith

  b_in : b < length places
  b_in = let z = h.placed in let y = h.number j l in omega arith

  -- of equal numbers the places are equal
  same_place : (p q : ℕ) → p < n → q < n → get_or order p 0 ≡ get_or order q 0 → p ≡ q
  same_place p q r s e = sym (h.there p r) ∙ ap (λ x. get_or places x 0) e ∙ h.there q s

  order_at_j : get_or order' j 0 ≡ a
  order_at_j = twice_last order i j b a i_in j_in

  pub order_at_i : get_or order' i 0 ≡ b
  order_at_i =
      elim (same_or_other i j) as (λ _. get_or order' i 0 ≡ b) [
        | inl e ↦ subst (λ x. get_or order' x 0 ≡ b) (sym e) (order_at_j ∙ ap (λ x. get_or order x 0) e)
        | inr m ↦ twice_first order i j b a i_in j_in m
      ]

  pub order_past : (q : ℕ) → (q ≡ i → ⊥) → (q ≡ j → ⊥) → get_or order' q 0 ≡ get_or order q 0
  order_past q x y = twice_other order i j b a i_in j_in q x y

  places_at_b : get_or places' b 0 ≡ i
  places_at_b = twice_last places a b j i a_in b_in

  pub places_at_a : get_or places' a 0 ≡ j
  places_at_a =
      elim (same_or_other a b) as (λ _. get_or places' a 0 ≡ j) [
        | inl e ↦ subst (λ x. get_or places' x 0 ≡ j) (sym e) (places_at_b ∙ same_place i j k l e)
        | inr m ↦ twice_first places a b j i a_in b_in m
      ]

  pub places_past : (q : ℕ) → (q ≡ a → ⊥) → (q ≡ b → ⊥) → get_or places' q 0 ≡ get_or places q 0
  places_past q x y = twice_other places a b j i a_in b_in q x y

  pub places_of_b : get_or places' b 0 ≡ i
  places_of_b = places_at_b

  there' : (p : ℕ) → p < n → get_or places' (get_or order' p 0) 0 ≡ p
  there' p r =
      elim (same_or_other p j) as (λ _. get_or places' (get_or order' p 0) 0 ≡ p) [
        | inl e ↦ subst (λ x. get_or places' (get_or order' x 0) 0 ≡ x) (sym e)
            (ap (λ x. get_or places' x 0) order_at_j ∙ places_at_a)
        | inr m ↦ elim (same_or_other p i) as (λ _. get_or places' (get_or order' p 0) 0 ≡ p) [
          | inl e ↦ subst (λ x. get_or places' (get_or order' x 0) 0 ≡ x) (sym e)
              (ap (λ x. get_or places' x 0) order_at_i ∙ places_at_b)
          | inr o ↦ ap (λ x. get_or places' x 0) (order_past p o m)
              ∙ places_past (get_or order p 0) (λ e. o (same_place p i r k e)) (λ e. m (same_place p j r l e)) ∙ h.there p r
        ]
      ]

  back' : (g : ℕ) → g < n → get_or order' (get_or places' g 0) 0 ≡ g
  back' g r =
      elim (same_or_other g b) as (λ _. get_or order' (get_or places' g 0) 0 ≡ g) [
        | inl e ↦ subst (λ x. get_or order' (get_or places' x 0) 0 ≡ x) (sym e)
            (ap (λ x. get_or order' x 0) places_at_b ∙ order_at_i)
        | inr m ↦ elim (same_or_other g a) as (λ _. get_or order' (get_or places' g 0) 0 ≡ g) [
          | inl e ↦ subst (λ x. get_or order' (get_or places' x 0) 0 ≡ x) (sym e)
              (ap (λ x. get_or order' x 0) places_at_a ∙ order_at_j)
          | inr o ↦ ap (λ x. get_or order' x 0) (places_past g o m)
              ∙ order_past (get_or places g 0) (λ e. o (sym (h.back g r) ∙ ap (λ x. get_or order x 0) e))
              (λ e. m (sym (h.back g r) ∙ ap (λ x. get_or order x 0) e)) ∙ h.back g r
        ]
      ]

  number' : (p : ℕ) → p < n → get_or order' p 0 < n
  number' p r =
      elim (same_or_other p j) as (λ _. get_or order' p 0 < n) [
        | inl e ↦ subst (λ x. get_or order' x 0 < n) (sym e) (subst (λ x. x < n) (sym order_at_j) (h.number i k))
        | inr m ↦ elim (same_or_other p i) as (λ _. get_or order' p 0 < n) [
          | inl e ↦ subst (λ x. get_or order' x 0 < n) (sym e) (subst (λ x. x < n) (sym order_at_i) (h.number j l))
          | inr o ↦ subst (λ x. x < n) (sym (order_past p o m)) (h.number p r)
        ]
      ]

  place' : (g : ℕ) → g < n → get_or places' g 0 < n
  place' g r =
      elim (same_or_other g b) as (λ _. get_or places' g 0 < n) [
        | inl e ↦ subst (λ x. get_or places' x 0 < n) (sym e) (subst (λ x. x < n) (sym places_at_b) k)
        | inr m ↦ elim (same_or_other g a) as (λ _. get_or places' g 0 < n) [
          | inl e ↦ subst (λ x. get_or places' x 0 < n) (sym e) (subst (λ x. x < n) (sym places_at_a) l)
          | inr o ↦ subst (λ x. x < n) (sym (places_past g o m)) (h.place g r)
        ]
      ]

  pub swapped : Pairs n order' places'
  swapped =
      record {
        ordered = twice_length order i j b a i_in j_in ∙ h.ordered;
        placed = twice_length places a b j i a_in b_in ∙ h.placed;
        number = number';
        place = place';
        there = there';
        back = back';
      }

  -- where the number at the first place, and any other, stands then
  module _ (number : ℕ) (g : number < n) (e : i ≡ get_or places number 0) where
    is_first : a ≡ number
    is_first = ap (λ x. get_or order x 0) e ∙ h.back number g

    pub first_moves : get_or places' number 0 ≡ j
    first_moves = subst (λ x. get_or places' x 0 ≡ j) is_first places_at_a

    second_moves : (q : ℕ) → q < n → get_or places q 0 ≡ j → get_or places' q 0 ≡ i
    second_moves q r f = subst (λ x. get_or places' x 0 ≡ i) (ap (λ x. get_or order x 0) (sym f) ∙ h.back q r) places_of_b

    others_stay : (q : ℕ) → (q ≡ number → ⊥) → (get_or places q 0 ≡ j → ⊥) → get_or places' q 0 ≡ get_or places q 0
    others_stay q m o =
        places_past q (λ f. m (f ∙ is_first)) (λ f. o (ap (λ x. get_or places x 0) f ∙ h.there j l))

    apart_places : (q : ℕ) → q < n → (q ≡ number → ⊥) → get_or places q 0 ≡ j → i ≡ j → ⊥
    apart_places q r m f x = m (sym (h.back q r) ∙ ap (λ y. get_or order y 0) (f ∙ sym x) ∙ is_first)

-- ---- who is a member then

put_first : (q number place c : ℕ) → q ≡ number → place ≡ c → (y : Bool) → nat_lt place (c + 1) ≡ (if q == number then true else y)
put_first q number place c e f y = grind arith

put_second : (q number old place i c : ℕ) → (q ≡ number → ⊥) → old ≡ c → place ≡ i → c ≤ i → (i ≡ c → ⊥)
    → nat_lt place (c + 1) ≡ (if q == number then true else nat_lt old c)
put_second q number old place i c m e f l x = grind arith

put_other : (q number old place c : ℕ) → (q ≡ number → ⊥) → (old ≡ c → ⊥) → place ≡ old
    → nat_lt place (c + 1) ≡ (if q == number then true else nat_lt old c)
put_other q number old place c m o f = grind arith

drop_first : (q number place j : ℕ) → q ≡ number → place ≡ j → (y : Bool) → nat_lt place j ≡ (if q == number then false else y)
drop_first q number place j e f y = grind arith

drop_second : (q number old place i j c : ℕ) → (q ≡ number → ⊥) → old ≡ j → place ≡ i → j + 1 ≡ c → i < c → (i ≡ j → ⊥)
    → nat_lt place j ≡ (if q == number then false else nat_lt old c)
drop_second q number old place i j c m e f w l x = grind arith

drop_other : (q number old place j c : ℕ) → (q ≡ number → ⊥) → (old ≡ j → ⊥) → place ≡ old → j + 1 ≡ c
    → nat_lt place j ≡ (if q == number then false else nat_lt old c)
drop_other q number old place j c m o f w = grind arith

module _ (n : ℕ) (order places : List ℕ) (i j : ℕ) (h : Pairs n order places) (k : i < n) (l : j < n)
    (number : ℕ) (g : number < n) (e : i ≡ get_or places number 0) where
  abbrev after : List ℕ
  after = places' n order places i j h k l

  pub has_put : j ≤ i → (q : ℕ) → q < n → nat_lt (get_or after q 0) (j + 1)
      ≡ (if q == number then true else nat_lt (get_or places q 0) j)
  has_put b q r =
      elim (same_or_other q number)
      as (λ _. nat_lt (get_or after q 0) (j + 1) ≡ (if q == number then true else nat_lt (get_or places q 0) j)) [
        | inl f ↦ put_first q number (get_or after q 0) j f
            (ap (λ x. get_or after x 0) f ∙ first_moves n order places i j h k l number g e) (nat_lt (get_or places q 0) j)
        | inr m ↦ elim (same_or_other (get_or places q 0) j)
            as (λ _. nat_lt (get_or after q 0) (j + 1) ≡ (if q == number then true else nat_lt (get_or places q 0) j)) [
              | inl f ↦ put_second q number (get_or places q 0) (get_or after q 0) i j m f
                  (second_moves n order places i j h k l number g e q r f) b
                  (apart_places n order places i j h k l number g e q r m f)
              | inr o ↦ put_other q number (get_or places q 0) (get_or after q 0) j m o
                  (others_stay n order places i j h k l number g e q m o)
            ]
      ]

  pub has_removed : (c : ℕ) → j + 1 ≡ c → i < c → (q : ℕ) → q < n → nat_lt (get_or after q 0) j
      ≡ (if q == number then false else nat_lt (get_or places q 0) c)
  has_removed c w b q r =
      elim (same_or_other q number)
      as (λ _. nat_lt (get_or after q 0) j ≡ (if q == number then false else nat_lt (get_or places q 0) c)) [
        | inl f ↦ drop_first q number (get_or after q 0) j f
            (ap (λ x. get_or after x 0) f ∙ first_moves n order places i j h k l number g e) (nat_lt (get_or places q 0) c)
        | inr m ↦ elim (same_or_other (get_or places q 0) j)
            as (λ _. nat_lt (get_or after q 0) j ≡ (if q == number then false else nat_lt (get_or places q 0) c)) [
              | inl f ↦ drop_second q number (get_or places q 0) (get_or after q 0) i j c m f
                  (second_moves n order places i j h k l number g e q r f) w b
                  (apart_places n order places i j h k l number g e q r m f)
              | inr o ↦ drop_other q number (get_or places q 0) (get_or after q 0) j c m o
                  (others_stay n order places i j h k l number g e q m o) w
            ]
      ]

-- ---- as the code has them

pub whole : (n : ℕ) (old new : List ℕ) → length old ≡ n → length new ≡ length old → take n (new ++ drop (length new) old) ≡ new
whole n old new e l =
    ap (λ xs. take n (new ++ xs)) (drop_all (length new) old (omega arith)) ∙ ap (λ xs. take n xs) (append-nil new)
    ∙ take_all n new (omega arith)

pub pairs_lists : (n : ℕ) (o p o' p' x y : List ℕ) → Pairs n x y → o' ≡ x → p' ≡ y → Pairs (length p') o' p'
pairs_lists n o p o' p' x y h e f =
    subst (λ z. Pairs (length p') z p') (sym e) (subst (λ z. Pairs (length z) x z) (sym f)
    (subst (λ m. Pairs m x y) (sym h.placed) h))

get_pushed : (xs : List ℕ) (v i : ℕ) → i < length xs → get_or (xs ++ v ∷ []) i 0 ≡ get_or xs i 0
get_pushed xs v i l = grind (arith, common_steps)

get_last : (xs : List ℕ) (v i : ℕ) → i ≡ length xs → get_or (xs ++ v ∷ []) i 0 ≡ v
get_last xs v i e = grind (arith, common_steps)

below_or_last : (p n : ℕ) → p < n + 1 → (p < n) ⊎ (p ≡ n)
below_or_last p n l = grind arith

-- one number more, at the last place
module _ (n : ℕ) (o p : List ℕ) (h : Pairs n o p) where
  abbrev o1 : List ℕ
  o1 = o ++ n ∷ []

  abbrev p1 : List ℕ
  p1 = p ++ n ∷ []

  in_o : (i : ℕ) → i < n → get_or o1 i 0 ≡ get_or o i 0
  in_o i l = get_pushed o n i (let z = h.ordered in omega arith)

  in_p : (i : ℕ) → i < n → get_or p1 i 0 ≡ get_or p i 0
  in_p i l = get_pushed p n i (let z = h.placed in omega arith)

  at_o : get_or o1 n 0 ≡ n
  at_o = get_last o n n (sym h.ordered)

  at_p : get_or p1 n 0 ≡ n
  at_p = get_last p n n (sym h.placed)

  number1 : (i : ℕ) → i < n + 1 → get_or o1 i 0 < n + 1
  number1 i l =
      elim (below_or_last i n l) as (λ _. get_or o1 i 0 < n + 1) [
        | inl b ↦ (let z = h.number i b in let y = in_o i b in omega arith)
        | inr e ↦ subst (λ x. get_or o1 x 0 < n + 1) (sym e) (let y = at_o in omega arith)
      ]

  place1 : (i : ℕ) → i < n + 1 → get_or p1 i 0 < n + 1
  place1 i l =
      elim (below_or_last i n l) as (λ _. get_or p1 i 0 < n + 1) [
        | inl b ↦ (let z = h.place i b in let y = in_p i b in omega arith)
        | inr e ↦ subst (λ x. get_or p1 x 0 < n + 1) (sym e) (let y = at_p in omega arith)
      ]

  there1 : (i : ℕ) → i < n + 1 → get_or p1 (get_or o1 i 0) 0 ≡ i
  there1 i l =
      elim (below_or_last i n l) as (λ _. get_or p1 (get_or o1 i 0) 0 ≡ i) [
        | inl b ↦ ap (λ x. get_or p1 x 0) (in_o i b) ∙ in_p (get_or o i 0) (h.number i b) ∙ h.there i b
        | inr e ↦ subst (λ x. get_or p1 (get_or o1 x 0) 0 ≡ x) (sym e) (ap (λ x. get_or p1 x 0) at_o ∙ at_p)
      ]

  back1 : (i : ℕ) → i < n + 1 → get_or o1 (get_or p1 i 0) 0 ≡ i
  back1 i l =
      elim (below_or_last i n l) as (λ _. get_or o1 (get_or p1 i 0) 0 ≡ i) [
        | inl b ↦ ap (λ x. get_or o1 x 0) (in_p i b) ∙ in_o (get_or p i 0) (h.place i b) ∙ h.back i b
        | inr e ↦ subst (λ x. get_or o1 (get_or p1 x 0) 0 ≡ x) (sym e) (ap (λ x. get_or o1 x 0) at_p ∙ at_o)
      ]

  pub one_more : Pairs (n + 1) o1 p1
  one_more =
      let u = length-append o (n ∷ []) in
      let v = length-append p (n ∷ []) in
      let s = h.ordered in
      let t = h.placed in
      record { ordered = omega arith; placed = omega arith; number = number1; place = place1; there = there1; back = back1 }

  pub more_place : (i : ℕ) → i < n → get_or p1 i 0 ≡ get_or p i 0
  more_place = in_p

  pub more_number : (i : ℕ) → i < n → get_or o1 i 0 ≡ get_or o i 0
  more_number = in_o

  pub last_place : get_or p1 n 0 ≡ n
  last_place = at_p

-- ---- places and the count

pub below_so : (x i c : ℕ) → x ≡ i → i < c → nat_lt x c ≡ true
below_so x i c e l = grind arith

pub not_below : (x c : ℕ) → nat_lt x c ≡ false → c ≤ x
not_below x c e = grind arith

pub is_below : (x c : ℕ) → nat_lt x c ≡ true → x < c
is_below x c e = grind arith

pub past_so : (x n c : ℕ) → x ≡ n → c ≤ n → nat_lt x c ≡ false
past_so x n c e l = grind arith

pub same_test : (x y c : ℕ) → x ≡ y → nat_lt x c ≡ nat_lt y c
same_test x y c e = ap (λ z. nat_lt z c) e

none_paired : (o p : List ℕ) → o ≡ [] → p ≡ [] → Pairs (length p) o p
none_paired o p e f =
    subst (λ x. Pairs (length p) x p) (sym e) (subst (λ y. Pairs (length y) [] y) (sym f) (record {
      ordered = refl;
      placed = refl;
      number = λ i l. absurd (omega arith);
      place = λ i l. absurd (omega arith);
      there = λ i l. absurd (omega arith);
      back = λ i l. absurd (omega arith);
    }))

pub fits_none : (o p : List ℕ) → o ≡ [] → p ≡ [] → Pairs (length p) o p × 0 ≤ length p × length p < 2 ^ 32
fits_none o p e f = (
  none_paired o p e f,
  omega arith,
  subst (λ (y : List ℕ). length y < 2 ^ 32) (sym f) (lit< tt),
)

-- ---- where memory ran out

pub on_err : {T E P : Type 0} (r : Result T E) → P → OnErr r P
on_err (Ok x) p = tt
on_err (Err e) p = p
