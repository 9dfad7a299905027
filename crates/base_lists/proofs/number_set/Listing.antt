-- The members as a list.
use Rattle.std.proofs.Common.{◌≡◌, ℕ, zero, suc, ◌<◌, ◌≤◌, ◌==◌, Bool, true, false, if◌then◌else◌, nat_lt, List, []}
use Rattle.std.proofs.Common.{◌∷◌, length, take, get_or}
use Rattle.std.proofs.Common.{refl, ap, sym, ◌∙◌, subst, arith}
use Rattle.std.proofs.lemmas.List.{get_or-take, length-take-le}
use Rattle.base_lists.specs.declared.number_set.Members.{Members}
use Rattle.base_lists.specs.number_set.Members.{MembersFit, Pairs, count, has, is_in, size}
use Rattle.base_lists.proofs.number_set.Swapping.{is_below}

same : (x : ℕ) → (x == x) ≡ true
same x = grind arith

either : (b r : Bool) → r ≡ true → (if b then true else r) ≡ true
either true r e = refl
either false r e = e

lower : (i n : ℕ) → suc i < suc n → i < n
lower i n l = omega arith

none_there : (i : ℕ) → i < 0 → ⊥
none_there i l = omega arith

-- what stands at a place of a list is in it
pub in_at : (xs : List ℕ) (i : ℕ) → i < length xs → is_in (get_or xs i 0) xs ≡ true
in_at [] i l = absurd (none_there i l)
in_at (x ∷ xs) zero l = ap (λ b. if b then true else is_in x xs) (same x)
in_at (x ∷ xs) (suc i) l = either (x == get_or xs i 0) (is_in (get_or xs i 0) xs) (in_at xs i (lower i (length xs) l))

front : (i n m : ℕ) → i < n → n ≤ m → i < m
front i n m l h = omega arith

length_front : (xs : List ℕ) (n : ℕ) → n ≤ length xs → length (take n xs) ≡ n
length_front xs n l = length-take-le n xs l

module _ (s : Members) (f : MembersFit s) where
  pub fronted : count s ≤ length s.order.items
  fronted = let p = f.pairs in let q : Pairs (length s.places.items) s.order.items s.places.items = p in
      subst (λ n. count s ≤ n) (sym q.ordered) f.within

  pub all_in : (g : ℕ) → g < size s → has s g ≡ true → is_in g (take (count s) s.order.items) ≡ true
  all_in g l e =
      let q : Pairs (length s.places.items) s.order.items s.places.items = f.pairs in
      let i = get_or s.places.items g 0 in
      let b : i < count s = is_below i (count s) e in
      let xs = take (count s) s.order.items in
      let v : get_or xs i 0 ≡ g = get_or-take (count s) s.order.items i 0 b ∙ q.back g l in
      subst (λ x. is_in x xs ≡ true) v (in_at xs i (subst (λ n. i < n) (sym (length_front s.order.items (count s) fronted)) b))

  pub all_within : (i : ℕ) → i < length (take (count s) s.order.items) → get_or (take (count s) s.order.items) i 0 < size s
  all_within i l =
      let q : Pairs (length s.places.items) s.order.items s.places.items = f.pairs in
      let b : i < count s = subst (λ n. i < n) (length_front s.order.items (count s) fronted) l in
      subst (λ x. x < size s) (sym (get_or-take (count s) s.order.items i 0 b)) (q.number i (front i (count s) (size s) b f.within))

pub none_below : (x : ℕ) → nat_lt x 0 ≡ false
none_below x = grind arith
