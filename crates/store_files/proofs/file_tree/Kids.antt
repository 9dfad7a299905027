-- The model's names of a directory: ascending, and by key.
use Rattle.std.proofs.Common.{◌≡◌, ◌⊎◌, inl, inr, ℕ, ◌+◌, Bool, true, false, ◌&&◌}
use Rattle.std.proofs.Common.{if◌then◌else◌, List, [], ◌∷◌, ◌++◌, Some, None}
use Rattle.std.proofs.Common.{refl, sym, ap, ◌∙◌, arith}
use Rattle.std.specs.Bool.{⊤}
use Rattle.std.proofs.lemmas.Grind.{common_steps}
use Rattle.std.proofs.lemmas.List.{append_assoc}
use Rattle.std.proofs.lemmas.Cmp.{nat_list_cmp_total}
use Rattle.std.proofs.lemmas.Map.Text.{is_eq-slice_cmp}
use Rattle.std.specs.declared.cmp.Ordering.{Ordering}
use Rattle.std.specs.declared.cmp.Ordering.TheVariants.{Less, Equal, Greater}
use Rattle.std.specs.Ordering.{is_lt, is_eq, ordering_reverse}
use Rattle.std.specs.Str.{bytes_eq}
use Rattle.std.specs.Cmp.Lexicographic.{nat_list_eq_equiv}
use Rattle.spec_exchange.specs.State.{Named}
use Rattle.spec_exchange.specs.Texts.{same_name, parent_of, leaf_of, begins_with_backslash}
use Rattle.spec_exchange.specs.Listing.{rank, listed_before, insert_named}
use Rattle.store_files.specs.file_tree.Shown.{folded, below_key}
use Rattle.store_files.proofs.file_tree.Keys.{same_name_is}
use Rattle.store_files.proofs.file_tree.Entries.{bytes_same}
use Rattle.store_files.proofs.file_tree.Children.{has_slash, before_is, parent_is, leaf_is, parent_whole, leaf_whole}
use Rattle.store_files.proofs.file_tree.Housed.{has_slash_in, last_slash, cut_before, folded_append, slash_folded}
use Rattle.store_files.proofs.file_tree.Carried.{fronts_cancel}
use Rattle.store_files.proofs.file_tree.Sorted.{key_cmp, key_of, named, AllAfter, Ascends, less_after}

iff : (b c : Bool) → (b ≡ true → c ≡ true) → (c ≡ true → b ≡ true) → b ≡ c
iff true true f g = refl
iff true false f g = sym (f refl)
iff false true f g = g refl
iff false false f g = refl

both : (b c : Bool) → (b && c) ≡ true → (b ≡ true) × (c ≡ true)
both true true e = (refl, refl)
both true false e = absurd (cc)
both false c e = absurd (cc)

and : (b c : Bool) → b ≡ true → c ≡ true → (b && c) ≡ true
and true true d e = refl
and true false d e = absurd (cc)
and false c d e = absurd (cc)

pub same_bytes : (a b : List ℕ) → a ≡ b → bytes_eq a b ≡ true
same_bytes a b e = ap (λ (l : List ℕ). bytes_eq l b) e ∙ nat_list_eq_equiv.refl b

behind : (a x y : List ℕ) → a ++ x ≡ a ++ y → x ≡ y
behind a x y e = bytes_same x y (sym (fronts_cancel a x y) ∙ same_bytes (a ++ x) (a ++ y) e)

empty_folded : (p : List ℕ) → folded p ≡ [] → p ≡ []
empty_folded [] e = refl
empty_folded (c ∷ cs) e = absurd (cc)

-- with what the keys of a directory's names begin
abbrev pub front_of : List ℕ → List ℕ
front_of [] = []
front_of (c ∷ cs) = below_key (c ∷ cs)

front_filled : (path k : List ℕ) → (path ≡ [] → ⊥) → front_of path ++ k ≡ folded path ++ 92 ∷ k
front_filled [] k n = absurd (n refl)
front_filled (c ∷ cs) k n = append_assoc (folded (c ∷ cs)) (92 ∷ []) k

-- a path stands in a directory under a name exactly where its key is that of the name there
module _ (p path k : List ℕ) (front : begins_with_backslash p ≡ false) (plain : has_slash k ≡ false) where
  no_front : (d l : List ℕ) → p ≡ d ++ 92 ∷ l → d ≡ [] → ⊥
  unfolding begins_with_backslash
  no_front d l e z = absurd (let x = ap begins_with_backslash (e ∙ ap (λ (q : List ℕ). q ++ 92 ∷ l) z) in cc)

  to_key : (b : Bool) → has_slash p ≡ b → (same_name (parent_of p) path && bytes_eq (folded (leaf_of p)) k) ≡ true
      → bytes_eq (folded p) (front_of path ++ k) ≡ true
  to_key true s e =
      let c = last_slash p s in
      let d = c.0 in
      let l = c.1 in
      let h = both (same_name (parent_of p) path) (bytes_eq (folded (leaf_of p)) k) e in
      let up : folded d ≡ folded path = ap folded (sym (ap parent_of c.2 ∙ parent_is d l c.3))
      ∙ bytes_same (folded (parent_of p)) (folded path) (sym (same_name_is (parent_of p) path) ∙ h.0) in
      let leaf : folded l ≡ k = ap folded (sym (ap leaf_of c.2 ∙ leaf_is d l c.3)) ∙ bytes_same (folded (leaf_of p)) k h.1 in
      let filled : path ≡ [] → ⊥ = λ z. no_front d l c.2 (empty_folded d (up ∙ ap folded z)) in
      same_bytes (folded p) (front_of path ++ k)
      (ap folded c.2 ∙ (folded_append d (92 ∷ l) ∙ (ap (λ (q : List ℕ). q ++ 92 ∷ folded l) up
      ∙ (ap (λ (q : List ℕ). folded path ++ 92 ∷ q) leaf ∙ sym (front_filled path k filled)))))
  to_key false s e =
      let h = both (same_name (parent_of p) path) (bytes_eq (folded (leaf_of p)) k) e in
      let root : path ≡ [] = empty_folded path
      (sym (ap folded (sym (parent_whole p s)) ∙ bytes_same (folded (parent_of p)) (folded path)
      (sym (same_name_is (parent_of p) path) ∙ h.0))) in
      let leaf : folded p ≡ k = ap folded (sym (leaf_whole p s)) ∙ bytes_same (folded (leaf_of p)) k h.1 in
      same_bytes (folded p) (front_of path ++ k) (leaf ∙ ap (λ (q : List ℕ). front_of q ++ k) (sym root))

  from_root : path ≡ [] → bytes_eq (folded p) (front_of path ++ k) ≡ true
      → (same_name (parent_of p) path && bytes_eq (folded (leaf_of p)) k) ≡ true
  from_root z e =
      let same : folded p ≡ k = bytes_same (folded p) (front_of path ++ k) e ∙ ap (λ (q : List ℕ). front_of q ++ k) z in
      let slash : has_slash p ≡ false = sym (slash_folded p) ∙ (ap has_slash same ∙ plain) in
      and (same_name (parent_of p) path) (bytes_eq (folded (leaf_of p)) k)
      (same_name_is (parent_of p) path ∙ same_bytes (folded (parent_of p)) (folded path)
      (ap folded (parent_whole p slash) ∙ ap folded (sym z)))
      (same_bytes (folded (leaf_of p)) k (ap folded (leaf_whole p slash) ∙ same))

  from_below : (path ≡ [] → ⊥) → bytes_eq (folded p) (front_of path ++ k) ≡ true
      → (same_name (parent_of p) path && bytes_eq (folded (leaf_of p)) k) ≡ true
  from_below n e =
      let key : folded p ≡ folded path ++ 92 ∷ k = bytes_same (folded p) (front_of path ++ k) e ∙ front_filled path k n in
      let slash : has_slash p ≡ true = sym (slash_folded p) ∙ (ap has_slash key ∙ has_slash_in (folded path) k) in
      let c = last_slash p slash in
      let d = c.0 in
      let l = c.1 in
      let eq : folded path ++ 92 ∷ k ≡ folded d ++ 92 ∷ folded l = sym key ∙ (ap folded c.2 ∙ folded_append d (92 ∷ l)) in
      by d l c.2 c.3 eq (cut_before (folded path) k (folded d) (folded l) (slash_folded l ∙ c.3) eq)
    where
      by : (d l : List ℕ) → p ≡ d ++ 92 ∷ l → has_slash l ≡ false → folded path ++ 92 ∷ k ≡ folded d ++ 92 ∷ folded l
          → (folded path ≡ folded d) ⊎ ((m : List ℕ) × (folded d ≡ folded path ++ 92 ∷ m))
          → (same_name (parent_of p) path && bytes_eq (folded (leaf_of p)) k) ≡ true
      by d l e n eq (inl up) =
          let tails : 92 ∷ k ≡ 92 ∷ folded l = behind (folded path) (92 ∷ k) (92 ∷ folded l)
          (eq ∙ ap (λ (q : List ℕ). q ++ 92 ∷ folded l) (sym up)) in
          let leaf : folded l ≡ k = cc in
          and (same_name (parent_of p) path) (bytes_eq (folded (leaf_of p)) k)
          (same_name_is (parent_of p) path ∙ same_bytes (folded (parent_of p)) (folded path)
          (ap folded (ap parent_of e ∙ parent_is d l n) ∙ sym up))
          (same_bytes (folded (leaf_of p)) k (ap folded (ap leaf_of e ∙ leaf_is d l n) ∙ leaf))
      by d l e n eq (inr h) =
          let m = h.0 in
          let eq2 : folded path ++ 92 ∷ k ≡ folded path ++ (92 ∷ m ++ 92 ∷ folded l) = eq
          ∙ (ap (λ (q : List ℕ). q ++ 92 ∷ folded l) h.1 ∙ append_assoc (folded path) (92 ∷ m) (92 ∷ folded l)) in
          let tails : 92 ∷ k ≡ 92 ∷ (m ++ 92 ∷ folded l) = behind (folded path) (92 ∷ k) (92 ∷ m ++ 92 ∷ folded l) eq2 in
          let tail : k ≡ m ++ 92 ∷ folded l = cc in
          absurd (let x = ap has_slash tail in let y = has_slash_in m (folded l) in cc)

  pub child_is : (same_name (parent_of p) path && bytes_eq (folded (leaf_of p)) k) ≡ bytes_eq (folded p) (front_of path ++ k)
  child_is = iff (same_name (parent_of p) path && bytes_eq (folded (leaf_of p)) k)
      (bytes_eq (folded p) (front_of path ++ k)) (to_key (has_slash p) refl) (back path refl)
    where
      back : (q : List ℕ) → path ≡ q → bytes_eq (folded p) (front_of path ++ k) ≡ true
          → (same_name (parent_of p) path && bytes_eq (folded (leaf_of p)) k) ≡ true
      back [] z = from_root z
      back (c ∷ cs) z = from_below (λ w. absurd (let x : c ∷ cs ≡ [] = sym z ∙ w in cc))

-- ---- inserting a name

abbrev pub AllRanked : List Named → Type 0
AllRanked [] = ⊤
AllRanked (n ∷ ns) = (rank n.name ≡ 2) × AllRanked ns

pub before_ranked : (a b : List ℕ) → rank a ≡ 2 → rank b ≡ 2 → listed_before a b ≡ is_lt (key_cmp (folded a) (folded b))
unfolding listed_before
before_ranked a b d e = rw (d, e) (before_is a b)

not_named : (n m : Named) (ms : List Named) → named (m ∷ ms) (key_of n) ≡ None
    → (bytes_eq (key_of m) (key_of n) ≡ false) × (named ms (key_of n) ≡ None)
unfolding named
not_named n m ms e = grind (arith, common_steps)

turned : (a b : List ℕ) → key_cmp a b ≡ Greater → key_cmp b a ≡ Less
turned a b e = other (key_cmp b a) refl (sym (nat_list_cmp_total.antisymm a b) ∙ e)
  where
    other : (o : Ordering) → key_cmp b a ≡ o → ordering_reverse o ≡ Greater → o ≡ Less
    other Less i r = refl
    other Equal i r = absurd (cc)
    other Greater i r = absurd (cc)

pub inserted_ranked : (n : Named) (ns : List Named) → rank n.name ≡ 2 → AllRanked ns → AllRanked (insert_named n ns)
unfolding insert_named
inserted_ranked n [] r h = (r, tt)
inserted_ranked n (m ∷ ms) r h = by (listed_before n.name m.name) (inserted_ranked n ms r h.1)
  where
    by : (b : Bool) → AllRanked (insert_named n ms) → AllRanked (if b then n ∷ m ∷ ms else m ∷ insert_named n ms)
    by true t = (r, (h.0, h.1))
    by false t = (h.0, t)

inserted_after : (k : List ℕ) (n : Named) (ns : List Named) → key_cmp k (key_of n) ≡ Less → AllAfter k ns → AllAfter k (insert_named n ns)
unfolding insert_named
inserted_after k n [] e h = (e, tt)
inserted_after k n (m ∷ ms) e h = by (listed_before n.name m.name) (inserted_after k n ms e h.1)
  where
    by : (b : Bool) → AllAfter k (insert_named n ms) → AllAfter k (if b then n ∷ m ∷ ms else m ∷ insert_named n ms)
    by true t = (e, (h.0, h.1))
    by false t = (h.0, t)

pub inserted_ascends : (n : Named) (ns : List Named) → rank n.name ≡ 2 → AllRanked ns → named ns (key_of n) ≡ None
    → Ascends ns → Ascends (insert_named n ns)
unfolding insert_named
inserted_ascends n [] r h e a = (tt, tt)
inserted_ascends n (m ∷ ms) r h e a = by (key_cmp (key_of n) (key_of m)) refl (λ t. inserted_ascends n ms r h.1 t a.1)
  where
    apart : (bytes_eq (key_of m) (key_of n) ≡ false) × (named ms (key_of n) ≡ None)
    apart = not_named n m ms e

    front : (b : Bool) → listed_before n.name m.name ≡ b → b ≡ true → key_cmp (key_of n) (key_of m) ≡ Less
        → Ascends (if b then n ∷ m ∷ ms else m ∷ insert_named n ms)
    front true i j l = ((l, less_after (key_of n) (key_of m) ms l a.0), (a.0, a.1))
    front false i j l = absurd (cc)

    back : (b : Bool) → listed_before n.name m.name ≡ b → b ≡ false → key_cmp (key_of m) (key_of n) ≡ Less
        → (named ms (key_of n) ≡ None → Ascends (insert_named n ms))
        → Ascends (if b then n ∷ m ∷ ms else m ∷ insert_named n ms)
    back true i j l more = absurd (cc)
    back false i j l more = (inserted_after (key_of m) n ms l a.0, more apart.1)

    by : (o : Ordering) → key_cmp (key_of n) (key_of m) ≡ o → (named ms (key_of n) ≡ None → Ascends (insert_named n ms))
        → Ascends (if listed_before n.name m.name then n ∷ m ∷ ms else m ∷ insert_named n ms)
    by Less i more = front (listed_before n.name m.name) refl (before_ranked n.name m.name r h.0 ∙ ap is_lt i) i
    by Equal i more = absurd (let x = is_eq-slice_cmp (key_of n) (key_of m) in let y = ap is_eq i in
        let z = bytes_same (key_of n) (key_of m) (sym x ∙ y) in let w = same_bytes (key_of m) (key_of n) (sym z) in
        let v = apart.0 in cc)
    by Greater i more = back (listed_before n.name m.name) refl (before_ranked n.name m.name r h.0 ∙ ap is_lt i)
        (turned (key_of n) (key_of m) i) more

pub inserted_named : (n : Named) (ns : List Named) (k : List ℕ) → named ns (key_of n) ≡ None → named (insert_named n ns)
    k ≡ (if bytes_eq (key_of n) k then Some n else named ns k)
unfolding insert_named named
inserted_named n [] k e = refl
inserted_named n (m ∷ ms) k e = by (listed_before n.name m.name) (inserted_named n ms k (not_named n m ms e).1)
  where
    apart : (bytes_eq (key_of m) (key_of n) ≡ false) × (named ms (key_of n) ≡ None)
    apart = not_named n m ms e

    swap : (b c : Bool) → bytes_eq (key_of m) k ≡ b → bytes_eq (key_of n) k ≡ c
        → (if b then Some m else if c then Some n else named ms k)
        ≡ (if c then Some n else if b then Some m else named ms k)
    swap true true i j =
        let x = same_bytes (key_of m) (key_of n) (bytes_same (key_of m) k i ∙ sym (bytes_same (key_of n) k j)) in
        absurd (let y = apart.0 in cc)
    swap true false i j = refl
    swap false true i j = refl
    swap false false i j = refl

    by : (b : Bool) → named (insert_named n ms) k ≡ (if bytes_eq (key_of n) k then Some n else named ms k)
        → named (if b then n ∷ m ∷ ms else m ∷ insert_named n ms) k
        ≡ (if bytes_eq (key_of n) k then Some n else if bytes_eq (key_of m) k then Some m else named ms k)
    by true t = refl
    by false t = rw t (swap (bytes_eq (key_of m) k) (bytes_eq (key_of n) k) refl refl)
