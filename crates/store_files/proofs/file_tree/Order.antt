-- The index in the order of its keys.
use Rattle.std.proofs.Common.{◌≡◌, ℕ, ◌<◌, ◌≤◌, Bool, true, false, not, cond, String, List, [], ◌∷◌, length, take}
use Rattle.std.proofs.Common.{Option, Some, None, is_some, refl, sym, ap, subst, ◌∙◌, arith}
use Rattle.std.proofs.lemmas.Grind.{common_steps}
use Rattle.std.specs.Str.{bytes_eq}
use Rattle.std.specs.String.{string_bytes, string_cmp}
use Rattle.std.specs.Map.{lookup}
use Rattle.std.specs.BTreeMap.{BTreeMap, get_by_text}
use Rattle.std.specs.BTreeMap.Range.{IsRangeOf}
use Rattle.std.specs.Ordering.{is_eq, nat_cmp}
use Rattle.std.specs.declared.ops.Bound.TheVariants.{Included, Unbounded}
use Rattle.std.specs.Cmp.Lexicographic.{slice_cmp}
use Rattle.std.proofs.lemmas.Map.Text.{is_eq-slice_cmp}
use Rattle.store_files.specs.file_tree.Shown.{folded}
use Rattle.store_files.specs.file_tree.Keys.{key_begins, key_le, IsNext}
use Rattle.store_files.proofs.file_tree.Entries.{bytes_same}

not_on : (b : Bool) → b ≡ false → not b ≡ true
not_on true e = absurd (cc)
not_on false e = refl

not_off : (b : Bool) → not b ≡ true → b ≡ false
not_off true e = absurd (cc)
not_off false e = refl

none_of : (o : Option ℕ) → is_some o ≡ false → o ≡ None
none_of None e = refl
none_of (Some x) e = absurd (cc)

-- a key that finds something is a stored one
stored : {Y : Type 0} (es : List (String Y × ℕ)) (q : List ℕ)
    → is_some (lookup (λ k. is_eq (slice_cmp nat_cmp q (string_bytes k))) es) ≡ true → (k : String Y)
    × (string_bytes k ≡ q)
stored [] q h = absurd (cc)
stored {Y = Y} (e ∷ es) q h = by (stored es q) (is_eq (slice_cmp nat_cmp q (string_bytes e.0))) refl h
  where
    by : (is_some (lookup (λ k. is_eq (slice_cmp nat_cmp q (string_bytes k))) es) ≡ true → (k : String Y)
        × (string_bytes k ≡ q)) → (b : Bool) → is_eq (slice_cmp nat_cmp q (string_bytes e.0)) ≡ b
        → is_some (cond b (Some e.1) (lookup (λ k. is_eq (slice_cmp nat_cmp q (string_bytes k))) es)) ≡ true
        → (k : String Y) × (string_bytes k ≡ q)
    by more true s t = (e.0, sym (bytes_same q (string_bytes e.0) (sym (is_eq-slice_cmp q (string_bytes e.0)) ∙ s)))
    by more false s t = more t

module _ {Y : Type 0} (m : BTreeMap (String Y) ℕ) (start : String Y) where
  pub next_some : (k : String Y) (v : ℕ) (t : List (String Y × ℕ)) → IsRangeOf string_cmp (Included start) Unbounded m
      ((k, v) ∷ t) → IsNext (Some (string_bytes k)) (λ q. get_by_text m q) (string_bytes start)
  next_some k v t h = (
    not_on _ h.1.0.0,
    ap is_some h.1.1,
    λ q le there. let z = stored m.entries q there in
        subst (λ (q : List ℕ). key_le (string_bytes start) q ≡ true → is_some (get_by_text m q) ≡ true
        → key_le (string_bytes k) q ≡ true) z.1 (λ l s. not_on _ (h.2 z.0 (not_off _ l, tt) s)) le there,
  )

  pub next_none : IsRangeOf string_cmp (Included start) Unbounded m [] → IsNext None (λ q. get_by_text m q) (string_bytes start)
  next_none h = λ q le. by q le (is_some (get_by_text m q)) refl
    where
      by : (q : List ℕ) → key_le (string_bytes start) q ≡ true → (b : Bool) → is_some (get_by_text m q) ≡ b → get_by_text m q ≡ None
      by q le false e = none_of _ e
      by q le true e = let z = stored m.entries q e in
          subst (λ (q : List ℕ). key_le (string_bytes start) q ≡ true → get_by_text m q ≡ None) z.1 (λ l. h.5 refl z.0 (not_off _ l, tt)) le

-- ---- fronts

pub starts_is : (front q : List ℕ) → bytes_eq front (take (length front) q) ≡ key_begins front q
unfolding key_begins
starts_is [] q = refl
starts_is (x ∷ xs) [] = refl
starts_is (x ∷ xs) (y ∷ ys) = rw (starts_is xs ys) refl

-- a front stands before what begins with it
pub front_le : (front q : List ℕ) → key_begins front q ≡ true → key_le front q ≡ true
unfolding key_begins
front_le [] [] e = refl
front_le [] (y ∷ ys) e = refl
front_le (x ∷ xs) [] e = absurd (cc)
front_le (x ∷ xs) (y ∷ ys) e = let h = front_le xs ys in grind (arith, common_steps)

-- what stands between a front and what begins with it begins with it
pub front_between : (front k q : List ℕ) → key_le front k ≡ true → key_le k q ≡ true → key_begins front q ≡ true → key_begins front k ≡ true
unfolding key_begins
front_between [] k q a b e = refl
front_between (x ∷ xs) [] q a b e = absurd (cc)
front_between (x ∷ xs) (y ∷ ys) [] a b e = absurd (cc)
front_between (x ∷ xs) (y ∷ ys) (z ∷ zs) a b e = let h = front_between xs ys zs in grind (arith, common_steps)

-- a path in upper case begins so
pub begins_folded : (front path : List ℕ) → length front ≤ length path → bytes_eq (folded (take (length front) path))
    front ≡ key_begins front (folded path)
unfolding key_begins
begins_folded [] path l = refl
begins_folded (x ∷ xs) [] l = absurd (let e : 1 ≤ 0 = grind arith in omega arith)
begins_folded (x ∷ xs) (y ∷ ys) l = let h = begins_folded xs ys in grind (arith, common_steps)

pub begins_short : (front path : List ℕ) → length path < length front → key_begins front (folded path) ≡ false
unfolding key_begins
begins_short [] path l = absurd (omega arith)
begins_short (x ∷ xs) [] l = refl
begins_short (x ∷ xs) (y ∷ ys) l = let h = begins_short xs ys in grind (arith, common_steps)
