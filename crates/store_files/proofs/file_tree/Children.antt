-- The order of a listing is that of the keys, and a child's key is its directory's, a backslash and its name's.
use Rattle.std.proofs.Common.{◌≡◌, ℕ, ◌==◌, Bool, if◌then◌else◌, true, false, List, [], ◌∷◌, ◌++◌, length, take}
use Rattle.std.proofs.Common.{drop, get_or, ◌<◌, ◌≢◌, refl, sym, ap, ◌∙◌, arith}
use Prim.Native.Nat.{suc}
use Rattle.std.proofs.lemmas.Grind.{common_steps}
use Rattle.std.proofs.lemmas.List.{append_assoc, append-nil, take-append-drop}
use Rattle.std.proofs.lemmas.Str.Pattern.{NoCharPasses-char, drop_at_char}
use Rattle.std.specs.Str.{NoCharPasses}
use Rattle.std.specs.Str.Pattern.{HasCharAt}
use Rattle.std.specs.Ordering.{is_lt, nat_cmp}
use Rattle.std.specs.Cmp.Lexicographic.{slice_cmp}
use Rattle.spec_exchange.specs.Texts.{name_before, parent_from, parent_of, leaf_from, leaf_of}
unfoldable pub use Rattle.store_files.specs.file_tree.Keys.{has_slash}
use Rattle.store_files.specs.file_tree.Shown.{folded}
use Rattle.store_files.proofs.file_tree.Keys.{upper_is}

pub before_is : (a b : List ℕ) → name_before a b ≡ is_lt (slice_cmp nat_cmp (folded a) (folded b))
unfolding name_before
before_is [] [] = refl
before_is [] (y ∷ ys) = refl
before_is (x ∷ xs) [] = refl
before_is (x ∷ xs) (y ∷ ys) = let u = upper_is x in let v = upper_is y in let h = before_is xs ys in grind (arith, common_steps)

parent_stays : (found front name : List ℕ) → has_slash name ≡ false → parent_from found front name ≡ found
unfolding parent_from has_slash
parent_stays found front [] e = refl
parent_stays found front (c ∷ cs) e = let h = parent_stays found (front ++ c ∷ []) cs in grind (arith, common_steps)

parent_found : (found front d name : List ℕ) → has_slash name ≡ false → parent_from found front (d ++ 92 ∷ name) ≡ front ++ d
unfolding parent_from has_slash
parent_found found front [] name e = parent_stays front (front ++ 92 ∷ []) name e ∙ sym (append-nil front)
parent_found found front (c ∷ cs) name e =
    let a = append_assoc front (c ∷ []) cs in
    let h = parent_found found (front ++ c ∷ []) cs name e in
    let g = parent_found front (front ++ c ∷ []) cs name e in
    grind (arith, common_steps)

pub parent_is : (d name : List ℕ) → has_slash name ≡ false → parent_of (d ++ 92 ∷ name) ≡ d
unfolding parent_of
parent_is d name e = parent_found [] [] d name e

leaf_stays : (leaf name : List ℕ) → has_slash name ≡ false → leaf_from leaf name ≡ leaf ++ name
unfolding leaf_from has_slash
leaf_stays leaf [] e = sym (append-nil leaf)
leaf_stays leaf (c ∷ cs) e = let a = append_assoc leaf (c ∷ []) cs in let h = leaf_stays (leaf ++ c ∷ []) cs in grind (arith, common_steps)

-- a path without a backslash is a name of the root
pub parent_whole : (p : List ℕ) → has_slash p ≡ false → parent_of p ≡ []
unfolding parent_of
parent_whole p e = parent_stays [] [] p e

pub leaf_whole : (p : List ℕ) → has_slash p ≡ false → leaf_of p ≡ p
unfolding leaf_of
leaf_whole p e = leaf_stays [] p e

leaf_found : (leaf d name : List ℕ) → has_slash name ≡ false → leaf_from leaf (d ++ 92 ∷ name) ≡ name
unfolding leaf_from has_slash
leaf_found leaf [] name e = leaf_stays [] name e
leaf_found leaf (c ∷ cs) name e = let h = leaf_found (leaf ++ c ∷ []) cs name e in let g = leaf_found [] cs name e in
    grind (arith, common_steps)

pub leaf_is : (d name : List ℕ) → has_slash name ≡ false → leaf_of (d ++ 92 ∷ name) ≡ name
unfolding leaf_of
leaf_is d name e = leaf_found [] d name e

slash_append : (a : List ℕ) (c : ℕ) → has_slash a ≡ false → (c == 92) ≡ false → has_slash (a ++ c ∷ []) ≡ false
unfolding has_slash
slash_append [] c e n = rw n refl
slash_append (x ∷ xs) c e n = let h = slash_append xs c in grind (arith, common_steps)

leaf_from_slash : (leaf p : List ℕ) → has_slash leaf ≡ false → has_slash (leaf_from leaf p) ≡ false
unfolding leaf_from has_slash
leaf_from_slash leaf [] e = e
leaf_from_slash leaf (c ∷ cs) e = by (c == 92) refl (leaf_from_slash [] cs) (leaf_from_slash (leaf ++ c ∷ []) cs)
  where
    by : (b : Bool) → (c == 92) ≡ b → (has_slash [] ≡ false → has_slash (leaf_from [] cs) ≡ false)
        → (has_slash (leaf ++ c ∷ []) ≡ false → has_slash (leaf_from (leaf ++ c ∷ []) cs) ≡ false)
        → has_slash (if b then leaf_from [] cs else leaf_from (leaf ++ c ∷ []) cs) ≡ false
    by true i h g = h refl
    by false i h g = g (slash_append leaf c e i)

-- a name has no backslash
pub leaf_slash : (p : List ℕ) → has_slash (leaf_of p) ≡ false
unfolding leaf_of has_slash
leaf_slash p = leaf_from_slash [] p refl

no_slash : (bs : List ℕ) → ((i : ℕ) → i < length bs → get_or bs i 0 ≢ 92) → has_slash bs ≡ false
unfolding has_slash
no_slash [] h = refl
no_slash (c ∷ cs) h = let a = h 0 (grind arith) in let b = no_slash cs (λ i l e. h (suc i) (omega arith) e) in grind (arith, common_steps)

-- a path cut at its last backslash
pub parent_split : (s front : List ℕ) (i j : ℕ) → front ≡ take i s → NoCharPasses (λ d. d == 92) (drop j s)
    → HasCharAt 92 s i j → front ≡ parent_of s
parent_split s front i j f n h =
    let d = drop_at_char 92 s i j h (omega arith) in
    f ∙ (sym (parent_is (take i s) (drop j s)
    (no_slash (drop j s) (λ k l. NoCharPasses-char 92 (drop j s) k n (omega arith) l)))
    ∙ ap parent_of (ap (λ l. take i s ++ l) (sym d) ∙ take-append-drop i s))

pub parent_none : (s : List ℕ) → NoCharPasses (λ d. d == 92) s → [] ≡ parent_of s
unfolding parent_of
parent_none s n = sym (parent_stays [] [] s (no_slash s (λ k l. NoCharPasses-char 92 s k n (omega arith) l)))

-- a name is what stands behind the last backslash
pub leaf_split : (s back : List ℕ) (i j : ℕ) → back ≡ drop j s → NoCharPasses (λ d. d == 92) (drop j s)
    → HasCharAt 92 s i j → back ≡ leaf_of s
leaf_split s back i j f n h =
    let d = drop_at_char 92 s i j h (omega arith) in
    f ∙ (sym (leaf_is (take i s) (drop j s)
    (no_slash (drop j s) (λ k l. NoCharPasses-char 92 (drop j s) k n (omega arith) l)))
    ∙ ap leaf_of (ap (λ l. take i s ++ l) (sym d) ∙ take-append-drop i s))

pub leaf_none : (s : List ℕ) → NoCharPasses (λ d. d == 92) s → s ≡ leaf_of s
leaf_none s n = sym (leaf_whole s (no_slash s (λ k l. NoCharPasses-char 92 s k n (omega arith) l)))
