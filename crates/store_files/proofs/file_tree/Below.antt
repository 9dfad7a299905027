-- What stands below a directory is what begins with its key and a backslash.
use Rattle.std.proofs.Common.{◌≡◌, ℕ, ◌==◌, Bool, true, false, ◌&&◌, if◌then◌else◌, List, [], ◌∷◌, length, Option, Some}
use Rattle.std.proofs.Common.{None, is_some, refl, sym, ap, ◌∙◌, arith}
use Rattle.std.proofs.lemmas.Grind.{common_steps}
use Rattle.std.specs.Str.{bytes_eq}
use Rattle.std.specs.Char.{to_ascii_uppercase}
use Rattle.std.specs.Cmp.Lexicographic.{nat_list_eq_equiv}
use Rattle.spec_exchange.specs.State.{Entry}
use Rattle.spec_exchange.specs.Texts.{upper, after_name, begins_below, is_below}
use Rattle.spec_exchange.specs.Files.{has_below}
use Rattle.store_files.specs.file_tree.Shown.{folded, at_key, below_key}
use Rattle.store_files.specs.file_tree.Keys.{key_begins, IsNext}
use Rattle.store_files.proofs.file_tree.Keys.{upper_is}
use Rattle.store_files.proofs.file_tree.Entries.{bytes_same}
use Rattle.store_files.proofs.file_tree.Order.{front_le, front_between}

slash_is : (c : ℕ) → (c == 92) ≡ (92 == to_ascii_uppercase c)
slash_is c = grind arith

and_true : (b : Bool) → (b && true) ≡ b
and_true true = refl
and_true false = refl

either_after : (b : Bool) (o : Option (List ℕ)) → begins_below (if b then o else None) ≡ (b && begins_below o)
unfolding begins_below
either_after true o = refl
either_after false o = refl

after_is : (d path : List ℕ) → begins_below (after_name d path) ≡ key_begins (below_key d) (folded path)
unfolding begins_below after_name key_begins
after_is [] [] = refl
after_is [] (c ∷ cs) = slash_is c ∙ sym (and_true (92 == to_ascii_uppercase c))
after_is (x ∷ xs) [] = refl
after_is (x ∷ xs) (y ∷ ys) = either_after (upper x == upper y) (after_name xs ys) ∙ rw (upper_is x, upper_is y, after_is xs ys) refl

pub below_is : (d path : List ℕ) → (length d == 0) ≡ false → is_below d path ≡ key_begins (below_key d) (folded path)
unfolding is_below
below_is [] path e = grind arith
below_is (x ∷ xs) path e = after_is (x ∷ xs) path

module _ (p : List ℕ) (n : (length p == 0) ≡ false) where
  found : (es : List Entry) → has_below es p ≡ true → (q : List ℕ) × (is_some (at_key es q) ≡ true) × (key_begins (below_key p) q ≡ true)
  unfolding has_below at_key
  found [] h = absurd (cc)
  found (e ∷ es) h = by (found es) (is_below p e.path) refl h
    where
      itself : (b : Bool) (o : Option ℕ) → b ≡ true → is_some (if b then Some e.file else o) ≡ true
      itself true o t = refl
      itself false o t = absurd (cc)

      more : (b : Bool) (o : Option ℕ) → is_some o ≡ true → is_some (if b then Some e.file else o) ≡ true
      more true o t = refl
      more false o t = t

      by : (has_below es p ≡ true → (q : List ℕ) × (is_some (at_key es q) ≡ true) × (key_begins (below_key p) q ≡ true))
          → (b : Bool) → is_below p e.path ≡ b → (if b then true else has_below es p) ≡ true → (q : List ℕ)
          × (is_some (if bytes_eq (folded e.path) q then Some e.file else at_key es q) ≡ true)
          × (key_begins (below_key p) q ≡ true)
      by rest true s t = (
        folded e.path,
        itself (bytes_eq (folded e.path) (folded e.path)) (at_key es (folded e.path))
            (nat_list_eq_equiv.refl (folded e.path)),
        sym (below_is p e.path n) ∙ s,
      )
      by rest false s t = let f = rest t in (f.0, more (bytes_eq (folded e.path) f.0) (at_key es f.0) f.1, f.2)

  pub shown : (es : List Entry) (q : List ℕ) → is_some (at_key es q) ≡ true → key_begins (below_key p) q ≡ true → has_below es p ≡ true
  unfolding has_below at_key
  shown [] q a b = absurd (cc)
  shown (e ∷ es) q a b = let h = shown es q in let s = bytes_same (folded e.path) q in let i = below_is p e.path n in
      grind (arith, common_steps)

  module _ (es : List Entry) (front : List ℕ) (at : List ℕ → Option ℕ) (f : front ≡ below_key p) (same : (q : List ℕ)
      → at q ≡ at_key es q) where
    there : (q : List ℕ) → is_some (at_key es q) ≡ true → is_some (at q) ≡ true
    there q e = ap is_some (same q) ∙ e

    pub next_below : (k : List ℕ) → IsNext (Some k) at front → key_begins front k ≡ has_below es p
    next_below k i = by (key_begins front k) (has_below es p) refl refl
      where
        by : (b c : Bool) → key_begins front k ≡ b → has_below es p ≡ c → b ≡ c
        by true c s t = sym (shown es k (ap is_some (sym (same k)) ∙ i.1) (ap (λ (l : List ℕ). key_begins l k) (sym f) ∙ s)) ∙ t
        by false false s t = refl
        by false true s t =
            let z = found es t in
            let g = ap (λ (l : List ℕ). key_begins l z.0) f ∙ z.2 in
            sym s ∙ front_between front k z.0 i.0 (i.2 z.0 (front_le front z.0 g) (there z.0 z.1)) g

    pub none_below : IsNext None at front → false ≡ has_below es p
    none_below i = by (has_below es p) refl
      where
        apart : (o : Option ℕ) → is_some o ≡ true → o ≡ None → false ≡ true
        apart None a b = a
        apart (Some x) a b = absurd (cc)

        by : (c : Bool) → has_below es p ≡ c → false ≡ c
        by false t = refl
        by true t =
            let z = found es t in
            let g = ap (λ (l : List ℕ). key_begins l z.0) f ∙ z.2 in
            apart (at z.0) (there z.0 z.1) (i z.0 (front_le front z.0 g))
