-- Names stay components behind a rename.
use Rattle.std.proofs.Common.{◌≡◌, ◌⊎◌, inl, inr, ℕ, ◌==◌, Bool, true, false, List, [], ◌∷◌, ◌++◌, length, take, drop, refl, sym, ap, ◌∙◌}
use Rattle.std.proofs.lemmas.List.{append-nil, take-append-drop}
use Rattle.spec_exchange.specs.State.{Entry}
use Rattle.spec_exchange.specs.Texts.{is_component, leaf_of, begins_with_backslash}
use Rattle.spec_exchange.specs.Files.{moved_path, moved_entry, moved_entries}
use Rattle.store_files.specs.file_tree.Moved.{after_key, name_within}
use Rattle.store_files.specs.file_tree.Shown.{folded, AllPlain}
use Rattle.store_files.proofs.file_tree.Plain.{leaf_behind}
use Rattle.store_files.proofs.file_tree.Behind.{moved_drop, moved_stays, rest_cases}

begins_first : (a b : List ℕ) → (length a == 0) ≡ false → begins_with_backslash (a ++ b) ≡ begins_with_backslash a
unfolding begins_with_backslash
begins_first [] b n = absurd (cc)
begins_first (c ∷ cs) b n = refl

module _ (old to : List ℕ) (filled : (length old == 0) ≡ false) (to_filled : (length to == 0) ≡ false)
    (leaf : is_component (leaf_of to) ≡ true) (front : begins_with_backslash to ≡ false) where
  moved_leaf : (p : List ℕ) → is_component (leaf_of p) ≡ true → begins_with_backslash p ≡ false
      → (is_component (leaf_of (moved_path old to p)) ≡ true) × (begins_with_backslash (moved_path old to p) ≡ false)
  moved_leaf p c b = by (name_within (after_key (folded old) (folded p))) refl
    where
      name : (r : List ℕ) → drop (length old) p ≡ r → (r ≡ []) ⊎ ((l : List ℕ) × (r ≡ 92 ∷ l)) → is_component (leaf_of (to ++ r)) ≡ true
      name r e (inl z) = ap (λ (q : List ℕ). is_component (leaf_of (to ++ q))) z
          ∙ (ap (λ (q : List ℕ). is_component (leaf_of q)) (append-nil to) ∙ leaf)
      name r e (inr h) =
          let l = h.0 in
          let was : p ≡ take (length old) p ++ 92 ∷ l = sym (take-append-drop (length old) p)
          ∙ ap (λ (q : List ℕ). take (length old) p ++ q) (e ∙ h.1) in
          ap (λ (q : List ℕ). is_component (leaf_of (to ++ q))) h.1
          ∙ (ap is_component (leaf_behind to l ∙ (sym (leaf_behind (take (length old) p) l) ∙ ap leaf_of (sym was)))
          ∙ c)

      by : (w : Bool) → name_within (after_key (folded old) (folded p)) ≡ w → (is_component (leaf_of (moved_path old to p))
          ≡ true) × (begins_with_backslash (moved_path old to p) ≡ false)
      by false w = let e = moved_stays old to p filled w in (
        ap (λ (q : List ℕ). is_component (leaf_of q)) e ∙ c,
        ap begins_with_backslash e ∙ b,
      )
      by true w =
          let e = moved_drop old to p filled w in (
            ap (λ (q : List ℕ). is_component (leaf_of q)) e ∙ name (drop (length old) p) refl (rest_cases old p w),
            ap begins_with_backslash e ∙ (begins_first to (drop (length old) p) to_filled ∙ front),
          )

  pub plain_moved : (es : List Entry) → AllPlain es → AllPlain (moved_entries old to es)
  unfolding moved_entries moved_entry
  plain_moved [] h = tt
  plain_moved (x ∷ xs) h = let m = moved_leaf x.path h.0 h.1 in (m.0, m.1, plain_moved xs h.2)
