-- A path behind another front: what follows the old front, and where a character begins.
use Rattle.std.proofs.Common.{◌≡◌, ◌⊎◌, inl, inr, ℕ, ◌+◌, ◌<◌, ◌==◌, true, false, List, [], ◌∷◌, ◌++◌, length, get_or}
use Rattle.std.proofs.Common.{drop, Option, Some, None, option_map, refl, sym, ap, subst, ◌∙◌, arith}
use Rattle.std.proofs.lemmas.Grind.{common_steps}
use Rattle.std.proofs.lemmas.List.{append-nil, places}
use Rattle.std.proofs.lemmas.Str.{IsCharBoundary-end, IsCharBoundary-before_ascii}
use Rattle.std.specs.Str.{IsCharBoundary}
use Rattle.std.specs.Char.{to_ascii_uppercase}
use Rattle.spec_exchange.specs.Texts.{after_name, begins_below}
use Rattle.spec_exchange.specs.Files.{path_behind, moved_path}
use Rattle.store_files.specs.file_tree.Moved.{after_key, name_within}
use Rattle.store_files.specs.file_tree.Shown.{folded}
use Rattle.store_files.proofs.file_tree.Fronts.{after_folded, same_if, below_if}

-- what follows a front is the rest behind as many bytes
pub after_drop : (old p rest : List ℕ) → after_name old p ≡ Some rest → rest ≡ drop (length old) p
unfolding after_name
after_drop [] p rest e = sym (cc)
after_drop (x ∷ xs) [] rest e = absurd (cc)
after_drop (x ∷ xs) (y ∷ ys) rest e = let h = after_drop xs ys rest in grind (arith, common_steps)

after_none : (old p : List ℕ) → after_name old p ≡ None → name_within (after_key (folded old) (folded p)) ≡ false
unfolding name_within
after_none old p e = ap name_within (sym (after_folded old p) ∙ ap (option_map folded) e)

module _ (old to p : List ℕ) (n : (length old == 0) ≡ false) where
  -- a path with the old front keeps what follows it
  pub moved_drop : name_within (after_key (folded old) (folded p)) ≡ true → moved_path old to p ≡ to ++ drop (length old) p
  unfolding moved_path path_behind begins_below name_within
  moved_drop w = by (after_name old p) refl
    where
      by : (o : Option (List ℕ)) → after_name old p ≡ o → path_behind old to p o ≡ to ++ drop (length old) p
      by None e = absurd (let x = after_none old p e in cc)
      by (Some []) e = rw (same_if old p [] e) (sym (append-nil to) ∙ ap (λ (r : List ℕ). to ++ r) (after_drop old p [] e))
      by (Some (c ∷ cs)) e =
          let slash : (to_ascii_uppercase c == 92) ≡ true = ap name_within (sym (ap (option_map folded) e) ∙ after_folded old p) ∙ w in
          let plain : (c == 92) ≡ true = grind arith in
          rw (same_if old p (c ∷ cs) e, below_if old p (Some (c ∷ cs)) n e, plain)
          (ap (λ (r : List ℕ). to ++ r) (after_drop old p (c ∷ cs) e))

  -- any other path stays
  pub moved_stays : name_within (after_key (folded old) (folded p)) ≡ false → moved_path old to p ≡ p
  unfolding moved_path path_behind begins_below name_within
  moved_stays w = by (after_name old p) refl
    where
      by : (o : Option (List ℕ)) → after_name old p ≡ o → path_behind old to p o ≡ p
      by None e = refl
      by (Some []) e = absurd (let x = ap name_within (sym (ap (option_map folded) e) ∙ after_folded old p) ∙ w in cc)
      by (Some (c ∷ cs)) e =
          let slash : (to_ascii_uppercase c == 92) ≡ false = ap name_within (sym (ap (option_map folded) e) ∙ after_folded old p) ∙ w in
          let plain : (c == 92) ≡ false = grind arith in
          rw (same_if old p (c ∷ cs) e, below_if old p (Some (c ∷ cs)) n e, plain) refl

-- ---- what follows the front of a path within it

whole_length : (old p rest : List ℕ) → after_name old p ≡ Some rest → rest ≡ [] → length old ≡ length p
unfolding after_name
whole_length [] p rest e z = let x : p ≡ [] = (let y : p ≡ rest = cc in y ∙ z) in ap length (sym x)
whole_length (x ∷ xs) [] rest e z = absurd (cc)
whole_length (x ∷ xs) (y ∷ ys) rest e z = let h = whole_length xs ys rest in grind (arith, common_steps)

drop_inside : (n : ℕ) (p : List ℕ) (c : ℕ) (l : List ℕ) → drop n p ≡ c ∷ l → n < length p
drop_inside n p c l e = let x = ap length e in grind (arith, places)

drop_first : (n : ℕ) (p : List ℕ) (c : ℕ) (l : List ℕ) → drop n p ≡ c ∷ l → get_or p n 0 ≡ c
drop_first n p c l e = let x = ap (λ (q : List ℕ). get_or q 0 0) e in grind (arith, places)

module _ (old p : List ℕ) (w : name_within (after_key (folded old) (folded p)) ≡ true) where
  -- it is nothing, or goes on behind a backslash
  pub rest_cases : (drop (length old) p ≡ []) ⊎ ((l : List ℕ) × (drop (length old) p ≡ 92 ∷ l))
  unfolding name_within
  rest_cases = by (after_name old p) refl
    where
      by : (o : Option (List ℕ)) → after_name old p ≡ o → (drop (length old) p ≡ []) ⊎ ((l : List ℕ) × (drop (length old) p ≡ 92 ∷ l))
      by None e = absurd (let x = after_none old p e in cc)
      by (Some []) e = inl (sym (after_drop old p [] e))
      by (Some (c ∷ cs)) e =
          let slash : (to_ascii_uppercase c == 92) ≡ true = ap name_within (sym (ap (option_map folded) e) ∙ after_folded old p) ∙ w in
          let plain : c ≡ 92 = grind arith in
          inr (cs, sym (after_drop old p (c ∷ cs) e) ∙ ap (λ (x : ℕ). x ∷ cs) plain)

  -- a character begins there
  pub boundary : IsCharBoundary p (length old)
  boundary = by (drop (length old) p) refl rest_cases
    where
      by : (r : List ℕ) → drop (length old) p ≡ r → (r ≡ []) ⊎ ((l : List ℕ) × (r ≡ 92 ∷ l)) → IsCharBoundary p (length old)
      by r e (inl z) = front_end (after_name old p) refl (e ∙ z)
        where
          front_end : (o : Option (List ℕ)) → after_name old p ≡ o → drop (length old) p ≡ [] → IsCharBoundary p (length old)
          front_end None e d = absurd (let x = after_none old p e in cc)
          front_end (Some rest) e d =
              let l : length old ≡ length p = whole_length old p rest e (after_drop old p rest e ∙ d) in
              subst (λ n. IsCharBoundary p n) (sym l) (IsCharBoundary-end p)
      by r e (inr h) =
          let c = e ∙ h.1 in
          IsCharBoundary-before_ascii p (length old) (drop_inside (length old) p 92 h.0 c)
          (let g = drop_first (length old) p 92 h.0 c in omega arith)
