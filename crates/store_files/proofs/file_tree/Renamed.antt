-- The model's entries behind a rename: by number, apart, and their sums.
use Rattle.std.proofs.Common.{◌≡◌, ℕ, ◌+◌, ◌==◌, Bool, true, false, if◌then◌else◌, List, [], ◌∷◌, ◌++◌, length, Option}
use Rattle.std.proofs.Common.{Some, None, option_map, refl, sym, ap, ◌∙◌, arith}
use Rattle.std.proofs.lemmas.Grind.{common_steps}
use Rattle.std.specs.Cmp.Lexicographic.{nat_list_eq_equiv}
use Rattle.spec_exchange.specs.State.{Entry}
use Rattle.spec_exchange.specs.Files.{sizes, moved_path, moved_entry, moved_entries}
use Rattle.store_files.specs.file_tree.Moved.{after_key, name_within, moved_key}
use Rattle.store_files.specs.file_tree.Shown.{folded, at_key, path_at, FileApart}
use Rattle.store_files.proofs.file_tree.Entries.{none_if}
use Rattle.store_files.proofs.file_tree.Fronts.{folded_moved}
use Rattle.store_files.proofs.file_tree.Carried.{free_behind, front_back, moved_in, moved_out}

moved_if : (b : Bool) (f : List ℕ → List ℕ) (p : List ℕ) (o : Option (List ℕ))
    → (if b then Some (f p) else option_map f o) ≡ option_map f (if b then Some p else o)
moved_if true f p o = refl
moved_if false f p o = refl

pub path_moved : (old to : List ℕ) (es : List Entry) (g : ℕ) → path_at (moved_entries old to es) g
    ≡ option_map (λ p. moved_path old to p) (path_at es g)
unfolding path_at moved_entries moved_entry
path_moved old to [] g = refl
path_moved old to (x ∷ xs) g = rw (path_moved old to xs g) (moved_if (x.file == g) (λ p. moved_path old to p) x.path (path_at xs g))

pub length_moved : (old to : List ℕ) (es : List Entry) → length (moved_entries old to es) ≡ length es
unfolding moved_entries
length_moved old to [] = refl
length_moved old to (x ∷ xs) = let h = length_moved old to xs in grind (arith, common_steps)

pub sizes_moved : (content : ℕ → List ℕ) (old to : List ℕ) (es : List Entry) → sizes content (moved_entries old to es) ≡ sizes content es
unfolding sizes moved_entries moved_entry
sizes_moved content old to [] = refl
sizes_moved content old to (x ∷ xs) = ap (λ n. length (content x.file) + n) (sizes_moved content old to xs)

no_number : (f : List ℕ → List ℕ) (o : Option (List ℕ)) → o ≡ None → option_map f o ≡ None
no_number f None e = refl
no_number f (Some p) e = absurd (cc)

found_first : (x : Entry) (xs : List Entry) → at_key (x ∷ xs) (folded x.path) ≡ None → true ≡ false
unfolding at_key
found_first x xs n = let r = nat_list_eq_equiv.refl (folded x.path) in grind (arith, common_steps)

module _ (old to : List ℕ) (n : (length old == 0) ≡ false) where
  -- one entry's key behind the rename is no other's
  alone : (x : Entry) (xs : List Entry) → at_key xs (folded x.path) ≡ None
      → ((q : List ℕ) → name_within (after_key (folded to) q) ≡ true → name_within (after_key (folded old) q) ≡ false
      → at_key (x ∷ xs) q ≡ None)
      → at_key (moved_entries old to xs) (folded (moved_path old to x.path)) ≡ None
  unfolding name_within moved_key
  alone x xs a free = rw (folded_moved old to x.path n) (by (after_key (folded old) (folded x.path)) refl)
    where
      behind : (q : List ℕ) → name_within (after_key (folded to) q) ≡ true → name_within (after_key (folded old) q)
          ≡ false → at_key xs q ≡ None
      behind q i o = (free_behind x xs q (free q i o)).0

      stays : (b : Bool) → name_within (after_key (folded to) (folded x.path)) ≡ b
          → name_within (after_key (folded old) (folded x.path)) ≡ false → at_key (moved_entries old to xs) (folded x.path)
          ≡ None
      stays true i o = absurd (let x = found_first x xs (free (folded x.path) i o) in cc)
      stays false i o = moved_out old to (λ p. folded_moved old to p n) xs (folded x.path) i
          ∙ none_if (name_within (after_key (folded old) (folded x.path))) (at_key xs (folded x.path)) a

      put : (b : Bool) (rest : List ℕ) → after_key (folded old) (folded x.path) ≡ Some rest → name_within (Some rest) ≡ b
          → at_key (moved_entries old to xs) (if b then folded to ++ rest else folded x.path) ≡ None
      put true rest e i =
          moved_in old to (λ p. folded_moved old to p n) xs rest i behind
          ∙ (ap (at_key xs) (sym (front_back (folded old) (folded x.path) rest e)) ∙ a)
      put false rest e i = stays (name_within (after_key (folded to) (folded x.path))) refl (ap name_within e ∙ i)

      by : (o : Option (List ℕ)) → after_key (folded old) (folded x.path) ≡ o → at_key (moved_entries old to xs)
          (moved_key (name_within o) (folded to) o (folded x.path)) ≡ None
      by None e = stays (name_within (after_key (folded to) (folded x.path))) refl (ap name_within e)
      by (Some rest) e = put (name_within (Some rest)) rest e refl

  pub apart_moved : (es : List Entry) → FileApart es
      → ((q : List ℕ) → name_within (after_key (folded to) q) ≡ true → name_within (after_key (folded old) q) ≡ false → at_key es q ≡ None)
      → FileApart (moved_entries old to es)
  unfolding moved_entries moved_entry
  apart_moved [] a free = tt
  apart_moved (x ∷ xs) a free = (
    alone x xs a.0 free,
    path_moved old to xs x.file ∙ no_number (λ p. moved_path old to p) (path_at xs x.file) a.1,
    apart_moved xs a.2 (λ q i o. (free_behind x xs q (free q i o)).0),
  )
