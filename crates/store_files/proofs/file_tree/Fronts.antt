-- A moved path's key is the moved key.
use Rattle.std.proofs.Common.{◌≡◌, ℕ, ◌==◌, Bool, true, false, if◌then◌else◌, List, [], ◌∷◌, ◌++◌, length, Option, Some}
use Rattle.std.proofs.Common.{None, option_map, refl, sym, ap, ◌∙◌, arith}
use Rattle.std.proofs.lemmas.Grind.{common_steps}
use Rattle.std.proofs.lemmas.List.{append-nil}
use Rattle.std.specs.Char.{to_ascii_uppercase}
use Rattle.spec_exchange.specs.Texts.{upper, same_name, after_name, begins_below, is_below}
use Rattle.spec_exchange.specs.Files.{path_behind, moved_path}
use Rattle.store_files.specs.file_tree.Moved.{after_key, name_within, moved_key}
use Rattle.store_files.specs.file_tree.Shown.{folded}
use Rattle.store_files.proofs.file_tree.Keys.{upper_is}

folded_after : (b : Bool) (o : Option (List ℕ)) → option_map folded (if b then o else None) ≡ (if b then option_map folded o else None)
folded_after true o = refl
folded_after false o = refl

pub after_folded : (a b : List ℕ) → option_map folded (after_name a b) ≡ after_key (folded a) (folded b)
unfolding after_name after_key
after_folded [] b = refl
after_folded (x ∷ xs) [] = refl
after_folded (x ∷ xs) (y ∷ ys) = folded_after (upper x == upper y) (after_name xs ys) ∙ rw (upper_is x, upper_is y, after_folded xs ys) refl

abbrev is_nothing : List ℕ → Bool
is_nothing [] = true
is_nothing (c ∷ cs) = false

pub same_if : (a b rest : List ℕ) → after_name a b ≡ Some rest → same_name a b ≡ is_nothing rest
unfolding same_name after_name
same_if [] [] rest e = ap (λ (o : Option (List ℕ)). elim o [ None ↦ true | Some r ↦ is_nothing r ]) e
same_if [] (y ∷ ys) rest e = ap (λ (o : Option (List ℕ)). elim o [ None ↦ true | Some r ↦ is_nothing r ]) e
same_if (x ∷ xs) [] rest e = absurd (cc)
same_if (x ∷ xs) (y ∷ ys) rest e = let h = same_if xs ys rest in grind (arith, common_steps)

folded_append : (a b : List ℕ) → folded (a ++ b) ≡ folded a ++ folded b
folded_append [] b = refl
folded_append (x ∷ xs) b = ap (λ l. to_ascii_uppercase x ∷ l) (folded_append xs b)

slash_is : (c : ℕ) → (c == 92) ≡ (to_ascii_uppercase c == 92)
slash_is c = grind arith

put : (b : Bool) (to rest path : List ℕ) → folded (if b then to ++ rest else path) ≡ (if b then folded to ++ folded rest else folded path)
put true to rest path = folded_append to rest
put false to rest path = refl

pub below_if : (old path : List ℕ) (o : Option (List ℕ)) → (length old == 0) ≡ false → after_name old path ≡ o
    → is_below old path ≡ begins_below o
unfolding is_below
below_if [] path o n e = grind arith
below_if (x ∷ xs) path o n e = ap begins_below e

pub folded_moved : (old to path : List ℕ) → (length old == 0) ≡ false → folded (moved_path old to path)
    ≡ moved_key (name_within (after_key (folded old) (folded path))) (folded to) (after_key (folded old) (folded path))
    (folded path)
unfolding moved_path path_behind moved_key name_within begins_below
folded_moved old to path n = by (after_name old path) refl
  where
    by : (o : Option (List ℕ)) → after_name old path ≡ o → folded (path_behind old to path o)
        ≡ moved_key (name_within (after_key (folded old) (folded path))) (folded to) (after_key (folded old) (folded path))
        (folded path)
    by None e = rw (sym (after_folded old path), e) refl
    by (Some []) e = rw (sym (after_folded old path), e, same_if old path [] e) (sym (append-nil (folded to)))
    by (Some (c ∷ cs)) e = rw (
      sym (after_folded old path),
      e,
      same_if old path (c ∷ cs) e,
      below_if old path (Some (c ∷ cs)) n e,
      sym (slash_is c),
    ) (put (c == 92) to (c ∷ cs) path)
