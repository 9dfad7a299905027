-- Names of entries are components: not empty, not `.` and not `..`.
use Rattle.std.proofs.Common.{◌≡◌, ℕ, ◌==◌, Bool, true, false, if◌then◌else◌, List, [], ◌∷◌, ◌++◌, length, Some, None, refl, arith}
use Rattle.std.proofs.lemmas.Grind.{common_steps}
use Rattle.spec_exchange.specs.Status.{invalid_parameter, object_name_invalid}
use Rattle.spec_exchange.specs.State.{Entry}
use Rattle.spec_exchange.specs.Files.{without_file}
use Rattle.store_files.specs.file_tree.Shown.{AllPlain}
use Rattle.spec_exchange.specs.Commands.{path_form}
use Rattle.spec_exchange.specs.Listing.{rank}
use Rattle.spec_exchange.specs.Texts.{is_component, components_from, is_path, leaf_from, leaf_of, begins_with_backslash}

leaf_component : (name p : List ℕ) → components_from name p ≡ true → is_component (leaf_from name p) ≡ true
unfolding components_from leaf_from
leaf_component name [] e = e
leaf_component name (c ∷ cs) e = let h = leaf_component [] cs in let g = leaf_component (name ++ c ∷ []) cs in grind (arith, common_steps)

form_path : (p : List ℕ) → path_form p ≡ None → is_path p ≡ true
unfolding path_form
form_path p e = by (begins_with_backslash p) (is_path p) e
  where
    by : (b c : Bool) → (if b then Some invalid_parameter else if c then None else Some object_name_invalid) ≡ None → c ≡ true
    by true c e = absurd (cc)
    by false true e = refl
    by false false e = absurd (cc)

pub made_leaf : (p : List ℕ) → (length p == 0) ≡ false → path_form p ≡ None → is_component (leaf_of p) ≡ true
unfolding is_path leaf_of
made_leaf [] n e = absurd (cc)
made_leaf (c ∷ cs) n e = let h = form_path (c ∷ cs) e in let l = leaf_component [] (c ∷ cs) in grind (arith, common_steps)

leaf_from_behind : (leaf d rest : List ℕ) → leaf_from leaf (d ++ 92 ∷ rest) ≡ leaf_from [] rest
unfolding leaf_from
leaf_from_behind leaf [] rest = refl
leaf_from_behind leaf (c ∷ cs) rest = let h = leaf_from_behind [] cs rest in let g = leaf_from_behind (leaf ++ c ∷ [])
    cs rest in grind (arith, common_steps)

-- the name depends on what stands behind the last backslash alone
pub leaf_behind : (d rest : List ℕ) → leaf_of (d ++ 92 ∷ rest) ≡ leaf_of rest
unfolding leaf_of
leaf_behind d rest = leaf_from_behind [] d rest

pub component_rank : (name : List ℕ) → is_component name ≡ true → rank name ≡ 2
unfolding is_component rank
component_rank name e = grind (arith, common_steps)

-- ---- one more, and one less

pub made_front : (p : List ℕ) → path_form p ≡ None → begins_with_backslash p ≡ false
unfolding path_form
made_front p e = by (begins_with_backslash p) (is_path p) e
  where
    by : (b c : Bool) → (if b then Some invalid_parameter else if c then None else Some object_name_invalid) ≡ None → b ≡ false
    by true c e = absurd (cc)
    by false c e = refl

pub plain_added : (es : List Entry) (e : Entry) → AllPlain es → is_component (leaf_of e.path) ≡ true
    → begins_with_backslash e.path ≡ false → AllPlain (es ++ e ∷ [])
plain_added [] e h l b = (l, b, tt)
plain_added (x ∷ xs) e h l b = (h.0, h.1, plain_added xs e h.2 l b)

plain_if : (b : Bool) (x : Entry) (xs ys : List Entry) → AllPlain (x ∷ xs) → AllPlain ys → AllPlain (if b then ys else x ∷ ys)
plain_if true x xs ys h m = m
plain_if false x xs ys h m = (h.0, h.1, m)

pub plain_gone : (es : List Entry) (f : ℕ) → AllPlain es → AllPlain (without_file f es)
unfolding without_file
plain_gone [] f h = tt
plain_gone (x ∷ xs) f h = plain_if (x.file == f) x xs (without_file f xs) h (plain_gone xs f h.2)
