-- A directory in which something stands.
use Rattle.std.proofs.Common.{◌≡◌, ℕ, ◌==◌, Bool, true, false, not, ◌&&◌, ◌||◌, if◌then◌else◌, List, [], ◌∷◌, length}
use Rattle.std.proofs.Common.{Option, Some, None, unwrap_or, refl, sym, ap, ◌∙◌, arith}
use Rattle.std.proofs.lemmas.Grind.{common_steps}
use Rattle.std.specs.Str.{bytes_eq}
use Rattle.spec_exchange.specs.State as model
use Rattle.spec_exchange.specs.Content.{same_bytes}
use Rattle.spec_exchange.specs.Texts.{is_below}
use Rattle.spec_exchange.specs.Files.{exists, exists_in, is_directory, path_of, path_in, has_below, is_full_directory}
use Rattle.store_files.specs.declared.file_tree.row.Row.{Row}
use Rattle.store_files.specs.file_tree.Shown.{FileRowFound, RowOrRoot, path_at, at_key, folded, FileApart}
use Rattle.store_files.proofs.file_tree.Keys.{path_is, exists_is}
use Rattle.store_files.proofs.file_tree.Entries.{key_of_path}
use Rattle.store_files.proofs.file_tree.Found.{found_directory, found_path, none_found, zero}

not_empty : (p : List ℕ) (f : ℕ) (o : Option ℕ) → (if bytes_eq (folded p) [] then Some f else o) ≡ None → is_below [] p ≡ true
unfolding is_below same_bytes
not_empty [] f o e = absurd (cc)
not_empty (c ∷ cs) f o e = refl

any_below : (es : List model.Entry) → at_key es [] ≡ None → not (length es == 0) ≡ has_below es []
unfolding at_key has_below
any_below [] n = refl
any_below (e ∷ es) n = let k = not_empty e.path e.file (at_key es []) n in grind (arith, common_steps)

no_path : (o : Option (List ℕ)) → o ≡ None → unwrap_or o [] ≡ []
no_path None e = refl
no_path (Some x) e = absurd (cc)

pub root_full : (s : model.Server) → at_key s.entries [] ≡ None → path_at s.entries 0 ≡ None
    → not (length s.entries == 0) ≡ is_full_directory s 0
unfolding is_full_directory is_directory path_of
root_full s n z = any_below s.entries n ∙ ap (has_below s.entries) (sym (path_is s.entries 0 ∙ no_path (path_at s.entries 0) z))

pub row_full : (s : model.Server) (f : ℕ) (r : Row) → path_at s.entries 0 ≡ None → FileRowFound (Some r) s f
    → (r.directory && has_below s.entries r.path) ≡ is_full_directory s f
unfolding is_full_directory
row_full s f r z h = rw (found_directory s f r h, found_path s f r z h) refl

some_none : (f : ℕ) (o : Option ℕ) → o ≡ Some f → o ≡ None → true ≡ false
some_none f None a b = absurd (cc)
some_none f (Some x) a b = absurd (cc)

pub path_filled : (es : List model.Entry) (f : ℕ) (p : List ℕ) → FileApart es → at_key es [] ≡ None → path_at es f ≡ Some p
    → (length p == 0) ≡ false
path_filled es f [] a n e = some_none f (at_key es []) (key_of_path es f [] a e) n
path_filled es f (c ∷ cs) a n e = grind arith

pub row_filled : (s : model.Server) (f : ℕ) (r : Row) → FileApart s.entries → at_key s.entries [] ≡ None → (f == 0) ≡ false
    → FileRowFound (Some r) s f → (length r.path == 0) ≡ false
row_filled s f r a n z h = by (f == 0) z h
  where
    by : (b : Bool) → b ≡ false → RowOrRoot b (Some r) s f → (length r.path == 0) ≡ false
    by true e h = absurd (cc)
    by false e h = path_filled s.entries f r.path a n h.0

pub there_in : (s : model.Server) (f : ℕ) → (f == 0) ≡ false → exists s f ≡ true → exists_in s.entries f ≡ true
unfolding exists
there_in s f z e = grind (arith, common_steps)

pub in_there : (s : model.Server) (f : ℕ) → exists_in s.entries f ≡ true → exists s f ≡ true
unfolding exists
in_there s f e = rw e (either (f == 0))
  where
    either : (b : Bool) → (b || true) ≡ true
    either true = refl
    either false = refl

-- what has an entry is not the root
pub there_apart : (s : model.Server) (f : ℕ) → path_at s.entries 0 ≡ None → exists_in s.entries f ≡ true → (f == 0) ≡ false
there_apart s f n e = by (f == 0) refl
  where
    by : (b : Bool) → (f == 0) ≡ b → b ≡ false
    by false z = refl
    by true z = sym (none_found (path_at s.entries 0) n (sym (exists_is s.entries 0) ∙ (ap (exists_in s.entries) (sym (zero f z)) ∙ e)))

-- a directory that may go has nothing below it
pub not_full : (s : model.Server) (f : ℕ) (p : List ℕ) → path_at s.entries f ≡ Some p → is_full_directory s f ≡ false
    → (s.directory f && has_below s.entries p) ≡ false
unfolding is_full_directory is_directory path_of
not_full s f p e n = off (f == 0) (s.directory f) (has_below s.entries p)
    (ap (λ (l : List ℕ). ((f == 0) || s.directory f) && has_below s.entries l) (sym same) ∙ n)
  where
    same : path_in s.entries f ≡ p
    same = path_is s.entries f ∙ ap (λ (o : Option (List ℕ)). unwrap_or o []) e

    off : (b c d : Bool) → ((b || c) && d) ≡ false → (c && d) ≡ false
    off b false d e = refl
    off true true d e = e
    off false true d e = e
