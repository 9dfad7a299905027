-- What a row that was found says of its file.
use Rattle.std.proofs.Common.{◌≡◌, ℕ, ◌==◌, Bool, true, false, ◌||◌, if◌then◌else◌, List, [], ◌∷◌, length, Option, Some}
use Rattle.std.proofs.Common.{None, is_some, unwrap_or, refl, sym, ap, ◌∙◌, arith}
use Rattle.std.proofs.lemmas.Grind.{common_steps}
use Rattle.std.specs.Str.{bytes_eq}
use Rattle.std.specs.String.{string_bytes}
use Rattle.spec_exchange.specs.State as model
use Rattle.spec_exchange.specs.Files.{exists, exists_in, is_directory, info_of, path_of, find}
use Rattle.store_files.specs.declared.file_tree.row.Row.{Row}
use Rattle.store_files.specs.declared.file_tree.row.Info.{Info}
use Rattle.store_files.specs.file_tree.Shown.{RowOrRoot, FileRowFound, InfoIs, model_info, path_at, at_key, folded, below_key}
use Rattle.store_files.proofs.file_tree.Keys.{exists_is, path_is, find_is}

some_same : (a b : ℕ) → Some a ≡ Some b → a ≡ b
some_same a b e = grind (arith, common_steps)

or_true : (a b : Bool) → b ≡ true → (a || b) ≡ true
or_true true b e = refl
or_true false b e = e

pub zero : (f : ℕ) → (f == 0) ≡ true → f ≡ 0
zero f e = grind arith

same_info : (a b : model.Info) → a.file ≡ b.file → a.is_directory ≡ b.is_directory → a.size ≡ b.size
    → a.is_delete_pending ≡ b.is_delete_pending → a.times ≡ b.times → a ≡ b
same_info a b p q r s t = λ i. record { file = p i; is_directory = q i; size = r i; is_delete_pending = s i; times = t i }

pub found_info : (s : model.Server) (f : ℕ) (r : Row) (i : Info) → FileRowFound (Some r) s f → InfoIs i f r → model_info i ≡ info_of s f
unfolding info_of is_directory
found_info s f r i h is = by (f == 0) refl h
  where
    by : (b : Bool) → (f == 0) ≡ b → RowOrRoot b (Some r) s f → model_info i ≡ record {
      file = f;
      is_directory = (f == 0) || s.directory f;
      size = length (s.content f);
      is_delete_pending = s.delete_pending f;
      times = s.basic f;
    }
    by true e h = let z = zero f e in
        same_info _ _ is.file_is (is.directory_is ∙ (sym h.1.directory_is ∙ ap (λ b. b || s.directory f) (sym e)))
        (is.length_is (s.content 0) h.1.content_is ∙ ap (λ g. length (s.content g)) (sym z))
        (is.marked_is ∙ (sym h.1.delete_pending_is ∙ ap (λ g. s.delete_pending g) (sym z)))
        (is.basic_is ∙ (sym h.1.basic_is ∙ ap (λ g. s.basic g) (sym z)))
    by false e h =
        same_info _ _ is.file_is (is.directory_is ∙ (sym h.1.directory_is ∙ ap (λ b. b || s.directory f) (sym e)))
        (is.length_is (s.content f) h.1.content_is) (is.marked_is ∙ sym h.1.delete_pending_is)
        (is.basic_is ∙ sym h.1.basic_is)

pub none_found : (o : Option (List ℕ)) → o ≡ None → is_some o ≡ true → false ≡ true
none_found None a b = b
none_found (Some x) a b = absurd (cc)

pub exists_found : (s : model.Server) (f : ℕ) (r : Row) → FileRowFound (Some r) s f → true ≡ exists s f
unfolding exists
exists_found s f r h = by (f == 0) h
  where
    by : (b : Bool) → RowOrRoot b (Some r) s f → true ≡ (b || exists_in s.entries f)
    by true h = refl
    by false h = sym (exists_is s.entries f ∙ ap is_some h.0)

pub exists_missing : (s : model.Server) (f : ℕ) → FileRowFound None s f → false ≡ exists s f
unfolding exists
exists_missing s f h = by (f == 0) h
  where
    by : (b : Bool) → RowOrRoot b None s f → false ≡ (b || exists_in s.entries f)
    by true h = absurd h
    by false h = sym (exists_is s.entries f ∙ ap is_some h)

pub never_missing : (s : model.Server) (f : ℕ) → FileRowFound None s f → exists s f ≡ true → false ≡ true
unfolding exists
never_missing s f h e = by (f == 0) h e
  where
    by : (b : Bool) → RowOrRoot b None s f → (b || exists_in s.entries f) ≡ true → false ≡ true
    by true h e = absurd h
    by false h e = none_found (path_at s.entries f) h (sym (exists_is s.entries f) ∙ e)

unwrapped : (o : Option (List ℕ)) (p : List ℕ) → o ≡ Some p → p ≡ unwrap_or o []
unwrapped None p e = absurd (cc)
unwrapped (Some x) p e = grind (arith, common_steps)

empty_path : (o : Option (List ℕ)) → o ≡ None → [] ≡ unwrap_or o []
empty_path None e = refl
empty_path (Some x) e = absurd (cc)

pub found_path : (s : model.Server) (f : ℕ) (r : Row) → path_at s.entries 0 ≡ None → FileRowFound (Some r) s f → r.path ≡ path_of s f
unfolding path_of
found_path s f r n h = by (f == 0) refl h ∙ sym (path_is s.entries f)
  where
    by : (b : Bool) → (f == 0) ≡ b → RowOrRoot b (Some r) s f → r.path ≡ unwrap_or (path_at s.entries f) []
    by true e h = h.0 ∙ empty_path (path_at s.entries f) (ap (λ g. path_at s.entries g) (zero f e) ∙ n)
    by false e h = unwrapped (path_at s.entries f) r.path h.0

pub missing_path : (s : model.Server) (f : ℕ) → FileRowFound None s f → [] ≡ path_of s f
unfolding path_of
missing_path s f h = by (f == 0) h ∙ sym (path_is s.entries f)
  where
    by : (b : Bool) → RowOrRoot b None s f → [] ≡ unwrap_or (path_at s.entries f) []
    by true h = absurd h
    by false h = empty_path (path_at s.entries f) h

pub never_long : (p : List ℕ) → p ≡ [] → (length p == 0) ≡ false → true ≡ false
never_long p e n = ap (λ (q : List ℕ). length q == 0) (sym e) ∙ n

pub found_directory : (s : model.Server) (f : ℕ) (r : Row) → FileRowFound (Some r) s f → r.directory ≡ is_directory s f
unfolding is_directory
found_directory s f r h = by (f == 0) refl h
  where
    by : (b : Bool) → (f == 0) ≡ b → RowOrRoot b (Some r) s f → r.directory ≡ ((f == 0) || s.directory f)
    by true e h = sym h.1.directory_is ∙ ap (λ b. b || s.directory f) (sym e)
    by false e h = sym h.1.directory_is ∙ ap (λ b. b || s.directory f) (sym e)

-- what a path finds is there
there_if : (b : Bool) (e f : ℕ) (o : Option ℕ) (there : Bool) → (o ≡ Some f → there ≡ true) → (if b then Some e else o)
    ≡ Some f → (if e == f then true else there) ≡ true
there_if b e f o there h g = grind (arith, common_steps)

pub key_there : (es : List model.Entry) (q : List ℕ) (f : ℕ) → at_key es q ≡ Some f → exists_in es f ≡ true
unfolding at_key exists_in
key_there [] q f e = absurd (cc)
key_there (x ∷ xs) q f e = there_if (bytes_eq (folded x.path) q) x.file f (at_key xs q) (exists_in xs f) (key_there xs q f) e

pub found_there : (s : model.Server) (p : List ℕ) (f : ℕ) → find s p ≡ Some f → exists s f ≡ true
unfolding find exists
found_there s [] f e = let z = some_same 0 f e in grind (arith, common_steps)
found_there s (c ∷ cs) f e = or_true (f == 0) (exists_in s.entries f)
    (key_there s.entries (folded (c ∷ cs)) f (sym (find_is s.entries (c ∷ cs)) ∙ e))

pub found_below : (s : model.Server) (f : ℕ) (r : Row) → FileRowFound (Some r) s f → (length r.path == 0) ≡ false
    → r.directory ≡ true → string_bytes r.below ≡ below_key r.path
found_below s f r h n d = by (f == 0) h
  where
    by : (b : Bool) → RowOrRoot b (Some r) s f → string_bytes r.below ≡ below_key r.path
    by true h = h.1.below_is n d
    by false h = h.1.below_is n d
