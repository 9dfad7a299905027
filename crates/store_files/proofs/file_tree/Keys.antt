-- The model's search by path is a search by key.
use Rattle.std.proofs.Common.{◌≡◌, ℕ, ◌==◌, true, false, List, [], ◌∷◌, Option, Some, None, is_some, unwrap_or, length}
use Rattle.std.proofs.Common.{refl, sym, ap, ◌∙◌, arith}
use Rattle.std.proofs.lemmas.Grind.{common_steps}
use Rattle.std.specs.Str.{bytes_eq}
use Rattle.std.specs.Char.{to_ascii_uppercase}
use Rattle.spec_exchange.specs.State.{Server, Entry}
use Rattle.spec_exchange.specs.Texts.{upper, same_name}
use Rattle.spec_exchange.specs.Files.{find_in, find, path_in, exists_in}
use Rattle.store_files.specs.file_tree.Shown.{folded, at_key, path_at}

-- the model's upper case is ASCII's
pub upper_is : (c : ℕ) → upper c ≡ to_ascii_uppercase c
unfolding upper
upper_is c = grind arith

pub same_name_is : (a b : List ℕ) → same_name a b ≡ bytes_eq (folded a) (folded b)
unfolding same_name
same_name_is [] [] = refl
same_name_is [] (y ∷ ys) = refl
same_name_is (x ∷ xs) [] = refl
same_name_is (x ∷ xs) (y ∷ ys) = rw (upper_is x, upper_is y, same_name_is xs ys) refl

pub find_is : (es : List Entry) (p : List ℕ) → find_in es p ≡ at_key es (folded p)
unfolding find_in at_key
find_is [] p = refl
find_is (e ∷ es) p = rw (same_name_is e.path p, find_is es p) refl

pub find_root : (s : Server) (p : List ℕ) → (length p == 0) ≡ true → Some 0 ≡ find s p
unfolding find
find_root s [] e = refl
find_root s (c ∷ cs) e = grind arith

pub find_other : (s : Server) (p : List ℕ) → (length p == 0) ≡ false → find s p ≡ at_key s.entries (folded p)
unfolding find
find_other s [] e = grind arith
find_other s (c ∷ cs) e = find_is s.entries (c ∷ cs)

-- ---- numbers

pub exists_is : (es : List Entry) (f : ℕ) → exists_in es f ≡ is_some (path_at es f)
unfolding exists_in path_at
exists_is [] f = refl
exists_is (e ∷ es) f = let h = exists_is es f in grind (arith, common_steps)

pub path_is : (es : List Entry) (f : ℕ) → path_in es f ≡ unwrap_or (path_at es f) []
unfolding path_in path_at
path_is [] f = refl
path_is (e ∷ es) f = let h = path_is es f in grind (arith, common_steps)

pub find_none : (s : Server) (p : List ℕ) → find s p ≡ None → at_key s.entries (folded p) ≡ None
unfolding find
find_none s [] e = absurd (cc)
find_none s (c ∷ cs) e = sym (find_is s.entries (c ∷ cs)) ∙ e

none_some : (o : Option (List ℕ)) → is_some o ≡ false → o ≡ None
none_some None e = refl
none_some (Some x) e = absurd (cc)

pub none_there : (es : List Entry) (f : ℕ) → exists_in es f ≡ false → path_at es f ≡ None
none_there es f e = none_some (path_at es f) (sym (exists_is es f) ∙ e)

some_unwrapped : (o : Option (List ℕ)) → is_some o ≡ true → o ≡ Some (unwrap_or o [])
some_unwrapped None e = absurd (cc)
some_unwrapped (Some x) e = refl

pub some_there : (es : List Entry) (f : ℕ) → exists_in es f ≡ true → path_at es f ≡ Some (path_in es f)
some_there es f e = some_unwrapped (path_at es f) (sym (exists_is es f) ∙ e) ∙ ap Some (sym (path_is es f))
