-- What a refusal that didn't come says of the state.
use Rattle.std.proofs.Common.{◌≡◌, ◌≢◌, ℕ, ◌==◌, Bool, true, false, if◌then◌else◌, List, [], ◌∷◌, length, Option, Some}
use Rattle.std.proofs.Common.{None, is_some, refl, sym, ap, ◌∙◌, arith}
use Rattle.std.specs.Str.{bytes_eq}
use Rattle.spec_exchange.specs.Status.{access_denied, object_path_not_found, object_name_collision, insufficient_resources}
use Rattle.spec_exchange.specs.State.{Server}
use Rattle.spec_exchange.specs.Commands.{path_form}
use Rattle.spec_exchange.specs.Files.{find, has_parent, is_full_directory}
use Rattle.store_files.specs.file_tree.Refusals.{form_first, make_refusal, remove_refusal}
use Rattle.store_files.proofs.file_tree.Entries.{bytes_same}

place_free : (o : Option ℕ) (c p : Bool) → (if is_some o then Some object_name_collision else if c then Some
    insufficient_resources else if p then None else Some object_path_not_found) ≡ None → o ≡ None
place_free (Some x) c p e = absurd (cc)
place_free None c p e = refl

form_free : (o r : Option ℕ) → form_first o r ≡ None → r ≡ None
form_free None r e = e
form_free (Some x) r e = absurd (cc)

form_none : (o r : Option ℕ) → form_first o r ≡ None → o ≡ None
form_none None r e = refl
form_none (Some x) r e = absurd (cc)

parent_there : (o : Option ℕ) (c p : Bool) → (if is_some o then Some object_name_collision else if c then Some
    insufficient_resources else if p then None else Some object_path_not_found) ≡ None → p ≡ true
parent_there (Some x) c p e = absurd (cc)
parent_there None true p e = absurd (cc)
parent_there None false true e = refl
parent_there None false false e = absurd (cc)

pub made_form : (s : Server) (path : List ℕ) → make_refusal s path ≡ None → path_form path ≡ None
made_form s path e = form_none (path_form path) _ e

pub made_parent : (s : Server) (path : List ℕ) → make_refusal s path ≡ None → has_parent s path ≡ true
made_parent s path e = parent_there (find s path) _ (has_parent s path) (form_free (path_form path) _ e)

pub made_find : (s : Server) (path : List ℕ) → make_refusal s path ≡ None → find s path ≡ None
made_find s path e = place_free (find s path) _ _ (form_free (path_form path) _ e)

pub find_filled : (s : Server) (p : List ℕ) → find s p ≡ None → (length p == 0) ≡ false
unfolding find
find_filled s [] e = absurd (cc)
find_filled s (c ∷ cs) e = grind arith

pub other_file : (f : ℕ) → f ≢ 0 → (f == 0) ≡ false
other_file f n = grind arith

pub root_refused : (s : Server) (f : ℕ) → (f == 0) ≡ true → remove_refusal s f ≡ Some access_denied
root_refused s f e = rw e refl

pub full_refused : (s : Server) (f : ℕ) → (f == 0) ≡ false → is_full_directory s f ≡ true → remove_refusal s f ≡ Some 0xc000_0101
full_refused s f z e = rw (z, e) refl

pub not_refused : (s : Server) (f : ℕ) → (f == 0) ≡ false → is_full_directory s f ≡ false → remove_refusal s f ≡ None
not_refused s f z e = rw (z, e) refl

pub cancelled : (key q : List ℕ) (new old : Option ℕ) (n : ℕ) (at : List ℕ → Option ℕ) → at key ≡ None → new
    ≡ (if bytes_eq key q then None else old) → old ≡ (if bytes_eq key q then Some n else at q) → new ≡ at q
cancelled key q new old n at z a b = by (bytes_eq key q) refl a b
  where
    by : (c : Bool) → bytes_eq key q ≡ c → new ≡ (if c then None else old) → old ≡ (if c then Some n else at q) → new ≡ at q
    by true e a b = a ∙ (sym z ∙ ap at (bytes_same key q e))
    by false e a b = a ∙ b
