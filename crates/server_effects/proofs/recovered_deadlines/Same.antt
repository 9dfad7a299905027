-- What files are found by, and what a rename is refused by, looks at no deadline.
use Rattle.std.proofs.Common.{◌≡◌, ℕ, ◌==◌, Bool, not, ◌&&◌, if◌then◌else◌, List, [], ◌∷◌, Option, Some, None, is_some, refl, ap, ◌∙◌}
use Rattle.spec_exchange.specs.CheckOpen.{target_of}
use Rattle.spec_exchange.specs.Effects.{change_acts, new_file}
use Rattle.spec_exchange.specs.Files.{find, has_parent, is_directory, is_found_directory, path_of, root}
use Rattle.spec_exchange.specs.State.{Server}
use Rattle.spec_exchange.specs.Status.{access_denied, invalid_parameter, object_name_collision, object_path_not_found}
use Rattle.spec_exchange.specs.Texts.{is_below, parent_of}
use Rattle.spec_exchange.specs.Verdict.{Change, PutBasic, PutBytes, PutDeletePending, PutEnd, PutNothing, PutPath}
use Rattle.store_files.specs.file_tree.Moved.{move_refusal, target_is_directory, target_refusal}

abbrev pub with : Server → (ℕ → Option ℕ) → Server
with s f = record s { deadline = f }

either : {X : Type 0} (b c : Bool) (x y u v : X) → b ≡ c → x ≡ u → y ≡ v → (if b then x else y) ≡ (if c then u else v)
either b c x y u v e h k = λ t. if e t then h t else k t

pub found : (s : Server) (f : ℕ → Option ℕ) (path : List ℕ) → find (with s f) path ≡ find s path
unfolding find
found s f [] = refl
found s f (c ∷ cs) = refl

found_directory : (s : Server) (f : ℕ → Option ℕ) (o : Option ℕ) → is_found_directory (with s f) o ≡ is_found_directory s o
unfolding is_found_directory is_directory
found_directory s f None = refl
found_directory s f (Some g) = refl

pub parent : (s : Server) (f : ℕ → Option ℕ) (path : List ℕ) → has_parent (with s f) path ≡ has_parent s path
unfolding has_parent
parent s f path = ap (is_found_directory (with s f)) (found s f (parent_of path)) ∙ found_directory s f (find s (parent_of path))

target_directory : (s : Server) (f : ℕ → Option ℕ) (o : Option ℕ) → target_is_directory (with s f) o ≡ target_is_directory s o
unfolding is_directory
target_directory s f None = refl
target_directory s f (Some g) = refl

target : (s : Server) (f : ℕ → Option ℕ) (x : ℕ) (replace : Bool) (to : List ℕ) → target_refusal (with s f) x replace to
    ≡ target_refusal s x replace to
target s f x replace to =
    either _ _ (Some object_name_collision) _ _ _ (ap (λ (o : Option ℕ). not replace && is_some o) (found s f to)) refl
    (either _ _ (Some access_denied) None _ _ (ap (λ (o : Option ℕ). target_is_directory (with s f) (target_of x o)) (found s f to)
    ∙ target_directory s f (target_of x (find s to))) refl refl)

pub refusal : (s : Server) (f : ℕ → Option ℕ) (x : ℕ) (replace : Bool) (to : List ℕ) → move_refusal (with s f) x replace to
    ≡ move_refusal s x replace to
unfolding is_directory path_of
refusal s f x replace to =
    either (x == root) _ (Some access_denied) _ _ _ refl refl
    (either (is_directory (with s f) x && is_below (path_of (with s f) x) to) _ (Some invalid_parameter) _ _ _ refl refl
    (either _ _ (Some object_path_not_found) _ _ _ (ap not (parent s f to)) refl (target s f x replace to)))

pub made : (s : Server) (f : ℕ → Option ℕ) (o : Option ℕ) → new_file (with s f) o ≡ new_file s o
made s f None = refl
made s f (Some g) = refl

pub acts : (s : Server) (f : ℕ → Option ℕ) (x now : ℕ) (c : Change) → change_acts (with s f) x now c ≡ change_acts s x now c
unfolding path_of
acts s f x now (PutBytes at bytes) = refl
acts s f x now (PutEnd size) = refl
acts s f x now (PutBasic basic) = refl
acts s f x now (PutDeletePending flag) = refl
acts s f x now (PutPath replaced path) = refl
acts s f x now PutNothing = refl
