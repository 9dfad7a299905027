-- What a create makes of its file, what an open leaves of its own, and paths.
use Rattle.std.proofs.Common.{◌≡◌, ℕ, ◌==◌, nat_le, Bool, true, false, if◌then◌else◌, List, [], ◌∷◌}
use Rattle.std.proofs.Common.{Some, None, refl, subst, arith, eqb-true, slice_get}
use Rattle.std.proofs.lemmas.Bool.Decides.{nat_tests}
use Rattle.spec_exchange.specs.Commands.{deletes_on_close, path_form}
use Rattle.spec_exchange.specs.Status.{invalid_parameter, object_name_invalid}
use Rattle.spec_exchange.specs.State.{Server, NewOpen, Range}
use Rattle.spec_exchange.specs.Texts.{is_path, begins_with_backslash, components_from, is_component, utf16_length}
use Rattle.spec_exchange.specs.Content.{same_bytes}
use Rattle.spec_exchange.specs.Files.{root, exists, exists_in, make_file, empty_file}
use Rattle.spec_exchange.specs.Fold.{may_make, may_create, may_restore, created_file}
use Rattle.spec_exchange.specs.Opens.{pending_behind}
use Rattle.law_server.specs.tables.Fits.{Fits}
use Rattle.law_server.proofs.tables.Logic.{either, front_of, back_of, other_on}
use Rattle.law_server.proofs.tables.Lists.{exists-pushed}
use Rattle.law_server.proofs.tables.FileEffects.{make_file_keeps, set_delete_pending_keeps}
use Rattle.law_server.proofs.tables.Applied.{empty_file_keeps}

pub created_fits : (s : Server) (action f : ℕ) (path : List ℕ) (attributes : ℕ) (is_dir : Bool) (time : ℕ) → Fits s
    → Fits (created_file s action f path attributes is_dir time)
created_fits s action f path attributes is_dir time i =
    either (λ u. Fits u) (action == 2) _ _ (λ _. make_file_keeps s path is_dir attributes time i)
    (λ _. either (λ u. Fits u) (action == 1) _ _ (λ _. i) (λ _. empty_file_keeps s f attributes time i))

made_there : (s : Server) (f : ℕ) (path : List ℕ) (is_dir : Bool) (attributes time : ℕ) → may_make s f path ≡ true
    → exists (make_file s path is_dir attributes time) f ≡ true
unfolding may_make exists
made_there s f path is_dir attributes time h =
    let e = eqb-true f s.next_file (front_of (f == s.next_file) _ h) in let more = exists-pushed s.entries (record {
      file = s.next_file;
      path = path;
    }) f in grind arith

emptied_there : (s : Server) (f attributes time : ℕ) → exists s f ≡ true → exists (empty_file s f attributes time) f ≡ true
unfolding exists
emptied_there s f attributes time h = h

pub created_there : (s : Server) (action f : ℕ) (path : List ℕ) (attributes : ℕ) (is_dir : Bool) (time : ℕ)
    → may_create s action f path ≡ true → exists (created_file s action f path attributes is_dir time) f ≡ true
unfolding may_create
created_there s action f path attributes is_dir time may =
    either (λ u. exists u f ≡ true) (action == 2) _ _
    (λ e. made_there s f path is_dir attributes time (grind arith))
    (λ e. either (λ u. exists u f ≡ true) (action == 1) _ _ (λ h. grind arith)
    (λ h. emptied_there s f attributes time (grind arith)))

pub created_free : (s : Server) (action f : ℕ) (path : List ℕ) (attributes : ℕ) (is_dir : Bool) (time : ℕ) (n : NewOpen)
    → may_restore (created_file s action f path attributes is_dir time) n ≡ may_restore s n
unfolding may_restore
created_free s action f path attributes is_dir time n =
    either (λ u. may_restore u n ≡ may_restore s n) (action == 2) (make_file s path is_dir attributes time) _ (λ _. refl)
    (λ _. either (λ u. may_restore u n ≡ may_restore s n) (action == 1) s (empty_file s f attributes time) (λ _. refl) (λ _. refl))

-- ---- a number that no file has yet

none_among : (rs : List Range) → ((n : ℕ) (r : Range) → slice_get rs n ≡ Some r → ⊥) → rs ≡ []
none_among [] h = refl
none_among (r ∷ rs) h = absurd (h 0 r refl)

pub not_yet : (s : Server) → Fits s → exists s s.next_file ≡ true → ⊥
unfolding exists
not_yet s i e =
    let above = i.next_file in
    let off : (s.next_file == root) ≡ false = grind (arith, nat_tests) in
    let there = other_on (s.next_file == root) (exists_in s.entries s.next_file) e off in
    let below = (i.file_numbers s.next_file there).1 in
    omega (arith, below)

pub unlocked : (s : Server) → Fits s → s.ranges s.next_file ≡ []
unlocked s i = none_among (s.ranges s.next_file) (λ n r h.
    let own = i.range_owners s.next_file n r h in
    not_yet s i (subst (λ (g : ℕ). exists s g ≡ true) own.1 (i.open_files r.owner own.0)))

-- ---- an open that leaves

pub marked_fits : (s : Server) (o : ℕ) → Fits s → Fits (pending_behind s o)
marked_fits s o i =
    either (λ t. Fits t) (deletes_on_close (s.opened o).options) _ _
    (λ d. set_delete_pending_keeps s (s.opened o).file true (λ _. i.not_root o d) i) (λ _. i)

-- ---- paths

starts_plain : (path : List ℕ) → is_path path ≡ true → begins_with_backslash path ≡ false
unfolding is_path begins_with_backslash components_from is_component same_bytes
starts_plain [] h = refl
starts_plain (c ∷ cs) h = by (c == 92) _ (back_of (nat_le (utf16_length (c ∷ cs)) 1024) (components_from [] (c ∷ cs)) h)
  where
    by : (b : Bool) (x : Bool) → (if b then false else x) ≡ true → b ≡ false
    by true x e = absurd (cc)
    by false x e = refl

pub form_of_path : (path : List ℕ) → is_path path ≡ true → path_form path ≡ None
unfolding path_form
form_of_path path h = by (begins_with_backslash path) (is_path path) (starts_plain path h) h
  where
    by : (b p : Bool) → b ≡ false → p ≡ true → (if b then Some invalid_parameter else if p then None else Some object_name_invalid) ≡ None
    by true p e i = absurd (cc)
    by false true e i = refl
    by false false e i = absurd (cc)

pub path_of_form : (path : List ℕ) → path_form path ≡ None → is_path path ≡ true
unfolding path_form
path_of_form path h = by (begins_with_backslash path) (is_path path) h
  where
    by : (b p : Bool) → (if b then Some invalid_parameter else if p then None else Some object_name_invalid) ≡ None → p ≡ true
    by true p e = absurd (cc)
    by false true e = refl
    by false false e = absurd (cc)
