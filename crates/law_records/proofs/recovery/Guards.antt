-- What a record's guard asks of the fold's state, from the same of the server's.
use Rattle.std.proofs.Common.{◌≡◌, ℕ, ◌+◌, ◌-◌, ◌≤◌, ◌==◌, nat_lt, Bool, true, false, ◌&&◌, ◌||◌, List, [], ◌∷◌, length}
use Rattle.std.proofs.Common.{refl, arith, sym, ◌∙◌, ap, Option, Some, None}
use Rattle.std.proofs.lemmas.Bool.Decides.{nat_tests}
use Rattle.spec_exchange.specs.Table.{has}
use Rattle.spec_exchange.specs.Texts.{parent_of}
use Rattle.spec_exchange.specs.State.{Server}
use Rattle.spec_exchange.specs.Files.{root, find, find_in, path_of, path_in, exists, exists_in, is_directory}
use Rattle.spec_exchange.specs.Files.{is_found_directory, has_parent, is_full_directory, used, sizes, passes_room}
use Rattle.spec_exchange.specs.Opens.{file_has_open}
use Rattle.spec_exchange.specs.Fold.{full_room}
use Rattle.law_records.specs.recovery.Recovers.{RecordOpens}
use Rattle.law_server.specs.tables.Fits.{Listed}
use Rattle.law_records.proofs.recovery.Lists.{none_persistent}

pub same_find : (d s : Server) → d.entries ≡ s.entries → (path : List ℕ) → find d path ≡ find s path
unfolding find
same_find d s h [] = refl
same_find d s h (c ∷ cs) = ap (λ es. find_in es (c ∷ cs)) h

pub same_path : (d s : Server) → d.entries ≡ s.entries → (f : ℕ) → path_of d f ≡ path_of s f
unfolding path_of
same_path d s h f = ap (λ es. path_in es f) h

pub same_exists : (d s : Server) → d.entries ≡ s.entries → (f : ℕ) → exists d f ≡ exists s f
unfolding exists
same_exists d s h f = ap (λ es. (f == root) || exists_in es f) h

pub same_directory : (d s : Server) → d.directory ≡ s.directory → (f : ℕ) → is_directory d f ≡ is_directory s f
unfolding is_directory
same_directory d s h f = ap (λ (dir : ℕ → Bool). (f == root) || dir f) h

same_found_directory : (d s : Server) → d.directory ≡ s.directory → (x : Option ℕ) → is_found_directory d x ≡ is_found_directory s x
unfolding is_found_directory
same_found_directory d s h None = refl
same_found_directory d s h (Some f) = same_directory d s h f

pub same_parent : (d s : Server) → d.entries ≡ s.entries → d.directory ≡ s.directory → (path : List ℕ)
    → has_parent d path ≡ has_parent s path
unfolding has_parent
same_parent d s e h path = ap (is_found_directory d) (same_find d s e (parent_of path)) ∙ same_found_directory d s h
    (find s (parent_of path))

pub same_full : (d s : Server) → d.entries ≡ s.entries → d.directory ≡ s.directory → (f : ℕ) → is_full_directory d f ≡ is_full_directory s f
unfolding is_full_directory
same_full d s e h f = rw (same_directory d s h f, same_path d s e f, e) refl

same_used : (d s : Server) → d.entries ≡ s.entries → d.content ≡ s.content → used d ≡ used s
unfolding used
same_used d s e h = ap (λ c. sizes c d.entries) h ∙ ap (λ es. sizes s.content es) e

room_test : (room full used size : ℕ) (b : Bool) → room ≤ full → (nat_lt room (used + size) && b) ≡ false
    → (nat_lt full (used + size) && b) ≡ false
room_test room full used size true l h = grind (arith, nat_tests)
room_test room full used size false l h = grind (arith, nat_tests)

pub has_room : (d s : Server) (f size : ℕ) → d.entries ≡ s.entries → d.content ≡ s.content → d.room ≡ full_room
    → s.room ≤ full_room → passes_room s f size ≡ false → passes_room d f size ≡ false
unfolding passes_room
has_room d s f size e h full within fits =
    rw (same_used d s e h, h, full) (room_test s.room full_room (used s - length (s.content f)) size
    (nat_lt (length (s.content f)) size) within fits)

stays_of : (x y z : Bool) → x ≡ true → y ≡ x → z ≡ true → (y && z) ≡ true
stays_of x y z a b c = grind arith

pub none_open : (d s : Server) (f : ℕ) → RecordOpens d s → Listed s → file_has_open s f ≡ false → file_has_open d f ≡ false
unfolding file_has_open
none_open d s f h l none =
    rw (h.opens) (none_persistent s.opened d.opened s.opens f
    (λ o i p. h.opened o (stays_of (has o s.opens) (s.standing o) (s.opened o).persistent i (sym (l o)) p)) none)
