-- Opens that leave change six columns and two of the files.
use Rattle.std.proofs.Common.{◌≡◌, ℕ, Bool, true, false, List, [], ◌∷◌, None, refl, sym, ap, ◌∙◌}
use Rattle.spec_exchange.specs.Commands.{deletes_on_close}
use Rattle.spec_exchange.specs.Effects.{files_behind, leave_all, plain_of}
use Rattle.spec_exchange.specs.Files.{remove_file, set_delete_pending}
use Rattle.spec_exchange.specs.Opens.{drop_open, goes, is_kept_back, leave_open, left_file, pending_behind, without_gone}
use Rattle.spec_exchange.specs.State.{Server}
use Rattle.spec_exchange.specs.Table.{put}
use Rattle.law_server.proofs.tables.Logic.{either}
use Rattle.server_effects.specs.session_ends.Ended.{all_left, left_behind}

-- a state but for what stands of its files
abbrev pub seen : Server → Server
seen s = record s { entries = []; delete_pending = λ f. false }

gone_seen : (s : Server) (f : ℕ) → seen (without_gone s f) ≡ seen s
gone_seen s f = either (λ v. seen v ≡ seen s) (goes s f) (remove_file s f) s (λ _. refl) (λ _. refl)

settled_seen : (s : Server) (f : ℕ) → seen (left_file s f) ≡ seen s
settled_seen s f = either (λ v. seen v ≡ seen s) (is_kept_back s f) (set_delete_pending s f false) (without_gone s f)
    (λ _. refl) (λ _. gone_seen s f)

marked_seen : (s : Server) (o : ℕ) → seen (drop_open (pending_behind s o) o) ≡ seen (drop_open s o)
marked_seen s o = either (λ v. seen (drop_open v o) ≡ seen (drop_open s o)) (deletes_on_close (s.opened o).options)
    (set_delete_pending s (s.opened o).file true) s (λ _. refl) (λ _. refl)

pub left_seen : (s : Server) (o : ℕ) (q : Bool) → seen (left_behind s o q) ≡ seen (drop_open s o)
left_seen s o true = refl
left_seen s o false = settled_seen (drop_open (pending_behind s o) o) (s.opened o).file ∙ marked_seen s o

-- the opens alone leave
abbrev pub dropped : Server → List ℕ → Server
dropped s [] = s
dropped s (o ∷ os) = dropped (drop_open s o) os

seen_dropped : (s : Server) (os : List ℕ) → seen (dropped s os) ≡ dropped (seen s) os
seen_dropped s [] = refl
seen_dropped s (o ∷ os) = seen_dropped (drop_open s o) os

pub all_seen : (s : Server) (os : List ℕ) (q : Bool) → seen (all_left s os q) ≡ seen (dropped s os)
all_seen s [] q = refl
all_seen s (o ∷ os) q = all_seen (left_behind s o q) os q
    ∙ (seen_dropped (left_behind s o q) os
    ∙ (ap (λ (v : Server). dropped v os) (left_seen s o q) ∙ sym (seen_dropped (drop_open s o) os)))

-- the columns that they change
abbrev pub with_opens : Server → Server → Server
with_opens s d = record s {
  opens = d.opens;
  standing = d.standing;
  session_of_open = d.session_of_open;
  deadline = d.deadline;
  by_guid = d.by_guid;
  ranges = d.ranges;
}

only_these : (s : Server) (os : List ℕ) → dropped s os ≡ with_opens s (dropped s os)
only_these s [] = refl
only_these s (o ∷ os) = only_these (drop_open s o) os

abbrev pub with_files : Server → Server → Server
with_files s v = record s { entries = v.entries; delete_pending = v.delete_pending }

pub shape : (s : Server) (os : List ℕ) (q : Bool)
    → all_left s os q ≡ with_files (with_opens s (dropped s os)) (all_left s os q)
shape s os q = ap (λ (z : Server). with_files z (all_left s os q)) (all_seen s os q)
    ∙ ap (λ (z : Server). with_files z (all_left s os q)) (only_these s os)

-- ---- files

quiet_is : (s : Server) (os : List ℕ) → all_left s os true ≡ dropped s os
quiet_is s [] = refl
quiet_is s (o ∷ os) = quiet_is (drop_open s o) os

loud_is : (s : Server) (os : List ℕ) → all_left s os false ≡ leave_all s os
unfolding leave_all
loud_is s [] = refl
loud_is s (o ∷ os) = loud_is (leave_open s o) os

pub entries_of : (s : Server) (x : ℕ) (q : Bool) → (all_left s (plain_of s x) q).entries ≡ (files_behind s x q).entries
entries_of s x true = ap (λ (v : Server). v.entries) (quiet_is s (plain_of s x))
    ∙ ap (λ (v : Server). v.entries) (only_these s (plain_of s x))
entries_of s x false = ap (λ (v : Server). v.entries) (loud_is s (plain_of s x))

pub pending_of : (s : Server) (x : ℕ) (q : Bool)
    → (all_left s (plain_of s x) q).delete_pending ≡ (files_behind s x q).delete_pending
pending_of s x true = ap (λ (v : Server). v.delete_pending) (quiet_is s (plain_of s x))
    ∙ ap (λ (v : Server). v.delete_pending) (only_these s (plain_of s x))
pending_of s x false = ap (λ (v : Server). v.delete_pending) (loud_is s (plain_of s x))

-- ---- single columns of one that left

pub left_standing : (s : Server) (o : ℕ) (q : Bool) → (left_behind s o q).standing ≡ put s.standing o false
left_standing s o q = ap (λ (v : Server). v.standing) (left_seen s o q)

pub left_session : (s : Server) (o : ℕ) (q : Bool) → (left_behind s o q).session_of_open ≡ put s.session_of_open o None
left_session s o q = ap (λ (v : Server). v.session_of_open) (left_seen s o q)

pub left_opened : (s : Server) (o : ℕ) (q : Bool) → (left_behind s o q).opened ≡ s.opened
left_opened s o q = ap (λ (v : Server). v.opened) (left_seen s o q)

pub left_opens : (s : Server) (o : ℕ) (q : Bool) → (left_behind s o q).opens ≡ (drop_open s o).opens
left_opens s o q = ap (λ (v : Server). v.opens) (left_seen s o q)
