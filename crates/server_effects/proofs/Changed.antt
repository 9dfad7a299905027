-- A change of a file leaves what the other tables show.
use Rattle.std.proofs.Common.{◌≡◌, ℕ, ◌+◌, Bool, true, false, if◌then◌else◌, List, length, Option, refl, sym, subst, ◌∙◌}
use Rattle.spec_exchange.specs.CheckOpen.{is_late, target_of}
use Rattle.spec_exchange.specs.Commands as asks
use Rattle.spec_exchange.specs.Commands.{Basic}
use Rattle.spec_exchange.specs.Content.{ended, written}
use Rattle.spec_exchange.specs.Effects.{change_file, reach}
use Rattle.spec_exchange.specs.Files.{find, is_directory, passes_room, path_of, rename_file, set_content, set_delete_pending, store_basic}
use Rattle.spec_exchange.specs.State.{Message, Server}
use Rattle.spec_exchange.specs.Table.{put}
use Rattle.spec_exchange.specs.Verdict.{Change, PutBytes, PutEnd, PutBasic, PutDeletePending, PutPath, PutNothing}
use Rattle.store_files.specs.file_tree.Bytes.{CanWrite}
use Rattle.store_files.specs.file_tree.Moved.{Moving}
use Rattle.store_files.specs.file_tree.Shown.{ShowsFiles}
use Rattle.store_files.specs.declared.file_tree.bytes.NewBytes.{NewBytes}
use Rattle.store_files.specs.declared.file_tree.rename.Move.{Move}
use Rattle.store_files.specs.declared.file_tree.tree.Tree.{Tree}
use Rattle.server_checks.specs.Shown.{TablesShown}
use Rattle.server_checks.specs.declared.tables.Tables.{Tables}
use Rattle.server_checks.specs.verdicts.Views.{bytes_in}
use Rattle.server_effects.proofs.Steps.{file_pieces}
use Rattle.server_effects.specs.Able.{AbleToChange, IsChangeOf}
use Rattle.server_effects.specs.Ready.{ChangeFor, OthersShown}
use Rattle.server_effects.specs.declared.changing.ChangeReady.TheVariants as changes

pub changed_tables : (t : Tables) (w : Tree) (s : Server) (f now : ℕ) (c : Change) → OthersShown t s → ShowsFiles w (change_file s f now c)
    → TablesShown (record t { tree = w }) (change_file s f now c)
changed_tables t w s f now (PutBytes p bytes) h k = file_pieces t w (change_file s f now (PutBytes p bytes)) h.opens k
    h.sessions h.share_is h.room_is h.encrypts_is h.address_is h.version_is h.journal_is
changed_tables t w s f now (PutEnd n) h k = file_pieces t w (change_file s f now (PutEnd n)) h.opens k
    h.sessions h.share_is h.room_is h.encrypts_is h.address_is h.version_is h.journal_is
changed_tables t w s f now (PutBasic b) h k = file_pieces t w (change_file s f now (PutBasic b)) h.opens k
    h.sessions h.share_is h.room_is h.encrypts_is h.address_is h.version_is h.journal_is
changed_tables t w s f now (PutDeletePending flag) h k = file_pieces t w (change_file s f now (PutDeletePending flag)) h.opens k
    h.sessions h.share_is h.room_is h.encrypts_is h.address_is h.version_is h.journal_is
changed_tables t w s f now (PutPath replaced path) h k = file_pieces t w (change_file s f now (PutPath replaced path)) h.opens k
    h.sessions h.share_is h.room_is h.encrypts_is h.address_is h.version_is h.journal_is
changed_tables t w s f now PutNothing h k = file_pieces t w (change_file s f now PutNothing) h.opens k
    h.sessions h.share_is h.room_is h.encrypts_is h.address_is h.version_is h.journal_is

pub changed_standing : (s : Server) (f now o : ℕ) (c : Change) → s.standing o ≡ true → (change_file s f now c).standing o ≡ true
changed_standing s f now o (PutBytes p bytes) h = h
changed_standing s f now o (PutEnd n) h = h
changed_standing s f now o (PutBasic b) h = h
changed_standing s f now o (PutDeletePending flag) h = h
changed_standing s f now o (PutPath replaced path) h = h
changed_standing s f now o PutNothing h = h

-- ---- the sequence is kept in front of a change or behind it

either_way : (b : Bool) (s : Server) (q : ℕ → ℕ) (f now : ℕ) (c : Change)
    → (if b then change_file s f now c else record (change_file s f now c) { sequence = q })
    ≡ change_file (if b then s else record s { sequence = q }) f now c
unfolding path_of
either_way true s q f now c = refl
either_way false s q f now (PutBytes p bytes) = refl
either_way false s q f now (PutEnd n) = refl
either_way false s q f now (PutBasic b) = refl
either_way false s q f now (PutDeletePending flag) = refl
either_way false s q f now (PutPath replaced path) = refl
either_way false s q f now PutNothing = refl

pub reach_changed : (s : Server) (m : Message) (o f now : ℕ) (c : Change)
    → reach (change_file s f now c) m o ≡ change_file (reach s m o) f now c
reach_changed s m o f now (PutBytes p bytes) = either_way (is_late s m o) s (put s.sequence o m.channel_sequence) f now (PutBytes p bytes)
reach_changed s m o f now (PutEnd n) = either_way (is_late s m o) s (put s.sequence o m.channel_sequence) f now (PutEnd n)
reach_changed s m o f now (PutBasic b) = either_way (is_late s m o) s (put s.sequence o m.channel_sequence) f now (PutBasic b)
reach_changed s m o f now (PutDeletePending flag) = either_way (is_late s m o) s (put s.sequence o m.channel_sequence)
    f now (PutDeletePending flag)
reach_changed s m o f now (PutPath replaced path) = either_way (is_late s m o) s (put s.sequence o m.channel_sequence)
    f now (PutPath replaced path)
reach_changed s m o f now PutNothing = either_way (is_late s m o) s (put s.sequence o m.channel_sequence) f now PutNothing

-- ---- each change

pub bytes_put : (t : Tables) (w : Tree) (s : Server) (f now : ℕ) (k : asks.Command) (new : NewBytes) (d : List ℕ) (c : Change)
    → AbleToChange s f c → ChangeFor t s f (changes.PutBytes new) c → IsChangeOf k c → d ≡ bytes_in k
    → ((p : ℕ) → CanWrite t.tree new f p d → is_directory s f ≡ false → passes_room s f (p + length d) ≡ false
    → ShowsFiles w (set_content s f (written p d (s.content f)) now))
    → ShowsFiles w (change_file s f now c)
bytes_put t w s f now k new d (PutBytes p bytes) a r i e done = subst (λ (z : List ℕ). CanWrite t.tree new f p z
    → is_directory s f ≡ false → passes_room s f (p + length z) ≡ false → ShowsFiles w (set_content s f (written p z (s.content f)) now))
    (e ∙ sym i) (done p) r a.1 a.2
bytes_put t w s f now k new d (PutEnd n) a r i e done = absurd r
bytes_put t w s f now k new d (PutBasic b) a r i e done = absurd r
bytes_put t w s f now k new d (PutDeletePending flag) a r i e done = absurd r
bytes_put t w s f now k new d (PutPath replaced path) a r i e done = absurd r
bytes_put t w s f now k new d PutNothing a r i e done = absurd r

pub end_put : (t : Tables) (w : Tree) (s : Server) (f now size : ℕ) (c : Change)
    → AbleToChange s f c → ChangeFor t s f (changes.PutEnd size) c
    → (is_directory s f ≡ false → passes_room s f size ≡ false → ShowsFiles w (set_content s f (ended size (s.content f)) now))
    → ShowsFiles w (change_file s f now c)
end_put t w s f now size (PutBytes p bytes) a r done = absurd r
end_put t w s f now size (PutEnd n) a r done = subst (λ (z : ℕ). is_directory s f ≡ false
    → passes_room s f z ≡ false → ShowsFiles w (set_content s f (ended z (s.content f)) now)) r done a.0 a.1
end_put t w s f now size (PutBasic b) a r done = absurd r
end_put t w s f now size (PutDeletePending flag) a r done = absurd r
end_put t w s f now size (PutPath replaced path) a r done = absurd r
end_put t w s f now size PutNothing a r done = absurd r

pub basic_put : (t : Tables) (w : Tree) (s : Server) (f now : ℕ) (basic : Basic) (c : Change)
    → ChangeFor t s f (changes.PutBasic basic) c → ShowsFiles w (store_basic s f basic) → ShowsFiles w (change_file s f now c)
basic_put t w s f now basic (PutBytes p bytes) r done = absurd r
basic_put t w s f now basic (PutEnd n) r done = absurd r
basic_put t w s f now basic (PutBasic b) r done = subst (λ (z : Basic). ShowsFiles w (store_basic s f z)) r done
basic_put t w s f now basic (PutDeletePending flag) r done = absurd r
basic_put t w s f now basic (PutPath replaced path) r done = absurd r
basic_put t w s f now basic PutNothing r done = absurd r

pub pending_put : (t : Tables) (w : Tree) (s : Server) (f now : ℕ) (pending : Bool) (c : Change)
    → ChangeFor t s f (changes.PutDeletePending pending) c → ShowsFiles w (set_delete_pending s f pending)
    → ShowsFiles w (change_file s f now c)
pending_put t w s f now pending (PutBytes p bytes) r done = absurd r
pending_put t w s f now pending (PutEnd n) r done = absurd r
pending_put t w s f now pending (PutBasic b) r done = absurd r
pending_put t w s f now pending (PutDeletePending flag) r done = subst (λ (z : Bool). ShowsFiles w (set_delete_pending s f z)) r done
pending_put t w s f now pending (PutPath replaced path) r done = absurd r
pending_put t w s f now pending PutNothing r done = absurd r

pub path_put : (t : Tables) (w : Tree) (s : Server) (f now : ℕ) (moved : Move) (c : Change)
    → AbleToChange s f c → ChangeFor t s f (changes.PutPath moved) c
    → ((to : List ℕ) → Moving t.tree moved s f to → ShowsFiles w (rename_file s f (target_of f (find s to)) to))
    → ShowsFiles w (change_file s f now c)
path_put t w s f now moved (PutBytes p bytes) a r done = absurd r
path_put t w s f now moved (PutEnd n) a r done = absurd r
path_put t w s f now moved (PutBasic b) a r done = absurd r
path_put t w s f now moved (PutDeletePending flag) a r done = absurd r
path_put t w s f now moved (PutPath replaced path) a r done = subst (λ (z : Option ℕ). ShowsFiles w (rename_file s f z path))
    (sym a.1) (done path r)
path_put t w s f now moved PutNothing a r done = absurd r

pub nothing_put : (t : Tables) (s : Server) (f now : ℕ) (c : Change)
    → ChangeFor t s f changes.PutNothing c → ShowsFiles t.tree s → ShowsFiles t.tree (change_file s f now c)
nothing_put t s f now (PutBytes p bytes) r done = absurd r
nothing_put t s f now (PutEnd n) r done = absurd r
nothing_put t s f now (PutBasic b) r done = absurd r
nothing_put t s f now (PutDeletePending flag) r done = absurd r
nothing_put t s f now (PutPath replaced path) r done = absurd r
nothing_put t s f now PutNothing r done = done
