-- A change of the opens leaves what the other tables show.
use Rattle.std.proofs.Common.{◌≡◌, ◌<◌, ℕ, min, Bool, true, false, if◌then◌else◌, Some, is_some, sym, ap, subst, arith}
use Rattle.std.proofs.lemmas.Bool.Decides.{nat_tests}
use Rattle.spec_exchange.specs.CheckOpen.{is_late, is_slot}
use Rattle.spec_exchange.specs.Effects.{attach, attached, keep_slot, reach}
use Rattle.spec_exchange.specs.Fold.{full_room}
use Rattle.spec_exchange.specs.Opens.{file_has_open}
use Rattle.spec_exchange.specs.State.{Message, Server}
use Rattle.spec_exchange.specs.Table.{put, put2}
use Rattle.wire_commands.specs.values.Meaning.{address_of}
use Rattle.store_files.specs.file_tree.Shown.{ShowsFiles}
use Rattle.store_files.specs.declared.file_tree.tree.Tree.{Tree}
use Rattle.store_opens.specs.open_table.Shown.{ShowsOpens}
use Rattle.store_opens.specs.declared.open_table.table.Opens.{Opens}
use Rattle.law_server.proofs.tables.Logic.{either}
use Rattle.server_checks.specs.session_table.Logons.{LogonsShown, LogonsStay}
use Rattle.server_checks.specs.session_table.Shown.{ShowsSessions}
use Rattle.server_checks.specs.declared.session_table.table.Sessions.{Sessions}
use Rattle.server_checks.specs.Shown.{TablesShown}
use Rattle.server_checks.specs.declared.tables.Tables.{Tables}

-- ---- tables

pub pieces : (t : Tables) (u : Opens) (v : Server) → ShowsOpens u v → ShowsFiles t.tree v → ShowsSessions t.sessions v
    → v.share ≡ t.config.share → v.room ≡ min t.config.room full_room → v.encrypts ≡ t.config.encrypts
    → v.address ≡ address_of t.config.address → v.version ≡ t.version → v.journal ≡ t.journal → TablesShown (record t { opens = u }) v
pieces t u v opens files sessions share room encrypts address version journal = record {
  opens = opens;
  files = files;
  sessions = sessions;
  share_is = share;
  room_is = room;
  encrypts_is = encrypts;
  address_is = address;
  version_is = version;
  journal_is = journal;
}

pub file_pieces : (t : Tables) (w : Tree) (v : Server) → ShowsOpens t.opens v → ShowsFiles w v → ShowsSessions t.sessions v
    → v.share ≡ t.config.share → v.room ≡ min t.config.room full_room → v.encrypts ≡ t.config.encrypts
    → v.address ≡ address_of t.config.address → v.version ≡ t.version → v.journal ≡ t.journal → TablesShown (record t { tree = w }) v
file_pieces t w v opens files sessions share room encrypts address version journal = record {
  opens = opens;
  files = files;
  sessions = sessions;
  share_is = share;
  room_is = room;
  encrypts_is = encrypts;
  address_is = address;
  version_is = version;
  journal_is = journal;
}

pub session_pieces : (t : Tables) (w : Sessions) (v : Server) → ShowsOpens t.opens v → ShowsFiles t.tree v → ShowsSessions w v
    → v.share ≡ t.config.share → v.room ≡ min t.config.room full_room → v.encrypts ≡ t.config.encrypts
    → v.address ≡ address_of t.config.address → v.version ≡ t.version → v.journal ≡ t.journal → TablesShown (record t { sessions = w }) v
session_pieces t w v opens files sessions share room encrypts address version journal = record {
  opens = opens;
  files = files;
  sessions = sessions;
  share_is = share;
  room_is = room;
  encrypts_is = encrypts;
  address_is = address;
  version_is = version;
  journal_is = journal;
}

pub tree_config_kept : (old new : Tables) (w : Tree) → new ≡ record old { tree = w } → new.config ≡ old.config
tree_config_kept old new w e = ap (λ (t : Tables). t.config) e

pub tree_logons_kept : (old new : Tables) (w : Tree) → new ≡ record old { tree = w } → LogonsStay old.sessions new.sessions
tree_logons_kept old new w e keys pending k = subst (λ (t : Tables). LogonsShown t.sessions keys pending) (sym e) k

pub config_kept : (old new : Tables) (u : Opens) → new ≡ record old { opens = u } → new.config ≡ old.config
config_kept old new u e = ap (λ (t : Tables). t.config) e

pub logons_kept : (old new : Tables) (u : Opens) → new ≡ record old { opens = u } → LogonsStay old.sessions new.sessions
logons_kept old new u e keys pending k = subst (λ (t : Tables). LogonsShown t.sessions keys pending) (sym e) k

-- ---- the sequence of an open

pub reached : (P : Server → Type 0) (s : Server) (m : Message) (o : ℕ) → P s
    → P (record s { sequence = put s.sequence o m.channel_sequence })
    → P (reach s m o)
reached P s m o old new = either P (is_late s m o) s (record s { sequence = put s.sequence o m.channel_sequence }) (λ _. old) (λ _. new)

pub reached_tables : (t : Tables) (u : Opens) (s : Server) (m : Message) (o : ℕ) → TablesShown t s → ShowsOpens u (reach s m o)
    → TablesShown (record t { opens = u }) (reach s m o)
reached_tables t u s m o h = reached (λ v. ShowsOpens u v → TablesShown (record t { opens = u }) v) s m o
    (λ x. pieces t u s x h.files h.sessions h.share_is h.room_is h.encrypts_is h.address_is h.version_is h.journal_is)
    (λ x. pieces t u (record s { sequence = put s.sequence o m.channel_sequence }) x h.files h.sessions h.share_is h.room_is h.encrypts_is
    h.address_is h.version_is h.journal_is)

pub open_still : (s : Server) (sequence : ℕ → ℕ) (f : ℕ) → file_has_open s f ≡ true
    → file_has_open (record s { sequence = sequence }) f ≡ true
unfolding file_has_open
open_still s sequence f h = h

-- ---- a lock slot

abbrev slot_put : Server → ℕ → ℕ → ℕ → ℕ → Server
slot_put s o index number status = record s {
  lock_sequences = put2 s.lock_sequences o index (Some
      (record { number = number; status = status }));
}

pub slot_tables : (t : Tables) (u : Opens) (s : Server) (o index number status : ℕ) → TablesShown t s
    → ShowsOpens u (keep_slot s o index number status) → TablesShown (record t { opens = u }) (keep_slot s o index number status)
slot_tables t u s o index number status h =
    either (λ v. ShowsOpens u v → TablesShown (record t { opens = u }) v) (is_slot index) (slot_put s o index number status) s
    (λ _ x. pieces t u (slot_put s o index number status) x h.files h.sessions h.share_is h.room_is h.encrypts_is h.address_is h.version_is
    h.journal_is)
    (λ _ x. pieces t u s x h.files h.sessions h.share_is h.room_is h.encrypts_is h.address_is h.version_is h.journal_is)

no_slot : (t : Tables) (s : Server) (o index number status : ℕ) (b : Bool) → b ≡ false → TablesShown t s
    → TablesShown t (if b then slot_put s o index number status else s)
no_slot t s o index number status true e h = absurd (cc)
no_slot t s o index number status false e h = h

none_is : (index : ℕ) → index ≡ 0 → is_slot index ≡ false
none_is index e = grind (arith, nat_tests)

high_is : (index : ℕ) → 64 < index → is_slot index ≡ false
high_is index e = grind (arith, nat_tests)

pub slot_0 : (t : Tables) (s : Server) (o index number status : ℕ) → index ≡ 0 → TablesShown t s
    → TablesShown t (keep_slot s o index number status)
slot_0 t s o index number status e h = no_slot t s o index number status (is_slot index) (none_is index e) h

pub slot_past : (t : Tables) (s : Server) (o index number status : ℕ) → 64 < index → TablesShown t s
    → TablesShown t (keep_slot s o index number status)
slot_past t s o index number status e h = no_slot t s o index number status (is_slot index) (high_is index e) h

-- ---- an open that is attached

pub attached_tables : (t : Tables) (u : Opens) (s : Server) (m : Message) (o : ℕ) → TablesShown t s → ShowsOpens u (attached s m o)
    → TablesShown (record t { opens = u }) (attached s m o)
attached_tables t u s m o h = either (λ v. ShowsOpens u v
    → TablesShown (record t { opens = u }) v) (is_some (s.session_of_open o)) s (attach s m o)
    (λ _ x. pieces t u s x h.files h.sessions h.share_is h.room_is h.encrypts_is h.address_is h.version_is h.journal_is)
    (λ _ x. pieces t u (attach s m o) x h.files h.sessions h.share_is h.room_is h.encrypts_is h.address_is h.version_is h.journal_is)
