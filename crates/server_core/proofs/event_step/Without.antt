-- The tables without the open that expires: what an expiry doesn't touch is shown as before.
use Rattle.std.proofs.Common.{◌≡◌, ℕ, min, Bool, true, false, if◌then◌else◌, List, Option, Some, None, refl, sym, ap, ◌∙◌}
use Rattle.wire_commands.specs.values.Meaning.{address_of}
use Rattle.spec_exchange.specs.Commands.{deletes_on_close}
use Rattle.spec_exchange.specs.Files.{remove_file, set_delete_pending}
use Rattle.spec_exchange.specs.Fold.{full_room}
use Rattle.spec_exchange.specs.Opens.{drop_open, goes, is_kept_back, left_file, pending_behind}
use Rattle.spec_exchange.specs.State as model
use Rattle.spec_exchange.specs.Step.{add_expired_guid, expire}
use Rattle.store_files.specs.file_tree.Shown.{ShowsFiles}
use Rattle.store_files.specs.declared.file_tree.tree.Tree.{Tree}
use Rattle.store_opens.specs.open_table.Shown.{ShowsOpens}
use Rattle.store_opens.specs.declared.open_table.table.Opens.{Opens}
use Rattle.server_checks.specs.event_heard.Heard.{event_of}
use Rattle.server_checks.specs.declared.event_heard.asked.Asked.{Asked}
use Rattle.server_checks.specs.declared.event_heard.event.ServerEvent.{ServerEvent}
use Rattle.law_snapshots.specs.snapshots.Pieces.{SnapshotPiece}
use Rattle.server_core.specs.behind_expiry.Behind.{BothReady}
use Rattle.server_core.specs.declared.behind_expiry.behind.Both.{Both}
use Rattle.server_checks.specs.Shown.{TablesShown}
use Rattle.server_checks.specs.declared.tables.Config.{Config}
use Rattle.server_checks.specs.declared.tables.Tables.{Tables}
use Rattle.journal.specs.disk_journal.Journal.{OnlyRoom}
use Rattle.server_core.proofs.event_step.Out.{expired_still}
use Rattle.server_core.proofs.event_step.Refused.{held_tables}
use Rattle.server_plan.specs.reserving.Readies.{TablesKeep}
use Rattle.server_core.specs.event_step.Apart.{ServerApart}
use Rattle.server_core.specs.event_step.Behind.{ExpiryAsks, TakenOut, Without}
use Rattle.server_effects.specs.expiry.Expired.{IsExpired}
use Rattle.server_effects.specs.declared.expiry.expiry.Expired.{Expired}
use Rattle.server_core.specs.journaled_tables.Counted.{front_of}
use Rattle.server_core.specs.declared.journaled_tables.state.ServerState.{ServerState}
use Rattle.law_server.specs.tables.Fits.{Fits}
use Rattle.server_plan.specs.logon_steps.Steps.{PreparedStep}
use Rattle.server_core.proofs.journaled_tables.Behind.{held, held_still}
use Rattle.server_checks.specs.session_table.Shown.{ShowsSessions}
use Rattle.spec_crypto.specs.tokens.Tokens.{Users}
use Rattle.spec_world.specs.Ends.{Logons}

-- what each step of an expiry keeps holds behind it
kept_of : (P : model.Server → Type 0) (s : model.Server) (o : ℕ)
    → ((u : model.Server) (n : ℕ) (b : Bool) → P u → P (set_delete_pending u n b))
    → ((u : model.Server) → P u → P (drop_open u o)) → ((u : model.Server) (n : ℕ) → P u → P (remove_file u n))
    → ((u : model.Server) (c : ℕ) (g : Option ℕ) → P u → P (add_expired_guid u c g)) → P s → P (expire s o)
kept_of P s o marks drops removes keeps h =
    let w = pending_behind s o in let v = drop_open w o in let n = (s.opened o).file in
    keeps (left_file v n) (s.opened o).client_guid (s.opened o).create_guid
    (settled (is_kept_back v n) (goes v n) v n (drops w (marked (deletes_on_close (s.opened o).options))))
  where
    gone : (b : Bool) (v : model.Server) (n : ℕ) → P v → P (if b then remove_file v n else v)
    gone true v n k = removes v n k
    gone false v n k = k

    settled : (q b : Bool) (v : model.Server) (n : ℕ) → P v
        → P (if q then set_delete_pending v n false else (if b then remove_file v n else v))
    settled true b v n k = marks v n false k
    settled false b v n k = gone b v n k

    marked : (b : Bool) → P (if b then set_delete_pending s (s.opened o).file true else s)
    marked true = marks s (s.opened o).file true h
    marked false = h

-- what the tables show but for opens and files
record Rest (t : Tables) (s : model.Server) : Type 0 where
  sessions : ShowsSessions t.sessions s
  share_is : s.share ≡ t.config.share
  room_is : s.room ≡ min t.config.room full_room
  encrypts_is : s.encrypts ≡ t.config.encrypts
  address_is : s.address ≡ address_of t.config.address
  version_is : s.version ≡ t.version
  journal_is : s.journal ≡ t.journal

rest : (t : Tables) (s : model.Server) → TablesShown t s → Rest t s
rest t s h = record {
  sessions = h.sessions;
  share_is = h.share_is;
  room_is = h.room_is;
  encrypts_is = h.encrypts_is;
  address_is = h.address_is;
  version_is = h.version_is;
  journal_is = h.journal_is;
}

marked_rest : (t : Tables) (u : model.Server) (n : ℕ) (b : Bool) → Rest t u → Rest t (set_delete_pending u n b)
marked_rest t u n b h = record {
  sessions = h.sessions;
  share_is = h.share_is;
  room_is = h.room_is;
  encrypts_is = h.encrypts_is;
  address_is = h.address_is;
  version_is = h.version_is;
  journal_is = h.journal_is;
}

dropped_rest : (t : Tables) (o : ℕ) (u : model.Server) → Rest t u → Rest t (drop_open u o)
dropped_rest t o u h = record {
  sessions = h.sessions;
  share_is = h.share_is;
  room_is = h.room_is;
  encrypts_is = h.encrypts_is;
  address_is = h.address_is;
  version_is = h.version_is;
  journal_is = h.journal_is;
}

removed_rest : (t : Tables) (u : model.Server) (n : ℕ) → Rest t u → Rest t (remove_file u n)
removed_rest t u n h = record {
  sessions = h.sessions;
  share_is = h.share_is;
  room_is = h.room_is;
  encrypts_is = h.encrypts_is;
  address_is = h.address_is;
  version_is = h.version_is;
  journal_is = h.journal_is;
}

guid_rest : (t : Tables) (u : model.Server) (c : ℕ) (g : Option ℕ) → Rest t u → Rest t (add_expired_guid u c g)
guid_rest t u c None h = h
guid_rest t u c (Some g) h = record {
  sessions = h.sessions;
  share_is = h.share_is;
  room_is = h.room_is;
  encrypts_is = h.encrypts_is;
  address_is = h.address_is;
  version_is = h.version_is;
  journal_is = h.journal_is;
}

shown_without : (t : Tables) (u : Opens) (f : Tree) (s : model.Server) (o : ℕ) → TablesShown t s → ShowsOpens u (expire s o)
    → ShowsFiles f (expire s o) → TablesShown (record t { opens = u; tree = f }) (expire s o)
shown_without t u f s o h p q =
    let k = kept_of (λ (v : model.Server). Rest t v) s o (marked_rest t) (dropped_rest t o) (removed_rest t) (guid_rest t) (rest t s h) in
    record {
      opens = p;
      files = q;
      sessions = k.sessions;
      share_is = k.share_is;
      room_is = k.room_is;
      encrypts_is = k.encrypts_is;
      address_is = k.address_is;
      version_is = k.version_is;
      journal_is = k.journal_is;
    }

pub without : {D : Type 0} (told : Type 0) (seen : D → List ℕ) (may_leave : D → List ℕ → Type 0)
    (base : List SnapshotPiece) (c : ServerState D) (u : Opens) (f : Tree)
    (users : Users) (s : model.Server) (L : Logons) (records : List model.Record) (now : ℕ) (e : ServerEvent) (a : Asked) (o : ℕ)
    (x : Expired) → ExpiryAsks told seen may_leave base c users s L records now e a → ShowsOpens u (expire s o) → ShowsFiles f (expire s o)
    → IsExpired u x s o
    → Without told seen may_leave base (record c { tables = record c.tables { opens = u; tree = f } }) users s L records now e a o x
    (expire s o)
without told seen may_leave base c u f users s L records now e a o x h p q out = record {
  apart = record {
    logons = h.holds.shown.logons;
    held = held_tables told seen may_leave base c (record c.tables { opens = u; tree = f }) s records
        (held told seen may_leave base c s L records h.holds h.goes_on);
    users_are = h.users_are;
    heard = h.heard;
    said = h.said;
    out = out;
    state_is = refl;
  };
  tables = shown_without c.tables u f s o h.holds.shown.tables p q;
}

-- behind the making of room, which leaves all but that as it was
pub apart_still : {D : Type 0} (told : Type 0) (seen : D → List ℕ) (may_leave : D → List ℕ → Type 0)
    (base : List SnapshotPiece) (old mid : ServerState D)
    (users : Users) (s : model.Server) (L : Logons) (records : List model.Record) (now : ℕ) (e : ServerEvent) (a : Asked) (o : ℕ)
    (x : Expired) (y : model.Server) → TakenOut told seen may_leave base old users s L records now e a o x y
    → OnlyRoom old.journal mid.journal
    → mid.stopped ≡ old.stopped → TablesKeep old.tables mid.tables → TakenOut told seen may_leave base mid users s L records now e a o x y
apart_still told seen may_leave base old mid users s L records now e a o x y h room stops kept = record {
  logons = kept.logons L.keys L.pending h.logons;
  held = held_still told seen may_leave base old mid s records room stops h.held;
  users_are = h.users_are ∙ sym (ap (λ (z : Config). z.users) kept.config);
  heard = h.heard;
  said = h.said;
  out = expired_still old.tables.opens mid.tables.opens x s o h.out kept.room kept.undated;
  state_is = h.state_is;
}

-- the event is ready there, behind the expiry
pub both_apart : {D : Type 0} (told : Type 0) (seen : D → List ℕ) (may_leave : D → List ℕ → Type 0)
    (base : List SnapshotPiece) (c : ServerState D)
    (users : Users) (s y : model.Server) (L : Logons) (records : List model.Record) (now : ℕ) (e : ServerEvent) (a : Asked) (o : ℕ)
    (x : Expired) (both : Both) → TakenOut told seen may_leave base c users s L records now e a o x y → Fits y
    → BothReady c y now (event_of a) (front_of s (event_of a) o) (Some both) → PreparedStep L a now both.prepared
    → ServerApart told seen may_leave base c users s y L records now e a o x both
both_apart told seen may_leave base c users s y L records now e a o x both h fits ready stepped = record {
  held = h.held;
  logons = h.logons;
  users_are = h.users_are;
  heard = h.heard;
  said = h.said;
  taken = h.out.taken.id_is;
  out = h.state_is;
  fits = fits;
  ready = ready;
  step_is = stepped;
}
