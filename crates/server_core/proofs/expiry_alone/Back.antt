-- An open that expired comes back.
use Rattle.std.proofs.Common.{◌≡◌, ℕ, Bool, true, false, if◌then◌else◌, Option, Some, None, min}
use Rattle.spec_exchange.specs.Commands.{deletes_on_close}
use Rattle.spec_exchange.specs.Files.{remove_file, set_delete_pending}
use Rattle.spec_exchange.specs.Fold.{full_room}
use Rattle.spec_exchange.specs.Opens.{drop_open, goes, is_kept_back, leave_open, pending_behind}
use Rattle.spec_exchange.specs.State.{Server}
use Rattle.spec_exchange.specs.Step.{add_expired_guid, expire}
use Rattle.wire_commands.specs.values.Meaning.{address_of}
use Rattle.store_files.specs.file_tree.Shown.{ShowsFiles}
use Rattle.store_files.specs.declared.file_tree.tree.Tree.{Tree}
use Rattle.store_opens.specs.open_table.Shown.{ShowsOpens}
use Rattle.store_opens.specs.declared.open_table.table.Opens.{Opens}
use Rattle.server_checks.specs.Shown.{TablesShown}
use Rattle.server_checks.specs.declared.tables.Tables.{Tables}
use Rattle.server_checks.specs.session_table.Shown.{ShowsSessions}

-- what the tables show beside opens and files
abbrev pub RestShown : Tables → Server → Type 0
RestShown t u =
    ShowsSessions t.sessions u × (u.share ≡ t.config.share) × (u.room ≡ min t.config.room full_room) × (u.encrypts ≡ t.config.encrypts)
    × (u.address ≡ address_of t.config.address) × (u.version ≡ t.version) × (u.journal ≡ t.journal)

-- no step of an expiry writes it
rest_back : (t : Tables) (s : Server) (o : ℕ) → RestShown t (expire s o) → RestShown t s
rest_back t s o h =
    let w = pending_behind s o in
    let v = drop_open w o in
    let f = (s.opened o).file in
    marked (deletes_on_close (s.opened o).options) (settled (is_kept_back v f) (goes v f) v (guids (s.opened o).create_guid h))
  where
    guids : (g : Option ℕ) → RestShown t (add_expired_guid (leave_open s o) (s.opened o).client_guid g) → RestShown t (leave_open s o)
    guids None k = k
    guids (Some g) k = k

    gone : (b : Bool) (v : Server) → RestShown t (if b then remove_file v (s.opened o).file else v) → RestShown t v
    gone true v k = k
    gone false v k = k

    settled : (q b : Bool) (v : Server) → RestShown t (if q then set_delete_pending v (s.opened o).file false
        else (if b then remove_file v (s.opened o).file else v)) → RestShown t v
    settled true b v k = k
    settled false b v k = gone b v k

    marked : (b : Bool) → RestShown t (if b then set_delete_pending s (s.opened o).file true else s) → RestShown t s
    marked true k = k
    marked false k = k

pub back_shown : (t : Tables) (u : Opens) (f : Tree) (s : Server) (o : ℕ) → TablesShown t (expire s o) → ShowsOpens u s → ShowsFiles f s
    → TablesShown (record t { opens = u; tree = f }) s
back_shown t u f s o h k l =
    let r = rest_back t s o (h.sessions, h.share_is, h.room_is, h.encrypts_is, h.address_is, h.version_is, h.journal_is) in record {
      opens = k;
      files = l;
      sessions = r.0;
      share_is = r.1;
      room_is = r.2;
      encrypts_is = r.3;
      address_is = r.4;
      version_is = r.5;
      journal_is = r.6;
    }

pub still_shown : (t : Tables) (u : Opens) (f : Tree) (y : Server) → TablesShown t y → ShowsOpens u y → ShowsFiles f y
    → TablesShown (record t { opens = u; tree = f }) y
still_shown t u f y h k l = record {
  opens = k;
  files = l;
  sessions = h.sessions;
  share_is = h.share_is;
  room_is = h.room_is;
  encrypts_is = h.encrypts_is;
  address_is = h.address_is;
  version_is = h.version_is;
  journal_is = h.journal_is;
}
