-- A new open made ready: its file and its row.
use Rattle.std.proofs.Common.{◌≡◌, ℕ, Bool, true, false, Some, refl, sym, ap, subst, ◌∙◌}
use Rattle.std.specs.Prelude.{Option}
use Rattle.spec_exchange.specs.CheckCreate.{empties}
use Rattle.spec_exchange.specs.Commands.{CreateRequest}
use Rattle.spec_exchange.specs.State as model
use Rattle.spec_exchange.specs.State.{Message, Server}
use Rattle.spec_exchange.specs.Verdict as verdicts
use Rattle.store_files.specs.file_tree.Shown.{ShowsFiles}
use Rattle.store_opens.specs.declared.open_table.row.Row.{Row}
use Rattle.server_effects.specs.reserved.Room.{RoomFor}
use Rattle.server_effects.specs.reserved.Readied.{found_of}
use Rattle.server_effects.specs.declared.reserved.ready.Ready.TheVariants as readies
use Rattle.server_checks.specs.declared.tables.Tables.{Tables}
use Rattle.server_effects.specs.Making.{FileFor, FileRoom, RowFor}
use Rattle.server_effects.specs.Ready.{OthersShown}
use Rattle.server_effects.specs.declared.making.FileReady.{FileReady}
use Rattle.server_effects.specs.declared.making.FileReady.TheVariants as files
use Rattle.server_checks.specs.verdicts.Views.{create_in}
use Rattle.server_plan.specs.reserving.Readies.{HasRowRoom, IsReadyFor}
use Rattle.spec_exchange.specs.Files.{file_attributes}

-- the file that was found is the one that is ready
pub file_found : (t : Tables) (s : Server) (r : CreateRequest) (found : Option ℕ) (now : ℕ) (file : FileReady)
    → FileFor t s r found now file
    → found ≡ found_of file
file_found t s r found now (files.New file) f = f.0
file_found t s r found now (files.Emptied file attributes) f = f.0
file_found t s r found now (files.AsItIs file) f = f.0

pub made_ready : (t : Tables) (s : Server) (m : Message) (r : CreateRequest) (found : Option ℕ) (action now : ℕ) (file : FileReady)
    (row : Row) → create_in m.command ≡ r → OthersShown t s → FileFor t s r found now file → RowFor s m r found action row
    → IsReadyFor t s m now (verdicts.Make (create_in m.command) found action) (readies.Make file row)
made_ready t s m r found action now file row e others f i =
    let g = file_found t s r found now file f in
    let a : row.action ≡ action = ap (λ (o : model.Open). o.action) i.opened_is in
    record {
      verdict_is = ap (λ (o : Option ℕ). verdicts.Make (create_in m.command) o row.action) (sym g)
          ∙ ap (verdicts.Make (create_in m.command) found) a;
      is_ready = record {
        others = others;
        files = tt;
        stands = subst (λ (q : CreateRequest). FileFor t s q (found_of file) now file × RowFor s m q (found_of file) row.action row) (sym e)
            (subst (λ (o : Option ℕ). FileFor t s r o now file × RowFor s m r o row.action row) g
            (subst (λ (n : ℕ). FileFor t s r found now file × RowFor s m r found n row) (sym a) (f, i)));
      };
    }

-- its room, where the files alone were made ready since
pub made_room : (old new : Tables) (x k : ℕ) (file : FileReady) (row : Row) → new ≡ record old { tree = new.tree } → FileRoom new file
    → HasRowRoom old row → RoomFor new x k (readies.Make file row)
made_room old new x k file row e f h =
    let r = subst (λ (t : Tables). HasRowRoom t row) (sym e) (record { room = h.room; session = h.session; given = h.given }) in
    (f, r.room, r.session, r.given)

-- ---- a file that was found

pub emptied_for : (t : Tables) (s : Server) (r : CreateRequest) (f attributes now : ℕ) (b : Bool)
    → attributes ≡ file_attributes r.attributes → b ≡ empties r.disposition → b ≡ true
    → ShowsFiles t.tree s → FileFor t s r (Some f) now (files.Emptied f attributes)
emptied_for t s r f attributes now b a e h k = (refl, a, sym e ∙ h, k)

pub left_for : (t : Tables) (s : Server) (r : CreateRequest) (f now : ℕ) (b : Bool) → b ≡ empties r.disposition → b ≡ false
    → ShowsFiles t.tree s → FileFor t s r (Some f) now (files.AsItIs f)
left_for t s r f now b e h k = (refl, sym e ∙ h, k)
