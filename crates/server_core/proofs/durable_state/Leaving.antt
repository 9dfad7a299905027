-- Opens that leave.
use Rattle.std.proofs.Common.{◌≡◌, ℕ, true, if◌then◌else◌, Option, Some, None, refl, sym, ap}
use Rattle.std.proofs.Common.{subst}
use Rattle.spec_exchange.specs.Commands.{deletes_on_close}
use Rattle.spec_exchange.specs.State as model
use Rattle.spec_exchange.specs.State.{Server}
use Rattle.spec_exchange.specs.Files.{set_delete_pending}
use Rattle.spec_exchange.specs.Fold.{shut_recorded}
use Rattle.spec_exchange.specs.Opens.{drop_open, pending_behind}
use Rattle.spec_exchange.specs.Step.{add_expired_guid}
use Rattle.store_opens.specs.open_table.Rows.{OpenRowFound}
use Rattle.store_opens.specs.open_table.Shown.{ShowsOpens}
use Rattle.store_opens.specs.declared.open_table.row.Row.{Row}
use Rattle.store_opens.specs.declared.open_table.table.Opens.{Opens}
use Rattle.law_server.specs.tables.Fits.{Fits}
use Rattle.law_server.proofs.tables.Logic.{either}
use Rattle.law_records.proofs.fold.Created.{marked_fits}
use Rattle.server_core.specs.durable_state.Durable.{DurableShown}
use Rattle.server_core.specs.declared.durable_state.durable.Durable.{Durable}

-- ---- what the row of an open tells

pub row_file : (r : Row) (s : Server) (o : ℕ) → OpenRowFound (Some r) s o → (s.opened o).file ≡ r.file
row_file r s o k = ap (λ (x : model.Open). x.file) k.1.opened_is

pub row_options : (r : Row) (s : Server) (o : ℕ) → OpenRowFound (Some r) s o → (s.opened o).options ≡ r.options
row_options r s o k = ap (λ (x : model.Open). x.options) k.1.opened_is

pub row_client : (r : Row) (s : Server) (o : ℕ) → OpenRowFound (Some r) s o → (s.opened o).client_guid ≡ r.client
row_client r s o k = ap (λ (x : model.Open). x.client_guid) k.1.opened_is

pub row_guid : (r : Row) (s : Server) (o : ℕ) → OpenRowFound (Some r) s o → (s.opened o).create_guid ≡ r.guid
row_guid r s o k = ap (λ (x : model.Open). x.create_guid) k.1.opened_is

-- ---- one that leaves

still_stands : (s : Server) (o : ℕ) → s.standing o ≡ true → (pending_behind s o).standing o ≡ true
still_stands s o h =
    either (λ (u : Server). u.standing o ≡ true) (deletes_on_close (s.opened o).options)
    (set_delete_pending s (s.opened o).file true) s (λ _. h) (λ _. h)

pub same_count : (s : Server) (o : ℕ) → (shut_recorded s o).expired_count ≡ s.expired_count
same_count s o =
    either (λ (u : Server). u.expired_count ≡ s.expired_count) (deletes_on_close (s.opened o).options)
    (set_delete_pending s (s.opened o).file true) s (λ _. refl) (λ _. refl)

abbrev marked : Server → ℕ → ℕ → Server
marked s file options = if deletes_on_close options then set_delete_pending s file true else s

pub shut_shown : (m : Durable) (t : Opens) (s : Server) (o file options : ℕ) → Fits s → s.standing o ≡ true
    → (s.opened o).file ≡ file → (s.opened o).options ≡ options
    → DurableShown m (if deletes_on_close options then set_delete_pending s file true else s)
    → ((u : Server) → Fits u → ShowsOpens m.opens u → u.standing o ≡ true → ShowsOpens t (drop_open u o))
    → DurableShown (record m { opens = t }) (shut_recorded s o)
shut_shown m t s o file options i stands f p shown leaves =
    let a = subst (λ (x : ℕ). DurableShown m (marked s x options)) (sym f) shown in
    let h = subst (λ (x : ℕ). DurableShown m (marked s (s.opened o).file x)) (sym p) a in
    record {
      files = h.files;
      opens = leaves (pending_behind s o) (marked_fits s o i) h.opens (still_stands s o stands);
      version_is = h.version_is;
      epoch_is = h.epoch_is;
      pending = h.pending;
      ascend = h.ascend;
    }

-- ---- a guid that is kept as expired

pub guid_kept : (d : Durable) (t : Opens) (s : Server) (client : ℕ) (guid : Option ℕ) → DurableShown d s
    → ShowsOpens t (add_expired_guid s client guid) → DurableShown (record d { opens = t }) (add_expired_guid s client guid)
guid_kept d t s client None h k = record {
  files = h.files;
  opens = k;
  version_is = h.version_is;
  epoch_is = h.epoch_is;
  pending = h.pending;
  ascend = h.ascend;
}
guid_kept d t s client (Some g) h k = record {
  files = h.files;
  opens = k;
  version_is = h.version_is;
  epoch_is = h.epoch_is;
  pending = h.pending;
  ascend = h.ascend;
}

pub expired_shown : (d : Durable) (s : Server) (o client : ℕ) (guid : Option ℕ) → (s.opened o).client_guid ≡ client
    → (s.opened o).create_guid ≡ guid → DurableShown d (add_expired_guid (shut_recorded s o) client guid)
    → DurableShown d (add_expired_guid (shut_recorded s o) (s.opened o).client_guid (s.opened o).create_guid)
expired_shown d s o client guid c g h =
    let a = subst (λ (x : ℕ). DurableShown d (add_expired_guid (shut_recorded s o) x guid)) (sym c) h in
    subst (λ (x : Option ℕ). DurableShown d (add_expired_guid (shut_recorded s o) (s.opened o).client_guid x)) (sym g) a
