-- Rows that differ in links alone.
use Rattle.std.proofs.Common.{ℕ, List, ap, ◌∙◌}
use Rattle.base_lists.specs.declared.watch_lists.Link.{Link as Watch}
use Rattle.spec_exchange.specs.Client.{Client}
use Rattle.client_values.specs.declared.operations.values.OpKind.{OpKind}
use Rattle.client_rows.specs.declared.operation_rows.row.Row.{Row}
use Rattle.client_rows.specs.operation_rows.Holding.{Alike}
use Rattle.client_values.specs.declared.outcomes.outcome.Outcome.{Outcome as Settled}
use Rattle.client_values.specs.declared.outcomes.outcome.RefusedDialog.{RefusedDialog as Refused}
use Rattle.client_rows.specs.Shown.{ShowsRows}
use Rattle.client_rows.specs.declared.session_state.session.Session.{Session}
use Rattle.client_tables.specs.settling.Shown.{GoesSettled}
use Rattle.client_tables.proofs.settling.Settled.{values_moved}
use Rattle.client_tables.specs.whole_table.Shown.{ShowsParts}

module _ (old new : List Row) (a : Alike old new) where
  -- none of them settles
  pub alike_goes : GoesSettled old new
  alike_goes =
      record {
        count = a.count;
        create = λ g. ap (λ (r : Row). r.create) (a.row g);
        opens = λ g. ap (λ (r : Row). r.«open») (a.row g);
        kinds = λ g. ap (λ (r : Row). r.kind) (a.row g);
        sent = λ g. ap (λ (r : Row). r.sent) (a.row g);
        asks = λ g. ap (λ (r : Row). r.asking) (a.row g);
        slots = λ g. ap (λ (r : Row). r.slot) (a.row g);
        out = λ g. ap (λ (r : Row). r.outstanding_on) (a.row g);
        settled = λ g e. ap (λ (r : Row). r.unsettled) (a.row g) ∙ e;
      }

  pub alike_shown : (z : Session) (holders prices after : List ℕ) (watchers watching : List Watch) (ops : List OpKind)
      (settled : List Settled) (order : List ℕ) (dialogs : List Refused) (c : Client)
      → ShowsParts z old holders prices watchers ops settled order dialogs c → ShowsRows new holders after watching c
      → ShowsParts z new holders after watching ops settled order dialogs c
  alike_shown z holders prices after watchers watching ops settled order dialogs c s r =
      record {
        rows = r;
        session = s.session;
        values = values_moved old new ops settled c.taken c.op c.outcome (λ g. ap (λ (w : Row). w.unsettled) (a.row g)) s.values;
        order = s.order;
        refusals = s.refusals;
        bounds = s.bounds;
      }
