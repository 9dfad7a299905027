-- What a table shows where its session ends, or is written anew.
use Rattle.std.proofs.Common.{◌≡◌, ℕ, List, sym, subst}
use Rattle.base_lists.specs.declared.watch_lists.Link.{Link as Watch}
use Rattle.spec_exchange.specs.Client.{Client, end_session}
use Rattle.client_values.specs.declared.operations.values.OpKind.{OpKind}
use Rattle.client_rows.specs.declared.operation_rows.row.Row.{Row}
use Rattle.client_values.specs.declared.outcomes.outcome.Outcome.{Outcome as Settled}
use Rattle.client_values.specs.declared.outcomes.outcome.RefusedDialog.{RefusedDialog as Refused}
use Rattle.client_rows.specs.Shown.{ShowsRows}
use Rattle.client_rows.specs.declared.session_state.session.Session.{Session}
use Rattle.client_rows.specs.session_state.Shown.{ClientShowsSession}
use Rattle.client_tables.specs.settling.Shown.{ShowsValues}
use Rattle.client_tables.specs.whole_table.Shown.{ShowsParts}

pub end_shown : (was z : Session) (rows new : List Row) (holders prices after : List ℕ) (watchers watching : List Watch) (ops : List OpKind)
    (old settled : List Settled) (order : List ℕ) (dialogs : List Refused) (c : Client)
    → ShowsParts was rows holders prices watchers ops old order dialogs c → ClientShowsSession z (end_session c)
    → ShowsRows new holders after watching (end_session c) → ShowsValues new ops settled c.taken c.op (end_session c).outcome
    → ShowsParts z new holders after watching ops settled order dialogs (end_session c)
end_shown was z rows new holders prices after watchers watching ops old settled order dialogs c s h r v =
    record {
      rows = r;
      session = h;
      values = v;
      order = s.order;
      refusals = s.refusals;
      bounds = record {
        attached = s.bounds.attached;
        counted = λ q. absurd (cc);
        limits = s.bounds.limits;
        slotted = s.bounds.slotted;
        users = s.bounds.users;
      };
    }

-- the session alone is written anew, and shows what it did
pub session_shown : (was z : Session) (rows : List Row) (holders prices : List ℕ) (watchers : List Watch) (ops : List OpKind)
    (settled : List Settled) (order : List ℕ) (dialogs : List Refused) (d c : Client) → d ≡ c
    → ShowsParts was rows holders prices watchers ops settled order dialogs c → ClientShowsSession z d
    → ShowsParts z rows holders prices watchers ops settled order dialogs d
session_shown was z rows holders prices watchers ops settled order dialogs d c e s h =
    subst (λ x. ClientShowsSession z x → ShowsParts z rows holders prices watchers ops settled order dialogs x) (sym e) (λ w. record {
      rows = s.rows;
      session = w;
      values = s.values;
      order = s.order;
      refusals = s.refusals;
      bounds = s.bounds;
    }) h
