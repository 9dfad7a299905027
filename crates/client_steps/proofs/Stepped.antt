-- One row changes, and stands where it stood.
use Rattle.std.proofs.Common.{◌≡◌, ℕ, ◌+◌, ◌-◌, ◌<◌, ◌≤◌, true, List, length, is_some, ap, sym, ◌∙◌, subst, ◌⊎◌}
use Rattle.base_lists.specs.declared.watch_lists.Link.{Link as Watch}
use Rattle.spec_exchange.specs.Operations.{Op, Outcome, keeps_limits}
use Rattle.spec_exchange.specs.Client.{Client}
use Rattle.base_lists.specs.declared.number_set.Members.{Members}
use Rattle.base_lists.specs.number_set.Members.{has}
use Rattle.client_values.specs.declared.operations.values.OpKind.{OpKind}
use Rattle.client_rows.specs.declared.operation_rows.row.Row.{Row}
use Rattle.client_rows.specs.operation_rows.Rows.{is_out}
use Rattle.client_rows.specs.operation_rows.Holding.{IsSafe}
use Rattle.client_rows.specs.operation_rows.Choosing.{RowCounts}
use Rattle.client_values.specs.declared.outcomes.outcome.Outcome.{Outcome as Settled}
use Rattle.client_values.specs.declared.outcomes.outcome.RefusedDialog.{RefusedDialog as Refused}
use Rattle.client_rows.specs.Shown.{KeepsRow, ShowsRows}
use Rattle.client_rows.specs.declared.session_state.session.Session.{Session}
use Rattle.client_tables.specs.outstanding.Shown.{HoldsOut}
use Rattle.client_tables.specs.settling.Shown.{ShowsValues}
use Rattle.client_tables.proofs.settling.Settled.{values_moved}
use Rattle.client_tables.specs.whole_table.Shown.{FitsParts, ShowsParts}
use Rattle.client_tables.proofs.whole_table.Losing.{left_same, owned_moved}
use Rattle.client_steps.specs.Steps.{KeepsRest}

module _ (rows new : List Row) (x : ℕ) (k : KeepsRow rows new x) where
  -- of all others the set is right still
  pub others_so : (out : Members) → HoldsOut rows out
      → (g : ℕ) → g < length new → (g ≡ x → ⊥) → has out g ≡ is_out new g
  others_so out h g l n = h.out_is g (subst (λ m. g < m) k.count l) ∙ ap (λ o. is_some o) (sym (k.others g n))

  pub stepped_fits : (holders prices after : List ℕ) (watchers : List Watch) (out next : Members)
      (lowest operations settled replies room : ℕ) → IsSafe new holders → RowCounts new after watchers → HoldsOut new next
      → FitsParts rows holders prices watchers out lowest operations settled replies room
      → FitsParts new holders after watchers next lowest operations settled replies room
  stepped_fits holders prices after watchers out next lowest operations settled replies room s u o f =
      record {
        safe = s;
        counts = u;
        out = o;
        above = f.above;
        lowest = λ g l. k.unsettled g ∙ f.lowest g l;
        inside = subst (λ n. (lowest ≤ 1) ⊎ (lowest ≤ n)) (sym k.count) f.inside;
        owned = owned_moved rows new k.count k.create f.owned;
        ops_counted = f.ops_counted ∙ ap (λ n. n - 1) (sym k.count);
        settled_counted = f.settled_counted ∙ ap (λ n. n - 1) (sym k.count);
        roomy = subst (λ n. replies + n ≤ room) (sym (left_same rows new k.count k.unsettled)) f.roomy;
      }

  pub stepped_shown : (z : Session) (holders prices after : List ℕ) (watchers : List Watch) (ops : List OpKind) (settled : List Settled)
      (order : List ℕ) (dialogs : List Refused) (c d : Client) → KeepsRest c d
      → ShowsParts z rows holders prices watchers ops settled order dialogs c → ShowsRows new holders after watchers d
      → ShowsParts z new holders after watchers ops settled order dialogs d
  stepped_shown z holders prices after watchers ops settled order dialogs c d r s h =
      record {
        rows = h;
        session = record {
          live = r.live ∙ s.session.live;
          session = r.session ∙ s.session.session;
          number = r.number ∙ s.session.number;
          tree = r.tree ∙ s.session.tree;
          sequence = r.sequence ∙ s.session.sequence;
          channels = r.channels ∙ s.session.channels;
          ready = λ j. r.ready j ∙ s.session.ready j;
          counted = s.session.counted;
          apart = s.session.apart;
          sized = s.session.sized;
          within = s.session.within;
        };
        values = subst (λ n. ShowsValues new ops settled n d.op d.outcome) (sym r.taken)
            (subst (λ (o : ℕ → Op). ShowsValues new ops settled c.taken o d.outcome) (sym r.op)
            (subst (λ (o : ℕ → Outcome). ShowsValues new ops settled c.taken c.op o) (sym r.outcome)
            (values_moved rows new ops settled c.taken c.op c.outcome k.unsettled s.values)));
        order = r.order ∙ s.order;
        refusals = r.refusals ∙ s.refusals;
        bounds = record {
          attached = λ y. subst (λ n. d.attached y ≤ n) (sym r.number)
              (subst (λ (f : ℕ → ℕ). f y ≤ c.session_number) (sym r.attached) (s.bounds.attached y));
          counted = λ q. subst (λ n. 0 < n) (sym r.number) (s.bounds.counted (sym r.live ∙ q));
          limits = λ g p l. subst (λ (o : ℕ → Op). keeps_limits (o g) ≡ true) (sym r.op)
              (s.bounds.limits g p (subst (λ n. g ≤ n) r.taken l));
          slotted = r.slotted s.bounds.slotted;
          users = r.users s.bounds.users;
        };
      }
