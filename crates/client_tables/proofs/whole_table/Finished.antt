-- All is settled, or is given up.
use Rattle.std.proofs.Common.{◌≡◌, ℕ, ◌+◌, ◌-◌, ◌<◌, ◌≤◌, Bool, true, not, nat_le, nat_lt, List, length, is_some}
use Rattle.std.proofs.Common.{ap, sym, ◌∙◌, subst, arith, ◌⊎◌, inr}
use Rattle.std.specs.List.{sum_by}
use Rattle.base_lists.specs.declared.watch_lists.Link.{Link as Watch}
use Rattle.spec_exchange.specs.Operations.{Why}
use Rattle.spec_exchange.specs.Client.{Client, finish}
use Rattle.spec_exchange.specs.ClientStep.{some_unsettled}
use Rattle.spec_exchange.specs.Schedules.{cost}
use Rattle.base_lists.specs.declared.number_set.Members.{Members}
use Rattle.client_values.specs.declared.operations.values.OpKind.{OpKind}
use Rattle.client_rows.specs.declared.operation_rows.row.Row.{Row}
use Rattle.client_rows.specs.operation_rows.Holding.{IsSafe}
use Rattle.client_rows.specs.operation_rows.Choosing.{RowCounts}
use Rattle.client_values.specs.declared.outcomes.outcome.Outcome.{Outcome as Settled}
use Rattle.client_values.specs.declared.outcomes.outcome.RefusedDialog.{RefusedDialog as Refused}
use Rattle.client_rows.specs.Shown.{RowShowsPlaces, ShowsRows}
use Rattle.client_rows.specs.declared.session_state.session.Session.{Session}
use Rattle.client_tables.specs.settling.Shown.{AreSettledBelow, GoesSettled, ShowsValues}
use Rattle.client_tables.proofs.settling.Unsettled.{left_is}
use Rattle.client_tables.specs.whole_table.Shown.{FitsParts, ShowsParts, one_left}
use Rattle.client_tables.proofs.whole_table.Losing.{left_fewer, owned_moved}

higher : (a b : ℕ) → 0 < a → a ≤ b → 0 < b
higher a b p l = omega arith

pub looked_fits : (rows : List Row) (holders prices : List ℕ) (watchers : List Watch) (out : Members)
    (lowest n operations settled replies room : ℕ) → lowest ≤ n → n ≤ length rows → AreSettledBelow rows n
    → FitsParts rows holders prices watchers out lowest operations settled replies room
    → FitsParts rows holders prices watchers out n operations settled replies room
looked_fits rows holders prices watchers out lowest n operations settled replies room l h b f =
    record {
      safe = f.safe;
      counts = f.counts;
      out = f.out;
      above = higher lowest n f.above l;
      lowest = b;
      inside = inr h;
      owned = f.owned;
      ops_counted = f.ops_counted;
      settled_counted = f.settled_counted;
      roomy = f.roomy;
    }

abbrev pub told_by : ℕ → List Row → Bool
told_by n xs = nat_lt n (length xs)

-- what isn't below is not
pub not_left : (n m : ℕ) (b : Bool) → b ≡ nat_lt n m → nat_le m n ≡ not b
not_left n m b e = turned n m ∙ sym (ap (λ x. not x) e)
  where
    turned : (n m : ℕ) → nat_le m n ≡ not (nat_lt n m)
    turned n m = grind arith

reaches : (m n : ℕ) → m ≤ n → true ≡ nat_le m n
reaches m n l = grind arith

not_below : (m n : ℕ) → m ≤ n → n < m → ⊥
not_below m n l h = omega arith

-- where all rows are below
pub all_settled : (rows : List Row) (c : Client) (n : ℕ) → 0 < n → length rows ≤ n
    → RowShowsPlaces rows c.taken c.op c.outcome (λ g. cost c g) → AreSettledBelow rows n → true ≡ not (some_unsettled c c.taken)
all_settled rows c n p l s b =
    reaches (length rows) n l ∙ not_left n (length rows) (some_unsettled c c.taken)
    (left_is rows c n p s b (λ w. absurd (not_below (length rows) n l w)))

-- ---- the end of all

fewer_room : (a x y n : ℕ) → x ≤ y → a + y ≤ n → a + x ≤ n
fewer_room a x y n l h = omega arith

module _ (rows new : List Row) (m : GoesSettled rows new) where
  pub finish_fits : (holders prices after : List ℕ) (watchers watching : List Watch) (out : Members)
      (lowest operations settled replies room : ℕ) → IsSafe new holders → RowCounts new after watching
      → FitsParts rows holders prices watchers out lowest operations settled replies room
      → FitsParts new holders after watching out lowest operations settled replies room
  finish_fits holders prices after watchers watching out lowest operations settled replies room s u f =
      record {
        safe = s;
        counts = u;
        out = record {
          fits = f.out.fits;
          sized = f.out.sized ∙ sym m.count;
          out_is = λ g l. f.out.out_is g (subst (λ n. g < n) m.count l) ∙ ap (λ z. is_some z) (sym (m.out g));
        };
        above = f.above;
        lowest = λ g l. m.settled g (f.lowest g l);
        inside = subst (λ n. (lowest ≤ 1) ⊎ (lowest ≤ n)) (sym m.count) f.inside;
        owned = owned_moved rows new m.count m.create f.owned;
        ops_counted = f.ops_counted ∙ ap (λ n. n - 1) (sym m.count);
        settled_counted = f.settled_counted ∙ ap (λ n. n - 1) (sym m.count);
        roomy = fewer_room replies (sum_by one_left new) (sum_by one_left rows) room (left_fewer rows new m.count m.settled) f.roomy;
      }

pub finish_shown : (z : Session) (rows new : List Row) (holders prices after : List ℕ) (watchers watching : List Watch) (ops : List OpKind)
    (was settled : List Settled) (order : List ℕ) (dialogs : List Refused) (c : Client) (why : Why)
    → ShowsParts z rows holders prices watchers ops was order dialogs c
    → ShowsRows new holders after watching (finish c why) → ShowsValues new ops settled c.taken c.op (finish c why).outcome
    → ShowsParts z new holders after watching ops settled order dialogs (finish c why)
finish_shown z rows new holders prices after watchers watching ops was settled order dialogs c why s r v =
    record {
      rows = r;
      session = record {
        live = s.session.live;
        session = s.session.session;
        number = s.session.number;
        tree = s.session.tree;
        sequence = s.session.sequence;
        channels = s.session.channels;
        ready = s.session.ready;
        counted = s.session.counted;
        apart = s.session.apart;
        sized = s.session.sized;
        within = s.session.within;
      };
      values = v;
      order = s.order;
      refusals = s.refusals;
      bounds = record {
        attached = s.bounds.attached;
        counted = s.bounds.counted;
        limits = s.bounds.limits;
        slotted = s.bounds.slotted;
        users = s.bounds.users;
      };
    }
