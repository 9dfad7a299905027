-- An operation settles, without a reply and by one.
use Rattle.std.proofs.Common.{◌≡◌, ℕ, zero, suc, ◌+◌, ◌-◌, ◌<◌, ◌≤◌, true, false, if◌then◌else◌, List, [], ◌∷◌, length, set}
use Rattle.std.proofs.Common.{ap, arith}
use Rattle.std.specs.List.{sum_by}
use Rattle.std.proofs.lemmas.List.Sums.{sum_by-cons}
use Rattle.base_lists.specs.declared.watch_lists.Link.{Link as Watch}
use Rattle.spec_exchange.specs.Operations.{Outcome}
use Rattle.spec_exchange.specs.Client.{Client}
use Rattle.base_lists.specs.declared.number_set.Members.{Members}
use Rattle.client_values.specs.declared.operations.values.OpKind.{OpKind}
use Rattle.client_rows.specs.declared.operation_rows.row.Row.{Row}
use Rattle.client_rows.specs.operation_rows.Rows.{stands}
use Rattle.client_rows.specs.operation_rows.Holding.{IsSafe}
use Rattle.client_rows.specs.operation_rows.Choosing.{RowCounts}
use Rattle.client_values.specs.declared.outcomes.outcome.Outcome.{Outcome as Settled}
use Rattle.client_values.specs.declared.outcomes.outcome.RefusedDialog.{RefusedDialog as Refused}
use Rattle.client_rows.specs.Shown.{ShowsRows}
use Rattle.client_rows.specs.declared.session_state.session.Session.{Session}
use Rattle.client_tables.specs.settling.Shown.{GoesSettled, ShowsValues}
use Rattle.client_tables.specs.whole_table.Shown.{FitsParts, ShowsParts, one_left}
use Rattle.client_tables.proofs.whole_table.Finished.{finish_fits}

no_such : (x : ℕ) → x < 0 → ⊥
no_such x l = omega arith

lower : (x n : ℕ) → suc x < suc n → x < n
lower x n l = omega arith

one_less : (a b s x y : ℕ) → a ≡ 0 → b ≡ 1 → x ≡ a + s → y ≡ b + s → x + 1 ≡ y
one_less a b s x y e f p q = omega arith

one_further : (a s t x y : ℕ) → x ≡ a + s → y ≡ a + t → s + 1 ≡ t → x + 1 ≡ y
one_further a s t x y p q e = omega arith

-- where an unsettled row is written settled, one less is left
pub left_one : (rows : List Row) (x : ℕ) (r : Row) → x < length rows → stands rows x ≡ true → r.unsettled ≡ false
    → sum_by one_left (set rows x r) + 1 ≡ sum_by one_left rows
left_one [] x r l u e = absurd (no_such x l)
left_one (y ∷ ys) zero r l u e =
    one_less (one_left r) (one_left y) (sum_by one_left ys) (sum_by one_left (r ∷ ys)) (sum_by one_left (y ∷ ys))
    (ap (λ b. if b then 1 else 0) e) (ap (λ b. if b then 1 else 0) u) (sum_by-cons one_left r ys) (sum_by-cons one_left y ys)
left_one (y ∷ ys) (suc x) r l u e =
    one_further (one_left y) (sum_by one_left (set ys x r)) (sum_by one_left ys) (sum_by one_left (y ∷ set ys x r))
    (sum_by one_left (y ∷ ys)) (sum_by-cons one_left y (set ys x r)) (sum_by-cons one_left y ys)
    (left_one ys x r (lower x (length ys) l) u e)

-- so there was room for one more place in the order
pub room_left : (replies old new room : ℕ) → new + 1 ≡ old → replies + old ≤ room → replies < room
room_left replies old new room e l = omega arith

one_more_room : (replies old new room : ℕ) → new + 1 ≡ old → replies + old ≤ room → (replies + 1) + new ≤ room
one_more_room replies old new room e l = omega arith

-- what fits behind it, with one more in the order
pub reply_fits : (rows new : List Row) (m : GoesSettled rows new) (holders prices after : List ℕ) (watchers watching : List Watch)
    (out : Members) (lowest operations settled replies room : ℕ) → IsSafe new holders → RowCounts new after watching
    → sum_by one_left new + 1 ≡ sum_by one_left rows
    → FitsParts rows holders prices watchers out lowest operations settled replies room
    → FitsParts new holders after watching out lowest operations settled (replies + 1) room
reply_fits rows new m holders prices after watchers watching out lowest operations settled replies room s u e f =
    let g = finish_fits rows new m holders prices after watchers watching out lowest operations settled replies room s u f in
    record {
      safe = g.safe;
      counts = g.counts;
      out = g.out;
      above = g.above;
      lowest = g.lowest;
      inside = g.inside;
      owned = g.owned;
      ops_counted = g.ops_counted;
      settled_counted = g.settled_counted;
      roomy = one_more_room replies (sum_by one_left rows) (sum_by one_left new) room e f.roomy;
    }

-- the client with other outcomes, and with another order
pub settled_shown : (z : Session) (rows new : List Row) (holders prices after : List ℕ) (watchers watching : List Watch) (ops : List OpKind)
    (was settled : List Settled) (order later : List ℕ) (dialogs : List Refused) (c : Client) (outcome : ℕ → Outcome) (replies : List ℕ)
    → ShowsParts z rows holders prices watchers ops was order dialogs c
    → ShowsRows new holders after watching (record c { outcome = outcome }) → ShowsValues new ops settled c.taken c.op outcome
    → replies ≡ later
    → ShowsParts z new holders after watching ops settled later dialogs (record c { outcome = outcome; order = replies })
settled_shown z rows new holders prices after watchers watching ops was settled order later dialogs c outcome replies s r v e =
    record {
      rows = record { places = r.places; sends = r.sends; stand = r.stand };
      session = record {
        live = s.session.live;
        session = s.session.session;
        number = s.session.number;
        tree = s.session.tree;
        sequence = s.session.sequence;
        channels = s.session.channels;
        ready = s.session.ready;
        counted = s.session.counted;
        apart = s.session.apart;
        sized = s.session.sized;
        within = s.session.within;
      };
      values = v;
      order = e;
      refusals = s.refusals;
      bounds = record {
        attached = s.bounds.attached;
        counted = s.bounds.counted;
        limits = s.bounds.limits;
        slotted = s.bounds.slotted;
        users = s.bounds.users;
      };
    }
