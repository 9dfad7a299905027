-- A table without operations shows the client that begins.
use Rattle.std.proofs.Common.{◌≡◌, ℕ, ◌-◌, ◌<◌, ◌≤◌, Bool, false, List, [], length, Option, Some, None, refl, ap, sym, subst, arith, inl}
use Rattle.std.proofs.lemmas.List.{get_or_past}
use Rattle.base_lists.specs.declared.watch_lists.Link.{Link as Watch}
use Rattle.base_lists.specs.watch_lists.Listed.{no_link, watches}
use Rattle.spec_exchange.specs.Network.{Settings, start}
use Rattle.base_lists.specs.declared.number_set.Members.{Members}
use Rattle.base_lists.specs.number_set.Members.{MembersFit as FitsSet, size}
use Rattle.client_values.specs.declared.operations.values.OpKind.{OpKind}
use Rattle.client_values.specs.declared.operations.shapes.Kind.TheVariants as kinds
use Rattle.client_rows.specs.declared.operation_rows.row.Row.{Row}
use Rattle.client_rows.specs.operation_rows.Rows.{row_at, no_row}
use Rattle.client_rows.specs.operation_rows.Holding.{HoldingFits, IsSafe}
use Rattle.client_rows.specs.operation_rows.Choosing.{RowCounts}
use Rattle.client_rows.specs.operation_rows.Moves.{StandsRows}
use Rattle.client_rows.proofs.operation_rows.Columns.{moved}
use Rattle.client_values.specs.declared.outcomes.outcome.Outcome.{Outcome as Settled}
use Rattle.client_values.specs.declared.outcomes.outcome.RefusedDialog.{RefusedDialog as Refused}
use Rattle.client_rows.specs.Shown.{ShowsRows, fills_by, waits_by}
use Rattle.client_rows.specs.declared.session_state.session.Session.{Session}
use Rattle.client_rows.specs.session_state.Shown.{ClientShowsSession}
use Rattle.client_tables.specs.whole_table.Shown.{FitsParts, ShowsParts}

none_below : {n : ℕ} → n < 0 → ⊥
none_below l = omega arith

none_here : (g : ℕ) → row_at [] g ≡ no_row
none_here g = get_or_past [] g no_row (least g)
  where
    least : (g : ℕ) → 0 ≤ g
    least g = omega arith

none_watched : (g : ℕ) → watches [] g ≡ 0
none_watched g = ap (λ (w : Watch). w.watch) (get_or_past [] g no_link (least g))
  where
    least : (g : ℕ) → 0 ≤ g
    least g = omega arith

same_reading : ◌≡◌ {A = ℕ → Row} (λ (g : ℕ). no_row) (λ (g : ℕ). row_at [] g)
same_reading = λ t g. (sym (none_here g)) t

column : {X : Type 0} (f : Row → X) → ◌≡◌ {A = ℕ → X} (λ (g : ℕ). f no_row) (λ (g : ℕ). f (row_at [] g))
column f = ap (λ (at : ℕ → Row). λ (g : ℕ). f (at g)) same_reading

bare : (holds : ℕ → ℕ → Bool) (fills : ℕ → Bool) → HoldingFits holds fills (λ g. 0) (λ g. kinds.Create) (λ g. false)
    (λ g. 0) (λ g. 0) (λ g. 0)
    (λ g. 0) (λ g. 0) []
bare holds fills =
    record {
      own = λ g. refl;
      opens = record { gap = λ g h a b o. refl; same = λ g p h. absurd (none_below p); is = λ g p. absurd (none_below p) };
      changing = record { gap = λ g h a b o. refl; same = λ g p h. absurd (none_below p); is = λ g p. absurd (none_below p) };
      filling = record { gap = λ g h a b o. refl; same = λ g p h. absurd (none_below p); is = λ g p. absurd (none_below p) };
      suits = λ h g l o. absurd (cc);
      entries = λ g i a b. absurd (none_below b);
      numbered = λ g i a b. absurd (none_below b);
      covered = λ g h p l e w. inl refl;
    }

pub stands_none : (holds : ℕ → ℕ → Bool) (fills : ℕ → Bool) → StandsRows holds fills [] [] [] []
stands_none holds fills =
    record {
      fits = moved (column (λ (r : Row). r.create)) (column (λ (r : Row). r.kind)) (column (λ (r : Row). r.unsettled))
          (column (λ (r : Row). r.lower)) (column (λ (r : Row). r.change)) (column (λ (r : Row). r.filled))
          (column (λ (r : Row). r.holders)) (column (λ (r : Row). r.holders_end)) (bare holds fills);
      first = λ g h p e l o w. ap (λ (r : Row). r.unsettled) (none_here h);
      watched = λ g p. absurd (none_below (subst (λ n. 0 < n) (none_watched g) p));
      priced = λ g l. absurd (none_below l);
    }

pub safe_none : IsSafe [] []
safe_none =
    record {
      descend = record {
        all = λ g. subst (λ n. n ≤ g - 1) (sym (ap (λ (r : Row). r.lower) (none_here g))) (least (g - 1));
        changes = λ g. subst (λ n. n ≤ g - 1) (sym (ap (λ (r : Row). r.change) (none_here g))) (least (g - 1));
        filled = λ g. subst (λ n. n ≤ g - 1) (sym (ap (λ (r : Row). r.filled) (none_here g))) (least (g - 1));
      };
      listed = λ g l. absurd (none_below l);
      nought = ap (λ (r : Row). r.unsettled) (none_here 0);
      owned = λ g l. absurd (none_below l);
    }
  where
    least : (g : ℕ) → 0 ≤ g
    least g = omega arith

pub counts_none : RowCounts [] [] []
counts_none =
    record {
      has_prices = omega arith;
      has_watchers = omega arith;
      few = omega arith;
      apart = λ g l p. absurd (none_below l);
      inside = λ g p. absurd (none_below (subst (λ n. 0 < n) (none_watched g) p));
    }

taken_none : {g : ℕ} → 0 < g → g ≤ 0 → ⊥
taken_none p l = omega arith

pub rows_none : (settings : Settings) → ShowsRows [] [] [] [] (start settings).client
rows_none settings =
    let c = (start settings).client in
    record {
      places = record {
        has_row = λ g p l. absurd (taken_none p l);
        is_taken = λ g p l. absurd (none_below l);
        creates = λ g p l. absurd (taken_none p l);
        kinds = λ g p l. absurd (taken_none p l);
        charges = λ g p l. absurd (taken_none p l);
        unsettled = λ g p l. absurd (taken_none p l);
        firm_is = λ g p l. absurd (taken_none p l);
        pays = λ g p l u. absurd (taken_none p l);
      };
      sends = record {
        sent_is = λ g. sym (ap (λ (r : Row). r.sent) (none_here g));
        out_is = λ g. sym (ap (λ (r : Row). r.outstanding_on) (none_here g));
        asks_is = λ g. sym (ap (λ (r : Row). r.asking) (none_here g));
        unanswered_is = λ g. sym (ap (λ (r : Row). r.unanswered) (none_here g));
        sequence_is = λ g. sym (ap (λ (r : Row). r.sequence) (none_here g));
        slot_is = λ g. sym (ap (λ (r : Row). r.slot) (none_here g));
        number_is = λ g. sym (ap (λ (r : Row). r.slot_number) (none_here g));
      };
      stand = stands_none (waits_by c.op) (fills_by c.op);
    }

pub fits_none : (out : Members) (room : ℕ) → FitsSet out → size out ≡ 0 → FitsParts [] [] [] [] out 1 0 0 0 room
fits_none out room f e =
    record {
      safe = safe_none;
      counts = counts_none;
      out = record { fits = f; sized = e; out_is = λ g l. absurd (none_below l) };
      above = omega arith;
      lowest = λ g l. ap (λ (r : Row). r.unsettled) (none_here g);
      inside = inl (omega arith);
      owned = λ g p l. absurd (none_below l);
      ops_counted = refl;
      settled_counted = refl;
      roomy = omega arith;
    }

none_some : (o : Option ℕ) (g : ℕ) → o ≡ None → o ≡ Some g → ⊥
none_some o g e f = absurd (cc)

pub shown_none : (z : Session) (settings : Settings) → ClientShowsSession z (start settings).client
    → ShowsParts z [] [] [] [] [] [] [] [] (start settings).client
shown_none z settings h =
    record {
      rows = rows_none settings;
      session = h;
      values = record {
        ops_counted = refl;
        settled_counted = refl;
        op_is = λ g p l. absurd (taken_none p l);
        outcome_is = λ g p l. absurd (taken_none p l);
      };
      order = refl;
      refusals = refl;
      bounds = record {
        attached = λ x. omega arith;
        counted = λ q. absurd (cc);
        limits = λ g p l. absurd (taken_none p l);
        slotted = λ g p l. absurd (taken_none p l);
        users = λ x i g e. absurd (none_some ((start settings).client.slot_user x i) g refl e);
      };
    }

-- and so do lists that are told to be none
module _ (rows : List Row) (holders prices : List ℕ) (watchers : List Watch) (ops : List OpKind) (settled : List Settled) (order : List ℕ)
    (dialogs : List Refused) (a : rows ≡ []) (b : holders ≡ []) (p : prices ≡ []) (w : watchers ≡ []) (o : ops ≡ []) (t : settled ≡ [])
    (r : order ≡ []) (d : dialogs ≡ []) where
  pub fits_begun : (out : Members) (room : ℕ) → FitsSet out → size out ≡ 0
      → FitsParts rows holders prices watchers out 1 (length ops) (length settled) (length order) room
  fits_begun out room f e =
      subst (λ (x : List Row). FitsParts x holders prices watchers out 1 (length ops) (length settled) (length order) room) (sym a)
      (subst (λ (x : List ℕ). FitsParts [] x prices watchers out 1 (length ops) (length settled) (length order) room) (sym b)
      (subst (λ (x : List ℕ). FitsParts [] [] x watchers out 1 (length ops) (length settled) (length order) room) (sym p)
      (subst (λ (x : List Watch). FitsParts [] [] [] x out 1 (length ops) (length settled) (length order) room) (sym w)
      (subst (λ (x : List OpKind). FitsParts [] [] [] [] out 1 (length x) (length settled) (length order) room) (sym o)
      (subst (λ (x : List Settled). FitsParts [] [] [] [] out 1 0 (length x) (length order) room) (sym t)
      (subst (λ (x : List ℕ). FitsParts [] [] [] [] out 1 0 0 (length x) room) (sym r) (fits_none out room f e)))))))

  pub shown_begun : (z : Session) (settings : Settings) → ClientShowsSession z (start settings).client
      → ShowsParts z rows holders prices watchers ops settled order dialogs (start settings).client
  shown_begun z settings h =
      let c = (start settings).client in
      subst (λ (x : List Row). ShowsParts z x holders prices watchers ops settled order dialogs c) (sym a)
      (subst (λ (x : List ℕ). ShowsParts z [] x prices watchers ops settled order dialogs c) (sym b)
      (subst (λ (x : List ℕ). ShowsParts z [] [] x watchers ops settled order dialogs c) (sym p)
      (subst (λ (x : List Watch). ShowsParts z [] [] [] x ops settled order dialogs c) (sym w)
      (subst (λ (x : List OpKind). ShowsParts z [] [] [] [] x settled order dialogs c) (sym o)
      (subst (λ (x : List Settled). ShowsParts z [] [] [] [] [] x order dialogs c) (sym t)
      (subst (λ (x : List ℕ). ShowsParts z [] [] [] [] [] [] x dialogs c) (sym r)
      (subst (λ (x : List Refused). ShowsParts z [] [] [] [] [] [] [] x c) (sym d) (shown_none z settings h))))))))
