-- The first row comes, which is of no operation.
use Rattle.std.proofs.Common.{◌≡◌, ℕ, suc, ◌+◌, ◌<◌, ◌≤◌, ◌==◌, false, true, List, [], ◌∷◌, length, is_some}
use Rattle.std.proofs.Common.{refl, ap, sym, ◌∙◌, subst, arith, ◌⊎◌, inl, inr}
use Rattle.std.specs.List.{sum_by}
use Rattle.std.proofs.lemmas.List.Sums.{sum_by-cons}
use Rattle.std.proofs.lemmas.List.{get_or_past}
use Rattle.base_lists.specs.declared.watch_lists.Link.{Link as Watch}
use Rattle.spec_exchange.specs.Client.{Client}
use Rattle.base_lists.specs.declared.number_set.Members.{Members}
use Rattle.base_lists.specs.number_set.Members.{MembersFit as FitsSet, has, size}
use Rattle.client_values.specs.declared.operations.values.OpKind.{OpKind}
use Rattle.client_rows.specs.declared.operation_rows.row.Row.{Row}
use Rattle.client_rows.specs.operation_rows.Rows.{is_out, no_row, row_at}
use Rattle.client_rows.specs.operation_rows.Holding.{IsSafe}
use Rattle.client_rows.specs.operation_rows.Choosing.{RowCounts}
use Rattle.client_rows.specs.operation_rows.Moves.{StandsRows}
use Rattle.client_rows.proofs.operation_rows.Beginning.{reads_none}
use Rattle.client_values.specs.declared.outcomes.outcome.Outcome.{Outcome as Settled}
use Rattle.client_values.specs.declared.outcomes.outcome.RefusedDialog.{RefusedDialog as Refused}
use Rattle.client_rows.specs.Shown.{ShowsRows, fills_by, waits_by}
use Rattle.client_rows.specs.declared.session_state.session.Session.{Session}
use Rattle.client_tables.specs.outstanding.Shown.{HoldsOut}
use Rattle.client_tables.specs.whole_table.Shown.{FitsParts, ShowsParts, one_left}

pub some_there : (n : ℕ) → (n == 0) ≡ false → 0 < n
some_there n e = grind arith

none_of : (n : ℕ) → (n == 0) ≡ true → n ≡ 0
none_of n e = grind arith

pub empty_of : {X : Type 0} (xs : List X) (n : ℕ) → length xs ≡ n → (n == 0) ≡ true → xs ≡ []
empty_of [] n l e = refl
empty_of (x ∷ xs) n l e = absurd (no_one (length xs) (l ∙ none_of n e))
  where
    no_one : (n : ℕ) → suc n ≡ 0 → ⊥
    no_one n e = omega arith

-- and so the set of what is outstanding has no numbers
pub none_out : (rows : List Row) (out : Members) → rows ≡ [] → HoldsOut rows out → size out ≡ 0
none_out rows out e o = o.sized ∙ ap (λ (xs : List Row). length xs) e

none_below : (n : ℕ) → n < 0 → ⊥
none_below n l = omega arith

first_alone : (g : ℕ) → g < 1 → g ≡ 0
first_alone g l = omega arith

not_first : (g : ℕ) → 0 < g → g < 1 → ⊥
not_first g p l = omega arith

low_first : (n : ℕ) → (n ≤ 1) ⊎ (n ≤ 0) → n ≤ 1
low_first n (inl l) = l
low_first n (inr l) = omega arith

none_more : (replies a b s room : ℕ) → a ≡ 0 → s ≡ a + b → replies + b ≤ room → replies + s ≤ room
none_more replies a b s room z e l = omega arith

reads_nothing : (g : ℕ) → row_at [] g ≡ no_row
reads_nothing g = get_or_past [] g no_row (least g)
  where
    least : (g : ℕ) → 0 ≤ g
    least g = omega arith

pub first_fits : (holders prices after : List ℕ) (watchers watching : List Watch) (out made : Members)
    (low operations settled replies room : ℕ) → IsSafe (no_row ∷ []) holders → RowCounts (no_row ∷ []) after watching
    → FitsSet made → size made ≡ 1 → has made 0 ≡ false
    → FitsParts [] holders prices watchers out low operations settled replies room
    → FitsParts (no_row ∷ []) holders after watching made low operations settled replies room
first_fits holders prices after watchers watching out made low operations settled replies room s u m n h f =
    record {
      safe = s;
      counts = u;
      out = record {
        fits = m;
        sized = n;
        out_is = λ g l. subst (λ x. has made x ≡ is_out (no_row ∷ []) x) (sym (first_alone g l))
            (h ∙ sym (ap (λ (r : Row). is_some r.outstanding_on) (reads_none 0)));
      };
      above = f.above;
      lowest = λ g l. ap (λ (r : Row). r.unsettled) (reads_none g);
      inside = inl (low_first low f.inside);
      owned = λ g p l. absurd (not_first g p l);
      ops_counted = f.ops_counted;
      settled_counted = f.settled_counted;
      roomy = none_more replies (one_left no_row) (sum_by one_left []) (sum_by one_left (no_row ∷ [])) room refl
          (sum_by-cons one_left no_row []) f.roomy;
    }

-- nothing is taken where there are no rows
pub first_rows : (holders prices after : List ℕ) (watchers watching : List Watch) (c : Client)
    → StandsRows (waits_by c.op) (fills_by c.op) (no_row ∷ []) holders after watching
    → ShowsRows [] holders prices watchers c → ShowsRows (no_row ∷ []) holders after watching c
first_rows holders prices after watchers watching c st s =
    let p = s.places in
    let d = s.sends in
    record {
      places = record {
        has_row = λ g a l. absurd (none_below g (p.has_row g a l));
        is_taken = λ g a l. absurd (not_first g a l);
        creates = λ g a l. absurd (none_below g (p.has_row g a l));
        kinds = λ g a l. absurd (none_below g (p.has_row g a l));
        charges = λ g a l. absurd (none_below g (p.has_row g a l));
        unsettled = λ g a l. absurd (none_below g (p.has_row g a l));
        firm_is = λ g a l. absurd (none_below g (p.has_row g a l));
        pays = λ g a l u. absurd (none_below g (p.has_row g a l));
      };
      sends = record {
        sent_is = λ g. d.sent_is g ∙ ap (λ (r : Row). r.sent) (reads_nothing g ∙ sym (reads_none g));
        out_is = λ g. d.out_is g ∙ ap (λ (r : Row). r.outstanding_on) (reads_nothing g ∙ sym (reads_none g));
        asks_is = λ g. d.asks_is g ∙ ap (λ (r : Row). r.asking) (reads_nothing g ∙ sym (reads_none g));
        unanswered_is = λ g. d.unanswered_is g ∙ ap (λ (r : Row). r.unanswered) (reads_nothing g ∙ sym (reads_none g));
        sequence_is = λ g. d.sequence_is g ∙ ap (λ (r : Row). r.sequence) (reads_nothing g ∙ sym (reads_none g));
        slot_is = λ g. d.slot_is g ∙ ap (λ (r : Row). r.slot) (reads_nothing g ∙ sym (reads_none g));
        number_is = λ g. d.number_is g ∙ ap (λ (r : Row). r.slot_number) (reads_nothing g ∙ sym (reads_none g));
      };
      stand = st;
    }

pub first_shown : (z : Session) (holders prices after : List ℕ) (watchers watching : List Watch) (ops : List OpKind)
    (settled : List Settled) (order : List ℕ) (dialogs : List Refused) (c : Client)
    → ShowsParts z [] holders prices watchers ops settled order dialogs c → ShowsRows (no_row ∷ []) holders after watching c
    → ShowsParts z (no_row ∷ []) holders after watching ops settled order dialogs c
first_shown z holders prices after watchers watching ops settled order dialogs c s r =
    record {
      rows = r;
      session = s.session;
      values = record {
        ops_counted = s.values.ops_counted;
        settled_counted = s.values.settled_counted;
        op_is = s.values.op_is;
        outcome_is = λ g p l. absurd (none_below g (s.rows.places.has_row g p l));
      };
      order = s.order;
      refusals = s.refusals;
      bounds = s.bounds;
    }
