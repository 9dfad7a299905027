-- More room, and prices that were made; all that shows stays.
use Rattle.std.proofs.Common.{◌≡◌, ℕ, suc, ◌+◌, ◌≤◌, Bool, true, false, if◌then◌else◌, List, [], ◌∷◌, length, sym, ◌∙◌, subst, arith}
use Rattle.std.proofs.Common.{Result, Ok, Err, OnOk}
use Rattle.std.specs.List.{sum_by}
use Rattle.std.proofs.lemmas.List.Sums.{sum_by-cons}
use Rattle.base_lists.specs.declared.watch_lists.Link.{Link as Watch}
use Rattle.spec_exchange.specs.Client.{Client}
use Rattle.base_lists.specs.declared.number_set.Members.{Members}
use Rattle.base_lists.specs.number_set.Members.{MembersFit as FitsSet, has, size}
use Rattle.client_values.specs.declared.operations.values.OpKind.{OpKind}
use Rattle.client_rows.specs.declared.operation_rows.row.Row.{Row}
use Rattle.client_rows.specs.operation_rows.Choosing.{RowCounts}
use Rattle.client_values.specs.declared.outcomes.outcome.Outcome.{Outcome as Settled}
use Rattle.client_values.specs.declared.outcomes.outcome.RefusedDialog.{RefusedDialog as Refused}
use Rattle.client_rows.specs.Shown.{ShowsRows}
use Rattle.client_rows.specs.declared.session_state.session.Session.{Session}
use Rattle.client_tables.specs.outstanding.Shown.{HoldsOut}
use Rattle.client_tables.specs.whole_table.Shown.{FitsParts, ShowsParts, one_left}

pub out_moved : (rows : List Row) (old new : Members) → FitsSet new → size new ≡ size old → ((h : ℕ) → has new h ≡ has old h)
    → HoldsOut rows old → HoldsOut rows new
out_moved rows old new f n h o =
    record { fits = f; sized = n ∙ o.sized; out_is = λ g l. h g ∙ o.out_is g l }

pub same_least : (n : ℕ) → n ≤ n
same_least n = omega arith

higher : (replies left room more : ℕ) → replies + left ≤ room → room ≤ more → replies + left ≤ more
higher replies left room more l h = omega arith

module _ (rows : List Row) (holders prices after : List ℕ) (watchers watching : List Watch) (out made : Members)
    (low operations settled replies room more : ℕ) where
  -- how many values there are stays
  pub roomed : RowCounts rows after watching → HoldsOut rows made → room ≤ more
      → FitsParts rows holders prices watchers out low operations settled replies room
      → FitsParts rows holders after watching made low operations settled replies more
  roomed u o h f =
      record {
        safe = f.safe;
        counts = u;
        out = o;
        above = f.above;
        lowest = f.lowest;
        inside = f.inside;
        owned = f.owned;
        ops_counted = f.ops_counted;
        settled_counted = f.settled_counted;
        roomy = higher replies (sum_by one_left rows) room more f.roomy h;
      }

pub rows_anew : (z : Session) (rows : List Row) (holders prices after : List ℕ) (watchers watching : List Watch) (ops : List OpKind)
    (settled : List Settled) (order : List ℕ) (dialogs : List Refused) (c : Client)
    → ShowsParts z rows holders prices watchers ops settled order dialogs c → ShowsRows rows holders after watching c
    → ShowsParts z rows holders after watching ops settled order dialogs c
rows_anew z rows holders prices after watchers watching ops settled order dialogs c s r =
    record { rows = r; session = s.session; values = s.values; order = s.order; refusals = s.refusals; bounds = s.bounds }

-- lists that are the same ones
module _ (z : Session) (rows : List Row) (holders prices : List ℕ) (watchers : List Watch) (ops ops2 : List OpKind)
    (settled settled2 : List Settled) (order order2 : List ℕ) (dialogs : List Refused) (a : ops2 ≡ ops) (b : settled2 ≡ settled)
    (e : order2 ≡ order) where
  pub same_shown : (c : Client) → ShowsParts z rows holders prices watchers ops settled order dialogs c
      → ShowsParts z rows holders prices watchers ops2 settled2 order2 dialogs c
  same_shown c s =
      subst (λ (x : List OpKind). ShowsParts z rows holders prices watchers x settled2 order2 dialogs c) (sym a)
      (subst (λ (x : List Settled). ShowsParts z rows holders prices watchers ops x order2 dialogs c) (sym b)
      (subst (λ (x : List ℕ). ShowsParts z rows holders prices watchers ops settled x dialogs c) (sym e) s))

  pub same_fits : (out : Members) (low room : ℕ)
      → FitsParts rows holders prices watchers out low (length ops) (length settled) (length order) room
      → FitsParts rows holders prices watchers out low (length ops2) (length settled2) (length order2) room
  same_fits out low room f =
      subst (λ (x : List OpKind). FitsParts rows holders prices watchers out low (length x) (length settled2) (length order2) room) (sym a)
      (subst (λ (x : List Settled). FitsParts rows holders prices watchers out low (length ops) (length x) (length order2) room) (sym b)
      (subst (λ (x : List ℕ). FitsParts rows holders prices watchers out low (length ops) (length settled) (length x) room) (sym e) f))

-- those that are unsettled are no more than the rows
at_most : (a x n s : ℕ) → a ≤ 1 → x ≡ a + s → s ≤ n → x ≤ suc n
at_most a x n s p e q = omega arith

pub one_at_most : (b : Bool) → (if b then 1 else 0) ≤ 1
one_at_most true = omega arith
one_at_most false = omega arith

pub left_all : (rows : List Row) → sum_by one_left rows ≤ length rows
left_all [] = omega arith
left_all (r ∷ rs) =
    at_most (one_left r) (sum_by one_left (r ∷ rs)) (length rs) (sum_by one_left rs) (one_at_most r.unsettled) (sum_by-cons one_left r rs)
    (left_all rs)

pub room_for_all : (replies left n count room : ℕ) → left ≤ n → count ≡ n → replies + (count + 1) ≤ room → (replies + left) + 1 ≤ room
room_for_all replies left n count room l e h = omega arith

pub ok_more : {T E P Q : Type 0} (r : Result T E) → (P → Q) → OnOk r P → OnOk r Q
ok_more (Ok x) f p = f p
ok_more (Err e) f p = tt
