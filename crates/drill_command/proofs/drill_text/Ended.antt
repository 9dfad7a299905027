-- What a client that ended keeps of the operations that were taken.
use Rattle.std.proofs.Common.{◌≡◌, ℕ, zero, suc, ◌+◌, ◌-◌, ◌<◌, ◌≤◌, Bool, true, false, if◌then◌else◌, refl, sym, ap}
use Rattle.std.proofs.Common.{◌∙◌, arith, List, [], ◌∷◌, ◌++◌, length, map, slice_get, slice_index_or, Option}
use Rattle.std.specs.List.{flat_map}
use Rattle.std.proofs.lemmas.Option.{slice_get-get_or}
use Rattle.client_values.specs.outcomes.Meaning.{dialog_of, outcome_of}
use Rattle.client_values.specs.declared.outcomes.outcome.Outcome.{Outcome as Settled}
use Rattle.client_values.specs.declared.outcomes.outcome.Outcome.TheVariants as outcomes
use Rattle.client_values.specs.declared.outcomes.outcome.RefusedDialog.{RefusedDialog}
use Rattle.client_tables.specs.settling.Shown.{ShowsValues, outcome_by}
use Rattle.client_steps.proofs.whole_client.Taken.{taken_so}
use Rattle.client_steps.specs.whole_client.Shown.{ShowsClient}
use Rattle.client_steps.specs.declared.whole_client.client.Client.{Client as Core}
use Rattle.spec_exchange.specs.Client.{Client, RefusedDialog as Refused, finish, outcome_after_finish}
use Rattle.spec_exchange.specs.Network.{World}
use Rattle.spec_exchange.specs.Operations.{Op, Outcome, Unsettled, WasOk, WasRefused, NoSlot, NoOpen, Unknown, Ended}
use Rattle.store_files.specs.file_tree.Stored.{AreFiles}
use Rattle.store_files.specs.declared.file_tree.files.StoredFile.{StoredFile}
use Rattle.client_rows.specs.operation_rows.Rows.{stands}
use Rattle.client_rows.specs.declared.operation_rows.row.Row.{Row}
use Rattle.client_values.specs.operations.Meaning.{op_of}
use Rattle.client_values.specs.declared.operations.values.OpKind.{OpKind}
use Rattle.client_values.specs.declared.operations.values.OpKind.TheVariants as kinds
use Rattle.script_words.specs.outcome_lines.Text.{dialog_line, file_line, has_order, order_line, outcome_line}
use Rattle.script_words.specs.outcome_lines.Text.{outcome_text, run_text, settled_lines}
use Rattle.script_words.specs.declared.outcome_lines.orders.CreateOrder.{CreateOrder}
use Rattle.drill_command.specs.drill_text.Ordered.{IsToldBy, ordered_in, ordered_with}
use Rattle.drill_command.specs.drill_text.Text.{IsText, orders_to, outcomes_from}

-- ---- what giving up leaves of an outcome

abbrev pub gave : Outcome → Outcome
gave r = outcome_after_finish Ended r

-- one that gave up is settled
settled_so : (b : Bool) (o : Settled) (r : Outcome) → gave r ≡ outcome_by b o → gave r ≡ outcome_of o
settled_so false o r e = e
settled_so true o Unsettled e = absurd (cc)
settled_so true o (WasOk reply) e = absurd (cc)
settled_so true o (WasRefused status) e = absurd (cc)
settled_so true o (NoSlot create) e = absurd (cc)
settled_so true o (NoOpen create) e = absurd (cc)
settled_so true o (Unknown why) e = absurd (cc)

-- it is printed alike
same_text : (r : Outcome) → outcome_text (gave r) ≡ outcome_text r
same_text Unsettled = refl
same_text (WasOk reply) = refl
same_text (WasRefused status) = refl
same_text (NoSlot create) = refl
same_text (NoOpen create) = refl
same_text (Unknown why) = refl

same_order : (op : Op) (r : Outcome) → has_order op (gave r) ≡ has_order op r
same_order op Unsettled = refl
same_order op (WasOk reply) = refl
same_order op (WasRefused status) = refl
same_order op (NoSlot create) = refl
same_order op (NoOpen create) = refl
same_order op (Unknown why) = refl

same_line : (g : ℕ) (r s : Outcome) → outcome_text r ≡ outcome_text s → outcome_line g r ≡ outcome_line g s
unfolding outcome_line
same_line g r s e = rw e refl

-- ---- lines of operations that are printed alike

here : (g n : ℕ) → g < g + suc n
here g n = omega arith

higher : (g i : ℕ) → g + 1 ≤ i → g ≤ i
higher g i l = omega (arith, l)

within : (g n i : ℕ) → i < g + 1 + n → i < g + suc n
within g n i l = omega (arith, l)

itself : (g : ℕ) → g ≤ g
itself g = omega arith

pub same_lines : (f h : ℕ → Outcome) (g n : ℕ) → ((i : ℕ) → g ≤ i → i < g + n → outcome_text (f i) ≡ outcome_text (h i))
    → settled_lines g (outcomes_from f g n) ≡ settled_lines g (outcomes_from h g n)
unfolding settled_lines outcomes_from
same_lines f h g zero same = refl
same_lines f h g (suc n) same =
    ap (λ (l : List ℕ). l ++ settled_lines (g + 1) (outcomes_from f (g + 1) n)) (same_line g (f g) (h g) (same g (itself g) (here g n)))
    ∙ ap (λ (l : List ℕ). outcome_line g (h g) ++ l)
    (same_lines f h (g + 1) n (λ i low high. same i (higher g i low) (within g n i high)))

-- ---- lists by their places

first_place : (n : ℕ) → 0 < suc n
first_place n = omega arith

add_zero : (g : ℕ) → g ≡ g + 0
add_zero g = omega arith

one_on : (g i : ℕ) → g + 1 + i ≡ g + suc i
one_on g i = omega arith

longer : (i n : ℕ) → i < n → suc i < suc n
longer i n l = omega (arith, l)

-- by the n-th element, from a number on
listed : (f : ℕ → Outcome) (g : ℕ) (xs : List Settled) (d : Settled)
    → ((i : ℕ) → i < length xs → f (g + i) ≡ outcome_of (slice_index_or xs i d)) → map outcome_of xs ≡ outcomes_from f g (length xs)
unfolding outcomes_from
listed f g [] d same = refl
listed f g (x ∷ xs) d same =
    ap (λ (a : Outcome). a ∷ map outcome_of xs) (sym (ap f (add_zero g) ∙ same 0 (first_place (length xs))))
    ∙ ap (λ (l : List Outcome). f g ∷ l)
    (listed f (g + 1) xs d (λ i low. ap f (one_on g i) ∙ same (suc i) (longer i (length xs) low)))

-- ---- of a client that ended

below_top : (n taken counted : ℕ) → counted ≡ taken → n < counted → n + 1 ≤ taken
below_top n taken counted e l = omega (arith, e, l)

above_none : (n : ℕ) → 0 < n + 1
above_none n = omega arith

back : (n : ℕ) → n + 1 - 1 ≡ n
back n = omega arith

turned : (n : ℕ) → 1 + n ≡ n + 1
turned n = omega arith

module _ (rows : List Row) (ops : List OpKind) (settled : List Settled) (c : Client)
    (v : ShowsValues rows ops settled c.taken c.op (finish c Ended).outcome) where
  -- what it says behind the end, by what it said before
  gave_is : (n : ℕ) → n < length settled → (finish c Ended).outcome (n + 1) ≡ gave (c.outcome (n + 1))
  gave_is n l = ap (λ (b : Bool). if b then gave (c.outcome (n + 1)) else c.outcome (n + 1))
      (taken_so c (n + 1) (above_none n) (below_top n c.taken (length settled) v.settled_counted l))

  settled_is : (n : ℕ) → n < length settled → gave (c.outcome (n + 1)) ≡ outcome_of (slice_index_or settled n (outcomes.NoOpen 0))
  settled_is n l =
      settled_so (stands rows (n + 1)) (slice_index_or settled n (outcomes.NoOpen 0)) (c.outcome (n + 1))
      (sym (gave_is n l) ∙ v.outcome_is (n + 1) (above_none n) (below_top n c.taken (length settled) v.settled_counted l)
      ∙ ap (λ (i : ℕ). outcome_by (stands rows (n + 1)) (slice_index_or settled i (outcomes.NoOpen 0))) (back n))

  op_is_at : (n : ℕ) → n < length ops → c.op (n + 1) ≡ op_of (slice_index_or ops n (kinds.Close 0))
  op_is_at n l =
      v.op_is (n + 1) (above_none n) (below_top n c.taken (length ops) v.ops_counted l)
      ∙ ap (λ (i : ℕ). op_of (slice_index_or ops i (kinds.Close 0))) (back n)

  ordered_at : (n : ℕ) → n < length ops → n < length settled
      → ordered_in (slice_get ops n) (slice_get settled n) ≡ has_order (c.op (n + 1)) (c.outcome (n + 1))
  ordered_at n l m =
      ap (λ (o : Option OpKind). ordered_in o (slice_get settled n)) (slice_get-get_or ops n (kinds.Close 0) l)
      ∙ (ap (λ (o : Option Settled). ordered_with (slice_index_or ops n (kinds.Close 0)) o)
      (slice_get-get_or settled n (outcomes.NoOpen 0) m)
      ∙ (ap (λ (o : Outcome). has_order (op_of (slice_index_or ops n (kinds.Close 0))) o) (sym (settled_is n m))
      ∙ (ap (λ (o : Op). has_order o (gave (c.outcome (n + 1)))) (sym (op_is_at n l)) ∙ same_order (c.op (n + 1)) (c.outcome (n + 1)))))

  both_counted : (n : ℕ) → n < length ops → n < length settled
  both_counted n l = (let a = v.ops_counted in let b = v.settled_counted in omega (arith, a, b, l))

  -- its operations tell the orders
  told_by : (w : World) → w.client ≡ c → IsToldBy w ops settled
  told_by w same = record {
    counted = v.ops_counted ∙ ap (λ (d : Client). d.taken) (sym same);
    ordered = λ n l.
        ordered_at n l (both_counted n l) ∙ ap (λ (d : Client). has_order (d.op (n + 1)) (d.outcome (n + 1))) (sym same);
  }

  at_place : (n : ℕ) → n < length settled → gave (c.outcome (1 + n)) ≡ outcome_of (slice_index_or settled n (outcomes.NoOpen 0))
  at_place n l = ap (λ (g : ℕ). gave (c.outcome g)) (turned n) ∙ settled_is n l

  listed_here : map outcome_of settled ≡ outcomes_from (λ g. gave (c.outcome g)) 1 c.taken
  listed_here =
      listed (λ g. gave (c.outcome g)) 1 settled (outcomes.NoOpen 0) (λ i l. at_place i l)
      ∙ ap (λ (n : ℕ). outcomes_from (λ g. gave (c.outcome g)) 1 n) v.settled_counted

  -- and how they settled is printed alike
  same_settled : settled_lines 1 (map outcome_of settled) ≡ settled_lines 1 (outcomes_from c.outcome 1 c.taken)
  same_settled =
      ap (λ (l : List Outcome). settled_lines 1 l)
      (listed (λ g. gave (c.outcome g)) 1 settled (outcomes.NoOpen 0) (λ i l. at_place i l))
      ∙ (same_lines (λ g. gave (c.outcome g)) c.outcome 1 (length settled) (λ i low high. same_text (c.outcome i))
      ∙ ap (λ (n : ℕ). settled_lines 1 (outcomes_from c.outcome 1 n)) v.settled_counted)

-- its outcomes, in a list
pub settled_listed : (rows : List Row) (ops : List OpKind) (settled : List Settled) (c : Client)
    → ShowsValues rows ops settled c.taken c.op (finish c Ended).outcome
    → map outcome_of settled ≡ outcomes_from (λ g. gave (c.outcome g)) 1 c.taken
settled_listed rows ops settled c v = listed_here rows ops settled c v

-- ---- the text

joined_text : (dialogs first second rest : List ℕ) → first ≡ second → dialogs ++ (first ++ rest) ≡ dialogs ++ (second ++ rest)
joined_text dialogs first second rest e = ap (λ (l : List ℕ). dialogs ++ (l ++ rest)) e

pub is_text : (w : World) (x : Core) (ds : List RefusedDialog) (settled : List Settled) (orders : List CreateOrder)
    (files : List StoredFile)
    (text : List ℕ) → ShowsClient x (finish w.client Ended) → ds ≡ x.table.dialogs.items → settled ≡ x.table.settled.items
    → orders ≡ orders_to w w.client.taken → AreFiles files w.server
    → text ≡ run_text (map dialog_of ds) (map outcome_of settled) orders files → IsText w text
is_text w x ds settled orders files text h dialogs same ordered are shown =
    let rest = flat_map order_line (orders_to w w.client.taken) ++ flat_map file_line files in
    let refused : map dialog_of ds ≡ w.client.refusals = ap (λ (l : List RefusedDialog). map dialog_of l) dialogs ∙ sym h.table.refusals in
    let lines : settled_lines 1 (map outcome_of settled) ≡ settled_lines 1 (outcomes_from w.client.outcome 1 w.client.taken) =
    ap (λ (l : List Settled). settled_lines 1 (map outcome_of l)) same
    ∙ same_settled x.table.rows.items x.table.ops.items x.table.settled.items w.client h.table.values in
    record {
      files = files;
      are_files = are;
      is = shown
          ∙ (ap (λ (l : List CreateOrder). run_text (map dialog_of ds) (map outcome_of settled) l files) ordered
          ∙ (ap (λ (l : List Refused). run_text l (map outcome_of settled) (orders_to w w.client.taken) files) refused
          ∙ joined_text (flat_map dialog_line w.client.refusals) _ _ rest lines));
    }

pub told_orders : (w : World) (x : Core) → ShowsClient x (finish w.client Ended) → IsToldBy w x.table.ops.items x.table.settled.items
told_orders w x h = told_by x.table.rows.items x.table.ops.items x.table.settled.items w.client h.table.values w refl
