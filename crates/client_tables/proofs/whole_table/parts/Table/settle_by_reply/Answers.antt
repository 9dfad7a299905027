use Rattle.std.proofs.Common.{◌≡◌, ◌+◌, ◌-◌, ◌<◌, false, ℕ, List, [], ◌∷◌, ◌++◌, set, length, drop, take, vec_capacity, vec_len}
use Rattle.std.proofs.Common.{refl, sym, ap, ◌∙◌, subst, arith}
use Rattle.std.proofs.lemmas.Grind.{common_steps}
use Rattle.std.proofs.lemmas.List.{length_push}
use Rattle.std.specs.List.{sum_by}
use Rattle.spec_exchange.specs.Table.{put}
use Rattle.client_rows.specs.declared.operation_rows.row.Row.{Row}
use Rattle.client_rows.specs.operation_rows.Rows.{row_at}
use Rattle.client_rows.specs.operation_rows.Holding.{IsSafe}
use Rattle.client_rows.specs.operation_rows.Choosing.{RowCounts}
use Rattle.client_values.specs.declared.outcomes.outcome.Outcome.{Outcome as Settled}
use Rattle.spec_exchange.specs.Operations.{is_firm}
use Rattle.client_values.specs.outcomes.Meaning.{outcome_of}
use Rattle.client_rows.specs.Shown.{ShowsRows}
use Rattle.client_tables.specs.settling.Shown.{GoesSettled, ShowsValues}
use Rattle.client_tables.specs.whole_table.Shown.{FitsParts, ShowsParts, one_left}
use Rattle.client_tables.proofs.whole_table.Losing.{whole}
use Rattle.client_tables.proofs.whole_table.Settled.{left_one, reply_fits, room_left, settled_shown}
use Rattle.client_tables.proofs.whole_table.parts.Table.settle_by_reply.Goals as goal

pub overflow_cast-index : goal.overflow_cast-index
overflow_cast-index c =
    let f = c.requires.fits.counts in
    let a = f.has_watchers in
    let b = f.few in
    let w = c.requires.within in
    omega arith

pub push_reserved-requires : goal.push_reserved-requires
push_reserved-requires c =
    let t = c.args.self.now in
    let f = c.requires.fits in
    let k : vec_len t.order ≡ length t.order.items = grind (arith, common_steps) in
    let r = record (row_at t.rows.items c.args.index) { unsettled = false } in
    subst (λ n. n < vec_capacity t.order) (sym k)
    (room_left (length t.order.items) (sum_by one_left t.rows.items) (sum_by one_left (set t.rows.items c.args.index r))
    (vec_capacity t.order) (left_one t.rows.items c.args.index r c.requires.within c.requires.unsettled refl) f.roomy)

pub settle_as-requires : goal.settle_as-requires
settle_as-requires c =
    let t = c.args.self.now in
    let f = c.requires.fits in
    let o = c.deref_mut.ensures.value in
    let p = c.deref_mut-2.ensures.value in
    record {
      above = c.requires.above;
      within = subst (λ (xs : List Row). c.args.index < length xs) (sym o) c.requires.within;
      counted = ap (λ (xs : List Settled). length xs) p ∙ f.settled_counted ∙ ap (λ (xs : List Row). length xs - 1) (sym o);
      counts = subst (λ (xs : List Row). RowCounts xs t.prices t.watchers) (sym o) f.counts;
    }

pub returns : goal.returns
returns c =
    let t = c.args.self.now in
    let o = c.deref_mut.ensures.value in
    let p = c.deref_mut-2.ensures.value in
    let e = c.settle_as.ensures in
    let f = c.requires.fits in
    let old = t.rows.items in
    let new = c.settle_as.new.rows in
    let prices = c.settle_as.new.prices in
    let watchers = c.settle_as.new.watchers in
    let settled = c.settle_as.new.settled in
    let n : length old ≡ t.rows.len = grind (arith, common_steps) in
    let k : length t.settled.items ≡ t.settled.len = grind (arith, common_steps) in
    let m : GoesSettled old new = subst (λ (xs : List Row). GoesSettled xs new) o e.settles in
    let w = whole t.rows.len old new n m.count in
    let q : length settled ≡ length t.settled.items = e.counted ∙ ap (λ (xs : List Settled). length xs) p in
    let v = whole t.settled.len t.settled.items settled k q in
    let safe = subst (λ (xs : List Row). IsSafe xs t.holders.items) (sym o) f.safe in
    let order = c.push_reserved.new.self in
    let h = c.push_reserved.ensures in
    let one : length order.items ≡ length t.order.items + 1 = ap (λ (xs : List ℕ). length xs) h.items
    ∙ length_push t.order.items c.args.index in
    let left = ap (λ (xs : List Row). sum_by one_left xs + 1) e.row
    ∙ ap (λ (xs : List Row). sum_by one_left (set xs c.args.index (record (row_at xs c.args.index) {
      unsettled = false;
      firm = is_firm (outcome_of c.args.outcome);
    })) + 1) o
    ∙ left_one old c.args.index (record (row_at old c.args.index) {
      unsettled = false;
      firm = is_firm (outcome_of c.args.outcome);
    }) c.requires.within c.requires.unsettled refl in
    let lent = take t.settled.len (settled ++ drop (length settled) t.settled.items) in
    record {
      fits = subst (λ (xs : List Row). FitsParts xs t.holders.items prices watchers t.out t.lowest (length t.ops.items) (length lent)
          (length order.items) (vec_capacity order)) (sym w)
          (subst (λ i. FitsParts new t.holders.items prices watchers t.out t.lowest (length t.ops.items) i (length order.items)
          (vec_capacity order)) (sym (ap (λ (xs : List Settled). length xs) v ∙ q))
          (subst (λ i. FitsParts new t.holders.items prices watchers t.out t.lowest (length t.ops.items) (length t.settled.items) i
          (vec_capacity order)) (sym one)
          (subst (λ i. FitsParts new t.holders.items prices watchers t.out t.lowest (length t.ops.items) (length t.settled.items)
          (length t.order.items + 1) i) (sym h.capacity)
          (reply_fits old new m t.holders.items t.prices prices t.watchers watchers t.out t.lowest (length t.ops.items)
          (length t.settled.items) (length t.order.items) (vec_capacity t.order) (e.safe t.holders.items safe) e.counts left f))));
      session = refl;
      settles = subst (λ (xs : List Row). GoesSettled old xs) (sym w) m;
      shown = λ d s first. (
          let next = put d.outcome c.args.index (outcome_of c.args.outcome) in
          let r = e.shown d t.holders.items safe
          (subst (λ (xs : List Row). ShowsRows xs t.holders.items t.prices t.watchers d) (sym o) s.rows) first in
          let z = e.values d t.ops.items
          (subst (λ (xs : List Row). ShowsValues xs t.ops.items c.deref_mut-2.result.now d.taken d.op d.outcome) (sym o)
          (subst (λ (ys : List Settled). ShowsValues old t.ops.items ys d.taken d.op d.outcome) (sym p) s.values)) in
          subst (λ (xs : List Row). ShowsParts t.session xs t.holders.items prices watchers t.ops.items lent order.items
          t.dialogs.items (record d { outcome = next; order = d.order ++ c.args.index ∷ [] })) (sym w)
          (subst (λ (ys : List Settled). ShowsParts t.session new t.holders.items prices watchers t.ops.items ys order.items
          t.dialogs.items (record d { outcome = next; order = d.order ++ c.args.index ∷ [] })) (sym v)
          (settled_shown t.session old new t.holders.items t.prices prices t.watchers watchers t.ops.items t.settled.items settled
          t.order.items order.items t.dialogs.items d next (d.order ++ c.args.index ∷ []) s r z
          (ap (λ (xs : List ℕ). xs ++ c.args.index ∷ []) s.order ∙ sym h.items)))
          );
    }
