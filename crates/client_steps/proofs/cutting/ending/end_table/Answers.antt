use Rattle.std.proofs.Common.{◌≡◌, ◌-◌, ◌++◌, List, length, take, drop, vec_capacity, refl, sym, ap, ◌∙◌, subst, arith}
use Rattle.std.proofs.lemmas.Grind.{common_steps}
use Rattle.spec_exchange.specs.Client.{end_session}
use Rattle.client_values.specs.declared.operations.values.OpKind.{OpKind}
use Rattle.client_rows.specs.declared.operation_rows.row.Row.{Row}
use Rattle.client_rows.specs.operation_rows.Holding.{IsSafe}
use Rattle.client_rows.specs.operation_rows.Choosing.{RowCounts}
use Rattle.client_values.specs.declared.outcomes.outcome.Outcome.{Outcome as Settled}
use Rattle.client_rows.specs.Shown.{ShowsRows}
use Rattle.client_tables.specs.cuts.Cutting.{CutLoses, end_all}
use Rattle.client_tables.specs.outstanding.Shown.{HoldsOut}
use Rattle.client_tables.specs.settling.Shown.{AreSettledBelow, GoesSettled, ShowsValues}
use Rattle.client_tables.proofs.settling.Settled.{values_moved}
use Rattle.client_tables.specs.whole_table.Shown.{AreRowsOwned, FitsParts, ShowsParts}
use Rattle.client_tables.proofs.whole_table.Finished.{finish_fits}
use Rattle.client_tables.proofs.whole_table.Losing.{cut_fits, owned_moved, whole}
use Rattle.client_tables.specs.attached_opens.Places.{KeepsPlaces}
use Rattle.client_tables.proofs.attached_opens.Kept.{places_ended}
use Rattle.client_steps.proofs.cutting.Kept.{end_shown}
use Rattle.client_steps.proofs.cutting.ending.end_table.Goals as goal

pub lose_all-requires : goal.lose_all-requires
lose_all-requires c =
    let t = c.args.table.now in
    let o = c.deref_mut.ensures.value in
    let f = c.requires.fits in
    record {
      counts = subst (λ (xs : List Row). RowCounts xs t.prices t.watchers) (sym o) f.counts;
      out = subst (λ (xs : List Row). HoldsOut xs t.out) (sym o) f.out;
    }

pub end_from-requires : goal.end_from-requires
end_from-requires c =
    let t = c.args.table.now in
    let f = c.requires.fits in
    let e = c.lose_all.ensures in
    let old = t.rows.items in
    let mid = c.lose_all.new.rows in
    let n : length old ≡ t.rows.len = grind (arith, common_steps) in
    let m : CutLoses old mid = subst (λ (xs : List Row). CutLoses xs mid) c.deref_mut.ensures.value e.loses in
    let is : c.deref_mut-2.result.now ≡ mid = c.deref_mut-2.ensures.value ∙ whole t.rows.len old mid n m.count in
    let lost = sym (ap (λ k. k - 1) m.count) in
    record {
      above = f.above;
      owned = subst (λ (xs : List Row). AreRowsOwned xs) (sym is) (owned_moved old mid m.count m.create f.owned);
      counted = ap (λ (xs : List Settled). length xs) c.deref_mut-3.ensures.value ∙ f.settled_counted ∙ lost
          ∙ ap (λ (xs : List Row). length xs - 1) (sym is);
      ops_counted = ap (λ (xs : List OpKind). length xs) c.deref.ensures.value ∙ f.ops_counted ∙ lost
          ∙ ap (λ (xs : List Row). length xs - 1) (sym is);
      counts = subst (λ (xs : List Row). RowCounts xs c.lose_all.new.prices t.watchers) (sym is) e.counts;
      below = subst (λ (xs : List Row). AreSettledBelow xs t.lowest) (sym is) (λ g l. m.unsettled g ∙ f.lowest g l);
    }

pub returns : goal.returns
returns c =
    let t = c.args.table.now in
    let f = c.requires.fits in
    let e = c.lose_all.ensures in
    let u = c.end_from.ensures in
    let old = t.rows.items in
    let mid = c.lose_all.new.rows in
    let new = c.end_from.new.rows in
    let p1 = c.lose_all.new.prices in
    let p2 = c.end_from.new.prices in
    let ws = c.end_from.new.watchers in
    let out = c.lose_all.new.out in
    let settled = c.end_from.new.settled in
    let o = c.deref_mut.ensures.value in
    let n : length old ≡ t.rows.len = grind (arith, common_steps) in
    let k : length t.settled.items ≡ t.settled.len = grind (arith, common_steps) in
    let m : CutLoses old mid = subst (λ (xs : List Row). CutLoses xs mid) o e.loses in
    let w1 = whole t.rows.len old mid n m.count in
    let lent = take t.rows.len (mid ++ drop (length mid) old) in
    let is : c.deref_mut-2.result.now ≡ mid = c.deref_mut-2.ensures.value ∙ w1 in
    let q : GoesSettled mid new = subst (λ (xs : List Row). GoesSettled xs new) is u.settles in
    let w2 = whole t.rows.len lent new (ap (λ (xs : List Row). length xs) w1 ∙ m.count ∙ n)
    (q.count ∙ sym (ap (λ (xs : List Row). length xs) w1)) in
    let r = c.deref_mut-3.ensures.value in
    let b : length settled ≡ length t.settled.items = u.counted ∙ ap (λ (xs : List Settled). length xs) r in
    let w3 = whole t.settled.len t.settled.items settled k b in
    let safe1 = e.safe t.holders.items (subst (λ (xs : List Row). IsSafe xs t.holders.items) (sym o) f.safe) in
    let safe2 = subst (λ (xs : List Row). IsSafe xs t.holders.items) (sym is) safe1 in
    let fits1 = cut_fits old mid m t.holders.items t.prices p1 t.watchers t.out out t.lowest (length t.ops.items)
    (length t.settled.items) (length t.order.items) (vec_capacity t.order) safe1 e.counts e.out f in
    let fits2 = finish_fits mid new q t.holders.items p1 p2 t.watchers ws out t.lowest (length t.ops.items) (length t.settled.items)
    (length t.order.items) (vec_capacity t.order) (u.safe t.holders.items safe2) u.counts fits1 in
    let lent3 = take t.settled.len (settled ++ drop (length settled) t.settled.items) in
    record {
      fits = subst (λ (xs : List Row). FitsParts xs t.holders.items p2 ws out t.lowest (length t.ops.items)
          (length lent3) (length t.order.items)
          (vec_capacity t.order)) (sym w2)
          (subst (λ i. FitsParts new t.holders.items p2 ws out t.lowest (length t.ops.items) i (length t.order.items)
          (vec_capacity t.order)) (sym (ap (λ (xs : List Settled). length xs) w3 ∙ b)) fits2);
      session = refl;
      places = subst (λ (xs : List Row). KeepsPlaces old xs) (sym w2) (places_ended old mid new m q);
      shown = λ d was s kept h. (
          let r1 = e.shown d t.holders.items (subst (λ (xs : List Row). ShowsRows xs t.holders.items t.prices t.watchers d)
          (sym o) s.rows) in
          let v1 = values_moved old mid t.ops.items t.settled.items d.taken d.op d.outcome m.unsettled s.values in
          let z = u.shown d t.holders.items kept (sym (c.number-number.ensures (end_session d) h)) safe2
          (subst (λ (xs : List Row). ShowsValues xs c.deref.result.now c.deref_mut-3.result.now d.taken d.op d.outcome) (sym is)
          (subst (λ (ys : List Settled). ShowsValues mid c.deref.result.now ys d.taken d.op d.outcome) (sym r)
          (subst (λ (os : List OpKind). ShowsValues mid os t.settled.items d.taken d.op d.outcome) (sym c.deref.ensures.value) v1)))
          (subst (λ (xs : List Row). ShowsRows xs t.holders.items p1 t.watchers (end_all d)) (sym is) r1) in
          subst (λ (xs : List Row). ShowsParts t.session xs t.holders.items p2 ws t.ops.items lent3 t.order.items t.dialogs.items
          (end_session d))
          (sym w2)
          (subst (λ (ys : List Settled). ShowsParts t.session new t.holders.items p2 ws t.ops.items ys t.order.items t.dialogs.items
          (end_session d)) (sym w3)
          (end_shown was t.session old new t.holders.items t.prices p2 t.watchers ws t.ops.items t.settled.items settled t.order.items
          t.dialogs.items d s h z.0
          (subst (λ (os : List OpKind). ShowsValues new os settled d.taken d.op (end_session d).outcome) c.deref.ensures.value z.1)))
          );
    }
