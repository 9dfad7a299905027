use Rattle.std.proofs.Common.{◌≡◌, ℕ, List, length, vec_capacity, refl, sym, subst, arith}
use Rattle.std.proofs.lemmas.Grind.{common_steps}
use Rattle.client_rows.specs.declared.operation_rows.row.Row.{Row}
use Rattle.client_rows.specs.operation_rows.Holding.{Alike, IsSafe}
use Rattle.client_rows.specs.operation_rows.Choosing.{RowCounts}
use Rattle.client_rows.specs.Shown.{ShowsRows}
use Rattle.client_tables.specs.choice.Shown.{AreChoicesBounded, HaveOpens, IsChoiceInside, ChoiceShowsOpens}
use Rattle.client_tables.specs.whole_table.Shown.{FitsParts, ShowsParts}
use Rattle.client_tables.proofs.whole_table.Finished.{finish_fits}
use Rattle.client_tables.proofs.whole_table.Losing.{whole}
use Rattle.client_tables.specs.attached_opens.Places.{KeepsPlaces}
use Rattle.client_tables.proofs.attached_opens.Kept.{places_goes}
use Rattle.client_steps.proofs.choosing.Alike.{alike_goes, alike_shown}
use Rattle.client_steps.proofs.choosing.Slots.{opens_shown}
use Rattle.client_steps.proofs.choosing.searching.search.Goals as goal

-- guesses: the rows are lent by deref_mut, the list of holders by deref

pub find-requires : goal.find-requires
find-requires c =
    let t = c.args.table.now in
    let f = c.requires.fits in
    let q = c.requires.opens in
    let o = c.deref_mut.ensures.value in
    record {
      safe = subst (λ (xs : List Row). IsSafe xs c.deref.result.now) (sym o)
          (subst (λ (hs : List ℕ). IsSafe t.rows.items hs) (sym c.deref.ensures.value) f.safe);
      counts = subst (λ (xs : List Row). RowCounts xs t.prices t.watchers) (sym o) f.counts;
      above = c.requires.above;
      credits = c.requires.credits;
      opens = subst (λ (xs : List Row). HaveOpens xs c.args.attached.now) (sym o) q.opens;
      bounded = subst (λ (xs : List Row). AreChoicesBounded xs c.args.attached.now) (sym o) q.bounded;
    }

pub returns : goal.returns
returns c =
    let t = c.args.table.now in
    let f = c.requires.fits in
    let e = c.find.ensures in
    let o = c.deref_mut.ensures.value in
    let h = c.deref.ensures.value in
    let old = t.rows.items in
    let new = c.find.new.rows in
    let prices = c.find.new.prices in
    let watchers = c.find.new.watchers in
    let attached = c.args.attached.now in
    let n : length old ≡ t.rows.len = grind (arith, common_steps) in
    let a : Alike old new = subst (λ (xs : List Row). Alike xs new) o e.alike in
    let m = alike_goes old new a in
    let w = whole t.rows.len old new n a.count in
    let safe = subst (λ (hs : List ℕ). IsSafe new hs) h e.safe in
    record {
      fits = subst (λ (xs : List Row). FitsParts xs t.holders.items prices watchers t.out t.lowest (length t.ops.items)
          (length t.settled.items) (length t.order.items) (vec_capacity t.order)) (sym w)
          (finish_fits old new m t.holders.items t.prices prices t.watchers watchers t.out t.lowest (length t.ops.items)
          (length t.settled.items) (length t.order.items) (vec_capacity t.order) safe e.counts f);
      session = refl;
      places = subst (λ (xs : List Row). KeepsPlaces old xs) (sym w) (places_goes old new m);
      inside = subst (λ (xs : List Row). IsChoiceInside xs attached c.args.from c.find.result) (sym w) e.inside;
      shown = λ d s. subst (λ (xs : List Row). ShowsParts t.session xs t.holders.items prices watchers t.ops.items t.settled.items
          t.order.items t.dialogs.items d) (sym w)
          (alike_shown old new a t.session t.holders.items t.prices prices t.watchers watchers t.ops.items t.settled.items t.order.items
          t.dialogs.items d s
          (subst (λ (hs : List ℕ). ShowsRows new hs prices watchers d) h
          (e.shown d (subst (λ (xs : List Row). ShowsRows xs c.deref.result.now t.prices t.watchers d) (sym o)
          (subst (λ (hs : List ℕ). ShowsRows old hs t.prices t.watchers d) (sym h) s.rows)))));
      told = λ d k slotless s at kept ready.
          e.told d k slotless
          (subst (λ (xs : List Row). ShowsRows xs c.deref.result.now t.prices t.watchers d) (sym o)
          (subst (λ (hs : List ℕ). ShowsRows old hs t.prices t.watchers d) (sym h) s.rows))
          (subst (λ (xs : List Row). ChoiceShowsOpens xs attached t.session d) (sym o)
          (opens_shown old t.holders.items t.prices t.watchers attached t.session d c.requires.opens s.rows s.session s.bounds at
          (kept.ready k ready))) kept ready;
    }
