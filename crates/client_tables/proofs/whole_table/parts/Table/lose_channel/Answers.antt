use Rattle.std.proofs.Common.{◌≡◌, List, length, vec_capacity, refl, sym, subst, arith}
use Rattle.std.proofs.lemmas.Grind.{common_steps}
use Rattle.spec_exchange.specs.Client.{cut_channel}
use Rattle.client_rows.specs.declared.operation_rows.row.Row.{Row}
use Rattle.client_rows.specs.operation_rows.Holding.{IsSafe}
use Rattle.client_rows.specs.operation_rows.Choosing.{RowCounts}
use Rattle.client_rows.specs.Shown.{ShowsRows}
use Rattle.client_tables.specs.cuts.Cutting.{CutLoses}
use Rattle.client_tables.specs.outstanding.Shown.{HoldsOut}
use Rattle.client_tables.specs.whole_table.Shown.{FitsParts, ShowsParts}
use Rattle.client_tables.proofs.whole_table.Losing.{cut_fits, cut_shown, whole}
use Rattle.client_tables.proofs.whole_table.parts.Table.lose_channel.Goals as goal

pub lose_on_channel-requires : goal.lose_on_channel-requires
lose_on_channel-requires c =
    let t = c.args.self.now in
    let o = c.deref_mut.ensures.value in
    let f = c.requires.fits in
    record {
      counts = subst (λ (xs : List Row). RowCounts xs t.prices t.watchers) (sym o) f.counts;
      out = subst (λ (xs : List Row). HoldsOut xs t.out) (sym o) f.out;
    }

pub returns : goal.returns
returns c =
    let t = c.args.self.now in
    let o = c.deref_mut.ensures.value in
    let e = c.lose_on_channel.ensures in
    let f = c.requires.fits in
    let old = t.rows.items in
    let new = c.lose_on_channel.new.rows in
    let prices = c.lose_on_channel.new.prices in
    let out = c.lose_on_channel.new.out in
    let n : length old ≡ t.rows.len = grind (arith, common_steps) in
    let m : CutLoses old new = subst (λ (xs : List Row). CutLoses xs new) o e.loses in
    let w = whole t.rows.len old new n m.count in
    record {
      fits = subst (λ (xs : List Row). FitsParts xs t.holders.items prices t.watchers out t.lowest (length t.ops.items)
          (length t.settled.items) (length t.order.items) (vec_capacity t.order)) (sym w)
          (cut_fits old new m t.holders.items t.prices prices t.watchers t.out out t.lowest (length t.ops.items) (length t.settled.items)
          (length t.order.items) (vec_capacity t.order)
          (e.safe t.holders.items (subst (λ (xs : List Row). IsSafe xs t.holders.items) (sym o) f.safe)) e.counts e.out f);
      session = refl;
      loses = subst (λ (xs : List Row). CutLoses old xs) (sym w) m;
      shown = λ d was s h. subst (λ (xs : List Row). ShowsParts t.session xs t.holders.items prices t.watchers t.ops.items t.settled.items
          t.order.items t.dialogs.items (cut_channel d c.args.channel)) (sym w)
          (cut_shown old new m was t.session t.holders.items t.prices prices t.watchers t.ops.items t.settled.items t.order.items
          t.dialogs.items d c.args.channel s h
          (e.shown d t.holders.items
          (subst (λ (xs : List Row). ShowsRows xs t.holders.items t.prices t.watchers d) (sym o) s.rows)));
    }
