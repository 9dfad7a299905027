use Rattle.std.proofs.Common.{◌≡◌, ℕ, ◌<◌, true, false, List, length, vec_capacity, refl, sym, subst, arith}
use Rattle.std.proofs.lemmas.Grind.{common_steps}
use Rattle.spec_exchange.specs.Table.{put}
use Rattle.client_rows.specs.declared.operation_rows.row.Row.{Row}
use Rattle.client_rows.specs.declared.operation_rows.chains.Chain.TheVariants as chains
use Rattle.client_rows.specs.operation_rows.Rows.{links, owner, stands}
use Rattle.client_rows.specs.operation_rows.Chains.{Descends}
use Rattle.client_rows.specs.operation_rows.Holding.{IsSafe}
use Rattle.client_rows.specs.operation_rows.Choosing.{RowCounts}
use Rattle.client_rows.specs.Shown.{KeepsRow, ShowsRows}
use Rattle.client_tables.specs.whole_table.Shown.{FitsParts, ShowsParts}
use Rattle.client_tables.proofs.whole_table.Losing.{whole}
use Rattle.client_steps.proofs.Stepped.{stepped_fits}
use Rattle.client_steps.proofs.open_updates.Joined.{joined_shown, out_kept}
use Rattle.client_steps.proofs.open_updates.attaching.attach_rows.Goals as goal

pub attach-requires : goal.attach-requires
attach-requires c =
    let t = c.args.table.now in
    let o = c.deref_mut.ensures.value in
    record {
      within = subst (λ (xs : List Row). c.args.last < length xs) (sym o) c.requires.within;
      counts = subst (λ (xs : List Row). RowCounts xs t.prices t.watchers) (sym o) c.requires.fits.counts;
      descends = subst (λ (xs : List Row). Descends (links chains.All xs)) (sym o) c.requires.fits.safe.descend.all;
    }

pub returns : goal.returns
returns c =
    let t = c.args.table.now in
    let f = c.requires.fits in
    let y = c.args.last in
    let o = c.deref_mut.ensures.value in
    let e = c.attach.ensures in
    let old = t.rows.items in
    let new = c.attach.new.rows in
    let prices = c.attach.new.prices in
    let n : length old ≡ t.rows.len = grind (arith, common_steps) in
    let k : (x : ℕ) → KeepsRow old new x = (λ x. subst (λ (xs : List Row). KeepsRow xs new x) o (e.place x)) in
    let w = whole t.rows.len old new n (k 0).count in
    record {
      fits = subst (λ (xs : List Row). FitsParts xs t.holders.items prices t.watchers t.out t.lowest (length t.ops.items)
          (length t.settled.items) (length t.order.items) (vec_capacity t.order)) (sym w)
          (stepped_fits old new 0 (k 0) t.holders.items t.prices prices t.watchers t.out t.out t.lowest (length t.ops.items)
          (length t.settled.items) (length t.order.items) (vec_capacity t.order)
          (e.safe t.holders.items (subst (λ (xs : List Row). IsSafe xs t.holders.items) (sym o) f.safe)) e.counts
          (out_kept old new t.out k f.out) f);
      session = refl;
      place = λ x. subst (λ (xs : List Row). KeepsRow old xs x) (sym w) (k x);
      shown = λ d s top live. (
          let told : ShowsRows old t.holders.items t.prices t.watchers d
          → ((h : ℕ) → y < h → owner old h ≡ owner old y → stands old h ≡ false) → d.live ≡ true
          → ShowsRows new t.holders.items prices t.watchers (record d { attached = put d.attached (owner old y) d.session_number }) =
          subst (λ (xs : List Row). ShowsRows xs t.holders.items t.prices t.watchers d
          → ((h : ℕ) → y < h → owner xs h ≡ owner xs y → stands xs h ≡ false) → d.live ≡ true
          → ShowsRows new t.holders.items prices t.watchers (record d { attached = put d.attached (owner xs y) d.session_number })) o
          (e.shown d t.holders.items) in
          subst (λ (xs : List Row). ShowsParts t.session xs t.holders.items prices t.watchers t.ops.items t.settled.items t.order.items
          t.dialogs.items (record d { attached = put d.attached (owner old y) d.session_number })) (sym w)
          (joined_shown t.session old new t.holders.items t.prices prices t.watchers t.ops.items t.settled.items t.order.items
          t.dialogs.items d (owner old y) (k 0).unsettled s (told s.rows top live))
          );
    }
