use Rattle.std.proofs.Common.{◌≡◌, ℕ, ◌<◌, List, length, vec_capacity, refl, sym, ap, ◌∙◌, subst, arith}
use Rattle.std.proofs.lemmas.Grind.{common_steps}
use Rattle.spec_exchange.specs.Operations.{is_lock}
use Rattle.spec_exchange.specs.Client.{begun, outstanding}
use Rattle.base_lists.specs.number_set.Members.{has}
use Rattle.client_rows.specs.declared.operation_rows.row.Row.{Row}
use Rattle.client_rows.specs.operation_rows.Rows.{is_out}
use Rattle.client_rows.specs.operation_rows.Holding.{IsSafe}
use Rattle.client_rows.specs.operation_rows.Choosing.{RowCounts}
use Rattle.client_rows.specs.Shown.{KeepsRow, ShowsRows}
use Rattle.client_tables.specs.outstanding.Shown.{HoldsOut}
use Rattle.client_tables.specs.whole_table.Shown.{FitsParts, ShowsParts}
use Rattle.client_tables.proofs.whole_table.Losing.{whole}
use Rattle.client_steps.proofs.Rest.{begun_rest, no_slot_is_taken}
use Rattle.client_steps.proofs.Stepped.{others_so, stepped_fits, stepped_shown}
use Rattle.client_steps.proofs.stepping.send_again_at.Goals as goal

-- guesses: the rows are lent by deref_mut, and read by deref behind that

pub send_again-requires : goal.send_again-requires
send_again-requires c =
    let t = c.args.table.now in
    let o = c.deref_mut.ensures.value in
    record {
      within = subst (λ (xs : List Row). c.args.index < length xs) (sym o) c.requires.within;
      counts = subst (λ (xs : List Row). RowCounts xs t.prices t.watchers) (sym o) c.requires.fits.counts;
    }

pub refresh-requires : goal.refresh-requires
refresh-requires c =
    let t = c.args.table.now in
    let f = c.requires.fits in
    let x = c.args.index in
    let old = t.rows.items in
    let new = c.send_again.new.rows in
    let n : length old ≡ t.rows.len = grind (arith, common_steps) in
    let k : KeepsRow old new x = subst (λ (xs : List Row). KeepsRow xs new x) c.deref_mut.ensures.value c.send_again.ensures.place in
    let is : c.deref.result.now ≡ new = c.deref.ensures.value ∙ whole t.rows.len old new n k.count in
    record {
      fits = f.out.fits;
      sized = f.out.sized ∙ sym k.count ∙ ap (λ (xs : List Row). length xs) (sym is);
      within = subst (λ (xs : List Row). x < length xs) (sym is) (subst (λ m. x < m) (sym k.count) c.requires.within);
      others = subst (λ (xs : List Row). (g : ℕ) → g < length xs → (g ≡ x → ⊥) → has t.out g ≡ is_out xs g) (sym is)
          (others_so old new x k t.out f.out);
    }

pub returns : goal.returns
returns c =
    let t = c.args.table.now in
    let f = c.requires.fits in
    let x = c.args.index in
    let o = c.deref_mut.ensures.value in
    let e = c.send_again.ensures in
    let old = t.rows.items in
    let new = c.send_again.new.rows in
    let prices = c.send_again.new.prices in
    let out = c.refresh.new.out in
    let n : length old ≡ t.rows.len = grind (arith, common_steps) in
    let k : KeepsRow old new x = subst (λ (xs : List Row). KeepsRow xs new x) o e.place in
    let w = whole t.rows.len old new n k.count in
    let is : c.deref.result.now ≡ new = c.deref.ensures.value ∙ w in
    let h : HoldsOut new out = subst (λ (xs : List Row). HoldsOut xs out) is c.refresh.ensures in
    record {
      fits = subst (λ (xs : List Row). FitsParts xs t.holders.items prices t.watchers out t.lowest (length t.ops.items)
          (length t.settled.items) (length t.order.items) (vec_capacity t.order)) (sym w)
          (stepped_fits old new x k t.holders.items t.prices prices t.watchers t.out out t.lowest (length t.ops.items)
          (length t.settled.items) (length t.order.items) (vec_capacity t.order)
          (e.safe t.holders.items (subst (λ (xs : List Row). IsSafe xs t.holders.items) (sym o) f.safe)) e.counts h f);
      session = refl;
      place = subst (λ (xs : List Row). KeepsRow old xs x) (sym w) k;
      shown = λ d slot s lock sent.
          subst (λ (xs : List Row). ShowsParts t.session xs t.holders.items prices t.watchers t.ops.items t.settled.items t.order.items
          t.dialogs.items (outstanding (begun d x slot) c.args.channel x)) (sym w)
          (stepped_shown old new x k t.session t.holders.items t.prices prices t.watchers t.ops.items t.settled.items t.order.items
          t.dialogs.items d (outstanding (begun d x slot) c.args.channel x) (begun_rest d c.args.channel x slot
          (λ q l. no_slot_is_taken (is_lock (d.op x)) slot lock l)) s
          (e.shown d t.holders.items slot
          (subst (λ (xs : List Row). ShowsRows xs t.holders.items t.prices t.watchers d) (sym o) s.rows) s.session lock sent));
    }
