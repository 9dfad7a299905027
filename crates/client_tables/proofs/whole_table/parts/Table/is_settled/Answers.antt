use Rattle.std.proofs.Common.{◌≡◌, ◌≤◌, nat_le, List, length, vec_capacity, refl, sym, ap, ◌∙◌, subst, arith}
use Rattle.std.proofs.lemmas.Grind.{common_steps}
use Rattle.spec_exchange.specs.Schedules.{cost}
use Rattle.client_rows.specs.declared.operation_rows.row.Row.{Row}
use Rattle.client_rows.specs.Shown.{RowShowsPlaces}
use Rattle.client_tables.specs.settling.Shown.{AreSettledBelow}
use Rattle.client_tables.proofs.whole_table.Finished.{all_settled, looked_fits, not_left, told_by}
use Rattle.client_tables.proofs.whole_table.parts.Table.is_settled.Goals as goal

pub returns-then-self-len : goal.returns-then-self-len
returns-then-self-len c =
    let t = c.args.self.now in
    let f = c.requires.fits in
    let k : c.len.result ≡ length t.rows.items = grind (arith, common_steps) in
    let l : length t.rows.items ≤ t.lowest = (let w = c.if-self-len.true in omega arith) in
    record {
      fits = f;
      rows = refl;
      shown = λ d s. s;
      told = λ d s. all_settled t.rows.items d t.lowest f.above l s.rows.places f.lowest;
    }

pub first_left-self-requires : goal.first_left-self-requires
first_left-self-requires c = record {
  above = c.requires.fits.above;
  settled = subst (λ (xs : List Row). AreSettledBelow xs c.args.self.now.lowest) (sym c.deref.ensures.value) c.requires.fits.lowest;
}

pub returns : goal.returns
returns c =
    let t = c.args.self.now in
    let n = c.first_left-self.result in
    let e = c.first_left-self.ensures in
    let o = c.deref.ensures.value in
    let j : c.len.result ≡ length t.rows.items = grind (arith, common_steps) in
    let l : t.lowest ≤ length t.rows.items = (let w = c.if-self-len.false in omega arith) in
    let k : c.len-2.result ≡ length t.rows.items = grind (arith, common_steps) in
    record {
      fits = looked_fits t.rows.items t.holders.items t.prices t.watchers t.out t.lowest n (length t.ops.items) (length t.settled.items)
          (length t.order.items) (vec_capacity t.order) e.above
          (subst (λ (xs : List Row). t.lowest ≤ length xs → n ≤ length xs) o e.inside l)
          (subst (λ (xs : List Row). AreSettledBelow xs n) o e.settled) c.requires.fits;
      rows = refl;
      shown = λ d s. s;
      told = λ d s. ap (λ m. nat_le m n) k ∙ not_left n (length t.rows.items) _
          (e.left d (subst (λ (xs : List Row). RowShowsPlaces xs d.taken d.op d.outcome (λ g. cost d g)) (sym o) s.rows.places)
          ∙ ap (λ (xs : List Row). told_by n xs) o);
    }
