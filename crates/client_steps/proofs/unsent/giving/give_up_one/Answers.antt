use Rattle.std.proofs.Common.{◌+◌, refl, sym, ◌∙◌}
use Rattle.spec_exchange.specs.Table.{put}
use Rattle.spec_exchange.specs.Operations.{NoOpen}
use Rattle.client_tables.proofs.settling.Going.{goes_none}
use Rattle.client_steps.specs.unsent.GivenUp.{given_below}
use Rattle.client_steps.proofs.unsent.Given.{given_first, given_kept, given_next, given_up, stays_so, table_alike, taken_so}
use Rattle.client_steps.proofs.unsent.giving.give_up_one.Goals as goal

pub returns-then-hangs_on : goal.returns-then-hangs_on
returns-then-hangs_on c =
    let t = c.args.table.now in
    let x = c.args.index in
    let k = c.args.create in
    let u = c.settle.new.self in
    let e = c.settle.ensures in
    record {
      fits = e.fits;
      session = e.session;
      settles = e.settles;
      shown = λ d gone kept s. (
          let a = c.requires.above in
          let l = c.requires.within in
          let q = given_up t.session t.rows.items t.holders.items t.prices t.watchers t.ops.items t.settled.items t.order.items
          t.dialogs.items d k x a l s (sym c.hangs_on.ensures ∙ c.if-hangs_on.true) gone in
          let taken = taken_so t.session t.rows.items t.holders.items t.prices t.watchers t.ops.items t.settled.items t.order.items
          t.dialogs.items d k x a l s in
          let next = given_next d k x (NoOpen k) q in
          table_alike u.session u.rows.items u.holders.items u.prices u.watchers u.ops.items u.settled.items u.order.items
          u.dialogs.items d (put (given_below d k x).outcome x (NoOpen k)) (given_below d k (x + 1)).outcome (λ g p m. next g)
          (e.shown (given_below d k x) s (given_first d k x (NoOpen k) kept a taken q refl))
          );
    }

pub returns-else-hangs_on : goal.returns-else-hangs_on
returns-else-hangs_on c =
    let t = c.args.table.now in
    let x = c.args.index in
    let k = c.args.create in
    record {
      fits = c.requires.fits;
      session = refl;
      settles = goes_none t.rows.items;
      shown = λ d gone kept s. (
          let q = stays_so t.session t.rows.items t.holders.items t.prices t.watchers t.ops.items t.settled.items t.order.items
          t.dialogs.items d k x c.requires.above c.requires.within s (sym c.hangs_on.ensures ∙ c.if-hangs_on.false) in
          let next = given_kept d k x q in
          table_alike t.session t.rows.items t.holders.items t.prices t.watchers t.ops.items t.settled.items t.order.items
          t.dialogs.items d (given_below d k x).outcome (given_below d k (x + 1)).outcome (λ g p m. next g) s
          );
    }
