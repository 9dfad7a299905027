use Rattle.std.proofs.Common.{Option, IsSome, nat_eq, refl, sym, subst}
use Rattle.std.specs.HashMap.{get}
use Rattle.store_opens.specs.declared.open_table.row.Row.{Row}
use Rattle.store_opens.proofs.open_table.Changed.{slots_written}
use Rattle.store_opens.proofs.open_table.change.keep_row.Goals as goal

pub returns-in-Some-clause-there : goal.returns-in-Some-clause-there
returns-in-Some-clause-there c =
    let w : Row = record c.in-Some.row.now { slots = c.keep.new.self } in
    slots_written (get nat_eq c.args.rows.now c.args.id) (get nat_eq (c.get_mut.follows.lender w) c.args.id)
    c.in-Some.row.now c.keep.new.self _ (sym c.in-Some.ensures.value)
    ((c.get_mut.follows.holds w).3 (subst (λ (v : Option Row). IsSome v) c.in-Some.ensures.value refl)).1 (λ kept k. c.keep.ensures kept k)
