use Rattle.std.proofs.Common.{◌≡◌, length, refl, sym, ap, ◌∙◌, subst, arith, length-drop}
use Rattle.spec_wire.specs.credits.Ids.{counted, outside}
use Rattle.law_wire.specs.credits.Row.{IsAscending, AllLess}
use Rattle.law_wire.proofs.credits.Rows.{AllLess-weaken, IsAscending-filter, AllLess-filter, run_fits, take_is, left_is, length-without}
use Rattle.wire_credits.proofs.window.Window.take.Goals as goal

pub missing-requires-clause-last : goal.missing-requires-clause-last
missing-requires-clause-last c =
    AllLess-weaken c.self.inside.next _ c.self.inside.ids.items (let fits = c.self.ranges in omega arith) c.self.invariant.1

pub cut-requires : goal.cut-requires
cut-requires c =
    let fits = run_fits c.args.first c.from-count.result c.place_of-place.result c.self.inside.ids.items (c.in-None.ensures.held refl) in
    let lengths = length-drop c.place_of-place.result c.self.inside.ids.items in
    let within = c.place_of-place.ensures.within in omega arith

pub invariant_of-self : goal.invariant_of-self
invariant_of-self c =
    let xs = c.self.inside.ids.items in
    let n = c.from-count.result in
    let left = left_is c.args.first n c.place_of-place.result xs c.cut.new.ids.items c.self.invariant.0
    c.place_of-place.ensures (c.in-None.ensures.held refl) c.cut.ensures.items in (
      subst (IsAscending 0) (sym left) (IsAscending-filter _ 0 xs c.self.invariant.0),
      subst (AllLess c.self.inside.next) (sym left) (AllLess-filter _ c.self.inside.next xs c.self.invariant.1),
      (let fewer = length-without c.args.first n xs in let counts = ap length left in let few = c.self.invariant.2 in omega arith),
      (let room = c.self.invariant.3 in let same = c.cut.ensures.capacity in omega arith),
    )

pub returns-in-None-clause-taken : goal.returns-in-None-clause-taken
returns-in-None-clause-taken c =
    let xs = c.self.inside.ids.items in
    let n = c.from-count.result in
    let counts : n ≡ counted c.args.charge = let most = c.max.ensures in let same = c.from-count.ensures in omega arith in (
      (λ i. outside ((sym c.self.view_is) i).held c.args.first ((sym counts) i)) ∙ sym c.in-None.ensures.found,
      take_is c.args.first c.args.charge n c.place_of-place.result c.self.inside.next xs c.cut.new.ids.items
          c.args.self.now c.self.view_is counts c.self.invariant.0 c.place_of-place.ensures
          (c.in-None.ensures.held refl) c.cut.ensures.items,
    )
