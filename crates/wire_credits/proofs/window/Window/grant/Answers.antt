use Rattle.std.proofs.Common.{◌+◌, length, sym, ap, ◌∙◌, subst, arith, length-append}
use Rattle.spec_wire.specs.credits.Ids.{ids_from}
use Rattle.law_wire.specs.credits.Row.{IsAscending, AllLess}
use Rattle.law_wire.proofs.credits.Rows.{IsAscending-append, AllLess-append, AllLess-weaken, AllLess-ids_from, length-ids_from}
use Rattle.wire_credits.proofs.window.Window.grant.Goals as goal

pub invariant_of-self : goal.invariant_of-self
invariant_of-self c =
    let xs = c.self.inside.ids.items in
    let next = c.self.inside.next in
    let n = c.min-count.result in
    let now = sym c.append.ensures.items in (
      subst (IsAscending 0) now (IsAscending-append 0 next n xs (omega arith) c.self.invariant.0 c.self.invariant.1),
      subst (AllLess (next + n)) now (AllLess-append (next + n) xs (ids_from next n)
          (AllLess-weaken next (next + n) xs (omega arith) c.self.invariant.1)
          (AllLess-ids_from next n (next + n) (omega arith))),
      (let counts = ap length c.append.ensures.items
          ∙ (length-append xs (ids_from next n) ∙ ap (λ k. length xs + k) (length-ids_from next n)) in
          let few = c.self.invariant.2 in omega arith),
      (let room = c.self.invariant.3 in let same = c.append.ensures.capacity in omega arith),
    )
