use Rattle.std.proofs.Common.{◌+◌, ap, ◌∙◌, arith, append_assoc, ◌∷◌, [], ◌++◌}
use Rattle.law_wire.proofs.credits.Rows.{ids_from-push}
use Rattle.spec_wire.specs.credits.Ids.{ids_from}
use Rattle.wire_credits.proofs.window.append.Goals as goal

pub loop-k-preserved : goal.loop-k-preserved
loop-k-preserved c = record {
  items =
      c.push_back_reserved.ensures.items
      ∙ (ap (λ l. l ++ (c.args.from + c.loop-k.k) ∷ []) c.loop-k.invariant.items
      ∙ (append_assoc c.args.ids.now.items (ids_from c.args.from c.loop-k.k) ((c.args.from + c.loop-k.k) ∷ [])
      ∙ ap (λ l. c.args.ids.now.items ++ l) (ids_from-push c.loop-k.k c.args.from)));
  len = omega arith;
  capacity = c.push_back_reserved.ensures.capacity ∙ c.loop-k.invariant.capacity;
}
