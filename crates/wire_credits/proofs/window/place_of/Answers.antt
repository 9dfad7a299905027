use Rattle.std.proofs.Common.{ltb, ltb-true, arith, rules}
use Rattle.std.proofs.lemmas.List.Sorted.{IsPartitionPoint-from_clause, IsPartitionedBy-ltb}
use Rattle.law_wire.proofs.credits.Rows.{ascending_order, not_less}
use Rattle.wire_credits.proofs.window.place_of.Goals as goal

pub returns : goal.returns
returns c =
    let parted = IsPartitionedBy-ltb (λ x. x) _ c.args.first (ascending_order 0 _ c.requires) in
    let point = IsPartitionPoint-from_clause (λ x. ltb x c.args.first) _ _ c.partition_point.ensures.partitioned parted
    (λ a r q k. search rules) in
    record {
      within = let bound = c.partition_point.ensures.bound in omega arith;
      below = λ k d l. ltb-true _ _ (point.0 k d (omega arith) l);
      above = λ k d le l. not_less _ _ (point.1 k d le l);
    }
