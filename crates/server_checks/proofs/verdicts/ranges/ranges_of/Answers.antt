use Rattle.std.proofs.Common.{◌≡◌, map, rules}
use Rattle.std.proofs.lemmas.Iterator.{items_from_collect, YieldsList-from_slice, YieldsList-from_map}
use Rattle.std.proofs.lemmas.Result.{IfOk-weaker}
use Rattle.spec_exchange.specs.Ranges.{ranges_of}
use Rattle.store_opens.specs.share_modes.Answers.{AllOf}
use Rattle.store_opens.specs.share_modes.Locking.{range_of}
use Rattle.server_checks.specs.verdicts.Looks.{element_range}
use Rattle.server_checks.proofs.verdicts.Named.{named, owned}
use Rattle.server_checks.proofs.verdicts.ranges.ranges_of.Goals as goal

pub returns : goal.returns
returns c =
    let id = c.args.id in
    let es = c.args.elements.now in
    IfOk-weaker c.collect.result _ (λ v. (map range_of v.items ≡ ranges_of id es) × AllOf id v.items)
    (λ v e. (named id es v.items e, owned id es v.items e))
    (items_from_collect c.collect.result c.collect.ensures.ran
    (YieldsList-from_map _ (element_range id) (YieldsList-from_slice es cc) c.map.ensures.closure (λ x r q k. search rules)))
