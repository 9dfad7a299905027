use Rattle.std.proofs.Common.{◌≡◌, ◌==◌, List, not, filter, subst, rules}
use Rattle.std.proofs.lemmas.Fn.{filter_same}
use Rattle.store_opens.specs.declared.share_modes.lists.Range.{Range}
use Rattle.store_opens.proofs.share_modes.ranges.Ranges.release_all.Goals as goal

pub returns : goal.returns
returns c = subst (λ (v : List Range). c.retain.new.self.items ≡ filter (λ (r : Range). not (r.owner == c.args.owner))
    v) c.self.view_is (filter_same _ _ _ (λ x b f' k. search rules) _ _ c.retain.ensures.filtered)
