use Rattle.std.proofs.Common.{◌≡◌, ◌++◌, List, length, take, drop, arith, ap, ◌∙◌}
use Rattle.std.proofs.lemmas.Grind.{common_steps}
use Rattle.base_lists.specs.declared.watch_lists.Link.{Link}
use Rattle.base_lists.specs.watch_lists.Watching.{put_watch}
use Rattle.base_lists.specs.watch_lists.Listed.{watches}
use Rattle.base_lists.proofs.watch_lists.Watchers.watch.Goals as goal

pub returns-clause-watch : goal.returns-clause-watch
returns-clause-watch c =
    let len : length c.enlist.new.links ≡ length c.self.inside.links.items = grind (arith, common_steps) in
    let is : take c.self.inside.links.len
    (c.enlist.new.links ++ drop (length c.enlist.new.links) c.self.inside.links.items) ≡ c.enlist.new.links =
    grind (arith, common_steps) in
    λ g. ap (λ (xs : List Link). watches xs g) is ∙ c.enlist.ensures.watch g
    ∙ ap (λ (xs : List Link). put_watch (watches xs) c.args.index c.args.holder g) (c.deref_mut.ensures.value ∙ c.self.view_is)
