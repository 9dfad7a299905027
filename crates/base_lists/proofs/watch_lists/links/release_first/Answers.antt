use Rattle.std.proofs.Common.{refl, ◌∙◌}
use Rattle.base_lists.specs.watch_lists.Watching.{put_watch}
use Rattle.base_lists.specs.watch_lists.Listed.{watches, firsts, nexts}
use Rattle.base_lists.proofs.watch_lists.Columns.{moved, put_alike}
use Rattle.base_lists.proofs.watch_lists.Lists.{first_leaves}
use Rattle.base_lists.proofs.watch_lists.links.release_first.Goals as goal

pub returns-clause-lists : goal.returns-clause-lists
returns-clause-lists c =
    let old = c.args.links.now in
    let new = c.set_first.new.links in
    let one = c.set_watch.ensures in
    let two = c.set_first.ensures in
    let x = firsts old c.args.holder in
    moved (put_watch (watches old) x 0) (put_watch (firsts old) c.args.holder (nexts old x)) (nexts old) (watches new)
    (firsts new) (nexts new)
    (λ g. two.watch g ∙ one.watch g)
    (λ g. two.first g ∙ put_alike (firsts c.set_watch.new.links) (firsts old) c.args.holder (nexts old x) one.first g)
    (λ g. two.next g ∙ one.next g)
    (first_leaves (watches old) (firsts old) (nexts old) c.args.holder x c.requires.lists c.requires.above c.requires.some refl)

pub returns-clause-highest : goal.returns-clause-highest
returns-clause-highest c = λ h e. c.requires.lists.top c.args.holder h c.requires.above e
