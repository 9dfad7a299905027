use Rattle.std.proofs.Common.{◌∙◌}
use Rattle.base_lists.specs.watch_lists.Watching.{put_watch}
use Rattle.base_lists.specs.watch_lists.Listed.{watches, firsts, nexts}
use Rattle.base_lists.proofs.watch_lists.Columns.{moved, put_alike}
use Rattle.base_lists.proofs.watch_lists.Lists.{comes_in_front, comes_behind}
use Rattle.base_lists.proofs.watch_lists.links.enlist.Goals as goal

pub returns-then-first-index-clause-lists : goal.returns-then-first-index-clause-lists
returns-then-first-index-clause-lists c =
    let old = c.args.links.now in
    let new = c.set_first.new.links in
    let one = c.put_behind.ensures in
    let two = c.set_first.ensures in
    let x = c.args.index in
    let b = c.args.holder in
    moved (put_watch (watches old) x b) (put_watch (firsts old) b x) (put_watch (nexts old) x (firsts old b))
    (watches new) (firsts new) (nexts new)
    (λ g. two.watch g ∙ one.watch g)
    (λ g. two.first g ∙ put_alike (firsts c.put_behind.new.links) (firsts old) b x one.first g)
    (λ g. two.next g ∙ one.next g)
    (comes_in_front (watches old) (firsts old) (nexts old) b x c.requires.lists c.requires.above c.requires.apart c.if-first-index.true)

pub returns-else-first-index-clause-lists : goal.returns-else-first-index-clause-lists
returns-else-first-index-clause-lists c =
    let old = c.args.links.now in
    let new = c.set_next.new.links in
    let one = c.put_behind-else-first-index.ensures in
    let two = c.set_next.ensures in
    let x = c.args.index in
    let b = c.args.holder in
    let y = c.place_of-place.result in
    let p = c.place_of-place.ensures in
    moved (put_watch (watches old) x b) (firsts old) (put_watch (put_watch (nexts old) x (nexts old y)) y x)
    (watches new) (firsts new) (nexts new)
    (λ g. two.watch g ∙ one.watch g)
    (λ g. two.first g ∙ one.first g)
    (λ g. two.next g ∙ put_alike (nexts c.put_behind-else-first-index.new.links) (put_watch (nexts old) x (nexts old y)) y x one.next g)
    (comes_behind (watches old) (firsts old) (nexts old) b x y c.requires.lists c.requires.above c.requires.apart p.watch p.below p.higher)
