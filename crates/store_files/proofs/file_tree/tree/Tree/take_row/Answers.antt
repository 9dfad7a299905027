use Rattle.std.proofs.Common.{List, option_map, sym, ap, ◌∙◌}
use Rattle.spec_exchange.specs.State.{Named}
use Rattle.spec_exchange.specs.Table.{is_filled}
use Rattle.spec_exchange.specs.Files.{path_of}
use Rattle.spec_exchange.specs.Listing.{children, wanted, one_or_all}
use Rattle.store_files.specs.file_tree.Listed.{with_dot, with_dots, fitting_of}
use Rattle.store_files.proofs.file_tree.Listings.{all_wanted, begun_given, begun_any}
use Rattle.store_files.proofs.file_tree.tree.Tree.take_row.Goals as goal

pub returns : goal.returns
returns c = λ s h r.
    let last = option_map (λ l. l.now) c.args.last in
    let a = c.args.asked in
    let pattern = a.pattern.now in
    let f = c.args.directory in
    let rest = wanted last pattern (children s s.entries (path_of s f)) in
    let some = with_dots last pattern s f rest in
    let all = with_dot last pattern s f some in
    let x = c.in_ok-take_children.ensures s f h r in
    let y = c.in_ok-take_dots.ensures s f h r rest in
    let z = c.in_ok-take_dot.ensures s r some in
    let n = c.nothing_taken-taken.ensures in
    let e = sym (all_wanted last pattern s f) in (
      x.0 ∙ (y.0 ∙ (z.0 ∙ (begun_given a c.nothing_taken-taken.result all n.0 n.1 n.2
          ∙ ap (λ (ns : List Named). one_or_all a.single (fitting_of a.class a.room 0 ns)) e))),
      x.1 ∙ (y.1 ∙ (z.1 ∙ (begun_any c.nothing_taken-taken.result all n.2 ∙ ap is_filled e))),
    )
