use Rattle.std.proofs.Common.{List, option_map, ap, ◌∙◌}
use Rattle.std.specs.String.{string_bytes}
use Rattle.spec_exchange.specs.State.{Named}
use Rattle.store_files.specs.file_tree.Listed.{listing_given, any_at, named_of}
use Rattle.store_files.proofs.file_tree.Pairs.{in_order}
use Rattle.store_files.proofs.file_tree.Passing.{start_from}
use Rattle.store_files.proofs.file_tree.Indexed.{are_rows, taken_children, no_children}
use Rattle.store_files.proofs.file_tree.tree.Tree.take_children.Goals as goal

pub returns-then-row : goal.returns-then-row
returns-then-row c = λ s f h r.
    let t = c.args.self.now in
    let e = taken_children t s f c.args.row.now h r (option_map (λ l. l.now) c.args.last) c.args.asked.pattern.now
    (string_bytes c.in_ok-start.start) c.if-row.true c.in_ok-start.ensures
    (in_order t.paths.entries c.in_ok-take_from.ensures.order) in
    let b = start_from (string_bytes c.args.row.now.below) (option_map (λ l. l.now) c.args.last)
    (string_bytes c.in_ok-start.start) c.in_ok-start.ensures in
    let g = c.in_ok-take_from.ensures.given (named_of s) (are_rows t s h) b in (
      g.0 ∙ ap (λ (x : List Named). listing_given c.args.asked c.args.taken.now x) e,
      g.1 ∙ ap (λ (x : List Named). any_at c.args.taken.now.stage x) e,
    )

pub returns : goal.returns
returns c = λ s f h r.
    let e = no_children c.args.self.now s f c.args.row.now h r (option_map (λ l. l.now) c.args.last)
    c.args.asked.pattern.now c.if-row.false in (
      ap (λ (x : List Named). listing_given c.args.asked c.args.taken.now x) e,
      ap (λ (x : List Named). any_at c.args.taken.now.stage x) e,
    )
