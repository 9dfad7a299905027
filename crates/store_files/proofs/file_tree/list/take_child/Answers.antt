use Rattle.std.proofs.Common.{nat_eq, sym, ap, ◌∙◌}
use Rattle.std.specs.HashMap.{get}
use Rattle.spec_exchange.specs.State.{Named}
use Rattle.spec_exchange.specs.Texts.{leaf_of}
use Rattle.store_files.specs.file_tree.Listed.{listing_given, any_at, with_accepted}
use Rattle.store_files.proofs.file_tree.Indexed.{row_named, no_row_named}
use Rattle.store_files.proofs.file_tree.list.take_child.Goals as goal

pub returns-in-Some : goal.returns-in-Some
returns-in-Some c = λ n h ns.
    let e = row_named (get nat_eq c.args.rows.now c.args.file) c.in-Some.row.now c.args.file n c.leaf_of.result.now
    c.info_of.result (sym c.in-Some.ensures.value) h (c.leaf_of.ensures ∙ ap leaf_of c.as_str.ensures)
    c.info_of.ensures in
    let o = c.in_ok-offer-in-Some.ensures ns in (
      o.0 ∙ ap (λ (x : Named). listing_given c.args.asked c.args.taken.now (with_accepted c.args.asked.pattern.now x ns)) e,
      o.1 ∙ ap (λ (x : Named). any_at c.args.taken.now.stage (with_accepted c.args.asked.pattern.now x ns)) e,
    )

pub returns-in-None : goal.returns-in-None
returns-in-None c = λ n h ns. absurd (let x = no_row_named (get nat_eq c.args.rows.now c.args.file) c.args.file n
    (sym c.in-None.ensures.value) h in cc)
