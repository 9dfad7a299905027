use Rattle.std.proofs.Common.{refl, ap}
use Rattle.std.specs.BTreeMap.{get_by_text}
use Rattle.store_files.proofs.file_tree.Pairs.{at_text}
use Rattle.store_files.proofs.file_tree.Spelled.{spells_begun, spells_on, spells_end}
use Rattle.store_files.proofs.file_tree.tree.Tree.spelled.Goals as goal

pub loop-file-init : goal.loop-file-init
loop-file-init c =
    let g = c.into_iter-file-iterator.ensures.into_iter_gives in (
      tt,
      tt,
      spells_begun c.args.self.now c.args.self.now.paths.entries c.into_iter-file-iterator.result
          (λ p. get_by_text c.new-spelled.result p) g.0 g.5 (λ q. refl) (λ p. ap (λ es. at_text es p) c.new-spelled.ensures.empty),
    )

pub loop-file-preserved : goal.loop-file-preserved
loop-file-preserved c =
    let v = c.loop-file.invariant in (
      tt,
      tt,
      spells_on c.args.self.now c.loop-file.file-iterator c.next.new.self _ c.in-Some.file.now
          (λ p. get_by_text c.loop-file.spelled p) (λ p. get_by_text c.spell.new.spelled p) c.in-Some.ensures.steps v.2
          c.in_ok-spell.ensures,
    )

pub returns : goal.returns
returns c =
    let v = c.loop-file.invariant in
    spells_end c.args.self.now c.loop-file.file-iterator (λ p. get_by_text c.loop-file.spelled p) c.in-None.ensures.steps.0 v.2
