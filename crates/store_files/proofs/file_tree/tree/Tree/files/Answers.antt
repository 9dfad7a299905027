use Rattle.std.proofs.Common.{refl, sym, ap, subst, ◌∙◌}
use Rattle.std.specs.String.{string_bytes}
use Rattle.store_files.specs.file_tree.Stored.{content_of}
use Rattle.store_files.proofs.file_tree.Indexed.{all_found}
use Rattle.store_files.proofs.file_tree.Pairs.{at_text, InOrder, in_order}
use Rattle.store_files.proofs.file_tree.Taking.{AllFound}
use Rattle.store_files.proofs.file_tree.Spelled.{spelled_there, gathers_begun, gathers_on, gathers_end}
use Rattle.store_files.proofs.file_tree.tree.Tree.files.Goals as goal

pub loop-path-init : goal.loop-path-init
loop-path-init c =
    let all = c.into_iter-path-iterator.result in
    let g = c.into_iter-path-iterator.ensures.into_iter_gives in
    let o = subst (λ x. InOrder x) (sym g.0) (in_order c.in_ok-spelled.spelled.entries g.5) in
    (tt, tt, all_found all o, λ s h. gathers_begun s all all c.new-files.result.items refl c.new-files.ensures.items o)

pub loop-path-preserved : goal.loop-path-preserved
loop-path-preserved c =
    let all = c.into_iter-path-iterator.result in
    let g = c.into_iter-path-iterator.ensures.into_iter_gives in
    let v = c.loop-path.invariant in
    let k = string_bytes c.in-Some.path.now in
    let a = subst (λ x. AllFound (at_text all) x) c.in-Some.ensures.steps v.2 in (
      tt,
      tt,
      a.1,
      λ s h.
          let at = ap (λ x. at_text x k) (sym g.0) ∙ a.0 in
          let there = spelled_there s s.entries k c.in-Some.file.now (sym (c.in_ok-spelled.ensures s h k) ∙ at) in
          let p = c.in_ok-push_file.ensures s h there in
          gathers_on s all c.loop-path.path-iterator c.next.new.self c.loop-path.files.items
          c.push_file.new.files.items p.0 c.in-Some.path.now c.in-Some.file.now c.in-Some.ensures.steps (v.3 s h) p.1
          (p.2 ∙ c.as_str.ensures.value) p.3,
    )

pub returns : goal.returns
returns c = λ s h.
    let all = c.into_iter-path-iterator.result in
    let i = c.into_iter-path-iterator.ensures.into_iter_gives in
    let g = c.loop-path.invariant.3 s h in record {
      bytes = λ p. gathers_end s all c.loop-path.path-iterator c.loop-path.files.items c.in-None.ensures.steps.0 g p
          ∙ ap (content_of s) (ap (λ x. at_text x p) i.0 ∙ c.in_ok-spelled.ensures s h p);
      ascend = g.ascend;
    }
