use Rattle.std.proofs.Common.{refl, ◌∙◌}
use Rattle.server_core.proofs.durable_state.Marks.{marks_front, marks_end, marks_over}
use Rattle.server_core.proofs.durable_state.durable.push_each.Goals as goal

pub loop-file-init : goal.loop-file-init
loop-file-init c = (tt, tt, λ s h o. refl)

pub loop-file-preserved : goal.loop-file-preserved
loop-file-preserved c = (
  tt,
  tt,
  λ s h o.
      marks_front s c.in-Some.file.now _ c.next.new.self _ _ c.in-Some.ensures.steps (c.in_ok-push_mark.ensures s h o)
      ∙ c.loop-file.invariant.2 s h o,
)

pub returns : goal.returns
returns c = record {
  told = λ s h o.
      let g = c.into_iter-file-iterator.ensures.into_iter_gives in
      marks_over s _ _ _ _ (marks_end s _ _ c.in-None.ensures.steps.0 ∙ c.loop-file.invariant.2 s h o) g.0;
  ordered = c.into_iter-file-iterator.ensures.into_iter_gives.4;
}
