use Rattle.std.proofs.Common.{ℕ, List, refl, sym, ap, subst, ◌∙◌}
use Rattle.spec_exchange.specs.State.{Server}
use Rattle.store_files.specs.file_tree.Shown.{ShowsFiles}
use Rattle.spec_exchange.specs.Opens.{without_gone}
use Rattle.law_records.specs.fold.Order.{swept_of}
use Rattle.server_core.proofs.durable_state.Swept.{gone_opens, swept_front, swept_end}
use Rattle.server_core.proofs.durable_state.durable.sweep_files.Goals as goal

pub loop-file-init : goal.loop-file-init
loop-file-init c = (tt, tt, λ s h o. (s, h, o, refl))

pub loop-file-preserved : goal.loop-file-preserved
loop-file-preserved c = (
  tt,
  tt,
  λ s h o.
      let v = c.loop-file.invariant.2 s h o in
      let f = c.in-Some.file.now in (
        without_gone v.0 f,
        c.drop_gone.ensures v.0 v.1 v.2,
        gone_opens c.args.opens.now v.0 f v.2,
        v.3 ∙ (ap (λ (fs : List ℕ). swept_of v.0 fs) c.in-Some.ensures.steps ∙ swept_front v.0 f c.next.new.self),
      ),
)

pub returns : goal.returns
returns c = record {
  swept = λ s h o.
      let v = c.loop-file.invariant.2 s h o in
      let g = c.into_iter-file-iterator.ensures.into_iter_gives in
      let whole = ap (λ (fs : List ℕ). swept_of s fs) (sym g.0) ∙ (v.3
      ∙ (ap (λ (fs : List ℕ). swept_of v.0 fs) c.in-None.ensures.steps.0 ∙ swept_end v.0)) in
      subst (λ (u : Server). ShowsFiles c.loop-file.tree u) (sym whole) v.1;
  ordered = c.into_iter-file-iterator.ensures.into_iter_gives.4;
}
