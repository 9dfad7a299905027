use Rattle.std.proofs.Common.{Bool, replicate, refl, sym, subst, ◌∙◌}
use Rattle.serve_turns.specs.connection_turns.Drawing.{IsDrawnIf}
use Rattle.serve_turns.proofs.connection_turns.frames.fresh_for.Goals as goal

pub returns-then-not-holds_setup : goal.returns-then-not-holds_setup
returns-then-not-holds_setup g c =
    subst (λ (b : Bool). IsDrawnIf g.R.Rng.stream b (replicate 8 0)) (sym (sym c.holds_setup.ensures ∙ c.if-not-holds_setup.true)) refl

pub returns : goal.returns
returns g c =
    subst (λ (b : Bool). IsDrawnIf g.R.Rng.stream b c.fresh.result) (sym (sym c.holds_setup.ensures ∙ c.if-not-holds_setup.false))
    c.fresh.ensures
