use Rattle.std.proofs.Common.{ℕ, ◌*◌, ◌+◌, ap, refl, ◌∙◌}
use Rattle.spec_exchange.specs.State.{no_later}
use Rattle.world_steps.proofs.Onward.{capped_more, later_shown}
use Rattle.world_steps.proofs.moments.wait.Goals as goal

pub returns : goal.returns
returns c = λ z w h.
    let x = c.args.world.now in
    let n = c.args.milliseconds in (
      refl,
      later_shown z x c.later.new.world w (10000 * n) c.later.ensures.rest
          (c.later.ensures.moment ∙ (ap (λ (m : ℕ). no_later (x.moment + m)) c.saturating_mul.ensures ∙ capped_more x.moment n)) h,
    )
