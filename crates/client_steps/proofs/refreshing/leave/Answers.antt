use Rattle.std.proofs.Common.{false, refl, sym, ◌∙◌}
use Rattle.client_steps.proofs.Joined.{already}
use Rattle.client_steps.proofs.refreshing.leave.Goals as goal

pub returns-then-not-has : goal.returns-then-not-has
returns-then-not-has c =
    record {
      fits = c.requires.fits;
      size = refl;
      has = λ h l. already c.args.out.now c.args.index false (sym c.has.ensures ∙ c.if-not-has.true) h;
    }
