use Rattle.std.proofs.Common.{true, refl, sym, ◌∙◌}
use Rattle.client_steps.proofs.Joined.{already}
use Rattle.client_steps.proofs.refreshing.join.Goals as goal

pub returns-then-has : goal.returns-then-has
returns-then-has c =
    record {
      fits = c.requires.fits;
      size = refl;
      has = λ h l. already c.args.out.now c.args.index true (sym c.has.ensures ∙ c.if-has.true) h;
    }
