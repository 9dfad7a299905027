use Rattle.std.proofs.Common.{refl, sym, ◌∙◌}
use Rattle.store_files.proofs.names.Patterns.{accepts_filled}
use Rattle.store_files.proofs.names.pattern.accepts.Goals as goal

pub returns : goal.returns
returns c = c.fits.ensures ∙ sym (accepts_filled c.args.pattern.now c.args.name.now (c.if-is_any.ensures.some refl))
