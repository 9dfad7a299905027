use Rattle.journal_bytes.proofs.record_bodies.Sizes.{added, fits_as, again}
use Rattle.journal_bytes.proofs.record_bodies.laws.body_law.Goals as goal

pub returns : goal.returns
returns c = record { added = added; fits = fits_as; again = again }
