use Rattle.law_records.proofs.journal.Stands.{alone, fits_alone, stepped}
use Rattle.law_records.proofs.journal.stands_law.Goals as goal

pub returns : goal.returns
returns c = record {
  stepped = stepped c.keeps_law.ensures.taken_out c.dated_law.ensures.fits c.keeps_law.ensures.expired c.keeps_law.ensures.due;
  alone = alone c.dated_law.ensures.fits c.keeps_law.ensures.due;
  fits_alone = fits_alone c.dated_law.ensures.fits c.keeps_law.ensures.expired c.keeps_law.ensures.due c.keeps_law.ensures.counted;
}
