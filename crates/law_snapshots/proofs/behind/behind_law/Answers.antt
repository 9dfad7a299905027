use Rattle.law_snapshots.proofs.behind.Stands.{alone, plain, stepped}
use Rattle.law_snapshots.proofs.behind.behind_law.Goals as goal

pub returns : goal.returns
returns c = record {
  stepped = stepped c.keeps_law.ensures.taken_out c.dated_law.ensures.fits c.keeps_law.ensures.expired c.keeps_law.ensures.due;
  alone = alone c.dated_law.ensures.fits c.keeps_law.ensures.due;
  plain = plain;
}
