use Rattle.std.proofs.Common.{get_or, refl, arith}
use Rattle.base_lists.proofs.number_set.Listing.{none_below}
use Rattle.base_lists.proofs.number_set.Members.clear.Goals as goal

pub returns : goal.returns
returns c =
    let f = c.requires.fits in
    record {
      fits = record { pairs = f.pairs; within = omega arith; few = f.few };
      size = refl;
      count = refl;
      has = λ h. none_below (get_or c.args.self.now.places.items h 0);
    }
