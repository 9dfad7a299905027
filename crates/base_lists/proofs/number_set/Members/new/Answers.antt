use Rattle.base_lists.proofs.number_set.Swapping.{fits_none}
use Rattle.base_lists.proofs.number_set.Members.new.Goals as goal

pub returns-clause-fits : goal.returns-clause-fits
returns-clause-fits c =
    let p = fits_none c.new.result.items c.new-2.result.items c.new.ensures.items c.new-2.ensures.items in
    record { pairs = p.0; within = p.1; few = p.2 }
