use Rattle.std.specs.Prelude.{vec_items}
use Rattle.std.specs.Ordering.{nat_cmp}
use Rattle.std.specs.BTreeMap.{get}
use Rattle.spec_exchange.specs.Content.{ended}
use Rattle.spec_exchange.proofs.Content.{length-ended}
use Rattle.store_files.proofs.file_extents.Shown.{reaches-ended}
use Rattle.store_files.proofs.file_extents.extents.Extents.set_end.Goals as goal

pub returns-clause-shown : goal.returns-clause-shown
returns-clause-shown c b s =
    let e = length-ended c.args.n b in
    record {
      shows = c.trim_last-trimmed.ensures (ended c.args.n b) e
          (c.remove_from-removed.ensures.kept (ended c.args.n b) e
          (reaches-ended vec_items (λ k. get nat_cmp c.args.self.now.pieces k) b c.args.n s.shows));
      len = e;
    }
