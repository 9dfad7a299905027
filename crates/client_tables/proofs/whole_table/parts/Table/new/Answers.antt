use Rattle.std.proofs.Common.{vec_capacity}
use Rattle.client_tables.proofs.whole_table.Nothing.{fits_begun, shown_begun}
use Rattle.client_tables.proofs.whole_table.parts.Table.new.Goals as goal

pub returns : goal.returns
returns c =
    record {
      fits = fits_begun c.new-2.result.items c.new-3.result.items c.new-4.result c.new-5.result c.new-6.result.items c.new-7.result.items
          c.new-8.result.items c.new-9.result.items c.new-2.ensures.items c.new-3.ensures.items c.new-4.ensures c.new-5.ensures
          c.new-6.ensures.items c.new-7.ensures.items c.new-8.ensures.items c.new-9.ensures.items c.new-10.result
          (vec_capacity c.new-8.result) c.new-10.ensures.fits c.new-10.ensures.size;
      rows = c.new-2.ensures.items;
      shown = λ settings. shown_begun c.new-2.result.items c.new-3.result.items c.new-4.result c.new-5.result c.new-6.result.items
          c.new-7.result.items c.new-8.result.items c.new-9.result.items c.new-2.ensures.items c.new-3.ensures.items c.new-4.ensures
          c.new-5.ensures c.new-6.ensures.items c.new-7.ensures.items c.new-8.ensures.items c.new-9.ensures.items c.new.result settings
          (c.new.ensures settings);
    }
