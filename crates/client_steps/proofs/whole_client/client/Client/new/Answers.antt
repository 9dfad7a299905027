use Rattle.client_steps.proofs.whole_client.Begun.{none_fits, none_shown}
use Rattle.client_steps.proofs.whole_client.client.Client.new.Goals as goal

pub returns : goal.returns
returns c =
    let t = c.new-table.result in
    let e = c.new-table.ensures in
    record {
      fits = none_fits t c.new.result.items c.new-2.result.items c.new-3.result.items c.new-4.result.items e.rows c.new.ensures.items
          c.new-2.ensures.items c.new-3.ensures.items c.new-4.ensures.items e.fits;
      shown = λ settings. none_shown t c.new.result.items c.new-2.result.items c.new-3.result.items c.new-4.result.items e.rows
          c.new.ensures.items c.new-2.ensures.items c.new-3.ensures.items c.new-4.ensures.items settings (e.shown settings);
    }
