use Rattle.client_steps.proofs.responses.hearing.end_here.Goals as goal

pub returns : goal.returns
returns c =
    let o = c.end_table.ensures in
    record {
      fits = o.fits;
      places = o.places;
      shown = λ d s k. o.shown d c.args.table.now.session s k (c.end.ensures d s.session);
    }
