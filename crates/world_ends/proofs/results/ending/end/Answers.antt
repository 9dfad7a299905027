use Rattle.world_ends.proofs.results.ending.end.Goals as goal

pub returns : goal.returns
returns c = λ z w h. record {
  fits = c.end.ensures.fits;
  client = c.end.ensures.shown w.values.client h.own.client;
  server = h.server;
  places = h.places;
}
