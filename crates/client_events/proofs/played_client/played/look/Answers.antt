use Rattle.client_events.proofs.played_client.played.look.Goals as goal

pub is_settled-requires : goal.is_settled-requires
is_settled-requires c = record { fits = c.requires.holds.fits }

pub returns : goal.returns
returns c =
    let h = c.requires.holds in
    let e = c.is_settled.ensures in
    record {
      holds = record { fits = e.fits; model = h.model; shown = e.shown h.model h.shown; kept = h.kept };
      shown = λ d s. e.shown d s;
      told = λ d s. e.told d s;
    }
