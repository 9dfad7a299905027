use Rattle.client_events.proofs.played_client.sent.request_of.Goals as goal

pub either-requires : goal.either-requires
either-requires c =
    record {
      fits = c.requires.fits;
      above = c.has_op.ensures.above c.if-not-has_op.false;
      within = c.has_op.ensures.within c.if-not-has_op.false;
    }

pub returns : goal.returns
returns c = c.in_ok-either.ensures
