use Rattle.server_effects.proofs.event_effects.acts.take_in.Goals as goal

pub returns-clause-shows : goal.returns-clause-shows
returns-clause-shows c = λ s h. record {
  opens = h.opens;
  files = h.files;
  sessions = c.take_in.ensures.shows s h.sessions;
  share_is = h.share_is;
  room_is = h.room_is;
  encrypts_is = h.encrypts_is;
  address_is = h.address_is;
  version_is = h.version_is;
  journal_is = h.journal_is;
}

pub returns-clause-logons : goal.returns-clause-logons
returns-clause-logons c = c.take_in.ensures.logons
