use Rattle.server_checks.specs.session_table.Changes.{challenged_binding}
use Rattle.server_effects.proofs.Steps.{session_pieces}
use Rattle.server_effects.proofs.logons.challenge_binding.Goals as goal

pub returns-clause-shows : goal.returns-clause-shows
returns-clause-shows c = λ now s f h a. record {
  shows = session_pieces c.args.t.now c.challenge_binding.new.self (challenged_binding s c.args.m.now.connection c.args.session)
      h.opens h.files (c.challenge_binding.ensures.shows s h.sessions)
      h.share_is h.room_is h.encrypts_is h.address_is h.version_is h.journal_is;
  reply = c.more.ensures.reply;
  acted = c.more.ensures.beside.0;
}

pub returns-clause-beside : goal.returns-clause-beside
returns-clause-beside c = record {
  token_is = c.more.ensures.beside.1;
  no_keys = c.more.ensures.beside.2;
  no_channel = c.more.ensures.beside.3;
  logons = c.challenge_binding.ensures.logons;
}
