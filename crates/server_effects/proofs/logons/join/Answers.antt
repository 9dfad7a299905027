use Rattle.std.proofs.Common.{ℕ, Bool, Some, ap, sym, subst, ◌∙◌, ◌<◌}
use Rattle.wire_commands.specs.values.Meaning.{message_of}
use Rattle.server_checks.specs.session_table.Changes.{session_joined}
use Rattle.server_effects.proofs.Steps.{session_pieces}
use Rattle.server_effects.proofs.Told.{few_numbers, set_up_in}
use Rattle.server_effects.proofs.logons.join.Goals as goal

pub returns-clause-shows : goal.returns-clause-shows
returns-clause-shows c = λ now s f h a. record {
  shows = session_pieces c.args.t.now c.join-channel.new.self (session_joined s c.args.m.now.connection c.args.session) h.opens h.files
      (c.join-channel.ensures.shows s h.sessions a.0 a.1) h.share_is h.room_is h.encrypts_is h.address_is h.version_is h.journal_is;
  reply = c.set_up_answer.ensures.reply
      ∙ (ap (λ (b : Bool). set_up_in (message_of c.args.m.now) b c.join-channel.result) (sym h.encrypts_is)
      ∙ ap (set_up_in (message_of c.args.m.now) s.encrypts) (c.join-channel.ensures.number s h.sessions a.0 a.1));
  acted = c.set_up_answer.ensures.beside.0;
}

pub returns-clause-beside : goal.returns-clause-beside
returns-clause-beside c = (c.set_up_answer.ensures.beside.1, c.set_up_answer.ensures.beside.2)

pub returns-clause-channel : goal.returns-clause-channel
returns-clause-channel c = λ s h a.
    let n = c.join-channel.ensures.number s h.sessions a.0 a.1 in
    c.set_up_answer.ensures.channel (subst (λ (z : ℕ). z < 65536) (sym n) (few_numbers (s.channel_numbers_drawn c.args.session) a.1))
    ∙ ap Some n
