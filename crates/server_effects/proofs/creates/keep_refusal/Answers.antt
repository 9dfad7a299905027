use Rattle.spec_exchange.specs.Effects.{keep_refusal}
use Rattle.server_effects.proofs.Steps.{pieces}
use Rattle.server_effects.proofs.creates.keep_refusal.Goals as goal

pub returns-clause-shows : goal.returns-clause-shows
returns-clause-shows c = λ now s f h a. record {
  shows = pieces c.args.t.now c.put_refusal.new.self (keep_refusal s c.args.m.now.session_id c.args.guid c.args.status)
      (c.put_refusal.ensures s h.opens a) h.files h.sessions h.share_is h.room_is h.encrypts_is h.address_is h.version_is h.journal_is;
  reply = c.quiet.ensures.reply;
  acted = c.quiet.ensures.acted_is;
}
