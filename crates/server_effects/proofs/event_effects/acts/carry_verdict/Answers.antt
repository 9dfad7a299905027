use Rattle.std.proofs.Common.{subst, sym}
use Rattle.server_effects.proofs.event_effects.Arms.{VerdictShows, other_beside, other_shows}
use Rattle.server_effects.specs.event_effects.Acts.{BesideOn}
use Rattle.server_checks.specs.event_heard.Heard.{event_of}
use Rattle.server_checks.specs.declared.event_heard.asked.Asked.{Asked}
use Rattle.server_effects.specs.prepared_event.Prepared.{RoomOn}
use Rattle.server_effects.proofs.event_effects.acts.carry_verdict.Goals as goal

pub carry_out-requires : goal.carry_out-requires
carry_out-requires c = subst (λ (a : Asked). RoomOn c.args.t.now a c.args.ready) c.in-Says.is c.requires

pub returns-in-Says-clause-shows : goal.returns-in-Says-clause-shows
returns-in-Says-clause-shows c = λ s f i a.
    subst (λ (x : Asked). VerdictShows c.args.t.now c.carry_out.new.t c.carry_out.result s (event_of x) c.args.now c.args.ready)
    (sym c.in-Says.is) (λ j b. c.carry_out.ensures.shows s f j b) i a

pub returns-in-Says-clause-beside : goal.returns-in-Says-clause-beside
returns-in-Says-clause-beside c =
    subst (λ (x : Asked). BesideOn c.args.t.now c.carry_out.new.t c.carry_out.result (event_of x) c.args.ready)
    (sym c.in-Says.is) c.carry_out.ensures.beside

pub returns-in-Says-clause-config : goal.returns-in-Says-clause-config
returns-in-Says-clause-config c = c.carry_out.ensures.config

pub returns-in_default-clause-shows : goal.returns-in_default-clause-shows
returns-in_default-clause-shows c = λ s f.
    other_shows c.args.t.now c.args.t.now c.connection_answer.result s c.args.asked.now c.args.now c.args.ready c.in_default.not-Says
    (λ j. record {
      shows = j;
      reply = c.connection_answer.ensures.reply;
      acted = c.connection_answer.ensures.acted_is;
    })

pub returns-in_default-clause-beside : goal.returns-in_default-clause-beside
returns-in_default-clause-beside c =
    other_beside c.args.t.now c.args.t.now c.connection_answer.result c.args.asked.now c.args.ready c.in_default.not-Says
    (c.connection_answer.ensures.bare, λ keys pending k. k)
