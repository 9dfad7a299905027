use Rattle.std.proofs.Common.{subst, sym, ◌∙◌}
use Rattle.server_effects.proofs.event_effects.Arms.{ArmShows}
use Rattle.server_effects.specs.event_effects.Acts.{BesidePrepared}
use Rattle.server_checks.specs.event_heard.Heard.{event_of}
use Rattle.server_effects.specs.prepared_event.Prepared.{RoomToCarry}
use Rattle.server_effects.specs.declared.prepared_event.prepared.Prepared.{Prepared}
use Rattle.server_effects.proofs.event_effects.acts.carry_event.Goals as goal

pub carry_verdict-requires : goal.carry_verdict-requires
carry_verdict-requires c = subst (λ (p : Prepared). RoomToCarry c.args.t.now c.args.asked.now p) c.in-Says.is c.requires

pub take_in-requires : goal.take_in-requires
take_in-requires c = subst (λ (p : Prepared). RoomToCarry c.args.t.now c.args.asked.now p) c.in-TakesIn.is c.requires

pub returns-in-Says-clause-shows : goal.returns-in-Says-clause-shows
returns-in-Says-clause-shows c = λ s f i a.
    subst (λ (p : Prepared). ArmShows c.args.t.now c.carry_verdict.new.t c.carry_verdict.result s
    (event_of c.args.asked.now) c.args.now p) (sym c.in-Says.is)
    (λ j b. c.carry_verdict.ensures.shows s f j b) i a

pub returns-in-Says-clause-beside : goal.returns-in-Says-clause-beside
returns-in-Says-clause-beside c =
    subst (λ (p : Prepared). BesidePrepared c.args.t.now c.carry_verdict.new.t c.carry_verdict.result
    (event_of c.args.asked.now) p) (sym c.in-Says.is) c.carry_verdict.ensures.beside

pub returns-in-Says-clause-config : goal.returns-in-Says-clause-config
returns-in-Says-clause-config c = c.carry_verdict.ensures.config

pub returns-in-TakesIn-clause-shows : goal.returns-in-TakesIn-clause-shows
returns-in-TakesIn-clause-shows c = λ s f i a.
    subst (λ (p : Prepared). ArmShows c.args.t.now c.take_in.new.t c.connection_answer.result s
    (event_of c.args.asked.now) c.args.now p) (sym c.in-TakesIn.is)
    (λ j b. record {
      shows = c.take_in.ensures.shows s j;
      reply = c.connection_answer.ensures.reply;
      acted = c.connection_answer.ensures.acted_is;
    }) i a

pub returns-in-TakesIn-clause-beside : goal.returns-in-TakesIn-clause-beside
returns-in-TakesIn-clause-beside c =
    subst (λ (p : Prepared). BesidePrepared c.args.t.now c.take_in.new.t c.connection_answer.result
    (event_of c.args.asked.now) p) (sym c.in-TakesIn.is) (c.connection_answer.ensures.bare, c.take_in.ensures.logons)

pub returns-in-TakesIn-clause-config : goal.returns-in-TakesIn-clause-config
returns-in-TakesIn-clause-config c = c.take_in.ensures.config

pub returns-in-TurnsAway-clause-shows : goal.returns-in-TurnsAway-clause-shows
returns-in-TurnsAway-clause-shows c = λ s f i a.
    subst (λ (p : Prepared). ArmShows c.args.t.now c.args.t.now c.connection_answer-in-TurnsAway.result s
    (event_of c.args.asked.now) c.args.now p) (sym c.in-TurnsAway.is)
    (λ j b. record {
      shows = j;
      reply = c.connection_answer-in-TurnsAway.ensures.reply;
      acted = c.connection_answer-in-TurnsAway.ensures.acted_is;
    }) i a

pub returns-in-TurnsAway-clause-beside : goal.returns-in-TurnsAway-clause-beside
returns-in-TurnsAway-clause-beside c =
    subst (λ (p : Prepared). BesidePrepared c.args.t.now c.args.t.now c.connection_answer-in-TurnsAway.result
    (event_of c.args.asked.now) p) (sym c.in-TurnsAway.is) (c.connection_answer-in-TurnsAway.ensures.bare, λ keys pending k. k)

pub returns-in-TakesOut-clause-shows : goal.returns-in-TakesOut-clause-shows
returns-in-TakesOut-clause-shows c = λ s f i a.
    subst (λ (p : Prepared). ArmShows c.args.t.now c.take_out-acted.new.t c.connection_answer-in-TakesOut.result s
    (event_of c.args.asked.now) c.args.now p) (sym c.in-TakesOut.is)
    (λ j b. record {
      shows = c.take_out-acted.ensures.shows s f j;
      reply = c.connection_answer-in-TakesOut.ensures.reply;
      acted = c.connection_answer-in-TakesOut.ensures.acted_is ∙ c.take_out-acted.ensures.told s f j;
    }) i a

pub returns-in-TakesOut-clause-beside : goal.returns-in-TakesOut-clause-beside
returns-in-TakesOut-clause-beside c =
    subst (λ (p : Prepared). BesidePrepared c.args.t.now c.take_out-acted.new.t c.connection_answer-in-TakesOut.result
    (event_of c.args.asked.now) p) (sym c.in-TakesOut.is) (c.connection_answer-in-TakesOut.ensures.bare, c.take_out-acted.ensures.logons)

pub returns-in-TakesOut-clause-config : goal.returns-in-TakesOut-clause-config
returns-in-TakesOut-clause-config c = c.take_out-acted.ensures.config

pub returns-in-TakesAllOut-clause-shows : goal.returns-in-TakesAllOut-clause-shows
returns-in-TakesAllOut-clause-shows c = λ s f i a.
    subst (λ (p : Prepared). ArmShows c.args.t.now c.take_all_out-acted.new.t c.connection_answer-in-TakesAllOut.result s
    (event_of c.args.asked.now) c.args.now p) (sym c.in-TakesAllOut.is)
    (λ j b. record {
      shows = c.take_all_out-acted.ensures.shows s f j;
      reply = c.connection_answer-in-TakesAllOut.ensures.reply;
      acted = c.connection_answer-in-TakesAllOut.ensures.acted_is ∙ c.take_all_out-acted.ensures.told s f j;
    }) i a

pub returns-in-TakesAllOut-clause-beside : goal.returns-in-TakesAllOut-clause-beside
returns-in-TakesAllOut-clause-beside c =
    subst (λ (p : Prepared). BesidePrepared c.args.t.now c.take_all_out-acted.new.t c.connection_answer-in-TakesAllOut.result
    (event_of c.args.asked.now) p) (sym c.in-TakesAllOut.is) (
      c.connection_answer-in-TakesAllOut.ensures.bare,
      c.take_all_out-acted.ensures.logons,
    )

pub returns-in-TakesAllOut-clause-config : goal.returns-in-TakesAllOut-clause-config
returns-in-TakesAllOut-clause-config c = c.take_all_out-acted.ensures.config
