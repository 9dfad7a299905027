use Rattle.std.proofs.Common.{subst, sym, ◌∙◌}
use Rattle.wire_commands.specs.values.Meaning.{command_of, message_of}
use Rattle.server_effects.proofs.verdict_effects.Arms.{StepShows}
use Rattle.spec_exchange.specs.Effects.{end_if_named}
use Rattle.server_effects.proofs.verdict_effects.Begins.{named_keeps, sealed_as, still_absent}
use Rattle.server_effects.specs.verdict_effects.Beside.{EffectSetsUp}
use Rattle.server_effects.specs.reserved.Room.{StepRoom}
use Rattle.server_effects.specs.declared.reserved.ready.SetupReady.{SetupReady}
use Rattle.server_effects.proofs.verdict_effects.sessions.set_up.Goals as goal
use Rattle.server_checks.specs.event_heard.Heard.{setup_in}

pub returns-in-Challenge-clause-shows : goal.returns-in-Challenge-clause-shows
returns-in-Challenge-clause-shows c = λ s f h i a. subst (λ (r : SetupReady). StepShows c.challenge.new.t c.challenge.result s
    (message_of c.args.m.now) c.args.now (command_of c.args.m.now.command) r) (sym c.in-Challenge.is)
    (λ j b. c.challenge.ensures.shows c.args.now s f h b) i a

pub returns-in-Challenge-clause-config : goal.returns-in-Challenge-clause-config
returns-in-Challenge-clause-config c = c.challenge.ensures.config

pub returns-in-ChallengeBinding-clause-shows : goal.returns-in-ChallengeBinding-clause-shows
returns-in-ChallengeBinding-clause-shows c = λ s f h i a.
    subst (λ (r : SetupReady). StepShows c.challenge_binding.new.t c.challenge_binding.result s
    (message_of c.args.m.now) c.args.now (command_of c.args.m.now.command) r) (sym c.in-ChallengeBinding.is)
    (λ j b. c.challenge_binding.ensures.shows c.args.now s f h b) i a

pub returns-in-ChallengeBinding-clause-config : goal.returns-in-ChallengeBinding-clause-config
returns-in-ChallengeBinding-clause-config c = c.challenge_binding.ensures.config

pub returns-in-Join-clause-shows : goal.returns-in-Join-clause-shows
returns-in-Join-clause-shows c = λ s f h i a. subst (λ (r : SetupReady). StepShows c.join.new.t c.join.result s
    (message_of c.args.m.now) c.args.now (command_of c.args.m.now.command) r) (sym c.in-Join.is)
    (λ j b. c.join.ensures.shows c.args.now s f h b) i a

pub returns-in-Join-clause-config : goal.returns-in-Join-clause-config
returns-in-Join-clause-config c = c.join.ensures.config

pub returns-in-Begin-clause-shows : goal.returns-in-Begin-clause-shows
returns-in-Begin-clause-shows c = λ s f h i a. subst (λ (r : SetupReady). StepShows c.begin.new.t c.begin.result s
    (message_of c.args.m.now) c.args.now (command_of c.args.m.now.command) r) (sym c.in-Begin.is)
    (λ j b. record {
      shows = c.begin.ensures.shows (end_if_named s c.args.now c.in-Begin.previous c.in-Begin.quiet) c.in-Begin.row.user
          (setup_in (command_of c.args.m.now.command)) (named_keeps s c.args.now c.in-Begin.previous c.in-Begin.quiet f)
          (c.end_if_named-acted.ensures.shows s f h b.2)
          (still_absent s c.args.now c.in-Begin.previous c.in-Begin.quiet c.in-Begin.session b.1) b.0 j;
      reply = c.begin.ensures.reply ∙ sealed_as (message_of c.args.m.now) c.args.t.now.config c.end_if_named-acted.new.t.config s.encrypts
          c.end_if_named-acted.ensures.kept.config h.encrypts_is;
      acted = c.begin.ensures.beside.0 ∙ c.end_if_named-acted.ensures.told s f h;
    }) i a

pub returns-in-Begin-clause-config : goal.returns-in-Begin-clause-config
returns-in-Begin-clause-config c = c.begin.ensures.config ∙ c.end_if_named-acted.ensures.kept.config

pub challenge-requires : goal.challenge-requires
challenge-requires c =
    subst (λ (r : SetupReady). StepRoom c.args.t.now c.args.m.now.connection r) c.in-Challenge.is c.requires

pub challenge_binding-requires : goal.challenge_binding-requires
challenge_binding-requires c =
    subst (λ (r : SetupReady). StepRoom c.args.t.now c.args.m.now.connection r) c.in-ChallengeBinding.is c.requires

pub join-requires : goal.join-requires
join-requires c =
    subst (λ (r : SetupReady). StepRoom c.args.t.now c.args.m.now.connection r) c.in-Join.is c.requires

pub begin-requires : goal.begin-requires
begin-requires c =
    let r = subst (λ (r : SetupReady). StepRoom c.args.t.now c.args.m.now.connection r) c.in-Begin.is c.requires in
    (c.end_if_named-acted.ensures.kept.room r.0, c.end_if_named-acted.ensures.kept.links c.args.m.now.connection r.1)

pub returns-in-Challenge-clause-beside : goal.returns-in-Challenge-clause-beside
returns-in-Challenge-clause-beside c =
    subst (λ (r : SetupReady). EffectSetsUp c.args.t.now c.challenge.new.t c.challenge.result (message_of c.args.m.now)
    r) (sym c.in-Challenge.is)
    c.challenge.ensures.beside

pub returns-in-ChallengeBinding-clause-beside : goal.returns-in-ChallengeBinding-clause-beside
returns-in-ChallengeBinding-clause-beside c =
    subst (λ (r : SetupReady). EffectSetsUp c.args.t.now c.challenge_binding.new.t c.challenge_binding.result (message_of c.args.m.now) r)
    (sym c.in-ChallengeBinding.is) c.challenge_binding.ensures.beside

pub returns-in-Join-clause-beside : goal.returns-in-Join-clause-beside
returns-in-Join-clause-beside c =
    subst (λ (r : SetupReady). EffectSetsUp c.args.t.now c.join.new.t c.join.result (message_of c.args.m.now) r) (sym c.in-Join.is)
    (c.join.ensures.beside.0, c.join.ensures.beside.1, c.join.ensures.channel, c.join.ensures.logons)

pub returns-in-Begin-clause-beside : goal.returns-in-Begin-clause-beside
returns-in-Begin-clause-beside c =
    subst (λ (r : SetupReady). EffectSetsUp c.args.t.now c.begin.new.t c.begin.result (message_of c.args.m.now) r) (sym c.in-Begin.is) (
      c.begin.ensures.beside.1,
      c.begin.ensures.beside.2,
      c.begin.ensures.beside.3,
      λ keys pending k. c.begin.ensures.logons keys pending (c.end_if_named-acted.ensures.kept.logons keys pending k),
    )
