-- The parts together.
use Rattle.law_ties.specs.wire_facts.Steps.{StepLaw}
use Rattle.law_runs.specs.untampered.Plain.{PlainRunsGoInStep}
use Rattle.law_runs.specs.accepted.Made.{PlainRunsAreMade}
use Rattle.law_runs.specs.sealed.Kept.{PlainSealsAreKept}
use Rattle.law_runs.specs.binding_room.Room.{PlainRunsHaveRoom}

pub together : PlainRunsGoInStep → PlainRunsAreMade → PlainSealsAreKept → PlainRunsHaveRoom → StepLaw
together plain made seals room z fit events few taken =
    let p = plain z events fit few taken in
    let runs = p.runs in
    record {
      in_step = runs.in_step;
      requests = runs.requests;
      replies = p.replies;
      nonces = p.nonces (room z events fit few taken);
      accepted = made z events fit few taken;
      seals = seals z events fit few taken;
    }
