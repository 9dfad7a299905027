-- How far the counters of a run come: by its events, and its epoch by its restarts.
use Rattle.std.specs.Prelude.{◌+◌, ◌≤◌, List}
use Rattle.spec_exchange.specs.Network.{World, Event, Settings, run, start}
use Rattle.law_ties.specs.wire_facts.Steps.{restarts_in, submits_in}

pub record IsCounterBounded (events : List Event) (w : World) : Type 0 where
  pub taken : w.client.taken ≤ submits_in events
  pub epoch : w.server.epoch ≤ 1 + restarts_in events

abbrev pub RunsAreBounded : Type 0
RunsAreBounded = (z : Settings) (events : List Event) → IsCounterBounded events (run events (start z))
