-- What an event comes to, with the body of its records.
use Rattle.std.specs.Prelude.{◌≡◌, ℕ, ◌||◌, Bool, true, false, not, is_some, if◌then◌else◌, ⊤}
use Rattle.spec_exchange.specs.Check.{has_session}
use Rattle.spec_exchange.specs.Commands.{is_setup}
use Rattle.spec_exchange.specs.Records.{fits}
use Rattle.spec_exchange.specs.State as model
use Rattle.spec_exchange.specs.Step.{carried_out, event_answer}
use Rattle.spec_exchange.specs.Step as steps
use Rattle.journal_bytes.specs.record_bodies.Body.{IsBodyOf}
use Rattle.server_plan.specs.owed_records.Owing.{Owing, may_owe}
use Rattle.server_plan.specs.declared.plan.Plan.{Plan}
use Rattle.server_plan.specs.rulings.Rulings.{ruling_of}

-- its records can be told
abbrev pub OwingOf : model.Server → steps.Ruling → Type 0
OwingOf s (steps.Says m v) = Owing s m v
OwingOf s _ = ⊤

-- it may owe records, for which memory may run out
abbrev pub may_owe_by : steps.Ruling → Bool
may_owe_by (steps.Says m v) = may_owe v
may_owe_by (steps.TakesIn connection) = false
may_owe_by steps.TurnsAway = false
may_owe_by (steps.TakesOut connection quiet) = not quiet
may_owe_by (steps.TakesAllOut quiet) = not quiet

-- the ruling whose records fit
abbrev pub fitting_ruling : model.Server → ℕ → model.ServerEvent → steps.Ruling
fitting_ruling s now e = if fits s (carried_out s now (steps.ruling s e)).records then steps.ruling s e
    else steps.ruling_without_room (steps.ruling s e)

pub record PlanFor (p : Plan) (s : model.Server) (now : ℕ) (e : model.ServerEvent) : Type 0 where
  pub ruling : ruling_of e p.ruling ≡ fitting_ruling s now e
  pub body : IsBodyOf p.body (event_answer s now e).records

-- a connection that is made, or a message that is refused by the checks of its session, and of signing and sealing
-- (3.3.5.2.9, 3.3.5.2.4)
abbrev pub is_early : model.Server → model.ServerEvent → Bool
is_early s (model.Accept connection) = true
is_early s (model.Heard m) = not (is_setup m.command || has_session s m) || is_some m.fault
is_early s _ = false
