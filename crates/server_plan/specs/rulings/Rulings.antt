-- Rulings of the code as the model's, and what they lean on.
use Rattle.std.specs.Prelude.{Bool, true, false, ⊤}
use Rattle.spec_exchange.specs.State as says
use Rattle.spec_exchange.specs.Step as steps
use Rattle.server_checks.specs.declared.event_heard.asked.Asked.{Asked}
use Rattle.server_checks.specs.declared.event_heard.asked.Asked.TheVariants as askings
use Rattle.server_effects.specs.Able.{Able}
use Rattle.server_checks.specs.verdicts.Views.{verdict_of}
use Rattle.server_checks.specs.declared.verdicts.verdict.Verdict.{Verdict}
use Rattle.server_plan.specs.declared.rulings.ruling.Ruling.{Ruling}
use Rattle.server_plan.specs.declared.rulings.ruling.Ruling.TheVariants as rulings

-- a verdict is on the event's message
abbrev pub says_of : says.ServerEvent → Verdict → steps.Ruling
says_of (says.Heard m) v = steps.Says m (verdict_of m.command v)
says_of _ v = steps.TurnsAway

abbrev pub ruling_of : says.ServerEvent → Ruling → steps.Ruling
ruling_of e (rulings.Says verdict) = says_of e verdict
ruling_of e (rulings.TakesIn connection) = steps.TakesIn connection
ruling_of e rulings.TurnsAway = steps.TurnsAway
ruling_of e (rulings.TakesOut connection quiet) = steps.TakesOut connection quiet
ruling_of e (rulings.TakesAllOut quiet) = steps.TakesAllOut quiet

-- the event is a message
abbrev pub is_said : Asked → Bool
is_said (askings.Says message logon) = true
is_said _ = false

-- it can be carried out
abbrev pub AbleToRule : says.Server → steps.Ruling → Type 0
AbleToRule s (steps.Says m v) = Able s m v
AbleToRule s _ = ⊤
