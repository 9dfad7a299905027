-- A step of a logon that was made ready of an event (MS-SMB2 3.3.5.5.3).
use Rattle.std.specs.Prelude.{ℕ, ⊤}
use Rattle.server_checks.specs.declared.event_heard.asked.Asked.{Asked}
use Rattle.server_checks.specs.declared.event_heard.asked.Asked.TheVariants as askings
use Rattle.server_effects.specs.declared.prepared_event.prepared.Prepared.{Prepared}
use Rattle.server_effects.specs.declared.prepared_event.prepared.Prepared.TheVariants as prepared
use Rattle.server_effects.specs.declared.reserved.ready.Ready.{Ready}
use Rattle.server_plan.specs.reserving.Logons.{ReadyStep}
use Rattle.spec_world.specs.Ends.{Logons}

-- a step of a logon has its token, and its challenge or keys
abbrev pub StepOn : Logons → Asked → ℕ → Ready → Type 0
StepOn L (askings.Says message logon) now r = ReadyStep L.keys L.pending message.connection logon now r
StepOn L _ now r = ⊤

abbrev pub PreparedStep : Logons → Asked → ℕ → Prepared → Type 0
PreparedStep L a now (prepared.Says ready) = StepOn L a now ready
PreparedStep L a now _ = ⊤
