-- A verdict on an event that is no message is none.
use Rattle.std.proofs.Common.{◌≡◌, true, false, Option, refl}
use Rattle.wire_commands.specs.declared.values.request.Message.{Message}
use Rattle.spec_exchange.specs.Step as steps
use Rattle.server_checks.specs.event_heard.Heard.{event_of}
use Rattle.server_checks.specs.declared.event_heard.asked.Asked.{Asked}
use Rattle.server_checks.specs.declared.event_heard.asked.Asked.TheVariants as askings
use Rattle.server_checks.specs.declared.event_heard.asked.LogonPart.{LogonPart}
use Rattle.server_plan.specs.rulings.Rulings.{ruling_of}
use Rattle.server_plan.specs.declared.rulings.ruling.Ruling.TheVariants as rulings
use Rattle.server_checks.specs.declared.verdicts.verdict.Verdict.{Verdict}

pub unsaid : (a : Asked) (v : Verdict) → ((m : Message) (l : Option LogonPart) → a ≡ askings.Says m l → ⊥)
    → steps.TurnsAway ≡ ruling_of (event_of a) (rulings.Says v)
unsaid (askings.Accept k) v h = refl
unsaid (askings.Says m l) v h = absurd (h m l refl)
unsaid (askings.End k) v h = refl
unsaid askings.Stop v h = refl

pub true_not : true ≡ false → ⊥
true_not h = cc
