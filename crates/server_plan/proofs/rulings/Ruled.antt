-- What an event comes to, by its kind.
use Rattle.std.proofs.Common.{◌≡◌, ◌≤◌, ◌<◌, ◌||◌, ℕ, nat_le, Bool, true, false, if◌then◌else◌, length, Option, is_some}
use Rattle.std.proofs.Common.{refl, sym, ap, subst, arith, ◌∙◌}
use Rattle.std.proofs.lemmas.Bool.Decides.{nat_tests}
use Rattle.wire_commands.specs.values.Meaning.{command_of, message_of}
use Rattle.wire_commands.specs.declared.values.request.Message.{Message}
use Rattle.spec_exchange.specs.Check.{check, has_session}
use Rattle.spec_exchange.specs.Commands.{is_setup}
use Rattle.spec_exchange.specs.State as says
use Rattle.spec_exchange.specs.State.{Accept, End, Heard, Server, ServerEvent, Stop}
use Rattle.spec_exchange.specs.Step as steps
use Rattle.spec_exchange.specs.Step.{max_connections, ruling, ruling_without_room, without_room}
use Rattle.server_checks.specs.event_heard.Heard.{event_of}
use Rattle.server_checks.specs.declared.event_heard.asked.Asked.{Asked}
use Rattle.server_checks.specs.declared.event_heard.asked.Asked.TheVariants as askings
use Rattle.server_checks.specs.declared.event_heard.asked.LogonPart.{LogonPart}
use Rattle.server_effects.specs.Able.{Able}
use Rattle.law_server.specs.tables.Fits.{Fits}
use Rattle.server_plan.specs.rulings.Rulings.{AbleToRule, is_said, ruling_of}
use Rattle.server_plan.specs.declared.rulings.ruling.Ruling.{Ruling}
use Rattle.server_plan.specs.declared.rulings.ruling.Ruling.TheVariants as rulings
use Rattle.server_checks.specs.verdicts.Views.{verdict_of}
use Rattle.server_checks.specs.declared.verdicts.verdict.Verdict.{Verdict}

pub said_ruled : (s : Server) (a : Asked) (m : Message) (l : Option LogonPart) (v : Verdict) → a ≡ askings.Says m l
    → verdict_of (command_of m.command) v ≡ check s (message_of m) → ruling_of (event_of a) (rulings.Says v) ≡ ruling s (event_of a)
said_ruled s a m l v e h =
    subst (λ (b : Asked). ruling_of (event_of b) (rulings.Says v) ≡ ruling s (event_of b)) (sym e) (ap (steps.Says (message_of m)) h)

pub is_heard : (a : Asked) (m : Message) (l : Option LogonPart) → a ≡ askings.Says m l → is_said a ≡ false → ⊥
is_heard a m l e n = let k : is_said a ≡ true = ap is_said e in cc

-- the message that is heard is the one that is asked about
heard_same : (x y : says.Message) → Heard x ≡ Heard y → x ≡ y
heard_same x y e = cc

heard_message : (a : Asked) (m : Message) (l : Option LogonPart) (x : says.Message) → a ≡ askings.Says m l → event_of a ≡ Heard x
    → message_of m ≡ x
heard_message a m l x e h = heard_same (message_of m) x (sym (ap event_of e) ∙ h)

pub absent_of : (s : Server) (a : Asked) (m : Message) (l : Option LogonPart) (x : says.Message) → a ≡ askings.Says m l
    → event_of a ≡ Heard x → (is_setup x.command || has_session s x) ≡ false
    → (is_setup (command_of m.command) || has_session s (message_of m)) ≡ false
absent_of s a m l x e h n =
    subst (λ (y : says.Message). (is_setup y.command || has_session s y) ≡ false) (sym (heard_message a m l x e h)) n

pub faulty_of : (a : Asked) (m : Message) (l : Option LogonPart) (x : says.Message) → a ≡ askings.Says m l → event_of a ≡ Heard x
    → is_some x.fault ≡ true → is_some m.fault ≡ true
faulty_of a m l x e h n = subst (λ (y : says.Message). is_some y.fault ≡ true) (sym (heard_message a m l x e h)) n

pub accept_ruled : (s : Server) (a : Asked) (k : ℕ) (r : Ruling) → a ≡ askings.Accept k → ruling_of (Accept k) r ≡ ruling s (Accept k)
    → ruling_of (event_of a) r ≡ ruling s (event_of a)
accept_ruled s a k r e h = subst (λ (b : Asked). ruling_of (event_of b) r ≡ ruling s (event_of b)) (sym e) h

pub end_ruled : (s : Server) (a : Asked) (k : ℕ) → a ≡ askings.End k → ruling_of (event_of a) (rulings.TakesOut k false)
    ≡ ruling s (event_of a)
end_ruled s a k e = subst (λ (b : Asked). ruling_of (event_of b) (rulings.TakesOut k false) ≡ ruling s (event_of b)) (sym e) refl

pub stop_ruled : (s : Server) (a : Asked) → a ≡ askings.Stop → ruling_of (event_of a) (rulings.TakesAllOut false) ≡ ruling s (event_of a)
stop_ruled s a e = subst (λ (b : Asked). ruling_of (event_of b) (rulings.TakesAllOut false) ≡ ruling s (event_of b)) (sym e) refl

pub turned_away : (s : Server) (k : ℕ) → 256 ≤ length s.connections → steps.TurnsAway ≡ ruling s (Accept k)
turned_away s k h = by (nat_le max_connections (length s.connections)) (grind (arith, nat_tests))
  where
    by : (b : Bool) → b ≡ true → steps.TurnsAway ≡ (if b then steps.TurnsAway else steps.TakesIn k)
    by true e = refl
    by false e = absurd (cc)

pub taken_in : (s : Server) (k : ℕ) → length s.connections < 256 → steps.TakesIn k ≡ ruling s (Accept k)
taken_in s k h = by (nat_le max_connections (length s.connections)) (grind (arith, nat_tests))
  where
    by : (b : Bool) → b ≡ false → steps.TakesIn k ≡ (if b then steps.TurnsAway else steps.TakesIn k)
    by true e = absurd (cc)
    by false e = refl

pub said_without : (a : Asked) (m : Message) (l : Option LogonPart) (v w : Verdict) → a ≡ askings.Says m l
    → verdict_of (command_of m.command) w ≡ without_room (verdict_of (command_of m.command) v)
    → ruling_of (event_of a) (rulings.Says w) ≡ ruling_without_room (ruling_of (event_of a) (rulings.Says v))
said_without a m l v w e h =
    subst (λ (b : Asked). ruling_of (event_of b) (rulings.Says w) ≡ ruling_without_room (ruling_of (event_of b) (rulings.Says v))) (sym e)
    (ap (steps.Says (message_of m)) h)

-- of an event that is no message a verdict is none
pub unsaid_without : (a : Asked) (v : Verdict) → is_said a ≡ false
    → ruling_of (event_of a) (rulings.Says v) ≡ ruling_without_room (ruling_of (event_of a) (rulings.Says v))
unsaid_without (askings.Accept k) v h = refl
unsaid_without (askings.Says m l) v h = absurd (cc)
unsaid_without (askings.End k) v h = refl
unsaid_without askings.Stop v h = refl

pub other : (a : Asked) → ((m : Message) (l : Option LogonPart) → a ≡ askings.Says m l → ⊥) → is_said a ≡ false
other (askings.Accept k) h = refl
other (askings.Says m l) h = absurd (h m l refl)
other (askings.End k) h = refl
other askings.Stop h = refl

-- ---- what can be carried out

pub able : ((s : Server) (m : says.Message) → Fits s → Able s m (check s m)) → (s : Server) (e : ServerEvent) → Fits s
    → AbleToRule s (ruling s e)
able law s (Heard m) f = law s m f
able law s (Accept k) f = by (nat_le max_connections (length s.connections))
  where
    by : (b : Bool) → AbleToRule s (if b then steps.TurnsAway else steps.TakesIn k)
    by true = tt
    by false = tt
able law s (End k) f = tt
able law s Stop f = tt

pub able_lesser : ((s : Server) (m : says.Message) → Fits s → Able s m (without_room (check s m))) → (s : Server) (e : ServerEvent) → Fits s
    → AbleToRule s (ruling_without_room (ruling s e))
able_lesser law s (Heard m) f = law s m f
able_lesser law s (Accept k) f = by (nat_le max_connections (length s.connections))
  where
    by : (b : Bool) → AbleToRule s (ruling_without_room (if b then steps.TurnsAway else steps.TakesIn k))
    by true = tt
    by false = tt
able_lesser law s (End k) f = tt
able_lesser law s Stop f = tt
