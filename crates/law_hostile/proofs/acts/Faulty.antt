-- A message with a fault is refused before its command is looked at.
use Rattle.std.proofs.Common.{◌≡◌, ℕ, true, false, ◌||◌, inl, inr, refl, sym, subst}
use Rattle.std.proofs.Common.{Option, Some, None}
use Rattle.std.specs.Prelude.{is_some}
use Rattle.spec_exchange.specs.Status.{user_session_deleted}
use Rattle.spec_exchange.specs.Commands.{is_setup}
use Rattle.spec_exchange.specs.State.{Server, Message, Heard}
use Rattle.spec_exchange.specs.Verdict.{Verdict, Refuse}
use Rattle.spec_exchange.specs.Check.{check, owed, has_session}
use Rattle.spec_exchange.specs.Step.{Ruling, Says, ruling_without_room, carried_out}
use Rattle.law_server.proofs.tables.Logic.{either}
use Rattle.law_server.proofs.tables.Doors.{by_ruling, Rules}
use Rattle.law_hostile.specs.acts.Acting.{FaultyActsNot}

-- it is refused with some status
abbrev pub IsRefused : Verdict → Type 0
IsRefused v = (status : ℕ) × (v ≡ Refuse status)

owed_refuses : (s : Server) (m : Message) (o : Option ℕ) → is_some o ≡ true → IsRefused (owed s m o)
owed_refuses s m (Some status) e = (status, refl)
owed_refuses s m None e = absurd (let q : false ≡ true = e in cc)

pub check_refuses : (s : Server) (m : Message) → is_some m.fault ≡ true → IsRefused (check s m)
check_refuses s m e =
    either IsRefused (is_setup m.command || has_session s m) (owed s m m.fault) (Refuse user_session_deleted)
    (λ _. owed_refuses s m m.fault e) (λ _. (user_session_deleted, refl))

says_nothing : (t : Server) (now : ℕ) (m : Message) (v : Verdict) → IsRefused v → (carried_out t now (Says m v)).acted ≡ false
says_nothing t now m v h = subst (λ w. (carried_out t now (Says m w)).acted ≡ false) (sym h.1) refl

says_nothing_full : (t : Server) (now : ℕ) (m : Message) (v : Verdict) → IsRefused v
    → (carried_out t now (ruling_without_room (Says m v))).acted ≡ false
says_nothing_full t now m v h = subst (λ w. (carried_out t now (ruling_without_room (Says m w))).acted ≡ false) (sym h.1) refl

ruled : (t : Server) (now : ℕ) (m : Message) (r : Ruling) → is_some m.fault ≡ true → Rules t (Heard m) r
    → (carried_out t now r).acted ≡ false
ruled t now m r e (inl q) =
    subst (λ x. (carried_out t now x).acted ≡ false) (sym q) (says_nothing t now m (check t m) (check_refuses t m e))
ruled t now m r e (inr q) =
    subst (λ x. (carried_out t now x).acted ≡ false) (sym q) (says_nothing_full t now m (check t m) (check_refuses t m e))

pub faulty_acts_not : FaultyActsNot
faulty_acts_not s now m e =
    by_ruling (λ A. A.acted ≡ false) s now (Heard m) (λ t front r at rules. ruled t now m r e rules)
