-- Two requests of a SESSION_SETUP whose checks come to verdicts that are carried out alike have the same step.
use Rattle.std.proofs.Common.{◌≡◌, ℕ, true, false, if◌then◌else◌, List, ◌++◌, refl, ap, ◌∙◌, Option, Some, None, nat_le}
use Rattle.spec_exchange.specs.Commands.{Setup, SetupRequest}
use Rattle.spec_exchange.specs.State.{Server, Message, Heard, Answer, Record}
use Rattle.spec_exchange.specs.Opens.{drop_open, leave_open, left_file, without_gone, goes, is_kept_back}
use Rattle.spec_exchange.specs.Commands.{deletes_on_close}
use Rattle.spec_exchange.specs.Files.{set_delete_pending}
use Rattle.spec_exchange.specs.Records.{fits, origin_at}
use Rattle.spec_exchange.specs.Verdict.{Verdict}
use Rattle.spec_exchange.specs.Check.{check}
use Rattle.spec_exchange.specs.Effects.{apply}
use Rattle.spec_exchange.specs.Step.{without_room, with_deadlines, expire, add_expired_guid, expire_records}
use Rattle.spec_exchange.specs.Step.{event_answer, expiring, written_down, step, due, max_expired_guids}
use Rattle.law_server.proofs.tables.Logic.{either}
use Rattle.law_server.proofs.tables.Closing.{left_present}

-- ---- an expiry leaves sessions, and what is in the making, as they are

gone_making : (s : Server) (f : ℕ) → (without_gone s f).making ≡ s.making
gone_making s f = either (λ (t : Server). t.making ≡ s.making) (goes s f) _ _ (λ _. refl) (λ _. refl)

settled_making : (s : Server) (f : ℕ) → (left_file s f).making ≡ s.making
settled_making s f = either (λ (t : Server). t.making ≡ s.making) (is_kept_back s f) (set_delete_pending s f false) (without_gone s f)
    (λ _. refl) (λ _. gone_making s f)

left_making : (s : Server) (o : ℕ) → (leave_open s o).making ≡ s.making
left_making s o =
    either (λ (t : Server). (left_file (drop_open t o) (s.opened o).file).making ≡ s.making)
    (deletes_on_close (s.opened o).options) _ _
    (λ _. settled_making (drop_open (set_delete_pending s (s.opened o).file true) o) (s.opened o).file)
    (λ _. settled_making (drop_open s o) (s.opened o).file)

expired_present : (s : Server) (o : ℕ) → (expire s o).present ≡ s.present
expired_present s o = by (s.opened o).create_guid
  where
    by : (g : Option ℕ) → (add_expired_guid (leave_open s o) (s.opened o).client_guid g).present ≡ s.present
    by None = left_present s o
    by (Some g) = left_present s o

expired_making : (s : Server) (o : ℕ) → (expire s o).making ≡ s.making
expired_making s o = by (s.opened o).create_guid
  where
    by : (g : Option ℕ) → (add_expired_guid (leave_open s o) (s.opened o).client_guid g).making ≡ s.making
    by None = left_making s o
    by (Some g) = left_making s o

-- ---- messages and verdicts

abbrev pub said : Message → SetupRequest → Message
said m r = record m { command = Setup r }

-- two verdicts, each on its request, that are carried out alike, with room and without
pub record Agree (s : Server) (m : Message) (r1 r2 : SetupRequest) (v1 v2 : Verdict) : Type 0 where
  pub full : (now : ℕ) → apply s (said m r1) now v1 ≡ apply s (said m r2) now v2
  pub lesser : (now : ℕ) → apply s (said m r1) now (without_room v1) ≡ apply s (said m r2) now (without_room v2)

abbrev pub Alike : Server → Message → SetupRequest → SetupRequest → Type 0
Alike s m r1 r2 = Agree s m r1 r2 (check s (said m r1)) (check s (said m r2))

-- ---- the step

two : (f : Answer → Answer → Answer) (a b c d : Answer) → a ≡ b → c ≡ d → f a c ≡ f b d
two f a b c d e g = ap (λ (x : Answer). f x c) e ∙ ap (λ (y : Answer). f b y) g

same_event : (s : Server) (now : ℕ) (m : Message) (r1 r2 : SetupRequest) → Alike s m r1 r2
    → event_answer s now (Heard (said m r1)) ≡ event_answer s now (Heard (said m r2))
same_event s now m r1 r2 g =
    two (λ (A B : Answer). if fits s A.records then A else B)
    (apply s (said m r1) now (check s (said m r1))) (apply s (said m r2) now (check s (said m r2)))
    (apply s (said m r1) now (without_room (check s (said m r1)))) (apply s (said m r2) now (without_room (check s (said m r2))))
    (g.full now) (g.lesser now)

-- the answer behind an expiry whose records stand in front
abbrev behind : Server → List Record → Answer → Answer → Answer
behind s front A B = if fits s (front ++ A.records) then record A { records = front ++ A.records } else B

same_expiring : (s : Server) (now : ℕ) (m : Message) (r1 r2 : SetupRequest) → Alike s m r1 r2
    → ((o : ℕ) → Alike (expire s o) m r1 r2) → (o : Option ℕ)
    → expiring s now (Heard (said m r1)) o ≡ expiring s now (Heard (said m r2)) o
same_expiring s now m r1 r2 g h None = same_event s now m r1 r2 g
same_expiring s now m r1 r2 g h (Some o) =
    two (λ (A B : Answer). if nat_le max_expired_guids s.expired_count then A else B)
    (event_answer s now (Heard (said m r1))) (event_answer s now (Heard (said m r2)))
    (behind s (expire_records s (origin_at m.connection) o)
    (apply (expire s o) (said m r1) now (check (expire s o) (said m r1))) (event_answer s now (Heard (said m r1))))
    (behind s (expire_records s (origin_at m.connection) o)
    (apply (expire s o) (said m r2) now (check (expire s o) (said m r2))) (event_answer s now (Heard (said m r2))))
    (same_event s now m r1 r2 g)
    (two (λ (A B : Answer). behind s (expire_records s (origin_at m.connection) o) A B)
    (apply (expire s o) (said m r1) now (check (expire s o) (said m r1)))
    (apply (expire s o) (said m r2) now (check (expire s o) (said m r2)))
    (event_answer s now (Heard (said m r1))) (event_answer s now (Heard (said m r2))) ((h o).full now) (same_event s now m r1 r2 g))

pub same_step : (s : Server) (now : ℕ) (m : Message) (r1 r2 : SetupRequest)
    → ((t : Server) → t.present ≡ s.present → t.making ≡ s.making → Alike t m r1 r2)
    → step s now (Heard (said m r1)) ≡ step s now (Heard (said m r2))
same_step s now m r1 r2 alike =
    ap (λ (A : Answer). written_down A) (same_expiring (with_deadlines s now) now m r1 r2 (alike (with_deadlines s now) refl refl)
    (λ o. alike (expire (with_deadlines s now) o) (expired_present (with_deadlines s now) o)
    (expired_making (with_deadlines s now) o)) (due (with_deadlines s now) now))
