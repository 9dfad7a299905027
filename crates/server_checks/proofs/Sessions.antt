-- The session of a request.
use Rattle.std.proofs.Common.{◌≡◌, ℕ, ◌==◌, nat_le, List, Bool, true, false, ◌&&◌, ◌||◌, if◌then◌else◌, None, refl, sym, ap}
use Rattle.spec_exchange.specs.Check.{check, has_session, owed}
use Rattle.spec_exchange.specs.CheckSetup.{binding_check, granted_session, live_binding, max_sessions, previous_of}
use Rattle.spec_exchange.specs.Commands.{is_setup, SetupRequest}
use Rattle.spec_exchange.specs.State.{Server, Message}
use Rattle.spec_exchange.specs.Status.{access_denied, insufficient_resources, user_session_deleted}
use Rattle.spec_exchange.specs.Verdict.{Verdict, Begin, Refuse}
use Rattle.law_server.proofs.tables.Logic.{at_of}
use Rattle.law_server.specs.tables.Fits.{Fits}
use Rattle.server_checks.specs.declared.session_table.row.Purpose.{Purpose}
use Rattle.server_checks.specs.declared.session_table.row.Purpose.TheVariants.{New, Binding}
use Rattle.server_checks.proofs.Passed.{else_is, then_is}
use Rattle.server_checks.specs.Looks.{HasItsSession, is_made_for}

pub lives : (s : Server) (m : Message) → Fits s → has_session s m ≡ true → HasItsSession s m
lives s m f e none = f.on_present m.connection m.session_id (at_of m.session_id (s.session_on m.connection) e)

pub set_up : (s : Server) (m : Message) → is_setup m.command ≡ true → HasItsSession s m
set_up s m e none = absurd (cc)

chosen : (u w : Verdict) (a b : Bool) → a ≡ true → u ≡ (if a || b then u else w)
chosen u w a b e = ap (λ (z : Bool). if z || b then u else w) (sym e)

chosen_last : (u w : Verdict) (a b : Bool) → b ≡ true → u ≡ (if a || b then u else w)
chosen_last u w true b e = refl
chosen_last u w false b e = ap (λ (z : Bool). if z then u else w) (sym e)

chosen_none : (u w : Verdict) (a b : Bool) → a ≡ false → b ≡ false → w ≡ (if a || b then u else w)
chosen_none u w true b e g = absurd (cc)
chosen_none u w false b e g = ap (λ (z : Bool). if z then u else w) (sym g)

pub owed_by_setup : (s : Server) (m : Message) → is_setup m.command ≡ true → owed s m m.fault ≡ check s m
owed_by_setup s m e = chosen (owed s m m.fault) (Refuse user_session_deleted) (is_setup m.command) (has_session s m) e

pub owed_by_session : (s : Server) (m : Message) → has_session s m ≡ true → owed s m m.fault ≡ check s m
owed_by_session s m e = chosen_last (owed s m m.fault) (Refuse user_session_deleted) (is_setup m.command) (has_session s m) e

pub refused_without : (s : Server) (m : Message) → is_setup m.command ≡ false → has_session s m ≡ false
    → Refuse user_session_deleted ≡ check s m
refused_without s m e g = chosen_none (owed s m m.fault) (Refuse user_session_deleted) (is_setup m.command) (has_session s m) e g

-- nothing is in the making
pub not_made : (p : Purpose) → false ≡ is_made_for p None
not_made (New session) = refl
not_made (Binding session) = refl

pub live_is : (s : Server) (m : Message) (r : SetupRequest) → s.present m.session_id ≡ true → live_binding s m r ≡ binding_check s m r
live_is s m r e = rw e refl

-- ---- a session that is granted

pub no_cipher : (s : Server) (m : Message) (r : SetupRequest) (user : List ℕ) → (s.encrypts && (r.cipher == 0)) ≡ true
    → Refuse access_denied ≡ granted_session s m r user
no_cipher s m r user e = then_is (s.encrypts && (r.cipher == 0)) (Refuse access_denied)
    (if nat_le max_sessions s.sessions then Refuse insufficient_resources
    else Begin m.session_id user (previous_of s user r.previous) r false) e

pub ciphered : (s : Server) (m : Message) (r : SetupRequest) (user : List ℕ) → (s.encrypts && (r.cipher == 0)) ≡ false
    → (if nat_le max_sessions s.sessions then Refuse insufficient_resources
    else Begin m.session_id user (previous_of s user r.previous) r false) ≡ granted_session s m r user
ciphered s m r user e = else_is (s.encrypts && (r.cipher == 0)) (Refuse access_denied)
    (if nat_le max_sessions s.sessions then Refuse insufficient_resources
    else Begin m.session_id user (previous_of s user r.previous) r false) e
