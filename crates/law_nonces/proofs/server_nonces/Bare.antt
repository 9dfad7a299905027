-- A session begins by a SESSION_SETUP that doesn't bind.
use Rattle.std.proofs.Common.{◌≡◌, ℕ, ◌==◌, nat_le, false, not, ◌&&◌, ◌||◌, List, inl, inr}
use Rattle.std.proofs.Common.{sym, subst, Option, Some, None, is_some}
use Rattle.spec_exchange.specs.Commands.{Setup, SetupRequest, Shows, Begins, Bad, Refused, Logon, form, is_setup}
use Rattle.spec_exchange.specs.State.{Server, Message}
use Rattle.spec_exchange.specs.Texts.{same_name}
use Rattle.spec_exchange.specs.Opens.{max_ids}
use Rattle.spec_exchange.specs.Verdict.{Verdict, Refuse, Give, KeepRefusal, Repeat, Attach, Make, TurnDown, Tell, Show, KeepSlot, PutRanges}
use Rattle.spec_exchange.specs.Verdict.{Alter, CloseOpen, Challenge, ChallengeBinding, Begin, Join, EndSession, AddTree, DropTree}
use Rattle.spec_exchange.specs.Check.{check, has_session, owed, formed, command_check}
use Rattle.spec_exchange.specs.CheckSetup.{setup_check, session_check, binding_check, live_binding, second_binding, first_binding}
use Rattle.spec_exchange.specs.CheckSetup.{granted_binding, second_token, first_token, granted_session, is_new, is_binding, count_channels}
use Rattle.spec_exchange.specs.CheckSetup.{max_sessions, max_channels, max_numbers}
use Rattle.spec_exchange.specs.Step.{without_room}
use Rattle.law_server.proofs.tables.Logic.{either}
use Rattle.law_server.proofs.tables.Doors.{Finds}
use Rattle.law_nonces.proofs.negotiation.Making.{SetupKind}

abbrev pub IsBare : Verdict → Type 0
IsBare (Begin session user previous r is_quiet) = r.binding ≡ false
IsBare _ = Unit {0}

granted_bare : (s : Server) (m : Message) (r : SetupRequest) (user : List ℕ) → r.binding ≡ false → IsBare (granted_session s m r user)
granted_bare s m r user off =
    either IsBare (s.encrypts && (r.cipher == 0)) _ _ (λ _. tt)
    (λ _. either IsBare (nat_le max_sessions s.sessions) _ _ (λ _. tt) (λ _. off))

second_bare : (s : Server) (m : Message) (r : SetupRequest) (h : Shows) → r.binding ≡ false → IsBare (second_token s m r h)
second_bare s m r Begins off = tt
second_bare s m r Bad off = tt
second_bare s m r Refused off = tt
second_bare s m r (Logon user) off = granted_bare s m r user off

first_bare : (s : Server) (h : Shows) → IsBare (first_token s h)
first_bare s Begins = either IsBare (nat_le max_ids s.session_ids_given) _ _ (λ _. tt) (λ _. tt)
first_bare s Bad = tt
first_bare s Refused = tt
first_bare s (Logon user) = tt

session_bare : (s : Server) (m : Message) (r : SetupRequest) → r.binding ≡ false → IsBare (session_check s m r)
session_bare s m r off =
    either IsBare (m.session_id == 0) _ _
    (λ _. either IsBare (is_some (s.session_on m.connection)) _ _ (λ _. tt) (λ _. first_bare s r.shows))
    (λ _. either IsBare (s.present m.session_id) _ _ (λ _. tt)
    (λ _. either IsBare (is_new m.session_id (s.making m.connection)) _ _ (λ _. second_bare s m r r.shows off) (λ _. tt)))

granted_binding_bare : (s : Server) (m : Message) (user : List ℕ) → IsBare (granted_binding s m user)
granted_binding_bare s m user =
    either IsBare (not (same_name user (s.user m.session_id))) _ _ (λ _. tt)
    (λ _. either IsBare (nat_le max_channels (count_channels s.session_on s.connections m.session_id)) _ _ (λ _. tt)
    (λ _. either IsBare (nat_le max_numbers (s.channel_numbers_drawn m.session_id)) _ _ (λ _. tt) (λ _. tt)))

second_binding_bare : (s : Server) (m : Message) (h : Shows) → IsBare (second_binding s m h)
second_binding_bare s m Begins = tt
second_binding_bare s m Bad = tt
second_binding_bare s m Refused = tt
second_binding_bare s m (Logon user) = granted_binding_bare s m user

first_binding_bare : (m : Message) (h : Shows) → IsBare (first_binding m h)
first_binding_bare m Begins = tt
first_binding_bare m Bad = tt
first_binding_bare m Refused = tt
first_binding_bare m (Logon user) = tt

live_bare : (s : Server) (m : Message) (r : SetupRequest) → IsBare (live_binding s m r)
live_bare s m r =
    either IsBare (not r.signed) _ _ (λ _. tt)
    (λ _. either IsBare (not (m.client_guid == s.client m.session_id)) _ _ (λ _. tt)
    (λ _. either IsBare (not ((r.cipher == s.cipher m.session_id) && (r.signing == s.signing m.session_id))) _ _ (λ _. tt)
    (λ _. either IsBare (is_some (s.session_on m.connection)) _ _ (λ _. tt)
    (λ _. either IsBare (not r.verified) _ _ (λ _. tt)
    (λ _. either IsBare (is_binding m.session_id (s.making m.connection)) _ _ (λ _. second_binding_bare s m r.shows)
    (λ _. first_binding_bare m r.shows))))))

binding_bare : (s : Server) (m : Message) (r : SetupRequest) → IsBare (binding_check s m r)
binding_bare s m r =
    either IsBare (s.present m.session_id) _ _ (λ _. live_bare s m r)
    (λ _. either IsBare (not (is_new m.session_id (s.making m.connection))) _ _ (λ _. tt)
    (λ _. either IsBare (not r.signed) _ _ (λ _. tt) (λ _. tt)))

setup_bare : (s : Server) (m : Message) (r : SetupRequest) → IsBare (setup_check s m r)
setup_bare s m r = either IsBare r.binding _ _ (λ _. binding_bare s m r) (λ off. session_bare s m r off)

formed_bare : (s : Server) (m : Message) (r : SetupRequest) → m.command ≡ Setup r → (o : Option ℕ) → IsBare (formed s m o)
formed_bare s m r e (Some status) = tt
formed_bare s m r e None = subst (λ c. IsBare (command_check s m c)) (sym e) (setup_bare s m r)

owed_bare : (s : Server) (m : Message) (r : SetupRequest) → m.command ≡ Setup r → (o : Option ℕ) → IsBare (owed s m o)
owed_bare s m r e (Some status) = tt
owed_bare s m r e None = formed_bare s m r e (form m.command)

check_bare : (s : Server) (m : Message) (r : SetupRequest) → m.command ≡ Setup r → IsBare (check s m)
check_bare s m r e =
    either IsBare (is_setup m.command || has_session s m) _ _ (λ _. owed_bare s m r e m.fault) (λ _. tt)

lesser_bare : (s : Server) (m : Message) (v : Verdict) → SetupKind s m v → IsBare v → IsBare (without_room v)
lesser_bare s m (Refuse status) k b = tt
lesser_bare s m Challenge k b = tt
lesser_bare s m (ChallengeBinding session) k b = tt
lesser_bare s m (Begin session user previous r is_quiet) k b = b
lesser_bare s m (Join session) k b = tt
lesser_bare s m (Give body) k b = absurd k
lesser_bare s m (KeepRefusal guid status) k b = absurd k
lesser_bare s m (Repeat o r) k b = absurd k
lesser_bare s m (Attach o r) k b = absurd k
lesser_bare s m (Make r found action) k b = absurd k
lesser_bare s m (TurnDown o status) k b = absurd k
lesser_bare s m (Tell o body) k b = absurd k
lesser_bare s m (Show o last body) k b = absurd k
lesser_bare s m (KeepSlot o index number status elements) k b = absurd k
lesser_bare s m (PutRanges o index number ranges elements) k b = absurd k
lesser_bare s m (Alter o change body) k b = absurd k
lesser_bare s m (CloseOpen o body) k b = absurd k
lesser_bare s m (EndSession session is_quiet) k b = absurd k
lesser_bare s m (AddTree pipes) k b = absurd k
lesser_bare s m DropTree k b = absurd k

pub found_bare : (t : Server) (m : Message) (v : Verdict) (r : SetupRequest) → m.command ≡ Setup r → SetupKind t m (check t m)
    → Finds t m v → IsBare v
found_bare t m v r e kind (inl q) = subst IsBare (sym q) (check_bare t m r e)
found_bare t m v r e kind (inr q) = subst IsBare (sym q) (lesser_bare t m (check t m) kind (check_bare t m r e))
