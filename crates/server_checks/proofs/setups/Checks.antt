-- The checks of a SESSION_SETUP along two requests: of a session that isn't live, and where nothing is in the making.
use Rattle.std.proofs.Common.{◌≡◌, ℕ, ◌==◌, nat_le, Bool, true, false, not, ◌&&◌, if◌then◌else◌, refl, sym, ap}
use Rattle.std.proofs.Common.{◌∙◌, Option, Some, None, is_some}
use Rattle.spec_exchange.specs.Status.{invalid_parameter}
use Rattle.spec_exchange.specs.Commands.{SetupRequest, Shows, Begins, Bad, Refused, Logon}
use Rattle.spec_exchange.specs.State.{Server, Message, Making}
use Rattle.spec_exchange.specs.Opens.{max_ids}
use Rattle.spec_exchange.specs.Verdict.{Verdict, Refuse, Challenge, ChallengeBinding}
use Rattle.spec_exchange.specs.CheckSetup.{is_new, is_binding, max_sessions, second_token}
use Rattle.spec_exchange.specs.CheckSetup.{first_token, session_check, first_binding, binding_check, setup_check}
use Rattle.spec_exchange.specs.Check.{formed, owed}
use Rattle.server_checks.proofs.setups.Same.{said, Agree, Alike}

-- a test that both requests meet
both : (s : Server) (m : Message) (r1 r2 : SetupRequest) (b : Bool) (x1 y1 x2 y2 : Verdict)
    → (b ≡ true → Agree s m r1 r2 x1 x2) → (b ≡ false → Agree s m r1 r2 y1 y2)
    → Agree s m r1 r2 (if b then x1 else y1) (if b then x2 else y2)
both s m r1 r2 true x1 y1 x2 y2 f g = f refl
both s m r1 r2 false x1 y1 x2 y2 f g = g refl

refused : (s : Server) (m : Message) (r1 r2 : SetupRequest) (status : ℕ) → Agree s m r1 r2 (Refuse status) (Refuse status)
refused s m r1 r2 status = record { full = λ now. refl; lesser = λ now. refl }

challenged : (s : Server) (m : Message) (r1 r2 : SetupRequest) → Agree s m r1 r2 Challenge Challenge
challenged s m r1 r2 = record { full = λ now. refl; lesser = λ now. refl }

challenged_binding : (s : Server) (m : Message) (r1 r2 : SetupRequest) (session : ℕ)
    → Agree s m r1 r2 (ChallengeBinding session) (ChallengeBinding session)
challenged_binding s m r1 r2 session = record { full = λ now. refl; lesser = λ now. refl }

-- check 2 and check 3 go before
formed_alike : (s : Server) (m : Message) (r1 r2 : SetupRequest) → r1.readable ≡ r2.readable
    → Agree s m r1 r2 (setup_check s (said m r1) r1) (setup_check s (said m r2) r2) → Alike s m r1 r2
formed_alike s m r1 r2 same g = fault m.fault
  where
    form : (b c : Bool) → b ≡ c → Agree s m r1 r2 (formed s (said m r1) (if b then None else Some invalid_parameter))
        (formed s (said m r2) (if c then None else Some invalid_parameter))
    form true true e = g
    form false false e = refused s m r1 r2 invalid_parameter
    form true false e = absurd (cc)
    form false true e = absurd (cc)

    fault : (f : Option ℕ) → Agree s m r1 r2 (owed s (said m r1) f) (owed s (said m r2) f)
    fault None = form r1.readable r2.readable same
    fault (Some status) = refused s m r1 r2 status

-- ---- a session that isn't live

abbrev pub verifying : SetupRequest → Bool → SetupRequest
verifying r verified = record r { verified = verified }

abbrev pub showing : SetupRequest → Shows → SetupRequest
showing r h = record r { shows = h }

first_same : (s : Server) (m : Message) (r1 r2 : SetupRequest) (h : Shows) → Agree s m r1 r2 (first_token s h) (first_token s h)
first_same s m r1 r2 Begins = both s m r1 r2 (nat_le max_ids s.session_ids_given) _ _ _ _ (λ _. refused s m r1 r2 _)
    (λ _. challenged s m r1 r2)
first_same s m r1 r2 Bad = refused s m r1 r2 _
first_same s m r1 r2 Refused = refused s m r1 r2 _
first_same s m r1 r2 (Logon user) = refused s m r1 r2 _

second_same : (s : Server) (m : Message) (r : SetupRequest) (verified : Bool) (h : Shows)
    → Agree s m (record r { verified = verified }) r (second_token s (said m (record r { verified = verified }))
    (record r { verified = verified }) h) (second_token s (said m r) r h)
second_same s m r verified Begins = refused s m (record r { verified = verified }) r _
second_same s m r verified Bad = refused s m (record r { verified = verified }) r _
second_same s m r verified Refused = refused s m (record r { verified = verified }) r _
second_same s m r verified (Logon user) =
    both s m (record r { verified = verified }) r (s.encrypts && (r.cipher == 0)) _ _ _ _ (λ _. refused s m (record r {
      verified = verified;
    }) r _)
    (λ _. both s m (record r { verified = verified }) r (nat_le max_sessions s.sessions) _ _ _ _
    (λ _. refused s m (record r { verified = verified }) r _)
    (λ _. record { full = λ now. refl; lesser = λ now. refl }))

pub absent_alike : (s : Server) (m : Message) (r : SetupRequest) (verified : Bool) → s.present m.session_id ≡ false
    → Alike s m (record r { verified = verified }) r
absent_alike s m r verified absent = formed_alike s m (verifying r verified) r refl
    (both s m (verifying r verified) r r.binding _ _ _ _ (λ _. binding) (λ _. session))
  where
    no_one : s.present m.session_id ≡ true → ⊥
    no_one e = absurd (let f = sym absent ∙ e in cc)

    binding : Agree s m (verifying r verified) r (binding_check s (said m (verifying r verified))
        (verifying r verified)) (binding_check s (said m r) r)
    binding =
        both s m (verifying r verified) r (s.present m.session_id) _ _ _ _ (λ e. absurd (no_one e))
        (λ _. both s m (verifying r verified) r (not (is_new m.session_id (s.making m.connection))) _ _ _ _
        (λ _. refused s m (verifying r verified) r _)
        (λ _. both s m (verifying r verified) r (not r.signed) _ _ _ _ (λ _. refused s m (verifying r verified) r _)
        (λ _. refused s m (verifying r verified) r _)))

    session : Agree s m (verifying r verified) r (session_check s (said m (verifying r verified))
        (verifying r verified)) (session_check s (said m r) r)
    session =
        both s m (verifying r verified) r (m.session_id == 0) _ _ _ _
        (λ _. both s m (verifying r verified) r (is_some (s.session_on m.connection)) _ _ _ _
        (λ _. refused s m (verifying r verified) r _) (λ _. first_same s m (verifying r verified) r r.shows))
        (λ _. both s m (verifying r verified) r (s.present m.session_id) _ _ _ _ (λ _. refused s m (verifying r verified) r _)
        (λ _. both s m (verifying r verified) r (is_new m.session_id (s.making m.connection)) _ _ _ _
        (λ _. second_same s m r verified r.shows) (λ _. refused s m (verifying r verified) r _)))

-- ---- where nothing is in the making

-- a token shows a first one to both, or neither
abbrev pub Unmade : Shows → Shows → Type 0
Unmade Begins Begins = Unit {0}
Unmade Bad Bad = Unit {0}
Unmade Bad Refused = Unit {0}
Unmade Bad (Logon user) = Unit {0}
Unmade _ _ = ⊥

first_unmade : (s : Server) (m : Message) (r1 r2 : SetupRequest) (h k : Shows) → Unmade h k
    → Agree s m r1 r2 (first_token s h) (first_token s k)
first_unmade s m r1 r2 Begins Begins u = first_same s m r1 r2 Begins
first_unmade s m r1 r2 Bad Bad u = refused s m r1 r2 _
first_unmade s m r1 r2 Bad Refused u = refused s m r1 r2 _
first_unmade s m r1 r2 Bad (Logon user) u = refused s m r1 r2 _
first_unmade s m r1 r2 Begins Bad u = absurd u
first_unmade s m r1 r2 Begins Refused u = absurd u
first_unmade s m r1 r2 Begins (Logon user) u = absurd u
first_unmade s m r1 r2 Bad Begins u = absurd u
first_unmade s m r1 r2 Refused k u = absurd u
first_unmade s m r1 r2 (Logon name) k u = absurd u

binding_unmade : (s : Server) (m : Message) (r1 r2 : SetupRequest) (h k : Shows) → Unmade h k
    → Agree s m r1 r2 (first_binding (said m r1) h) (first_binding (said m r2) k)
binding_unmade s m r1 r2 Begins Begins u = challenged_binding s m r1 r2 m.session_id
binding_unmade s m r1 r2 Bad Bad u = refused s m r1 r2 _
binding_unmade s m r1 r2 Bad Refused u = refused s m r1 r2 _
binding_unmade s m r1 r2 Bad (Logon user) u = refused s m r1 r2 _
binding_unmade s m r1 r2 Begins Bad u = absurd u
binding_unmade s m r1 r2 Begins Refused u = absurd u
binding_unmade s m r1 r2 Begins (Logon user) u = absurd u
binding_unmade s m r1 r2 Bad Begins u = absurd u
binding_unmade s m r1 r2 Refused k u = absurd u
binding_unmade s m r1 r2 (Logon name) k u = absurd u

pub unmade_alike : (s : Server) (m : Message) (r : SetupRequest) (h : Shows) → s.making m.connection ≡ None
    → Unmade h r.shows → Alike s m (record r { shows = h }) r
unmade_alike s m r h none u = formed_alike s m (showing r h) r refl (both s m (showing r h) r r.binding _ _ _ _
    (λ _. binding) (λ _. session))
  where
    not_new : is_new m.session_id (s.making m.connection) ≡ true → ⊥
    not_new e = absurd (let f = sym (ap (λ (v : Option Making). is_new m.session_id v) none) ∙ e in cc)

    not_binding : is_binding m.session_id (s.making m.connection) ≡ true → ⊥
    not_binding e = absurd (let f = sym (ap (λ (v : Option Making). is_binding m.session_id v) none) ∙ e in cc)

    binding : Agree s m (showing r h) r (binding_check s (said m (showing r h)) (showing r h)) (binding_check s (said m r) r)
    binding =
        both s m (showing r h) r (s.present m.session_id) _ _ _ _
        (λ _. both s m (showing r h) r (not r.signed) _ _ _ _ (λ _. refused s m (showing r h) r _)
        (λ _. both s m (showing r h) r (not (m.client_guid == s.client m.session_id)) _ _ _ _ (λ _. refused s m (showing r h) r _)
        (λ _. both s m (showing r h) r
        (not ((r.cipher == s.cipher m.session_id) && (r.signing == s.signing m.session_id))) _ _ _ _
        (λ _. refused s m (showing r h) r _)
        (λ _. both s m (showing r h) r (is_some (s.session_on m.connection)) _ _ _ _ (λ _. refused s m (showing r h) r _)
        (λ _. both s m (showing r h) r (not r.verified) _ _ _ _ (λ _. refused s m (showing r h) r _)
        (λ _. both s m (showing r h) r (is_binding m.session_id (s.making m.connection)) _ _ _ _
        (λ e. absurd (not_binding e)) (λ _. binding_unmade s m (showing r h) r h r.shows u)))))))
        (λ _. both s m (showing r h) r (not (is_new m.session_id (s.making m.connection))) _ _ _ _ (λ _. refused s m (showing r h) r _)
        (λ _. both s m (showing r h) r (not r.signed) _ _ _ _ (λ _. refused s m (showing r h) r _) (λ _. refused s m (showing r h) r _)))

    session : Agree s m (showing r h) r (session_check s (said m (showing r h)) (showing r h)) (session_check s (said m r) r)
    session =
        both s m (showing r h) r (m.session_id == 0) _ _ _ _
        (λ _. both s m (showing r h) r (is_some (s.session_on m.connection)) _ _ _ _
        (λ _. refused s m (showing r h) r _) (λ _. first_unmade s m (showing r h) r h r.shows u))
        (λ _. both s m (showing r h) r (s.present m.session_id) _ _ _ _ (λ _. refused s m (showing r h) r _)
        (λ _. both s m (showing r h) r (is_new m.session_id (s.making m.connection)) _ _ _ _ (λ e. absurd (not_new e))
        (λ _. refused s m (showing r h) r _)))
