-- What a reply says of a logon, along the checks of a SESSION_SETUP.
use Rattle.std.proofs.Common.{◌≡◌, ℕ, ◌==◌, nat_le, Bool, true, false, not, ◌&&◌, ◌||◌, if◌then◌else◌, List}
use Rattle.std.proofs.Common.{length, Option, Some, None, is_some, inl, inr, refl, sym, ap, subst, ◌∙◌}
use Rattle.spec_exchange.specs.Texts.{same_name}
use Rattle.spec_exchange.specs.Status.{access_denied, insufficient_resources, invalid_parameter, logon_failure}
use Rattle.spec_exchange.specs.Status.{more_processing_required, request_not_accepted, success, user_session_deleted}
use Rattle.spec_exchange.specs.Commands.{Command, Setup, SetupRequest, Shows, Begins, Bad, Refused, Logon, form, is_setup}
use Rattle.spec_exchange.specs.State.{Server, Message, ServerEvent, Accept, Heard, End, Stop, Reply}
use Rattle.spec_exchange.specs.Opens.{max_ids}
use Rattle.spec_exchange.specs.CheckSetup.{is_new, is_binding, granted_session, second_token, first_token, session_check}
use Rattle.spec_exchange.specs.CheckSetup.{granted_binding, second_binding, first_binding, binding_check, setup_check}
use Rattle.spec_exchange.specs.CheckSetup.{binding_token, live_binding, previous_of}
use Rattle.spec_exchange.specs.CheckSetup.{count_channels, max_channels, max_numbers, max_sessions}
use Rattle.spec_exchange.specs.Check.{check, owed, formed, command_check, has_session}
use Rattle.spec_exchange.specs.Effects.{apply}
use Rattle.spec_exchange.specs.Verdict.{Verdict, Refuse, Challenge, ChallengeBinding, Begin, Join}
use Rattle.spec_exchange.specs.Step.{TakesIn, TurnsAway, carried_out, max_connections, ruling, ruling_without_room, step, with_deadlines, without_room}
use Rattle.spec_world.specs.Logon.{Stays, Interim, Final, progress, setup_progress}
use Rattle.server_checks.specs.setups.Setups.{progress_of, unless_fault}
use Rattle.law_server.proofs.tables.Logic.{either, front_off}
use Rattle.law_server.proofs.tables.Doors.{Before, Finds, by_verdict}
use Rattle.law_server.proofs.tables.Found.{Facts}
use Rattle.law_server.proofs.tables.Checked.{checked}
use Rattle.server_core.specs.logon_progress.Progress.{ruled_progress, verdict_progress}
use Rattle.server_core.proofs.event_step.Said.{same_present}

-- ---- a SESSION_SETUP whose body reads

-- the reply to a verdict says of the logon what the verdict does, with room for records and without
record Tells (s : Server) (m : Message) (now : ℕ) (binding : Bool) (v : Verdict) : Type 0 where
  told : setup_progress binding (apply s m now v).reply ≡ verdict_progress s v
  lesser : setup_progress binding (apply s m now (without_room v)).reply ≡ verdict_progress s v
  -- the same sessions are live, where nothing comes of it
  kept : verdict_progress s v ≡ Stays → (apply s m now v).server.present ≡ s.present
  kept_lesser : verdict_progress s v ≡ Stays → (apply s m now (without_room v)).server.present ≡ s.present

-- where it is refused, by a status that is neither a success nor asks for more
stays_by : (x y b encrypts : Bool) (n : ℕ) → x ≡ false → y ≡ false
    → (if x then Interim b else if y then Final b n encrypts else Stays) ≡ Stays
stays_by true y b encrypts n e h = absurd (cc)
stays_by false true b encrypts n e h = absurd (cc)
stays_by false false b encrypts n e h = refl

off : (s : Server) (m : Message) (now : ℕ) (b : Bool) (status : ℕ) → (status == more_processing_required) ≡ false
    → (status == success) ≡ false → Tells s m now b (Refuse status)
off s m now b status p q =
    let e = stays_by (status == more_processing_required) (status == success) b false 0 p q in
    record { told = e; lesser = e; kept = λ h. refl; kept_lesser = λ h. refl }

begins : (s : Server) (m : Message) (now x : ℕ) (user : List ℕ) (previous : Option ℕ) (r : SetupRequest) (q : Bool)
    → Tells s m now false (Begin x user previous r q)
begins s m now x user previous r q = record { told = refl; lesser = refl; kept = λ h. absurd (cc); kept_lesser = λ h. absurd (cc) }

challenges : (s : Server) (m : Message) (now : ℕ) → Tells s m now false Challenge
challenges s m now = record { told = refl; lesser = refl; kept = λ h. absurd (cc); kept_lesser = λ h. absurd (cc) }

challenges_binding : (s : Server) (m : Message) (now x : ℕ) → Tells s m now true (ChallengeBinding x)
challenges_binding s m now x = record { told = refl; lesser = refl; kept = λ h. absurd (cc); kept_lesser = λ h. absurd (cc) }

joins : (s : Server) (m : Message) (now x : ℕ) → Tells s m now true (Join x)
joins s m now x = record { told = refl; lesser = refl; kept = λ h. absurd (cc); kept_lesser = λ h. absurd (cc) }

granted : (s : Server) (m : Message) (now : ℕ) (r : SetupRequest) (user : List ℕ) → Tells s m now false (granted_session s m r user)
granted s m now r user =
    either (λ v. Tells s m now false v) (s.encrypts && (r.cipher == 0)) _ _ (λ _. off s m now false access_denied refl refl)
    (λ _. either (λ v. Tells s m now false v) (nat_le max_sessions s.sessions) _ _
    (λ _. off s m now false insufficient_resources refl refl)
    (λ _. begins s m now m.session_id user (previous_of s user r.previous) r false))

second : (s : Server) (m : Message) (now : ℕ) (r : SetupRequest) (h : Shows) → Tells s m now false (second_token s m r h)
second s m now r Begins = off s m now false invalid_parameter refl refl
second s m now r Bad = off s m now false invalid_parameter refl refl
second s m now r Refused = off s m now false logon_failure refl refl
second s m now r (Logon user) = granted s m now r user

first : (s : Server) (m : Message) (now : ℕ) (h : Shows) → Tells s m now false (first_token s h)
first s m now Begins =
    either (λ v. Tells s m now false v) (nat_le max_ids s.session_ids_given) _ _
    (λ _. off s m now false insufficient_resources refl refl) (λ _. challenges s m now)
first s m now Bad = off s m now false invalid_parameter refl refl
first s m now Refused = off s m now false invalid_parameter refl refl
first s m now (Logon user) = off s m now false invalid_parameter refl refl

in_session : (s : Server) (m : Message) (now : ℕ) (r : SetupRequest) → Tells s m now false (session_check s m r)
in_session s m now r =
    either (λ v. Tells s m now false v) (m.session_id == 0) _ _
    (λ _. either (λ v. Tells s m now false v) (is_some (s.session_on m.connection)) _ _
    (λ _. off s m now false request_not_accepted refl refl) (λ _. first s m now r.shows))
    (λ _. either (λ v. Tells s m now false v) (s.present m.session_id) _ _ (λ _. off s m now false request_not_accepted refl refl)
    (λ _. either (λ v. Tells s m now false v) (is_new m.session_id (s.making m.connection)) _ _
    (λ _. second s m now r r.shows) (λ _. off s m now false user_session_deleted refl refl)))

joined : (s : Server) (m : Message) (now : ℕ) (user : List ℕ) → Tells s m now true (granted_binding s m user)
joined s m now user =
    either (λ v. Tells s m now true v) (not (same_name user (s.user m.session_id))) _ _ (λ _. off s m now true access_denied refl refl)
    (λ _. either (λ v. Tells s m now true v) (nat_le max_channels (count_channels s.session_on s.connections m.session_id)) _ _
    (λ _. off s m now true insufficient_resources refl refl)
    (λ _. either (λ v. Tells s m now true v) (nat_le max_numbers (s.channel_numbers_drawn m.session_id)) _ _
    (λ _. off s m now true insufficient_resources refl refl) (λ _. joins s m now m.session_id)))

second_bound : (s : Server) (m : Message) (now : ℕ) (h : Shows) → Tells s m now true (second_binding s m h)
second_bound s m now Begins = challenges_binding s m now m.session_id
second_bound s m now Bad = off s m now true invalid_parameter refl refl
second_bound s m now Refused = off s m now true logon_failure refl refl
second_bound s m now (Logon user) = joined s m now user

first_bound : (s : Server) (m : Message) (now : ℕ) (h : Shows) → Tells s m now true (first_binding m h)
first_bound s m now Begins = challenges_binding s m now m.session_id
first_bound s m now Bad = off s m now true invalid_parameter refl refl
first_bound s m now Refused = off s m now true invalid_parameter refl refl
first_bound s m now (Logon user) = off s m now true invalid_parameter refl refl

token_bound : (s : Server) (m : Message) (now : ℕ) (r : SetupRequest) → Tells s m now true (binding_token s m r)
token_bound s m now r =
    either (λ v. Tells s m now true v) (is_binding m.session_id (s.making m.connection)) _ _
    (λ _. second_bound s m now r.shows) (λ _. first_bound s m now r.shows)

live_bound : (s : Server) (m : Message) (now : ℕ) (r : SetupRequest) → Tells s m now true (live_binding s m r)
live_bound s m now r =
    either (λ v. Tells s m now true v) (not r.signed) _ _ (λ _. off s m now true invalid_parameter refl refl)
    (λ _. either (λ v. Tells s m now true v) (not (m.client_guid == s.client m.session_id)) _ _
    (λ _. off s m now true user_session_deleted refl refl)
    (λ _. either (λ v. Tells s m now true v) (not ((r.cipher == s.cipher m.session_id) && (r.signing == s.signing m.session_id))) _ _
    (λ _. off s m now true invalid_parameter refl refl)
    (λ _. either (λ v. Tells s m now true v) (is_some (s.session_on m.connection)) _ _
    (λ _. off s m now true request_not_accepted refl refl)
    (λ _. either (λ v. Tells s m now true v) (not r.verified) _ _ (λ _. off s m now true access_denied refl refl)
    (λ _. token_bound s m now r)))))

bound : (s : Server) (m : Message) (now : ℕ) (r : SetupRequest) → Tells s m now true (binding_check s m r)
bound s m now r =
    either (λ v. Tells s m now true v) (s.present m.session_id) _ _ (λ _. live_bound s m now r)
    (λ _. either (λ v. Tells s m now true v) (not (is_new m.session_id (s.making m.connection))) _ _
    (λ _. off s m now true user_session_deleted refl refl)
    (λ _. either (λ v. Tells s m now true v) (not r.signed) _ _ (λ _. off s m now true invalid_parameter refl refl)
    (λ _. off s m now true request_not_accepted refl refl)))

set_up : (s : Server) (m : Message) (now : ℕ) (r : SetupRequest) → Tells s m now r.binding (setup_check s m r)
set_up s m now r = by r.binding
  where
    by : (b : Bool) → Tells s m now b (if b then binding_check s m r else session_check s m r)
    by true = bound s m now r
    by false = in_session s m now r

-- ---- its checks before those of its own

-- the same of any command
record TellsOf (s : Server) (m : Message) (now : ℕ) (c : Command) (v : Verdict) : Type 0 where
  told : progress c (apply s m now v).reply ≡ verdict_progress s v
  lesser : progress c (apply s m now (without_room v)).reply ≡ verdict_progress s v
  kept : verdict_progress s v ≡ Stays → (apply s m now v).server.present ≡ s.present
  kept_lesser : verdict_progress s v ≡ Stays → (apply s m now (without_room v)).server.present ≡ s.present

commanded : (s : Server) (m : Message) (now : ℕ) (c : Command) → is_setup c ≡ true → TellsOf s m now c (command_check s m c)
commanded s m now (Setup r) h =
    let t = set_up s m now r in record { told = t.told; lesser = t.lesser; kept = t.kept; kept_lesser = t.kept_lesser }
commanded s m now _ h = absurd (cc)

-- its body doesn't read
unread : (s : Server) (m : Message) (now : ℕ) (c : Command) (status : ℕ) → form c ≡ Some status → TellsOf s m now c (Refuse status)
unread s m now (Setup r) status e = subst (λ (n : ℕ). TellsOf s m now (Setup r) (Refuse n)) (by r.readable e) invalid
  where
    invalid : TellsOf s m now (Setup r) (Refuse invalid_parameter)
    invalid = record { told = refl; lesser = refl; kept = λ h. refl; kept_lesser = λ h. refl }

    value : Option ℕ → ℕ
    value None = 0
    value (Some n) = n

    by : (b : Bool) → (if b then None else Some invalid_parameter) ≡ Some status → invalid_parameter ≡ status
    by true k = absurd (cc)
    by false k = ap value k
unread s m now _ status e = record { told = refl; lesser = refl; kept = λ h. refl; kept_lesser = λ h. refl }

formed_told : (s : Server) (m : Message) (now : ℕ) (u : Option ℕ) → form m.command ≡ u → is_setup m.command ≡ true
    → TellsOf s m now m.command (formed s m u)
formed_told s m now (Some status) e h = unread s m now m.command status e
formed_told s m now None e h = commanded s m now m.command h

-- the same of a message, which a fault answers first
record TellsHeard (s : Server) (m : Message) (now : ℕ) (u : Option ℕ) (v : Verdict) : Type 0 where
  told : unless_fault u (progress m.command (apply s m now v).reply) ≡ verdict_progress s v
  lesser : unless_fault u (progress m.command (apply s m now (without_room v)).reply) ≡ verdict_progress s v
  kept : is_setup m.command ≡ true → verdict_progress s v ≡ Stays → (apply s m now v).server.present ≡ s.present
  kept_lesser : is_setup m.command ≡ true → verdict_progress s v ≡ Stays → (apply s m now (without_room v)).server.present ≡ s.present

owed_told : (s : Server) (m : Message) (now : ℕ) (u : Option ℕ) → is_setup m.command ≡ true → TellsHeard s m now u (owed s m u)
owed_told s m now (Some status) h = record { told = refl; lesser = refl; kept = λ q e. refl; kept_lesser = λ q e. refl }
owed_told s m now None h =
    let t = formed_told s m now (form m.command) refl h in
    record { told = t.told; lesser = t.lesser; kept = λ q e. t.kept e; kept_lesser = λ q e. t.kept_lesser e }

on_and_off : (b : Bool) → b ≡ true → b ≡ false → ⊥
on_and_off b e h = let k : true ≡ false = sym e ∙ h in cc

set_up_told : (s : Server) (m : Message) (now : ℕ) → is_setup m.command ≡ true → TellsHeard s m now m.fault (check s m)
set_up_told s m now h =
    either (λ v. TellsHeard s m now m.fault v) (is_setup m.command || has_session s m) _ _ (λ _. owed_told s m now m.fault h)
    (λ n. absurd (on_and_off (is_setup m.command) h (front_off (is_setup m.command) (has_session s m) n)))

-- ---- any other command: it has no step of a logon

not_set_up : (m : Message) (r : SetupRequest) → m.command ≡ Setup r → is_setup m.command ≡ false → ⊥
not_set_up m r e h = on_and_off (is_setup m.command) (ap is_setup e) h

no_step : (s : Server) (m : Message) (v : Verdict) → Facts s m v → is_setup m.command ≡ false → Stays ≡ verdict_progress s v
no_step s m Challenge f h = absurd (not_set_up m f.request f.command h)
no_step s m (ChallengeBinding x) f h = absurd (not_set_up m f.request f.command h)
no_step s m (Begin x user previous r is_quiet) f h = absurd (not_set_up m r f.command h)
no_step s m (Join x) f h = absurd (not_set_up m f.binding.request f.binding.command h)
no_step s m _ f h = refl

quiet_command : (c : Command) (r : Reply) → is_setup c ≡ false → progress c r ≡ Stays
quiet_command (Setup q) r h = absurd (cc)
quiet_command _ r h = refl

no_fault : (u : Option ℕ) → unless_fault u Stays ≡ Stays
no_fault None = refl
no_fault (Some status) = refl

plain_told : (s : Server) (m : Message) (now : ℕ) → is_setup m.command ≡ false → TellsHeard s m now m.fault (check s m)
plain_told s m now h =
    let k = no_step s m (check s m) (checked s m) h in record {
      told = ap (unless_fault m.fault) (quiet_command m.command (apply s m now (check s m)).reply h) ∙ (no_fault m.fault ∙ k);
      lesser = ap (unless_fault m.fault) (quiet_command m.command (apply s m now (without_room (check s m))).reply h)
          ∙ (no_fault m.fault ∙ k);
      kept = λ q e. absurd (on_and_off (is_setup m.command) q h);
      kept_lesser = λ q e. absurd (on_and_off (is_setup m.command) q h);
    }

message_told : (s : Server) (m : Message) (now : ℕ) → TellsHeard s m now m.fault (check s m)
message_told s m now = by (is_setup m.command) refl
  where
    by : (b : Bool) → is_setup m.command ≡ b → TellsHeard s m now m.fault (check s m)
    by true e = set_up_told s m now e
    by false e = plain_told s m now e

-- ---- any event

accepted : (s : Server) (k : ℕ) → Stays ≡ ruled_progress s (ruling s (Accept k))
accepted s k = by (nat_le max_connections (length s.connections))
  where
    by : (b : Bool) → Stays ≡ ruled_progress s (if b then TurnsAway else TakesIn k)
    by true = refl
    by false = refl

pub ruled : (s : Server) (now : ℕ) (e : ServerEvent)
    → progress_of e (carried_out s now (ruling s e)).reply ≡ ruled_progress s (ruling s e)
ruled s now (Accept k) = accepted s k
ruled s now (Heard m) = (message_told s m now).told
ruled s now (End k) = refl
ruled s now Stop = refl

pub lesser_ruled : (s : Server) (now : ℕ) (e : ServerEvent)
    → progress_of e (carried_out s now (ruling_without_room (ruling s e))).reply ≡ ruled_progress s (ruling s e)
lesser_ruled s now (Accept k) = accepted s k
lesser_ruled s now (Heard m) = (message_told s m now).lesser
lesser_ruled s now (End k) = refl
lesser_ruled s now Stop = refl

-- ---- a refused one

neither : (x y b encrypts : Bool) (n : ℕ) → (if x then Interim b else if y then Final b n encrypts else Stays) ≡ Stays
    → (y ≡ false) × (x ≡ false)
neither true y b encrypts n h = absurd (cc)
neither false true b encrypts n h = absurd (cc)
neither false false b encrypts n h = (refl, refl)

pub refusal_status : (s : Server) (m : Message) (r : SetupRequest) (status : ℕ) → m.command ≡ Setup r → m.fault ≡ None
    → check s m ≡ Refuse status → ((status == success) ≡ false) × ((status == more_processing_required) ≡ false)
refusal_status s m r status c f e =
    let a = subst (λ (v : Verdict). unless_fault m.fault (progress m.command (apply s m 0 v).reply) ≡ verdict_progress s v) e
    (message_told s m 0).told in
    let b = subst (λ (k : Command). unless_fault m.fault (progress k (apply s m 0 (Refuse status)).reply) ≡ Stays) c a in
    let d = subst (λ (u : Option ℕ). unless_fault u (progress (Setup r) (apply s m 0 (Refuse status)).reply) ≡ Stays) f b in
    neither (status == more_processing_required) (status == success) r.binding false 0 d

-- ---- a SESSION_SETUP of which nothing comes leaves the live sessions as they are

found_kept : (t : Server) (m : Message) (now : ℕ) (v : Verdict) (x : ℕ) → is_setup m.command ≡ true → Finds t m v
    → unless_fault m.fault (progress m.command (apply t m now v).reply) ≡ Stays → (apply t m now v).server.present x ≡ t.present x
found_kept t m now v x q (inl e) stays =
    let a = message_told t m now in
    subst (λ (y : Verdict). unless_fault m.fault (progress m.command (apply t m now y).reply) ≡ Stays
    → (apply t m now y).server.present x ≡ t.present x) (sym e)
    (λ h. ap (λ (p : ℕ → Bool). p x) (a.kept q (sym a.told ∙ h))) stays
found_kept t m now v x q (inr e) stays =
    let a = message_told t m now in
    subst (λ (y : Verdict). unless_fault m.fault (progress m.command (apply t m now y).reply) ≡ Stays
    → (apply t m now y).server.present x ≡ t.present x) (sym e)
    (λ h. ap (λ (p : ℕ → Bool). p x) (a.kept_lesser q (sym a.lesser ∙ h))) stays

-- the expiry of an open does too
before_kept : (s : Server) (now : ℕ) (t : Server) (x : ℕ) → Before s now t → t.present x ≡ s.present x
before_kept s now t x (inl e) = ap (λ (y : Server). y.present x) e
before_kept s now t x (inr e) =
    ap (λ (y : Server). y.present x) e.2 ∙ ap (λ (p : ℕ → Bool). p x) (same_present (with_deadlines s now) e.0)

pub present_kept : (s : Server) (now : ℕ) (m : Message) (x : ℕ) → is_setup m.command ≡ true
    → unless_fault m.fault (progress m.command (step s now (Heard m)).reply) ≡ Stays
    → (step s now (Heard m)).server.present x ≡ s.present x
present_kept s now m x q =
    by_verdict (λ A. unless_fault m.fault (progress m.command A.reply) ≡ Stays → A.server.present x ≡ s.present x) s now m
    (λ t v records b f stays. found_kept t m now v x q f stays ∙ before_kept s now t x b)
