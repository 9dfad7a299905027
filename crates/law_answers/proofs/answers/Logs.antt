-- The checks of a SESSION_SETUP grant a session or a channel to a token that shows a logon alone.
use Rattle.std.proofs.lemmas.Bool.{eqb-false}
use Rattle.std.proofs.Common.{◌≡◌, ℕ, ◌==◌, nat_le, true, false, not, ◌&&◌, ◌||◌, List, inl, inr, refl, sym, ap, subst}
use Rattle.std.proofs.Common.{arith, Option, Some, None, is_some}
use Rattle.spec_exchange.specs.Status.{success, more_processing_required, user_session_deleted, invalid_parameter}
use Rattle.spec_exchange.specs.Texts.{same_name}
use Rattle.spec_exchange.specs.Commands.{Command, Setup, SetupRequest, Shows, Begins, Bad, Refused, Logon, form, is_setup}
use Rattle.spec_exchange.specs.State.{Server, Message, Record, Heard}
use Rattle.spec_exchange.specs.Opens.{max_ids}
use Rattle.spec_exchange.specs.Verdict.{Verdict, Refuse, Challenge, ChallengeBinding, Begin, Join, Give, KeepRefusal, Repeat, Attach, Make}
use Rattle.spec_exchange.specs.Verdict.{TurnDown, Tell, Show, KeepSlot, PutRanges, Alter, CloseOpen, EndSession, AddTree, DropTree}
use Rattle.spec_exchange.specs.CheckSetup.{max_sessions, max_channels, max_numbers, is_new, is_binding, granted_session}
use Rattle.spec_exchange.specs.CheckSetup.{second_token, first_token}
use Rattle.spec_exchange.specs.CheckSetup.{session_check, count_channels, granted_binding, second_binding, first_binding}
use Rattle.spec_exchange.specs.CheckSetup.{live_binding, binding_check, setup_check}
use Rattle.spec_exchange.specs.Check.{command_check, formed, owed, has_session, check}
use Rattle.spec_exchange.specs.Effects.{apply}
use Rattle.spec_exchange.specs.Step.{step, without_room}
use Rattle.spec_exchange.specs.Network.{answer_to}
use Rattle.law_server.proofs.tables.Logic.{either}
use Rattle.law_server.proofs.tables.Doors.{by_verdict, recorded, Finds}
use Rattle.law_sessions.specs.sessions.Sessions.{is_logon}
use Rattle.law_answers.specs.answers.Logs.{SuccessesLogOn}

-- of a verdict on this request
abbrev Shown : SetupRequest → Verdict → Type 0
Shown r (Refuse status) = (status == success) ≡ false
Shown r Challenge = Unit {0}
Shown r (ChallengeBinding session) = Unit {0}
Shown r (Begin session user previous request is_quiet) = is_logon r.shows ≡ true
Shown r (Join session) = is_logon r.shows ≡ true
Shown r _ = ⊥

-- ---- a new session

granted : (s : Server) (m : Message) (r : SetupRequest) (user : List ℕ) → r.shows ≡ Logon user → Shown r (granted_session s m r user)
granted s m r user shows =
    let P : Verdict → Type 0 = λ v. Shown r v in
    either P (s.encrypts && (r.cipher == 0)) _ _ (λ _. refl)
    (λ _. either P (nat_le max_sessions s.sessions) _ _ (λ _. refl) (λ _. ap is_logon shows))

second : (s : Server) (m : Message) (r : SetupRequest) (shows : Shows) → r.shows ≡ shows → Shown r (second_token s m r shows)
second s m r Begins e = refl
second s m r Bad e = refl
second s m r Refused e = refl
second s m r (Logon user) e = granted s m r user e

first : (s : Server) (r : SetupRequest) (shows : Shows) → Shown r (first_token s shows)
first s r Begins = either (λ v. Shown r v) (nat_le max_ids s.session_ids_given) _ Challenge (λ _. refl) (λ _. tt)
first s r Bad = refl
first s r Refused = refl
first s r (Logon user) = refl

new_session : (s : Server) (m : Message) (r : SetupRequest) → Shown r (session_check s m r)
new_session s m r =
    let P : Verdict → Type 0 = λ v. Shown r v in
    either P (m.session_id == 0) _ _
    (λ _. either P (is_some (s.session_on m.connection)) _ _ (λ _. refl) (λ _. first s r r.shows))
    (λ _. either P (s.present m.session_id) _ _ (λ _. refl)
    (λ _. either P (is_new m.session_id (s.making m.connection)) _ _ (λ _. second s m r r.shows refl) (λ _. refl)))

-- ---- a further channel

bound : (s : Server) (m : Message) (r : SetupRequest) (user : List ℕ) → r.shows ≡ Logon user → Shown r (granted_binding s m user)
bound s m r user shows =
    let P : Verdict → Type 0 = λ v. Shown r v in
    either P (not (same_name user (s.user m.session_id))) _ _ (λ _. refl)
    (λ _. either P (nat_le max_channels (count_channels s.session_on s.connections m.session_id)) _ _ (λ _. refl)
    (λ _. either P (nat_le max_numbers (s.channel_numbers_drawn m.session_id)) _ _ (λ _. refl) (λ _. ap is_logon shows)))

second_bound : (s : Server) (m : Message) (r : SetupRequest) (shows : Shows) → r.shows ≡ shows → Shown r (second_binding s m shows)
second_bound s m r Begins e = tt
second_bound s m r Bad e = refl
second_bound s m r Refused e = refl
second_bound s m r (Logon user) e = bound s m r user e

first_bound : (m : Message) (r : SetupRequest) (shows : Shows) → Shown r (first_binding m shows)
first_bound m r Begins = tt
first_bound m r Bad = refl
first_bound m r Refused = refl
first_bound m r (Logon user) = refl

live : (s : Server) (m : Message) (r : SetupRequest) → Shown r (live_binding s m r)
live s m r =
    let P : Verdict → Type 0 = λ v. Shown r v in
    either P (not r.signed) _ _ (λ _. refl)
    (λ _. either P (not (m.client_guid == s.client m.session_id)) _ _ (λ _. refl)
    (λ _. either P (not ((r.cipher == s.cipher m.session_id) && (r.signing == s.signing m.session_id))) _ _ (λ _. refl)
    (λ _. either P (is_some (s.session_on m.connection)) _ _ (λ _. refl)
    (λ _. either P (not r.verified) _ _ (λ _. refl)
    (λ _. either P (is_binding m.session_id (s.making m.connection)) _ _ (λ _. second_bound s m r r.shows refl)
    (λ _. first_bound m r r.shows))))))

binding : (s : Server) (m : Message) (r : SetupRequest) → Shown r (binding_check s m r)
binding s m r =
    let P : Verdict → Type 0 = λ v. Shown r v in
    either P (s.present m.session_id) _ _ (λ _. live s m r)
    (λ _. either P (not (is_new m.session_id (s.making m.connection))) _ _ (λ _. refl)
    (λ _. either P (not r.signed) _ _ (λ _. refl) (λ _. refl)))

setups : (s : Server) (m : Message) (r : SetupRequest) → Shown r (setup_check s m r)
setups s m r = either (λ v. Shown r v) r.binding _ _ (λ _. binding s m r) (λ _. new_session s m r)

-- ---- the checks in front

form_low : (r : SetupRequest) (status : ℕ) → form (Setup r) ≡ Some status → status ≡ invalid_parameter
form_low r status e = grind arith

by_form : (s : Server) (m : Message) (r : SetupRequest) → m.command ≡ Setup r → (o : Option ℕ) → form (Setup r) ≡ o → Shown r (formed s m o)
by_form s m r e (Some status) f = subst (λ n. (n == success) ≡ false) (sym (form_low r status f)) refl
by_form s m r e None f = subst (λ c. Shown r (command_check s m c)) (sym e) (setups s m r)

by_fault : (s : Server) (m : Message) (r : SetupRequest) → m.command ≡ Setup r → (o : Option ℕ) → o ≡ None → Shown r (owed s m o)
by_fault s m r e (Some status) none = absurd (let h : Some status ≡ None = none in cc)
by_fault s m r e None none = by_form s m r e (form m.command) (ap form (sym e))

checked : (s : Server) (m : Message) (r : SetupRequest) → m.command ≡ Setup r → m.fault ≡ None → Shown r (check s m)
checked s m r e none =
    either (λ v. Shown r v) (is_setup m.command || has_session s m) (owed s m m.fault) (Refuse user_session_deleted)
    (λ _. by_fault s m r e m.fault none) (λ _. refl)

-- where the records don't fit a session is granted as well
full : (r : SetupRequest) (v : Verdict) → Shown r v → Shown r (without_room v)
full r (Refuse status) f = f
full r Challenge f = f
full r (ChallengeBinding session) f = f
full r (Begin session user previous request is_quiet) f = f
full r (Join session) f = f
full r (Give body) f = absurd f
full r (KeepRefusal guid status) f = absurd f
full r (Repeat o request) f = absurd f
full r (Attach o request) f = absurd f
full r (Make request place action) f = absurd f
full r (TurnDown o status) f = absurd f
full r (Tell o body) f = absurd f
full r (Show o last body) f = absurd f
full r (KeepSlot o index number status elements) f = absurd f
full r (PutRanges o index number ranges elements) f = absurd f
full r (Alter o change body) f = absurd f
full r (CloseOpen o body) f = absurd f
full r (EndSession session is_quiet) f = absurd f
full r (AddTree pipes) f = absurd f
full r DropTree f = absurd f

finds : (t : Server) (m : Message) (r : SetupRequest) → m.command ≡ Setup r → m.fault ≡ None → (v : Verdict) → Finds t m v → Shown r v
finds t m r e none v (inl is) = subst (λ u. Shown r u) (sym is) (checked t m r e none)
finds t m r e none v (inr is) = subst (λ u. Shown r u) (sym is) (full r (check t m) (checked t m r e none))

-- ---- carried out

interim : {P : Type 0} → more_processing_required ≡ success → P
interim e = absurd (let h : false ≡ true = ap (λ n. n == success) e in cc)

told : (t : Server) (m : Message) (now : ℕ) (records : List Record) (r : SetupRequest) (v : Verdict) → Shown r v
    → (recorded (apply t m now v) records).reply.status ≡ success → is_logon r.shows ≡ true
told t m now records r (Refuse status) f e = absurd (eqb-false status success f e)
told t m now records r Challenge f e = interim e
told t m now records r (ChallengeBinding session) f e = interim e
told t m now records r (Begin session user previous request is_quiet) f e = f
told t m now records r (Join session) f e = f
told t m now records r (Give body) f e = absurd f
told t m now records r (KeepRefusal guid status) f e = absurd f
told t m now records r (Repeat o request) f e = absurd f
told t m now records r (Attach o request) f e = absurd f
told t m now records r (Make request place action) f e = absurd f
told t m now records r (TurnDown o status) f e = absurd f
told t m now records r (Tell o body) f e = absurd f
told t m now records r (Show o last body) f e = absurd f
told t m now records r (KeepSlot o index number status elements) f e = absurd f
told t m now records r (PutRanges o index number ranges elements) f e = absurd f
told t m now records r (Alter o change body) f e = absurd f
told t m now records r (CloseOpen o body) f e = absurd f
told t m now records r (EndSession session is_quiet) f e = absurd f
told t m now records r (AddTree pipes) f e = absurd f
told t m now records r DropTree f e = absurd f

stepped : (s : Server) (now : ℕ) (m : Message) (r : SetupRequest) → m.command ≡ Setup r → m.fault ≡ None
    → (step s now (Heard m)).reply.status ≡ success → is_logon r.shows ≡ true
stepped s now m r e none =
    by_verdict (λ A. A.reply.status ≡ success → is_logon r.shows ≡ true) s now m
    (λ t v records b f. told t m now records r v (finds t m r e none v f))

answered : (s : Server) (now : ℕ) (m : Message) (r : SetupRequest) (c : Command) → c ≡ Setup r → m.command ≡ Setup r → m.fault ≡ None
    → (answer_to s now m c).reply.status ≡ success → is_logon r.shows ≡ true
answered s now m r c is e none =
    subst (λ (d : Command). (answer_to s now m d).reply.status ≡ success → is_logon r.shows ≡ true) (sym is) (stepped s now m r e none)

pub successes_log_on : SuccessesLogOn
successes_log_on w x r e none = answered w.server w.moment x.message r x.message.command e e none
