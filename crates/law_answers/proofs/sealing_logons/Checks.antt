-- The checks of a SESSION_SETUP: a session begins where the server doesn't encrypt or the client has a cipher, and a channel is bound
-- where the client has the session's cipher.
use Rattle.std.proofs.Common.{◌≡◌, ℕ, ◌==◌, nat_le, Bool, true, false, not, ◌&&◌, ◌||◌, List, inl, inr, refl, sym, subst}
use Rattle.std.proofs.Common.{Option, Some, None, is_some}
use Rattle.spec_exchange.specs.Status.{user_session_deleted}
use Rattle.spec_exchange.specs.Texts.{same_name}
use Rattle.spec_exchange.specs.Commands.{Setup, SetupRequest, Shows, Begins, Bad, Refused, Logon, form, is_setup}
use Rattle.spec_exchange.specs.State.{Server, Message}
use Rattle.spec_exchange.specs.Opens.{max_ids}
use Rattle.spec_exchange.specs.Verdict.{Verdict, Refuse, Challenge, ChallengeBinding, Begin, Join, Give, KeepRefusal, Repeat, Attach, Make}
use Rattle.spec_exchange.specs.Verdict.{TurnDown, Tell, Show, KeepSlot, PutRanges, Alter, CloseOpen, EndSession, AddTree, DropTree}
use Rattle.spec_exchange.specs.CheckSetup.{max_sessions, max_channels, max_numbers, is_new, is_binding, granted_session}
use Rattle.spec_exchange.specs.CheckSetup.{second_token, first_token}
use Rattle.spec_exchange.specs.CheckSetup.{session_check, count_channels, granted_binding, second_binding, first_binding}
use Rattle.spec_exchange.specs.CheckSetup.{live_binding, binding_check, setup_check}
use Rattle.spec_exchange.specs.Check.{command_check, formed, owed, has_session, check}
use Rattle.spec_exchange.specs.Step.{without_room}
use Rattle.law_server.proofs.tables.Logic.{either}
use Rattle.law_server.proofs.tables.Doors.{Finds}

-- of a verdict on this request
abbrev pub Sealing : Server → Message → SetupRequest → Verdict → Type 0
Sealing s m r (Refuse status) = Unit {0}
Sealing s m r Challenge = Unit {0}
Sealing s m r (ChallengeBinding session) = Unit {0}
Sealing s m r (Begin session user previous request is_quiet) = s.encrypts ≡ true → ((r.cipher == 0) ≡ false)
    × ((request.cipher == 0) ≡ false)
Sealing s m r (Join session) = (s.present m.session_id ≡ true) × ((r.cipher == s.cipher m.session_id) ≡ true)
Sealing s m r _ = ⊥

both_false : (a b : Bool) → (a && b) ≡ false → a ≡ true → b ≡ false
both_false true b e f = e
both_false false b e f = absurd (let h : false ≡ true = f in cc)

granted : (s : Server) (m : Message) (r : SetupRequest) (user : List ℕ) → Sealing s m r (granted_session s m r user)
granted s m r user =
    let P : Verdict → Type 0 = λ v. Sealing s m r v in
    either P (s.encrypts && (r.cipher == 0)) _ _ (λ _. tt)
    (λ off. either P (nat_le max_sessions s.sessions) _ _ (λ _. tt)
    (λ _ e. (both_false s.encrypts (r.cipher == 0) off e, both_false s.encrypts (r.cipher == 0) off e)))

second : (s : Server) (m : Message) (r : SetupRequest) (shows : Shows) → Sealing s m r (second_token s m r shows)
second s m r Begins = tt
second s m r Bad = tt
second s m r Refused = tt
second s m r (Logon user) = granted s m r user

first : (s : Server) (m : Message) (r : SetupRequest) (shows : Shows) → Sealing s m r (first_token s shows)
first s m r Begins = either (λ v. Sealing s m r v) (nat_le max_ids s.session_ids_given) _ Challenge (λ _. tt) (λ _. tt)
first s m r Bad = tt
first s m r Refused = tt
first s m r (Logon user) = tt

new_session : (s : Server) (m : Message) (r : SetupRequest) → Sealing s m r (session_check s m r)
new_session s m r =
    let P : Verdict → Type 0 = λ v. Sealing s m r v in
    either P (m.session_id == 0) _ _
    (λ _. either P (is_some (s.session_on m.connection)) _ _ (λ _. tt) (λ _. first s m r r.shows))
    (λ _. either P (s.present m.session_id) _ _ (λ _. tt)
    (λ _. either P (is_new m.session_id (s.making m.connection)) _ _ (λ _. second s m r r.shows) (λ _. tt)))

bound : (s : Server) (m : Message) (r : SetupRequest) (user : List ℕ) → s.present m.session_id ≡ true
    → (r.cipher == s.cipher m.session_id) ≡ true → Sealing s m r (granted_binding s m user)
bound s m r user there same =
    let P : Verdict → Type 0 = λ v. Sealing s m r v in
    either P (not (same_name user (s.user m.session_id))) _ _ (λ _. tt)
    (λ _. either P (nat_le max_channels (count_channels s.session_on s.connections m.session_id)) _ _ (λ _. tt)
    (λ _. either P (nat_le max_numbers (s.channel_numbers_drawn m.session_id)) _ _ (λ _. tt) (λ _. (there, same))))

second_bound : (s : Server) (m : Message) (r : SetupRequest) (shows : Shows) → s.present m.session_id ≡ true
    → (r.cipher == s.cipher m.session_id) ≡ true → Sealing s m r (second_binding s m shows)
second_bound s m r Begins there same = tt
second_bound s m r Bad there same = tt
second_bound s m r Refused there same = tt
second_bound s m r (Logon user) there same = bound s m r user there same

first_bound : (s : Server) (m : Message) (r : SetupRequest) (shows : Shows) → Sealing s m r (first_binding m shows)
first_bound s m r Begins = tt
first_bound s m r Bad = tt
first_bound s m r Refused = tt
first_bound s m r (Logon user) = tt

front_and : (a b : Bool) → not (a && b) ≡ false → a ≡ true
front_and true b e = refl
front_and false b e = absurd (let h : true ≡ false = e in cc)

live : (s : Server) (m : Message) (r : SetupRequest) → s.present m.session_id ≡ true → Sealing s m r (live_binding s m r)
live s m r there =
    let P : Verdict → Type 0 = λ v. Sealing s m r v in
    either P (not r.signed) _ _ (λ _. tt)
    (λ _. either P (not (m.client_guid == s.client m.session_id)) _ _ (λ _. tt)
    (λ _. either P (not ((r.cipher == s.cipher m.session_id) && (r.signing == s.signing m.session_id))) _ _ (λ _. tt)
    (λ same. either P (is_some (s.session_on m.connection)) _ _ (λ _. tt)
    (λ _. either P (not r.verified) _ _ (λ _. tt)
    (λ _. either P (is_binding m.session_id (s.making m.connection)) _ _
    (λ _. second_bound s m r r.shows there (front_and (r.cipher == s.cipher m.session_id) (r.signing == s.signing m.session_id) same))
    (λ _. first_bound s m r r.shows))))))

binding : (s : Server) (m : Message) (r : SetupRequest) → Sealing s m r (binding_check s m r)
binding s m r =
    let P : Verdict → Type 0 = λ v. Sealing s m r v in
    either P (s.present m.session_id) _ _ (λ there. live s m r there)
    (λ _. either P (not (is_new m.session_id (s.making m.connection))) _ _ (λ _. tt)
    (λ _. either P (not r.signed) _ _ (λ _. tt) (λ _. tt)))

setups : (s : Server) (m : Message) (r : SetupRequest) → Sealing s m r (setup_check s m r)
setups s m r = either (λ v. Sealing s m r v) r.binding _ _ (λ _. binding s m r) (λ _. new_session s m r)

by_form : (s : Server) (m : Message) (r : SetupRequest) → m.command ≡ Setup r → (o : Option ℕ) → Sealing s m r (formed s m o)
by_form s m r e (Some status) = tt
by_form s m r e None = subst (λ c. Sealing s m r (command_check s m c)) (sym e) (setups s m r)

by_fault : (s : Server) (m : Message) (r : SetupRequest) → m.command ≡ Setup r → (o : Option ℕ) → Sealing s m r (owed s m o)
by_fault s m r e (Some status) = tt
by_fault s m r e None = by_form s m r e (form m.command)

checked : (s : Server) (m : Message) (r : SetupRequest) → m.command ≡ Setup r → Sealing s m r (check s m)
checked s m r e =
    either (λ v. Sealing s m r v) (is_setup m.command || has_session s m) (owed s m m.fault) (Refuse user_session_deleted)
    (λ _. by_fault s m r e m.fault) (λ _. tt)

-- where the records don't fit a session is granted as well
full : (s : Server) (m : Message) (r : SetupRequest) (v : Verdict) → Sealing s m r v → Sealing s m r (without_room v)
full s m r (Refuse status) f = f
full s m r Challenge f = f
full s m r (ChallengeBinding session) f = f
full s m r (Begin session user previous request is_quiet) f = f
full s m r (Join session) f = f
full s m r (Give body) f = absurd f
full s m r (KeepRefusal guid status) f = absurd f
full s m r (Repeat o request) f = absurd f
full s m r (Attach o request) f = absurd f
full s m r (Make request place action) f = absurd f
full s m r (TurnDown o status) f = absurd f
full s m r (Tell o body) f = absurd f
full s m r (Show o last body) f = absurd f
full s m r (KeepSlot o index number status elements) f = absurd f
full s m r (PutRanges o index number ranges elements) f = absurd f
full s m r (Alter o change body) f = absurd f
full s m r (CloseOpen o body) f = absurd f
full s m r (EndSession session is_quiet) f = absurd f
full s m r (AddTree pipes) f = absurd f
full s m r DropTree f = absurd f

pub finds_sealing : (t : Server) (m : Message) (r : SetupRequest) → m.command ≡ Setup r → (v : Verdict) → Finds t m v → Sealing t m r v
finds_sealing t m r e v (inl is) = subst (λ u. Sealing t m r u) (sym is) (checked t m r e)
finds_sealing t m r e v (inr is) = subst (λ u. Sealing t m r u) (sym is) (full t m r (check t m) (checked t m r e))
