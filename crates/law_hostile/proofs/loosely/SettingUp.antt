-- What creates and locks rest on stays where the server hears a SESSION_SETUP that no list has.
use Rattle.std.proofs.Common.{◌≡◌, ◌≢◌, ℕ, ◌+◌, ◌<◌, ◌≤◌, ◌==◌, nat_le, Bool, true, false, not, ◌&&◌, ◌||◌, List, [], inl, inr, refl}
use Rattle.std.proofs.Common.{arith, sym, ◌∙◌, ap, subst, Option, Some, None, is_some, slice_get, eq-eqb}
use Rattle.spec_exchange.specs.Status.{access_denied, invalid_parameter, insufficient_resources, request_not_accepted}
use Rattle.spec_exchange.specs.Status.{user_session_deleted}
use Rattle.spec_exchange.specs.Commands.{Command, Setup, SetupRequest, TreeDisconnect, Shows, Begins, Bad, Refused, Logon, is_setup, form}
use Rattle.spec_exchange.specs.State.{Server, Message, Heard, Record, Making, NewSession}
use Rattle.spec_exchange.specs.Texts.{same_name}
use Rattle.spec_exchange.specs.Opens.{max_ids}
use Rattle.spec_exchange.specs.Verdict.{Verdict, Refuse, Give, KeepRefusal, Repeat, Attach, Make, TurnDown, Tell, Show}
use Rattle.spec_exchange.specs.Verdict.{KeepSlot, PutRanges, Alter, CloseOpen, Challenge, ChallengeBinding, Begin, Join}
use Rattle.spec_exchange.specs.Verdict.{EndSession, AddTree, DropTree}
use Rattle.spec_exchange.specs.Check.{check, has_session, owed, formed, command_check}
use Rattle.spec_exchange.specs.CheckSetup.{is_new, is_binding, first_token, second_token, granted_session, session_check, previous_of}
use Rattle.spec_exchange.specs.CheckSetup.{max_sessions, count_channels, max_channels, max_numbers, granted_binding, second_binding}
use Rattle.spec_exchange.specs.CheckSetup.{first_binding, binding_token, live_binding, binding_check, setup_check}
use Rattle.spec_exchange.specs.Records.{entry_bytes, lower_limit}
use Rattle.spec_exchange.specs.Effects.{apply, end_if_named, end_session, add_session}
use Rattle.spec_exchange.specs.Step.{step, with_deadlines, without_room}
use Rattle.spec_exchange.specs.Client.{Client}
use Rattle.spec_exchange.specs.Network.{Conn, Sent, ForOp}
use Rattle.law_server.proofs.tables.Logic.{either}
use Rattle.law_server.proofs.tables.Doors.{recorded, Before, Finds, by_verdict}
use Rattle.law_server.proofs.tables.Found.{Facts}
use Rattle.law_server.proofs.tables.Checked.{found}
use Rattle.law_sessions.specs.messages.Connections.{Connections}
use Rattle.law_sessions.specs.sessions.Sessions.{Sessions, is_ops}
use Rattle.law_sessions.proofs.sessions.Heard.{before_stays}
use Rattle.law_creates.specs.Creates.{Creates, seen}
use Rattle.law_creates.proofs.ExpireBy.{expire_by_creates}
use Rattle.law_creates.proofs.Seeing.{expire_seen, end_seen}
use Rattle.law_creates.proofs.EndOf.{end_of_creates}
use Rattle.law_creates.proofs.BeginOf.{begin_of_creates}
use Rattle.law_locks.specs.Locks.{Locks}
use Rattle.law_locks.proofs.Views.{view, Quiet, grows}
use Rattle.law_locks.proofs.Verdicts.{closes_in, news, verdict_quiet, is_slot_verdict}
use Rattle.law_locks.proofs.Undeleting.{undeleting, NewKept}
use Rattle.law_locks.proofs.Calm.{Steady, Calm, Steadies, Ending}
use Rattle.law_locks.proofs.Bare.{bare_steady, ends_calm}
use Rattle.law_locks.proofs.Rooms.{by_room}
use Rattle.law_locks.proofs.Steady.{ends_of, big_apply}
use Rattle.law_locks.proofs.Facing.{Lower, quiet_keeps, before_keeps}
use Rattle.law_locks.proofs.Serving.{bare_full}
use Rattle.law_locks.proofs.Serve.{Under, lower_of, journal_before}

-- ---- its verdicts

abbrev sets_up : Verdict → Bool
sets_up (Refuse status) = true
sets_up Challenge = true
sets_up (ChallengeBinding session) = true
sets_up (Begin session user previous request quiet) = true
sets_up (Join session) = true
sets_up _ = false

abbrev IsSet : Verdict → Type 0
IsSet v = sets_up v ≡ true

first_sets : (s : Server) (shows : Shows) → IsSet (first_token s shows)
first_sets s Begins =
    either IsSet (nat_le max_ids s.session_ids_given) (Refuse insufficient_resources) Challenge (λ _. refl) (λ _. refl)
first_sets s Bad = refl
first_sets s Refused = refl
first_sets s (Logon user) = refl

granted_sets : (s : Server) (m : Message) (r : SetupRequest) (user : List ℕ) → IsSet (granted_session s m r user)
granted_sets s m r user =
    either IsSet (s.encrypts && (r.cipher == 0)) (Refuse access_denied) _ (λ _. refl)
    (λ _. either IsSet (nat_le max_sessions s.sessions) (Refuse insufficient_resources)
    (Begin m.session_id user (previous_of s user r.previous) r false) (λ _. refl) (λ _. refl))

second_sets : (s : Server) (m : Message) (r : SetupRequest) (shows : Shows) → IsSet (second_token s m r shows)
second_sets s m r Begins = refl
second_sets s m r Bad = refl
second_sets s m r Refused = refl
second_sets s m r (Logon user) = granted_sets s m r user

session_sets : (s : Server) (m : Message) (r : SetupRequest) → IsSet (session_check s m r)
session_sets s m r =
    either IsSet (m.session_id == 0) _ _
    (λ _. either IsSet (is_some (s.session_on m.connection)) (Refuse request_not_accepted) (first_token s r.shows) (λ _. refl)
    (λ _. first_sets s r.shows))
    (λ _. either IsSet (s.present m.session_id) (Refuse request_not_accepted) _ (λ _. refl)
    (λ _. either IsSet (is_new m.session_id (s.making m.connection)) (second_token s m r r.shows) (Refuse user_session_deleted)
    (λ _. second_sets s m r r.shows) (λ _. refl)))

joined_sets : (s : Server) (m : Message) (user : List ℕ) → IsSet (granted_binding s m user)
joined_sets s m user =
    either IsSet (not (same_name user (s.user m.session_id))) (Refuse access_denied) _ (λ _. refl)
    (λ _. either IsSet (nat_le max_channels (count_channels s.session_on s.connections m.session_id)) (Refuse insufficient_resources) _
    (λ _. refl)
    (λ _. either IsSet (nat_le max_numbers (s.channel_numbers_drawn m.session_id)) (Refuse insufficient_resources) (Join m.session_id)
    (λ _. refl) (λ _. refl)))

second_bound : (s : Server) (m : Message) (shows : Shows) → IsSet (second_binding s m shows)
second_bound s m Begins = refl
second_bound s m Bad = refl
second_bound s m Refused = refl
second_bound s m (Logon user) = joined_sets s m user

first_bound : (m : Message) (shows : Shows) → IsSet (first_binding m shows)
first_bound m Begins = refl
first_bound m Bad = refl
first_bound m Refused = refl
first_bound m (Logon user) = refl

live_sets : (s : Server) (m : Message) (r : SetupRequest) → IsSet (live_binding s m r)
live_sets s m r =
    either IsSet (not r.signed) (Refuse invalid_parameter) _ (λ _. refl)
    (λ _. either IsSet (not (m.client_guid == s.client m.session_id)) (Refuse user_session_deleted) _ (λ _. refl)
    (λ _. either IsSet (not ((r.cipher == s.cipher m.session_id) && (r.signing == s.signing m.session_id))) (Refuse invalid_parameter) _
    (λ _. refl)
    (λ _. either IsSet (is_some (s.session_on m.connection)) (Refuse request_not_accepted) _ (λ _. refl)
    (λ _. either IsSet (not r.verified) (Refuse access_denied) (binding_token s m r) (λ _. refl)
    (λ _. either IsSet (is_binding m.session_id (s.making m.connection)) (second_binding s m r.shows) (first_binding m r.shows)
    (λ _. second_bound s m r.shows) (λ _. first_bound m r.shows))))))

binding_sets : (s : Server) (m : Message) (r : SetupRequest) → IsSet (binding_check s m r)
binding_sets s m r =
    either IsSet (s.present m.session_id) (live_binding s m r) _ (λ _. live_sets s m r)
    (λ _. either IsSet (not (is_new m.session_id (s.making m.connection))) (Refuse user_session_deleted) _ (λ _. refl)
    (λ _. either IsSet (not r.signed) (Refuse invalid_parameter) (Refuse request_not_accepted) (λ _. refl) (λ _. refl)))

setup_sets : (s : Server) (m : Message) (r : SetupRequest) → IsSet (setup_check s m r)
setup_sets s m r =
    either IsSet r.binding (binding_check s m r) (session_check s m r) (λ _. binding_sets s m r) (λ _. session_sets s m r)

formed_sets : (s : Server) (m : Message) (r : SetupRequest) → m.command ≡ Setup r → (o : Option ℕ) → IsSet (formed s m o)
formed_sets s m r e (Some status) = refl
formed_sets s m r e None = subst (λ c. IsSet (command_check s m c)) (sym e) (setup_sets s m r)

owed_sets : (s : Server) (m : Message) (r : SetupRequest) → m.command ≡ Setup r → (o : Option ℕ) → IsSet (owed s m o)
owed_sets s m r e (Some status) = refl
owed_sets s m r e None = formed_sets s m r e (form m.command)

check_sets : (s : Server) (m : Message) (r : SetupRequest) → m.command ≡ Setup r → IsSet (check s m)
check_sets s m r e =
    either IsSet (is_setup m.command || has_session s m) (owed s m m.fault) (Refuse user_session_deleted) (λ _. owed_sets s m r e m.fault)
    (λ _. refl)

-- the other verdicts are none
by_set : (P : Verdict → Type 0) (v : Verdict) → IsSet v → ((status : ℕ) → P (Refuse status)) → P Challenge
    → ((session : ℕ) → P (ChallengeBinding session))
    → ((session : ℕ) (user : List ℕ) (previous : Option ℕ) (r : SetupRequest) (quiet : Bool) → P (Begin session user previous r quiet))
    → ((session : ℕ) → P (Join session)) → P v
by_set P (Refuse status) is f g h b j = f status
by_set P Challenge is f g h b j = g
by_set P (ChallengeBinding session) is f g h b j = h session
by_set P (Begin session user previous r quiet) is f g h b j = b session user previous r quiet
by_set P (Join session) is f g h b j = j session
by_set P (Give body) is f g h b j = absurd (cc)
by_set P (KeepRefusal guid status) is f g h b j = absurd (cc)
by_set P (Repeat o r) is f g h b j = absurd (cc)
by_set P (Attach o r) is f g h b j = absurd (cc)
by_set P (Make r found action) is f g h b j = absurd (cc)
by_set P (TurnDown o status) is f g h b j = absurd (cc)
by_set P (Tell o body) is f g h b j = absurd (cc)
by_set P (Show o place body) is f g h b j = absurd (cc)
by_set P (KeepSlot o index number status elements) is f g h b j = absurd (cc)
by_set P (PutRanges o index number ranges elements) is f g h b j = absurd (cc)
by_set P (Alter o change body) is f g h b j = absurd (cc)
by_set P (CloseOpen o body) is f g h b j = absurd (cc)
by_set P (EndSession session quiet) is f g h b j = absurd (cc)
by_set P (AddTree pipes) is f g h b j = absurd (cc)
by_set P DropTree is f g h b j = absurd (cc)

roomless : (v : Verdict) → IsSet v → IsSet (without_room v)
roomless v is =
    by_set (λ u. IsSet (without_room u)) v is (λ status. refl) refl (λ session. refl) (λ session user previous r quiet. refl)
    (λ session. refl)

found_sets : (t : Server) (m : Message) (r : SetupRequest) (v : Verdict) → m.command ≡ Setup r → Finds t m v → IsSet v
found_sets t m r v e (inl q) = subst IsSet (sym q) (check_sets t m r e)
found_sets t m r v e (inr q) = subst IsSet (sym q) (roomless (check t m) (check_sets t m r e))

slots_not : (v : Verdict) → IsSet v → is_slot_verdict v ≡ false
slots_not v is =
    by_set (λ u. is_slot_verdict u ≡ false) v is (λ status. refl) refl (λ session. refl) (λ session user previous r quiet. refl)
    (λ session. refl)

kept_new : (v : Verdict) → IsSet v → NewKept v
kept_new v is = by_set NewKept v is (λ status. tt) tt (λ session. tt) (λ session user previous r quiet. tt) (λ session. tt)

-- ---- creates

-- what creates ask of sessions, of the state that the checks see
record Sees (c : Client) (conns : ℕ → Conn) (t : Server) : Type 0 where
  here : (x : ℕ) → t.present x ≡ true → 0 < c.rank x → x ≡ c.accepted
  lives : c.live ≡ true → (c.session ≡ c.accepted) × (0 < c.rank c.session)
  ranked : (j n h : ℕ) (y : Sent) → slice_get (conns j).up n ≡ Some y → y.token ≡ ForOp h → 0 < c.rank y.message.session_id
  making : (k x : ℕ) → is_new x (t.making k) ≡ true → c.rank x ≡ 0

sees_before : (c : Client) (conns : ℕ → Conn) (s : Server) (now : ℕ) (t : Server) → Sessions c conns s → Before s now t → Sees c conns t
sees_before c conns s now t i before =
    let q = before_stays s now t before in
    record {
      here = λ x p. i.present_accepted x (ap (λ g. g x) (sym q.present) ∙ p);
      lives = λ l. (let a = i.live_accepted l in (a.0, subst (λ y. 0 < c.rank y) (sym a.0) a.1));
      ranked = λ j n h y at e. i.ranked_up j n y at (ap is_ops e);
      making = λ k x e. i.making_unranked k x (ap (λ g. is_new x (g k)) (sym q.making) ∙ e);
    }

ends_creates : (c : Client) (conns : ℕ → Conn) (a : ℕ → ℕ) (t : Server) (x now : ℕ) (quiet : Bool) → Sees c conns t
    → Creates c conns (seen t) a → Creates c conns (seen (end_session t x now quiet)) a
ends_creates c conns a t x now quiet q i =
    subst (λ v. Creates c conns v a) (sym (end_seen t x now quiet))
    (end_of_creates c conns (seen t) a x q.here (λ l. (q.lives l).0) q.ranked i)

named_creates : (c : Client) (conns : ℕ → Conn) (a : ℕ → ℕ) (t : Server) (now : ℕ) (quiet : Bool) → Sees c conns t
    → Creates c conns (seen t) a → (previous : Option ℕ) → Creates c conns (seen (end_if_named t now previous quiet)) a
named_creates c conns a t now quiet q i None = i
named_creates c conns a t now quiet q i (Some x) = ends_creates c conns a t x now quiet q i

begins_creates : (c : Client) (conns : ℕ → Conn) (a : ℕ → ℕ) (t : Server) (m : Message) (now : ℕ) (user : List ℕ) (previous : Option ℕ)
    (r : SetupRequest) (quiet : Bool) → c.rank m.session_id ≡ 0 → Sees c conns t → Creates c conns (seen t) a
    → Creates c conns (seen (add_session (end_if_named t now previous quiet) m user r)) a
begins_creates c conns a t m now user previous r quiet new q i =
    begin_of_creates c conns (seen (end_if_named t now previous quiet)) a m.session_id new (λ l. (q.lives l).1) q.ranked
    (named_creates c conns a t now quiet q i previous)

new_is : (x : ℕ) (o : Option Making) → o ≡ Some (NewSession x) → is_new x o ≡ true
new_is x o e = ap (is_new x) e ∙ eq-eqb x x refl

creates_at : (c : Client) (conns : ℕ → Conn) (a : ℕ → ℕ) (t : Server) (m : Message) (now : ℕ) (v : Verdict) (records : List Record)
    → IsSet v → Facts t m v → Sees c conns t → Creates c conns (seen t) a
    → Creates c conns (seen (recorded (apply t m now v) records).server) a
creates_at c conns a t m now v records is f q i =
    by_set (λ u. Facts t m u → Creates c conns (seen (recorded (apply t m now u) records).server) a) v is (λ status w. i) (λ w. i)
    (λ session w. i)
    (λ session user previous r quiet w. begins_creates c conns a t m now user previous r quiet
    (q.making m.connection m.session_id (new_is m.session_id (t.making m.connection) w.making)) q i)
    (λ session w. i) f

creates_before : (c : Client) (conns : ℕ → Conn) (a : ℕ → ℕ) (s : Server) (now : ℕ) (t : Server) → Creates c conns (seen s) a
    → Before s now t → Creates c conns (seen t) a
creates_before c conns a s now t i (inl e) = subst (λ u. Creates c conns (seen u) a) (sym e) i
creates_before c conns a s now t i (inr x) =
    let d = with_deadlines s now in
    subst (λ u. Creates c conns (seen u) a) (sym x.2) (subst (λ v. Creates c conns v a) (sym (expire_seen d x.0))
    (expire_by_creates c conns (seen d) a x.0 (d.opened x.0).create_guid refl i))

pub setup_creates : (c : Client) (conns : ℕ → Conn) (a : ℕ → ℕ) (s : Server) (now : ℕ) (m : Message) (r : SetupRequest)
    → m.command ≡ Setup r → Sessions c conns s → Creates c conns (seen s) a → Creates c conns (seen (step s now (Heard m)).server) a
setup_creates c conns a s now m r e sits i =
    by_verdict (λ A. Creates c conns (seen A.server) a) s now m
    (λ t v records before finds. creates_at c conns a t m now v records (found_sets t m r v e finds) (found t m v finds)
    (sees_before c conns s now t sits before) (creates_before c conns a s now t i before))

-- ---- locks

setup_closes : (c : Command) (r : SetupRequest) (o : ℕ) → c ≡ Setup r → closes_in c o ≡ false
unfolding closes_in
setup_closes c r o e = subst (λ d. closes_in d o ≡ false) (sym e) refl

pub setup_keeps : (c : Command) (r : SetupRequest) → c ≡ Setup r → c ≢ TreeDisconnect
setup_keeps c r e = λ f. absurd (let h : Setup r ≡ TreeDisconnect = sym e ∙ f in cc)

never_both : (b : Bool) → b ≡ false → b ≡ true → (P : Type 0) → P
never_both b e f P = absurd (cc)

locks_at : (c : Client) (conns : ℕ → Conn) (t : Server) (a : ℕ → ℕ) (now : ℕ) (m : Message) (r : SetupRequest) (v : Verdict)
    (rs : List Record) → m.command ≡ Setup r → IsSet v → Facts t m v → Lower c conns t → Connections c conns a → Locks c conns t a
    → (lower_limit < t.journal + 35 → Ending (apply t m now v).records rs) → Locks c conns (recorded (apply t m now v) rs).server a
locks_at c conns t a now m r v rs e is f l links i bare =
    let A = apply t m now v in
    quiet_keeps c conns t a (recorded A rs).server a m.connection (closes_in m.command) l links (λ p q. refl)
    (grows (news t m) (closes_in m.command) (view t) (view A.server) (entry_bytes rs) quiet) (λ big. by_ends big (bare big)) i.made_plain
    (undeleting t m now v (kept_new v is) i.kept_files)
    (λ g lo s0 un lv p sd cl off. never_both _ (setup_closes m.command r _ e) cl _)
    (λ j n g y h tk ok lv p sd cl off. never_both _ (setup_closes m.command r _ e) cl _) i
  where
    fuller : (n k b : ℕ) → n ≤ k → lower_limit < n + 35 → 34 ≤ b → lower_limit < k + b + 34
    fuller n k b g j h = omega (arith, g, j, h)

    quiet : Quiet (news t m) (closes_in m.command) (view t) (view (apply t m now v).server)
    quiet = verdict_quiet t m now v (λ o y h. (l.attached o y h).1) (setup_keeps m.command r e) f (slots_not v is)

    steady_with : (u : Server) (n : ℕ) → Steady t u → Steady t (record u { journal = n })
    steady_with u n x = record { entries = x.entries; delete_pending = x.delete_pending; directory = x.directory; others = x.others }

    calm_with : (u : Server) (n : ℕ) → Calm t u → Calm t (record u { journal = n })
    calm_with u n x = record { delete_pending = x.delete_pending; others = x.others }

    by_ends : lower_limit < t.journal + 35 → Ending (apply t m now v).records rs → Steadies t (recorded (apply t m now v) rs).server
    by_ends big (inl q) = inl (steady_with (apply t m now v).server _ (bare_steady t m now v (setup_keeps m.command r e) f q))
    by_ends big (inr q) = inr (
      calm_with (apply t m now v).server _ (ends_calm t m now v (setup_keeps m.command r e) f q.0),
      fuller t.journal (apply t m now v).server.journal (entry_bytes rs) quiet.journal big q.1,
    )

pub setup_locks : (c : Client) (conns : ℕ → Conn) (s : Server) (a : ℕ → ℕ) (now : ℕ) (m : Message) (r : SetupRequest) → m.command ≡ Setup r
    → Under c conns s a → Locks c conns s a → Locks c conns (step s now (Heard m)).server a
setup_locks c conns s a now m r e u i =
    let d = with_deadlines s now in
    let low = lower_of c conns s a u in
    by_room (λ A. Locks c conns A.server a) s now m u.fits.limit
    (λ t v front before full is room. let x = before_keeps c conns s a now t before full low u.links i in
    locks_at c conns t a now m r v _ e (found_sets t m r v e (inl is)) (found t m v (inl is)) x.0 u.links x.1
    (λ big. ends_of d front (apply t m now v).records u.fits.limit (big_apply t m now v) room
    (subst (λ z. lower_limit < z + 35) (journal_before s now t before) big)))
    (λ v is room. let x = before_keeps c conns s a now d (inl refl) (λ _. inl refl) low u.links i in
    locks_at c conns d a now m r v _ e (found_sets d m r v e (inr is)) (found d m v (inr is)) x.0 u.links x.1
    (λ big. inl (subst (λ z. (apply d m now z).records ≡ []) (sym is) (bare_full d m now (check d m)))))
