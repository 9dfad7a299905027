-- What the server's step does to what is in the making: an interim response puts something there, a final one takes it away, and
-- no other reply adds anything.
use Rattle.spec_exchange.specs.Effects.{opens_of_tree}
use Rattle.law_server.proofs.tables.Closing.{closed_beside}
use Rattle.std.proofs.Common.{◌≡◌, ℕ, ◌==◌, nat_le, Bool, true, false, not, ◌&&◌, ◌||◌, if◌then◌else◌, List}
use Rattle.std.proofs.Common.{inl, inr, refl, sym, ◌∙◌, ap, subst, Option, Some, None, is_some, arith}
use Rattle.spec_exchange.specs.Table.{put}
use Rattle.spec_exchange.specs.Status.{success, more_processing_required, invalid_parameter}
use Rattle.spec_exchange.specs.Commands.{Command, Aside, Setup, SetupRequest, Shows, Begins, Bad, Refused, Logon, form, is_setup}
use Rattle.spec_exchange.specs.State.{Server, Message, Making, Reply, Record, Answer, Heard}
use Rattle.spec_exchange.specs.Verdict.{Verdict, Refuse, Give, KeepRefusal, Repeat, Attach, Make, TurnDown, Tell, Show, KeepSlot, PutRanges}
use Rattle.spec_exchange.specs.Verdict.{Alter, CloseOpen, Challenge, ChallengeBinding, Begin, Join, EndSession, AddTree, DropTree}
use Rattle.spec_exchange.specs.Check.{check, has_session, owed, formed, command_check}
use Rattle.spec_exchange.specs.CheckSetup.{setup_check, session_check, binding_check, live_binding}
use Rattle.spec_exchange.specs.CheckSetup.{second_binding, first_binding}
use Rattle.spec_exchange.specs.CheckSetup.{granted_binding, second_token, first_token, granted_session, is_new, is_binding, count_channels}
use Rattle.spec_exchange.specs.CheckSetup.{max_sessions, max_channels, max_numbers}
use Rattle.spec_exchange.specs.Opens.{max_ids}
use Rattle.spec_exchange.specs.Texts.{same_name}
use Rattle.spec_exchange.specs.CheckOpen.{file_of}
use Rattle.spec_exchange.specs.Opens.{leave_open}
use Rattle.spec_exchange.specs.Effects.{apply, reach, set_ranges}
use Rattle.spec_exchange.specs.Step.{step, without_room}
use Rattle.spec_exchange.specs.Network.{answer_to, untouched}
use Rattle.law_server.proofs.tables.Logic.{either}
use Rattle.law_server.proofs.tables.Doors.{by_verdict, Finds, recorded}
use Rattle.law_server.proofs.tables.Found.{Facts}
use Rattle.law_server.proofs.tables.Checked.{checked, lesser}
use Rattle.law_sessions.proofs.sessions.Columns.{stays_so, stays_attached, stays_made, stays_reached, stays_kept}
use Rattle.law_sessions.proofs.sessions.Columns.{stays_ranged, stays_changed}
use Rattle.law_sessions.proofs.sessions.Columns.{stays_left, stays_closed}
use Rattle.law_sessions.proofs.sessions.Answers.{ends}
use Rattle.law_sessions.proofs.sessions.Heard.{before_stays}
use Rattle.spec_world.specs.Logon.{Progress, Stays as StaysSo, Interim, Final, progress, setup_progress}

-- ---- a status that is neither success nor the interim one

pub record IsOther (status : ℕ) : Type 0 where
  pub fails : (status == success) ≡ false
  pub ends : (status == more_processing_required) ≡ false

abbrev pub FaultFine : Option ℕ → Type 0
FaultFine None = Unit {0}
FaultFine (Some status) = IsOther status

-- ---- the verdicts on a SESSION_SETUP

abbrev pub SetupKind : Server → Message → Verdict → Type 0
SetupKind s m (Refuse status) = IsOther status
SetupKind s m Challenge = Unit {0}
SetupKind s m (ChallengeBinding session) = Unit {0}
SetupKind s m (Begin session user previous r is_quiet) = is_some (s.making m.connection) ≡ true
SetupKind s m (Join session) =
    (is_some (s.making m.connection) ≡ true) × (session ≡ m.session_id)
    × (nat_le max_numbers (s.channel_numbers_drawn m.session_id) ≡ false)
SetupKind s m _ = ⊥

new_some : (session : ℕ) (o : Option Making) → is_new session o ≡ true → is_some o ≡ true
new_some session None e = e
new_some session (Some x) e = refl

binding_some : (session : ℕ) (o : Option Making) → is_binding session o ≡ true → is_some o ≡ true
binding_some session None e = e
binding_some session (Some x) e = refl

granted_kind : (s : Server) (m : Message) (r : SetupRequest) (user : List ℕ) → is_some (s.making m.connection) ≡ true
    → SetupKind s m (granted_session s m r user)
granted_kind s m r user made =
    either (λ v. SetupKind s m v) (s.encrypts && (r.cipher == 0)) _ _ (λ _. record { fails = refl; ends = refl })
    (λ _. either (λ v. SetupKind s m v) (nat_le max_sessions s.sessions) _ _ (λ _. record { fails = refl; ends = refl }) (λ _. made))

second_kind : (s : Server) (m : Message) (r : SetupRequest) (h : Shows) → is_some (s.making m.connection) ≡ true
    → SetupKind s m (second_token s m r h)
second_kind s m r Begins made = record { fails = refl; ends = refl }
second_kind s m r Bad made = record { fails = refl; ends = refl }
second_kind s m r Refused made = record { fails = refl; ends = refl }
second_kind s m r (Logon user) made = granted_kind s m r user made

first_kind : (s : Server) (m : Message) (h : Shows) → SetupKind s m (first_token s h)
first_kind s m Begins = either (λ v. SetupKind s m v) (nat_le max_ids s.session_ids_given) _ _ (λ _. record {
  fails = refl;
  ends = refl;
}) (λ _. tt)
first_kind s m Bad = record { fails = refl; ends = refl }
first_kind s m Refused = record { fails = refl; ends = refl }
first_kind s m (Logon user) = record { fails = refl; ends = refl }

session_kind : (s : Server) (m : Message) (r : SetupRequest) → SetupKind s m (session_check s m r)
session_kind s m r =
    either (λ v. SetupKind s m v) (m.session_id == 0) _ _
    (λ _. either (λ v. SetupKind s m v) (is_some (s.session_on m.connection)) _ _ (λ _. record {
      fails = refl;
      ends = refl;
    }) (λ _. first_kind s m r.shows))
    (λ _. either (λ v. SetupKind s m v) (s.present m.session_id) _ _ (λ _. record { fails = refl; ends = refl })
    (λ _. either (λ v. SetupKind s m v) (is_new m.session_id (s.making m.connection)) _ _
    (λ e. second_kind s m r r.shows (new_some m.session_id (s.making m.connection) e)) (λ _. record { fails = refl; ends = refl })))

granted_binding_kind : (s : Server) (m : Message) (user : List ℕ) → is_some (s.making m.connection) ≡ true
    → SetupKind s m (granted_binding s m user)
granted_binding_kind s m user made =
    either (λ v. SetupKind s m v) (not (same_name user (s.user m.session_id))) _ _ (λ _. record { fails = refl; ends = refl })
    (λ _. either (λ v. SetupKind s m v) (nat_le max_channels (count_channels s.session_on s.connections m.session_id)) _
    _ (λ _. record { fails = refl; ends = refl })
    (λ _. either (λ v. SetupKind s m v) (nat_le max_numbers (s.channel_numbers_drawn m.session_id)) _ _ (λ _. record {
      fails = refl;
      ends = refl;
    }) (λ left. (made, refl, left))))

second_binding_kind : (s : Server) (m : Message) (h : Shows) → is_some (s.making m.connection) ≡ true → SetupKind s m (second_binding s m h)
second_binding_kind s m Begins made = tt
second_binding_kind s m Bad made = record { fails = refl; ends = refl }
second_binding_kind s m Refused made = record { fails = refl; ends = refl }
second_binding_kind s m (Logon user) made = granted_binding_kind s m user made

first_binding_kind : (s : Server) (m : Message) (h : Shows) → SetupKind s m (first_binding m h)
first_binding_kind s m Begins = tt
first_binding_kind s m Bad = record { fails = refl; ends = refl }
first_binding_kind s m Refused = record { fails = refl; ends = refl }
first_binding_kind s m (Logon user) = record { fails = refl; ends = refl }

live_kind : (s : Server) (m : Message) (r : SetupRequest) → SetupKind s m (live_binding s m r)
live_kind s m r =
    either (λ v. SetupKind s m v) (not r.signed) _ _ (λ _. record { fails = refl; ends = refl })
    (λ _. either (λ v. SetupKind s m v) (not (m.client_guid == s.client m.session_id)) _ _ (λ _. record { fails = refl; ends = refl })
    (λ _. either (λ v. SetupKind s m v)
    (not ((r.cipher == s.cipher m.session_id) && (r.signing == s.signing m.session_id))) _ _ (λ _. record {
      fails = refl;
      ends = refl;
    })
    (λ _. either (λ v. SetupKind s m v) (is_some (s.session_on m.connection)) _ _ (λ _. record { fails = refl; ends = refl })
    (λ _. either (λ v. SetupKind s m v) (not r.verified) _ _ (λ _. record { fails = refl; ends = refl })
    (λ _. either (λ v. SetupKind s m v) (is_binding m.session_id (s.making m.connection)) _ _
    (λ e. second_binding_kind s m r.shows (binding_some m.session_id (s.making m.connection) e)) (λ _. first_binding_kind s m r.shows))))))

binding_kind : (s : Server) (m : Message) (r : SetupRequest) → SetupKind s m (binding_check s m r)
binding_kind s m r =
    either (λ v. SetupKind s m v) (s.present m.session_id) _ _ (λ _. live_kind s m r)
    (λ _. either (λ v. SetupKind s m v) (not (is_new m.session_id (s.making m.connection))) _ _ (λ _. record { fails = refl; ends = refl })
    (λ _. either (λ v. SetupKind s m v) (not r.signed) _ _ (λ _. record { fails = refl; ends = refl }) (λ _. record {
      fails = refl;
      ends = refl;
    })))

setup_kind : (s : Server) (m : Message) (r : SetupRequest) → SetupKind s m (setup_check s m r)
setup_kind s m r = either (λ v. SetupKind s m v) r.binding _ _ (λ _. binding_kind s m r) (λ _. session_kind s m r)

form_fine : (r : SetupRequest) → FaultFine (form (Setup r))
form_fine r = either FaultFine r.readable None (Some invalid_parameter) (λ _. tt) (λ _. record { fails = refl; ends = refl })

formed_kind : (s : Server) (m : Message) (r : SetupRequest) → m.command ≡ Setup r → (o : Option ℕ) → FaultFine o
    → SetupKind s m (formed s m o)
formed_kind s m r e (Some status) fine = fine
formed_kind s m r e None fine = subst (λ c. SetupKind s m (command_check s m c)) (sym e) (setup_kind s m r)

owed_kind : (s : Server) (m : Message) (r : SetupRequest) → m.command ≡ Setup r → (o : Option ℕ) → FaultFine o → SetupKind s m (owed s m o)
owed_kind s m r e (Some status) fine = fine
owed_kind s m r e None fine = formed_kind s m r e (form m.command) (subst (λ c. FaultFine (form c)) (sym e) (form_fine r))

pub check_kind : (s : Server) (m : Message) (r : SetupRequest) → m.command ≡ Setup r → FaultFine m.fault → SetupKind s m (check s m)
check_kind s m r e fine =
    either (λ v. SetupKind s m v) (is_setup m.command || has_session s m) _ _ (λ _. owed_kind s m r e m.fault fine)
    (λ _. record { fails = refl; ends = refl })

pub lesser_kind : (s : Server) (m : Message) (v : Verdict) → SetupKind s m v → SetupKind s m (without_room v)
lesser_kind s m (Refuse status) k = k
lesser_kind s m Challenge k = k
lesser_kind s m (ChallengeBinding session) k = k
lesser_kind s m (Begin session user previous r is_quiet) k = k
lesser_kind s m (Join session) k = k
lesser_kind s m (Give body) k = absurd k
lesser_kind s m (KeepRefusal guid status) k = absurd k
lesser_kind s m (Repeat o r) k = absurd k
lesser_kind s m (Attach o r) k = absurd k
lesser_kind s m (Make r found action) k = absurd k
lesser_kind s m (TurnDown o status) k = absurd k
lesser_kind s m (Tell o body) k = absurd k
lesser_kind s m (Show o last body) k = absurd k
lesser_kind s m (KeepSlot o index number status elements) k = absurd k
lesser_kind s m (PutRanges o index number ranges elements) k = absurd k
lesser_kind s m (Alter o change body) k = absurd k
lesser_kind s m (CloseOpen o body) k = absurd k
lesser_kind s m (EndSession session is_quiet) k = absurd k
lesser_kind s m (AddTree pipes) k = absurd k
lesser_kind s m DropTree k = absurd k

-- ---- what a reply says of what is in the making before and behind it

abbrev pub Shape : Progress → Bool → Bool → Type 0
Shape StaysSo before after = after ≡ true → before ≡ true
Shape (Interim binding) before after = Unit {0}
Shape (Final binding channel encrypts) before after = (before ≡ true) × (after ≡ false)

pub record Moves (old : ℕ → Option Making) (m : Message) (A : Answer) : Type 0 where
  pub elsewhere : (j : ℕ) → (j == m.connection) ≡ false → is_some (A.server.making j) ≡ true → is_some (old j) ≡ true
  pub here : Shape (progress m.command A.reply) (is_some (old m.connection)) (is_some (A.server.making m.connection))

other_shape : (binding : Bool) (r : Reply) (b a : Bool) → IsOther r.status → (a ≡ true → b ≡ true) → Shape (setup_progress binding r) b a
other_shape binding r b a o stays =
    either (λ p. Shape p b a) (r.status == more_processing_required) _ _ (λ e. absurd (let q = o.ends in cc))
    (λ _. either (λ p. Shape p b a) (r.status == success) _ _ (λ e. absurd (let q = o.fails in cc)) (λ _. stays))

-- a reply that isn't a SESSION_SETUP's, or another status to one
quiet_shape : (c : Command) (r : Reply) (b a : Bool) → (a ≡ true → b ≡ true)
    → ((q : SetupRequest) → c ≡ Setup q → IsOther r.status) → Shape (progress c r) b a
quiet_shape (Setup request) r b a stays other = other_shape request.binding r b a (other request refl) stays
quiet_shape c r b a stays other = stays

quiet_moves : (old : ℕ → Option Making) (m : Message) (A : Answer) → A.server.making ≡ old
    → ((q : SetupRequest) → m.command ≡ Setup q → IsOther A.reply.status) → Moves old m A
quiet_moves old m A same other =
    record {
      elsewhere = λ j off e. ap (λ f. is_some (f j)) (sym same) ∙ e;
      here = quiet_shape m.command A.reply (is_some (old m.connection)) (is_some (A.server.making m.connection))
          (λ e. ap (λ f. is_some (f m.connection)) (sym same) ∙ e) other;
    }

put_elsewhere : (f : ℕ → Option Making) (k j : ℕ) (o : Option Making) → (j == k) ≡ false → is_some (put f k o j) ≡ true
    → is_some (f j) ≡ true
put_elsewhere f k j o off e = ap (λ b. is_some (if b then o else f j)) (sym off) ∙ e

none_here : (f : ℕ → Option Making) (k : ℕ) → is_some (put f k None k) ≡ false
none_here f k = grind arith

at_interim : (binding : Bool) (r : Reply) (b a : Bool) → r.status ≡ more_processing_required → Shape (setup_progress binding r) b a
at_interim binding r b a is =
    either (λ p. Shape p b a) (r.status == more_processing_required) _ _ (λ _. tt)
    (λ off. absurd (let q : (r.status == more_processing_required) ≡ true = ap (λ n. n == more_processing_required) is in cc))

at_final : (binding : Bool) (r : Reply) (b a : Bool) → r.status ≡ success → b ≡ true → a ≡ false → Shape (setup_progress binding r) b a
at_final binding r b a is before after =
    either (λ p. Shape p b a) (r.status == more_processing_required) _ _ (λ _. tt)
    (λ _. either (λ p. Shape p b a) (r.status == success) _ _ (λ _. (before, after))
    (λ off. absurd (let q : (r.status == success) ≡ true = ap (λ n. n == success) is in cc)))

-- something is put in the making, and the reply is the interim one
begun_moves : (old : ℕ → Option Making) (m : Message) (A : Answer) (r : SetupRequest) (o : Option Making)
    → A.server.making ≡ put old m.connection o → m.command ≡ Setup r
    → A.reply.status ≡ more_processing_required → Moves old m A
begun_moves old m A r o same e is =
    record {
      elsewhere = λ j off h. put_elsewhere old m.connection j o off (ap (λ f. is_some (f j)) (sym same) ∙ h);
      here = subst (λ c. Shape (progress c A.reply) (is_some (old m.connection)) (is_some (A.server.making m.connection))) (sym e)
          (at_interim r.binding A.reply (is_some (old m.connection)) (is_some (A.server.making m.connection)) is);
    }

-- it is taken away, and the reply is the final one
ended_moves : (old : ℕ → Option Making) (m : Message) (A : Answer) (r : SetupRequest) → A.server.making
    ≡ put old m.connection None → m.command ≡ Setup r
    → A.reply.status ≡ success → is_some (old m.connection) ≡ true → Moves old m A
ended_moves old m A r same e is made =
    record {
      elsewhere = λ j off h. put_elsewhere old m.connection j None off (ap (λ f. is_some (f j)) (sym same) ∙ h);
      here = subst (λ c. Shape (progress c A.reply) (is_some (old m.connection)) (is_some (A.server.making m.connection))) (sym e)
          (at_final r.binding A.reply (is_some (old m.connection)) (is_some (A.server.making m.connection)) is made
          (ap (λ f. is_some (f m.connection)) same ∙ none_here old m.connection));
    }

-- ---- each verdict

abbrev pub Kinds : Server → Message → Verdict → Type 0
Kinds s m v = (q : SetupRequest) → m.command ≡ Setup q → SetupKind s m v

verdict_moves : (s : Server) (m : Message) (now : ℕ) (records : List Record) (v : Verdict) → Facts s m v → Kinds s m v
    → Moves s.making m (recorded (apply s m now v) records)
verdict_moves s m now records (Refuse status) f k = quiet_moves s.making m _ refl k
verdict_moves s m now records (Give body) f k = quiet_moves s.making m _ refl (λ q e. absurd (k q e))
verdict_moves s m now records (KeepRefusal guid status) f k = quiet_moves s.making m _ refl (λ q e. absurd (k q e))
verdict_moves s m now records (Repeat o r) f k = quiet_moves s.making m _ (let h = stays_attached s m o in h.making) (λ q e. absurd (k q e))
verdict_moves s m now records (Attach o r) f k = quiet_moves s.making m _ (let h = stays_attached s m o in h.making) (λ q e. absurd (k q e))
verdict_moves s m now records (Make r found action) f k = quiet_moves s.making m _ (let h = stays_made s r found now in
    h.making) (λ q e. absurd (k q e))
verdict_moves s m now records (TurnDown o status) f k = quiet_moves s.making m _ (let h = stays_reached s m o in
    h.making) (λ q e. absurd (k q e))
verdict_moves s m now records (Tell o body) f k = quiet_moves s.making m _ (let h = stays_reached s m o in h.making) (λ q e. absurd (k q e))
verdict_moves s m now records (Show o last body) f k = quiet_moves s.making m _ (let h = stays_reached s m o in
    h.making) (λ q e. absurd (k q e))
verdict_moves s m now records (KeepSlot o index number status elements) f k =
    let h = stays_so s (reach s m o) _ (stays_reached s m o) (stays_kept (reach s m o) o index number status) in
    quiet_moves s.making m _ h.making (λ q e. absurd (k q e))
verdict_moves s m now records (PutRanges o index number ranges elements) f k =
    let a = reach s m o in
    let b = set_ranges a (file_of s o) ranges in
    let h = stays_so s a _ (stays_reached s m o) (stays_so a b _ (stays_ranged a (file_of s o) ranges)
    (stays_kept b o index number success)) in
    quiet_moves s.making m _ h.making (λ q e. absurd (k q e))
verdict_moves s m now records (Alter o change body) f k =
    let h = stays_so s (reach s m o) _ (stays_reached s m o) (stays_changed (reach s m o) (file_of s o) now change) in
    quiet_moves s.making m _ h.making (λ q e. absurd (k q e))
verdict_moves s m now records (CloseOpen o body) f k =
    let h = stays_so s (leave_open s o) _ (stays_left s o) (stays_closed (leave_open s o) m.session_id (s.opened o).create_guid) in
    quiet_moves s.making m _ h.making (λ q e. absurd (k q e))
verdict_moves s m now records Challenge f k = begun_moves s.making m _ f.request _ refl f.command refl
verdict_moves s m now records (ChallengeBinding session) f k = begun_moves s.making m _ f.request _ refl f.command refl
verdict_moves s m now records (Begin session user previous r is_quiet) f k =
    let h = ends s now is_quiet previous in
    ended_moves s.making m _ r (ap (λ t. put t m.connection None) h.making) f.command refl (ap is_some f.making)
verdict_moves s m now records (Join session) f k =
    let b = f.binding in
    ended_moves s.making m _ b.request refl b.command refl (binding_some m.session_id (s.making m.connection) f.making)
verdict_moves s m now records (EndSession session is_quiet) f k = quiet_moves s.making m _ refl (λ q e. absurd (k q e))
verdict_moves s m now records (AddTree pipes) f k = quiet_moves s.making m _ refl (λ q e. absurd (k q e))
verdict_moves s m now records DropTree f k = quiet_moves s.making m _
    (closed_beside s m.session_id (opens_of_tree s m.session_id m.tree_id)).making (λ q e. absurd (k q e))

-- ---- the step

pub found_facts : (t : Server) (m : Message) (v : Verdict) → Finds t m v → Facts t m v
found_facts t m v (inl e) = subst (λ u. Facts t m u) (sym e) (checked t m)
found_facts t m v (inr e) = subst (λ u. Facts t m u) (sym e) (lesser t m (check t m) (checked t m))

pub found_kinds : (t : Server) (m : Message) (v : Verdict) → FaultFine m.fault → Finds t m v → Kinds t m v
found_kinds t m v fine (inl e) = λ q c. subst (λ u. SetupKind t m u) (sym e) (check_kind t m q c fine)
found_kinds t m v fine (inr e) = λ q c. subst (λ u. SetupKind t m u) (sym e) (lesser_kind t m (check t m) (check_kind t m q c fine))

stepped : (s : Server) (now : ℕ) (m : Message) → FaultFine m.fault → Moves s.making m (step s now (Heard m))
stepped s now m fine =
    by_verdict (λ A. Moves s.making m A) s now m
    (λ t v records b f. subst (λ old. Moves old m (recorded (apply t m now v) records)) (let h = before_stays s now t b in h.making)
    (verdict_moves t m now records v (found_facts t m v f) (found_kinds t m v fine f)))

not_setup : (status : ℕ) (q : SetupRequest) (c : Command) → c ≡ Aside status → c ≡ Setup q → (P : Type 0) → P
not_setup status q c a b P = absurd (let e : Aside status ≡ Setup q = sym a ∙ b in cc)

pub answered : (s : Server) (now : ℕ) (m : Message) (c : Command) → m.command ≡ c → FaultFine m.fault
    → Moves s.making m (answer_to s now m c)
answered s now m (Aside status) e fine = quiet_moves s.making m (untouched s m status) refl (λ q h. not_setup status q m.command e h _)
answered s now m c e fine = stepped s now m fine
