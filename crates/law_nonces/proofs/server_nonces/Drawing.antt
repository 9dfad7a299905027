-- What the server's step does to the numbers of sessions: a final response draws the next one of its session, and nothing else does.
use Rattle.spec_exchange.specs.Effects.{opens_of_tree, close_all}
use Rattle.law_server.proofs.tables.Closing.{closed_beside}
use Rattle.law_sessions.proofs.sessions.Columns.{stays_all_closed}
use Rattle.std.proofs.Common.{◌≡◌, ℕ, ◌+◌, ◌==◌, ◌≤◌, ◌<◌, ◌^◌, nat_le, Bool, true, false, if◌then◌else◌}
use Rattle.std.proofs.Common.{List, length, inl, inr, refl, sym, ◌∙◌, ap, subst, Option, Some, None}
use Rattle.std.proofs.Common.{arith, eqb-true}
use Rattle.std.proofs.lemmas.Bool.Decides.{nat_tests}
use Rattle.spec_exchange.specs.Table.{put}
use Rattle.spec_exchange.specs.Status.{success, more_processing_required}
use Rattle.spec_exchange.specs.Commands.{Command, Aside, Setup, SetupRequest}
use Rattle.spec_exchange.specs.State.{Server, Message, ServerEvent, Accept, End, Making, NewSession, Binding, Reply, Record, Answer, Heard}
use Rattle.spec_exchange.specs.Verdict.{Verdict, Refuse, Give, KeepRefusal, Repeat, Attach, Make, TurnDown, Tell, Show, KeepSlot, PutRanges}
use Rattle.spec_exchange.specs.Verdict.{Alter, CloseOpen, Challenge, ChallengeBinding, Begin, Join, EndSession, AddTree, DropTree}
use Rattle.spec_exchange.specs.CheckSetup.{max_numbers}
use Rattle.spec_exchange.specs.CheckOpen.{file_of}
use Rattle.spec_exchange.specs.Opens.{id_of, leave_open}
use Rattle.spec_exchange.specs.Effects.{apply, reach, set_ranges, end_if_named, next_session, file_made}
use Rattle.spec_exchange.specs.Step.{step, with_deadlines, Ruling, TakesIn, TurnsAway, TakesOut, ruling_without_room}
use Rattle.spec_exchange.specs.Step.{carried_out, max_connections, ends_with, forget_connection}
use Rattle.spec_exchange.specs.Network.{answer_to, untouched}
use Rattle.law_server.specs.tables.Fits.{Fits}
use Rattle.law_server.proofs.tables.Logic.{either}
use Rattle.law_server.proofs.tables.Doors.{by_verdict, by_ruling, Before, Front, Rules, recorded}
use Rattle.law_server.proofs.tables.Found.{Facts}
use Rattle.law_server.proofs.tables.SessionEffects.{deadlines_keeps}
use Rattle.law_server.proofs.tables.Applied.{expired_keeps, end_if_named_keeps}
use Rattle.law_sessions.proofs.sessions.Columns.{Stays, stays_so, stays_same, stays_attached, stays_made, stays_reached}
use Rattle.law_sessions.proofs.sessions.Columns.{stays_kept, stays_ranged}
use Rattle.law_sessions.proofs.sessions.Columns.{stays_changed, stays_left, stays_closed, stays_refused}
use Rattle.law_sessions.proofs.sessions.Answers.{ends}
use Rattle.law_sessions.proofs.sessions.Heard.{before_stays}
use Rattle.spec_world.specs.Logon.{Progress, Stays as StaysSo, Final, progress}
use Rattle.law_nonces.proofs.negotiation.Making.{IsOther, FaultFine, Kinds, found_facts, found_kinds, check_kind}
use Rattle.law_nonces.specs.server_nonces.Numbering.{NonceDraws, next_drawn, DrawsOn, AreNamed, next_names, IsKeyed}
use Rattle.law_nonces.proofs.server_nonces.Drawn.{SameDrawn, attached_drawn, made_drawn, reached_drawn, kept_drawn}
use Rattle.law_nonces.proofs.server_nonces.Drawn.{changed_drawn, left_drawn}
use Rattle.law_nonces.proofs.server_nonces.Drawn.{closed_drawn, expired_drawn}
use Rattle.law_nonces.proofs.server_nonces.Bare.{IsBare, found_bare}

-- ---- where no number is drawn

-- the numbers are the same, and no session is new
pub record SameNumbers (s t : Server) : Type 0 where
  pub present : (x : ℕ) → t.present x ≡ true → s.present x ≡ true
  pub drawn : SameDrawn s t
  pub making : (k x : ℕ) → t.making k ≡ Some (NewSession x) → s.making k ≡ Some (NewSession x)
  pub last : id_of s.epoch s.session_ids_given ≤ id_of t.epoch t.session_ids_given

pub same_draws : (s t : Server) (drawn : ℕ → ℕ) → SameNumbers s t → NonceDraws s drawn → NonceDraws t drawn
same_draws s t drawn q i =
    record {
      present = λ x p. i.present x (q.present x p) ∙ ap (λ (f : ℕ → ℕ). f x) (sym q.drawn);
      making = λ k x e. i.making k x (q.making k x e);
      fresh = λ x above. i.fresh x (let l = q.last in omega (arith, l, above));
    }

pub same_named : (s t : Server) (names : ℕ → ℕ) → SameNumbers s t → AreNamed s names → AreNamed t names
same_named s t names q i = λ x p. i x (q.present x p)

numbers_so : (s t u : Server) → SameNumbers s t → SameNumbers t u → SameNumbers s u
numbers_so s t u a b =
    record {
      present = λ x p. a.present x (b.present x p);
      drawn = b.drawn ∙ a.drawn;
      making = λ k x e. a.making k x (b.making k x e);
      last = (let l = a.last in let r = b.last in omega (arith, l, r));
    }

same_last : (e d n k : ℕ) → d ≡ e → k ≡ n → id_of e n ≤ id_of d k
same_last e d n k a b = omega (arith, a, b)

from_stays : (s t : Server) → Stays s t → SameDrawn s t → SameNumbers s t
from_stays s t q same =
    record {
      present = λ x p. ap (λ (f : ℕ → Bool). f x) (sym q.present) ∙ p;
      drawn = same;
      making = λ k x e. ap (λ (f : ℕ → Option Making). f k) (sym q.making) ∙ e;
      last = same_last s.epoch t.epoch s.session_ids_given t.session_ids_given q.epoch q.session_ids_given;
    }

-- ---- what a message leaves

pub record DrewBy (t : Server) (x : ℕ) (p : Progress) (drawn names : ℕ → ℕ) : Type 0 where
  pub draws : NonceDraws t (next_drawn drawn x p)
  pub on : DrawsOn drawn x p
  pub named : AreNamed t (next_names names x p)
  pub keyed : IsKeyed names x p

abbrev pub Drew : Message → Answer → (ℕ → ℕ) → (ℕ → ℕ) → Type 0
Drew m A drawn names = DrewBy A.server m.session_id (progress m.command A.reply) drawn names

-- of a reply that isn't a SESSION_SETUP's, or of another status to one
quiet_by : (c : Command) (r : Reply) (P : Progress → Type 0) → P StaysSo → ((q : SetupRequest) → c ≡ Setup q → IsOther r.status)
    → P (progress c r)
quiet_by (Setup request) r P stays other =
    let o = other request refl in
    either P (r.status == more_processing_required) _ _ (λ e. absurd (let q = o.ends in cc))
    (λ _. either P (r.status == success) _ _ (λ e. absurd (let q = o.fails in cc)) (λ _. stays))
quiet_by c r P stays other = stays

quiet_drew : (s : Server) (m : Message) (A : Answer) (drawn names : ℕ → ℕ) → SameNumbers s A.server → NonceDraws s drawn
    → AreNamed s names → ((q : SetupRequest) → m.command ≡ Setup q → IsOther A.reply.status) → Drew m A drawn names
quiet_drew s m A drawn names q i n other =
    quiet_by m.command A.reply (λ p. DrewBy A.server m.session_id p drawn names)
    (record { draws = same_draws s A.server drawn q i; on = tt; named = same_named s A.server names q n; keyed = tt }) other

-- the same with records and a longer journal
quiet_recorded : (s : Server) (m : Message) (B : Answer) (records : List Record) (drawn names : ℕ → ℕ) → SameNumbers s B.server
    → NonceDraws s drawn → AreNamed s names → ((q : SetupRequest) → m.command ≡ Setup q → IsOther B.reply.status)
    → Drew m (recorded B records) drawn names
quiet_recorded s m B records drawn names q i n other =
    quiet_drew s m (recorded B records) drawn names
    (record { present = q.present; drawn = q.drawn; making = q.making; last = q.last }) i n other

-- ---- a session or a binding is in the making

not_above : (n : ℕ) (P : Type 0) → n < n → P
not_above n P h = absurd (omega (arith, h))

challenged : (s : Server) (m : Message) (now : ℕ) (records : List Record) (drawn names : ℕ → ℕ) → Facts s m Challenge
    → NonceDraws s drawn → AreNamed s names → Drew m (recorded (apply s m now Challenge) records) drawn names
challenged s m now records drawn names f i n =
    subst (λ c. DrewBy (recorded (apply s m now Challenge) records).server m.session_id
    (progress c (recorded (apply s m now Challenge) records).reply) drawn names) (sym f.command)
    (record {
      draws = record {
        present = i.present;
        making = made;
        fresh = λ x above. i.fresh x (omega (arith, above));
      };
      on = tt;
      named = n;
      keyed = tt;
    })
  where
    next : drawn (next_session s) ≡ 0
    next = i.fresh (next_session s) (omega arith)

    made : (k x : ℕ) → put s.making m.connection (Some (NewSession (next_session s))) k ≡ Some (NewSession x) → drawn x ≡ 0
    made k x = elim (k == m.connection) as (λ b. (if b then Some (NewSession (next_session s)) else s.making k)
        ≡ Some (NewSession x) → drawn x ≡ 0) [
          | true ↦ λ e. (let same : next_session s ≡ x = (let q : Some (NewSession (next_session s)) ≡ Some (NewSession x) = e in cc) in
              ap drawn (sym same) ∙ next)
          | false ↦ λ e. i.making k x e
        ]

challenged_binding : (s : Server) (m : Message) (now session : ℕ) (records : List Record) (drawn names : ℕ → ℕ)
    → Facts s m (ChallengeBinding session) → NonceDraws s drawn → AreNamed s names
    → Drew m (recorded (apply s m now (ChallengeBinding session)) records) drawn names
challenged_binding s m now session records drawn names f i n =
    subst (λ c. DrewBy (recorded (apply s m now (ChallengeBinding session)) records).server m.session_id
    (progress c (recorded (apply s m now (ChallengeBinding session)) records).reply) drawn names) (sym f.command)
    (record {
      draws = record { present = i.present; making = made; fresh = i.fresh };
      on = tt;
      named = n;
      keyed = tt;
    })
  where
    made : (k x : ℕ) → put s.making m.connection (Some (Binding session)) k ≡ Some (NewSession x) → drawn x ≡ 0
    made k x = elim (k == m.connection) as (λ b. (if b then Some (Binding session) else s.making k)
        ≡ Some (NewSession x) → drawn x ≡ 0) [
          | true ↦ λ e. absurd (let q : Some (Binding session) ≡ Some (NewSession x) = e in cc)
          | false ↦ λ e. i.making k x e
        ]

-- ---- tables behind a number

-- at its session and elsewhere
drawn_as : (present : ℕ → Bool) (numbers drawn : ℕ → ℕ) (x n : ℕ) → ((y : ℕ) → present y ≡ true → drawn y ≡ numbers y)
    → (y : ℕ) → put present x true y ≡ true → put drawn x n y ≡ put numbers x n y
drawn_as present numbers drawn x n old y = elim (y == x) as (λ b. (if b then true else present y) ≡ true → (if b then n else drawn y)
    ≡ (if b then n else numbers y)) [
      | true ↦ λ _. refl
      | false ↦ λ h. old y h
    ]

drawn_of : (present : ℕ → Bool) (numbers drawn : ℕ → ℕ) (x n : ℕ) → ((y : ℕ) → present y ≡ true → drawn y ≡ numbers y)
    → (y : ℕ) → present y ≡ true → put drawn x n y ≡ put numbers x n y
drawn_of present numbers drawn x n old y h = elim (y == x) as (λ b. (if b then n else drawn y) ≡ (if b then n else numbers y)) [
  | true ↦ refl
  | false ↦ old y h
]

-- away from the session
drawn_away : (drawn : ℕ → ℕ) (x n y : ℕ) → (y ≡ x → ⊥) → drawn y ≡ 0 → put drawn x n y ≡ 0
drawn_away drawn x n y apart zero = elim (y == x) as (λ b. y == x ≡ b → (if b then n else drawn y) ≡ 0) [
  | true ↦ λ e. absurd (apart (eqb-true y x e))
  | false ↦ λ _. zero
] refl

-- what is made elsewhere
unmade : (making : ℕ → Option Making) (k j y : ℕ) → put making k None j ≡ Some (NewSession y)
    → (making j ≡ Some (NewSession y)) × (j ≡ k → ⊥)
unmade making k j y = elim (j == k) as (λ b. j == k ≡ b → (if b then None else making j) ≡ Some (NewSession y)
    → (making j ≡ Some (NewSession y)) × (j ≡ k → ⊥)) [
      | true ↦ λ _ e. absurd (let q : None ≡ Some (NewSession y) = e in cc)
      | false ↦ λ off e. (e, λ same. absurd (let q : (j == k) ≡ true = grind arith in cc))
    ] refl

named_as : (present : ℕ → Bool) (names : ℕ → ℕ) (x : ℕ) → ((y : ℕ) → present y ≡ true → names y ≡ y) → (y : ℕ)
    → put present x true y ≡ true → put names x x y ≡ y
named_as present names x old y = elim (y == x) as (λ b. y == x ≡ b → (if b then true else present y) ≡ true
    → (if b then x else names y) ≡ y) [
      | true ↦ λ e _. sym (eqb-true y x e)
      | false ↦ λ _ h. old y h
    ] refl

-- ---- a session begins

ended_drawn : (s : Server) (now : ℕ) (previous : Option ℕ) (is_quiet : Bool) → SameDrawn s (end_if_named s now previous is_quiet)
ended_drawn s now None is_quiet = refl
ended_drawn s now (Some session) is_quiet = refl

ended_numbers : (s : Server) (now : ℕ) (previous : Option ℕ) (is_quiet : Bool) → SameNumbers s (end_if_named s now previous is_quiet)
ended_numbers s now previous is_quiet =
    let e = ends s now is_quiet previous in
    let u = end_if_named s now previous is_quiet in
    record {
      present = e.present;
      drawn = ended_drawn s now previous is_quiet;
      making = λ k x h. ap (λ (f : ℕ → Option Making). f k) (sym e.making) ∙ h;
      last = same_last s.epoch u.epoch s.session_ids_given u.session_ids_given e.epoch e.session_ids_given;
    }

-- from the server without the session that it takes the place of
begun_from : (u : Server) (m : Message) (drawn names : ℕ → ℕ) → Fits u → u.making m.connection ≡ Some (NewSession m.session_id)
    → NonceDraws u drawn → AreNamed u names → (t : Server) → t.present ≡ put u.present m.session_id true
    → t.channel_numbers_drawn ≡ put u.channel_numbers_drawn m.session_id 1 → t.making ≡ put u.making m.connection None
    → id_of t.epoch t.session_ids_given ≡ id_of u.epoch u.session_ids_given
    → (encrypts : Bool) → DrewBy t m.session_id (Final false 1 encrypts) drawn names
begun_from u m drawn names fit made i n t present numbers making last encrypts =
    record {
      draws = record {
        present = λ y h. drawn_as u.present u.channel_numbers_drawn drawn m.session_id 1 i.present y
            (ap (λ (f : ℕ → Bool). f y) (sym present) ∙ h) ∙ ap (λ (f : ℕ → ℕ). f y) (sym numbers);
        making = λ j y e. away j y (unmade u.making m.connection j y (ap (λ (f : ℕ → Option Making). f j) (sym making) ∙ e));
        fresh = λ y above. drawn_away drawn m.session_id 1 y (λ same. (let ids = fit.making_ids m.connection m.session_id made in
            let most = ids.1 in absurd (omega (arith, above, same, last, most)))) (i.fresh y (omega (arith, above, last)));
      };
      on = (let zero = i.making m.connection m.session_id made in omega (arith, zero), omega arith);
      named = λ y h. named_as u.present names m.session_id n y (ap (λ (f : ℕ → Bool). f y) (sym present) ∙ h);
      keyed = refl;
    }
  where
    away : (j y : ℕ) → (u.making j ≡ Some (NewSession y)) × (j ≡ m.connection → ⊥) → put drawn m.session_id 1 y ≡ 0
    away j y h = drawn_away drawn m.session_id 1 y
        (λ same. h.1 (fit.making_once j m.connection m.session_id (subst (λ z. u.making j ≡ Some (NewSession z)) same h.0) made))
        (i.making j y h.0)

begun : (s : Server) (m : Message) (now session : ℕ) (user : List ℕ) (previous : Option ℕ) (r : SetupRequest) (is_quiet : Bool)
    (records : List Record) (drawn names : ℕ → ℕ) → Facts s m (Begin session user previous r is_quiet) → r.binding ≡ false
    → Fits s → NonceDraws s drawn → AreNamed s names
    → Drew m (recorded (apply s m now (Begin session user previous r is_quiet)) records) drawn names
begun s m now session user previous r is_quiet records drawn names f bare fit i n =
    let u = end_if_named s now previous is_quiet in
    let q = ended_numbers s now previous is_quiet in
    let e = ends s now is_quiet previous in
    let A = recorded (apply s m now (Begin session user previous r is_quiet)) records in
    subst (λ c. DrewBy A.server m.session_id (progress c A.reply) drawn names) (sym f.command)
    (subst (λ b. DrewBy A.server m.session_id (Final b 1 s.encrypts) drawn names) (sym bare)
    (begun_from u m drawn names (end_if_named_keeps s now previous is_quiet fit)
    (ap (λ (g : ℕ → Option Making). g m.connection) e.making ∙ f.making)
    (same_draws s u drawn q i) (same_named s u names q n) A.server refl refl refl refl s.encrypts))

-- ---- a channel is bound

few : (n : ℕ) → nat_le max_numbers n ≡ false → n + 1 < 2 ^ 16
few n e = grind (arith, nat_tests)

joined : (s : Server) (m : Message) (now : ℕ) (q : SetupRequest) (records : List Record) (drawn names : ℕ → ℕ) → m.command ≡ Setup q
    → q.binding ≡ true → s.present m.session_id ≡ true → nat_le max_numbers (s.channel_numbers_drawn m.session_id) ≡ false
    → Fits s → NonceDraws s drawn → AreNamed s names → Drew m (recorded (apply s m now (Join m.session_id)) records) drawn names
joined s m now q records drawn names e binding there left fit i n =
    let A = recorded (apply s m now (Join m.session_id)) records in
    let next = s.channel_numbers_drawn m.session_id + 1 in
    subst (λ c. DrewBy A.server m.session_id (progress c A.reply) drawn names) (sym e)
    (subst (λ b. DrewBy A.server m.session_id (Final b next s.encrypts) drawn names) (sym binding)
    (record {
      draws = record {
        present = drawn_of s.present s.channel_numbers_drawn drawn m.session_id next i.present;
        making = λ j y h. away j y (unmade s.making m.connection j y h);
        fresh = λ y above. drawn_away drawn m.session_id next y (λ same. (let ids = fit.session_ids m.session_id there in
            let most = ids.1 in absurd (omega (arith, above, same, most)))) (i.fresh y above);
      };
      on = (let same = i.present m.session_id there in omega (arith, same), few (s.channel_numbers_drawn m.session_id) left);
      named = n;
      keyed = n m.session_id there;
    }))
  where
    gone : (b : Bool) → b ≡ true → b ≡ false → ⊥
    gone b on off = absurd (let h : true ≡ false = sym on ∙ off in cc)

    away : (j y : ℕ) → (s.making j ≡ Some (NewSession y)) × (j ≡ m.connection → ⊥)
        → put drawn m.session_id (s.channel_numbers_drawn m.session_id + 1) y ≡ 0
    away j y h = drawn_away drawn m.session_id (s.channel_numbers_drawn m.session_id + 1) y
        (λ same. (let ids = fit.making_ids j y h.0 in gone (s.present y) (ap s.present same ∙ there) ids.2)) (i.making j y h.0)

-- ---- each verdict

verdict_drew : (s : Server) (m : Message) (now : ℕ) (records : List Record) (v : Verdict) (drawn names : ℕ → ℕ) → Facts s m v
    → Kinds s m v → ((q : SetupRequest) → m.command ≡ Setup q → IsBare v) → Fits s → NonceDraws s drawn → AreNamed s names
    → Drew m (recorded (apply s m now v) records) drawn names
verdict_drew s m now records (Refuse status) drawn names f k b fit i n =
    quiet_recorded s m (apply s m now (Refuse status)) records drawn names (from_stays s s (stays_same s) refl) i n k
verdict_drew s m now records (Give body) drawn names f k b fit i n =
    quiet_recorded s m (apply s m now (Give body)) records drawn names (from_stays s s (stays_same s) refl) i n (λ q e. absurd (k q e))
verdict_drew s m now records (KeepRefusal guid status) drawn names f k b fit i n =
    quiet_recorded s m (apply s m now (KeepRefusal guid status)) records drawn names
    (from_stays s _ (stays_refused s m.session_id guid status) refl) i n (λ q e. absurd (k q e))
verdict_drew s m now records (Repeat o r) drawn names f k b fit i n =
    quiet_recorded s m (apply s m now (Repeat o r)) records drawn names
    (from_stays s _ (stays_attached s m o) (attached_drawn s m o)) i n (λ q e. absurd (k q e))
verdict_drew s m now records (Attach o r) drawn names f k b fit i n =
    quiet_recorded s m (apply s m now (Attach o r)) records drawn names
    (from_stays s _ (stays_attached s m o) (attached_drawn s m o)) i n (λ q e. absurd (k q e))
verdict_drew s m now records (Make r found action) drawn names f k b fit i n =
    let h = from_stays s (file_made s r found now) (stays_made s r found now) (made_drawn s r found now) in
    quiet_recorded s m (apply s m now (Make r found action)) records drawn names
    (record { present = h.present; drawn = h.drawn; making = h.making; last = h.last }) i n
    (λ q e. absurd (k q e))
verdict_drew s m now records (TurnDown o status) drawn names f k b fit i n =
    quiet_recorded s m (apply s m now (TurnDown o status)) records drawn names
    (from_stays s _ (stays_reached s m o) (reached_drawn s m o)) i n (λ q e. absurd (k q e))
verdict_drew s m now records (Tell o body) drawn names f k b fit i n =
    quiet_recorded s m (apply s m now (Tell o body)) records drawn names
    (from_stays s _ (stays_reached s m o) (reached_drawn s m o)) i n (λ q e. absurd (k q e))
verdict_drew s m now records (Show o last body) drawn names f k b fit i n =
    let h = from_stays s (reach s m o) (stays_reached s m o) (reached_drawn s m o) in
    quiet_recorded s m (apply s m now (Show o last body)) records drawn names
    (record { present = h.present; drawn = h.drawn; making = h.making; last = h.last }) i n
    (λ q e. absurd (k q e))
verdict_drew s m now records (KeepSlot o index number status elements) drawn names f k b fit i n =
    let a = reach s m o in
    quiet_recorded s m (apply s m now (KeepSlot o index number status elements)) records drawn names
    (from_stays s _ (stays_so s a _ (stays_reached s m o) (stays_kept a o index number status))
    (kept_drawn a o index number status ∙ reached_drawn s m o)) i n (λ q e. absurd (k q e))
verdict_drew s m now records (PutRanges o index number ranges elements) drawn names f k b fit i n =
    let a = reach s m o in
    let c = set_ranges a (file_of s o) ranges in
    quiet_recorded s m (apply s m now (PutRanges o index number ranges elements)) records drawn names
    (from_stays s _ (stays_so s a _ (stays_reached s m o) (stays_so a c _
    (stays_ranged a (file_of s o) ranges) (stays_kept c o index number success)))
    (kept_drawn c o index number success ∙ reached_drawn s m o)) i n (λ q e. absurd (k q e))
verdict_drew s m now records (Alter o change body) drawn names f k b fit i n =
    let a = reach s m o in
    quiet_recorded s m (apply s m now (Alter o change body)) records drawn names
    (from_stays s _ (stays_so s a _ (stays_reached s m o) (stays_changed a (file_of s o) now change))
    (changed_drawn a (file_of s o) now change ∙ reached_drawn s m o)) i n (λ q e. absurd (k q e))
verdict_drew s m now records (CloseOpen o body) drawn names f k b fit i n =
    let a = leave_open s o in
    quiet_recorded s m (apply s m now (CloseOpen o body)) records drawn names
    (from_stays s _ (stays_so s a _ (stays_left s o) (stays_closed a m.session_id (s.opened o).create_guid))
    (closed_drawn a m.session_id (s.opened o).create_guid ∙ left_drawn s o)) i n (λ q e. absurd (k q e))
verdict_drew s m now records Challenge drawn names f k b fit i n = challenged s m now records drawn names f i n
verdict_drew s m now records (ChallengeBinding session) drawn names f k b fit i n =
    challenged_binding s m now session records drawn names f i n
verdict_drew s m now records (Begin session user previous r is_quiet) drawn names f k b fit i n =
    begun s m now session user previous r is_quiet records drawn names f (b r f.command) fit i n
verdict_drew s m now records (Join session) drawn names f k b fit i n =
    let d = f.binding in
    let kind = k d.request d.command in
    subst (λ x. Drew m (recorded (apply s m now (Join x)) records) drawn names) (sym d.session_is)
    (joined s m now d.request records drawn names d.command d.binding d.present kind.2 fit i n)
verdict_drew s m now records (EndSession session is_quiet) drawn names f k b fit i n =
    let h = ended_numbers s now (Some session) is_quiet in
    quiet_recorded s m (apply s m now (EndSession session is_quiet)) records drawn names
    (record { present = h.present; drawn = h.drawn; making = h.making; last = h.last }) i n
    (λ q e. absurd (k q e))
verdict_drew s m now records (AddTree pipes) drawn names f k b fit i n =
    quiet_recorded s m (apply s m now (AddTree pipes)) records drawn names
    (record { present = λ x p. p; drawn = refl; making = λ j x e. e; last = omega arith }) i n
    (λ q e. absurd (k q e))
verdict_drew s m now records DropTree drawn names f k b fit i n =
    let os = opens_of_tree s m.session_id m.tree_id in
    let h = from_stays s (close_all s m.session_id os) (stays_all_closed s m.session_id os)
    (closed_beside s m.session_id os).channel_numbers_drawn in
    quiet_recorded s m (apply s m now DropTree) records drawn names
    (record { present = h.present; drawn = h.drawn; making = h.making; last = h.last }) i n
    (λ q e. absurd (k q e))

-- ---- the step

before_drawn : (s : Server) (now : ℕ) (t : Server) → Before s now t → SameDrawn s t
before_drawn s now t (inl e) = ap (λ (u : Server). u.channel_numbers_drawn) e
before_drawn s now t (inr h) = ap (λ (u : Server). u.channel_numbers_drawn) h.2 ∙ expired_drawn (with_deadlines s now) h.0

pub before_numbers : (s : Server) (now : ℕ) (t : Server) → Before s now t → SameNumbers s t
before_numbers s now t b = from_stays s t (before_stays s now t b) (before_drawn s now t b)

before_fits : (s : Server) (now : ℕ) (t : Server) → Fits s → Before s now t → Fits t
before_fits s now t i (inl e) = subst Fits (sym e) (deadlines_keeps s now i)
before_fits s now t i (inr h) =
    subst Fits (sym h.2) (expired_keeps (with_deadlines s now) now h.0 h.1 (deadlines_keeps s now i))

stepped : (s : Server) (now : ℕ) (m : Message) (drawn names : ℕ → ℕ) → FaultFine m.fault → Fits s → NonceDraws s drawn → AreNamed s names
    → Drew m (step s now (Heard m)) drawn names
stepped s now m drawn names fine fit i n =
    by_verdict (λ A. Drew m A drawn names) s now m
    (λ t v records b f. (let q = before_numbers s now t b in
    verdict_drew t m now records v drawn names (found_facts t m v f) (found_kinds t m v fine f)
    (λ r e. found_bare t m v r e (check_kind t m r e fine) f) (before_fits s now t fit b) (same_draws s t drawn q i)
    (same_named s t names q n)))

not_setup : (status : ℕ) (q : SetupRequest) (c : Command) → c ≡ Aside status → c ≡ Setup q → (P : Type 0) → P
not_setup status q c a b P = absurd (let e : Aside status ≡ Setup q = sym a ∙ b in cc)

pub drew : (s : Server) (now : ℕ) (m : Message) (c : Command) (drawn names : ℕ → ℕ) → m.command ≡ c → FaultFine m.fault → Fits s
    → NonceDraws s drawn → AreNamed s names → Drew m (answer_to s now m c) drawn names
drew s now m (Aside status) drawn names e fine fit i n =
    quiet_drew s m (untouched s m status) drawn names (from_stays s s (stays_same s) refl) i n
    (λ q h. not_setup status q m.command e h _)
drew s now m c drawn names e fine fit i n = stepped s now m drawn names fine fit i n

-- ---- a connection that is taken in or ends

front_before : (s : Server) (now : ℕ) (e : ServerEvent) (t : Server) (front : List Record) → Front s now e t front → Before s now t
front_before s now e t front (inl q) = inl q.0
front_before s now e t front (inr q) = inr (q.0, q.1, q.2)

pub written_numbers : (s t : Server) (j : ℕ) → SameNumbers s t → SameNumbers s (record t { journal = j })
written_numbers s t j q = record { present = q.present; drawn = q.drawn; making = q.making; last = q.last }

same_numbers : (s : Server) → SameNumbers s s
same_numbers s = from_stays s s (stays_same s) refl

taken_in : (t : Server) (now k : ℕ) (r : Ruling) → Rules t (Accept k) r → SameNumbers t (carried_out t now r).server
taken_in t now k r (inl q) =
    subst (λ x. SameNumbers t (carried_out t now x).server) (sym q)
    (either (λ x. SameNumbers t (carried_out t now x).server) (nat_le max_connections (length t.connections)) TurnsAway (TakesIn k)
    (λ _. same_numbers t)
    (λ _. record { present = λ x p. p; drawn = refl; making = λ j x e. e; last = omega arith }))
taken_in t now k r (inr q) =
    subst (λ x. SameNumbers t (carried_out t now x).server) (sym q)
    (either (λ x. SameNumbers t (carried_out t now (ruling_without_room x)).server) (nat_le max_connections (length t.connections))
    TurnsAway (TakesIn k)
    (λ _. same_numbers t)
    (λ _. record { present = λ x p. p; drawn = refl; making = λ j x e. e; last = omega arith }))

forgotten : (u : Server) (k : ℕ) → SameNumbers u (forget_connection u k)
forgotten u k =
    record {
      present = λ x p. p;
      drawn = refl;
      making = λ j x e. (let h = unmade u.making k j x e in h.0);
      last = omega arith;
    }

out : (t : Server) (now k : ℕ) (is_quiet : Bool) → SameNumbers t (carried_out t now (TakesOut k is_quiet)).server
out t now k is_quiet =
    let u = end_if_named t now (ends_with t k) is_quiet in
    numbers_so t u (forget_connection u k) (ended_numbers t now (ends_with t k) is_quiet) (forgotten u k)

taken_out : (t : Server) (now k : ℕ) (r : Ruling) → Rules t (End k) r → SameNumbers t (carried_out t now r).server
taken_out t now k r (inl q) = subst (λ x. SameNumbers t (carried_out t now x).server) (sym q) (out t now k false)
taken_out t now k r (inr q) = subst (λ x. SameNumbers t (carried_out t now x).server) (sym q) (out t now k true)

pub accept_numbers : (s : Server) (now k : ℕ) → SameNumbers s (step s now (Accept k)).server
accept_numbers s now k =
    by_ruling (λ A. SameNumbers s A.server) s now (Accept k)
    (λ t front r at rules. (let u = (carried_out t now r).server in
    written_numbers s u _ (numbers_so s t u (before_numbers s now t (front_before s now (Accept k) t front at))
    (taken_in t now k r rules))))

pub end_numbers : (s : Server) (now k : ℕ) → SameNumbers s (step s now (End k)).server
end_numbers s now k =
    by_ruling (λ A. SameNumbers s A.server) s now (End k)
    (λ t front r at rules. (let u = (carried_out t now r).server in
    written_numbers s u _ (numbers_so s t u (before_numbers s now t (front_before s now (End k) t front at))
    (taken_out t now k r rules))))
