-- Which sessions the server holds on its connections, behind a message, a connection that is made and one that ends.
use Rattle.spec_exchange.specs.Effects.{opens_of_tree}
use Rattle.law_server.proofs.tables.Closing.{closed_beside}
use Rattle.std.proofs.lemmas.Bool.Decides.{nat_tests}
use Rattle.std.proofs.Common.{eqb-true, ◌≡◌, ◌≢◌, ℕ, ◌+◌, ◌≤◌, ◌==◌, nat_le, Bool, true, false, not, ◌||◌}
use Rattle.std.proofs.Common.{if◌then◌else◌, List, [], ◌∷◌, inl, inr, length, refl, arith, sym, subst, ◌∙◌, ap, Option}
use Rattle.std.proofs.Common.{Some, None, is_some}
use Rattle.spec_exchange.specs.Table.{put, is_at}
use Rattle.spec_exchange.specs.Status.{success, user_session_deleted, insufficient_resources}
use Rattle.spec_exchange.specs.Commands.{Command, Unreadable, Aside, Setup, Logoff, TreeConnect, TreeDisconnect, Create}
use Rattle.spec_exchange.specs.Commands.{Close, Flush, Read, Write, Lock, Ioctl, ListDirectory, QueryFile, QueryVolume}
use Rattle.spec_exchange.specs.Commands.{SetInfo, SetupRequest, Shows, Begins, Bad, Refused, Logon, form, is_setup}
use Rattle.spec_exchange.specs.State.{Server, Message, ServerEvent, Accept, Heard, End, Record}
use Rattle.spec_exchange.specs.Opens.{leave_open, max_ids}
use Rattle.spec_exchange.specs.CheckOpen.{file_of}
use Rattle.spec_exchange.specs.CheckSetup.{count_channels, previous_of, setup_check, binding_check, session_check}
use Rattle.spec_exchange.specs.CheckSetup.{granted_session, second_token, first_token, is_new}
use Rattle.spec_exchange.specs.Check.{check, owed, formed, command_check, has_session}
use Rattle.spec_exchange.specs.Effects.{apply, cleared, end_if_named, reach, set_ranges, file_made}
use Rattle.spec_exchange.specs.Verdict.{Verdict, Refuse, Give, KeepRefusal, Repeat, Attach, Make, TurnDown, Tell, Show}
use Rattle.spec_exchange.specs.Verdict.{KeepSlot, PutRanges, Alter, CloseOpen, Challenge, ChallengeBinding, Begin, Join}
use Rattle.spec_exchange.specs.Verdict.{EndSession, AddTree, DropTree}
use Rattle.spec_exchange.specs.Step.{step, with_deadlines, expire, without_room, Ruling, TakesIn, TurnsAway, ruling}
use Rattle.spec_exchange.specs.Step.{ruling_without_room, carried_out, take_out, ends_with, last_session}
use Rattle.spec_exchange.specs.Step.{max_connections}
use Rattle.spec_exchange.specs.Network.{answer_to}
use Rattle.law_server.proofs.tables.Logic.{either}
use Rattle.law_server.proofs.tables.Doors.{by_ruling, by_verdict, Front, Rules, Finds}
use Rattle.law_server.proofs.tables.Found.{Facts}
use Rattle.law_server.proofs.tables.Checked.{found}
use Rattle.law_sessions.specs.sessions.Sessions.{previous_in}
use Rattle.law_sessions.proofs.sessions.Columns.{Stays, stays_so, stays_reached, stays_attached, stays_kept, stays_ranged}
use Rattle.law_sessions.proofs.sessions.Columns.{stays_closed, stays_changed, stays_left, stays_made, stays_dated, stays_expired}
use Rattle.law_sessions.proofs.sessions.Heard.{before_stays}
use Rattle.law_answers.proofs.completeness.Server.{expired_connections}
use Rattle.law_answers.proofs.completeness.Links.{tally, bit}

-- ---- the columns

clears_other : (y x : ℕ) (u : Option ℕ) → u ≡ Some x → x ≢ y → cleared y u ≡ Some x
clears_other y x u e n = subst (λ v. cleared y v ≡ Some x) (sym e) (either (λ v. v ≡ Some x) (x == y) None (Some x)
    (λ q. absurd (n (eqb-true x y q))) (λ _. refl))

other_key : (f : ℕ → Option ℕ) (k q : ℕ) (v : Option ℕ) (x : ℕ) → q ≢ k → f q ≡ Some x → put f k v q ≡ Some x
other_key f k q v x n e = either (λ (u : Option ℕ). u ≡ Some x) (q == k) v (f q) (λ t. absurd (n (eqb-true q k t))) (λ _. e)

own_key : (f : ℕ → Option ℕ) (k : ℕ) (v : Option ℕ) → put f k v k ≡ v
own_key f k v = grind arith

-- ---- a message

-- what it leaves: neither the end of its session, nor one that it names as its previous one, nor a new one on this connection
pub record Spares (m : Message) (q x : ℕ) : Type 0 where
  pub work : q ≡ m.connection → is_setup m.command ≡ false
  pub stays : m.command ≢ Logoff
  pub previous : x ≢ previous_in m.command

setup_previous : (c : Command) (r : SetupRequest) → c ≡ Setup r → previous_in c ≡ r.previous
unfolding previous_in
setup_previous c r e = ap previous_in e

setup_kind : (c : Command) (r : SetupRequest) → c ≡ Setup r → is_setup c ≡ true
setup_kind c r e = ap is_setup e

elsewhere : (m : Message) (q x : ℕ) (r : SetupRequest) → m.command ≡ Setup r → Spares m q x → q ≢ m.connection
elsewhere m q x r e p i = absurd (let a = p.work i in let b = setup_kind m.command r e in cc)

previous_named : (s : Server) (user : List ℕ) (n p : ℕ) → previous_of s user n ≡ Some p → p ≡ n
previous_named s user n p e = grind arith

on_same : (s t : Server) (q x : ℕ) → Stays s t → s.session_on q ≡ Some x → t.session_on q ≡ Some x
on_same s t q x h e = ap (λ f. f q) h.session_on ∙ e

ends_other : (s : Server) (now : ℕ) (previous : Option ℕ) (is_quiet : Bool) (q x : ℕ)
    → ((p : ℕ) → previous ≡ Some p → x ≢ p) → s.session_on q ≡ Some x
    → (end_if_named s now previous is_quiet).session_on q ≡ Some x
ends_other s now None is_quiet q x n e = e
ends_other s now (Some p) is_quiet q x n e = clears_other p x (s.session_on q) e (n p refl)

by_effect : (s : Server) (m : Message) (now : ℕ) (v : Verdict) (q x : ℕ) → Facts s m v → Spares m q x → s.session_on q
    ≡ Some x → (apply s m now v).server.session_on q ≡ Some x
by_effect s m now (Refuse status) q x f p e = e
by_effect s m now (Give body) q x f p e = e
by_effect s m now (KeepRefusal guid status) q x f p e = e
by_effect s m now (Repeat o r) q x f p e = on_same s _ q x (stays_attached s m o) e
by_effect s m now (Attach o r) q x f p e = on_same s _ q x (stays_attached s m o) e
by_effect s m now (Make r found action) q x f p e = on_same s (file_made s r found now) q x (stays_made s r found now) e
by_effect s m now (TurnDown o status) q x f p e = on_same s _ q x (stays_reached s m o) e
by_effect s m now (Tell o body) q x f p e = on_same s _ q x (stays_reached s m o) e
by_effect s m now (Show o last body) q x f p e = on_same s (reach s m o) q x (stays_reached s m o) e
by_effect s m now (KeepSlot o index number status elements) q x f p e =
    on_same s _ q x (stays_so s (reach s m o) _ (stays_reached s m o) (stays_kept (reach s m o) o index number status))
    e
by_effect s m now (PutRanges o index number ranges elements) q x f p e =
    let a = reach s m o in let b = set_ranges a (file_of s o) ranges in
    on_same s _ q x (stays_so s a _ (stays_reached s m o) (stays_so a b _ (stays_ranged a (file_of s o) ranges)
    (stays_kept b o index number success))) e
by_effect s m now (Alter o change body) q x f p e = on_same s _ q x (stays_so s (reach s m o) _ (stays_reached s m o)
    (stays_changed (reach s m o) (file_of s o) now change)) e
by_effect s m now (CloseOpen o body) q x f p e = on_same s _ q x (stays_so s (leave_open s o) _ (stays_left s o)
    (stays_closed (leave_open s o) m.session_id (s.opened o).create_guid)) e
by_effect s m now Challenge q x f p e = e
by_effect s m now (ChallengeBinding session) q x f p e = e
by_effect s m now (Begin session user previous r is_quiet) q x f p e =
    let u = end_if_named s now previous is_quiet in
    other_key u.session_on m.connection q (Some m.session_id) x (elsewhere m q x r f.command p)
    (ends_other s now previous is_quiet q x
    (λ i is h. p.previous (h ∙ previous_named s user r.previous i (sym f.previous_is ∙ is)
    ∙ sym (setup_previous m.command r f.command))) e)
by_effect s m now (Join session) q x f p e = other_key s.session_on m.connection q (Some session) x
    (elsewhere m q x f.binding.request f.binding.command p) e
by_effect s m now (EndSession session is_quiet) q x f p e = absurd (p.stays f.command)
by_effect s m now (AddTree pipes) q x f p e = e
by_effect s m now DropTree q x f p e =
    ap (λ (g : ℕ → Option ℕ). g q) (closed_beside s m.session_id (opens_of_tree s m.session_id m.tree_id)).session_on ∙ e

step_keeps : (s : Server) (now : ℕ) (m : Message) (q x : ℕ) → Spares m q x → s.session_on q ≡ Some x
    → (step s now (Heard m)).server.session_on q ≡ Some x
step_keeps s now m q x p e = by_verdict (λ A. A.server.session_on q ≡ Some x) s now m (λ t v records b f.
    by_effect t m now v q x (found t m v f) p (on_same s t q x (before_stays s now t b) e))

pub held_on : (s : Server) (now : ℕ) (m : Message) (c : Command) (q x : ℕ) → Spares m q x → s.session_on q ≡ Some x
    → (answer_to s now m c).server.session_on q ≡ Some x
held_on s now m (Aside status) q x p e = e
held_on s now m (Unreadable status) q x p e = step_keeps s now m q x p e
held_on s now m (Setup request) q x p e = step_keeps s now m q x p e
held_on s now m Logoff q x p e = step_keeps s now m q x p e
held_on s now m (TreeConnect share) q x p e = step_keeps s now m q x p e
held_on s now m TreeDisconnect q x p e = step_keeps s now m q x p e
held_on s now m (Create request) q x p e = step_keeps s now m q x p e
held_on s now m (Close file query) q x p e = step_keeps s now m q x p e
held_on s now m (Flush file) q x p e = step_keeps s now m q x p e
held_on s now m (Read file at size minimum channel) q x p e = step_keeps s now m q x p e
held_on s now m (Write file at bytes channel) q x p e = step_keeps s now m q x p e
held_on s now m (Lock file index number elements) q x p e = step_keeps s now m q x p e
held_on s now m (Ioctl file code room) q x p e = step_keeps s now m q x p e
held_on s now m (ListDirectory file class restart single pattern room) q x p e = step_keeps s now m q x p e
held_on s now m (QueryFile file class room) q x p e = step_keeps s now m q x p e
held_on s now m (QueryVolume file class room) q x p e = step_keeps s now m q x p e
held_on s now m (SetInfo file setting) q x p e = step_keeps s now m q x p e

-- ---- a SESSION_SETUP that succeeds: its session is held on its connection

-- what a SESSION_SETUP may be told
abbrev setup_says : Verdict → Bool
setup_says (Refuse status) = not (status == success)
setup_says Challenge = true
setup_says (ChallengeBinding session) = true
setup_says (Begin session user previous r is_quiet) = true
setup_says (Join session) = true
setup_says _ = false

says_binding : (s : Server) (m : Message) (r : SetupRequest) → setup_says (binding_check s m r) ≡ true
says_binding s m r = grind arith

says_granted : (s : Server) (m : Message) (r : SetupRequest) (user : List ℕ) → setup_says (granted_session s m r user) ≡ true
says_granted s m r user = grind arith

says_second : (s : Server) (m : Message) (r : SetupRequest) (shows : Shows) → setup_says (second_token s m r shows) ≡ true
says_second s m r Begins = refl
says_second s m r Bad = refl
says_second s m r Refused = refl
says_second s m r (Logon user) = says_granted s m r user

says_first : (s : Server) (shows : Shows) → setup_says (first_token s shows) ≡ true
says_first s Begins = either (λ v. setup_says v ≡ true) (nat_le max_ids s.session_ids_given)
    (Refuse insufficient_resources) Challenge (λ _. refl) (λ _. refl)
says_first s Bad = refl
says_first s Refused = refl
says_first s (Logon user) = refl

says_session : (s : Server) (m : Message) (r : SetupRequest) → setup_says (session_check s m r) ≡ true
says_session s m r =
    let P : Verdict → Type 0 = λ v. setup_says v ≡ true in
    either P (m.session_id == 0) _ _ (λ _. either P (is_some (s.session_on m.connection)) _ _ (λ _. refl) (λ _. says_first s r.shows))
    (λ _. either P (s.present m.session_id) _ _ (λ _. refl) (λ _. either P (is_new m.session_id (s.making m.connection))
    _ _ (λ _. says_second s m r r.shows) (λ _. refl)))

says_setup : (s : Server) (m : Message) (r : SetupRequest) → setup_says (setup_check s m r) ≡ true
says_setup s m r = either (λ v. setup_says v ≡ true) r.binding (binding_check s m r) (session_check s m r)
    (λ _. says_binding s m r) (λ _. says_session s m r)

says_formed : (s : Server) (m : Message) (c : Command) → m.command ≡ c → is_setup c ≡ true → (u : Option ℕ)
    → form m.command ≡ u → setup_says (formed s m u) ≡ true
says_formed s m (Setup r) e k (Some status) is = broken r status (ap form (sym e) ∙ is)
  where
    broken : (r : SetupRequest) (status : ℕ) → form (Setup r) ≡ Some status → not (status == success) ≡ true
    broken r status h = grind arith
says_formed s m (Setup r) e k None is = subst (λ c. setup_says (command_check s m c) ≡ true) (sym e) (says_setup s m r)
says_formed s m _ e k u is = absurd (cc)

says_owed : (s : Server) (m : Message) → is_setup m.command ≡ true → (u : Option ℕ) → u ≡ None → setup_says (owed s m u) ≡ true
says_owed s m k (Some status) e = absurd (cc)
says_owed s m k None e = says_formed s m m.command refl k (form m.command) refl

says_check : (s : Server) (m : Message) → is_setup m.command ≡ true → m.fault ≡ None → setup_says (check s m) ≡ true
says_check s m k fault = either (λ v. setup_says v ≡ true) (is_setup m.command || has_session s m) (owed s m m.fault)
    (Refuse user_session_deleted) (λ _. says_owed s m k m.fault fault) (λ _. refl)

says_full : (v : Verdict) → setup_says v ≡ true → setup_says (without_room v) ≡ true
says_full (Refuse status) e = e
says_full Challenge e = refl
says_full (ChallengeBinding session) e = refl
says_full (Begin session user previous r is_quiet) e = refl
says_full (Join session) e = refl
says_full _ e = absurd (cc)

enters_by : (s : Server) (m : Message) (now : ℕ) (v : Verdict) → Facts s m v → setup_says v ≡ true
    → (apply s m now v).reply.status ≡ success → (apply s m now v).server.session_on m.connection ≡ Some m.session_id
enters_by s m now (Refuse status) f k e = absurd (grind arith)
enters_by s m now Challenge f k e = absurd (cc)
enters_by s m now (ChallengeBinding session) f k e = absurd (cc)
enters_by s m now (Begin session user previous r is_quiet) f k e =
    own_key (end_if_named s now previous is_quiet).session_on m.connection (Some m.session_id)
enters_by s m now (Join session) f k e = own_key s.session_on m.connection (Some session) ∙ ap Some f.binding.session_is
enters_by s m now _ f k e = absurd (cc)

pub enters : (s : Server) (now : ℕ) (m : Message) → is_setup m.command ≡ true → m.fault ≡ None
    → (step s now (Heard m)).reply.status ≡ success → (step s now (Heard m)).server.session_on m.connection
    ≡ Some m.session_id
enters s now m k fault =
    by_verdict (λ A. A.reply.status ≡ success → A.server.session_on m.connection ≡ Some m.session_id) s now m
    (λ t v records b f. enters_by t m now v (found t m v f) (says t v f))
  where
    says : (t : Server) (v : Verdict) → Finds t m v → setup_says v ≡ true
    says t v (inl e) = ap setup_says e ∙ says_check t m k fault
    says t v (inr e) = ap setup_says e ∙ says_full (check t m) (says_check t m k fault)

-- ---- a connection that is made

front : (s : Server) (now : ℕ) (e : ServerEvent) (t : Server) (rs : List Record) → Front s now e t rs → Stays s t
front s now e t rs (inl q) = subst (λ u. Stays s u) (sym q.0) (stays_dated s now)
front s now e t rs (inr q) = subst (λ u. Stays s u) (sym q.2)
    (stays_so s (with_deadlines s now) (expire (with_deadlines s now) q.0) (stays_dated s now)
    (stays_expired (with_deadlines s now) q.0))

pub accept_on : (s : Server) (now k : ℕ) → (step s now (Accept k)).server.session_on ≡ s.session_on
accept_on s now k = by_ruling (λ A. A.server.session_on ≡ s.session_on) s now (Accept k) (λ t rs r f rules. by t r rules
    ∙ (front s now (Accept k) t rs f).session_on)
  where
    full : (t : Server) → (carried_out t now (ruling_without_room (ruling t (Accept k)))).server.session_on ≡ t.session_on
    full t = either (λ r. (carried_out t now (ruling_without_room r)).server.session_on ≡ t.session_on)
        (nat_le max_connections (length t.connections)) TurnsAway (TakesIn k) (λ _. refl) (λ _. refl)

    by : (t : Server) (r : Ruling) → Rules t (Accept k) r → (carried_out t now r).server.session_on ≡ t.session_on
    by t r (inl e) = ap (λ x. (carried_out t now x).server.session_on) e
        ∙ either (λ r. (carried_out t now r).server.session_on ≡ t.session_on)
        (nat_le max_connections (length t.connections)) TurnsAway (TakesIn k) (λ _. refl) (λ _. refl)
    by t r (inr e) = ap (λ x. (carried_out t now x).server.session_on) e ∙ full t

-- ---- a connection that ends

at_least_one : (on : ℕ → Option ℕ) (xs : List ℕ) (k x : ℕ) → on k ≡ Some x → 1 ≤ tally k xs → 1 ≤ count_channels on xs x
unfolding tally bit count_channels
at_least_one on [] k x e l = absurd (omega (arith, l))
at_least_one on (y ∷ ys) k x e l = let i = at_least_one on ys k x e in
    elim (y == k) as (λ b. y == k ≡ b → 1 ≤ bit b + tally k ys → 1 ≤ (if is_at x (on y) then 1 else 0) + count_channels
    on ys x) [
      | true ↦ λ q m. counted (is_at x (on y)) (count_channels on ys x) (is y (eqb-true y k q))
      | false ↦ λ q m. let j = i (omega (arith, m)) in omega (arith, j)
    ] refl l
  where
    is : (y : ℕ) → y ≡ k → is_at x (on y) ≡ true
    is y q = grind arith

    counted : (b : Bool) (n : ℕ) → b ≡ true → 1 ≤ (if b then 1 else 0) + n
    counted true n e = omega arith
    counted false n e = absurd (cc)

at_least_two : (on : ℕ → Option ℕ) (xs : List ℕ) (j k x : ℕ) → j ≢ k → on j ≡ Some x → on k ≡ Some x → 1 ≤ tally j xs
    → 1 ≤ tally k xs → 2 ≤ count_channels on xs x
unfolding tally bit count_channels
at_least_two on [] j k x n a b l m = absurd (omega (arith, l))
at_least_two on (y ∷ ys) j k x n a b l m =
    let i = at_least_two on ys j k x n a b in let i1 = at_least_one on ys k x b in let i2 = at_least_one on ys j x a in
    elim (y == j) as (λ t. y == j ≡ t → 1 ≤ bit t + tally j ys → 2 ≤ (if is_at x (on y) then 1 else 0) + count_channels on ys x) [
      | true ↦ λ q _. counted (is_at x (on y)) (count_channels on ys x) (is y j a (eqb-true y j q))
          (i1 (apart y k (λ z. n (sym (eqb-true y j q) ∙ z)) m))
      | false ↦ λ q lj. elim (y == k) as (λ t. y == k ≡ t → 1 ≤ bit t + tally k ys
          → 2 ≤ (if is_at x (on y) then 1 else 0) + count_channels on ys x) [
            | true ↦ λ p _. counted (is_at x (on y)) (count_channels on ys x) (is y k b (eqb-true y k p)) (i2 (omega (arith, lj)))
            | false ↦ λ p lk. let r = i (omega (arith, lj)) (omega (arith, lk)) in omega (arith, r)
          ] refl m
    ] refl l
  where
    is : (y z : ℕ) → on z ≡ Some x → y ≡ z → is_at x (on y) ≡ true
    is y z e q = grind arith

    counted : (b : Bool) (n : ℕ) → b ≡ true → 1 ≤ n → 2 ≤ (if b then 1 else 0) + n
    counted true n e l = omega (arith, l)
    counted false n e l = absurd (cc)

    apart : (y k : ℕ) → y ≢ k → 1 ≤ bit (y == k) + tally k ys → 1 ≤ tally k ys
    apart y k d l = by (y == k) refl l
      where
        by : (t : Bool) → y == k ≡ t → 1 ≤ bit t + tally k ys → 1 ≤ tally k ys
        by true q l = absurd (d (eqb-true y k q))
        by false q l = omega (arith, l)

-- another connection's session isn't the one that ends with this one
last_other : (s : Server) (k q x : ℕ) → q ≢ k → s.session_on q ≡ Some x → 1 ≤ tally q s.connections
    → 1 ≤ tally k s.connections → (p : ℕ) → ends_with s k ≡ Some p → x ≢ p
last_other s k q x n e l m p is h = by (s.session_on k) refl is
  where
    few : (y : ℕ) → s.session_on k ≡ Some y → (if nat_le (count_channels s.session_on s.connections y) 1 then Some y else None) ≡ Some p → ⊥
    few y on = either (λ u. u ≡ Some p → ⊥) (nat_le (count_channels s.session_on s.connections y) 1) (Some y) None
        (λ t i. let same : y ≡ x = is_same y p i ∙ sym h in let two = at_least_two s.session_on s.connections q k x n e
        (on ∙ ap Some same) l m in few_many (count_channels s.session_on s.connections x) two
        (subst (λ z. nat_le (count_channels s.session_on s.connections z) 1 ≡ true) same t))
        (λ t i. absurd (cc))
      where
        is_same : (y p : ℕ) → Some y ≡ Some p → y ≡ p
        is_same y p e = cc

        few_many : (c : ℕ) → 2 ≤ c → nat_le c 1 ≡ true → ⊥
        few_many c a b = absurd (grind (arith, nat_tests))

    by : (u : Option ℕ) → s.session_on k ≡ u → last_session s k u ≡ Some p → ⊥
    by None on i = absurd (cc)
    by (Some y) on i = few y on i

out_keeps : (s : Server) (now k q x : ℕ) (is_quiet : Bool) → q ≢ k → 1 ≤ tally q s.connections
    → 1 ≤ tally k s.connections → s.session_on q ≡ Some x → (take_out s k now is_quiet).session_on q ≡ Some x
out_keeps s now k q x is_quiet n l m e =
    other_key (end_if_named s now (ends_with s k) is_quiet).session_on k q None x n
    (ends_other s now (ends_with s k) is_quiet q x (last_other s k q x n e l m) e)

connections_front : (s : Server) (now k : ℕ) (t : Server) (rs : List Record) → Front s now (End k) t rs → t.connections ≡ s.connections
connections_front s now k t rs (inl q) = ap (λ (u : Server). u.connections) q.0
connections_front s now k t rs (inr q) = ap (λ (u : Server). u.connections) q.2 ∙ expired_connections (with_deadlines s now) q.0

pub end_keeps : (s : Server) (now k q x : ℕ) → q ≢ k → 1 ≤ tally q s.connections → 1 ≤ tally k s.connections
    → s.session_on q ≡ Some x → (step s now (End k)).server.session_on q ≡ Some x
end_keeps s now k q x n l m e =
    by_ruling (λ A. A.server.session_on q ≡ Some x) s now (End k)
    (λ t rs r f rules. let c = sym (connections_front s now k t rs f) in by t r rules (subst (λ xs. 1 ≤ tally q xs) c l)
    (subst (λ xs. 1 ≤ tally k xs) c m) (on_same s t q x (front s now (End k) t rs f) e))
  where
    by : (t : Server) (r : Ruling) → Rules t (End k) r → 1 ≤ tally q t.connections → 1 ≤ tally k t.connections
        → t.session_on q ≡ Some x → (carried_out t now r).server.session_on q ≡ Some x
    by t r (inl i) l m e = ap (λ y. (carried_out t now y).server.session_on q) i ∙ out_keeps t now k q x false n l m e
    by t r (inr i) l m e = ap (λ y. (carried_out t now y).server.session_on q) i ∙ out_keeps t now k q x true n l m e
