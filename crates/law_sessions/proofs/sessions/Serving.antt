-- What an answer to the message at a connection's front does to what holds of sessions, and what its reply says.
use Rattle.std.proofs.lemmas.Bool.{eqb-false}
use Rattle.std.proofs.Common.{eqb-true, ◌≡◌, ◌≢◌, ℕ, ◌+◌, ◌≤◌, ◌<◌, ◌==◌, Bool, true, false, List, [], ◌∷◌, refl, arith}
use Rattle.std.proofs.Common.{sym, subst, ◌∙◌, ap, Option, Some, None, slice_get, is_some}
use Rattle.spec_exchange.specs.Status.{success, more_processing_required}
use Rattle.spec_exchange.specs.Texts.{same_name, upper}
use Rattle.spec_exchange.specs.Commands.{Command, TreeDisconnect}
use Rattle.spec_exchange.specs.State.{Server, Message, Answer, Making, NewSession, Binding}
use Rattle.spec_exchange.specs.CheckSetup.{is_new, tree_in}
use Rattle.spec_exchange.specs.Opens.{id_of}
use Rattle.spec_exchange.specs.Effects.{next_session, next_open}
use Rattle.spec_exchange.specs.Client.{Client, SaidFirst, SaidSecond, AskedTree}
use Rattle.spec_exchange.specs.Network.{Conn, Sent}
use Rattle.law_server.specs.tables.Fits.{OnPresent, MakingOnce}
use Rattle.law_sessions.specs.sessions.Sessions.{is_ops, is_work, is_dialog, is_new_setup, logs_on, user_in, logon_user}
use Rattle.law_sessions.specs.sessions.Sessions.{MakingUnranked, SessionUsers, OpenUsers, OpenTrees, RankedGiven, CurrentUp, WorkUp, FirstUp}
use Rattle.law_sessions.specs.sessions.Sessions.{SecondUp, TreeConnectUp, PendingAccepted, LogonUp, FromClient}
use Rattle.law_sessions.proofs.sessions.Words.{Moves}
use Rattle.law_sessions.proofs.sessions.Answers.{Facts}
use Rattle.law_server.proofs.tables.Logic.{both}

-- ---- small facts

next_above : (e n : ℕ) → id_of e n < id_of e (n + 1)
next_above e n = omega arith

pub zero_rank : (r n y : ℕ) → (0 < r → 0 < y × y ≤ n) → n < y → r ≡ 0
zero_rank r n y f l = grind arith

ranked_other : (rank : ℕ → ℕ) (x y : ℕ) → 0 < rank x → rank y ≡ 0 → x ≢ y
ranked_other rank x y l e = λ q. absurd (grind arith)

not_next : (e n y : ℕ) → y ≤ id_of e n → y ≢ id_of e (n + 1)
not_next e n y l = omega (arith, l)

more_given : (e d n b : ℕ) → d ≡ e → b ≡ n + 1 → id_of e n ≤ id_of d b
more_given e d n b a c = omega (arith, a, c)

same_given : (e d n b : ℕ) → d ≡ e → b ≡ n → id_of e n ≤ id_of d b
same_given e d n b a c = omega (arith, a, c)

same_test : (n : ℕ) → (n == n) ≡ true
same_test n = grind arith

pub same_itself : (xs : List ℕ) → same_name xs xs ≡ true
unfolding same_name
same_itself [] = refl
same_itself (x ∷ xs) = both (upper x == upper x) (same_name xs xs) (same_test (upper x)) (same_itself xs)

making_of : (y : ℕ) (o : Option Making) → is_new y o ≡ true → o ≡ Some (NewSession y)
making_of y None e = absurd (cc)
making_of y (Some (NewSession x)) e = ap (λ z. Some (NewSession z)) (eqb-true x y e)
making_of y (Some (Binding x)) e = absurd (cc)

refuted : (b : Bool) → (b ≡ true → b ≡ false) → b ≡ false
refuted true f = f refl
refuted false f = refl

none_true : (b : Bool) → b ≡ false → b ≡ true → (P : Type 0) → P
none_true b e f P = absurd (cc)

pub work_not_new : (c : Command) → is_work c ≡ true → is_new_setup c ≡ true → (P : Type 0) → P
unfolding is_work is_new_setup
work_not_new c w n P = absurd (grind arith)

pub work_keeps : (c : Command) → is_work c ≡ true → c ≢ TreeDisconnect
unfolding is_work
work_keeps c w = λ e. absurd (grind arith)

pub dialog_keeps : (c : Command) → is_dialog c ≡ true → c ≢ TreeDisconnect
unfolding is_dialog
dialog_keeps c w = λ e. absurd (grind arith)

-- ---- the server's step

opens_of : (c : Client) (s : Server) (m : Message) (A : Answer) → Facts s m A → SessionUsers c s → OpenUsers c s
    → m.client_guid ≡ c.who.guid → OnPresent s → OpenUsers c A.server
opens_of c s m A f users opens client on o h =
    elim f.makes as (λ b. f.makes ≡ b → (A.server.opened o).user ≡ logon_user c.who.logon × (A.server.opened o).client_guid ≡ c.who.guid) [
      | false ↦ λ b. of_old (λ e. none_true f.makes b e _)
      | true ↦ λ b. elim (o == next_open s) as (λ q. o == next_open s ≡ q → (A.server.opened o).user
          ≡ logon_user c.who.logon × (A.server.opened o).client_guid ≡ c.who.guid) [
            | true ↦ λ q. let is = eqb-true o (next_open s) q in let w = f.maker b in
                subst (λ i. (A.server.opened i).user ≡ logon_user c.who.logon × (A.server.opened i).client_guid
                ≡ c.who.guid) (sym is) (w.0 ∙ users m.session_id (on m.connection m.session_id w.2), w.1 ∙ client)
            | false ↦ λ q. of_old (λ _. eqb-false o (next_open s) q)
          ] refl
    ] refl
  where
    of_old : (f.makes ≡ true → o ≢ next_open s) → (A.server.opened o).user ≡ logon_user c.who.logon
        × (A.server.opened o).client_guid ≡ c.who.guid
    of_old n = subst (λ r. r.user ≡ logon_user c.who.logon × r.client_guid ≡ c.who.guid) (sym (f.rows o n)) (opens o (f.opens o h n))

users_of : (c : Client) (s : Server) (m : Message) (A : Answer) → Facts s m A → SessionUsers c s
    → (logs_on m.command ≡ true → user_in m.command ≡ logon_user c.who.logon) → SessionUsers c A.server
users_of c s m A f users logon x h =
    elim f.begins as (λ b. f.begins ≡ b → A.server.user x ≡ logon_user c.who.logon) [
      | false ↦ λ b. of_old (λ e. none_true f.begins b e _)
      | true ↦ λ b. elim (x == m.session_id) as (λ q. x == m.session_id ≡ q → A.server.user x ≡ logon_user c.who.logon) [
        | true ↦ λ q. let is = eqb-true x m.session_id q in let w = f.enters b in ap (λ i. A.server.user i) is ∙ w.user ∙ logon w.logs
        | false ↦ λ q. of_old (λ _. eqb-false x m.session_id q)
      ] refl
    ] refl
  where
    of_old : (f.begins ≡ true → x ≢ m.session_id) → A.server.user x ≡ logon_user c.who.logon
    of_old n = f.users x h n ∙ users x (f.present x h n)

unranked_of : (c : Client) (s : Server) (m : Message) (A : Answer) → Facts s m A → MakingUnranked c s → RankedGiven c s
    → MakingUnranked c A.server
unranked_of c s m A f unranked given k y h =
    elim (y == next_session s) as (λ q. y == next_session s ≡ q → c.rank y ≡ 0) [
      | true ↦ λ q. let is = eqb-true y (next_session s) q in
          subst (λ i. c.rank i ≡ 0) (sym is) (zero_rank (c.rank (next_session s)) (id_of s.epoch s.session_ids_given)
          (next_session s) (given (next_session s)) (next_above s.epoch s.session_ids_given))
      | false ↦ λ q. unranked k y (f.making k y h (λ _. eqb-false y (next_session s) q))
    ] refl

ids_of : (s : Server) (m : Message) (A : Answer) → Facts s m A → id_of s.epoch s.session_ids_given ≤ id_of
    A.server.epoch A.server.session_ids_given
ids_of s m A f =
    elim f.challenges as (λ b. f.challenges ≡ b → id_of s.epoch s.session_ids_given ≤ id_of A.server.epoch A.server.session_ids_given) [
      | true ↦ λ b. more_given s.epoch A.server.epoch s.session_ids_given A.server.session_ids_given f.epoch (f.counted b).0
      | false ↦ λ b. same_given s.epoch A.server.epoch s.session_ids_given A.server.session_ids_given f.epoch (f.uncounted b).0
    ] refl

back_of : (c : Client) (s : Server) (m : Message) (A : Answer) → Facts s m A → MakingUnranked c s → (x : ℕ)
    → 0 < c.rank x → A.server.present x ≡ true → s.present x ≡ true
back_of c s m A f unranked x r p =
    f.present x p (λ b. ranked_other c.rank x m.session_id r (unranked m.connection m.session_id (f.enters b).made))

pub moves_of : (c : Client) (s : Server) (m : Message) (A : Answer) → Facts s m A → MakingUnranked c s → RankedGiven c s
    → SessionUsers c s → OpenUsers c s → OpenTrees c A.server → OnPresent s
    → m.client_guid ≡ c.who.guid → m.command ≢ TreeDisconnect → (logs_on m.command ≡ true → user_in m.command
    ≡ logon_user c.who.logon) → Moves c s A.server
moves_of c s m A f unranked given users opens attached on client keeps logon =
    record {
      present = back_of c s m A f unranked;
      users = users_of c s m A f users logon;
      opens = opens_of c s m A f users opens client on;
      attached = attached;
      making = λ k y l h. f.making k y h (λ _. not_next s.epoch s.session_ids_given y l);
      unranked = unranked_of c s m A f unranked given;
      ids = ids_of s m A f;
      trees = λ x id r p h. f.trees x id (back_of c s m A f unranked x r p) p keeps h;
    }

-- ---- the reply

pub reply_current : (c : Client) (conns : ℕ → Conn) (s : Server) (k : ℕ) (x : Sent) (A : Answer) → Facts s x.message A
    → slice_get (conns k).up 0 ≡ Some x → (conns k).client_open ≡ true → CurrentUp c conns → WorkUp conns
    → is_ops x.token ≡ true → c.live ≡ true × A.reply.session_id ≡ c.session
reply_current c conns s k x A f h stands current work ops =
    let now = current k 0 x h ops stands in
    (now.0, (f.uncounted (refuted f.challenges (λ e. work_not_new x.message.command (work k 0 x h ops) (f.counted e).2 _))).1 ∙ now.1)

above_zero : (e n : ℕ) → 0 < id_of e (n + 1)
above_zero e n = omega arith

within : (e d n b : ℕ) → d ≡ e → b ≡ n + 1 → id_of e (n + 1) ≤ id_of d b
within e d n b a c = omega (arith, a, c)

pub reply_first : (c : Client) (conns : ℕ → Conn) (s : Server) (k : ℕ) (x : Sent) (A : Answer) → Facts s x.message A
    → slice_get (conns k).up 0 ≡ Some x → (conns k).client_open ≡ true → FirstUp c conns → FromClient c conns
    → RankedGiven c s
    → is_ops x.token ≡ false → c.stage k ≡ SaidFirst false → A.reply.status ≡ more_processing_required
    → c.rank A.reply.session_id ≡ 0 × 0 < A.reply.session_id × A.reply.session_id ≤ id_of A.server.epoch A.server.session_ids_given
reply_first c conns s k x A f h stands first who given dialog stage status =
    let n = f.counted (f.interim status (first k 0 x h stands dialog stage) (who k 0 x h).2) in (
      ap c.rank n.1 ∙ zero_rank (c.rank (next_session s)) (id_of s.epoch s.session_ids_given) (next_session s)
          (given (next_session s)) (next_above s.epoch s.session_ids_given),
      subst (λ i. 0 < i) (sym n.1) (above_zero s.epoch s.session_ids_given),
      subst (λ i. i ≤ id_of A.server.epoch A.server.session_ids_given) (sym n.1)
          (within s.epoch A.server.epoch s.session_ids_given A.server.session_ids_given f.epoch n.0),
    )

pub reply_second : (c : Client) (conns : ℕ → Conn) (s : Server) (k : ℕ) (x : Sent) (A : Answer) → Facts s x.message A
    → slice_get (conns k).up 0 ≡ Some x → (conns k).client_open ≡ true → SecondUp c conns → FromClient c conns
    → LogonUp c conns
    → MakingUnranked c s → SessionUsers c s → MakingOnce s → is_ops x.token ≡ false → c.stage k ≡ SaidSecond false
    → A.reply.status ≡ success
    → (0 < c.rank c.accepted → A.server.present c.accepted ≡ false) × ((j : ℕ) → is_new c.pending (A.server.making j) ≡ false)
reply_second c conns s k x A f h stands second who logon unranked users once dialog stage status =
    let m = x.message in let u = second k 0 x h stands dialog stage in let b = f.welcome status u.0 (who k 0 x h).2 in
    let w = f.enters b in (
      λ r. refuted (A.server.present c.accepted) (λ p.
          let old = back_of c s m A f unranked c.accepted r p in
          let mine = logon k 0 x h w.logs in
          let same : same_name (s.user c.accepted) (user_in m.command) ≡ true =
          ap (λ z. same_name z (user_in m.command)) (users c.accepted old ∙ sym mine)
          ∙ same_itself (user_in m.command) in
          subst (λ i. A.server.present i ≡ false) u.1 (w.gone (subst (λ i. s.present i ≡ true) (sym u.1) old)
          (subst (λ i. same_name (s.user i) (user_in m.command) ≡ true) (sym u.1) same))),
      λ j. refuted (is_new c.pending (A.server.making j)) (λ n.
          let q = w.unmade j (subst (λ i. is_new i (A.server.making j) ≡ true) (sym u.2) n) in
          absurd (q.1 (once j m.connection m.session_id (making_of m.session_id (s.making j) q.0)
          (making_of m.session_id (s.making m.connection) w.made)))),
    )

pub reply_tree : (c : Client) (conns : ℕ → Conn) (s : Server) (k : ℕ) (x : Sent) (A : Answer) → Facts s x.message A
    → slice_get (conns k).up 0 ≡ Some x → (conns k).client_open ≡ true → TreeConnectUp c conns → FromClient c conns
    → PendingAccepted c
    → is_ops x.token ≡ false → c.stage k ≡ AskedTree → A.reply.status ≡ success
    → is_some (tree_in (A.server.trees c.accepted) A.reply.tree_id) ≡ true
reply_tree c conns s k x A f h stands tree who pending dialog stage status =
    let u = tree k 0 x h stands dialog stage in
    subst (λ i. is_some (tree_in (A.server.trees i) A.reply.tree_id) ≡ true) (u.1 ∙ (pending k stage).0)
    (f.connected status u.0 (who k 0 x h).2)
