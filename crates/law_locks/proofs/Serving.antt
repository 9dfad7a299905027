-- What is known where the server takes the front of a connection, and how a verdict that isn't a lock's keeps it.
use Rattle.law_sessions.proofs.sessions.Serving.{work_keeps, dialog_keeps}
use Rattle.std.proofs.Common.{eqb-true, ◌≡◌, ◌≢◌, inl, inr, ℕ, ◌+◌, ◌==◌, ◌≤◌, ◌<◌, Bool, true, false, ◌&&◌, if◌then◌else◌, List, []}
use Rattle.std.proofs.Common.{Option, Some, None, slice_get, is_some, refl, arith, sym, ◌∙◌, subst}
use Rattle.spec_exchange.specs.Status.{success, disk_full}
use Rattle.spec_exchange.specs.Commands.{Command, TreeDisconnect, Create, CreateRequest, Durable, deletes_on_close}
use Rattle.spec_exchange.specs.State.{Server, Message, Answer, Record}
use Rattle.spec_exchange.specs.CheckSetup.{tree_in}
use Rattle.spec_exchange.specs.CheckCreate.{refused_by}
use Rattle.spec_exchange.specs.Records.{lower_limit, entry_bytes}
use Rattle.spec_exchange.specs.Effects.{apply, end_records}
use Rattle.spec_exchange.specs.Step.{without_room}
use Rattle.spec_exchange.specs.Operations.{is_unsettled}
use Rattle.spec_exchange.specs.Client.{Client, guid_for}
use Rattle.spec_exchange.specs.Network.{Conn, Sent, Received, Token, ForOp, ForAttach}
use Rattle.spec_exchange.specs.Runs.{is_send_of}
use Rattle.spec_exchange.specs.Verdict.{Verdict, Refuse, Give, KeepRefusal, Repeat, Attach, Make, TurnDown, Tell, Show}
use Rattle.spec_exchange.specs.Verdict.{KeepSlot, PutRanges, Alter, CloseOpen, Challenge, ChallengeBinding, Begin, Join}
use Rattle.spec_exchange.specs.Verdict.{EndSession, AddTree, DropTree}
use Rattle.law_sessions.specs.messages.Connections.{Connections, makes_open, create_at}
use Rattle.law_server.proofs.tables.Doors.{recorded}
use Rattle.law_server.proofs.tables.Found.{Facts}
use Rattle.law_server.proofs.tables.Checked.{found}
use Rattle.law_sessions.specs.sessions.Sessions.{is_ops, is_dialog, is_work, logon_user}
use Rattle.law_sessions.specs.sessions.Kinds.{TreeKinds}
use Rattle.law_creates.specs.Creates.{Creates, seen}
use Rattle.law_creates.proofs.Facing.{own_create}
use Rattle.law_creates.proofs.Requests.{create_asked, asks_create, asks_to_keep}
use Rattle.law_locks.specs.Locks.{Locks, locking, open_at, piped}
use Rattle.law_locks.proofs.Views.{view, Quiet, grows}
use Rattle.law_locks.proofs.Verdicts.{closes_in, news, verdict_quiet, is_slot_verdict}
use Rattle.law_locks.proofs.Undeleting.{undeleting, NewKept}
use Rattle.law_locks.proofs.Calm.{Steady, Calm, Steadies, Ending}
use Rattle.law_locks.proofs.Bare.{bare_steady, ends_calm}
use Rattle.law_locks.proofs.Facing.{Lower, quiet_keeps}
use Rattle.law_locks.proofs.Say.{MaySay}

abbrev pub counted : (ℕ → ℕ) → Token → Bool → ℕ → ℕ
counted a tk acted h = if is_send_of h tk && acted then a h + 1 else a h

pub record Serving (c : Client) (conns : ℕ → Conn) (t : Server) (a : ℕ → ℕ) (k : ℕ) (x0 : Sent) : Type 0 where
  pub front : slice_get (conns k).up 0 ≡ Some x0
  pub links : Connections c conns a
  pub creates : Creates c conns (seen t) a
  pub low : Lower c conns t
  pub locks : Locks c conns t a
  pub fault : x0.message.fault ≡ None
  pub here : (x : ℕ) → t.present x ≡ true → 0 < c.rank x → x ≡ c.accepted
  pub lives : c.live ≡ true → c.session ≡ c.accepted × 0 < c.rank c.accepted
  pub current : is_ops x0.token ≡ true → (conns k).client_open ≡ true → c.live ≡ true × x0.message.session_id ≡ c.session
  pub users : (x : ℕ) → t.present x ≡ true → t.user x ≡ logon_user c.who.logon
  pub trees : is_ops x0.token ≡ true → t.present x0.message.session_id ≡ true
      → is_some (tree_in (t.trees x0.message.session_id) x0.message.tree_id) ≡ true
  pub own_tree : is_ops x0.token ≡ true → (o : ℕ) → t.session_of_open o ≡ Some x0.message.session_id → t.tree_of_open o ≡ x0.message.tree_id
  pub kinds : TreeKinds c t
  pub work : is_ops x0.token ≡ true → is_work x0.message.command ≡ true
  pub dialog : is_ops x0.token ≡ false → is_dialog x0.message.command ≡ true

-- it gives no tree up
pub keeps_trees : (c : Client) (conns : ℕ → Conn) (t : Server) (a : ℕ → ℕ) (k : ℕ) (x0 : Sent) → Serving c conns t a k x0
    → x0.message.command ≢ TreeDisconnect
keeps_trees c conns t a k x0 w = by (is_ops x0.token) refl
  where
    by : (b : Bool) → is_ops x0.token ≡ b → x0.message.command ≢ TreeDisconnect
    by true e = work_keeps x0.message.command (w.work e)
    by false e = dialog_keeps x0.message.command (w.dialog e)

-- what an answer comes to
abbrev pub Served : Client → (ℕ → Conn) → (ℕ → ℕ) → ℕ → Sent → Answer → Type 0
Served c conns a k x0 A = Locks c conns A.server (counted a x0.token A.acted)
    × ((conns k).client_open ≡ true → (place : ℕ) → MaySay c A.server (counted a x0.token A.acted) (record {
      token = x0.token;
      reply = A.reply;
      place = place;
    }))

pub not_acted : (a : ℕ → ℕ) (tk : Token) (acted : Bool) (p : ℕ) → acted ≡ false → counted a tk acted p ≡ a p
not_acted a tk acted p e = grind arith

pub not_sent : (a : ℕ → ℕ) (tk : Token) (acted : Bool) (p : ℕ) → is_send_of p tk ≡ false → counted a tk acted p ≡ a p
not_sent a tk acted p e = grind arith

pub of_other : (c : Client) (g p : ℕ) → locking (c.op g) ≡ false → locking (c.op p) ≡ true → is_send_of p (ForOp g) ≡ false
of_other c g p e f = elim (g == p) as (λ b. g == p ≡ b → (g == p) ≡ false) [
  | true ↦ λ q. let same : g ≡ p = eqb-true g p q in absurd (grind arith)
  | false ↦ λ q. q
] refl

-- ---- what doesn't fit below the limit

bare_refused : (d : Server) (m : Message) (now status : ℕ) (u : Option Durable) → (apply d m now (refused_by u status)).records ≡ []
bare_refused d m now status None = refl
bare_refused d m now status (Some x) = refl

pub bare_full : (d : Server) (m : Message) (now : ℕ) (v : Verdict) → (apply d m now (without_room v)).records ≡ []
unfolding end_records
bare_full d m now (Refuse status) = refl
bare_full d m now (Give body) = refl
bare_full d m now (KeepRefusal guid status) = refl
bare_full d m now (Repeat o r) = refl
bare_full d m now (Attach o r) = refl
bare_full d m now (Make r found action) = bare_refused d m now disk_full r.durable
bare_full d m now (TurnDown o status) = refl
bare_full d m now (Tell o body) = refl
bare_full d m now (Show o last body) = refl
bare_full d m now (KeepSlot o index number status elements) = refl
bare_full d m now (PutRanges o index number ranges elements) = refl
bare_full d m now (Alter o change body) = refl
bare_full d m now (CloseOpen o body) = refl
bare_full d m now Challenge = refl
bare_full d m now (ChallengeBinding session) = refl
bare_full d m now (Begin session user None r is_quiet) = refl
bare_full d m now (Begin session user (Some p) r is_quiet) = refl
bare_full d m now (Join session) = refl
bare_full d m now (EndSession session is_quiet) = refl
bare_full d m now (AddTree pipes) = refl
bare_full d m now DropTree = refl

-- ---- a new open is a create's

same_asked : (b : Command) (r q : CreateRequest) → b ≡ Create r → b ≡ Create q → deletes_on_close q.options ≡ false
    → deletes_on_close r.options ≡ false
same_asked b r q e f d = let s : r ≡ q = grind arith in subst (λ z. deletes_on_close z.options ≡ false) (sym s) d

pub new_kept : (c : Client) (conns : ℕ → Conn) (t : Server) (a : ℕ → ℕ) (k : ℕ) (x0 : Sent) (v : Verdict)
    → Serving c conns t a k x0 → Facts t x0.message v → NewKept v
new_kept c conns t a k x0 (Make r found action) w f =
    own_create c conns a k x0 r (deletes_on_close r.options ≡ false) w.links w.creates.dialog_up w.creates.ask_up
    w.front f.new.create.command f.new.new
    (λ g tk mk. let bd = w.links.bodies k 0 g x0 w.front tk in
    same_asked x0.message.command r (create_asked (c.op g) (guid_for c g)) f.new.create.command
    (bd.1 ∙ asks_create (c.op g) (guid_for c g) (c.file (create_at c g)) (c.slot_of g) (c.number_of g) mk)
    (asks_to_keep (c.op g) (guid_for c g) mk))
new_kept c conns t a k x0 (Refuse status) w f = tt
new_kept c conns t a k x0 (Give body) w f = tt
new_kept c conns t a k x0 (KeepRefusal guid status) w f = tt
new_kept c conns t a k x0 (Repeat o r) w f = tt
new_kept c conns t a k x0 (Attach o r) w f = tt
new_kept c conns t a k x0 (TurnDown o status) w f = tt
new_kept c conns t a k x0 (Tell o body) w f = tt
new_kept c conns t a k x0 (Show o last body) w f = tt
new_kept c conns t a k x0 (KeepSlot o index number status elements) w f = tt
new_kept c conns t a k x0 (PutRanges o index number ranges elements) w f = tt
new_kept c conns t a k x0 (Alter o change body) w f = tt
new_kept c conns t a k x0 (CloseOpen o body) w f = tt
new_kept c conns t a k x0 Challenge w f = tt
new_kept c conns t a k x0 (ChallengeBinding session) w f = tt
new_kept c conns t a k x0 (Begin session user previous r is_quiet) w f = tt
new_kept c conns t a k x0 (Join session) w f = tt
new_kept c conns t a k x0 (EndSession session is_quiet) w f = tt
new_kept c conns t a k x0 (AddTree pipes) w f = tt
new_kept c conns t a k x0 DropTree w f = keeps_trees c conns t a k x0 w f.command

-- creates act by their own messages alone
pub plain_other : (c : Client) (conns : ℕ → Conn) (t : Server) (a : ℕ → ℕ) (k : ℕ) (x0 : Sent) (acted : Bool)
    → Serving c conns t a k x0 → ((q : ℕ) → makes_open (c.op q) ≡ true → is_send_of q x0.token ≡ false) → (q : ℕ)
    → makes_open (c.op q) ≡ true → 1 ≤ counted a x0.token acted q → piped c.who.share ≡ false
plain_other c conns t a k x0 acted w off q m l = w.locks.made_plain q m (subst (λ z. 1 ≤ z) (not_sent a x0.token acted q (off q m)) l)

pub of_unmade : (c : Client) (g p : ℕ) → makes_open (c.op g) ≡ false → makes_open (c.op p) ≡ true → is_send_of p (ForOp g) ≡ false
of_unmade c g p e f = elim (g == p) as (λ b. g == p ≡ b → (g == p) ≡ false) [
  | true ↦ λ q. let same : g ≡ p = eqb-true g p q in absurd (grind arith)
  | false ↦ λ q. q
] refl

-- ---- a verdict that isn't a lock's

calm_recorded : (t u : Server) (n : ℕ) → Calm t u → Calm t (record u { journal = n })
calm_recorded t u n c = record { delete_pending = c.delete_pending; others = c.others }

steady_recorded : (t u : Server) (n : ℕ) → Steady t u → Steady t (record u { journal = n })
steady_recorded t u n s = record { entries = s.entries; delete_pending = s.delete_pending; directory = s.directory; others = s.others }

pub quiet_serve : (c : Client) (conns : ℕ → Conn) (t : Server) (a : ℕ → ℕ) (k : ℕ) (x0 : Sent) (now : ℕ) (v : Verdict)
    (rs : List Record) (a2 : ℕ → ℕ)
    → Serving c conns t a k x0 → Facts t x0.message v → is_slot_verdict v ≡ false
    → (lower_limit < t.journal + 35 → Ending (apply t x0.message now v).records rs)
    → ((q : ℕ) → makes_open (c.op q) ≡ true → 1 ≤ a2 q → piped c.who.share ≡ false)
    → ((p : ℕ) → locking (c.op p) ≡ true → a2 p ≡ a p)
    → ((g : ℕ) → locking (c.op g) ≡ true → c.sent g ≡ true → is_unsettled (c.outcome g) ≡ true → c.live ≡ true
    → (apply t x0.message now v).server.present c.session ≡ true → t.standing (open_at c g) ≡ true
    → closes_in x0.message.command (open_at c g) ≡ true → (apply t x0.message now v).server.standing (open_at c g)
    ≡ false → a g ≡ 0)
    → ((j n g : ℕ) (y : Received) → slice_get (conns j).down n ≡ Some y → y.token ≡ ForAttach g → y.reply.status
    ≡ success → c.live ≡ true → (apply t x0.message now v).server.present c.session ≡ true
    → t.standing (open_at c g) ≡ true → closes_in x0.message.command (open_at c g) ≡ true
    → (apply t x0.message now v).server.standing (open_at c g) ≡ false → c.attached (create_at c g)
    ≡ c.session_number)
    → Locks c conns (recorded (apply t x0.message now v) rs).server a2
quiet_serve c conns t a k x0 now v rs a2 w f off bare plain same_a shut joined =
    let m = x0.message in let A = apply t m now v in
    quiet_keeps c conns t a (recorded A rs).server a2 m.connection (closes_in m.command) w.low w.links same_a
    (grows (news t m) (closes_in m.command) (view t) (view A.server) (entry_bytes rs)
    quiet)
    (λ big. by_ends big (bare big))
    plain
    (undeleting t m now v (new_kept c conns t a k x0 v w f) w.locks.kept_files) shut joined w.locks
  where
    fuller : (n m b : ℕ) → n ≤ m → lower_limit < n + 35 → 34 ≤ b → lower_limit < m + b + 34
    fuller n m b g l e = omega (arith, g, l, e)

    quiet : Quiet (news t x0.message) (closes_in x0.message.command) (view t) (view (apply t x0.message now v).server)
    quiet = verdict_quiet t x0.message now v (λ o y h. (w.low.attached o y h).1) (keeps_trees c conns t a k x0 w) f off

    by_ends : lower_limit < t.journal + 35 → Ending (apply t x0.message now v).records rs
        → Steadies t (recorded (apply t x0.message now v) rs).server
    by_ends big (inl e) = inl (steady_recorded t (apply t x0.message now v).server _
        (bare_steady t x0.message now v (keeps_trees c conns t a k x0 w) f e))
    by_ends big (inr e) = inr (
      calm_recorded t (apply t x0.message now v).server _
          (ends_calm t x0.message now v (keeps_trees c conns t a k x0 w) f e.0),
      fuller t.journal (apply t x0.message now v).server.journal (entry_bytes rs) quiet.journal big e.1,
    )
