-- The server's step keeps what holds of creates: where it takes a message, accepts a connection or hears of its end.
use Rattle.std.proofs.Common.{◌≡◌, ℕ, ◌+◌, ◌<◌, nat_le, Bool, true, false, ◌&&◌, if◌then◌else◌, ◌++◌, Option, Some}
use Rattle.std.proofs.Common.{None, slice_get, refl, arith, sym, ◌∙◌, ap, subst, inl, inr, length, List, not}
use Rattle.spec_exchange.specs.Commands.{Command, Aside, Unreadable, Setup, Logoff, TreeConnect, TreeDisconnect, Create}
use Rattle.spec_exchange.specs.Commands.{Close, Flush, Read, Write, Lock, Ioctl, ListDirectory, QueryFile, QueryVolume}
use Rattle.spec_exchange.specs.Commands.{SetInfo, CreateRequest}
use Rattle.spec_exchange.specs.State.{Server, Message, ServerEvent, Accept, Heard, End, Answer}
use Rattle.spec_exchange.specs.Records.{fits, origin_at}
use Rattle.spec_exchange.specs.Effects.{apply, end_if_named}
use Rattle.spec_exchange.specs.Verdict.{Verdict}
use Rattle.spec_exchange.specs.Step.{step, event_answer, expiring, with_deadlines, due, expire, expire_records}
use Rattle.spec_exchange.specs.Step.{max_expired_guids, max_connections, TakesIn, TurnsAway, ruling}
use Rattle.spec_exchange.specs.Step.{ruling_without_room, carried_out, connection_of, ends_with}
use Rattle.spec_exchange.specs.Operations.{durable_of}
use Rattle.spec_exchange.specs.Client.{Client, guid_for}
use Rattle.spec_exchange.specs.Network.{Conn, Sent, Token, ForOp, answer_to}
use Rattle.spec_exchange.specs.Runs.{is_send_of}
use Rattle.law_sessions.specs.messages.Connections.{Connections, makes_open, create_at}
use Rattle.law_server.specs.tables.Fits.{OnPresent}
use Rattle.law_server.proofs.tables.Logic.{either, front_of}
use Rattle.law_server.proofs.tables.Doors.{Before, Finds, by_verdict}
use Rattle.law_server.proofs.tables.Checked.{found}
use Rattle.law_sessions.specs.sessions.Sessions.{LiveAccepted, RankedUp, PresentAccepted, MakingUnranked, SessionUsers, TreeUp, is_ops}
use Rattle.law_creates.specs.Creates.{Seen, seen, Creates, outlives, has_files}
use Rattle.law_creates.proofs.Requests.{create_asked, asks_create, asks_durable, asks_new, asks_form, asks_to_keep, same_guid}
use Rattle.law_creates.proofs.Seeing.{end_seen, expire_seen}
use Rattle.law_creates.proofs.Facing.{Facing, rest, expire_rest, is_creating, other_send, once_of}
use Rattle.law_creates.proofs.Moved.{Kept, counted, moved}
use Rattle.law_creates.proofs.Says.{SayFor, Mine, says}
use Rattle.law_creates.proofs.ExpireBy.{expire_by_creates}
use Rattle.law_creates.proofs.EndOf.{end_of_creates}
use Rattle.law_creates.proofs.Recount.{recount_creates}
use Rattle.law_sessions.specs.sessions.Kinds.{TreeKinds}
use Rattle.spec_exchange.specs.Texts.{same_name}
use Rattle.spec_exchange.specs.CheckSetup.{pipes_name}

-- what the layers below say of the client, the connections and the server's sessions
pub record Below (c : Client) (conns : ℕ → Conn) (s : Server) : Type 0 where
  pub ranked : RankedUp c conns
  pub here : PresentAccepted c s
  pub lives : LiveAccepted c
  pub making : MakingUnranked c s
  pub users : SessionUsers c s
  pub on_present : OnPresent s
  pub trees : TreeUp conns s
  pub kinds : TreeKinds c s

files_by : (share : List ℕ) (pipes : Bool) → pipes ≡ same_name share pipes_name → has_files share ≡ not pipes
unfolding has_files
files_by share pipes e = ap not (sym e)

pub facing : (c : Client) (conns : ℕ → Conn) (s : Server) (k : ℕ) (x0 : Sent) → Below c conns s → slice_get (conns k).up
    0 ≡ Some x0 → Facing c conns (rest s) k x0
facing c conns s k x0 b front =
    record {
      front = front;
      ranked = b.ranked;
      here = b.here;
      lives = λ l. ((b.lives l).0, (b.lives l).1);
      making = b.making;
      users = b.users;
      on_present = b.on_present;
      trees = b.trees;
      kinds = λ x id pipes e. files_by c.who.share pipes (b.kinds x id pipes e);
    }

-- ---- the state that the checks see

creates_before : (c : Client) (conns : ℕ → Conn) (a : ℕ → ℕ) (s : Server) (now : ℕ) (t : Server)
    → Creates c conns (seen s) a → Before s now t → Creates c conns (seen t) a
creates_before c conns a s now t i (inl e) = subst (λ u. Creates c conns (seen u) a) (sym e) i
creates_before c conns a s now t i (inr x) =
    let d = with_deadlines s now in
    subst (λ u. Creates c conns (seen u) a) (sym x.2) (subst (λ v. Creates c conns v a) (sym (expire_seen d x.0))
    (expire_by_creates c conns (seen d) a x.0 (d.opened x.0).create_guid refl i))

rest_before : (s : Server) (now : ℕ) (t : Server) → Before s now t → rest t ≡ rest s
rest_before s now t (inl e) = ap rest e
rest_before s now t (inr x) = ap rest x.2 ∙ expire_rest (with_deadlines s now) x.0

-- ---- a message

abbrev pub Good : Client → (ℕ → Conn) → (ℕ → ℕ) → Token → Answer → Type 0
Good c conns a tk A = Kept c conns a tk A × ((g : ℕ) → tk ≡ ForOp g → makes_open (c.op g) ≡ true
    → SayFor c (seen A.server) (counted a tk A.acted) g A.reply)

mine_of : (c : Client) (conns : ℕ → Conn) (a : ℕ → ℕ) (t : Server) (k g : ℕ) (x0 : Sent) → Connections c conns a
    → Facing c conns (rest t) k x0 → Creates c conns (seen t) a → x0.token ≡ ForOp g → makes_open (c.op g) ≡ true
    → Mine c t a g x0.token x0.message (create_asked (c.op g) (guid_for c g))
mine_of c conns a t k g x0 f fc i tk mk =
    let bd = f.bodies k 0 g x0 fc.front tk in
    let ops : is_ops x0.token ≡ true = ap is_ops tk in
    let ranked = fc.ranked k 0 x0 fc.front ops in
    record {
      token = tk;
      create = mk;
      client = bd.2;
      fault = bd.3;
      command = bd.1 ∙ asks_create (c.op g) (guid_for c g) (c.file (create_at c g)) (c.slot_of g) (c.number_of g) mk;
      new = asks_new (c.op g) (guid_for c g) mk;
      durable = subst (λ n. (create_asked (c.op g) (guid_for c g)).durable ≡ Some (durable_of n (outlives (c.op g))))
          (same_guid c g) (asks_durable (c.op g) (guid_for c g) mk);
      keeps = asks_to_keep (c.op g) (guid_for c g) mk;
      form = asks_form (c.op g) (guid_for c g) mk;
      fresh = λ b. (f.first k 0 g x0 fc.front tk (once_of c g mk) b).1;
      mine = λ cur there. (fc.lives (front_of c.live _ cur)).0 ∙ sym (fc.here x0.message.session_id there ranked);
      made = i.made;
      named_ = i.named;
      given = i.named_given;
      kind = i.named_kind;
      formed = i.form_acted;
      statuses = i.refused_status;
      kept = λ there l. i.acted_kept k 0 g x0 fc.front tk mk there l;
      there = λ on. fc.on_present x0.message.connection x0.message.session_id on;
      users = λ there. fc.users x0.message.session_id there;
      tree = λ there. fc.trees k 0 x0 fc.front ops there;
      files = λ b e. fc.kinds x0.message.session_id x0.message.tree_id b e;
    }

says_found : (c : Client) (a : ℕ → ℕ) (t : Server) (g : ℕ) (tk : Token) (m : Message) (r : CreateRequest) (now : ℕ)
    (v : Verdict) → Mine c t a g tk m r → Finds t m v → SayFor c (seen (apply t m now v).server)
    (counted a tk (apply t m now v).acted) g (apply t m now v).reply
says_found c a t g tk m r now v mi (inl e) =
    subst (λ w. SayFor c (seen (apply t m now w).server) (counted a tk (apply t m now w).acted) g
    (apply t m now w).reply) (sym e) (says c t a g tk m r now mi).0
says_found c a t g tk m r now v mi (inr e) =
    subst (λ w. SayFor c (seen (apply t m now w).server) (counted a tk (apply t m now w).acted) g
    (apply t m now w).reply) (sym e) (says c t a g tk m r now mi).1

stepped : (c : Client) (conns : ℕ → Conn) (a : ℕ → ℕ) (s : Server) (now k : ℕ) (x0 : Sent) → Connections c conns a
    → Facing c conns (rest s) k x0 → Creates c conns (seen s) a → Good c conns a x0.token
    (step s now (Heard x0.message))
stepped c conns a s now k x0 f fc i =
    by_verdict (Good c conns a x0.token) s now x0.message
    (λ t v records before finds.
    let j = creates_before c conns a s now t i before in
    let fr : Facing c conns (rest t) k x0 = subst (λ r. Facing c conns r k x0) (sym (rest_before s now t before)) fc in (
      moved c conns a t k x0 now f fr j v (found t x0.message v finds),
      λ g tk mk. says_found c a t g x0.token x0.message
          (create_asked (c.op g) (guid_for c g)) now v (mine_of c conns a t k g x0 f fr j tk mk) finds,
    ))

aside : (c : Client) (conns : ℕ → Conn) (a : ℕ → ℕ) (s : Server) (now k status : ℕ) (x0 : Sent) → Connections c conns a
    → Facing c conns (rest s) k x0 → Creates c conns (seen s) a → x0.message.command ≡ Aside status
    → Good c conns a x0.token (answer_to s now x0.message (Aside status))
aside c conns a s now k status x0 f fc i e = (
  recount_creates c conns (seen s) a (counted a x0.token false) (λ h mk. quiet (is_send_of h x0.token) (a h)) i,
  λ g tk mk. absurd (let o = other_send c conns a k x0 f fc.front (ap is_creating e) g mk in grind arith),
)
  where
    quiet : (b : Bool) (n : ℕ) → (if b && false then n + 1 else n) ≡ n
    quiet b n = grind arith

pub answered : (c : Client) (conns : ℕ → Conn) (a : ℕ → ℕ) (s : Server) (now k : ℕ) (x0 : Sent) → Connections c conns a
    → Facing c conns (rest s) k x0 → Creates c conns (seen s) a → (cmd : Command) → x0.message.command ≡ cmd
    → Good c conns a x0.token (answer_to s now x0.message cmd)
answered c conns a s now k x0 f fc i (Aside status) e = aside c conns a s now k status x0 f fc i e
answered c conns a s now k x0 f fc i (Unreadable status) e = stepped c conns a s now k x0 f fc i
answered c conns a s now k x0 f fc i (Setup request) e = stepped c conns a s now k x0 f fc i
answered c conns a s now k x0 f fc i Logoff e = stepped c conns a s now k x0 f fc i
answered c conns a s now k x0 f fc i (TreeConnect share) e = stepped c conns a s now k x0 f fc i
answered c conns a s now k x0 f fc i TreeDisconnect e = stepped c conns a s now k x0 f fc i
answered c conns a s now k x0 f fc i (Create request) e = stepped c conns a s now k x0 f fc i
answered c conns a s now k x0 f fc i (Close file query) e = stepped c conns a s now k x0 f fc i
answered c conns a s now k x0 f fc i (Flush file) e = stepped c conns a s now k x0 f fc i
answered c conns a s now k x0 f fc i (Read file at size minimum channel) e = stepped c conns a s now k x0 f fc i
answered c conns a s now k x0 f fc i (Write file at bytes channel) e = stepped c conns a s now k x0 f fc i
answered c conns a s now k x0 f fc i (Lock file index number elements) e = stepped c conns a s now k x0 f fc i
answered c conns a s now k x0 f fc i (Ioctl file code room) e = stepped c conns a s now k x0 f fc i
answered c conns a s now k x0 f fc i (ListDirectory file class restart single pattern room) e = stepped c conns a s now k x0 f fc i
answered c conns a s now k x0 f fc i (QueryFile file class room) e = stepped c conns a s now k x0 f fc i
answered c conns a s now k x0 f fc i (QueryVolume file class room) e = stepped c conns a s now k x0 f fc i
answered c conns a s now k x0 f fc i (SetInfo file setting) e = stepped c conns a s now k x0 f fc i

-- ---- a connection that begins or ends: the way into the step

abbrev Way : Server → ℕ → ServerEvent → (Seen → Type 0) → Type 0
Way s now e P = (t : Server) → Before s now t → P (seen (carried_out t now (ruling t e)).server)
    × P (seen (carried_out t now (ruling_without_room (ruling t e))).server)

by_table : (P : Seen → Type 0) (s : Server) (now : ℕ) (e : ServerEvent) → Way s now e P
    → P (seen (event_answer (with_deadlines s now) now e).server)
by_table P s now e f =
    let d = with_deadlines s now in
    either (λ (A : Answer). P (seen A.server)) (fits d (carried_out d now (ruling d e)).records) _ _
    (λ _. (f d (inl refl)).0) (λ _. (f d (inl refl)).1)

by_due : (P : Seen → Type 0) (s : Server) (now : ℕ) (e : ServerEvent) → Way s now e P → (u : Option ℕ)
    → due (with_deadlines s now) now ≡ u → P (seen (expiring (with_deadlines s now) now e u).server)
by_due P s now e f None q = by_table P s now e f
by_due P s now e f (Some o) q =
    let d = with_deadlines s now in let t = expire d o in
    either (λ (A : Answer). P (seen A.server)) (nat_le max_expired_guids d.expired_count) _ _ (λ _. by_table P s now e f)
    (λ _. either (λ (A : Answer). P (seen A.server))
    (fits d (expire_records d (origin_at (connection_of e)) o ++ (carried_out t now (ruling t e)).records)) _ _
    (λ _. (f t (inr (o, q, refl))).0)
    (λ _. by_table P s now e f))

by_event : (P : Seen → Type 0) (s : Server) (now : ℕ) (e : ServerEvent) → Way s now e P → P (seen (step s now e).server)
by_event P s now e f = by_due P s now e f (due (with_deadlines s now) now) refl

pub accepts : (c : Client) (conns : ℕ → Conn) (a : ℕ → ℕ) (s : Server) (now k : ℕ) → Creates c conns (seen s) a
    → Creates c conns (seen (step s now (Accept k)).server) a
accepts c conns a s now k i =
    by_event (λ v. Creates c conns v a) s now (Accept k)
    (λ t before. let j = creates_before c conns a s now t i before in
    let b : Bool = nat_le max_connections (length t.connections) in (
      either (λ r. Creates c conns (seen (carried_out t now r).server) a) b TurnsAway (TakesIn k) (λ _. j) (λ _. j),
      either (λ r. Creates c conns (seen (carried_out t now (ruling_without_room r)).server) a) b TurnsAway (TakesIn k) (λ _. j) (λ _. j),
    ))

ends_named : (c : Client) (conns : ℕ → Conn) (a : ℕ → ℕ) (t : Server) (now : ℕ) (quiet : Bool) → RankedUp c conns
    → PresentAccepted c t → LiveAccepted c → Creates c conns (seen t) a → (u : Option ℕ)
    → Creates c conns (seen (end_if_named t now u quiet)) a
ends_named c conns a t now quiet ranked here lives i None = i
ends_named c conns a t now quiet ranked here lives i (Some x) =
    subst (λ v. Creates c conns v a) (sym (end_seen t x now quiet)) (end_of_creates c conns (seen t) a x here
    (λ l. (lives l).0) (λ j n h y w e. ranked j n y w (ap is_ops e)) i)

pub ends : (c : Client) (conns : ℕ → Conn) (a : ℕ → ℕ) (s : Server) (now k : ℕ) → Below c conns s
    → Creates c conns (seen s) a → Creates c conns (seen (step s now (End k)).server) a
ends c conns a s now k b i =
    by_event (λ v. Creates c conns v a) s now (End k)
    (λ t before. let j = creates_before c conns a s now t i before in
    let here : PresentAccepted c t = subst (λ r. (x : ℕ) → r.present x ≡ true → 0 < c.rank x → x ≡ c.accepted)
    (sym (rest_before s now t before)) b.here in (
      ends_named c conns a t now false b.ranked here b.lives j (ends_with t k),
      ends_named c conns a t now true b.ranked
          here b.lives j (ends_with t k),
    ))
