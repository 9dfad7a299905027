-- What is known where the server takes a message: of the client, of what waits, and of the columns that an expiry leaves.
use Rattle.spec_exchange.specs.Operations.{Op}
use Rattle.law_sessions.proofs.sessions.Run.{own_work}
use Rattle.law_sessions.proofs.sessions.Serving.{work_keeps}
use Rattle.std.proofs.Common.{eqb-true, ap, ◌≡◌, ◌≢◌, ℕ, ◌<◌, ◌==◌, Bool, true, false, if◌then◌else◌, List, Option, Some, None}
use Rattle.std.proofs.Common.{slice_get, is_some, refl, arith, sym, ◌∙◌, subst, not}
use Rattle.spec_exchange.specs.Commands.{Command, TreeDisconnect, Create, CreateRequest}
use Rattle.spec_exchange.specs.State.{Server, Tree, Making}
use Rattle.spec_exchange.specs.CheckSetup.{tree_in, is_new}
use Rattle.spec_exchange.specs.Files.{set_delete_pending}
use Rattle.spec_exchange.specs.Opens.{drop_open, leave_open, pending_behind, goes, is_kept_back}
use Rattle.spec_exchange.specs.Step.{expire, add_expired_guid}
use Rattle.spec_exchange.specs.Client.{Client, guid_for}
use Rattle.spec_exchange.specs.Network.{Conn, Sent, Token, ForDialog, ForOp, ForAttach}
use Rattle.spec_exchange.specs.Runs.{is_send_of}
use Rattle.law_sessions.specs.messages.Connections.{Connections, makes_open, acts_once, create_at, its_request}
use Rattle.law_server.proofs.tables.Logic.{either}
use Rattle.law_sessions.specs.sessions.Sessions.{RankedUp, is_ops, is_work, logon_user}
use Rattle.law_creates.specs.Creates.{DialogUp, AskUp, has_files}
use Rattle.law_creates.proofs.Requests.{asks_create, makes_of}

-- sessions and trees, which an expiry leaves as they are
pub record Rest : Type 0 where
  pub present : ℕ → Bool
  pub user : ℕ → List ℕ
  pub session_on : ℕ → Option ℕ
  pub making : ℕ → Option Making
  pub trees : ℕ → List Tree

abbrev pub rest : Server → Rest
rest s = record { present = s.present; user = s.user; session_on = s.session_on; making = s.making; trees = s.trees }

pub record Facing (c : Client) (conns : ℕ → Conn) (r : Rest) (k : ℕ) (x0 : Sent) : Type 0 where
  pub front : slice_get (conns k).up 0 ≡ Some x0
  pub ranked : RankedUp c conns
  pub here : (x : ℕ) → r.present x ≡ true → 0 < c.rank x → x ≡ c.accepted
  pub lives : c.live ≡ true → c.session ≡ c.accepted × 0 < c.rank c.accepted
  pub making : (j x : ℕ) → is_new x (r.making j) ≡ true → c.rank x ≡ 0
  pub users : (x : ℕ) → r.present x ≡ true → r.user x ≡ logon_user c.who.logon
  pub on_present : (j x : ℕ) → r.session_on j ≡ Some x → r.present x ≡ true
  pub trees : (j n : ℕ) (x : Sent) → slice_get (conns j).up n ≡ Some x → is_ops x.token ≡ true
      → r.present x.message.session_id ≡ true → is_some (tree_in (r.trees x.message.session_id) x.message.tree_id)
      ≡ true
  pub kinds : (x id : ℕ) (b : Bool) → tree_in (r.trees x) id ≡ Some b → has_files c.who.share ≡ not b

-- ---- an expiry

drop_rest : (s : Server) (o : ℕ) (b : Bool) → rest (drop_open (if b then set_delete_pending s (s.opened o).file true else s) o) ≡ rest s
drop_rest s o true = refl
drop_rest s o false = refl

leave_rest : (s : Server) (o : ℕ) (b : Bool) → rest (leave_open s o) ≡ rest s
leave_rest s o b =
    let d = drop_open (pending_behind s o) o in
    either (λ u. rest u ≡ rest s) (is_kept_back d (s.opened o).file) _ _ (λ _. drop_rest s o _)
    (λ _. either (λ u. rest u ≡ rest s) (goes d (s.opened o).file) _ _ (λ _. drop_rest s o _) (λ _. drop_rest s o _))

expired_rest : (s : Server) (client : ℕ) (q : Option ℕ) → rest (add_expired_guid s client q) ≡ rest s
expired_rest s client None = refl
expired_rest s client (Some g) = refl

pub expire_rest : (s : Server) (o : ℕ) → rest (expire s o) ≡ rest s
expire_rest s o = expired_rest (leave_open s o) (s.opened o).client_guid (s.opened o).create_guid ∙ leave_rest s o true

-- ---- tokens

abbrev pub is_creating : Command → Bool
is_creating (Create request) = true
is_creating _ = false

creating : (a b : Command) (r : CreateRequest) → a ≡ b → b ≡ Create r → is_creating a ≡ true
creating a b r e f = grind arith

same_send : (g h : ℕ) → (g ≡ h → Bool → true ≡ false) → (g == h) ≡ false
same_send g h f = elim (g == h) as (λ b. g == h ≡ b → (g == h) ≡ false) [ true ↦ λ e. e ∙ f (eqb-true g h e) true | false ↦ λ e. e ] refl

-- a message that doesn't create is no create's own
pub other_send : (c : Client) (conns : ℕ → Conn) (a : ℕ → ℕ) (k : ℕ) (x0 : Sent) → Connections c conns a
    → slice_get (conns k).up 0 ≡ Some x0 → is_creating x0.message.command ≡ false
    → (h : ℕ) → makes_open (c.op h) ≡ true → is_send_of h x0.token ≡ false
other_send c conns a k x0 f front off h mk = by_token x0.token refl
  where
    by_token : (tk : Token) → x0.token ≡ tk → is_send_of h tk ≡ false
    by_token ForDialog e = refl
    by_token (ForAttach g) e = refl
    by_token (ForOp g) e =
        same_send g h (λ same _. let bd = f.bodies k 0 g x0 front e in
        let mk2 : makes_open (c.op g) ≡ true = subst (λ q. makes_open (c.op q) ≡ true) (sym same) mk in
        sym (creating x0.message.command _ _ bd.1 (asks_create (c.op g) (guid_for c g) (c.file (create_at c g))
        (c.slot_of g) (c.number_of g) mk2)) ∙ off)

-- a message that creates, and asks for no open that stands, is a create's own
pub own_create : (c : Client) (conns : ℕ → Conn) (a : ℕ → ℕ) (k : ℕ) (x0 : Sent) (r : CreateRequest) (P : Type 0)
    → Connections c conns a → DialogUp conns → AskUp conns → slice_get (conns k).up 0 ≡ Some x0
    → x0.message.command ≡ Create r → r.reconnect ≡ None → ((g : ℕ) → x0.token ≡ ForOp g → makes_open (c.op g) ≡ true → P) → P
own_create c conns a k x0 r P f dialog ask front is new go = by_token x0.token refl
  where
    by_token : (tk : Token) → x0.token ≡ tk → P
    by_token ForDialog e = let d = dialog k 0 x0 front e in absurd (grind arith)
    by_token (ForAttach g) e = let d = ask k 0 g x0 front e in absurd (grind arith)
    by_token (ForOp g) e = let bd = f.bodies k 0 g x0 front e in
        go g e (makes_of (c.op g) (guid_for c g) (c.file (create_at c g)) (c.slot_of g) (c.number_of g) r
        (sym bd.1 ∙ is))

its_work : (op : Op) (guid file slot number : ℕ) → is_work (its_request op guid file slot number) ≡ true
unfolding its_request
its_work op guid file slot number = (own_work op guid file slot number).0

-- no message gives a tree up
pub keeps_trees : (c : Client) (conns : ℕ → Conn) (a : ℕ → ℕ) (k : ℕ) (x0 : Sent) → Connections c conns a → DialogUp conns → AskUp conns
    → slice_get (conns k).up 0 ≡ Some x0 → x0.message.command ≢ TreeDisconnect
keeps_trees c conns a k x0 f dialog ask front is = by_token x0.token refl
  where
    by_token : (tk : Token) → x0.token ≡ tk → ⊥
    by_token ForDialog e = let d = dialog k 0 x0 front e in absurd (grind arith)
    by_token (ForAttach g) e = let d = ask k 0 g x0 front e in absurd (grind arith)
    by_token (ForOp g) e = let bd = f.bodies k 0 g x0 front e in
        work_keeps x0.message.command (ap is_work bd.1 ∙ its_work (c.op g) (guid_for c g) (c.file (create_at c g))
        (c.slot_of g) (c.number_of g)) is

-- a message that creates is of an operation
pub of_op : (conns : ℕ → Conn) (k : ℕ) (x0 : Sent) (r : CreateRequest) → DialogUp conns → slice_get (conns k).up 0
    ≡ Some x0 → x0.message.command ≡ Create r → is_ops x0.token ≡ true
of_op conns k x0 r dialog front is = by_token x0.token refl
  where
    by_token : (tk : Token) → x0.token ≡ tk → is_ops tk ≡ true
    by_token ForDialog e = let d = dialog k 0 x0 front e in absurd (grind arith)
    by_token (ForAttach g) e = refl
    by_token (ForOp g) e = refl

pub once_of : (c : Client) (g : ℕ) → makes_open (c.op g) ≡ true → acts_once (c.op g) ≡ true
unfolding makes_open acts_once
once_of c g e = grind arith
