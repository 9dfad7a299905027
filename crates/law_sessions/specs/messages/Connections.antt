-- What holds between the client's table and the connections in every world that a run leads to, where each operation
-- acted a g times. Nothing here speaks of the server.
use Rattle.std.specs.Prelude.{◌≡◌, ℕ, ◌+◌, ◌≤◌, ◌<◌, ◌==◌, Bool, true, false, not, ◌||◌, if◌then◌else◌, List, [], ◌∷◌}
use Rattle.std.specs.Prelude.{Some, None, is_some, slice_get}
use Rattle.spec_exchange.specs.Status.{user_session_deleted}
use Rattle.spec_exchange.specs.Commands.{Command}
use Rattle.spec_exchange.specs.Operations.{Op, is_unsettled, is_ok, is_create, is_close, create_of, request_of}
use Rattle.spec_exchange.specs.Client.{Client, Stage, Apart, SaidNegotiate, SaidFirst, SaidSecond, AskedTree, guid_for}
use Rattle.spec_exchange.specs.Network.{Conn, Sent, Received, ForOp, ForAttach, op_of}
use Rattle.spec_exchange.specs.Runs.{is_once}

-- ---- how many messages and replies of an operation a connection carries; those of its dialog count under 0

-- on their way to the server
abbrev pub count_up : ℕ → List Sent → ℕ
count_up g [] = 0
count_up g (x ∷ xs) = (if op_of x.token == g then 1 else 0) + count_up g xs

-- on their way to the client
abbrev pub count_down : ℕ → List Received → ℕ
count_down g [] = 0
count_down g (y ∷ ys) = (if op_of y.token == g then 1 else 0) + count_down g ys

-- both
abbrev pub copies : ℕ → Conn → ℕ
copies g c = count_up g c.up + count_down g c.down

-- no copy of the operation itself is outstanding
abbrev pub no_copy_out : Client → ℕ → Bool
no_copy_out c g = if c.asks_attach g then true else not (is_some (c.outstanding_on g))

-- ---- words on operations, closed so that a proof doesn't go through the kinds of operations

-- a CREATE
unfoldable pub makes_open : Op → Bool
makes_open op = is_create op

-- a CLOSE
unfoldable pub shuts_open : Op → Bool
shuts_open op = is_close op

-- a create, lock or unlock, of which the statement of once speaks
unfoldable pub acts_once : Op → Bool
acts_once op = is_once op

-- the create whose open it names; a create names its own
unfoldable pub its_create : ℕ → Op → ℕ
its_create g op = create_of g op

-- the request that is sent for it
unfoldable pub its_request : Op → ℕ → ℕ → ℕ → ℕ → Command
its_request op guid file slot number = request_of op guid file slot number

-- the create of the operation of this number
abbrev pub create_at : Client → ℕ → ℕ
create_at c g = its_create g (c.op g)

-- it is a create, or its create settled Ok, so that there is an open to name
abbrev pub opens : Client → ℕ → Bool
opens c g = makes_open (c.op g) || is_ok (c.outcome (create_at c g))

-- a channel of a session that is ready already is being made
abbrev pub is_bound : Stage → Bool
is_bound Apart = false
is_bound (SaidNegotiate bound) = bound
is_bound (SaidFirst bound) = bound
is_bound (SaidSecond bound) = bound
is_bound AskedTree = false

-- ---- the parts

-- a connection carries one message or reply of an operation at most
abbrev pub Once : (ℕ → Conn) → Type 0
Once conns = (k g : ℕ) → copies g (conns k) ≤ 1

-- what an open connection carries of an operation is outstanding there
abbrev pub Outstanding : Client → (ℕ → Conn) → Type 0
Outstanding c conns = (k g : ℕ) → (conns k).client_open ≡ true → 1 ≤ copies g (conns k) → 0 < g → c.outstanding_on g ≡ Some k

-- and it is the operation itself, or the DH2C in its place, as the client noted
abbrev pub OwnUp : Client → (ℕ → Conn) → Type 0
OwnUp c conns = (k n g : ℕ) (x : Sent) → slice_get (conns k).up n ≡ Some x → (conns k).client_open ≡ true → x.token
    ≡ ForOp g → c.asks_attach g ≡ false

-- on the way up a DH2C
abbrev pub AttachUp : Client → (ℕ → Conn) → Type 0
AttachUp c conns = (k n g : ℕ) (x : Sent) → slice_get (conns k).up n ≡ Some x → (conns k).client_open ≡ true → x.token
    ≡ ForAttach g → c.asks_attach g ≡ true

-- on the way down a reply to the operation itself
abbrev pub OwnDown : Client → (ℕ → Conn) → Type 0
OwnDown c conns = (k n g : ℕ) (y : Received) → slice_get (conns k).down n ≡ Some y → (conns k).client_open ≡ true
    → y.token ≡ ForOp g → c.asks_attach g ≡ false

-- on the way down a reply to a DH2C
abbrev pub AttachDown : Client → (ℕ → Conn) → Type 0
AttachDown c conns = (k n g : ℕ) (y : Received) → slice_get (conns k).down n ≡ Some y → (conns k).client_open ≡ true
    → y.token ≡ ForAttach g → c.asks_attach g ≡ true

-- replies wait on open connections alone
abbrev pub DownOpen : (ℕ → Conn) → Type 0
DownOpen conns = (k : ℕ) → (conns k).client_open ≡ false → (conns k).down ≡ []

-- what is outstanding is so on a ready channel
abbrev pub OnReady : Client → Type 0
OnReady c = (g k : ℕ) → c.outstanding_on g ≡ Some k → c.ready k ≡ true × 0 < g

-- a ready channel is open, of the live session, and carries nothing of a dialog
abbrev pub Ready : Client → (ℕ → Conn) → Type 0
Ready c conns = (k : ℕ) → c.ready k ≡ true → (conns k).client_open ≡ true × c.live ≡ true × copies 0 (conns k) ≡ 0

-- a further channel is bound only to a live session
abbrev pub Stages : Client → Type 0
Stages c = (k : ℕ) → is_bound (c.stage k) ≡ true → c.live ≡ true

-- what is settled isn't outstanding
abbrev pub Settled : Client → Type 0
Settled c = (g : ℕ) → is_unsettled (c.outcome g) ≡ false → c.outstanding_on g ≡ None

-- operations are taken in the order of their numbers from 1, each behind its create
abbrev pub Taken : Client → Type 0
Taken c = (g : ℕ) → c.sent g ≡ true → 0 < g × g ≤ c.taken

-- and so is what is outstanding
abbrev pub TakenOn : Client → Type 0
TakenOn c = (g : ℕ) → is_some (c.outstanding_on g) ≡ true → 0 < g × g ≤ c.taken

-- the create that an operation names is a create, and has a lower number
abbrev pub Creates : Client → Type 0
Creates c = (g : ℕ) → 0 < g → g ≤ c.taken → makes_open (c.op g) ≡ false → 0 < create_at c g × create_at c g < g
    × makes_open (c.op (create_at c g)) ≡ true

-- a close waits for the lower operations of its open, and the higher ones wait for it
abbrev pub Lower : Client → Type 0
Lower c = (h n : ℕ) → is_some (c.outstanding_on h) ≡ true → 0 < n → n < h → create_at c n ≡ create_at c h
    → (shuts_open (c.op h) || shuts_open (c.op n)) ≡ true → is_unsettled (c.outcome n) ≡ false

-- what went out has an open, and what didn't has no copy
abbrev pub HasOpen : Client → Type 0
HasOpen c = (g : ℕ) → c.sent g ≡ true → opens c g ≡ true

-- and so has what is outstanding
abbrev pub AskedOpen : Client → Type 0
AskedOpen c = (g : ℕ) → is_some (c.outstanding_on g) ≡ true → opens c g ≡ true

-- what never went out has no unanswered copy, hasn't acted and isn't outstanding but by a DH2C
abbrev pub Fresh : Client → (ℕ → ℕ) → Type 0
Fresh c a = (g : ℕ) → c.sent g ≡ false → c.unanswered g ≡ false × a g ≡ 0 × no_copy_out c g ≡ true

-- a copy is its operation's request
abbrev pub Bodies : Client → (ℕ → Conn) → Type 0
Bodies c conns = (k n g : ℕ) (x : Sent) → slice_get (conns k).up n ≡ Some x → x.token ≡ ForOp g
    → c.sent g ≡ true × x.message.command ≡ its_request (c.op g) (guid_for c g) (c.file (create_at c g)) (c.slot_of g)
    (c.number_of g) × x.message.client_guid ≡ c.who.guid × x.message.fault ≡ None

-- a create, lock or unlock without an unanswered copy, of which a copy waits, hasn't acted
abbrev pub First : Client → (ℕ → Conn) → (ℕ → ℕ) → Type 0
First c conns a = (k n g : ℕ) (x : Sent) → slice_get (conns k).up n ≡ Some x → x.token ≡ ForOp g → acts_once (c.op g)
    ≡ true → c.unanswered g ≡ false → (conns k).client_open ≡ true × a g ≡ 0

-- nor has one that is unsettled, without an unanswered copy and without a copy outstanding
abbrev pub Unsent : Client → (ℕ → ℕ) → Type 0
Unsent c a = (g : ℕ) → acts_once (c.op g) ≡ true → c.unanswered g ≡ false → no_copy_out c g ≡ true
    → is_unsettled (c.outcome g) ≡ true → a g ≡ 0

-- a reply to an operation is to one that went out
abbrev pub SentReplies : Client → (ℕ → Conn) → Type 0
SentReplies c conns = (k n g : ℕ) (y : Received) → slice_get (conns k).down n ≡ Some y → y.token ≡ ForOp g → c.sent g ≡ true

-- a copy whose session was gone didn't act
abbrev pub Deleted : Client → (ℕ → Conn) → (ℕ → ℕ) → Type 0
Deleted c conns a = (k n g : ℕ) (y : Received) → slice_get (conns k).down n ≡ Some y → y.token ≡ ForOp g
    → acts_once (c.op g) ≡ true → y.reply.status ≡ user_session_deleted → c.unanswered g ≡ false → a g ≡ 0

pub record Connections (c : Client) (conns : ℕ → Conn) (a : ℕ → ℕ) : Type 0 where
  pub once : Once conns
  pub outstanding : Outstanding c conns
  pub own_up : OwnUp c conns
  pub attach_up : AttachUp c conns
  pub own_down : OwnDown c conns
  pub attach_down : AttachDown c conns
  pub down_open : DownOpen conns
  pub on_ready : OnReady c
  pub ready : Ready c conns
  pub stages : Stages c
  pub settled : Settled c
  pub taken : Taken c
  pub taken_on : TakenOn c
  pub creates : Creates c
  pub lower : Lower c
  pub has_open : HasOpen c
  pub asked_open : AskedOpen c
  pub fresh : Fresh c a
  pub bodies : Bodies c conns
  pub first : First c conns a
  pub unsent : Unsent c a
  pub sent_replies : SentReplies c conns
  pub deleted : Deleted c conns a
