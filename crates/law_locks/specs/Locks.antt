-- What holds of locks and unlocks in every world that a run leads to, where each operation acted a g times: between the
-- client's slots, what waits on the connections, and what the server's opens keep.
use Rattle.std.specs.Prelude.{◌≡◌, ◌≢◌, ℕ, ◌+◌, ◌≤◌, ◌<◌, ◌==◌, nat_lt, Bool, true, false, not, ◌&&◌, ◌||◌, if◌then◌else◌, List, Option, Some}
use Rattle.std.specs.Prelude.{None, is_some, slice_get}
use Rattle.spec_exchange.specs.Status.{success, user_session_deleted, file_closed, object_name_not_found, disk_full}
use Rattle.spec_exchange.specs.Texts.{same_name}
use Rattle.spec_exchange.specs.Commands.{deletes_on_close}
use Rattle.spec_exchange.specs.State.{Server, Kept}
use Rattle.spec_exchange.specs.Table.{is_filled, without}
use Rattle.spec_exchange.specs.Files.{root}
use Rattle.spec_exchange.specs.Opens.{is_kept_back, drop_open, pending_behind, opens_in}
use Rattle.spec_exchange.specs.CheckSetup.{pipes_name}
use Rattle.spec_exchange.specs.CheckOpen.{is_slot, kept_status}
use Rattle.spec_exchange.specs.Records.{lower_limit}
use Rattle.spec_exchange.specs.Operations.{Op, Outcome, NoSlot, NoOpen, is_unsettled, is_ok, is_firm, is_lock, id_in, reconnect_of}
use Rattle.spec_exchange.specs.Client.{Client, guid_for}
use Rattle.spec_exchange.specs.Network.{Conn, Sent, Received, ForOp, ForAttach}
use Rattle.spec_exchange.specs.Runs.{never_acted}
use Rattle.law_sessions.specs.messages.Connections.{makes_open, shuts_open, create_at}

-- ---- words, closed so that a proof doesn't go through the kinds of operations

-- a lock or an unlock
unfoldable pub locking : Op → Bool
locking op = is_lock op

-- the status that a slot keeps for a number
unfoldable pub kept_at : Option Kept → ℕ → Option ℕ
kept_at kept number = kept_status number kept

-- it settled as Ok or Refused, by a reply
unfoldable pub firm : Outcome → Bool
firm o = is_firm o

-- settled without having gone out
unfoldable pub is_unsent : Outcome → Bool
is_unsent (NoSlot create) = true
is_unsent (NoOpen create) = true
is_unsent _ = false

-- it settled without acting (Refused, NoSlot, NoOpen)
unfoldable pub refused_for_good : Outcome → Bool
refused_for_good o = never_acted o

-- the index names a slot, 1 to 64
unfoldable pub in_slots : ℕ → Bool
in_slots i = is_slot i

-- the last user of the operation's slot, its open, and what its slot keeps for its number
abbrev pub user_at : Client → ℕ → Option ℕ
user_at c g = c.slot_user (create_at c g) (c.slot_of g)

abbrev pub open_at : Client → ℕ → ℕ
open_at c g = c.file (create_at c g)

abbrev pub kept_of : Client → Server → ℕ → Option ℕ
kept_of c s g = kept_at (s.lock_sequences (open_at c g) (c.slot_of g)) (c.number_of g)

-- ---- the client's table

-- a lock goes out with a slot
abbrev pub SlotIndex : Client → Type 0
SlotIndex c = (g : ℕ) → c.sent g ≡ true → locking (c.op g) ≡ true → in_slots (c.slot_of g) ≡ true

-- a slot's last user is a lock or unlock of its open that took it
abbrev pub UserBody : Client → Type 0
UserBody c = (q i g : ℕ) → c.slot_user q i ≡ Some g → locking (c.op g) ≡ true × create_at c g ≡ q × c.slot_of g ≡ i × c.sent g ≡ true

-- one that went out has its slot until it settles as Ok or Refused
abbrev pub InUse : Client → Type 0
InUse c = (g : ℕ) → c.sent g ≡ true → locking (c.op g) ≡ true → firm (c.outcome g) ≡ false → user_at c g ≡ Some g

-- while one is unsettled, its slot never met a full disk
abbrev pub FullFree : Client → Type 0
FullFree c = (g : ℕ) → c.sent g ≡ true → locking (c.op g) ≡ true → is_unsettled (c.outcome g) ≡ true
    → c.full (create_at c g) (c.slot_of g) ≡ false

-- an open was attached in a session that was
abbrev pub AttachedLow : Client → Type 0
AttachedLow c = (q : ℕ) → c.attached q ≤ c.session_number

-- behind a close that settled Ok nothing of its open goes out any more
abbrev pub ShutOk : Client → Type 0
ShutOk c = (h : ℕ) → shuts_open (c.op h) ≡ true → is_ok (c.outcome h) ≡ true → c.closed_ok (create_at c h) ≡ true

-- what a close shut was an open
abbrev pub ShutMade : Client → Type 0
ShutMade c = (q : ℕ) → c.closed_ok q ≡ true → is_ok (c.outcome q) ≡ true × q ≤ c.taken

-- what hasn't gone out by then settles as NoOpen
abbrev pub ShutGone : Client → Type 0
ShutGone c = (g : ℕ) → 0 < g → g ≤ c.taken → makes_open (c.op g) ≡ false → c.closed_ok (create_at c g) ≡ true → c.sent g
    ≡ false → is_unsettled (c.outcome g) ≡ false

-- what went out waited for the lower closes of its open, and none of them had settled Ok
abbrev pub CloseBefore : Client → Type 0
CloseBefore c = (g h : ℕ) → c.sent g ≡ true → makes_open (c.op g) ≡ false → 0 < h → h < g → create_at c h
    ≡ create_at c g → shuts_open (c.op h) ≡ true → is_unsettled (c.outcome h) ≡ false × is_ok (c.outcome h) ≡ false

-- a close that went out waited for all that is lower
abbrev pub CloseAfter : Client → Type 0
CloseAfter c = (h g : ℕ) → c.sent h ≡ true → shuts_open (c.op h) ≡ true → 0 < g → g < h → create_at c g ≡ create_at c h
    → makes_open (c.op g) ≡ false → is_unsettled (c.outcome g) ≡ false

-- what settled as NoSlot or NoOpen never went out
abbrev pub UnsentGone : Client → Type 0
UnsentGone c = (g : ℕ) → is_unsent (c.outcome g) ≡ true → c.sent g ≡ false

-- ---- copies

-- one without an unanswered copy waits on an open connection alone
abbrev pub Unanswered : Client → (ℕ → Conn) → Type 0
Unanswered c conns = (k n g : ℕ) (x : Sent) → slice_get (conns k).up n ≡ Some x → x.token ≡ ForOp g → c.unanswered g
    ≡ false → (conns k).client_open ≡ true

-- a DH2C in an operation's place is of its create, which settled Ok
abbrev pub AskUp : Client → (ℕ → Conn) → Type 0
AskUp c conns = (k n g : ℕ) (x : Sent) → slice_get (conns k).up n ≡ Some x → x.token ≡ ForAttach g
    → 0 < g × g ≤ c.taken × makes_open (c.op g) ≡ false × is_ok (c.outcome (create_at c g)) ≡ true × x.message.command
    ≡ reconnect_of (c.op (create_at c g)) (guid_for c (create_at c g)) (open_at c g)

-- and so is the reply to it
abbrev pub AskDown : Client → (ℕ → Conn) → Type 0
AskDown c conns = (k n g : ℕ) (y : Received) → slice_get (conns k).down n ≡ Some y → y.token ≡ ForAttach g → 0 < g
    × g ≤ c.taken × makes_open (c.op g) ≡ false × is_ok (c.outcome (create_at c g)) ≡ true

-- while a copy of a lock waits whose session is there, its slot is its own
abbrev pub Users : Client → (ℕ → Conn) → Server → Type 0
Users c conns s = (k n g : ℕ) (x : Sent) → slice_get (conns k).up n ≡ Some x → x.token ≡ ForOp g → locking (c.op g)
    ≡ true → s.present x.message.session_id ≡ true → user_at c g ≡ Some g

-- the operation was sent with its open attached in the session, so nothing else goes out in its place
abbrev pub CopyNow : Client → (ℕ → Conn) → Server → Type 0
CopyNow c conns s = (k n g : ℕ) (x : Sent) → slice_get (conns k).up n ≡ Some x → x.token ≡ ForOp g → makes_open (c.op g)
    ≡ false → s.present x.message.session_id ≡ true → c.live ≡ true → c.attached (create_at c g) ≡ c.session_number
    × c.asks_attach g ≡ false

-- one that waits on a closed connection was retried, where it is outstanding again, or settled
abbrev pub RetriedOn : Client → (ℕ → Conn) → Server → Type 0
RetriedOn c conns s = (k n g : ℕ) (x : Sent) → slice_get (conns k).up n ≡ Some x → x.token ≡ ForOp g → locking (c.op g)
    ≡ true → s.present x.message.session_id ≡ true → c.live ≡ true → (conns k).client_open ≡ false
    → is_some (c.outstanding_on g) ≡ true → c.retried (create_at c g) (c.slot_of g) ≡ c.session_number

-- the same where it is settled
abbrev pub RetriedDone : Client → (ℕ → Conn) → Server → Type 0
RetriedDone c conns s = (k n g : ℕ) (x : Sent) → slice_get (conns k).up n ≡ Some x → x.token ≡ ForOp g
    → locking (c.op g) ≡ true → s.present x.message.session_id ≡ true → c.live ≡ true → (conns k).client_open ≡ false
    → is_unsettled (c.outcome g) ≡ false → c.retried (create_at c g) (c.slot_of g) ≡ c.session_number

-- its open, while it stands, is attached to the copy's session
abbrev pub CopyAttached : Client → (ℕ → Conn) → Server → Type 0
CopyAttached c conns s = (k n g : ℕ) (x : Sent) → slice_get (conns k).up n ≡ Some x → x.token ≡ ForOp g
    → makes_open (c.op g) ≡ false → s.present x.message.session_id ≡ true → s.standing (open_at c g) ≡ true
    → s.session_of_open (open_at c g) ≡ Some x.message.session_id

-- and so is the open of a create that settled Ok, where the client holds it for attached in the live session
abbrev pub NowAttached : Client → Server → Type 0
NowAttached c s = (q : ℕ) → makes_open (c.op q) ≡ true → is_ok (c.outcome q) ≡ true → c.live ≡ true → c.attached q
    ≡ c.session_number → s.present c.session ≡ true → s.standing (c.file q) ≡ true → s.session_of_open (c.file q)
    ≡ Some c.session

-- the reply that opened, or attached
abbrev pub OpenedReply : Client → (ℕ → Conn) → Server → Type 0
OpenedReply c conns s = (k n g : ℕ) (y : Received) → slice_get (conns k).down n ≡ Some y → y.token ≡ ForOp g
    → makes_open (c.op g) ≡ true → y.reply.status ≡ success → c.live ≡ true → s.present c.session ≡ true
    → s.standing (id_in y.reply.body) ≡ true → s.session_of_open (id_in y.reply.body) ≡ Some c.session

-- of a DH2C
abbrev pub JoinReply : Client → (ℕ → Conn) → Server → Type 0
JoinReply c conns s = (k n g : ℕ) (y : Received) → slice_get (conns k).down n ≡ Some y → y.token ≡ ForAttach g
    → y.reply.status ≡ success → c.live ≡ true → s.present c.session ≡ true → s.standing (open_at c g) ≡ true
    → s.session_of_open (open_at c g) ≡ Some c.session

-- where the open is gone again, the client holds it for attached already
abbrev pub JoinedReply : Client → (ℕ → Conn) → Server → Type 0
JoinedReply c conns s = (k n g : ℕ) (y : Received) → slice_get (conns k).down n ≡ Some y → y.token ≡ ForAttach g
    → y.reply.status ≡ success → c.live ≡ true → s.present c.session ≡ true → s.standing (open_at c g) ≡ false
    → c.attached (create_at c g) ≡ c.session_number

-- an open that can't be attached is gone
abbrev pub LostReply : Client → (ℕ → Conn) → Server → Type 0
LostReply c conns s = (k n g : ℕ) (y : Received) → slice_get (conns k).down n ≡ Some y → y.token ≡ ForAttach g
    → y.reply.status ≢ success → y.reply.status ≢ user_session_deleted → y.reply.status ≡ object_name_not_found
    × s.standing (open_at c g) ≡ false

-- ---- slots: what the slot of its last user keeps for it says whether it acted

-- the status that it keeps says whether the lock acted
abbrev pub KeptSays : Client → Server → (ℕ → ℕ) → Type 0
KeptSays c s a = (g status : ℕ) → user_at c g ≡ Some g → s.standing (open_at c g) ≡ true → kept_of c s g ≡ Some status
    → a g ≡ (if status == success then 1 else 0)

-- where it keeps none, it never acted
abbrev pub NotKept : Client → Server → (ℕ → ℕ) → Type 0
NotKept c s a = (g : ℕ) → user_at c g ≡ Some g → s.standing (open_at c g) ≡ true → kept_of c s g ≡ None → a g ≡ 0

-- one that settled as Ok or Refused is kept there, unless the disk was full
abbrev pub FirmKept : Client → Server → Type 0
FirmKept c s = (g : ℕ) → user_at c g ≡ Some g → firm (c.outcome g) ≡ true → c.full (create_at c g) (c.slot_of g) ≡ false
    → s.standing (open_at c g) ≡ true → is_some (kept_of c s g) ≡ true

-- a slot that nobody took keeps nothing, nor does any of an open whose create isn't settled
abbrev pub NoUser : Client → Server → Type 0
NoUser c s = (q i : ℕ) → is_ok (c.outcome q) ≡ true → makes_open (c.op q) ≡ true → c.slot_user q i ≡ None
    → s.standing (c.file q) ≡ true → s.lock_sequences (c.file q) i ≡ None

-- here of the open whose create isn't settled as Ok
abbrev pub NoSlots : Client → Server → Type 0
NoSlots c s = (q i o : ℕ) → makes_open (c.op q) ≡ true → is_ok (c.outcome q) ≡ false
    → s.by_guid c.who.guid (guid_for c q) ≡ Some o → s.lock_sequences o i ≡ None

-- a slot's copies are gone where the lock settled on a full disk
abbrev pub FullDead : Client → (ℕ → Conn) → Server → Type 0
FullDead c conns s = (k n g : ℕ) (x : Sent) → slice_get (conns k).up n ≡ Some x → x.token ≡ ForOp g → locking (c.op g)
    ≡ true → s.present x.message.session_id ≡ true → firm (c.outcome g) ≡ true → c.full (create_at c g) (c.slot_of g)
    ≡ false

-- ---- replies that wait

-- a success is of a lock that acted once
abbrev pub OkReply : Client → (ℕ → Conn) → (ℕ → ℕ) → Type 0
OkReply c conns a = (k n g : ℕ) (y : Received) → slice_get (conns k).down n ≡ Some y → y.token ≡ ForOp g
    → locking (c.op g) ≡ true → y.reply.status ≡ success → a g ≡ 1

-- a refusal that every copy meets
abbrev pub NoReply : Client → (ℕ → Conn) → (ℕ → ℕ) → Type 0
NoReply c conns a = (k n g : ℕ) (y : Received) → slice_get (conns k).down n ≡ Some y → y.token ≡ ForOp g
    → locking (c.op g) ≡ true → y.reply.status ≢ success → y.reply.status ≢ user_session_deleted
    → y.reply.status ≢ disk_full → a g ≡ 0

-- what a reply told the slot keeps, while the open stands
abbrev pub KeptReply : Client → (ℕ → Conn) → Server → Type 0
KeptReply c conns s = (k n g : ℕ) (y : Received) → slice_get (conns k).down n ≡ Some y → y.token ≡ ForOp g
    → locking (c.op g) ≡ true → y.reply.status ≢ user_session_deleted → y.reply.status ≢ disk_full
    → s.standing (open_at c g) ≡ true → is_some (kept_of c s g) ≡ true

-- the refusal of a sole copy
abbrev pub FirstReply : Client → (ℕ → Conn) → (ℕ → ℕ) → Type 0
FirstReply c conns a = (k n g : ℕ) (y : Received) → slice_get (conns k).down n ≡ Some y → y.token ≡ ForOp g
    → locking (c.op g) ≡ true → y.reply.status ≢ success → c.unanswered g ≡ false → a g ≡ 0

-- ---- closes

-- an open that was closed in the session in which it was attached: a lock of it that isn't settled never acted
abbrev pub ClosedNot : Client → Server → (ℕ → ℕ) → Type 0
ClosedNot c s a = (g : ℕ) → locking (c.op g) ≡ true → c.sent g ≡ true → is_unsettled (c.outcome g) ≡ true → c.live
    ≡ true → c.attached (create_at c g) ≡ c.session_number → s.present c.session ≡ true → s.standing (open_at c g)
    ≡ false → a g ≡ 0

-- Where a close was refused on a full disk: a record of a lock takes 66 bytes of the journal, those of a persistent open that
-- leaves 64 at most, and no record takes less than 34. An open that owes no record where it locks, a plain one, can't be closed
-- there, since it is the last one of a file that is delete pending: the file goes with it, by a record of 34 bytes, or can't go and
-- loses its mark, by one of 35.
unfoldable pub kept_with : Server → ℕ → Bool
kept_with s o = is_kept_back (drop_open (pending_behind s o) o) (s.opened o).file

-- its file is delete pending, and no other open has it
unfoldable pub is_alone : Server → ℕ → Bool
is_alone s o = s.delete_pending (s.opened o).file && (not ((s.opened o).file == root)
    && not (is_filled (opens_in s.opened (without o s.opens) (s.opened o).file)))

-- so the records of its leaving don't fit
unfoldable pub is_stuck : Server → ℕ → Bool
is_stuck s o = (nat_lt lower_limit (s.journal + 34) && is_alone s o) || (nat_lt lower_limit (s.journal + 35) && kept_with s o)

-- no open deletes its file on close
abbrev pub KeptFiles : Server → Type 0
KeptFiles s = (o : ℕ) → s.standing o ≡ true → deletes_on_close (s.opened o).options ≡ false

-- a copy of a close that was given up waits: it was refused on a full disk
abbrev pub LeftFull : Client → (ℕ → Conn) → Server → Type 0
LeftFull c conns s = (k n h : ℕ) (x : Sent) → slice_get (conns k).up n ≡ Some x → x.token ≡ ForOp h
    → shuts_open (c.op h) ≡ true → s.present x.message.session_id ≡ true → c.live ≡ true → is_unsettled (c.outcome h)
    ≡ false → is_ok (c.outcome h) ≡ false → s.standing (open_at c h) ≡ true → (s.opened (open_at c h)).persistent ≡ true
    → lower_limit < s.journal + 66

-- the same of a plain open
abbrev pub LeftStuck : Client → (ℕ → Conn) → Server → Type 0
LeftStuck c conns s = (k n h : ℕ) (x : Sent) → slice_get (conns k).up n ≡ Some x → x.token ≡ ForOp h
    → shuts_open (c.op h) ≡ true → s.present x.message.session_id ≡ true → c.live ≡ true → is_unsettled (c.outcome h)
    ≡ false → is_ok (c.outcome h) ≡ false → s.standing (open_at c h) ≡ true → (s.opened (open_at c h)).persistent
    ≡ false → is_stuck s (open_at c h) ≡ true

-- and no lock behind it has acted, where each owes a record
abbrev pub LeftIdle : Client → (ℕ → Conn) → Server → (ℕ → ℕ) → Type 0
LeftIdle c conns s a = (k n h g : ℕ) (x : Sent) → slice_get (conns k).up n ≡ Some x → x.token ≡ ForOp h
    → shuts_open (c.op h) ≡ true → s.present x.message.session_id ≡ true → c.live ≡ true → is_unsettled (c.outcome h)
    ≡ false → is_ok (c.outcome h) ≡ false → s.standing (open_at c h) ≡ true
    → (s.opened (open_at c h)).persistent ≡ true → locking (c.op g) ≡ true → create_at c g ≡ create_at c h → h < g → a g ≡ 0

-- a close's success tells that the open is gone
abbrev pub CloseDone : Client → (ℕ → Conn) → Server → Type 0
CloseDone c conns s = (k n h : ℕ) (y : Received) → slice_get (conns k).down n ≡ Some y → y.token ≡ ForOp h
    → shuts_open (c.op h) ≡ true → y.reply.status ≡ success → s.standing (open_at c h) ≡ false

-- a refused close whose persistent open stands met a full disk
abbrev pub CloseFull : Client → (ℕ → Conn) → Server → Type 0
CloseFull c conns s = (k n h : ℕ) (y : Received) → slice_get (conns k).down n ≡ Some y → y.token ≡ ForOp h
    → shuts_open (c.op h) ≡ true → y.reply.status ≢ user_session_deleted → y.reply.status ≢ file_closed
    → s.standing (open_at c h) ≡ true → (s.opened (open_at c h)).persistent ≡ true → lower_limit < s.journal + 66

-- and so did that of a plain one
abbrev pub CloseStuck : Client → (ℕ → Conn) → Server → Type 0
CloseStuck c conns s = (k n h : ℕ) (y : Received) → slice_get (conns k).down n ≡ Some y → y.token ≡ ForOp h
    → shuts_open (c.op h) ≡ true → y.reply.status ≢ user_session_deleted → y.reply.status ≢ file_closed
    → s.standing (open_at c h) ≡ true → (s.opened (open_at c h)).persistent ≡ false → is_stuck s (open_at c h) ≡ true

-- ---- where a create acted, the client's share isn't that of the pipes

-- the share is that of the pipes
unfoldable pub piped : List ℕ → Bool
piped share = same_name share pipes_name

-- there no create acts
abbrev pub MadePlain : Client → (ℕ → ℕ) → Type 0
MadePlain c a = (q : ℕ) → makes_open (c.op q) ≡ true → 1 ≤ a q → piped c.who.share ≡ false

-- ---- what is to be shown

-- a lock or unlock acts at most once
abbrev pub AtMost : Client → (ℕ → ℕ) → Type 0
AtMost c a = (g : ℕ) → locking (c.op g) ≡ true → a g ≤ 1

-- exactly once where it settled Ok
abbrev pub OkActed : Client → (ℕ → ℕ) → Type 0
OkActed c a = (g : ℕ) → locking (c.op g) ≡ true → is_ok (c.outcome g) ≡ true → a g ≡ 1

-- never where it settled as Refused, NoSlot or NoOpen
abbrev pub RefusedNot : Client → (ℕ → ℕ) → Type 0
RefusedNot c a = (g : ℕ) → locking (c.op g) ≡ true → refused_for_good (c.outcome g) ≡ true → a g ≡ 0

pub record Locks (c : Client) (conns : ℕ → Conn) (s : Server) (a : ℕ → ℕ) : Type 0 where
  pub slot_index : SlotIndex c
  pub user_body : UserBody c
  pub in_use : InUse c
  pub full_free : FullFree c
  pub attached_low : AttachedLow c
  pub shut_ok : ShutOk c
  pub shut_made : ShutMade c
  pub shut_gone : ShutGone c
  pub close_before : CloseBefore c
  pub close_after : CloseAfter c
  pub unsent_gone : UnsentGone c
  pub unanswered : Unanswered c conns
  pub ask_up : AskUp c conns
  pub ask_down : AskDown c conns
  pub users : Users c conns s
  pub copy_now : CopyNow c conns s
  pub retried_on : RetriedOn c conns s
  pub retried_done : RetriedDone c conns s
  pub copy_attached : CopyAttached c conns s
  pub now_attached : NowAttached c s
  pub opened_reply : OpenedReply c conns s
  pub join_reply : JoinReply c conns s
  pub joined_reply : JoinedReply c conns s
  pub lost_reply : LostReply c conns s
  pub kept_says : KeptSays c s a
  pub not_kept : NotKept c s a
  pub firm_kept : FirmKept c s
  pub no_user : NoUser c s
  pub no_slots : NoSlots c s
  pub full_dead : FullDead c conns s
  pub ok_reply : OkReply c conns a
  pub no_reply : NoReply c conns a
  pub kept_reply : KeptReply c conns s
  pub first_reply : FirstReply c conns a
  pub closed_not : ClosedNot c s a
  pub kept_files : KeptFiles s
  pub left_full : LeftFull c conns s
  pub left_stuck : LeftStuck c conns s
  pub left_idle : LeftIdle c conns s a
  pub close_done : CloseDone c conns s
  pub close_full : CloseFull c conns s
  pub close_stuck : CloseStuck c conns s
  pub made_plain : MadePlain c a
  pub at_most : AtMost c a
  pub ok_acted : OkActed c a
  pub refused_not : RefusedNot c a
