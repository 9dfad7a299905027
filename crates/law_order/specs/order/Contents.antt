-- What holds of the bytes under opens, and of what may still change them, in every world that a run leads to. An edit is an
-- operation that may change its file's bytes: a write or an end.
use Rattle.std.specs.Prelude.{◌≡◌, ◌≢◌, ℕ, ◌+◌, ◌≤◌, ◌<◌, ◌==◌, Bool, true, false, not, ◌&&◌, ◌||◌, if◌then◌else◌, List}
use Rattle.std.specs.Prelude.{Some, None, is_some, slice_get}
use Rattle.spec_exchange.specs.Table.{is_at}
use Rattle.spec_exchange.specs.Status.{success, file_not_available, file_closed, user_session_deleted, end_of_file}
use Rattle.spec_exchange.specs.Content.{ContentReply, effect, value, past_end, is_change, is_listed, collides}
use Rattle.spec_exchange.specs.Order.{Log, Says_ok, Says_end, Settled_ok, Settled_end}
use Rattle.spec_exchange.specs.Commands.{form}
use Rattle.spec_exchange.specs.State.{Server}
use Rattle.spec_exchange.specs.Opens.{id_of, writes, denies_writers}
use Rattle.spec_exchange.specs.Operations.{Op, is_unsettled, is_firm, is_ok, is_create, id_in, share_of, content_op}
use Rattle.spec_exchange.specs.Operations.{request_of, reconnect_of}
use Rattle.spec_exchange.specs.Client.{Client, AskedTree, guid_for}
use Rattle.spec_exchange.specs.Runs.{settlement}
use Rattle.spec_exchange.specs.Network.{Conn, Sent, Received, Trace, ForOp, ForAttach, op_of, said}
use Rattle.law_sessions.specs.messages.Connections.{create_at, makes_open, no_copy_out}
use Rattle.law_sessions.specs.sessions.Sessions.{is_ops}
use Rattle.law_order.specs.order.Newest.{Pair}

-- ---- words on operations, closed so that a proof doesn't go through their kinds

-- a write or a set of an end
unfoldable pub edits : Op → Bool
edits op = is_change (content_op op)

-- it stands in the order of its open
unfoldable pub lists : Op → Bool
lists op = is_listed (content_op op)

-- its request keeps the form rules
unfoldable pub formed : Op → Bool
formed op = not (is_some (form (request_of op 0 0 0 0)))

-- a create whose share access lacks writing
unfoldable pub isolating : Op → Bool
isolating op = is_create op && denies_writers (share_of op)

-- the order of the two matters to the bytes or to a reply
unfoldable pub clashes : Op → Op → Bool
clashes a b = collides (content_op a) (content_op b)

-- the bytes behind the operation
unfoldable pub bytes_after : Op → List ℕ → List ℕ
bytes_after op bytes = effect (content_op op) bytes

-- what it replies to them
unfoldable pub reply_to : Op → List ℕ → ContentReply
reply_to op bytes = value (content_op op) bytes

-- it is answered END_OF_FILE
unfoldable pub ends_before : Op → List ℕ → Bool
ends_before op bytes = past_end (content_op op) bytes

-- the id of the open that an operation names
abbrev pub file_at : Client → ℕ → ℕ
file_at c g = c.file (create_at c g)

-- it may still act: it isn't settled, or was given up with the session that was live last
abbrev pub pends : Client → ℕ → Bool
pends c g = if is_unsettled (c.outcome g) then true else is_at c.session (c.given_up g)

-- the last id that was given
abbrev pub last_id : Server → ℕ
last_id s = id_of s.epoch s.open_ids_given

-- a reply behind which the edit's sequence reached its open
abbrev pub is_final : ℕ → Bool
is_final status = not (status == user_session_deleted) && (not (status == file_closed) && not (status == file_not_available))

-- what waits of an operation is of one that was taken
abbrev pub TokenUp : Client → (ℕ → Conn) → Type 0
TokenUp c conns = (k n : ℕ) (x : Sent) → slice_get (conns k).up n ≡ Some x → is_ops x.token ≡ true → 0 < op_of x.token
    × op_of x.token ≤ c.taken

-- and so is a reply that waits
abbrev pub TokenDown : Client → (ℕ → Conn) → Type 0
TokenDown c conns = (k n : ℕ) (y : Received) → slice_get (conns k).down n ≡ Some y → is_ops y.token ≡ true
    → 0 < op_of y.token × op_of y.token ≤ c.taken

-- a message that waits is a create's, or names the open of a create that settled Ok
abbrev pub OpensUp : Client → (ℕ → Conn) → Type 0
OpensUp c conns = (k n : ℕ) (x : Sent) → slice_get (conns k).up n ≡ Some x → is_ops x.token ≡ true
    → (makes_open (c.op (op_of x.token)) || is_ok (c.outcome (create_at c (op_of x.token)))) ≡ true

-- a DH2C goes out in the place of no create, and asks for the open of its operation's create
abbrev pub AskedAs : Client → (ℕ → Conn) → Type 0
AskedAs c conns = (k n g : ℕ) (x : Sent) → slice_get (conns k).up n ≡ Some x → x.token ≡ ForAttach g
    → makes_open (c.op g) ≡ false × x.message.command ≡ reconnect_of (c.op (create_at c g)) (guid_for c (create_at c g))
    (file_at c g)

-- ---- the client's table

-- what was given up is unknown, and the session that ended then isn't the one that begins
abbrev pub LostUnknown : Client → Type 0
LostUnknown c = (g x : ℕ) → c.given_up g ≡ Some x → is_unsettled (c.outcome g) ≡ false × is_firm (c.outcome g) ≡ false

-- where that is the client's own session, it isn't live any more
abbrev pub LostDead : Client → Type 0
LostDead c = (g : ℕ) → c.given_up g ≡ Some c.session → c.live ≡ false

-- it had been accepted
abbrev pub LostKnown : Client → Type 0
LostKnown c = (g x : ℕ) → c.given_up g ≡ Some x → 0 < x → 0 < c.rank x

-- and isn't the one that a dialog is about to begin
abbrev pub LostAsked : Client → Type 0
LostAsked c = (g k x : ℕ) → c.stage k ≡ AskedTree → c.given_up g ≡ Some x → x ≢ c.pending

-- the session that was live last was accepted
abbrev pub SessionKnown : Client → Type 0
SessionKnown c = 0 < c.session → 0 < c.rank c.session

-- and isn't the one that a dialog is about to begin
abbrev pub SessionAsked : Client → Type 0
SessionAsked c = (k : ℕ) → c.stage k ≡ AskedTree → c.session ≢ c.pending

-- edits of one open that may still act don't collide: the higher one waited
abbrev pub Pairwise : Client → Type 0
Pairwise c = (g h : ℕ) → g < h → c.sent h ≡ true → edits (c.op g) ≡ true → edits (c.op h) ≡ true → create_at c g
    ≡ create_at c h → pends c g ≡ true → pends c h ≡ true → clashes (c.op g) (c.op h) ≡ false

-- ---- what waits: copies of edits and replies to them

-- one without an unanswered copy hasn't acted while its copy waits, nor where none does
abbrev pub FirstUp : Client → (ℕ → Conn) → Log → Type 0
FirstUp c conns l = (k n g : ℕ) (x : Sent) → slice_get (conns k).up n ≡ Some x → x.token ≡ ForOp g → edits (c.op g)
    ≡ true → c.unanswered g ≡ false → (conns k).client_open ≡ true × l.first g ≡ None

-- nor does an unsettled edit without an unanswered copy have acted where none of its copies is outstanding
abbrev pub Unacted : Client → Log → Type 0
Unacted c l = (g : ℕ) → edits (c.op g) ≡ true → c.unanswered g ≡ false → no_copy_out c g ≡ true
    → is_unsettled (c.outcome g) ≡ true → l.first g ≡ None

-- what never went out never acted
abbrev pub FreshFirst : Client → Log → Type 0
FreshFirst c l = (g : ℕ) → c.sent g ≡ false → l.first g ≡ None × l.since g ≡ 0

-- an edit without an unanswered copy whose reply is no success never acted
abbrev pub NotDone : Client → (ℕ → Conn) → Log → Type 0
NotDone c conns l = (k n g : ℕ) (y : Received) → slice_get (conns k).down n ≡ Some y → y.token ≡ ForOp g
    → edits (c.op g) ≡ true → (y.reply.status == success) ≡ false → c.unanswered g ≡ false → l.first g ≡ None

-- sequences: a copy that was cut is older than the session's, one that is outstanding has its operation's last
abbrev pub CutSeq : Client → (ℕ → Conn) → Type 0
CutSeq c conns = (k n g : ℕ) (x : Sent) → slice_get (conns k).up n ≡ Some x → x.token ≡ ForOp g → edits (c.op g) ≡ true
    → (conns k).client_open ≡ false → c.live ≡ true → x.message.session_id ≡ c.session → x.message.channel_sequence
    < c.sequence

-- on an open connection a copy has the sequence with which its operation went out last
abbrev pub OpenSeq : Client → (ℕ → Conn) → Type 0
OpenSeq c conns = (k n g : ℕ) (x : Sent) → slice_get (conns k).up n ≡ Some x → x.token ≡ ForOp g → edits (c.op g) ≡ true
    → (conns k).client_open ≡ true → x.message.channel_sequence ≡ c.sequence_of g

-- and any other copy of the live session is older
abbrev pub Older : Client → (ℕ → Conn) → Type 0
Older c conns = (k n j g : ℕ) (x : Sent) → slice_get (conns k).up n ≡ Some x → x.token ≡ ForOp g → edits (c.op g) ≡ true
    → c.asks_attach g ≡ false → c.outstanding_on g ≡ Some j → k ≢ j → x.message.session_id ≡ c.session
    → x.message.channel_sequence < c.sequence_of g

-- of two copies the one without the replay flag is the older
abbrev pub NoReplay : Client → (ℕ → Conn) → Type 0
NoReplay c conns = (j n k p g : ℕ) (m x : Sent) → slice_get (conns j).up n ≡ Some m → slice_get (conns k).up p ≡ Some x
    → m.token ≡ ForOp g → x.token ≡ ForOp g → edits (c.op g) ≡ true → j ≢ k
    → m.message.session_id ≡ x.message.session_id → m.message.replay ≡ false → m.message.channel_sequence < x.message.channel_sequence

-- ---- opens and sessions

-- an edit goes out only where its open is attached in its session
abbrev pub CopyPair : Client → (ℕ → Conn) → Server → Type 0
CopyPair c conns s = (k n g : ℕ) (x : Sent) → slice_get (conns k).up n ≡ Some x → x.token ≡ ForOp g → edits (c.op g)
    ≡ true → Pair s x.message.session_id 0 (file_at c g) × file_at c g ≤ last_id s

-- so is the open that the client holds for attached in the live session
abbrev pub NowPair : Client → Server → Type 0
NowPair c s = (q : ℕ) → c.attached q ≡ c.session_number → c.live ≡ true → Pair s c.session 0 (c.file q) × c.file q ≤ last_id s

-- the open that a create's success names, as the server holds it
abbrev pub CreateReply : Client → (ℕ → Conn) → Server → Trace → Type 0
CreateReply c conns s t = (k n g : ℕ) (y : Received) → slice_get (conns k).down n ≡ Some y → y.token ≡ ForOp g
    → makes_open (c.op g) ≡ true → y.reply.status ≡ success
    → Pair s c.session 0 (id_in y.reply.body) × id_in y.reply.body ≤ last_id s × t.open_of g ≡ Some (id_in y.reply.body)

-- the open that a DH2C's success attached
abbrev pub AttachReply : Client → (ℕ → Conn) → Server → Type 0
AttachReply c conns s = (k n g : ℕ) (y : Received) → slice_get (conns k).down n ≡ Some y → y.token ≡ ForAttach g
    → y.reply.status ≡ success → Pair s c.session 0 (file_at c g) × file_at c g ≤ last_id s

-- an edit's reply, but for three statuses, tells that its sequence reached its open
abbrev pub Reached : Client → (ℕ → Conn) → Server → Type 0
Reached c conns s = (k n g : ℕ) (y : Received) → slice_get (conns k).down n ≡ Some y → y.token ≡ ForOp g
    → edits (c.op g) ≡ true → formed (c.op g) ≡ true → is_final y.reply.status ≡ true
    → Pair s c.session (c.sequence_of g) (file_at c g) × file_at c g ≤ last_id s

-- FILE_CLOSED tells that the open is gone
abbrev pub ClosedReply : Client → (ℕ → Conn) → Server → Type 0
ClosedReply c conns s = (k n g : ℕ) (y : Received) → slice_get (conns k).down n ≡ Some y → y.token ≡ ForOp g
    → edits (c.op g) ≡ true → y.reply.status ≡ file_closed → s.standing (file_at c g) ≡ false × file_at c g ≤ last_id s

-- and so does a DH2C that is refused
abbrev pub AttachRefused : Client → (ℕ → Conn) → Server → Type 0
AttachRefused c conns s = (k n g : ℕ) (y : Received) → slice_get (conns k).down n ≡ Some y → y.token ≡ ForAttach g
    → edits (c.op g) ≡ true → (y.reply.status == success) ≡ false → (y.reply.status == user_session_deleted) ≡ false
    → s.standing (file_at c g) ≡ false × file_at c g ≤ last_id s

-- FILE_NOT_AVAILABLE tells that the edit's sequence is older than the client's
abbrev pub StaleReply : Client → (ℕ → Conn) → Type 0
StaleReply c conns = (k n g : ℕ) (y : Received) → slice_get (conns k).down n ≡ Some y → y.token ≡ ForOp g
    → edits (c.op g) ≡ true → y.reply.status ≡ file_not_available → c.sequence_of g < c.sequence

-- an open of the live session has no newer sequence than the client
abbrev pub SessionSeq : Client → Server → Type 0
SessionSeq c s = (o : ℕ) → c.live ≡ true → s.session_of_open o ≡ Some c.session → s.sequence o ≤ c.sequence

-- no open is attached to the session that a dialog is about to begin
abbrev pub PendingAt : Client → Server → Type 0
PendingAt c s = (o k : ℕ) → c.stage k ≡ AskedTree → s.session_of_open o ≢ Some c.pending

-- a copy that the server would still take: its open stands, its session is there, and it isn't older than the open's sequence
abbrev pub LiveUnsettled : Client → (ℕ → Conn) → Server → Type 0
LiveUnsettled c conns s = (k n g : ℕ) (x : Sent) → slice_get (conns k).up n ≡ Some x → x.token ≡ ForOp g
    → edits (c.op g) ≡ true → formed (c.op g) ≡ true → s.standing (file_at c g) ≡ true → s.present x.message.session_id
    ≡ true
    → s.sequence (file_at c g) ≤ x.message.channel_sequence → pends c g ≡ true

-- where its edit acted already, it has the replay flag
abbrev pub LiveReplay : Client → (ℕ → Conn) → Server → Log → Type 0
LiveReplay c conns s l = (k n g : ℕ) (x : Sent) → slice_get (conns k).up n ≡ Some x → x.token ≡ ForOp g → edits (c.op g)
    ≡ true → s.standing (file_at c g) ≡ true → s.present x.message.session_id ≡ true
    → s.sequence (file_at c g) ≤ x.message.channel_sequence → is_some (l.first g) ≡ true → x.message.replay ≡ true

-- an edit that acted and may act again still shows in the bytes, under an open that denies writers
abbrev pub Shows : Client → Server → Log → Type 0
Shows c s l = (g : ℕ) → edits (c.op g) ≡ true → isolating (c.op (create_at c g)) ≡ true → s.standing (file_at c g)
    ≡ true → pends c g ≡ true → is_some (l.first g) ≡ true
    → bytes_after (c.op g) (s.content (s.opened (file_at c g)).file) ≡ s.content (s.opened (file_at c g)).file

-- an open that denies writers stands beside no other that writes
abbrev pub Denied : Server → Type 0
Denied s = (o p : ℕ) → s.standing o ≡ true → s.standing p ≡ true → o ≢ p → (s.opened o).file ≡ (s.opened p).file
    → denies_writers (s.opened o).share ≡ true → writes (s.opened p).access ≡ false

-- ---- the open that a create made

-- of a create that settled Ok the trace has the open that its success named
abbrev pub OpenOf : Client → Trace → Type 0
OpenOf c t = (q : ℕ) → makes_open (c.op q) ≡ true → is_ok (c.outcome q) ≡ true → t.open_of q ≡ Some (c.file q)

-- and of any create the open that its guid names
abbrev pub NamedOpen : Client → Server → Trace → Type 0
NamedOpen c s t = (q o : ℕ) → s.by_guid c.who.guid (guid_for c q) ≡ Some o → t.open_of q ≡ Some o

-- that open's id was given, to a create that went out
abbrev pub OpenGiven : Client → Server → Trace → Type 0
OpenGiven c s t = (q o : ℕ) → t.open_of q ≡ Some o → o ≤ last_id s × makes_open (c.op q) ≡ true × c.sent q ≡ true

-- it has the create's guid, ClientGuid and share access
abbrev pub OpenRow : Client → Server → Trace → Type 0
OpenRow c s t = (q o : ℕ) → t.open_of q ≡ Some o → s.standing o ≡ true → (s.opened o).create_guid ≡ Some (guid_for c q)
    × (s.opened o).client_guid ≡ c.who.guid × (s.opened o).share ≡ share_of (c.op q)

-- its create acted
abbrev pub OpenActed : Trace → (ℕ → ℕ) → Type 0
OpenActed t a = (q o : ℕ) → t.open_of q ≡ Some o → 1 ≤ a q

-- ---- the log, by places

-- the bytes before the next place are those of the file, while the open stands
abbrev pub Bytes : Server → Trace → Log → Type 0
Bytes s t l = (q o : ℕ) → t.open_of q ≡ Some o → s.standing o ≡ true → l.bytes q l.places ≡ s.content (s.opened o).file

-- a place at which nothing acted leaves the bytes under an open that denies writers
abbrev pub Quiet : Client → Trace → Log → Type 0
Quiet c t l = (n q : ℕ) → n < l.places → is_some (t.open_of q) ≡ true → l.birth q ≤ n → isolating (c.op q) ≡ true
    → l.did n ≡ false → l.bytes q (n + 1) ≡ l.bytes q n

-- and so does a place of another open's operation
abbrev pub Foreign : Client → Trace → Log → Type 0
Foreign c t l = (n q : ℕ) → n < l.places → is_some (t.open_of q) ≡ true → l.birth q ≤ n → isolating (c.op q) ≡ true
    → ((create_at c (l.who n) == q) && lists (c.op (l.who n))) ≡ false → l.bytes q (n + 1) ≡ l.bytes q n

-- an operation of such an open that acted is an edit, acts there first, and does to the bytes what it says
abbrev pub Acted : Client → Log → Type 0
Acted c l = (n : ℕ) → n < l.places → l.did n ≡ true → lists (c.op (l.who n)) ≡ true → isolating (c.op (create_at c (l.who n))) ≡ true
    → l.first (l.who n) ≡ Some n × edits (c.op (l.who n)) ≡ true × l.bytes (create_at c (l.who n)) (n + 1)
    ≡ bytes_after (c.op (l.who n)) (l.bytes (create_at c (l.who n)) n)

-- a success tells what the operation replies to the bytes at its place
abbrev pub Gave : Client → Log → Type 0
Gave c l = (n : ℕ) (v : ContentReply) → n < l.places → lists (c.op (l.who n)) ≡ true → l.gave n ≡ Says_ok v
    → reply_to (c.op (l.who n)) (l.bytes (create_at c (l.who n)) n) ≡ v × l.bytes (create_at c (l.who n)) (n + 1)
    ≡ bytes_after (c.op (l.who n)) (l.bytes (create_at c (l.who n)) n)
    × ends_before (c.op (l.who n)) (l.bytes (create_at c (l.who n)) n) ≡ false

-- END_OF_FILE tells that they end before it
abbrev pub GaveEnd : Client → Log → Type 0
GaveEnd c l = (n : ℕ) → n < l.places → lists (c.op (l.who n)) ≡ true → l.gave n ≡ Says_end
    → ends_before (c.op (l.who n)) (l.bytes (create_at c (l.who n)) n) ≡ true

-- whose messages were taken: operations that went out, or a DH2C in their place, behind their create
abbrev pub Whose : Client → Log → Type 0
Whose c l = (n : ℕ) → n < l.places → l.who n ≤ c.taken
    × (0 < l.who n → (makes_open (c.op (l.who n)) || is_ok (c.outcome (create_at c (l.who n)))) ≡ true)

-- each place of an operation is behind that at which its open came
abbrev pub Born : Client → Log → Type 0
Born c l = (n : ℕ) → n < l.places → 0 < l.who n → makes_open (c.op (l.who n)) ≡ false → l.birth (create_at c (l.who n)) ≤ n

-- an open came at a place that was
abbrev pub BirthLe : Log → Type 0
BirthLe l = (q : ℕ) → l.birth q ≤ l.places

-- the place at which an operation acted first is one of its own, at which it acted
abbrev pub FirstAt : Log → Type 0
FirstAt l = (g n : ℕ) → l.first g ≡ Some n → n < l.places × l.who n ≡ g × 0 < g × l.did n ≡ true

-- the reply that settled an operation, and those that wait, by the places of their messages
abbrev pub By : Client → Log → Type 0
By c l = (g n : ℕ) → c.settled_by g ≡ Some n → n < l.places × l.who n ≡ g × 0 < g × is_unsettled (c.outcome g) ≡ false

-- an operation that settled Ok got what its place gave
abbrev pub ByOk : Client → Log → Type 0
ByOk c l = (g n : ℕ) (v : ContentReply) → lists (c.op g) ≡ true → c.settled_by g ≡ Some n
    → settlement (c.op g) (c.outcome g) ≡ Settled_ok v → l.gave n ≡ Says_ok v

-- and so did one that was answered END_OF_FILE
abbrev pub ByEnd : Client → Log → Type 0
ByEnd c l = (g n : ℕ) → c.settled_by g ≡ Some n → settlement (c.op g) (c.outcome g) ≡ Settled_end → l.gave n ≡ Says_end

-- what settled as Ok or Refused settled by a reply
abbrev pub BySome : Client → Type 0
BySome c = (g : ℕ) → is_firm (c.outcome g) ≡ true → is_some (c.settled_by g) ≡ true

-- a reply that waits tells what its place gave
abbrev pub Replies : (ℕ → Conn) → Log → Type 0
Replies conns l = (k n : ℕ) (y : Received) → slice_get (conns k).down n ≡ Some y → y.place < l.places × l.who y.place
    ≡ op_of y.token × l.gave y.place ≡ said y.token y.reply

-- a DH2C isn't answered END_OF_FILE
abbrev pub AttachStatus : (ℕ → Conn) → Type 0
AttachStatus conns = (k n g : ℕ) (y : Received) → slice_get (conns k).down n ≡ Some y → y.token ≡ ForAttach g
    → (y.reply.status == end_of_file) ≡ false

-- no place of an operation is before its first push, and what had settled by then has its place before it
abbrev pub SinceLe : Log → Type 0
SinceLe l = (g : ℕ) → l.since g ≤ l.places

-- of a reply that waits
abbrev pub SinceReply : (ℕ → Conn) → Log → Type 0
SinceReply conns l = (k n : ℕ) (y : Received) → slice_get (conns k).down n ≡ Some y → l.since (op_of y.token) ≤ y.place

-- of the reply that settled it
abbrev pub SinceBy : Client → Log → Type 0
SinceBy c l = (g n : ℕ) → c.settled_by g ≡ Some n → l.since g ≤ n

-- of the place at which it acted first
abbrev pub SinceFirst : Log → Type 0
SinceFirst l = (g n : ℕ) → l.first g ≡ Some n → l.since g ≤ n

-- the pairs g, h of which g had settled as Ok or Refused when h went out first
abbrev pub Prior : Client → Log → Type 0
Prior c l = (h g : ℕ) → l.prior h g ≡ true → c.sent h ≡ true × is_firm (c.outcome g) ≡ true

-- then the reply that settled g has its place before the first push of h
abbrev pub PriorBy : Client → Log → Type 0
PriorBy c l = (h g p : ℕ) → l.prior h g ≡ true → c.settled_by g ≡ Some p → p < l.since h

-- and so has the place at which g acted, if it did
abbrev pub PriorFirst : Client → Log → Type 0
PriorFirst c l = (h g p : ℕ) → edits (c.op g) ≡ true → l.prior h g ≡ true → l.first g ≡ Some p → p < l.since h

pub record Contents (c : Client) (conns : ℕ → Conn) (s : Server) (t : Trace) (l : Log) (a : ℕ → ℕ) : Type 0 where
  pub token_up : TokenUp c conns
  pub token_down : TokenDown c conns
  pub opens_up : OpensUp c conns
  pub asked_as : AskedAs c conns
  pub lost_unknown : LostUnknown c
  pub lost_dead : LostDead c
  pub lost_known : LostKnown c
  pub lost_asked : LostAsked c
  pub session_known : SessionKnown c
  pub session_asked : SessionAsked c
  pub pairwise : Pairwise c
  pub first_up : FirstUp c conns l
  pub unacted : Unacted c l
  pub fresh_first : FreshFirst c l
  pub not_done : NotDone c conns l
  pub cut_seq : CutSeq c conns
  pub open_seq : OpenSeq c conns
  pub older : Older c conns
  pub no_replay : NoReplay c conns
  pub copy_pair : CopyPair c conns s
  pub now_pair : NowPair c s
  pub create_reply : CreateReply c conns s t
  pub attach_reply : AttachReply c conns s
  pub reached : Reached c conns s
  pub closed_reply : ClosedReply c conns s
  pub attach_refused : AttachRefused c conns s
  pub stale_reply : StaleReply c conns
  pub session_seq : SessionSeq c s
  pub pending_at : PendingAt c s
  pub live_unsettled : LiveUnsettled c conns s
  pub live_replay : LiveReplay c conns s l
  pub shows : Shows c s l
  pub denied : Denied s
  pub open_of : OpenOf c t
  pub named_open : NamedOpen c s t
  pub open_given : OpenGiven c s t
  pub open_row : OpenRow c s t
  pub open_acted : OpenActed t a
  pub bytes : Bytes s t l
  pub quiet : Quiet c t l
  pub foreign : Foreign c t l
  pub acted : Acted c l
  pub gave : Gave c l
  pub gave_end : GaveEnd c l
  pub whose : Whose c l
  pub born : Born c l
  pub birth_le : BirthLe l
  pub first_at : FirstAt l
  pub by : By c l
  pub by_ok : ByOk c l
  pub by_end : ByEnd c l
  pub by_some : BySome c
  pub replies : Replies conns l
  pub attach_status : AttachStatus conns
  pub since_le : SinceLe l
  pub since_reply : SinceReply conns l
  pub since_by : SinceBy c l
  pub since_first : SinceFirst l
  pub prior : Prior c l
  pub prior_by : PriorBy c l
  pub prior_first : PriorFirst c l
