-- What holds of the creates in every world that a run leads to, where each operation acted a g times: between the client's
-- table, what waits, and what the server keeps of opens, their guids and refusals.
use Rattle.std.specs.Prelude.{◌≡◌, ℕ, ◌+◌, ◌*◌, ◌≤◌, ◌<◌, ◌==◌, nat_le, Bool, true, false, not, ◌&&◌, ◌||◌, List}
use Rattle.std.specs.Prelude.{Option, Some, None, is_some, slice_get}
use Rattle.spec_exchange.specs.Status.{success, user_session_deleted, duplicate_objectid, no_memory}
use Rattle.spec_exchange.specs.Commands.{Command, Aside, Setup, TreeConnect, Create, form}
use Rattle.spec_exchange.specs.State.{Server, Open}
use Rattle.spec_exchange.specs.Opens.{id_of}
use Rattle.spec_exchange.specs.Texts.{same_name}
use Rattle.spec_exchange.specs.CheckCreate.{max_guids}
use Rattle.spec_exchange.specs.CheckSetup.{pipes_name}
use Rattle.spec_exchange.specs.Operations.{Op, is_unsettled, is_ok, persists, request_of, id_in}
use Rattle.spec_exchange.specs.Client.{Client}
use Rattle.spec_exchange.specs.Runs.{never_acted}
use Rattle.spec_exchange.specs.Network.{Conn, Sent, Received, ForDialog, ForOp, ForAttach}
use Rattle.law_sessions.specs.messages.Connections.{makes_open}
use Rattle.law_sessions.specs.sessions.Sessions.{logon_user}

-- ---- what the server keeps of creates

-- the columns of the server that creates speak of
pub record Seen : Type 0 where
  pub present : ℕ → Bool
  pub by_guid : ℕ → ℕ → Option ℕ
  pub standing : ℕ → Bool
  pub opened : ℕ → Open
  pub session_of_open : ℕ → Option ℕ
  pub closed : ℕ → ℕ → Bool
  pub refused : ℕ → ℕ → Option ℕ
  pub guids : ℕ → ℕ
  pub expired_guids : ℕ → ℕ → Bool
  pub last : ℕ  -- the last id of an open that was given

-- those of a server
abbrev pub seen : Server → Seen
seen s =
    record {
      present = s.present;
      by_guid = s.by_guid;
      standing = s.standing;
      opened = s.opened;
      session_of_open = s.session_of_open;
      closed = s.closed;
      refused = s.refused;
      guids = s.guids;
      expired_guids = s.expired_guids;
      last = id_of s.epoch s.open_ids_given;
    }

-- ---- words, closed so that a proof doesn't go through numbers and kinds of operations

-- the CreateGuid of an operation, by the random half of the run's
unfoldable pub own_guid : ℕ → ℕ → ℕ
own_guid salt g = salt * 0x1_0000_0000_0000_0000 + g

-- it asks for a persistent open
unfoldable pub outlives : Op → Bool
outlives op = persists op

-- its request keeps the form rules, whatever its guid
unfoldable pub keeps_form : Op → Bool
keeps_form op = not (is_some (form (request_of op 0 0 0 0)))

-- the share has files; on that of the pipes no create acts
unfoldable pub has_files : List ℕ → Bool
has_files share = not (same_name share pipes_name)

-- the session keeps as many CreateGuids as it may
unfoldable pub is_full : ℕ → Bool
is_full count = nat_le max_guids count

-- the CreateGuid of the operation of this number
abbrev pub guid_at : Client → ℕ → ℕ
guid_at c g = own_guid c.who.salt g

-- the open that the create's guid names
abbrev pub named : Client → Seen → ℕ → Option ℕ
named c v g = v.by_guid c.who.guid (guid_at c g)

-- the open that the create made stands, or it expired
abbrev pub is_kept : Client → Seen → ℕ → Bool
is_kept c v g = is_some (named c v g) || v.expired_guids c.who.guid (guid_at c g)

-- the client's live session is there
abbrev pub is_current : Client → Seen → Bool
is_current c v = c.live && v.present c.session

-- the create keeps the form rules, on a share that has files
abbrev pub may_act : Client → ℕ → Bool
may_act c g = keeps_form (c.op g) && has_files c.who.share

-- no copy of the create acts in this session
abbrev pub is_barred : Client → Seen → ℕ → ℕ → Bool
is_barred c v x g = is_some (v.refused x (guid_at c g)) || (is_full (v.guids x) || not (may_act c g))

-- a status that settles a create as refused, by whether a copy of it is unanswered
abbrev pub refuses : Bool → ℕ → Bool
refuses unanswered status = not (status == success)
    && (not (status == user_session_deleted)
    && not (unanswered && ((status == duplicate_objectid) || (status == no_memory))))

-- what a dialog says, and what goes out in an operation's place
abbrev pub is_of_dialog : Command → Bool
is_of_dialog (Setup request) = true
is_of_dialog (TreeConnect share) = true
is_of_dialog (Aside status) = true
is_of_dialog _ = false

-- a DH2C, or what stands in for one
abbrev pub is_of_ask : Command → Bool
is_of_ask (Create request) = is_some request.reconnect
is_of_ask (Aside status) = true
is_of_ask _ = false

-- ---- opens and their guids

-- a create's guid names an open only where the create acted
abbrev pub Made : Client → Seen → (ℕ → ℕ) → Type 0
Made c v a = (g o : ℕ) → named c v g ≡ Some o → makes_open (c.op g) ≡ true × 1 ≤ a g

-- one that stands, with that guid, of the kind that the create asked for
abbrev pub Named : Client → Seen → Type 0
Named c v = (g o : ℕ) → named c v g ≡ Some o → v.standing o ≡ true × (v.opened o).client_guid ≡ c.who.guid
    × (v.opened o).create_guid ≡ Some (guid_at c g)

-- and it is this client's user's
abbrev pub NamedKind : Client → Seen → Type 0
NamedKind c v = (g o : ℕ) → named c v g ≡ Some o → (v.opened o).persistent ≡ outlives (c.op g) × (v.opened o).user ≡ logon_user c.who.logon

-- and its id was given
abbrev pub NamedGiven : Client → Seen → Type 0
NamedGiven c v = (g o : ℕ) → named c v g ≡ Some o → o ≤ v.last

-- an open is attached to sessions alone that the client accepted and that are there
abbrev pub Attached : Client → Seen → Type 0
Attached c v = (o x : ℕ) → v.session_of_open o ≡ Some x → 0 < c.rank x × v.present x ≡ true

-- a plain open always has a session
abbrev pub PlainAttached : Seen → Type 0
PlainAttached v = (o : ℕ) → v.standing o ≡ true → (v.opened o).persistent ≡ false → is_some (v.session_of_open o) ≡ true

-- ---- a create that acted doesn't act again

-- of an unsettled create that acted the open stands, or it expired; of a plain one while its session is there
abbrev pub Unclosed : Client → Seen → (ℕ → ℕ) → Type 0
Unclosed c v a = (g : ℕ) → makes_open (c.op g) ≡ true → is_unsettled (c.outcome g) ≡ true → 1 ≤ a g
    → (outlives (c.op g) || is_current c v) ≡ true → is_kept c v g ≡ true

-- where a copy waits whose session is there, that session keeps what tells that the create acted
abbrev pub ActedKept : Client → (ℕ → Conn) → Seen → (ℕ → ℕ) → Type 0
ActedKept c conns v a = (k n g : ℕ) (x : Sent) → slice_get (conns k).up n ≡ Some x → x.token ≡ ForOp g
    → makes_open (c.op g) ≡ true → v.present x.message.session_id ≡ true → 1 ≤ a g
    → (v.closed x.message.session_id (guid_at c g) || is_kept c v g) ≡ true

-- a create acts at most once
abbrev pub AtMost : Client → (ℕ → ℕ) → Type 0
AtMost c a = (g : ℕ) → makes_open (c.op g) ≡ true → a g ≤ 1

-- one that acted keeps the form rules, on a share with files
abbrev pub FormActed : Client → (ℕ → ℕ) → Type 0
FormActed c a = (g : ℕ) → makes_open (c.op g) ≡ true → 1 ≤ a g → may_act c g ≡ true

-- ---- one that was refused doesn't act

-- a create that settled without acting (Refused, NoSlot, NoOpen) never acted
abbrev pub RefusedNot : Client → (ℕ → ℕ) → Type 0
RefusedNot c a = (g : ℕ) → makes_open (c.op g) ≡ true → never_acted (c.outcome g) ≡ true → a g ≡ 0

-- and a copy of it whose session is there won't act in that session either
abbrev pub DeadRefused : Client → (ℕ → Conn) → Seen → Type 0
DeadRefused c conns v = (k n g : ℕ) (x : Sent) → slice_get (conns k).up n ≡ Some x → x.token ≡ ForOp g
    → makes_open (c.op g) ≡ true → never_acted (c.outcome g) ≡ true → v.present x.message.session_id ≡ true
    → is_barred c v x.message.session_id g ≡ true

-- a reply that will refuse a create is to one that never acted
abbrev pub NoReply : Client → (ℕ → Conn) → (ℕ → ℕ) → Type 0
NoReply c conns a = (k n g : ℕ) (y : Received) → slice_get (conns k).down n ≡ Some y → y.token ≡ ForOp g
    → makes_open (c.op g) ≡ true → refuses (c.unanswered g) y.reply.status ≡ true → a g ≡ 0

-- and where a copy is unanswered, none acts in the live session
abbrev pub BarredReply : Client → (ℕ → Conn) → Seen → Type 0
BarredReply c conns v = (k n g : ℕ) (y : Received) → slice_get (conns k).down n ≡ Some y → y.token ≡ ForOp g
    → makes_open (c.op g) ≡ true → c.unanswered g ≡ true → refuses true y.reply.status ≡ true → is_current c v ≡ true
    → is_barred c v c.session g ≡ true

-- a kept refusal is one
abbrev pub RefusedStatus : Seen → Type 0
RefusedStatus v = (x q status : ℕ) → v.refused x q ≡ Some status → (status == success) ≡ false

-- ---- one that succeeded acted, and names the open that it made

-- a create that settled Ok acted
abbrev pub OkActed : Client → (ℕ → ℕ) → Type 0
OkActed c a = (g : ℕ) → makes_open (c.op g) ≡ true → is_ok (c.outcome g) ≡ true → 1 ≤ a g

-- and so did one whose success is on its way
abbrev pub OkReply : Client → (ℕ → Conn) → (ℕ → ℕ) → Type 0
OkReply c conns a = (k n g : ℕ) (y : Received) → slice_get (conns k).down n ≡ Some y → y.token ≡ ForOp g
    → makes_open (c.op g) ≡ true → y.reply.status ≡ success → 1 ≤ a g

-- the open that a success names was given, has the create's guid while it stands, and is the one that the guid names
abbrev pub FileGuid : Client → Seen → Type 0
FileGuid c v = (g : ℕ) → makes_open (c.op g) ≡ true → is_ok (c.outcome g) ≡ true → c.file g ≤ v.last
    × (v.standing (c.file g) ≡ true → (v.opened (c.file g)).client_guid ≡ c.who.guid × (v.opened (c.file g)).create_guid
    ≡ Some (guid_at c g))

-- what its guid names is the open that its success named
abbrev pub FileOf : Client → Seen → Type 0
FileOf c v = (g o : ℕ) → makes_open (c.op g) ≡ true → is_ok (c.outcome g) ≡ true → named c v g ≡ Some o → o ≡ c.file g

-- the same of a success that is on its way: the open that it names
abbrev pub ReplyGuid : Client → (ℕ → Conn) → Seen → Type 0
ReplyGuid c conns v = (k n g : ℕ) (y : Received) → slice_get (conns k).down n ≡ Some y → y.token ≡ ForOp g
    → makes_open (c.op g) ≡ true → y.reply.status ≡ success
    → id_in y.reply.body ≤ v.last × (v.standing (id_in y.reply.body) ≡ true
    → (v.opened (id_in y.reply.body)).client_guid ≡ c.who.guid × (v.opened (id_in y.reply.body)).create_guid
    ≡ Some (guid_at c g))

-- and what the create's guid names is that open
abbrev pub ReplyOf : Client → (ℕ → Conn) → Seen → Type 0
ReplyOf c conns v = (k n g o : ℕ) (y : Received) → slice_get (conns k).down n ≡ Some y → y.token ≡ ForOp g
    → makes_open (c.op g) ≡ true → y.reply.status ≡ success → named c v g ≡ Some o → o ≡ id_in y.reply.body

-- ---- of the client and what waits alone

-- a plain create that went out settles with its session
abbrev pub PlainDead : Client → Type 0
PlainDead c = (g : ℕ) → c.live ≡ false → makes_open (c.op g) ≡ true → outlives (c.op g) ≡ false → c.sent g ≡ true
    → is_unsettled (c.outcome g) ≡ false

-- a create goes out itself alone
abbrev pub AskingOther : Client → Type 0
AskingOther c = (g : ℕ) → c.asks_attach g ≡ true → makes_open (c.op g) ≡ false × g ≤ c.taken

-- a dialog's message is a dialog's command
abbrev pub DialogUp : (ℕ → Conn) → Type 0
DialogUp conns = (k n : ℕ) (x : Sent) → slice_get (conns k).up n ≡ Some x → x.token ≡ ForDialog → is_of_dialog x.message.command ≡ true

-- what goes out in an operation's place is a DH2C
abbrev pub AskUp : (ℕ → Conn) → Type 0
AskUp conns = (k n g : ℕ) (x : Sent) → slice_get (conns k).up n ≡ Some x → x.token ≡ ForAttach g → is_of_ask x.message.command ≡ true

pub record Creates (c : Client) (conns : ℕ → Conn) (v : Seen) (a : ℕ → ℕ) : Type 0 where
  pub made : Made c v a
  pub named : Named c v
  pub named_kind : NamedKind c v
  pub named_given : NamedGiven c v
  pub attached : Attached c v
  pub plain_attached : PlainAttached v
  pub unclosed : Unclosed c v a
  pub acted_kept : ActedKept c conns v a
  pub at_most : AtMost c a
  pub form_acted : FormActed c a
  pub refused_not : RefusedNot c a
  pub dead_refused : DeadRefused c conns v
  pub no_reply : NoReply c conns a
  pub barred_reply : BarredReply c conns v
  pub refused_status : RefusedStatus v
  pub ok_acted : OkActed c a
  pub ok_reply : OkReply c conns a
  pub file_guid : FileGuid c v
  pub file_of : FileOf c v
  pub reply_guid : ReplyGuid c conns v
  pub reply_of : ReplyOf c conns v
  pub plain_dead : PlainDead c
  pub asking_other : AskingOther c
  pub dialog_up : DialogUp conns
  pub ask_up : AskUp conns

-- ---- what a restart leaves of it

-- no session, and of the opens the persistent ones, with their guids; expired guids stay, and later ids are above
pub record Restarts (v u : Seen) : Type 0 where
  pub absent : (x : ℕ) → u.present x ≡ false
  pub apart : (o : ℕ) → u.session_of_open o ≡ None
  pub unrefused : (x q : ℕ) → u.refused x q ≡ None
  pub stays : (p q o : ℕ) → v.by_guid p q ≡ Some o → (v.opened o).persistent ≡ true → u.by_guid p q ≡ Some o
  pub was : (p q o : ℕ) → u.by_guid p q ≡ Some o → v.by_guid p q ≡ Some o
  pub named : (p q o : ℕ) → u.by_guid p q ≡ Some o → u.standing o ≡ true
  pub stood : (o : ℕ) → u.standing o ≡ true → v.standing o ≡ true × u.opened o ≡ v.opened o × (u.opened o).persistent ≡ true
  pub expired_guids : u.expired_guids ≡ v.expired_guids
  pub last : v.last ≤ u.last
