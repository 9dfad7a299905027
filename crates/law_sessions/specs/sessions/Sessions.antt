-- What holds between the client, the connections and the server's sessions in every world that a run leads to.
use Rattle.std.specs.Prelude.{◌≡◌, ◌≢◌, ℕ, ◌≤◌, ◌<◌, Bool, true, false, not, List, [], Some, None, is_some, slice_get}
use Rattle.spec_exchange.specs.Status.{success, more_processing_required}
use Rattle.spec_exchange.specs.Commands.{Command, Aside, Setup, TreeConnect, TreeDisconnect, Logoff, Begins, Bad, Refused, Logon, Shows}
use Rattle.spec_exchange.specs.State.{Server}
use Rattle.spec_exchange.specs.CheckSetup.{tree_in, is_new}
use Rattle.spec_exchange.specs.Opens.{id_of}
use Rattle.spec_exchange.specs.Client.{Client, Stage, Apart, SaidNegotiate, SaidFirst, SaidSecond, AskedTree}
use Rattle.spec_exchange.specs.Network.{Conn, Sent, Received, Token, ForDialog, ForOp, ForAttach}

-- ---- words

-- the message or reply is an operation's, or of the DH2C in its place
abbrev pub is_ops : Token → Bool
is_ops ForDialog = false
is_ops (ForOp g) = true
is_ops (ForAttach g) = true

-- a dialog that makes a new session is on its way
abbrev pub makes_session : Stage → Bool
makes_session Apart = false
makes_session (SaidNegotiate bound) = not bound
makes_session (SaidFirst bound) = not bound
makes_session (SaidSecond bound) = not bound
makes_session AskedTree = true

-- the user that a logon shows
abbrev pub logon_user : Shows → List ℕ
logon_user Begins = []
logon_user Bad = []
logon_user Refused = []
logon_user (Logon user) = user

-- the token shows a logon
abbrev pub is_logon : Shows → Bool
is_logon Begins = false
is_logon Bad = false
is_logon Refused = false
is_logon (Logon user) = true

-- ---- words on commands, closed so that a proof doesn't go through the kinds of commands

-- neither a session nor a tree is asked for or given up
unfoldable pub is_work : Command → Bool
is_work (Setup request) = false
is_work Logoff = false
is_work (TreeConnect share) = false
is_work TreeDisconnect = false
is_work _ = true

-- what a dialog sends
unfoldable pub is_dialog : Command → Bool
is_dialog (Setup request) = true
is_dialog (TreeConnect share) = true
is_dialog (Aside status) = true
is_dialog _ = false

-- a SESSION_SETUP that binds nothing
unfoldable pub is_new_setup : Command → Bool
is_new_setup (Setup request) = not request.binding
is_new_setup _ = false

-- a TREE_CONNECT
unfoldable pub is_tree_connect : Command → Bool
is_tree_connect (TreeConnect share) = true
is_tree_connect _ = false

-- a SESSION_SETUP that shows a logon, its user, and the session that it names as its previous one
unfoldable pub logs_on : Command → Bool
logs_on (Setup request) = is_logon request.shows
logs_on _ = false

-- the user that a SESSION_SETUP logs on
unfoldable pub user_in : Command → List ℕ
user_in (Setup request) = logon_user request.shows
user_in _ = []

-- its PreviousSessionId
unfoldable pub previous_in : Command → ℕ
previous_in (Setup request) = request.previous
previous_in _ = 0

-- ---- the client's session

-- the live session is the last accepted one, and none is in the making beside it
abbrev pub LiveAccepted : Client → Type 0
LiveAccepted c = c.live ≡ true → c.session ≡ c.accepted × 0 < c.rank c.accepted × c.making ≡ None

-- the session that was live last was accepted
abbrev pub SessionRanked : Client → Type 0
SessionRanked c = 0 < c.session_number → 0 < c.rank c.session

-- ranks count the accepts, the last accepted session has the last one, and no two have one
abbrev pub Ranks : Client → Type 0
Ranks c = (x : ℕ) → c.rank x ≤ c.accepted_count

-- the last accepted session has the last rank
abbrev pub LastRank : Client → Type 0
LastRank c = 0 < c.accepted_count → c.rank c.accepted ≡ c.accepted_count

-- no two sessions have one rank
abbrev pub RankOnce : Client → Type 0
RankOnce c = (x y : ℕ) → 0 < c.rank x → c.rank x ≡ c.rank y → x ≡ y

-- a dialog of a new session is that in the making; behind its accept the pending session is the accepted one
abbrev pub Making : Client → Type 0
Making c = (k : ℕ) → makes_session (c.stage k) ≡ true → c.making ≡ Some k

-- while TREE_CONNECT is asked, the session that the dialog makes is the last accepted one
abbrev pub PendingAccepted : Client → Type 0
PendingAccepted c = (k : ℕ) → c.stage k ≡ AskedTree → c.pending ≡ c.accepted × 0 < c.rank c.accepted

-- the session that a dialog waits to begin was never accepted
abbrev pub PendingUnranked : Client → Type 0
PendingUnranked c = (k : ℕ) → c.stage k ≡ SaidSecond false → c.rank c.pending ≡ 0

-- the client ends a session at the sequence 32,767
abbrev pub SequenceLow : Client → Type 0
SequenceLow c = c.sequence ≤ 32767

-- what is noted by a session's number is of a session that was
abbrev pub NumberedSessions : Client → Type 0
NumberedSessions c = (create slot : ℕ) → c.attached create ≤ c.session_number × c.retried create slot ≤ c.session_number
    × (c.live ≡ true → 0 < c.session_number)

-- ---- what waits

-- a message or a reply of an operation on an open connection is of the live session
abbrev pub CurrentUp : Client → (ℕ → Conn) → Type 0
CurrentUp c conns = (k n : ℕ) (x : Sent) → slice_get (conns k).up n ≡ Some x → is_ops x.token ≡ true
    → (conns k).client_open ≡ true → c.live ≡ true × x.message.session_id ≡ c.session

-- and so is a reply
abbrev pub CurrentDown : Client → (ℕ → Conn) → Type 0
CurrentDown c conns = (k n : ℕ) (y : Received) → slice_get (conns k).down n ≡ Some y → is_ops y.token ≡ true
    → (conns k).client_open ≡ true → c.live ≡ true × y.reply.session_id ≡ c.session

-- each message of an operation is of a session that was accepted, and each is this client's
abbrev pub RankedUp : Client → (ℕ → Conn) → Type 0
RankedUp c conns = (k n : ℕ) (x : Sent) → slice_get (conns k).up n ≡ Some x → is_ops x.token ≡ true → 0 < c.rank x.message.session_id

-- each message has the client's ClientGuid and its connection's number, and is signed and sealed as owed
abbrev pub FromClient : Client → (ℕ → Conn) → Type 0
FromClient c conns = (k n : ℕ) (x : Sent) → slice_get (conns k).up n ≡ Some x → x.message.client_guid ≡ c.who.guid
    × x.message.connection ≡ k × x.message.fault ≡ None

-- sequences are below 32,768, and those of the live session at most the client's
abbrev pub SequencesUp : Client → (ℕ → Conn) → Type 0
SequencesUp c conns = (k n : ℕ) (x : Sent) → slice_get (conns k).up n ≡ Some x → x.message.channel_sequence ≤ 32767
    × (c.live ≡ true → x.message.session_id ≡ c.session → x.message.channel_sequence ≤ c.sequence)

-- an operation's command leaves sessions and trees alone
abbrev pub WorkUp : (ℕ → Conn) → Type 0
WorkUp conns = (k n : ℕ) (x : Sent) → slice_get (conns k).up n ≡ Some x → is_ops x.token ≡ true → is_work x.message.command ≡ true

-- and a dialog's message is a dialog's command, of the sequence 0
abbrev pub DialogUp : (ℕ → Conn) → Type 0
DialogUp conns = (k n : ℕ) (x : Sent) → slice_get (conns k).up n ≡ Some x → is_ops x.token ≡ false
    → x.message.channel_sequence ≡ 0 × is_dialog x.message.command ≡ true

-- whoever logs on is the client's user
abbrev pub LogonUp : Client → (ℕ → Conn) → Type 0
LogonUp c conns = (k n : ℕ) (x : Sent) → slice_get (conns k).up n ≡ Some x → logs_on x.message.command ≡ true
    → user_in x.message.command ≡ logon_user c.who.logon

-- what waits of the dialog of a new session, by its stage; a dialog's first SESSION_SETUP
abbrev pub FirstUp : Client → (ℕ → Conn) → Type 0
FirstUp c conns = (k n : ℕ) (x : Sent) → slice_get (conns k).up n ≡ Some x → (conns k).client_open ≡ true
    → is_ops x.token ≡ false → c.stage k ≡ SaidFirst false → is_new_setup x.message.command ≡ true

-- its second one names the last accepted session as its previous one
abbrev pub SecondUp : Client → (ℕ → Conn) → Type 0
SecondUp c conns = (k n : ℕ) (x : Sent) → slice_get (conns k).up n ≡ Some x → (conns k).client_open ≡ true
    → is_ops x.token ≡ false → c.stage k ≡ SaidSecond false
    → is_new_setup x.message.command ≡ true × previous_in x.message.command ≡ c.accepted × x.message.session_id ≡ c.pending

-- then a TREE_CONNECT in the session that it makes
abbrev pub TreeConnectUp : Client → (ℕ → Conn) → Type 0
TreeConnectUp c conns = (k n : ℕ) (x : Sent) → slice_get (conns k).up n ≡ Some x → (conns k).client_open ≡ true
    → is_ops x.token ≡ false → c.stage k ≡ AskedTree
    → is_tree_connect x.message.command ≡ true × x.message.session_id ≡ c.pending

-- an accepted session that isn't ready yet has no operation's message
abbrev pub AskedFresh : Client → (ℕ → Conn) → Type 0
AskedFresh c conns = (j k n : ℕ) (x : Sent) → c.stage j ≡ AskedTree → slice_get (conns k).up n ≡ Some x → is_ops x.token
    ≡ true → x.message.session_id ≢ c.pending

-- ---- the server's sessions

-- of the sessions that the client accepted only the last one may still be there
abbrev pub PresentAccepted : Client → Server → Type 0
PresentAccepted c s = (x : ℕ) → s.present x ≡ true → 0 < c.rank x → x ≡ c.accepted

-- each session that the client accepted has an id that was given, and none of them is in the making
abbrev pub RankedGiven : Client → Server → Type 0
RankedGiven c s = (x : ℕ) → 0 < c.rank x → 0 < x × x ≤ id_of s.epoch s.session_ids_given

-- a session in the making was never accepted
abbrev pub MakingUnranked : Client → Server → Type 0
MakingUnranked c s = (k x : ℕ) → is_new x (s.making k) ≡ true → c.rank x ≡ 0

-- each session and each open is of the user that the client logs on as
abbrev pub SessionUsers : Client → Server → Type 0
SessionUsers c s = (x : ℕ) → s.present x ≡ true → s.user x ≡ logon_user c.who.logon

-- and of its ClientGuid
abbrev pub OpenUsers : Client → Server → Type 0
OpenUsers c s = (o : ℕ) → s.standing o ≡ true → (s.opened o).user ≡ logon_user c.who.logon × (s.opened o).client_guid ≡ c.who.guid

-- the session that a dialog makes has an id that was given
abbrev pub PendingGiven : Client → Server → Type 0
PendingGiven c s = (k : ℕ) → c.stage k ≡ SaidSecond false → 0 < c.pending × c.pending ≤ id_of s.epoch s.session_ids_given

-- the interim response tells an id that was never accepted
abbrev pub FirstReply : Client → (ℕ → Conn) → Server → Type 0
FirstReply c conns s = (k n : ℕ) (y : Received) → slice_get (conns k).down n ≡ Some y → is_ops y.token ≡ false
    → c.stage k ≡ SaidFirst false → y.reply.status ≡ more_processing_required
    → c.rank y.reply.session_id ≡ 0 × 0 < y.reply.session_id × y.reply.session_id ≤ id_of s.epoch s.session_ids_given

-- the new session's success waits: the accepted one before it is gone, and no connection makes the new one any more
abbrev pub SecondReply : Client → (ℕ → Conn) → Server → Type 0
SecondReply c conns s = (k n : ℕ) (y : Received) → slice_get (conns k).down n ≡ Some y → is_ops y.token ≡ false
    → c.stage k ≡ SaidSecond false → y.reply.status ≡ success
    → (0 < c.rank c.accepted → s.present c.accepted ≡ false) × ((j : ℕ) → is_new c.pending (s.making j) ≡ false)

-- ---- trees

-- the tree that an operation's message names is there while its session is
abbrev pub TreeUp : (ℕ → Conn) → Server → Type 0
TreeUp conns s = (k n : ℕ) (x : Sent) → slice_get (conns k).up n ≡ Some x → is_ops x.token ≡ true
    → s.present x.message.session_id ≡ true → is_some (tree_in (s.trees x.message.session_id) x.message.tree_id) ≡ true

-- so is the client's tree while its session is
abbrev pub TreeLive : Client → Server → Type 0
TreeLive c s = c.live ≡ true → s.present c.session ≡ true → is_some (tree_in (s.trees c.session) c.tree) ≡ true

-- and the tree that a TREE_CONNECT's success tells
abbrev pub TreeReply : Client → (ℕ → Conn) → Server → Type 0
TreeReply c conns s = (k n : ℕ) (y : Received) → slice_get (conns k).down n ≡ Some y → is_ops y.token ≡ false
    → c.stage k ≡ AskedTree → y.reply.status ≡ success
    → s.present c.accepted ≡ true → is_some (tree_in (s.trees c.accepted) y.reply.tree_id) ≡ true

-- a message of an operation in the client's session names its tree, and one in the accepted session waits for no accept more
abbrev pub SentTrees : Client → (ℕ → Conn) → Type 0
SentTrees c conns = (k n : ℕ) (x : Sent) → slice_get (conns k).up n ≡ Some x → is_ops x.token ≡ true → 0 < c.session_number
    × (x.message.session_id ≡ c.session → x.message.tree_id ≡ c.tree) × (x.message.session_id ≡ c.accepted → c.session ≡ c.accepted)

-- while TREE_CONNECT is asked, the session that the dialog makes is another than that before it
abbrev pub AskedNew : Client → Type 0
AskedNew c = (k : ℕ) → c.stage k ≡ AskedTree → 0 < c.session_number → c.pending ≢ c.session

-- an open that is attached is one of the client's session and its tree
abbrev pub OpenTrees : Client → Server → Type 0
OpenTrees c s = (o x : ℕ) → s.session_of_open o ≡ Some x → 0 < c.session_number × x ≡ c.session × s.tree_of_open o ≡ c.tree

pub record Sessions (c : Client) (conns : ℕ → Conn) (s : Server) : Type 0 where
  pub live_accepted : LiveAccepted c
  pub session_ranked : SessionRanked c
  pub ranks : Ranks c
  pub last_rank : LastRank c
  pub rank_once : RankOnce c
  pub making : Making c
  pub pending_accepted : PendingAccepted c
  pub pending_unranked : PendingUnranked c
  pub sequence_low : SequenceLow c
  pub numbered_sessions : NumberedSessions c
  pub current_up : CurrentUp c conns
  pub current_down : CurrentDown c conns
  pub ranked_up : RankedUp c conns
  pub from_client : FromClient c conns
  pub sequences_up : SequencesUp c conns
  pub work_up : WorkUp conns
  pub dialog_up : DialogUp conns
  pub logon_up : LogonUp c conns
  pub first_up : FirstUp c conns
  pub second_up : SecondUp c conns
  pub tree_connect_up : TreeConnectUp c conns
  pub asked_fresh : AskedFresh c conns
  pub present_accepted : PresentAccepted c s
  pub ranked_given : RankedGiven c s
  pub making_unranked : MakingUnranked c s
  pub session_users : SessionUsers c s
  pub open_users : OpenUsers c s
  pub pending_given : PendingGiven c s
  pub first_reply : FirstReply c conns s
  pub second_reply : SecondReply c conns s
  pub tree_up : TreeUp conns s
  pub tree_live : TreeLive c s
  pub tree_reply : TreeReply c conns s
  pub sent_trees : SentTrees c conns
  pub asked_new : AskedNew c
  pub open_trees : OpenTrees c s
