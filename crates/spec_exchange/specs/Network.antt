-- Connections between one client and one server, which lose what they hold (MS-SMB2 3.2.7.1, 3.3.7.1): the events of a world.
use Rattle.std.specs.Prelude.{ℕ, ◌+◌, ◌*◌, ◌==◌, nat_lt, Bool, true, false, not, ◌&&◌, if◌then◌else◌, List, [], ◌∷◌}
use Rattle.std.specs.Prelude.{◌++◌, Option, Some, None, is_some, min}
use Rattle.spec_exchange.specs.Table.{put, is_filled}
use Rattle.spec_exchange.specs.Status.{success, end_of_file}
use Rattle.spec_exchange.specs.Content.{ContentReply, Counted, Gives, Done}
use Rattle.spec_exchange.specs.Order.{Log, Said, Says_ok, Says_end, Says_other}
use Rattle.spec_exchange.specs.Commands.{Command, Aside}
use Rattle.spec_exchange.specs.State.{no_later, Server, Address, Message, Accept, Heard, End, Reply, Body, Empty}
use Rattle.spec_exchange.specs.State.{Content, Count, Record, Answer}
use Rattle.spec_exchange.specs.Step.{step}
use Rattle.spec_exchange.specs.Fold.{recovered_from, recovery_records, nothing_yet, full_room}
use Rattle.spec_exchange.specs.Operations.{Op, OpClose, Unsettled, NoSession, Refusal, HadStatus, is_create, is_firm, weight, charge}
use Rattle.spec_exchange.specs.Client.{Client, Identity, Stage, Apart, AskedTree, SaidNegotiate, own_message, ask_message, leave_dialog}
use Rattle.spec_exchange.specs.ClientStep.{Pick, ClientEvent, TakesOp, Pushes, Hears, IsCut, IsReady, IsRefused}
use Rattle.spec_exchange.specs.ClientStep.{Finishes, Act, Sends, Asks, CloseChannel, CloseChannels, client_after, act}
use Rattle.spec_exchange.specs.Dialogs.{DialogStep, GoesOn, Accepts, Binds, Readies, Refuses, dialog_step}
use Rattle.spec_exchange.specs.Dialogs.{dialog_message, open_channel, went_on, accepted}

-- ---- connections

-- whose message it is: a dialog's, an operation's own, or the DH2C in an operation's place
pub data Token : Type 0 where
  ForDialog : Token
  ForOp : (g : ℕ) → Token
  ForAttach : (g : ℕ) → Token

pub record Sent : Type 0 where
  pub token : Token
  pub message : Message

-- a reply with the place of its message among those that the server took, at which no step looks
pub record Received : Type 0 where
  pub token : Token
  pub reply : Reply
  pub place : ℕ

pub record Conn : Type 0 where
  pub client_open : Bool
  pub server_open : Bool
  pub up : List Sent
  pub down : List Received
  pub next_id : ℕ

-- ---- what is only remembered: by place, which sequence reached which open, and which open was written to

pub record Trace : Type 0 where
  pub open_of : ℕ → Option ℕ  -- by create: the open that it made
  pub reached : ℕ → Option ℕ  -- by place
  pub altered : ℕ → Option ℕ
  pub session : ℕ → ℕ
  pub sequence : ℕ → ℕ

pub record World : Type 0 where
  pub client : Client
  pub server : Server
  pub records : List Record
  pub moment : ℕ
  pub conns : ℕ → Conn
  pub log : Log
  pub trace : Trace

pub data Event : Type 0 where
  Submit : (g : ℕ) (op : Op) → Event
  Open : (k : ℕ) → Event
  Push : (k : ℕ) (slotless : List ℕ) (pick : Option Pick) → Event  -- slotless: locks for which it finds no slot
  Serve : (k : ℕ) → Event
  Take : (k : ℕ) → Event
  Cut : (k : ℕ) → Event
  Drop : (k : ℕ) → Event
  Restart : Event
  Crash : (k : ℕ) (kept : Bool) → Event
  Wait : (n : ℕ) → Event  -- milliseconds
  Finish : (refusal : Refusal) → Event

abbrev pub with_client : World → Client → World
with_client w c = record w { client = c }

-- ---- Open and Drop: the server accepts, and hears of an end

abbrev pub with_answer : World → Answer → World
with_answer w A = record w { server = A.server; records = w.records ++ A.records }

abbrev pub fresh : Client → ℕ → Bool → Conn
fresh c k served = record {
  client_open = true;
  server_open = served;
  up = if served then record {
    token = ForDialog;
    message = dialog_message c k 0 (SaidNegotiate c.live);
  } ∷ [] else [];
  down = [];
  next_id = 1;
}

abbrev pub opened_by : World → ℕ → Answer → World
opened_by w k A = record (with_answer w A) {
  client = open_channel w.client k;
  conns = put w.conns k (fresh w.client k (A.reply.status == success));
}

abbrev pub opened : World → ℕ → World
opened w k = opened_by w k (step w.server w.moment (Accept k))

abbrev pub server_off : Conn → Conn
server_off c = record c { server_open = false; up = [] }

abbrev pub dropped : World → ℕ → World
dropped w k = record (with_answer w (step w.server w.moment (End k))) { conns = put w.conns k (server_off (w.conns k)) }

-- ---- Push

abbrev pub send_up : Conn → Token → Message → ℕ → Conn
send_up c token m n = record c { up = c.up ++ record { token = token; message = m } ∷ []; next_id = c.next_id + n }

-- an operation goes out first: what had settled as Ok or Refused by then is remembered
abbrev pub first_push : World → ℕ → Log
first_push w g = if w.client.sent g then w.log else record w.log {
  since = put w.log.since g w.log.places;
  prior = put w.log.prior g (λ a. is_firm (w.client.outcome a));
}

-- the operation itself goes up, from the client behind the step
abbrev pub transmitted : World → ℕ → ℕ → Client → World
transmitted w k g c =
    record w {
      client = c;
      conns = put w.conns k (send_up (w.conns k) (ForOp g) (own_message c k (w.conns k).next_id g) (charge (weight (c.op g))));
      log = first_push w g;
    }

-- DH2C goes up in its place
abbrev pub asked_for : World → ℕ → ℕ → Client → World
asked_for w k g c =
    record w {
      client = c;
      conns = put w.conns k (send_up (w.conns k) (ForAttach g) (ask_message c k (w.conns k).next_id g) 1);
    }

abbrev pub pushed_by : World → ℕ → Client → Act → World
pushed_by w k c (Sends g) = transmitted w k g c
pushed_by w k c (Asks g) = asked_for w k g c
pushed_by w k c _ = with_client w c

abbrev pub pushed : World → ℕ → List ℕ → Option Pick → World
pushed w k slotless pick = pushed_by w k (client_after w.client (Pushes k slotless pick)) (act w.client (Pushes k slotless pick))

-- ---- Serve: the front is absorbed, and its reply said

-- NEGOTIATE and ECHO touch no shared state
abbrev pub untouched : Server → Message → ℕ → Answer
untouched s m status = record {
  server = s;
  reply = record {
    status = status;
    session_id = m.session_id;
    tree_id = m.tree_id;
    body = Empty;
  };
  records = [];
  acted = false;
  reached = None;
  altered = None;
}

abbrev pub answer_to : Server → ℕ → Message → Command → Answer
answer_to s now m (Aside status) = untouched s m status
answer_to s now m _ = step s now (Heard m)

abbrev pub answer : World → Sent → Answer
answer w x = answer_to w.server w.moment x.message x.message.command

abbrev pub op_of : Token → ℕ
op_of ForDialog = 0
op_of (ForOp g) = g
op_of (ForAttach g) = g

abbrev pub is_own : Token → Bool
is_own ForDialog = false
is_own (ForOp g) = true
is_own (ForAttach g) = false

abbrev pub content_reply : Body → ContentReply
content_reply (Count count) = Counted count
content_reply (Content bytes) = Gives bytes
content_reply _ = Done

abbrev pub said : Token → Reply → Said
said (ForOp g) r = if r.status == success then Says_ok (content_reply r.body) else if r.status == end_of_file then Says_end else Says_other
said _ r = Says_other

abbrev pub first_noted : Option ℕ → ℕ → Option ℕ
first_noted None n = Some n
first_noted (Some i) n = Some i

-- its own message makes the open of a create
abbrev pub makes : Client → Token → Answer → Bool
makes c token A = is_own token && (A.acted && is_create (c.op (op_of token)))

abbrev pub traced : World → Sent → Answer → Trace
traced w x A =
    record {
      open_of = if makes w.client x.token A then put w.trace.open_of (op_of x.token) A.reached else w.trace.open_of;
      reached = put w.trace.reached w.log.places A.reached;
      altered = put w.trace.altered w.log.places A.altered;
      session = put w.trace.session w.log.places x.message.session_id;
      sequence = put w.trace.sequence w.log.places x.message.channel_sequence;
    }

-- a create's bytes behind a step: those of its file while its open stands, and else as they were
abbrev pub bytes_behind : Server → Option ℕ → List ℕ → List ℕ
bytes_behind s None before = before
bytes_behind s (Some o) before = if s.standing o then s.content (s.opened o).file else before

abbrev pub logged : World → Sent → Answer → Trace → Log
logged w x A t =
    record w.log {
      places = w.log.places + 1;
      who = put w.log.who w.log.places (op_of x.token);
      gave = put w.log.gave w.log.places (said x.token A.reply);
      did = put w.log.did w.log.places (is_own x.token && A.acted);
      bytes = λ c. put (w.log.bytes c) (w.log.places + 1) (bytes_behind A.server (t.open_of c) (w.log.bytes c w.log.places));
      birth = if makes w.client x.token A then put w.log.birth (op_of x.token) (w.log.places + 1) else w.log.birth;
      first = if is_own x.token && A.acted then put w.log.first (op_of x.token)
          (first_noted (w.log.first (op_of x.token)) w.log.places) else w.log.first;
    }

abbrev pub behind_front : Conn → List Sent → Conn
behind_front c rest = record c { up = rest }

-- the step is taken and its records stand
abbrev pub absorbed : World → ℕ → Sent → List Sent → Answer → World
absorbed w k x rest A =
    record (with_answer w A) {
      conns = put w.conns k (behind_front (w.conns k) rest);
      log = logged w x A (traced w x A);
      trace = traced w x A;
    }

-- a reply to a client's end that has closed goes nowhere
abbrev pub say_down : Conn → Received → Conn
say_down c y = if c.client_open then record c { down = c.down ++ y ∷ [] } else c

abbrev pub replied : World → ℕ → Received → World
replied w k y = record w { conns = put w.conns k (say_down (w.conns k) y) }

abbrev pub serve_front : World → ℕ → List Sent → World
serve_front w k [] = w
serve_front w k (x ∷ rest) = let A = answer w x in replied (absorbed w k x rest A) k (record {
  token = x.token;
  reply = A.reply;
  place = w.log.places;
})

abbrev pub served : World → ℕ → World
served w k = serve_front w k (w.conns k).up

-- ---- Take and Cut

abbrev pub client_off : Conn → Conn
client_off c = record c { client_open = false; down = [] }

-- the client closes its end of every connection
abbrev pub all_cut : World → World
all_cut w = record w { conns = λ k. client_off (w.conns k) }

abbrev pub one_cut : World → ℕ → World
one_cut w k = record w { conns = put w.conns k (client_off (w.conns k)) }

abbrev pub take_front : Conn → List Received → Conn
take_front c rest = record c { down = rest }

abbrev pub behind_reply : World → ℕ → List Received → World
behind_reply w k rest = record w { conns = put w.conns k (take_front (w.conns k) rest) }

-- the next message of a dialog goes out
abbrev pub dialog_sent : World → ℕ → Stage → World
dialog_sent w k stage = record w {
  conns = put w.conns k (send_up (w.conns k) ForDialog (dialog_message w.client k (w.conns k).next_id stage) 1);
}

-- a client that is told so closes its end of this connection, or of every one
abbrev pub closed_by : World → ℕ → Act → World
closed_by w k CloseChannels = all_cut w
closed_by w k CloseChannel = one_cut w k
closed_by w k _ = w

-- the client's own step at the end of a dialog
abbrev pub dialog_ended : World → ℕ → ClientEvent → World
dialog_ended w k e = with_client (closed_by w k (act w.client e)) (client_after w.client e)

abbrev pub dialog_took : World → ℕ → Reply → DialogStep → World
dialog_took w k r (GoesOn stage) = dialog_sent (with_client w (went_on w.client k stage r)) k stage
dialog_took w k r Accepts = dialog_sent (with_client w (accepted w.client k)) k AskedTree
dialog_took w k r Binds = dialog_ended w k (IsReady k w.client.session w.client.tree)
dialog_took w k r Readies = dialog_ended w k (IsReady k w.client.pending r.tree_id)
dialog_took w k r (Refuses status) = dialog_ended w k (IsRefused k (HadStatus status))

abbrev pub op_took : World → ℕ → ℕ → Bool → Reply → ℕ → World
op_took w k g asking r place = with_client (closed_by w k (act w.client (Hears k g asking r place)))
    (client_after w.client (Hears k g asking r place))

abbrev pub took_by : World → ℕ → Reply → ℕ → Token → World
took_by w k r place ForDialog = dialog_took w k r (dialog_step (w.client.stage k) r.status)
took_by w k r place (ForOp g) = op_took w k g false r place
took_by w k r place (ForAttach g) = op_took w k g true r place

abbrev pub take_reply : World → ℕ → List Received → World
take_reply w k [] = w
take_reply w k (y ∷ rest) = took_by (behind_reply w k rest) k y.reply y.place y.token

abbrev pub taken : World → ℕ → World
taken w k = take_reply w k (w.conns k).down

-- the end of this connection alone, or of every one
abbrev pub cut_by : World → ℕ → Act → World
cut_by w k CloseChannels = all_cut w
cut_by w k _ = one_cut w k

-- a channel that isn't ready leaves its dialog
abbrev pub cut_off : World → ℕ → World
cut_off w k =
    if w.client.ready k then with_client (cut_by w k (act w.client (IsCut k))) (client_after w.client (IsCut k))
    else one_cut (with_client w (leave_dialog w.client k)) k

-- ---- Restart and Crash: every server's end closes, and the server stands at the fold of all records

abbrev pub restarted : World → World
restarted w =
    record w {
      server = recovered_from w.server w.records;
      records = w.records ++ recovery_records w.records;
      conns = λ k. server_off (w.conns k);
    }

abbrev pub absorb_front : World → ℕ → List Sent → World
absorb_front w k [] = w
absorb_front w k (x ∷ rest) = absorbed w k x rest (answer w x)

abbrev pub crashed : World → ℕ → Bool → World
crashed w k kept = if kept then restarted (absorb_front w k (w.conns k).up) else restarted w

-- ---- which events a world can meet, and what they do

abbrev pub max_channel : ℕ
max_channel = 256

-- no session is in the making, on this or another channel
abbrev pub may_open : World → ℕ → Bool
may_open w k = nat_lt k max_channel && (not (w.conns k).client_open && (not (w.conns k).server_open && not (is_some w.client.making)))

abbrev pub may_serve : World → ℕ → Bool
may_serve w k = (w.conns k).server_open && is_filled (w.conns k).up

abbrev pub may_take_reply : World → ℕ → Bool
may_take_reply w k = (w.conns k).client_open && is_filled (w.conns k).down

abbrev pub is_possible : World → Event → Bool
is_possible w (Submit g op) = true
is_possible w (Open k) = may_open w k
is_possible w (Push k slotless pick) = w.client.ready k
is_possible w (Serve k) = may_serve w k
is_possible w (Take k) = may_take_reply w k
is_possible w (Cut k) = (w.conns k).client_open
is_possible w (Drop k) = (w.conns k).server_open
is_possible w Restart = true
is_possible w (Crash k kept) = may_serve w k
is_possible w (Wait n) = true
is_possible w (Finish refusal) = not w.client.live

abbrev pub changed : World → Event → World
changed w (Submit g op) = with_client w (client_after w.client (TakesOp g op))
changed w (Open k) = opened w k
changed w (Push k slotless pick) = pushed w k slotless pick
changed w (Serve k) = served w k
changed w (Take k) = taken w k
changed w (Cut k) = cut_off w k
changed w (Drop k) = dropped w k
changed w Restart = restarted w
changed w (Crash k kept) = crashed w k kept
changed w (Wait n) = w
changed w (Finish refusal) = with_client w (client_after w.client (Finishes (NoSession refusal)))

-- each event but Wait raises the moment by 1; a millisecond is 10,000 of it; at the last one it stands still
abbrev pub moments : Event → ℕ
moments (Wait n) = 10000 * n
moments _ = 1

abbrev pub later : World → ℕ → World
later w n = record w { moment = no_later (w.moment + n) }

-- an event that the world can't meet is none
abbrev pub happens : World → Event → World
happens w e = if is_possible w e then later (changed w e) (moments e) else w

unfoldable pub run : List Event → World → World
run [] w = w
run (e ∷ es) w = run es (happens w e)

-- ---- the opening state

abbrev pub no_conn : Conn
no_conn = record { client_open = false; server_open = false; up = []; down = []; next_id = 0 }

abbrev pub new_client : Identity → Client
new_client who =
    record {
      who = who;
      taken = 0;
      op = λ g. OpClose 0;
      sent = λ g. false;
      outcome = λ g. Unsettled;
      outstanding_on = λ g. None;
      asks_attach = λ g. false;
      unanswered = λ g. false;
      sequence_of = λ g. 0;
      slot_of = λ g. 0;
      number_of = λ g. 0;
      settled_by = λ g. None;
      given_up = λ g. None;
      order = [];
      file = λ c. 0;
      attached = λ c. 0;
      closed_ok = λ c. false;
      slot_user = λ c i. None;
      retried = λ c i. 0;
      full = λ c i. false;
      live = false;
      session = 0;
      session_number = 0;
      tree = 0;
      sequence = 0;
      ready = λ k. false;
      channels = 0;
      stage = λ k. Apart;
      making = None;
      pending = 0;
      accepted = 0;
      accepted_count = 0;
      rank = λ s. 0;
      refusals = [];
    }

pub record Settings : Type 0 where
  pub who : Identity
  pub share : List ℕ
  pub room : ℕ
  pub encrypts : Bool
  pub address : Address

-- the server before its first start: an empty journal, and at most the full room
abbrev pub blank_server : Settings → Server
blank_server z = record nothing_yet {
  share = z.share;
  room = min z.room full_room;
  encrypts = z.encrypts;
  address = z.address;
  journal = 9;
}

abbrev pub start : Settings → World
start z =
    record {
      client = new_client z.who;
      server = recovered_from (blank_server z) [];
      records = recovery_records [];
      moment = 0;
      conns = λ k. no_conn;
      log = record {
        places = 0;
        who = λ n. 0;
        gave = λ n. Says_other;
        did = λ n. false;
        bytes = λ c n. [];
        birth = λ c. 0;
        first = λ g. None;
        since = λ g. 0;
        prior = λ h a. false;
      };
      trace = record { open_of = λ c. None; reached = λ n. None; altered = λ n. None; session = λ n. 0; sequence = λ n. 0 };
    }
