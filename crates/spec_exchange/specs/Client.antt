-- The client's session, channels and outstanding requests (MS-SMB2 3.2.1.2 to 3.2.1.7) and its rules: what may go out, and what
-- a lost connection (3.2.7.1), called a cut, or the end of its session does.
use Rattle.std.specs.Prelude.{ℕ, zero, suc, ◌+◌, ◌-◌, ◌*◌, ◌%◌, ◌==◌, nat_le, nat_lt, Bool, true, false, not, ◌&&◌}
use Rattle.std.specs.Prelude.{◌||◌, if◌then◌else◌, List, [], ◌∷◌, ◌++◌, Option, Some, None, is_none}
use Rattle.spec_exchange.specs.Table.{put, put2}
use Rattle.spec_exchange.specs.Commands.{Command, Shows}
use Rattle.spec_exchange.specs.State.{Message}
use Rattle.spec_exchange.specs.Operations.{Op, Outcome, Unsettled, WasOk, NoSlot, NoOpen, Unknown, Why, SessionLost}
use Rattle.spec_exchange.specs.Operations.{Refusal, is_unsettled, is_ok, is_firm, is_create, is_lock, is_change}
use Rattle.spec_exchange.specs.Operations.{create_of, persists, keeps_limits, holds_up, request_of, reconnect_of}

-- ---- state

-- how far the dialog of a channel has come; bound where it binds a further channel to a session
pub data Stage : Type 0 where
  Apart : Stage  -- none, or it has ended
  SaidNegotiate : (bound : Bool) → Stage
  SaidFirst : (bound : Bool) → Stage
  SaidSecond : (bound : Bool) → Stage
  AskedTree : Stage

-- who the client is
pub record Identity : Type 0 where
  pub guid : ℕ  -- its ClientGuid
  pub salt : ℕ  -- the random half of its CreateGuids
  pub logon : Shows  -- what its second token shows
  pub share : List ℕ
  pub cipher : ℕ  -- what NEGOTIATE chooses
  pub signing : ℕ

pub record RefusedDialog : Type 0 where
  pub connection : ℕ
  pub refusal : Refusal

pub record Client : Type 0 where
  pub who : Identity
  -- operations, by number from 1
  pub taken : ℕ
  pub op : ℕ → Op
  pub sent : ℕ → Bool  -- it went out itself
  pub outcome : ℕ → Outcome
  pub outstanding_on : ℕ → Option ℕ  -- the ready channel that has its copy, or a DH2C in its place, in OutstandingRequests
  pub asks_attach : ℕ → Bool  -- what is outstanding is that DH2C
  pub unanswered : ℕ → Bool  -- a copy is unanswered: its channel was cut before its reply was taken
  pub sequence_of : ℕ → ℕ  -- the ChannelSequence of its last copy
  pub slot_of : ℕ → ℕ  -- LockSequenceIndex
  pub number_of : ℕ → ℕ  -- LockSequenceNumber
  pub settled_by : ℕ → Option ℕ  -- the place of the message whose reply settled it
  pub given_up : ℕ → Option ℕ  -- the session that had ended when it was given up
  pub order : List ℕ  -- those that a reply settled, in the order of the replies
  -- opens, by the number of their create
  pub file : ℕ → ℕ  -- the open's id
  pub attached : ℕ → ℕ  -- the number of the session in which it was opened or attached last
  pub closed_ok : ℕ → Bool  -- a close of it settled Ok
  -- lock slots, by create and slot from 1 to 64
  pub slot_user : ℕ → ℕ → Option ℕ  -- the last lock or unlock that took it
  pub retried : ℕ → ℕ → ℕ  -- the number of the session in which it was retried last
  pub full : ℕ → ℕ → Bool  -- it met DISK_FULL
  -- the session
  pub live : Bool
  pub session : ℕ  -- SessionId
  pub session_number : ℕ  -- the client counts its sessions from 1
  pub tree : ℕ  -- TreeConnectId
  pub sequence : ℕ  -- ChannelSequence
  pub ready : ℕ → Bool  -- by channel
  pub channels : ℕ  -- how many are ready
  -- dialogs
  pub stage : ℕ → Stage
  pub making : Option ℕ  -- the channel on which a session is in the making
  pub pending : ℕ  -- that session's id, once it is told
  pub accepted : ℕ  -- the last accepted session, which a new one names as its previous one
  pub accepted_count : ℕ  -- how many were
  pub rank : ℕ → ℕ  -- by session: the order in which the client accepted it
  pub refusals : List RefusedDialog

abbrev pub last_sequence : ℕ
last_sequence = 32767

-- a CreateGuid: the operation's number in 8 bytes and the run's random 8
abbrev pub guid_for : Client → ℕ → ℕ
guid_for c g = c.who.salt * 0x1_0000_0000_0000_0000 + g

-- the create whose open the operation names
abbrev pub create_for : Client → ℕ → ℕ
create_for c g = create_of g (c.op g)

-- ---- Submit

-- the number is the next one, and the create is that of a create taken before
abbrev pub may_take : Client → ℕ → Op → Bool
may_take c g op = (g == c.taken + 1)
    && (keeps_limits op &&
    (is_create op || (nat_lt 0 (create_of g op) && (nat_lt (create_of g op) g && is_create (c.op (create_of g op))))))

-- its open is attached in this session
abbrev pub is_attached : Client → ℕ → Bool
is_attached c create = c.live && (c.attached create == c.session_number)

-- the create won't give an open any more: it settled otherwise than Ok, a close of it settled Ok, or its plain open's session ended
abbrev pub is_gone_after : Client → ℕ → Outcome → Bool
is_gone_after c create Unsettled = false
is_gone_after c create (WasOk reply) = c.closed_ok create || (not (persists (c.op create)) && not (is_attached c create))
is_gone_after c create _ = true

abbrev pub is_gone : Client → ℕ → Bool
is_gone c create = is_gone_after c create (c.outcome create)

abbrev pub outcome_at_first : Client → ℕ → Op → Outcome
outcome_at_first c g op = if is_create op then Unsettled else if is_gone c (create_of g op) then NoOpen (create_of g op) else Unsettled

abbrev pub take_op : Client → ℕ → Op → Client
take_op c g op = record c { taken = g; op = put c.op g op; outcome = put c.outcome g (outcome_at_first c g op) }

-- ---- what a push may send

-- its number is one of those taken
abbrev pub is_taken : Client → ℕ → Bool
is_taken c g = nat_lt 0 g && nat_le g c.taken

-- a lower unsettled operation of the same open holds it up
unfoldable pub waits : Client → ℕ → ℕ → Bool
waits c g zero = false
waits c g (suc n) =
    let rest = waits c g n in let stands = is_unsettled (c.outcome n) in
    if (create_for c n == create_for c g) && holds_up (c.op n) (c.op g) then (if stands then true else rest) else rest

-- all but a create wait for their create
abbrev pub has_open : Client → ℕ → Bool
has_open c g = is_create (c.op g) || is_ok (c.outcome (create_for c g))

abbrev pub may_push : Client → ℕ → ℕ → Bool
may_push c k g = c.ready k
    && (is_taken c g && (is_unsettled (c.outcome g)
    && (is_none (c.outstanding_on g) && (has_open c g && not (waits c g g)))))

-- ---- lock slots

-- not in use: its last user settled as Ok or Refused. One that was given up may never have come to the server, and after
-- sixteen of them a number would be one that the slot still keeps.
abbrev pub is_out_of_use : Client → Option ℕ → Bool
is_out_of_use c None = true
is_out_of_use c (Some h) = is_firm (c.outcome h)

abbrev pub is_free : Client → ℕ → ℕ → Bool
is_free c create i = (nat_lt 0 i && nat_le i 64) && (is_out_of_use c (c.slot_user create i)
    && (not (c.retried create i == c.session_number) && not (c.full create i)))

-- some slot from 1 to n is free
unfoldable pub has_free : Client → ℕ → ℕ → Bool
has_free c create zero = false
has_free c create (suc n) = is_free c create (n + 1) || has_free c create n

-- numbers of a slot run 0, 1, to 15, 0
abbrev pub next_number : Client → Option ℕ → ℕ
next_number c None = 0
next_number c (Some h) = (c.number_of h + 1) % 16

abbrev pub needs_slot : Client → ℕ → Bool
needs_slot c g = is_lock (c.op g) && not (c.sent g)

-- a lock that goes out first needs the slot to be free
abbrev pub has_its_slot : Client → ℕ → ℕ → Bool
has_its_slot c g i = if needs_slot c g then is_free c (create_for c g) i else true

-- ---- Push

-- an operation goes out itself, unless its persistent open isn't attached in this session
abbrev pub goes_itself : Client → ℕ → Bool
goes_itself c g = is_create (c.op g) || is_attached c (create_for c g)

abbrev pub take_slot : Client → ℕ → ℕ → Client
take_slot c g i =
    record c {
      slot_of = put c.slot_of g i;
      number_of = put c.number_of g (next_number c (c.slot_user (create_for c g) i));
      slot_user = put2 c.slot_user (create_for c g) i (Some g);
    }

-- the first sending takes a slot where it needs one
abbrev pub begin : Client → ℕ → ℕ → Client
begin c g i = if is_lock (c.op g) then record (take_slot c g i) { sent = put c.sent g true } else record c { sent = put c.sent g true }

-- a slot whose lock goes out again isn't used again in this session
abbrev pub again : Client → ℕ → Client
again c g = if is_lock (c.op g) then record c { retried = put2 c.retried (create_for c g) (c.slot_of g) c.session_number } else c

abbrev pub begun : Client → ℕ → ℕ → Client
begun c g i = if c.sent g then again c g else begin c g i

abbrev pub outstanding : Client → ℕ → ℕ → Client
outstanding c k g = record c {
  outstanding_on = put c.outstanding_on g (Some k);
  asks_attach = put c.asks_attach g false;
  sequence_of = put c.sequence_of g c.sequence;
}

abbrev pub asked : Client → ℕ → ℕ → Client
asked c k g = record c { outstanding_on = put c.outstanding_on g (Some k); asks_attach = put c.asks_attach g true }

-- a create, write or set-info with an unanswered copy has the replay flag
abbrev pub is_replay : Client → ℕ → Bool
is_replay c g = c.unanswered g && (is_create (c.op g) || is_change (c.op g))

abbrev pub message : Client → ℕ → ℕ → Bool → Command → Message
message c k id replay command = record {
  connection = k;
  client_guid = c.who.guid;
  session_id = c.session;
  tree_id = c.tree;
  message_id = id;
  channel_sequence = c.sequence;
  replay = replay;
  fault = None;
  command = command;
}

abbrev pub own_message : Client → ℕ → ℕ → ℕ → Message
own_message c k id g = message c k id (is_replay c g) (request_of (c.op g) (guid_for c g) (c.file (create_for c g))
    (c.slot_of g) (c.number_of g))

-- DH2C, in the operation's place
abbrev pub ask_message : Client → ℕ → ℕ → ℕ → Message
ask_message c k id g = message c k id false (reconnect_of (c.op (create_for c g)) (guid_for c (create_for c g)) (c.file (create_for c g)))

-- ---- NoSlot: no slot is free for a lock that could go out

abbrev pub lacks_slot : Client → ℕ → ℕ → Bool
lacks_slot c k g = may_push c k g && (goes_itself c g && (needs_slot c g && not (has_free c (create_for c g) 64)))

abbrev pub settle_no_slot : Client → ℕ → ℕ → Client
settle_no_slot c k g = if lacks_slot c k g then record c { outcome = put c.outcome g (NoSlot (create_for c g)) } else c

unfoldable pub settle_no_slots : Client → ℕ → List ℕ → Client
settle_no_slots c k [] = c
settle_no_slots c k (g ∷ gs) = settle_no_slots (settle_no_slot c k g) k gs

-- ---- a cut of a ready channel

abbrev pub on_after_cut : ℕ → Option ℕ → Option ℕ
on_after_cut k None = None
on_after_cut k (Some j) = if j == k then None else Some j

-- a lost DH2C makes no unanswered copy
abbrev pub before_after_cut : ℕ → Option ℕ → Bool → Bool → Bool
before_after_cut k None asks before = before
before_after_cut k (Some j) asks before = if asks then before else if j == k then true else before

abbrev pub cut_channel : Client → ℕ → Client
cut_channel c k =
    record c {
      sequence = c.sequence + 1;
      ready = put c.ready k false;
      channels = c.channels - 1;
      outstanding_on = λ g. on_after_cut k (c.outstanding_on g);
      unanswered = λ g. before_after_cut k (c.outstanding_on g) (c.asks_attach g) (c.unanswered g);
    }

-- the session ends with its last ready channel, or where the sequence can't be raised
abbrev pub ends_at_cut : Client → Bool
ends_at_cut c = (c.channels == 1) || (c.sequence == last_sequence)

-- ---- a channel that becomes ready: a further one of the session, or the first one of a new session

abbrev pub bind_channel : Client → ℕ → Client
bind_channel c k = record c { ready = put c.ready k true; channels = c.channels + 1; stage = put c.stage k Apart }

abbrev pub begin_session : Client → ℕ → ℕ → ℕ → Client
begin_session c k session tree =
    record c {
      live = true;
      session = session;
      session_number = c.session_number + 1;
      tree = tree;
      sequence = 0;
      ready = put c.ready k true;
      channels = 1;
      stage = put c.stage k Apart;
      making = None;
    }

-- ---- the end of the session: what was outstanding is unanswered, and what hung on a plain open is given up

abbrev pub before_after_end : Option ℕ → Bool → Bool → Bool
before_after_end None asks before = before
before_after_end (Some j) asks before = if asks then before else true

-- an operation that never went out, by its plain create's outcome and whether that create went out
abbrev pub unsent_after_end : ℕ → Bool → Outcome → Outcome
unsent_after_end create create_sent Unsettled = if create_sent then NoOpen create else Unsettled
unsent_after_end create create_sent _ = NoOpen create

-- an operation whose open isn't persistent
abbrev pub plain_after_end : Client → ℕ → ℕ → Outcome
plain_after_end c g create = if c.sent g then Unknown (SessionLost c.session_number) else if is_create (c.op g) then
    Unsettled else unsent_after_end create (c.sent create) (c.outcome create)

abbrev pub outcome_after_end : Client → ℕ → Outcome → Outcome
outcome_after_end c g Unsettled = if persists (c.op (create_for c g)) then Unsettled else plain_after_end c g (create_for c g)
outcome_after_end c g r = r

abbrev pub given_up_after_end : Client → ℕ → Outcome → Option ℕ → Option ℕ
given_up_after_end c g Unsettled old = if persists (c.op (create_for c g)) then old else if c.sent g then Some c.session else old
given_up_after_end c g _ old = old

abbrev pub end_session : Client → Client
end_session c =
    record c {
      live = false;
      ready = λ k. false;
      channels = 0;
      stage = λ k. Apart;
      making = None;
      outstanding_on = λ g. None;
      unanswered = λ g. before_after_end (c.outstanding_on g) (c.asks_attach g) (c.unanswered g);
      outcome = λ g. outcome_after_end c g (c.outcome g);
      given_up = λ g. given_up_after_end c g (c.outcome g) (c.given_up g);
    }

-- ---- a dialog that ends without a ready channel

-- the session in the making on a channel is given up with it
abbrev pub unmade : ℕ → Option ℕ → Option ℕ
unmade k None = None
unmade k (Some j) = if j == k then None else Some j

abbrev pub leave_dialog : Client → ℕ → Client
leave_dialog c k = record c { stage = put c.stage k Apart; making = unmade k c.making }

-- it was refused
abbrev pub note_refusal : Client → ℕ → Refusal → Client
note_refusal c k why = record (leave_dialog c k) { refusals = c.refusals ++ record { connection = k; refusal = why } ∷ [] }

-- ---- no session can be had: all that was taken and is unsettled is given up

abbrev pub outcome_after_finish : Why → Outcome → Outcome
outcome_after_finish why Unsettled = Unknown why
outcome_after_finish why r = r

abbrev pub given_up_after_finish : ℕ → Outcome → Option ℕ → Option ℕ
given_up_after_finish session Unsettled old = Some session
given_up_after_finish session _ old = old

abbrev pub finish : Client → Why → Client
finish c why =
    record c {
      outcome = λ g. if is_taken c g then outcome_after_finish why (c.outcome g) else c.outcome g;
      given_up = λ g. if is_taken c g then given_up_after_finish c.session (c.outcome g) (c.given_up g) else c.given_up g;
    }
