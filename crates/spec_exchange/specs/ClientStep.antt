-- The client's core as one step by events: the state behind an event, and what the client is to do then.
-- The network's events take their client, and what they do to the connections, from here.
use Rattle.std.specs.Prelude.{ℕ, zero, suc, ◌+◌, ◌==◌, nat_lt, Bool, true, false, ◌&&◌, if◌then◌else◌, List, Option, Some, None}
use Rattle.spec_exchange.specs.State.{Reply}
use Rattle.spec_exchange.specs.Operations.{Op, Why, Refusal, is_unsettled}
use Rattle.spec_exchange.specs.Client.{Client, has_its_slot, may_take, take_op, may_push, goes_itself, begun}
use Rattle.spec_exchange.specs.Client.{outstanding, asked, settle_no_slots, cut_channel, ends_at_cut, end_session}
use Rattle.spec_exchange.specs.Client.{bind_channel, begin_session, leave_dialog, note_refusal, finish}
use Rattle.spec_exchange.specs.Settling.{Heard, EndsSession, heard, hear, is_awaited}

-- which operation a push sends, and the slot of a lock that goes out first
pub record Pick : Type 0 where
  pub op : ℕ
  pub slot : ℕ

pub data ClientEvent : Type 0 where
  TakesOp : (g : ℕ) (op : Op) → ClientEvent
  Pushes : (k : ℕ) (slotless : List ℕ) (pick : Option Pick) → ClientEvent
  Hears : (k g : ℕ) (asking : Bool) (reply : Reply) (place : ℕ) → ClientEvent
  IsCut : (k : ℕ) → ClientEvent
  IsReady : (k session tree : ℕ) → ClientEvent  -- the dialog of channel k ended well
  IsRefused : (k : ℕ) (why : Refusal) → ClientEvent  -- it was refused; a new session that can't be had is a Finishes
  Finishes : (why : Why) → ClientEvent

pub data Act : Type 0 where
  Nothing : Act
  Sends : (g : ℕ) → Act  -- the operation itself
  Asks : (g : ℕ) → Act  -- DH2C in its place
  CloseChannel : Act  -- its end of the connection whose dialog failed
  CloseChannels : Act  -- its end of every connection
  AllSettled : Act  -- a push where every operation is settled

-- some operation from 1 to n is unsettled
unfoldable pub some_unsettled : Client → ℕ → Bool
some_unsettled c zero = false
some_unsettled c (suc n) = elim (is_unsettled (c.outcome (n + 1))) [ true ↦ true | false ↦ some_unsettled c n ]

-- ---- Push

abbrev pub itself_after : Client → ℕ → ℕ → ℕ → Client
itself_after c k g i = if has_its_slot c g i then outstanding (begun c g i) k g else c

abbrev pub op_after : Client → ℕ → ℕ → ℕ → Client
op_after c k g i = if may_push c k g then (if goes_itself c g then itself_after c k g i else asked c k g) else c

abbrev pub pick_after : Client → ℕ → Option Pick → Client
pick_after c k None = c
pick_after c k (Some p) = op_after c k p.op p.slot

abbrev pub op_act : Client → ℕ → ℕ → ℕ → Act
op_act c k g i = if may_push c k g then (if goes_itself c g then (if has_its_slot c g i then Sends g else Nothing) else Asks g) else Nothing

abbrev pub pick_act : Client → ℕ → Option Pick → Act
pick_act c k None = if some_unsettled c c.taken then Nothing else AllSettled
pick_act c k (Some p) = op_act c k p.op p.slot

-- on a channel whose session has ended there is nothing to send, and something unsettled asks for a new session
abbrev pub push_act : Client → ℕ → List ℕ → Option Pick → Act
push_act c k slotless pick = if c.ready k then pick_act (settle_no_slots c k slotless) k pick else if some_unsettled c
    c.taken then CloseChannels else AllSettled

abbrev pub push_after : Client → ℕ → List ℕ → Option Pick → Client
push_after c k slotless pick = if c.ready k then pick_after (settle_no_slots c k slotless) k pick else c

-- ---- the other events

abbrev pub hear_after : Client → ℕ → ℕ → Bool → Reply → ℕ → Client
hear_after c k g asking r place = if is_awaited c k g asking then hear c g asking r place (heard c g asking r) else c

abbrev pub act_heard : Heard → Act
act_heard EndsSession = CloseChannels
act_heard _ = Nothing

abbrev pub hear_act : Client → ℕ → ℕ → Bool → Reply → Act
hear_act c k g asking r = if is_awaited c k g asking then act_heard (heard c g asking r) else Nothing

abbrev pub cut_after : Client → ℕ → Client
cut_after c k = if c.ready k then (if ends_at_cut c then end_session c else cut_channel c k) else c

abbrev pub cut_act : Client → ℕ → Act
cut_act c k = if c.ready k && ends_at_cut c then CloseChannels else Nothing

-- sessions are counted in 32 bits
abbrev pub last_number : ℕ
last_number = 0xffff_ffff

-- a dialog that ended well binds its channel to the live session, or begins a new one while there is a number for it: ids
-- of sessions rise, so one that isn't above the last one's names a session which has ended
abbrev pub becomes_ready : Client → ℕ → Bool
becomes_ready c session = if c.live then session == c.session else nat_lt c.session session && nat_lt c.session_number last_number

-- else its channel isn't ready, and the connection counts as failed
abbrev pub ready_after : Client → ℕ → ℕ → ℕ → Client
ready_after c k session tree = if becomes_ready c session then (if c.live then bind_channel c k else begin_session c k
    session tree) else leave_dialog c k

abbrev pub ready_act : Client → ℕ → Act
ready_act c session = if becomes_ready c session then Nothing else CloseChannel

-- ---- the step

abbrev pub client_after : Client → ClientEvent → Client
client_after c (TakesOp g op) = if may_take c g op then take_op c g op else c
client_after c (Pushes k slotless pick) = push_after c k slotless pick
client_after c (Hears k g asking r place) = hear_after c k g asking r place
client_after c (IsCut k) = cut_after c k
client_after c (IsReady k session tree) = ready_after c k session tree
client_after c (IsRefused k why) = note_refusal c k why
client_after c (Finishes why) = finish c why

abbrev pub act : Client → ClientEvent → Act
act c (TakesOp g op) = Nothing
act c (Pushes k slotless pick) = push_act c k slotless pick
act c (Hears k g asking r place) = hear_act c k g asking r
act c (IsCut k) = cut_act c k
act c (IsReady k session tree) = ready_act c session
act c (IsRefused k why) = CloseChannel
act c (Finishes why) = Nothing
