-- What settles an operation: on every run, and on one without losses.
use Rattle.std.specs.Prelude.{◌≡◌, ◌≢◌, ℕ, Bool, true, false, if◌then◌else◌, List, [], ◌∷◌, ◌++◌, Option, Some, is_some, slice_get}
use Rattle.spec_exchange.specs.Status.{success}
use Rattle.spec_exchange.specs.State.{Reply}
use Rattle.spec_exchange.specs.Operations.{Op, OpReply, Outcome, WasOk, WasRefused, NoSlot, NoOpen, Unknown, WithStatus, is_firm}
use Rattle.spec_exchange.specs.Operations.{is_unsettled, value_in}
use Rattle.spec_exchange.specs.Client.{create_for, is_gone, lacks_slot, settle_no_slots}
use Rattle.spec_exchange.specs.ClientStep.{Pick}
use Rattle.spec_exchange.specs.Network.{Event, Push, Serve, Sent, Received, ForOp, ForAttach, Settings, run, start, answer, may_serve}
use Rattle.law_answers.specs.completeness.Completeness.{without_losses}

-- ---- a success reads

-- A success that waits for an operation's own message has a body that reads as the operation's, so the client never meets
-- one that doesn't.
abbrev pub SuccessReads : Type 0
SuccessReads =
    (z : Settings) (events : List Event) (k n g : ℕ) (y : Received) → slice_get ((run events (start z)).conns k).down n
    ≡ Some y → y.token ≡ ForOp g → y.reply.status ≡ success
    → is_some (value_in ((run events (start z)).client.op g) y.reply.body) ≡ true

-- and no outcome is unknown by a success
abbrev pub NeverUnread : Type 0
NeverUnread = (z : Settings) (events : List Event) (g : ℕ) → (run events (start z)).client.outcome g ≢ Unknown (WithStatus success)

-- ---- why an operation has no slot or no open

-- The push at which a lock or unlock settled, no slot being free: behind those before it in the push's list it could go out
-- itself, it never had, and no slot of its open was free.
pub record LacksSlot (z : Settings) (events : List Event) (g create : ℕ) : Type 0 where
  pub before : List Event
  pub after : List Event
  pub channel : ℕ
  pub front : List ℕ
  pub rest : List ℕ
  pub pick : Option Pick
  pub is : events ≡ before ++ Push channel (front ++ g ∷ rest) pick ∷ after
  pub named : create ≡ create_for (run before (start z)).client g
  pub lacks : lacks_slot (settle_no_slots (run before (start z)).client channel front) channel g ≡ true

-- The event at which an operation came to have no open: it was unsettled until then; behind it, it never went out, and its
-- create gives no open any more, since it settled otherwise than Ok, or a close of it settled Ok, or its plain open's session
-- ended.
pub record LacksOpen (z : Settings) (events : List Event) (g create : ℕ) : Type 0 where
  pub before : List Event
  pub after : List Event
  pub event : Event
  pub is : events ≡ before ++ event ∷ after
  pub unsettled : is_unsettled ((run before (start z)).client.outcome g) ≡ true
  pub came : (run (before ++ event ∷ []) (start z)).client.outcome g ≡ NoOpen create
  pub named : create ≡ create_for (run (before ++ event ∷ []) (start z)).client g
  pub unsent : (run (before ++ event ∷ []) (start z)).client.sent g ≡ false
  pub gone : is_gone (run (before ++ event ∷ []) (start z)).client create ≡ true

-- on every run each NoSlot and each NoOpen has its cause
abbrev pub CausesTold : Type 0
CausesTold =
    (z : Settings) (events : List Event) (g create : ℕ)
    → ((run events (start z)).client.outcome g ≡ NoSlot create → LacksSlot z events g create)
    × ((run events (start z)).client.outcome g ≡ NoOpen create → LacksOpen z events g create)

-- ---- runs on which the client loses nothing

-- what a reply settles an operation as, to its own message or to the DH2C in its place: Ok with what it replied, or Refused
-- with its status
pub data SettledAs (op : Op) (own : Bool) (r : Reply) : Outcome → Type 0 where
  AsOk : (reply : OpReply) → own ≡ true → r.status ≡ success → value_in op r.body ≡ Some reply → SettledAs op own r (WasOk reply)
  AsRefused : r.status ≢ success → SettledAs op own r (WasRefused r.status)

-- The event at which the server answered the message of the operation whose reply settled it: a Serve that the world before it
-- meets takes the front of a channel, and the server's step there gives the reply.
pub record OperationAnswered (z : Settings) (events : List Event) (g : ℕ) (op : Op) (settled_by : Option ℕ)
    (outcome : Outcome) : Type 0 where
  pub before : List Event
  pub after : List Event
  pub channel : ℕ
  pub is : events ≡ before ++ Serve channel ∷ after
  pub met : may_serve (run before (start z)) channel ≡ true
  pub front : Sent
  pub rest : List Sent
  pub waits : ((run before (start z)).conns channel).up ≡ front ∷ rest
  pub own : Bool
  pub token : front.token ≡ (if own then ForOp g else ForAttach g)
  pub place : settled_by ≡ Some (run before (start z)).log.places
  pub settled : SettledAs op own (answer (run before (start z)) front).reply outcome

-- an outcome that tells what became of the operation
abbrev pub is_known : Outcome → Bool
is_known (Unknown why) = false
is_known _ = true

-- On a run on which the client loses nothing no outcome is unknown, and each operation that is Ok or Refused has the reply of
-- the server's step to a message of its own.
abbrev pub AllAnswered : Type 0
AllAnswered =
    (z : Settings) (events : List Event) → without_losses events (start z) ≡ true → (g : ℕ)
    → is_known ((run events (start z)).client.outcome g) ≡ true
    × (is_firm ((run events (start z)).client.outcome g) ≡ true
    → OperationAnswered z events g ((run events (start z)).client.op g) ((run events (start z)).client.settled_by g)
    ((run events (start z)).client.outcome g))
