-- The order of one open's reads, writes and ends, and when it is legal.
--
-- Each message that the server took has a place, counted from 0. An operation's place is that of its first message that
-- acted, else that of the message whose reply settled it. The order of an open lists its operations by their places.
use Rattle.std.specs.Prelude.{◌≡◌, ℕ, zero, suc, ◌+◌, ◌-◌, ◌==◌, ◌≤◌, nat_lt, Bool, true, false, ◌&&◌, if◌then◌else◌}
use Rattle.std.specs.Prelude.{List, [], ◌∷◌, Option, Some, None, is_some}
use Rattle.spec_exchange.specs.Content.{ContentOp, ContentReply, effect, value, past_end, is_listed}

-- What the reply to a message said of the bytes.
pub data Said : Type 0 where
  Says_ok : (reply : ContentReply) → Said
  Says_end : Said  -- END_OF_FILE
  Says_other : Said  -- any other status

-- How an operation settled.
pub data Settlement : Type 0 where
  Unsettled : Settlement
  Settled_ok : (reply : ContentReply) → Settlement
  Settled_end : Settlement  -- refused with END_OF_FILE
  Settled_refused : Settlement  -- refused with another status
  Settled_unknown : Settlement

-- What the server did, by places. No step looks at it.
pub record Log : Type 0 where
  pub places : ℕ  -- the next place: one more at each message that the server took
  pub who : ℕ → ℕ  -- by place: the operation of the message
  pub gave : ℕ → Said  --   what its reply said, sent or not
  pub did : ℕ → Bool  --   whether it acted
  -- by create and place: the bytes of its open's file before that place, as they were when the open left the table
  pub bytes : ℕ → ℕ → List ℕ
  pub birth : ℕ → ℕ  -- by create: the next place when it acted
  pub first : ℕ → Option ℕ  -- by operation: the place where it acted first
  pub since : ℕ → ℕ  --   the next place when it was first pushed
  pub prior : ℕ → ℕ → Bool  -- by two operations: the second had settled as Ok or Refused when the first was first pushed

-- What a run leaves, as far as contents go.
pub record Account : Type 0 where
  pub ops : ℕ → ContentOp  -- by operation: what it asks of the bytes
  pub of : ℕ → ℕ  --   its create
  pub settlement : ℕ → Settlement
  pub settled_by : ℕ → Option ℕ  --   the place of the message whose reply settled it
  pub log : Log

abbrev pub placed : Option ℕ → Option ℕ → Option ℕ
placed None by = by
placed (Some i) by = Some i

-- where an operation acted first, else where the reply that settled it was made
abbrev pub place : Account → ℕ → Option ℕ
place a g = placed (a.log.first g) (a.settled_by g)

abbrev pub is_at : ℕ → Option ℕ → Bool
is_at n None = false
is_at n (Some i) = i == n

-- a read, a write or an end of this open
abbrev pub is_of : Account → ℕ → ℕ → Bool
is_of a o g = (a.of g == o) && is_listed (a.ops g)

-- place n is that of its message's operation, which is one of this open's
abbrev pub is_entry : Account → ℕ → ℕ → Bool
is_entry a o n = is_at n (place a (a.log.who n)) && is_of a o (a.log.who n)

-- the operations that have their place among the k places from n on
unfoldable pub order_from : Account → ℕ → ℕ → ℕ → List ℕ
order_from a o n zero = []
order_from a o n (suc k) = if is_entry a o n then a.log.who n ∷ order_from a o (n + 1) k else order_from a o (n + 1) k

-- the order of an open, from its birth on
abbrev pub order_of : Account → ℕ → List ℕ
order_of a o = order_from a o (a.log.birth o) (a.log.places - a.log.birth o)

-- the open's bytes when its create had acted, and those that it came to
abbrev pub bytes_at_birth : Account → ℕ → List ℕ
bytes_at_birth a o = a.log.bytes o (a.log.birth o)

abbrev pub bytes_at_last : Account → ℕ → List ℕ
bytes_at_last a o = a.log.bytes o a.log.places

-- how an operation settled fits the bytes at its turn
abbrev pub Fits : ContentOp → List ℕ → Settlement → Type 0
Fits op c Unsettled = Unit {0}
Fits op c (Settled_ok v) = past_end op c ≡ false × value op c ≡ v
Fits op c Settled_end = past_end op c ≡ true
Fits op c Settled_refused = Unit {0}
Fits op c Settled_unknown = Unit {0}

abbrev pub is_settled_ok : Settlement → Bool
is_settled_ok Unsettled = false
is_settled_ok (Settled_ok v) = true
is_settled_ok Settled_end = false
is_settled_ok Settled_refused = false
is_settled_ok Settled_unknown = false

-- settled as Ok or Refused
abbrev pub is_firm : Settlement → Bool
is_firm Unsettled = false
is_firm (Settled_ok v) = true
is_firm Settled_end = true
is_firm Settled_refused = true
is_firm Settled_unknown = false

-- one that settled otherwise than Ok and never acted changes nothing
abbrev pub applies : Account → ℕ → Bool
applies a g = if is_some (a.log.first g) then true else is_settled_ok (a.settlement g)

-- the content machine, run over the order from one list of bytes to another
unfoldable pub Replays : Account → List ℕ → List ℕ → List ℕ → Type 0
Replays a [] c end = c ≡ end
Replays a (g ∷ gs) c end = Fits (a.ops g) c (a.settlement g) × Replays a gs (if applies a g then effect (a.ops g) c else c) end

unfoldable pub count : ℕ → List ℕ → ℕ
count g [] = 0
count g (h ∷ hs) = (if h == g then 1 else 0) + count g hs

-- of the two, a comes first in the list and b behind it
unfoldable pub precedes : ℕ → ℕ → List ℕ → Bool
precedes a b [] = false
precedes a b (h ∷ hs) = if h == a then nat_lt 0 (count b hs) else if h == b then false else precedes a b hs

-- The order is legal from the bytes at the start to the bytes at the end.
pub record Legal (a : Account) (o : ℕ) (order start end : List ℕ) : Type 0 where
  -- each Ok reply is the content machine's, END_OF_FILE stands where it says so, and it ends in these bytes
  pub replays : Replays a order start end
  -- each operation stands in it at most once
  pub once : (g : ℕ) → count g order ≤ 1
  -- one that settled as Ok or Refused stands in it
  pub settled : (g : ℕ) → is_of a o g ≡ true → is_firm (a.settlement g) ≡ true → count g order ≡ 1
  -- whatever settled before another was first pushed stands before it
  pub before : (g h : ℕ) → a.log.prior h g ≡ true → count g order ≡ 1 → count h order ≡ 1 → precedes g h order ≡ true
