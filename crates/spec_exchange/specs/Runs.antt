-- What is said of a run: how often it acted on an operation, which pairs reached an open, and the order of an open.
use Rattle.std.specs.Prelude.{ℕ, ◌+◌, ◌==◌, nat_lt, Bool, true, false, ◌&&◌, ◌||◌, if◌then◌else◌, List, [], ◌∷◌}
use Rattle.spec_exchange.specs.Table.{is_at}
use Rattle.spec_exchange.specs.Status.{end_of_file}
use Rattle.spec_exchange.specs.Content.{ContentReply, Counted, Gives, Done}
use Rattle.spec_exchange.specs.Order.{Account, Settlement, Unsettled as NotSettled, Settled_ok, Settled_end}
use Rattle.spec_exchange.specs.Order.{Settled_refused, Settled_unknown}
use Rattle.spec_exchange.specs.Operations.{Op, OpReply, IsCount, IsContent, Outcome, Unsettled, WasOk, WasRefused}
use Rattle.spec_exchange.specs.Operations.{NoSlot, NoOpen, is_create, is_lock, is_read, create_of, content_op, share_of}
use Rattle.spec_exchange.specs.Operations.{is_ok}
use Rattle.spec_exchange.specs.Opens.{denies_writers}
use Rattle.spec_exchange.specs.Network.{World, Event, Serve, Crash, Sent, Token, ForOp, answer, happens, may_serve}

-- ---- acts: the Serve and kept Crash events on a send of the operation whose step acted

abbrev pub is_send_of : ℕ → Token → Bool
is_send_of g (ForOp h) = h == g
is_send_of g _ = false

abbrev pub front_acts : World → List Sent → ℕ → Bool
front_acts w [] g = false
front_acts w (x ∷ rest) g = is_send_of g x.token && (answer w x).acted

abbrev pub acts_now : World → Event → ℕ → Bool
acts_now w (Serve k) g = may_serve w k && front_acts w (w.conns k).up g
acts_now w (Crash k kept) g = kept && (may_serve w k && front_acts w (w.conns k).up g)
acts_now w _ g = false

unfoldable pub acts : List Event → World → ℕ → ℕ
acts [] w g = 0
acts (e ∷ es) w g = (if acts_now w e g then 1 else 0) + acts es (happens w e) g

-- a create, a lock or an unlock
abbrev pub is_once : Op → Bool
is_once op = is_create op || is_lock op

-- settled as Refused, NoSlot or NoOpen
abbrev pub never_acted : Outcome → Bool
never_acted (WasRefused status) = true
never_acted (NoSlot create) = true
never_acted (NoOpen create) = true
never_acted _ = false

-- ---- pairs: the session, in the order in which the client accepted them, and the sequence as a plain number

-- the pair of the first place is newer than that of the second
abbrev pub is_newer : World → ℕ → ℕ → Bool
is_newer w i j =
    nat_lt (w.client.rank (w.trace.session j)) (w.client.rank (w.trace.session i))
    || ((w.client.rank (w.trace.session j) == w.client.rank (w.trace.session i)) && nat_lt (w.trace.sequence j) (w.trace.sequence i))

-- a write or set-info acted on this open at this place
abbrev pub alters : World → ℕ → ℕ → Bool
alters w n o = w.log.did n && is_at o (w.trace.altered n)

-- ---- order: what a run leaves, as far as contents go

abbrev pub content_of : OpReply → ContentReply
content_of (IsCount count) = Counted count
content_of (IsContent bytes) = Gives bytes
content_of _ = Done

abbrev pub settlement : Op → Outcome → Settlement
settlement op Unsettled = NotSettled
settlement op (WasOk reply) = Settled_ok (content_of reply)
settlement op (WasRefused status) = if is_read op && (status == end_of_file) then Settled_end else Settled_refused
settlement op _ = Settled_unknown

abbrev pub account : World → Account
account w =
    record {
      ops = λ g. content_op (w.client.op g);
      of = λ g. create_of g (w.client.op g);
      settlement = λ g. settlement (w.client.op g) (w.client.outcome g);
      settled_by = w.client.settled_by;
      log = w.log;
    }

-- a create that settled Ok and whose share access lacks writing
abbrev pub isolates : World → ℕ → Bool
isolates w c = is_create (w.client.op c) && (is_ok (w.client.outcome c) && denies_writers (share_of (w.client.op c)))

-- the open of a create, while it stands
abbrev pub stands_open : World → ℕ → ℕ → Bool
stands_open w c o = is_at o (w.trace.open_of c) && w.server.standing o
