-- Written by tools/law_connections.py. An operation goes out first.
use Rattle.std.proofs.Common.{◌≡◌, ℕ, ◌≤◌, ◌<◌, true, false, arith}
use Rattle.spec_exchange.specs.Table.{put}
use Rattle.spec_exchange.specs.Client.{Client}
use Rattle.spec_exchange.specs.Network.{Conn}
use Rattle.law_sessions.specs.messages.Connections.{Connections, opens, Once, Outstanding, OwnUp, AttachUp, OwnDown, AttachDown}
use Rattle.law_sessions.specs.messages.Connections.{DownOpen, OnReady, Ready, Stages, Settled, Taken, TakenOn, Creates, Lower}
use Rattle.law_sessions.specs.messages.Connections.{HasOpen, AskedOpen, Fresh, Bodies, First, Unsent, SentReplies, Deleted}
use Rattle.law_sessions.proofs.messages.Lists.{get-push, count_up-push, count_down-push}

start_once : (c : Client) (conns : ℕ → Conn) (a : ℕ → ℕ) (g : ℕ) → (c.sent g ≡ false) → (opens c g ≡ true) → (0 < g)
    → (g ≤ c.taken) → Once conns → Once conns
start_once c conns a g new may above within i_once =
    grind (arith, count_up-push, count_down-push)

start_outstanding : (c : Client) (conns : ℕ → Conn) (a : ℕ → ℕ) (g : ℕ) → (c.sent g ≡ false) → (opens c g ≡ true)
    → (0 < g) → (g ≤ c.taken) → Outstanding c conns → Outstanding (record c { sent = put c.sent g true }) conns
start_outstanding c conns a g new may above within i_outstanding =
    grind (arith, count_up-push, count_down-push)

start_own_up : (c : Client) (conns : ℕ → Conn) (a : ℕ → ℕ) (g : ℕ) → (c.sent g ≡ false) → (opens c g ≡ true) → (0 < g)
    → (g ≤ c.taken) → OwnUp c conns → OwnUp (record c { sent = put c.sent g true }) conns
start_own_up c conns a g new may above within i_own_up =
    λ j n p x. let old = i_own_up j n p x in grind (arith, get-push)

start_attach_up : (c : Client) (conns : ℕ → Conn) (a : ℕ → ℕ) (g : ℕ) → (c.sent g ≡ false) → (opens c g ≡ true)
    → (0 < g) → (g ≤ c.taken) → AttachUp c conns → AttachUp (record c { sent = put c.sent g true }) conns
start_attach_up c conns a g new may above within i_attach_up =
    λ j n p x. let old = i_attach_up j n p x in grind (arith, get-push)

start_own_down : (c : Client) (conns : ℕ → Conn) (a : ℕ → ℕ) (g : ℕ) → (c.sent g ≡ false) → (opens c g ≡ true) → (0 < g)
    → (g ≤ c.taken) → OwnDown c conns → OwnDown (record c { sent = put c.sent g true }) conns
start_own_down c conns a g new may above within i_own_down =
    λ j n p y. let old = i_own_down j n p y in grind (arith, get-push)

start_attach_down : (c : Client) (conns : ℕ → Conn) (a : ℕ → ℕ) (g : ℕ) → (c.sent g ≡ false) → (opens c g ≡ true)
    → (0 < g) → (g ≤ c.taken) → AttachDown c conns → AttachDown (record c { sent = put c.sent g true }) conns
start_attach_down c conns a g new may above within i_attach_down =
    λ j n p y. let old = i_attach_down j n p y in grind (arith, get-push)

start_down_open : (c : Client) (conns : ℕ → Conn) (a : ℕ → ℕ) (g : ℕ) → (c.sent g ≡ false) → (opens c g ≡ true)
    → (0 < g) → (g ≤ c.taken) → DownOpen conns → DownOpen conns
start_down_open c conns a g new may above within i_down_open =
    λ j. let old = i_down_open j in grind (arith, get-push)

start_on_ready : (c : Client) (conns : ℕ → Conn) (a : ℕ → ℕ) (g : ℕ) → (c.sent g ≡ false) → (opens c g ≡ true) → (0 < g)
    → (g ≤ c.taken) → OnReady c → OnReady (record c { sent = put c.sent g true })
start_on_ready c conns a g new may above within i_on_ready =
    λ p j. let old = i_on_ready p j in grind arith

start_ready : (c : Client) (conns : ℕ → Conn) (a : ℕ → ℕ) (g : ℕ) → (c.sent g ≡ false) → (opens c g ≡ true) → (0 < g)
    → (g ≤ c.taken) → Ready c conns → Ready (record c { sent = put c.sent g true }) conns
start_ready c conns a g new may above within i_ready =
    λ j. let old = i_ready j in grind (arith, count_up-push, count_down-push)

start_stages : (c : Client) (conns : ℕ → Conn) (a : ℕ → ℕ) (g : ℕ) → (c.sent g ≡ false) → (opens c g ≡ true) → (0 < g)
    → (g ≤ c.taken) → Stages c → Stages (record c { sent = put c.sent g true })
start_stages c conns a g new may above within i_stages =
    λ j. let old = i_stages j in grind arith

start_settled : (c : Client) (conns : ℕ → Conn) (a : ℕ → ℕ) (g : ℕ) → (c.sent g ≡ false) → (opens c g ≡ true) → (0 < g)
    → (g ≤ c.taken) → Settled c → Settled (record c { sent = put c.sent g true })
start_settled c conns a g new may above within i_settled =
    λ p. let old = i_settled p in grind arith

start_taken : (c : Client) (conns : ℕ → Conn) (a : ℕ → ℕ) (g : ℕ) → (c.sent g ≡ false) → (opens c g ≡ true) → (0 < g)
    → (g ≤ c.taken) → Taken c → Taken (record c { sent = put c.sent g true })
start_taken c conns a g new may above within i_taken =
    λ p. let old = i_taken p in grind arith

start_taken_on : (c : Client) (conns : ℕ → Conn) (a : ℕ → ℕ) (g : ℕ) → (c.sent g ≡ false) → (opens c g ≡ true) → (0 < g)
    → (g ≤ c.taken) → TakenOn c → TakenOn (record c { sent = put c.sent g true })
start_taken_on c conns a g new may above within i_taken_on =
    λ p. let old = i_taken_on p in grind arith

start_creates : (c : Client) (conns : ℕ → Conn) (a : ℕ → ℕ) (g : ℕ) → (c.sent g ≡ false) → (opens c g ≡ true) → (0 < g)
    → (g ≤ c.taken) → Creates c → Creates (record c { sent = put c.sent g true })
start_creates c conns a g new may above within i_creates =
    λ p. let old = i_creates p in grind arith

start_lower : (c : Client) (conns : ℕ → Conn) (a : ℕ → ℕ) (g : ℕ) → (c.sent g ≡ false) → (opens c g ≡ true) → (0 < g)
    → (g ≤ c.taken) → Lower c → Lower (record c { sent = put c.sent g true })
start_lower c conns a g new may above within i_lower =
    λ p q. let old = i_lower p q in grind arith

start_has_open : (c : Client) (conns : ℕ → Conn) (a : ℕ → ℕ) (g : ℕ) → (c.sent g ≡ false) → (opens c g ≡ true) → (0 < g)
    → (g ≤ c.taken) → HasOpen c → HasOpen (record c { sent = put c.sent g true })
start_has_open c conns a g new may above within i_has_open =
    λ p. let old = i_has_open p in grind arith

start_asked_open : (c : Client) (conns : ℕ → Conn) (a : ℕ → ℕ) (g : ℕ) → (c.sent g ≡ false) → (opens c g ≡ true)
    → (0 < g) → (g ≤ c.taken) → AskedOpen c → AskedOpen (record c { sent = put c.sent g true })
start_asked_open c conns a g new may above within i_asked_open =
    λ p. let old = i_asked_open p in grind arith

start_fresh : (c : Client) (conns : ℕ → Conn) (a : ℕ → ℕ) (g : ℕ) → (c.sent g ≡ false) → (opens c g ≡ true) → (0 < g)
    → (g ≤ c.taken) → Fresh c a → Fresh (record c { sent = put c.sent g true }) a
start_fresh c conns a g new may above within i_fresh =
    λ p. let old = i_fresh p in grind arith

start_bodies : (c : Client) (conns : ℕ → Conn) (a : ℕ → ℕ) (g : ℕ) → (c.sent g ≡ false) → (opens c g ≡ true) → (0 < g)
    → (g ≤ c.taken) → Bodies c conns → Bodies (record c { sent = put c.sent g true }) conns
start_bodies c conns a g new may above within i_bodies =
    λ j n p x. let old = i_bodies j n p x in grind (arith, get-push)

start_first : (c : Client) (conns : ℕ → Conn) (a : ℕ → ℕ) (g : ℕ) → (c.sent g ≡ false) → (opens c g ≡ true) → (0 < g)
    → (g ≤ c.taken) → First c conns a → First (record c { sent = put c.sent g true }) conns a
start_first c conns a g new may above within i_first =
    λ j n p x. let old = i_first j n p x in grind (arith, get-push)

start_unsent : (c : Client) (conns : ℕ → Conn) (a : ℕ → ℕ) (g : ℕ) → (c.sent g ≡ false) → (opens c g ≡ true) → (0 < g)
    → (g ≤ c.taken) → Unsent c a → Unsent (record c { sent = put c.sent g true }) a
start_unsent c conns a g new may above within i_unsent =
    λ p. let old = i_unsent p in grind arith

start_sent_replies : (c : Client) (conns : ℕ → Conn) (a : ℕ → ℕ) (g : ℕ) → (c.sent g ≡ false) → (opens c g ≡ true)
    → (0 < g) → (g ≤ c.taken) → SentReplies c conns → SentReplies (record c { sent = put c.sent g true }) conns
start_sent_replies c conns a g new may above within i_sent_replies =
    λ j n p y. let old = i_sent_replies j n p y in grind (arith, get-push)

start_deleted : (c : Client) (conns : ℕ → Conn) (a : ℕ → ℕ) (g : ℕ) → (c.sent g ≡ false) → (opens c g ≡ true) → (0 < g)
    → (g ≤ c.taken) → Deleted c conns a → Deleted (record c { sent = put c.sent g true }) conns a
start_deleted c conns a g new may above within i_deleted =
    λ j n p y. let old = i_deleted j n p y in grind (arith, get-push)

pub start_keeps : (c : Client) (conns : ℕ → Conn) (a : ℕ → ℕ) (g : ℕ) → (c.sent g ≡ false) → (opens c g ≡ true)
    → (0 < g) → (g ≤ c.taken) → Connections c conns a → Connections (record c { sent = put c.sent g true }) conns a
start_keeps c conns a g new may above within i =
    record {
      once = start_once c conns a g new may above within i.once;
      outstanding = start_outstanding c conns a g new may above within i.outstanding;
      own_up = start_own_up c conns a g new may above within i.own_up;
      attach_up = start_attach_up c conns a g new may above within i.attach_up;
      own_down = start_own_down c conns a g new may above within i.own_down;
      attach_down = start_attach_down c conns a g new may above within i.attach_down;
      down_open = start_down_open c conns a g new may above within i.down_open;
      on_ready = start_on_ready c conns a g new may above within i.on_ready;
      ready = start_ready c conns a g new may above within i.ready;
      stages = start_stages c conns a g new may above within i.stages;
      settled = start_settled c conns a g new may above within i.settled;
      taken = start_taken c conns a g new may above within i.taken;
      taken_on = start_taken_on c conns a g new may above within i.taken_on;
      creates = start_creates c conns a g new may above within i.creates;
      lower = start_lower c conns a g new may above within i.lower;
      has_open = start_has_open c conns a g new may above within i.has_open;
      asked_open = start_asked_open c conns a g new may above within i.asked_open;
      fresh = start_fresh c conns a g new may above within i.fresh;
      bodies = start_bodies c conns a g new may above within i.bodies;
      first = start_first c conns a g new may above within i.first;
      unsent = start_unsent c conns a g new may above within i.unsent;
      sent_replies = start_sent_replies c conns a g new may above within i.sent_replies;
      deleted = start_deleted c conns a g new may above within i.deleted;
    }
