-- Written by tools/law_connections.py. A further channel is ready.
use Rattle.std.proofs.Common.{◌≡◌, ℕ, true, arith}
use Rattle.spec_exchange.specs.Client.{Client, bind_channel}
use Rattle.spec_exchange.specs.Network.{Conn}
use Rattle.law_sessions.specs.messages.Connections.{Connections, copies, Once, Outstanding, OwnUp, AttachUp, OwnDown, AttachDown}
use Rattle.law_sessions.specs.messages.Connections.{DownOpen, OnReady, Ready, Stages, Settled, Taken, TakenOn, Creates, Lower}
use Rattle.law_sessions.specs.messages.Connections.{HasOpen, AskedOpen, Fresh, Bodies, First, Unsent, SentReplies, Deleted}
use Rattle.law_sessions.proofs.messages.Lists.{get-push, count_up-push, count_down-push}

bound_once : (c : Client) (conns : ℕ → Conn) (a : ℕ → ℕ) (k : ℕ) → (c.live ≡ true) → ((conns k).client_open ≡ true)
    → (copies 0 (conns k) ≡ 0) → Once conns → Once conns
bound_once c conns a k live stands none i_once =
    grind (arith, count_up-push, count_down-push)

bound_outstanding : (c : Client) (conns : ℕ → Conn) (a : ℕ → ℕ) (k : ℕ) → (c.live ≡ true)
    → ((conns k).client_open ≡ true) → (copies 0 (conns k) ≡ 0) → Outstanding c conns → Outstanding (bind_channel c k)
    conns
bound_outstanding c conns a k live stands none i_outstanding =
    grind (arith, count_up-push, count_down-push)

bound_own_up : (c : Client) (conns : ℕ → Conn) (a : ℕ → ℕ) (k : ℕ) → (c.live ≡ true) → ((conns k).client_open ≡ true)
    → (copies 0 (conns k) ≡ 0) → OwnUp c conns → OwnUp (bind_channel c k) conns
bound_own_up c conns a k live stands none i_own_up =
    λ j n p x. let old = i_own_up j n p x in grind (arith, get-push)

bound_attach_up : (c : Client) (conns : ℕ → Conn) (a : ℕ → ℕ) (k : ℕ) → (c.live ≡ true) → ((conns k).client_open ≡ true)
    → (copies 0 (conns k) ≡ 0) → AttachUp c conns → AttachUp (bind_channel c k) conns
bound_attach_up c conns a k live stands none i_attach_up =
    λ j n p x. let old = i_attach_up j n p x in grind (arith, get-push)

bound_own_down : (c : Client) (conns : ℕ → Conn) (a : ℕ → ℕ) (k : ℕ) → (c.live ≡ true) → ((conns k).client_open ≡ true)
    → (copies 0 (conns k) ≡ 0) → OwnDown c conns → OwnDown (bind_channel c k) conns
bound_own_down c conns a k live stands none i_own_down =
    λ j n p y. let old = i_own_down j n p y in grind (arith, get-push)

bound_attach_down : (c : Client) (conns : ℕ → Conn) (a : ℕ → ℕ) (k : ℕ) → (c.live ≡ true)
    → ((conns k).client_open ≡ true) → (copies 0 (conns k) ≡ 0) → AttachDown c conns → AttachDown (bind_channel c k)
    conns
bound_attach_down c conns a k live stands none i_attach_down =
    λ j n p y. let old = i_attach_down j n p y in grind (arith, get-push)

bound_down_open : (c : Client) (conns : ℕ → Conn) (a : ℕ → ℕ) (k : ℕ) → (c.live ≡ true) → ((conns k).client_open ≡ true)
    → (copies 0 (conns k) ≡ 0) → DownOpen conns → DownOpen conns
bound_down_open c conns a k live stands none i_down_open =
    λ j. let old = i_down_open j in grind (arith, get-push)

bound_on_ready : (c : Client) (conns : ℕ → Conn) (a : ℕ → ℕ) (k : ℕ) → (c.live ≡ true) → ((conns k).client_open ≡ true)
    → (copies 0 (conns k) ≡ 0) → OnReady c → OnReady (bind_channel c k)
bound_on_ready c conns a k live stands none i_on_ready =
    λ p j. let old = i_on_ready p j in grind arith

bound_ready : (c : Client) (conns : ℕ → Conn) (a : ℕ → ℕ) (k : ℕ) → (c.live ≡ true) → ((conns k).client_open ≡ true)
    → (copies 0 (conns k) ≡ 0) → Ready c conns → Ready (bind_channel c k) conns
bound_ready c conns a k live stands none i_ready =
    λ j. let old = i_ready j in grind (arith, count_up-push, count_down-push)

bound_stages : (c : Client) (conns : ℕ → Conn) (a : ℕ → ℕ) (k : ℕ) → (c.live ≡ true) → ((conns k).client_open ≡ true)
    → (copies 0 (conns k) ≡ 0) → Stages c → Stages (bind_channel c k)
bound_stages c conns a k live stands none i_stages =
    λ j. let old = i_stages j in grind arith

bound_settled : (c : Client) (conns : ℕ → Conn) (a : ℕ → ℕ) (k : ℕ) → (c.live ≡ true) → ((conns k).client_open ≡ true)
    → (copies 0 (conns k) ≡ 0) → Settled c → Settled (bind_channel c k)
bound_settled c conns a k live stands none i_settled =
    λ p. let old = i_settled p in grind arith

bound_taken : (c : Client) (conns : ℕ → Conn) (a : ℕ → ℕ) (k : ℕ) → (c.live ≡ true) → ((conns k).client_open ≡ true)
    → (copies 0 (conns k) ≡ 0) → Taken c → Taken (bind_channel c k)
bound_taken c conns a k live stands none i_taken =
    λ p. let old = i_taken p in grind arith

bound_taken_on : (c : Client) (conns : ℕ → Conn) (a : ℕ → ℕ) (k : ℕ) → (c.live ≡ true) → ((conns k).client_open ≡ true)
    → (copies 0 (conns k) ≡ 0) → TakenOn c → TakenOn (bind_channel c k)
bound_taken_on c conns a k live stands none i_taken_on =
    λ p. let old = i_taken_on p in grind arith

bound_creates : (c : Client) (conns : ℕ → Conn) (a : ℕ → ℕ) (k : ℕ) → (c.live ≡ true) → ((conns k).client_open ≡ true)
    → (copies 0 (conns k) ≡ 0) → Creates c → Creates (bind_channel c k)
bound_creates c conns a k live stands none i_creates =
    λ p. let old = i_creates p in grind arith

bound_lower : (c : Client) (conns : ℕ → Conn) (a : ℕ → ℕ) (k : ℕ) → (c.live ≡ true) → ((conns k).client_open ≡ true)
    → (copies 0 (conns k) ≡ 0) → Lower c → Lower (bind_channel c k)
bound_lower c conns a k live stands none i_lower =
    λ p q. let old = i_lower p q in grind arith

bound_has_open : (c : Client) (conns : ℕ → Conn) (a : ℕ → ℕ) (k : ℕ) → (c.live ≡ true) → ((conns k).client_open ≡ true)
    → (copies 0 (conns k) ≡ 0) → HasOpen c → HasOpen (bind_channel c k)
bound_has_open c conns a k live stands none i_has_open =
    λ p. let old = i_has_open p in grind arith

bound_asked_open : (c : Client) (conns : ℕ → Conn) (a : ℕ → ℕ) (k : ℕ) → (c.live ≡ true)
    → ((conns k).client_open ≡ true) → (copies 0 (conns k) ≡ 0) → AskedOpen c → AskedOpen (bind_channel c k)
bound_asked_open c conns a k live stands none i_asked_open =
    λ p. let old = i_asked_open p in grind arith

bound_fresh : (c : Client) (conns : ℕ → Conn) (a : ℕ → ℕ) (k : ℕ) → (c.live ≡ true) → ((conns k).client_open ≡ true)
    → (copies 0 (conns k) ≡ 0) → Fresh c a → Fresh (bind_channel c k) a
bound_fresh c conns a k live stands none i_fresh =
    λ p. let old = i_fresh p in grind arith

bound_bodies : (c : Client) (conns : ℕ → Conn) (a : ℕ → ℕ) (k : ℕ) → (c.live ≡ true) → ((conns k).client_open ≡ true)
    → (copies 0 (conns k) ≡ 0) → Bodies c conns → Bodies (bind_channel c k) conns
bound_bodies c conns a k live stands none i_bodies =
    λ j n p x. let old = i_bodies j n p x in grind (arith, get-push)

bound_first : (c : Client) (conns : ℕ → Conn) (a : ℕ → ℕ) (k : ℕ) → (c.live ≡ true) → ((conns k).client_open ≡ true)
    → (copies 0 (conns k) ≡ 0) → First c conns a → First (bind_channel c k) conns a
bound_first c conns a k live stands none i_first =
    λ j n p x. let old = i_first j n p x in grind (arith, get-push)

bound_unsent : (c : Client) (conns : ℕ → Conn) (a : ℕ → ℕ) (k : ℕ) → (c.live ≡ true) → ((conns k).client_open ≡ true)
    → (copies 0 (conns k) ≡ 0) → Unsent c a → Unsent (bind_channel c k) a
bound_unsent c conns a k live stands none i_unsent =
    λ p. let old = i_unsent p in grind arith

bound_sent_replies : (c : Client) (conns : ℕ → Conn) (a : ℕ → ℕ) (k : ℕ) → (c.live ≡ true)
    → ((conns k).client_open ≡ true) → (copies 0 (conns k) ≡ 0) → SentReplies c conns → SentReplies (bind_channel c k)
    conns
bound_sent_replies c conns a k live stands none i_sent_replies =
    λ j n p y. let old = i_sent_replies j n p y in grind (arith, get-push)

bound_deleted : (c : Client) (conns : ℕ → Conn) (a : ℕ → ℕ) (k : ℕ) → (c.live ≡ true) → ((conns k).client_open ≡ true)
    → (copies 0 (conns k) ≡ 0) → Deleted c conns a → Deleted (bind_channel c k) conns a
bound_deleted c conns a k live stands none i_deleted =
    λ j n p y. let old = i_deleted j n p y in grind (arith, get-push)

pub bound_keeps : (c : Client) (conns : ℕ → Conn) (a : ℕ → ℕ) (k : ℕ) → (c.live ≡ true) → ((conns k).client_open ≡ true)
    → (copies 0 (conns k) ≡ 0) → Connections c conns a → Connections (bind_channel c k) conns a
bound_keeps c conns a k live stands none i =
    record {
      once = bound_once c conns a k live stands none i.once;
      outstanding = bound_outstanding c conns a k live stands none i.outstanding;
      own_up = bound_own_up c conns a k live stands none i.own_up;
      attach_up = bound_attach_up c conns a k live stands none i.attach_up;
      own_down = bound_own_down c conns a k live stands none i.own_down;
      attach_down = bound_attach_down c conns a k live stands none i.attach_down;
      down_open = bound_down_open c conns a k live stands none i.down_open;
      on_ready = bound_on_ready c conns a k live stands none i.on_ready;
      ready = bound_ready c conns a k live stands none i.ready;
      stages = bound_stages c conns a k live stands none i.stages;
      settled = bound_settled c conns a k live stands none i.settled;
      taken = bound_taken c conns a k live stands none i.taken;
      taken_on = bound_taken_on c conns a k live stands none i.taken_on;
      creates = bound_creates c conns a k live stands none i.creates;
      lower = bound_lower c conns a k live stands none i.lower;
      has_open = bound_has_open c conns a k live stands none i.has_open;
      asked_open = bound_asked_open c conns a k live stands none i.asked_open;
      fresh = bound_fresh c conns a k live stands none i.fresh;
      bodies = bound_bodies c conns a k live stands none i.bodies;
      first = bound_first c conns a k live stands none i.first;
      unsent = bound_unsent c conns a k live stands none i.unsent;
      sent_replies = bound_sent_replies c conns a k live stands none i.sent_replies;
      deleted = bound_deleted c conns a k live stands none i.deleted;
    }
