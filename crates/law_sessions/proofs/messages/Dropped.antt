-- Written by tools/law_connections.py. The server closes its end.
use Rattle.std.proofs.Common.{ℕ, arith}
use Rattle.spec_exchange.specs.Table.{put}
use Rattle.spec_exchange.specs.Client.{Client}
use Rattle.spec_exchange.specs.Network.{Conn, server_off}
use Rattle.law_sessions.specs.messages.Connections.{Connections, Once, Outstanding, OwnUp, AttachUp, OwnDown, AttachDown}
use Rattle.law_sessions.specs.messages.Connections.{DownOpen, OnReady, Ready, Stages, Settled, Taken, TakenOn, Creates, Lower}
use Rattle.law_sessions.specs.messages.Connections.{HasOpen, AskedOpen, Fresh, Bodies, First, Unsent, SentReplies, Deleted}
use Rattle.law_sessions.proofs.messages.Lists.{get-push, count_up-push, count_down-push}

dropped_once : (c : Client) (conns : ℕ → Conn) (a : ℕ → ℕ) (k : ℕ) → Once conns → Once (put conns k (server_off (conns k)))
dropped_once c conns a k i_once =
    grind (arith, count_up-push, count_down-push)

dropped_outstanding : (c : Client) (conns : ℕ → Conn) (a : ℕ → ℕ) (k : ℕ) → Outstanding c conns
    → Outstanding c (put conns k (server_off (conns k)))
dropped_outstanding c conns a k i_outstanding =
    grind (arith, count_up-push, count_down-push)

dropped_own_up : (c : Client) (conns : ℕ → Conn) (a : ℕ → ℕ) (k : ℕ) → OwnUp c conns → OwnUp c (put conns k (server_off (conns k)))
dropped_own_up c conns a k i_own_up =
    λ j n p x. let old = i_own_up j n p x in grind (arith, get-push)

dropped_attach_up : (c : Client) (conns : ℕ → Conn) (a : ℕ → ℕ) (k : ℕ) → AttachUp c conns → AttachUp c (put conns k (server_off (conns k)))
dropped_attach_up c conns a k i_attach_up =
    λ j n p x. let old = i_attach_up j n p x in grind (arith, get-push)

dropped_own_down : (c : Client) (conns : ℕ → Conn) (a : ℕ → ℕ) (k : ℕ) → OwnDown c conns → OwnDown c (put conns k (server_off (conns k)))
dropped_own_down c conns a k i_own_down =
    λ j n p y. let old = i_own_down j n p y in grind (arith, get-push)

dropped_attach_down : (c : Client) (conns : ℕ → Conn) (a : ℕ → ℕ) (k : ℕ) → AttachDown c conns
    → AttachDown c (put conns k (server_off (conns k)))
dropped_attach_down c conns a k i_attach_down =
    λ j n p y. let old = i_attach_down j n p y in grind (arith, get-push)

dropped_down_open : (c : Client) (conns : ℕ → Conn) (a : ℕ → ℕ) (k : ℕ) → DownOpen conns → DownOpen (put conns k (server_off (conns k)))
dropped_down_open c conns a k i_down_open =
    λ j. let old = i_down_open j in grind (arith, get-push)

dropped_on_ready : (c : Client) (conns : ℕ → Conn) (a : ℕ → ℕ) (k : ℕ) → OnReady c → OnReady c
dropped_on_ready c conns a k i_on_ready =
    λ p j. let old = i_on_ready p j in grind arith

dropped_ready : (c : Client) (conns : ℕ → Conn) (a : ℕ → ℕ) (k : ℕ) → Ready c conns → Ready c (put conns k (server_off (conns k)))
dropped_ready c conns a k i_ready =
    λ j. let old = i_ready j in grind (arith, count_up-push, count_down-push)

dropped_stages : (c : Client) (conns : ℕ → Conn) (a : ℕ → ℕ) (k : ℕ) → Stages c → Stages c
dropped_stages c conns a k i_stages =
    λ j. let old = i_stages j in grind arith

dropped_settled : (c : Client) (conns : ℕ → Conn) (a : ℕ → ℕ) (k : ℕ) → Settled c → Settled c
dropped_settled c conns a k i_settled =
    λ p. let old = i_settled p in grind arith

dropped_taken : (c : Client) (conns : ℕ → Conn) (a : ℕ → ℕ) (k : ℕ) → Taken c → Taken c
dropped_taken c conns a k i_taken =
    λ p. let old = i_taken p in grind arith

dropped_taken_on : (c : Client) (conns : ℕ → Conn) (a : ℕ → ℕ) (k : ℕ) → TakenOn c → TakenOn c
dropped_taken_on c conns a k i_taken_on =
    λ p. let old = i_taken_on p in grind arith

dropped_creates : (c : Client) (conns : ℕ → Conn) (a : ℕ → ℕ) (k : ℕ) → Creates c → Creates c
dropped_creates c conns a k i_creates =
    λ p. let old = i_creates p in grind arith

dropped_lower : (c : Client) (conns : ℕ → Conn) (a : ℕ → ℕ) (k : ℕ) → Lower c → Lower c
dropped_lower c conns a k i_lower =
    λ p q. let old = i_lower p q in grind arith

dropped_has_open : (c : Client) (conns : ℕ → Conn) (a : ℕ → ℕ) (k : ℕ) → HasOpen c → HasOpen c
dropped_has_open c conns a k i_has_open =
    λ p. let old = i_has_open p in grind arith

dropped_asked_open : (c : Client) (conns : ℕ → Conn) (a : ℕ → ℕ) (k : ℕ) → AskedOpen c → AskedOpen c
dropped_asked_open c conns a k i_asked_open =
    λ p. let old = i_asked_open p in grind arith

dropped_fresh : (c : Client) (conns : ℕ → Conn) (a : ℕ → ℕ) (k : ℕ) → Fresh c a → Fresh c a
dropped_fresh c conns a k i_fresh =
    λ p. let old = i_fresh p in grind arith

dropped_bodies : (c : Client) (conns : ℕ → Conn) (a : ℕ → ℕ) (k : ℕ) → Bodies c conns → Bodies c (put conns k (server_off (conns k)))
dropped_bodies c conns a k i_bodies =
    λ j n p x. let old = i_bodies j n p x in grind (arith, get-push)

dropped_first : (c : Client) (conns : ℕ → Conn) (a : ℕ → ℕ) (k : ℕ) → First c conns a → First c (put conns k (server_off (conns k))) a
dropped_first c conns a k i_first =
    λ j n p x. let old = i_first j n p x in grind (arith, get-push)

dropped_unsent : (c : Client) (conns : ℕ → Conn) (a : ℕ → ℕ) (k : ℕ) → Unsent c a → Unsent c a
dropped_unsent c conns a k i_unsent =
    λ p. let old = i_unsent p in grind arith

dropped_sent_replies : (c : Client) (conns : ℕ → Conn) (a : ℕ → ℕ) (k : ℕ) → SentReplies c conns
    → SentReplies c (put conns k (server_off (conns k)))
dropped_sent_replies c conns a k i_sent_replies =
    λ j n p y. let old = i_sent_replies j n p y in grind (arith, get-push)

dropped_deleted : (c : Client) (conns : ℕ → Conn) (a : ℕ → ℕ) (k : ℕ) → Deleted c conns a → Deleted c (put conns k (server_off (conns k))) a
dropped_deleted c conns a k i_deleted =
    λ j n p y. let old = i_deleted j n p y in grind (arith, get-push)

pub dropped_keeps : (c : Client) (conns : ℕ → Conn) (a : ℕ → ℕ) (k : ℕ) → Connections c conns a
    → Connections c (put conns k (server_off (conns k))) a
dropped_keeps c conns a k i =
    record {
      once = dropped_once c conns a k i.once;
      outstanding = dropped_outstanding c conns a k i.outstanding;
      own_up = dropped_own_up c conns a k i.own_up;
      attach_up = dropped_attach_up c conns a k i.attach_up;
      own_down = dropped_own_down c conns a k i.own_down;
      attach_down = dropped_attach_down c conns a k i.attach_down;
      down_open = dropped_down_open c conns a k i.down_open;
      on_ready = dropped_on_ready c conns a k i.on_ready;
      ready = dropped_ready c conns a k i.ready;
      stages = dropped_stages c conns a k i.stages;
      settled = dropped_settled c conns a k i.settled;
      taken = dropped_taken c conns a k i.taken;
      taken_on = dropped_taken_on c conns a k i.taken_on;
      creates = dropped_creates c conns a k i.creates;
      lower = dropped_lower c conns a k i.lower;
      has_open = dropped_has_open c conns a k i.has_open;
      asked_open = dropped_asked_open c conns a k i.asked_open;
      fresh = dropped_fresh c conns a k i.fresh;
      bodies = dropped_bodies c conns a k i.bodies;
      first = dropped_first c conns a k i.first;
      unsent = dropped_unsent c conns a k i.unsent;
      sent_replies = dropped_sent_replies c conns a k i.sent_replies;
      deleted = dropped_deleted c conns a k i.deleted;
    }
