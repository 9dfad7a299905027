-- Written by tools/law_connections.py. The server starts anew.
use Rattle.std.proofs.Common.{ℕ, arith}
use Rattle.spec_exchange.specs.Client.{Client}
use Rattle.spec_exchange.specs.Network.{Conn, server_off}
use Rattle.law_sessions.specs.messages.Connections.{Connections, Once, Outstanding, OwnUp, AttachUp, OwnDown, AttachDown}
use Rattle.law_sessions.specs.messages.Connections.{DownOpen, OnReady, Ready, Stages, Settled, Taken, TakenOn, Creates, Lower}
use Rattle.law_sessions.specs.messages.Connections.{HasOpen, AskedOpen, Fresh, Bodies, First, Unsent, SentReplies, Deleted}
use Rattle.law_sessions.proofs.messages.Lists.{get-push, count_up-push, count_down-push}

all_dropped_once : (c : Client) (conns : ℕ → Conn) (a : ℕ → ℕ) → Once conns → Once (λ q. server_off (conns q))
all_dropped_once c conns a i_once =
    grind (arith, count_up-push, count_down-push)

all_dropped_outstanding : (c : Client) (conns : ℕ → Conn) (a : ℕ → ℕ) → Outstanding c conns → Outstanding c (λ q. server_off (conns q))
all_dropped_outstanding c conns a i_outstanding =
    grind (arith, count_up-push, count_down-push)

all_dropped_own_up : (c : Client) (conns : ℕ → Conn) (a : ℕ → ℕ) → OwnUp c conns → OwnUp c (λ q. server_off (conns q))
all_dropped_own_up c conns a i_own_up =
    λ j n p x. let old = i_own_up j n p x in grind (arith, get-push)

all_dropped_attach_up : (c : Client) (conns : ℕ → Conn) (a : ℕ → ℕ) → AttachUp c conns → AttachUp c (λ q. server_off (conns q))
all_dropped_attach_up c conns a i_attach_up =
    λ j n p x. let old = i_attach_up j n p x in grind (arith, get-push)

all_dropped_own_down : (c : Client) (conns : ℕ → Conn) (a : ℕ → ℕ) → OwnDown c conns → OwnDown c (λ q. server_off (conns q))
all_dropped_own_down c conns a i_own_down =
    λ j n p y. let old = i_own_down j n p y in grind (arith, get-push)

all_dropped_attach_down : (c : Client) (conns : ℕ → Conn) (a : ℕ → ℕ) → AttachDown c conns → AttachDown c (λ q. server_off (conns q))
all_dropped_attach_down c conns a i_attach_down =
    λ j n p y. let old = i_attach_down j n p y in grind (arith, get-push)

all_dropped_down_open : (c : Client) (conns : ℕ → Conn) (a : ℕ → ℕ) → DownOpen conns → DownOpen (λ q. server_off (conns q))
all_dropped_down_open c conns a i_down_open =
    λ j. let old = i_down_open j in grind (arith, get-push)

all_dropped_on_ready : (c : Client) (conns : ℕ → Conn) (a : ℕ → ℕ) → OnReady c → OnReady c
all_dropped_on_ready c conns a i_on_ready =
    λ p j. let old = i_on_ready p j in grind arith

all_dropped_ready : (c : Client) (conns : ℕ → Conn) (a : ℕ → ℕ) → Ready c conns → Ready c (λ q. server_off (conns q))
all_dropped_ready c conns a i_ready =
    λ j. let old = i_ready j in grind (arith, count_up-push, count_down-push)

all_dropped_stages : (c : Client) (conns : ℕ → Conn) (a : ℕ → ℕ) → Stages c → Stages c
all_dropped_stages c conns a i_stages =
    λ j. let old = i_stages j in grind arith

all_dropped_settled : (c : Client) (conns : ℕ → Conn) (a : ℕ → ℕ) → Settled c → Settled c
all_dropped_settled c conns a i_settled =
    λ p. let old = i_settled p in grind arith

all_dropped_taken : (c : Client) (conns : ℕ → Conn) (a : ℕ → ℕ) → Taken c → Taken c
all_dropped_taken c conns a i_taken =
    λ p. let old = i_taken p in grind arith

all_dropped_taken_on : (c : Client) (conns : ℕ → Conn) (a : ℕ → ℕ) → TakenOn c → TakenOn c
all_dropped_taken_on c conns a i_taken_on =
    λ p. let old = i_taken_on p in grind arith

all_dropped_creates : (c : Client) (conns : ℕ → Conn) (a : ℕ → ℕ) → Creates c → Creates c
all_dropped_creates c conns a i_creates =
    λ p. let old = i_creates p in grind arith

all_dropped_lower : (c : Client) (conns : ℕ → Conn) (a : ℕ → ℕ) → Lower c → Lower c
all_dropped_lower c conns a i_lower =
    λ p q. let old = i_lower p q in grind arith

all_dropped_has_open : (c : Client) (conns : ℕ → Conn) (a : ℕ → ℕ) → HasOpen c → HasOpen c
all_dropped_has_open c conns a i_has_open =
    λ p. let old = i_has_open p in grind arith

all_dropped_asked_open : (c : Client) (conns : ℕ → Conn) (a : ℕ → ℕ) → AskedOpen c → AskedOpen c
all_dropped_asked_open c conns a i_asked_open =
    λ p. let old = i_asked_open p in grind arith

all_dropped_fresh : (c : Client) (conns : ℕ → Conn) (a : ℕ → ℕ) → Fresh c a → Fresh c a
all_dropped_fresh c conns a i_fresh =
    λ p. let old = i_fresh p in grind arith

all_dropped_bodies : (c : Client) (conns : ℕ → Conn) (a : ℕ → ℕ) → Bodies c conns → Bodies c (λ q. server_off (conns q))
all_dropped_bodies c conns a i_bodies =
    λ j n p x. let old = i_bodies j n p x in grind (arith, get-push)

all_dropped_first : (c : Client) (conns : ℕ → Conn) (a : ℕ → ℕ) → First c conns a → First c (λ q. server_off (conns q)) a
all_dropped_first c conns a i_first =
    λ j n p x. let old = i_first j n p x in grind (arith, get-push)

all_dropped_unsent : (c : Client) (conns : ℕ → Conn) (a : ℕ → ℕ) → Unsent c a → Unsent c a
all_dropped_unsent c conns a i_unsent =
    λ p. let old = i_unsent p in grind arith

all_dropped_sent_replies : (c : Client) (conns : ℕ → Conn) (a : ℕ → ℕ) → SentReplies c conns → SentReplies c (λ q. server_off (conns q))
all_dropped_sent_replies c conns a i_sent_replies =
    λ j n p y. let old = i_sent_replies j n p y in grind (arith, get-push)

all_dropped_deleted : (c : Client) (conns : ℕ → Conn) (a : ℕ → ℕ) → Deleted c conns a → Deleted c (λ q. server_off (conns q)) a
all_dropped_deleted c conns a i_deleted =
    λ j n p y. let old = i_deleted j n p y in grind (arith, get-push)

pub all_dropped_keeps : (c : Client) (conns : ℕ → Conn) (a : ℕ → ℕ) → Connections c conns a → Connections c (λ q. server_off (conns q)) a
all_dropped_keeps c conns a i =
    record {
      once = all_dropped_once c conns a i.once;
      outstanding = all_dropped_outstanding c conns a i.outstanding;
      own_up = all_dropped_own_up c conns a i.own_up;
      attach_up = all_dropped_attach_up c conns a i.attach_up;
      own_down = all_dropped_own_down c conns a i.own_down;
      attach_down = all_dropped_attach_down c conns a i.attach_down;
      down_open = all_dropped_down_open c conns a i.down_open;
      on_ready = all_dropped_on_ready c conns a i.on_ready;
      ready = all_dropped_ready c conns a i.ready;
      stages = all_dropped_stages c conns a i.stages;
      settled = all_dropped_settled c conns a i.settled;
      taken = all_dropped_taken c conns a i.taken;
      taken_on = all_dropped_taken_on c conns a i.taken_on;
      creates = all_dropped_creates c conns a i.creates;
      lower = all_dropped_lower c conns a i.lower;
      has_open = all_dropped_has_open c conns a i.has_open;
      asked_open = all_dropped_asked_open c conns a i.asked_open;
      fresh = all_dropped_fresh c conns a i.fresh;
      bodies = all_dropped_bodies c conns a i.bodies;
      first = all_dropped_first c conns a i.first;
      unsent = all_dropped_unsent c conns a i.unsent;
      sent_replies = all_dropped_sent_replies c conns a i.sent_replies;
      deleted = all_dropped_deleted c conns a i.deleted;
    }
