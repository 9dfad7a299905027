-- Written by tools/law_connections.py. A connection is made.
use Rattle.std.proofs.Common.{◌≡◌, ℕ, Bool, false, arith}
use Rattle.spec_exchange.specs.Table.{put}
use Rattle.spec_exchange.specs.Client.{Client}
use Rattle.spec_exchange.specs.Dialogs.{open_channel}
use Rattle.spec_exchange.specs.Network.{Conn, fresh as fresh_conn}
use Rattle.law_sessions.specs.messages.Connections.{Connections, Once, Outstanding, OwnUp, AttachUp, OwnDown, AttachDown}
use Rattle.law_sessions.specs.messages.Connections.{DownOpen, OnReady, Ready, Stages, Settled, Taken, TakenOn, Creates, Lower}
use Rattle.law_sessions.specs.messages.Connections.{HasOpen, AskedOpen, Fresh, Bodies, First, Unsent, SentReplies, Deleted}
use Rattle.law_sessions.proofs.messages.Lists.{get-push, count_up-push, count_down-push}

opened_once : (c : Client) (conns : ℕ → Conn) (a : ℕ → ℕ) (k : ℕ) (served : Bool) → ((conns k).client_open ≡ false)
    → Once conns → Once (put conns k (fresh_conn c k served))
opened_once c conns a k served closed i_once =
    grind (arith, count_up-push, count_down-push)

opened_outstanding : (c : Client) (conns : ℕ → Conn) (a : ℕ → ℕ) (k : ℕ) (served : Bool)
    → ((conns k).client_open ≡ false) → Outstanding c conns → Outstanding (open_channel c k)
    (put conns k (fresh_conn c k served))
opened_outstanding c conns a k served closed i_outstanding =
    grind (arith, count_up-push, count_down-push)

opened_own_up : (c : Client) (conns : ℕ → Conn) (a : ℕ → ℕ) (k : ℕ) (served : Bool) → ((conns k).client_open ≡ false)
    → OwnUp c conns → OwnUp (open_channel c k) (put conns k (fresh_conn c k served))
opened_own_up c conns a k served closed i_own_up =
    λ j n p x. let old = i_own_up j n p x in grind (arith, get-push)

opened_attach_up : (c : Client) (conns : ℕ → Conn) (a : ℕ → ℕ) (k : ℕ) (served : Bool) → ((conns k).client_open ≡ false)
    → AttachUp c conns → AttachUp (open_channel c k) (put conns k (fresh_conn c k served))
opened_attach_up c conns a k served closed i_attach_up =
    λ j n p x. let old = i_attach_up j n p x in grind (arith, get-push)

opened_own_down : (c : Client) (conns : ℕ → Conn) (a : ℕ → ℕ) (k : ℕ) (served : Bool) → ((conns k).client_open ≡ false)
    → OwnDown c conns → OwnDown (open_channel c k) (put conns k (fresh_conn c k served))
opened_own_down c conns a k served closed i_own_down =
    λ j n p y. let old = i_own_down j n p y in grind (arith, get-push)

opened_attach_down : (c : Client) (conns : ℕ → Conn) (a : ℕ → ℕ) (k : ℕ) (served : Bool)
    → ((conns k).client_open ≡ false) → AttachDown c conns → AttachDown (open_channel c k)
    (put conns k (fresh_conn c k served))
opened_attach_down c conns a k served closed i_attach_down =
    λ j n p y. let old = i_attach_down j n p y in grind (arith, get-push)

opened_down_open : (c : Client) (conns : ℕ → Conn) (a : ℕ → ℕ) (k : ℕ) (served : Bool) → ((conns k).client_open ≡ false)
    → DownOpen conns → DownOpen (put conns k (fresh_conn c k served))
opened_down_open c conns a k served closed i_down_open =
    λ j. let old = i_down_open j in grind (arith, get-push)

opened_on_ready : (c : Client) (conns : ℕ → Conn) (a : ℕ → ℕ) (k : ℕ) (served : Bool) → ((conns k).client_open ≡ false)
    → OnReady c → OnReady (open_channel c k)
opened_on_ready c conns a k served closed i_on_ready =
    λ p j. let old = i_on_ready p j in grind arith

opened_ready : (c : Client) (conns : ℕ → Conn) (a : ℕ → ℕ) (k : ℕ) (served : Bool) → ((conns k).client_open ≡ false)
    → Ready c conns → Ready (open_channel c k) (put conns k (fresh_conn c k served))
opened_ready c conns a k served closed i_ready =
    λ j. let old = i_ready j in grind (arith, count_up-push, count_down-push)

opened_stages : (c : Client) (conns : ℕ → Conn) (a : ℕ → ℕ) (k : ℕ) (served : Bool) → ((conns k).client_open ≡ false)
    → Stages c → Stages (open_channel c k)
opened_stages c conns a k served closed i_stages =
    λ j. let old = i_stages j in grind arith

opened_settled : (c : Client) (conns : ℕ → Conn) (a : ℕ → ℕ) (k : ℕ) (served : Bool) → ((conns k).client_open ≡ false)
    → Settled c → Settled (open_channel c k)
opened_settled c conns a k served closed i_settled =
    λ p. let old = i_settled p in grind arith

opened_taken : (c : Client) (conns : ℕ → Conn) (a : ℕ → ℕ) (k : ℕ) (served : Bool) → ((conns k).client_open ≡ false)
    → Taken c → Taken (open_channel c k)
opened_taken c conns a k served closed i_taken =
    λ p. let old = i_taken p in grind arith

opened_taken_on : (c : Client) (conns : ℕ → Conn) (a : ℕ → ℕ) (k : ℕ) (served : Bool) → ((conns k).client_open ≡ false)
    → TakenOn c → TakenOn (open_channel c k)
opened_taken_on c conns a k served closed i_taken_on =
    λ p. let old = i_taken_on p in grind arith

opened_creates : (c : Client) (conns : ℕ → Conn) (a : ℕ → ℕ) (k : ℕ) (served : Bool) → ((conns k).client_open ≡ false)
    → Creates c → Creates (open_channel c k)
opened_creates c conns a k served closed i_creates =
    λ p. let old = i_creates p in grind arith

opened_lower : (c : Client) (conns : ℕ → Conn) (a : ℕ → ℕ) (k : ℕ) (served : Bool) → ((conns k).client_open ≡ false)
    → Lower c → Lower (open_channel c k)
opened_lower c conns a k served closed i_lower =
    λ p q. let old = i_lower p q in grind arith

opened_has_open : (c : Client) (conns : ℕ → Conn) (a : ℕ → ℕ) (k : ℕ) (served : Bool) → ((conns k).client_open ≡ false)
    → HasOpen c → HasOpen (open_channel c k)
opened_has_open c conns a k served closed i_has_open =
    λ p. let old = i_has_open p in grind arith

opened_asked_open : (c : Client) (conns : ℕ → Conn) (a : ℕ → ℕ) (k : ℕ) (served : Bool)
    → ((conns k).client_open ≡ false) → AskedOpen c → AskedOpen (open_channel c k)
opened_asked_open c conns a k served closed i_asked_open =
    λ p. let old = i_asked_open p in grind arith

opened_fresh : (c : Client) (conns : ℕ → Conn) (a : ℕ → ℕ) (k : ℕ) (served : Bool) → ((conns k).client_open ≡ false)
    → Fresh c a → Fresh (open_channel c k) a
opened_fresh c conns a k served closed i_fresh =
    λ p. let old = i_fresh p in grind arith

opened_bodies : (c : Client) (conns : ℕ → Conn) (a : ℕ → ℕ) (k : ℕ) (served : Bool) → ((conns k).client_open ≡ false)
    → Bodies c conns → Bodies (open_channel c k) (put conns k (fresh_conn c k served))
opened_bodies c conns a k served closed i_bodies =
    λ j n p x. let old = i_bodies j n p x in grind (arith, get-push)

opened_first : (c : Client) (conns : ℕ → Conn) (a : ℕ → ℕ) (k : ℕ) (served : Bool) → ((conns k).client_open ≡ false)
    → First c conns a → First (open_channel c k) (put conns k (fresh_conn c k served)) a
opened_first c conns a k served closed i_first =
    λ j n p x. let old = i_first j n p x in grind (arith, get-push)

opened_unsent : (c : Client) (conns : ℕ → Conn) (a : ℕ → ℕ) (k : ℕ) (served : Bool) → ((conns k).client_open ≡ false)
    → Unsent c a → Unsent (open_channel c k) a
opened_unsent c conns a k served closed i_unsent =
    λ p. let old = i_unsent p in grind arith

opened_sent_replies : (c : Client) (conns : ℕ → Conn) (a : ℕ → ℕ) (k : ℕ) (served : Bool)
    → ((conns k).client_open ≡ false) → SentReplies c conns → SentReplies (open_channel c k)
    (put conns k (fresh_conn c k served))
opened_sent_replies c conns a k served closed i_sent_replies =
    λ j n p y. let old = i_sent_replies j n p y in grind (arith, get-push)

opened_deleted : (c : Client) (conns : ℕ → Conn) (a : ℕ → ℕ) (k : ℕ) (served : Bool) → ((conns k).client_open ≡ false)
    → Deleted c conns a → Deleted (open_channel c k) (put conns k (fresh_conn c k served)) a
opened_deleted c conns a k served closed i_deleted =
    λ j n p y. let old = i_deleted j n p y in grind (arith, get-push)

pub opened_keeps : (c : Client) (conns : ℕ → Conn) (a : ℕ → ℕ) (k : ℕ) (served : Bool) → ((conns k).client_open ≡ false)
    → Connections c conns a → Connections (open_channel c k) (put conns k (fresh_conn c k served)) a
opened_keeps c conns a k served closed i =
    record {
      once = opened_once c conns a k served closed i.once;
      outstanding = opened_outstanding c conns a k served closed i.outstanding;
      own_up = opened_own_up c conns a k served closed i.own_up;
      attach_up = opened_attach_up c conns a k served closed i.attach_up;
      own_down = opened_own_down c conns a k served closed i.own_down;
      attach_down = opened_attach_down c conns a k served closed i.attach_down;
      down_open = opened_down_open c conns a k served closed i.down_open;
      on_ready = opened_on_ready c conns a k served closed i.on_ready;
      ready = opened_ready c conns a k served closed i.ready;
      stages = opened_stages c conns a k served closed i.stages;
      settled = opened_settled c conns a k served closed i.settled;
      taken = opened_taken c conns a k served closed i.taken;
      taken_on = opened_taken_on c conns a k served closed i.taken_on;
      creates = opened_creates c conns a k served closed i.creates;
      lower = opened_lower c conns a k served closed i.lower;
      has_open = opened_has_open c conns a k served closed i.has_open;
      asked_open = opened_asked_open c conns a k served closed i.asked_open;
      fresh = opened_fresh c conns a k served closed i.fresh;
      bodies = opened_bodies c conns a k served closed i.bodies;
      first = opened_first c conns a k served closed i.first;
      unsent = opened_unsent c conns a k served closed i.unsent;
      sent_replies = opened_sent_replies c conns a k served closed i.sent_replies;
      deleted = opened_deleted c conns a k served closed i.deleted;
    }
