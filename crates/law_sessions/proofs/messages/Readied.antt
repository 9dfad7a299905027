-- Written by tools/law_connections.py. A session is ready.
use Rattle.std.proofs.Common.{◌≡◌, ℕ, true, arith}
use Rattle.spec_exchange.specs.Client.{Client, begin_session}
use Rattle.spec_exchange.specs.Network.{Conn}
use Rattle.law_sessions.specs.messages.Connections.{Connections, copies, Once, Outstanding, OwnUp, AttachUp, OwnDown, AttachDown}
use Rattle.law_sessions.specs.messages.Connections.{DownOpen, OnReady, Ready, Stages, Settled, Taken, TakenOn, Creates, Lower}
use Rattle.law_sessions.specs.messages.Connections.{HasOpen, AskedOpen, Fresh, Bodies, First, Unsent, SentReplies, Deleted}
use Rattle.law_sessions.proofs.messages.Lists.{get-push, count_up-push, count_down-push}

readied_once : (c : Client) (conns : ℕ → Conn) (a : ℕ → ℕ) (k session tree : ℕ) → ((conns k).client_open ≡ true)
    → (copies 0 (conns k) ≡ 0) → Once conns → Once conns
readied_once c conns a k session tree stands none i_once =
    grind (arith, count_up-push, count_down-push)

readied_outstanding : (c : Client) (conns : ℕ → Conn) (a : ℕ → ℕ) (k session tree : ℕ) → ((conns k).client_open ≡ true)
    → (copies 0 (conns k) ≡ 0) → Outstanding c conns → Outstanding (begin_session c k session tree) conns
readied_outstanding c conns a k session tree stands none i_outstanding =
    grind (arith, count_up-push, count_down-push)

readied_own_up : (c : Client) (conns : ℕ → Conn) (a : ℕ → ℕ) (k session tree : ℕ) → ((conns k).client_open ≡ true)
    → (copies 0 (conns k) ≡ 0) → OwnUp c conns → OwnUp (begin_session c k session tree) conns
readied_own_up c conns a k session tree stands none i_own_up =
    λ j n p x. let old = i_own_up j n p x in grind (arith, get-push)

readied_attach_up : (c : Client) (conns : ℕ → Conn) (a : ℕ → ℕ) (k session tree : ℕ) → ((conns k).client_open ≡ true)
    → (copies 0 (conns k) ≡ 0) → AttachUp c conns → AttachUp (begin_session c k session tree) conns
readied_attach_up c conns a k session tree stands none i_attach_up =
    λ j n p x. let old = i_attach_up j n p x in grind (arith, get-push)

readied_own_down : (c : Client) (conns : ℕ → Conn) (a : ℕ → ℕ) (k session tree : ℕ) → ((conns k).client_open ≡ true)
    → (copies 0 (conns k) ≡ 0) → OwnDown c conns → OwnDown (begin_session c k session tree) conns
readied_own_down c conns a k session tree stands none i_own_down =
    λ j n p y. let old = i_own_down j n p y in grind (arith, get-push)

readied_attach_down : (c : Client) (conns : ℕ → Conn) (a : ℕ → ℕ) (k session tree : ℕ) → ((conns k).client_open ≡ true)
    → (copies 0 (conns k) ≡ 0) → AttachDown c conns → AttachDown (begin_session c k session tree) conns
readied_attach_down c conns a k session tree stands none i_attach_down =
    λ j n p y. let old = i_attach_down j n p y in grind (arith, get-push)

readied_down_open : (c : Client) (conns : ℕ → Conn) (a : ℕ → ℕ) (k session tree : ℕ) → ((conns k).client_open ≡ true)
    → (copies 0 (conns k) ≡ 0) → DownOpen conns → DownOpen conns
readied_down_open c conns a k session tree stands none i_down_open =
    λ j. let old = i_down_open j in grind (arith, get-push)

readied_on_ready : (c : Client) (conns : ℕ → Conn) (a : ℕ → ℕ) (k session tree : ℕ) → ((conns k).client_open ≡ true)
    → (copies 0 (conns k) ≡ 0) → OnReady c → OnReady (begin_session c k session tree)
readied_on_ready c conns a k session tree stands none i_on_ready =
    λ p j. let old = i_on_ready p j in grind arith

readied_ready : (c : Client) (conns : ℕ → Conn) (a : ℕ → ℕ) (k session tree : ℕ) → ((conns k).client_open ≡ true)
    → (copies 0 (conns k) ≡ 0) → Ready c conns → Ready (begin_session c k session tree) conns
readied_ready c conns a k session tree stands none i_ready =
    λ j. let old = i_ready j in grind (arith, count_up-push, count_down-push)

readied_stages : (c : Client) (conns : ℕ → Conn) (a : ℕ → ℕ) (k session tree : ℕ) → ((conns k).client_open ≡ true)
    → (copies 0 (conns k) ≡ 0) → Stages c → Stages (begin_session c k session tree)
readied_stages c conns a k session tree stands none i_stages =
    λ j. let old = i_stages j in grind arith

readied_settled : (c : Client) (conns : ℕ → Conn) (a : ℕ → ℕ) (k session tree : ℕ) → ((conns k).client_open ≡ true)
    → (copies 0 (conns k) ≡ 0) → Settled c → Settled (begin_session c k session tree)
readied_settled c conns a k session tree stands none i_settled =
    λ p. let old = i_settled p in grind arith

readied_taken : (c : Client) (conns : ℕ → Conn) (a : ℕ → ℕ) (k session tree : ℕ) → ((conns k).client_open ≡ true)
    → (copies 0 (conns k) ≡ 0) → Taken c → Taken (begin_session c k session tree)
readied_taken c conns a k session tree stands none i_taken =
    λ p. let old = i_taken p in grind arith

readied_taken_on : (c : Client) (conns : ℕ → Conn) (a : ℕ → ℕ) (k session tree : ℕ) → ((conns k).client_open ≡ true)
    → (copies 0 (conns k) ≡ 0) → TakenOn c → TakenOn (begin_session c k session tree)
readied_taken_on c conns a k session tree stands none i_taken_on =
    λ p. let old = i_taken_on p in grind arith

readied_creates : (c : Client) (conns : ℕ → Conn) (a : ℕ → ℕ) (k session tree : ℕ) → ((conns k).client_open ≡ true)
    → (copies 0 (conns k) ≡ 0) → Creates c → Creates (begin_session c k session tree)
readied_creates c conns a k session tree stands none i_creates =
    λ p. let old = i_creates p in grind arith

readied_lower : (c : Client) (conns : ℕ → Conn) (a : ℕ → ℕ) (k session tree : ℕ) → ((conns k).client_open ≡ true)
    → (copies 0 (conns k) ≡ 0) → Lower c → Lower (begin_session c k session tree)
readied_lower c conns a k session tree stands none i_lower =
    λ p q. let old = i_lower p q in grind arith

readied_has_open : (c : Client) (conns : ℕ → Conn) (a : ℕ → ℕ) (k session tree : ℕ) → ((conns k).client_open ≡ true)
    → (copies 0 (conns k) ≡ 0) → HasOpen c → HasOpen (begin_session c k session tree)
readied_has_open c conns a k session tree stands none i_has_open =
    λ p. let old = i_has_open p in grind arith

readied_asked_open : (c : Client) (conns : ℕ → Conn) (a : ℕ → ℕ) (k session tree : ℕ) → ((conns k).client_open ≡ true)
    → (copies 0 (conns k) ≡ 0) → AskedOpen c → AskedOpen (begin_session c k session tree)
readied_asked_open c conns a k session tree stands none i_asked_open =
    λ p. let old = i_asked_open p in grind arith

readied_fresh : (c : Client) (conns : ℕ → Conn) (a : ℕ → ℕ) (k session tree : ℕ) → ((conns k).client_open ≡ true)
    → (copies 0 (conns k) ≡ 0) → Fresh c a → Fresh (begin_session c k session tree) a
readied_fresh c conns a k session tree stands none i_fresh =
    λ p. let old = i_fresh p in grind arith

readied_bodies : (c : Client) (conns : ℕ → Conn) (a : ℕ → ℕ) (k session tree : ℕ) → ((conns k).client_open ≡ true)
    → (copies 0 (conns k) ≡ 0) → Bodies c conns → Bodies (begin_session c k session tree) conns
readied_bodies c conns a k session tree stands none i_bodies =
    λ j n p x. let old = i_bodies j n p x in grind (arith, get-push)

readied_first : (c : Client) (conns : ℕ → Conn) (a : ℕ → ℕ) (k session tree : ℕ) → ((conns k).client_open ≡ true)
    → (copies 0 (conns k) ≡ 0) → First c conns a → First (begin_session c k session tree) conns a
readied_first c conns a k session tree stands none i_first =
    λ j n p x. let old = i_first j n p x in grind (arith, get-push)

readied_unsent : (c : Client) (conns : ℕ → Conn) (a : ℕ → ℕ) (k session tree : ℕ) → ((conns k).client_open ≡ true)
    → (copies 0 (conns k) ≡ 0) → Unsent c a → Unsent (begin_session c k session tree) a
readied_unsent c conns a k session tree stands none i_unsent =
    λ p. let old = i_unsent p in grind arith

readied_sent_replies : (c : Client) (conns : ℕ → Conn) (a : ℕ → ℕ) (k session tree : ℕ) → ((conns k).client_open ≡ true)
    → (copies 0 (conns k) ≡ 0) → SentReplies c conns → SentReplies (begin_session c k session tree) conns
readied_sent_replies c conns a k session tree stands none i_sent_replies =
    λ j n p y. let old = i_sent_replies j n p y in grind (arith, get-push)

readied_deleted : (c : Client) (conns : ℕ → Conn) (a : ℕ → ℕ) (k session tree : ℕ) → ((conns k).client_open ≡ true)
    → (copies 0 (conns k) ≡ 0) → Deleted c conns a → Deleted (begin_session c k session tree) conns a
readied_deleted c conns a k session tree stands none i_deleted =
    λ j n p y. let old = i_deleted j n p y in grind (arith, get-push)

pub readied_keeps : (c : Client) (conns : ℕ → Conn) (a : ℕ → ℕ) (k session tree : ℕ) → ((conns k).client_open ≡ true)
    → (copies 0 (conns k) ≡ 0) → Connections c conns a → Connections (begin_session c k session tree) conns a
readied_keeps c conns a k session tree stands none i =
    record {
      once = readied_once c conns a k session tree stands none i.once;
      outstanding = readied_outstanding c conns a k session tree stands none i.outstanding;
      own_up = readied_own_up c conns a k session tree stands none i.own_up;
      attach_up = readied_attach_up c conns a k session tree stands none i.attach_up;
      own_down = readied_own_down c conns a k session tree stands none i.own_down;
      attach_down = readied_attach_down c conns a k session tree stands none i.attach_down;
      down_open = readied_down_open c conns a k session tree stands none i.down_open;
      on_ready = readied_on_ready c conns a k session tree stands none i.on_ready;
      ready = readied_ready c conns a k session tree stands none i.ready;
      stages = readied_stages c conns a k session tree stands none i.stages;
      settled = readied_settled c conns a k session tree stands none i.settled;
      taken = readied_taken c conns a k session tree stands none i.taken;
      taken_on = readied_taken_on c conns a k session tree stands none i.taken_on;
      creates = readied_creates c conns a k session tree stands none i.creates;
      lower = readied_lower c conns a k session tree stands none i.lower;
      has_open = readied_has_open c conns a k session tree stands none i.has_open;
      asked_open = readied_asked_open c conns a k session tree stands none i.asked_open;
      fresh = readied_fresh c conns a k session tree stands none i.fresh;
      bodies = readied_bodies c conns a k session tree stands none i.bodies;
      first = readied_first c conns a k session tree stands none i.first;
      unsent = readied_unsent c conns a k session tree stands none i.unsent;
      sent_replies = readied_sent_replies c conns a k session tree stands none i.sent_replies;
      deleted = readied_deleted c conns a k session tree stands none i.deleted;
    }
