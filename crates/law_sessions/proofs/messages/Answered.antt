-- Written by tools/law_connections.py. An operation is answered and isn't settled.
use Rattle.std.proofs.Common.{◌≡◌, ℕ, true, false, arith, Some}
use Rattle.spec_exchange.specs.Client.{Client}
use Rattle.spec_exchange.specs.Settling.{answered}
use Rattle.spec_exchange.specs.Network.{Conn}
use Rattle.law_sessions.specs.messages.Connections.{Connections, copies, acts_once, Once, Outstanding, OwnUp, AttachUp, OwnDown}
use Rattle.law_sessions.specs.messages.Connections.{AttachDown, DownOpen, OnReady, Ready, Stages, Settled, Taken, TakenOn}
use Rattle.law_sessions.specs.messages.Connections.{Creates, Lower, HasOpen, AskedOpen, Fresh, Bodies, First, Unsent}
use Rattle.law_sessions.specs.messages.Connections.{SentReplies, Deleted}
use Rattle.law_sessions.proofs.messages.Lists.{get-push, count_up-push, count_down-push}

answered_once : (c : Client) (conns : ℕ → Conn) (a : ℕ → ℕ) (k g : ℕ) → (c.outstanding_on g ≡ Some k)
    → (copies g (conns k) ≡ 0) → Once conns → Once conns
answered_once c conns a k g on none i_once =
    grind (arith, count_up-push, count_down-push)

answered_outstanding : (c : Client) (conns : ℕ → Conn) (a : ℕ → ℕ) (k g : ℕ) → (c.outstanding_on g ≡ Some k)
    → (copies g (conns k) ≡ 0) → Outstanding c conns → Outstanding (answered c g) conns
answered_outstanding c conns a k g on none i_outstanding =
    grind (arith, count_up-push, count_down-push)

answered_own_up : (c : Client) (conns : ℕ → Conn) (a : ℕ → ℕ) (k g : ℕ) → (c.outstanding_on g ≡ Some k)
    → (copies g (conns k) ≡ 0) → OwnUp c conns → OwnUp (answered c g) conns
answered_own_up c conns a k g on none i_own_up =
    λ j n p x. let old = i_own_up j n p x in grind (arith, get-push)

answered_attach_up : (c : Client) (conns : ℕ → Conn) (a : ℕ → ℕ) (k g : ℕ) → (c.outstanding_on g ≡ Some k)
    → (copies g (conns k) ≡ 0) → AttachUp c conns → AttachUp (answered c g) conns
answered_attach_up c conns a k g on none i_attach_up =
    λ j n p x. let old = i_attach_up j n p x in grind (arith, get-push)

answered_own_down : (c : Client) (conns : ℕ → Conn) (a : ℕ → ℕ) (k g : ℕ) → (c.outstanding_on g ≡ Some k)
    → (copies g (conns k) ≡ 0) → OwnDown c conns → OwnDown (answered c g) conns
answered_own_down c conns a k g on none i_own_down =
    λ j n p y. let old = i_own_down j n p y in grind (arith, get-push)

answered_attach_down : (c : Client) (conns : ℕ → Conn) (a : ℕ → ℕ) (k g : ℕ) → (c.outstanding_on g ≡ Some k)
    → (copies g (conns k) ≡ 0) → AttachDown c conns → AttachDown (answered c g) conns
answered_attach_down c conns a k g on none i_attach_down =
    λ j n p y. let old = i_attach_down j n p y in grind (arith, get-push)

answered_down_open : (c : Client) (conns : ℕ → Conn) (a : ℕ → ℕ) (k g : ℕ) → (c.outstanding_on g ≡ Some k)
    → (copies g (conns k) ≡ 0) → DownOpen conns → DownOpen conns
answered_down_open c conns a k g on none i_down_open =
    λ j. let old = i_down_open j in grind (arith, get-push)

answered_on_ready : (c : Client) (conns : ℕ → Conn) (a : ℕ → ℕ) (k g : ℕ) → (c.outstanding_on g ≡ Some k)
    → (copies g (conns k) ≡ 0) → OnReady c → OnReady (answered c g)
answered_on_ready c conns a k g on none i_on_ready =
    λ p j. let old = i_on_ready p j in grind arith

answered_ready : (c : Client) (conns : ℕ → Conn) (a : ℕ → ℕ) (k g : ℕ) → (c.outstanding_on g ≡ Some k)
    → (copies g (conns k) ≡ 0) → Ready c conns → Ready (answered c g) conns
answered_ready c conns a k g on none i_ready =
    λ j. let old = i_ready j in grind (arith, count_up-push, count_down-push)

answered_stages : (c : Client) (conns : ℕ → Conn) (a : ℕ → ℕ) (k g : ℕ) → (c.outstanding_on g ≡ Some k)
    → (copies g (conns k) ≡ 0) → Stages c → Stages (answered c g)
answered_stages c conns a k g on none i_stages =
    λ j. let old = i_stages j in grind arith

answered_settled : (c : Client) (conns : ℕ → Conn) (a : ℕ → ℕ) (k g : ℕ) → (c.outstanding_on g ≡ Some k)
    → (copies g (conns k) ≡ 0) → Settled c → Settled (answered c g)
answered_settled c conns a k g on none i_settled =
    λ p. let old = i_settled p in grind arith

answered_taken : (c : Client) (conns : ℕ → Conn) (a : ℕ → ℕ) (k g : ℕ) → (c.outstanding_on g ≡ Some k)
    → (copies g (conns k) ≡ 0) → Taken c → Taken (answered c g)
answered_taken c conns a k g on none i_taken =
    λ p. let old = i_taken p in grind arith

answered_taken_on : (c : Client) (conns : ℕ → Conn) (a : ℕ → ℕ) (k g : ℕ) → (c.outstanding_on g ≡ Some k)
    → (copies g (conns k) ≡ 0) → TakenOn c → TakenOn (answered c g)
answered_taken_on c conns a k g on none i_taken_on =
    λ p. let old = i_taken_on p in grind arith

answered_creates : (c : Client) (conns : ℕ → Conn) (a : ℕ → ℕ) (k g : ℕ) → (c.outstanding_on g ≡ Some k)
    → (copies g (conns k) ≡ 0) → Creates c → Creates (answered c g)
answered_creates c conns a k g on none i_creates =
    λ p. let old = i_creates p in grind arith

answered_lower : (c : Client) (conns : ℕ → Conn) (a : ℕ → ℕ) (k g : ℕ) → (c.outstanding_on g ≡ Some k)
    → (copies g (conns k) ≡ 0) → Lower c → Lower (answered c g)
answered_lower c conns a k g on none i_lower =
    λ p q. let old = i_lower p q in grind arith

answered_has_open : (c : Client) (conns : ℕ → Conn) (a : ℕ → ℕ) (k g : ℕ) → (c.outstanding_on g ≡ Some k)
    → (copies g (conns k) ≡ 0) → HasOpen c → HasOpen (answered c g)
answered_has_open c conns a k g on none i_has_open =
    λ p. let old = i_has_open p in grind arith

answered_asked_open : (c : Client) (conns : ℕ → Conn) (a : ℕ → ℕ) (k g : ℕ) → (c.outstanding_on g ≡ Some k)
    → (copies g (conns k) ≡ 0) → AskedOpen c → AskedOpen (answered c g)
answered_asked_open c conns a k g on none i_asked_open =
    λ p. let old = i_asked_open p in grind arith

answered_fresh : (c : Client) (conns : ℕ → Conn) (a : ℕ → ℕ) (k g : ℕ) → (c.outstanding_on g ≡ Some k)
    → (copies g (conns k) ≡ 0) → Fresh c a → Fresh (answered c g) a
answered_fresh c conns a k g on none i_fresh =
    λ p. let old = i_fresh p in grind arith

answered_bodies : (c : Client) (conns : ℕ → Conn) (a : ℕ → ℕ) (k g : ℕ) → (c.outstanding_on g ≡ Some k)
    → (copies g (conns k) ≡ 0) → Bodies c conns → Bodies (answered c g) conns
answered_bodies c conns a k g on none i_bodies =
    λ j n p x. let old = i_bodies j n p x in grind (arith, get-push)

answered_first : (c : Client) (conns : ℕ → Conn) (a : ℕ → ℕ) (k g : ℕ) → (c.outstanding_on g ≡ Some k)
    → (copies g (conns k) ≡ 0) → First c conns a → First (answered c g) conns a
answered_first c conns a k g on none i_first =
    λ j n p x. let old = i_first j n p x in grind (arith, get-push)

answered_unsent : (c : Client) (conns : ℕ → Conn) (a : ℕ → ℕ) (k g : ℕ) → (c.outstanding_on g ≡ Some k)
    → (copies g (conns k) ≡ 0) → (acts_once (c.op g) ≡ true → c.unanswered g ≡ false → c.asks_attach g ≡ false → a g
    ≡ 0) → Unsent c a → Unsent (answered c g) a
answered_unsent c conns a k g on none idle i_unsent =
    λ p. let old = i_unsent p in let q = idle in grind arith

answered_sent_replies : (c : Client) (conns : ℕ → Conn) (a : ℕ → ℕ) (k g : ℕ) → (c.outstanding_on g ≡ Some k)
    → (copies g (conns k) ≡ 0) → SentReplies c conns → SentReplies (answered c g) conns
answered_sent_replies c conns a k g on none i_sent_replies =
    λ j n p y. let old = i_sent_replies j n p y in grind (arith, get-push)

answered_deleted : (c : Client) (conns : ℕ → Conn) (a : ℕ → ℕ) (k g : ℕ) → (c.outstanding_on g ≡ Some k)
    → (copies g (conns k) ≡ 0) → Deleted c conns a → Deleted (answered c g) conns a
answered_deleted c conns a k g on none i_deleted =
    λ j n p y. let old = i_deleted j n p y in grind (arith, get-push)

pub answered_keeps : (c : Client) (conns : ℕ → Conn) (a : ℕ → ℕ) (k g : ℕ) → (c.outstanding_on g ≡ Some k)
    → (copies g (conns k) ≡ 0) → (acts_once (c.op g) ≡ true → c.unanswered g ≡ false → c.asks_attach g ≡ false → a g
    ≡ 0) → Connections c conns a → Connections (answered c g) conns a
answered_keeps c conns a k g on none idle i =
    record {
      once = answered_once c conns a k g on none i.once;
      outstanding = answered_outstanding c conns a k g on none i.outstanding;
      own_up = answered_own_up c conns a k g on none i.own_up;
      attach_up = answered_attach_up c conns a k g on none i.attach_up;
      own_down = answered_own_down c conns a k g on none i.own_down;
      attach_down = answered_attach_down c conns a k g on none i.attach_down;
      down_open = answered_down_open c conns a k g on none i.down_open;
      on_ready = answered_on_ready c conns a k g on none i.on_ready;
      ready = answered_ready c conns a k g on none i.ready;
      stages = answered_stages c conns a k g on none i.stages;
      settled = answered_settled c conns a k g on none i.settled;
      taken = answered_taken c conns a k g on none i.taken;
      taken_on = answered_taken_on c conns a k g on none i.taken_on;
      creates = answered_creates c conns a k g on none i.creates;
      lower = answered_lower c conns a k g on none i.lower;
      has_open = answered_has_open c conns a k g on none i.has_open;
      asked_open = answered_asked_open c conns a k g on none i.asked_open;
      fresh = answered_fresh c conns a k g on none i.fresh;
      bodies = answered_bodies c conns a k g on none i.bodies;
      first = answered_first c conns a k g on none i.first;
      unsent = answered_unsent c conns a k g on none idle i.unsent;
      sent_replies = answered_sent_replies c conns a k g on none i.sent_replies;
      deleted = answered_deleted c conns a k g on none i.deleted;
    }
