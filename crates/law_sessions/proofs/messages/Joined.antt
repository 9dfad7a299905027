-- Written by tools/law_connections.py. A DH2C attached its open.
use Rattle.std.proofs.Common.{◌≡◌, ℕ, true, false, arith, Some}
use Rattle.spec_exchange.specs.Client.{Client}
use Rattle.spec_exchange.specs.Settling.{joined}
use Rattle.spec_exchange.specs.Network.{Conn}
use Rattle.law_sessions.specs.messages.Connections.{Connections, copies, acts_once, Once, Outstanding, OwnUp, AttachUp, OwnDown}
use Rattle.law_sessions.specs.messages.Connections.{AttachDown, DownOpen, OnReady, Ready, Stages, Settled, Taken, TakenOn}
use Rattle.law_sessions.specs.messages.Connections.{Creates, Lower, HasOpen, AskedOpen, Fresh, Bodies, First, Unsent}
use Rattle.law_sessions.specs.messages.Connections.{SentReplies, Deleted}
use Rattle.law_sessions.proofs.messages.Lists.{get-push, count_up-push, count_down-push}

joined_once : (c : Client) (conns : ℕ → Conn) (a : ℕ → ℕ) (k g : ℕ) → (c.outstanding_on g ≡ Some k)
    → (copies g (conns k) ≡ 0) → Once conns → Once conns
joined_once c conns a k g on none i_once =
    grind (arith, count_up-push, count_down-push)

joined_outstanding : (c : Client) (conns : ℕ → Conn) (a : ℕ → ℕ) (k g : ℕ) → (c.outstanding_on g ≡ Some k)
    → (copies g (conns k) ≡ 0) → Outstanding c conns → Outstanding (joined c g) conns
joined_outstanding c conns a k g on none i_outstanding =
    grind (arith, count_up-push, count_down-push)

joined_own_up : (c : Client) (conns : ℕ → Conn) (a : ℕ → ℕ) (k g : ℕ) → (c.outstanding_on g ≡ Some k)
    → (copies g (conns k) ≡ 0) → OwnUp c conns → OwnUp (joined c g) conns
joined_own_up c conns a k g on none i_own_up =
    λ j n p x. let old = i_own_up j n p x in grind (arith, get-push)

joined_attach_up : (c : Client) (conns : ℕ → Conn) (a : ℕ → ℕ) (k g : ℕ) → (c.outstanding_on g ≡ Some k)
    → (copies g (conns k) ≡ 0) → AttachUp c conns → AttachUp (joined c g) conns
joined_attach_up c conns a k g on none i_attach_up =
    λ j n p x. let old = i_attach_up j n p x in grind (arith, get-push)

joined_own_down : (c : Client) (conns : ℕ → Conn) (a : ℕ → ℕ) (k g : ℕ) → (c.outstanding_on g ≡ Some k)
    → (copies g (conns k) ≡ 0) → OwnDown c conns → OwnDown (joined c g) conns
joined_own_down c conns a k g on none i_own_down =
    λ j n p y. let old = i_own_down j n p y in grind (arith, get-push)

joined_attach_down : (c : Client) (conns : ℕ → Conn) (a : ℕ → ℕ) (k g : ℕ) → (c.outstanding_on g ≡ Some k)
    → (copies g (conns k) ≡ 0) → AttachDown c conns → AttachDown (joined c g) conns
joined_attach_down c conns a k g on none i_attach_down =
    λ j n p y. let old = i_attach_down j n p y in grind (arith, get-push)

joined_down_open : (c : Client) (conns : ℕ → Conn) (a : ℕ → ℕ) (k g : ℕ) → (c.outstanding_on g ≡ Some k)
    → (copies g (conns k) ≡ 0) → DownOpen conns → DownOpen conns
joined_down_open c conns a k g on none i_down_open =
    λ j. let old = i_down_open j in grind (arith, get-push)

joined_on_ready : (c : Client) (conns : ℕ → Conn) (a : ℕ → ℕ) (k g : ℕ) → (c.outstanding_on g ≡ Some k)
    → (copies g (conns k) ≡ 0) → OnReady c → OnReady (joined c g)
joined_on_ready c conns a k g on none i_on_ready =
    λ p j. let old = i_on_ready p j in grind arith

joined_ready : (c : Client) (conns : ℕ → Conn) (a : ℕ → ℕ) (k g : ℕ) → (c.outstanding_on g ≡ Some k)
    → (copies g (conns k) ≡ 0) → Ready c conns → Ready (joined c g) conns
joined_ready c conns a k g on none i_ready =
    λ j. let old = i_ready j in grind (arith, count_up-push, count_down-push)

joined_stages : (c : Client) (conns : ℕ → Conn) (a : ℕ → ℕ) (k g : ℕ) → (c.outstanding_on g ≡ Some k)
    → (copies g (conns k) ≡ 0) → Stages c → Stages (joined c g)
joined_stages c conns a k g on none i_stages =
    λ j. let old = i_stages j in grind arith

joined_settled : (c : Client) (conns : ℕ → Conn) (a : ℕ → ℕ) (k g : ℕ) → (c.outstanding_on g ≡ Some k)
    → (copies g (conns k) ≡ 0) → Settled c → Settled (joined c g)
joined_settled c conns a k g on none i_settled =
    λ p. let old = i_settled p in grind arith

joined_taken : (c : Client) (conns : ℕ → Conn) (a : ℕ → ℕ) (k g : ℕ) → (c.outstanding_on g ≡ Some k)
    → (copies g (conns k) ≡ 0) → Taken c → Taken (joined c g)
joined_taken c conns a k g on none i_taken =
    λ p. let old = i_taken p in grind arith

joined_taken_on : (c : Client) (conns : ℕ → Conn) (a : ℕ → ℕ) (k g : ℕ) → (c.outstanding_on g ≡ Some k)
    → (copies g (conns k) ≡ 0) → TakenOn c → TakenOn (joined c g)
joined_taken_on c conns a k g on none i_taken_on =
    λ p. let old = i_taken_on p in grind arith

joined_creates : (c : Client) (conns : ℕ → Conn) (a : ℕ → ℕ) (k g : ℕ) → (c.outstanding_on g ≡ Some k)
    → (copies g (conns k) ≡ 0) → Creates c → Creates (joined c g)
joined_creates c conns a k g on none i_creates =
    λ p. let old = i_creates p in grind arith

joined_lower : (c : Client) (conns : ℕ → Conn) (a : ℕ → ℕ) (k g : ℕ) → (c.outstanding_on g ≡ Some k)
    → (copies g (conns k) ≡ 0) → Lower c → Lower (joined c g)
joined_lower c conns a k g on none i_lower =
    λ p q. let old = i_lower p q in grind arith

joined_has_open : (c : Client) (conns : ℕ → Conn) (a : ℕ → ℕ) (k g : ℕ) → (c.outstanding_on g ≡ Some k)
    → (copies g (conns k) ≡ 0) → HasOpen c → HasOpen (joined c g)
joined_has_open c conns a k g on none i_has_open =
    λ p. let old = i_has_open p in grind arith

joined_asked_open : (c : Client) (conns : ℕ → Conn) (a : ℕ → ℕ) (k g : ℕ) → (c.outstanding_on g ≡ Some k)
    → (copies g (conns k) ≡ 0) → AskedOpen c → AskedOpen (joined c g)
joined_asked_open c conns a k g on none i_asked_open =
    λ p. let old = i_asked_open p in grind arith

joined_fresh : (c : Client) (conns : ℕ → Conn) (a : ℕ → ℕ) (k g : ℕ) → (c.outstanding_on g ≡ Some k)
    → (copies g (conns k) ≡ 0) → Fresh c a → Fresh (joined c g) a
joined_fresh c conns a k g on none i_fresh =
    λ p. let old = i_fresh p in grind arith

joined_bodies : (c : Client) (conns : ℕ → Conn) (a : ℕ → ℕ) (k g : ℕ) → (c.outstanding_on g ≡ Some k)
    → (copies g (conns k) ≡ 0) → Bodies c conns → Bodies (joined c g) conns
joined_bodies c conns a k g on none i_bodies =
    λ j n p x. let old = i_bodies j n p x in grind (arith, get-push)

joined_first : (c : Client) (conns : ℕ → Conn) (a : ℕ → ℕ) (k g : ℕ) → (c.outstanding_on g ≡ Some k)
    → (copies g (conns k) ≡ 0) → First c conns a → First (joined c g) conns a
joined_first c conns a k g on none i_first =
    λ j n p x. let old = i_first j n p x in grind (arith, get-push)

joined_unsent : (c : Client) (conns : ℕ → Conn) (a : ℕ → ℕ) (k g : ℕ) → (c.outstanding_on g ≡ Some k)
    → (copies g (conns k) ≡ 0) → (acts_once (c.op g) ≡ true → c.unanswered g ≡ false → c.asks_attach g ≡ false → a g
    ≡ 0) → Unsent c a → Unsent (joined c g) a
joined_unsent c conns a k g on none idle i_unsent =
    λ p. let old = i_unsent p in let q = idle in grind arith

joined_sent_replies : (c : Client) (conns : ℕ → Conn) (a : ℕ → ℕ) (k g : ℕ) → (c.outstanding_on g ≡ Some k)
    → (copies g (conns k) ≡ 0) → SentReplies c conns → SentReplies (joined c g) conns
joined_sent_replies c conns a k g on none i_sent_replies =
    λ j n p y. let old = i_sent_replies j n p y in grind (arith, get-push)

joined_deleted : (c : Client) (conns : ℕ → Conn) (a : ℕ → ℕ) (k g : ℕ) → (c.outstanding_on g ≡ Some k)
    → (copies g (conns k) ≡ 0) → Deleted c conns a → Deleted (joined c g) conns a
joined_deleted c conns a k g on none i_deleted =
    λ j n p y. let old = i_deleted j n p y in grind (arith, get-push)

pub joined_keeps : (c : Client) (conns : ℕ → Conn) (a : ℕ → ℕ) (k g : ℕ) → (c.outstanding_on g ≡ Some k)
    → (copies g (conns k) ≡ 0) → (acts_once (c.op g) ≡ true → c.unanswered g ≡ false → c.asks_attach g ≡ false → a g
    ≡ 0) → Connections c conns a → Connections (joined c g) conns a
joined_keeps c conns a k g on none idle i =
    record {
      once = joined_once c conns a k g on none i.once;
      outstanding = joined_outstanding c conns a k g on none i.outstanding;
      own_up = joined_own_up c conns a k g on none i.own_up;
      attach_up = joined_attach_up c conns a k g on none i.attach_up;
      own_down = joined_own_down c conns a k g on none i.own_down;
      attach_down = joined_attach_down c conns a k g on none i.attach_down;
      down_open = joined_down_open c conns a k g on none i.down_open;
      on_ready = joined_on_ready c conns a k g on none i.on_ready;
      ready = joined_ready c conns a k g on none i.ready;
      stages = joined_stages c conns a k g on none i.stages;
      settled = joined_settled c conns a k g on none i.settled;
      taken = joined_taken c conns a k g on none i.taken;
      taken_on = joined_taken_on c conns a k g on none i.taken_on;
      creates = joined_creates c conns a k g on none i.creates;
      lower = joined_lower c conns a k g on none i.lower;
      has_open = joined_has_open c conns a k g on none i.has_open;
      asked_open = joined_asked_open c conns a k g on none i.asked_open;
      fresh = joined_fresh c conns a k g on none i.fresh;
      bodies = joined_bodies c conns a k g on none i.bodies;
      first = joined_first c conns a k g on none i.first;
      unsent = joined_unsent c conns a k g on none idle i.unsent;
      sent_replies = joined_sent_replies c conns a k g on none i.sent_replies;
      deleted = joined_deleted c conns a k g on none i.deleted;
    }
