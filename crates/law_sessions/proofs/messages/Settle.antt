-- Written by tools/law_connections.py. A reply settles its operation.
use Rattle.std.proofs.Common.{◌≡◌, ℕ, false, arith, Some}
use Rattle.spec_exchange.specs.Operations.{Outcome, is_unsettled}
use Rattle.spec_exchange.specs.Client.{Client}
use Rattle.spec_exchange.specs.Settling.{settled as settled_by}
use Rattle.spec_exchange.specs.Network.{Conn}
use Rattle.law_sessions.specs.messages.Connections.{Connections, copies, Once, Outstanding, OwnUp, AttachUp, OwnDown, AttachDown}
use Rattle.law_sessions.specs.messages.Connections.{DownOpen, OnReady, Ready, Stages, Settled, Taken, TakenOn, Creates, Lower}
use Rattle.law_sessions.specs.messages.Connections.{HasOpen, AskedOpen, Fresh, Bodies, First, Unsent, SentReplies, Deleted}
use Rattle.law_sessions.proofs.messages.Lists.{get-push, count_up-push, count_down-push}

settle_once : (c : Client) (conns : ℕ → Conn) (a : ℕ → ℕ) (k g place : ℕ) (outcome : Outcome)
    → (c.outstanding_on g ≡ Some k) → (copies g (conns k) ≡ 0) → (is_unsettled outcome ≡ false) → Once conns
    → Once conns
settle_once c conns a k g place outcome on none firm i_once =
    grind (arith, count_up-push, count_down-push)

settle_outstanding : (c : Client) (conns : ℕ → Conn) (a : ℕ → ℕ) (k g place : ℕ) (outcome : Outcome)
    → (c.outstanding_on g ≡ Some k) → (copies g (conns k) ≡ 0) → (is_unsettled outcome ≡ false) → Outstanding c conns
    → Outstanding (settled_by c g outcome place) conns
settle_outstanding c conns a k g place outcome on none firm i_outstanding =
    grind (arith, count_up-push, count_down-push)

settle_own_up : (c : Client) (conns : ℕ → Conn) (a : ℕ → ℕ) (k g place : ℕ) (outcome : Outcome)
    → (c.outstanding_on g ≡ Some k) → (copies g (conns k) ≡ 0) → (is_unsettled outcome ≡ false) → OwnUp c conns
    → OwnUp (settled_by c g outcome place) conns
settle_own_up c conns a k g place outcome on none firm i_own_up =
    λ j n p x. let old = i_own_up j n p x in grind (arith, get-push)

settle_attach_up : (c : Client) (conns : ℕ → Conn) (a : ℕ → ℕ) (k g place : ℕ) (outcome : Outcome)
    → (c.outstanding_on g ≡ Some k) → (copies g (conns k) ≡ 0) → (is_unsettled outcome ≡ false) → AttachUp c conns
    → AttachUp (settled_by c g outcome place) conns
settle_attach_up c conns a k g place outcome on none firm i_attach_up =
    λ j n p x. let old = i_attach_up j n p x in grind (arith, get-push)

settle_own_down : (c : Client) (conns : ℕ → Conn) (a : ℕ → ℕ) (k g place : ℕ) (outcome : Outcome)
    → (c.outstanding_on g ≡ Some k) → (copies g (conns k) ≡ 0) → (is_unsettled outcome ≡ false) → OwnDown c conns
    → OwnDown (settled_by c g outcome place) conns
settle_own_down c conns a k g place outcome on none firm i_own_down =
    λ j n p y. let old = i_own_down j n p y in grind (arith, get-push)

settle_attach_down : (c : Client) (conns : ℕ → Conn) (a : ℕ → ℕ) (k g place : ℕ) (outcome : Outcome)
    → (c.outstanding_on g ≡ Some k) → (copies g (conns k) ≡ 0) → (is_unsettled outcome ≡ false) → AttachDown c conns
    → AttachDown (settled_by c g outcome place) conns
settle_attach_down c conns a k g place outcome on none firm i_attach_down =
    λ j n p y. let old = i_attach_down j n p y in grind (arith, get-push)

settle_down_open : (c : Client) (conns : ℕ → Conn) (a : ℕ → ℕ) (k g place : ℕ) (outcome : Outcome)
    → (c.outstanding_on g ≡ Some k) → (copies g (conns k) ≡ 0) → (is_unsettled outcome ≡ false) → DownOpen conns
    → DownOpen conns
settle_down_open c conns a k g place outcome on none firm i_down_open =
    λ j. let old = i_down_open j in grind (arith, get-push)

settle_on_ready : (c : Client) (conns : ℕ → Conn) (a : ℕ → ℕ) (k g place : ℕ) (outcome : Outcome)
    → (c.outstanding_on g ≡ Some k) → (copies g (conns k) ≡ 0) → (is_unsettled outcome ≡ false) → OnReady c
    → OnReady (settled_by c g outcome place)
settle_on_ready c conns a k g place outcome on none firm i_on_ready =
    λ p j. let old = i_on_ready p j in grind arith

settle_ready : (c : Client) (conns : ℕ → Conn) (a : ℕ → ℕ) (k g place : ℕ) (outcome : Outcome)
    → (c.outstanding_on g ≡ Some k) → (copies g (conns k) ≡ 0) → (is_unsettled outcome ≡ false) → Ready c conns
    → Ready (settled_by c g outcome place) conns
settle_ready c conns a k g place outcome on none firm i_ready =
    λ j. let old = i_ready j in grind (arith, count_up-push, count_down-push)

settle_stages : (c : Client) (conns : ℕ → Conn) (a : ℕ → ℕ) (k g place : ℕ) (outcome : Outcome)
    → (c.outstanding_on g ≡ Some k) → (copies g (conns k) ≡ 0) → (is_unsettled outcome ≡ false) → Stages c
    → Stages (settled_by c g outcome place)
settle_stages c conns a k g place outcome on none firm i_stages =
    λ j. let old = i_stages j in grind arith

settle_settled : (c : Client) (conns : ℕ → Conn) (a : ℕ → ℕ) (k g place : ℕ) (outcome : Outcome)
    → (c.outstanding_on g ≡ Some k) → (copies g (conns k) ≡ 0) → (is_unsettled outcome ≡ false) → Settled c
    → Settled (settled_by c g outcome place)
settle_settled c conns a k g place outcome on none firm i_settled =
    λ p. let old = i_settled p in grind arith

settle_taken : (c : Client) (conns : ℕ → Conn) (a : ℕ → ℕ) (k g place : ℕ) (outcome : Outcome)
    → (c.outstanding_on g ≡ Some k) → (copies g (conns k) ≡ 0) → (is_unsettled outcome ≡ false) → Taken c
    → Taken (settled_by c g outcome place)
settle_taken c conns a k g place outcome on none firm i_taken =
    λ p. let old = i_taken p in grind arith

settle_taken_on : (c : Client) (conns : ℕ → Conn) (a : ℕ → ℕ) (k g place : ℕ) (outcome : Outcome)
    → (c.outstanding_on g ≡ Some k) → (copies g (conns k) ≡ 0) → (is_unsettled outcome ≡ false) → TakenOn c
    → TakenOn (settled_by c g outcome place)
settle_taken_on c conns a k g place outcome on none firm i_taken_on =
    λ p. let old = i_taken_on p in grind arith

settle_creates : (c : Client) (conns : ℕ → Conn) (a : ℕ → ℕ) (k g place : ℕ) (outcome : Outcome)
    → (c.outstanding_on g ≡ Some k) → (copies g (conns k) ≡ 0) → (is_unsettled outcome ≡ false) → Creates c
    → Creates (settled_by c g outcome place)
settle_creates c conns a k g place outcome on none firm i_creates =
    λ p. let old = i_creates p in grind arith

settle_lower : (c : Client) (conns : ℕ → Conn) (a : ℕ → ℕ) (k g place : ℕ) (outcome : Outcome)
    → (c.outstanding_on g ≡ Some k) → (copies g (conns k) ≡ 0) → (is_unsettled outcome ≡ false) → Lower c
    → Lower (settled_by c g outcome place)
settle_lower c conns a k g place outcome on none firm i_lower =
    λ p q. let old = i_lower p q in grind arith

settle_has_open : (c : Client) (conns : ℕ → Conn) (a : ℕ → ℕ) (k g place : ℕ) (outcome : Outcome)
    → (c.outstanding_on g ≡ Some k) → (copies g (conns k) ≡ 0) → (is_unsettled outcome ≡ false) → HasOpen c → Settled c
    → HasOpen (settled_by c g outcome place)
settle_has_open c conns a k g place outcome on none firm i_has_open i_settled =
    λ p. let old = i_has_open p in let s = i_settled g in grind arith

settle_asked_open : (c : Client) (conns : ℕ → Conn) (a : ℕ → ℕ) (k g place : ℕ) (outcome : Outcome)
    → (c.outstanding_on g ≡ Some k) → (copies g (conns k) ≡ 0) → (is_unsettled outcome ≡ false) → AskedOpen c
    → Settled c → AskedOpen (settled_by c g outcome place)
settle_asked_open c conns a k g place outcome on none firm i_asked_open i_settled =
    λ p. let old = i_asked_open p in let s = i_settled g in grind arith

settle_fresh : (c : Client) (conns : ℕ → Conn) (a : ℕ → ℕ) (k g place : ℕ) (outcome : Outcome)
    → (c.outstanding_on g ≡ Some k) → (copies g (conns k) ≡ 0) → (is_unsettled outcome ≡ false) → Fresh c a
    → Fresh (settled_by c g outcome place) a
settle_fresh c conns a k g place outcome on none firm i_fresh =
    λ p. let old = i_fresh p in grind arith

settle_bodies : (c : Client) (conns : ℕ → Conn) (a : ℕ → ℕ) (k g place : ℕ) (outcome : Outcome)
    → (c.outstanding_on g ≡ Some k) → (copies g (conns k) ≡ 0) → (is_unsettled outcome ≡ false) → Bodies c conns
    → Bodies (settled_by c g outcome place) conns
settle_bodies c conns a k g place outcome on none firm i_bodies =
    λ j n p x. let old = i_bodies j n p x in grind (arith, get-push)

settle_first : (c : Client) (conns : ℕ → Conn) (a : ℕ → ℕ) (k g place : ℕ) (outcome : Outcome)
    → (c.outstanding_on g ≡ Some k) → (copies g (conns k) ≡ 0) → (is_unsettled outcome ≡ false) → First c conns a
    → First (settled_by c g outcome place) conns a
settle_first c conns a k g place outcome on none firm i_first =
    λ j n p x. let old = i_first j n p x in grind (arith, get-push)

settle_unsent : (c : Client) (conns : ℕ → Conn) (a : ℕ → ℕ) (k g place : ℕ) (outcome : Outcome)
    → (c.outstanding_on g ≡ Some k) → (copies g (conns k) ≡ 0) → (is_unsettled outcome ≡ false) → Unsent c a
    → Unsent (settled_by c g outcome place) a
settle_unsent c conns a k g place outcome on none firm i_unsent =
    λ p. let old = i_unsent p in grind arith

settle_sent_replies : (c : Client) (conns : ℕ → Conn) (a : ℕ → ℕ) (k g place : ℕ) (outcome : Outcome)
    → (c.outstanding_on g ≡ Some k) → (copies g (conns k) ≡ 0) → (is_unsettled outcome ≡ false) → SentReplies c conns
    → SentReplies (settled_by c g outcome place) conns
settle_sent_replies c conns a k g place outcome on none firm i_sent_replies =
    λ j n p y. let old = i_sent_replies j n p y in grind (arith, get-push)

settle_deleted : (c : Client) (conns : ℕ → Conn) (a : ℕ → ℕ) (k g place : ℕ) (outcome : Outcome)
    → (c.outstanding_on g ≡ Some k) → (copies g (conns k) ≡ 0) → (is_unsettled outcome ≡ false) → Deleted c conns a
    → Deleted (settled_by c g outcome place) conns a
settle_deleted c conns a k g place outcome on none firm i_deleted =
    λ j n p y. let old = i_deleted j n p y in grind (arith, get-push)

pub settle_keeps : (c : Client) (conns : ℕ → Conn) (a : ℕ → ℕ) (k g place : ℕ) (outcome : Outcome)
    → (c.outstanding_on g ≡ Some k) → (copies g (conns k) ≡ 0) → (is_unsettled outcome ≡ false) → Connections c conns a
    → Connections (settled_by c g outcome place) conns a
settle_keeps c conns a k g place outcome on none firm i =
    record {
      once = settle_once c conns a k g place outcome on none firm i.once;
      outstanding = settle_outstanding c conns a k g place outcome on none firm i.outstanding;
      own_up = settle_own_up c conns a k g place outcome on none firm i.own_up;
      attach_up = settle_attach_up c conns a k g place outcome on none firm i.attach_up;
      own_down = settle_own_down c conns a k g place outcome on none firm i.own_down;
      attach_down = settle_attach_down c conns a k g place outcome on none firm i.attach_down;
      down_open = settle_down_open c conns a k g place outcome on none firm i.down_open;
      on_ready = settle_on_ready c conns a k g place outcome on none firm i.on_ready;
      ready = settle_ready c conns a k g place outcome on none firm i.ready;
      stages = settle_stages c conns a k g place outcome on none firm i.stages;
      settled = settle_settled c conns a k g place outcome on none firm i.settled;
      taken = settle_taken c conns a k g place outcome on none firm i.taken;
      taken_on = settle_taken_on c conns a k g place outcome on none firm i.taken_on;
      creates = settle_creates c conns a k g place outcome on none firm i.creates;
      lower = settle_lower c conns a k g place outcome on none firm i.lower;
      has_open = settle_has_open c conns a k g place outcome on none firm i.has_open i.settled;
      asked_open = settle_asked_open c conns a k g place outcome on none firm i.asked_open i.settled;
      fresh = settle_fresh c conns a k g place outcome on none firm i.fresh;
      bodies = settle_bodies c conns a k g place outcome on none firm i.bodies;
      first = settle_first c conns a k g place outcome on none firm i.first;
      unsent = settle_unsent c conns a k g place outcome on none firm i.unsent;
      sent_replies = settle_sent_replies c conns a k g place outcome on none firm i.sent_replies;
      deleted = settle_deleted c conns a k g place outcome on none firm i.deleted;
    }
