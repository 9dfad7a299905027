-- Written by tools/law_connections.py. No session can be had.
use Rattle.std.proofs.Common.{◌≡◌, ℕ, false, refl, arith, Option, Some, None}
use Rattle.spec_exchange.specs.Operations.{Why}
use Rattle.spec_exchange.specs.Client.{Client, finish}
use Rattle.spec_exchange.specs.Network.{Conn}
use Rattle.law_sessions.specs.messages.Connections.{Connections, Once, Outstanding, OwnUp, AttachUp, OwnDown, AttachDown}
use Rattle.law_sessions.specs.messages.Connections.{DownOpen, OnReady, Ready, Stages, Settled, Taken, TakenOn, Creates, Lower}
use Rattle.law_sessions.specs.messages.Connections.{HasOpen, AskedOpen, Fresh, Bodies, First, Unsent, SentReplies, Deleted}
use Rattle.law_sessions.proofs.messages.Lists.{get-push, count_up-push, count_down-push}

finished_off : (c : Client) (conns : ℕ → Conn) → c.live ≡ false → OnReady c → Ready c conns → (p : ℕ) (o : Option ℕ)
    → c.outstanding_on p ≡ o → c.outstanding_on p ≡ None
finished_off c conns dead r l p None e = e
finished_off c conns dead r l p (Some k) e = let on = r p k e in let live = l k on.0 in absurd (grind arith)

finished_once : (c : Client) (conns : ℕ → Conn) (a : ℕ → ℕ) (why : Why) → (c.live ≡ false) → Once conns → Once conns
finished_once c conns a why dead i_once =
    grind (arith, count_up-push, count_down-push)

finished_outstanding : (c : Client) (conns : ℕ → Conn) (a : ℕ → ℕ) (why : Why) → (c.live ≡ false) → Outstanding c conns
    → Outstanding (finish c why) conns
finished_outstanding c conns a why dead i_outstanding =
    grind (arith, count_up-push, count_down-push)

finished_own_up : (c : Client) (conns : ℕ → Conn) (a : ℕ → ℕ) (why : Why) → (c.live ≡ false) → OwnUp c conns → OwnUp (finish c why) conns
finished_own_up c conns a why dead i_own_up =
    λ j n p x. let old = i_own_up j n p x in grind (arith, get-push)

finished_attach_up : (c : Client) (conns : ℕ → Conn) (a : ℕ → ℕ) (why : Why) → (c.live ≡ false) → AttachUp c conns
    → AttachUp (finish c why) conns
finished_attach_up c conns a why dead i_attach_up =
    λ j n p x. let old = i_attach_up j n p x in grind (arith, get-push)

finished_own_down : (c : Client) (conns : ℕ → Conn) (a : ℕ → ℕ) (why : Why) → (c.live ≡ false) → OwnDown c conns
    → OwnDown (finish c why) conns
finished_own_down c conns a why dead i_own_down =
    λ j n p y. let old = i_own_down j n p y in grind (arith, get-push)

finished_attach_down : (c : Client) (conns : ℕ → Conn) (a : ℕ → ℕ) (why : Why) → (c.live ≡ false) → AttachDown c conns
    → AttachDown (finish c why) conns
finished_attach_down c conns a why dead i_attach_down =
    λ j n p y. let old = i_attach_down j n p y in grind (arith, get-push)

finished_down_open : (c : Client) (conns : ℕ → Conn) (a : ℕ → ℕ) (why : Why) → (c.live ≡ false) → DownOpen conns → DownOpen conns
finished_down_open c conns a why dead i_down_open =
    λ j. let old = i_down_open j in grind (arith, get-push)

finished_on_ready : (c : Client) (conns : ℕ → Conn) (a : ℕ → ℕ) (why : Why) → (c.live ≡ false) → OnReady c → OnReady (finish c why)
finished_on_ready c conns a why dead i_on_ready =
    λ p j. let old = i_on_ready p j in grind arith

finished_ready : (c : Client) (conns : ℕ → Conn) (a : ℕ → ℕ) (why : Why) → (c.live ≡ false) → Ready c conns → Ready (finish c why) conns
finished_ready c conns a why dead i_ready =
    λ j. let old = i_ready j in grind (arith, count_up-push, count_down-push)

finished_stages : (c : Client) (conns : ℕ → Conn) (a : ℕ → ℕ) (why : Why) → (c.live ≡ false) → Stages c → Stages (finish c why)
finished_stages c conns a why dead i_stages =
    λ j. let old = i_stages j in grind arith

finished_settled : (c : Client) (conns : ℕ → Conn) (a : ℕ → ℕ) (why : Why) → (c.live ≡ false) → Settled c → OnReady c
    → Ready c conns → Settled (finish c why)
finished_settled c conns a why dead i_settled i_on_ready i_ready =
    λ p h. finished_off c conns dead i_on_ready i_ready p (c.outstanding_on p) refl

finished_taken : (c : Client) (conns : ℕ → Conn) (a : ℕ → ℕ) (why : Why) → (c.live ≡ false) → Taken c → Taken (finish c why)
finished_taken c conns a why dead i_taken =
    λ p. let old = i_taken p in grind arith

finished_taken_on : (c : Client) (conns : ℕ → Conn) (a : ℕ → ℕ) (why : Why) → (c.live ≡ false) → TakenOn c → TakenOn (finish c why)
finished_taken_on c conns a why dead i_taken_on =
    λ p. let old = i_taken_on p in grind arith

finished_creates : (c : Client) (conns : ℕ → Conn) (a : ℕ → ℕ) (why : Why) → (c.live ≡ false) → Creates c → Creates (finish c why)
finished_creates c conns a why dead i_creates =
    λ p. let old = i_creates p in grind arith

finished_lower : (c : Client) (conns : ℕ → Conn) (a : ℕ → ℕ) (why : Why) → (c.live ≡ false) → Lower c → Lower (finish c why)
finished_lower c conns a why dead i_lower =
    λ p q. let old = i_lower p q in grind arith

finished_has_open : (c : Client) (conns : ℕ → Conn) (a : ℕ → ℕ) (why : Why) → (c.live ≡ false) → HasOpen c → HasOpen (finish c why)
finished_has_open c conns a why dead i_has_open =
    λ p. let old = i_has_open p in grind arith

finished_asked_open : (c : Client) (conns : ℕ → Conn) (a : ℕ → ℕ) (why : Why) → (c.live ≡ false) → AskedOpen c → AskedOpen (finish c why)
finished_asked_open c conns a why dead i_asked_open =
    λ p. let old = i_asked_open p in grind arith

finished_fresh : (c : Client) (conns : ℕ → Conn) (a : ℕ → ℕ) (why : Why) → (c.live ≡ false) → Fresh c a → Fresh (finish c why) a
finished_fresh c conns a why dead i_fresh =
    λ p. let old = i_fresh p in grind arith

finished_bodies : (c : Client) (conns : ℕ → Conn) (a : ℕ → ℕ) (why : Why) → (c.live ≡ false) → Bodies c conns → Bodies (finish c why) conns
finished_bodies c conns a why dead i_bodies =
    λ j n p x. let old = i_bodies j n p x in grind (arith, get-push)

finished_first : (c : Client) (conns : ℕ → Conn) (a : ℕ → ℕ) (why : Why) → (c.live ≡ false) → First c conns a → First (finish c why) conns a
finished_first c conns a why dead i_first =
    λ j n p x. let old = i_first j n p x in grind (arith, get-push)

finished_unsent : (c : Client) (conns : ℕ → Conn) (a : ℕ → ℕ) (why : Why) → (c.live ≡ false) → Unsent c a → Unsent (finish c why) a
finished_unsent c conns a why dead i_unsent =
    λ p. let old = i_unsent p in grind arith

finished_sent_replies : (c : Client) (conns : ℕ → Conn) (a : ℕ → ℕ) (why : Why) → (c.live ≡ false) → SentReplies c conns
    → SentReplies (finish c why) conns
finished_sent_replies c conns a why dead i_sent_replies =
    λ j n p y. let old = i_sent_replies j n p y in grind (arith, get-push)

finished_deleted : (c : Client) (conns : ℕ → Conn) (a : ℕ → ℕ) (why : Why) → (c.live ≡ false) → Deleted c conns a
    → Deleted (finish c why) conns a
finished_deleted c conns a why dead i_deleted =
    λ j n p y. let old = i_deleted j n p y in grind (arith, get-push)

pub finished_keeps : (c : Client) (conns : ℕ → Conn) (a : ℕ → ℕ) (why : Why) → (c.live ≡ false) → Connections c conns a
    → Connections (finish c why) conns a
finished_keeps c conns a why dead i =
    record {
      once = finished_once c conns a why dead i.once;
      outstanding = finished_outstanding c conns a why dead i.outstanding;
      own_up = finished_own_up c conns a why dead i.own_up;
      attach_up = finished_attach_up c conns a why dead i.attach_up;
      own_down = finished_own_down c conns a why dead i.own_down;
      attach_down = finished_attach_down c conns a why dead i.attach_down;
      down_open = finished_down_open c conns a why dead i.down_open;
      on_ready = finished_on_ready c conns a why dead i.on_ready;
      ready = finished_ready c conns a why dead i.ready;
      stages = finished_stages c conns a why dead i.stages;
      settled = finished_settled c conns a why dead i.settled i.on_ready i.ready;
      taken = finished_taken c conns a why dead i.taken;
      taken_on = finished_taken_on c conns a why dead i.taken_on;
      creates = finished_creates c conns a why dead i.creates;
      lower = finished_lower c conns a why dead i.lower;
      has_open = finished_has_open c conns a why dead i.has_open;
      asked_open = finished_asked_open c conns a why dead i.asked_open;
      fresh = finished_fresh c conns a why dead i.fresh;
      bodies = finished_bodies c conns a why dead i.bodies;
      first = finished_first c conns a why dead i.first;
      unsent = finished_unsent c conns a why dead i.unsent;
      sent_replies = finished_sent_replies c conns a why dead i.sent_replies;
      deleted = finished_deleted c conns a why dead i.deleted;
    }
