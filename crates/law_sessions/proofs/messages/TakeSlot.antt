-- Written by tools/law_connections.py. A lock takes a slot.
use Rattle.std.proofs.Common.{◌≡◌, ℕ, false, arith}
use Rattle.spec_exchange.specs.Client.{Client, take_slot}
use Rattle.spec_exchange.specs.Network.{Conn}
use Rattle.law_sessions.specs.messages.Connections.{Connections, Once, Outstanding, OwnUp, AttachUp, OwnDown, AttachDown}
use Rattle.law_sessions.specs.messages.Connections.{DownOpen, OnReady, Ready, Stages, Settled, Taken, TakenOn, Creates, Lower}
use Rattle.law_sessions.specs.messages.Connections.{HasOpen, AskedOpen, Fresh, Bodies, First, Unsent, SentReplies, Deleted}
use Rattle.law_sessions.proofs.messages.Lists.{get-push, count_up-push, count_down-push}

take_slot_once : (c : Client) (conns : ℕ → Conn) (a : ℕ → ℕ) (g s : ℕ) → (c.sent g ≡ false) → Once conns → Once conns
take_slot_once c conns a g s new i_once =
    grind (arith, count_up-push, count_down-push)

take_slot_outstanding : (c : Client) (conns : ℕ → Conn) (a : ℕ → ℕ) (g s : ℕ) → (c.sent g ≡ false) → Outstanding c conns
    → Outstanding (take_slot c g s) conns
take_slot_outstanding c conns a g s new i_outstanding =
    grind (arith, count_up-push, count_down-push)

take_slot_own_up : (c : Client) (conns : ℕ → Conn) (a : ℕ → ℕ) (g s : ℕ) → (c.sent g ≡ false) → OwnUp c conns
    → OwnUp (take_slot c g s) conns
take_slot_own_up c conns a g s new i_own_up =
    λ j n p x. let old = i_own_up j n p x in grind (arith, get-push)

take_slot_attach_up : (c : Client) (conns : ℕ → Conn) (a : ℕ → ℕ) (g s : ℕ) → (c.sent g ≡ false) → AttachUp c conns
    → AttachUp (take_slot c g s) conns
take_slot_attach_up c conns a g s new i_attach_up =
    λ j n p x. let old = i_attach_up j n p x in grind (arith, get-push)

take_slot_own_down : (c : Client) (conns : ℕ → Conn) (a : ℕ → ℕ) (g s : ℕ) → (c.sent g ≡ false) → OwnDown c conns
    → OwnDown (take_slot c g s) conns
take_slot_own_down c conns a g s new i_own_down =
    λ j n p y. let old = i_own_down j n p y in grind (arith, get-push)

take_slot_attach_down : (c : Client) (conns : ℕ → Conn) (a : ℕ → ℕ) (g s : ℕ) → (c.sent g ≡ false) → AttachDown c conns
    → AttachDown (take_slot c g s) conns
take_slot_attach_down c conns a g s new i_attach_down =
    λ j n p y. let old = i_attach_down j n p y in grind (arith, get-push)

take_slot_down_open : (c : Client) (conns : ℕ → Conn) (a : ℕ → ℕ) (g s : ℕ) → (c.sent g ≡ false) → DownOpen conns → DownOpen conns
take_slot_down_open c conns a g s new i_down_open =
    λ j. let old = i_down_open j in grind (arith, get-push)

take_slot_on_ready : (c : Client) (conns : ℕ → Conn) (a : ℕ → ℕ) (g s : ℕ) → (c.sent g ≡ false) → OnReady c → OnReady (take_slot c g s)
take_slot_on_ready c conns a g s new i_on_ready =
    λ p j. let old = i_on_ready p j in grind arith

take_slot_ready : (c : Client) (conns : ℕ → Conn) (a : ℕ → ℕ) (g s : ℕ) → (c.sent g ≡ false) → Ready c conns → Ready (take_slot c g s) conns
take_slot_ready c conns a g s new i_ready =
    λ j. let old = i_ready j in grind (arith, count_up-push, count_down-push)

take_slot_stages : (c : Client) (conns : ℕ → Conn) (a : ℕ → ℕ) (g s : ℕ) → (c.sent g ≡ false) → Stages c → Stages (take_slot c g s)
take_slot_stages c conns a g s new i_stages =
    λ j. let old = i_stages j in grind arith

take_slot_settled : (c : Client) (conns : ℕ → Conn) (a : ℕ → ℕ) (g s : ℕ) → (c.sent g ≡ false) → Settled c → Settled (take_slot c g s)
take_slot_settled c conns a g s new i_settled =
    λ p. let old = i_settled p in grind arith

take_slot_taken : (c : Client) (conns : ℕ → Conn) (a : ℕ → ℕ) (g s : ℕ) → (c.sent g ≡ false) → Taken c → Taken (take_slot c g s)
take_slot_taken c conns a g s new i_taken =
    λ p. let old = i_taken p in grind arith

take_slot_taken_on : (c : Client) (conns : ℕ → Conn) (a : ℕ → ℕ) (g s : ℕ) → (c.sent g ≡ false) → TakenOn c → TakenOn (take_slot c g s)
take_slot_taken_on c conns a g s new i_taken_on =
    λ p. let old = i_taken_on p in grind arith

take_slot_creates : (c : Client) (conns : ℕ → Conn) (a : ℕ → ℕ) (g s : ℕ) → (c.sent g ≡ false) → Creates c → Creates (take_slot c g s)
take_slot_creates c conns a g s new i_creates =
    λ p. let old = i_creates p in grind arith

take_slot_lower : (c : Client) (conns : ℕ → Conn) (a : ℕ → ℕ) (g s : ℕ) → (c.sent g ≡ false) → Lower c → Lower (take_slot c g s)
take_slot_lower c conns a g s new i_lower =
    λ p q. let old = i_lower p q in grind arith

take_slot_has_open : (c : Client) (conns : ℕ → Conn) (a : ℕ → ℕ) (g s : ℕ) → (c.sent g ≡ false) → HasOpen c → HasOpen (take_slot c g s)
take_slot_has_open c conns a g s new i_has_open =
    λ p. let old = i_has_open p in grind arith

take_slot_asked_open : (c : Client) (conns : ℕ → Conn) (a : ℕ → ℕ) (g s : ℕ) → (c.sent g ≡ false) → AskedOpen c
    → AskedOpen (take_slot c g s)
take_slot_asked_open c conns a g s new i_asked_open =
    λ p. let old = i_asked_open p in grind arith

take_slot_fresh : (c : Client) (conns : ℕ → Conn) (a : ℕ → ℕ) (g s : ℕ) → (c.sent g ≡ false) → Fresh c a → Fresh (take_slot c g s) a
take_slot_fresh c conns a g s new i_fresh =
    λ p. let old = i_fresh p in grind arith

take_slot_bodies : (c : Client) (conns : ℕ → Conn) (a : ℕ → ℕ) (g s : ℕ) → (c.sent g ≡ false) → Bodies c conns
    → Bodies (take_slot c g s) conns
take_slot_bodies c conns a g s new i_bodies =
    λ j n p x. let old = i_bodies j n p x in grind (arith, get-push)

take_slot_first : (c : Client) (conns : ℕ → Conn) (a : ℕ → ℕ) (g s : ℕ) → (c.sent g ≡ false) → First c conns a
    → First (take_slot c g s) conns a
take_slot_first c conns a g s new i_first =
    λ j n p x. let old = i_first j n p x in grind (arith, get-push)

take_slot_unsent : (c : Client) (conns : ℕ → Conn) (a : ℕ → ℕ) (g s : ℕ) → (c.sent g ≡ false) → Unsent c a → Unsent (take_slot c g s) a
take_slot_unsent c conns a g s new i_unsent =
    λ p. let old = i_unsent p in grind arith

take_slot_sent_replies : (c : Client) (conns : ℕ → Conn) (a : ℕ → ℕ) (g s : ℕ) → (c.sent g ≡ false)
    → SentReplies c conns → SentReplies (take_slot c g s) conns
take_slot_sent_replies c conns a g s new i_sent_replies =
    λ j n p y. let old = i_sent_replies j n p y in grind (arith, get-push)

take_slot_deleted : (c : Client) (conns : ℕ → Conn) (a : ℕ → ℕ) (g s : ℕ) → (c.sent g ≡ false) → Deleted c conns a
    → Deleted (take_slot c g s) conns a
take_slot_deleted c conns a g s new i_deleted =
    λ j n p y. let old = i_deleted j n p y in grind (arith, get-push)

pub take_slot_keeps : (c : Client) (conns : ℕ → Conn) (a : ℕ → ℕ) (g s : ℕ) → (c.sent g ≡ false) → Connections c conns a
    → Connections (take_slot c g s) conns a
take_slot_keeps c conns a g s new i =
    record {
      once = take_slot_once c conns a g s new i.once;
      outstanding = take_slot_outstanding c conns a g s new i.outstanding;
      own_up = take_slot_own_up c conns a g s new i.own_up;
      attach_up = take_slot_attach_up c conns a g s new i.attach_up;
      own_down = take_slot_own_down c conns a g s new i.own_down;
      attach_down = take_slot_attach_down c conns a g s new i.attach_down;
      down_open = take_slot_down_open c conns a g s new i.down_open;
      on_ready = take_slot_on_ready c conns a g s new i.on_ready;
      ready = take_slot_ready c conns a g s new i.ready;
      stages = take_slot_stages c conns a g s new i.stages;
      settled = take_slot_settled c conns a g s new i.settled;
      taken = take_slot_taken c conns a g s new i.taken;
      taken_on = take_slot_taken_on c conns a g s new i.taken_on;
      creates = take_slot_creates c conns a g s new i.creates;
      lower = take_slot_lower c conns a g s new i.lower;
      has_open = take_slot_has_open c conns a g s new i.has_open;
      asked_open = take_slot_asked_open c conns a g s new i.asked_open;
      fresh = take_slot_fresh c conns a g s new i.fresh;
      bodies = take_slot_bodies c conns a g s new i.bodies;
      first = take_slot_first c conns a g s new i.first;
      unsent = take_slot_unsent c conns a g s new i.unsent;
      sent_replies = take_slot_sent_replies c conns a g s new i.sent_replies;
      deleted = take_slot_deleted c conns a g s new i.deleted;
    }
