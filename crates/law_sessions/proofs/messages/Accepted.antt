-- Written by tools/law_connections.py. A new session is accepted.
use Rattle.std.proofs.Common.{ℕ, arith}
use Rattle.spec_exchange.specs.Client.{Client}
use Rattle.spec_exchange.specs.Dialogs.{accepted}
use Rattle.spec_exchange.specs.Network.{Conn}
use Rattle.law_sessions.specs.messages.Connections.{Connections, Once, Outstanding, OwnUp, AttachUp, OwnDown, AttachDown}
use Rattle.law_sessions.specs.messages.Connections.{DownOpen, OnReady, Ready, Stages, Settled, Taken, TakenOn, Creates, Lower}
use Rattle.law_sessions.specs.messages.Connections.{HasOpen, AskedOpen, Fresh, Bodies, First, Unsent, SentReplies, Deleted}
use Rattle.law_sessions.proofs.messages.Lists.{get-push, count_up-push, count_down-push}

accepted_once : (c : Client) (conns : ℕ → Conn) (a : ℕ → ℕ) (k : ℕ) → Once conns → Once conns
accepted_once c conns a k i_once =
    grind (arith, count_up-push, count_down-push)

accepted_outstanding : (c : Client) (conns : ℕ → Conn) (a : ℕ → ℕ) (k : ℕ) → Outstanding c conns → Outstanding (accepted c k) conns
accepted_outstanding c conns a k i_outstanding =
    grind (arith, count_up-push, count_down-push)

accepted_own_up : (c : Client) (conns : ℕ → Conn) (a : ℕ → ℕ) (k : ℕ) → OwnUp c conns → OwnUp (accepted c k) conns
accepted_own_up c conns a k i_own_up =
    λ j n p x. let old = i_own_up j n p x in grind (arith, get-push)

accepted_attach_up : (c : Client) (conns : ℕ → Conn) (a : ℕ → ℕ) (k : ℕ) → AttachUp c conns → AttachUp (accepted c k) conns
accepted_attach_up c conns a k i_attach_up =
    λ j n p x. let old = i_attach_up j n p x in grind (arith, get-push)

accepted_own_down : (c : Client) (conns : ℕ → Conn) (a : ℕ → ℕ) (k : ℕ) → OwnDown c conns → OwnDown (accepted c k) conns
accepted_own_down c conns a k i_own_down =
    λ j n p y. let old = i_own_down j n p y in grind (arith, get-push)

accepted_attach_down : (c : Client) (conns : ℕ → Conn) (a : ℕ → ℕ) (k : ℕ) → AttachDown c conns → AttachDown (accepted c k) conns
accepted_attach_down c conns a k i_attach_down =
    λ j n p y. let old = i_attach_down j n p y in grind (arith, get-push)

accepted_down_open : (c : Client) (conns : ℕ → Conn) (a : ℕ → ℕ) (k : ℕ) → DownOpen conns → DownOpen conns
accepted_down_open c conns a k i_down_open =
    λ j. let old = i_down_open j in grind (arith, get-push)

accepted_on_ready : (c : Client) (conns : ℕ → Conn) (a : ℕ → ℕ) (k : ℕ) → OnReady c → OnReady (accepted c k)
accepted_on_ready c conns a k i_on_ready =
    λ p j. let old = i_on_ready p j in grind arith

accepted_ready : (c : Client) (conns : ℕ → Conn) (a : ℕ → ℕ) (k : ℕ) → Ready c conns → Ready (accepted c k) conns
accepted_ready c conns a k i_ready =
    λ j. let old = i_ready j in grind (arith, count_up-push, count_down-push)

accepted_stages : (c : Client) (conns : ℕ → Conn) (a : ℕ → ℕ) (k : ℕ) → Stages c → Stages (accepted c k)
accepted_stages c conns a k i_stages =
    λ j. let old = i_stages j in grind arith

accepted_settled : (c : Client) (conns : ℕ → Conn) (a : ℕ → ℕ) (k : ℕ) → Settled c → Settled (accepted c k)
accepted_settled c conns a k i_settled =
    λ p. let old = i_settled p in grind arith

accepted_taken : (c : Client) (conns : ℕ → Conn) (a : ℕ → ℕ) (k : ℕ) → Taken c → Taken (accepted c k)
accepted_taken c conns a k i_taken =
    λ p. let old = i_taken p in grind arith

accepted_taken_on : (c : Client) (conns : ℕ → Conn) (a : ℕ → ℕ) (k : ℕ) → TakenOn c → TakenOn (accepted c k)
accepted_taken_on c conns a k i_taken_on =
    λ p. let old = i_taken_on p in grind arith

accepted_creates : (c : Client) (conns : ℕ → Conn) (a : ℕ → ℕ) (k : ℕ) → Creates c → Creates (accepted c k)
accepted_creates c conns a k i_creates =
    λ p. let old = i_creates p in grind arith

accepted_lower : (c : Client) (conns : ℕ → Conn) (a : ℕ → ℕ) (k : ℕ) → Lower c → Lower (accepted c k)
accepted_lower c conns a k i_lower =
    λ p q. let old = i_lower p q in grind arith

accepted_has_open : (c : Client) (conns : ℕ → Conn) (a : ℕ → ℕ) (k : ℕ) → HasOpen c → HasOpen (accepted c k)
accepted_has_open c conns a k i_has_open =
    λ p. let old = i_has_open p in grind arith

accepted_asked_open : (c : Client) (conns : ℕ → Conn) (a : ℕ → ℕ) (k : ℕ) → AskedOpen c → AskedOpen (accepted c k)
accepted_asked_open c conns a k i_asked_open =
    λ p. let old = i_asked_open p in grind arith

accepted_fresh : (c : Client) (conns : ℕ → Conn) (a : ℕ → ℕ) (k : ℕ) → Fresh c a → Fresh (accepted c k) a
accepted_fresh c conns a k i_fresh =
    λ p. let old = i_fresh p in grind arith

accepted_bodies : (c : Client) (conns : ℕ → Conn) (a : ℕ → ℕ) (k : ℕ) → Bodies c conns → Bodies (accepted c k) conns
accepted_bodies c conns a k i_bodies =
    λ j n p x. let old = i_bodies j n p x in grind (arith, get-push)

accepted_first : (c : Client) (conns : ℕ → Conn) (a : ℕ → ℕ) (k : ℕ) → First c conns a → First (accepted c k) conns a
accepted_first c conns a k i_first =
    λ j n p x. let old = i_first j n p x in grind (arith, get-push)

accepted_unsent : (c : Client) (conns : ℕ → Conn) (a : ℕ → ℕ) (k : ℕ) → Unsent c a → Unsent (accepted c k) a
accepted_unsent c conns a k i_unsent =
    λ p. let old = i_unsent p in grind arith

accepted_sent_replies : (c : Client) (conns : ℕ → Conn) (a : ℕ → ℕ) (k : ℕ) → SentReplies c conns → SentReplies (accepted c k) conns
accepted_sent_replies c conns a k i_sent_replies =
    λ j n p y. let old = i_sent_replies j n p y in grind (arith, get-push)

accepted_deleted : (c : Client) (conns : ℕ → Conn) (a : ℕ → ℕ) (k : ℕ) → Deleted c conns a → Deleted (accepted c k) conns a
accepted_deleted c conns a k i_deleted =
    λ j n p y. let old = i_deleted j n p y in grind (arith, get-push)

pub accepted_keeps : (c : Client) (conns : ℕ → Conn) (a : ℕ → ℕ) (k : ℕ) → Connections c conns a → Connections (accepted c k) conns a
accepted_keeps c conns a k i =
    record {
      once = accepted_once c conns a k i.once;
      outstanding = accepted_outstanding c conns a k i.outstanding;
      own_up = accepted_own_up c conns a k i.own_up;
      attach_up = accepted_attach_up c conns a k i.attach_up;
      own_down = accepted_own_down c conns a k i.own_down;
      attach_down = accepted_attach_down c conns a k i.attach_down;
      down_open = accepted_down_open c conns a k i.down_open;
      on_ready = accepted_on_ready c conns a k i.on_ready;
      ready = accepted_ready c conns a k i.ready;
      stages = accepted_stages c conns a k i.stages;
      settled = accepted_settled c conns a k i.settled;
      taken = accepted_taken c conns a k i.taken;
      taken_on = accepted_taken_on c conns a k i.taken_on;
      creates = accepted_creates c conns a k i.creates;
      lower = accepted_lower c conns a k i.lower;
      has_open = accepted_has_open c conns a k i.has_open;
      asked_open = accepted_asked_open c conns a k i.asked_open;
      fresh = accepted_fresh c conns a k i.fresh;
      bodies = accepted_bodies c conns a k i.bodies;
      first = accepted_first c conns a k i.first;
      unsent = accepted_unsent c conns a k i.unsent;
      sent_replies = accepted_sent_replies c conns a k i.sent_replies;
      deleted = accepted_deleted c conns a k i.deleted;
    }
