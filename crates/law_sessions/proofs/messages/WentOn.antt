-- Written by tools/law_connections.py. A dialog goes on.
use Rattle.std.proofs.Common.{◌≡◌, ℕ, true, arith}
use Rattle.spec_exchange.specs.State.{Reply}
use Rattle.spec_exchange.specs.Client.{Client, Stage}
use Rattle.spec_exchange.specs.Dialogs.{went_on}
use Rattle.spec_exchange.specs.Network.{Conn}
use Rattle.law_sessions.specs.messages.Connections.{Connections, is_bound, Once, Outstanding, OwnUp, AttachUp, OwnDown}
use Rattle.law_sessions.specs.messages.Connections.{AttachDown, DownOpen, OnReady, Ready, Stages, Settled, Taken, TakenOn}
use Rattle.law_sessions.specs.messages.Connections.{Creates, Lower, HasOpen, AskedOpen, Fresh, Bodies, First, Unsent}
use Rattle.law_sessions.specs.messages.Connections.{SentReplies, Deleted}
use Rattle.law_sessions.proofs.messages.Lists.{get-push, count_up-push, count_down-push}

went_on_once : (c : Client) (conns : ℕ → Conn) (a : ℕ → ℕ) (k : ℕ) (stage : Stage) (r : Reply) → Once conns → Once conns
went_on_once c conns a k stage r i_once =
    grind (arith, count_up-push, count_down-push)

went_on_outstanding : (c : Client) (conns : ℕ → Conn) (a : ℕ → ℕ) (k : ℕ) (stage : Stage) (r : Reply)
    → Outstanding c conns → Outstanding (went_on c k stage r) conns
went_on_outstanding c conns a k stage r i_outstanding =
    grind (arith, count_up-push, count_down-push)

went_on_own_up : (c : Client) (conns : ℕ → Conn) (a : ℕ → ℕ) (k : ℕ) (stage : Stage) (r : Reply) → OwnUp c conns
    → OwnUp (went_on c k stage r) conns
went_on_own_up c conns a k stage r i_own_up =
    λ j n p x. let old = i_own_up j n p x in grind (arith, get-push)

went_on_attach_up : (c : Client) (conns : ℕ → Conn) (a : ℕ → ℕ) (k : ℕ) (stage : Stage) (r : Reply) → AttachUp c conns
    → AttachUp (went_on c k stage r) conns
went_on_attach_up c conns a k stage r i_attach_up =
    λ j n p x. let old = i_attach_up j n p x in grind (arith, get-push)

went_on_own_down : (c : Client) (conns : ℕ → Conn) (a : ℕ → ℕ) (k : ℕ) (stage : Stage) (r : Reply) → OwnDown c conns
    → OwnDown (went_on c k stage r) conns
went_on_own_down c conns a k stage r i_own_down =
    λ j n p y. let old = i_own_down j n p y in grind (arith, get-push)

went_on_attach_down : (c : Client) (conns : ℕ → Conn) (a : ℕ → ℕ) (k : ℕ) (stage : Stage) (r : Reply)
    → AttachDown c conns → AttachDown (went_on c k stage r) conns
went_on_attach_down c conns a k stage r i_attach_down =
    λ j n p y. let old = i_attach_down j n p y in grind (arith, get-push)

went_on_down_open : (c : Client) (conns : ℕ → Conn) (a : ℕ → ℕ) (k : ℕ) (stage : Stage) (r : Reply) → DownOpen conns → DownOpen conns
went_on_down_open c conns a k stage r i_down_open =
    λ j. let old = i_down_open j in grind (arith, get-push)

went_on_on_ready : (c : Client) (conns : ℕ → Conn) (a : ℕ → ℕ) (k : ℕ) (stage : Stage) (r : Reply) → OnReady c
    → OnReady (went_on c k stage r)
went_on_on_ready c conns a k stage r i_on_ready =
    λ p j. let old = i_on_ready p j in grind arith

went_on_ready : (c : Client) (conns : ℕ → Conn) (a : ℕ → ℕ) (k : ℕ) (stage : Stage) (r : Reply) → Ready c conns
    → Ready (went_on c k stage r) conns
went_on_ready c conns a k stage r i_ready =
    λ j. let old = i_ready j in grind (arith, count_up-push, count_down-push)

went_on_stages : (c : Client) (conns : ℕ → Conn) (a : ℕ → ℕ) (k : ℕ) (stage : Stage) (r : Reply)
    → (is_bound stage ≡ true → c.live ≡ true) → Stages c → Stages (went_on c k stage r)
went_on_stages c conns a k stage r live i_stages =
    λ j. let old = i_stages j in let l = live in grind arith

went_on_settled : (c : Client) (conns : ℕ → Conn) (a : ℕ → ℕ) (k : ℕ) (stage : Stage) (r : Reply) → Settled c
    → Settled (went_on c k stage r)
went_on_settled c conns a k stage r i_settled =
    λ p. let old = i_settled p in grind arith

went_on_taken : (c : Client) (conns : ℕ → Conn) (a : ℕ → ℕ) (k : ℕ) (stage : Stage) (r : Reply) → Taken c → Taken (went_on c k stage r)
went_on_taken c conns a k stage r i_taken =
    λ p. let old = i_taken p in grind arith

went_on_taken_on : (c : Client) (conns : ℕ → Conn) (a : ℕ → ℕ) (k : ℕ) (stage : Stage) (r : Reply) → TakenOn c
    → TakenOn (went_on c k stage r)
went_on_taken_on c conns a k stage r i_taken_on =
    λ p. let old = i_taken_on p in grind arith

went_on_creates : (c : Client) (conns : ℕ → Conn) (a : ℕ → ℕ) (k : ℕ) (stage : Stage) (r : Reply) → Creates c
    → Creates (went_on c k stage r)
went_on_creates c conns a k stage r i_creates =
    λ p. let old = i_creates p in grind arith

went_on_lower : (c : Client) (conns : ℕ → Conn) (a : ℕ → ℕ) (k : ℕ) (stage : Stage) (r : Reply) → Lower c → Lower (went_on c k stage r)
went_on_lower c conns a k stage r i_lower =
    λ p q. let old = i_lower p q in grind arith

went_on_has_open : (c : Client) (conns : ℕ → Conn) (a : ℕ → ℕ) (k : ℕ) (stage : Stage) (r : Reply) → HasOpen c
    → HasOpen (went_on c k stage r)
went_on_has_open c conns a k stage r i_has_open =
    λ p. let old = i_has_open p in grind arith

went_on_asked_open : (c : Client) (conns : ℕ → Conn) (a : ℕ → ℕ) (k : ℕ) (stage : Stage) (r : Reply) → AskedOpen c
    → AskedOpen (went_on c k stage r)
went_on_asked_open c conns a k stage r i_asked_open =
    λ p. let old = i_asked_open p in grind arith

went_on_fresh : (c : Client) (conns : ℕ → Conn) (a : ℕ → ℕ) (k : ℕ) (stage : Stage) (r : Reply) → Fresh c a → Fresh (went_on c k stage r) a
went_on_fresh c conns a k stage r i_fresh =
    λ p. let old = i_fresh p in grind arith

went_on_bodies : (c : Client) (conns : ℕ → Conn) (a : ℕ → ℕ) (k : ℕ) (stage : Stage) (r : Reply) → Bodies c conns
    → Bodies (went_on c k stage r) conns
went_on_bodies c conns a k stage r i_bodies =
    λ j n p x. let old = i_bodies j n p x in grind (arith, get-push)

went_on_first : (c : Client) (conns : ℕ → Conn) (a : ℕ → ℕ) (k : ℕ) (stage : Stage) (r : Reply) → First c conns a
    → First (went_on c k stage r) conns a
went_on_first c conns a k stage r i_first =
    λ j n p x. let old = i_first j n p x in grind (arith, get-push)

went_on_unsent : (c : Client) (conns : ℕ → Conn) (a : ℕ → ℕ) (k : ℕ) (stage : Stage) (r : Reply) → Unsent c a
    → Unsent (went_on c k stage r) a
went_on_unsent c conns a k stage r i_unsent =
    λ p. let old = i_unsent p in grind arith

went_on_sent_replies : (c : Client) (conns : ℕ → Conn) (a : ℕ → ℕ) (k : ℕ) (stage : Stage) (r : Reply)
    → SentReplies c conns → SentReplies (went_on c k stage r) conns
went_on_sent_replies c conns a k stage r i_sent_replies =
    λ j n p y. let old = i_sent_replies j n p y in grind (arith, get-push)

went_on_deleted : (c : Client) (conns : ℕ → Conn) (a : ℕ → ℕ) (k : ℕ) (stage : Stage) (r : Reply) → Deleted c conns a
    → Deleted (went_on c k stage r) conns a
went_on_deleted c conns a k stage r i_deleted =
    λ j n p y. let old = i_deleted j n p y in grind (arith, get-push)

pub went_on_keeps : (c : Client) (conns : ℕ → Conn) (a : ℕ → ℕ) (k : ℕ) (stage : Stage) (r : Reply)
    → (is_bound stage ≡ true → c.live ≡ true) → Connections c conns a → Connections (went_on c k stage r) conns a
went_on_keeps c conns a k stage r live i =
    record {
      once = went_on_once c conns a k stage r i.once;
      outstanding = went_on_outstanding c conns a k stage r i.outstanding;
      own_up = went_on_own_up c conns a k stage r i.own_up;
      attach_up = went_on_attach_up c conns a k stage r i.attach_up;
      own_down = went_on_own_down c conns a k stage r i.own_down;
      attach_down = went_on_attach_down c conns a k stage r i.attach_down;
      down_open = went_on_down_open c conns a k stage r i.down_open;
      on_ready = went_on_on_ready c conns a k stage r i.on_ready;
      ready = went_on_ready c conns a k stage r i.ready;
      stages = went_on_stages c conns a k stage r live i.stages;
      settled = went_on_settled c conns a k stage r i.settled;
      taken = went_on_taken c conns a k stage r i.taken;
      taken_on = went_on_taken_on c conns a k stage r i.taken_on;
      creates = went_on_creates c conns a k stage r i.creates;
      lower = went_on_lower c conns a k stage r i.lower;
      has_open = went_on_has_open c conns a k stage r i.has_open;
      asked_open = went_on_asked_open c conns a k stage r i.asked_open;
      fresh = went_on_fresh c conns a k stage r i.fresh;
      bodies = went_on_bodies c conns a k stage r i.bodies;
      first = went_on_first c conns a k stage r i.first;
      unsent = went_on_unsent c conns a k stage r i.unsent;
      sent_replies = went_on_sent_replies c conns a k stage r i.sent_replies;
      deleted = went_on_deleted c conns a k stage r i.deleted;
    }
