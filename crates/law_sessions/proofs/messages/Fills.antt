-- Written by tools/law_connections.py. A lock met a full disk.
use Rattle.std.proofs.Common.{ℕ, true, arith}
use Rattle.spec_exchange.specs.Table.{put2}
use Rattle.spec_exchange.specs.Client.{Client}
use Rattle.spec_exchange.specs.Network.{Conn}
use Rattle.law_sessions.specs.messages.Connections.{Connections, Once, Outstanding, OwnUp, AttachUp, OwnDown, AttachDown}
use Rattle.law_sessions.specs.messages.Connections.{DownOpen, OnReady, Ready, Stages, Settled, Taken, TakenOn, Creates, Lower}
use Rattle.law_sessions.specs.messages.Connections.{HasOpen, AskedOpen, Fresh, Bodies, First, Unsent, SentReplies, Deleted}
use Rattle.law_sessions.proofs.messages.Lists.{get-push, count_up-push, count_down-push}

fills_once : (c : Client) (conns : ℕ → Conn) (a : ℕ → ℕ) (create slot : ℕ) → Once conns → Once conns
fills_once c conns a create slot i_once =
    grind (arith, count_up-push, count_down-push)

fills_outstanding : (c : Client) (conns : ℕ → Conn) (a : ℕ → ℕ) (create slot : ℕ) → Outstanding c conns
    → Outstanding (record c { full = put2 c.full create slot true }) conns
fills_outstanding c conns a create slot i_outstanding =
    grind (arith, count_up-push, count_down-push)

fills_own_up : (c : Client) (conns : ℕ → Conn) (a : ℕ → ℕ) (create slot : ℕ) → OwnUp c conns → OwnUp (record c {
  full = put2 c.full create slot true;
}) conns
fills_own_up c conns a create slot i_own_up =
    λ j n p x. let old = i_own_up j n p x in grind (arith, get-push)

fills_attach_up : (c : Client) (conns : ℕ → Conn) (a : ℕ → ℕ) (create slot : ℕ) → AttachUp c conns
    → AttachUp (record c { full = put2 c.full create slot true }) conns
fills_attach_up c conns a create slot i_attach_up =
    λ j n p x. let old = i_attach_up j n p x in grind (arith, get-push)

fills_own_down : (c : Client) (conns : ℕ → Conn) (a : ℕ → ℕ) (create slot : ℕ) → OwnDown c conns → OwnDown (record c {
  full = put2 c.full create slot true;
}) conns
fills_own_down c conns a create slot i_own_down =
    λ j n p y. let old = i_own_down j n p y in grind (arith, get-push)

fills_attach_down : (c : Client) (conns : ℕ → Conn) (a : ℕ → ℕ) (create slot : ℕ) → AttachDown c conns
    → AttachDown (record c { full = put2 c.full create slot true }) conns
fills_attach_down c conns a create slot i_attach_down =
    λ j n p y. let old = i_attach_down j n p y in grind (arith, get-push)

fills_down_open : (c : Client) (conns : ℕ → Conn) (a : ℕ → ℕ) (create slot : ℕ) → DownOpen conns → DownOpen conns
fills_down_open c conns a create slot i_down_open =
    λ j. let old = i_down_open j in grind (arith, get-push)

fills_on_ready : (c : Client) (conns : ℕ → Conn) (a : ℕ → ℕ) (create slot : ℕ) → OnReady c → OnReady (record c {
  full = put2 c.full create slot true;
})
fills_on_ready c conns a create slot i_on_ready =
    λ p j. let old = i_on_ready p j in grind arith

fills_ready : (c : Client) (conns : ℕ → Conn) (a : ℕ → ℕ) (create slot : ℕ) → Ready c conns → Ready (record c {
  full = put2 c.full create slot true;
}) conns
fills_ready c conns a create slot i_ready =
    λ j. let old = i_ready j in grind (arith, count_up-push, count_down-push)

fills_stages : (c : Client) (conns : ℕ → Conn) (a : ℕ → ℕ) (create slot : ℕ) → Stages c → Stages (record c {
  full = put2 c.full create slot true;
})
fills_stages c conns a create slot i_stages =
    λ j. let old = i_stages j in grind arith

fills_settled : (c : Client) (conns : ℕ → Conn) (a : ℕ → ℕ) (create slot : ℕ) → Settled c → Settled (record c {
  full = put2 c.full create slot true;
})
fills_settled c conns a create slot i_settled =
    λ p. let old = i_settled p in grind arith

fills_taken : (c : Client) (conns : ℕ → Conn) (a : ℕ → ℕ) (create slot : ℕ) → Taken c → Taken (record c {
  full = put2 c.full create slot true;
})
fills_taken c conns a create slot i_taken =
    λ p. let old = i_taken p in grind arith

fills_taken_on : (c : Client) (conns : ℕ → Conn) (a : ℕ → ℕ) (create slot : ℕ) → TakenOn c → TakenOn (record c {
  full = put2 c.full create slot true;
})
fills_taken_on c conns a create slot i_taken_on =
    λ p. let old = i_taken_on p in grind arith

fills_creates : (c : Client) (conns : ℕ → Conn) (a : ℕ → ℕ) (create slot : ℕ) → Creates c → Creates (record c {
  full = put2 c.full create slot true;
})
fills_creates c conns a create slot i_creates =
    λ p. let old = i_creates p in grind arith

fills_lower : (c : Client) (conns : ℕ → Conn) (a : ℕ → ℕ) (create slot : ℕ) → Lower c → Lower (record c {
  full = put2 c.full create slot true;
})
fills_lower c conns a create slot i_lower =
    λ p q. let old = i_lower p q in grind arith

fills_has_open : (c : Client) (conns : ℕ → Conn) (a : ℕ → ℕ) (create slot : ℕ) → HasOpen c → HasOpen (record c {
  full = put2 c.full create slot true;
})
fills_has_open c conns a create slot i_has_open =
    λ p. let old = i_has_open p in grind arith

fills_asked_open : (c : Client) (conns : ℕ → Conn) (a : ℕ → ℕ) (create slot : ℕ) → AskedOpen c → AskedOpen (record c {
  full = put2 c.full create slot true;
})
fills_asked_open c conns a create slot i_asked_open =
    λ p. let old = i_asked_open p in grind arith

fills_fresh : (c : Client) (conns : ℕ → Conn) (a : ℕ → ℕ) (create slot : ℕ) → Fresh c a → Fresh (record c {
  full = put2 c.full create slot true;
}) a
fills_fresh c conns a create slot i_fresh =
    λ p. let old = i_fresh p in grind arith

fills_bodies : (c : Client) (conns : ℕ → Conn) (a : ℕ → ℕ) (create slot : ℕ) → Bodies c conns → Bodies (record c {
  full = put2 c.full create slot true;
}) conns
fills_bodies c conns a create slot i_bodies =
    λ j n p x. let old = i_bodies j n p x in grind (arith, get-push)

fills_first : (c : Client) (conns : ℕ → Conn) (a : ℕ → ℕ) (create slot : ℕ) → First c conns a → First (record c {
  full = put2 c.full create slot true;
}) conns a
fills_first c conns a create slot i_first =
    λ j n p x. let old = i_first j n p x in grind (arith, get-push)

fills_unsent : (c : Client) (conns : ℕ → Conn) (a : ℕ → ℕ) (create slot : ℕ) → Unsent c a → Unsent (record c {
  full = put2 c.full create slot true;
}) a
fills_unsent c conns a create slot i_unsent =
    λ p. let old = i_unsent p in grind arith

fills_sent_replies : (c : Client) (conns : ℕ → Conn) (a : ℕ → ℕ) (create slot : ℕ) → SentReplies c conns
    → SentReplies (record c { full = put2 c.full create slot true }) conns
fills_sent_replies c conns a create slot i_sent_replies =
    λ j n p y. let old = i_sent_replies j n p y in grind (arith, get-push)

fills_deleted : (c : Client) (conns : ℕ → Conn) (a : ℕ → ℕ) (create slot : ℕ) → Deleted c conns a → Deleted (record c {
  full = put2 c.full create slot true;
}) conns a
fills_deleted c conns a create slot i_deleted =
    λ j n p y. let old = i_deleted j n p y in grind (arith, get-push)

pub fills_keeps : (c : Client) (conns : ℕ → Conn) (a : ℕ → ℕ) (create slot : ℕ) → Connections c conns a
    → Connections (record c { full = put2 c.full create slot true }) conns a
fills_keeps c conns a create slot i =
    record {
      once = fills_once c conns a create slot i.once;
      outstanding = fills_outstanding c conns a create slot i.outstanding;
      own_up = fills_own_up c conns a create slot i.own_up;
      attach_up = fills_attach_up c conns a create slot i.attach_up;
      own_down = fills_own_down c conns a create slot i.own_down;
      attach_down = fills_attach_down c conns a create slot i.attach_down;
      down_open = fills_down_open c conns a create slot i.down_open;
      on_ready = fills_on_ready c conns a create slot i.on_ready;
      ready = fills_ready c conns a create slot i.ready;
      stages = fills_stages c conns a create slot i.stages;
      settled = fills_settled c conns a create slot i.settled;
      taken = fills_taken c conns a create slot i.taken;
      taken_on = fills_taken_on c conns a create slot i.taken_on;
      creates = fills_creates c conns a create slot i.creates;
      lower = fills_lower c conns a create slot i.lower;
      has_open = fills_has_open c conns a create slot i.has_open;
      asked_open = fills_asked_open c conns a create slot i.asked_open;
      fresh = fills_fresh c conns a create slot i.fresh;
      bodies = fills_bodies c conns a create slot i.bodies;
      first = fills_first c conns a create slot i.first;
      unsent = fills_unsent c conns a create slot i.unsent;
      sent_replies = fills_sent_replies c conns a create slot i.sent_replies;
      deleted = fills_deleted c conns a create slot i.deleted;
    }
