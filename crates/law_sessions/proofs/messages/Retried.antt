-- Written by tools/law_connections.py. A slot's lock goes out again.
use Rattle.std.proofs.Common.{ℕ, arith}
use Rattle.spec_exchange.specs.Table.{put2}
use Rattle.spec_exchange.specs.Client.{Client}
use Rattle.spec_exchange.specs.Network.{Conn}
use Rattle.law_sessions.specs.messages.Connections.{Connections, Once, Outstanding, OwnUp, AttachUp, OwnDown, AttachDown}
use Rattle.law_sessions.specs.messages.Connections.{DownOpen, OnReady, Ready, Stages, Settled, Taken, TakenOn, Creates, Lower}
use Rattle.law_sessions.specs.messages.Connections.{HasOpen, AskedOpen, Fresh, Bodies, First, Unsent, SentReplies, Deleted}
use Rattle.law_sessions.proofs.messages.Lists.{get-push, count_up-push, count_down-push}

retried_once : (c : Client) (conns : ℕ → Conn) (a : ℕ → ℕ) (create slot : ℕ) → Once conns → Once conns
retried_once c conns a create slot i_once =
    grind (arith, count_up-push, count_down-push)

retried_outstanding : (c : Client) (conns : ℕ → Conn) (a : ℕ → ℕ) (create slot : ℕ) → Outstanding c conns
    → Outstanding (record c { retried = put2 c.retried create slot c.session_number }) conns
retried_outstanding c conns a create slot i_outstanding =
    grind (arith, count_up-push, count_down-push)

retried_own_up : (c : Client) (conns : ℕ → Conn) (a : ℕ → ℕ) (create slot : ℕ) → OwnUp c conns → OwnUp (record c {
  retried = put2 c.retried create slot c.session_number;
}) conns
retried_own_up c conns a create slot i_own_up =
    λ j n p x. let old = i_own_up j n p x in grind (arith, get-push)

retried_attach_up : (c : Client) (conns : ℕ → Conn) (a : ℕ → ℕ) (create slot : ℕ) → AttachUp c conns
    → AttachUp (record c { retried = put2 c.retried create slot c.session_number }) conns
retried_attach_up c conns a create slot i_attach_up =
    λ j n p x. let old = i_attach_up j n p x in grind (arith, get-push)

retried_own_down : (c : Client) (conns : ℕ → Conn) (a : ℕ → ℕ) (create slot : ℕ) → OwnDown c conns → OwnDown (record c {
  retried = put2 c.retried create slot c.session_number;
}) conns
retried_own_down c conns a create slot i_own_down =
    λ j n p y. let old = i_own_down j n p y in grind (arith, get-push)

retried_attach_down : (c : Client) (conns : ℕ → Conn) (a : ℕ → ℕ) (create slot : ℕ) → AttachDown c conns
    → AttachDown (record c { retried = put2 c.retried create slot c.session_number }) conns
retried_attach_down c conns a create slot i_attach_down =
    λ j n p y. let old = i_attach_down j n p y in grind (arith, get-push)

retried_down_open : (c : Client) (conns : ℕ → Conn) (a : ℕ → ℕ) (create slot : ℕ) → DownOpen conns → DownOpen conns
retried_down_open c conns a create slot i_down_open =
    λ j. let old = i_down_open j in grind (arith, get-push)

retried_on_ready : (c : Client) (conns : ℕ → Conn) (a : ℕ → ℕ) (create slot : ℕ) → OnReady c → OnReady (record c {
  retried = put2 c.retried create slot c.session_number;
})
retried_on_ready c conns a create slot i_on_ready =
    λ p j. let old = i_on_ready p j in grind arith

retried_ready : (c : Client) (conns : ℕ → Conn) (a : ℕ → ℕ) (create slot : ℕ) → Ready c conns → Ready (record c {
  retried = put2 c.retried create slot c.session_number;
}) conns
retried_ready c conns a create slot i_ready =
    λ j. let old = i_ready j in grind (arith, count_up-push, count_down-push)

retried_stages : (c : Client) (conns : ℕ → Conn) (a : ℕ → ℕ) (create slot : ℕ) → Stages c → Stages (record c {
  retried = put2 c.retried create slot c.session_number;
})
retried_stages c conns a create slot i_stages =
    λ j. let old = i_stages j in grind arith

retried_settled : (c : Client) (conns : ℕ → Conn) (a : ℕ → ℕ) (create slot : ℕ) → Settled c → Settled (record c {
  retried = put2 c.retried create slot c.session_number;
})
retried_settled c conns a create slot i_settled =
    λ p. let old = i_settled p in grind arith

retried_taken : (c : Client) (conns : ℕ → Conn) (a : ℕ → ℕ) (create slot : ℕ) → Taken c → Taken (record c {
  retried = put2 c.retried create slot c.session_number;
})
retried_taken c conns a create slot i_taken =
    λ p. let old = i_taken p in grind arith

retried_taken_on : (c : Client) (conns : ℕ → Conn) (a : ℕ → ℕ) (create slot : ℕ) → TakenOn c → TakenOn (record c {
  retried = put2 c.retried create slot c.session_number;
})
retried_taken_on c conns a create slot i_taken_on =
    λ p. let old = i_taken_on p in grind arith

retried_creates : (c : Client) (conns : ℕ → Conn) (a : ℕ → ℕ) (create slot : ℕ) → Creates c → Creates (record c {
  retried = put2 c.retried create slot c.session_number;
})
retried_creates c conns a create slot i_creates =
    λ p. let old = i_creates p in grind arith

retried_lower : (c : Client) (conns : ℕ → Conn) (a : ℕ → ℕ) (create slot : ℕ) → Lower c → Lower (record c {
  retried = put2 c.retried create slot c.session_number;
})
retried_lower c conns a create slot i_lower =
    λ p q. let old = i_lower p q in grind arith

retried_has_open : (c : Client) (conns : ℕ → Conn) (a : ℕ → ℕ) (create slot : ℕ) → HasOpen c → HasOpen (record c {
  retried = put2 c.retried create slot c.session_number;
})
retried_has_open c conns a create slot i_has_open =
    λ p. let old = i_has_open p in grind arith

retried_asked_open : (c : Client) (conns : ℕ → Conn) (a : ℕ → ℕ) (create slot : ℕ) → AskedOpen c → AskedOpen (record c {
  retried = put2 c.retried create slot c.session_number;
})
retried_asked_open c conns a create slot i_asked_open =
    λ p. let old = i_asked_open p in grind arith

retried_fresh : (c : Client) (conns : ℕ → Conn) (a : ℕ → ℕ) (create slot : ℕ) → Fresh c a → Fresh (record c {
  retried = put2 c.retried create slot c.session_number;
}) a
retried_fresh c conns a create slot i_fresh =
    λ p. let old = i_fresh p in grind arith

retried_bodies : (c : Client) (conns : ℕ → Conn) (a : ℕ → ℕ) (create slot : ℕ) → Bodies c conns → Bodies (record c {
  retried = put2 c.retried create slot c.session_number;
}) conns
retried_bodies c conns a create slot i_bodies =
    λ j n p x. let old = i_bodies j n p x in grind (arith, get-push)

retried_first : (c : Client) (conns : ℕ → Conn) (a : ℕ → ℕ) (create slot : ℕ) → First c conns a → First (record c {
  retried = put2 c.retried create slot c.session_number;
}) conns a
retried_first c conns a create slot i_first =
    λ j n p x. let old = i_first j n p x in grind (arith, get-push)

retried_unsent : (c : Client) (conns : ℕ → Conn) (a : ℕ → ℕ) (create slot : ℕ) → Unsent c a → Unsent (record c {
  retried = put2 c.retried create slot c.session_number;
}) a
retried_unsent c conns a create slot i_unsent =
    λ p. let old = i_unsent p in grind arith

retried_sent_replies : (c : Client) (conns : ℕ → Conn) (a : ℕ → ℕ) (create slot : ℕ) → SentReplies c conns
    → SentReplies (record c { retried = put2 c.retried create slot c.session_number }) conns
retried_sent_replies c conns a create slot i_sent_replies =
    λ j n p y. let old = i_sent_replies j n p y in grind (arith, get-push)

retried_deleted : (c : Client) (conns : ℕ → Conn) (a : ℕ → ℕ) (create slot : ℕ) → Deleted c conns a
    → Deleted (record c { retried = put2 c.retried create slot c.session_number }) conns a
retried_deleted c conns a create slot i_deleted =
    λ j n p y. let old = i_deleted j n p y in grind (arith, get-push)

pub retried_keeps : (c : Client) (conns : ℕ → Conn) (a : ℕ → ℕ) (create slot : ℕ) → Connections c conns a
    → Connections (record c { retried = put2 c.retried create slot c.session_number }) conns a
retried_keeps c conns a create slot i =
    record {
      once = retried_once c conns a create slot i.once;
      outstanding = retried_outstanding c conns a create slot i.outstanding;
      own_up = retried_own_up c conns a create slot i.own_up;
      attach_up = retried_attach_up c conns a create slot i.attach_up;
      own_down = retried_own_down c conns a create slot i.own_down;
      attach_down = retried_attach_down c conns a create slot i.attach_down;
      down_open = retried_down_open c conns a create slot i.down_open;
      on_ready = retried_on_ready c conns a create slot i.on_ready;
      ready = retried_ready c conns a create slot i.ready;
      stages = retried_stages c conns a create slot i.stages;
      settled = retried_settled c conns a create slot i.settled;
      taken = retried_taken c conns a create slot i.taken;
      taken_on = retried_taken_on c conns a create slot i.taken_on;
      creates = retried_creates c conns a create slot i.creates;
      lower = retried_lower c conns a create slot i.lower;
      has_open = retried_has_open c conns a create slot i.has_open;
      asked_open = retried_asked_open c conns a create slot i.asked_open;
      fresh = retried_fresh c conns a create slot i.fresh;
      bodies = retried_bodies c conns a create slot i.bodies;
      first = retried_first c conns a create slot i.first;
      unsent = retried_unsent c conns a create slot i.unsent;
      sent_replies = retried_sent_replies c conns a create slot i.sent_replies;
      deleted = retried_deleted c conns a create slot i.deleted;
    }
