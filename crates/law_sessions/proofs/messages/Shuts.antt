-- Written by tools/law_connections.py. A close shut its open.
use Rattle.std.proofs.Common.{ℕ, true, arith}
use Rattle.spec_exchange.specs.Table.{put}
use Rattle.spec_exchange.specs.Client.{Client}
use Rattle.spec_exchange.specs.Network.{Conn}
use Rattle.law_sessions.specs.messages.Connections.{Connections, Once, Outstanding, OwnUp, AttachUp, OwnDown, AttachDown}
use Rattle.law_sessions.specs.messages.Connections.{DownOpen, OnReady, Ready, Stages, Settled, Taken, TakenOn, Creates, Lower}
use Rattle.law_sessions.specs.messages.Connections.{HasOpen, AskedOpen, Fresh, Bodies, First, Unsent, SentReplies, Deleted}
use Rattle.law_sessions.proofs.messages.Lists.{get-push, count_up-push, count_down-push}

shuts_once : (c : Client) (conns : ℕ → Conn) (a : ℕ → ℕ) (create : ℕ) → Once conns → Once conns
shuts_once c conns a create i_once =
    grind (arith, count_up-push, count_down-push)

shuts_outstanding : (c : Client) (conns : ℕ → Conn) (a : ℕ → ℕ) (create : ℕ) → Outstanding c conns
    → Outstanding (record c { closed_ok = put c.closed_ok create true }) conns
shuts_outstanding c conns a create i_outstanding =
    grind (arith, count_up-push, count_down-push)

shuts_own_up : (c : Client) (conns : ℕ → Conn) (a : ℕ → ℕ) (create : ℕ) → OwnUp c conns → OwnUp (record c {
  closed_ok = put c.closed_ok create true;
}) conns
shuts_own_up c conns a create i_own_up =
    λ j n p x. let old = i_own_up j n p x in grind (arith, get-push)

shuts_attach_up : (c : Client) (conns : ℕ → Conn) (a : ℕ → ℕ) (create : ℕ) → AttachUp c conns → AttachUp (record c {
  closed_ok = put c.closed_ok create true;
}) conns
shuts_attach_up c conns a create i_attach_up =
    λ j n p x. let old = i_attach_up j n p x in grind (arith, get-push)

shuts_own_down : (c : Client) (conns : ℕ → Conn) (a : ℕ → ℕ) (create : ℕ) → OwnDown c conns → OwnDown (record c {
  closed_ok = put c.closed_ok create true;
}) conns
shuts_own_down c conns a create i_own_down =
    λ j n p y. let old = i_own_down j n p y in grind (arith, get-push)

shuts_attach_down : (c : Client) (conns : ℕ → Conn) (a : ℕ → ℕ) (create : ℕ) → AttachDown c conns
    → AttachDown (record c { closed_ok = put c.closed_ok create true }) conns
shuts_attach_down c conns a create i_attach_down =
    λ j n p y. let old = i_attach_down j n p y in grind (arith, get-push)

shuts_down_open : (c : Client) (conns : ℕ → Conn) (a : ℕ → ℕ) (create : ℕ) → DownOpen conns → DownOpen conns
shuts_down_open c conns a create i_down_open =
    λ j. let old = i_down_open j in grind (arith, get-push)

shuts_on_ready : (c : Client) (conns : ℕ → Conn) (a : ℕ → ℕ) (create : ℕ) → OnReady c → OnReady (record c {
  closed_ok = put c.closed_ok create true;
})
shuts_on_ready c conns a create i_on_ready =
    λ p j. let old = i_on_ready p j in grind arith

shuts_ready : (c : Client) (conns : ℕ → Conn) (a : ℕ → ℕ) (create : ℕ) → Ready c conns → Ready (record c {
  closed_ok = put c.closed_ok create true;
}) conns
shuts_ready c conns a create i_ready =
    λ j. let old = i_ready j in grind (arith, count_up-push, count_down-push)

shuts_stages : (c : Client) (conns : ℕ → Conn) (a : ℕ → ℕ) (create : ℕ) → Stages c → Stages (record c {
  closed_ok = put c.closed_ok create true;
})
shuts_stages c conns a create i_stages =
    λ j. let old = i_stages j in grind arith

shuts_settled : (c : Client) (conns : ℕ → Conn) (a : ℕ → ℕ) (create : ℕ) → Settled c → Settled (record c {
  closed_ok = put c.closed_ok create true;
})
shuts_settled c conns a create i_settled =
    λ p. let old = i_settled p in grind arith

shuts_taken : (c : Client) (conns : ℕ → Conn) (a : ℕ → ℕ) (create : ℕ) → Taken c → Taken (record c {
  closed_ok = put c.closed_ok create true;
})
shuts_taken c conns a create i_taken =
    λ p. let old = i_taken p in grind arith

shuts_taken_on : (c : Client) (conns : ℕ → Conn) (a : ℕ → ℕ) (create : ℕ) → TakenOn c → TakenOn (record c {
  closed_ok = put c.closed_ok create true;
})
shuts_taken_on c conns a create i_taken_on =
    λ p. let old = i_taken_on p in grind arith

shuts_creates : (c : Client) (conns : ℕ → Conn) (a : ℕ → ℕ) (create : ℕ) → Creates c → Creates (record c {
  closed_ok = put c.closed_ok create true;
})
shuts_creates c conns a create i_creates =
    λ p. let old = i_creates p in grind arith

shuts_lower : (c : Client) (conns : ℕ → Conn) (a : ℕ → ℕ) (create : ℕ) → Lower c → Lower (record c {
  closed_ok = put c.closed_ok create true;
})
shuts_lower c conns a create i_lower =
    λ p q. let old = i_lower p q in grind arith

shuts_has_open : (c : Client) (conns : ℕ → Conn) (a : ℕ → ℕ) (create : ℕ) → HasOpen c → HasOpen (record c {
  closed_ok = put c.closed_ok create true;
})
shuts_has_open c conns a create i_has_open =
    λ p. let old = i_has_open p in grind arith

shuts_asked_open : (c : Client) (conns : ℕ → Conn) (a : ℕ → ℕ) (create : ℕ) → AskedOpen c → AskedOpen (record c {
  closed_ok = put c.closed_ok create true;
})
shuts_asked_open c conns a create i_asked_open =
    λ p. let old = i_asked_open p in grind arith

shuts_fresh : (c : Client) (conns : ℕ → Conn) (a : ℕ → ℕ) (create : ℕ) → Fresh c a → Fresh (record c {
  closed_ok = put c.closed_ok create true;
}) a
shuts_fresh c conns a create i_fresh =
    λ p. let old = i_fresh p in grind arith

shuts_bodies : (c : Client) (conns : ℕ → Conn) (a : ℕ → ℕ) (create : ℕ) → Bodies c conns → Bodies (record c {
  closed_ok = put c.closed_ok create true;
}) conns
shuts_bodies c conns a create i_bodies =
    λ j n p x. let old = i_bodies j n p x in grind (arith, get-push)

shuts_first : (c : Client) (conns : ℕ → Conn) (a : ℕ → ℕ) (create : ℕ) → First c conns a → First (record c {
  closed_ok = put c.closed_ok create true;
}) conns a
shuts_first c conns a create i_first =
    λ j n p x. let old = i_first j n p x in grind (arith, get-push)

shuts_unsent : (c : Client) (conns : ℕ → Conn) (a : ℕ → ℕ) (create : ℕ) → Unsent c a → Unsent (record c {
  closed_ok = put c.closed_ok create true;
}) a
shuts_unsent c conns a create i_unsent =
    λ p. let old = i_unsent p in grind arith

shuts_sent_replies : (c : Client) (conns : ℕ → Conn) (a : ℕ → ℕ) (create : ℕ) → SentReplies c conns
    → SentReplies (record c { closed_ok = put c.closed_ok create true }) conns
shuts_sent_replies c conns a create i_sent_replies =
    λ j n p y. let old = i_sent_replies j n p y in grind (arith, get-push)

shuts_deleted : (c : Client) (conns : ℕ → Conn) (a : ℕ → ℕ) (create : ℕ) → Deleted c conns a → Deleted (record c {
  closed_ok = put c.closed_ok create true;
}) conns a
shuts_deleted c conns a create i_deleted =
    λ j n p y. let old = i_deleted j n p y in grind (arith, get-push)

pub shuts_keeps : (c : Client) (conns : ℕ → Conn) (a : ℕ → ℕ) (create : ℕ) → Connections c conns a
    → Connections (record c { closed_ok = put c.closed_ok create true }) conns a
shuts_keeps c conns a create i =
    record {
      once = shuts_once c conns a create i.once;
      outstanding = shuts_outstanding c conns a create i.outstanding;
      own_up = shuts_own_up c conns a create i.own_up;
      attach_up = shuts_attach_up c conns a create i.attach_up;
      own_down = shuts_own_down c conns a create i.own_down;
      attach_down = shuts_attach_down c conns a create i.attach_down;
      down_open = shuts_down_open c conns a create i.down_open;
      on_ready = shuts_on_ready c conns a create i.on_ready;
      ready = shuts_ready c conns a create i.ready;
      stages = shuts_stages c conns a create i.stages;
      settled = shuts_settled c conns a create i.settled;
      taken = shuts_taken c conns a create i.taken;
      taken_on = shuts_taken_on c conns a create i.taken_on;
      creates = shuts_creates c conns a create i.creates;
      lower = shuts_lower c conns a create i.lower;
      has_open = shuts_has_open c conns a create i.has_open;
      asked_open = shuts_asked_open c conns a create i.asked_open;
      fresh = shuts_fresh c conns a create i.fresh;
      bodies = shuts_bodies c conns a create i.bodies;
      first = shuts_first c conns a create i.first;
      unsent = shuts_unsent c conns a create i.unsent;
      sent_replies = shuts_sent_replies c conns a create i.sent_replies;
      deleted = shuts_deleted c conns a create i.deleted;
    }
