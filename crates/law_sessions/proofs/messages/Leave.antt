-- Written by tools/law_connections.py. The session ends.
use Rattle.std.proofs.Common.{◌≡◌, ℕ, arith, Some, slice_get}
use Rattle.spec_exchange.specs.Client.{Client, end_session}
use Rattle.spec_exchange.specs.Network.{Conn, client_off}
use Rattle.law_sessions.specs.messages.Connections.{Connections, Once, Outstanding, OwnUp, AttachUp, OwnDown, AttachDown}
use Rattle.law_sessions.specs.messages.Connections.{DownOpen, OnReady, Ready, Stages, Settled, Taken, TakenOn, Creates, Lower}
use Rattle.law_sessions.specs.messages.Connections.{HasOpen, AskedOpen, Fresh, Bodies, First, Unsent, SentReplies, Deleted}
use Rattle.law_sessions.proofs.messages.Lists.{get-push, count_up-push, count_down-push, own_up_count}

leave_once : (c : Client) (conns : ℕ → Conn) (a : ℕ → ℕ) → Once conns → Once (λ q. client_off (conns q))
leave_once c conns a i_once =
    grind (arith, count_up-push, count_down-push)

leave_outstanding : (c : Client) (conns : ℕ → Conn) (a : ℕ → ℕ) → Outstanding c conns → Outstanding (end_session c)
    (λ q. client_off (conns q))
leave_outstanding c conns a i_outstanding =
    grind (arith, count_up-push, count_down-push)

leave_own_up : (c : Client) (conns : ℕ → Conn) (a : ℕ → ℕ) → OwnUp c conns → OwnUp (end_session c) (λ q. client_off (conns q))
leave_own_up c conns a i_own_up =
    λ j n p x. let old = i_own_up j n p x in grind (arith, get-push)

leave_attach_up : (c : Client) (conns : ℕ → Conn) (a : ℕ → ℕ) → AttachUp c conns → AttachUp (end_session c) (λ q. client_off (conns q))
leave_attach_up c conns a i_attach_up =
    λ j n p x. let old = i_attach_up j n p x in grind (arith, get-push)

leave_own_down : (c : Client) (conns : ℕ → Conn) (a : ℕ → ℕ) → OwnDown c conns → OwnDown (end_session c) (λ q. client_off (conns q))
leave_own_down c conns a i_own_down =
    λ j n p y. let old = i_own_down j n p y in grind (arith, get-push)

leave_attach_down : (c : Client) (conns : ℕ → Conn) (a : ℕ → ℕ) → AttachDown c conns → AttachDown (end_session c)
    (λ q. client_off (conns q))
leave_attach_down c conns a i_attach_down =
    λ j n p y. let old = i_attach_down j n p y in grind (arith, get-push)

leave_down_open : (c : Client) (conns : ℕ → Conn) (a : ℕ → ℕ) → DownOpen conns → DownOpen (λ q. client_off (conns q))
leave_down_open c conns a i_down_open =
    λ j. let old = i_down_open j in grind (arith, get-push)

leave_on_ready : (c : Client) (conns : ℕ → Conn) (a : ℕ → ℕ) → OnReady c → OnReady (end_session c)
leave_on_ready c conns a i_on_ready =
    λ p j. let old = i_on_ready p j in grind arith

leave_ready : (c : Client) (conns : ℕ → Conn) (a : ℕ → ℕ) → Ready c conns → Ready (end_session c) (λ q. client_off (conns q))
leave_ready c conns a i_ready =
    λ j. let old = i_ready j in grind (arith, count_up-push, count_down-push)

leave_stages : (c : Client) (conns : ℕ → Conn) (a : ℕ → ℕ) → Stages c → Stages (end_session c)
leave_stages c conns a i_stages =
    λ j. let old = i_stages j in grind arith

leave_settled : (c : Client) (conns : ℕ → Conn) (a : ℕ → ℕ) → Settled c → Settled (end_session c)
leave_settled c conns a i_settled =
    λ p. let old = i_settled p in grind arith

leave_taken : (c : Client) (conns : ℕ → Conn) (a : ℕ → ℕ) → Taken c → Taken (end_session c)
leave_taken c conns a i_taken =
    λ p. let old = i_taken p in grind arith

leave_taken_on : (c : Client) (conns : ℕ → Conn) (a : ℕ → ℕ) → TakenOn c → TakenOn (end_session c)
leave_taken_on c conns a i_taken_on =
    λ p. let old = i_taken_on p in grind arith

leave_creates : (c : Client) (conns : ℕ → Conn) (a : ℕ → ℕ) → Creates c → Creates (end_session c)
leave_creates c conns a i_creates =
    λ p. let old = i_creates p in grind arith

leave_lower : (c : Client) (conns : ℕ → Conn) (a : ℕ → ℕ) → Lower c → Lower (end_session c)
leave_lower c conns a i_lower =
    λ p q. let old = i_lower p q in grind arith

leave_has_open : (c : Client) (conns : ℕ → Conn) (a : ℕ → ℕ) → HasOpen c → HasOpen (end_session c)
leave_has_open c conns a i_has_open =
    λ p. let old = i_has_open p in grind arith

leave_asked_open : (c : Client) (conns : ℕ → Conn) (a : ℕ → ℕ) → AskedOpen c → AskedOpen (end_session c)
leave_asked_open c conns a i_asked_open =
    λ p. let old = i_asked_open p in grind arith

leave_fresh : (c : Client) (conns : ℕ → Conn) (a : ℕ → ℕ) → Fresh c a → Fresh (end_session c) a
leave_fresh c conns a i_fresh =
    λ p. let old = i_fresh p in grind arith

leave_bodies : (c : Client) (conns : ℕ → Conn) (a : ℕ → ℕ) → Bodies c conns → Bodies (end_session c) (λ q. client_off (conns q))
leave_bodies c conns a i_bodies =
    λ j n p x. let old = i_bodies j n p x in grind (arith, get-push)

leave_first : (c : Client) (conns : ℕ → Conn) (a : ℕ → ℕ) → First c conns a → Bodies c conns → Outstanding c conns
    → OwnUp c conns → Taken c → First (end_session c) (λ q. client_off (conns q)) a
leave_first c conns a i_first i_bodies i_outstanding i_own_up i_taken =
    λ j n p x h t ao b. let h' : slice_get (conns j).up n ≡ Some x = grind arith in let n1 = own_up_count p (conns j).up
    n x h' t in let u = i_outstanding j p in let kind = i_own_up j n p x h' in let bd = i_bodies j n p x h' t in
    let tk = i_taken p in let old = i_first j n p x h' t in grind arith

leave_unsent : (c : Client) (conns : ℕ → Conn) (a : ℕ → ℕ) → Unsent c a → Unsent (end_session c) a
leave_unsent c conns a i_unsent =
    λ p. let old = i_unsent p in grind arith

leave_sent_replies : (c : Client) (conns : ℕ → Conn) (a : ℕ → ℕ) → SentReplies c conns → SentReplies (end_session c)
    (λ q. client_off (conns q))
leave_sent_replies c conns a i_sent_replies =
    λ j n p y. let old = i_sent_replies j n p y in grind (arith, get-push)

leave_deleted : (c : Client) (conns : ℕ → Conn) (a : ℕ → ℕ) → Deleted c conns a → Deleted (end_session c) (λ q. client_off (conns q)) a
leave_deleted c conns a i_deleted =
    λ j n p y. let old = i_deleted j n p y in grind (arith, get-push)

pub leave_keeps : (c : Client) (conns : ℕ → Conn) (a : ℕ → ℕ) → Connections c conns a → Connections (end_session c)
    (λ q. client_off (conns q)) a
leave_keeps c conns a i =
    record {
      once = leave_once c conns a i.once;
      outstanding = leave_outstanding c conns a i.outstanding;
      own_up = leave_own_up c conns a i.own_up;
      attach_up = leave_attach_up c conns a i.attach_up;
      own_down = leave_own_down c conns a i.own_down;
      attach_down = leave_attach_down c conns a i.attach_down;
      down_open = leave_down_open c conns a i.down_open;
      on_ready = leave_on_ready c conns a i.on_ready;
      ready = leave_ready c conns a i.ready;
      stages = leave_stages c conns a i.stages;
      settled = leave_settled c conns a i.settled;
      taken = leave_taken c conns a i.taken;
      taken_on = leave_taken_on c conns a i.taken_on;
      creates = leave_creates c conns a i.creates;
      lower = leave_lower c conns a i.lower;
      has_open = leave_has_open c conns a i.has_open;
      asked_open = leave_asked_open c conns a i.asked_open;
      fresh = leave_fresh c conns a i.fresh;
      bodies = leave_bodies c conns a i.bodies;
      first = leave_first c conns a i.first i.bodies i.outstanding i.own_up i.taken;
      unsent = leave_unsent c conns a i.unsent;
      sent_replies = leave_sent_replies c conns a i.sent_replies;
      deleted = leave_deleted c conns a i.deleted;
    }
