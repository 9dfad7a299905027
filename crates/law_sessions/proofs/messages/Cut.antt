-- Written by tools/law_connections.py. A ready channel is cut.
use Rattle.std.proofs.Common.{◌≡◌, ℕ, arith, Some, slice_get}
use Rattle.spec_exchange.specs.Table.{put}
use Rattle.spec_exchange.specs.Client.{Client, cut_channel}
use Rattle.spec_exchange.specs.Network.{Conn, client_off}
use Rattle.law_sessions.specs.messages.Connections.{Connections, Once, Outstanding, OwnUp, AttachUp, OwnDown, AttachDown}
use Rattle.law_sessions.specs.messages.Connections.{DownOpen, OnReady, Ready, Stages, Settled, Taken, TakenOn, Creates, Lower}
use Rattle.law_sessions.specs.messages.Connections.{HasOpen, AskedOpen, Fresh, Bodies, First, Unsent, SentReplies, Deleted}
use Rattle.law_sessions.proofs.messages.Lists.{get-push, count_up-push, count_down-push, own_up_count}

cut_once : (c : Client) (conns : ℕ → Conn) (a : ℕ → ℕ) (k : ℕ) → Once conns → Once (put conns k (client_off (conns k)))
cut_once c conns a k i_once =
    grind (arith, count_up-push, count_down-push)

cut_outstanding : (c : Client) (conns : ℕ → Conn) (a : ℕ → ℕ) (k : ℕ) → Outstanding c conns
    → Outstanding (cut_channel c k) (put conns k (client_off (conns k)))
cut_outstanding c conns a k i_outstanding =
    grind (arith, count_up-push, count_down-push)

cut_own_up : (c : Client) (conns : ℕ → Conn) (a : ℕ → ℕ) (k : ℕ) → OwnUp c conns → OwnUp (cut_channel c k)
    (put conns k (client_off (conns k)))
cut_own_up c conns a k i_own_up =
    λ j n p x. let old = i_own_up j n p x in grind (arith, get-push)

cut_attach_up : (c : Client) (conns : ℕ → Conn) (a : ℕ → ℕ) (k : ℕ) → AttachUp c conns → AttachUp (cut_channel c k)
    (put conns k (client_off (conns k)))
cut_attach_up c conns a k i_attach_up =
    λ j n p x. let old = i_attach_up j n p x in grind (arith, get-push)

cut_own_down : (c : Client) (conns : ℕ → Conn) (a : ℕ → ℕ) (k : ℕ) → OwnDown c conns → OwnDown (cut_channel c k)
    (put conns k (client_off (conns k)))
cut_own_down c conns a k i_own_down =
    λ j n p y. let old = i_own_down j n p y in grind (arith, get-push)

cut_attach_down : (c : Client) (conns : ℕ → Conn) (a : ℕ → ℕ) (k : ℕ) → AttachDown c conns
    → AttachDown (cut_channel c k) (put conns k (client_off (conns k)))
cut_attach_down c conns a k i_attach_down =
    λ j n p y. let old = i_attach_down j n p y in grind (arith, get-push)

cut_down_open : (c : Client) (conns : ℕ → Conn) (a : ℕ → ℕ) (k : ℕ) → DownOpen conns → DownOpen (put conns k (client_off (conns k)))
cut_down_open c conns a k i_down_open =
    λ j. let old = i_down_open j in grind (arith, get-push)

cut_on_ready : (c : Client) (conns : ℕ → Conn) (a : ℕ → ℕ) (k : ℕ) → OnReady c → OnReady (cut_channel c k)
cut_on_ready c conns a k i_on_ready =
    λ p j. let old = i_on_ready p j in grind arith

cut_ready : (c : Client) (conns : ℕ → Conn) (a : ℕ → ℕ) (k : ℕ) → Ready c conns → Ready (cut_channel c k)
    (put conns k (client_off (conns k)))
cut_ready c conns a k i_ready =
    λ j. let old = i_ready j in grind (arith, count_up-push, count_down-push)

cut_stages : (c : Client) (conns : ℕ → Conn) (a : ℕ → ℕ) (k : ℕ) → Stages c → Stages (cut_channel c k)
cut_stages c conns a k i_stages =
    λ j. let old = i_stages j in grind arith

cut_settled : (c : Client) (conns : ℕ → Conn) (a : ℕ → ℕ) (k : ℕ) → Settled c → Settled (cut_channel c k)
cut_settled c conns a k i_settled =
    λ p. let old = i_settled p in grind arith

cut_taken : (c : Client) (conns : ℕ → Conn) (a : ℕ → ℕ) (k : ℕ) → Taken c → Taken (cut_channel c k)
cut_taken c conns a k i_taken =
    λ p. let old = i_taken p in grind arith

cut_taken_on : (c : Client) (conns : ℕ → Conn) (a : ℕ → ℕ) (k : ℕ) → TakenOn c → TakenOn (cut_channel c k)
cut_taken_on c conns a k i_taken_on =
    λ p. let old = i_taken_on p in grind arith

cut_creates : (c : Client) (conns : ℕ → Conn) (a : ℕ → ℕ) (k : ℕ) → Creates c → Creates (cut_channel c k)
cut_creates c conns a k i_creates =
    λ p. let old = i_creates p in grind arith

cut_lower : (c : Client) (conns : ℕ → Conn) (a : ℕ → ℕ) (k : ℕ) → Lower c → Lower (cut_channel c k)
cut_lower c conns a k i_lower =
    λ p q. let old = i_lower p q in grind arith

cut_has_open : (c : Client) (conns : ℕ → Conn) (a : ℕ → ℕ) (k : ℕ) → HasOpen c → HasOpen (cut_channel c k)
cut_has_open c conns a k i_has_open =
    λ p. let old = i_has_open p in grind arith

cut_asked_open : (c : Client) (conns : ℕ → Conn) (a : ℕ → ℕ) (k : ℕ) → AskedOpen c → AskedOpen (cut_channel c k)
cut_asked_open c conns a k i_asked_open =
    λ p. let old = i_asked_open p in grind arith

cut_fresh : (c : Client) (conns : ℕ → Conn) (a : ℕ → ℕ) (k : ℕ) → Fresh c a → Fresh (cut_channel c k) a
cut_fresh c conns a k i_fresh =
    λ p. let old = i_fresh p in grind arith

cut_bodies : (c : Client) (conns : ℕ → Conn) (a : ℕ → ℕ) (k : ℕ) → Bodies c conns → Bodies (cut_channel c k)
    (put conns k (client_off (conns k)))
cut_bodies c conns a k i_bodies =
    λ j n p x. let old = i_bodies j n p x in grind (arith, get-push)

cut_first : (c : Client) (conns : ℕ → Conn) (a : ℕ → ℕ) (k : ℕ) → First c conns a → Bodies c conns → Outstanding c conns
    → OwnUp c conns → Taken c → First (cut_channel c k) (put conns k (client_off (conns k))) a
cut_first c conns a k i_first i_bodies i_outstanding i_own_up i_taken =
    λ j n p x h t ao b. let h' : slice_get (conns j).up n ≡ Some x = grind arith in let n1 = own_up_count p (conns j).up
    n x h' t in let u = i_outstanding j p in let kind = i_own_up j n p x h' in let bd = i_bodies j n p x h' t in
    let tk = i_taken p in let old = i_first j n p x h' t in grind arith

cut_unsent : (c : Client) (conns : ℕ → Conn) (a : ℕ → ℕ) (k : ℕ) → Unsent c a → Unsent (cut_channel c k) a
cut_unsent c conns a k i_unsent =
    λ p. let old = i_unsent p in grind arith

cut_sent_replies : (c : Client) (conns : ℕ → Conn) (a : ℕ → ℕ) (k : ℕ) → SentReplies c conns
    → SentReplies (cut_channel c k) (put conns k (client_off (conns k)))
cut_sent_replies c conns a k i_sent_replies =
    λ j n p y. let old = i_sent_replies j n p y in grind (arith, get-push)

cut_deleted : (c : Client) (conns : ℕ → Conn) (a : ℕ → ℕ) (k : ℕ) → Deleted c conns a → Deleted (cut_channel c k)
    (put conns k (client_off (conns k))) a
cut_deleted c conns a k i_deleted =
    λ j n p y. let old = i_deleted j n p y in grind (arith, get-push)

pub cut_keeps : (c : Client) (conns : ℕ → Conn) (a : ℕ → ℕ) (k : ℕ) → Connections c conns a
    → Connections (cut_channel c k) (put conns k (client_off (conns k))) a
cut_keeps c conns a k i =
    record {
      once = cut_once c conns a k i.once;
      outstanding = cut_outstanding c conns a k i.outstanding;
      own_up = cut_own_up c conns a k i.own_up;
      attach_up = cut_attach_up c conns a k i.attach_up;
      own_down = cut_own_down c conns a k i.own_down;
      attach_down = cut_attach_down c conns a k i.attach_down;
      down_open = cut_down_open c conns a k i.down_open;
      on_ready = cut_on_ready c conns a k i.on_ready;
      ready = cut_ready c conns a k i.ready;
      stages = cut_stages c conns a k i.stages;
      settled = cut_settled c conns a k i.settled;
      taken = cut_taken c conns a k i.taken;
      taken_on = cut_taken_on c conns a k i.taken_on;
      creates = cut_creates c conns a k i.creates;
      lower = cut_lower c conns a k i.lower;
      has_open = cut_has_open c conns a k i.has_open;
      asked_open = cut_asked_open c conns a k i.asked_open;
      fresh = cut_fresh c conns a k i.fresh;
      bodies = cut_bodies c conns a k i.bodies;
      first = cut_first c conns a k i.first i.bodies i.outstanding i.own_up i.taken;
      unsent = cut_unsent c conns a k i.unsent;
      sent_replies = cut_sent_replies c conns a k i.sent_replies;
      deleted = cut_deleted c conns a k i.deleted;
    }
