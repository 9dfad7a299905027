-- Written by tools/law_connections.py. The client closes a channel that isn't ready.
use Rattle.std.proofs.Common.{◌≡◌, ℕ, false, arith, Some, slice_get}
use Rattle.spec_exchange.specs.Table.{put}
use Rattle.spec_exchange.specs.Client.{Client, leave_dialog}
use Rattle.spec_exchange.specs.Network.{Conn, client_off}
use Rattle.law_sessions.specs.messages.Connections.{Connections, Once, Outstanding, OwnUp, AttachUp, OwnDown, AttachDown}
use Rattle.law_sessions.specs.messages.Connections.{DownOpen, OnReady, Ready, Stages, Settled, Taken, TakenOn, Creates, Lower}
use Rattle.law_sessions.specs.messages.Connections.{HasOpen, AskedOpen, Fresh, Bodies, First, Unsent, SentReplies, Deleted}
use Rattle.law_sessions.proofs.messages.Lists.{get-push, count_up-push, count_down-push, own_up_count}

dialog_off_once : (c : Client) (conns : ℕ → Conn) (a : ℕ → ℕ) (k : ℕ) → (c.ready k ≡ false) → Once conns
    → Once (put conns k (client_off (conns k)))
dialog_off_once c conns a k apart i_once =
    grind (arith, count_up-push, count_down-push)

dialog_off_outstanding : (c : Client) (conns : ℕ → Conn) (a : ℕ → ℕ) (k : ℕ) → (c.ready k ≡ false) → Outstanding c conns
    → Outstanding (leave_dialog c k) (put conns k (client_off (conns k)))
dialog_off_outstanding c conns a k apart i_outstanding =
    grind (arith, count_up-push, count_down-push)

dialog_off_own_up : (c : Client) (conns : ℕ → Conn) (a : ℕ → ℕ) (k : ℕ) → (c.ready k ≡ false) → OwnUp c conns
    → OwnUp (leave_dialog c k) (put conns k (client_off (conns k)))
dialog_off_own_up c conns a k apart i_own_up =
    λ j n p x. let old = i_own_up j n p x in grind (arith, get-push)

dialog_off_attach_up : (c : Client) (conns : ℕ → Conn) (a : ℕ → ℕ) (k : ℕ) → (c.ready k ≡ false) → AttachUp c conns
    → AttachUp (leave_dialog c k) (put conns k (client_off (conns k)))
dialog_off_attach_up c conns a k apart i_attach_up =
    λ j n p x. let old = i_attach_up j n p x in grind (arith, get-push)

dialog_off_own_down : (c : Client) (conns : ℕ → Conn) (a : ℕ → ℕ) (k : ℕ) → (c.ready k ≡ false) → OwnDown c conns
    → OwnDown (leave_dialog c k) (put conns k (client_off (conns k)))
dialog_off_own_down c conns a k apart i_own_down =
    λ j n p y. let old = i_own_down j n p y in grind (arith, get-push)

dialog_off_attach_down : (c : Client) (conns : ℕ → Conn) (a : ℕ → ℕ) (k : ℕ) → (c.ready k ≡ false) → AttachDown c conns
    → AttachDown (leave_dialog c k) (put conns k (client_off (conns k)))
dialog_off_attach_down c conns a k apart i_attach_down =
    λ j n p y. let old = i_attach_down j n p y in grind (arith, get-push)

dialog_off_down_open : (c : Client) (conns : ℕ → Conn) (a : ℕ → ℕ) (k : ℕ) → (c.ready k ≡ false) → DownOpen conns
    → DownOpen (put conns k (client_off (conns k)))
dialog_off_down_open c conns a k apart i_down_open =
    λ j. let old = i_down_open j in grind (arith, get-push)

dialog_off_on_ready : (c : Client) (conns : ℕ → Conn) (a : ℕ → ℕ) (k : ℕ) → (c.ready k ≡ false) → OnReady c → OnReady (leave_dialog c k)
dialog_off_on_ready c conns a k apart i_on_ready =
    λ p j. let old = i_on_ready p j in grind arith

dialog_off_ready : (c : Client) (conns : ℕ → Conn) (a : ℕ → ℕ) (k : ℕ) → (c.ready k ≡ false) → Ready c conns
    → Ready (leave_dialog c k) (put conns k (client_off (conns k)))
dialog_off_ready c conns a k apart i_ready =
    λ j. let old = i_ready j in grind (arith, count_up-push, count_down-push)

dialog_off_stages : (c : Client) (conns : ℕ → Conn) (a : ℕ → ℕ) (k : ℕ) → (c.ready k ≡ false) → Stages c → Stages (leave_dialog c k)
dialog_off_stages c conns a k apart i_stages =
    λ j. let old = i_stages j in grind arith

dialog_off_settled : (c : Client) (conns : ℕ → Conn) (a : ℕ → ℕ) (k : ℕ) → (c.ready k ≡ false) → Settled c → Settled (leave_dialog c k)
dialog_off_settled c conns a k apart i_settled =
    λ p. let old = i_settled p in grind arith

dialog_off_taken : (c : Client) (conns : ℕ → Conn) (a : ℕ → ℕ) (k : ℕ) → (c.ready k ≡ false) → Taken c → Taken (leave_dialog c k)
dialog_off_taken c conns a k apart i_taken =
    λ p. let old = i_taken p in grind arith

dialog_off_taken_on : (c : Client) (conns : ℕ → Conn) (a : ℕ → ℕ) (k : ℕ) → (c.ready k ≡ false) → TakenOn c → TakenOn (leave_dialog c k)
dialog_off_taken_on c conns a k apart i_taken_on =
    λ p. let old = i_taken_on p in grind arith

dialog_off_creates : (c : Client) (conns : ℕ → Conn) (a : ℕ → ℕ) (k : ℕ) → (c.ready k ≡ false) → Creates c → Creates (leave_dialog c k)
dialog_off_creates c conns a k apart i_creates =
    λ p. let old = i_creates p in grind arith

dialog_off_lower : (c : Client) (conns : ℕ → Conn) (a : ℕ → ℕ) (k : ℕ) → (c.ready k ≡ false) → Lower c → Lower (leave_dialog c k)
dialog_off_lower c conns a k apart i_lower =
    λ p q. let old = i_lower p q in grind arith

dialog_off_has_open : (c : Client) (conns : ℕ → Conn) (a : ℕ → ℕ) (k : ℕ) → (c.ready k ≡ false) → HasOpen c → HasOpen (leave_dialog c k)
dialog_off_has_open c conns a k apart i_has_open =
    λ p. let old = i_has_open p in grind arith

dialog_off_asked_open : (c : Client) (conns : ℕ → Conn) (a : ℕ → ℕ) (k : ℕ) → (c.ready k ≡ false) → AskedOpen c
    → AskedOpen (leave_dialog c k)
dialog_off_asked_open c conns a k apart i_asked_open =
    λ p. let old = i_asked_open p in grind arith

dialog_off_fresh : (c : Client) (conns : ℕ → Conn) (a : ℕ → ℕ) (k : ℕ) → (c.ready k ≡ false) → Fresh c a → Fresh (leave_dialog c k) a
dialog_off_fresh c conns a k apart i_fresh =
    λ p. let old = i_fresh p in grind arith

dialog_off_bodies : (c : Client) (conns : ℕ → Conn) (a : ℕ → ℕ) (k : ℕ) → (c.ready k ≡ false) → Bodies c conns
    → Bodies (leave_dialog c k) (put conns k (client_off (conns k)))
dialog_off_bodies c conns a k apart i_bodies =
    λ j n p x. let old = i_bodies j n p x in grind (arith, get-push)

dialog_off_first : (c : Client) (conns : ℕ → Conn) (a : ℕ → ℕ) (k : ℕ) → (c.ready k ≡ false) → First c conns a
    → Bodies c conns → OnReady c → Outstanding c conns → OwnUp c conns → Taken c → First (leave_dialog c k)
    (put conns k (client_off (conns k))) a
dialog_off_first c conns a k apart i_first i_bodies i_on_ready i_outstanding i_own_up i_taken =
    λ j n p x h t ao b. let h' : slice_get (conns j).up n ≡ Some x = grind arith in let n1 = own_up_count p (conns j).up
    n x h' t in let u = i_outstanding j p in let kind = i_own_up j n p x h' in let bd = i_bodies j n p x h' t in
    let tk = i_taken p in let old = i_first j n p x h' t ao b in let r = i_on_ready p k in grind arith

dialog_off_unsent : (c : Client) (conns : ℕ → Conn) (a : ℕ → ℕ) (k : ℕ) → (c.ready k ≡ false) → Unsent c a → Unsent (leave_dialog c k) a
dialog_off_unsent c conns a k apart i_unsent =
    λ p. let old = i_unsent p in grind arith

dialog_off_sent_replies : (c : Client) (conns : ℕ → Conn) (a : ℕ → ℕ) (k : ℕ) → (c.ready k ≡ false)
    → SentReplies c conns → SentReplies (leave_dialog c k) (put conns k (client_off (conns k)))
dialog_off_sent_replies c conns a k apart i_sent_replies =
    λ j n p y. let old = i_sent_replies j n p y in grind (arith, get-push)

dialog_off_deleted : (c : Client) (conns : ℕ → Conn) (a : ℕ → ℕ) (k : ℕ) → (c.ready k ≡ false) → Deleted c conns a
    → Deleted (leave_dialog c k) (put conns k (client_off (conns k))) a
dialog_off_deleted c conns a k apart i_deleted =
    λ j n p y. let old = i_deleted j n p y in grind (arith, get-push)

pub dialog_off_keeps : (c : Client) (conns : ℕ → Conn) (a : ℕ → ℕ) (k : ℕ) → (c.ready k ≡ false) → Connections c conns a
    → Connections (leave_dialog c k) (put conns k (client_off (conns k))) a
dialog_off_keeps c conns a k apart i =
    record {
      once = dialog_off_once c conns a k apart i.once;
      outstanding = dialog_off_outstanding c conns a k apart i.outstanding;
      own_up = dialog_off_own_up c conns a k apart i.own_up;
      attach_up = dialog_off_attach_up c conns a k apart i.attach_up;
      own_down = dialog_off_own_down c conns a k apart i.own_down;
      attach_down = dialog_off_attach_down c conns a k apart i.attach_down;
      down_open = dialog_off_down_open c conns a k apart i.down_open;
      on_ready = dialog_off_on_ready c conns a k apart i.on_ready;
      ready = dialog_off_ready c conns a k apart i.ready;
      stages = dialog_off_stages c conns a k apart i.stages;
      settled = dialog_off_settled c conns a k apart i.settled;
      taken = dialog_off_taken c conns a k apart i.taken;
      taken_on = dialog_off_taken_on c conns a k apart i.taken_on;
      creates = dialog_off_creates c conns a k apart i.creates;
      lower = dialog_off_lower c conns a k apart i.lower;
      has_open = dialog_off_has_open c conns a k apart i.has_open;
      asked_open = dialog_off_asked_open c conns a k apart i.asked_open;
      fresh = dialog_off_fresh c conns a k apart i.fresh;
      bodies = dialog_off_bodies c conns a k apart i.bodies;
      first = dialog_off_first c conns a k apart i.first i.bodies i.on_ready i.outstanding i.own_up i.taken;
      unsent = dialog_off_unsent c conns a k apart i.unsent;
      sent_replies = dialog_off_sent_replies c conns a k apart i.sent_replies;
      deleted = dialog_off_deleted c conns a k apart i.deleted;
    }
