-- Written by tools/law_connections.py. The next message of a dialog goes out.
use Rattle.std.proofs.Common.{◌≡◌, ℕ, false, arith}
use Rattle.spec_exchange.specs.Table.{put}
use Rattle.spec_exchange.specs.State.{Message}
use Rattle.spec_exchange.specs.Client.{Client}
use Rattle.spec_exchange.specs.Network.{Conn, ForDialog, send_up}
use Rattle.law_sessions.specs.messages.Connections.{Connections, copies, Once, Outstanding, OwnUp, AttachUp, OwnDown, AttachDown}
use Rattle.law_sessions.specs.messages.Connections.{DownOpen, OnReady, Ready, Stages, Settled, Taken, TakenOn, Creates, Lower}
use Rattle.law_sessions.specs.messages.Connections.{HasOpen, AskedOpen, Fresh, Bodies, First, Unsent, SentReplies, Deleted}
use Rattle.law_sessions.proofs.messages.Lists.{get-push, count_up-push, count_down-push}

dialog_sent_once : (c : Client) (conns : ℕ → Conn) (a : ℕ → ℕ) (k n0 : ℕ) (m : Message) → (copies 0 (conns k) ≡ 0)
    → (c.ready k ≡ false) → Once conns → Once (put conns k (send_up (conns k) ForDialog m n0))
dialog_sent_once c conns a k n0 m none apart i_once =
    grind (arith, count_up-push, count_down-push)

dialog_sent_outstanding : (c : Client) (conns : ℕ → Conn) (a : ℕ → ℕ) (k n0 : ℕ) (m : Message)
    → (copies 0 (conns k) ≡ 0) → (c.ready k ≡ false) → Outstanding c conns
    → Outstanding c (put conns k (send_up (conns k) ForDialog m n0))
dialog_sent_outstanding c conns a k n0 m none apart i_outstanding =
    grind (arith, count_up-push, count_down-push)

dialog_sent_own_up : (c : Client) (conns : ℕ → Conn) (a : ℕ → ℕ) (k n0 : ℕ) (m : Message) → (copies 0 (conns k) ≡ 0)
    → (c.ready k ≡ false) → OwnUp c conns → OwnUp c (put conns k (send_up (conns k) ForDialog m n0))
dialog_sent_own_up c conns a k n0 m none apart i_own_up =
    λ j n p x. let old = i_own_up j n p x in grind (arith, get-push)

dialog_sent_attach_up : (c : Client) (conns : ℕ → Conn) (a : ℕ → ℕ) (k n0 : ℕ) (m : Message) → (copies 0 (conns k) ≡ 0)
    → (c.ready k ≡ false) → AttachUp c conns → AttachUp c (put conns k (send_up (conns k) ForDialog m n0))
dialog_sent_attach_up c conns a k n0 m none apart i_attach_up =
    λ j n p x. let old = i_attach_up j n p x in grind (arith, get-push)

dialog_sent_own_down : (c : Client) (conns : ℕ → Conn) (a : ℕ → ℕ) (k n0 : ℕ) (m : Message) → (copies 0 (conns k) ≡ 0)
    → (c.ready k ≡ false) → OwnDown c conns → OwnDown c (put conns k (send_up (conns k) ForDialog m n0))
dialog_sent_own_down c conns a k n0 m none apart i_own_down =
    λ j n p y. let old = i_own_down j n p y in grind (arith, get-push)

dialog_sent_attach_down : (c : Client) (conns : ℕ → Conn) (a : ℕ → ℕ) (k n0 : ℕ) (m : Message)
    → (copies 0 (conns k) ≡ 0) → (c.ready k ≡ false) → AttachDown c conns
    → AttachDown c (put conns k (send_up (conns k) ForDialog m n0))
dialog_sent_attach_down c conns a k n0 m none apart i_attach_down =
    λ j n p y. let old = i_attach_down j n p y in grind (arith, get-push)

dialog_sent_down_open : (c : Client) (conns : ℕ → Conn) (a : ℕ → ℕ) (k n0 : ℕ) (m : Message) → (copies 0 (conns k) ≡ 0)
    → (c.ready k ≡ false) → DownOpen conns → DownOpen (put conns k (send_up (conns k) ForDialog m n0))
dialog_sent_down_open c conns a k n0 m none apart i_down_open =
    λ j. let old = i_down_open j in grind (arith, get-push)

dialog_sent_on_ready : (c : Client) (conns : ℕ → Conn) (a : ℕ → ℕ) (k n0 : ℕ) (m : Message) → (copies 0 (conns k) ≡ 0)
    → (c.ready k ≡ false) → OnReady c → OnReady c
dialog_sent_on_ready c conns a k n0 m none apart i_on_ready =
    λ p j. let old = i_on_ready p j in grind arith

dialog_sent_ready : (c : Client) (conns : ℕ → Conn) (a : ℕ → ℕ) (k n0 : ℕ) (m : Message) → (copies 0 (conns k) ≡ 0)
    → (c.ready k ≡ false) → Ready c conns → Ready c (put conns k (send_up (conns k) ForDialog m n0))
dialog_sent_ready c conns a k n0 m none apart i_ready =
    λ j. let old = i_ready j in grind (arith, count_up-push, count_down-push)

dialog_sent_stages : (c : Client) (conns : ℕ → Conn) (a : ℕ → ℕ) (k n0 : ℕ) (m : Message) → (copies 0 (conns k) ≡ 0)
    → (c.ready k ≡ false) → Stages c → Stages c
dialog_sent_stages c conns a k n0 m none apart i_stages =
    λ j. let old = i_stages j in grind arith

dialog_sent_settled : (c : Client) (conns : ℕ → Conn) (a : ℕ → ℕ) (k n0 : ℕ) (m : Message) → (copies 0 (conns k) ≡ 0)
    → (c.ready k ≡ false) → Settled c → Settled c
dialog_sent_settled c conns a k n0 m none apart i_settled =
    λ p. let old = i_settled p in grind arith

dialog_sent_taken : (c : Client) (conns : ℕ → Conn) (a : ℕ → ℕ) (k n0 : ℕ) (m : Message) → (copies 0 (conns k) ≡ 0)
    → (c.ready k ≡ false) → Taken c → Taken c
dialog_sent_taken c conns a k n0 m none apart i_taken =
    λ p. let old = i_taken p in grind arith

dialog_sent_taken_on : (c : Client) (conns : ℕ → Conn) (a : ℕ → ℕ) (k n0 : ℕ) (m : Message) → (copies 0 (conns k) ≡ 0)
    → (c.ready k ≡ false) → TakenOn c → TakenOn c
dialog_sent_taken_on c conns a k n0 m none apart i_taken_on =
    λ p. let old = i_taken_on p in grind arith

dialog_sent_creates : (c : Client) (conns : ℕ → Conn) (a : ℕ → ℕ) (k n0 : ℕ) (m : Message) → (copies 0 (conns k) ≡ 0)
    → (c.ready k ≡ false) → Creates c → Creates c
dialog_sent_creates c conns a k n0 m none apart i_creates =
    λ p. let old = i_creates p in grind arith

dialog_sent_lower : (c : Client) (conns : ℕ → Conn) (a : ℕ → ℕ) (k n0 : ℕ) (m : Message) → (copies 0 (conns k) ≡ 0)
    → (c.ready k ≡ false) → Lower c → Lower c
dialog_sent_lower c conns a k n0 m none apart i_lower =
    λ p q. let old = i_lower p q in grind arith

dialog_sent_has_open : (c : Client) (conns : ℕ → Conn) (a : ℕ → ℕ) (k n0 : ℕ) (m : Message) → (copies 0 (conns k) ≡ 0)
    → (c.ready k ≡ false) → HasOpen c → HasOpen c
dialog_sent_has_open c conns a k n0 m none apart i_has_open =
    λ p. let old = i_has_open p in grind arith

dialog_sent_asked_open : (c : Client) (conns : ℕ → Conn) (a : ℕ → ℕ) (k n0 : ℕ) (m : Message) → (copies 0 (conns k) ≡ 0)
    → (c.ready k ≡ false) → AskedOpen c → AskedOpen c
dialog_sent_asked_open c conns a k n0 m none apart i_asked_open =
    λ p. let old = i_asked_open p in grind arith

dialog_sent_fresh : (c : Client) (conns : ℕ → Conn) (a : ℕ → ℕ) (k n0 : ℕ) (m : Message) → (copies 0 (conns k) ≡ 0)
    → (c.ready k ≡ false) → Fresh c a → Fresh c a
dialog_sent_fresh c conns a k n0 m none apart i_fresh =
    λ p. let old = i_fresh p in grind arith

dialog_sent_bodies : (c : Client) (conns : ℕ → Conn) (a : ℕ → ℕ) (k n0 : ℕ) (m : Message) → (copies 0 (conns k) ≡ 0)
    → (c.ready k ≡ false) → Bodies c conns → Bodies c (put conns k (send_up (conns k) ForDialog m n0))
dialog_sent_bodies c conns a k n0 m none apart i_bodies =
    λ j n p x. let old = i_bodies j n p x in grind (arith, get-push)

dialog_sent_first : (c : Client) (conns : ℕ → Conn) (a : ℕ → ℕ) (k n0 : ℕ) (m : Message) → (copies 0 (conns k) ≡ 0)
    → (c.ready k ≡ false) → First c conns a → First c (put conns k (send_up (conns k) ForDialog m n0)) a
dialog_sent_first c conns a k n0 m none apart i_first =
    λ j n p x. let old = i_first j n p x in grind (arith, get-push)

dialog_sent_unsent : (c : Client) (conns : ℕ → Conn) (a : ℕ → ℕ) (k n0 : ℕ) (m : Message) → (copies 0 (conns k) ≡ 0)
    → (c.ready k ≡ false) → Unsent c a → Unsent c a
dialog_sent_unsent c conns a k n0 m none apart i_unsent =
    λ p. let old = i_unsent p in grind arith

dialog_sent_sent_replies : (c : Client) (conns : ℕ → Conn) (a : ℕ → ℕ) (k n0 : ℕ) (m : Message)
    → (copies 0 (conns k) ≡ 0) → (c.ready k ≡ false) → SentReplies c conns
    → SentReplies c (put conns k (send_up (conns k) ForDialog m n0))
dialog_sent_sent_replies c conns a k n0 m none apart i_sent_replies =
    λ j n p y. let old = i_sent_replies j n p y in grind (arith, get-push)

dialog_sent_deleted : (c : Client) (conns : ℕ → Conn) (a : ℕ → ℕ) (k n0 : ℕ) (m : Message) → (copies 0 (conns k) ≡ 0)
    → (c.ready k ≡ false) → Deleted c conns a → Deleted c (put conns k (send_up (conns k) ForDialog m n0)) a
dialog_sent_deleted c conns a k n0 m none apart i_deleted =
    λ j n p y. let old = i_deleted j n p y in grind (arith, get-push)

pub dialog_sent_keeps : (c : Client) (conns : ℕ → Conn) (a : ℕ → ℕ) (k n0 : ℕ) (m : Message) → (copies 0 (conns k) ≡ 0)
    → (c.ready k ≡ false) → Connections c conns a → Connections c (put conns k (send_up (conns k) ForDialog m n0)) a
dialog_sent_keeps c conns a k n0 m none apart i =
    record {
      once = dialog_sent_once c conns a k n0 m none apart i.once;
      outstanding = dialog_sent_outstanding c conns a k n0 m none apart i.outstanding;
      own_up = dialog_sent_own_up c conns a k n0 m none apart i.own_up;
      attach_up = dialog_sent_attach_up c conns a k n0 m none apart i.attach_up;
      own_down = dialog_sent_own_down c conns a k n0 m none apart i.own_down;
      attach_down = dialog_sent_attach_down c conns a k n0 m none apart i.attach_down;
      down_open = dialog_sent_down_open c conns a k n0 m none apart i.down_open;
      on_ready = dialog_sent_on_ready c conns a k n0 m none apart i.on_ready;
      ready = dialog_sent_ready c conns a k n0 m none apart i.ready;
      stages = dialog_sent_stages c conns a k n0 m none apart i.stages;
      settled = dialog_sent_settled c conns a k n0 m none apart i.settled;
      taken = dialog_sent_taken c conns a k n0 m none apart i.taken;
      taken_on = dialog_sent_taken_on c conns a k n0 m none apart i.taken_on;
      creates = dialog_sent_creates c conns a k n0 m none apart i.creates;
      lower = dialog_sent_lower c conns a k n0 m none apart i.lower;
      has_open = dialog_sent_has_open c conns a k n0 m none apart i.has_open;
      asked_open = dialog_sent_asked_open c conns a k n0 m none apart i.asked_open;
      fresh = dialog_sent_fresh c conns a k n0 m none apart i.fresh;
      bodies = dialog_sent_bodies c conns a k n0 m none apart i.bodies;
      first = dialog_sent_first c conns a k n0 m none apart i.first;
      unsent = dialog_sent_unsent c conns a k n0 m none apart i.unsent;
      sent_replies = dialog_sent_sent_replies c conns a k n0 m none apart i.sent_replies;
      deleted = dialog_sent_deleted c conns a k n0 m none apart i.deleted;
    }
