-- Written by tools/law_connections.py. A dialog is refused, and the client closes its channel.
use Rattle.std.proofs.Common.{◌≡◌, ℕ, false, arith, Some, slice_get}
use Rattle.spec_exchange.specs.Table.{put}
use Rattle.spec_exchange.specs.Operations.{HadStatus}
use Rattle.spec_exchange.specs.Client.{Client, note_refusal}
use Rattle.spec_exchange.specs.Network.{Conn, client_off}
use Rattle.law_sessions.specs.messages.Connections.{Connections, Once, Outstanding, OwnUp, AttachUp, OwnDown, AttachDown}
use Rattle.law_sessions.specs.messages.Connections.{DownOpen, OnReady, Ready, Stages, Settled, Taken, TakenOn, Creates, Lower}
use Rattle.law_sessions.specs.messages.Connections.{HasOpen, AskedOpen, Fresh, Bodies, First, Unsent, SentReplies, Deleted}
use Rattle.law_sessions.proofs.messages.Lists.{get-push, count_up-push, count_down-push, own_up_count}

dialog_refused_once : (c : Client) (conns : ℕ → Conn) (a : ℕ → ℕ) (k status : ℕ) → (c.ready k ≡ false) → Once conns
    → Once (put conns k (client_off (conns k)))
dialog_refused_once c conns a k status apart i_once =
    grind (arith, count_up-push, count_down-push)

dialog_refused_outstanding : (c : Client) (conns : ℕ → Conn) (a : ℕ → ℕ) (k status : ℕ) → (c.ready k ≡ false)
    → Outstanding c conns → Outstanding (note_refusal c k (HadStatus status)) (put conns k (client_off (conns k)))
dialog_refused_outstanding c conns a k status apart i_outstanding =
    grind (arith, count_up-push, count_down-push)

dialog_refused_own_up : (c : Client) (conns : ℕ → Conn) (a : ℕ → ℕ) (k status : ℕ) → (c.ready k ≡ false) → OwnUp c conns
    → OwnUp (note_refusal c k (HadStatus status)) (put conns k (client_off (conns k)))
dialog_refused_own_up c conns a k status apart i_own_up =
    λ j n p x. let old = i_own_up j n p x in grind (arith, get-push)

dialog_refused_attach_up : (c : Client) (conns : ℕ → Conn) (a : ℕ → ℕ) (k status : ℕ) → (c.ready k ≡ false)
    → AttachUp c conns → AttachUp (note_refusal c k (HadStatus status)) (put conns k (client_off (conns k)))
dialog_refused_attach_up c conns a k status apart i_attach_up =
    λ j n p x. let old = i_attach_up j n p x in grind (arith, get-push)

dialog_refused_own_down : (c : Client) (conns : ℕ → Conn) (a : ℕ → ℕ) (k status : ℕ) → (c.ready k ≡ false)
    → OwnDown c conns → OwnDown (note_refusal c k (HadStatus status)) (put conns k (client_off (conns k)))
dialog_refused_own_down c conns a k status apart i_own_down =
    λ j n p y. let old = i_own_down j n p y in grind (arith, get-push)

dialog_refused_attach_down : (c : Client) (conns : ℕ → Conn) (a : ℕ → ℕ) (k status : ℕ) → (c.ready k ≡ false)
    → AttachDown c conns → AttachDown (note_refusal c k (HadStatus status)) (put conns k (client_off (conns k)))
dialog_refused_attach_down c conns a k status apart i_attach_down =
    λ j n p y. let old = i_attach_down j n p y in grind (arith, get-push)

dialog_refused_down_open : (c : Client) (conns : ℕ → Conn) (a : ℕ → ℕ) (k status : ℕ) → (c.ready k ≡ false)
    → DownOpen conns → DownOpen (put conns k (client_off (conns k)))
dialog_refused_down_open c conns a k status apart i_down_open =
    λ j. let old = i_down_open j in grind (arith, get-push)

dialog_refused_on_ready : (c : Client) (conns : ℕ → Conn) (a : ℕ → ℕ) (k status : ℕ) → (c.ready k ≡ false) → OnReady c
    → OnReady (note_refusal c k (HadStatus status))
dialog_refused_on_ready c conns a k status apart i_on_ready =
    λ p j. let old = i_on_ready p j in grind arith

dialog_refused_ready : (c : Client) (conns : ℕ → Conn) (a : ℕ → ℕ) (k status : ℕ) → (c.ready k ≡ false) → Ready c conns
    → Ready (note_refusal c k (HadStatus status)) (put conns k (client_off (conns k)))
dialog_refused_ready c conns a k status apart i_ready =
    λ j. let old = i_ready j in grind (arith, count_up-push, count_down-push)

dialog_refused_stages : (c : Client) (conns : ℕ → Conn) (a : ℕ → ℕ) (k status : ℕ) → (c.ready k ≡ false) → Stages c
    → Stages (note_refusal c k (HadStatus status))
dialog_refused_stages c conns a k status apart i_stages =
    λ j. let old = i_stages j in grind arith

dialog_refused_settled : (c : Client) (conns : ℕ → Conn) (a : ℕ → ℕ) (k status : ℕ) → (c.ready k ≡ false) → Settled c
    → Settled (note_refusal c k (HadStatus status))
dialog_refused_settled c conns a k status apart i_settled =
    λ p. let old = i_settled p in grind arith

dialog_refused_taken : (c : Client) (conns : ℕ → Conn) (a : ℕ → ℕ) (k status : ℕ) → (c.ready k ≡ false) → Taken c
    → Taken (note_refusal c k (HadStatus status))
dialog_refused_taken c conns a k status apart i_taken =
    λ p. let old = i_taken p in grind arith

dialog_refused_taken_on : (c : Client) (conns : ℕ → Conn) (a : ℕ → ℕ) (k status : ℕ) → (c.ready k ≡ false) → TakenOn c
    → TakenOn (note_refusal c k (HadStatus status))
dialog_refused_taken_on c conns a k status apart i_taken_on =
    λ p. let old = i_taken_on p in grind arith

dialog_refused_creates : (c : Client) (conns : ℕ → Conn) (a : ℕ → ℕ) (k status : ℕ) → (c.ready k ≡ false) → Creates c
    → Creates (note_refusal c k (HadStatus status))
dialog_refused_creates c conns a k status apart i_creates =
    λ p. let old = i_creates p in grind arith

dialog_refused_lower : (c : Client) (conns : ℕ → Conn) (a : ℕ → ℕ) (k status : ℕ) → (c.ready k ≡ false) → Lower c
    → Lower (note_refusal c k (HadStatus status))
dialog_refused_lower c conns a k status apart i_lower =
    λ p q. let old = i_lower p q in grind arith

dialog_refused_has_open : (c : Client) (conns : ℕ → Conn) (a : ℕ → ℕ) (k status : ℕ) → (c.ready k ≡ false) → HasOpen c
    → HasOpen (note_refusal c k (HadStatus status))
dialog_refused_has_open c conns a k status apart i_has_open =
    λ p. let old = i_has_open p in grind arith

dialog_refused_asked_open : (c : Client) (conns : ℕ → Conn) (a : ℕ → ℕ) (k status : ℕ) → (c.ready k ≡ false)
    → AskedOpen c → AskedOpen (note_refusal c k (HadStatus status))
dialog_refused_asked_open c conns a k status apart i_asked_open =
    λ p. let old = i_asked_open p in grind arith

dialog_refused_fresh : (c : Client) (conns : ℕ → Conn) (a : ℕ → ℕ) (k status : ℕ) → (c.ready k ≡ false) → Fresh c a
    → Fresh (note_refusal c k (HadStatus status)) a
dialog_refused_fresh c conns a k status apart i_fresh =
    λ p. let old = i_fresh p in grind arith

dialog_refused_bodies : (c : Client) (conns : ℕ → Conn) (a : ℕ → ℕ) (k status : ℕ) → (c.ready k ≡ false)
    → Bodies c conns → Bodies (note_refusal c k (HadStatus status)) (put conns k (client_off (conns k)))
dialog_refused_bodies c conns a k status apart i_bodies =
    λ j n p x. let old = i_bodies j n p x in grind (arith, get-push)

dialog_refused_first : (c : Client) (conns : ℕ → Conn) (a : ℕ → ℕ) (k status : ℕ) → (c.ready k ≡ false)
    → First c conns a → Bodies c conns → OnReady c → Outstanding c conns → OwnUp c conns → Taken c
    → First (note_refusal c k (HadStatus status)) (put conns k (client_off (conns k))) a
dialog_refused_first c conns a k status apart i_first i_bodies i_on_ready i_outstanding i_own_up i_taken =
    λ j n p x h t ao b. let h' : slice_get (conns j).up n ≡ Some x = grind arith in let n1 = own_up_count p (conns j).up
    n x h' t in let u = i_outstanding j p in let kind = i_own_up j n p x h' in let bd = i_bodies j n p x h' t in
    let tk = i_taken p in let old = i_first j n p x h' t ao b in let r = i_on_ready p k in grind arith

dialog_refused_unsent : (c : Client) (conns : ℕ → Conn) (a : ℕ → ℕ) (k status : ℕ) → (c.ready k ≡ false) → Unsent c a
    → Unsent (note_refusal c k (HadStatus status)) a
dialog_refused_unsent c conns a k status apart i_unsent =
    λ p. let old = i_unsent p in grind arith

dialog_refused_sent_replies : (c : Client) (conns : ℕ → Conn) (a : ℕ → ℕ) (k status : ℕ) → (c.ready k ≡ false)
    → SentReplies c conns → SentReplies (note_refusal c k (HadStatus status)) (put conns k (client_off (conns k)))
dialog_refused_sent_replies c conns a k status apart i_sent_replies =
    λ j n p y. let old = i_sent_replies j n p y in grind (arith, get-push)

dialog_refused_deleted : (c : Client) (conns : ℕ → Conn) (a : ℕ → ℕ) (k status : ℕ) → (c.ready k ≡ false)
    → Deleted c conns a → Deleted (note_refusal c k (HadStatus status)) (put conns k (client_off (conns k))) a
dialog_refused_deleted c conns a k status apart i_deleted =
    λ j n p y. let old = i_deleted j n p y in grind (arith, get-push)

pub dialog_refused_keeps : (c : Client) (conns : ℕ → Conn) (a : ℕ → ℕ) (k status : ℕ) → (c.ready k ≡ false)
    → Connections c conns a → Connections (note_refusal c k (HadStatus status)) (put conns k (client_off (conns k))) a
dialog_refused_keeps c conns a k status apart i =
    record {
      once = dialog_refused_once c conns a k status apart i.once;
      outstanding = dialog_refused_outstanding c conns a k status apart i.outstanding;
      own_up = dialog_refused_own_up c conns a k status apart i.own_up;
      attach_up = dialog_refused_attach_up c conns a k status apart i.attach_up;
      own_down = dialog_refused_own_down c conns a k status apart i.own_down;
      attach_down = dialog_refused_attach_down c conns a k status apart i.attach_down;
      down_open = dialog_refused_down_open c conns a k status apart i.down_open;
      on_ready = dialog_refused_on_ready c conns a k status apart i.on_ready;
      ready = dialog_refused_ready c conns a k status apart i.ready;
      stages = dialog_refused_stages c conns a k status apart i.stages;
      settled = dialog_refused_settled c conns a k status apart i.settled;
      taken = dialog_refused_taken c conns a k status apart i.taken;
      taken_on = dialog_refused_taken_on c conns a k status apart i.taken_on;
      creates = dialog_refused_creates c conns a k status apart i.creates;
      lower = dialog_refused_lower c conns a k status apart i.lower;
      has_open = dialog_refused_has_open c conns a k status apart i.has_open;
      asked_open = dialog_refused_asked_open c conns a k status apart i.asked_open;
      fresh = dialog_refused_fresh c conns a k status apart i.fresh;
      bodies = dialog_refused_bodies c conns a k status apart i.bodies;
      first = dialog_refused_first c conns a k status apart i.first i.bodies i.on_ready i.outstanding i.own_up i.taken;
      unsent = dialog_refused_unsent c conns a k status apart i.unsent;
      sent_replies = dialog_refused_sent_replies c conns a k status apart i.sent_replies;
      deleted = dialog_refused_deleted c conns a k status apart i.deleted;
    }
