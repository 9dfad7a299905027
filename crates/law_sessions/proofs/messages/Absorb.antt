-- Written by tools/law_connections.py. The server takes the front.
use Rattle.std.proofs.Common.{◌≡◌, ℕ, ◌+◌, Bool, ◌&&◌, if◌then◌else◌, List, ◌∷◌, arith, Some, slice_get}
use Rattle.spec_exchange.specs.Table.{put}
use Rattle.spec_exchange.specs.Client.{Client}
use Rattle.spec_exchange.specs.Network.{Conn, Sent, behind_front}
use Rattle.spec_exchange.specs.Runs.{is_send_of}
use Rattle.law_sessions.specs.messages.Connections.{Connections, Once, Outstanding, OwnUp, AttachUp, OwnDown, AttachDown}
use Rattle.law_sessions.specs.messages.Connections.{DownOpen, OnReady, Ready, Stages, Settled, Taken, TakenOn, Creates, Lower}
use Rattle.law_sessions.specs.messages.Connections.{HasOpen, AskedOpen, Fresh, Bodies, First, Unsent, SentReplies, Deleted}
use Rattle.law_sessions.proofs.messages.Lists.{get-push, count_up-push, count_down-push, own_up_count, own_down_count, front_up, waited}

absorb_once : (c : Client) (conns : ℕ → Conn) (a : ℕ → ℕ) (k : ℕ) (x0 : Sent) (rest : List Sent) (acted : Bool)
    → ((conns k).up ≡ x0 ∷ rest) → Once conns → Once (put conns k (behind_front (conns k) rest))
absorb_once c conns a k x0 rest acted is i_once =
    grind (arith, count_up-push, count_down-push)

absorb_outstanding : (c : Client) (conns : ℕ → Conn) (a : ℕ → ℕ) (k : ℕ) (x0 : Sent) (rest : List Sent) (acted : Bool)
    → ((conns k).up ≡ x0 ∷ rest) → Outstanding c conns → Outstanding c (put conns k (behind_front (conns k) rest))
absorb_outstanding c conns a k x0 rest acted is i_outstanding =
    grind (arith, count_up-push, count_down-push)

absorb_own_up : (c : Client) (conns : ℕ → Conn) (a : ℕ → ℕ) (k : ℕ) (x0 : Sent) (rest : List Sent) (acted : Bool)
    → ((conns k).up ≡ x0 ∷ rest) → OwnUp c conns → OwnUp c (put conns k (behind_front (conns k) rest))
absorb_own_up c conns a k x0 rest acted is i_own_up =
    λ j n p x h. let o = waited conns k x0 rest j n x is h in let old = i_own_up j o.0 p x o.1 in grind arith

absorb_attach_up : (c : Client) (conns : ℕ → Conn) (a : ℕ → ℕ) (k : ℕ) (x0 : Sent) (rest : List Sent) (acted : Bool)
    → ((conns k).up ≡ x0 ∷ rest) → AttachUp c conns → AttachUp c (put conns k (behind_front (conns k) rest))
absorb_attach_up c conns a k x0 rest acted is i_attach_up =
    λ j n p x h. let o = waited conns k x0 rest j n x is h in let old = i_attach_up j o.0 p x o.1 in grind arith

absorb_own_down : (c : Client) (conns : ℕ → Conn) (a : ℕ → ℕ) (k : ℕ) (x0 : Sent) (rest : List Sent) (acted : Bool)
    → ((conns k).up ≡ x0 ∷ rest) → OwnDown c conns → OwnDown c (put conns k (behind_front (conns k) rest))
absorb_own_down c conns a k x0 rest acted is i_own_down =
    λ j n p y. let old = i_own_down j n p y in grind (arith, get-push)

absorb_attach_down : (c : Client) (conns : ℕ → Conn) (a : ℕ → ℕ) (k : ℕ) (x0 : Sent) (rest : List Sent) (acted : Bool)
    → ((conns k).up ≡ x0 ∷ rest) → AttachDown c conns → AttachDown c (put conns k (behind_front (conns k) rest))
absorb_attach_down c conns a k x0 rest acted is i_attach_down =
    λ j n p y. let old = i_attach_down j n p y in grind (arith, get-push)

absorb_down_open : (c : Client) (conns : ℕ → Conn) (a : ℕ → ℕ) (k : ℕ) (x0 : Sent) (rest : List Sent) (acted : Bool)
    → ((conns k).up ≡ x0 ∷ rest) → DownOpen conns → DownOpen (put conns k (behind_front (conns k) rest))
absorb_down_open c conns a k x0 rest acted is i_down_open =
    λ j. let old = i_down_open j in grind (arith, get-push)

absorb_on_ready : (c : Client) (conns : ℕ → Conn) (a : ℕ → ℕ) (k : ℕ) (x0 : Sent) (rest : List Sent) (acted : Bool)
    → ((conns k).up ≡ x0 ∷ rest) → OnReady c → OnReady c
absorb_on_ready c conns a k x0 rest acted is i_on_ready =
    λ p j. let old = i_on_ready p j in grind arith

absorb_ready : (c : Client) (conns : ℕ → Conn) (a : ℕ → ℕ) (k : ℕ) (x0 : Sent) (rest : List Sent) (acted : Bool)
    → ((conns k).up ≡ x0 ∷ rest) → Ready c conns → Ready c (put conns k (behind_front (conns k) rest))
absorb_ready c conns a k x0 rest acted is i_ready =
    λ j. let old = i_ready j in grind (arith, count_up-push, count_down-push)

absorb_stages : (c : Client) (conns : ℕ → Conn) (a : ℕ → ℕ) (k : ℕ) (x0 : Sent) (rest : List Sent) (acted : Bool)
    → ((conns k).up ≡ x0 ∷ rest) → Stages c → Stages c
absorb_stages c conns a k x0 rest acted is i_stages =
    λ j. let old = i_stages j in grind arith

absorb_settled : (c : Client) (conns : ℕ → Conn) (a : ℕ → ℕ) (k : ℕ) (x0 : Sent) (rest : List Sent) (acted : Bool)
    → ((conns k).up ≡ x0 ∷ rest) → Settled c → Settled c
absorb_settled c conns a k x0 rest acted is i_settled =
    λ p. let old = i_settled p in grind arith

absorb_taken : (c : Client) (conns : ℕ → Conn) (a : ℕ → ℕ) (k : ℕ) (x0 : Sent) (rest : List Sent) (acted : Bool)
    → ((conns k).up ≡ x0 ∷ rest) → Taken c → Taken c
absorb_taken c conns a k x0 rest acted is i_taken =
    λ p. let old = i_taken p in grind arith

absorb_taken_on : (c : Client) (conns : ℕ → Conn) (a : ℕ → ℕ) (k : ℕ) (x0 : Sent) (rest : List Sent) (acted : Bool)
    → ((conns k).up ≡ x0 ∷ rest) → TakenOn c → TakenOn c
absorb_taken_on c conns a k x0 rest acted is i_taken_on =
    λ p. let old = i_taken_on p in grind arith

absorb_creates : (c : Client) (conns : ℕ → Conn) (a : ℕ → ℕ) (k : ℕ) (x0 : Sent) (rest : List Sent) (acted : Bool)
    → ((conns k).up ≡ x0 ∷ rest) → Creates c → Creates c
absorb_creates c conns a k x0 rest acted is i_creates =
    λ p. let old = i_creates p in grind arith

absorb_lower : (c : Client) (conns : ℕ → Conn) (a : ℕ → ℕ) (k : ℕ) (x0 : Sent) (rest : List Sent) (acted : Bool)
    → ((conns k).up ≡ x0 ∷ rest) → Lower c → Lower c
absorb_lower c conns a k x0 rest acted is i_lower =
    λ p q. let old = i_lower p q in grind arith

absorb_has_open : (c : Client) (conns : ℕ → Conn) (a : ℕ → ℕ) (k : ℕ) (x0 : Sent) (rest : List Sent) (acted : Bool)
    → ((conns k).up ≡ x0 ∷ rest) → HasOpen c → HasOpen c
absorb_has_open c conns a k x0 rest acted is i_has_open =
    λ p. let old = i_has_open p in grind arith

absorb_asked_open : (c : Client) (conns : ℕ → Conn) (a : ℕ → ℕ) (k : ℕ) (x0 : Sent) (rest : List Sent) (acted : Bool)
    → ((conns k).up ≡ x0 ∷ rest) → AskedOpen c → AskedOpen c
absorb_asked_open c conns a k x0 rest acted is i_asked_open =
    λ p. let old = i_asked_open p in grind arith

absorb_fresh : (c : Client) (conns : ℕ → Conn) (a : ℕ → ℕ) (k : ℕ) (x0 : Sent) (rest : List Sent) (acted : Bool)
    → ((conns k).up ≡ x0 ∷ rest) → Fresh c a → Bodies c conns
    → Fresh c (λ h. if is_send_of h x0.token && acted then a h + 1 else a h)
absorb_fresh c conns a k x0 rest acted is i_fresh i_bodies =
    λ p. let f0 = front_up (conns k).up x0 rest is in let old = i_fresh p in let b = i_bodies k 0 p x0 f0 in grind arith

absorb_bodies : (c : Client) (conns : ℕ → Conn) (a : ℕ → ℕ) (k : ℕ) (x0 : Sent) (rest : List Sent) (acted : Bool)
    → ((conns k).up ≡ x0 ∷ rest) → Bodies c conns → Bodies c (put conns k (behind_front (conns k) rest))
absorb_bodies c conns a k x0 rest acted is i_bodies =
    λ j n p x h. let o = waited conns k x0 rest j n x is h in i_bodies j o.0 p x o.1

absorb_first : (c : Client) (conns : ℕ → Conn) (a : ℕ → ℕ) (k : ℕ) (x0 : Sent) (rest : List Sent) (acted : Bool)
    → ((conns k).up ≡ x0 ∷ rest) → First c conns a → Bodies c conns → Once conns → Outstanding c conns → OwnUp c conns
    → Taken c → First c (put conns k (behind_front (conns k) rest)) (λ h. if is_send_of h x0.token
    && acted then a h + 1 else a h)
absorb_first c conns a k x0 rest acted is i_first i_bodies i_once i_outstanding i_own_up i_taken =
    λ j n p x h t ao b. let o = waited conns k x0 rest j n x is h in let f0 = front_up (conns k).up x0 rest is in
    let fst = i_first k 0 p x0 f0 in let kind = i_own_up k 0 p x0 f0 in let n0 = own_up_count p (conns k).up 0 x0 f0
    in let u0 = i_outstanding k p in let bd = i_bodies k 0 p x0 f0 in let tk = i_taken p in let old =
    i_first j o.0 p x o.1 t ao b in let n1 = own_up_count p (conns j).up o.0 x o.1 t in let u1 = i_outstanding j p
    in let one = i_once k p in let n2 = own_up_count p (put conns k (behind_front (conns k) rest) j).up n x h t in
    grind arith

absorb_unsent : (c : Client) (conns : ℕ → Conn) (a : ℕ → ℕ) (k : ℕ) (x0 : Sent) (rest : List Sent) (acted : Bool)
    → ((conns k).up ≡ x0 ∷ rest) → Unsent c a → Bodies c conns → First c conns a → Outstanding c conns → OwnUp c conns
    → Taken c → Unsent c (λ h. if is_send_of h x0.token && acted then a h + 1 else a h)
absorb_unsent c conns a k x0 rest acted is i_unsent i_bodies i_first i_outstanding i_own_up i_taken =
    λ p on_ b none. let f0 = front_up (conns k).up x0 rest is in let fst = i_first k 0 p x0 f0 in let kind =
    i_own_up k 0 p x0 f0 in let n0 = own_up_count p (conns k).up 0 x0 f0 in let u0 = i_outstanding k p in let bd =
    i_bodies k 0 p x0 f0 in let tk = i_taken p in let old = i_unsent p on_ b none in grind arith

absorb_sent_replies : (c : Client) (conns : ℕ → Conn) (a : ℕ → ℕ) (k : ℕ) (x0 : Sent) (rest : List Sent) (acted : Bool)
    → ((conns k).up ≡ x0 ∷ rest) → SentReplies c conns → SentReplies c (put conns k (behind_front (conns k) rest))
absorb_sent_replies c conns a k x0 rest acted is i_sent_replies =
    λ j n p y. let old = i_sent_replies j n p y in grind (arith, get-push)

absorb_deleted : (c : Client) (conns : ℕ → Conn) (a : ℕ → ℕ) (k : ℕ) (x0 : Sent) (rest : List Sent) (acted : Bool)
    → ((conns k).up ≡ x0 ∷ rest) → Deleted c conns a → Bodies c conns → DownOpen conns → First c conns a → Once conns
    → Outstanding c conns → OwnUp c conns → Taken c → Deleted c (put conns k (behind_front (conns k) rest))
    (λ h. if is_send_of h x0.token && acted then a h + 1 else a h)
absorb_deleted c conns a k x0 rest acted is i_deleted i_bodies i_down_open i_first i_once i_outstanding i_own_up i_taken =
    λ j n p y h t ao st b. let f0 = front_up (conns k).up x0 rest is in let fst = i_first k 0 p x0 f0 in let kind =
    i_own_up k 0 p x0 f0 in let n0 = own_up_count p (conns k).up 0 x0 f0 in let u0 = i_outstanding k p in let bd =
    i_bodies k 0 p x0 f0 in let tk = i_taken p in let h' : slice_get (conns j).down n ≡ Some y = grind arith in
    let old = i_deleted j n p y h' t ao st b in let n1 = own_down_count p (conns j).down n y h' t in let one =
    i_once k p in let u1 = i_outstanding j p in let dn = i_down_open j in grind arith

pub absorb_keeps : (c : Client) (conns : ℕ → Conn) (a : ℕ → ℕ) (k : ℕ) (x0 : Sent) (rest : List Sent) (acted : Bool)
    → ((conns k).up ≡ x0 ∷ rest) → Connections c conns a → Connections c (put conns k (behind_front (conns k) rest))
    (λ h. if is_send_of h x0.token && acted then a h + 1 else a h)
absorb_keeps c conns a k x0 rest acted is i =
    record {
      once = absorb_once c conns a k x0 rest acted is i.once;
      outstanding = absorb_outstanding c conns a k x0 rest acted is i.outstanding;
      own_up = absorb_own_up c conns a k x0 rest acted is i.own_up;
      attach_up = absorb_attach_up c conns a k x0 rest acted is i.attach_up;
      own_down = absorb_own_down c conns a k x0 rest acted is i.own_down;
      attach_down = absorb_attach_down c conns a k x0 rest acted is i.attach_down;
      down_open = absorb_down_open c conns a k x0 rest acted is i.down_open;
      on_ready = absorb_on_ready c conns a k x0 rest acted is i.on_ready;
      ready = absorb_ready c conns a k x0 rest acted is i.ready;
      stages = absorb_stages c conns a k x0 rest acted is i.stages;
      settled = absorb_settled c conns a k x0 rest acted is i.settled;
      taken = absorb_taken c conns a k x0 rest acted is i.taken;
      taken_on = absorb_taken_on c conns a k x0 rest acted is i.taken_on;
      creates = absorb_creates c conns a k x0 rest acted is i.creates;
      lower = absorb_lower c conns a k x0 rest acted is i.lower;
      has_open = absorb_has_open c conns a k x0 rest acted is i.has_open;
      asked_open = absorb_asked_open c conns a k x0 rest acted is i.asked_open;
      fresh = absorb_fresh c conns a k x0 rest acted is i.fresh i.bodies;
      bodies = absorb_bodies c conns a k x0 rest acted is i.bodies;
      first = absorb_first c conns a k x0 rest acted is i.first i.bodies i.once i.outstanding i.own_up i.taken;
      unsent = absorb_unsent c conns a k x0 rest acted is i.unsent i.bodies i.first i.outstanding i.own_up i.taken;
      sent_replies = absorb_sent_replies c conns a k x0 rest acted is i.sent_replies;
      deleted = absorb_deleted c conns a k x0 rest acted is i.deleted i.bodies i.down_open i.first i.once i.outstanding i.own_up i.taken;
    }
