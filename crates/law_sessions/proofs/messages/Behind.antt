-- Written by tools/law_connections.py. A reply leaves its connection.
use Rattle.std.proofs.Common.{◌≡◌, ℕ, List, ◌∷◌, arith}
use Rattle.spec_exchange.specs.Table.{put}
use Rattle.spec_exchange.specs.Client.{Client}
use Rattle.spec_exchange.specs.Network.{Conn, Received, take_front}
use Rattle.law_sessions.specs.messages.Connections.{Connections, Once, Outstanding, OwnUp, AttachUp, OwnDown, AttachDown}
use Rattle.law_sessions.specs.messages.Connections.{DownOpen, OnReady, Ready, Stages, Settled, Taken, TakenOn, Creates, Lower}
use Rattle.law_sessions.specs.messages.Connections.{HasOpen, AskedOpen, Fresh, Bodies, First, Unsent, SentReplies, Deleted}
use Rattle.law_sessions.proofs.messages.Lists.{get-push, count_up-push, count_down-push, waited_down}

behind_once : (c : Client) (conns : ℕ → Conn) (a : ℕ → ℕ) (k : ℕ) (y0 : Received) (rest : List Received)
    → ((conns k).down ≡ y0 ∷ rest) → Once conns → Once (put conns k (take_front (conns k) rest))
behind_once c conns a k y0 rest is i_once =
    grind (arith, count_up-push, count_down-push)

behind_outstanding : (c : Client) (conns : ℕ → Conn) (a : ℕ → ℕ) (k : ℕ) (y0 : Received) (rest : List Received)
    → ((conns k).down ≡ y0 ∷ rest) → Outstanding c conns → Outstanding c (put conns k (take_front (conns k) rest))
behind_outstanding c conns a k y0 rest is i_outstanding =
    grind (arith, count_up-push, count_down-push)

behind_own_up : (c : Client) (conns : ℕ → Conn) (a : ℕ → ℕ) (k : ℕ) (y0 : Received) (rest : List Received)
    → ((conns k).down ≡ y0 ∷ rest) → OwnUp c conns → OwnUp c (put conns k (take_front (conns k) rest))
behind_own_up c conns a k y0 rest is i_own_up =
    λ j n p x. let old = i_own_up j n p x in grind (arith, get-push)

behind_attach_up : (c : Client) (conns : ℕ → Conn) (a : ℕ → ℕ) (k : ℕ) (y0 : Received) (rest : List Received)
    → ((conns k).down ≡ y0 ∷ rest) → AttachUp c conns → AttachUp c (put conns k (take_front (conns k) rest))
behind_attach_up c conns a k y0 rest is i_attach_up =
    λ j n p x. let old = i_attach_up j n p x in grind (arith, get-push)

behind_own_down : (c : Client) (conns : ℕ → Conn) (a : ℕ → ℕ) (k : ℕ) (y0 : Received) (rest : List Received)
    → ((conns k).down ≡ y0 ∷ rest) → OwnDown c conns → OwnDown c (put conns k (take_front (conns k) rest))
behind_own_down c conns a k y0 rest is i_own_down =
    λ j n p y h. let o = waited_down conns k y0 rest j n y is h in let old = i_own_down j o.0 p y o.1 in grind arith

behind_attach_down : (c : Client) (conns : ℕ → Conn) (a : ℕ → ℕ) (k : ℕ) (y0 : Received) (rest : List Received)
    → ((conns k).down ≡ y0 ∷ rest) → AttachDown c conns → AttachDown c (put conns k (take_front (conns k) rest))
behind_attach_down c conns a k y0 rest is i_attach_down =
    λ j n p y h. let o = waited_down conns k y0 rest j n y is h in let old = i_attach_down j o.0 p y o.1 in grind arith

behind_down_open : (c : Client) (conns : ℕ → Conn) (a : ℕ → ℕ) (k : ℕ) (y0 : Received) (rest : List Received)
    → ((conns k).down ≡ y0 ∷ rest) → DownOpen conns → DownOpen (put conns k (take_front (conns k) rest))
behind_down_open c conns a k y0 rest is i_down_open =
    λ j. let old = i_down_open j in grind (arith, get-push)

behind_on_ready : (c : Client) (conns : ℕ → Conn) (a : ℕ → ℕ) (k : ℕ) (y0 : Received) (rest : List Received)
    → ((conns k).down ≡ y0 ∷ rest) → OnReady c → OnReady c
behind_on_ready c conns a k y0 rest is i_on_ready =
    λ p j. let old = i_on_ready p j in grind arith

behind_ready : (c : Client) (conns : ℕ → Conn) (a : ℕ → ℕ) (k : ℕ) (y0 : Received) (rest : List Received)
    → ((conns k).down ≡ y0 ∷ rest) → Ready c conns → Ready c (put conns k (take_front (conns k) rest))
behind_ready c conns a k y0 rest is i_ready =
    λ j. let old = i_ready j in grind (arith, count_up-push, count_down-push)

behind_stages : (c : Client) (conns : ℕ → Conn) (a : ℕ → ℕ) (k : ℕ) (y0 : Received) (rest : List Received)
    → ((conns k).down ≡ y0 ∷ rest) → Stages c → Stages c
behind_stages c conns a k y0 rest is i_stages =
    λ j. let old = i_stages j in grind arith

behind_settled : (c : Client) (conns : ℕ → Conn) (a : ℕ → ℕ) (k : ℕ) (y0 : Received) (rest : List Received)
    → ((conns k).down ≡ y0 ∷ rest) → Settled c → Settled c
behind_settled c conns a k y0 rest is i_settled =
    λ p. let old = i_settled p in grind arith

behind_taken : (c : Client) (conns : ℕ → Conn) (a : ℕ → ℕ) (k : ℕ) (y0 : Received) (rest : List Received)
    → ((conns k).down ≡ y0 ∷ rest) → Taken c → Taken c
behind_taken c conns a k y0 rest is i_taken =
    λ p. let old = i_taken p in grind arith

behind_taken_on : (c : Client) (conns : ℕ → Conn) (a : ℕ → ℕ) (k : ℕ) (y0 : Received) (rest : List Received)
    → ((conns k).down ≡ y0 ∷ rest) → TakenOn c → TakenOn c
behind_taken_on c conns a k y0 rest is i_taken_on =
    λ p. let old = i_taken_on p in grind arith

behind_creates : (c : Client) (conns : ℕ → Conn) (a : ℕ → ℕ) (k : ℕ) (y0 : Received) (rest : List Received)
    → ((conns k).down ≡ y0 ∷ rest) → Creates c → Creates c
behind_creates c conns a k y0 rest is i_creates =
    λ p. let old = i_creates p in grind arith

behind_lower : (c : Client) (conns : ℕ → Conn) (a : ℕ → ℕ) (k : ℕ) (y0 : Received) (rest : List Received)
    → ((conns k).down ≡ y0 ∷ rest) → Lower c → Lower c
behind_lower c conns a k y0 rest is i_lower =
    λ p q. let old = i_lower p q in grind arith

behind_has_open : (c : Client) (conns : ℕ → Conn) (a : ℕ → ℕ) (k : ℕ) (y0 : Received) (rest : List Received)
    → ((conns k).down ≡ y0 ∷ rest) → HasOpen c → HasOpen c
behind_has_open c conns a k y0 rest is i_has_open =
    λ p. let old = i_has_open p in grind arith

behind_asked_open : (c : Client) (conns : ℕ → Conn) (a : ℕ → ℕ) (k : ℕ) (y0 : Received) (rest : List Received)
    → ((conns k).down ≡ y0 ∷ rest) → AskedOpen c → AskedOpen c
behind_asked_open c conns a k y0 rest is i_asked_open =
    λ p. let old = i_asked_open p in grind arith

behind_fresh : (c : Client) (conns : ℕ → Conn) (a : ℕ → ℕ) (k : ℕ) (y0 : Received) (rest : List Received)
    → ((conns k).down ≡ y0 ∷ rest) → Fresh c a → Fresh c a
behind_fresh c conns a k y0 rest is i_fresh =
    λ p. let old = i_fresh p in grind arith

behind_bodies : (c : Client) (conns : ℕ → Conn) (a : ℕ → ℕ) (k : ℕ) (y0 : Received) (rest : List Received)
    → ((conns k).down ≡ y0 ∷ rest) → Bodies c conns → Bodies c (put conns k (take_front (conns k) rest))
behind_bodies c conns a k y0 rest is i_bodies =
    λ j n p x. let old = i_bodies j n p x in grind (arith, get-push)

behind_first : (c : Client) (conns : ℕ → Conn) (a : ℕ → ℕ) (k : ℕ) (y0 : Received) (rest : List Received)
    → ((conns k).down ≡ y0 ∷ rest) → First c conns a → First c (put conns k (take_front (conns k) rest)) a
behind_first c conns a k y0 rest is i_first =
    λ j n p x. let old = i_first j n p x in grind (arith, get-push)

behind_unsent : (c : Client) (conns : ℕ → Conn) (a : ℕ → ℕ) (k : ℕ) (y0 : Received) (rest : List Received)
    → ((conns k).down ≡ y0 ∷ rest) → Unsent c a → Unsent c a
behind_unsent c conns a k y0 rest is i_unsent =
    λ p. let old = i_unsent p in grind arith

behind_sent_replies : (c : Client) (conns : ℕ → Conn) (a : ℕ → ℕ) (k : ℕ) (y0 : Received) (rest : List Received)
    → ((conns k).down ≡ y0 ∷ rest) → SentReplies c conns → SentReplies c (put conns k (take_front (conns k) rest))
behind_sent_replies c conns a k y0 rest is i_sent_replies =
    λ j n p y h. let o = waited_down conns k y0 rest j n y is h in i_sent_replies j o.0 p y o.1

behind_deleted : (c : Client) (conns : ℕ → Conn) (a : ℕ → ℕ) (k : ℕ) (y0 : Received) (rest : List Received)
    → ((conns k).down ≡ y0 ∷ rest) → Deleted c conns a → Deleted c (put conns k (take_front (conns k) rest)) a
behind_deleted c conns a k y0 rest is i_deleted =
    λ j n p y h. let o = waited_down conns k y0 rest j n y is h in i_deleted j o.0 p y o.1

pub behind_keeps : (c : Client) (conns : ℕ → Conn) (a : ℕ → ℕ) (k : ℕ) (y0 : Received) (rest : List Received)
    → ((conns k).down ≡ y0 ∷ rest) → Connections c conns a → Connections c (put conns k (take_front (conns k) rest)) a
behind_keeps c conns a k y0 rest is i =
    record {
      once = behind_once c conns a k y0 rest is i.once;
      outstanding = behind_outstanding c conns a k y0 rest is i.outstanding;
      own_up = behind_own_up c conns a k y0 rest is i.own_up;
      attach_up = behind_attach_up c conns a k y0 rest is i.attach_up;
      own_down = behind_own_down c conns a k y0 rest is i.own_down;
      attach_down = behind_attach_down c conns a k y0 rest is i.attach_down;
      down_open = behind_down_open c conns a k y0 rest is i.down_open;
      on_ready = behind_on_ready c conns a k y0 rest is i.on_ready;
      ready = behind_ready c conns a k y0 rest is i.ready;
      stages = behind_stages c conns a k y0 rest is i.stages;
      settled = behind_settled c conns a k y0 rest is i.settled;
      taken = behind_taken c conns a k y0 rest is i.taken;
      taken_on = behind_taken_on c conns a k y0 rest is i.taken_on;
      creates = behind_creates c conns a k y0 rest is i.creates;
      lower = behind_lower c conns a k y0 rest is i.lower;
      has_open = behind_has_open c conns a k y0 rest is i.has_open;
      asked_open = behind_asked_open c conns a k y0 rest is i.asked_open;
      fresh = behind_fresh c conns a k y0 rest is i.fresh;
      bodies = behind_bodies c conns a k y0 rest is i.bodies;
      first = behind_first c conns a k y0 rest is i.first;
      unsent = behind_unsent c conns a k y0 rest is i.unsent;
      sent_replies = behind_sent_replies c conns a k y0 rest is i.sent_replies;
      deleted = behind_deleted c conns a k y0 rest is i.deleted;
    }
