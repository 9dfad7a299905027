-- Written by tools/law_connections.py. A DH2C goes out in an operation's place.
use Rattle.std.proofs.Common.{◌≡◌, ℕ, ◌≤◌, ◌<◌, true, false, ◌||◌, arith, None}
use Rattle.spec_exchange.specs.Table.{put}
use Rattle.spec_exchange.specs.State.{Message}
use Rattle.spec_exchange.specs.Operations.{is_unsettled}
use Rattle.spec_exchange.specs.Client.{Client, asked}
use Rattle.spec_exchange.specs.Network.{Conn, ForAttach, send_up}
use Rattle.law_sessions.specs.messages.Connections.{Connections, shuts_open, create_at, opens, Once, Outstanding, OwnUp}
use Rattle.law_sessions.specs.messages.Connections.{AttachUp, OwnDown, AttachDown, DownOpen, OnReady, Ready, Stages, Settled}
use Rattle.law_sessions.specs.messages.Connections.{Taken, TakenOn, Creates, Lower, HasOpen, AskedOpen, Fresh, Bodies, First}
use Rattle.law_sessions.specs.messages.Connections.{Unsent, SentReplies, Deleted}
use Rattle.law_sessions.proofs.messages.Lists.{get-push, count_up-push, count_down-push, own_up_count, attach_up_count}
use Rattle.law_sessions.proofs.messages.Lists.{own_down_count, attach_down_count}

ask_once : (c : Client) (conns : ℕ → Conn) (a : ℕ → ℕ) (k g n0 : ℕ) (m : Message) → (c.ready k ≡ true)
    → (c.outstanding_on g ≡ None) → (0 < g) → (g ≤ c.taken) → (is_unsettled (c.outcome g) ≡ true) → (opens c g ≡ true)
    → Once conns → Outstanding c conns → Ready c conns → Once (put conns k (send_up (conns k) (ForAttach g) m n0))
ask_once c conns a k g n0 m ready none above within pending may i_once i_outstanding i_ready =
    λ j p. let old = i_once j p in let u = i_outstanding j p in let r = i_ready k ready in grind (arith, count_up-push, count_down-push)

ask_outstanding : (c : Client) (conns : ℕ → Conn) (a : ℕ → ℕ) (k g n0 : ℕ) (m : Message) → (c.ready k ≡ true)
    → (c.outstanding_on g ≡ None) → (0 < g) → (g ≤ c.taken) → (is_unsettled (c.outcome g) ≡ true) → (opens c g ≡ true)
    → Outstanding c conns → Outstanding (asked c k g) (put conns k (send_up (conns k) (ForAttach g) m n0))
ask_outstanding c conns a k g n0 m ready none above within pending may i_outstanding =
    grind (arith, count_up-push, count_down-push)

ask_own_up : (c : Client) (conns : ℕ → Conn) (a : ℕ → ℕ) (k g n0 : ℕ) (m : Message) → (c.ready k ≡ true)
    → (c.outstanding_on g ≡ None) → (0 < g) → (g ≤ c.taken) → (is_unsettled (c.outcome g) ≡ true) → (opens c g ≡ true)
    → OwnUp c conns → Outstanding c conns → OwnUp (asked c k g) (put conns k (send_up (conns k) (ForAttach g) m n0))
ask_own_up c conns a k g n0 m ready none above within pending may i_own_up i_outstanding =
    λ j n p x h o t. let l = own_up_count p (conns j).up n x in let u = i_outstanding j p in let old = i_own_up j n p x
    in grind (arith, get-push)

ask_attach_up : (c : Client) (conns : ℕ → Conn) (a : ℕ → ℕ) (k g n0 : ℕ) (m : Message) → (c.ready k ≡ true)
    → (c.outstanding_on g ≡ None) → (0 < g) → (g ≤ c.taken) → (is_unsettled (c.outcome g) ≡ true) → (opens c g ≡ true)
    → AttachUp c conns → Outstanding c conns → AttachUp (asked c k g)
    (put conns k (send_up (conns k) (ForAttach g) m n0))
ask_attach_up c conns a k g n0 m ready none above within pending may i_attach_up i_outstanding =
    λ j n p x h o t. let l = attach_up_count p (conns j).up n x in let u = i_outstanding j p in let old =
    i_attach_up j n p x in grind (arith, get-push)

ask_own_down : (c : Client) (conns : ℕ → Conn) (a : ℕ → ℕ) (k g n0 : ℕ) (m : Message) → (c.ready k ≡ true)
    → (c.outstanding_on g ≡ None) → (0 < g) → (g ≤ c.taken) → (is_unsettled (c.outcome g) ≡ true) → (opens c g ≡ true)
    → OwnDown c conns → Outstanding c conns → OwnDown (asked c k g) (put conns k (send_up (conns k) (ForAttach g) m n0))
ask_own_down c conns a k g n0 m ready none above within pending may i_own_down i_outstanding =
    λ j n p y h o t. let l = own_down_count p (conns j).down n y in let u = i_outstanding j p in let old =
    i_own_down j n p y in grind (arith, get-push)

ask_attach_down : (c : Client) (conns : ℕ → Conn) (a : ℕ → ℕ) (k g n0 : ℕ) (m : Message) → (c.ready k ≡ true)
    → (c.outstanding_on g ≡ None) → (0 < g) → (g ≤ c.taken) → (is_unsettled (c.outcome g) ≡ true) → (opens c g ≡ true)
    → AttachDown c conns → Outstanding c conns → AttachDown (asked c k g)
    (put conns k (send_up (conns k) (ForAttach g) m n0))
ask_attach_down c conns a k g n0 m ready none above within pending may i_attach_down i_outstanding =
    λ j n p y h o t. let l = attach_down_count p (conns j).down n y in let u = i_outstanding j p in let old =
    i_attach_down j n p y in grind (arith, get-push)

ask_down_open : (c : Client) (conns : ℕ → Conn) (a : ℕ → ℕ) (k g n0 : ℕ) (m : Message) → (c.ready k ≡ true)
    → (c.outstanding_on g ≡ None) → (0 < g) → (g ≤ c.taken) → (is_unsettled (c.outcome g) ≡ true) → (opens c g ≡ true)
    → DownOpen conns → DownOpen (put conns k (send_up (conns k) (ForAttach g) m n0))
ask_down_open c conns a k g n0 m ready none above within pending may i_down_open =
    λ j. let old = i_down_open j in grind (arith, get-push)

ask_on_ready : (c : Client) (conns : ℕ → Conn) (a : ℕ → ℕ) (k g n0 : ℕ) (m : Message) → (c.ready k ≡ true)
    → (c.outstanding_on g ≡ None) → (0 < g) → (g ≤ c.taken) → (is_unsettled (c.outcome g) ≡ true) → (opens c g ≡ true)
    → OnReady c → OnReady (asked c k g)
ask_on_ready c conns a k g n0 m ready none above within pending may i_on_ready =
    λ p j. let old = i_on_ready p j in grind arith

ask_ready : (c : Client) (conns : ℕ → Conn) (a : ℕ → ℕ) (k g n0 : ℕ) (m : Message) → (c.ready k ≡ true)
    → (c.outstanding_on g ≡ None) → (0 < g) → (g ≤ c.taken) → (is_unsettled (c.outcome g) ≡ true) → (opens c g ≡ true)
    → Ready c conns → Ready (asked c k g) (put conns k (send_up (conns k) (ForAttach g) m n0))
ask_ready c conns a k g n0 m ready none above within pending may i_ready =
    λ j. let old = i_ready j in grind (arith, count_up-push, count_down-push)

ask_stages : (c : Client) (conns : ℕ → Conn) (a : ℕ → ℕ) (k g n0 : ℕ) (m : Message) → (c.ready k ≡ true)
    → (c.outstanding_on g ≡ None) → (0 < g) → (g ≤ c.taken) → (is_unsettled (c.outcome g) ≡ true) → (opens c g ≡ true)
    → Stages c → Stages (asked c k g)
ask_stages c conns a k g n0 m ready none above within pending may i_stages =
    λ j. let old = i_stages j in grind arith

ask_settled : (c : Client) (conns : ℕ → Conn) (a : ℕ → ℕ) (k g n0 : ℕ) (m : Message) → (c.ready k ≡ true)
    → (c.outstanding_on g ≡ None) → (0 < g) → (g ≤ c.taken) → (is_unsettled (c.outcome g) ≡ true) → (opens c g ≡ true)
    → Settled c → Settled (asked c k g)
ask_settled c conns a k g n0 m ready none above within pending may i_settled =
    λ p. let old = i_settled p in grind arith

ask_taken : (c : Client) (conns : ℕ → Conn) (a : ℕ → ℕ) (k g n0 : ℕ) (m : Message) → (c.ready k ≡ true)
    → (c.outstanding_on g ≡ None) → (0 < g) → (g ≤ c.taken) → (is_unsettled (c.outcome g) ≡ true) → (opens c g ≡ true)
    → Taken c → Taken (asked c k g)
ask_taken c conns a k g n0 m ready none above within pending may i_taken =
    λ p. let old = i_taken p in grind arith

ask_taken_on : (c : Client) (conns : ℕ → Conn) (a : ℕ → ℕ) (k g n0 : ℕ) (m : Message) → (c.ready k ≡ true)
    → (c.outstanding_on g ≡ None) → (0 < g) → (g ≤ c.taken) → (is_unsettled (c.outcome g) ≡ true) → (opens c g ≡ true)
    → TakenOn c → TakenOn (asked c k g)
ask_taken_on c conns a k g n0 m ready none above within pending may i_taken_on =
    λ p. let old = i_taken_on p in grind arith

ask_creates : (c : Client) (conns : ℕ → Conn) (a : ℕ → ℕ) (k g n0 : ℕ) (m : Message) → (c.ready k ≡ true)
    → (c.outstanding_on g ≡ None) → (0 < g) → (g ≤ c.taken) → (is_unsettled (c.outcome g) ≡ true) → (opens c g ≡ true)
    → Creates c → Creates (asked c k g)
ask_creates c conns a k g n0 m ready none above within pending may i_creates =
    λ p. let old = i_creates p in grind arith

ask_lower : (c : Client) (conns : ℕ → Conn) (a : ℕ → ℕ) (k g n0 : ℕ) (m : Message) → (c.ready k ≡ true)
    → (c.outstanding_on g ≡ None) → (0 < g) → (g ≤ c.taken) → (is_unsettled (c.outcome g) ≡ true) → (opens c g ≡ true)
    → ((n : ℕ) → 0 < n → n < g → create_at c n ≡ create_at c g → (shuts_open (c.op g) || shuts_open (c.op n)) ≡ true
    → is_unsettled (c.outcome n) ≡ false) → Lower c → Lower (asked c k g)
ask_lower c conns a k g n0 m ready none above within pending may lower i_lower =
    λ p q. let old = i_lower p q in let l = lower q in grind arith

ask_has_open : (c : Client) (conns : ℕ → Conn) (a : ℕ → ℕ) (k g n0 : ℕ) (m : Message) → (c.ready k ≡ true)
    → (c.outstanding_on g ≡ None) → (0 < g) → (g ≤ c.taken) → (is_unsettled (c.outcome g) ≡ true) → (opens c g ≡ true)
    → HasOpen c → HasOpen (asked c k g)
ask_has_open c conns a k g n0 m ready none above within pending may i_has_open =
    λ p. let old = i_has_open p in grind arith

ask_asked_open : (c : Client) (conns : ℕ → Conn) (a : ℕ → ℕ) (k g n0 : ℕ) (m : Message) → (c.ready k ≡ true)
    → (c.outstanding_on g ≡ None) → (0 < g) → (g ≤ c.taken) → (is_unsettled (c.outcome g) ≡ true) → (opens c g ≡ true)
    → AskedOpen c → AskedOpen (asked c k g)
ask_asked_open c conns a k g n0 m ready none above within pending may i_asked_open =
    λ p. let old = i_asked_open p in grind arith

ask_fresh : (c : Client) (conns : ℕ → Conn) (a : ℕ → ℕ) (k g n0 : ℕ) (m : Message) → (c.ready k ≡ true)
    → (c.outstanding_on g ≡ None) → (0 < g) → (g ≤ c.taken) → (is_unsettled (c.outcome g) ≡ true) → (opens c g ≡ true)
    → Fresh c a → Fresh (asked c k g) a
ask_fresh c conns a k g n0 m ready none above within pending may i_fresh =
    λ p. let old = i_fresh p in grind arith

ask_bodies : (c : Client) (conns : ℕ → Conn) (a : ℕ → ℕ) (k g n0 : ℕ) (m : Message) → (c.ready k ≡ true)
    → (c.outstanding_on g ≡ None) → (0 < g) → (g ≤ c.taken) → (is_unsettled (c.outcome g) ≡ true) → (opens c g ≡ true)
    → Bodies c conns → Bodies (asked c k g) (put conns k (send_up (conns k) (ForAttach g) m n0))
ask_bodies c conns a k g n0 m ready none above within pending may i_bodies =
    λ j n p x. let old = i_bodies j n p x in grind (arith, get-push)

ask_first : (c : Client) (conns : ℕ → Conn) (a : ℕ → ℕ) (k g n0 : ℕ) (m : Message) → (c.ready k ≡ true)
    → (c.outstanding_on g ≡ None) → (0 < g) → (g ≤ c.taken) → (is_unsettled (c.outcome g) ≡ true) → (opens c g ≡ true)
    → First c conns a → First (asked c k g) (put conns k (send_up (conns k) (ForAttach g) m n0)) a
ask_first c conns a k g n0 m ready none above within pending may i_first =
    λ j n p x. let old = i_first j n p x in grind (arith, get-push)

ask_unsent : (c : Client) (conns : ℕ → Conn) (a : ℕ → ℕ) (k g n0 : ℕ) (m : Message) → (c.ready k ≡ true)
    → (c.outstanding_on g ≡ None) → (0 < g) → (g ≤ c.taken) → (is_unsettled (c.outcome g) ≡ true) → (opens c g ≡ true)
    → Unsent c a → Unsent (asked c k g) a
ask_unsent c conns a k g n0 m ready none above within pending may i_unsent =
    λ p. let old = i_unsent p in grind arith

ask_sent_replies : (c : Client) (conns : ℕ → Conn) (a : ℕ → ℕ) (k g n0 : ℕ) (m : Message) → (c.ready k ≡ true)
    → (c.outstanding_on g ≡ None) → (0 < g) → (g ≤ c.taken) → (is_unsettled (c.outcome g) ≡ true) → (opens c g ≡ true)
    → SentReplies c conns → SentReplies (asked c k g) (put conns k (send_up (conns k) (ForAttach g) m n0))
ask_sent_replies c conns a k g n0 m ready none above within pending may i_sent_replies =
    λ j n p y. let old = i_sent_replies j n p y in grind (arith, get-push)

ask_deleted : (c : Client) (conns : ℕ → Conn) (a : ℕ → ℕ) (k g n0 : ℕ) (m : Message) → (c.ready k ≡ true)
    → (c.outstanding_on g ≡ None) → (0 < g) → (g ≤ c.taken) → (is_unsettled (c.outcome g) ≡ true) → (opens c g ≡ true)
    → Deleted c conns a → Deleted (asked c k g) (put conns k (send_up (conns k) (ForAttach g) m n0)) a
ask_deleted c conns a k g n0 m ready none above within pending may i_deleted =
    λ j n p y. let old = i_deleted j n p y in grind (arith, get-push)

pub ask_keeps : (c : Client) (conns : ℕ → Conn) (a : ℕ → ℕ) (k g n0 : ℕ) (m : Message) → (c.ready k ≡ true)
    → (c.outstanding_on g ≡ None) → (0 < g) → (g ≤ c.taken) → (is_unsettled (c.outcome g) ≡ true) → (opens c g ≡ true)
    → ((n : ℕ) → 0 < n → n < g → create_at c n ≡ create_at c g → (shuts_open (c.op g) || shuts_open (c.op n)) ≡ true
    → is_unsettled (c.outcome n) ≡ false) → Connections c conns a → Connections (asked c k g)
    (put conns k (send_up (conns k) (ForAttach g) m n0)) a
ask_keeps c conns a k g n0 m ready none above within pending may lower i =
    record {
      once = ask_once c conns a k g n0 m ready none above within pending may i.once i.outstanding i.ready;
      outstanding = ask_outstanding c conns a k g n0 m ready none above within pending may i.outstanding;
      own_up = ask_own_up c conns a k g n0 m ready none above within pending may i.own_up i.outstanding;
      attach_up = ask_attach_up c conns a k g n0 m ready none above within pending may i.attach_up i.outstanding;
      own_down = ask_own_down c conns a k g n0 m ready none above within pending may i.own_down i.outstanding;
      attach_down = ask_attach_down c conns a k g n0 m ready none above within pending may i.attach_down i.outstanding;
      down_open = ask_down_open c conns a k g n0 m ready none above within pending may i.down_open;
      on_ready = ask_on_ready c conns a k g n0 m ready none above within pending may i.on_ready;
      ready = ask_ready c conns a k g n0 m ready none above within pending may i.ready;
      stages = ask_stages c conns a k g n0 m ready none above within pending may i.stages;
      settled = ask_settled c conns a k g n0 m ready none above within pending may i.settled;
      taken = ask_taken c conns a k g n0 m ready none above within pending may i.taken;
      taken_on = ask_taken_on c conns a k g n0 m ready none above within pending may i.taken_on;
      creates = ask_creates c conns a k g n0 m ready none above within pending may i.creates;
      lower = ask_lower c conns a k g n0 m ready none above within pending may lower i.lower;
      has_open = ask_has_open c conns a k g n0 m ready none above within pending may i.has_open;
      asked_open = ask_asked_open c conns a k g n0 m ready none above within pending may i.asked_open;
      fresh = ask_fresh c conns a k g n0 m ready none above within pending may i.fresh;
      bodies = ask_bodies c conns a k g n0 m ready none above within pending may i.bodies;
      first = ask_first c conns a k g n0 m ready none above within pending may i.first;
      unsent = ask_unsent c conns a k g n0 m ready none above within pending may i.unsent;
      sent_replies = ask_sent_replies c conns a k g n0 m ready none above within pending may i.sent_replies;
      deleted = ask_deleted c conns a k g n0 m ready none above within pending may i.deleted;
    }
