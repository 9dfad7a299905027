-- Written by tools/law_connections.py. A reply is on its way.
use Rattle.std.proofs.Common.{◌≡◌, ℕ, ◌<◌, true, false, [], ◌∷◌, ◌++◌, arith, Some}
use Rattle.spec_exchange.specs.Table.{put}
use Rattle.spec_exchange.specs.Status.{user_session_deleted}
use Rattle.spec_exchange.specs.Client.{Client}
use Rattle.spec_exchange.specs.Network.{Conn, Received, ForOp, ForAttach, op_of}
use Rattle.law_sessions.specs.messages.Connections.{Connections, copies, acts_once, Once, Outstanding, OwnUp, AttachUp, OwnDown}
use Rattle.law_sessions.specs.messages.Connections.{AttachDown, DownOpen, OnReady, Ready, Stages, Settled, Taken, TakenOn}
use Rattle.law_sessions.specs.messages.Connections.{Creates, Lower, HasOpen, AskedOpen, Fresh, Bodies, First, Unsent}
use Rattle.law_sessions.specs.messages.Connections.{SentReplies, Deleted}
use Rattle.law_sessions.proofs.messages.Lists.{get-push, count_up-push, count_down-push}

say_once : (c : Client) (conns : ℕ → Conn) (a : ℕ → ℕ) (k : ℕ) (y0 : Received) → ((conns k).client_open ≡ true)
    → (copies (op_of y0.token) (conns k) ≡ 0) → Once conns
    → Once (put conns k (record (conns k) { down = (conns k).down ++ y0 ∷ [] }))
say_once c conns a k y0 stands none i_once =
    grind (arith, count_up-push, count_down-push)

say_outstanding : (c : Client) (conns : ℕ → Conn) (a : ℕ → ℕ) (k : ℕ) (y0 : Received) → ((conns k).client_open ≡ true)
    → (copies (op_of y0.token) (conns k) ≡ 0) → (0 < op_of y0.token → c.outstanding_on (op_of y0.token) ≡ Some k)
    → Outstanding c conns → Outstanding c (put conns k (record (conns k) { down = (conns k).down ++ y0 ∷ [] }))
say_outstanding c conns a k y0 stands none on i_outstanding =
    let old = i_outstanding in let o = on in grind (arith, count_up-push, count_down-push)

say_own_up : (c : Client) (conns : ℕ → Conn) (a : ℕ → ℕ) (k : ℕ) (y0 : Received) → ((conns k).client_open ≡ true)
    → (copies (op_of y0.token) (conns k) ≡ 0) → OwnUp c conns
    → OwnUp c (put conns k (record (conns k) { down = (conns k).down ++ y0 ∷ [] }))
say_own_up c conns a k y0 stands none i_own_up =
    λ j n p x. let old = i_own_up j n p x in grind (arith, get-push)

say_attach_up : (c : Client) (conns : ℕ → Conn) (a : ℕ → ℕ) (k : ℕ) (y0 : Received) → ((conns k).client_open ≡ true)
    → (copies (op_of y0.token) (conns k) ≡ 0) → AttachUp c conns
    → AttachUp c (put conns k (record (conns k) { down = (conns k).down ++ y0 ∷ [] }))
say_attach_up c conns a k y0 stands none i_attach_up =
    λ j n p x. let old = i_attach_up j n p x in grind (arith, get-push)

say_own_down : (c : Client) (conns : ℕ → Conn) (a : ℕ → ℕ) (k : ℕ) (y0 : Received) → ((conns k).client_open ≡ true)
    → (copies (op_of y0.token) (conns k) ≡ 0) → ((g : ℕ) → y0.token ≡ ForOp g → c.asks_attach g ≡ false)
    → OwnDown c conns → OwnDown c (put conns k (record (conns k) { down = (conns k).down ++ y0 ∷ [] }))
say_own_down c conns a k y0 stands none own i_own_down =
    λ j n p y h. let old = i_own_down j n p y in let m = own p in grind (arith, get-push)

say_attach_down : (c : Client) (conns : ℕ → Conn) (a : ℕ → ℕ) (k : ℕ) (y0 : Received) → ((conns k).client_open ≡ true)
    → (copies (op_of y0.token) (conns k) ≡ 0) → ((g : ℕ) → y0.token ≡ ForAttach g → c.asks_attach g ≡ true)
    → AttachDown c conns → AttachDown c (put conns k (record (conns k) { down = (conns k).down ++ y0 ∷ [] }))
say_attach_down c conns a k y0 stands none attach i_attach_down =
    λ j n p y h. let old = i_attach_down j n p y in let m = attach p in grind (arith, get-push)

say_down_open : (c : Client) (conns : ℕ → Conn) (a : ℕ → ℕ) (k : ℕ) (y0 : Received) → ((conns k).client_open ≡ true)
    → (copies (op_of y0.token) (conns k) ≡ 0) → DownOpen conns
    → DownOpen (put conns k (record (conns k) { down = (conns k).down ++ y0 ∷ [] }))
say_down_open c conns a k y0 stands none i_down_open =
    λ j. let old = i_down_open j in grind (arith, get-push)

say_on_ready : (c : Client) (conns : ℕ → Conn) (a : ℕ → ℕ) (k : ℕ) (y0 : Received) → ((conns k).client_open ≡ true)
    → (copies (op_of y0.token) (conns k) ≡ 0) → OnReady c → OnReady c
say_on_ready c conns a k y0 stands none i_on_ready =
    λ p j. let old = i_on_ready p j in grind arith

say_ready : (c : Client) (conns : ℕ → Conn) (a : ℕ → ℕ) (k : ℕ) (y0 : Received) → ((conns k).client_open ≡ true)
    → (copies (op_of y0.token) (conns k) ≡ 0) → (op_of y0.token ≡ 0 → c.ready k ≡ false) → Ready c conns
    → Ready c (put conns k (record (conns k) { down = (conns k).down ++ y0 ∷ [] }))
say_ready c conns a k y0 stands none dialog i_ready =
    λ j. let old = i_ready j in let d = dialog in grind (arith, count_up-push, count_down-push)

say_stages : (c : Client) (conns : ℕ → Conn) (a : ℕ → ℕ) (k : ℕ) (y0 : Received) → ((conns k).client_open ≡ true)
    → (copies (op_of y0.token) (conns k) ≡ 0) → Stages c → Stages c
say_stages c conns a k y0 stands none i_stages =
    λ j. let old = i_stages j in grind arith

say_settled : (c : Client) (conns : ℕ → Conn) (a : ℕ → ℕ) (k : ℕ) (y0 : Received) → ((conns k).client_open ≡ true)
    → (copies (op_of y0.token) (conns k) ≡ 0) → Settled c → Settled c
say_settled c conns a k y0 stands none i_settled =
    λ p. let old = i_settled p in grind arith

say_taken : (c : Client) (conns : ℕ → Conn) (a : ℕ → ℕ) (k : ℕ) (y0 : Received) → ((conns k).client_open ≡ true)
    → (copies (op_of y0.token) (conns k) ≡ 0) → Taken c → Taken c
say_taken c conns a k y0 stands none i_taken =
    λ p. let old = i_taken p in grind arith

say_taken_on : (c : Client) (conns : ℕ → Conn) (a : ℕ → ℕ) (k : ℕ) (y0 : Received) → ((conns k).client_open ≡ true)
    → (copies (op_of y0.token) (conns k) ≡ 0) → TakenOn c → TakenOn c
say_taken_on c conns a k y0 stands none i_taken_on =
    λ p. let old = i_taken_on p in grind arith

say_creates : (c : Client) (conns : ℕ → Conn) (a : ℕ → ℕ) (k : ℕ) (y0 : Received) → ((conns k).client_open ≡ true)
    → (copies (op_of y0.token) (conns k) ≡ 0) → Creates c → Creates c
say_creates c conns a k y0 stands none i_creates =
    λ p. let old = i_creates p in grind arith

say_lower : (c : Client) (conns : ℕ → Conn) (a : ℕ → ℕ) (k : ℕ) (y0 : Received) → ((conns k).client_open ≡ true)
    → (copies (op_of y0.token) (conns k) ≡ 0) → Lower c → Lower c
say_lower c conns a k y0 stands none i_lower =
    λ p q. let old = i_lower p q in grind arith

say_has_open : (c : Client) (conns : ℕ → Conn) (a : ℕ → ℕ) (k : ℕ) (y0 : Received) → ((conns k).client_open ≡ true)
    → (copies (op_of y0.token) (conns k) ≡ 0) → HasOpen c → HasOpen c
say_has_open c conns a k y0 stands none i_has_open =
    λ p. let old = i_has_open p in grind arith

say_asked_open : (c : Client) (conns : ℕ → Conn) (a : ℕ → ℕ) (k : ℕ) (y0 : Received) → ((conns k).client_open ≡ true)
    → (copies (op_of y0.token) (conns k) ≡ 0) → AskedOpen c → AskedOpen c
say_asked_open c conns a k y0 stands none i_asked_open =
    λ p. let old = i_asked_open p in grind arith

say_fresh : (c : Client) (conns : ℕ → Conn) (a : ℕ → ℕ) (k : ℕ) (y0 : Received) → ((conns k).client_open ≡ true)
    → (copies (op_of y0.token) (conns k) ≡ 0) → Fresh c a → Fresh c a
say_fresh c conns a k y0 stands none i_fresh =
    λ p. let old = i_fresh p in grind arith

say_bodies : (c : Client) (conns : ℕ → Conn) (a : ℕ → ℕ) (k : ℕ) (y0 : Received) → ((conns k).client_open ≡ true)
    → (copies (op_of y0.token) (conns k) ≡ 0) → Bodies c conns
    → Bodies c (put conns k (record (conns k) { down = (conns k).down ++ y0 ∷ [] }))
say_bodies c conns a k y0 stands none i_bodies =
    λ j n p x. let old = i_bodies j n p x in grind (arith, get-push)

say_first : (c : Client) (conns : ℕ → Conn) (a : ℕ → ℕ) (k : ℕ) (y0 : Received) → ((conns k).client_open ≡ true)
    → (copies (op_of y0.token) (conns k) ≡ 0) → First c conns a
    → First c (put conns k (record (conns k) { down = (conns k).down ++ y0 ∷ [] })) a
say_first c conns a k y0 stands none i_first =
    λ j n p x. let old = i_first j n p x in grind (arith, get-push)

say_unsent : (c : Client) (conns : ℕ → Conn) (a : ℕ → ℕ) (k : ℕ) (y0 : Received) → ((conns k).client_open ≡ true)
    → (copies (op_of y0.token) (conns k) ≡ 0) → Unsent c a → Unsent c a
say_unsent c conns a k y0 stands none i_unsent =
    λ p. let old = i_unsent p in grind arith

say_sent_replies : (c : Client) (conns : ℕ → Conn) (a : ℕ → ℕ) (k : ℕ) (y0 : Received) → ((conns k).client_open ≡ true)
    → (copies (op_of y0.token) (conns k) ≡ 0) → ((g : ℕ) → y0.token ≡ ForOp g → c.sent g ≡ true) → SentReplies c conns
    → SentReplies c (put conns k (record (conns k) { down = (conns k).down ++ y0 ∷ [] }))
say_sent_replies c conns a k y0 stands none sent i_sent_replies =
    λ j n p y. let old = i_sent_replies j n p y in let m = sent p in grind (arith, get-push)

say_deleted : (c : Client) (conns : ℕ → Conn) (a : ℕ → ℕ) (k : ℕ) (y0 : Received) → ((conns k).client_open ≡ true)
    → (copies (op_of y0.token) (conns k) ≡ 0) → ((g : ℕ) → y0.token ≡ ForOp g → acts_once (c.op g) ≡ true
    → y0.reply.status ≡ user_session_deleted → c.unanswered g ≡ false → a g ≡ 0) → Deleted c conns a
    → Deleted c (put conns k (record (conns k) { down = (conns k).down ++ y0 ∷ [] })) a
say_deleted c conns a k y0 stands none deleted i_deleted =
    λ j n p y. let old = i_deleted j n p y in let m = deleted p in grind (arith, get-push)

pub say_keeps : (c : Client) (conns : ℕ → Conn) (a : ℕ → ℕ) (k : ℕ) (y0 : Received) → ((conns k).client_open ≡ true)
    → (copies (op_of y0.token) (conns k) ≡ 0) → (0 < op_of y0.token → c.outstanding_on (op_of y0.token) ≡ Some k)
    → ((g : ℕ) → y0.token ≡ ForOp g → c.asks_attach g ≡ false) → ((g : ℕ) → y0.token ≡ ForAttach g → c.asks_attach g
    ≡ true) → (op_of y0.token ≡ 0 → c.ready k ≡ false) → ((g : ℕ) → y0.token ≡ ForOp g → c.sent g ≡ true)
    → ((g : ℕ) → y0.token ≡ ForOp g → acts_once (c.op g) ≡ true → y0.reply.status ≡ user_session_deleted
    → c.unanswered g ≡ false → a g ≡ 0) → Connections c conns a
    → Connections c (put conns k (record (conns k) { down = (conns k).down ++ y0 ∷ [] })) a
say_keeps c conns a k y0 stands none on own attach dialog sent deleted i =
    record {
      once = say_once c conns a k y0 stands none i.once;
      outstanding = say_outstanding c conns a k y0 stands none on i.outstanding;
      own_up = say_own_up c conns a k y0 stands none i.own_up;
      attach_up = say_attach_up c conns a k y0 stands none i.attach_up;
      own_down = say_own_down c conns a k y0 stands none own i.own_down;
      attach_down = say_attach_down c conns a k y0 stands none attach i.attach_down;
      down_open = say_down_open c conns a k y0 stands none i.down_open;
      on_ready = say_on_ready c conns a k y0 stands none i.on_ready;
      ready = say_ready c conns a k y0 stands none dialog i.ready;
      stages = say_stages c conns a k y0 stands none i.stages;
      settled = say_settled c conns a k y0 stands none i.settled;
      taken = say_taken c conns a k y0 stands none i.taken;
      taken_on = say_taken_on c conns a k y0 stands none i.taken_on;
      creates = say_creates c conns a k y0 stands none i.creates;
      lower = say_lower c conns a k y0 stands none i.lower;
      has_open = say_has_open c conns a k y0 stands none i.has_open;
      asked_open = say_asked_open c conns a k y0 stands none i.asked_open;
      fresh = say_fresh c conns a k y0 stands none i.fresh;
      bodies = say_bodies c conns a k y0 stands none i.bodies;
      first = say_first c conns a k y0 stands none i.first;
      unsent = say_unsent c conns a k y0 stands none i.unsent;
      sent_replies = say_sent_replies c conns a k y0 stands none sent i.sent_replies;
      deleted = say_deleted c conns a k y0 stands none deleted i.deleted;
    }
