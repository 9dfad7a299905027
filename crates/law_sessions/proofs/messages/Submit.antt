-- Written by tools/law_connections.py. An operation is taken.
use Rattle.std.proofs.Common.{◌≡◌, ℕ, ◌+◌, ◌<◌, true, false, arith}
use Rattle.spec_exchange.specs.Table.{put}
use Rattle.spec_exchange.specs.Operations.{Op, Outcome}
use Rattle.spec_exchange.specs.Client.{Client}
use Rattle.spec_exchange.specs.Network.{Conn}
use Rattle.law_sessions.specs.messages.Connections.{Connections, makes_open, its_create, Once, Outstanding, OwnUp, AttachUp}
use Rattle.law_sessions.specs.messages.Connections.{OwnDown, AttachDown, DownOpen, OnReady, Ready, Stages, Settled, Taken}
use Rattle.law_sessions.specs.messages.Connections.{TakenOn, Creates, Lower, HasOpen, AskedOpen, Fresh, Bodies, First, Unsent}
use Rattle.law_sessions.specs.messages.Connections.{SentReplies, Deleted}
use Rattle.law_sessions.proofs.messages.Lists.{get-push, count_up-push, count_down-push}

submit_once : (c : Client) (conns : ℕ → Conn) (a : ℕ → ℕ) (g : ℕ) (op : Op) (out : Outcome) → (g ≡ c.taken + 1) → Once conns → Once conns
submit_once c conns a g op out next i_once =
    grind (arith, count_up-push, count_down-push)

submit_outstanding : (c : Client) (conns : ℕ → Conn) (a : ℕ → ℕ) (g : ℕ) (op : Op) (out : Outcome) → (g ≡ c.taken + 1)
    → Outstanding c conns → Outstanding (record c { taken = g; op = put c.op g op; outcome = put c.outcome g out })
    conns
submit_outstanding c conns a g op out next i_outstanding =
    grind (arith, count_up-push, count_down-push)

submit_own_up : (c : Client) (conns : ℕ → Conn) (a : ℕ → ℕ) (g : ℕ) (op : Op) (out : Outcome) → (g ≡ c.taken + 1)
    → OwnUp c conns → OwnUp (record c { taken = g; op = put c.op g op; outcome = put c.outcome g out }) conns
submit_own_up c conns a g op out next i_own_up =
    λ j n p x. let old = i_own_up j n p x in grind (arith, get-push)

submit_attach_up : (c : Client) (conns : ℕ → Conn) (a : ℕ → ℕ) (g : ℕ) (op : Op) (out : Outcome) → (g ≡ c.taken + 1)
    → AttachUp c conns → AttachUp (record c { taken = g; op = put c.op g op; outcome = put c.outcome g out }) conns
submit_attach_up c conns a g op out next i_attach_up =
    λ j n p x. let old = i_attach_up j n p x in grind (arith, get-push)

submit_own_down : (c : Client) (conns : ℕ → Conn) (a : ℕ → ℕ) (g : ℕ) (op : Op) (out : Outcome) → (g ≡ c.taken + 1)
    → OwnDown c conns → OwnDown (record c { taken = g; op = put c.op g op; outcome = put c.outcome g out }) conns
submit_own_down c conns a g op out next i_own_down =
    λ j n p y. let old = i_own_down j n p y in grind (arith, get-push)

submit_attach_down : (c : Client) (conns : ℕ → Conn) (a : ℕ → ℕ) (g : ℕ) (op : Op) (out : Outcome) → (g ≡ c.taken + 1)
    → AttachDown c conns → AttachDown (record c { taken = g; op = put c.op g op; outcome = put c.outcome g out }) conns
submit_attach_down c conns a g op out next i_attach_down =
    λ j n p y. let old = i_attach_down j n p y in grind (arith, get-push)

submit_down_open : (c : Client) (conns : ℕ → Conn) (a : ℕ → ℕ) (g : ℕ) (op : Op) (out : Outcome) → (g ≡ c.taken + 1)
    → DownOpen conns → DownOpen conns
submit_down_open c conns a g op out next i_down_open =
    λ j. let old = i_down_open j in grind (arith, get-push)

submit_on_ready : (c : Client) (conns : ℕ → Conn) (a : ℕ → ℕ) (g : ℕ) (op : Op) (out : Outcome) → (g ≡ c.taken + 1)
    → OnReady c → OnReady (record c { taken = g; op = put c.op g op; outcome = put c.outcome g out })
submit_on_ready c conns a g op out next i_on_ready =
    λ p j. let old = i_on_ready p j in grind arith

submit_ready : (c : Client) (conns : ℕ → Conn) (a : ℕ → ℕ) (g : ℕ) (op : Op) (out : Outcome) → (g ≡ c.taken + 1)
    → Ready c conns → Ready (record c { taken = g; op = put c.op g op; outcome = put c.outcome g out }) conns
submit_ready c conns a g op out next i_ready =
    λ j. let old = i_ready j in grind (arith, count_up-push, count_down-push)

submit_stages : (c : Client) (conns : ℕ → Conn) (a : ℕ → ℕ) (g : ℕ) (op : Op) (out : Outcome) → (g ≡ c.taken + 1)
    → Stages c → Stages (record c { taken = g; op = put c.op g op; outcome = put c.outcome g out })
submit_stages c conns a g op out next i_stages =
    λ j. let old = i_stages j in grind arith

submit_settled : (c : Client) (conns : ℕ → Conn) (a : ℕ → ℕ) (g : ℕ) (op : Op) (out : Outcome) → (g ≡ c.taken + 1)
    → Settled c → TakenOn c → Settled (record c { taken = g; op = put c.op g op; outcome = put c.outcome g out })
submit_settled c conns a g op out next i_settled i_taken_on =
    λ p. let old = i_settled p in let t = i_taken_on p in grind arith

submit_taken : (c : Client) (conns : ℕ → Conn) (a : ℕ → ℕ) (g : ℕ) (op : Op) (out : Outcome) → (g ≡ c.taken + 1)
    → Taken c → Taken (record c { taken = g; op = put c.op g op; outcome = put c.outcome g out })
submit_taken c conns a g op out next i_taken =
    λ p. let old = i_taken p in grind arith

submit_taken_on : (c : Client) (conns : ℕ → Conn) (a : ℕ → ℕ) (g : ℕ) (op : Op) (out : Outcome) → (g ≡ c.taken + 1)
    → TakenOn c → TakenOn (record c { taken = g; op = put c.op g op; outcome = put c.outcome g out })
submit_taken_on c conns a g op out next i_taken_on =
    λ p. let old = i_taken_on p in grind arith

submit_creates : (c : Client) (conns : ℕ → Conn) (a : ℕ → ℕ) (g : ℕ) (op : Op) (out : Outcome) → (g ≡ c.taken + 1)
    → (makes_open op ≡ false → 0 < its_create g op × its_create g op < g × makes_open (c.op (its_create g op)) ≡ true)
    → Creates c → Creates (record c { taken = g; op = put c.op g op; outcome = put c.outcome g out })
submit_creates c conns a g op out next create i_creates =
    λ p l m. let old = i_creates p l in let cr = create in grind arith

submit_lower : (c : Client) (conns : ℕ → Conn) (a : ℕ → ℕ) (g : ℕ) (op : Op) (out : Outcome) → (g ≡ c.taken + 1)
    → Lower c → TakenOn c → Lower (record c { taken = g; op = put c.op g op; outcome = put c.outcome g out })
submit_lower c conns a g op out next i_lower i_taken_on =
    λ p q s l m. let t = i_taken_on p s in let old = i_lower p q s l m in grind arith

submit_has_open : (c : Client) (conns : ℕ → Conn) (a : ℕ → ℕ) (g : ℕ) (op : Op) (out : Outcome) → (g ≡ c.taken + 1)
    → HasOpen c → Creates c → Taken c → HasOpen (record c {
      taken = g;
      op = put c.op g op;
      outcome = put c.outcome g out;
    })
submit_has_open c conns a g op out next i_has_open i_creates i_taken =
    λ p s. let t = i_taken p s in let cr = i_creates p t.0 t.1 in let old = i_has_open p s in grind arith

submit_asked_open : (c : Client) (conns : ℕ → Conn) (a : ℕ → ℕ) (g : ℕ) (op : Op) (out : Outcome) → (g ≡ c.taken + 1)
    → AskedOpen c → Creates c → TakenOn c → AskedOpen (record c {
      taken = g;
      op = put c.op g op;
      outcome = put c.outcome g out;
    })
submit_asked_open c conns a g op out next i_asked_open i_creates i_taken_on =
    λ p s. let t = i_taken_on p s in let cr = i_creates p t.0 t.1 in let old = i_asked_open p s in grind arith

submit_fresh : (c : Client) (conns : ℕ → Conn) (a : ℕ → ℕ) (g : ℕ) (op : Op) (out : Outcome) → (g ≡ c.taken + 1)
    → Fresh c a → Fresh (record c { taken = g; op = put c.op g op; outcome = put c.outcome g out }) a
submit_fresh c conns a g op out next i_fresh =
    λ p. let old = i_fresh p in grind arith

submit_bodies : (c : Client) (conns : ℕ → Conn) (a : ℕ → ℕ) (g : ℕ) (op : Op) (out : Outcome) → (g ≡ c.taken + 1)
    → Bodies c conns → Creates c → Taken c → Bodies (record c {
      taken = g;
      op = put c.op g op;
      outcome = put c.outcome g out;
    }) conns
submit_bodies c conns a g op out next i_bodies i_creates i_taken =
    λ j n p x h t. let old = i_bodies j n p x h t in let tk = i_taken p old.0 in let cr = i_creates p tk.0 tk.1 in grind arith

submit_first : (c : Client) (conns : ℕ → Conn) (a : ℕ → ℕ) (g : ℕ) (op : Op) (out : Outcome) → (g ≡ c.taken + 1)
    → First c conns a → Bodies c conns → Taken c → First (record c {
      taken = g;
      op = put c.op g op;
      outcome = put c.outcome g out;
    }) conns a
submit_first c conns a g op out next i_first i_bodies i_taken =
    λ j n p x h t. let old = i_first j n p x h t in let b = i_bodies j n p x h t in let tk = i_taken p b.0 in grind arith

submit_unsent : (c : Client) (conns : ℕ → Conn) (a : ℕ → ℕ) (g : ℕ) (op : Op) (out : Outcome) → (g ≡ c.taken + 1)
    → Unsent c a → Fresh c a → Taken c → Unsent (record c {
      taken = g;
      op = put c.op g op;
      outcome = put c.outcome g out;
    }) a
submit_unsent c conns a g op out next i_unsent i_fresh i_taken =
    λ p. let old = i_unsent p in let f = i_fresh p in let t = i_taken p in grind arith

submit_sent_replies : (c : Client) (conns : ℕ → Conn) (a : ℕ → ℕ) (g : ℕ) (op : Op) (out : Outcome) → (g ≡ c.taken + 1)
    → SentReplies c conns → SentReplies (record c { taken = g; op = put c.op g op; outcome = put c.outcome g out })
    conns
submit_sent_replies c conns a g op out next i_sent_replies =
    λ j n p y. let old = i_sent_replies j n p y in grind (arith, get-push)

submit_deleted : (c : Client) (conns : ℕ → Conn) (a : ℕ → ℕ) (g : ℕ) (op : Op) (out : Outcome) → (g ≡ c.taken + 1)
    → Deleted c conns a → SentReplies c conns → Taken c → Deleted (record c {
      taken = g;
      op = put c.op g op;
      outcome = put c.outcome g out;
    }) conns a
submit_deleted c conns a g op out next i_deleted i_sent_replies i_taken =
    λ j n p y h t. let old = i_deleted j n p y h t in let b = i_sent_replies j n p y h t in let tk = i_taken p b in grind arith

pub submit_keeps : (c : Client) (conns : ℕ → Conn) (a : ℕ → ℕ) (g : ℕ) (op : Op) (out : Outcome) → (g ≡ c.taken + 1)
    → (makes_open op ≡ false → 0 < its_create g op × its_create g op < g × makes_open (c.op (its_create g op)) ≡ true)
    → Connections c conns a → Connections (record c { taken = g; op = put c.op g op; outcome = put c.outcome g out })
    conns a
submit_keeps c conns a g op out next create i =
    record {
      once = submit_once c conns a g op out next i.once;
      outstanding = submit_outstanding c conns a g op out next i.outstanding;
      own_up = submit_own_up c conns a g op out next i.own_up;
      attach_up = submit_attach_up c conns a g op out next i.attach_up;
      own_down = submit_own_down c conns a g op out next i.own_down;
      attach_down = submit_attach_down c conns a g op out next i.attach_down;
      down_open = submit_down_open c conns a g op out next i.down_open;
      on_ready = submit_on_ready c conns a g op out next i.on_ready;
      ready = submit_ready c conns a g op out next i.ready;
      stages = submit_stages c conns a g op out next i.stages;
      settled = submit_settled c conns a g op out next i.settled i.taken_on;
      taken = submit_taken c conns a g op out next i.taken;
      taken_on = submit_taken_on c conns a g op out next i.taken_on;
      creates = submit_creates c conns a g op out next create i.creates;
      lower = submit_lower c conns a g op out next i.lower i.taken_on;
      has_open = submit_has_open c conns a g op out next i.has_open i.creates i.taken;
      asked_open = submit_asked_open c conns a g op out next i.asked_open i.creates i.taken_on;
      fresh = submit_fresh c conns a g op out next i.fresh;
      bodies = submit_bodies c conns a g op out next i.bodies i.creates i.taken;
      first = submit_first c conns a g op out next i.first i.bodies i.taken;
      unsent = submit_unsent c conns a g op out next i.unsent i.fresh i.taken;
      sent_replies = submit_sent_replies c conns a g op out next i.sent_replies;
      deleted = submit_deleted c conns a g op out next i.deleted i.sent_replies i.taken;
    }
