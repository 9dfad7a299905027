-- Written by tools/law_connections.py. Operations that aren't outstanding settle without a reply.
use Rattle.std.proofs.Common.{◌≡◌, ℕ, false, arith, None}
use Rattle.spec_exchange.specs.Operations.{Outcome, is_unsettled}
use Rattle.spec_exchange.specs.Client.{Client}
use Rattle.spec_exchange.specs.Network.{Conn}
use Rattle.law_sessions.specs.messages.Connections.{Connections, create_at, Once, Outstanding, OwnUp, AttachUp, OwnDown}
use Rattle.law_sessions.specs.messages.Connections.{AttachDown, DownOpen, OnReady, Ready, Stages, Settled, Taken, TakenOn}
use Rattle.law_sessions.specs.messages.Connections.{Creates, Lower, HasOpen, AskedOpen, Fresh, Bodies, First, Unsent}
use Rattle.law_sessions.specs.messages.Connections.{SentReplies, Deleted}
use Rattle.law_sessions.proofs.messages.Lists.{get-push, count_up-push, count_down-push}

outcomes_once : (c : Client) (conns : ℕ → Conn) (a : ℕ → ℕ) (new : ℕ → Outcome) → Once conns → Once conns
outcomes_once c conns a new i_once =
    grind (arith, count_up-push, count_down-push)

outcomes_outstanding : (c : Client) (conns : ℕ → Conn) (a : ℕ → ℕ) (new : ℕ → Outcome) → Outstanding c conns
    → Outstanding (record c { outcome = new }) conns
outcomes_outstanding c conns a new i_outstanding =
    grind (arith, count_up-push, count_down-push)

outcomes_own_up : (c : Client) (conns : ℕ → Conn) (a : ℕ → ℕ) (new : ℕ → Outcome) → OwnUp c conns → OwnUp (record c { outcome = new }) conns
outcomes_own_up c conns a new i_own_up =
    λ j n p x. let old = i_own_up j n p x in grind (arith, get-push)

outcomes_attach_up : (c : Client) (conns : ℕ → Conn) (a : ℕ → ℕ) (new : ℕ → Outcome) → AttachUp c conns
    → AttachUp (record c { outcome = new }) conns
outcomes_attach_up c conns a new i_attach_up =
    λ j n p x. let old = i_attach_up j n p x in grind (arith, get-push)

outcomes_own_down : (c : Client) (conns : ℕ → Conn) (a : ℕ → ℕ) (new : ℕ → Outcome) → OwnDown c conns
    → OwnDown (record c { outcome = new }) conns
outcomes_own_down c conns a new i_own_down =
    λ j n p y. let old = i_own_down j n p y in grind (arith, get-push)

outcomes_attach_down : (c : Client) (conns : ℕ → Conn) (a : ℕ → ℕ) (new : ℕ → Outcome) → AttachDown c conns
    → AttachDown (record c { outcome = new }) conns
outcomes_attach_down c conns a new i_attach_down =
    λ j n p y. let old = i_attach_down j n p y in grind (arith, get-push)

outcomes_down_open : (c : Client) (conns : ℕ → Conn) (a : ℕ → ℕ) (new : ℕ → Outcome) → DownOpen conns → DownOpen conns
outcomes_down_open c conns a new i_down_open =
    λ j. let old = i_down_open j in grind (arith, get-push)

outcomes_on_ready : (c : Client) (conns : ℕ → Conn) (a : ℕ → ℕ) (new : ℕ → Outcome) → OnReady c → OnReady (record c { outcome = new })
outcomes_on_ready c conns a new i_on_ready =
    λ p j. let old = i_on_ready p j in grind arith

outcomes_ready : (c : Client) (conns : ℕ → Conn) (a : ℕ → ℕ) (new : ℕ → Outcome) → Ready c conns → Ready (record c { outcome = new }) conns
outcomes_ready c conns a new i_ready =
    λ j. let old = i_ready j in grind (arith, count_up-push, count_down-push)

outcomes_stages : (c : Client) (conns : ℕ → Conn) (a : ℕ → ℕ) (new : ℕ → Outcome) → Stages c → Stages (record c { outcome = new })
outcomes_stages c conns a new i_stages =
    λ j. let old = i_stages j in grind arith

outcomes_settled : (c : Client) (conns : ℕ → Conn) (a : ℕ → ℕ) (new : ℕ → Outcome)
    → ((h : ℕ) → is_unsettled (new h) ≡ false → c.outstanding_on h ≡ None) → Settled c → Settled (record c {
      outcome = new;
    })
outcomes_settled c conns a new still i_settled =
    still

outcomes_taken : (c : Client) (conns : ℕ → Conn) (a : ℕ → ℕ) (new : ℕ → Outcome) → Taken c → Taken (record c { outcome = new })
outcomes_taken c conns a new i_taken =
    λ p. let old = i_taken p in grind arith

outcomes_taken_on : (c : Client) (conns : ℕ → Conn) (a : ℕ → ℕ) (new : ℕ → Outcome) → TakenOn c → TakenOn (record c { outcome = new })
outcomes_taken_on c conns a new i_taken_on =
    λ p. let old = i_taken_on p in grind arith

outcomes_creates : (c : Client) (conns : ℕ → Conn) (a : ℕ → ℕ) (new : ℕ → Outcome) → Creates c → Creates (record c { outcome = new })
outcomes_creates c conns a new i_creates =
    λ p. let old = i_creates p in grind arith

outcomes_lower : (c : Client) (conns : ℕ → Conn) (a : ℕ → ℕ) (new : ℕ → Outcome)
    → ((h : ℕ) → is_unsettled (c.outcome h) ≡ false → new h ≡ c.outcome h) → Lower c → Lower (record c {
      outcome = new;
    })
outcomes_lower c conns a new same i_lower =
    λ p q s l m e h. let old = i_lower p q s l m e h in let st = same q old in grind arith

outcomes_has_open : (c : Client) (conns : ℕ → Conn) (a : ℕ → ℕ) (new : ℕ → Outcome)
    → ((h : ℕ) → is_unsettled (c.outcome h) ≡ false → new h ≡ c.outcome h) → HasOpen c → HasOpen (record c {
      outcome = new;
    })
outcomes_has_open c conns a new same i_has_open =
    λ p. let old = i_has_open p in let s = same (create_at c p) in grind arith

outcomes_asked_open : (c : Client) (conns : ℕ → Conn) (a : ℕ → ℕ) (new : ℕ → Outcome)
    → ((h : ℕ) → is_unsettled (c.outcome h) ≡ false → new h ≡ c.outcome h) → AskedOpen c → AskedOpen (record c {
      outcome = new;
    })
outcomes_asked_open c conns a new same i_asked_open =
    λ p. let old = i_asked_open p in let s = same (create_at c p) in grind arith

outcomes_fresh : (c : Client) (conns : ℕ → Conn) (a : ℕ → ℕ) (new : ℕ → Outcome) → Fresh c a → Fresh (record c { outcome = new }) a
outcomes_fresh c conns a new i_fresh =
    λ p. let old = i_fresh p in grind arith

outcomes_bodies : (c : Client) (conns : ℕ → Conn) (a : ℕ → ℕ) (new : ℕ → Outcome) → Bodies c conns → Bodies (record c {
  outcome = new;
}) conns
outcomes_bodies c conns a new i_bodies =
    λ j n p x. let old = i_bodies j n p x in grind (arith, get-push)

outcomes_first : (c : Client) (conns : ℕ → Conn) (a : ℕ → ℕ) (new : ℕ → Outcome) → First c conns a → First (record c {
  outcome = new;
}) conns a
outcomes_first c conns a new i_first =
    λ j n p x. let old = i_first j n p x in grind (arith, get-push)

outcomes_unsent : (c : Client) (conns : ℕ → Conn) (a : ℕ → ℕ) (new : ℕ → Outcome)
    → ((h : ℕ) → is_unsettled (c.outcome h) ≡ false → new h ≡ c.outcome h) → ((h : ℕ) → is_unsettled (new h) ≡ false
    → c.outstanding_on h ≡ None) → Unsent c a → Unsent (record c { outcome = new }) a
outcomes_unsent c conns a new same still i_unsent =
    λ p. let old = i_unsent p in let s = same p in let u = still p in grind arith

outcomes_sent_replies : (c : Client) (conns : ℕ → Conn) (a : ℕ → ℕ) (new : ℕ → Outcome) → SentReplies c conns
    → SentReplies (record c { outcome = new }) conns
outcomes_sent_replies c conns a new i_sent_replies =
    λ j n p y. let old = i_sent_replies j n p y in grind (arith, get-push)

outcomes_deleted : (c : Client) (conns : ℕ → Conn) (a : ℕ → ℕ) (new : ℕ → Outcome) → Deleted c conns a
    → Deleted (record c { outcome = new }) conns a
outcomes_deleted c conns a new i_deleted =
    λ j n p y. let old = i_deleted j n p y in grind (arith, get-push)

pub outcomes_keeps : (c : Client) (conns : ℕ → Conn) (a : ℕ → ℕ) (new : ℕ → Outcome)
    → ((h : ℕ) → is_unsettled (c.outcome h) ≡ false → new h ≡ c.outcome h) → ((h : ℕ) → is_unsettled (new h) ≡ false
    → c.outstanding_on h ≡ None) → Connections c conns a → Connections (record c { outcome = new }) conns a
outcomes_keeps c conns a new same still i =
    record {
      once = outcomes_once c conns a new i.once;
      outstanding = outcomes_outstanding c conns a new i.outstanding;
      own_up = outcomes_own_up c conns a new i.own_up;
      attach_up = outcomes_attach_up c conns a new i.attach_up;
      own_down = outcomes_own_down c conns a new i.own_down;
      attach_down = outcomes_attach_down c conns a new i.attach_down;
      down_open = outcomes_down_open c conns a new i.down_open;
      on_ready = outcomes_on_ready c conns a new i.on_ready;
      ready = outcomes_ready c conns a new i.ready;
      stages = outcomes_stages c conns a new i.stages;
      settled = outcomes_settled c conns a new still i.settled;
      taken = outcomes_taken c conns a new i.taken;
      taken_on = outcomes_taken_on c conns a new i.taken_on;
      creates = outcomes_creates c conns a new i.creates;
      lower = outcomes_lower c conns a new same i.lower;
      has_open = outcomes_has_open c conns a new same i.has_open;
      asked_open = outcomes_asked_open c conns a new same i.asked_open;
      fresh = outcomes_fresh c conns a new i.fresh;
      bodies = outcomes_bodies c conns a new i.bodies;
      first = outcomes_first c conns a new i.first;
      unsent = outcomes_unsent c conns a new same still i.unsent;
      sent_replies = outcomes_sent_replies c conns a new i.sent_replies;
      deleted = outcomes_deleted c conns a new i.deleted;
    }
