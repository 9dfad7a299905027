-- Written by tools/law_connections.py. A create that is outstanding names its open.
use Rattle.std.proofs.Common.{◌≡◌, ℕ, true, arith, is_some}
use Rattle.spec_exchange.specs.Table.{put}
use Rattle.spec_exchange.specs.Operations.{Op}
use Rattle.spec_exchange.specs.Client.{Client, guid_for}
use Rattle.spec_exchange.specs.Network.{Conn}
use Rattle.law_sessions.specs.messages.Connections.{Connections, makes_open, its_create, its_request, create_at, Once}
use Rattle.law_sessions.specs.messages.Connections.{Outstanding, OwnUp, AttachUp, OwnDown, AttachDown, DownOpen, OnReady, Ready}
use Rattle.law_sessions.specs.messages.Connections.{Stages, Settled, Taken, TakenOn, Creates, Lower, HasOpen, AskedOpen, Fresh}
use Rattle.law_sessions.specs.messages.Connections.{Bodies, First, Unsent, SentReplies, Deleted}
use Rattle.law_sessions.proofs.messages.Lists.{get-push, count_up-push, count_down-push}

request_of_create : (op : Op) (guid f1 f2 slot number : ℕ) → makes_open op ≡ true → its_request op guid f1 slot number
    ≡ its_request op guid f2 slot number
unfolding makes_open its_request
request_of_create op guid f1 f2 slot number e = grind arith

create_of_create : (g : ℕ) (op : Op) → makes_open op ≡ true → its_create g op ≡ g
unfolding makes_open its_create
create_of_create g op e = grind arith

opens_once : (c : Client) (conns : ℕ → Conn) (a : ℕ → ℕ) (g id : ℕ) → (makes_open (c.op g) ≡ true)
    → (is_some (c.outstanding_on g) ≡ true) → Once conns → Once conns
opens_once c conns a g id create out i_once =
    grind (arith, count_up-push, count_down-push)

opens_outstanding : (c : Client) (conns : ℕ → Conn) (a : ℕ → ℕ) (g id : ℕ) → (makes_open (c.op g) ≡ true)
    → (is_some (c.outstanding_on g) ≡ true) → Outstanding c conns → Outstanding (record c {
      file = put c.file g id;
      attached = put c.attached g c.session_number;
    }) conns
opens_outstanding c conns a g id create out i_outstanding =
    grind (arith, count_up-push, count_down-push)

opens_own_up : (c : Client) (conns : ℕ → Conn) (a : ℕ → ℕ) (g id : ℕ) → (makes_open (c.op g) ≡ true)
    → (is_some (c.outstanding_on g) ≡ true) → OwnUp c conns → OwnUp (record c {
      file = put c.file g id;
      attached = put c.attached g c.session_number;
    }) conns
opens_own_up c conns a g id create out i_own_up =
    λ j n p x. let old = i_own_up j n p x in grind (arith, get-push)

opens_attach_up : (c : Client) (conns : ℕ → Conn) (a : ℕ → ℕ) (g id : ℕ) → (makes_open (c.op g) ≡ true)
    → (is_some (c.outstanding_on g) ≡ true) → AttachUp c conns → AttachUp (record c {
      file = put c.file g id;
      attached = put c.attached g c.session_number;
    }) conns
opens_attach_up c conns a g id create out i_attach_up =
    λ j n p x. let old = i_attach_up j n p x in grind (arith, get-push)

opens_own_down : (c : Client) (conns : ℕ → Conn) (a : ℕ → ℕ) (g id : ℕ) → (makes_open (c.op g) ≡ true)
    → (is_some (c.outstanding_on g) ≡ true) → OwnDown c conns → OwnDown (record c {
      file = put c.file g id;
      attached = put c.attached g c.session_number;
    }) conns
opens_own_down c conns a g id create out i_own_down =
    λ j n p y. let old = i_own_down j n p y in grind (arith, get-push)

opens_attach_down : (c : Client) (conns : ℕ → Conn) (a : ℕ → ℕ) (g id : ℕ) → (makes_open (c.op g) ≡ true)
    → (is_some (c.outstanding_on g) ≡ true) → AttachDown c conns → AttachDown (record c {
      file = put c.file g id;
      attached = put c.attached g c.session_number;
    }) conns
opens_attach_down c conns a g id create out i_attach_down =
    λ j n p y. let old = i_attach_down j n p y in grind (arith, get-push)

opens_down_open : (c : Client) (conns : ℕ → Conn) (a : ℕ → ℕ) (g id : ℕ) → (makes_open (c.op g) ≡ true)
    → (is_some (c.outstanding_on g) ≡ true) → DownOpen conns → DownOpen conns
opens_down_open c conns a g id create out i_down_open =
    λ j. let old = i_down_open j in grind (arith, get-push)

opens_on_ready : (c : Client) (conns : ℕ → Conn) (a : ℕ → ℕ) (g id : ℕ) → (makes_open (c.op g) ≡ true)
    → (is_some (c.outstanding_on g) ≡ true) → OnReady c → OnReady (record c {
      file = put c.file g id;
      attached = put c.attached g c.session_number;
    })
opens_on_ready c conns a g id create out i_on_ready =
    λ p j. let old = i_on_ready p j in grind arith

opens_ready : (c : Client) (conns : ℕ → Conn) (a : ℕ → ℕ) (g id : ℕ) → (makes_open (c.op g) ≡ true)
    → (is_some (c.outstanding_on g) ≡ true) → Ready c conns → Ready (record c {
      file = put c.file g id;
      attached = put c.attached g c.session_number;
    }) conns
opens_ready c conns a g id create out i_ready =
    λ j. let old = i_ready j in grind (arith, count_up-push, count_down-push)

opens_stages : (c : Client) (conns : ℕ → Conn) (a : ℕ → ℕ) (g id : ℕ) → (makes_open (c.op g) ≡ true)
    → (is_some (c.outstanding_on g) ≡ true) → Stages c → Stages (record c {
      file = put c.file g id;
      attached = put c.attached g c.session_number;
    })
opens_stages c conns a g id create out i_stages =
    λ j. let old = i_stages j in grind arith

opens_settled : (c : Client) (conns : ℕ → Conn) (a : ℕ → ℕ) (g id : ℕ) → (makes_open (c.op g) ≡ true)
    → (is_some (c.outstanding_on g) ≡ true) → Settled c → Settled (record c {
      file = put c.file g id;
      attached = put c.attached g c.session_number;
    })
opens_settled c conns a g id create out i_settled =
    λ p. let old = i_settled p in grind arith

opens_taken : (c : Client) (conns : ℕ → Conn) (a : ℕ → ℕ) (g id : ℕ) → (makes_open (c.op g) ≡ true)
    → (is_some (c.outstanding_on g) ≡ true) → Taken c → Taken (record c {
      file = put c.file g id;
      attached = put c.attached g c.session_number;
    })
opens_taken c conns a g id create out i_taken =
    λ p. let old = i_taken p in grind arith

opens_taken_on : (c : Client) (conns : ℕ → Conn) (a : ℕ → ℕ) (g id : ℕ) → (makes_open (c.op g) ≡ true)
    → (is_some (c.outstanding_on g) ≡ true) → TakenOn c → TakenOn (record c {
      file = put c.file g id;
      attached = put c.attached g c.session_number;
    })
opens_taken_on c conns a g id create out i_taken_on =
    λ p. let old = i_taken_on p in grind arith

opens_creates : (c : Client) (conns : ℕ → Conn) (a : ℕ → ℕ) (g id : ℕ) → (makes_open (c.op g) ≡ true)
    → (is_some (c.outstanding_on g) ≡ true) → Creates c → Creates (record c {
      file = put c.file g id;
      attached = put c.attached g c.session_number;
    })
opens_creates c conns a g id create out i_creates =
    λ p. let old = i_creates p in grind arith

opens_lower : (c : Client) (conns : ℕ → Conn) (a : ℕ → ℕ) (g id : ℕ) → (makes_open (c.op g) ≡ true)
    → (is_some (c.outstanding_on g) ≡ true) → Lower c → Lower (record c {
      file = put c.file g id;
      attached = put c.attached g c.session_number;
    })
opens_lower c conns a g id create out i_lower =
    λ p q. let old = i_lower p q in grind arith

opens_has_open : (c : Client) (conns : ℕ → Conn) (a : ℕ → ℕ) (g id : ℕ) → (makes_open (c.op g) ≡ true)
    → (is_some (c.outstanding_on g) ≡ true) → HasOpen c → HasOpen (record c {
      file = put c.file g id;
      attached = put c.attached g c.session_number;
    })
opens_has_open c conns a g id create out i_has_open =
    λ p. let old = i_has_open p in grind arith

opens_asked_open : (c : Client) (conns : ℕ → Conn) (a : ℕ → ℕ) (g id : ℕ) → (makes_open (c.op g) ≡ true)
    → (is_some (c.outstanding_on g) ≡ true) → AskedOpen c → AskedOpen (record c {
      file = put c.file g id;
      attached = put c.attached g c.session_number;
    })
opens_asked_open c conns a g id create out i_asked_open =
    λ p. let old = i_asked_open p in grind arith

opens_fresh : (c : Client) (conns : ℕ → Conn) (a : ℕ → ℕ) (g id : ℕ) → (makes_open (c.op g) ≡ true)
    → (is_some (c.outstanding_on g) ≡ true) → Fresh c a → Fresh (record c {
      file = put c.file g id;
      attached = put c.attached g c.session_number;
    }) a
opens_fresh c conns a g id create out i_fresh =
    λ p. let old = i_fresh p in grind arith

opens_bodies : (c : Client) (conns : ℕ → Conn) (a : ℕ → ℕ) (g id : ℕ) → (makes_open (c.op g) ≡ true)
    → (is_some (c.outstanding_on g) ≡ true) → Bodies c conns → HasOpen c → Settled c → Bodies (record c {
      file = put c.file g id;
      attached = put c.attached g c.session_number;
    }) conns
opens_bodies c conns a g id create out i_bodies i_has_open i_settled =
    λ j n p x h t. let old = i_bodies j n p x h t in let op = i_has_open p old.0 in let s = i_settled g in
    let r = request_of_create (c.op p) (guid_for c p) (c.file (create_at c p)) id (c.slot_of p) (c.number_of p) in
    let own = create_of_create p (c.op p) in grind arith

opens_first : (c : Client) (conns : ℕ → Conn) (a : ℕ → ℕ) (g id : ℕ) → (makes_open (c.op g) ≡ true)
    → (is_some (c.outstanding_on g) ≡ true) → First c conns a → First (record c {
      file = put c.file g id;
      attached = put c.attached g c.session_number;
    }) conns a
opens_first c conns a g id create out i_first =
    λ j n p x. let old = i_first j n p x in grind (arith, get-push)

opens_unsent : (c : Client) (conns : ℕ → Conn) (a : ℕ → ℕ) (g id : ℕ) → (makes_open (c.op g) ≡ true)
    → (is_some (c.outstanding_on g) ≡ true) → Unsent c a → Unsent (record c {
      file = put c.file g id;
      attached = put c.attached g c.session_number;
    }) a
opens_unsent c conns a g id create out i_unsent =
    λ p. let old = i_unsent p in grind arith

opens_sent_replies : (c : Client) (conns : ℕ → Conn) (a : ℕ → ℕ) (g id : ℕ) → (makes_open (c.op g) ≡ true)
    → (is_some (c.outstanding_on g) ≡ true) → SentReplies c conns → SentReplies (record c {
      file = put c.file g id;
      attached = put c.attached g c.session_number;
    }) conns
opens_sent_replies c conns a g id create out i_sent_replies =
    λ j n p y. let old = i_sent_replies j n p y in grind (arith, get-push)

opens_deleted : (c : Client) (conns : ℕ → Conn) (a : ℕ → ℕ) (g id : ℕ) → (makes_open (c.op g) ≡ true)
    → (is_some (c.outstanding_on g) ≡ true) → Deleted c conns a → Deleted (record c {
      file = put c.file g id;
      attached = put c.attached g c.session_number;
    }) conns a
opens_deleted c conns a g id create out i_deleted =
    λ j n p y. let old = i_deleted j n p y in grind (arith, get-push)

pub opens_keeps : (c : Client) (conns : ℕ → Conn) (a : ℕ → ℕ) (g id : ℕ) → (makes_open (c.op g) ≡ true)
    → (is_some (c.outstanding_on g) ≡ true) → Connections c conns a → Connections (record c {
      file = put c.file g id;
      attached = put c.attached g c.session_number;
    }) conns a
opens_keeps c conns a g id create out i =
    record {
      once = opens_once c conns a g id create out i.once;
      outstanding = opens_outstanding c conns a g id create out i.outstanding;
      own_up = opens_own_up c conns a g id create out i.own_up;
      attach_up = opens_attach_up c conns a g id create out i.attach_up;
      own_down = opens_own_down c conns a g id create out i.own_down;
      attach_down = opens_attach_down c conns a g id create out i.attach_down;
      down_open = opens_down_open c conns a g id create out i.down_open;
      on_ready = opens_on_ready c conns a g id create out i.on_ready;
      ready = opens_ready c conns a g id create out i.ready;
      stages = opens_stages c conns a g id create out i.stages;
      settled = opens_settled c conns a g id create out i.settled;
      taken = opens_taken c conns a g id create out i.taken;
      taken_on = opens_taken_on c conns a g id create out i.taken_on;
      creates = opens_creates c conns a g id create out i.creates;
      lower = opens_lower c conns a g id create out i.lower;
      has_open = opens_has_open c conns a g id create out i.has_open;
      asked_open = opens_asked_open c conns a g id create out i.asked_open;
      fresh = opens_fresh c conns a g id create out i.fresh;
      bodies = opens_bodies c conns a g id create out i.bodies i.has_open i.settled;
      first = opens_first c conns a g id create out i.first;
      unsent = opens_unsent c conns a g id create out i.unsent;
      sent_replies = opens_sent_replies c conns a g id create out i.sent_replies;
      deleted = opens_deleted c conns a g id create out i.deleted;
    }
