-- Written by tools/law_connections.py. An operation goes out itself.
use Rattle.std.proofs.Common.{◌≡◌, ℕ, ◌≤◌, ◌<◌, true, false, ◌||◌, arith, None}
use Rattle.spec_exchange.specs.Table.{put}
use Rattle.spec_exchange.specs.State.{Message}
use Rattle.spec_exchange.specs.Operations.{is_unsettled}
use Rattle.spec_exchange.specs.Client.{Client, guid_for, outstanding as put_out}
use Rattle.spec_exchange.specs.Network.{Conn, ForOp, send_up}
use Rattle.law_sessions.specs.messages.Connections.{Connections, shuts_open, acts_once, its_request, create_at, opens, Once}
use Rattle.law_sessions.specs.messages.Connections.{Outstanding, OwnUp, AttachUp, OwnDown, AttachDown, DownOpen, OnReady, Ready}
use Rattle.law_sessions.specs.messages.Connections.{Stages, Settled, Taken, TakenOn, Creates, Lower, HasOpen, AskedOpen, Fresh}
use Rattle.law_sessions.specs.messages.Connections.{Bodies, First, Unsent, SentReplies, Deleted}
use Rattle.law_sessions.proofs.messages.Lists.{get-push, count_up-push, count_down-push, own_up_count, attach_up_count}
use Rattle.law_sessions.proofs.messages.Lists.{own_down_count, attach_down_count}

send_once : (c : Client) (conns : ℕ → Conn) (a : ℕ → ℕ) (k g n0 : ℕ) (m : Message) → (c.ready k ≡ true)
    → (c.outstanding_on g ≡ None) → (0 < g) → (g ≤ c.taken) → (is_unsettled (c.outcome g) ≡ true) → (opens c g ≡ true)
    → (c.sent g ≡ true) → (m.command ≡ its_request (c.op g) (guid_for c g) (c.file (create_at c g)) (c.slot_of g)
    (c.number_of g)) → (m.client_guid ≡ c.who.guid) → (m.fault ≡ None) → Once conns → Outstanding c conns
    → Ready c conns → Once (put conns k (send_up (conns k) (ForOp g) m n0))
send_once c conns a k g n0 m ready none above within pending may sent body who fault i_once i_outstanding i_ready =
    λ j p. let old = i_once j p in let u = i_outstanding j p in let r = i_ready k ready in grind (arith, count_up-push, count_down-push)

send_outstanding : (c : Client) (conns : ℕ → Conn) (a : ℕ → ℕ) (k g n0 : ℕ) (m : Message) → (c.ready k ≡ true)
    → (c.outstanding_on g ≡ None) → (0 < g) → (g ≤ c.taken) → (is_unsettled (c.outcome g) ≡ true) → (opens c g ≡ true)
    → (c.sent g ≡ true) → (m.command ≡ its_request (c.op g) (guid_for c g) (c.file (create_at c g)) (c.slot_of g)
    (c.number_of g)) → (m.client_guid ≡ c.who.guid) → (m.fault ≡ None) → Outstanding c conns
    → Outstanding (put_out c k g) (put conns k (send_up (conns k) (ForOp g) m n0))
send_outstanding c conns a k g n0 m ready none above within pending may sent body who fault i_outstanding =
    grind (arith, count_up-push, count_down-push)

send_own_up : (c : Client) (conns : ℕ → Conn) (a : ℕ → ℕ) (k g n0 : ℕ) (m : Message) → (c.ready k ≡ true)
    → (c.outstanding_on g ≡ None) → (0 < g) → (g ≤ c.taken) → (is_unsettled (c.outcome g) ≡ true) → (opens c g ≡ true)
    → (c.sent g ≡ true) → (m.command ≡ its_request (c.op g) (guid_for c g) (c.file (create_at c g)) (c.slot_of g)
    (c.number_of g)) → (m.client_guid ≡ c.who.guid) → (m.fault ≡ None) → OwnUp c conns → Outstanding c conns
    → OwnUp (put_out c k g) (put conns k (send_up (conns k) (ForOp g) m n0))
send_own_up c conns a k g n0 m ready none above within pending may sent body who fault i_own_up i_outstanding =
    λ j n p x h o t. let l = own_up_count p (conns j).up n x in let u = i_outstanding j p in let old = i_own_up j n p x
    in grind (arith, get-push)

send_attach_up : (c : Client) (conns : ℕ → Conn) (a : ℕ → ℕ) (k g n0 : ℕ) (m : Message) → (c.ready k ≡ true)
    → (c.outstanding_on g ≡ None) → (0 < g) → (g ≤ c.taken) → (is_unsettled (c.outcome g) ≡ true) → (opens c g ≡ true)
    → (c.sent g ≡ true) → (m.command ≡ its_request (c.op g) (guid_for c g) (c.file (create_at c g)) (c.slot_of g)
    (c.number_of g)) → (m.client_guid ≡ c.who.guid) → (m.fault ≡ None) → AttachUp c conns → Outstanding c conns
    → AttachUp (put_out c k g) (put conns k (send_up (conns k) (ForOp g) m n0))
send_attach_up c conns a k g n0 m ready none above within pending may sent body who fault i_attach_up i_outstanding =
    λ j n p x h o t. let l = attach_up_count p (conns j).up n x in let u = i_outstanding j p in let old =
    i_attach_up j n p x in grind (arith, get-push)

send_own_down : (c : Client) (conns : ℕ → Conn) (a : ℕ → ℕ) (k g n0 : ℕ) (m : Message) → (c.ready k ≡ true)
    → (c.outstanding_on g ≡ None) → (0 < g) → (g ≤ c.taken) → (is_unsettled (c.outcome g) ≡ true) → (opens c g ≡ true)
    → (c.sent g ≡ true) → (m.command ≡ its_request (c.op g) (guid_for c g) (c.file (create_at c g)) (c.slot_of g)
    (c.number_of g)) → (m.client_guid ≡ c.who.guid) → (m.fault ≡ None) → OwnDown c conns → Outstanding c conns
    → OwnDown (put_out c k g) (put conns k (send_up (conns k) (ForOp g) m n0))
send_own_down c conns a k g n0 m ready none above within pending may sent body who fault i_own_down i_outstanding =
    λ j n p y h o t. let l = own_down_count p (conns j).down n y in let u = i_outstanding j p in let old =
    i_own_down j n p y in grind (arith, get-push)

send_attach_down : (c : Client) (conns : ℕ → Conn) (a : ℕ → ℕ) (k g n0 : ℕ) (m : Message) → (c.ready k ≡ true)
    → (c.outstanding_on g ≡ None) → (0 < g) → (g ≤ c.taken) → (is_unsettled (c.outcome g) ≡ true) → (opens c g ≡ true)
    → (c.sent g ≡ true) → (m.command ≡ its_request (c.op g) (guid_for c g) (c.file (create_at c g)) (c.slot_of g)
    (c.number_of g)) → (m.client_guid ≡ c.who.guid) → (m.fault ≡ None) → AttachDown c conns → Outstanding c conns
    → AttachDown (put_out c k g) (put conns k (send_up (conns k) (ForOp g) m n0))
send_attach_down c conns a k g n0 m ready none above within pending may sent body who fault i_attach_down i_outstanding =
    λ j n p y h o t. let l = attach_down_count p (conns j).down n y in let u = i_outstanding j p in let old =
    i_attach_down j n p y in grind (arith, get-push)

send_down_open : (c : Client) (conns : ℕ → Conn) (a : ℕ → ℕ) (k g n0 : ℕ) (m : Message) → (c.ready k ≡ true)
    → (c.outstanding_on g ≡ None) → (0 < g) → (g ≤ c.taken) → (is_unsettled (c.outcome g) ≡ true) → (opens c g ≡ true)
    → (c.sent g ≡ true) → (m.command ≡ its_request (c.op g) (guid_for c g) (c.file (create_at c g)) (c.slot_of g)
    (c.number_of g)) → (m.client_guid ≡ c.who.guid) → (m.fault ≡ None) → DownOpen conns
    → DownOpen (put conns k (send_up (conns k) (ForOp g) m n0))
send_down_open c conns a k g n0 m ready none above within pending may sent body who fault i_down_open =
    λ j. let old = i_down_open j in grind (arith, get-push)

send_on_ready : (c : Client) (conns : ℕ → Conn) (a : ℕ → ℕ) (k g n0 : ℕ) (m : Message) → (c.ready k ≡ true)
    → (c.outstanding_on g ≡ None) → (0 < g) → (g ≤ c.taken) → (is_unsettled (c.outcome g) ≡ true) → (opens c g ≡ true)
    → (c.sent g ≡ true) → (m.command ≡ its_request (c.op g) (guid_for c g) (c.file (create_at c g)) (c.slot_of g)
    (c.number_of g)) → (m.client_guid ≡ c.who.guid) → (m.fault ≡ None) → OnReady c → OnReady (put_out c k g)
send_on_ready c conns a k g n0 m ready none above within pending may sent body who fault i_on_ready =
    λ p j. let old = i_on_ready p j in grind arith

send_ready : (c : Client) (conns : ℕ → Conn) (a : ℕ → ℕ) (k g n0 : ℕ) (m : Message) → (c.ready k ≡ true)
    → (c.outstanding_on g ≡ None) → (0 < g) → (g ≤ c.taken) → (is_unsettled (c.outcome g) ≡ true) → (opens c g ≡ true)
    → (c.sent g ≡ true) → (m.command ≡ its_request (c.op g) (guid_for c g) (c.file (create_at c g)) (c.slot_of g)
    (c.number_of g)) → (m.client_guid ≡ c.who.guid) → (m.fault ≡ None) → Ready c conns
    → Ready (put_out c k g) (put conns k (send_up (conns k) (ForOp g) m n0))
send_ready c conns a k g n0 m ready none above within pending may sent body who fault i_ready =
    λ j. let old = i_ready j in grind (arith, count_up-push, count_down-push)

send_stages : (c : Client) (conns : ℕ → Conn) (a : ℕ → ℕ) (k g n0 : ℕ) (m : Message) → (c.ready k ≡ true)
    → (c.outstanding_on g ≡ None) → (0 < g) → (g ≤ c.taken) → (is_unsettled (c.outcome g) ≡ true) → (opens c g ≡ true)
    → (c.sent g ≡ true) → (m.command ≡ its_request (c.op g) (guid_for c g) (c.file (create_at c g)) (c.slot_of g)
    (c.number_of g)) → (m.client_guid ≡ c.who.guid) → (m.fault ≡ None) → Stages c → Stages (put_out c k g)
send_stages c conns a k g n0 m ready none above within pending may sent body who fault i_stages =
    λ j. let old = i_stages j in grind arith

send_settled : (c : Client) (conns : ℕ → Conn) (a : ℕ → ℕ) (k g n0 : ℕ) (m : Message) → (c.ready k ≡ true)
    → (c.outstanding_on g ≡ None) → (0 < g) → (g ≤ c.taken) → (is_unsettled (c.outcome g) ≡ true) → (opens c g ≡ true)
    → (c.sent g ≡ true) → (m.command ≡ its_request (c.op g) (guid_for c g) (c.file (create_at c g)) (c.slot_of g)
    (c.number_of g)) → (m.client_guid ≡ c.who.guid) → (m.fault ≡ None) → Settled c → Settled (put_out c k g)
send_settled c conns a k g n0 m ready none above within pending may sent body who fault i_settled =
    λ p. let old = i_settled p in grind arith

send_taken : (c : Client) (conns : ℕ → Conn) (a : ℕ → ℕ) (k g n0 : ℕ) (m : Message) → (c.ready k ≡ true)
    → (c.outstanding_on g ≡ None) → (0 < g) → (g ≤ c.taken) → (is_unsettled (c.outcome g) ≡ true) → (opens c g ≡ true)
    → (c.sent g ≡ true) → (m.command ≡ its_request (c.op g) (guid_for c g) (c.file (create_at c g)) (c.slot_of g)
    (c.number_of g)) → (m.client_guid ≡ c.who.guid) → (m.fault ≡ None) → Taken c → Taken (put_out c k g)
send_taken c conns a k g n0 m ready none above within pending may sent body who fault i_taken =
    λ p. let old = i_taken p in grind arith

send_taken_on : (c : Client) (conns : ℕ → Conn) (a : ℕ → ℕ) (k g n0 : ℕ) (m : Message) → (c.ready k ≡ true)
    → (c.outstanding_on g ≡ None) → (0 < g) → (g ≤ c.taken) → (is_unsettled (c.outcome g) ≡ true) → (opens c g ≡ true)
    → (c.sent g ≡ true) → (m.command ≡ its_request (c.op g) (guid_for c g) (c.file (create_at c g)) (c.slot_of g)
    (c.number_of g)) → (m.client_guid ≡ c.who.guid) → (m.fault ≡ None) → TakenOn c → TakenOn (put_out c k g)
send_taken_on c conns a k g n0 m ready none above within pending may sent body who fault i_taken_on =
    λ p. let old = i_taken_on p in grind arith

send_creates : (c : Client) (conns : ℕ → Conn) (a : ℕ → ℕ) (k g n0 : ℕ) (m : Message) → (c.ready k ≡ true)
    → (c.outstanding_on g ≡ None) → (0 < g) → (g ≤ c.taken) → (is_unsettled (c.outcome g) ≡ true) → (opens c g ≡ true)
    → (c.sent g ≡ true) → (m.command ≡ its_request (c.op g) (guid_for c g) (c.file (create_at c g)) (c.slot_of g)
    (c.number_of g)) → (m.client_guid ≡ c.who.guid) → (m.fault ≡ None) → Creates c → Creates (put_out c k g)
send_creates c conns a k g n0 m ready none above within pending may sent body who fault i_creates =
    λ p. let old = i_creates p in grind arith

send_lower : (c : Client) (conns : ℕ → Conn) (a : ℕ → ℕ) (k g n0 : ℕ) (m : Message) → (c.ready k ≡ true)
    → (c.outstanding_on g ≡ None) → (0 < g) → (g ≤ c.taken) → (is_unsettled (c.outcome g) ≡ true) → (opens c g ≡ true)
    → ((n : ℕ) → 0 < n → n < g → create_at c n ≡ create_at c g → (shuts_open (c.op g) || shuts_open (c.op n)) ≡ true
    → is_unsettled (c.outcome n) ≡ false) → (c.sent g ≡ true)
    → (m.command ≡ its_request (c.op g) (guid_for c g) (c.file (create_at c g)) (c.slot_of g) (c.number_of g))
    → (m.client_guid ≡ c.who.guid) → (m.fault ≡ None) → Lower c → Lower (put_out c k g)
send_lower c conns a k g n0 m ready none above within pending may lower sent body who fault i_lower =
    λ p q. let old = i_lower p q in let l = lower q in grind arith

send_has_open : (c : Client) (conns : ℕ → Conn) (a : ℕ → ℕ) (k g n0 : ℕ) (m : Message) → (c.ready k ≡ true)
    → (c.outstanding_on g ≡ None) → (0 < g) → (g ≤ c.taken) → (is_unsettled (c.outcome g) ≡ true) → (opens c g ≡ true)
    → (c.sent g ≡ true) → (m.command ≡ its_request (c.op g) (guid_for c g) (c.file (create_at c g)) (c.slot_of g)
    (c.number_of g)) → (m.client_guid ≡ c.who.guid) → (m.fault ≡ None) → HasOpen c → HasOpen (put_out c k g)
send_has_open c conns a k g n0 m ready none above within pending may sent body who fault i_has_open =
    λ p. let old = i_has_open p in grind arith

send_asked_open : (c : Client) (conns : ℕ → Conn) (a : ℕ → ℕ) (k g n0 : ℕ) (m : Message) → (c.ready k ≡ true)
    → (c.outstanding_on g ≡ None) → (0 < g) → (g ≤ c.taken) → (is_unsettled (c.outcome g) ≡ true) → (opens c g ≡ true)
    → (c.sent g ≡ true) → (m.command ≡ its_request (c.op g) (guid_for c g) (c.file (create_at c g)) (c.slot_of g)
    (c.number_of g)) → (m.client_guid ≡ c.who.guid) → (m.fault ≡ None) → AskedOpen c → AskedOpen (put_out c k g)
send_asked_open c conns a k g n0 m ready none above within pending may sent body who fault i_asked_open =
    λ p. let old = i_asked_open p in grind arith

send_fresh : (c : Client) (conns : ℕ → Conn) (a : ℕ → ℕ) (k g n0 : ℕ) (m : Message) → (c.ready k ≡ true)
    → (c.outstanding_on g ≡ None) → (0 < g) → (g ≤ c.taken) → (is_unsettled (c.outcome g) ≡ true) → (opens c g ≡ true)
    → (c.sent g ≡ true) → (m.command ≡ its_request (c.op g) (guid_for c g) (c.file (create_at c g)) (c.slot_of g)
    (c.number_of g)) → (m.client_guid ≡ c.who.guid) → (m.fault ≡ None) → Fresh c a → Fresh (put_out c k g) a
send_fresh c conns a k g n0 m ready none above within pending may sent body who fault i_fresh =
    λ p. let old = i_fresh p in grind arith

send_bodies : (c : Client) (conns : ℕ → Conn) (a : ℕ → ℕ) (k g n0 : ℕ) (m : Message) → (c.ready k ≡ true)
    → (c.outstanding_on g ≡ None) → (0 < g) → (g ≤ c.taken) → (is_unsettled (c.outcome g) ≡ true) → (opens c g ≡ true)
    → (c.sent g ≡ true) → (m.command ≡ its_request (c.op g) (guid_for c g) (c.file (create_at c g)) (c.slot_of g)
    (c.number_of g)) → (m.client_guid ≡ c.who.guid) → (m.fault ≡ None) → Bodies c conns → Bodies (put_out c k g)
    (put conns k (send_up (conns k) (ForOp g) m n0))
send_bodies c conns a k g n0 m ready none above within pending may sent body who fault i_bodies =
    λ j n p x. let old = i_bodies j n p x in grind (arith, get-push)

send_first : (c : Client) (conns : ℕ → Conn) (a : ℕ → ℕ) (k g n0 : ℕ) (m : Message) → (c.ready k ≡ true)
    → (c.outstanding_on g ≡ None) → (0 < g) → (g ≤ c.taken) → (is_unsettled (c.outcome g) ≡ true) → (opens c g ≡ true)
    → (c.sent g ≡ true) → (m.command ≡ its_request (c.op g) (guid_for c g) (c.file (create_at c g)) (c.slot_of g)
    (c.number_of g)) → (m.client_guid ≡ c.who.guid) → (m.fault ≡ None) → (acts_once (c.op g) ≡ true → c.unanswered g
    ≡ false → a g ≡ 0) → First c conns a → Ready c conns
    → First (put_out c k g) (put conns k (send_up (conns k) (ForOp g) m n0)) a
send_first c conns a k g n0 m ready none above within pending may sent body who fault idle i_first i_ready =
    λ j n p x. let old = i_first j n p x in let q = idle in let r = i_ready k ready in grind (arith, get-push)

send_unsent : (c : Client) (conns : ℕ → Conn) (a : ℕ → ℕ) (k g n0 : ℕ) (m : Message) → (c.ready k ≡ true)
    → (c.outstanding_on g ≡ None) → (0 < g) → (g ≤ c.taken) → (is_unsettled (c.outcome g) ≡ true) → (opens c g ≡ true)
    → (c.sent g ≡ true) → (m.command ≡ its_request (c.op g) (guid_for c g) (c.file (create_at c g)) (c.slot_of g)
    (c.number_of g)) → (m.client_guid ≡ c.who.guid) → (m.fault ≡ None) → Unsent c a → Unsent (put_out c k g) a
send_unsent c conns a k g n0 m ready none above within pending may sent body who fault i_unsent =
    λ p. let old = i_unsent p in grind arith

send_sent_replies : (c : Client) (conns : ℕ → Conn) (a : ℕ → ℕ) (k g n0 : ℕ) (m : Message) → (c.ready k ≡ true)
    → (c.outstanding_on g ≡ None) → (0 < g) → (g ≤ c.taken) → (is_unsettled (c.outcome g) ≡ true) → (opens c g ≡ true)
    → (c.sent g ≡ true) → (m.command ≡ its_request (c.op g) (guid_for c g) (c.file (create_at c g)) (c.slot_of g)
    (c.number_of g)) → (m.client_guid ≡ c.who.guid) → (m.fault ≡ None) → SentReplies c conns
    → SentReplies (put_out c k g) (put conns k (send_up (conns k) (ForOp g) m n0))
send_sent_replies c conns a k g n0 m ready none above within pending may sent body who fault i_sent_replies =
    λ j n p y. let old = i_sent_replies j n p y in grind (arith, get-push)

send_deleted : (c : Client) (conns : ℕ → Conn) (a : ℕ → ℕ) (k g n0 : ℕ) (m : Message) → (c.ready k ≡ true)
    → (c.outstanding_on g ≡ None) → (0 < g) → (g ≤ c.taken) → (is_unsettled (c.outcome g) ≡ true) → (opens c g ≡ true)
    → (c.sent g ≡ true) → (m.command ≡ its_request (c.op g) (guid_for c g) (c.file (create_at c g)) (c.slot_of g)
    (c.number_of g)) → (m.client_guid ≡ c.who.guid) → (m.fault ≡ None) → Deleted c conns a → Deleted (put_out c k g)
    (put conns k (send_up (conns k) (ForOp g) m n0)) a
send_deleted c conns a k g n0 m ready none above within pending may sent body who fault i_deleted =
    λ j n p y. let old = i_deleted j n p y in grind (arith, get-push)

pub send_keeps : (c : Client) (conns : ℕ → Conn) (a : ℕ → ℕ) (k g n0 : ℕ) (m : Message) → (c.ready k ≡ true)
    → (c.outstanding_on g ≡ None) → (0 < g) → (g ≤ c.taken) → (is_unsettled (c.outcome g) ≡ true) → (opens c g ≡ true)
    → ((n : ℕ) → 0 < n → n < g → create_at c n ≡ create_at c g → (shuts_open (c.op g) || shuts_open (c.op n)) ≡ true
    → is_unsettled (c.outcome n) ≡ false) → (c.sent g ≡ true)
    → (m.command ≡ its_request (c.op g) (guid_for c g) (c.file (create_at c g)) (c.slot_of g) (c.number_of g))
    → (m.client_guid ≡ c.who.guid) → (m.fault ≡ None) → (acts_once (c.op g) ≡ true → c.unanswered g ≡ false → a g ≡ 0)
    → Connections c conns a → Connections (put_out c k g) (put conns k (send_up (conns k) (ForOp g) m n0)) a
send_keeps c conns a k g n0 m ready none above within pending may lower sent body who fault idle i =
    record {
      once = send_once c conns a k g n0 m ready none above within pending may sent body who fault i.once i.outstanding i.ready;
      outstanding = send_outstanding c conns a k g n0 m ready none above within pending may sent body who fault i.outstanding;
      own_up = send_own_up c conns a k g n0 m ready none above within pending may sent body who fault i.own_up i.outstanding;
      attach_up = send_attach_up c conns a k g n0 m ready none above within pending may sent body who fault i.attach_up i.outstanding;
      own_down = send_own_down c conns a k g n0 m ready none above within pending may sent body who fault i.own_down i.outstanding;
      attach_down = send_attach_down c conns a k g n0 m ready none above within pending may sent body who fault i.attach_down i.outstanding;
      down_open = send_down_open c conns a k g n0 m ready none above within pending may sent body who fault i.down_open;
      on_ready = send_on_ready c conns a k g n0 m ready none above within pending may sent body who fault i.on_ready;
      ready = send_ready c conns a k g n0 m ready none above within pending may sent body who fault i.ready;
      stages = send_stages c conns a k g n0 m ready none above within pending may sent body who fault i.stages;
      settled = send_settled c conns a k g n0 m ready none above within pending may sent body who fault i.settled;
      taken = send_taken c conns a k g n0 m ready none above within pending may sent body who fault i.taken;
      taken_on = send_taken_on c conns a k g n0 m ready none above within pending may sent body who fault i.taken_on;
      creates = send_creates c conns a k g n0 m ready none above within pending may sent body who fault i.creates;
      lower = send_lower c conns a k g n0 m ready none above within pending may lower sent body who fault i.lower;
      has_open = send_has_open c conns a k g n0 m ready none above within pending may sent body who fault i.has_open;
      asked_open = send_asked_open c conns a k g n0 m ready none above within pending may sent body who fault i.asked_open;
      fresh = send_fresh c conns a k g n0 m ready none above within pending may sent body who fault i.fresh;
      bodies = send_bodies c conns a k g n0 m ready none above within pending may sent body who fault i.bodies;
      first = send_first c conns a k g n0 m ready none above within pending may sent body who fault idle i.first i.ready;
      unsent = send_unsent c conns a k g n0 m ready none above within pending may sent body who fault i.unsent;
      sent_replies = send_sent_replies c conns a k g n0 m ready none above within pending may sent body who fault i.sent_replies;
      deleted = send_deleted c conns a k g n0 m ready none above within pending may sent body who fault i.deleted;
    }
