-- Written by tools/law_locks.py. The server moves, and carries out no lock.
use Rattle.std.proofs.Common.{◌≡◌, ℕ, ◌≤◌, true, false, arith, Some, None, slice_get}
use Rattle.spec_exchange.specs.Status.{success}
use Rattle.spec_exchange.specs.Commands.{deletes_on_close}
use Rattle.spec_exchange.specs.State.{Server}
use Rattle.spec_exchange.specs.Operations.{is_unsettled, is_ok, id_in}
use Rattle.spec_exchange.specs.Client.{Client, guid_for}
use Rattle.spec_exchange.specs.Network.{Conn, Sent, Received, ForOp, ForAttach}
use Rattle.law_sessions.specs.messages.Connections.{Connections, makes_open, create_at, Taken, Creates, HasOpen, Bodies, SentReplies}
use Rattle.law_sessions.specs.sessions.Sessions.{is_ops}
use Rattle.law_locks.specs.Locks.{Locks, locking, open_at, is_stuck, piped, UserBody, AskDown, Users, CopyNow}
use Rattle.law_locks.specs.Locks.{RetriedOn, RetriedDone, CopyAttached, NowAttached, OpenedReply, JoinReply, JoinedReply}
use Rattle.law_locks.specs.Locks.{LostReply, KeptSays, NotKept, FirmKept, NoUser, NoSlots, FullDead, OkReply, NoReply}
use Rattle.law_locks.specs.Locks.{KeptReply, FirstReply, ClosedNot, KeptFiles, LeftFull, LeftStuck, LeftIdle, CloseDone}
use Rattle.law_locks.specs.Locks.{CloseFull, CloseStuck, MadePlain, AtMost, OkActed, RefusedNot}
use Rattle.law_locks.proofs.Words.{lock_kind, close_kind, ok_of, made_of, own_ops}

moves_users : (c : Client) (conns : ℕ → Conn) (s : Server) (a : ℕ → ℕ) (s2 : Server) (a2 : ℕ → ℕ)
    → (s.journal ≤ s2.journal) → ((j n : ℕ) (x : Sent) → slice_get (conns j).up n ≡ Some x → is_ops x.token ≡ true
    → s2.present x.message.session_id ≡ true → s.present x.message.session_id ≡ true) → Users c conns s
    → Users c conns s2
moves_users c conns s a s2 a2 journal stay i_users =
    λ j n p x h t m. let old = i_users j n p x h t m in let sy = stay j n x h (own_ops x p t) in grind arith

moves_copy_now : (c : Client) (conns : ℕ → Conn) (s : Server) (a : ℕ → ℕ) (s2 : Server) (a2 : ℕ → ℕ)
    → (s.journal ≤ s2.journal) → ((j n : ℕ) (x : Sent) → slice_get (conns j).up n ≡ Some x → is_ops x.token ≡ true
    → s2.present x.message.session_id ≡ true → s.present x.message.session_id ≡ true) → CopyNow c conns s
    → CopyNow c conns s2
moves_copy_now c conns s a s2 a2 journal stay i_copy_now =
    λ j n p x h t m. let old = i_copy_now j n p x h t m in let sy = stay j n x h (own_ops x p t) in grind arith

moves_retried_on : (c : Client) (conns : ℕ → Conn) (s : Server) (a : ℕ → ℕ) (s2 : Server) (a2 : ℕ → ℕ)
    → (s.journal ≤ s2.journal) → ((j n : ℕ) (x : Sent) → slice_get (conns j).up n ≡ Some x → is_ops x.token ≡ true
    → s2.present x.message.session_id ≡ true → s.present x.message.session_id ≡ true) → RetriedOn c conns s
    → RetriedOn c conns s2
moves_retried_on c conns s a s2 a2 journal stay i_retried_on =
    λ j n p x h t m. let old = i_retried_on j n p x h t m in let sy = stay j n x h (own_ops x p t) in grind arith

moves_retried_done : (c : Client) (conns : ℕ → Conn) (s : Server) (a : ℕ → ℕ) (s2 : Server) (a2 : ℕ → ℕ)
    → (s.journal ≤ s2.journal) → ((j n : ℕ) (x : Sent) → slice_get (conns j).up n ≡ Some x → is_ops x.token ≡ true
    → s2.present x.message.session_id ≡ true → s.present x.message.session_id ≡ true) → RetriedDone c conns s
    → RetriedDone c conns s2
moves_retried_done c conns s a s2 a2 journal stay i_retried_done =
    λ j n p x h t m. let old = i_retried_done j n p x h t m in let sy = stay j n x h (own_ops x p t) in grind arith

moves_copy_attached : (c : Client) (conns : ℕ → Conn) (s : Server) (a : ℕ → ℕ) (s2 : Server) (a2 : ℕ → ℕ)
    → (s.journal ≤ s2.journal) → ((j n : ℕ) (x : Sent) → slice_get (conns j).up n ≡ Some x → is_ops x.token ≡ true
    → s2.present x.message.session_id ≡ true → s.present x.message.session_id ≡ true)
    → ((q : ℕ) → makes_open (c.op q) ≡ true → is_ok (c.outcome q) ≡ true → s2.standing (c.file q) ≡ true
    → s.standing (c.file q) ≡ true) → ((o y : ℕ) → s.session_of_open o ≡ Some y → s2.standing o ≡ true → s2.present y
    ≡ true → s2.session_of_open o ≡ Some y) → Bodies c conns → Creates c → HasOpen c → Taken c → CopyAttached c conns s
    → CopyAttached c conns s2
moves_copy_attached c conns s a s2 a2 journal stay stands keeps_at C_bodies C_creates C_has_open C_taken i_copy_attached =
    λ j n p x h t m. let old = i_copy_attached j n p x h t m in let b = C_bodies j n p x h t in let sent = b.0 in
    let m1 = m in let ok1 = ok_of c C_has_open p sent m1 in let mk = made_of c C_taken C_creates p sent m1 in
    let sy = stay j n x h (own_ops x p t) in let sd = stands (create_at c p) mk ok1 in let ka =
    keeps_at (open_at c p) x.message.session_id in grind arith

moves_now_attached : (c : Client) (conns : ℕ → Conn) (s : Server) (a : ℕ → ℕ) (s2 : Server) (a2 : ℕ → ℕ)
    → (s.journal ≤ s2.journal) → (c.live ≡ true → s2.present c.session ≡ true → s.present c.session ≡ true)
    → ((q : ℕ) → makes_open (c.op q) ≡ true → is_ok (c.outcome q) ≡ true → s2.standing (c.file q) ≡ true
    → s.standing (c.file q) ≡ true) → ((o y : ℕ) → s.session_of_open o ≡ Some y → s2.standing o ≡ true → s2.present y
    ≡ true → s2.session_of_open o ≡ Some y) → NowAttached c s → NowAttached c s2
moves_now_attached c conns s a s2 a2 journal stay_now stands keeps_at i_now_attached =
    λ q m ok1. let old = i_now_attached q m ok1 in let sn = stay_now in let sd = stands q m ok1 in let ka =
    keeps_at (c.file q) c.session in grind arith

moves_opened_reply : (c : Client) (conns : ℕ → Conn) (s : Server) (a : ℕ → ℕ) (s2 : Server) (a2 : ℕ → ℕ)
    → (s.journal ≤ s2.journal) → (c.live ≡ true → s2.present c.session ≡ true → s.present c.session ≡ true)
    → ((o y : ℕ) → s.session_of_open o ≡ Some y → s2.standing o ≡ true → s2.present y ≡ true → s2.session_of_open o
    ≡ Some y) → ((j n g : ℕ) (y : Received) → slice_get (conns j).down n ≡ Some y → y.token ≡ ForOp g
    → makes_open (c.op g) ≡ true → y.reply.status ≡ success → s2.standing (id_in y.reply.body) ≡ true
    → s.standing (id_in y.reply.body) ≡ true) → OpenedReply c conns s → OpenedReply c conns s2
moves_opened_reply c conns s a s2 a2 journal stay_now keeps_at open_stands i_opened_reply =
    λ j n p y h t m e. let old = i_opened_reply j n p y h t m e in let os = open_stands j n p y h t m e in let sn =
    stay_now in let ka = keeps_at (id_in y.reply.body) c.session in grind arith

moves_join_reply : (c : Client) (conns : ℕ → Conn) (s : Server) (a : ℕ → ℕ) (s2 : Server) (a2 : ℕ → ℕ)
    → (s.journal ≤ s2.journal) → (c.live ≡ true → s2.present c.session ≡ true → s.present c.session ≡ true)
    → ((q : ℕ) → makes_open (c.op q) ≡ true → is_ok (c.outcome q) ≡ true → s2.standing (c.file q) ≡ true
    → s.standing (c.file q) ≡ true) → ((o y : ℕ) → s.session_of_open o ≡ Some y → s2.standing o ≡ true → s2.present y
    ≡ true → s2.session_of_open o ≡ Some y) → Creates c → JoinReply c conns s → AskDown c conns → JoinReply c conns s2
moves_join_reply c conns s a s2 a2 journal stay_now stands keeps_at C_creates i_join_reply i_ask_down =
    λ j n p y h t. let old = i_join_reply j n p y h t in let ad = i_ask_down j n p y h t in let cr = C_creates p ad.0
    ad.1 ad.2 in let sd = stands (create_at c p) cr.2 ad.3 in let sn = stay_now in let ka = keeps_at (open_at c p)
    c.session in grind arith

moves_joined_reply : (c : Client) (conns : ℕ → Conn) (s : Server) (a : ℕ → ℕ) (s2 : Server) (a2 : ℕ → ℕ)
    → (s.journal ≤ s2.journal) → (c.live ≡ true → s2.present c.session ≡ true → s.present c.session ≡ true)
    → ((j n g : ℕ) (y : Received) → slice_get (conns j).down n ≡ Some y → y.token ≡ ForAttach g → y.reply.status
    ≡ success → c.live ≡ true → s2.present c.session ≡ true → s.standing (open_at c g) ≡ true
    → s2.standing (open_at c g) ≡ false → c.attached (create_at c g) ≡ c.session_number) → JoinedReply c conns s
    → JoinedReply c conns s2
moves_joined_reply c conns s a s2 a2 journal stay_now joined i_joined_reply =
    λ j n p y h t e. let old = i_joined_reply j n p y h t e in let jn = joined j n p y h t e in let sn = stay_now in grind arith

moves_lost_reply : (c : Client) (conns : ℕ → Conn) (s : Server) (a : ℕ → ℕ) (s2 : Server) (a2 : ℕ → ℕ)
    → (s.journal ≤ s2.journal) → ((q : ℕ) → makes_open (c.op q) ≡ true → is_ok (c.outcome q) ≡ true
    → s2.standing (c.file q) ≡ true → s.standing (c.file q) ≡ true) → Creates c → LostReply c conns s → AskDown c conns
    → LostReply c conns s2
moves_lost_reply c conns s a s2 a2 journal stands C_creates i_lost_reply i_ask_down =
    λ j n p y h t. let old = i_lost_reply j n p y h t in let ad = i_ask_down j n p y h t in let cr = C_creates p ad.0
    ad.1 ad.2 in let sd = stands (create_at c p) cr.2 ad.3 in grind arith

moves_kept_says : (c : Client) (conns : ℕ → Conn) (s : Server) (a : ℕ → ℕ) (s2 : Server) (a2 : ℕ → ℕ)
    → ((p : ℕ) → locking (c.op p) ≡ true → a2 p ≡ a p) → (s.journal ≤ s2.journal)
    → ((q : ℕ) → makes_open (c.op q) ≡ true → is_ok (c.outcome q) ≡ true → s2.standing (c.file q) ≡ true
    → s.standing (c.file q) ≡ true) → ((q r : ℕ) → makes_open (c.op q) ≡ true → is_ok (c.outcome q) ≡ true
    → s2.standing (c.file q) ≡ true → s2.lock_sequences (c.file q) r ≡ s.lock_sequences (c.file q) r) → Creates c
    → HasOpen c → Taken c → KeptSays c s a → UserBody c → KeptSays c s2 a2
moves_kept_says c conns s a s2 a2 same_a journal stands slots C_creates C_has_open C_taken i_kept_says i_user_body =
    λ p st e f. let old = i_kept_says p st e in let ub = i_user_body _ _ p e in let sent = ub.3 in let m1 =
    lock_kind (c.op p) ub.0 in let ok1 = ok_of c C_has_open p sent m1 in let mk = made_of c C_taken C_creates p sent
    m1 in let sd = stands (create_at c p) mk ok1 in let sl = slots (create_at c p) (c.slot_of p) mk ok1 in let sa =
    same_a p ub.0 in grind arith

moves_not_kept : (c : Client) (conns : ℕ → Conn) (s : Server) (a : ℕ → ℕ) (s2 : Server) (a2 : ℕ → ℕ)
    → ((p : ℕ) → locking (c.op p) ≡ true → a2 p ≡ a p) → (s.journal ≤ s2.journal)
    → ((q : ℕ) → makes_open (c.op q) ≡ true → is_ok (c.outcome q) ≡ true → s2.standing (c.file q) ≡ true
    → s.standing (c.file q) ≡ true) → ((q r : ℕ) → makes_open (c.op q) ≡ true → is_ok (c.outcome q) ≡ true
    → s2.standing (c.file q) ≡ true → s2.lock_sequences (c.file q) r ≡ s.lock_sequences (c.file q) r) → Creates c
    → HasOpen c → Taken c → NotKept c s a → UserBody c → NotKept c s2 a2
moves_not_kept c conns s a s2 a2 same_a journal stands slots C_creates C_has_open C_taken i_not_kept i_user_body =
    λ p e f. let old = i_not_kept p e in let ub = i_user_body _ _ p e in let sent = ub.3 in let m1 = lock_kind (c.op p)
    ub.0 in let ok1 = ok_of c C_has_open p sent m1 in let mk = made_of c C_taken C_creates p sent m1 in let sd =
    stands (create_at c p) mk ok1 in let sl = slots (create_at c p) (c.slot_of p) mk ok1 in let sa =
    same_a p ub.0 in grind arith

moves_firm_kept : (c : Client) (conns : ℕ → Conn) (s : Server) (a : ℕ → ℕ) (s2 : Server) (a2 : ℕ → ℕ)
    → (s.journal ≤ s2.journal) → ((q : ℕ) → makes_open (c.op q) ≡ true → is_ok (c.outcome q) ≡ true
    → s2.standing (c.file q) ≡ true → s.standing (c.file q) ≡ true) → ((q r : ℕ) → makes_open (c.op q) ≡ true
    → is_ok (c.outcome q) ≡ true → s2.standing (c.file q) ≡ true → s2.lock_sequences (c.file q) r
    ≡ s.lock_sequences (c.file q) r) → Creates c → HasOpen c → Taken c → FirmKept c s → UserBody c → FirmKept c s2
moves_firm_kept c conns s a s2 a2 journal stands slots C_creates C_has_open C_taken i_firm_kept i_user_body =
    λ p e. let old = i_firm_kept p e in let ub = i_user_body _ _ p e in let sent = ub.3 in let m1 = lock_kind (c.op p)
    ub.0 in let ok1 = ok_of c C_has_open p sent m1 in let mk = made_of c C_taken C_creates p sent m1 in let sd =
    stands (create_at c p) mk ok1 in let sl = slots (create_at c p) (c.slot_of p) mk ok1 in grind arith

moves_no_user : (c : Client) (conns : ℕ → Conn) (s : Server) (a : ℕ → ℕ) (s2 : Server) (a2 : ℕ → ℕ)
    → (s.journal ≤ s2.journal) → ((q : ℕ) → makes_open (c.op q) ≡ true → is_ok (c.outcome q) ≡ true
    → s2.standing (c.file q) ≡ true → s.standing (c.file q) ≡ true) → ((q r : ℕ) → makes_open (c.op q) ≡ true
    → is_ok (c.outcome q) ≡ true → s2.standing (c.file q) ≡ true → s2.lock_sequences (c.file q) r
    ≡ s.lock_sequences (c.file q) r) → NoUser c s → NoUser c s2
moves_no_user c conns s a s2 a2 journal stands slots i_no_user =
    λ q r ok1 mk. let old = i_no_user q r ok1 mk in let sd = stands q mk ok1 in let sl = slots q r mk ok1 in grind arith

moves_no_slots : (c : Client) (conns : ℕ → Conn) (s : Server) (a : ℕ → ℕ) (s2 : Server) (a2 : ℕ → ℕ)
    → (s.journal ≤ s2.journal) → ((q r o : ℕ) → makes_open (c.op q) ≡ true → is_ok (c.outcome q) ≡ false
    → s2.by_guid c.who.guid (guid_for c q) ≡ Some o → s2.lock_sequences o r ≡ None) → NoSlots c s → NoSlots c s2
moves_no_slots c conns s a s2 a2 journal unmade i_no_slots =
    λ q r o m ok1 e. unmade q r o m ok1 e

moves_full_dead : (c : Client) (conns : ℕ → Conn) (s : Server) (a : ℕ → ℕ) (s2 : Server) (a2 : ℕ → ℕ)
    → (s.journal ≤ s2.journal) → ((j n : ℕ) (x : Sent) → slice_get (conns j).up n ≡ Some x → is_ops x.token ≡ true
    → s2.present x.message.session_id ≡ true → s.present x.message.session_id ≡ true) → FullDead c conns s
    → FullDead c conns s2
moves_full_dead c conns s a s2 a2 journal stay i_full_dead =
    λ j n p x h t m. let old = i_full_dead j n p x h t m in let sy = stay j n x h (own_ops x p t) in grind arith

moves_ok_reply : (c : Client) (conns : ℕ → Conn) (s : Server) (a : ℕ → ℕ) (s2 : Server) (a2 : ℕ → ℕ)
    → ((p : ℕ) → locking (c.op p) ≡ true → a2 p ≡ a p) → (s.journal ≤ s2.journal) → OkReply c conns a
    → OkReply c conns a2
moves_ok_reply c conns s a s2 a2 same_a journal i_ok_reply =
    λ j n p y h t m. let old = i_ok_reply j n p y h t m in let sa = same_a p m in grind arith

moves_no_reply : (c : Client) (conns : ℕ → Conn) (s : Server) (a : ℕ → ℕ) (s2 : Server) (a2 : ℕ → ℕ)
    → ((p : ℕ) → locking (c.op p) ≡ true → a2 p ≡ a p) → (s.journal ≤ s2.journal) → NoReply c conns a
    → NoReply c conns a2
moves_no_reply c conns s a s2 a2 same_a journal i_no_reply =
    λ j n p y h t m. let old = i_no_reply j n p y h t m in let sa = same_a p m in grind arith

moves_kept_reply : (c : Client) (conns : ℕ → Conn) (s : Server) (a : ℕ → ℕ) (s2 : Server) (a2 : ℕ → ℕ)
    → (s.journal ≤ s2.journal) → ((q : ℕ) → makes_open (c.op q) ≡ true → is_ok (c.outcome q) ≡ true
    → s2.standing (c.file q) ≡ true → s.standing (c.file q) ≡ true) → ((q r : ℕ) → makes_open (c.op q) ≡ true
    → is_ok (c.outcome q) ≡ true → s2.standing (c.file q) ≡ true → s2.lock_sequences (c.file q) r
    ≡ s.lock_sequences (c.file q) r) → Creates c → HasOpen c → SentReplies c conns → Taken c → KeptReply c conns s
    → KeptReply c conns s2
moves_kept_reply c conns s a s2 a2 journal stands slots C_creates C_has_open C_sent_replies C_taken i_kept_reply =
    λ j n p y h t m. let old = i_kept_reply j n p y h t m in let sent = C_sent_replies j n p y h t in let m1 =
    lock_kind (c.op p) m in let ok1 = ok_of c C_has_open p sent m1 in let mk = made_of c C_taken C_creates p sent m1
    in let sd = stands (create_at c p) mk ok1 in let sl = slots (create_at c p) (c.slot_of p) mk ok1 in grind arith

moves_first_reply : (c : Client) (conns : ℕ → Conn) (s : Server) (a : ℕ → ℕ) (s2 : Server) (a2 : ℕ → ℕ)
    → ((p : ℕ) → locking (c.op p) ≡ true → a2 p ≡ a p) → (s.journal ≤ s2.journal) → FirstReply c conns a
    → FirstReply c conns a2
moves_first_reply c conns s a s2 a2 same_a journal i_first_reply =
    λ j n p y h t m. let old = i_first_reply j n p y h t m in let sa = same_a p m in grind arith

moves_closed_not : (c : Client) (conns : ℕ → Conn) (s : Server) (a : ℕ → ℕ) (s2 : Server) (a2 : ℕ → ℕ)
    → ((p : ℕ) → locking (c.op p) ≡ true → a2 p ≡ a p) → (s.journal ≤ s2.journal)
    → (c.live ≡ true → s2.present c.session ≡ true → s.present c.session ≡ true)
    → ((g : ℕ) → locking (c.op g) ≡ true → c.sent g ≡ true → is_unsettled (c.outcome g) ≡ true → c.live ≡ true
    → c.attached (create_at c g) ≡ c.session_number → s2.present c.session ≡ true → s.standing (open_at c g) ≡ true
    → s2.standing (open_at c g) ≡ false → a g ≡ 0) → ClosedNot c s a → ClosedNot c s2 a2
moves_closed_not c conns s a s2 a2 same_a journal stay_now closed i_closed_not =
    λ p m s0 u l at1. let old = i_closed_not p m s0 u l at1 in let cl = closed p m s0 u l at1 in let sn = stay_now in
    let sa = same_a p m in grind arith

moves_kept_files : (c : Client) (conns : ℕ → Conn) (s : Server) (a : ℕ → ℕ) (s2 : Server) (a2 : ℕ → ℕ)
    → (s.journal ≤ s2.journal) → ((o : ℕ) → s2.standing o ≡ true → deletes_on_close (s2.opened o).options ≡ false)
    → KeptFiles s → KeptFiles s2
moves_kept_files c conns s a s2 a2 journal keeps i_kept_files =
    λ o e. keeps o e

moves_left_full : (c : Client) (conns : ℕ → Conn) (s : Server) (a : ℕ → ℕ) (s2 : Server) (a2 : ℕ → ℕ)
    → (s.journal ≤ s2.journal) → ((j n : ℕ) (x : Sent) → slice_get (conns j).up n ≡ Some x → is_ops x.token ≡ true
    → s2.present x.message.session_id ≡ true → s.present x.message.session_id ≡ true)
    → ((q : ℕ) → makes_open (c.op q) ≡ true → is_ok (c.outcome q) ≡ true → s2.standing (c.file q) ≡ true
    → s.standing (c.file q) ≡ true) → ((q : ℕ) → makes_open (c.op q) ≡ true → is_ok (c.outcome q) ≡ true
    → s2.standing (c.file q) ≡ true → (s2.opened (c.file q)).persistent ≡ (s.opened (c.file q)).persistent)
    → Bodies c conns → Creates c → HasOpen c → Taken c → LeftFull c conns s → LeftFull c conns s2
moves_left_full c conns s a s2 a2 journal stay stands opened C_bodies C_creates C_has_open C_taken i_left_full =
    λ j n p x h t m. let old = i_left_full j n p x h t m in let b = C_bodies j n p x h t in let sent = b.0 in let m1 =
    close_kind (c.op p) m in let ok1 = ok_of c C_has_open p sent m1 in let mk = made_of c C_taken C_creates p sent
    m1 in let sy = stay j n x h (own_ops x p t) in let sd = stands (create_at c p) mk ok1 in let op1 =
    opened (create_at c p) mk ok1 in grind arith

moves_left_stuck : (c : Client) (conns : ℕ → Conn) (s : Server) (a : ℕ → ℕ) (s2 : Server) (a2 : ℕ → ℕ)
    → (s.journal ≤ s2.journal) → ((j n : ℕ) (x : Sent) → slice_get (conns j).up n ≡ Some x → is_ops x.token ≡ true
    → s2.present x.message.session_id ≡ true → s.present x.message.session_id ≡ true)
    → ((q : ℕ) → makes_open (c.op q) ≡ true → is_ok (c.outcome q) ≡ true → s2.standing (c.file q) ≡ true
    → s.standing (c.file q) ≡ true) → ((q : ℕ) → makes_open (c.op q) ≡ true → is_ok (c.outcome q) ≡ true
    → s2.standing (c.file q) ≡ true → (s2.opened (c.file q)).persistent ≡ (s.opened (c.file q)).persistent)
    → ((q : ℕ) → makes_open (c.op q) ≡ true → is_ok (c.outcome q) ≡ true → s2.standing (c.file q) ≡ true
    → (s.opened (c.file q)).persistent ≡ false → is_stuck s (c.file q) ≡ true → is_stuck s2 (c.file q) ≡ true) → Bodies c conns → Creates c → HasOpen c → Taken c → LeftStuck c conns s
    → LeftStuck c conns s2
moves_left_stuck c conns s a s2 a2 journal stay stands opened stuck C_bodies C_creates C_has_open C_taken i_left_stuck =
    λ j n p x h t m. let old = i_left_stuck j n p x h t m in let b = C_bodies j n p x h t in let sent = b.0 in let m1 =
    close_kind (c.op p) m in let ok1 = ok_of c C_has_open p sent m1 in let mk = made_of c C_taken C_creates p sent
    m1 in let sy = stay j n x h (own_ops x p t) in let sd = stands (create_at c p) mk ok1 in let op1 =
    opened (create_at c p) mk ok1 in let sk = stuck (create_at c p) mk ok1 in grind arith

moves_left_idle : (c : Client) (conns : ℕ → Conn) (s : Server) (a : ℕ → ℕ) (s2 : Server) (a2 : ℕ → ℕ)
    → ((p : ℕ) → locking (c.op p) ≡ true → a2 p ≡ a p) → (s.journal ≤ s2.journal)
    → ((j n : ℕ) (x : Sent) → slice_get (conns j).up n ≡ Some x → is_ops x.token ≡ true
    → s2.present x.message.session_id ≡ true → s.present x.message.session_id ≡ true)
    → ((q : ℕ) → makes_open (c.op q) ≡ true → is_ok (c.outcome q) ≡ true → s2.standing (c.file q) ≡ true
    → s.standing (c.file q) ≡ true) → ((q : ℕ) → makes_open (c.op q) ≡ true → is_ok (c.outcome q) ≡ true
    → s2.standing (c.file q) ≡ true → (s2.opened (c.file q)).persistent ≡ (s.opened (c.file q)).persistent)
    → Bodies c conns → Creates c → HasOpen c → Taken c → LeftIdle c conns s a → LeftIdle c conns s2 a2
moves_left_idle c conns s a s2 a2 same_a journal stay stands opened C_bodies C_creates C_has_open C_taken i_left_idle =
    λ j n p q x h t m. let old = i_left_idle j n p q x h t m in let b = C_bodies j n p x h t in let sent = b.0 in
    let m1 = close_kind (c.op p) m in let ok1 = ok_of c C_has_open p sent m1 in let mk = made_of c C_taken C_creates
    p sent m1 in let sy = stay j n x h (own_ops x p t) in let sd = stands (create_at c p) mk ok1 in let op1 =
    opened (create_at c p) mk ok1 in let sa = same_a q in grind arith

moves_close_done : (c : Client) (conns : ℕ → Conn) (s : Server) (a : ℕ → ℕ) (s2 : Server) (a2 : ℕ → ℕ)
    → (s.journal ≤ s2.journal) → ((q : ℕ) → makes_open (c.op q) ≡ true → is_ok (c.outcome q) ≡ true
    → s2.standing (c.file q) ≡ true → s.standing (c.file q) ≡ true)
    → ((q : ℕ) → makes_open (c.op q) ≡ true → is_ok (c.outcome q) ≡ true → s2.standing (c.file q) ≡ true
    → (s2.opened (c.file q)).persistent ≡ (s.opened (c.file q)).persistent) → Creates c → HasOpen c
    → SentReplies c conns → Taken c → CloseDone c conns s → CloseDone c conns s2
moves_close_done c conns s a s2 a2 journal stands opened C_creates C_has_open C_sent_replies C_taken i_close_done =
    λ j n p y h t m. let old = i_close_done j n p y h t m in let sent = C_sent_replies j n p y h t in let m1 =
    close_kind (c.op p) m in let ok1 = ok_of c C_has_open p sent m1 in let mk = made_of c C_taken C_creates p sent
    m1 in let sd = stands (create_at c p) mk ok1 in let op1 = opened (create_at c p) mk ok1 in grind arith

moves_close_full : (c : Client) (conns : ℕ → Conn) (s : Server) (a : ℕ → ℕ) (s2 : Server) (a2 : ℕ → ℕ)
    → (s.journal ≤ s2.journal) → ((q : ℕ) → makes_open (c.op q) ≡ true → is_ok (c.outcome q) ≡ true
    → s2.standing (c.file q) ≡ true → s.standing (c.file q) ≡ true)
    → ((q : ℕ) → makes_open (c.op q) ≡ true → is_ok (c.outcome q) ≡ true → s2.standing (c.file q) ≡ true
    → (s2.opened (c.file q)).persistent ≡ (s.opened (c.file q)).persistent) → Creates c → HasOpen c
    → SentReplies c conns → Taken c → CloseFull c conns s → CloseFull c conns s2
moves_close_full c conns s a s2 a2 journal stands opened C_creates C_has_open C_sent_replies C_taken i_close_full =
    λ j n p y h t m. let old = i_close_full j n p y h t m in let sent = C_sent_replies j n p y h t in let m1 =
    close_kind (c.op p) m in let ok1 = ok_of c C_has_open p sent m1 in let mk = made_of c C_taken C_creates p sent
    m1 in let sd = stands (create_at c p) mk ok1 in let op1 = opened (create_at c p) mk ok1 in grind arith

moves_close_stuck : (c : Client) (conns : ℕ → Conn) (s : Server) (a : ℕ → ℕ) (s2 : Server) (a2 : ℕ → ℕ)
    → (s.journal ≤ s2.journal) → ((q : ℕ) → makes_open (c.op q) ≡ true → is_ok (c.outcome q) ≡ true
    → s2.standing (c.file q) ≡ true → s.standing (c.file q) ≡ true)
    → ((q : ℕ) → makes_open (c.op q) ≡ true → is_ok (c.outcome q) ≡ true → s2.standing (c.file q) ≡ true
    → (s2.opened (c.file q)).persistent ≡ (s.opened (c.file q)).persistent)
    → ((q : ℕ) → makes_open (c.op q) ≡ true → is_ok (c.outcome q) ≡ true → s2.standing (c.file q) ≡ true
    → (s.opened (c.file q)).persistent ≡ false → is_stuck s (c.file q) ≡ true → is_stuck s2 (c.file q) ≡ true) → Creates c → HasOpen c → SentReplies c conns → Taken c → CloseStuck c conns s
    → CloseStuck c conns s2
moves_close_stuck c conns s a s2 a2 journal stands opened stuck C_creates C_has_open C_sent_replies C_taken i_close_stuck =
    λ j n p y h t m. let old = i_close_stuck j n p y h t m in let sent = C_sent_replies j n p y h t in let m1 =
    close_kind (c.op p) m in let ok1 = ok_of c C_has_open p sent m1 in let mk = made_of c C_taken C_creates p sent
    m1 in let sd = stands (create_at c p) mk ok1 in let op1 = opened (create_at c p) mk ok1 in let sk =
    stuck (create_at c p) mk ok1 in grind arith

moves_made_plain : (c : Client) (conns : ℕ → Conn) (s : Server) (a : ℕ → ℕ) (s2 : Server) (a2 : ℕ → ℕ)
    → (s.journal ≤ s2.journal) → ((q : ℕ) → makes_open (c.op q) ≡ true → 1 ≤ a2 q → piped c.who.share ≡ false)
    → MadePlain c a → MadePlain c a2
moves_made_plain c conns s a s2 a2 journal plain i_made_plain =
    λ q m l. plain q m l

moves_at_most : (c : Client) (conns : ℕ → Conn) (s : Server) (a : ℕ → ℕ) (s2 : Server) (a2 : ℕ → ℕ)
    → ((p : ℕ) → locking (c.op p) ≡ true → a2 p ≡ a p) → (s.journal ≤ s2.journal) → AtMost c a → AtMost c a2
moves_at_most c conns s a s2 a2 same_a journal i_at_most =
    λ p m. let old = i_at_most p m in let sa = same_a p m in grind arith

moves_ok_acted : (c : Client) (conns : ℕ → Conn) (s : Server) (a : ℕ → ℕ) (s2 : Server) (a2 : ℕ → ℕ)
    → ((p : ℕ) → locking (c.op p) ≡ true → a2 p ≡ a p) → (s.journal ≤ s2.journal) → OkActed c a → OkActed c a2
moves_ok_acted c conns s a s2 a2 same_a journal i_ok_acted =
    λ p m. let old = i_ok_acted p m in let sa = same_a p m in grind arith

moves_refused_not : (c : Client) (conns : ℕ → Conn) (s : Server) (a : ℕ → ℕ) (s2 : Server) (a2 : ℕ → ℕ)
    → ((p : ℕ) → locking (c.op p) ≡ true → a2 p ≡ a p) → (s.journal ≤ s2.journal) → RefusedNot c a → RefusedNot c a2
moves_refused_not c conns s a s2 a2 same_a journal i_refused_not =
    λ p m. let old = i_refused_not p m in let sa = same_a p m in grind arith

pub moves_keeps : (c : Client) (conns : ℕ → Conn) (s : Server) (a : ℕ → ℕ) (s2 : Server) (a2 : ℕ → ℕ)
    → ((p : ℕ) → locking (c.op p) ≡ true → a2 p ≡ a p) → (s.journal ≤ s2.journal)
    → ((j n : ℕ) (x : Sent) → slice_get (conns j).up n ≡ Some x → is_ops x.token ≡ true
    → s2.present x.message.session_id ≡ true → s.present x.message.session_id ≡ true)
    → (c.live ≡ true → s2.present c.session ≡ true → s.present c.session ≡ true)
    → ((q : ℕ) → makes_open (c.op q) ≡ true → is_ok (c.outcome q) ≡ true → s2.standing (c.file q) ≡ true
    → s.standing (c.file q) ≡ true) → ((o y : ℕ) → s.session_of_open o ≡ Some y → s2.standing o ≡ true → s2.present y
    ≡ true → s2.session_of_open o ≡ Some y) → ((q r : ℕ) → makes_open (c.op q) ≡ true → is_ok (c.outcome q) ≡ true
    → s2.standing (c.file q) ≡ true → s2.lock_sequences (c.file q) r ≡ s.lock_sequences (c.file q) r)
    → ((q : ℕ) → makes_open (c.op q) ≡ true → is_ok (c.outcome q) ≡ true → s2.standing (c.file q) ≡ true
    → (s2.opened (c.file q)).persistent ≡ (s.opened (c.file q)).persistent)
    → ((q : ℕ) → makes_open (c.op q) ≡ true → is_ok (c.outcome q) ≡ true → s2.standing (c.file q) ≡ true
    → (s.opened (c.file q)).persistent ≡ false → is_stuck s (c.file q) ≡ true → is_stuck s2 (c.file q) ≡ true) → ((q r o : ℕ) → makes_open (c.op q) ≡ true → is_ok (c.outcome q) ≡ false
    → s2.by_guid c.who.guid (guid_for c q) ≡ Some o → s2.lock_sequences o r ≡ None)
    → ((q : ℕ) → makes_open (c.op q) ≡ true → 1 ≤ a2 q → piped c.who.share ≡ false)
    → ((o : ℕ) → s2.standing o ≡ true → deletes_on_close (s2.opened o).options ≡ false)
    → ((j n g : ℕ) (y : Received) → slice_get (conns j).down n ≡ Some y → y.token ≡ ForOp g → makes_open (c.op g) ≡ true
    → y.reply.status ≡ success → s2.standing (id_in y.reply.body) ≡ true → s.standing (id_in y.reply.body) ≡ true)
    → ((g : ℕ) → locking (c.op g) ≡ true → c.sent g ≡ true → is_unsettled (c.outcome g) ≡ true → c.live ≡ true
    → c.attached (create_at c g) ≡ c.session_number → s2.present c.session ≡ true → s.standing (open_at c g) ≡ true
    → s2.standing (open_at c g) ≡ false → a g ≡ 0) → ((j n g : ℕ) (y : Received) → slice_get (conns j).down n ≡ Some y
    → y.token ≡ ForAttach g → y.reply.status ≡ success → c.live ≡ true → s2.present c.session ≡ true
    → s.standing (open_at c g) ≡ true → s2.standing (open_at c g) ≡ false → c.attached (create_at c g)
    ≡ c.session_number) → Connections c conns a → Locks c conns s a → Locks c conns s2 a2
moves_keeps c conns s a s2 a2 same_a journal stay stay_now stands keeps_at slots opened stuck unmade plain keeps
    open_stands closed joined C i =
    record {
      slot_index = i.slot_index;
      user_body = i.user_body;
      in_use = i.in_use;
      full_free = i.full_free;
      attached_low = i.attached_low;
      shut_ok = i.shut_ok;
      shut_made = i.shut_made;
      shut_gone = i.shut_gone;
      close_before = i.close_before;
      close_after = i.close_after;
      unsent_gone = i.unsent_gone;
      unanswered = i.unanswered;
      ask_up = i.ask_up;
      ask_down = i.ask_down;
      users = moves_users c conns s a s2 a2 journal stay i.users;
      copy_now = moves_copy_now c conns s a s2 a2 journal stay i.copy_now;
      retried_on = moves_retried_on c conns s a s2 a2 journal stay i.retried_on;
      retried_done = moves_retried_done c conns s a s2 a2 journal stay i.retried_done;
      copy_attached = moves_copy_attached c conns s a s2 a2 journal stay stands keeps_at C.bodies C.creates C.has_open
          C.taken i.copy_attached;
      now_attached = moves_now_attached c conns s a s2 a2 journal stay_now stands keeps_at i.now_attached;
      opened_reply = moves_opened_reply c conns s a s2 a2 journal stay_now keeps_at open_stands i.opened_reply;
      join_reply = moves_join_reply c conns s a s2 a2 journal stay_now stands keeps_at C.creates i.join_reply i.ask_down;
      joined_reply = moves_joined_reply c conns s a s2 a2 journal stay_now joined i.joined_reply;
      lost_reply = moves_lost_reply c conns s a s2 a2 journal stands C.creates i.lost_reply i.ask_down;
      kept_says = moves_kept_says c conns s a s2 a2 same_a journal stands slots C.creates C.has_open C.taken i.kept_says i.user_body;
      not_kept = moves_not_kept c conns s a s2 a2 same_a journal stands slots C.creates C.has_open C.taken i.not_kept i.user_body;
      firm_kept = moves_firm_kept c conns s a s2 a2 journal stands slots C.creates C.has_open C.taken i.firm_kept i.user_body;
      no_user = moves_no_user c conns s a s2 a2 journal stands slots i.no_user;
      no_slots = moves_no_slots c conns s a s2 a2 journal unmade i.no_slots;
      full_dead = moves_full_dead c conns s a s2 a2 journal stay i.full_dead;
      ok_reply = moves_ok_reply c conns s a s2 a2 same_a journal i.ok_reply;
      no_reply = moves_no_reply c conns s a s2 a2 same_a journal i.no_reply;
      kept_reply = moves_kept_reply c conns s a s2 a2 journal stands slots C.creates C.has_open C.sent_replies C.taken i.kept_reply;
      first_reply = moves_first_reply c conns s a s2 a2 same_a journal i.first_reply;
      closed_not = moves_closed_not c conns s a s2 a2 same_a journal stay_now closed i.closed_not;
      kept_files = moves_kept_files c conns s a s2 a2 journal keeps i.kept_files;
      left_full = moves_left_full c conns s a s2 a2 journal stay stands opened C.bodies C.creates C.has_open C.taken i.left_full;
      left_stuck = moves_left_stuck c conns s a s2 a2 journal stay stands opened stuck C.bodies C.creates C.has_open C.taken i.left_stuck;
      left_idle = moves_left_idle c conns s a s2 a2 same_a journal stay stands opened C.bodies C.creates C.has_open C.taken i.left_idle;
      close_done = moves_close_done c conns s a s2 a2 journal stands opened C.creates C.has_open C.sent_replies C.taken i.close_done;
      close_full = moves_close_full c conns s a s2 a2 journal stands opened C.creates C.has_open C.sent_replies C.taken i.close_full;
      close_stuck = moves_close_stuck c conns s a s2 a2 journal stands opened stuck C.creates C.has_open C.sent_replies
          C.taken i.close_stuck;
      made_plain = moves_made_plain c conns s a s2 a2 journal plain i.made_plain;
      at_most = moves_at_most c conns s a s2 a2 same_a journal i.at_most;
      ok_acted = moves_ok_acted c conns s a s2 a2 same_a journal i.ok_acted;
      refused_not = moves_refused_not c conns s a s2 a2 same_a journal i.refused_not;
    }
