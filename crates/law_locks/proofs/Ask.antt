-- Written by tools/law_locks.py. A DH2C goes out in an operation's place.
use Rattle.std.proofs.Common.{◌≡◌, ◌≢◌, ℕ, ◌≤◌, ◌<◌, true, false, arith, None}
use Rattle.spec_exchange.specs.Table.{put}
use Rattle.spec_exchange.specs.State.{Server, Message}
use Rattle.spec_exchange.specs.Operations.{is_ok, reconnect_of}
use Rattle.spec_exchange.specs.Client.{Client, guid_for, asked}
use Rattle.spec_exchange.specs.Network.{Conn, ForAttach, send_up}
use Rattle.law_sessions.specs.messages.Connections.{makes_open, create_at}
use Rattle.law_sessions.proofs.messages.Lists.{get-push}
use Rattle.law_locks.specs.Locks.{Locks, open_at, Unanswered, AskUp, AskDown, Users, CopyNow, RetriedOn, RetriedDone}
use Rattle.law_locks.specs.Locks.{CopyAttached, OpenedReply, JoinReply, JoinedReply, LostReply, FullDead, OkReply}
use Rattle.law_locks.specs.Locks.{NoReply, KeptReply, FirstReply, LeftFull, LeftStuck, LeftIdle, CloseDone, CloseFull}
use Rattle.law_locks.specs.Locks.{CloseStuck}
use Rattle.law_locks.proofs.Words.{lock_kind}

ask_unanswered : (c : Client) (conns : ℕ → Conn) (s : Server) (a : ℕ → ℕ) (k g n0 : ℕ) (m0 : Message)
    → (c.ready k ≡ true) → (c.outstanding_on g ≡ None) → (0 < g) → (g ≤ c.taken) → (makes_open (c.op g) ≡ false)
    → (is_ok (c.outcome (create_at c g)) ≡ true) → (m0.session_id ≡ c.session) → (c.live ≡ true)
    → (m0.command ≡ reconnect_of (c.op (create_at c g)) (guid_for c (create_at c g)) (open_at c g))
    → (c.attached (create_at c g) ≢ c.session_number) → ((conns k).client_open ≡ true) → Unanswered c conns
    → Unanswered (asked c k g) (put conns k (send_up (conns k) (ForAttach g) m0 n0))
ask_unanswered c conns s a k g n0 m0 ready none above within kind ok mine live body loose stands i_unanswered =
    λ j n p x. let old = i_unanswered j n p x in grind (arith, get-push)

ask_ask_up : (c : Client) (conns : ℕ → Conn) (s : Server) (a : ℕ → ℕ) (k g n0 : ℕ) (m0 : Message) → (c.ready k ≡ true)
    → (c.outstanding_on g ≡ None) → (0 < g) → (g ≤ c.taken) → (makes_open (c.op g) ≡ false)
    → (is_ok (c.outcome (create_at c g)) ≡ true) → (m0.session_id ≡ c.session) → (c.live ≡ true)
    → (m0.command ≡ reconnect_of (c.op (create_at c g)) (guid_for c (create_at c g)) (open_at c g))
    → (c.attached (create_at c g) ≢ c.session_number) → ((conns k).client_open ≡ true) → AskUp c conns
    → AskUp (asked c k g) (put conns k (send_up (conns k) (ForAttach g) m0 n0))
ask_ask_up c conns s a k g n0 m0 ready none above within kind ok mine live body loose stands i_ask_up =
    λ j n p x. let old = i_ask_up j n p x in grind (arith, get-push)

ask_ask_down : (c : Client) (conns : ℕ → Conn) (s : Server) (a : ℕ → ℕ) (k g n0 : ℕ) (m0 : Message) → (c.ready k ≡ true)
    → (c.outstanding_on g ≡ None) → (0 < g) → (g ≤ c.taken) → (makes_open (c.op g) ≡ false)
    → (is_ok (c.outcome (create_at c g)) ≡ true) → (m0.session_id ≡ c.session) → (c.live ≡ true)
    → (m0.command ≡ reconnect_of (c.op (create_at c g)) (guid_for c (create_at c g)) (open_at c g))
    → (c.attached (create_at c g) ≢ c.session_number) → ((conns k).client_open ≡ true) → AskDown c conns
    → AskDown (asked c k g) (put conns k (send_up (conns k) (ForAttach g) m0 n0))
ask_ask_down c conns s a k g n0 m0 ready none above within kind ok mine live body loose stands i_ask_down =
    λ j n p y. let old = i_ask_down j n p y in grind arith

ask_users : (c : Client) (conns : ℕ → Conn) (s : Server) (a : ℕ → ℕ) (k g n0 : ℕ) (m0 : Message) → (c.ready k ≡ true)
    → (c.outstanding_on g ≡ None) → (0 < g) → (g ≤ c.taken) → (makes_open (c.op g) ≡ false)
    → (is_ok (c.outcome (create_at c g)) ≡ true) → (m0.session_id ≡ c.session) → (c.live ≡ true)
    → (m0.command ≡ reconnect_of (c.op (create_at c g)) (guid_for c (create_at c g)) (open_at c g))
    → (c.attached (create_at c g) ≢ c.session_number) → ((conns k).client_open ≡ true) → Users c conns s
    → Users (asked c k g) (put conns k (send_up (conns k) (ForAttach g) m0 n0)) s
ask_users c conns s a k g n0 m0 ready none above within kind ok mine live body loose stands i_users =
    λ j n p x. let old = i_users j n p x in grind (arith, get-push)

ask_copy_now : (c : Client) (conns : ℕ → Conn) (s : Server) (a : ℕ → ℕ) (k g n0 : ℕ) (m0 : Message) → (c.ready k ≡ true)
    → (c.outstanding_on g ≡ None) → (0 < g) → (g ≤ c.taken) → (makes_open (c.op g) ≡ false)
    → (is_ok (c.outcome (create_at c g)) ≡ true) → (m0.session_id ≡ c.session) → (c.live ≡ true)
    → (m0.command ≡ reconnect_of (c.op (create_at c g)) (guid_for c (create_at c g)) (open_at c g))
    → (c.attached (create_at c g) ≢ c.session_number) → ((conns k).client_open ≡ true) → CopyNow c conns s
    → CopyNow (asked c k g) (put conns k (send_up (conns k) (ForAttach g) m0 n0)) s
ask_copy_now c conns s a k g n0 m0 ready none above within kind ok mine live body loose stands i_copy_now =
    λ j n p x. let old = i_copy_now j n p x in grind (arith, get-push)

ask_retried_on : (c : Client) (conns : ℕ → Conn) (s : Server) (a : ℕ → ℕ) (k g n0 : ℕ) (m0 : Message)
    → (c.ready k ≡ true) → (c.outstanding_on g ≡ None) → (0 < g) → (g ≤ c.taken) → (makes_open (c.op g) ≡ false)
    → (is_ok (c.outcome (create_at c g)) ≡ true) → (m0.session_id ≡ c.session) → (c.live ≡ true)
    → (m0.command ≡ reconnect_of (c.op (create_at c g)) (guid_for c (create_at c g)) (open_at c g))
    → (c.attached (create_at c g) ≢ c.session_number) → ((conns k).client_open ≡ true) → RetriedOn c conns s
    → CopyNow c conns s → RetriedOn (asked c k g) (put conns k (send_up (conns k) (ForAttach g) m0 n0)) s
ask_retried_on c conns s a k g n0 m0 ready none above within kind ok mine live body loose stands i_retried_on i_copy_now =
    λ j n p x. let old = i_retried_on j n p x in let cn = i_copy_now j n p x in let lk = lock_kind (c.op p) in grind (arith, get-push)

ask_retried_done : (c : Client) (conns : ℕ → Conn) (s : Server) (a : ℕ → ℕ) (k g n0 : ℕ) (m0 : Message)
    → (c.ready k ≡ true) → (c.outstanding_on g ≡ None) → (0 < g) → (g ≤ c.taken) → (makes_open (c.op g) ≡ false)
    → (is_ok (c.outcome (create_at c g)) ≡ true) → (m0.session_id ≡ c.session) → (c.live ≡ true)
    → (m0.command ≡ reconnect_of (c.op (create_at c g)) (guid_for c (create_at c g)) (open_at c g))
    → (c.attached (create_at c g) ≢ c.session_number) → ((conns k).client_open ≡ true) → RetriedDone c conns s
    → RetriedDone (asked c k g) (put conns k (send_up (conns k) (ForAttach g) m0 n0)) s
ask_retried_done c conns s a k g n0 m0 ready none above within kind ok mine live body loose stands i_retried_done =
    λ j n p x. let old = i_retried_done j n p x in grind (arith, get-push)

ask_copy_attached : (c : Client) (conns : ℕ → Conn) (s : Server) (a : ℕ → ℕ) (k g n0 : ℕ) (m0 : Message)
    → (c.ready k ≡ true) → (c.outstanding_on g ≡ None) → (0 < g) → (g ≤ c.taken) → (makes_open (c.op g) ≡ false)
    → (is_ok (c.outcome (create_at c g)) ≡ true) → (m0.session_id ≡ c.session) → (c.live ≡ true)
    → (m0.command ≡ reconnect_of (c.op (create_at c g)) (guid_for c (create_at c g)) (open_at c g))
    → (c.attached (create_at c g) ≢ c.session_number) → ((conns k).client_open ≡ true) → CopyAttached c conns s
    → CopyAttached (asked c k g) (put conns k (send_up (conns k) (ForAttach g) m0 n0)) s
ask_copy_attached c conns s a k g n0 m0 ready none above within kind ok mine live body loose stands i_copy_attached =
    λ j n p x. let old = i_copy_attached j n p x in grind (arith, get-push)

ask_opened_reply : (c : Client) (conns : ℕ → Conn) (s : Server) (a : ℕ → ℕ) (k g n0 : ℕ) (m0 : Message)
    → (c.ready k ≡ true) → (c.outstanding_on g ≡ None) → (0 < g) → (g ≤ c.taken) → (makes_open (c.op g) ≡ false)
    → (is_ok (c.outcome (create_at c g)) ≡ true) → (m0.session_id ≡ c.session) → (c.live ≡ true)
    → (m0.command ≡ reconnect_of (c.op (create_at c g)) (guid_for c (create_at c g)) (open_at c g))
    → (c.attached (create_at c g) ≢ c.session_number) → ((conns k).client_open ≡ true) → OpenedReply c conns s
    → OpenedReply (asked c k g) (put conns k (send_up (conns k) (ForAttach g) m0 n0)) s
ask_opened_reply c conns s a k g n0 m0 ready none above within kind ok mine live body loose stands i_opened_reply =
    λ j n p y. let old = i_opened_reply j n p y in grind arith

ask_join_reply : (c : Client) (conns : ℕ → Conn) (s : Server) (a : ℕ → ℕ) (k g n0 : ℕ) (m0 : Message)
    → (c.ready k ≡ true) → (c.outstanding_on g ≡ None) → (0 < g) → (g ≤ c.taken) → (makes_open (c.op g) ≡ false)
    → (is_ok (c.outcome (create_at c g)) ≡ true) → (m0.session_id ≡ c.session) → (c.live ≡ true)
    → (m0.command ≡ reconnect_of (c.op (create_at c g)) (guid_for c (create_at c g)) (open_at c g))
    → (c.attached (create_at c g) ≢ c.session_number) → ((conns k).client_open ≡ true) → JoinReply c conns s
    → JoinReply (asked c k g) (put conns k (send_up (conns k) (ForAttach g) m0 n0)) s
ask_join_reply c conns s a k g n0 m0 ready none above within kind ok mine live body loose stands i_join_reply =
    λ j n p y. let old = i_join_reply j n p y in grind arith

ask_joined_reply : (c : Client) (conns : ℕ → Conn) (s : Server) (a : ℕ → ℕ) (k g n0 : ℕ) (m0 : Message)
    → (c.ready k ≡ true) → (c.outstanding_on g ≡ None) → (0 < g) → (g ≤ c.taken) → (makes_open (c.op g) ≡ false)
    → (is_ok (c.outcome (create_at c g)) ≡ true) → (m0.session_id ≡ c.session) → (c.live ≡ true)
    → (m0.command ≡ reconnect_of (c.op (create_at c g)) (guid_for c (create_at c g)) (open_at c g))
    → (c.attached (create_at c g) ≢ c.session_number) → ((conns k).client_open ≡ true) → JoinedReply c conns s
    → JoinedReply (asked c k g) (put conns k (send_up (conns k) (ForAttach g) m0 n0)) s
ask_joined_reply c conns s a k g n0 m0 ready none above within kind ok mine live body loose stands i_joined_reply =
    λ j n p y. let old = i_joined_reply j n p y in grind arith

ask_lost_reply : (c : Client) (conns : ℕ → Conn) (s : Server) (a : ℕ → ℕ) (k g n0 : ℕ) (m0 : Message)
    → (c.ready k ≡ true) → (c.outstanding_on g ≡ None) → (0 < g) → (g ≤ c.taken) → (makes_open (c.op g) ≡ false)
    → (is_ok (c.outcome (create_at c g)) ≡ true) → (m0.session_id ≡ c.session) → (c.live ≡ true)
    → (m0.command ≡ reconnect_of (c.op (create_at c g)) (guid_for c (create_at c g)) (open_at c g))
    → (c.attached (create_at c g) ≢ c.session_number) → ((conns k).client_open ≡ true) → LostReply c conns s
    → LostReply (asked c k g) (put conns k (send_up (conns k) (ForAttach g) m0 n0)) s
ask_lost_reply c conns s a k g n0 m0 ready none above within kind ok mine live body loose stands i_lost_reply =
    λ j n p y. let old = i_lost_reply j n p y in grind arith

ask_full_dead : (c : Client) (conns : ℕ → Conn) (s : Server) (a : ℕ → ℕ) (k g n0 : ℕ) (m0 : Message)
    → (c.ready k ≡ true) → (c.outstanding_on g ≡ None) → (0 < g) → (g ≤ c.taken) → (makes_open (c.op g) ≡ false)
    → (is_ok (c.outcome (create_at c g)) ≡ true) → (m0.session_id ≡ c.session) → (c.live ≡ true)
    → (m0.command ≡ reconnect_of (c.op (create_at c g)) (guid_for c (create_at c g)) (open_at c g))
    → (c.attached (create_at c g) ≢ c.session_number) → ((conns k).client_open ≡ true) → FullDead c conns s
    → FullDead (asked c k g) (put conns k (send_up (conns k) (ForAttach g) m0 n0)) s
ask_full_dead c conns s a k g n0 m0 ready none above within kind ok mine live body loose stands i_full_dead =
    λ j n p x. let old = i_full_dead j n p x in grind (arith, get-push)

ask_ok_reply : (c : Client) (conns : ℕ → Conn) (s : Server) (a : ℕ → ℕ) (k g n0 : ℕ) (m0 : Message) → (c.ready k ≡ true)
    → (c.outstanding_on g ≡ None) → (0 < g) → (g ≤ c.taken) → (makes_open (c.op g) ≡ false)
    → (is_ok (c.outcome (create_at c g)) ≡ true) → (m0.session_id ≡ c.session) → (c.live ≡ true)
    → (m0.command ≡ reconnect_of (c.op (create_at c g)) (guid_for c (create_at c g)) (open_at c g))
    → (c.attached (create_at c g) ≢ c.session_number) → ((conns k).client_open ≡ true) → OkReply c conns a
    → OkReply (asked c k g) (put conns k (send_up (conns k) (ForAttach g) m0 n0)) a
ask_ok_reply c conns s a k g n0 m0 ready none above within kind ok mine live body loose stands i_ok_reply =
    λ j n p y. let old = i_ok_reply j n p y in grind arith

ask_no_reply : (c : Client) (conns : ℕ → Conn) (s : Server) (a : ℕ → ℕ) (k g n0 : ℕ) (m0 : Message) → (c.ready k ≡ true)
    → (c.outstanding_on g ≡ None) → (0 < g) → (g ≤ c.taken) → (makes_open (c.op g) ≡ false)
    → (is_ok (c.outcome (create_at c g)) ≡ true) → (m0.session_id ≡ c.session) → (c.live ≡ true)
    → (m0.command ≡ reconnect_of (c.op (create_at c g)) (guid_for c (create_at c g)) (open_at c g))
    → (c.attached (create_at c g) ≢ c.session_number) → ((conns k).client_open ≡ true) → NoReply c conns a
    → NoReply (asked c k g) (put conns k (send_up (conns k) (ForAttach g) m0 n0)) a
ask_no_reply c conns s a k g n0 m0 ready none above within kind ok mine live body loose stands i_no_reply =
    λ j n p y. let old = i_no_reply j n p y in grind arith

ask_kept_reply : (c : Client) (conns : ℕ → Conn) (s : Server) (a : ℕ → ℕ) (k g n0 : ℕ) (m0 : Message)
    → (c.ready k ≡ true) → (c.outstanding_on g ≡ None) → (0 < g) → (g ≤ c.taken) → (makes_open (c.op g) ≡ false)
    → (is_ok (c.outcome (create_at c g)) ≡ true) → (m0.session_id ≡ c.session) → (c.live ≡ true)
    → (m0.command ≡ reconnect_of (c.op (create_at c g)) (guid_for c (create_at c g)) (open_at c g))
    → (c.attached (create_at c g) ≢ c.session_number) → ((conns k).client_open ≡ true) → KeptReply c conns s
    → KeptReply (asked c k g) (put conns k (send_up (conns k) (ForAttach g) m0 n0)) s
ask_kept_reply c conns s a k g n0 m0 ready none above within kind ok mine live body loose stands i_kept_reply =
    λ j n p y. let old = i_kept_reply j n p y in grind arith

ask_first_reply : (c : Client) (conns : ℕ → Conn) (s : Server) (a : ℕ → ℕ) (k g n0 : ℕ) (m0 : Message)
    → (c.ready k ≡ true) → (c.outstanding_on g ≡ None) → (0 < g) → (g ≤ c.taken) → (makes_open (c.op g) ≡ false)
    → (is_ok (c.outcome (create_at c g)) ≡ true) → (m0.session_id ≡ c.session) → (c.live ≡ true)
    → (m0.command ≡ reconnect_of (c.op (create_at c g)) (guid_for c (create_at c g)) (open_at c g))
    → (c.attached (create_at c g) ≢ c.session_number) → ((conns k).client_open ≡ true) → FirstReply c conns a
    → FirstReply (asked c k g) (put conns k (send_up (conns k) (ForAttach g) m0 n0)) a
ask_first_reply c conns s a k g n0 m0 ready none above within kind ok mine live body loose stands i_first_reply =
    λ j n p y. let old = i_first_reply j n p y in grind arith

ask_left_full : (c : Client) (conns : ℕ → Conn) (s : Server) (a : ℕ → ℕ) (k g n0 : ℕ) (m0 : Message)
    → (c.ready k ≡ true) → (c.outstanding_on g ≡ None) → (0 < g) → (g ≤ c.taken) → (makes_open (c.op g) ≡ false)
    → (is_ok (c.outcome (create_at c g)) ≡ true) → (m0.session_id ≡ c.session) → (c.live ≡ true)
    → (m0.command ≡ reconnect_of (c.op (create_at c g)) (guid_for c (create_at c g)) (open_at c g))
    → (c.attached (create_at c g) ≢ c.session_number) → ((conns k).client_open ≡ true) → LeftFull c conns s
    → LeftFull (asked c k g) (put conns k (send_up (conns k) (ForAttach g) m0 n0)) s
ask_left_full c conns s a k g n0 m0 ready none above within kind ok mine live body loose stands i_left_full =
    λ j n p x. let old = i_left_full j n p x in grind (arith, get-push)

ask_left_stuck : (c : Client) (conns : ℕ → Conn) (s : Server) (a : ℕ → ℕ) (k g n0 : ℕ) (m0 : Message)
    → (c.ready k ≡ true) → (c.outstanding_on g ≡ None) → (0 < g) → (g ≤ c.taken) → (makes_open (c.op g) ≡ false)
    → (is_ok (c.outcome (create_at c g)) ≡ true) → (m0.session_id ≡ c.session) → (c.live ≡ true)
    → (m0.command ≡ reconnect_of (c.op (create_at c g)) (guid_for c (create_at c g)) (open_at c g))
    → (c.attached (create_at c g) ≢ c.session_number) → ((conns k).client_open ≡ true) → LeftStuck c conns s
    → LeftStuck (asked c k g) (put conns k (send_up (conns k) (ForAttach g) m0 n0)) s
ask_left_stuck c conns s a k g n0 m0 ready none above within kind ok mine live body loose stands i_left_stuck =
    λ j n p x. let old = i_left_stuck j n p x in grind (arith, get-push)

ask_left_idle : (c : Client) (conns : ℕ → Conn) (s : Server) (a : ℕ → ℕ) (k g n0 : ℕ) (m0 : Message)
    → (c.ready k ≡ true) → (c.outstanding_on g ≡ None) → (0 < g) → (g ≤ c.taken) → (makes_open (c.op g) ≡ false)
    → (is_ok (c.outcome (create_at c g)) ≡ true) → (m0.session_id ≡ c.session) → (c.live ≡ true)
    → (m0.command ≡ reconnect_of (c.op (create_at c g)) (guid_for c (create_at c g)) (open_at c g))
    → (c.attached (create_at c g) ≢ c.session_number) → ((conns k).client_open ≡ true) → LeftIdle c conns s a
    → LeftIdle (asked c k g) (put conns k (send_up (conns k) (ForAttach g) m0 n0)) s a
ask_left_idle c conns s a k g n0 m0 ready none above within kind ok mine live body loose stands i_left_idle =
    λ j n p q x. let old = i_left_idle j n p q x in grind (arith, get-push)

ask_close_done : (c : Client) (conns : ℕ → Conn) (s : Server) (a : ℕ → ℕ) (k g n0 : ℕ) (m0 : Message)
    → (c.ready k ≡ true) → (c.outstanding_on g ≡ None) → (0 < g) → (g ≤ c.taken) → (makes_open (c.op g) ≡ false)
    → (is_ok (c.outcome (create_at c g)) ≡ true) → (m0.session_id ≡ c.session) → (c.live ≡ true)
    → (m0.command ≡ reconnect_of (c.op (create_at c g)) (guid_for c (create_at c g)) (open_at c g))
    → (c.attached (create_at c g) ≢ c.session_number) → ((conns k).client_open ≡ true) → CloseDone c conns s
    → CloseDone (asked c k g) (put conns k (send_up (conns k) (ForAttach g) m0 n0)) s
ask_close_done c conns s a k g n0 m0 ready none above within kind ok mine live body loose stands i_close_done =
    λ j n p y. let old = i_close_done j n p y in grind arith

ask_close_full : (c : Client) (conns : ℕ → Conn) (s : Server) (a : ℕ → ℕ) (k g n0 : ℕ) (m0 : Message)
    → (c.ready k ≡ true) → (c.outstanding_on g ≡ None) → (0 < g) → (g ≤ c.taken) → (makes_open (c.op g) ≡ false)
    → (is_ok (c.outcome (create_at c g)) ≡ true) → (m0.session_id ≡ c.session) → (c.live ≡ true)
    → (m0.command ≡ reconnect_of (c.op (create_at c g)) (guid_for c (create_at c g)) (open_at c g))
    → (c.attached (create_at c g) ≢ c.session_number) → ((conns k).client_open ≡ true) → CloseFull c conns s
    → CloseFull (asked c k g) (put conns k (send_up (conns k) (ForAttach g) m0 n0)) s
ask_close_full c conns s a k g n0 m0 ready none above within kind ok mine live body loose stands i_close_full =
    λ j n p y. let old = i_close_full j n p y in grind arith

ask_close_stuck : (c : Client) (conns : ℕ → Conn) (s : Server) (a : ℕ → ℕ) (k g n0 : ℕ) (m0 : Message)
    → (c.ready k ≡ true) → (c.outstanding_on g ≡ None) → (0 < g) → (g ≤ c.taken) → (makes_open (c.op g) ≡ false)
    → (is_ok (c.outcome (create_at c g)) ≡ true) → (m0.session_id ≡ c.session) → (c.live ≡ true)
    → (m0.command ≡ reconnect_of (c.op (create_at c g)) (guid_for c (create_at c g)) (open_at c g))
    → (c.attached (create_at c g) ≢ c.session_number) → ((conns k).client_open ≡ true) → CloseStuck c conns s
    → CloseStuck (asked c k g) (put conns k (send_up (conns k) (ForAttach g) m0 n0)) s
ask_close_stuck c conns s a k g n0 m0 ready none above within kind ok mine live body loose stands i_close_stuck =
    λ j n p y. let old = i_close_stuck j n p y in grind arith

pub ask_keeps : (c : Client) (conns : ℕ → Conn) (s : Server) (a : ℕ → ℕ) (k g n0 : ℕ) (m0 : Message)
    → (c.ready k ≡ true) → (c.outstanding_on g ≡ None) → (0 < g) → (g ≤ c.taken) → (makes_open (c.op g) ≡ false)
    → (is_ok (c.outcome (create_at c g)) ≡ true) → (m0.session_id ≡ c.session) → (c.live ≡ true)
    → (m0.command ≡ reconnect_of (c.op (create_at c g)) (guid_for c (create_at c g)) (open_at c g))
    → (c.attached (create_at c g) ≢ c.session_number) → ((conns k).client_open ≡ true) → Locks c conns s a
    → Locks (asked c k g) (put conns k (send_up (conns k) (ForAttach g) m0 n0)) s a
ask_keeps c conns s a k g n0 m0 ready none above within kind ok mine live body loose stands i =
    record {
      slot_index = i.slot_index;
      user_body = i.user_body;
      in_use = i.in_use;
      full_free = i.full_free;
      attached_low = i.attached_low;
      shut_ok = i.shut_ok;
      shut_made = i.shut_made;
      shut_gone = i.shut_gone;
      close_before = i.close_before;
      close_after = i.close_after;
      unsent_gone = i.unsent_gone;
      unanswered = ask_unanswered c conns s a k g n0 m0 ready none above within kind ok mine live body loose stands i.unanswered;
      ask_up = ask_ask_up c conns s a k g n0 m0 ready none above within kind ok mine live body loose stands i.ask_up;
      ask_down = ask_ask_down c conns s a k g n0 m0 ready none above within kind ok mine live body loose stands i.ask_down;
      users = ask_users c conns s a k g n0 m0 ready none above within kind ok mine live body loose stands i.users;
      copy_now = ask_copy_now c conns s a k g n0 m0 ready none above within kind ok mine live body loose stands i.copy_now;
      retried_on = ask_retried_on c conns s a k g n0 m0 ready none above within kind ok mine live body loose stands i.retried_on i.copy_now;
      retried_done = ask_retried_done c conns s a k g n0 m0 ready none above within kind ok mine live body loose stands i.retried_done;
      copy_attached = ask_copy_attached c conns s a k g n0 m0 ready none above within kind ok mine live body loose stands i.copy_attached;
      now_attached = i.now_attached;
      opened_reply = ask_opened_reply c conns s a k g n0 m0 ready none above within kind ok mine live body loose stands i.opened_reply;
      join_reply = ask_join_reply c conns s a k g n0 m0 ready none above within kind ok mine live body loose stands i.join_reply;
      joined_reply = ask_joined_reply c conns s a k g n0 m0 ready none above within kind ok mine live body loose stands i.joined_reply;
      lost_reply = ask_lost_reply c conns s a k g n0 m0 ready none above within kind ok mine live body loose stands i.lost_reply;
      kept_says = i.kept_says;
      not_kept = i.not_kept;
      firm_kept = i.firm_kept;
      no_user = i.no_user;
      no_slots = i.no_slots;
      full_dead = ask_full_dead c conns s a k g n0 m0 ready none above within kind ok mine live body loose stands i.full_dead;
      ok_reply = ask_ok_reply c conns s a k g n0 m0 ready none above within kind ok mine live body loose stands i.ok_reply;
      no_reply = ask_no_reply c conns s a k g n0 m0 ready none above within kind ok mine live body loose stands i.no_reply;
      kept_reply = ask_kept_reply c conns s a k g n0 m0 ready none above within kind ok mine live body loose stands i.kept_reply;
      first_reply = ask_first_reply c conns s a k g n0 m0 ready none above within kind ok mine live body loose stands i.first_reply;
      closed_not = i.closed_not;
      kept_files = i.kept_files;
      left_full = ask_left_full c conns s a k g n0 m0 ready none above within kind ok mine live body loose stands i.left_full;
      left_stuck = ask_left_stuck c conns s a k g n0 m0 ready none above within kind ok mine live body loose stands i.left_stuck;
      left_idle = ask_left_idle c conns s a k g n0 m0 ready none above within kind ok mine live body loose stands i.left_idle;
      close_done = ask_close_done c conns s a k g n0 m0 ready none above within kind ok mine live body loose stands i.close_done;
      close_full = ask_close_full c conns s a k g n0 m0 ready none above within kind ok mine live body loose stands i.close_full;
      close_stuck = ask_close_stuck c conns s a k g n0 m0 ready none above within kind ok mine live body loose stands i.close_stuck;
      made_plain = i.made_plain;
      at_most = i.at_most;
      ok_acted = i.ok_acted;
      refused_not = i.refused_not;
    }
