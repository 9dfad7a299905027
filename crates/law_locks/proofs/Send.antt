-- Written by tools/law_locks.py. An operation goes out itself.
use Rattle.std.proofs.Common.{◌≡◌, ℕ, true, false, arith, Some, None, slice_get}
use Rattle.spec_exchange.specs.Table.{put}
use Rattle.spec_exchange.specs.State.{Server, Message}
use Rattle.spec_exchange.specs.Operations.{is_unsettled, is_ok}
use Rattle.spec_exchange.specs.Client.{Client, outstanding as put_out}
use Rattle.spec_exchange.specs.Network.{Conn, Sent, ForOp, send_up}
use Rattle.law_sessions.specs.messages.Connections.{makes_open, create_at}
use Rattle.law_sessions.proofs.messages.Lists.{get-push}
use Rattle.law_locks.specs.Locks.{Locks, locking, InUse, Unanswered, AskUp, AskDown, Users, CopyNow, RetriedOn}
use Rattle.law_locks.specs.Locks.{RetriedDone, CopyAttached, NowAttached, OpenedReply, JoinReply, JoinedReply, LostReply}
use Rattle.law_locks.specs.Locks.{FullDead, OkReply, NoReply, KeptReply, FirstReply, LeftFull, LeftStuck, LeftIdle}
use Rattle.law_locks.specs.Locks.{CloseDone, CloseFull, CloseStuck}
use Rattle.law_locks.proofs.Words.{unsettled_firm}

send_unanswered : (c : Client) (conns : ℕ → Conn) (s : Server) (a : ℕ → ℕ) (k g n0 : ℕ) (m0 : Message)
    → (c.ready k ≡ true) → (c.outstanding_on g ≡ None) → (is_unsettled (c.outcome g) ≡ true) → (c.sent g ≡ true)
    → ((conns k).client_open ≡ true) → (m0.session_id ≡ c.session) → (c.live ≡ true) → Unanswered c conns
    → Unanswered (put_out c k g) (put conns k (send_up (conns k) (ForOp g) m0 n0))
send_unanswered c conns s a k g n0 m0 ready none pending sent stands mine live i_unanswered =
    λ j n p x. let old = i_unanswered j n p x in grind (arith, get-push)

send_ask_up : (c : Client) (conns : ℕ → Conn) (s : Server) (a : ℕ → ℕ) (k g n0 : ℕ) (m0 : Message) → (c.ready k ≡ true)
    → (c.outstanding_on g ≡ None) → (is_unsettled (c.outcome g) ≡ true) → (c.sent g ≡ true)
    → ((conns k).client_open ≡ true) → (m0.session_id ≡ c.session) → (c.live ≡ true) → AskUp c conns
    → AskUp (put_out c k g) (put conns k (send_up (conns k) (ForOp g) m0 n0))
send_ask_up c conns s a k g n0 m0 ready none pending sent stands mine live i_ask_up =
    λ j n p x. let old = i_ask_up j n p x in grind (arith, get-push)

send_ask_down : (c : Client) (conns : ℕ → Conn) (s : Server) (a : ℕ → ℕ) (k g n0 : ℕ) (m0 : Message)
    → (c.ready k ≡ true) → (c.outstanding_on g ≡ None) → (is_unsettled (c.outcome g) ≡ true) → (c.sent g ≡ true)
    → ((conns k).client_open ≡ true) → (m0.session_id ≡ c.session) → (c.live ≡ true) → AskDown c conns
    → AskDown (put_out c k g) (put conns k (send_up (conns k) (ForOp g) m0 n0))
send_ask_down c conns s a k g n0 m0 ready none pending sent stands mine live i_ask_down =
    λ j n p y. let old = i_ask_down j n p y in grind arith

send_users : (c : Client) (conns : ℕ → Conn) (s : Server) (a : ℕ → ℕ) (k g n0 : ℕ) (m0 : Message) → (c.ready k ≡ true)
    → (c.outstanding_on g ≡ None) → (is_unsettled (c.outcome g) ≡ true) → (c.sent g ≡ true)
    → ((conns k).client_open ≡ true) → (m0.session_id ≡ c.session) → (c.live ≡ true) → Users c conns s → InUse c
    → Users (put_out c k g) (put conns k (send_up (conns k) (ForOp g) m0 n0)) s
send_users c conns s a k g n0 m0 ready none pending sent stands mine live i_users i_in_use =
    λ j n p x. let old = i_users j n p x in let iu = i_in_use p in let uf = unsettled_firm (c.outcome p) in grind (arith, get-push)

send_copy_now : (c : Client) (conns : ℕ → Conn) (s : Server) (a : ℕ → ℕ) (k g n0 : ℕ) (m0 : Message)
    → (c.ready k ≡ true) → (c.outstanding_on g ≡ None) → (is_unsettled (c.outcome g) ≡ true) → (c.sent g ≡ true)
    → ((conns k).client_open ≡ true) → (m0.session_id ≡ c.session) → (c.live ≡ true)
    → (makes_open (c.op g) ≡ false → c.attached (create_at c g) ≡ c.session_number) → CopyNow c conns s
    → CopyNow (put_out c k g) (put conns k (send_up (conns k) (ForOp g) m0 n0)) s
send_copy_now c conns s a k g n0 m0 ready none pending sent stands mine live att i_copy_now =
    λ j n p x. let old = i_copy_now j n p x in let at1 = att in grind (arith, get-push)

send_retried_on : (c : Client) (conns : ℕ → Conn) (s : Server) (a : ℕ → ℕ) (k g n0 : ℕ) (m0 : Message)
    → (c.ready k ≡ true) → (c.outstanding_on g ≡ None) → (is_unsettled (c.outcome g) ≡ true) → (c.sent g ≡ true)
    → ((conns k).client_open ≡ true) → (m0.session_id ≡ c.session) → (c.live ≡ true)
    → ((j n : ℕ) (x : Sent) → slice_get (conns j).up n ≡ Some x → x.token ≡ ForOp g → locking (c.op g) ≡ true
    → c.retried (create_at c g) (c.slot_of g) ≡ c.session_number) → RetriedOn c conns s → RetriedOn (put_out c k g)
    (put conns k (send_up (conns k) (ForOp g) m0 n0)) s
send_retried_on c conns s a k g n0 m0 ready none pending sent stands mine live again i_retried_on =
    λ j n p x. let old = i_retried_on j n p x in let ag = again j n x in grind (arith, get-push)

send_retried_done : (c : Client) (conns : ℕ → Conn) (s : Server) (a : ℕ → ℕ) (k g n0 : ℕ) (m0 : Message)
    → (c.ready k ≡ true) → (c.outstanding_on g ≡ None) → (is_unsettled (c.outcome g) ≡ true) → (c.sent g ≡ true)
    → ((conns k).client_open ≡ true) → (m0.session_id ≡ c.session) → (c.live ≡ true) → RetriedDone c conns s
    → RetriedDone (put_out c k g) (put conns k (send_up (conns k) (ForOp g) m0 n0)) s
send_retried_done c conns s a k g n0 m0 ready none pending sent stands mine live i_retried_done =
    λ j n p x. let old = i_retried_done j n p x in grind (arith, get-push)

send_copy_attached : (c : Client) (conns : ℕ → Conn) (s : Server) (a : ℕ → ℕ) (k g n0 : ℕ) (m0 : Message)
    → (c.ready k ≡ true) → (c.outstanding_on g ≡ None) → (is_unsettled (c.outcome g) ≡ true) → (c.sent g ≡ true)
    → ((conns k).client_open ≡ true) → (m0.session_id ≡ c.session) → (c.live ≡ true)
    → (makes_open (c.op g) ≡ false → c.attached (create_at c g) ≡ c.session_number)
    → (makes_open (c.op g) ≡ false → is_ok (c.outcome (create_at c g)) ≡ true × makes_open (c.op (create_at c g))
    ≡ true) → CopyAttached c conns s → NowAttached c s → CopyAttached (put_out c k g)
    (put conns k (send_up (conns k) (ForOp g) m0 n0)) s
send_copy_attached c conns s a k g n0 m0 ready none pending sent stands mine live att ok i_copy_attached i_now_attached =
    λ j n p x. let old = i_copy_attached j n p x in let at1 = att in let ok1 = ok in let na =
    i_now_attached (create_at c g) in grind (arith, get-push)

send_opened_reply : (c : Client) (conns : ℕ → Conn) (s : Server) (a : ℕ → ℕ) (k g n0 : ℕ) (m0 : Message)
    → (c.ready k ≡ true) → (c.outstanding_on g ≡ None) → (is_unsettled (c.outcome g) ≡ true) → (c.sent g ≡ true)
    → ((conns k).client_open ≡ true) → (m0.session_id ≡ c.session) → (c.live ≡ true) → OpenedReply c conns s
    → OpenedReply (put_out c k g) (put conns k (send_up (conns k) (ForOp g) m0 n0)) s
send_opened_reply c conns s a k g n0 m0 ready none pending sent stands mine live i_opened_reply =
    λ j n p y. let old = i_opened_reply j n p y in grind arith

send_join_reply : (c : Client) (conns : ℕ → Conn) (s : Server) (a : ℕ → ℕ) (k g n0 : ℕ) (m0 : Message)
    → (c.ready k ≡ true) → (c.outstanding_on g ≡ None) → (is_unsettled (c.outcome g) ≡ true) → (c.sent g ≡ true)
    → ((conns k).client_open ≡ true) → (m0.session_id ≡ c.session) → (c.live ≡ true) → JoinReply c conns s
    → JoinReply (put_out c k g) (put conns k (send_up (conns k) (ForOp g) m0 n0)) s
send_join_reply c conns s a k g n0 m0 ready none pending sent stands mine live i_join_reply =
    λ j n p y. let old = i_join_reply j n p y in grind arith

send_joined_reply : (c : Client) (conns : ℕ → Conn) (s : Server) (a : ℕ → ℕ) (k g n0 : ℕ) (m0 : Message)
    → (c.ready k ≡ true) → (c.outstanding_on g ≡ None) → (is_unsettled (c.outcome g) ≡ true) → (c.sent g ≡ true)
    → ((conns k).client_open ≡ true) → (m0.session_id ≡ c.session) → (c.live ≡ true) → JoinedReply c conns s
    → JoinedReply (put_out c k g) (put conns k (send_up (conns k) (ForOp g) m0 n0)) s
send_joined_reply c conns s a k g n0 m0 ready none pending sent stands mine live i_joined_reply =
    λ j n p y. let old = i_joined_reply j n p y in grind arith

send_lost_reply : (c : Client) (conns : ℕ → Conn) (s : Server) (a : ℕ → ℕ) (k g n0 : ℕ) (m0 : Message)
    → (c.ready k ≡ true) → (c.outstanding_on g ≡ None) → (is_unsettled (c.outcome g) ≡ true) → (c.sent g ≡ true)
    → ((conns k).client_open ≡ true) → (m0.session_id ≡ c.session) → (c.live ≡ true) → LostReply c conns s
    → LostReply (put_out c k g) (put conns k (send_up (conns k) (ForOp g) m0 n0)) s
send_lost_reply c conns s a k g n0 m0 ready none pending sent stands mine live i_lost_reply =
    λ j n p y. let old = i_lost_reply j n p y in grind arith

send_full_dead : (c : Client) (conns : ℕ → Conn) (s : Server) (a : ℕ → ℕ) (k g n0 : ℕ) (m0 : Message)
    → (c.ready k ≡ true) → (c.outstanding_on g ≡ None) → (is_unsettled (c.outcome g) ≡ true) → (c.sent g ≡ true)
    → ((conns k).client_open ≡ true) → (m0.session_id ≡ c.session) → (c.live ≡ true) → FullDead c conns s
    → FullDead (put_out c k g) (put conns k (send_up (conns k) (ForOp g) m0 n0)) s
send_full_dead c conns s a k g n0 m0 ready none pending sent stands mine live i_full_dead =
    λ j n p x. let old = i_full_dead j n p x in let uf = unsettled_firm (c.outcome p) in grind (arith, get-push)

send_ok_reply : (c : Client) (conns : ℕ → Conn) (s : Server) (a : ℕ → ℕ) (k g n0 : ℕ) (m0 : Message)
    → (c.ready k ≡ true) → (c.outstanding_on g ≡ None) → (is_unsettled (c.outcome g) ≡ true) → (c.sent g ≡ true)
    → ((conns k).client_open ≡ true) → (m0.session_id ≡ c.session) → (c.live ≡ true) → OkReply c conns a
    → OkReply (put_out c k g) (put conns k (send_up (conns k) (ForOp g) m0 n0)) a
send_ok_reply c conns s a k g n0 m0 ready none pending sent stands mine live i_ok_reply =
    λ j n p y. let old = i_ok_reply j n p y in grind arith

send_no_reply : (c : Client) (conns : ℕ → Conn) (s : Server) (a : ℕ → ℕ) (k g n0 : ℕ) (m0 : Message)
    → (c.ready k ≡ true) → (c.outstanding_on g ≡ None) → (is_unsettled (c.outcome g) ≡ true) → (c.sent g ≡ true)
    → ((conns k).client_open ≡ true) → (m0.session_id ≡ c.session) → (c.live ≡ true) → NoReply c conns a
    → NoReply (put_out c k g) (put conns k (send_up (conns k) (ForOp g) m0 n0)) a
send_no_reply c conns s a k g n0 m0 ready none pending sent stands mine live i_no_reply =
    λ j n p y. let old = i_no_reply j n p y in grind arith

send_kept_reply : (c : Client) (conns : ℕ → Conn) (s : Server) (a : ℕ → ℕ) (k g n0 : ℕ) (m0 : Message)
    → (c.ready k ≡ true) → (c.outstanding_on g ≡ None) → (is_unsettled (c.outcome g) ≡ true) → (c.sent g ≡ true)
    → ((conns k).client_open ≡ true) → (m0.session_id ≡ c.session) → (c.live ≡ true) → KeptReply c conns s
    → KeptReply (put_out c k g) (put conns k (send_up (conns k) (ForOp g) m0 n0)) s
send_kept_reply c conns s a k g n0 m0 ready none pending sent stands mine live i_kept_reply =
    λ j n p y. let old = i_kept_reply j n p y in grind arith

send_first_reply : (c : Client) (conns : ℕ → Conn) (s : Server) (a : ℕ → ℕ) (k g n0 : ℕ) (m0 : Message)
    → (c.ready k ≡ true) → (c.outstanding_on g ≡ None) → (is_unsettled (c.outcome g) ≡ true) → (c.sent g ≡ true)
    → ((conns k).client_open ≡ true) → (m0.session_id ≡ c.session) → (c.live ≡ true) → FirstReply c conns a
    → FirstReply (put_out c k g) (put conns k (send_up (conns k) (ForOp g) m0 n0)) a
send_first_reply c conns s a k g n0 m0 ready none pending sent stands mine live i_first_reply =
    λ j n p y. let old = i_first_reply j n p y in grind arith

send_left_full : (c : Client) (conns : ℕ → Conn) (s : Server) (a : ℕ → ℕ) (k g n0 : ℕ) (m0 : Message)
    → (c.ready k ≡ true) → (c.outstanding_on g ≡ None) → (is_unsettled (c.outcome g) ≡ true) → (c.sent g ≡ true)
    → ((conns k).client_open ≡ true) → (m0.session_id ≡ c.session) → (c.live ≡ true) → LeftFull c conns s
    → LeftFull (put_out c k g) (put conns k (send_up (conns k) (ForOp g) m0 n0)) s
send_left_full c conns s a k g n0 m0 ready none pending sent stands mine live i_left_full =
    λ j n p x. let old = i_left_full j n p x in grind (arith, get-push)

send_left_stuck : (c : Client) (conns : ℕ → Conn) (s : Server) (a : ℕ → ℕ) (k g n0 : ℕ) (m0 : Message)
    → (c.ready k ≡ true) → (c.outstanding_on g ≡ None) → (is_unsettled (c.outcome g) ≡ true) → (c.sent g ≡ true)
    → ((conns k).client_open ≡ true) → (m0.session_id ≡ c.session) → (c.live ≡ true) → LeftStuck c conns s
    → LeftStuck (put_out c k g) (put conns k (send_up (conns k) (ForOp g) m0 n0)) s
send_left_stuck c conns s a k g n0 m0 ready none pending sent stands mine live i_left_stuck =
    λ j n p x. let old = i_left_stuck j n p x in grind (arith, get-push)

send_left_idle : (c : Client) (conns : ℕ → Conn) (s : Server) (a : ℕ → ℕ) (k g n0 : ℕ) (m0 : Message)
    → (c.ready k ≡ true) → (c.outstanding_on g ≡ None) → (is_unsettled (c.outcome g) ≡ true) → (c.sent g ≡ true)
    → ((conns k).client_open ≡ true) → (m0.session_id ≡ c.session) → (c.live ≡ true) → LeftIdle c conns s a
    → LeftIdle (put_out c k g) (put conns k (send_up (conns k) (ForOp g) m0 n0)) s a
send_left_idle c conns s a k g n0 m0 ready none pending sent stands mine live i_left_idle =
    λ j n p q x. let old = i_left_idle j n p q x in grind (arith, get-push)

send_close_done : (c : Client) (conns : ℕ → Conn) (s : Server) (a : ℕ → ℕ) (k g n0 : ℕ) (m0 : Message)
    → (c.ready k ≡ true) → (c.outstanding_on g ≡ None) → (is_unsettled (c.outcome g) ≡ true) → (c.sent g ≡ true)
    → ((conns k).client_open ≡ true) → (m0.session_id ≡ c.session) → (c.live ≡ true) → CloseDone c conns s
    → CloseDone (put_out c k g) (put conns k (send_up (conns k) (ForOp g) m0 n0)) s
send_close_done c conns s a k g n0 m0 ready none pending sent stands mine live i_close_done =
    λ j n p y. let old = i_close_done j n p y in grind arith

send_close_full : (c : Client) (conns : ℕ → Conn) (s : Server) (a : ℕ → ℕ) (k g n0 : ℕ) (m0 : Message)
    → (c.ready k ≡ true) → (c.outstanding_on g ≡ None) → (is_unsettled (c.outcome g) ≡ true) → (c.sent g ≡ true)
    → ((conns k).client_open ≡ true) → (m0.session_id ≡ c.session) → (c.live ≡ true) → CloseFull c conns s
    → CloseFull (put_out c k g) (put conns k (send_up (conns k) (ForOp g) m0 n0)) s
send_close_full c conns s a k g n0 m0 ready none pending sent stands mine live i_close_full =
    λ j n p y. let old = i_close_full j n p y in grind arith

send_close_stuck : (c : Client) (conns : ℕ → Conn) (s : Server) (a : ℕ → ℕ) (k g n0 : ℕ) (m0 : Message)
    → (c.ready k ≡ true) → (c.outstanding_on g ≡ None) → (is_unsettled (c.outcome g) ≡ true) → (c.sent g ≡ true)
    → ((conns k).client_open ≡ true) → (m0.session_id ≡ c.session) → (c.live ≡ true) → CloseStuck c conns s
    → CloseStuck (put_out c k g) (put conns k (send_up (conns k) (ForOp g) m0 n0)) s
send_close_stuck c conns s a k g n0 m0 ready none pending sent stands mine live i_close_stuck =
    λ j n p y. let old = i_close_stuck j n p y in grind arith

pub send_keeps : (c : Client) (conns : ℕ → Conn) (s : Server) (a : ℕ → ℕ) (k g n0 : ℕ) (m0 : Message)
    → (c.ready k ≡ true) → (c.outstanding_on g ≡ None) → (is_unsettled (c.outcome g) ≡ true) → (c.sent g ≡ true)
    → ((conns k).client_open ≡ true) → (m0.session_id ≡ c.session) → (c.live ≡ true)
    → (makes_open (c.op g) ≡ false → c.attached (create_at c g) ≡ c.session_number)
    → ((j n : ℕ) (x : Sent) → slice_get (conns j).up n ≡ Some x → x.token ≡ ForOp g → locking (c.op g) ≡ true
    → c.retried (create_at c g) (c.slot_of g) ≡ c.session_number)
    → (makes_open (c.op g) ≡ false → is_ok (c.outcome (create_at c g)) ≡ true × makes_open (c.op (create_at c g))
    ≡ true) → Locks c conns s a → Locks (put_out c k g) (put conns k (send_up (conns k) (ForOp g) m0 n0)) s a
send_keeps c conns s a k g n0 m0 ready none pending sent stands mine live att again ok i =
    record {
      slot_index = i.slot_index;
      user_body = i.user_body;
      in_use = i.in_use;
      full_free = i.full_free;
      attached_low = i.attached_low;
      shut_ok = i.shut_ok;
      shut_made = i.shut_made;
      shut_gone = i.shut_gone;
      close_before = i.close_before;
      close_after = i.close_after;
      unsent_gone = i.unsent_gone;
      unanswered = send_unanswered c conns s a k g n0 m0 ready none pending sent stands mine live i.unanswered;
      ask_up = send_ask_up c conns s a k g n0 m0 ready none pending sent stands mine live i.ask_up;
      ask_down = send_ask_down c conns s a k g n0 m0 ready none pending sent stands mine live i.ask_down;
      users = send_users c conns s a k g n0 m0 ready none pending sent stands mine live i.users i.in_use;
      copy_now = send_copy_now c conns s a k g n0 m0 ready none pending sent stands mine live att i.copy_now;
      retried_on = send_retried_on c conns s a k g n0 m0 ready none pending sent stands mine live again i.retried_on;
      retried_done = send_retried_done c conns s a k g n0 m0 ready none pending sent stands mine live i.retried_done;
      copy_attached = send_copy_attached c conns s a k g n0 m0 ready none pending sent stands mine live att ok
          i.copy_attached i.now_attached;
      now_attached = i.now_attached;
      opened_reply = send_opened_reply c conns s a k g n0 m0 ready none pending sent stands mine live i.opened_reply;
      join_reply = send_join_reply c conns s a k g n0 m0 ready none pending sent stands mine live i.join_reply;
      joined_reply = send_joined_reply c conns s a k g n0 m0 ready none pending sent stands mine live i.joined_reply;
      lost_reply = send_lost_reply c conns s a k g n0 m0 ready none pending sent stands mine live i.lost_reply;
      kept_says = i.kept_says;
      not_kept = i.not_kept;
      firm_kept = i.firm_kept;
      no_user = i.no_user;
      no_slots = i.no_slots;
      full_dead = send_full_dead c conns s a k g n0 m0 ready none pending sent stands mine live i.full_dead;
      ok_reply = send_ok_reply c conns s a k g n0 m0 ready none pending sent stands mine live i.ok_reply;
      no_reply = send_no_reply c conns s a k g n0 m0 ready none pending sent stands mine live i.no_reply;
      kept_reply = send_kept_reply c conns s a k g n0 m0 ready none pending sent stands mine live i.kept_reply;
      first_reply = send_first_reply c conns s a k g n0 m0 ready none pending sent stands mine live i.first_reply;
      closed_not = i.closed_not;
      kept_files = i.kept_files;
      left_full = send_left_full c conns s a k g n0 m0 ready none pending sent stands mine live i.left_full;
      left_stuck = send_left_stuck c conns s a k g n0 m0 ready none pending sent stands mine live i.left_stuck;
      left_idle = send_left_idle c conns s a k g n0 m0 ready none pending sent stands mine live i.left_idle;
      close_done = send_close_done c conns s a k g n0 m0 ready none pending sent stands mine live i.close_done;
      close_full = send_close_full c conns s a k g n0 m0 ready none pending sent stands mine live i.close_full;
      close_stuck = send_close_stuck c conns s a k g n0 m0 ready none pending sent stands mine live i.close_stuck;
      made_plain = i.made_plain;
      at_most = i.at_most;
      ok_acted = i.ok_acted;
      refused_not = i.refused_not;
    }
