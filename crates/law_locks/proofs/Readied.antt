-- Written by tools/law_locks.py. A session is ready.
use Rattle.std.proofs.Common.{◌≡◌, ℕ, true, false, arith, Some, slice_get}
use Rattle.spec_exchange.specs.State.{Server}
use Rattle.spec_exchange.specs.Client.{Client, begin_session}
use Rattle.spec_exchange.specs.Network.{Conn, Sent, Received}
use Rattle.law_sessions.specs.messages.Connections.{create_at}
use Rattle.law_sessions.specs.sessions.Sessions.{is_ops}
use Rattle.law_locks.specs.Locks.{Locks, AttachedLow, CopyNow, RetriedOn, RetriedDone, NowAttached, OpenedReply}
use Rattle.law_locks.specs.Locks.{JoinReply, JoinedReply, ClosedNot, LeftFull, LeftStuck, LeftIdle}
use Rattle.law_locks.proofs.Words.{own_ops, own_reply_ops, ask_reply_ops}

readied_attached_low : (c : Client) (conns : ℕ → Conn) (s : Server) (a : ℕ → ℕ) (k session tree : ℕ) → AttachedLow c
    → AttachedLow (begin_session c k session tree)
readied_attached_low c conns s a k session tree i_attached_low =
    λ q. let old = i_attached_low q in grind arith

readied_copy_now : (c : Client) (conns : ℕ → Conn) (s : Server) (a : ℕ → ℕ) (k session tree : ℕ)
    → ((j n : ℕ) (x : Sent) → slice_get (conns j).up n ≡ Some x → is_ops x.token ≡ true → s.present x.message.session_id
    ≡ false) → CopyNow c conns s → CopyNow (begin_session c k session tree) conns s
readied_copy_now c conns s a k session tree gone i_copy_now =
    λ j n p x h t. let v = gone j n x h (own_ops x p t) in grind arith

readied_retried_on : (c : Client) (conns : ℕ → Conn) (s : Server) (a : ℕ → ℕ) (k session tree : ℕ)
    → ((j n : ℕ) (x : Sent) → slice_get (conns j).up n ≡ Some x → is_ops x.token ≡ true → s.present x.message.session_id
    ≡ false) → RetriedOn c conns s → RetriedOn (begin_session c k session tree) conns s
readied_retried_on c conns s a k session tree gone i_retried_on =
    λ j n p x h t. let v = gone j n x h (own_ops x p t) in grind arith

readied_retried_done : (c : Client) (conns : ℕ → Conn) (s : Server) (a : ℕ → ℕ) (k session tree : ℕ)
    → ((j n : ℕ) (x : Sent) → slice_get (conns j).up n ≡ Some x → is_ops x.token ≡ true → s.present x.message.session_id
    ≡ false) → RetriedDone c conns s → RetriedDone (begin_session c k session tree) conns s
readied_retried_done c conns s a k session tree gone i_retried_done =
    λ j n p x h t. let v = gone j n x h (own_ops x p t) in grind arith

readied_now_attached : (c : Client) (conns : ℕ → Conn) (s : Server) (a : ℕ → ℕ) (k session tree : ℕ) → NowAttached c s
    → AttachedLow c → NowAttached (begin_session c k session tree) s
readied_now_attached c conns s a k session tree i_now_attached i_attached_low =
    λ q. let l = i_attached_low q in grind arith

readied_opened_reply : (c : Client) (conns : ℕ → Conn) (s : Server) (a : ℕ → ℕ) (k session tree : ℕ)
    → ((j n : ℕ) (y : Received) → slice_get (conns j).down n ≡ Some y → is_ops y.token ≡ false) → OpenedReply c conns s
    → OpenedReply (begin_session c k session tree) conns s
readied_opened_reply c conns s a k session tree idle i_opened_reply =
    λ j n p y h t. let v = idle j n y h in let o1 = own_reply_ops y p t in grind arith

readied_join_reply : (c : Client) (conns : ℕ → Conn) (s : Server) (a : ℕ → ℕ) (k session tree : ℕ)
    → ((j n : ℕ) (y : Received) → slice_get (conns j).down n ≡ Some y → is_ops y.token ≡ false) → JoinReply c conns s
    → JoinReply (begin_session c k session tree) conns s
readied_join_reply c conns s a k session tree idle i_join_reply =
    λ j n p y h t. let v = idle j n y h in let o1 = ask_reply_ops y p t in grind arith

readied_joined_reply : (c : Client) (conns : ℕ → Conn) (s : Server) (a : ℕ → ℕ) (k session tree : ℕ)
    → ((j n : ℕ) (y : Received) → slice_get (conns j).down n ≡ Some y → is_ops y.token ≡ false) → JoinedReply c conns s
    → JoinedReply (begin_session c k session tree) conns s
readied_joined_reply c conns s a k session tree idle i_joined_reply =
    λ j n p y h t. let v = idle j n y h in let o1 = ask_reply_ops y p t in grind arith

readied_closed_not : (c : Client) (conns : ℕ → Conn) (s : Server) (a : ℕ → ℕ) (k session tree : ℕ) → ClosedNot c s a
    → AttachedLow c → ClosedNot (begin_session c k session tree) s a
readied_closed_not c conns s a k session tree i_closed_not i_attached_low =
    λ p. let l = i_attached_low (create_at c p) in grind arith

readied_left_full : (c : Client) (conns : ℕ → Conn) (s : Server) (a : ℕ → ℕ) (k session tree : ℕ)
    → ((j n : ℕ) (x : Sent) → slice_get (conns j).up n ≡ Some x → is_ops x.token ≡ true → s.present x.message.session_id
    ≡ false) → LeftFull c conns s → LeftFull (begin_session c k session tree) conns s
readied_left_full c conns s a k session tree gone i_left_full =
    λ j n p x h t. let v = gone j n x h (own_ops x p t) in grind arith

readied_left_stuck : (c : Client) (conns : ℕ → Conn) (s : Server) (a : ℕ → ℕ) (k session tree : ℕ)
    → ((j n : ℕ) (x : Sent) → slice_get (conns j).up n ≡ Some x → is_ops x.token ≡ true → s.present x.message.session_id
    ≡ false) → LeftStuck c conns s → LeftStuck (begin_session c k session tree) conns s
readied_left_stuck c conns s a k session tree gone i_left_stuck =
    λ j n p x h t. let v = gone j n x h (own_ops x p t) in grind arith

readied_left_idle : (c : Client) (conns : ℕ → Conn) (s : Server) (a : ℕ → ℕ) (k session tree : ℕ)
    → ((j n : ℕ) (x : Sent) → slice_get (conns j).up n ≡ Some x → is_ops x.token ≡ true → s.present x.message.session_id
    ≡ false) → LeftIdle c conns s a → LeftIdle (begin_session c k session tree) conns s a
readied_left_idle c conns s a k session tree gone i_left_idle =
    λ j n p q x h t. let v = gone j n x h (own_ops x p t) in grind arith

pub readied_keeps : (c : Client) (conns : ℕ → Conn) (s : Server) (a : ℕ → ℕ) (k session tree : ℕ)
    → ((j n : ℕ) (x : Sent) → slice_get (conns j).up n ≡ Some x → is_ops x.token ≡ true → s.present x.message.session_id
    ≡ false) → ((j n : ℕ) (y : Received) → slice_get (conns j).down n ≡ Some y → is_ops y.token ≡ false)
    → Locks c conns s a → Locks (begin_session c k session tree) conns s a
readied_keeps c conns s a k session tree gone idle i =
    record {
      slot_index = i.slot_index;
      user_body = i.user_body;
      in_use = i.in_use;
      full_free = i.full_free;
      attached_low = readied_attached_low c conns s a k session tree i.attached_low;
      shut_ok = i.shut_ok;
      shut_made = i.shut_made;
      shut_gone = i.shut_gone;
      close_before = i.close_before;
      close_after = i.close_after;
      unsent_gone = i.unsent_gone;
      unanswered = i.unanswered;
      ask_up = i.ask_up;
      ask_down = i.ask_down;
      users = i.users;
      copy_now = readied_copy_now c conns s a k session tree gone i.copy_now;
      retried_on = readied_retried_on c conns s a k session tree gone i.retried_on;
      retried_done = readied_retried_done c conns s a k session tree gone i.retried_done;
      copy_attached = i.copy_attached;
      now_attached = readied_now_attached c conns s a k session tree i.now_attached i.attached_low;
      opened_reply = readied_opened_reply c conns s a k session tree idle i.opened_reply;
      join_reply = readied_join_reply c conns s a k session tree idle i.join_reply;
      joined_reply = readied_joined_reply c conns s a k session tree idle i.joined_reply;
      lost_reply = i.lost_reply;
      kept_says = i.kept_says;
      not_kept = i.not_kept;
      firm_kept = i.firm_kept;
      no_user = i.no_user;
      no_slots = i.no_slots;
      full_dead = i.full_dead;
      ok_reply = i.ok_reply;
      no_reply = i.no_reply;
      kept_reply = i.kept_reply;
      first_reply = i.first_reply;
      closed_not = readied_closed_not c conns s a k session tree i.closed_not i.attached_low;
      kept_files = i.kept_files;
      left_full = readied_left_full c conns s a k session tree gone i.left_full;
      left_stuck = readied_left_stuck c conns s a k session tree gone i.left_stuck;
      left_idle = readied_left_idle c conns s a k session tree gone i.left_idle;
      close_done = i.close_done;
      close_full = i.close_full;
      close_stuck = i.close_stuck;
      made_plain = i.made_plain;
      at_most = i.at_most;
      ok_acted = i.ok_acted;
      refused_not = i.refused_not;
    }
