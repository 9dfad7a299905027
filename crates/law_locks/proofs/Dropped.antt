-- Written by tools/law_locks.py. The server closes its end.
use Rattle.std.proofs.Common.{ℕ, arith}
use Rattle.spec_exchange.specs.Table.{put}
use Rattle.spec_exchange.specs.State.{Server}
use Rattle.spec_exchange.specs.Client.{Client}
use Rattle.spec_exchange.specs.Network.{Conn, server_off}
use Rattle.law_sessions.proofs.messages.Lists.{get-push}
use Rattle.law_locks.specs.Locks.{Locks, Unanswered, AskUp, AskDown, Users, CopyNow, RetriedOn, RetriedDone}
use Rattle.law_locks.specs.Locks.{CopyAttached, OpenedReply, JoinReply, JoinedReply, LostReply, FullDead, OkReply}
use Rattle.law_locks.specs.Locks.{NoReply, KeptReply, FirstReply, LeftFull, LeftStuck, LeftIdle, CloseDone, CloseFull}
use Rattle.law_locks.specs.Locks.{CloseStuck}

dropped_unanswered : (c : Client) (conns : ℕ → Conn) (s : Server) (a : ℕ → ℕ) (k : ℕ) → Unanswered c conns
    → Unanswered c (put conns k (server_off (conns k)))
dropped_unanswered c conns s a k i_unanswered =
    λ j n p x. let old = i_unanswered j n p x in grind (arith, get-push)

dropped_ask_up : (c : Client) (conns : ℕ → Conn) (s : Server) (a : ℕ → ℕ) (k : ℕ) → AskUp c conns
    → AskUp c (put conns k (server_off (conns k)))
dropped_ask_up c conns s a k i_ask_up =
    λ j n p x. let old = i_ask_up j n p x in grind (arith, get-push)

dropped_ask_down : (c : Client) (conns : ℕ → Conn) (s : Server) (a : ℕ → ℕ) (k : ℕ) → AskDown c conns
    → AskDown c (put conns k (server_off (conns k)))
dropped_ask_down c conns s a k i_ask_down =
    λ j n p y. let old = i_ask_down j n p y in grind arith

dropped_users : (c : Client) (conns : ℕ → Conn) (s : Server) (a : ℕ → ℕ) (k : ℕ) → Users c conns s
    → Users c (put conns k (server_off (conns k))) s
dropped_users c conns s a k i_users =
    λ j n p x. let old = i_users j n p x in grind (arith, get-push)

dropped_copy_now : (c : Client) (conns : ℕ → Conn) (s : Server) (a : ℕ → ℕ) (k : ℕ) → CopyNow c conns s
    → CopyNow c (put conns k (server_off (conns k))) s
dropped_copy_now c conns s a k i_copy_now =
    λ j n p x. let old = i_copy_now j n p x in grind (arith, get-push)

dropped_retried_on : (c : Client) (conns : ℕ → Conn) (s : Server) (a : ℕ → ℕ) (k : ℕ) → RetriedOn c conns s
    → RetriedOn c (put conns k (server_off (conns k))) s
dropped_retried_on c conns s a k i_retried_on =
    λ j n p x. let old = i_retried_on j n p x in grind (arith, get-push)

dropped_retried_done : (c : Client) (conns : ℕ → Conn) (s : Server) (a : ℕ → ℕ) (k : ℕ) → RetriedDone c conns s
    → RetriedDone c (put conns k (server_off (conns k))) s
dropped_retried_done c conns s a k i_retried_done =
    λ j n p x. let old = i_retried_done j n p x in grind (arith, get-push)

dropped_copy_attached : (c : Client) (conns : ℕ → Conn) (s : Server) (a : ℕ → ℕ) (k : ℕ) → CopyAttached c conns s
    → CopyAttached c (put conns k (server_off (conns k))) s
dropped_copy_attached c conns s a k i_copy_attached =
    λ j n p x. let old = i_copy_attached j n p x in grind (arith, get-push)

dropped_opened_reply : (c : Client) (conns : ℕ → Conn) (s : Server) (a : ℕ → ℕ) (k : ℕ) → OpenedReply c conns s
    → OpenedReply c (put conns k (server_off (conns k))) s
dropped_opened_reply c conns s a k i_opened_reply =
    λ j n p y. let old = i_opened_reply j n p y in grind arith

dropped_join_reply : (c : Client) (conns : ℕ → Conn) (s : Server) (a : ℕ → ℕ) (k : ℕ) → JoinReply c conns s
    → JoinReply c (put conns k (server_off (conns k))) s
dropped_join_reply c conns s a k i_join_reply =
    λ j n p y. let old = i_join_reply j n p y in grind arith

dropped_joined_reply : (c : Client) (conns : ℕ → Conn) (s : Server) (a : ℕ → ℕ) (k : ℕ) → JoinedReply c conns s
    → JoinedReply c (put conns k (server_off (conns k))) s
dropped_joined_reply c conns s a k i_joined_reply =
    λ j n p y. let old = i_joined_reply j n p y in grind arith

dropped_lost_reply : (c : Client) (conns : ℕ → Conn) (s : Server) (a : ℕ → ℕ) (k : ℕ) → LostReply c conns s
    → LostReply c (put conns k (server_off (conns k))) s
dropped_lost_reply c conns s a k i_lost_reply =
    λ j n p y. let old = i_lost_reply j n p y in grind arith

dropped_full_dead : (c : Client) (conns : ℕ → Conn) (s : Server) (a : ℕ → ℕ) (k : ℕ) → FullDead c conns s
    → FullDead c (put conns k (server_off (conns k))) s
dropped_full_dead c conns s a k i_full_dead =
    λ j n p x. let old = i_full_dead j n p x in grind (arith, get-push)

dropped_ok_reply : (c : Client) (conns : ℕ → Conn) (s : Server) (a : ℕ → ℕ) (k : ℕ) → OkReply c conns a
    → OkReply c (put conns k (server_off (conns k))) a
dropped_ok_reply c conns s a k i_ok_reply =
    λ j n p y. let old = i_ok_reply j n p y in grind arith

dropped_no_reply : (c : Client) (conns : ℕ → Conn) (s : Server) (a : ℕ → ℕ) (k : ℕ) → NoReply c conns a
    → NoReply c (put conns k (server_off (conns k))) a
dropped_no_reply c conns s a k i_no_reply =
    λ j n p y. let old = i_no_reply j n p y in grind arith

dropped_kept_reply : (c : Client) (conns : ℕ → Conn) (s : Server) (a : ℕ → ℕ) (k : ℕ) → KeptReply c conns s
    → KeptReply c (put conns k (server_off (conns k))) s
dropped_kept_reply c conns s a k i_kept_reply =
    λ j n p y. let old = i_kept_reply j n p y in grind arith

dropped_first_reply : (c : Client) (conns : ℕ → Conn) (s : Server) (a : ℕ → ℕ) (k : ℕ) → FirstReply c conns a
    → FirstReply c (put conns k (server_off (conns k))) a
dropped_first_reply c conns s a k i_first_reply =
    λ j n p y. let old = i_first_reply j n p y in grind arith

dropped_left_full : (c : Client) (conns : ℕ → Conn) (s : Server) (a : ℕ → ℕ) (k : ℕ) → LeftFull c conns s
    → LeftFull c (put conns k (server_off (conns k))) s
dropped_left_full c conns s a k i_left_full =
    λ j n p x. let old = i_left_full j n p x in grind (arith, get-push)

dropped_left_stuck : (c : Client) (conns : ℕ → Conn) (s : Server) (a : ℕ → ℕ) (k : ℕ) → LeftStuck c conns s
    → LeftStuck c (put conns k (server_off (conns k))) s
dropped_left_stuck c conns s a k i_left_stuck =
    λ j n p x. let old = i_left_stuck j n p x in grind (arith, get-push)

dropped_left_idle : (c : Client) (conns : ℕ → Conn) (s : Server) (a : ℕ → ℕ) (k : ℕ) → LeftIdle c conns s a
    → LeftIdle c (put conns k (server_off (conns k))) s a
dropped_left_idle c conns s a k i_left_idle =
    λ j n p q x. let old = i_left_idle j n p q x in grind (arith, get-push)

dropped_close_done : (c : Client) (conns : ℕ → Conn) (s : Server) (a : ℕ → ℕ) (k : ℕ) → CloseDone c conns s
    → CloseDone c (put conns k (server_off (conns k))) s
dropped_close_done c conns s a k i_close_done =
    λ j n p y. let old = i_close_done j n p y in grind arith

dropped_close_full : (c : Client) (conns : ℕ → Conn) (s : Server) (a : ℕ → ℕ) (k : ℕ) → CloseFull c conns s
    → CloseFull c (put conns k (server_off (conns k))) s
dropped_close_full c conns s a k i_close_full =
    λ j n p y. let old = i_close_full j n p y in grind arith

dropped_close_stuck : (c : Client) (conns : ℕ → Conn) (s : Server) (a : ℕ → ℕ) (k : ℕ) → CloseStuck c conns s
    → CloseStuck c (put conns k (server_off (conns k))) s
dropped_close_stuck c conns s a k i_close_stuck =
    λ j n p y. let old = i_close_stuck j n p y in grind arith

pub dropped_keeps : (c : Client) (conns : ℕ → Conn) (s : Server) (a : ℕ → ℕ) (k : ℕ) → Locks c conns s a
    → Locks c (put conns k (server_off (conns k))) s a
dropped_keeps c conns s a k i =
    record {
      slot_index = i.slot_index;
      user_body = i.user_body;
      in_use = i.in_use;
      full_free = i.full_free;
      attached_low = i.attached_low;
      shut_ok = i.shut_ok;
      shut_made = i.shut_made;
      shut_gone = i.shut_gone;
      close_before = i.close_before;
      close_after = i.close_after;
      unsent_gone = i.unsent_gone;
      unanswered = dropped_unanswered c conns s a k i.unanswered;
      ask_up = dropped_ask_up c conns s a k i.ask_up;
      ask_down = dropped_ask_down c conns s a k i.ask_down;
      users = dropped_users c conns s a k i.users;
      copy_now = dropped_copy_now c conns s a k i.copy_now;
      retried_on = dropped_retried_on c conns s a k i.retried_on;
      retried_done = dropped_retried_done c conns s a k i.retried_done;
      copy_attached = dropped_copy_attached c conns s a k i.copy_attached;
      now_attached = i.now_attached;
      opened_reply = dropped_opened_reply c conns s a k i.opened_reply;
      join_reply = dropped_join_reply c conns s a k i.join_reply;
      joined_reply = dropped_joined_reply c conns s a k i.joined_reply;
      lost_reply = dropped_lost_reply c conns s a k i.lost_reply;
      kept_says = i.kept_says;
      not_kept = i.not_kept;
      firm_kept = i.firm_kept;
      no_user = i.no_user;
      no_slots = i.no_slots;
      full_dead = dropped_full_dead c conns s a k i.full_dead;
      ok_reply = dropped_ok_reply c conns s a k i.ok_reply;
      no_reply = dropped_no_reply c conns s a k i.no_reply;
      kept_reply = dropped_kept_reply c conns s a k i.kept_reply;
      first_reply = dropped_first_reply c conns s a k i.first_reply;
      closed_not = i.closed_not;
      kept_files = i.kept_files;
      left_full = dropped_left_full c conns s a k i.left_full;
      left_stuck = dropped_left_stuck c conns s a k i.left_stuck;
      left_idle = dropped_left_idle c conns s a k i.left_idle;
      close_done = dropped_close_done c conns s a k i.close_done;
      close_full = dropped_close_full c conns s a k i.close_full;
      close_stuck = dropped_close_stuck c conns s a k i.close_stuck;
      made_plain = i.made_plain;
      at_most = i.at_most;
      ok_acted = i.ok_acted;
      refused_not = i.refused_not;
    }
