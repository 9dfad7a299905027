-- Written by tools/law_locks.py. The next message of a dialog goes out.
use Rattle.std.proofs.Common.{ℕ, arith}
use Rattle.spec_exchange.specs.Table.{put}
use Rattle.spec_exchange.specs.State.{Server, Message}
use Rattle.spec_exchange.specs.Client.{Client}
use Rattle.spec_exchange.specs.Network.{Conn, ForDialog, send_up}
use Rattle.law_sessions.proofs.messages.Lists.{get-push}
use Rattle.law_locks.specs.Locks.{Locks, Unanswered, AskUp, AskDown, Users, CopyNow, RetriedOn, RetriedDone}
use Rattle.law_locks.specs.Locks.{CopyAttached, OpenedReply, JoinReply, JoinedReply, LostReply, FullDead, OkReply}
use Rattle.law_locks.specs.Locks.{NoReply, KeptReply, FirstReply, LeftFull, LeftStuck, LeftIdle, CloseDone, CloseFull}
use Rattle.law_locks.specs.Locks.{CloseStuck}

dialog_sent_unanswered : (c : Client) (conns : ℕ → Conn) (s : Server) (a : ℕ → ℕ) (k n0 : ℕ) (m0 : Message)
    → Unanswered c conns → Unanswered c (put conns k (send_up (conns k) ForDialog m0 n0))
dialog_sent_unanswered c conns s a k n0 m0 i_unanswered =
    λ j n p x. let old = i_unanswered j n p x in grind (arith, get-push)

dialog_sent_ask_up : (c : Client) (conns : ℕ → Conn) (s : Server) (a : ℕ → ℕ) (k n0 : ℕ) (m0 : Message) → AskUp c conns
    → AskUp c (put conns k (send_up (conns k) ForDialog m0 n0))
dialog_sent_ask_up c conns s a k n0 m0 i_ask_up =
    λ j n p x. let old = i_ask_up j n p x in grind (arith, get-push)

dialog_sent_ask_down : (c : Client) (conns : ℕ → Conn) (s : Server) (a : ℕ → ℕ) (k n0 : ℕ) (m0 : Message)
    → AskDown c conns → AskDown c (put conns k (send_up (conns k) ForDialog m0 n0))
dialog_sent_ask_down c conns s a k n0 m0 i_ask_down =
    λ j n p y. let old = i_ask_down j n p y in grind arith

dialog_sent_users : (c : Client) (conns : ℕ → Conn) (s : Server) (a : ℕ → ℕ) (k n0 : ℕ) (m0 : Message) → Users c conns s
    → Users c (put conns k (send_up (conns k) ForDialog m0 n0)) s
dialog_sent_users c conns s a k n0 m0 i_users =
    λ j n p x. let old = i_users j n p x in grind (arith, get-push)

dialog_sent_copy_now : (c : Client) (conns : ℕ → Conn) (s : Server) (a : ℕ → ℕ) (k n0 : ℕ) (m0 : Message)
    → CopyNow c conns s → CopyNow c (put conns k (send_up (conns k) ForDialog m0 n0)) s
dialog_sent_copy_now c conns s a k n0 m0 i_copy_now =
    λ j n p x. let old = i_copy_now j n p x in grind (arith, get-push)

dialog_sent_retried_on : (c : Client) (conns : ℕ → Conn) (s : Server) (a : ℕ → ℕ) (k n0 : ℕ) (m0 : Message)
    → RetriedOn c conns s → RetriedOn c (put conns k (send_up (conns k) ForDialog m0 n0)) s
dialog_sent_retried_on c conns s a k n0 m0 i_retried_on =
    λ j n p x. let old = i_retried_on j n p x in grind (arith, get-push)

dialog_sent_retried_done : (c : Client) (conns : ℕ → Conn) (s : Server) (a : ℕ → ℕ) (k n0 : ℕ) (m0 : Message)
    → RetriedDone c conns s → RetriedDone c (put conns k (send_up (conns k) ForDialog m0 n0)) s
dialog_sent_retried_done c conns s a k n0 m0 i_retried_done =
    λ j n p x. let old = i_retried_done j n p x in grind (arith, get-push)

dialog_sent_copy_attached : (c : Client) (conns : ℕ → Conn) (s : Server) (a : ℕ → ℕ) (k n0 : ℕ) (m0 : Message)
    → CopyAttached c conns s → CopyAttached c (put conns k (send_up (conns k) ForDialog m0 n0)) s
dialog_sent_copy_attached c conns s a k n0 m0 i_copy_attached =
    λ j n p x. let old = i_copy_attached j n p x in grind (arith, get-push)

dialog_sent_opened_reply : (c : Client) (conns : ℕ → Conn) (s : Server) (a : ℕ → ℕ) (k n0 : ℕ) (m0 : Message)
    → OpenedReply c conns s → OpenedReply c (put conns k (send_up (conns k) ForDialog m0 n0)) s
dialog_sent_opened_reply c conns s a k n0 m0 i_opened_reply =
    λ j n p y. let old = i_opened_reply j n p y in grind arith

dialog_sent_join_reply : (c : Client) (conns : ℕ → Conn) (s : Server) (a : ℕ → ℕ) (k n0 : ℕ) (m0 : Message)
    → JoinReply c conns s → JoinReply c (put conns k (send_up (conns k) ForDialog m0 n0)) s
dialog_sent_join_reply c conns s a k n0 m0 i_join_reply =
    λ j n p y. let old = i_join_reply j n p y in grind arith

dialog_sent_joined_reply : (c : Client) (conns : ℕ → Conn) (s : Server) (a : ℕ → ℕ) (k n0 : ℕ) (m0 : Message)
    → JoinedReply c conns s → JoinedReply c (put conns k (send_up (conns k) ForDialog m0 n0)) s
dialog_sent_joined_reply c conns s a k n0 m0 i_joined_reply =
    λ j n p y. let old = i_joined_reply j n p y in grind arith

dialog_sent_lost_reply : (c : Client) (conns : ℕ → Conn) (s : Server) (a : ℕ → ℕ) (k n0 : ℕ) (m0 : Message)
    → LostReply c conns s → LostReply c (put conns k (send_up (conns k) ForDialog m0 n0)) s
dialog_sent_lost_reply c conns s a k n0 m0 i_lost_reply =
    λ j n p y. let old = i_lost_reply j n p y in grind arith

dialog_sent_full_dead : (c : Client) (conns : ℕ → Conn) (s : Server) (a : ℕ → ℕ) (k n0 : ℕ) (m0 : Message)
    → FullDead c conns s → FullDead c (put conns k (send_up (conns k) ForDialog m0 n0)) s
dialog_sent_full_dead c conns s a k n0 m0 i_full_dead =
    λ j n p x. let old = i_full_dead j n p x in grind (arith, get-push)

dialog_sent_ok_reply : (c : Client) (conns : ℕ → Conn) (s : Server) (a : ℕ → ℕ) (k n0 : ℕ) (m0 : Message)
    → OkReply c conns a → OkReply c (put conns k (send_up (conns k) ForDialog m0 n0)) a
dialog_sent_ok_reply c conns s a k n0 m0 i_ok_reply =
    λ j n p y. let old = i_ok_reply j n p y in grind arith

dialog_sent_no_reply : (c : Client) (conns : ℕ → Conn) (s : Server) (a : ℕ → ℕ) (k n0 : ℕ) (m0 : Message)
    → NoReply c conns a → NoReply c (put conns k (send_up (conns k) ForDialog m0 n0)) a
dialog_sent_no_reply c conns s a k n0 m0 i_no_reply =
    λ j n p y. let old = i_no_reply j n p y in grind arith

dialog_sent_kept_reply : (c : Client) (conns : ℕ → Conn) (s : Server) (a : ℕ → ℕ) (k n0 : ℕ) (m0 : Message)
    → KeptReply c conns s → KeptReply c (put conns k (send_up (conns k) ForDialog m0 n0)) s
dialog_sent_kept_reply c conns s a k n0 m0 i_kept_reply =
    λ j n p y. let old = i_kept_reply j n p y in grind arith

dialog_sent_first_reply : (c : Client) (conns : ℕ → Conn) (s : Server) (a : ℕ → ℕ) (k n0 : ℕ) (m0 : Message)
    → FirstReply c conns a → FirstReply c (put conns k (send_up (conns k) ForDialog m0 n0)) a
dialog_sent_first_reply c conns s a k n0 m0 i_first_reply =
    λ j n p y. let old = i_first_reply j n p y in grind arith

dialog_sent_left_full : (c : Client) (conns : ℕ → Conn) (s : Server) (a : ℕ → ℕ) (k n0 : ℕ) (m0 : Message)
    → LeftFull c conns s → LeftFull c (put conns k (send_up (conns k) ForDialog m0 n0)) s
dialog_sent_left_full c conns s a k n0 m0 i_left_full =
    λ j n p x. let old = i_left_full j n p x in grind (arith, get-push)

dialog_sent_left_stuck : (c : Client) (conns : ℕ → Conn) (s : Server) (a : ℕ → ℕ) (k n0 : ℕ) (m0 : Message)
    → LeftStuck c conns s → LeftStuck c (put conns k (send_up (conns k) ForDialog m0 n0)) s
dialog_sent_left_stuck c conns s a k n0 m0 i_left_stuck =
    λ j n p x. let old = i_left_stuck j n p x in grind (arith, get-push)

dialog_sent_left_idle : (c : Client) (conns : ℕ → Conn) (s : Server) (a : ℕ → ℕ) (k n0 : ℕ) (m0 : Message)
    → LeftIdle c conns s a → LeftIdle c (put conns k (send_up (conns k) ForDialog m0 n0)) s a
dialog_sent_left_idle c conns s a k n0 m0 i_left_idle =
    λ j n p q x. let old = i_left_idle j n p q x in grind (arith, get-push)

dialog_sent_close_done : (c : Client) (conns : ℕ → Conn) (s : Server) (a : ℕ → ℕ) (k n0 : ℕ) (m0 : Message)
    → CloseDone c conns s → CloseDone c (put conns k (send_up (conns k) ForDialog m0 n0)) s
dialog_sent_close_done c conns s a k n0 m0 i_close_done =
    λ j n p y. let old = i_close_done j n p y in grind arith

dialog_sent_close_full : (c : Client) (conns : ℕ → Conn) (s : Server) (a : ℕ → ℕ) (k n0 : ℕ) (m0 : Message)
    → CloseFull c conns s → CloseFull c (put conns k (send_up (conns k) ForDialog m0 n0)) s
dialog_sent_close_full c conns s a k n0 m0 i_close_full =
    λ j n p y. let old = i_close_full j n p y in grind arith

dialog_sent_close_stuck : (c : Client) (conns : ℕ → Conn) (s : Server) (a : ℕ → ℕ) (k n0 : ℕ) (m0 : Message)
    → CloseStuck c conns s → CloseStuck c (put conns k (send_up (conns k) ForDialog m0 n0)) s
dialog_sent_close_stuck c conns s a k n0 m0 i_close_stuck =
    λ j n p y. let old = i_close_stuck j n p y in grind arith

pub dialog_sent_keeps : (c : Client) (conns : ℕ → Conn) (s : Server) (a : ℕ → ℕ) (k n0 : ℕ) (m0 : Message)
    → Locks c conns s a → Locks c (put conns k (send_up (conns k) ForDialog m0 n0)) s a
dialog_sent_keeps c conns s a k n0 m0 i =
    record {
      slot_index = i.slot_index;
      user_body = i.user_body;
      in_use = i.in_use;
      full_free = i.full_free;
      attached_low = i.attached_low;
      shut_ok = i.shut_ok;
      shut_made = i.shut_made;
      shut_gone = i.shut_gone;
      close_before = i.close_before;
      close_after = i.close_after;
      unsent_gone = i.unsent_gone;
      unanswered = dialog_sent_unanswered c conns s a k n0 m0 i.unanswered;
      ask_up = dialog_sent_ask_up c conns s a k n0 m0 i.ask_up;
      ask_down = dialog_sent_ask_down c conns s a k n0 m0 i.ask_down;
      users = dialog_sent_users c conns s a k n0 m0 i.users;
      copy_now = dialog_sent_copy_now c conns s a k n0 m0 i.copy_now;
      retried_on = dialog_sent_retried_on c conns s a k n0 m0 i.retried_on;
      retried_done = dialog_sent_retried_done c conns s a k n0 m0 i.retried_done;
      copy_attached = dialog_sent_copy_attached c conns s a k n0 m0 i.copy_attached;
      now_attached = i.now_attached;
      opened_reply = dialog_sent_opened_reply c conns s a k n0 m0 i.opened_reply;
      join_reply = dialog_sent_join_reply c conns s a k n0 m0 i.join_reply;
      joined_reply = dialog_sent_joined_reply c conns s a k n0 m0 i.joined_reply;
      lost_reply = dialog_sent_lost_reply c conns s a k n0 m0 i.lost_reply;
      kept_says = i.kept_says;
      not_kept = i.not_kept;
      firm_kept = i.firm_kept;
      no_user = i.no_user;
      no_slots = i.no_slots;
      full_dead = dialog_sent_full_dead c conns s a k n0 m0 i.full_dead;
      ok_reply = dialog_sent_ok_reply c conns s a k n0 m0 i.ok_reply;
      no_reply = dialog_sent_no_reply c conns s a k n0 m0 i.no_reply;
      kept_reply = dialog_sent_kept_reply c conns s a k n0 m0 i.kept_reply;
      first_reply = dialog_sent_first_reply c conns s a k n0 m0 i.first_reply;
      closed_not = i.closed_not;
      kept_files = i.kept_files;
      left_full = dialog_sent_left_full c conns s a k n0 m0 i.left_full;
      left_stuck = dialog_sent_left_stuck c conns s a k n0 m0 i.left_stuck;
      left_idle = dialog_sent_left_idle c conns s a k n0 m0 i.left_idle;
      close_done = dialog_sent_close_done c conns s a k n0 m0 i.close_done;
      close_full = dialog_sent_close_full c conns s a k n0 m0 i.close_full;
      close_stuck = dialog_sent_close_stuck c conns s a k n0 m0 i.close_stuck;
      made_plain = i.made_plain;
      at_most = i.at_most;
      ok_acted = i.ok_acted;
      refused_not = i.refused_not;
    }
