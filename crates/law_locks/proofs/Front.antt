-- Written by tools/law_locks.py. The server takes the front.
use Rattle.std.proofs.Common.{◌≡◌, ℕ, List, ◌∷◌, arith}
use Rattle.spec_exchange.specs.Table.{put}
use Rattle.spec_exchange.specs.State.{Server}
use Rattle.spec_exchange.specs.Client.{Client}
use Rattle.spec_exchange.specs.Network.{Conn, Sent, behind_front}
use Rattle.law_sessions.proofs.messages.Lists.{waited}
use Rattle.law_locks.specs.Locks.{Locks, Unanswered, AskUp, AskDown, Users, CopyNow, RetriedOn, RetriedDone}
use Rattle.law_locks.specs.Locks.{CopyAttached, OpenedReply, JoinReply, JoinedReply, LostReply, FullDead, OkReply}
use Rattle.law_locks.specs.Locks.{NoReply, KeptReply, FirstReply, LeftFull, LeftStuck, LeftIdle, CloseDone, CloseFull}
use Rattle.law_locks.specs.Locks.{CloseStuck}

front_unanswered : (c : Client) (conns : ℕ → Conn) (s : Server) (a : ℕ → ℕ) (k : ℕ) (x0 : Sent) (rest : List Sent)
    → ((conns k).up ≡ x0 ∷ rest) → Unanswered c conns → Unanswered c (put conns k (behind_front (conns k) rest))
front_unanswered c conns s a k x0 rest is i_unanswered =
    λ j n p x h. let w = waited conns k x0 rest j n x is h in let old = i_unanswered j w.0 p x w.1 in grind arith

front_ask_up : (c : Client) (conns : ℕ → Conn) (s : Server) (a : ℕ → ℕ) (k : ℕ) (x0 : Sent) (rest : List Sent)
    → ((conns k).up ≡ x0 ∷ rest) → AskUp c conns → AskUp c (put conns k (behind_front (conns k) rest))
front_ask_up c conns s a k x0 rest is i_ask_up =
    λ j n p x h. let w = waited conns k x0 rest j n x is h in let old = i_ask_up j w.0 p x w.1 in grind arith

front_ask_down : (c : Client) (conns : ℕ → Conn) (s : Server) (a : ℕ → ℕ) (k : ℕ) (x0 : Sent) (rest : List Sent)
    → ((conns k).up ≡ x0 ∷ rest) → AskDown c conns → AskDown c (put conns k (behind_front (conns k) rest))
front_ask_down c conns s a k x0 rest is i_ask_down =
    λ j n p y. let old = i_ask_down j n p y in grind arith

front_users : (c : Client) (conns : ℕ → Conn) (s : Server) (a : ℕ → ℕ) (k : ℕ) (x0 : Sent) (rest : List Sent)
    → ((conns k).up ≡ x0 ∷ rest) → Users c conns s → Users c (put conns k (behind_front (conns k) rest)) s
front_users c conns s a k x0 rest is i_users =
    λ j n p x h. let w = waited conns k x0 rest j n x is h in let old = i_users j w.0 p x w.1 in grind arith

front_copy_now : (c : Client) (conns : ℕ → Conn) (s : Server) (a : ℕ → ℕ) (k : ℕ) (x0 : Sent) (rest : List Sent)
    → ((conns k).up ≡ x0 ∷ rest) → CopyNow c conns s → CopyNow c (put conns k (behind_front (conns k) rest)) s
front_copy_now c conns s a k x0 rest is i_copy_now =
    λ j n p x h. let w = waited conns k x0 rest j n x is h in let old = i_copy_now j w.0 p x w.1 in grind arith

front_retried_on : (c : Client) (conns : ℕ → Conn) (s : Server) (a : ℕ → ℕ) (k : ℕ) (x0 : Sent) (rest : List Sent)
    → ((conns k).up ≡ x0 ∷ rest) → RetriedOn c conns s → RetriedOn c (put conns k (behind_front (conns k) rest)) s
front_retried_on c conns s a k x0 rest is i_retried_on =
    λ j n p x h. let w = waited conns k x0 rest j n x is h in let old = i_retried_on j w.0 p x w.1 in grind arith

front_retried_done : (c : Client) (conns : ℕ → Conn) (s : Server) (a : ℕ → ℕ) (k : ℕ) (x0 : Sent) (rest : List Sent)
    → ((conns k).up ≡ x0 ∷ rest) → RetriedDone c conns s → RetriedDone c (put conns k (behind_front (conns k) rest)) s
front_retried_done c conns s a k x0 rest is i_retried_done =
    λ j n p x h. let w = waited conns k x0 rest j n x is h in let old = i_retried_done j w.0 p x w.1 in grind arith

front_copy_attached : (c : Client) (conns : ℕ → Conn) (s : Server) (a : ℕ → ℕ) (k : ℕ) (x0 : Sent) (rest : List Sent)
    → ((conns k).up ≡ x0 ∷ rest) → CopyAttached c conns s → CopyAttached c (put conns k (behind_front (conns k) rest)) s
front_copy_attached c conns s a k x0 rest is i_copy_attached =
    λ j n p x h. let w = waited conns k x0 rest j n x is h in let old = i_copy_attached j w.0 p x w.1 in grind arith

front_opened_reply : (c : Client) (conns : ℕ → Conn) (s : Server) (a : ℕ → ℕ) (k : ℕ) (x0 : Sent) (rest : List Sent)
    → ((conns k).up ≡ x0 ∷ rest) → OpenedReply c conns s → OpenedReply c (put conns k (behind_front (conns k) rest)) s
front_opened_reply c conns s a k x0 rest is i_opened_reply =
    λ j n p y. let old = i_opened_reply j n p y in grind arith

front_join_reply : (c : Client) (conns : ℕ → Conn) (s : Server) (a : ℕ → ℕ) (k : ℕ) (x0 : Sent) (rest : List Sent)
    → ((conns k).up ≡ x0 ∷ rest) → JoinReply c conns s → JoinReply c (put conns k (behind_front (conns k) rest)) s
front_join_reply c conns s a k x0 rest is i_join_reply =
    λ j n p y. let old = i_join_reply j n p y in grind arith

front_joined_reply : (c : Client) (conns : ℕ → Conn) (s : Server) (a : ℕ → ℕ) (k : ℕ) (x0 : Sent) (rest : List Sent)
    → ((conns k).up ≡ x0 ∷ rest) → JoinedReply c conns s → JoinedReply c (put conns k (behind_front (conns k) rest)) s
front_joined_reply c conns s a k x0 rest is i_joined_reply =
    λ j n p y. let old = i_joined_reply j n p y in grind arith

front_lost_reply : (c : Client) (conns : ℕ → Conn) (s : Server) (a : ℕ → ℕ) (k : ℕ) (x0 : Sent) (rest : List Sent)
    → ((conns k).up ≡ x0 ∷ rest) → LostReply c conns s → LostReply c (put conns k (behind_front (conns k) rest)) s
front_lost_reply c conns s a k x0 rest is i_lost_reply =
    λ j n p y. let old = i_lost_reply j n p y in grind arith

front_full_dead : (c : Client) (conns : ℕ → Conn) (s : Server) (a : ℕ → ℕ) (k : ℕ) (x0 : Sent) (rest : List Sent)
    → ((conns k).up ≡ x0 ∷ rest) → FullDead c conns s → FullDead c (put conns k (behind_front (conns k) rest)) s
front_full_dead c conns s a k x0 rest is i_full_dead =
    λ j n p x h. let w = waited conns k x0 rest j n x is h in let old = i_full_dead j w.0 p x w.1 in grind arith

front_ok_reply : (c : Client) (conns : ℕ → Conn) (s : Server) (a : ℕ → ℕ) (k : ℕ) (x0 : Sent) (rest : List Sent)
    → ((conns k).up ≡ x0 ∷ rest) → OkReply c conns a → OkReply c (put conns k (behind_front (conns k) rest)) a
front_ok_reply c conns s a k x0 rest is i_ok_reply =
    λ j n p y. let old = i_ok_reply j n p y in grind arith

front_no_reply : (c : Client) (conns : ℕ → Conn) (s : Server) (a : ℕ → ℕ) (k : ℕ) (x0 : Sent) (rest : List Sent)
    → ((conns k).up ≡ x0 ∷ rest) → NoReply c conns a → NoReply c (put conns k (behind_front (conns k) rest)) a
front_no_reply c conns s a k x0 rest is i_no_reply =
    λ j n p y. let old = i_no_reply j n p y in grind arith

front_kept_reply : (c : Client) (conns : ℕ → Conn) (s : Server) (a : ℕ → ℕ) (k : ℕ) (x0 : Sent) (rest : List Sent)
    → ((conns k).up ≡ x0 ∷ rest) → KeptReply c conns s → KeptReply c (put conns k (behind_front (conns k) rest)) s
front_kept_reply c conns s a k x0 rest is i_kept_reply =
    λ j n p y. let old = i_kept_reply j n p y in grind arith

front_first_reply : (c : Client) (conns : ℕ → Conn) (s : Server) (a : ℕ → ℕ) (k : ℕ) (x0 : Sent) (rest : List Sent)
    → ((conns k).up ≡ x0 ∷ rest) → FirstReply c conns a → FirstReply c (put conns k (behind_front (conns k) rest)) a
front_first_reply c conns s a k x0 rest is i_first_reply =
    λ j n p y. let old = i_first_reply j n p y in grind arith

front_left_full : (c : Client) (conns : ℕ → Conn) (s : Server) (a : ℕ → ℕ) (k : ℕ) (x0 : Sent) (rest : List Sent)
    → ((conns k).up ≡ x0 ∷ rest) → LeftFull c conns s → LeftFull c (put conns k (behind_front (conns k) rest)) s
front_left_full c conns s a k x0 rest is i_left_full =
    λ j n p x h. let w = waited conns k x0 rest j n x is h in let old = i_left_full j w.0 p x w.1 in grind arith

front_left_stuck : (c : Client) (conns : ℕ → Conn) (s : Server) (a : ℕ → ℕ) (k : ℕ) (x0 : Sent) (rest : List Sent)
    → ((conns k).up ≡ x0 ∷ rest) → LeftStuck c conns s → LeftStuck c (put conns k (behind_front (conns k) rest)) s
front_left_stuck c conns s a k x0 rest is i_left_stuck =
    λ j n p x h. let w = waited conns k x0 rest j n x is h in let old = i_left_stuck j w.0 p x w.1 in grind arith

front_left_idle : (c : Client) (conns : ℕ → Conn) (s : Server) (a : ℕ → ℕ) (k : ℕ) (x0 : Sent) (rest : List Sent)
    → ((conns k).up ≡ x0 ∷ rest) → LeftIdle c conns s a → LeftIdle c (put conns k (behind_front (conns k) rest)) s a
front_left_idle c conns s a k x0 rest is i_left_idle =
    λ j n p q x h. let w = waited conns k x0 rest j n x is h in let old = i_left_idle j w.0 p q x w.1 in grind arith

front_close_done : (c : Client) (conns : ℕ → Conn) (s : Server) (a : ℕ → ℕ) (k : ℕ) (x0 : Sent) (rest : List Sent)
    → ((conns k).up ≡ x0 ∷ rest) → CloseDone c conns s → CloseDone c (put conns k (behind_front (conns k) rest)) s
front_close_done c conns s a k x0 rest is i_close_done =
    λ j n p y. let old = i_close_done j n p y in grind arith

front_close_full : (c : Client) (conns : ℕ → Conn) (s : Server) (a : ℕ → ℕ) (k : ℕ) (x0 : Sent) (rest : List Sent)
    → ((conns k).up ≡ x0 ∷ rest) → CloseFull c conns s → CloseFull c (put conns k (behind_front (conns k) rest)) s
front_close_full c conns s a k x0 rest is i_close_full =
    λ j n p y. let old = i_close_full j n p y in grind arith

front_close_stuck : (c : Client) (conns : ℕ → Conn) (s : Server) (a : ℕ → ℕ) (k : ℕ) (x0 : Sent) (rest : List Sent)
    → ((conns k).up ≡ x0 ∷ rest) → CloseStuck c conns s → CloseStuck c (put conns k (behind_front (conns k) rest)) s
front_close_stuck c conns s a k x0 rest is i_close_stuck =
    λ j n p y. let old = i_close_stuck j n p y in grind arith

pub front_keeps : (c : Client) (conns : ℕ → Conn) (s : Server) (a : ℕ → ℕ) (k : ℕ) (x0 : Sent) (rest : List Sent)
    → ((conns k).up ≡ x0 ∷ rest) → Locks c conns s a → Locks c (put conns k (behind_front (conns k) rest)) s a
front_keeps c conns s a k x0 rest is i =
    record {
      slot_index = i.slot_index;
      user_body = i.user_body;
      in_use = i.in_use;
      full_free = i.full_free;
      attached_low = i.attached_low;
      shut_ok = i.shut_ok;
      shut_made = i.shut_made;
      shut_gone = i.shut_gone;
      close_before = i.close_before;
      close_after = i.close_after;
      unsent_gone = i.unsent_gone;
      unanswered = front_unanswered c conns s a k x0 rest is i.unanswered;
      ask_up = front_ask_up c conns s a k x0 rest is i.ask_up;
      ask_down = front_ask_down c conns s a k x0 rest is i.ask_down;
      users = front_users c conns s a k x0 rest is i.users;
      copy_now = front_copy_now c conns s a k x0 rest is i.copy_now;
      retried_on = front_retried_on c conns s a k x0 rest is i.retried_on;
      retried_done = front_retried_done c conns s a k x0 rest is i.retried_done;
      copy_attached = front_copy_attached c conns s a k x0 rest is i.copy_attached;
      now_attached = i.now_attached;
      opened_reply = front_opened_reply c conns s a k x0 rest is i.opened_reply;
      join_reply = front_join_reply c conns s a k x0 rest is i.join_reply;
      joined_reply = front_joined_reply c conns s a k x0 rest is i.joined_reply;
      lost_reply = front_lost_reply c conns s a k x0 rest is i.lost_reply;
      kept_says = i.kept_says;
      not_kept = i.not_kept;
      firm_kept = i.firm_kept;
      no_user = i.no_user;
      no_slots = i.no_slots;
      full_dead = front_full_dead c conns s a k x0 rest is i.full_dead;
      ok_reply = front_ok_reply c conns s a k x0 rest is i.ok_reply;
      no_reply = front_no_reply c conns s a k x0 rest is i.no_reply;
      kept_reply = front_kept_reply c conns s a k x0 rest is i.kept_reply;
      first_reply = front_first_reply c conns s a k x0 rest is i.first_reply;
      closed_not = i.closed_not;
      kept_files = i.kept_files;
      left_full = front_left_full c conns s a k x0 rest is i.left_full;
      left_stuck = front_left_stuck c conns s a k x0 rest is i.left_stuck;
      left_idle = front_left_idle c conns s a k x0 rest is i.left_idle;
      close_done = front_close_done c conns s a k x0 rest is i.close_done;
      close_full = front_close_full c conns s a k x0 rest is i.close_full;
      close_stuck = front_close_stuck c conns s a k x0 rest is i.close_stuck;
      made_plain = i.made_plain;
      at_most = i.at_most;
      ok_acted = i.ok_acted;
      refused_not = i.refused_not;
    }
