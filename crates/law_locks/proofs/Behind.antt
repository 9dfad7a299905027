-- Written by tools/law_locks.py. A reply leaves its connection.
use Rattle.std.proofs.Common.{◌≡◌, ℕ, List, ◌∷◌, arith}
use Rattle.spec_exchange.specs.Table.{put}
use Rattle.spec_exchange.specs.State.{Server}
use Rattle.spec_exchange.specs.Client.{Client}
use Rattle.spec_exchange.specs.Network.{Conn, Received, take_front}
use Rattle.law_sessions.proofs.messages.Lists.{waited_down}
use Rattle.law_locks.specs.Locks.{Locks, Unanswered, AskUp, AskDown, Users, CopyNow, RetriedOn, RetriedDone}
use Rattle.law_locks.specs.Locks.{CopyAttached, OpenedReply, JoinReply, JoinedReply, LostReply, FullDead, OkReply}
use Rattle.law_locks.specs.Locks.{NoReply, KeptReply, FirstReply, LeftFull, LeftStuck, LeftIdle, CloseDone, CloseFull}
use Rattle.law_locks.specs.Locks.{CloseStuck}

behind_unanswered : (c : Client) (conns : ℕ → Conn) (s : Server) (a : ℕ → ℕ) (k : ℕ) (y0 : Received)
    (rest : List Received) → ((conns k).down ≡ y0 ∷ rest) → Unanswered c conns
    → Unanswered c (put conns k (take_front (conns k) rest))
behind_unanswered c conns s a k y0 rest is i_unanswered =
    λ j n p x. let old = i_unanswered j n p x in grind arith

behind_ask_up : (c : Client) (conns : ℕ → Conn) (s : Server) (a : ℕ → ℕ) (k : ℕ) (y0 : Received) (rest : List Received)
    → ((conns k).down ≡ y0 ∷ rest) → AskUp c conns → AskUp c (put conns k (take_front (conns k) rest))
behind_ask_up c conns s a k y0 rest is i_ask_up =
    λ j n p x. let old = i_ask_up j n p x in grind arith

behind_ask_down : (c : Client) (conns : ℕ → Conn) (s : Server) (a : ℕ → ℕ) (k : ℕ) (y0 : Received)
    (rest : List Received) → ((conns k).down ≡ y0 ∷ rest) → AskDown c conns
    → AskDown c (put conns k (take_front (conns k) rest))
behind_ask_down c conns s a k y0 rest is i_ask_down =
    λ j n p y h. let w = waited_down conns k y0 rest j n y is h in i_ask_down j w.0 p y w.1

behind_users : (c : Client) (conns : ℕ → Conn) (s : Server) (a : ℕ → ℕ) (k : ℕ) (y0 : Received) (rest : List Received)
    → ((conns k).down ≡ y0 ∷ rest) → Users c conns s → Users c (put conns k (take_front (conns k) rest)) s
behind_users c conns s a k y0 rest is i_users =
    λ j n p x. let old = i_users j n p x in grind arith

behind_copy_now : (c : Client) (conns : ℕ → Conn) (s : Server) (a : ℕ → ℕ) (k : ℕ) (y0 : Received)
    (rest : List Received) → ((conns k).down ≡ y0 ∷ rest) → CopyNow c conns s
    → CopyNow c (put conns k (take_front (conns k) rest)) s
behind_copy_now c conns s a k y0 rest is i_copy_now =
    λ j n p x. let old = i_copy_now j n p x in grind arith

behind_retried_on : (c : Client) (conns : ℕ → Conn) (s : Server) (a : ℕ → ℕ) (k : ℕ) (y0 : Received)
    (rest : List Received) → ((conns k).down ≡ y0 ∷ rest) → RetriedOn c conns s
    → RetriedOn c (put conns k (take_front (conns k) rest)) s
behind_retried_on c conns s a k y0 rest is i_retried_on =
    λ j n p x. let old = i_retried_on j n p x in grind arith

behind_retried_done : (c : Client) (conns : ℕ → Conn) (s : Server) (a : ℕ → ℕ) (k : ℕ) (y0 : Received)
    (rest : List Received) → ((conns k).down ≡ y0 ∷ rest) → RetriedDone c conns s
    → RetriedDone c (put conns k (take_front (conns k) rest)) s
behind_retried_done c conns s a k y0 rest is i_retried_done =
    λ j n p x. let old = i_retried_done j n p x in grind arith

behind_copy_attached : (c : Client) (conns : ℕ → Conn) (s : Server) (a : ℕ → ℕ) (k : ℕ) (y0 : Received)
    (rest : List Received) → ((conns k).down ≡ y0 ∷ rest) → CopyAttached c conns s
    → CopyAttached c (put conns k (take_front (conns k) rest)) s
behind_copy_attached c conns s a k y0 rest is i_copy_attached =
    λ j n p x. let old = i_copy_attached j n p x in grind arith

behind_opened_reply : (c : Client) (conns : ℕ → Conn) (s : Server) (a : ℕ → ℕ) (k : ℕ) (y0 : Received)
    (rest : List Received) → ((conns k).down ≡ y0 ∷ rest) → OpenedReply c conns s
    → OpenedReply c (put conns k (take_front (conns k) rest)) s
behind_opened_reply c conns s a k y0 rest is i_opened_reply =
    λ j n p y h. let w = waited_down conns k y0 rest j n y is h in i_opened_reply j w.0 p y w.1

behind_join_reply : (c : Client) (conns : ℕ → Conn) (s : Server) (a : ℕ → ℕ) (k : ℕ) (y0 : Received)
    (rest : List Received) → ((conns k).down ≡ y0 ∷ rest) → JoinReply c conns s
    → JoinReply c (put conns k (take_front (conns k) rest)) s
behind_join_reply c conns s a k y0 rest is i_join_reply =
    λ j n p y h. let w = waited_down conns k y0 rest j n y is h in i_join_reply j w.0 p y w.1

behind_joined_reply : (c : Client) (conns : ℕ → Conn) (s : Server) (a : ℕ → ℕ) (k : ℕ) (y0 : Received)
    (rest : List Received) → ((conns k).down ≡ y0 ∷ rest) → JoinedReply c conns s
    → JoinedReply c (put conns k (take_front (conns k) rest)) s
behind_joined_reply c conns s a k y0 rest is i_joined_reply =
    λ j n p y h. let w = waited_down conns k y0 rest j n y is h in i_joined_reply j w.0 p y w.1

behind_lost_reply : (c : Client) (conns : ℕ → Conn) (s : Server) (a : ℕ → ℕ) (k : ℕ) (y0 : Received)
    (rest : List Received) → ((conns k).down ≡ y0 ∷ rest) → LostReply c conns s
    → LostReply c (put conns k (take_front (conns k) rest)) s
behind_lost_reply c conns s a k y0 rest is i_lost_reply =
    λ j n p y h. let w = waited_down conns k y0 rest j n y is h in i_lost_reply j w.0 p y w.1

behind_full_dead : (c : Client) (conns : ℕ → Conn) (s : Server) (a : ℕ → ℕ) (k : ℕ) (y0 : Received)
    (rest : List Received) → ((conns k).down ≡ y0 ∷ rest) → FullDead c conns s
    → FullDead c (put conns k (take_front (conns k) rest)) s
behind_full_dead c conns s a k y0 rest is i_full_dead =
    λ j n p x. let old = i_full_dead j n p x in grind arith

behind_ok_reply : (c : Client) (conns : ℕ → Conn) (s : Server) (a : ℕ → ℕ) (k : ℕ) (y0 : Received)
    (rest : List Received) → ((conns k).down ≡ y0 ∷ rest) → OkReply c conns a
    → OkReply c (put conns k (take_front (conns k) rest)) a
behind_ok_reply c conns s a k y0 rest is i_ok_reply =
    λ j n p y h. let w = waited_down conns k y0 rest j n y is h in i_ok_reply j w.0 p y w.1

behind_no_reply : (c : Client) (conns : ℕ → Conn) (s : Server) (a : ℕ → ℕ) (k : ℕ) (y0 : Received)
    (rest : List Received) → ((conns k).down ≡ y0 ∷ rest) → NoReply c conns a
    → NoReply c (put conns k (take_front (conns k) rest)) a
behind_no_reply c conns s a k y0 rest is i_no_reply =
    λ j n p y h. let w = waited_down conns k y0 rest j n y is h in i_no_reply j w.0 p y w.1

behind_kept_reply : (c : Client) (conns : ℕ → Conn) (s : Server) (a : ℕ → ℕ) (k : ℕ) (y0 : Received)
    (rest : List Received) → ((conns k).down ≡ y0 ∷ rest) → KeptReply c conns s
    → KeptReply c (put conns k (take_front (conns k) rest)) s
behind_kept_reply c conns s a k y0 rest is i_kept_reply =
    λ j n p y h. let w = waited_down conns k y0 rest j n y is h in i_kept_reply j w.0 p y w.1

behind_first_reply : (c : Client) (conns : ℕ → Conn) (s : Server) (a : ℕ → ℕ) (k : ℕ) (y0 : Received)
    (rest : List Received) → ((conns k).down ≡ y0 ∷ rest) → FirstReply c conns a
    → FirstReply c (put conns k (take_front (conns k) rest)) a
behind_first_reply c conns s a k y0 rest is i_first_reply =
    λ j n p y h. let w = waited_down conns k y0 rest j n y is h in i_first_reply j w.0 p y w.1

behind_left_full : (c : Client) (conns : ℕ → Conn) (s : Server) (a : ℕ → ℕ) (k : ℕ) (y0 : Received)
    (rest : List Received) → ((conns k).down ≡ y0 ∷ rest) → LeftFull c conns s
    → LeftFull c (put conns k (take_front (conns k) rest)) s
behind_left_full c conns s a k y0 rest is i_left_full =
    λ j n p x. let old = i_left_full j n p x in grind arith

behind_left_stuck : (c : Client) (conns : ℕ → Conn) (s : Server) (a : ℕ → ℕ) (k : ℕ) (y0 : Received)
    (rest : List Received) → ((conns k).down ≡ y0 ∷ rest) → LeftStuck c conns s
    → LeftStuck c (put conns k (take_front (conns k) rest)) s
behind_left_stuck c conns s a k y0 rest is i_left_stuck =
    λ j n p x. let old = i_left_stuck j n p x in grind arith

behind_left_idle : (c : Client) (conns : ℕ → Conn) (s : Server) (a : ℕ → ℕ) (k : ℕ) (y0 : Received)
    (rest : List Received) → ((conns k).down ≡ y0 ∷ rest) → LeftIdle c conns s a
    → LeftIdle c (put conns k (take_front (conns k) rest)) s a
behind_left_idle c conns s a k y0 rest is i_left_idle =
    λ j n p q x. let old = i_left_idle j n p q x in grind arith

behind_close_done : (c : Client) (conns : ℕ → Conn) (s : Server) (a : ℕ → ℕ) (k : ℕ) (y0 : Received)
    (rest : List Received) → ((conns k).down ≡ y0 ∷ rest) → CloseDone c conns s
    → CloseDone c (put conns k (take_front (conns k) rest)) s
behind_close_done c conns s a k y0 rest is i_close_done =
    λ j n p y h. let w = waited_down conns k y0 rest j n y is h in i_close_done j w.0 p y w.1

behind_close_full : (c : Client) (conns : ℕ → Conn) (s : Server) (a : ℕ → ℕ) (k : ℕ) (y0 : Received)
    (rest : List Received) → ((conns k).down ≡ y0 ∷ rest) → CloseFull c conns s
    → CloseFull c (put conns k (take_front (conns k) rest)) s
behind_close_full c conns s a k y0 rest is i_close_full =
    λ j n p y h. let w = waited_down conns k y0 rest j n y is h in i_close_full j w.0 p y w.1

behind_close_stuck : (c : Client) (conns : ℕ → Conn) (s : Server) (a : ℕ → ℕ) (k : ℕ) (y0 : Received)
    (rest : List Received) → ((conns k).down ≡ y0 ∷ rest) → CloseStuck c conns s
    → CloseStuck c (put conns k (take_front (conns k) rest)) s
behind_close_stuck c conns s a k y0 rest is i_close_stuck =
    λ j n p y h. let w = waited_down conns k y0 rest j n y is h in i_close_stuck j w.0 p y w.1

pub behind_keeps : (c : Client) (conns : ℕ → Conn) (s : Server) (a : ℕ → ℕ) (k : ℕ) (y0 : Received)
    (rest : List Received) → ((conns k).down ≡ y0 ∷ rest) → Locks c conns s a
    → Locks c (put conns k (take_front (conns k) rest)) s a
behind_keeps c conns s a k y0 rest is i =
    record {
      slot_index = i.slot_index;
      user_body = i.user_body;
      in_use = i.in_use;
      full_free = i.full_free;
      attached_low = i.attached_low;
      shut_ok = i.shut_ok;
      shut_made = i.shut_made;
      shut_gone = i.shut_gone;
      close_before = i.close_before;
      close_after = i.close_after;
      unsent_gone = i.unsent_gone;
      unanswered = behind_unanswered c conns s a k y0 rest is i.unanswered;
      ask_up = behind_ask_up c conns s a k y0 rest is i.ask_up;
      ask_down = behind_ask_down c conns s a k y0 rest is i.ask_down;
      users = behind_users c conns s a k y0 rest is i.users;
      copy_now = behind_copy_now c conns s a k y0 rest is i.copy_now;
      retried_on = behind_retried_on c conns s a k y0 rest is i.retried_on;
      retried_done = behind_retried_done c conns s a k y0 rest is i.retried_done;
      copy_attached = behind_copy_attached c conns s a k y0 rest is i.copy_attached;
      now_attached = i.now_attached;
      opened_reply = behind_opened_reply c conns s a k y0 rest is i.opened_reply;
      join_reply = behind_join_reply c conns s a k y0 rest is i.join_reply;
      joined_reply = behind_joined_reply c conns s a k y0 rest is i.joined_reply;
      lost_reply = behind_lost_reply c conns s a k y0 rest is i.lost_reply;
      kept_says = i.kept_says;
      not_kept = i.not_kept;
      firm_kept = i.firm_kept;
      no_user = i.no_user;
      no_slots = i.no_slots;
      full_dead = behind_full_dead c conns s a k y0 rest is i.full_dead;
      ok_reply = behind_ok_reply c conns s a k y0 rest is i.ok_reply;
      no_reply = behind_no_reply c conns s a k y0 rest is i.no_reply;
      kept_reply = behind_kept_reply c conns s a k y0 rest is i.kept_reply;
      first_reply = behind_first_reply c conns s a k y0 rest is i.first_reply;
      closed_not = i.closed_not;
      kept_files = i.kept_files;
      left_full = behind_left_full c conns s a k y0 rest is i.left_full;
      left_stuck = behind_left_stuck c conns s a k y0 rest is i.left_stuck;
      left_idle = behind_left_idle c conns s a k y0 rest is i.left_idle;
      close_done = behind_close_done c conns s a k y0 rest is i.close_done;
      close_full = behind_close_full c conns s a k y0 rest is i.close_full;
      close_stuck = behind_close_stuck c conns s a k y0 rest is i.close_stuck;
      made_plain = i.made_plain;
      at_most = i.at_most;
      ok_acted = i.ok_acted;
      refused_not = i.refused_not;
    }
