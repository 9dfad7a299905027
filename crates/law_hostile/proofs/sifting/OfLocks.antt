-- What `Locks` says stays where lists are sifted, part by part.
use Rattle.std.proofs.Common.{ℕ, arith}
use Rattle.spec_exchange.specs.Table.{put}
use Rattle.spec_exchange.specs.State.{Server}
use Rattle.spec_exchange.specs.Client.{Client}
use Rattle.spec_exchange.specs.Network.{Conn}
use Rattle.law_locks.specs.Locks.{Unanswered, AskUp, AskDown, Users, CopyNow, RetriedOn}
use Rattle.law_locks.specs.Locks.{RetriedDone, CopyAttached, OpenedReply, JoinReply, JoinedReply}
use Rattle.law_locks.specs.Locks.{LostReply, FullDead, OkReply, NoReply, KeptReply, FirstReply, LeftFull}
use Rattle.law_locks.specs.Locks.{LeftStuck, LeftIdle, CloseDone, CloseFull, CloseStuck}
use Rattle.law_hostile.specs.sifting.Sifting.{LocksSift}
use Rattle.law_hostile.proofs.sifting.Lists.{All, all}

sift_unanswered : (c : Client) (s : Server) (a : ℕ → ℕ) (old new : ℕ → Conn) → All old new → Unanswered c old → Unanswered c new
sift_unanswered c s a old new sifts was =
    λ k n g x at. let moved = (sifts k).up n x at in let same = (sifts k).client in let then_ = was k moved.0 g x moved.1 in grind arith

sift_ask_up : (c : Client) (s : Server) (a : ℕ → ℕ) (old new : ℕ → Conn) → All old new → AskUp c old → AskUp c new
sift_ask_up c s a old new sifts was =
    λ k n g x at. let moved = (sifts k).up n x at in was k moved.0 g x moved.1

sift_ask_down : (c : Client) (s : Server) (a : ℕ → ℕ) (old new : ℕ → Conn) → All old new → AskDown c old → AskDown c new
sift_ask_down c s a old new sifts was =
    λ k n g y at. let moved = (sifts k).down n y at in was k moved.0 g y moved.1

sift_users : (c : Client) (s : Server) (a : ℕ → ℕ) (old new : ℕ → Conn) → All old new → Users c old s → Users c new s
sift_users c s a old new sifts was =
    λ k n g x at. let moved = (sifts k).up n x at in was k moved.0 g x moved.1

sift_copy_now : (c : Client) (s : Server) (a : ℕ → ℕ) (old new : ℕ → Conn) → All old new → CopyNow c old s → CopyNow c new s
sift_copy_now c s a old new sifts was =
    λ k n g x at. let moved = (sifts k).up n x at in was k moved.0 g x moved.1

sift_retried_on : (c : Client) (s : Server) (a : ℕ → ℕ) (old new : ℕ → Conn) → All old new → RetriedOn c old s → RetriedOn c new s
sift_retried_on c s a old new sifts was =
    λ k n g x at. let moved = (sifts k).up n x at in let same = (sifts k).client in let then_ = was k moved.0 g x moved.1 in grind arith

sift_retried_done : (c : Client) (s : Server) (a : ℕ → ℕ) (old new : ℕ → Conn) → All old new → RetriedDone c old s → RetriedDone c new s
sift_retried_done c s a old new sifts was =
    λ k n g x at. let moved = (sifts k).up n x at in let same = (sifts k).client in let then_ = was k moved.0 g x moved.1 in grind arith

sift_copy_attached : (c : Client) (s : Server) (a : ℕ → ℕ) (old new : ℕ → Conn) → All old new → CopyAttached c old s → CopyAttached c new s
sift_copy_attached c s a old new sifts was =
    λ k n g x at. let moved = (sifts k).up n x at in was k moved.0 g x moved.1

sift_opened_reply : (c : Client) (s : Server) (a : ℕ → ℕ) (old new : ℕ → Conn) → All old new → OpenedReply c old s → OpenedReply c new s
sift_opened_reply c s a old new sifts was =
    λ k n g y at. let moved = (sifts k).down n y at in was k moved.0 g y moved.1

sift_join_reply : (c : Client) (s : Server) (a : ℕ → ℕ) (old new : ℕ → Conn) → All old new → JoinReply c old s → JoinReply c new s
sift_join_reply c s a old new sifts was =
    λ k n g y at. let moved = (sifts k).down n y at in was k moved.0 g y moved.1

sift_joined_reply : (c : Client) (s : Server) (a : ℕ → ℕ) (old new : ℕ → Conn) → All old new → JoinedReply c old s → JoinedReply c new s
sift_joined_reply c s a old new sifts was =
    λ k n g y at. let moved = (sifts k).down n y at in was k moved.0 g y moved.1

sift_lost_reply : (c : Client) (s : Server) (a : ℕ → ℕ) (old new : ℕ → Conn) → All old new → LostReply c old s → LostReply c new s
sift_lost_reply c s a old new sifts was =
    λ k n g y at. let moved = (sifts k).down n y at in was k moved.0 g y moved.1

sift_full_dead : (c : Client) (s : Server) (a : ℕ → ℕ) (old new : ℕ → Conn) → All old new → FullDead c old s → FullDead c new s
sift_full_dead c s a old new sifts was =
    λ k n g x at. let moved = (sifts k).up n x at in was k moved.0 g x moved.1

sift_ok_reply : (c : Client) (s : Server) (a : ℕ → ℕ) (old new : ℕ → Conn) → All old new → OkReply c old a → OkReply c new a
sift_ok_reply c s a old new sifts was =
    λ k n g y at. let moved = (sifts k).down n y at in was k moved.0 g y moved.1

sift_no_reply : (c : Client) (s : Server) (a : ℕ → ℕ) (old new : ℕ → Conn) → All old new → NoReply c old a → NoReply c new a
sift_no_reply c s a old new sifts was =
    λ k n g y at. let moved = (sifts k).down n y at in was k moved.0 g y moved.1

sift_kept_reply : (c : Client) (s : Server) (a : ℕ → ℕ) (old new : ℕ → Conn) → All old new → KeptReply c old s → KeptReply c new s
sift_kept_reply c s a old new sifts was =
    λ k n g y at. let moved = (sifts k).down n y at in was k moved.0 g y moved.1

sift_first_reply : (c : Client) (s : Server) (a : ℕ → ℕ) (old new : ℕ → Conn) → All old new → FirstReply c old a → FirstReply c new a
sift_first_reply c s a old new sifts was =
    λ k n g y at. let moved = (sifts k).down n y at in was k moved.0 g y moved.1

sift_left_full : (c : Client) (s : Server) (a : ℕ → ℕ) (old new : ℕ → Conn) → All old new → LeftFull c old s → LeftFull c new s
sift_left_full c s a old new sifts was =
    λ k n h x at. let moved = (sifts k).up n x at in was k moved.0 h x moved.1

sift_left_stuck : (c : Client) (s : Server) (a : ℕ → ℕ) (old new : ℕ → Conn) → All old new → LeftStuck c old s → LeftStuck c new s
sift_left_stuck c s a old new sifts was =
    λ k n h x at. let moved = (sifts k).up n x at in was k moved.0 h x moved.1

sift_left_idle : (c : Client) (s : Server) (a : ℕ → ℕ) (old new : ℕ → Conn) → All old new → LeftIdle c old s a → LeftIdle c new s a
sift_left_idle c s a old new sifts was =
    λ k n h g x at. let moved = (sifts k).up n x at in was k moved.0 h g x moved.1

sift_close_done : (c : Client) (s : Server) (a : ℕ → ℕ) (old new : ℕ → Conn) → All old new → CloseDone c old s → CloseDone c new s
sift_close_done c s a old new sifts was =
    λ k n h y at. let moved = (sifts k).down n y at in was k moved.0 h y moved.1

sift_close_full : (c : Client) (s : Server) (a : ℕ → ℕ) (old new : ℕ → Conn) → All old new → CloseFull c old s → CloseFull c new s
sift_close_full c s a old new sifts was =
    λ k n h y at. let moved = (sifts k).down n y at in was k moved.0 h y moved.1

sift_close_stuck : (c : Client) (s : Server) (a : ℕ → ℕ) (old new : ℕ → Conn) → All old new → CloseStuck c old s → CloseStuck c new s
sift_close_stuck c s a old new sifts was =
    λ k n h y at. let moved = (sifts k).down n y at in was k moved.0 h y moved.1

pub locks_sift : LocksSift
locks_sift c conns s a k d one was =
    let sifts = all conns k d one in
    record {
      slot_index = was.slot_index;
      user_body = was.user_body;
      in_use = was.in_use;
      full_free = was.full_free;
      attached_low = was.attached_low;
      shut_ok = was.shut_ok;
      shut_made = was.shut_made;
      shut_gone = was.shut_gone;
      close_before = was.close_before;
      close_after = was.close_after;
      unsent_gone = was.unsent_gone;
      unanswered = sift_unanswered c s a conns (put conns k d) sifts was.unanswered;
      ask_up = sift_ask_up c s a conns (put conns k d) sifts was.ask_up;
      ask_down = sift_ask_down c s a conns (put conns k d) sifts was.ask_down;
      users = sift_users c s a conns (put conns k d) sifts was.users;
      copy_now = sift_copy_now c s a conns (put conns k d) sifts was.copy_now;
      retried_on = sift_retried_on c s a conns (put conns k d) sifts was.retried_on;
      retried_done = sift_retried_done c s a conns (put conns k d) sifts was.retried_done;
      copy_attached = sift_copy_attached c s a conns (put conns k d) sifts was.copy_attached;
      now_attached = was.now_attached;
      opened_reply = sift_opened_reply c s a conns (put conns k d) sifts was.opened_reply;
      join_reply = sift_join_reply c s a conns (put conns k d) sifts was.join_reply;
      joined_reply = sift_joined_reply c s a conns (put conns k d) sifts was.joined_reply;
      lost_reply = sift_lost_reply c s a conns (put conns k d) sifts was.lost_reply;
      kept_says = was.kept_says;
      not_kept = was.not_kept;
      firm_kept = was.firm_kept;
      no_user = was.no_user;
      no_slots = was.no_slots;
      full_dead = sift_full_dead c s a conns (put conns k d) sifts was.full_dead;
      ok_reply = sift_ok_reply c s a conns (put conns k d) sifts was.ok_reply;
      no_reply = sift_no_reply c s a conns (put conns k d) sifts was.no_reply;
      kept_reply = sift_kept_reply c s a conns (put conns k d) sifts was.kept_reply;
      first_reply = sift_first_reply c s a conns (put conns k d) sifts was.first_reply;
      closed_not = was.closed_not;
      kept_files = was.kept_files;
      left_full = sift_left_full c s a conns (put conns k d) sifts was.left_full;
      left_stuck = sift_left_stuck c s a conns (put conns k d) sifts was.left_stuck;
      left_idle = sift_left_idle c s a conns (put conns k d) sifts was.left_idle;
      close_done = sift_close_done c s a conns (put conns k d) sifts was.close_done;
      close_full = sift_close_full c s a conns (put conns k d) sifts was.close_full;
      close_stuck = sift_close_stuck c s a conns (put conns k d) sifts was.close_stuck;
      made_plain = was.made_plain;
      at_most = was.at_most;
      ok_acted = was.ok_acted;
      refused_not = was.refused_not;
    }
