-- Written by tools/law_locks.py. The server starts anew.
use Rattle.std.proofs.Common.{ℕ, arith}
use Rattle.spec_exchange.specs.State.{Server}
use Rattle.spec_exchange.specs.Client.{Client}
use Rattle.spec_exchange.specs.Network.{Conn, server_off}
use Rattle.law_sessions.proofs.messages.Lists.{get-push}
use Rattle.law_locks.specs.Locks.{Locks, Unanswered, AskUp, Users, CopyNow, RetriedOn, RetriedDone, CopyAttached}
use Rattle.law_locks.specs.Locks.{FullDead, LeftFull, LeftStuck, LeftIdle}

all_dropped_unanswered : (c : Client) (conns : ℕ → Conn) (s : Server) (a : ℕ → ℕ) → Unanswered c conns
    → Unanswered c (λ j. server_off (conns j))
all_dropped_unanswered c conns s a i_unanswered =
    λ j n p x. let old = i_unanswered j n p x in grind (arith, get-push)

all_dropped_ask_up : (c : Client) (conns : ℕ → Conn) (s : Server) (a : ℕ → ℕ) → AskUp c conns → AskUp c (λ j. server_off (conns j))
all_dropped_ask_up c conns s a i_ask_up =
    λ j n p x. let old = i_ask_up j n p x in grind (arith, get-push)

all_dropped_users : (c : Client) (conns : ℕ → Conn) (s : Server) (a : ℕ → ℕ) → Users c conns s → Users c (λ j. server_off (conns j)) s
all_dropped_users c conns s a i_users =
    λ j n p x. let old = i_users j n p x in grind (arith, get-push)

all_dropped_copy_now : (c : Client) (conns : ℕ → Conn) (s : Server) (a : ℕ → ℕ) → CopyNow c conns s
    → CopyNow c (λ j. server_off (conns j)) s
all_dropped_copy_now c conns s a i_copy_now =
    λ j n p x. let old = i_copy_now j n p x in grind (arith, get-push)

all_dropped_retried_on : (c : Client) (conns : ℕ → Conn) (s : Server) (a : ℕ → ℕ) → RetriedOn c conns s
    → RetriedOn c (λ j. server_off (conns j)) s
all_dropped_retried_on c conns s a i_retried_on =
    λ j n p x. let old = i_retried_on j n p x in grind (arith, get-push)

all_dropped_retried_done : (c : Client) (conns : ℕ → Conn) (s : Server) (a : ℕ → ℕ) → RetriedDone c conns s
    → RetriedDone c (λ j. server_off (conns j)) s
all_dropped_retried_done c conns s a i_retried_done =
    λ j n p x. let old = i_retried_done j n p x in grind (arith, get-push)

all_dropped_copy_attached : (c : Client) (conns : ℕ → Conn) (s : Server) (a : ℕ → ℕ) → CopyAttached c conns s
    → CopyAttached c (λ j. server_off (conns j)) s
all_dropped_copy_attached c conns s a i_copy_attached =
    λ j n p x. let old = i_copy_attached j n p x in grind (arith, get-push)

all_dropped_full_dead : (c : Client) (conns : ℕ → Conn) (s : Server) (a : ℕ → ℕ) → FullDead c conns s
    → FullDead c (λ j. server_off (conns j)) s
all_dropped_full_dead c conns s a i_full_dead =
    λ j n p x. let old = i_full_dead j n p x in grind (arith, get-push)

all_dropped_left_full : (c : Client) (conns : ℕ → Conn) (s : Server) (a : ℕ → ℕ) → LeftFull c conns s
    → LeftFull c (λ j. server_off (conns j)) s
all_dropped_left_full c conns s a i_left_full =
    λ j n p x. let old = i_left_full j n p x in grind (arith, get-push)

all_dropped_left_stuck : (c : Client) (conns : ℕ → Conn) (s : Server) (a : ℕ → ℕ) → LeftStuck c conns s
    → LeftStuck c (λ j. server_off (conns j)) s
all_dropped_left_stuck c conns s a i_left_stuck =
    λ j n p x. let old = i_left_stuck j n p x in grind (arith, get-push)

all_dropped_left_idle : (c : Client) (conns : ℕ → Conn) (s : Server) (a : ℕ → ℕ) → LeftIdle c conns s a
    → LeftIdle c (λ j. server_off (conns j)) s a
all_dropped_left_idle c conns s a i_left_idle =
    λ j n p q x. let old = i_left_idle j n p q x in grind (arith, get-push)

pub all_dropped_keeps : (c : Client) (conns : ℕ → Conn) (s : Server) (a : ℕ → ℕ) → Locks c conns s a
    → Locks c (λ j. server_off (conns j)) s a
all_dropped_keeps c conns s a i =
    record {
      slot_index = i.slot_index;
      user_body = i.user_body;
      in_use = i.in_use;
      full_free = i.full_free;
      attached_low = i.attached_low;
      shut_ok = i.shut_ok;
      shut_made = i.shut_made;
      shut_gone = i.shut_gone;
      close_before = i.close_before;
      close_after = i.close_after;
      unsent_gone = i.unsent_gone;
      unanswered = all_dropped_unanswered c conns s a i.unanswered;
      ask_up = all_dropped_ask_up c conns s a i.ask_up;
      ask_down = i.ask_down;
      users = all_dropped_users c conns s a i.users;
      copy_now = all_dropped_copy_now c conns s a i.copy_now;
      retried_on = all_dropped_retried_on c conns s a i.retried_on;
      retried_done = all_dropped_retried_done c conns s a i.retried_done;
      copy_attached = all_dropped_copy_attached c conns s a i.copy_attached;
      now_attached = i.now_attached;
      opened_reply = i.opened_reply;
      join_reply = i.join_reply;
      joined_reply = i.joined_reply;
      lost_reply = i.lost_reply;
      kept_says = i.kept_says;
      not_kept = i.not_kept;
      firm_kept = i.firm_kept;
      no_user = i.no_user;
      no_slots = i.no_slots;
      full_dead = all_dropped_full_dead c conns s a i.full_dead;
      ok_reply = i.ok_reply;
      no_reply = i.no_reply;
      kept_reply = i.kept_reply;
      first_reply = i.first_reply;
      closed_not = i.closed_not;
      kept_files = i.kept_files;
      left_full = all_dropped_left_full c conns s a i.left_full;
      left_stuck = all_dropped_left_stuck c conns s a i.left_stuck;
      left_idle = all_dropped_left_idle c conns s a i.left_idle;
      close_done = i.close_done;
      close_full = i.close_full;
      close_stuck = i.close_stuck;
      made_plain = i.made_plain;
      at_most = i.at_most;
      ok_acted = i.ok_acted;
      refused_not = i.refused_not;
    }
