-- Written by tools/law_locks.py. An operation is answered and isn't settled.
use Rattle.std.proofs.Common.{ℕ, arith}
use Rattle.spec_exchange.specs.State.{Server}
use Rattle.spec_exchange.specs.Client.{Client}
use Rattle.spec_exchange.specs.Settling.{answered}
use Rattle.spec_exchange.specs.Network.{Conn}
use Rattle.law_locks.specs.Locks.{Locks, RetriedOn}

answered_retried_on : (c : Client) (conns : ℕ → Conn) (s : Server) (a : ℕ → ℕ) (g : ℕ) → RetriedOn c conns s
    → RetriedOn (answered c g) conns s
answered_retried_on c conns s a g i_retried_on =
    λ j n p x. let old = i_retried_on j n p x in grind arith

pub answered_keeps : (c : Client) (conns : ℕ → Conn) (s : Server) (a : ℕ → ℕ) (g : ℕ) → Locks c conns s a → Locks (answered c g) conns s a
answered_keeps c conns s a g i =
    record {
      slot_index = i.slot_index;
      user_body = i.user_body;
      in_use = i.in_use;
      full_free = i.full_free;
      attached_low = i.attached_low;
      shut_ok = i.shut_ok;
      shut_made = i.shut_made;
      shut_gone = i.shut_gone;
      close_before = i.close_before;
      close_after = i.close_after;
      unsent_gone = i.unsent_gone;
      unanswered = i.unanswered;
      ask_up = i.ask_up;
      ask_down = i.ask_down;
      users = i.users;
      copy_now = i.copy_now;
      retried_on = answered_retried_on c conns s a g i.retried_on;
      retried_done = i.retried_done;
      copy_attached = i.copy_attached;
      now_attached = i.now_attached;
      opened_reply = i.opened_reply;
      join_reply = i.join_reply;
      joined_reply = i.joined_reply;
      lost_reply = i.lost_reply;
      kept_says = i.kept_says;
      not_kept = i.not_kept;
      firm_kept = i.firm_kept;
      no_user = i.no_user;
      no_slots = i.no_slots;
      full_dead = i.full_dead;
      ok_reply = i.ok_reply;
      no_reply = i.no_reply;
      kept_reply = i.kept_reply;
      first_reply = i.first_reply;
      closed_not = i.closed_not;
      kept_files = i.kept_files;
      left_full = i.left_full;
      left_stuck = i.left_stuck;
      left_idle = i.left_idle;
      close_done = i.close_done;
      close_full = i.close_full;
      close_stuck = i.close_stuck;
      made_plain = i.made_plain;
      at_most = i.at_most;
      ok_acted = i.ok_acted;
      refused_not = i.refused_not;
    }
