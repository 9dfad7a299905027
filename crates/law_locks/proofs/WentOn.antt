-- Written by tools/law_locks.py. A dialog goes on.
use Rattle.std.proofs.Common.{ℕ}
use Rattle.spec_exchange.specs.State.{Server, Reply}
use Rattle.spec_exchange.specs.Client.{Client, Stage}
use Rattle.spec_exchange.specs.Dialogs.{went_on}
use Rattle.spec_exchange.specs.Network.{Conn}
use Rattle.law_locks.specs.Locks.{Locks}

pub went_on_keeps : (c : Client) (conns : ℕ → Conn) (s : Server) (a : ℕ → ℕ) (k : ℕ) (stage : Stage) (r0 : Reply)
    → Locks c conns s a → Locks (went_on c k stage r0) conns s a
went_on_keeps c conns s a k stage r0 i =
    record {
      slot_index = i.slot_index;
      user_body = i.user_body;
      in_use = i.in_use;
      full_free = i.full_free;
      attached_low = i.attached_low;
      shut_ok = i.shut_ok;
      shut_made = i.shut_made;
      shut_gone = i.shut_gone;
      close_before = i.close_before;
      close_after = i.close_after;
      unsent_gone = i.unsent_gone;
      unanswered = i.unanswered;
      ask_up = i.ask_up;
      ask_down = i.ask_down;
      users = i.users;
      copy_now = i.copy_now;
      retried_on = i.retried_on;
      retried_done = i.retried_done;
      copy_attached = i.copy_attached;
      now_attached = i.now_attached;
      opened_reply = i.opened_reply;
      join_reply = i.join_reply;
      joined_reply = i.joined_reply;
      lost_reply = i.lost_reply;
      kept_says = i.kept_says;
      not_kept = i.not_kept;
      firm_kept = i.firm_kept;
      no_user = i.no_user;
      no_slots = i.no_slots;
      full_dead = i.full_dead;
      ok_reply = i.ok_reply;
      no_reply = i.no_reply;
      kept_reply = i.kept_reply;
      first_reply = i.first_reply;
      closed_not = i.closed_not;
      kept_files = i.kept_files;
      left_full = i.left_full;
      left_stuck = i.left_stuck;
      left_idle = i.left_idle;
      close_done = i.close_done;
      close_full = i.close_full;
      close_stuck = i.close_stuck;
      made_plain = i.made_plain;
      at_most = i.at_most;
      ok_acted = i.ok_acted;
      refused_not = i.refused_not;
    }
