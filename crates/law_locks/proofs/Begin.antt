-- Written by tools/law_locks.py. An operation other than a lock goes out first.
use Rattle.std.proofs.Common.{◌≡◌, ℕ, ◌<◌, true, false, arith}
use Rattle.spec_exchange.specs.Table.{put}
use Rattle.spec_exchange.specs.State.{Server}
use Rattle.spec_exchange.specs.Operations.{is_unsettled, is_ok}
use Rattle.spec_exchange.specs.Client.{Client}
use Rattle.spec_exchange.specs.Network.{Conn}
use Rattle.law_sessions.specs.messages.Connections.{makes_open, shuts_open, create_at}
use Rattle.law_locks.specs.Locks.{Locks, locking, SlotIndex, UserBody, InUse, FullFree, ShutGone, CloseBefore}
use Rattle.law_locks.specs.Locks.{CloseAfter, UnsentGone, ClosedNot}
use Rattle.law_locks.proofs.Words.{unsettled_unsent}

begin_slot_index : (c : Client) (conns : ℕ → Conn) (s : Server) (a : ℕ → ℕ) (g : ℕ) → (c.sent g ≡ false)
    → (locking (c.op g) ≡ false) → (is_unsettled (c.outcome g) ≡ true) → SlotIndex c → SlotIndex (record c {
      sent = put c.sent g true;
    })
begin_slot_index c conns s a g new other pending i_slot_index =
    λ p. let old = i_slot_index p in grind arith

begin_user_body : (c : Client) (conns : ℕ → Conn) (s : Server) (a : ℕ → ℕ) (g : ℕ) → (c.sent g ≡ false)
    → (locking (c.op g) ≡ false) → (is_unsettled (c.outcome g) ≡ true) → UserBody c → UserBody (record c {
      sent = put c.sent g true;
    })
begin_user_body c conns s a g new other pending i_user_body =
    λ q r p. let old = i_user_body q r p in grind arith

begin_in_use : (c : Client) (conns : ℕ → Conn) (s : Server) (a : ℕ → ℕ) (g : ℕ) → (c.sent g ≡ false)
    → (locking (c.op g) ≡ false) → (is_unsettled (c.outcome g) ≡ true) → InUse c → InUse (record c {
      sent = put c.sent g true;
    })
begin_in_use c conns s a g new other pending i_in_use =
    λ p. let old = i_in_use p in grind arith

begin_full_free : (c : Client) (conns : ℕ → Conn) (s : Server) (a : ℕ → ℕ) (g : ℕ) → (c.sent g ≡ false)
    → (locking (c.op g) ≡ false) → (is_unsettled (c.outcome g) ≡ true) → FullFree c → FullFree (record c {
      sent = put c.sent g true;
    })
begin_full_free c conns s a g new other pending i_full_free =
    λ p. let old = i_full_free p in grind arith

begin_shut_gone : (c : Client) (conns : ℕ → Conn) (s : Server) (a : ℕ → ℕ) (g : ℕ) → (c.sent g ≡ false)
    → (locking (c.op g) ≡ false) → (is_unsettled (c.outcome g) ≡ true) → ShutGone c → ShutGone (record c {
      sent = put c.sent g true;
    })
begin_shut_gone c conns s a g new other pending i_shut_gone =
    λ p. let old = i_shut_gone p in grind arith

begin_close_before : (c : Client) (conns : ℕ → Conn) (s : Server) (a : ℕ → ℕ) (g : ℕ) → (c.sent g ≡ false)
    → (locking (c.op g) ≡ false) → (is_unsettled (c.outcome g) ≡ true) → ((h : ℕ) → 0 < h → h < g → create_at c h
    ≡ create_at c g → shuts_open (c.op h) ≡ true → is_unsettled (c.outcome h) ≡ false × is_ok (c.outcome h) ≡ false)
    → CloseBefore c → CloseBefore (record c { sent = put c.sent g true })
begin_close_before c conns s a g new other pending before i_close_before =
    λ p q. let old = i_close_before p q in let bf = before q in grind arith

begin_close_after : (c : Client) (conns : ℕ → Conn) (s : Server) (a : ℕ → ℕ) (g : ℕ) → (c.sent g ≡ false)
    → (locking (c.op g) ≡ false) → (is_unsettled (c.outcome g) ≡ true) → ((p : ℕ) → 0 < p → p < g → create_at c p
    ≡ create_at c g → makes_open (c.op p) ≡ false → shuts_open (c.op g) ≡ true → is_unsettled (c.outcome p) ≡ false)
    → CloseAfter c → CloseAfter (record c { sent = put c.sent g true })
begin_close_after c conns s a g new other pending after i_close_after =
    λ q p. let old = i_close_after q p in let af = after p in grind arith

begin_unsent_gone : (c : Client) (conns : ℕ → Conn) (s : Server) (a : ℕ → ℕ) (g : ℕ) → (c.sent g ≡ false)
    → (locking (c.op g) ≡ false) → (is_unsettled (c.outcome g) ≡ true) → UnsentGone c → UnsentGone (record c {
      sent = put c.sent g true;
    })
begin_unsent_gone c conns s a g new other pending i_unsent_gone =
    λ p. let old = i_unsent_gone p in let st = unsettled_unsent (c.outcome p) in grind arith

begin_closed_not : (c : Client) (conns : ℕ → Conn) (s : Server) (a : ℕ → ℕ) (g : ℕ) → (c.sent g ≡ false)
    → (locking (c.op g) ≡ false) → (is_unsettled (c.outcome g) ≡ true) → ClosedNot c s a → ClosedNot (record c {
      sent = put c.sent g true;
    }) s a
begin_closed_not c conns s a g new other pending i_closed_not =
    λ p. let old = i_closed_not p in grind arith

pub begin_keeps : (c : Client) (conns : ℕ → Conn) (s : Server) (a : ℕ → ℕ) (g : ℕ) → (c.sent g ≡ false)
    → (locking (c.op g) ≡ false) → (is_unsettled (c.outcome g) ≡ true) → ((h : ℕ) → 0 < h → h < g → create_at c h
    ≡ create_at c g → shuts_open (c.op h) ≡ true → is_unsettled (c.outcome h) ≡ false × is_ok (c.outcome h) ≡ false)
    → ((p : ℕ) → 0 < p → p < g → create_at c p ≡ create_at c g → makes_open (c.op p) ≡ false → shuts_open (c.op g)
    ≡ true → is_unsettled (c.outcome p) ≡ false) → Locks c conns s a → Locks (record c { sent = put c.sent g true })
    conns s a
begin_keeps c conns s a g new other pending before after i =
    record {
      slot_index = begin_slot_index c conns s a g new other pending i.slot_index;
      user_body = begin_user_body c conns s a g new other pending i.user_body;
      in_use = begin_in_use c conns s a g new other pending i.in_use;
      full_free = begin_full_free c conns s a g new other pending i.full_free;
      attached_low = i.attached_low;
      shut_ok = i.shut_ok;
      shut_made = i.shut_made;
      shut_gone = begin_shut_gone c conns s a g new other pending i.shut_gone;
      close_before = begin_close_before c conns s a g new other pending before i.close_before;
      close_after = begin_close_after c conns s a g new other pending after i.close_after;
      unsent_gone = begin_unsent_gone c conns s a g new other pending i.unsent_gone;
      unanswered = i.unanswered;
      ask_up = i.ask_up;
      ask_down = i.ask_down;
      users = i.users;
      copy_now = i.copy_now;
      retried_on = i.retried_on;
      retried_done = i.retried_done;
      copy_attached = i.copy_attached;
      now_attached = i.now_attached;
      opened_reply = i.opened_reply;
      join_reply = i.join_reply;
      joined_reply = i.joined_reply;
      lost_reply = i.lost_reply;
      kept_says = i.kept_says;
      not_kept = i.not_kept;
      firm_kept = i.firm_kept;
      no_user = i.no_user;
      no_slots = i.no_slots;
      full_dead = i.full_dead;
      ok_reply = i.ok_reply;
      no_reply = i.no_reply;
      kept_reply = i.kept_reply;
      first_reply = i.first_reply;
      closed_not = begin_closed_not c conns s a g new other pending i.closed_not;
      kept_files = i.kept_files;
      left_full = i.left_full;
      left_stuck = i.left_stuck;
      left_idle = i.left_idle;
      close_done = i.close_done;
      close_full = i.close_full;
      close_stuck = i.close_stuck;
      made_plain = i.made_plain;
      at_most = i.at_most;
      ok_acted = i.ok_acted;
      refused_not = i.refused_not;
    }
