-- Written by tools/law_locks.py. A DH2C attached its open.
use Rattle.std.proofs.Common.{◌≡◌, ℕ, true, false, arith, Some, None}
use Rattle.spec_exchange.specs.Table.{put}
use Rattle.spec_exchange.specs.State.{Server}
use Rattle.spec_exchange.specs.Operations.{is_ok}
use Rattle.spec_exchange.specs.Client.{Client}
use Rattle.spec_exchange.specs.Network.{Conn}
use Rattle.law_sessions.specs.messages.Connections.{makes_open, create_at}
use Rattle.law_locks.specs.Locks.{Locks, AttachedLow, CopyNow, RetriedOn, NowAttached, JoinedReply, ClosedNot}

joined_attached_low : (c : Client) (conns : ℕ → Conn) (s : Server) (a : ℕ → ℕ) (g q0 : ℕ) → (q0 ≡ create_at c g)
    → AttachedLow c → AttachedLow (record c {
      outstanding_on = put c.outstanding_on g None;
      attached = put c.attached q0 c.session_number;
    })
joined_attached_low c conns s a g q0 its i_attached_low =
    λ q. let old = i_attached_low q in grind arith

joined_copy_now : (c : Client) (conns : ℕ → Conn) (s : Server) (a : ℕ → ℕ) (g q0 : ℕ) → (q0 ≡ create_at c g)
    → CopyNow c conns s → CopyNow (record c {
      outstanding_on = put c.outstanding_on g None;
      attached = put c.attached q0 c.session_number;
    }) conns s
joined_copy_now c conns s a g q0 its i_copy_now =
    λ j n p x. let old = i_copy_now j n p x in grind arith

joined_retried_on : (c : Client) (conns : ℕ → Conn) (s : Server) (a : ℕ → ℕ) (g q0 : ℕ) → (q0 ≡ create_at c g)
    → RetriedOn c conns s → RetriedOn (record c {
      outstanding_on = put c.outstanding_on g None;
      attached = put c.attached q0 c.session_number;
    }) conns s
joined_retried_on c conns s a g q0 its i_retried_on =
    λ j n p x. let old = i_retried_on j n p x in grind arith

joined_now_attached : (c : Client) (conns : ℕ → Conn) (s : Server) (a : ℕ → ℕ) (g q0 : ℕ) → (q0 ≡ create_at c g)
    → (makes_open (c.op q0) ≡ true → is_ok (c.outcome q0) ≡ true → c.live ≡ true → s.present c.session ≡ true
    → s.standing (c.file q0) ≡ true → s.session_of_open (c.file q0) ≡ Some c.session) → NowAttached c s
    → NowAttached (record c {
      outstanding_on = put c.outstanding_on g None;
      attached = put c.attached q0 c.session_number;
    }) s
joined_now_attached c conns s a g q0 its at i_now_attached =
    λ q. let old = i_now_attached q in let n1 = at in grind arith

joined_joined_reply : (c : Client) (conns : ℕ → Conn) (s : Server) (a : ℕ → ℕ) (g q0 : ℕ) → (q0 ≡ create_at c g)
    → JoinedReply c conns s → JoinedReply (record c {
      outstanding_on = put c.outstanding_on g None;
      attached = put c.attached q0 c.session_number;
    }) conns s
joined_joined_reply c conns s a g q0 its i_joined_reply =
    λ j n p y. let old = i_joined_reply j n p y in grind arith

joined_closed_not : (c : Client) (conns : ℕ → Conn) (s : Server) (a : ℕ → ℕ) (g q0 : ℕ) → (q0 ≡ create_at c g)
    → (c.live ≡ true → s.present c.session ≡ true → s.standing (c.file q0) ≡ false → c.attached q0 ≡ c.session_number)
    → ClosedNot c s a → ClosedNot (record c {
      outstanding_on = put c.outstanding_on g None;
      attached = put c.attached q0 c.session_number;
    }) s a
joined_closed_not c conns s a g q0 its was i_closed_not =
    λ p. let old = i_closed_not p in let w1 = was in grind arith

pub joined_keeps : (c : Client) (conns : ℕ → Conn) (s : Server) (a : ℕ → ℕ) (g q0 : ℕ) → (q0 ≡ create_at c g)
    → (makes_open (c.op q0) ≡ true → is_ok (c.outcome q0) ≡ true → c.live ≡ true → s.present c.session ≡ true
    → s.standing (c.file q0) ≡ true → s.session_of_open (c.file q0) ≡ Some c.session)
    → (c.live ≡ true → s.present c.session ≡ true → s.standing (c.file q0) ≡ false → c.attached q0 ≡ c.session_number)
    → Locks c conns s a → Locks (record c {
      outstanding_on = put c.outstanding_on g None;
      attached = put c.attached q0 c.session_number;
    }) conns s a
joined_keeps c conns s a g q0 its at was i =
    record {
      slot_index = i.slot_index;
      user_body = i.user_body;
      in_use = i.in_use;
      full_free = i.full_free;
      attached_low = joined_attached_low c conns s a g q0 its i.attached_low;
      shut_ok = i.shut_ok;
      shut_made = i.shut_made;
      shut_gone = i.shut_gone;
      close_before = i.close_before;
      close_after = i.close_after;
      unsent_gone = i.unsent_gone;
      unanswered = i.unanswered;
      ask_up = i.ask_up;
      ask_down = i.ask_down;
      users = i.users;
      copy_now = joined_copy_now c conns s a g q0 its i.copy_now;
      retried_on = joined_retried_on c conns s a g q0 its i.retried_on;
      retried_done = i.retried_done;
      copy_attached = i.copy_attached;
      now_attached = joined_now_attached c conns s a g q0 its at i.now_attached;
      opened_reply = i.opened_reply;
      join_reply = i.join_reply;
      joined_reply = joined_joined_reply c conns s a g q0 its i.joined_reply;
      lost_reply = i.lost_reply;
      kept_says = i.kept_says;
      not_kept = i.not_kept;
      firm_kept = i.firm_kept;
      no_user = i.no_user;
      no_slots = i.no_slots;
      full_dead = i.full_dead;
      ok_reply = i.ok_reply;
      no_reply = i.no_reply;
      kept_reply = i.kept_reply;
      first_reply = i.first_reply;
      closed_not = joined_closed_not c conns s a g q0 its was i.closed_not;
      kept_files = i.kept_files;
      left_full = i.left_full;
      left_stuck = i.left_stuck;
      left_idle = i.left_idle;
      close_done = i.close_done;
      close_full = i.close_full;
      close_stuck = i.close_stuck;
      made_plain = i.made_plain;
      at_most = i.at_most;
      ok_acted = i.ok_acted;
      refused_not = i.refused_not;
    }
