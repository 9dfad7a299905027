-- Written by tools/law_locks.py. Operations that never went out settle.
use Rattle.std.proofs.Common.{◌≡◌, ◌≢◌, ℕ, ◌<◌, true, false, arith}
use Rattle.spec_exchange.specs.State.{Server}
use Rattle.spec_exchange.specs.Operations.{Outcome, is_unsettled}
use Rattle.spec_exchange.specs.Client.{Client}
use Rattle.spec_exchange.specs.Network.{Conn}
use Rattle.law_sessions.specs.messages.Connections.{Connections, create_at, Fresh, Bodies}
use Rattle.law_locks.specs.Locks.{Locks, is_unsent, InUse, FullFree, ShutOk, ShutMade, ShutGone, CloseBefore, CloseAfter}
use Rattle.law_locks.specs.Locks.{UnsentGone, AskUp, AskDown, RetriedDone, NowAttached, FirmKept, NoUser, NoSlots}
use Rattle.law_locks.specs.Locks.{FullDead, ClosedNot, LeftFull, LeftStuck, LeftIdle, OkActed, RefusedNot}
use Rattle.law_locks.proofs.Words.{unsettled_ok, unsent_firm, unsent_ok, ok_settled, unsent_settled}

no_slot_in_use : (c : Client) (conns : ℕ → Conn) (s : Server) (a : ℕ → ℕ) (g : ℕ) (new : ℕ → Outcome) → (0 < g)
    → (is_unsettled (c.outcome g) ≡ true) → (c.sent g ≡ false) → (is_unsent (new g) ≡ true)
    → ((h : ℕ) → h ≢ g → new h ≡ c.outcome h) → InUse c → InUse (record c { outcome = new })
no_slot_in_use c conns s a g new above pending unsent own same i_in_use =
    λ p. let old = i_in_use p in let sm = same p in grind arith

no_slot_full_free : (c : Client) (conns : ℕ → Conn) (s : Server) (a : ℕ → ℕ) (g : ℕ) (new : ℕ → Outcome) → (0 < g)
    → (is_unsettled (c.outcome g) ≡ true) → (c.sent g ≡ false) → (is_unsent (new g) ≡ true)
    → ((h : ℕ) → h ≢ g → new h ≡ c.outcome h) → FullFree c → FullFree (record c { outcome = new })
no_slot_full_free c conns s a g new above pending unsent own same i_full_free =
    λ p. let old = i_full_free p in let sm = same p in grind arith

no_slot_shut_ok : (c : Client) (conns : ℕ → Conn) (s : Server) (a : ℕ → ℕ) (g : ℕ) (new : ℕ → Outcome) → (0 < g)
    → (is_unsettled (c.outcome g) ≡ true) → (c.sent g ≡ false) → (is_unsent (new g) ≡ true)
    → ((h : ℕ) → h ≢ g → new h ≡ c.outcome h) → ShutOk c → ShutOk (record c { outcome = new })
no_slot_shut_ok c conns s a g new above pending unsent own same i_shut_ok =
    λ p. let old = i_shut_ok p in let sm = same p in let so = unsent_ok (new p) in grind arith

no_slot_shut_made : (c : Client) (conns : ℕ → Conn) (s : Server) (a : ℕ → ℕ) (g : ℕ) (new : ℕ → Outcome) → (0 < g)
    → (is_unsettled (c.outcome g) ≡ true) → (c.sent g ≡ false) → (is_unsent (new g) ≡ true)
    → ((h : ℕ) → h ≢ g → new h ≡ c.outcome h) → ShutMade c → ShutMade (record c { outcome = new })
no_slot_shut_made c conns s a g new above pending unsent own same i_shut_made =
    λ q e. let old = i_shut_made q e in let sm = same q in let so = ok_settled (c.outcome q) old.0 in grind arith

no_slot_shut_gone : (c : Client) (conns : ℕ → Conn) (s : Server) (a : ℕ → ℕ) (g : ℕ) (new : ℕ → Outcome) → (0 < g)
    → (is_unsettled (c.outcome g) ≡ true) → (c.sent g ≡ false) → (is_unsent (new g) ≡ true)
    → ((h : ℕ) → h ≢ g → new h ≡ c.outcome h) → ShutGone c → ShutGone (record c { outcome = new })
no_slot_shut_gone c conns s a g new above pending unsent own same i_shut_gone =
    λ p. let old = i_shut_gone p in let sm = same p in let so = unsent_settled (new p) in grind arith

no_slot_close_before : (c : Client) (conns : ℕ → Conn) (s : Server) (a : ℕ → ℕ) (g : ℕ) (new : ℕ → Outcome) → (0 < g)
    → (is_unsettled (c.outcome g) ≡ true) → (c.sent g ≡ false) → (is_unsent (new g) ≡ true)
    → ((h : ℕ) → h ≢ g → new h ≡ c.outcome h) → CloseBefore c → CloseBefore (record c { outcome = new })
no_slot_close_before c conns s a g new above pending unsent own same i_close_before =
    λ p q. let old = i_close_before p q in let sm = same q in grind arith

no_slot_close_after : (c : Client) (conns : ℕ → Conn) (s : Server) (a : ℕ → ℕ) (g : ℕ) (new : ℕ → Outcome) → (0 < g)
    → (is_unsettled (c.outcome g) ≡ true) → (c.sent g ≡ false) → (is_unsent (new g) ≡ true)
    → ((h : ℕ) → h ≢ g → new h ≡ c.outcome h) → CloseAfter c → CloseAfter (record c { outcome = new })
no_slot_close_after c conns s a g new above pending unsent own same i_close_after =
    λ q p. let old = i_close_after q p in let sm = same p in grind arith

no_slot_unsent_gone : (c : Client) (conns : ℕ → Conn) (s : Server) (a : ℕ → ℕ) (g : ℕ) (new : ℕ → Outcome) → (0 < g)
    → (is_unsettled (c.outcome g) ≡ true) → (c.sent g ≡ false) → (is_unsent (new g) ≡ true)
    → ((h : ℕ) → h ≢ g → new h ≡ c.outcome h) → UnsentGone c → UnsentGone (record c { outcome = new })
no_slot_unsent_gone c conns s a g new above pending unsent own same i_unsent_gone =
    λ p. let old = i_unsent_gone p in let sm = same p in grind arith

no_slot_ask_up : (c : Client) (conns : ℕ → Conn) (s : Server) (a : ℕ → ℕ) (g : ℕ) (new : ℕ → Outcome) → (0 < g)
    → (is_unsettled (c.outcome g) ≡ true) → (c.sent g ≡ false) → (is_unsent (new g) ≡ true)
    → ((h : ℕ) → h ≢ g → new h ≡ c.outcome h) → AskUp c conns → AskUp (record c { outcome = new }) conns
no_slot_ask_up c conns s a g new above pending unsent own same i_ask_up =
    λ j n p x h t. let old = i_ask_up j n p x h t in let sm = same (create_at c p) in let os =
    ok_settled (c.outcome (create_at c p)) old.3 in grind arith

no_slot_ask_down : (c : Client) (conns : ℕ → Conn) (s : Server) (a : ℕ → ℕ) (g : ℕ) (new : ℕ → Outcome) → (0 < g)
    → (is_unsettled (c.outcome g) ≡ true) → (c.sent g ≡ false) → (is_unsent (new g) ≡ true)
    → ((h : ℕ) → h ≢ g → new h ≡ c.outcome h) → AskDown c conns → AskDown (record c { outcome = new }) conns
no_slot_ask_down c conns s a g new above pending unsent own same i_ask_down =
    λ j n p y h t. let old = i_ask_down j n p y h t in let sm = same (create_at c p) in let os =
    ok_settled (c.outcome (create_at c p)) old.3 in grind arith

no_slot_retried_done : (c : Client) (conns : ℕ → Conn) (s : Server) (a : ℕ → ℕ) (g : ℕ) (new : ℕ → Outcome) → (0 < g)
    → (is_unsettled (c.outcome g) ≡ true) → (c.sent g ≡ false) → (is_unsent (new g) ≡ true)
    → ((h : ℕ) → h ≢ g → new h ≡ c.outcome h) → Bodies c conns → RetriedDone c conns s → RetriedDone (record c {
      outcome = new;
    }) conns s
no_slot_retried_done c conns s a g new above pending unsent own same C_bodies i_retried_done =
    λ j n p x h t. let old = i_retried_done j n p x h t in let b = C_bodies j n p x h t in let sm = same p in grind arith

no_slot_now_attached : (c : Client) (conns : ℕ → Conn) (s : Server) (a : ℕ → ℕ) (g : ℕ) (new : ℕ → Outcome) → (0 < g)
    → (is_unsettled (c.outcome g) ≡ true) → (c.sent g ≡ false) → (is_unsent (new g) ≡ true)
    → ((h : ℕ) → h ≢ g → new h ≡ c.outcome h) → NowAttached c s → NowAttached (record c { outcome = new }) s
no_slot_now_attached c conns s a g new above pending unsent own same i_now_attached =
    λ q. let old = i_now_attached q in let sm = same q in let so = unsent_ok (new q) in grind arith

no_slot_firm_kept : (c : Client) (conns : ℕ → Conn) (s : Server) (a : ℕ → ℕ) (g : ℕ) (new : ℕ → Outcome) → (0 < g)
    → (is_unsettled (c.outcome g) ≡ true) → (c.sent g ≡ false) → (is_unsent (new g) ≡ true)
    → ((h : ℕ) → h ≢ g → new h ≡ c.outcome h) → FirmKept c s → FirmKept (record c { outcome = new }) s
no_slot_firm_kept c conns s a g new above pending unsent own same i_firm_kept =
    λ p. let old = i_firm_kept p in let sm = same p in let so = unsent_firm (new p) in grind arith

no_slot_no_user : (c : Client) (conns : ℕ → Conn) (s : Server) (a : ℕ → ℕ) (g : ℕ) (new : ℕ → Outcome) → (0 < g)
    → (is_unsettled (c.outcome g) ≡ true) → (c.sent g ≡ false) → (is_unsent (new g) ≡ true)
    → ((h : ℕ) → h ≢ g → new h ≡ c.outcome h) → NoUser c s → NoUser (record c { outcome = new }) s
no_slot_no_user c conns s a g new above pending unsent own same i_no_user =
    λ q r. let old = i_no_user q r in let sm = same q in let so = unsent_ok (new q) in grind arith

no_slot_no_slots : (c : Client) (conns : ℕ → Conn) (s : Server) (a : ℕ → ℕ) (g : ℕ) (new : ℕ → Outcome) → (0 < g)
    → (is_unsettled (c.outcome g) ≡ true) → (c.sent g ≡ false) → (is_unsent (new g) ≡ true)
    → ((h : ℕ) → h ≢ g → new h ≡ c.outcome h) → NoSlots c s → NoSlots (record c { outcome = new }) s
no_slot_no_slots c conns s a g new above pending unsent own same i_no_slots =
    λ q r o. let old = i_no_slots q r o in let sm = same q in let so = unsettled_ok (c.outcome q) in grind arith

no_slot_full_dead : (c : Client) (conns : ℕ → Conn) (s : Server) (a : ℕ → ℕ) (g : ℕ) (new : ℕ → Outcome) → (0 < g)
    → (is_unsettled (c.outcome g) ≡ true) → (c.sent g ≡ false) → (is_unsent (new g) ≡ true)
    → ((h : ℕ) → h ≢ g → new h ≡ c.outcome h) → Bodies c conns → FullDead c conns s → FullDead (record c {
      outcome = new;
    }) conns s
no_slot_full_dead c conns s a g new above pending unsent own same C_bodies i_full_dead =
    λ j n p x h t. let old = i_full_dead j n p x h t in let b = C_bodies j n p x h t in let sm = same p in grind arith

no_slot_closed_not : (c : Client) (conns : ℕ → Conn) (s : Server) (a : ℕ → ℕ) (g : ℕ) (new : ℕ → Outcome) → (0 < g)
    → (is_unsettled (c.outcome g) ≡ true) → (c.sent g ≡ false) → (is_unsent (new g) ≡ true)
    → ((h : ℕ) → h ≢ g → new h ≡ c.outcome h) → ClosedNot c s a → ClosedNot (record c { outcome = new }) s a
no_slot_closed_not c conns s a g new above pending unsent own same i_closed_not =
    λ p. let old = i_closed_not p in let sm = same p in grind arith

no_slot_left_full : (c : Client) (conns : ℕ → Conn) (s : Server) (a : ℕ → ℕ) (g : ℕ) (new : ℕ → Outcome) → (0 < g)
    → (is_unsettled (c.outcome g) ≡ true) → (c.sent g ≡ false) → (is_unsent (new g) ≡ true)
    → ((h : ℕ) → h ≢ g → new h ≡ c.outcome h) → Bodies c conns → LeftFull c conns s → LeftFull (record c {
      outcome = new;
    }) conns s
no_slot_left_full c conns s a g new above pending unsent own same C_bodies i_left_full =
    λ j n p x h t. let old = i_left_full j n p x h t in let b = C_bodies j n p x h t in let sm = same p in grind arith

no_slot_left_stuck : (c : Client) (conns : ℕ → Conn) (s : Server) (a : ℕ → ℕ) (g : ℕ) (new : ℕ → Outcome) → (0 < g)
    → (is_unsettled (c.outcome g) ≡ true) → (c.sent g ≡ false) → (is_unsent (new g) ≡ true)
    → ((h : ℕ) → h ≢ g → new h ≡ c.outcome h) → Bodies c conns → LeftStuck c conns s → LeftStuck (record c {
      outcome = new;
    }) conns s
no_slot_left_stuck c conns s a g new above pending unsent own same C_bodies i_left_stuck =
    λ j n p x h t. let old = i_left_stuck j n p x h t in let b = C_bodies j n p x h t in let sm = same p in grind arith

no_slot_left_idle : (c : Client) (conns : ℕ → Conn) (s : Server) (a : ℕ → ℕ) (g : ℕ) (new : ℕ → Outcome) → (0 < g)
    → (is_unsettled (c.outcome g) ≡ true) → (c.sent g ≡ false) → (is_unsent (new g) ≡ true)
    → ((h : ℕ) → h ≢ g → new h ≡ c.outcome h) → Bodies c conns → LeftIdle c conns s a → LeftIdle (record c {
      outcome = new;
    }) conns s a
no_slot_left_idle c conns s a g new above pending unsent own same C_bodies i_left_idle =
    λ j n p q x h t. let old = i_left_idle j n p q x h t in let b = C_bodies j n p x h t in let sm = same p in grind arith

no_slot_ok_acted : (c : Client) (conns : ℕ → Conn) (s : Server) (a : ℕ → ℕ) (g : ℕ) (new : ℕ → Outcome) → (0 < g)
    → (is_unsettled (c.outcome g) ≡ true) → (c.sent g ≡ false) → (is_unsent (new g) ≡ true)
    → ((h : ℕ) → h ≢ g → new h ≡ c.outcome h) → OkActed c a → OkActed (record c { outcome = new }) a
no_slot_ok_acted c conns s a g new above pending unsent own same i_ok_acted =
    λ p. let old = i_ok_acted p in let sm = same p in let so = unsent_ok (new p) in grind arith

no_slot_refused_not : (c : Client) (conns : ℕ → Conn) (s : Server) (a : ℕ → ℕ) (g : ℕ) (new : ℕ → Outcome) → (0 < g)
    → (is_unsettled (c.outcome g) ≡ true) → (c.sent g ≡ false) → (is_unsent (new g) ≡ true)
    → ((h : ℕ) → h ≢ g → new h ≡ c.outcome h) → Fresh c a → RefusedNot c a → RefusedNot (record c { outcome = new }) a
no_slot_refused_not c conns s a g new above pending unsent own same C_fresh i_refused_not =
    λ p. let old = i_refused_not p in let sm = same p in let fr = C_fresh p in grind arith

pub no_slot_keeps : (c : Client) (conns : ℕ → Conn) (s : Server) (a : ℕ → ℕ) (g : ℕ) (new : ℕ → Outcome) → (0 < g)
    → (is_unsettled (c.outcome g) ≡ true) → (c.sent g ≡ false) → (is_unsent (new g) ≡ true)
    → ((h : ℕ) → h ≢ g → new h ≡ c.outcome h) → Connections c conns a → Locks c conns s a → Locks (record c {
      outcome = new;
    }) conns s a
no_slot_keeps c conns s a g new above pending unsent own same C i =
    record {
      slot_index = i.slot_index;
      user_body = i.user_body;
      in_use = no_slot_in_use c conns s a g new above pending unsent own same i.in_use;
      full_free = no_slot_full_free c conns s a g new above pending unsent own same i.full_free;
      attached_low = i.attached_low;
      shut_ok = no_slot_shut_ok c conns s a g new above pending unsent own same i.shut_ok;
      shut_made = no_slot_shut_made c conns s a g new above pending unsent own same i.shut_made;
      shut_gone = no_slot_shut_gone c conns s a g new above pending unsent own same i.shut_gone;
      close_before = no_slot_close_before c conns s a g new above pending unsent own same i.close_before;
      close_after = no_slot_close_after c conns s a g new above pending unsent own same i.close_after;
      unsent_gone = no_slot_unsent_gone c conns s a g new above pending unsent own same i.unsent_gone;
      unanswered = i.unanswered;
      ask_up = no_slot_ask_up c conns s a g new above pending unsent own same i.ask_up;
      ask_down = no_slot_ask_down c conns s a g new above pending unsent own same i.ask_down;
      users = i.users;
      copy_now = i.copy_now;
      retried_on = i.retried_on;
      retried_done = no_slot_retried_done c conns s a g new above pending unsent own same C.bodies i.retried_done;
      copy_attached = i.copy_attached;
      now_attached = no_slot_now_attached c conns s a g new above pending unsent own same i.now_attached;
      opened_reply = i.opened_reply;
      join_reply = i.join_reply;
      joined_reply = i.joined_reply;
      lost_reply = i.lost_reply;
      kept_says = i.kept_says;
      not_kept = i.not_kept;
      firm_kept = no_slot_firm_kept c conns s a g new above pending unsent own same i.firm_kept;
      no_user = no_slot_no_user c conns s a g new above pending unsent own same i.no_user;
      no_slots = no_slot_no_slots c conns s a g new above pending unsent own same i.no_slots;
      full_dead = no_slot_full_dead c conns s a g new above pending unsent own same C.bodies i.full_dead;
      ok_reply = i.ok_reply;
      no_reply = i.no_reply;
      kept_reply = i.kept_reply;
      first_reply = i.first_reply;
      closed_not = no_slot_closed_not c conns s a g new above pending unsent own same i.closed_not;
      kept_files = i.kept_files;
      left_full = no_slot_left_full c conns s a g new above pending unsent own same C.bodies i.left_full;
      left_stuck = no_slot_left_stuck c conns s a g new above pending unsent own same C.bodies i.left_stuck;
      left_idle = no_slot_left_idle c conns s a g new above pending unsent own same C.bodies i.left_idle;
      close_done = i.close_done;
      close_full = i.close_full;
      close_stuck = i.close_stuck;
      made_plain = i.made_plain;
      at_most = i.at_most;
      ok_acted = no_slot_ok_acted c conns s a g new above pending unsent own same i.ok_acted;
      refused_not = no_slot_refused_not c conns s a g new above pending unsent own same C.fresh i.refused_not;
    }
