-- Written by tools/law_locks.py. No session can be had.
use Rattle.std.proofs.Common.{◌≡◌, ℕ, true, false, arith, Option, Some, slice_get}
use Rattle.spec_exchange.specs.State.{Server}
use Rattle.spec_exchange.specs.Operations.{Outcome, is_unsettled, is_ok}
use Rattle.spec_exchange.specs.Client.{Client}
use Rattle.spec_exchange.specs.Network.{Conn}
use Rattle.law_sessions.specs.messages.Connections.{Connections, create_at, Fresh}
use Rattle.law_locks.specs.Locks.{Locks, firm, refused_for_good, InUse, FullFree, ShutOk, ShutMade, ShutGone}
use Rattle.law_locks.specs.Locks.{CloseBefore, CloseAfter, UnsentGone, AskUp, AskDown, RetriedDone, NowAttached}
use Rattle.law_locks.specs.Locks.{FirmKept, NoUser, NoSlots, FullDead, ClosedNot, LeftFull, LeftStuck, LeftIdle, OkActed}
use Rattle.law_locks.specs.Locks.{RefusedNot}
use Rattle.law_locks.proofs.Words.{unsettled_firm, ok_settled, unsent_refused}

finish_in_use : (c : Client) (conns : ℕ → Conn) (s : Server) (a : ℕ → ℕ) (new : ℕ → Outcome) (given : ℕ → Option ℕ)
    → (c.live ≡ false) → ((h : ℕ) → is_unsettled (c.outcome h) ≡ false → new h ≡ c.outcome h) → InUse c
    → InUse (record c { outcome = new; given_up = given })
finish_in_use c conns s a new given dead same i_in_use =
    λ p s0 l. let old = i_in_use p s0 l in let sm = same p in let uf = unsettled_firm (c.outcome p) in grind arith

finish_full_free : (c : Client) (conns : ℕ → Conn) (s : Server) (a : ℕ → ℕ) (new : ℕ → Outcome) (given : ℕ → Option ℕ)
    → (c.live ≡ false) → ((h : ℕ) → is_unsettled (c.outcome h) ≡ false → new h ≡ c.outcome h) → FullFree c
    → FullFree (record c { outcome = new; given_up = given })
finish_full_free c conns s a new given dead same i_full_free =
    λ p s0 l. let old = i_full_free p s0 l in let sm = same p in grind arith

finish_shut_ok : (c : Client) (conns : ℕ → Conn) (s : Server) (a : ℕ → ℕ) (new : ℕ → Outcome) (given : ℕ → Option ℕ)
    → (c.live ≡ false) → ((h : ℕ) → is_unsettled (c.outcome h) ≡ false → new h ≡ c.outcome h)
    → ((h : ℕ) → is_unsettled (c.outcome h) ≡ true → firm (new h) ≡ false × is_ok (new h) ≡ false) → ShutOk c
    → ShutOk (record c { outcome = new; given_up = given })
finish_shut_ok c conns s a new given dead same unfirm i_shut_ok =
    λ p. let old = i_shut_ok p in let sm = same p in let uf = unfirm p in grind arith

finish_shut_made : (c : Client) (conns : ℕ → Conn) (s : Server) (a : ℕ → ℕ) (new : ℕ → Outcome) (given : ℕ → Option ℕ)
    → (c.live ≡ false) → ((h : ℕ) → is_unsettled (c.outcome h) ≡ false → new h ≡ c.outcome h) → ShutMade c
    → ShutMade (record c { outcome = new; given_up = given })
finish_shut_made c conns s a new given dead same i_shut_made =
    λ q e. let old = i_shut_made q e in let sm = same q in let so = ok_settled (c.outcome q) old.0 in grind arith

finish_shut_gone : (c : Client) (conns : ℕ → Conn) (s : Server) (a : ℕ → ℕ) (new : ℕ → Outcome) (given : ℕ → Option ℕ)
    → (c.live ≡ false) → ((h : ℕ) → is_unsettled (c.outcome h) ≡ false → new h ≡ c.outcome h) → ShutGone c
    → ShutGone (record c { outcome = new; given_up = given })
finish_shut_gone c conns s a new given dead same i_shut_gone =
    λ p l m. let old = i_shut_gone p l m in let sm = same p in grind arith

finish_close_before : (c : Client) (conns : ℕ → Conn) (s : Server) (a : ℕ → ℕ) (new : ℕ → Outcome)
    (given : ℕ → Option ℕ) → (c.live ≡ false) → ((h : ℕ) → is_unsettled (c.outcome h) ≡ false → new h ≡ c.outcome h)
    → CloseBefore c → CloseBefore (record c { outcome = new; given_up = given })
finish_close_before c conns s a new given dead same i_close_before =
    λ p q. let old = i_close_before p q in let sm = same q in grind arith

finish_close_after : (c : Client) (conns : ℕ → Conn) (s : Server) (a : ℕ → ℕ) (new : ℕ → Outcome) (given : ℕ → Option ℕ)
    → (c.live ≡ false) → ((h : ℕ) → is_unsettled (c.outcome h) ≡ false → new h ≡ c.outcome h) → CloseAfter c
    → CloseAfter (record c { outcome = new; given_up = given })
finish_close_after c conns s a new given dead same i_close_after =
    λ q p. let old = i_close_after q p in let sm = same p in grind arith

finish_unsent_gone : (c : Client) (conns : ℕ → Conn) (s : Server) (a : ℕ → ℕ) (new : ℕ → Outcome) (given : ℕ → Option ℕ)
    → (c.live ≡ false) → ((h : ℕ) → is_unsettled (c.outcome h) ≡ false → new h ≡ c.outcome h)
    → ((h : ℕ) → is_unsettled (c.outcome h) ≡ true → refused_for_good (new h) ≡ true → c.sent h ≡ false) → UnsentGone c
    → UnsentGone (record c { outcome = new; given_up = given })
finish_unsent_gone c conns s a new given dead same unsent i_unsent_gone =
    λ p. let old = i_unsent_gone p in let sm = same p in let un = unsent p in let ur = unsent_refused (new p) in grind arith

finish_ask_up : (c : Client) (conns : ℕ → Conn) (s : Server) (a : ℕ → ℕ) (new : ℕ → Outcome) (given : ℕ → Option ℕ)
    → (c.live ≡ false) → ((h : ℕ) → is_unsettled (c.outcome h) ≡ false → new h ≡ c.outcome h) → AskUp c conns
    → AskUp (record c { outcome = new; given_up = given }) conns
finish_ask_up c conns s a new given dead same i_ask_up =
    λ j n p x h t. let old = i_ask_up j n p x h t in let sm = same (create_at c p) in let os =
    ok_settled (c.outcome (create_at c p)) old.3 in grind arith

finish_ask_down : (c : Client) (conns : ℕ → Conn) (s : Server) (a : ℕ → ℕ) (new : ℕ → Outcome) (given : ℕ → Option ℕ)
    → (c.live ≡ false) → ((h : ℕ) → is_unsettled (c.outcome h) ≡ false → new h ≡ c.outcome h) → AskDown c conns
    → AskDown (record c { outcome = new; given_up = given }) conns
finish_ask_down c conns s a new given dead same i_ask_down =
    λ j n p y h t. let old = i_ask_down j n p y h t in let sm = same (create_at c p) in let os =
    ok_settled (c.outcome (create_at c p)) old.3 in grind arith

finish_retried_done : (c : Client) (conns : ℕ → Conn) (s : Server) (a : ℕ → ℕ) (new : ℕ → Outcome)
    (given : ℕ → Option ℕ) → (c.live ≡ false) → RetriedDone c conns s → RetriedDone (record c {
      outcome = new;
      given_up = given;
    }) conns s
finish_retried_done c conns s a new given dead i_retried_done =
    λ j n p x h t. let d = dead in grind arith

finish_now_attached : (c : Client) (conns : ℕ → Conn) (s : Server) (a : ℕ → ℕ) (new : ℕ → Outcome)
    (given : ℕ → Option ℕ) → (c.live ≡ false) → NowAttached c s → NowAttached (record c {
      outcome = new;
      given_up = given;
    }) s
finish_now_attached c conns s a new given dead i_now_attached =
    λ q. let d = dead in grind arith

finish_firm_kept : (c : Client) (conns : ℕ → Conn) (s : Server) (a : ℕ → ℕ) (new : ℕ → Outcome) (given : ℕ → Option ℕ)
    → (c.live ≡ false) → ((h : ℕ) → is_unsettled (c.outcome h) ≡ false → new h ≡ c.outcome h)
    → ((h : ℕ) → is_unsettled (c.outcome h) ≡ true → firm (new h) ≡ false × is_ok (new h) ≡ false) → FirmKept c s
    → FirmKept (record c { outcome = new; given_up = given }) s
finish_firm_kept c conns s a new given dead same unfirm i_firm_kept =
    λ p e. let old = i_firm_kept p e in let sm = same p in let uf = unfirm p in grind arith

finish_no_user : (c : Client) (conns : ℕ → Conn) (s : Server) (a : ℕ → ℕ) (new : ℕ → Outcome) (given : ℕ → Option ℕ)
    → (c.live ≡ false) → ((h : ℕ) → is_unsettled (c.outcome h) ≡ false → new h ≡ c.outcome h)
    → ((h : ℕ) → is_unsettled (c.outcome h) ≡ true → firm (new h) ≡ false × is_ok (new h) ≡ false) → NoUser c s
    → NoUser (record c { outcome = new; given_up = given }) s
finish_no_user c conns s a new given dead same unfirm i_no_user =
    λ q r. let old = i_no_user q r in let sm = same q in let uf = unfirm q in grind arith

finish_no_slots : (c : Client) (conns : ℕ → Conn) (s : Server) (a : ℕ → ℕ) (new : ℕ → Outcome) (given : ℕ → Option ℕ)
    → (c.live ≡ false) → ((h : ℕ) → is_unsettled (c.outcome h) ≡ false → new h ≡ c.outcome h) → NoSlots c s
    → NoSlots (record c { outcome = new; given_up = given }) s
finish_no_slots c conns s a new given dead same i_no_slots =
    λ q r o m. let old = i_no_slots q r o m in let sm = same q in let os = ok_settled (c.outcome q) in grind arith

finish_full_dead : (c : Client) (conns : ℕ → Conn) (s : Server) (a : ℕ → ℕ) (new : ℕ → Outcome) (given : ℕ → Option ℕ)
    → (c.live ≡ false) → ((h : ℕ) → is_unsettled (c.outcome h) ≡ false → new h ≡ c.outcome h)
    → ((h : ℕ) → is_unsettled (c.outcome h) ≡ true → firm (new h) ≡ false × is_ok (new h) ≡ false) → FullDead c conns s
    → FullDead (record c { outcome = new; given_up = given }) conns s
finish_full_dead c conns s a new given dead same unfirm i_full_dead =
    λ j n p x h t l. let h' : slice_get (conns j).up n ≡ Some x = grind arith in let old = i_full_dead j n p x h' t l in
    let sm = same p in let uf = unfirm p in grind arith

finish_closed_not : (c : Client) (conns : ℕ → Conn) (s : Server) (a : ℕ → ℕ) (new : ℕ → Outcome) (given : ℕ → Option ℕ)
    → (c.live ≡ false) → ClosedNot c s a → ClosedNot (record c { outcome = new; given_up = given }) s a
finish_closed_not c conns s a new given dead i_closed_not =
    λ p. let d = dead in grind arith

finish_left_full : (c : Client) (conns : ℕ → Conn) (s : Server) (a : ℕ → ℕ) (new : ℕ → Outcome) (given : ℕ → Option ℕ)
    → (c.live ≡ false) → LeftFull c conns s → LeftFull (record c { outcome = new; given_up = given }) conns s
finish_left_full c conns s a new given dead i_left_full =
    λ j n p x h t. let d = dead in grind arith

finish_left_stuck : (c : Client) (conns : ℕ → Conn) (s : Server) (a : ℕ → ℕ) (new : ℕ → Outcome) (given : ℕ → Option ℕ)
    → (c.live ≡ false) → LeftStuck c conns s → LeftStuck (record c { outcome = new; given_up = given }) conns s
finish_left_stuck c conns s a new given dead i_left_stuck =
    λ j n p x h t. let d = dead in grind arith

finish_left_idle : (c : Client) (conns : ℕ → Conn) (s : Server) (a : ℕ → ℕ) (new : ℕ → Outcome) (given : ℕ → Option ℕ)
    → (c.live ≡ false) → LeftIdle c conns s a → LeftIdle (record c { outcome = new; given_up = given }) conns s a
finish_left_idle c conns s a new given dead i_left_idle =
    λ j n p q x h t. let d = dead in grind arith

finish_ok_acted : (c : Client) (conns : ℕ → Conn) (s : Server) (a : ℕ → ℕ) (new : ℕ → Outcome) (given : ℕ → Option ℕ)
    → (c.live ≡ false) → ((h : ℕ) → is_unsettled (c.outcome h) ≡ false → new h ≡ c.outcome h)
    → ((h : ℕ) → is_unsettled (c.outcome h) ≡ true → firm (new h) ≡ false × is_ok (new h) ≡ false) → OkActed c a
    → OkActed (record c { outcome = new; given_up = given }) a
finish_ok_acted c conns s a new given dead same unfirm i_ok_acted =
    λ p l. let old = i_ok_acted p l in let sm = same p in let uf = unfirm p in grind arith

finish_refused_not : (c : Client) (conns : ℕ → Conn) (s : Server) (a : ℕ → ℕ) (new : ℕ → Outcome) (given : ℕ → Option ℕ)
    → (c.live ≡ false) → ((h : ℕ) → is_unsettled (c.outcome h) ≡ false → new h ≡ c.outcome h)
    → ((h : ℕ) → is_unsettled (c.outcome h) ≡ true → refused_for_good (new h) ≡ true → c.sent h ≡ false) → Fresh c a
    → RefusedNot c a → RefusedNot (record c { outcome = new; given_up = given }) a
finish_refused_not c conns s a new given dead same unsent C_fresh i_refused_not =
    λ p l. let old = i_refused_not p l in let sm = same p in let un = unsent p in let fr = C_fresh p in grind arith

pub finish_keeps : (c : Client) (conns : ℕ → Conn) (s : Server) (a : ℕ → ℕ) (new : ℕ → Outcome) (given : ℕ → Option ℕ)
    → (c.live ≡ false) → ((h : ℕ) → is_unsettled (c.outcome h) ≡ false → new h ≡ c.outcome h)
    → ((h : ℕ) → is_unsettled (c.outcome h) ≡ true → firm (new h) ≡ false × is_ok (new h) ≡ false)
    → ((h : ℕ) → is_unsettled (c.outcome h) ≡ true → refused_for_good (new h) ≡ true → c.sent h ≡ false)
    → Connections c conns a → Locks c conns s a → Locks (record c { outcome = new; given_up = given }) conns s a
finish_keeps c conns s a new given dead same unfirm unsent C i =
    record {
      slot_index = i.slot_index;
      user_body = i.user_body;
      in_use = finish_in_use c conns s a new given dead same i.in_use;
      full_free = finish_full_free c conns s a new given dead same i.full_free;
      attached_low = i.attached_low;
      shut_ok = finish_shut_ok c conns s a new given dead same unfirm i.shut_ok;
      shut_made = finish_shut_made c conns s a new given dead same i.shut_made;
      shut_gone = finish_shut_gone c conns s a new given dead same i.shut_gone;
      close_before = finish_close_before c conns s a new given dead same i.close_before;
      close_after = finish_close_after c conns s a new given dead same i.close_after;
      unsent_gone = finish_unsent_gone c conns s a new given dead same unsent i.unsent_gone;
      unanswered = i.unanswered;
      ask_up = finish_ask_up c conns s a new given dead same i.ask_up;
      ask_down = finish_ask_down c conns s a new given dead same i.ask_down;
      users = i.users;
      copy_now = i.copy_now;
      retried_on = i.retried_on;
      retried_done = finish_retried_done c conns s a new given dead i.retried_done;
      copy_attached = i.copy_attached;
      now_attached = finish_now_attached c conns s a new given dead i.now_attached;
      opened_reply = i.opened_reply;
      join_reply = i.join_reply;
      joined_reply = i.joined_reply;
      lost_reply = i.lost_reply;
      kept_says = i.kept_says;
      not_kept = i.not_kept;
      firm_kept = finish_firm_kept c conns s a new given dead same unfirm i.firm_kept;
      no_user = finish_no_user c conns s a new given dead same unfirm i.no_user;
      no_slots = finish_no_slots c conns s a new given dead same i.no_slots;
      full_dead = finish_full_dead c conns s a new given dead same unfirm i.full_dead;
      ok_reply = i.ok_reply;
      no_reply = i.no_reply;
      kept_reply = i.kept_reply;
      first_reply = i.first_reply;
      closed_not = finish_closed_not c conns s a new given dead i.closed_not;
      kept_files = i.kept_files;
      left_full = finish_left_full c conns s a new given dead i.left_full;
      left_stuck = finish_left_stuck c conns s a new given dead i.left_stuck;
      left_idle = finish_left_idle c conns s a new given dead i.left_idle;
      close_done = i.close_done;
      close_full = i.close_full;
      close_stuck = i.close_stuck;
      made_plain = i.made_plain;
      at_most = i.at_most;
      ok_acted = finish_ok_acted c conns s a new given dead same unfirm i.ok_acted;
      refused_not = finish_refused_not c conns s a new given dead same unsent C.fresh i.refused_not;
    }
