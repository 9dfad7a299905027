-- Written by tools/law_locks.py. The session ends.
use Rattle.std.proofs.Common.{◌≡◌, ℕ, true, false, arith, Some, slice_get}
use Rattle.spec_exchange.specs.State.{Server}
use Rattle.spec_exchange.specs.Operations.{Outcome, is_unsettled, is_ok}
use Rattle.spec_exchange.specs.Client.{Client, end_session}
use Rattle.spec_exchange.specs.Network.{Conn, client_off}
use Rattle.law_sessions.specs.messages.Connections.{Connections, create_at, Outstanding, OwnUp, Taken, Fresh, Bodies}
use Rattle.law_sessions.proofs.messages.Lists.{get-push}
use Rattle.law_locks.specs.Locks.{Locks, firm, refused_for_good, InUse, FullFree, ShutOk, ShutMade, ShutGone}
use Rattle.law_locks.specs.Locks.{CloseBefore, CloseAfter, UnsentGone, Unanswered, AskUp, AskDown, CopyNow, RetriedOn}
use Rattle.law_locks.specs.Locks.{RetriedDone, NowAttached, OpenedReply, JoinReply, JoinedReply, LostReply, FirmKept}
use Rattle.law_locks.specs.Locks.{NoUser, NoSlots, FullDead, OkReply, NoReply, KeptReply, FirstReply, ClosedNot}
use Rattle.law_locks.specs.Locks.{LeftFull, LeftStuck, LeftIdle, CloseDone, CloseFull, CloseStuck, OkActed, RefusedNot}
use Rattle.law_locks.proofs.Words.{unsettled_firm, ok_settled, unsent_refused, up_on}

leave_in_use : (c : Client) (conns : ℕ → Conn) (s : Server) (a : ℕ → ℕ) (new : ℕ → Outcome)
    → ((h : ℕ) → is_unsettled (c.outcome h) ≡ false → new h ≡ c.outcome h) → InUse c → InUse (record (end_session c) {
      outcome = new;
    })
leave_in_use c conns s a new same i_in_use =
    λ p s0 l. let old = i_in_use p s0 l in let sm = same p in let uf = unsettled_firm (c.outcome p) in grind arith

leave_full_free : (c : Client) (conns : ℕ → Conn) (s : Server) (a : ℕ → ℕ) (new : ℕ → Outcome)
    → ((h : ℕ) → is_unsettled (c.outcome h) ≡ false → new h ≡ c.outcome h) → FullFree c
    → FullFree (record (end_session c) { outcome = new })
leave_full_free c conns s a new same i_full_free =
    λ p s0 l. let old = i_full_free p s0 l in let sm = same p in grind arith

leave_shut_ok : (c : Client) (conns : ℕ → Conn) (s : Server) (a : ℕ → ℕ) (new : ℕ → Outcome)
    → ((h : ℕ) → is_unsettled (c.outcome h) ≡ false → new h ≡ c.outcome h)
    → ((h : ℕ) → is_unsettled (c.outcome h) ≡ true → firm (new h) ≡ false × is_ok (new h) ≡ false) → ShutOk c
    → ShutOk (record (end_session c) { outcome = new })
leave_shut_ok c conns s a new same unfirm i_shut_ok =
    λ p. let old = i_shut_ok p in let sm = same p in let uf = unfirm p in grind arith

leave_shut_made : (c : Client) (conns : ℕ → Conn) (s : Server) (a : ℕ → ℕ) (new : ℕ → Outcome)
    → ((h : ℕ) → is_unsettled (c.outcome h) ≡ false → new h ≡ c.outcome h) → ShutMade c
    → ShutMade (record (end_session c) { outcome = new })
leave_shut_made c conns s a new same i_shut_made =
    λ q e. let old = i_shut_made q e in let sm = same q in let so = ok_settled (c.outcome q) old.0 in grind arith

leave_shut_gone : (c : Client) (conns : ℕ → Conn) (s : Server) (a : ℕ → ℕ) (new : ℕ → Outcome)
    → ((h : ℕ) → is_unsettled (c.outcome h) ≡ false → new h ≡ c.outcome h) → ShutGone c
    → ShutGone (record (end_session c) { outcome = new })
leave_shut_gone c conns s a new same i_shut_gone =
    λ p l m. let old = i_shut_gone p l m in let sm = same p in grind arith

leave_close_before : (c : Client) (conns : ℕ → Conn) (s : Server) (a : ℕ → ℕ) (new : ℕ → Outcome)
    → ((h : ℕ) → is_unsettled (c.outcome h) ≡ false → new h ≡ c.outcome h) → CloseBefore c
    → CloseBefore (record (end_session c) { outcome = new })
leave_close_before c conns s a new same i_close_before =
    λ p q. let old = i_close_before p q in let sm = same q in grind arith

leave_close_after : (c : Client) (conns : ℕ → Conn) (s : Server) (a : ℕ → ℕ) (new : ℕ → Outcome)
    → ((h : ℕ) → is_unsettled (c.outcome h) ≡ false → new h ≡ c.outcome h) → CloseAfter c
    → CloseAfter (record (end_session c) { outcome = new })
leave_close_after c conns s a new same i_close_after =
    λ q p. let old = i_close_after q p in let sm = same p in grind arith

leave_unsent_gone : (c : Client) (conns : ℕ → Conn) (s : Server) (a : ℕ → ℕ) (new : ℕ → Outcome)
    → ((h : ℕ) → is_unsettled (c.outcome h) ≡ false → new h ≡ c.outcome h)
    → ((h : ℕ) → is_unsettled (c.outcome h) ≡ true → refused_for_good (new h) ≡ true → c.sent h ≡ false) → UnsentGone c
    → UnsentGone (record (end_session c) { outcome = new })
leave_unsent_gone c conns s a new same unsent i_unsent_gone =
    λ p. let old = i_unsent_gone p in let sm = same p in let un = unsent p in let ur = unsent_refused (new p) in grind arith

leave_unanswered : (c : Client) (conns : ℕ → Conn) (s : Server) (a : ℕ → ℕ) (new : ℕ → Outcome) → Bodies c conns
    → Outstanding c conns → OwnUp c conns → Taken c → Unanswered c conns → Unanswered (record (end_session c) {
      outcome = new;
    }) (λ j. client_off (conns j))
leave_unanswered c conns s a new C_bodies C_outstanding C_own_up C_taken i_unanswered =
    λ j n p x h t. let h' : slice_get (conns j).up n ≡ Some x = grind arith in let old = i_unanswered j n p x h' t in
    let h' : slice_get (conns j).up n ≡ Some x = grind arith in let b = C_bodies j n p x h' t in let tk =
    C_taken p b.0 in let on1 = up_on c conns C_outstanding j n p x h' t tk.0 in let ou = C_own_up j n p x h' in
    grind arith

leave_ask_up : (c : Client) (conns : ℕ → Conn) (s : Server) (a : ℕ → ℕ) (new : ℕ → Outcome)
    → ((h : ℕ) → is_unsettled (c.outcome h) ≡ false → new h ≡ c.outcome h) → AskUp c conns
    → AskUp (record (end_session c) { outcome = new }) (λ j. client_off (conns j))
leave_ask_up c conns s a new same i_ask_up =
    λ j n p x h t. let old = i_ask_up j n p x h t in let sm = same (create_at c p) in let os =
    ok_settled (c.outcome (create_at c p)) old.3 in grind arith

leave_ask_down : (c : Client) (conns : ℕ → Conn) (s : Server) (a : ℕ → ℕ) (new : ℕ → Outcome) → AskDown c conns
    → AskDown (record (end_session c) { outcome = new }) (λ j. client_off (conns j))
leave_ask_down c conns s a new i_ask_down =
    λ j n p y. let old = i_ask_down j n p y in grind (arith, get-push)

leave_copy_now : (c : Client) (conns : ℕ → Conn) (s : Server) (a : ℕ → ℕ) (new : ℕ → Outcome) → CopyNow c conns s
    → CopyNow (record (end_session c) { outcome = new }) (λ j. client_off (conns j)) s
leave_copy_now c conns s a new i_copy_now =
    λ j n p x. let old = i_copy_now j n p x in grind arith

leave_retried_on : (c : Client) (conns : ℕ → Conn) (s : Server) (a : ℕ → ℕ) (new : ℕ → Outcome) → RetriedOn c conns s
    → RetriedOn (record (end_session c) { outcome = new }) (λ j. client_off (conns j)) s
leave_retried_on c conns s a new i_retried_on =
    λ j n p x. let old = i_retried_on j n p x in grind arith

leave_retried_done : (c : Client) (conns : ℕ → Conn) (s : Server) (a : ℕ → ℕ) (new : ℕ → Outcome)
    → RetriedDone c conns s → RetriedDone (record (end_session c) { outcome = new }) (λ j. client_off (conns j)) s
leave_retried_done c conns s a new i_retried_done =
    λ j n p x. let old = i_retried_done j n p x in grind arith

leave_now_attached : (c : Client) (conns : ℕ → Conn) (s : Server) (a : ℕ → ℕ) (new : ℕ → Outcome) → NowAttached c s
    → NowAttached (record (end_session c) { outcome = new }) s
leave_now_attached c conns s a new i_now_attached =
    λ q. let old = i_now_attached q in grind arith

leave_opened_reply : (c : Client) (conns : ℕ → Conn) (s : Server) (a : ℕ → ℕ) (new : ℕ → Outcome)
    → OpenedReply c conns s → OpenedReply (record (end_session c) { outcome = new }) (λ j. client_off (conns j)) s
leave_opened_reply c conns s a new i_opened_reply =
    λ j n p y. let old = i_opened_reply j n p y in grind (arith, get-push)

leave_join_reply : (c : Client) (conns : ℕ → Conn) (s : Server) (a : ℕ → ℕ) (new : ℕ → Outcome) → JoinReply c conns s
    → JoinReply (record (end_session c) { outcome = new }) (λ j. client_off (conns j)) s
leave_join_reply c conns s a new i_join_reply =
    λ j n p y. let old = i_join_reply j n p y in grind (arith, get-push)

leave_joined_reply : (c : Client) (conns : ℕ → Conn) (s : Server) (a : ℕ → ℕ) (new : ℕ → Outcome)
    → JoinedReply c conns s → JoinedReply (record (end_session c) { outcome = new }) (λ j. client_off (conns j)) s
leave_joined_reply c conns s a new i_joined_reply =
    λ j n p y. let old = i_joined_reply j n p y in grind (arith, get-push)

leave_lost_reply : (c : Client) (conns : ℕ → Conn) (s : Server) (a : ℕ → ℕ) (new : ℕ → Outcome) → LostReply c conns s
    → LostReply (record (end_session c) { outcome = new }) (λ j. client_off (conns j)) s
leave_lost_reply c conns s a new i_lost_reply =
    λ j n p y. let old = i_lost_reply j n p y in grind (arith, get-push)

leave_firm_kept : (c : Client) (conns : ℕ → Conn) (s : Server) (a : ℕ → ℕ) (new : ℕ → Outcome)
    → ((h : ℕ) → is_unsettled (c.outcome h) ≡ false → new h ≡ c.outcome h)
    → ((h : ℕ) → is_unsettled (c.outcome h) ≡ true → firm (new h) ≡ false × is_ok (new h) ≡ false) → FirmKept c s
    → FirmKept (record (end_session c) { outcome = new }) s
leave_firm_kept c conns s a new same unfirm i_firm_kept =
    λ p e. let old = i_firm_kept p e in let sm = same p in let uf = unfirm p in grind arith

leave_no_user : (c : Client) (conns : ℕ → Conn) (s : Server) (a : ℕ → ℕ) (new : ℕ → Outcome)
    → ((h : ℕ) → is_unsettled (c.outcome h) ≡ false → new h ≡ c.outcome h)
    → ((h : ℕ) → is_unsettled (c.outcome h) ≡ true → firm (new h) ≡ false × is_ok (new h) ≡ false) → NoUser c s
    → NoUser (record (end_session c) { outcome = new }) s
leave_no_user c conns s a new same unfirm i_no_user =
    λ q r. let old = i_no_user q r in let sm = same q in let uf = unfirm q in grind arith

leave_no_slots : (c : Client) (conns : ℕ → Conn) (s : Server) (a : ℕ → ℕ) (new : ℕ → Outcome)
    → ((h : ℕ) → is_unsettled (c.outcome h) ≡ false → new h ≡ c.outcome h) → NoSlots c s
    → NoSlots (record (end_session c) { outcome = new }) s
leave_no_slots c conns s a new same i_no_slots =
    λ q r o m. let old = i_no_slots q r o m in let sm = same q in let os = ok_settled (c.outcome q) in grind arith

leave_full_dead : (c : Client) (conns : ℕ → Conn) (s : Server) (a : ℕ → ℕ) (new : ℕ → Outcome)
    → ((h : ℕ) → is_unsettled (c.outcome h) ≡ false → new h ≡ c.outcome h)
    → ((h : ℕ) → is_unsettled (c.outcome h) ≡ true → firm (new h) ≡ false × is_ok (new h) ≡ false) → FullDead c conns s
    → FullDead (record (end_session c) { outcome = new }) (λ j. client_off (conns j)) s
leave_full_dead c conns s a new same unfirm i_full_dead =
    λ j n p x h t l. let h' : slice_get (conns j).up n ≡ Some x = grind arith in let old = i_full_dead j n p x h' t l in
    let sm = same p in let uf = unfirm p in grind arith

leave_ok_reply : (c : Client) (conns : ℕ → Conn) (s : Server) (a : ℕ → ℕ) (new : ℕ → Outcome) → OkReply c conns a
    → OkReply (record (end_session c) { outcome = new }) (λ j. client_off (conns j)) a
leave_ok_reply c conns s a new i_ok_reply =
    λ j n p y. let old = i_ok_reply j n p y in grind (arith, get-push)

leave_no_reply : (c : Client) (conns : ℕ → Conn) (s : Server) (a : ℕ → ℕ) (new : ℕ → Outcome) → NoReply c conns a
    → NoReply (record (end_session c) { outcome = new }) (λ j. client_off (conns j)) a
leave_no_reply c conns s a new i_no_reply =
    λ j n p y. let old = i_no_reply j n p y in grind (arith, get-push)

leave_kept_reply : (c : Client) (conns : ℕ → Conn) (s : Server) (a : ℕ → ℕ) (new : ℕ → Outcome) → KeptReply c conns s
    → KeptReply (record (end_session c) { outcome = new }) (λ j. client_off (conns j)) s
leave_kept_reply c conns s a new i_kept_reply =
    λ j n p y. let old = i_kept_reply j n p y in grind (arith, get-push)

leave_first_reply : (c : Client) (conns : ℕ → Conn) (s : Server) (a : ℕ → ℕ) (new : ℕ → Outcome) → FirstReply c conns a
    → FirstReply (record (end_session c) { outcome = new }) (λ j. client_off (conns j)) a
leave_first_reply c conns s a new i_first_reply =
    λ j n p y. let old = i_first_reply j n p y in grind (arith, get-push)

leave_closed_not : (c : Client) (conns : ℕ → Conn) (s : Server) (a : ℕ → ℕ) (new : ℕ → Outcome) → ClosedNot c s a
    → ClosedNot (record (end_session c) { outcome = new }) s a
leave_closed_not c conns s a new i_closed_not =
    λ p. let old = i_closed_not p in grind arith

leave_left_full : (c : Client) (conns : ℕ → Conn) (s : Server) (a : ℕ → ℕ) (new : ℕ → Outcome) → LeftFull c conns s
    → LeftFull (record (end_session c) { outcome = new }) (λ j. client_off (conns j)) s
leave_left_full c conns s a new i_left_full =
    λ j n p x. let old = i_left_full j n p x in grind arith

leave_left_stuck : (c : Client) (conns : ℕ → Conn) (s : Server) (a : ℕ → ℕ) (new : ℕ → Outcome) → LeftStuck c conns s
    → LeftStuck (record (end_session c) { outcome = new }) (λ j. client_off (conns j)) s
leave_left_stuck c conns s a new i_left_stuck =
    λ j n p x. let old = i_left_stuck j n p x in grind arith

leave_left_idle : (c : Client) (conns : ℕ → Conn) (s : Server) (a : ℕ → ℕ) (new : ℕ → Outcome) → LeftIdle c conns s a
    → LeftIdle (record (end_session c) { outcome = new }) (λ j. client_off (conns j)) s a
leave_left_idle c conns s a new i_left_idle =
    λ j n p q x. let old = i_left_idle j n p q x in grind arith

leave_close_done : (c : Client) (conns : ℕ → Conn) (s : Server) (a : ℕ → ℕ) (new : ℕ → Outcome) → CloseDone c conns s
    → CloseDone (record (end_session c) { outcome = new }) (λ j. client_off (conns j)) s
leave_close_done c conns s a new i_close_done =
    λ j n p y. let old = i_close_done j n p y in grind (arith, get-push)

leave_close_full : (c : Client) (conns : ℕ → Conn) (s : Server) (a : ℕ → ℕ) (new : ℕ → Outcome) → CloseFull c conns s
    → CloseFull (record (end_session c) { outcome = new }) (λ j. client_off (conns j)) s
leave_close_full c conns s a new i_close_full =
    λ j n p y. let old = i_close_full j n p y in grind (arith, get-push)

leave_close_stuck : (c : Client) (conns : ℕ → Conn) (s : Server) (a : ℕ → ℕ) (new : ℕ → Outcome) → CloseStuck c conns s
    → CloseStuck (record (end_session c) { outcome = new }) (λ j. client_off (conns j)) s
leave_close_stuck c conns s a new i_close_stuck =
    λ j n p y. let old = i_close_stuck j n p y in grind (arith, get-push)

leave_ok_acted : (c : Client) (conns : ℕ → Conn) (s : Server) (a : ℕ → ℕ) (new : ℕ → Outcome)
    → ((h : ℕ) → is_unsettled (c.outcome h) ≡ false → new h ≡ c.outcome h)
    → ((h : ℕ) → is_unsettled (c.outcome h) ≡ true → firm (new h) ≡ false × is_ok (new h) ≡ false) → OkActed c a
    → OkActed (record (end_session c) { outcome = new }) a
leave_ok_acted c conns s a new same unfirm i_ok_acted =
    λ p l. let old = i_ok_acted p l in let sm = same p in let uf = unfirm p in grind arith

leave_refused_not : (c : Client) (conns : ℕ → Conn) (s : Server) (a : ℕ → ℕ) (new : ℕ → Outcome)
    → ((h : ℕ) → is_unsettled (c.outcome h) ≡ false → new h ≡ c.outcome h)
    → ((h : ℕ) → is_unsettled (c.outcome h) ≡ true → refused_for_good (new h) ≡ true → c.sent h ≡ false) → Fresh c a
    → RefusedNot c a → RefusedNot (record (end_session c) { outcome = new }) a
leave_refused_not c conns s a new same unsent C_fresh i_refused_not =
    λ p l. let old = i_refused_not p l in let sm = same p in let un = unsent p in let fr = C_fresh p in grind arith

pub leave_keeps : (c : Client) (conns : ℕ → Conn) (s : Server) (a : ℕ → ℕ) (new : ℕ → Outcome)
    → ((h : ℕ) → is_unsettled (c.outcome h) ≡ false → new h ≡ c.outcome h)
    → ((h : ℕ) → is_unsettled (c.outcome h) ≡ true → firm (new h) ≡ false × is_ok (new h) ≡ false)
    → ((h : ℕ) → is_unsettled (c.outcome h) ≡ true → refused_for_good (new h) ≡ true → c.sent h ≡ false)
    → Connections c conns a → Locks c conns s a → Locks (record (end_session c) { outcome = new })
    (λ j. client_off (conns j)) s a
leave_keeps c conns s a new same unfirm unsent C i =
    record {
      slot_index = i.slot_index;
      user_body = i.user_body;
      in_use = leave_in_use c conns s a new same i.in_use;
      full_free = leave_full_free c conns s a new same i.full_free;
      attached_low = i.attached_low;
      shut_ok = leave_shut_ok c conns s a new same unfirm i.shut_ok;
      shut_made = leave_shut_made c conns s a new same i.shut_made;
      shut_gone = leave_shut_gone c conns s a new same i.shut_gone;
      close_before = leave_close_before c conns s a new same i.close_before;
      close_after = leave_close_after c conns s a new same i.close_after;
      unsent_gone = leave_unsent_gone c conns s a new same unsent i.unsent_gone;
      unanswered = leave_unanswered c conns s a new C.bodies C.outstanding C.own_up C.taken i.unanswered;
      ask_up = leave_ask_up c conns s a new same i.ask_up;
      ask_down = leave_ask_down c conns s a new i.ask_down;
      users = i.users;
      copy_now = leave_copy_now c conns s a new i.copy_now;
      retried_on = leave_retried_on c conns s a new i.retried_on;
      retried_done = leave_retried_done c conns s a new i.retried_done;
      copy_attached = i.copy_attached;
      now_attached = leave_now_attached c conns s a new i.now_attached;
      opened_reply = leave_opened_reply c conns s a new i.opened_reply;
      join_reply = leave_join_reply c conns s a new i.join_reply;
      joined_reply = leave_joined_reply c conns s a new i.joined_reply;
      lost_reply = leave_lost_reply c conns s a new i.lost_reply;
      kept_says = i.kept_says;
      not_kept = i.not_kept;
      firm_kept = leave_firm_kept c conns s a new same unfirm i.firm_kept;
      no_user = leave_no_user c conns s a new same unfirm i.no_user;
      no_slots = leave_no_slots c conns s a new same i.no_slots;
      full_dead = leave_full_dead c conns s a new same unfirm i.full_dead;
      ok_reply = leave_ok_reply c conns s a new i.ok_reply;
      no_reply = leave_no_reply c conns s a new i.no_reply;
      kept_reply = leave_kept_reply c conns s a new i.kept_reply;
      first_reply = leave_first_reply c conns s a new i.first_reply;
      closed_not = leave_closed_not c conns s a new i.closed_not;
      kept_files = i.kept_files;
      left_full = leave_left_full c conns s a new i.left_full;
      left_stuck = leave_left_stuck c conns s a new i.left_stuck;
      left_idle = leave_left_idle c conns s a new i.left_idle;
      close_done = leave_close_done c conns s a new i.close_done;
      close_full = leave_close_full c conns s a new i.close_full;
      close_stuck = leave_close_stuck c conns s a new i.close_stuck;
      made_plain = i.made_plain;
      at_most = i.at_most;
      ok_acted = leave_ok_acted c conns s a new same unfirm i.ok_acted;
      refused_not = leave_refused_not c conns s a new same unsent C.fresh i.refused_not;
    }
