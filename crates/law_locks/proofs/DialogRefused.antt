-- Written by tools/law_locks.py. A dialog is refused, and the client closes its channel.
use Rattle.std.proofs.Common.{◌≡◌, ℕ, false, arith, Some, slice_get}
use Rattle.spec_exchange.specs.Table.{put}
use Rattle.spec_exchange.specs.State.{Server}
use Rattle.spec_exchange.specs.Operations.{HadStatus}
use Rattle.spec_exchange.specs.Client.{Client, note_refusal}
use Rattle.spec_exchange.specs.Network.{Conn, client_off}
use Rattle.law_sessions.specs.messages.Connections.{Connections, Outstanding, OnReady, Settled, Taken, Bodies}
use Rattle.law_sessions.proofs.messages.Lists.{get-push}
use Rattle.law_locks.specs.Locks.{Locks, Unanswered, AskUp, AskDown, Users, CopyNow, RetriedOn, RetriedDone}
use Rattle.law_locks.specs.Locks.{CopyAttached, OpenedReply, JoinReply, JoinedReply, LostReply, FullDead, OkReply}
use Rattle.law_locks.specs.Locks.{NoReply, KeptReply, FirstReply, LeftFull, LeftStuck, LeftIdle, CloseDone, CloseFull}
use Rattle.law_locks.specs.Locks.{CloseStuck}
use Rattle.law_locks.proofs.Words.{up_on}

dialog_refused_unanswered : (c : Client) (conns : ℕ → Conn) (s : Server) (a : ℕ → ℕ) (k status : ℕ)
    → (c.ready k ≡ false) → Bodies c conns → OnReady c → Outstanding c conns → Settled c → Taken c → Unanswered c conns
    → Unanswered (note_refusal c k (HadStatus status)) (put conns k (client_off (conns k)))
dialog_refused_unanswered c conns s a k status apart C_bodies C_on_ready C_outstanding C_settled C_taken i_unanswered =
    λ j n p x h t. let h' : slice_get (conns j).up n ≡ Some x = grind arith in let old = i_unanswered j n p x h' t in
    let b = C_bodies j n p x h' t in let tk = C_taken p b.0 in let on1 = up_on c conns C_outstanding j n p x h' t
    tk.0 in let rd = C_on_ready p k in let st1 = C_settled p in grind arith

dialog_refused_ask_up : (c : Client) (conns : ℕ → Conn) (s : Server) (a : ℕ → ℕ) (k status : ℕ) → (c.ready k ≡ false)
    → AskUp c conns → AskUp (note_refusal c k (HadStatus status)) (put conns k (client_off (conns k)))
dialog_refused_ask_up c conns s a k status apart i_ask_up =
    λ j n p x. let old = i_ask_up j n p x in grind arith

dialog_refused_ask_down : (c : Client) (conns : ℕ → Conn) (s : Server) (a : ℕ → ℕ) (k status : ℕ) → (c.ready k ≡ false)
    → AskDown c conns → AskDown (note_refusal c k (HadStatus status)) (put conns k (client_off (conns k)))
dialog_refused_ask_down c conns s a k status apart i_ask_down =
    λ j n p y. let old = i_ask_down j n p y in grind (arith, get-push)

dialog_refused_users : (c : Client) (conns : ℕ → Conn) (s : Server) (a : ℕ → ℕ) (k status : ℕ) → (c.ready k ≡ false)
    → Users c conns s → Users (note_refusal c k (HadStatus status)) (put conns k (client_off (conns k))) s
dialog_refused_users c conns s a k status apart i_users =
    λ j n p x. let old = i_users j n p x in grind arith

dialog_refused_copy_now : (c : Client) (conns : ℕ → Conn) (s : Server) (a : ℕ → ℕ) (k status : ℕ) → (c.ready k ≡ false)
    → CopyNow c conns s → CopyNow (note_refusal c k (HadStatus status)) (put conns k (client_off (conns k))) s
dialog_refused_copy_now c conns s a k status apart i_copy_now =
    λ j n p x. let old = i_copy_now j n p x in grind arith

dialog_refused_retried_on : (c : Client) (conns : ℕ → Conn) (s : Server) (a : ℕ → ℕ) (k status : ℕ)
    → (c.ready k ≡ false) → Bodies c conns → OnReady c → Outstanding c conns → Settled c → Taken c → RetriedOn c conns s
    → RetriedOn (note_refusal c k (HadStatus status)) (put conns k (client_off (conns k))) s
dialog_refused_retried_on c conns s a k status apart C_bodies C_on_ready C_outstanding C_settled C_taken i_retried_on =
    λ j n p x h t. let h' : slice_get (conns j).up n ≡ Some x = grind arith in let old = i_retried_on j n p x h' t in
    let b = C_bodies j n p x h' t in let tk = C_taken p b.0 in let on1 = up_on c conns C_outstanding j n p x h' t
    tk.0 in let rd = C_on_ready p k in let st1 = C_settled p in grind arith

dialog_refused_retried_done : (c : Client) (conns : ℕ → Conn) (s : Server) (a : ℕ → ℕ) (k status : ℕ)
    → (c.ready k ≡ false) → Bodies c conns → OnReady c → Outstanding c conns → Settled c → Taken c
    → RetriedDone c conns s → RetriedDone (note_refusal c k (HadStatus status)) (put conns k (client_off (conns k))) s
dialog_refused_retried_done c conns s a k status apart C_bodies C_on_ready C_outstanding C_settled C_taken i_retried_done =
    λ j n p x h t. let h' : slice_get (conns j).up n ≡ Some x = grind arith in let old = i_retried_done j n p x h' t in
    let b = C_bodies j n p x h' t in let tk = C_taken p b.0 in let on1 = up_on c conns C_outstanding j n p x h' t
    tk.0 in let rd = C_on_ready p k in let st1 = C_settled p in grind arith

dialog_refused_copy_attached : (c : Client) (conns : ℕ → Conn) (s : Server) (a : ℕ → ℕ) (k status : ℕ)
    → (c.ready k ≡ false) → CopyAttached c conns s → CopyAttached (note_refusal c k (HadStatus status))
    (put conns k (client_off (conns k))) s
dialog_refused_copy_attached c conns s a k status apart i_copy_attached =
    λ j n p x. let old = i_copy_attached j n p x in grind arith

dialog_refused_opened_reply : (c : Client) (conns : ℕ → Conn) (s : Server) (a : ℕ → ℕ) (k status : ℕ)
    → (c.ready k ≡ false) → OpenedReply c conns s → OpenedReply (note_refusal c k (HadStatus status))
    (put conns k (client_off (conns k))) s
dialog_refused_opened_reply c conns s a k status apart i_opened_reply =
    λ j n p y. let old = i_opened_reply j n p y in grind (arith, get-push)

dialog_refused_join_reply : (c : Client) (conns : ℕ → Conn) (s : Server) (a : ℕ → ℕ) (k status : ℕ)
    → (c.ready k ≡ false) → JoinReply c conns s → JoinReply (note_refusal c k (HadStatus status))
    (put conns k (client_off (conns k))) s
dialog_refused_join_reply c conns s a k status apart i_join_reply =
    λ j n p y. let old = i_join_reply j n p y in grind (arith, get-push)

dialog_refused_joined_reply : (c : Client) (conns : ℕ → Conn) (s : Server) (a : ℕ → ℕ) (k status : ℕ)
    → (c.ready k ≡ false) → JoinedReply c conns s → JoinedReply (note_refusal c k (HadStatus status))
    (put conns k (client_off (conns k))) s
dialog_refused_joined_reply c conns s a k status apart i_joined_reply =
    λ j n p y. let old = i_joined_reply j n p y in grind (arith, get-push)

dialog_refused_lost_reply : (c : Client) (conns : ℕ → Conn) (s : Server) (a : ℕ → ℕ) (k status : ℕ)
    → (c.ready k ≡ false) → LostReply c conns s → LostReply (note_refusal c k (HadStatus status))
    (put conns k (client_off (conns k))) s
dialog_refused_lost_reply c conns s a k status apart i_lost_reply =
    λ j n p y. let old = i_lost_reply j n p y in grind (arith, get-push)

dialog_refused_full_dead : (c : Client) (conns : ℕ → Conn) (s : Server) (a : ℕ → ℕ) (k status : ℕ) → (c.ready k ≡ false)
    → FullDead c conns s → FullDead (note_refusal c k (HadStatus status)) (put conns k (client_off (conns k))) s
dialog_refused_full_dead c conns s a k status apart i_full_dead =
    λ j n p x. let old = i_full_dead j n p x in grind arith

dialog_refused_ok_reply : (c : Client) (conns : ℕ → Conn) (s : Server) (a : ℕ → ℕ) (k status : ℕ) → (c.ready k ≡ false)
    → OkReply c conns a → OkReply (note_refusal c k (HadStatus status)) (put conns k (client_off (conns k))) a
dialog_refused_ok_reply c conns s a k status apart i_ok_reply =
    λ j n p y. let old = i_ok_reply j n p y in grind (arith, get-push)

dialog_refused_no_reply : (c : Client) (conns : ℕ → Conn) (s : Server) (a : ℕ → ℕ) (k status : ℕ) → (c.ready k ≡ false)
    → NoReply c conns a → NoReply (note_refusal c k (HadStatus status)) (put conns k (client_off (conns k))) a
dialog_refused_no_reply c conns s a k status apart i_no_reply =
    λ j n p y. let old = i_no_reply j n p y in grind (arith, get-push)

dialog_refused_kept_reply : (c : Client) (conns : ℕ → Conn) (s : Server) (a : ℕ → ℕ) (k status : ℕ)
    → (c.ready k ≡ false) → KeptReply c conns s → KeptReply (note_refusal c k (HadStatus status))
    (put conns k (client_off (conns k))) s
dialog_refused_kept_reply c conns s a k status apart i_kept_reply =
    λ j n p y. let old = i_kept_reply j n p y in grind (arith, get-push)

dialog_refused_first_reply : (c : Client) (conns : ℕ → Conn) (s : Server) (a : ℕ → ℕ) (k status : ℕ)
    → (c.ready k ≡ false) → FirstReply c conns a → FirstReply (note_refusal c k (HadStatus status))
    (put conns k (client_off (conns k))) a
dialog_refused_first_reply c conns s a k status apart i_first_reply =
    λ j n p y. let old = i_first_reply j n p y in grind (arith, get-push)

dialog_refused_left_full : (c : Client) (conns : ℕ → Conn) (s : Server) (a : ℕ → ℕ) (k status : ℕ) → (c.ready k ≡ false)
    → LeftFull c conns s → LeftFull (note_refusal c k (HadStatus status)) (put conns k (client_off (conns k))) s
dialog_refused_left_full c conns s a k status apart i_left_full =
    λ j n p x. let old = i_left_full j n p x in grind arith

dialog_refused_left_stuck : (c : Client) (conns : ℕ → Conn) (s : Server) (a : ℕ → ℕ) (k status : ℕ)
    → (c.ready k ≡ false) → LeftStuck c conns s → LeftStuck (note_refusal c k (HadStatus status))
    (put conns k (client_off (conns k))) s
dialog_refused_left_stuck c conns s a k status apart i_left_stuck =
    λ j n p x. let old = i_left_stuck j n p x in grind arith

dialog_refused_left_idle : (c : Client) (conns : ℕ → Conn) (s : Server) (a : ℕ → ℕ) (k status : ℕ) → (c.ready k ≡ false)
    → LeftIdle c conns s a → LeftIdle (note_refusal c k (HadStatus status)) (put conns k (client_off (conns k))) s a
dialog_refused_left_idle c conns s a k status apart i_left_idle =
    λ j n p q x. let old = i_left_idle j n p q x in grind arith

dialog_refused_close_done : (c : Client) (conns : ℕ → Conn) (s : Server) (a : ℕ → ℕ) (k status : ℕ)
    → (c.ready k ≡ false) → CloseDone c conns s → CloseDone (note_refusal c k (HadStatus status))
    (put conns k (client_off (conns k))) s
dialog_refused_close_done c conns s a k status apart i_close_done =
    λ j n p y. let old = i_close_done j n p y in grind (arith, get-push)

dialog_refused_close_full : (c : Client) (conns : ℕ → Conn) (s : Server) (a : ℕ → ℕ) (k status : ℕ)
    → (c.ready k ≡ false) → CloseFull c conns s → CloseFull (note_refusal c k (HadStatus status))
    (put conns k (client_off (conns k))) s
dialog_refused_close_full c conns s a k status apart i_close_full =
    λ j n p y. let old = i_close_full j n p y in grind (arith, get-push)

dialog_refused_close_stuck : (c : Client) (conns : ℕ → Conn) (s : Server) (a : ℕ → ℕ) (k status : ℕ)
    → (c.ready k ≡ false) → CloseStuck c conns s → CloseStuck (note_refusal c k (HadStatus status))
    (put conns k (client_off (conns k))) s
dialog_refused_close_stuck c conns s a k status apart i_close_stuck =
    λ j n p y. let old = i_close_stuck j n p y in grind (arith, get-push)

pub dialog_refused_keeps : (c : Client) (conns : ℕ → Conn) (s : Server) (a : ℕ → ℕ) (k status : ℕ) → (c.ready k ≡ false)
    → Connections c conns a → Locks c conns s a → Locks (note_refusal c k (HadStatus status))
    (put conns k (client_off (conns k))) s a
dialog_refused_keeps c conns s a k status apart C i =
    record {
      slot_index = i.slot_index;
      user_body = i.user_body;
      in_use = i.in_use;
      full_free = i.full_free;
      attached_low = i.attached_low;
      shut_ok = i.shut_ok;
      shut_made = i.shut_made;
      shut_gone = i.shut_gone;
      close_before = i.close_before;
      close_after = i.close_after;
      unsent_gone = i.unsent_gone;
      unanswered = dialog_refused_unanswered c conns s a k status apart C.bodies C.on_ready C.outstanding C.settled C.taken i.unanswered;
      ask_up = dialog_refused_ask_up c conns s a k status apart i.ask_up;
      ask_down = dialog_refused_ask_down c conns s a k status apart i.ask_down;
      users = dialog_refused_users c conns s a k status apart i.users;
      copy_now = dialog_refused_copy_now c conns s a k status apart i.copy_now;
      retried_on = dialog_refused_retried_on c conns s a k status apart C.bodies C.on_ready C.outstanding C.settled C.taken i.retried_on;
      retried_done = dialog_refused_retried_done c conns s a k status apart C.bodies C.on_ready C.outstanding C.settled
          C.taken i.retried_done;
      copy_attached = dialog_refused_copy_attached c conns s a k status apart i.copy_attached;
      now_attached = i.now_attached;
      opened_reply = dialog_refused_opened_reply c conns s a k status apart i.opened_reply;
      join_reply = dialog_refused_join_reply c conns s a k status apart i.join_reply;
      joined_reply = dialog_refused_joined_reply c conns s a k status apart i.joined_reply;
      lost_reply = dialog_refused_lost_reply c conns s a k status apart i.lost_reply;
      kept_says = i.kept_says;
      not_kept = i.not_kept;
      firm_kept = i.firm_kept;
      no_user = i.no_user;
      no_slots = i.no_slots;
      full_dead = dialog_refused_full_dead c conns s a k status apart i.full_dead;
      ok_reply = dialog_refused_ok_reply c conns s a k status apart i.ok_reply;
      no_reply = dialog_refused_no_reply c conns s a k status apart i.no_reply;
      kept_reply = dialog_refused_kept_reply c conns s a k status apart i.kept_reply;
      first_reply = dialog_refused_first_reply c conns s a k status apart i.first_reply;
      closed_not = i.closed_not;
      kept_files = i.kept_files;
      left_full = dialog_refused_left_full c conns s a k status apart i.left_full;
      left_stuck = dialog_refused_left_stuck c conns s a k status apart i.left_stuck;
      left_idle = dialog_refused_left_idle c conns s a k status apart i.left_idle;
      close_done = dialog_refused_close_done c conns s a k status apart i.close_done;
      close_full = dialog_refused_close_full c conns s a k status apart i.close_full;
      close_stuck = dialog_refused_close_stuck c conns s a k status apart i.close_stuck;
      made_plain = i.made_plain;
      at_most = i.at_most;
      ok_acted = i.ok_acted;
      refused_not = i.refused_not;
    }
