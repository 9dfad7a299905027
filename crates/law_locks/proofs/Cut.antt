-- Written by tools/law_locks.py. A ready channel is cut.
use Rattle.std.proofs.Common.{◌≡◌, ℕ, arith, Some, slice_get}
use Rattle.spec_exchange.specs.Table.{put}
use Rattle.spec_exchange.specs.State.{Server}
use Rattle.spec_exchange.specs.Client.{Client, cut_channel}
use Rattle.spec_exchange.specs.Network.{Conn, client_off}
use Rattle.law_sessions.specs.messages.Connections.{Connections, Outstanding, OwnUp, Settled, Taken, Bodies}
use Rattle.law_sessions.proofs.messages.Lists.{get-push}
use Rattle.law_locks.specs.Locks.{Locks, Unanswered, AskUp, AskDown, Users, CopyNow, RetriedOn, RetriedDone}
use Rattle.law_locks.specs.Locks.{CopyAttached, OpenedReply, JoinReply, JoinedReply, LostReply, FullDead, OkReply}
use Rattle.law_locks.specs.Locks.{NoReply, KeptReply, FirstReply, LeftFull, LeftStuck, LeftIdle, CloseDone, CloseFull}
use Rattle.law_locks.specs.Locks.{CloseStuck}
use Rattle.law_locks.proofs.Words.{up_on}

cut_unanswered : (c : Client) (conns : ℕ → Conn) (s : Server) (a : ℕ → ℕ) (k : ℕ) → Bodies c conns → Outstanding c conns
    → OwnUp c conns → Taken c → Unanswered c conns → Unanswered (cut_channel c k) (put conns k (client_off (conns k)))
cut_unanswered c conns s a k C_bodies C_outstanding C_own_up C_taken i_unanswered =
    λ j n p x h t. let h' : slice_get (conns j).up n ≡ Some x = grind arith in let old = i_unanswered j n p x h' t in
    let h' : slice_get (conns j).up n ≡ Some x = grind arith in let b = C_bodies j n p x h' t in let tk =
    C_taken p b.0 in let on1 = up_on c conns C_outstanding j n p x h' t tk.0 in let ou = C_own_up j n p x h' in
    grind arith

cut_ask_up : (c : Client) (conns : ℕ → Conn) (s : Server) (a : ℕ → ℕ) (k : ℕ) → AskUp c conns → AskUp (cut_channel c k)
    (put conns k (client_off (conns k)))
cut_ask_up c conns s a k i_ask_up =
    λ j n p x. let old = i_ask_up j n p x in grind arith

cut_ask_down : (c : Client) (conns : ℕ → Conn) (s : Server) (a : ℕ → ℕ) (k : ℕ) → AskDown c conns
    → AskDown (cut_channel c k) (put conns k (client_off (conns k)))
cut_ask_down c conns s a k i_ask_down =
    λ j n p y. let old = i_ask_down j n p y in grind (arith, get-push)

cut_users : (c : Client) (conns : ℕ → Conn) (s : Server) (a : ℕ → ℕ) (k : ℕ) → Users c conns s → Users (cut_channel c k)
    (put conns k (client_off (conns k))) s
cut_users c conns s a k i_users =
    λ j n p x. let old = i_users j n p x in grind arith

cut_copy_now : (c : Client) (conns : ℕ → Conn) (s : Server) (a : ℕ → ℕ) (k : ℕ) → CopyNow c conns s
    → CopyNow (cut_channel c k) (put conns k (client_off (conns k))) s
cut_copy_now c conns s a k i_copy_now =
    λ j n p x. let old = i_copy_now j n p x in grind arith

cut_retried_on : (c : Client) (conns : ℕ → Conn) (s : Server) (a : ℕ → ℕ) (k : ℕ) → Bodies c conns → Outstanding c conns
    → OwnUp c conns → Settled c → Taken c → RetriedOn c conns s → RetriedOn (cut_channel c k)
    (put conns k (client_off (conns k))) s
cut_retried_on c conns s a k C_bodies C_outstanding C_own_up C_settled C_taken i_retried_on =
    λ j n p x h t l. let h' : slice_get (conns j).up n ≡ Some x = grind arith in let old = i_retried_on j n p x h' t l
    in let h' : slice_get (conns j).up n ≡ Some x = grind arith in let b = C_bodies j n p x h' t in let tk =
    C_taken p b.0 in let on1 = up_on c conns C_outstanding j n p x h' t tk.0 in let ou = C_own_up j n p x h' in
    let st1 = C_settled p in grind arith

cut_retried_done : (c : Client) (conns : ℕ → Conn) (s : Server) (a : ℕ → ℕ) (k : ℕ) → Bodies c conns
    → Outstanding c conns → OwnUp c conns → Settled c → Taken c → RetriedDone c conns s → RetriedDone (cut_channel c k)
    (put conns k (client_off (conns k))) s
cut_retried_done c conns s a k C_bodies C_outstanding C_own_up C_settled C_taken i_retried_done =
    λ j n p x h t l. let h' : slice_get (conns j).up n ≡ Some x = grind arith in let old = i_retried_done j n p x h' t l
    in let h' : slice_get (conns j).up n ≡ Some x = grind arith in let b = C_bodies j n p x h' t in let tk =
    C_taken p b.0 in let on1 = up_on c conns C_outstanding j n p x h' t tk.0 in let ou = C_own_up j n p x h' in
    let st1 = C_settled p in grind arith

cut_copy_attached : (c : Client) (conns : ℕ → Conn) (s : Server) (a : ℕ → ℕ) (k : ℕ) → CopyAttached c conns s
    → CopyAttached (cut_channel c k) (put conns k (client_off (conns k))) s
cut_copy_attached c conns s a k i_copy_attached =
    λ j n p x. let old = i_copy_attached j n p x in grind arith

cut_opened_reply : (c : Client) (conns : ℕ → Conn) (s : Server) (a : ℕ → ℕ) (k : ℕ) → OpenedReply c conns s
    → OpenedReply (cut_channel c k) (put conns k (client_off (conns k))) s
cut_opened_reply c conns s a k i_opened_reply =
    λ j n p y. let old = i_opened_reply j n p y in grind (arith, get-push)

cut_join_reply : (c : Client) (conns : ℕ → Conn) (s : Server) (a : ℕ → ℕ) (k : ℕ) → JoinReply c conns s
    → JoinReply (cut_channel c k) (put conns k (client_off (conns k))) s
cut_join_reply c conns s a k i_join_reply =
    λ j n p y. let old = i_join_reply j n p y in grind (arith, get-push)

cut_joined_reply : (c : Client) (conns : ℕ → Conn) (s : Server) (a : ℕ → ℕ) (k : ℕ) → JoinedReply c conns s
    → JoinedReply (cut_channel c k) (put conns k (client_off (conns k))) s
cut_joined_reply c conns s a k i_joined_reply =
    λ j n p y. let old = i_joined_reply j n p y in grind (arith, get-push)

cut_lost_reply : (c : Client) (conns : ℕ → Conn) (s : Server) (a : ℕ → ℕ) (k : ℕ) → LostReply c conns s
    → LostReply (cut_channel c k) (put conns k (client_off (conns k))) s
cut_lost_reply c conns s a k i_lost_reply =
    λ j n p y. let old = i_lost_reply j n p y in grind (arith, get-push)

cut_full_dead : (c : Client) (conns : ℕ → Conn) (s : Server) (a : ℕ → ℕ) (k : ℕ) → FullDead c conns s
    → FullDead (cut_channel c k) (put conns k (client_off (conns k))) s
cut_full_dead c conns s a k i_full_dead =
    λ j n p x. let old = i_full_dead j n p x in grind arith

cut_ok_reply : (c : Client) (conns : ℕ → Conn) (s : Server) (a : ℕ → ℕ) (k : ℕ) → OkReply c conns a
    → OkReply (cut_channel c k) (put conns k (client_off (conns k))) a
cut_ok_reply c conns s a k i_ok_reply =
    λ j n p y. let old = i_ok_reply j n p y in grind (arith, get-push)

cut_no_reply : (c : Client) (conns : ℕ → Conn) (s : Server) (a : ℕ → ℕ) (k : ℕ) → NoReply c conns a
    → NoReply (cut_channel c k) (put conns k (client_off (conns k))) a
cut_no_reply c conns s a k i_no_reply =
    λ j n p y. let old = i_no_reply j n p y in grind (arith, get-push)

cut_kept_reply : (c : Client) (conns : ℕ → Conn) (s : Server) (a : ℕ → ℕ) (k : ℕ) → KeptReply c conns s
    → KeptReply (cut_channel c k) (put conns k (client_off (conns k))) s
cut_kept_reply c conns s a k i_kept_reply =
    λ j n p y. let old = i_kept_reply j n p y in grind (arith, get-push)

cut_first_reply : (c : Client) (conns : ℕ → Conn) (s : Server) (a : ℕ → ℕ) (k : ℕ) → FirstReply c conns a
    → FirstReply (cut_channel c k) (put conns k (client_off (conns k))) a
cut_first_reply c conns s a k i_first_reply =
    λ j n p y. let old = i_first_reply j n p y in grind (arith, get-push)

cut_left_full : (c : Client) (conns : ℕ → Conn) (s : Server) (a : ℕ → ℕ) (k : ℕ) → LeftFull c conns s
    → LeftFull (cut_channel c k) (put conns k (client_off (conns k))) s
cut_left_full c conns s a k i_left_full =
    λ j n p x. let old = i_left_full j n p x in grind arith

cut_left_stuck : (c : Client) (conns : ℕ → Conn) (s : Server) (a : ℕ → ℕ) (k : ℕ) → LeftStuck c conns s
    → LeftStuck (cut_channel c k) (put conns k (client_off (conns k))) s
cut_left_stuck c conns s a k i_left_stuck =
    λ j n p x. let old = i_left_stuck j n p x in grind arith

cut_left_idle : (c : Client) (conns : ℕ → Conn) (s : Server) (a : ℕ → ℕ) (k : ℕ) → LeftIdle c conns s a
    → LeftIdle (cut_channel c k) (put conns k (client_off (conns k))) s a
cut_left_idle c conns s a k i_left_idle =
    λ j n p q x. let old = i_left_idle j n p q x in grind arith

cut_close_done : (c : Client) (conns : ℕ → Conn) (s : Server) (a : ℕ → ℕ) (k : ℕ) → CloseDone c conns s
    → CloseDone (cut_channel c k) (put conns k (client_off (conns k))) s
cut_close_done c conns s a k i_close_done =
    λ j n p y. let old = i_close_done j n p y in grind (arith, get-push)

cut_close_full : (c : Client) (conns : ℕ → Conn) (s : Server) (a : ℕ → ℕ) (k : ℕ) → CloseFull c conns s
    → CloseFull (cut_channel c k) (put conns k (client_off (conns k))) s
cut_close_full c conns s a k i_close_full =
    λ j n p y. let old = i_close_full j n p y in grind (arith, get-push)

cut_close_stuck : (c : Client) (conns : ℕ → Conn) (s : Server) (a : ℕ → ℕ) (k : ℕ) → CloseStuck c conns s
    → CloseStuck (cut_channel c k) (put conns k (client_off (conns k))) s
cut_close_stuck c conns s a k i_close_stuck =
    λ j n p y. let old = i_close_stuck j n p y in grind (arith, get-push)

pub cut_keeps : (c : Client) (conns : ℕ → Conn) (s : Server) (a : ℕ → ℕ) (k : ℕ) → Connections c conns a
    → Locks c conns s a → Locks (cut_channel c k) (put conns k (client_off (conns k))) s a
cut_keeps c conns s a k C i =
    record {
      slot_index = i.slot_index;
      user_body = i.user_body;
      in_use = i.in_use;
      full_free = i.full_free;
      attached_low = i.attached_low;
      shut_ok = i.shut_ok;
      shut_made = i.shut_made;
      shut_gone = i.shut_gone;
      close_before = i.close_before;
      close_after = i.close_after;
      unsent_gone = i.unsent_gone;
      unanswered = cut_unanswered c conns s a k C.bodies C.outstanding C.own_up C.taken i.unanswered;
      ask_up = cut_ask_up c conns s a k i.ask_up;
      ask_down = cut_ask_down c conns s a k i.ask_down;
      users = cut_users c conns s a k i.users;
      copy_now = cut_copy_now c conns s a k i.copy_now;
      retried_on = cut_retried_on c conns s a k C.bodies C.outstanding C.own_up C.settled C.taken i.retried_on;
      retried_done = cut_retried_done c conns s a k C.bodies C.outstanding C.own_up C.settled C.taken i.retried_done;
      copy_attached = cut_copy_attached c conns s a k i.copy_attached;
      now_attached = i.now_attached;
      opened_reply = cut_opened_reply c conns s a k i.opened_reply;
      join_reply = cut_join_reply c conns s a k i.join_reply;
      joined_reply = cut_joined_reply c conns s a k i.joined_reply;
      lost_reply = cut_lost_reply c conns s a k i.lost_reply;
      kept_says = i.kept_says;
      not_kept = i.not_kept;
      firm_kept = i.firm_kept;
      no_user = i.no_user;
      no_slots = i.no_slots;
      full_dead = cut_full_dead c conns s a k i.full_dead;
      ok_reply = cut_ok_reply c conns s a k i.ok_reply;
      no_reply = cut_no_reply c conns s a k i.no_reply;
      kept_reply = cut_kept_reply c conns s a k i.kept_reply;
      first_reply = cut_first_reply c conns s a k i.first_reply;
      closed_not = i.closed_not;
      kept_files = i.kept_files;
      left_full = cut_left_full c conns s a k i.left_full;
      left_stuck = cut_left_stuck c conns s a k i.left_stuck;
      left_idle = cut_left_idle c conns s a k i.left_idle;
      close_done = cut_close_done c conns s a k i.close_done;
      close_full = cut_close_full c conns s a k i.close_full;
      close_stuck = cut_close_stuck c conns s a k i.close_stuck;
      made_plain = i.made_plain;
      at_most = i.at_most;
      ok_acted = i.ok_acted;
      refused_not = i.refused_not;
    }
