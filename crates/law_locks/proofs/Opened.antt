-- Written by tools/law_locks.py. A connection is made.
use Rattle.std.proofs.Common.{◌≡◌, ℕ, Bool, false, arith}
use Rattle.spec_exchange.specs.Table.{put}
use Rattle.spec_exchange.specs.State.{Server}
use Rattle.spec_exchange.specs.Client.{Client}
use Rattle.spec_exchange.specs.Dialogs.{open_channel}
use Rattle.spec_exchange.specs.Network.{Conn, fresh as fresh_conn}
use Rattle.law_sessions.proofs.messages.Lists.{get-push}
use Rattle.law_locks.specs.Locks.{Locks, Unanswered, AskUp, AskDown, Users, CopyNow, RetriedOn, RetriedDone}
use Rattle.law_locks.specs.Locks.{CopyAttached, OpenedReply, JoinReply, JoinedReply, LostReply, FullDead, OkReply}
use Rattle.law_locks.specs.Locks.{NoReply, KeptReply, FirstReply, LeftFull, LeftStuck, LeftIdle, CloseDone, CloseFull}
use Rattle.law_locks.specs.Locks.{CloseStuck}

opened_unanswered : (c : Client) (conns : ℕ → Conn) (s : Server) (a : ℕ → ℕ) (k : ℕ) (served : Bool)
    → ((conns k).client_open ≡ false) → Unanswered c conns → Unanswered (open_channel c k)
    (put conns k (fresh_conn c k served))
opened_unanswered c conns s a k served closed i_unanswered =
    λ j n p x. let old = i_unanswered j n p x in grind (arith, get-push)

opened_ask_up : (c : Client) (conns : ℕ → Conn) (s : Server) (a : ℕ → ℕ) (k : ℕ) (served : Bool)
    → ((conns k).client_open ≡ false) → AskUp c conns → AskUp (open_channel c k) (put conns k (fresh_conn c k served))
opened_ask_up c conns s a k served closed i_ask_up =
    λ j n p x. let old = i_ask_up j n p x in grind (arith, get-push)

opened_ask_down : (c : Client) (conns : ℕ → Conn) (s : Server) (a : ℕ → ℕ) (k : ℕ) (served : Bool)
    → ((conns k).client_open ≡ false) → AskDown c conns → AskDown (open_channel c k)
    (put conns k (fresh_conn c k served))
opened_ask_down c conns s a k served closed i_ask_down =
    λ j n p y. let old = i_ask_down j n p y in grind (arith, get-push)

opened_users : (c : Client) (conns : ℕ → Conn) (s : Server) (a : ℕ → ℕ) (k : ℕ) (served : Bool)
    → ((conns k).client_open ≡ false) → Users c conns s → Users (open_channel c k) (put conns k (fresh_conn c k served))
    s
opened_users c conns s a k served closed i_users =
    λ j n p x. let old = i_users j n p x in grind (arith, get-push)

opened_copy_now : (c : Client) (conns : ℕ → Conn) (s : Server) (a : ℕ → ℕ) (k : ℕ) (served : Bool)
    → ((conns k).client_open ≡ false) → CopyNow c conns s → CopyNow (open_channel c k)
    (put conns k (fresh_conn c k served)) s
opened_copy_now c conns s a k served closed i_copy_now =
    λ j n p x. let old = i_copy_now j n p x in grind (arith, get-push)

opened_retried_on : (c : Client) (conns : ℕ → Conn) (s : Server) (a : ℕ → ℕ) (k : ℕ) (served : Bool)
    → ((conns k).client_open ≡ false) → RetriedOn c conns s → RetriedOn (open_channel c k)
    (put conns k (fresh_conn c k served)) s
opened_retried_on c conns s a k served closed i_retried_on =
    λ j n p x. let old = i_retried_on j n p x in grind (arith, get-push)

opened_retried_done : (c : Client) (conns : ℕ → Conn) (s : Server) (a : ℕ → ℕ) (k : ℕ) (served : Bool)
    → ((conns k).client_open ≡ false) → RetriedDone c conns s → RetriedDone (open_channel c k)
    (put conns k (fresh_conn c k served)) s
opened_retried_done c conns s a k served closed i_retried_done =
    λ j n p x. let old = i_retried_done j n p x in grind (arith, get-push)

opened_copy_attached : (c : Client) (conns : ℕ → Conn) (s : Server) (a : ℕ → ℕ) (k : ℕ) (served : Bool)
    → ((conns k).client_open ≡ false) → CopyAttached c conns s → CopyAttached (open_channel c k)
    (put conns k (fresh_conn c k served)) s
opened_copy_attached c conns s a k served closed i_copy_attached =
    λ j n p x. let old = i_copy_attached j n p x in grind (arith, get-push)

opened_opened_reply : (c : Client) (conns : ℕ → Conn) (s : Server) (a : ℕ → ℕ) (k : ℕ) (served : Bool)
    → ((conns k).client_open ≡ false) → OpenedReply c conns s → OpenedReply (open_channel c k)
    (put conns k (fresh_conn c k served)) s
opened_opened_reply c conns s a k served closed i_opened_reply =
    λ j n p y. let old = i_opened_reply j n p y in grind (arith, get-push)

opened_join_reply : (c : Client) (conns : ℕ → Conn) (s : Server) (a : ℕ → ℕ) (k : ℕ) (served : Bool)
    → ((conns k).client_open ≡ false) → JoinReply c conns s → JoinReply (open_channel c k)
    (put conns k (fresh_conn c k served)) s
opened_join_reply c conns s a k served closed i_join_reply =
    λ j n p y. let old = i_join_reply j n p y in grind (arith, get-push)

opened_joined_reply : (c : Client) (conns : ℕ → Conn) (s : Server) (a : ℕ → ℕ) (k : ℕ) (served : Bool)
    → ((conns k).client_open ≡ false) → JoinedReply c conns s → JoinedReply (open_channel c k)
    (put conns k (fresh_conn c k served)) s
opened_joined_reply c conns s a k served closed i_joined_reply =
    λ j n p y. let old = i_joined_reply j n p y in grind (arith, get-push)

opened_lost_reply : (c : Client) (conns : ℕ → Conn) (s : Server) (a : ℕ → ℕ) (k : ℕ) (served : Bool)
    → ((conns k).client_open ≡ false) → LostReply c conns s → LostReply (open_channel c k)
    (put conns k (fresh_conn c k served)) s
opened_lost_reply c conns s a k served closed i_lost_reply =
    λ j n p y. let old = i_lost_reply j n p y in grind (arith, get-push)

opened_full_dead : (c : Client) (conns : ℕ → Conn) (s : Server) (a : ℕ → ℕ) (k : ℕ) (served : Bool)
    → ((conns k).client_open ≡ false) → FullDead c conns s → FullDead (open_channel c k)
    (put conns k (fresh_conn c k served)) s
opened_full_dead c conns s a k served closed i_full_dead =
    λ j n p x. let old = i_full_dead j n p x in grind (arith, get-push)

opened_ok_reply : (c : Client) (conns : ℕ → Conn) (s : Server) (a : ℕ → ℕ) (k : ℕ) (served : Bool)
    → ((conns k).client_open ≡ false) → OkReply c conns a → OkReply (open_channel c k)
    (put conns k (fresh_conn c k served)) a
opened_ok_reply c conns s a k served closed i_ok_reply =
    λ j n p y. let old = i_ok_reply j n p y in grind (arith, get-push)

opened_no_reply : (c : Client) (conns : ℕ → Conn) (s : Server) (a : ℕ → ℕ) (k : ℕ) (served : Bool)
    → ((conns k).client_open ≡ false) → NoReply c conns a → NoReply (open_channel c k)
    (put conns k (fresh_conn c k served)) a
opened_no_reply c conns s a k served closed i_no_reply =
    λ j n p y. let old = i_no_reply j n p y in grind (arith, get-push)

opened_kept_reply : (c : Client) (conns : ℕ → Conn) (s : Server) (a : ℕ → ℕ) (k : ℕ) (served : Bool)
    → ((conns k).client_open ≡ false) → KeptReply c conns s → KeptReply (open_channel c k)
    (put conns k (fresh_conn c k served)) s
opened_kept_reply c conns s a k served closed i_kept_reply =
    λ j n p y. let old = i_kept_reply j n p y in grind (arith, get-push)

opened_first_reply : (c : Client) (conns : ℕ → Conn) (s : Server) (a : ℕ → ℕ) (k : ℕ) (served : Bool)
    → ((conns k).client_open ≡ false) → FirstReply c conns a → FirstReply (open_channel c k)
    (put conns k (fresh_conn c k served)) a
opened_first_reply c conns s a k served closed i_first_reply =
    λ j n p y. let old = i_first_reply j n p y in grind (arith, get-push)

opened_left_full : (c : Client) (conns : ℕ → Conn) (s : Server) (a : ℕ → ℕ) (k : ℕ) (served : Bool)
    → ((conns k).client_open ≡ false) → LeftFull c conns s → LeftFull (open_channel c k)
    (put conns k (fresh_conn c k served)) s
opened_left_full c conns s a k served closed i_left_full =
    λ j n p x. let old = i_left_full j n p x in grind (arith, get-push)

opened_left_stuck : (c : Client) (conns : ℕ → Conn) (s : Server) (a : ℕ → ℕ) (k : ℕ) (served : Bool)
    → ((conns k).client_open ≡ false) → LeftStuck c conns s → LeftStuck (open_channel c k)
    (put conns k (fresh_conn c k served)) s
opened_left_stuck c conns s a k served closed i_left_stuck =
    λ j n p x. let old = i_left_stuck j n p x in grind (arith, get-push)

opened_left_idle : (c : Client) (conns : ℕ → Conn) (s : Server) (a : ℕ → ℕ) (k : ℕ) (served : Bool)
    → ((conns k).client_open ≡ false) → LeftIdle c conns s a → LeftIdle (open_channel c k)
    (put conns k (fresh_conn c k served)) s a
opened_left_idle c conns s a k served closed i_left_idle =
    λ j n p q x. let old = i_left_idle j n p q x in grind (arith, get-push)

opened_close_done : (c : Client) (conns : ℕ → Conn) (s : Server) (a : ℕ → ℕ) (k : ℕ) (served : Bool)
    → ((conns k).client_open ≡ false) → CloseDone c conns s → CloseDone (open_channel c k)
    (put conns k (fresh_conn c k served)) s
opened_close_done c conns s a k served closed i_close_done =
    λ j n p y. let old = i_close_done j n p y in grind (arith, get-push)

opened_close_full : (c : Client) (conns : ℕ → Conn) (s : Server) (a : ℕ → ℕ) (k : ℕ) (served : Bool)
    → ((conns k).client_open ≡ false) → CloseFull c conns s → CloseFull (open_channel c k)
    (put conns k (fresh_conn c k served)) s
opened_close_full c conns s a k served closed i_close_full =
    λ j n p y. let old = i_close_full j n p y in grind (arith, get-push)

opened_close_stuck : (c : Client) (conns : ℕ → Conn) (s : Server) (a : ℕ → ℕ) (k : ℕ) (served : Bool)
    → ((conns k).client_open ≡ false) → CloseStuck c conns s → CloseStuck (open_channel c k)
    (put conns k (fresh_conn c k served)) s
opened_close_stuck c conns s a k served closed i_close_stuck =
    λ j n p y. let old = i_close_stuck j n p y in grind (arith, get-push)

pub opened_keeps : (c : Client) (conns : ℕ → Conn) (s : Server) (a : ℕ → ℕ) (k : ℕ) (served : Bool)
    → ((conns k).client_open ≡ false) → Locks c conns s a → Locks (open_channel c k)
    (put conns k (fresh_conn c k served)) s a
opened_keeps c conns s a k served closed i =
    record {
      slot_index = i.slot_index;
      user_body = i.user_body;
      in_use = i.in_use;
      full_free = i.full_free;
      attached_low = i.attached_low;
      shut_ok = i.shut_ok;
      shut_made = i.shut_made;
      shut_gone = i.shut_gone;
      close_before = i.close_before;
      close_after = i.close_after;
      unsent_gone = i.unsent_gone;
      unanswered = opened_unanswered c conns s a k served closed i.unanswered;
      ask_up = opened_ask_up c conns s a k served closed i.ask_up;
      ask_down = opened_ask_down c conns s a k served closed i.ask_down;
      users = opened_users c conns s a k served closed i.users;
      copy_now = opened_copy_now c conns s a k served closed i.copy_now;
      retried_on = opened_retried_on c conns s a k served closed i.retried_on;
      retried_done = opened_retried_done c conns s a k served closed i.retried_done;
      copy_attached = opened_copy_attached c conns s a k served closed i.copy_attached;
      now_attached = i.now_attached;
      opened_reply = opened_opened_reply c conns s a k served closed i.opened_reply;
      join_reply = opened_join_reply c conns s a k served closed i.join_reply;
      joined_reply = opened_joined_reply c conns s a k served closed i.joined_reply;
      lost_reply = opened_lost_reply c conns s a k served closed i.lost_reply;
      kept_says = i.kept_says;
      not_kept = i.not_kept;
      firm_kept = i.firm_kept;
      no_user = i.no_user;
      no_slots = i.no_slots;
      full_dead = opened_full_dead c conns s a k served closed i.full_dead;
      ok_reply = opened_ok_reply c conns s a k served closed i.ok_reply;
      no_reply = opened_no_reply c conns s a k served closed i.no_reply;
      kept_reply = opened_kept_reply c conns s a k served closed i.kept_reply;
      first_reply = opened_first_reply c conns s a k served closed i.first_reply;
      closed_not = i.closed_not;
      kept_files = i.kept_files;
      left_full = opened_left_full c conns s a k served closed i.left_full;
      left_stuck = opened_left_stuck c conns s a k served closed i.left_stuck;
      left_idle = opened_left_idle c conns s a k served closed i.left_idle;
      close_done = opened_close_done c conns s a k served closed i.close_done;
      close_full = opened_close_full c conns s a k served closed i.close_full;
      close_stuck = opened_close_stuck c conns s a k served closed i.close_stuck;
      made_plain = i.made_plain;
      at_most = i.at_most;
      ok_acted = i.ok_acted;
      refused_not = i.refused_not;
    }
