-- Written by tools/law_locks.py. A reply is on its way.
use Rattle.std.proofs.Common.{◌≡◌, ◌≢◌, ℕ, ◌+◌, ◌≤◌, ◌<◌, true, false, [], ◌∷◌, ◌++◌, arith, Some, is_some}
use Rattle.spec_exchange.specs.Table.{put}
use Rattle.spec_exchange.specs.Status.{success, user_session_deleted, file_closed, object_name_not_found, disk_full}
use Rattle.spec_exchange.specs.State.{Server}
use Rattle.spec_exchange.specs.Records.{lower_limit}
use Rattle.spec_exchange.specs.Operations.{is_ok, id_in}
use Rattle.spec_exchange.specs.Client.{Client}
use Rattle.spec_exchange.specs.Network.{Conn, Received, ForOp, ForAttach}
use Rattle.law_sessions.specs.messages.Connections.{makes_open, shuts_open, create_at}
use Rattle.law_sessions.proofs.messages.Lists.{get-push}
use Rattle.law_locks.specs.Locks.{Locks, locking, open_at, kept_of, is_stuck, Unanswered, AskUp, AskDown, Users}
use Rattle.law_locks.specs.Locks.{CopyNow, RetriedOn, RetriedDone, CopyAttached, OpenedReply, JoinReply, JoinedReply}
use Rattle.law_locks.specs.Locks.{LostReply, FullDead, OkReply, NoReply, KeptReply, FirstReply, LeftFull, LeftStuck}
use Rattle.law_locks.specs.Locks.{LeftIdle, CloseDone, CloseFull, CloseStuck}

-- what is to be known of the reply
pub record MaySay (c : Client) (s : Server) (a : ℕ → ℕ) (y0 : Received) : Type 0 where
  pub of_ask_down : (g : ℕ) → y0.token ≡ ForAttach g → 0 < g × g ≤ c.taken × makes_open (c.op g) ≡ false
      × is_ok (c.outcome (create_at c g)) ≡ true
  pub of_opened_reply : (g : ℕ) → y0.token ≡ ForOp g → makes_open (c.op g) ≡ true → y0.reply.status ≡ success → c.live
      ≡ true → s.present c.session ≡ true → s.standing (id_in y0.reply.body) ≡ true
      → s.session_of_open (id_in y0.reply.body) ≡ Some c.session
  pub of_join_reply : (g : ℕ) → y0.token ≡ ForAttach g → y0.reply.status ≡ success → c.live ≡ true → s.present c.session
      ≡ true → s.standing (open_at c g) ≡ true → s.session_of_open (open_at c g) ≡ Some c.session
  pub of_joined_reply : (g : ℕ) → y0.token ≡ ForAttach g → y0.reply.status ≡ success → c.live ≡ true
      → s.present c.session ≡ true → s.standing (open_at c g) ≡ false → c.attached (create_at c g) ≡ c.session_number
  pub of_lost_reply : (g : ℕ) → y0.token ≡ ForAttach g → y0.reply.status ≢ success
      → y0.reply.status ≢ user_session_deleted → y0.reply.status ≡ object_name_not_found × s.standing (open_at c g)
      ≡ false
  pub of_ok_reply : (g : ℕ) → y0.token ≡ ForOp g → locking (c.op g) ≡ true → y0.reply.status ≡ success → a g ≡ 1
  pub of_no_reply : (g : ℕ) → y0.token ≡ ForOp g → locking (c.op g) ≡ true → y0.reply.status ≢ success
      → y0.reply.status ≢ user_session_deleted → y0.reply.status ≢ disk_full → a g ≡ 0
  pub of_kept_reply : (g : ℕ) → y0.token ≡ ForOp g → locking (c.op g) ≡ true → y0.reply.status ≢ user_session_deleted
      → y0.reply.status ≢ disk_full → s.standing (open_at c g) ≡ true → is_some (kept_of c s g) ≡ true
  pub of_first_reply : (g : ℕ) → y0.token ≡ ForOp g → locking (c.op g) ≡ true → y0.reply.status ≢ success → c.unanswered g ≡ false → a g ≡ 0
  pub of_close_done : (h : ℕ) → y0.token ≡ ForOp h → shuts_open (c.op h) ≡ true → y0.reply.status ≡ success
      → s.standing (open_at c h) ≡ false
  pub of_close_full : (h : ℕ) → y0.token ≡ ForOp h → shuts_open (c.op h) ≡ true → y0.reply.status ≢ user_session_deleted
      → y0.reply.status ≢ file_closed → s.standing (open_at c h) ≡ true → (s.opened (open_at c h)).persistent ≡ true
      → lower_limit < s.journal + 66
  pub of_close_stuck : (h : ℕ) → y0.token ≡ ForOp h → shuts_open (c.op h) ≡ true
      → y0.reply.status ≢ user_session_deleted → y0.reply.status ≢ file_closed → s.standing (open_at c h) ≡ true
      → (s.opened (open_at c h)).persistent ≡ false → is_stuck s (open_at c h) ≡ true

say_unanswered : (c : Client) (conns : ℕ → Conn) (s : Server) (a : ℕ → ℕ) (k : ℕ) (y0 : Received) → Unanswered c conns
    → Unanswered c (put conns k (record (conns k) { down = (conns k).down ++ y0 ∷ [] }))
say_unanswered c conns s a k y0 i_unanswered =
    λ j n p x. let old = i_unanswered j n p x in grind arith

say_ask_up : (c : Client) (conns : ℕ → Conn) (s : Server) (a : ℕ → ℕ) (k : ℕ) (y0 : Received) → AskUp c conns
    → AskUp c (put conns k (record (conns k) { down = (conns k).down ++ y0 ∷ [] }))
say_ask_up c conns s a k y0 i_ask_up =
    λ j n p x. let old = i_ask_up j n p x in grind arith

say_ask_down : (c : Client) (conns : ℕ → Conn) (s : Server) (a : ℕ → ℕ) (k : ℕ) (y0 : Received)
    → ((g : ℕ) → y0.token ≡ ForAttach g → 0 < g × g ≤ c.taken × makes_open (c.op g) ≡ false
    × is_ok (c.outcome (create_at c g)) ≡ true) → AskDown c conns
    → AskDown c (put conns k (record (conns k) { down = (conns k).down ++ y0 ∷ [] }))
say_ask_down c conns s a k y0 of_ask_down i_ask_down =
    λ j n p y. let old = i_ask_down j n p y in let m1 = of_ask_down p in grind (arith, get-push)

say_users : (c : Client) (conns : ℕ → Conn) (s : Server) (a : ℕ → ℕ) (k : ℕ) (y0 : Received) → Users c conns s
    → Users c (put conns k (record (conns k) { down = (conns k).down ++ y0 ∷ [] })) s
say_users c conns s a k y0 i_users =
    λ j n p x. let old = i_users j n p x in grind arith

say_copy_now : (c : Client) (conns : ℕ → Conn) (s : Server) (a : ℕ → ℕ) (k : ℕ) (y0 : Received) → CopyNow c conns s
    → CopyNow c (put conns k (record (conns k) { down = (conns k).down ++ y0 ∷ [] })) s
say_copy_now c conns s a k y0 i_copy_now =
    λ j n p x. let old = i_copy_now j n p x in grind arith

say_retried_on : (c : Client) (conns : ℕ → Conn) (s : Server) (a : ℕ → ℕ) (k : ℕ) (y0 : Received) → RetriedOn c conns s
    → RetriedOn c (put conns k (record (conns k) { down = (conns k).down ++ y0 ∷ [] })) s
say_retried_on c conns s a k y0 i_retried_on =
    λ j n p x. let old = i_retried_on j n p x in grind arith

say_retried_done : (c : Client) (conns : ℕ → Conn) (s : Server) (a : ℕ → ℕ) (k : ℕ) (y0 : Received)
    → RetriedDone c conns s → RetriedDone c (put conns k (record (conns k) { down = (conns k).down ++ y0 ∷ [] })) s
say_retried_done c conns s a k y0 i_retried_done =
    λ j n p x. let old = i_retried_done j n p x in grind arith

say_copy_attached : (c : Client) (conns : ℕ → Conn) (s : Server) (a : ℕ → ℕ) (k : ℕ) (y0 : Received)
    → CopyAttached c conns s → CopyAttached c (put conns k (record (conns k) { down = (conns k).down ++ y0 ∷ [] })) s
say_copy_attached c conns s a k y0 i_copy_attached =
    λ j n p x. let old = i_copy_attached j n p x in grind arith

say_opened_reply : (c : Client) (conns : ℕ → Conn) (s : Server) (a : ℕ → ℕ) (k : ℕ) (y0 : Received)
    → ((g : ℕ) → y0.token ≡ ForOp g → makes_open (c.op g) ≡ true → y0.reply.status ≡ success → c.live ≡ true
    → s.present c.session ≡ true → s.standing (id_in y0.reply.body) ≡ true → s.session_of_open (id_in y0.reply.body)
    ≡ Some c.session) → OpenedReply c conns s
    → OpenedReply c (put conns k (record (conns k) { down = (conns k).down ++ y0 ∷ [] })) s
say_opened_reply c conns s a k y0 of_opened_reply i_opened_reply =
    λ j n p y. let old = i_opened_reply j n p y in let m1 = of_opened_reply p in grind (arith, get-push)

say_join_reply : (c : Client) (conns : ℕ → Conn) (s : Server) (a : ℕ → ℕ) (k : ℕ) (y0 : Received)
    → ((g : ℕ) → y0.token ≡ ForAttach g → y0.reply.status ≡ success → c.live ≡ true → s.present c.session ≡ true
    → s.standing (open_at c g) ≡ true → s.session_of_open (open_at c g) ≡ Some c.session) → JoinReply c conns s
    → JoinReply c (put conns k (record (conns k) { down = (conns k).down ++ y0 ∷ [] })) s
say_join_reply c conns s a k y0 of_join_reply i_join_reply =
    λ j n p y. let old = i_join_reply j n p y in let m1 = of_join_reply p in grind (arith, get-push)

say_joined_reply : (c : Client) (conns : ℕ → Conn) (s : Server) (a : ℕ → ℕ) (k : ℕ) (y0 : Received)
    → ((g : ℕ) → y0.token ≡ ForAttach g → y0.reply.status ≡ success → c.live ≡ true → s.present c.session ≡ true
    → s.standing (open_at c g) ≡ false → c.attached (create_at c g) ≡ c.session_number) → JoinedReply c conns s
    → JoinedReply c (put conns k (record (conns k) { down = (conns k).down ++ y0 ∷ [] })) s
say_joined_reply c conns s a k y0 of_joined_reply i_joined_reply =
    λ j n p y. let old = i_joined_reply j n p y in let m1 = of_joined_reply p in grind (arith, get-push)

say_lost_reply : (c : Client) (conns : ℕ → Conn) (s : Server) (a : ℕ → ℕ) (k : ℕ) (y0 : Received)
    → ((g : ℕ) → y0.token ≡ ForAttach g → y0.reply.status ≢ success → y0.reply.status ≢ user_session_deleted
    → y0.reply.status ≡ object_name_not_found × s.standing (open_at c g) ≡ false) → LostReply c conns s
    → LostReply c (put conns k (record (conns k) { down = (conns k).down ++ y0 ∷ [] })) s
say_lost_reply c conns s a k y0 of_lost_reply i_lost_reply =
    λ j n p y. let old = i_lost_reply j n p y in let m1 = of_lost_reply p in grind (arith, get-push)

say_full_dead : (c : Client) (conns : ℕ → Conn) (s : Server) (a : ℕ → ℕ) (k : ℕ) (y0 : Received) → FullDead c conns s
    → FullDead c (put conns k (record (conns k) { down = (conns k).down ++ y0 ∷ [] })) s
say_full_dead c conns s a k y0 i_full_dead =
    λ j n p x. let old = i_full_dead j n p x in grind arith

say_ok_reply : (c : Client) (conns : ℕ → Conn) (s : Server) (a : ℕ → ℕ) (k : ℕ) (y0 : Received)
    → ((g : ℕ) → y0.token ≡ ForOp g → locking (c.op g) ≡ true → y0.reply.status ≡ success → a g ≡ 1) → OkReply c conns a
    → OkReply c (put conns k (record (conns k) { down = (conns k).down ++ y0 ∷ [] })) a
say_ok_reply c conns s a k y0 of_ok_reply i_ok_reply =
    λ j n p y. let old = i_ok_reply j n p y in let m1 = of_ok_reply p in grind (arith, get-push)

say_no_reply : (c : Client) (conns : ℕ → Conn) (s : Server) (a : ℕ → ℕ) (k : ℕ) (y0 : Received)
    → ((g : ℕ) → y0.token ≡ ForOp g → locking (c.op g) ≡ true → y0.reply.status ≢ success
    → y0.reply.status ≢ user_session_deleted → y0.reply.status ≢ disk_full → a g ≡ 0) → NoReply c conns a
    → NoReply c (put conns k (record (conns k) { down = (conns k).down ++ y0 ∷ [] })) a
say_no_reply c conns s a k y0 of_no_reply i_no_reply =
    λ j n p y. let old = i_no_reply j n p y in let m1 = of_no_reply p in grind (arith, get-push)

say_kept_reply : (c : Client) (conns : ℕ → Conn) (s : Server) (a : ℕ → ℕ) (k : ℕ) (y0 : Received)
    → ((g : ℕ) → y0.token ≡ ForOp g → locking (c.op g) ≡ true → y0.reply.status ≢ user_session_deleted
    → y0.reply.status ≢ disk_full → s.standing (open_at c g) ≡ true → is_some (kept_of c s g) ≡ true)
    → KeptReply c conns s → KeptReply c (put conns k (record (conns k) { down = (conns k).down ++ y0 ∷ [] })) s
say_kept_reply c conns s a k y0 of_kept_reply i_kept_reply =
    λ j n p y. let old = i_kept_reply j n p y in let m1 = of_kept_reply p in grind (arith, get-push)

say_first_reply : (c : Client) (conns : ℕ → Conn) (s : Server) (a : ℕ → ℕ) (k : ℕ) (y0 : Received)
    → ((g : ℕ) → y0.token ≡ ForOp g → locking (c.op g) ≡ true → y0.reply.status ≢ success → c.unanswered g ≡ false → a g
    ≡ 0) → FirstReply c conns a → FirstReply c (put conns k (record (conns k) { down = (conns k).down ++ y0 ∷ [] })) a
say_first_reply c conns s a k y0 of_first_reply i_first_reply =
    λ j n p y. let old = i_first_reply j n p y in let m1 = of_first_reply p in grind (arith, get-push)

say_left_full : (c : Client) (conns : ℕ → Conn) (s : Server) (a : ℕ → ℕ) (k : ℕ) (y0 : Received) → LeftFull c conns s
    → LeftFull c (put conns k (record (conns k) { down = (conns k).down ++ y0 ∷ [] })) s
say_left_full c conns s a k y0 i_left_full =
    λ j n p x. let old = i_left_full j n p x in grind arith

say_left_stuck : (c : Client) (conns : ℕ → Conn) (s : Server) (a : ℕ → ℕ) (k : ℕ) (y0 : Received) → LeftStuck c conns s
    → LeftStuck c (put conns k (record (conns k) { down = (conns k).down ++ y0 ∷ [] })) s
say_left_stuck c conns s a k y0 i_left_stuck =
    λ j n p x. let old = i_left_stuck j n p x in grind arith

say_left_idle : (c : Client) (conns : ℕ → Conn) (s : Server) (a : ℕ → ℕ) (k : ℕ) (y0 : Received) → LeftIdle c conns s a
    → LeftIdle c (put conns k (record (conns k) { down = (conns k).down ++ y0 ∷ [] })) s a
say_left_idle c conns s a k y0 i_left_idle =
    λ j n p q x. let old = i_left_idle j n p q x in grind arith

say_close_done : (c : Client) (conns : ℕ → Conn) (s : Server) (a : ℕ → ℕ) (k : ℕ) (y0 : Received)
    → ((h : ℕ) → y0.token ≡ ForOp h → shuts_open (c.op h) ≡ true → y0.reply.status ≡ success → s.standing (open_at c h)
    ≡ false) → CloseDone c conns s → CloseDone c (put conns k (record (conns k) { down = (conns k).down ++ y0 ∷ [] })) s
say_close_done c conns s a k y0 of_close_done i_close_done =
    λ j n p y. let old = i_close_done j n p y in let m1 = of_close_done p in grind (arith, get-push)

say_close_full : (c : Client) (conns : ℕ → Conn) (s : Server) (a : ℕ → ℕ) (k : ℕ) (y0 : Received)
    → ((h : ℕ) → y0.token ≡ ForOp h → shuts_open (c.op h) ≡ true → y0.reply.status ≢ user_session_deleted
    → y0.reply.status ≢ file_closed → s.standing (open_at c h) ≡ true → (s.opened (open_at c h)).persistent ≡ true
    → lower_limit < s.journal + 66) → CloseFull c conns s
    → CloseFull c (put conns k (record (conns k) { down = (conns k).down ++ y0 ∷ [] })) s
say_close_full c conns s a k y0 of_close_full i_close_full =
    λ j n p y. let old = i_close_full j n p y in let m1 = of_close_full p in grind (arith, get-push)

say_close_stuck : (c : Client) (conns : ℕ → Conn) (s : Server) (a : ℕ → ℕ) (k : ℕ) (y0 : Received)
    → ((h : ℕ) → y0.token ≡ ForOp h → shuts_open (c.op h) ≡ true → y0.reply.status ≢ user_session_deleted
    → y0.reply.status ≢ file_closed → s.standing (open_at c h) ≡ true → (s.opened (open_at c h)).persistent ≡ false
    → is_stuck s (open_at c h) ≡ true) → CloseStuck c conns s
    → CloseStuck c (put conns k (record (conns k) { down = (conns k).down ++ y0 ∷ [] })) s
say_close_stuck c conns s a k y0 of_close_stuck i_close_stuck =
    λ j n p y. let old = i_close_stuck j n p y in let m1 = of_close_stuck p in grind (arith, get-push)

pub say_keeps : (c : Client) (conns : ℕ → Conn) (s : Server) (a : ℕ → ℕ) (k : ℕ) (y0 : Received)
    → ((g : ℕ) → y0.token ≡ ForAttach g → 0 < g × g ≤ c.taken × makes_open (c.op g) ≡ false
    × is_ok (c.outcome (create_at c g)) ≡ true) → ((g : ℕ) → y0.token ≡ ForOp g → makes_open (c.op g) ≡ true
    → y0.reply.status ≡ success → c.live ≡ true → s.present c.session ≡ true → s.standing (id_in y0.reply.body) ≡ true
    → s.session_of_open (id_in y0.reply.body) ≡ Some c.session) → ((g : ℕ) → y0.token ≡ ForAttach g → y0.reply.status
    ≡ success → c.live ≡ true → s.present c.session ≡ true → s.standing (open_at c g) ≡ true
    → s.session_of_open (open_at c g) ≡ Some c.session) → ((g : ℕ) → y0.token ≡ ForAttach g → y0.reply.status ≡ success
    → c.live ≡ true → s.present c.session ≡ true → s.standing (open_at c g) ≡ false → c.attached (create_at c g)
    ≡ c.session_number) → ((g : ℕ) → y0.token ≡ ForAttach g → y0.reply.status ≢ success
    → y0.reply.status ≢ user_session_deleted → y0.reply.status ≡ object_name_not_found × s.standing (open_at c g)
    ≡ false) → ((g : ℕ) → y0.token ≡ ForOp g → locking (c.op g) ≡ true → y0.reply.status ≡ success → a g ≡ 1)
    → ((g : ℕ) → y0.token ≡ ForOp g → locking (c.op g) ≡ true → y0.reply.status ≢ success
    → y0.reply.status ≢ user_session_deleted → y0.reply.status ≢ disk_full → a g ≡ 0)
    → ((g : ℕ) → y0.token ≡ ForOp g → locking (c.op g) ≡ true → y0.reply.status ≢ user_session_deleted
    → y0.reply.status ≢ disk_full → s.standing (open_at c g) ≡ true → is_some (kept_of c s g) ≡ true)
    → ((g : ℕ) → y0.token ≡ ForOp g → locking (c.op g) ≡ true → y0.reply.status ≢ success → c.unanswered g ≡ false → a g
    ≡ 0) → ((h : ℕ) → y0.token ≡ ForOp h → shuts_open (c.op h) ≡ true → y0.reply.status ≡ success
    → s.standing (open_at c h) ≡ false) → ((h : ℕ) → y0.token ≡ ForOp h → shuts_open (c.op h) ≡ true
    → y0.reply.status ≢ user_session_deleted → y0.reply.status ≢ file_closed → s.standing (open_at c h) ≡ true
    → (s.opened (open_at c h)).persistent ≡ true → lower_limit < s.journal + 66)
    → ((h : ℕ) → y0.token ≡ ForOp h → shuts_open (c.op h) ≡ true → y0.reply.status ≢ user_session_deleted
    → y0.reply.status ≢ file_closed → s.standing (open_at c h) ≡ true → (s.opened (open_at c h)).persistent ≡ false
    → is_stuck s (open_at c h) ≡ true) → Locks c conns s a
    → Locks c (put conns k (record (conns k) { down = (conns k).down ++ y0 ∷ [] })) s a
say_keeps c conns s a k y0 of_ask_down of_opened_reply of_join_reply of_joined_reply of_lost_reply of_ok_reply
    of_no_reply of_kept_reply of_first_reply of_close_done of_close_full of_close_stuck i =
    record {
      slot_index = i.slot_index;
      user_body = i.user_body;
      in_use = i.in_use;
      full_free = i.full_free;
      attached_low = i.attached_low;
      shut_ok = i.shut_ok;
      shut_made = i.shut_made;
      shut_gone = i.shut_gone;
      close_before = i.close_before;
      close_after = i.close_after;
      unsent_gone = i.unsent_gone;
      unanswered = say_unanswered c conns s a k y0 i.unanswered;
      ask_up = say_ask_up c conns s a k y0 i.ask_up;
      ask_down = say_ask_down c conns s a k y0 of_ask_down i.ask_down;
      users = say_users c conns s a k y0 i.users;
      copy_now = say_copy_now c conns s a k y0 i.copy_now;
      retried_on = say_retried_on c conns s a k y0 i.retried_on;
      retried_done = say_retried_done c conns s a k y0 i.retried_done;
      copy_attached = say_copy_attached c conns s a k y0 i.copy_attached;
      now_attached = i.now_attached;
      opened_reply = say_opened_reply c conns s a k y0 of_opened_reply i.opened_reply;
      join_reply = say_join_reply c conns s a k y0 of_join_reply i.join_reply;
      joined_reply = say_joined_reply c conns s a k y0 of_joined_reply i.joined_reply;
      lost_reply = say_lost_reply c conns s a k y0 of_lost_reply i.lost_reply;
      kept_says = i.kept_says;
      not_kept = i.not_kept;
      firm_kept = i.firm_kept;
      no_user = i.no_user;
      no_slots = i.no_slots;
      full_dead = say_full_dead c conns s a k y0 i.full_dead;
      ok_reply = say_ok_reply c conns s a k y0 of_ok_reply i.ok_reply;
      no_reply = say_no_reply c conns s a k y0 of_no_reply i.no_reply;
      kept_reply = say_kept_reply c conns s a k y0 of_kept_reply i.kept_reply;
      first_reply = say_first_reply c conns s a k y0 of_first_reply i.first_reply;
      closed_not = i.closed_not;
      kept_files = i.kept_files;
      left_full = say_left_full c conns s a k y0 i.left_full;
      left_stuck = say_left_stuck c conns s a k y0 i.left_stuck;
      left_idle = say_left_idle c conns s a k y0 i.left_idle;
      close_done = say_close_done c conns s a k y0 of_close_done i.close_done;
      close_full = say_close_full c conns s a k y0 of_close_full i.close_full;
      close_stuck = say_close_stuck c conns s a k y0 of_close_stuck i.close_stuck;
      made_plain = i.made_plain;
      at_most = i.at_most;
      ok_acted = i.ok_acted;
      refused_not = i.refused_not;
    }

pub say_told : (c : Client) (conns : ℕ → Conn) (s : Server) (a : ℕ → ℕ) (k : ℕ) (y0 : Received) → MaySay c s a y0
    → Locks c conns s a → Locks c (put conns k (record (conns k) { down = (conns k).down ++ y0 ∷ [] })) s a
say_told c conns s a k y0 m i = say_keeps c conns s a k y0 m.of_ask_down m.of_opened_reply m.of_join_reply
    m.of_joined_reply m.of_lost_reply m.of_ok_reply m.of_no_reply m.of_kept_reply m.of_first_reply m.of_close_done
    m.of_close_full m.of_close_stuck i
