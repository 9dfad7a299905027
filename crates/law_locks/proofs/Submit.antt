-- Written by tools/law_locks.py. An operation is taken.
use Rattle.std.proofs.Common.{◌≡◌, ℕ, ◌+◌, true, false, arith, None}
use Rattle.spec_exchange.specs.Table.{put}
use Rattle.spec_exchange.specs.State.{Server}
use Rattle.spec_exchange.specs.Operations.{Op, Outcome, is_unsettled, is_ok}
use Rattle.spec_exchange.specs.Client.{Client, guid_for}
use Rattle.spec_exchange.specs.Network.{Conn}
use Rattle.law_sessions.specs.messages.Connections.{Connections, makes_open, its_create, Taken, Creates, Bodies, SentReplies}
use Rattle.law_locks.specs.Locks.{Locks, firm, SlotIndex, UserBody, InUse, FullFree, ShutOk, ShutMade, ShutGone}
use Rattle.law_locks.specs.Locks.{CloseBefore, CloseAfter, UnsentGone, AskUp, AskDown, Users, CopyNow, RetriedOn}
use Rattle.law_locks.specs.Locks.{RetriedDone, CopyAttached, NowAttached, OpenedReply, JoinReply, JoinedReply, LostReply}
use Rattle.law_locks.specs.Locks.{KeptSays, NotKept, FirmKept, NoUser, NoSlots, FullDead, OkReply, NoReply, KeptReply}
use Rattle.law_locks.specs.Locks.{FirstReply, ClosedNot, LeftFull, LeftStuck, LeftIdle, CloseDone, CloseFull, CloseStuck}
use Rattle.law_locks.specs.Locks.{MadePlain, AtMost, OkActed, RefusedNot}

submit_slot_index : (c : Client) (conns : ℕ → Conn) (s : Server) (a : ℕ → ℕ) (g : ℕ) (op : Op) (out : Outcome)
    → (g ≡ c.taken + 1) → (firm out ≡ false) → (is_ok out ≡ false) → (s.by_guid c.who.guid (guid_for c g) ≡ None)
    → (a g ≡ 0) → Taken c → SlotIndex c → SlotIndex (record c {
      taken = g;
      op = put c.op g op;
      outcome = put c.outcome g out;
    })
submit_slot_index c conns s a g op out next fired okay unknown never C_taken i_slot_index =
    λ p s0. let tk = C_taken p s0 in let old = i_slot_index p s0 in grind arith

submit_user_body : (c : Client) (conns : ℕ → Conn) (s : Server) (a : ℕ → ℕ) (g : ℕ) (op : Op) (out : Outcome)
    → (g ≡ c.taken + 1) → (firm out ≡ false) → (is_ok out ≡ false) → (s.by_guid c.who.guid (guid_for c g) ≡ None)
    → (a g ≡ 0) → Taken c → UserBody c → UserBody (record c {
      taken = g;
      op = put c.op g op;
      outcome = put c.outcome g out;
    })
submit_user_body c conns s a g op out next fired okay unknown never C_taken i_user_body =
    λ q r p e. let old = i_user_body q r p e in let tk = C_taken p old.3 in grind arith

submit_in_use : (c : Client) (conns : ℕ → Conn) (s : Server) (a : ℕ → ℕ) (g : ℕ) (op : Op) (out : Outcome)
    → (g ≡ c.taken + 1) → (firm out ≡ false) → (is_ok out ≡ false) → (s.by_guid c.who.guid (guid_for c g) ≡ None)
    → (a g ≡ 0) → Taken c → InUse c → InUse (record c { taken = g; op = put c.op g op; outcome = put c.outcome g out })
submit_in_use c conns s a g op out next fired okay unknown never C_taken i_in_use =
    λ p s0. let tk = C_taken p s0 in let old = i_in_use p s0 in grind arith

submit_full_free : (c : Client) (conns : ℕ → Conn) (s : Server) (a : ℕ → ℕ) (g : ℕ) (op : Op) (out : Outcome)
    → (g ≡ c.taken + 1) → (firm out ≡ false) → (is_ok out ≡ false) → (s.by_guid c.who.guid (guid_for c g) ≡ None)
    → (a g ≡ 0) → Taken c → FullFree c → FullFree (record c {
      taken = g;
      op = put c.op g op;
      outcome = put c.outcome g out;
    })
submit_full_free c conns s a g op out next fired okay unknown never C_taken i_full_free =
    λ p s0. let tk = C_taken p s0 in let old = i_full_free p s0 in grind arith

submit_shut_ok : (c : Client) (conns : ℕ → Conn) (s : Server) (a : ℕ → ℕ) (g : ℕ) (op : Op) (out : Outcome)
    → (g ≡ c.taken + 1) → (firm out ≡ false) → (is_ok out ≡ false) → (s.by_guid c.who.guid (guid_for c g) ≡ None)
    → (a g ≡ 0) → ShutOk c → ShutOk (record c { taken = g; op = put c.op g op; outcome = put c.outcome g out })
submit_shut_ok c conns s a g op out next fired okay unknown never i_shut_ok =
    λ p. let old = i_shut_ok p in grind arith

submit_shut_made : (c : Client) (conns : ℕ → Conn) (s : Server) (a : ℕ → ℕ) (g : ℕ) (op : Op) (out : Outcome)
    → (g ≡ c.taken + 1) → (firm out ≡ false) → (is_ok out ≡ false) → (s.by_guid c.who.guid (guid_for c g) ≡ None)
    → (a g ≡ 0) → ShutMade c → ShutMade (record c { taken = g; op = put c.op g op; outcome = put c.outcome g out })
submit_shut_made c conns s a g op out next fired okay unknown never i_shut_made =
    λ q. let old = i_shut_made q in grind arith

submit_shut_gone : (c : Client) (conns : ℕ → Conn) (s : Server) (a : ℕ → ℕ) (g : ℕ) (op : Op) (out : Outcome)
    → (g ≡ c.taken + 1) → (firm out ≡ false) → (is_ok out ≡ false) → (s.by_guid c.who.guid (guid_for c g) ≡ None)
    → (makes_open op ≡ false → c.closed_ok (its_create g op) ≡ true → is_unsettled out ≡ false) → (a g ≡ 0) → ShutGone c
    → ShutGone (record c { taken = g; op = put c.op g op; outcome = put c.outcome g out })
submit_shut_gone c conns s a g op out next fired okay unknown gone never i_shut_gone =
    λ p l m. let old = i_shut_gone p l in let g1 = gone in grind arith

submit_close_before : (c : Client) (conns : ℕ → Conn) (s : Server) (a : ℕ → ℕ) (g : ℕ) (op : Op) (out : Outcome)
    → (g ≡ c.taken + 1) → (firm out ≡ false) → (is_ok out ≡ false) → (s.by_guid c.who.guid (guid_for c g) ≡ None)
    → (a g ≡ 0) → Taken c → CloseBefore c → CloseBefore (record c {
      taken = g;
      op = put c.op g op;
      outcome = put c.outcome g out;
    })
submit_close_before c conns s a g op out next fired okay unknown never C_taken i_close_before =
    λ p q s0. let tk = C_taken p s0 in let old = i_close_before p q s0 in grind arith

submit_close_after : (c : Client) (conns : ℕ → Conn) (s : Server) (a : ℕ → ℕ) (g : ℕ) (op : Op) (out : Outcome)
    → (g ≡ c.taken + 1) → (firm out ≡ false) → (is_ok out ≡ false) → (s.by_guid c.who.guid (guid_for c g) ≡ None)
    → (a g ≡ 0) → Taken c → CloseAfter c → CloseAfter (record c {
      taken = g;
      op = put c.op g op;
      outcome = put c.outcome g out;
    })
submit_close_after c conns s a g op out next fired okay unknown never C_taken i_close_after =
    λ q p s0. let tk = C_taken q s0 in let old = i_close_after q p s0 in grind arith

submit_unsent_gone : (c : Client) (conns : ℕ → Conn) (s : Server) (a : ℕ → ℕ) (g : ℕ) (op : Op) (out : Outcome)
    → (g ≡ c.taken + 1) → (firm out ≡ false) → (is_ok out ≡ false) → (s.by_guid c.who.guid (guid_for c g) ≡ None)
    → (a g ≡ 0) → Taken c → UnsentGone c → UnsentGone (record c {
      taken = g;
      op = put c.op g op;
      outcome = put c.outcome g out;
    })
submit_unsent_gone c conns s a g op out next fired okay unknown never C_taken i_unsent_gone =
    λ p. let old = i_unsent_gone p in let tk = C_taken p in grind arith

submit_ask_up : (c : Client) (conns : ℕ → Conn) (s : Server) (a : ℕ → ℕ) (g : ℕ) (op : Op) (out : Outcome)
    → (g ≡ c.taken + 1) → (firm out ≡ false) → (is_ok out ≡ false) → (s.by_guid c.who.guid (guid_for c g) ≡ None)
    → (a g ≡ 0) → Creates c → AskUp c conns → AskUp (record c {
      taken = g;
      op = put c.op g op;
      outcome = put c.outcome g out;
    }) conns
submit_ask_up c conns s a g op out next fired okay unknown never C_creates i_ask_up =
    λ j n p x h t. let old = i_ask_up j n p x h t in let cr = C_creates p old.0 old.1 old.2 in grind arith

submit_ask_down : (c : Client) (conns : ℕ → Conn) (s : Server) (a : ℕ → ℕ) (g : ℕ) (op : Op) (out : Outcome)
    → (g ≡ c.taken + 1) → (firm out ≡ false) → (is_ok out ≡ false) → (s.by_guid c.who.guid (guid_for c g) ≡ None)
    → (a g ≡ 0) → Creates c → AskDown c conns → AskDown (record c {
      taken = g;
      op = put c.op g op;
      outcome = put c.outcome g out;
    }) conns
submit_ask_down c conns s a g op out next fired okay unknown never C_creates i_ask_down =
    λ j n p y h t. let old = i_ask_down j n p y h t in let cr = C_creates p old.0 old.1 old.2 in grind arith

submit_users : (c : Client) (conns : ℕ → Conn) (s : Server) (a : ℕ → ℕ) (g : ℕ) (op : Op) (out : Outcome)
    → (g ≡ c.taken + 1) → (firm out ≡ false) → (is_ok out ≡ false) → (s.by_guid c.who.guid (guid_for c g) ≡ None)
    → (a g ≡ 0) → Bodies c conns → Taken c → Users c conns s → Users (record c {
      taken = g;
      op = put c.op g op;
      outcome = put c.outcome g out;
    }) conns s
submit_users c conns s a g op out next fired okay unknown never C_bodies C_taken i_users =
    λ j n p x h t. let old = i_users j n p x h t in let b = C_bodies j n p x h t in let tk = C_taken p b.0 in grind arith

submit_copy_now : (c : Client) (conns : ℕ → Conn) (s : Server) (a : ℕ → ℕ) (g : ℕ) (op : Op) (out : Outcome)
    → (g ≡ c.taken + 1) → (firm out ≡ false) → (is_ok out ≡ false) → (s.by_guid c.who.guid (guid_for c g) ≡ None)
    → (a g ≡ 0) → Bodies c conns → Taken c → CopyNow c conns s → CopyNow (record c {
      taken = g;
      op = put c.op g op;
      outcome = put c.outcome g out;
    }) conns s
submit_copy_now c conns s a g op out next fired okay unknown never C_bodies C_taken i_copy_now =
    λ j n p x h t. let old = i_copy_now j n p x h t in let b = C_bodies j n p x h t in let tk = C_taken p b.0 in grind arith

submit_retried_on : (c : Client) (conns : ℕ → Conn) (s : Server) (a : ℕ → ℕ) (g : ℕ) (op : Op) (out : Outcome)
    → (g ≡ c.taken + 1) → (firm out ≡ false) → (is_ok out ≡ false) → (s.by_guid c.who.guid (guid_for c g) ≡ None)
    → (a g ≡ 0) → Bodies c conns → Taken c → RetriedOn c conns s → RetriedOn (record c {
      taken = g;
      op = put c.op g op;
      outcome = put c.outcome g out;
    }) conns s
submit_retried_on c conns s a g op out next fired okay unknown never C_bodies C_taken i_retried_on =
    λ j n p x h t. let old = i_retried_on j n p x h t in let b = C_bodies j n p x h t in let tk = C_taken p b.0 in grind arith

submit_retried_done : (c : Client) (conns : ℕ → Conn) (s : Server) (a : ℕ → ℕ) (g : ℕ) (op : Op) (out : Outcome)
    → (g ≡ c.taken + 1) → (firm out ≡ false) → (is_ok out ≡ false) → (s.by_guid c.who.guid (guid_for c g) ≡ None)
    → (a g ≡ 0) → Bodies c conns → Taken c → RetriedDone c conns s → RetriedDone (record c {
      taken = g;
      op = put c.op g op;
      outcome = put c.outcome g out;
    }) conns s
submit_retried_done c conns s a g op out next fired okay unknown never C_bodies C_taken i_retried_done =
    λ j n p x h t. let old = i_retried_done j n p x h t in let b = C_bodies j n p x h t in let tk = C_taken p b.0 in grind arith

submit_copy_attached : (c : Client) (conns : ℕ → Conn) (s : Server) (a : ℕ → ℕ) (g : ℕ) (op : Op) (out : Outcome)
    → (g ≡ c.taken + 1) → (firm out ≡ false) → (is_ok out ≡ false) → (s.by_guid c.who.guid (guid_for c g) ≡ None)
    → (a g ≡ 0) → Bodies c conns → Taken c → CopyAttached c conns s → CopyAttached (record c {
      taken = g;
      op = put c.op g op;
      outcome = put c.outcome g out;
    }) conns s
submit_copy_attached c conns s a g op out next fired okay unknown never C_bodies C_taken i_copy_attached =
    λ j n p x h t. let old = i_copy_attached j n p x h t in let b = C_bodies j n p x h t in let tk = C_taken p b.0 in grind arith

submit_now_attached : (c : Client) (conns : ℕ → Conn) (s : Server) (a : ℕ → ℕ) (g : ℕ) (op : Op) (out : Outcome)
    → (g ≡ c.taken + 1) → (firm out ≡ false) → (is_ok out ≡ false) → (s.by_guid c.who.guid (guid_for c g) ≡ None)
    → (a g ≡ 0) → NowAttached c s → NowAttached (record c {
      taken = g;
      op = put c.op g op;
      outcome = put c.outcome g out;
    }) s
submit_now_attached c conns s a g op out next fired okay unknown never i_now_attached =
    λ q. let old = i_now_attached q in grind arith

submit_opened_reply : (c : Client) (conns : ℕ → Conn) (s : Server) (a : ℕ → ℕ) (g : ℕ) (op : Op) (out : Outcome)
    → (g ≡ c.taken + 1) → (firm out ≡ false) → (is_ok out ≡ false) → (s.by_guid c.who.guid (guid_for c g) ≡ None)
    → (a g ≡ 0) → SentReplies c conns → Taken c → OpenedReply c conns s → OpenedReply (record c {
      taken = g;
      op = put c.op g op;
      outcome = put c.outcome g out;
    }) conns s
submit_opened_reply c conns s a g op out next fired okay unknown never C_sent_replies C_taken i_opened_reply =
    λ j n p y h t. let old = i_opened_reply j n p y h t in let sent = C_sent_replies j n p y h t in let tk = C_taken p sent in grind arith

submit_join_reply : (c : Client) (conns : ℕ → Conn) (s : Server) (a : ℕ → ℕ) (g : ℕ) (op : Op) (out : Outcome)
    → (g ≡ c.taken + 1) → (firm out ≡ false) → (is_ok out ≡ false) → (s.by_guid c.who.guid (guid_for c g) ≡ None)
    → (a g ≡ 0) → JoinReply c conns s → AskDown c conns → JoinReply (record c {
      taken = g;
      op = put c.op g op;
      outcome = put c.outcome g out;
    }) conns s
submit_join_reply c conns s a g op out next fired okay unknown never i_join_reply i_ask_down =
    λ j n p y h t. let old = i_join_reply j n p y h t in let ad = i_ask_down j n p y h t in grind arith

submit_joined_reply : (c : Client) (conns : ℕ → Conn) (s : Server) (a : ℕ → ℕ) (g : ℕ) (op : Op) (out : Outcome)
    → (g ≡ c.taken + 1) → (firm out ≡ false) → (is_ok out ≡ false) → (s.by_guid c.who.guid (guid_for c g) ≡ None)
    → (a g ≡ 0) → JoinedReply c conns s → AskDown c conns → JoinedReply (record c {
      taken = g;
      op = put c.op g op;
      outcome = put c.outcome g out;
    }) conns s
submit_joined_reply c conns s a g op out next fired okay unknown never i_joined_reply i_ask_down =
    λ j n p y h t. let old = i_joined_reply j n p y h t in let ad = i_ask_down j n p y h t in grind arith

submit_lost_reply : (c : Client) (conns : ℕ → Conn) (s : Server) (a : ℕ → ℕ) (g : ℕ) (op : Op) (out : Outcome)
    → (g ≡ c.taken + 1) → (firm out ≡ false) → (is_ok out ≡ false) → (s.by_guid c.who.guid (guid_for c g) ≡ None)
    → (a g ≡ 0) → LostReply c conns s → AskDown c conns → LostReply (record c {
      taken = g;
      op = put c.op g op;
      outcome = put c.outcome g out;
    }) conns s
submit_lost_reply c conns s a g op out next fired okay unknown never i_lost_reply i_ask_down =
    λ j n p y h t. let old = i_lost_reply j n p y h t in let ad = i_ask_down j n p y h t in grind arith

submit_kept_says : (c : Client) (conns : ℕ → Conn) (s : Server) (a : ℕ → ℕ) (g : ℕ) (op : Op) (out : Outcome)
    → (g ≡ c.taken + 1) → (firm out ≡ false) → (is_ok out ≡ false) → (s.by_guid c.who.guid (guid_for c g) ≡ None)
    → (a g ≡ 0) → Taken c → KeptSays c s a → UserBody c → KeptSays (record c {
      taken = g;
      op = put c.op g op;
      outcome = put c.outcome g out;
    }) s a
submit_kept_says c conns s a g op out next fired okay unknown never C_taken i_kept_says i_user_body =
    λ p st e. let old = i_kept_says p st in let ub = i_user_body _ _ p e in let tk = C_taken p ub.3 in grind arith

submit_not_kept : (c : Client) (conns : ℕ → Conn) (s : Server) (a : ℕ → ℕ) (g : ℕ) (op : Op) (out : Outcome)
    → (g ≡ c.taken + 1) → (firm out ≡ false) → (is_ok out ≡ false) → (s.by_guid c.who.guid (guid_for c g) ≡ None)
    → (a g ≡ 0) → Taken c → NotKept c s a → UserBody c → NotKept (record c {
      taken = g;
      op = put c.op g op;
      outcome = put c.outcome g out;
    }) s a
submit_not_kept c conns s a g op out next fired okay unknown never C_taken i_not_kept i_user_body =
    λ p e. let old = i_not_kept p in let ub = i_user_body _ _ p e in let tk = C_taken p ub.3 in grind arith

submit_firm_kept : (c : Client) (conns : ℕ → Conn) (s : Server) (a : ℕ → ℕ) (g : ℕ) (op : Op) (out : Outcome)
    → (g ≡ c.taken + 1) → (firm out ≡ false) → (is_ok out ≡ false) → (s.by_guid c.who.guid (guid_for c g) ≡ None)
    → (a g ≡ 0) → Taken c → FirmKept c s → UserBody c → FirmKept (record c {
      taken = g;
      op = put c.op g op;
      outcome = put c.outcome g out;
    }) s
submit_firm_kept c conns s a g op out next fired okay unknown never C_taken i_firm_kept i_user_body =
    λ p e. let old = i_firm_kept p in let ub = i_user_body _ _ p e in let tk = C_taken p ub.3 in grind arith

submit_no_user : (c : Client) (conns : ℕ → Conn) (s : Server) (a : ℕ → ℕ) (g : ℕ) (op : Op) (out : Outcome)
    → (g ≡ c.taken + 1) → (firm out ≡ false) → (is_ok out ≡ false) → (s.by_guid c.who.guid (guid_for c g) ≡ None)
    → (a g ≡ 0) → NoUser c s → NoUser (record c { taken = g; op = put c.op g op; outcome = put c.outcome g out }) s
submit_no_user c conns s a g op out next fired okay unknown never i_no_user =
    λ q r. let old = i_no_user q r in grind arith

submit_no_slots : (c : Client) (conns : ℕ → Conn) (s : Server) (a : ℕ → ℕ) (g : ℕ) (op : Op) (out : Outcome)
    → (g ≡ c.taken + 1) → (firm out ≡ false) → (is_ok out ≡ false) → (s.by_guid c.who.guid (guid_for c g) ≡ None)
    → (a g ≡ 0) → NoSlots c s → NoSlots (record c { taken = g; op = put c.op g op; outcome = put c.outcome g out }) s
submit_no_slots c conns s a g op out next fired okay unknown never i_no_slots =
    λ q r o. let old = i_no_slots q r o in grind arith

submit_full_dead : (c : Client) (conns : ℕ → Conn) (s : Server) (a : ℕ → ℕ) (g : ℕ) (op : Op) (out : Outcome)
    → (g ≡ c.taken + 1) → (firm out ≡ false) → (is_ok out ≡ false) → (s.by_guid c.who.guid (guid_for c g) ≡ None)
    → (a g ≡ 0) → Bodies c conns → Taken c → FullDead c conns s → FullDead (record c {
      taken = g;
      op = put c.op g op;
      outcome = put c.outcome g out;
    }) conns s
submit_full_dead c conns s a g op out next fired okay unknown never C_bodies C_taken i_full_dead =
    λ j n p x h t. let old = i_full_dead j n p x h t in let b = C_bodies j n p x h t in let tk = C_taken p b.0 in grind arith

submit_ok_reply : (c : Client) (conns : ℕ → Conn) (s : Server) (a : ℕ → ℕ) (g : ℕ) (op : Op) (out : Outcome)
    → (g ≡ c.taken + 1) → (firm out ≡ false) → (is_ok out ≡ false) → (s.by_guid c.who.guid (guid_for c g) ≡ None)
    → (a g ≡ 0) → SentReplies c conns → Taken c → OkReply c conns a → OkReply (record c {
      taken = g;
      op = put c.op g op;
      outcome = put c.outcome g out;
    }) conns a
submit_ok_reply c conns s a g op out next fired okay unknown never C_sent_replies C_taken i_ok_reply =
    λ j n p y h t. let old = i_ok_reply j n p y h t in let sent = C_sent_replies j n p y h t in let tk = C_taken p sent in grind arith

submit_no_reply : (c : Client) (conns : ℕ → Conn) (s : Server) (a : ℕ → ℕ) (g : ℕ) (op : Op) (out : Outcome)
    → (g ≡ c.taken + 1) → (firm out ≡ false) → (is_ok out ≡ false) → (s.by_guid c.who.guid (guid_for c g) ≡ None)
    → (a g ≡ 0) → SentReplies c conns → Taken c → NoReply c conns a → NoReply (record c {
      taken = g;
      op = put c.op g op;
      outcome = put c.outcome g out;
    }) conns a
submit_no_reply c conns s a g op out next fired okay unknown never C_sent_replies C_taken i_no_reply =
    λ j n p y h t. let old = i_no_reply j n p y h t in let sent = C_sent_replies j n p y h t in let tk = C_taken p sent in grind arith

submit_kept_reply : (c : Client) (conns : ℕ → Conn) (s : Server) (a : ℕ → ℕ) (g : ℕ) (op : Op) (out : Outcome)
    → (g ≡ c.taken + 1) → (firm out ≡ false) → (is_ok out ≡ false) → (s.by_guid c.who.guid (guid_for c g) ≡ None)
    → (a g ≡ 0) → SentReplies c conns → Taken c → KeptReply c conns s → KeptReply (record c {
      taken = g;
      op = put c.op g op;
      outcome = put c.outcome g out;
    }) conns s
submit_kept_reply c conns s a g op out next fired okay unknown never C_sent_replies C_taken i_kept_reply =
    λ j n p y h t. let old = i_kept_reply j n p y h t in let sent = C_sent_replies j n p y h t in let tk = C_taken p sent in grind arith

submit_first_reply : (c : Client) (conns : ℕ → Conn) (s : Server) (a : ℕ → ℕ) (g : ℕ) (op : Op) (out : Outcome)
    → (g ≡ c.taken + 1) → (firm out ≡ false) → (is_ok out ≡ false) → (s.by_guid c.who.guid (guid_for c g) ≡ None)
    → (a g ≡ 0) → SentReplies c conns → Taken c → FirstReply c conns a → FirstReply (record c {
      taken = g;
      op = put c.op g op;
      outcome = put c.outcome g out;
    }) conns a
submit_first_reply c conns s a g op out next fired okay unknown never C_sent_replies C_taken i_first_reply =
    λ j n p y h t. let old = i_first_reply j n p y h t in let sent = C_sent_replies j n p y h t in let tk = C_taken p sent in grind arith

submit_closed_not : (c : Client) (conns : ℕ → Conn) (s : Server) (a : ℕ → ℕ) (g : ℕ) (op : Op) (out : Outcome)
    → (g ≡ c.taken + 1) → (firm out ≡ false) → (is_ok out ≡ false) → (s.by_guid c.who.guid (guid_for c g) ≡ None)
    → (a g ≡ 0) → Taken c → ClosedNot c s a → ClosedNot (record c {
      taken = g;
      op = put c.op g op;
      outcome = put c.outcome g out;
    }) s a
submit_closed_not c conns s a g op out next fired okay unknown never C_taken i_closed_not =
    λ p l s0. let tk = C_taken p s0 in let old = i_closed_not p in grind arith

submit_left_full : (c : Client) (conns : ℕ → Conn) (s : Server) (a : ℕ → ℕ) (g : ℕ) (op : Op) (out : Outcome)
    → (g ≡ c.taken + 1) → (firm out ≡ false) → (is_ok out ≡ false) → (s.by_guid c.who.guid (guid_for c g) ≡ None)
    → (a g ≡ 0) → Bodies c conns → Taken c → LeftFull c conns s → LeftFull (record c {
      taken = g;
      op = put c.op g op;
      outcome = put c.outcome g out;
    }) conns s
submit_left_full c conns s a g op out next fired okay unknown never C_bodies C_taken i_left_full =
    λ j n p x h t. let old = i_left_full j n p x h t in let b = C_bodies j n p x h t in let tk = C_taken p b.0 in grind arith

submit_left_stuck : (c : Client) (conns : ℕ → Conn) (s : Server) (a : ℕ → ℕ) (g : ℕ) (op : Op) (out : Outcome)
    → (g ≡ c.taken + 1) → (firm out ≡ false) → (is_ok out ≡ false) → (s.by_guid c.who.guid (guid_for c g) ≡ None)
    → (a g ≡ 0) → Bodies c conns → Taken c → LeftStuck c conns s → LeftStuck (record c {
      taken = g;
      op = put c.op g op;
      outcome = put c.outcome g out;
    }) conns s
submit_left_stuck c conns s a g op out next fired okay unknown never C_bodies C_taken i_left_stuck =
    λ j n p x h t. let old = i_left_stuck j n p x h t in let b = C_bodies j n p x h t in let tk = C_taken p b.0 in grind arith

submit_left_idle : (c : Client) (conns : ℕ → Conn) (s : Server) (a : ℕ → ℕ) (g : ℕ) (op : Op) (out : Outcome)
    → (g ≡ c.taken + 1) → (firm out ≡ false) → (is_ok out ≡ false) → (s.by_guid c.who.guid (guid_for c g) ≡ None)
    → (a g ≡ 0) → Bodies c conns → Taken c → LeftIdle c conns s a → LeftIdle (record c {
      taken = g;
      op = put c.op g op;
      outcome = put c.outcome g out;
    }) conns s a
submit_left_idle c conns s a g op out next fired okay unknown never C_bodies C_taken i_left_idle =
    λ j n p q x h t. let old = i_left_idle j n p q x h t in let b = C_bodies j n p x h t in let tk = C_taken p b.0 in grind arith

submit_close_done : (c : Client) (conns : ℕ → Conn) (s : Server) (a : ℕ → ℕ) (g : ℕ) (op : Op) (out : Outcome)
    → (g ≡ c.taken + 1) → (firm out ≡ false) → (is_ok out ≡ false) → (s.by_guid c.who.guid (guid_for c g) ≡ None)
    → (a g ≡ 0) → SentReplies c conns → Taken c → CloseDone c conns s → CloseDone (record c {
      taken = g;
      op = put c.op g op;
      outcome = put c.outcome g out;
    }) conns s
submit_close_done c conns s a g op out next fired okay unknown never C_sent_replies C_taken i_close_done =
    λ j n p y h t. let old = i_close_done j n p y h t in let sent = C_sent_replies j n p y h t in let tk = C_taken p sent in grind arith

submit_close_full : (c : Client) (conns : ℕ → Conn) (s : Server) (a : ℕ → ℕ) (g : ℕ) (op : Op) (out : Outcome)
    → (g ≡ c.taken + 1) → (firm out ≡ false) → (is_ok out ≡ false) → (s.by_guid c.who.guid (guid_for c g) ≡ None)
    → (a g ≡ 0) → SentReplies c conns → Taken c → CloseFull c conns s → CloseFull (record c {
      taken = g;
      op = put c.op g op;
      outcome = put c.outcome g out;
    }) conns s
submit_close_full c conns s a g op out next fired okay unknown never C_sent_replies C_taken i_close_full =
    λ j n p y h t. let old = i_close_full j n p y h t in let sent = C_sent_replies j n p y h t in let tk = C_taken p sent in grind arith

submit_close_stuck : (c : Client) (conns : ℕ → Conn) (s : Server) (a : ℕ → ℕ) (g : ℕ) (op : Op) (out : Outcome)
    → (g ≡ c.taken + 1) → (firm out ≡ false) → (is_ok out ≡ false) → (s.by_guid c.who.guid (guid_for c g) ≡ None)
    → (a g ≡ 0) → SentReplies c conns → Taken c → CloseStuck c conns s → CloseStuck (record c {
      taken = g;
      op = put c.op g op;
      outcome = put c.outcome g out;
    }) conns s
submit_close_stuck c conns s a g op out next fired okay unknown never C_sent_replies C_taken i_close_stuck =
    λ j n p y h t. let old = i_close_stuck j n p y h t in let sent = C_sent_replies j n p y h t in let tk = C_taken p sent in grind arith

submit_made_plain : (c : Client) (conns : ℕ → Conn) (s : Server) (a : ℕ → ℕ) (g : ℕ) (op : Op) (out : Outcome)
    → (g ≡ c.taken + 1) → (firm out ≡ false) → (is_ok out ≡ false) → (s.by_guid c.who.guid (guid_for c g) ≡ None)
    → (a g ≡ 0) → MadePlain c a → MadePlain (record c { taken = g; op = put c.op g op; outcome = put c.outcome g out })
    a
submit_made_plain c conns s a g op out next fired okay unknown never i_made_plain =
    λ p. let old = i_made_plain p in grind arith

submit_at_most : (c : Client) (conns : ℕ → Conn) (s : Server) (a : ℕ → ℕ) (g : ℕ) (op : Op) (out : Outcome)
    → (g ≡ c.taken + 1) → (firm out ≡ false) → (is_ok out ≡ false) → (s.by_guid c.who.guid (guid_for c g) ≡ None)
    → (a g ≡ 0) → AtMost c a → AtMost (record c { taken = g; op = put c.op g op; outcome = put c.outcome g out }) a
submit_at_most c conns s a g op out next fired okay unknown never i_at_most =
    λ p. let old = i_at_most p in grind arith

submit_ok_acted : (c : Client) (conns : ℕ → Conn) (s : Server) (a : ℕ → ℕ) (g : ℕ) (op : Op) (out : Outcome)
    → (g ≡ c.taken + 1) → (firm out ≡ false) → (is_ok out ≡ false) → (s.by_guid c.who.guid (guid_for c g) ≡ None)
    → (a g ≡ 0) → OkActed c a → OkActed (record c { taken = g; op = put c.op g op; outcome = put c.outcome g out }) a
submit_ok_acted c conns s a g op out next fired okay unknown never i_ok_acted =
    λ p. let old = i_ok_acted p in grind arith

submit_refused_not : (c : Client) (conns : ℕ → Conn) (s : Server) (a : ℕ → ℕ) (g : ℕ) (op : Op) (out : Outcome)
    → (g ≡ c.taken + 1) → (firm out ≡ false) → (is_ok out ≡ false) → (s.by_guid c.who.guid (guid_for c g) ≡ None)
    → (a g ≡ 0) → RefusedNot c a → RefusedNot (record c {
      taken = g;
      op = put c.op g op;
      outcome = put c.outcome g out;
    }) a
submit_refused_not c conns s a g op out next fired okay unknown never i_refused_not =
    λ p. let old = i_refused_not p in grind arith

pub submit_keeps : (c : Client) (conns : ℕ → Conn) (s : Server) (a : ℕ → ℕ) (g : ℕ) (op : Op) (out : Outcome)
    → (g ≡ c.taken + 1) → (firm out ≡ false) → (is_ok out ≡ false) → (s.by_guid c.who.guid (guid_for c g) ≡ None)
    → (makes_open op ≡ false → c.closed_ok (its_create g op) ≡ true → is_unsettled out ≡ false) → (a g ≡ 0)
    → Connections c conns a → Locks c conns s a → Locks (record c {
      taken = g;
      op = put c.op g op;
      outcome = put c.outcome g out;
    }) conns s a
submit_keeps c conns s a g op out next fired okay unknown gone never C i =
    record {
      slot_index = submit_slot_index c conns s a g op out next fired okay unknown never C.taken i.slot_index;
      user_body = submit_user_body c conns s a g op out next fired okay unknown never C.taken i.user_body;
      in_use = submit_in_use c conns s a g op out next fired okay unknown never C.taken i.in_use;
      full_free = submit_full_free c conns s a g op out next fired okay unknown never C.taken i.full_free;
      attached_low = i.attached_low;
      shut_ok = submit_shut_ok c conns s a g op out next fired okay unknown never i.shut_ok;
      shut_made = submit_shut_made c conns s a g op out next fired okay unknown never i.shut_made;
      shut_gone = submit_shut_gone c conns s a g op out next fired okay unknown gone never i.shut_gone;
      close_before = submit_close_before c conns s a g op out next fired okay unknown never C.taken i.close_before;
      close_after = submit_close_after c conns s a g op out next fired okay unknown never C.taken i.close_after;
      unsent_gone = submit_unsent_gone c conns s a g op out next fired okay unknown never C.taken i.unsent_gone;
      unanswered = i.unanswered;
      ask_up = submit_ask_up c conns s a g op out next fired okay unknown never C.creates i.ask_up;
      ask_down = submit_ask_down c conns s a g op out next fired okay unknown never C.creates i.ask_down;
      users = submit_users c conns s a g op out next fired okay unknown never C.bodies C.taken i.users;
      copy_now = submit_copy_now c conns s a g op out next fired okay unknown never C.bodies C.taken i.copy_now;
      retried_on = submit_retried_on c conns s a g op out next fired okay unknown never C.bodies C.taken i.retried_on;
      retried_done = submit_retried_done c conns s a g op out next fired okay unknown never C.bodies C.taken i.retried_done;
      copy_attached = submit_copy_attached c conns s a g op out next fired okay unknown never C.bodies C.taken i.copy_attached;
      now_attached = submit_now_attached c conns s a g op out next fired okay unknown never i.now_attached;
      opened_reply = submit_opened_reply c conns s a g op out next fired okay unknown never C.sent_replies C.taken i.opened_reply;
      join_reply = submit_join_reply c conns s a g op out next fired okay unknown never i.join_reply i.ask_down;
      joined_reply = submit_joined_reply c conns s a g op out next fired okay unknown never i.joined_reply i.ask_down;
      lost_reply = submit_lost_reply c conns s a g op out next fired okay unknown never i.lost_reply i.ask_down;
      kept_says = submit_kept_says c conns s a g op out next fired okay unknown never C.taken i.kept_says i.user_body;
      not_kept = submit_not_kept c conns s a g op out next fired okay unknown never C.taken i.not_kept i.user_body;
      firm_kept = submit_firm_kept c conns s a g op out next fired okay unknown never C.taken i.firm_kept i.user_body;
      no_user = submit_no_user c conns s a g op out next fired okay unknown never i.no_user;
      no_slots = submit_no_slots c conns s a g op out next fired okay unknown never i.no_slots;
      full_dead = submit_full_dead c conns s a g op out next fired okay unknown never C.bodies C.taken i.full_dead;
      ok_reply = submit_ok_reply c conns s a g op out next fired okay unknown never C.sent_replies C.taken i.ok_reply;
      no_reply = submit_no_reply c conns s a g op out next fired okay unknown never C.sent_replies C.taken i.no_reply;
      kept_reply = submit_kept_reply c conns s a g op out next fired okay unknown never C.sent_replies C.taken i.kept_reply;
      first_reply = submit_first_reply c conns s a g op out next fired okay unknown never C.sent_replies C.taken i.first_reply;
      closed_not = submit_closed_not c conns s a g op out next fired okay unknown never C.taken i.closed_not;
      kept_files = i.kept_files;
      left_full = submit_left_full c conns s a g op out next fired okay unknown never C.bodies C.taken i.left_full;
      left_stuck = submit_left_stuck c conns s a g op out next fired okay unknown never C.bodies C.taken i.left_stuck;
      left_idle = submit_left_idle c conns s a g op out next fired okay unknown never C.bodies C.taken i.left_idle;
      close_done = submit_close_done c conns s a g op out next fired okay unknown never C.sent_replies C.taken i.close_done;
      close_full = submit_close_full c conns s a g op out next fired okay unknown never C.sent_replies C.taken i.close_full;
      close_stuck = submit_close_stuck c conns s a g op out next fired okay unknown never C.sent_replies C.taken i.close_stuck;
      made_plain = submit_made_plain c conns s a g op out next fired okay unknown never i.made_plain;
      at_most = submit_at_most c conns s a g op out next fired okay unknown never i.at_most;
      ok_acted = submit_ok_acted c conns s a g op out next fired okay unknown never i.ok_acted;
      refused_not = submit_refused_not c conns s a g op out next fired okay unknown never i.refused_not;
    }
