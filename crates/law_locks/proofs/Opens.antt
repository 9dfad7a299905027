-- Written by tools/law_locks.py. A create that is outstanding names its open.
use Rattle.std.proofs.Common.{◌≡◌, ℕ, true, arith}
use Rattle.spec_exchange.specs.Table.{put}
use Rattle.spec_exchange.specs.State.{Server}
use Rattle.spec_exchange.specs.Operations.{is_unsettled}
use Rattle.spec_exchange.specs.Client.{Client}
use Rattle.spec_exchange.specs.Network.{Conn}
use Rattle.law_sessions.specs.messages.Connections.{Connections, makes_open, create_at, HasOpen, Bodies, SentReplies}
use Rattle.law_locks.specs.Locks.{Locks, UserBody, AttachedLow, AskUp, AskDown, CopyNow, CopyAttached, NowAttached}
use Rattle.law_locks.specs.Locks.{JoinReply, JoinedReply, LostReply, KeptSays, NotKept, FirmKept, NoUser, KeptReply}
use Rattle.law_locks.specs.Locks.{ClosedNot, LeftFull, LeftStuck, LeftIdle, CloseDone, CloseFull, CloseStuck}
use Rattle.law_locks.proofs.Words.{lock_kind, close_kind, ok_settled, ok_of}

opens_attached_low : (c : Client) (conns : ℕ → Conn) (s : Server) (a : ℕ → ℕ) (g id : ℕ) → (makes_open (c.op g) ≡ true)
    → (is_unsettled (c.outcome g) ≡ true) → AttachedLow c → AttachedLow (record c {
      file = put c.file g id;
      attached = put c.attached g c.session_number;
    })
opens_attached_low c conns s a g id create pending i_attached_low =
    λ q. let old = i_attached_low q in grind arith

opens_ask_up : (c : Client) (conns : ℕ → Conn) (s : Server) (a : ℕ → ℕ) (g id : ℕ) → (makes_open (c.op g) ≡ true)
    → (is_unsettled (c.outcome g) ≡ true) → AskUp c conns → AskUp (record c {
      file = put c.file g id;
      attached = put c.attached g c.session_number;
    }) conns
opens_ask_up c conns s a g id create pending i_ask_up =
    λ j n p x h t. let old = i_ask_up j n p x h t in let os = ok_settled (c.outcome (create_at c p)) old.3 in grind arith

opens_copy_now : (c : Client) (conns : ℕ → Conn) (s : Server) (a : ℕ → ℕ) (g id : ℕ) → (makes_open (c.op g) ≡ true)
    → (is_unsettled (c.outcome g) ≡ true) → Bodies c conns → HasOpen c → CopyNow c conns s → CopyNow (record c {
      file = put c.file g id;
      attached = put c.attached g c.session_number;
    }) conns s
opens_copy_now c conns s a g id create pending C_bodies C_has_open i_copy_now =
    λ j n p x h t. let old = i_copy_now j n p x h t in let b = C_bodies j n p x h t in let ok1 = ok_of c C_has_open p
    b.0 in let os = ok_settled (c.outcome (create_at c p)) in let ck = close_kind (c.op p) in grind arith

opens_copy_attached : (c : Client) (conns : ℕ → Conn) (s : Server) (a : ℕ → ℕ) (g id : ℕ) → (makes_open (c.op g) ≡ true)
    → (is_unsettled (c.outcome g) ≡ true) → Bodies c conns → HasOpen c → CopyAttached c conns s
    → CopyAttached (record c { file = put c.file g id; attached = put c.attached g c.session_number }) conns s
opens_copy_attached c conns s a g id create pending C_bodies C_has_open i_copy_attached =
    λ j n p x h t. let old = i_copy_attached j n p x h t in let b = C_bodies j n p x h t in let ok1 = ok_of c C_has_open
    p b.0 in let os = ok_settled (c.outcome (create_at c p)) in let ck = close_kind (c.op p) in grind arith

opens_now_attached : (c : Client) (conns : ℕ → Conn) (s : Server) (a : ℕ → ℕ) (g id : ℕ) → (makes_open (c.op g) ≡ true)
    → (is_unsettled (c.outcome g) ≡ true) → NowAttached c s → NowAttached (record c {
      file = put c.file g id;
      attached = put c.attached g c.session_number;
    }) s
opens_now_attached c conns s a g id create pending i_now_attached =
    λ q m ok1. let old = i_now_attached q m ok1 in let os = ok_settled (c.outcome q) ok1 in grind arith

opens_join_reply : (c : Client) (conns : ℕ → Conn) (s : Server) (a : ℕ → ℕ) (g id : ℕ) → (makes_open (c.op g) ≡ true)
    → (is_unsettled (c.outcome g) ≡ true) → JoinReply c conns s → AskDown c conns → JoinReply (record c {
      file = put c.file g id;
      attached = put c.attached g c.session_number;
    }) conns s
opens_join_reply c conns s a g id create pending i_join_reply i_ask_down =
    λ j n p y h t. let old = i_join_reply j n p y h t in let ad = i_ask_down j n p y h t in let os =
    ok_settled (c.outcome (create_at c p)) ad.3 in grind arith

opens_joined_reply : (c : Client) (conns : ℕ → Conn) (s : Server) (a : ℕ → ℕ) (g id : ℕ) → (makes_open (c.op g) ≡ true)
    → (is_unsettled (c.outcome g) ≡ true) → JoinedReply c conns s → AskDown c conns → JoinedReply (record c {
      file = put c.file g id;
      attached = put c.attached g c.session_number;
    }) conns s
opens_joined_reply c conns s a g id create pending i_joined_reply i_ask_down =
    λ j n p y h t. let old = i_joined_reply j n p y h t in let ad = i_ask_down j n p y h t in let os =
    ok_settled (c.outcome (create_at c p)) ad.3 in grind arith

opens_lost_reply : (c : Client) (conns : ℕ → Conn) (s : Server) (a : ℕ → ℕ) (g id : ℕ) → (makes_open (c.op g) ≡ true)
    → (is_unsettled (c.outcome g) ≡ true) → LostReply c conns s → AskDown c conns → LostReply (record c {
      file = put c.file g id;
      attached = put c.attached g c.session_number;
    }) conns s
opens_lost_reply c conns s a g id create pending i_lost_reply i_ask_down =
    λ j n p y h t. let old = i_lost_reply j n p y h t in let ad = i_ask_down j n p y h t in let os =
    ok_settled (c.outcome (create_at c p)) ad.3 in grind arith

opens_kept_says : (c : Client) (conns : ℕ → Conn) (s : Server) (a : ℕ → ℕ) (g id : ℕ) → (makes_open (c.op g) ≡ true)
    → (is_unsettled (c.outcome g) ≡ true) → HasOpen c → KeptSays c s a → UserBody c → KeptSays (record c {
      file = put c.file g id;
      attached = put c.attached g c.session_number;
    }) s a
opens_kept_says c conns s a g id create pending C_has_open i_kept_says i_user_body =
    λ p st e. let old = i_kept_says p st e in let ub = i_user_body _ _ p e in let ok1 = ok_of c C_has_open p ub.3
    (lock_kind (c.op p) ub.0) in let os = ok_settled (c.outcome (create_at c p)) ok1 in grind arith

opens_not_kept : (c : Client) (conns : ℕ → Conn) (s : Server) (a : ℕ → ℕ) (g id : ℕ) → (makes_open (c.op g) ≡ true)
    → (is_unsettled (c.outcome g) ≡ true) → HasOpen c → NotKept c s a → UserBody c → NotKept (record c {
      file = put c.file g id;
      attached = put c.attached g c.session_number;
    }) s a
opens_not_kept c conns s a g id create pending C_has_open i_not_kept i_user_body =
    λ p e. let old = i_not_kept p e in let ub = i_user_body _ _ p e in let ok1 = ok_of c C_has_open p ub.3
    (lock_kind (c.op p) ub.0) in let os = ok_settled (c.outcome (create_at c p)) ok1 in grind arith

opens_firm_kept : (c : Client) (conns : ℕ → Conn) (s : Server) (a : ℕ → ℕ) (g id : ℕ) → (makes_open (c.op g) ≡ true)
    → (is_unsettled (c.outcome g) ≡ true) → HasOpen c → FirmKept c s → UserBody c → FirmKept (record c {
      file = put c.file g id;
      attached = put c.attached g c.session_number;
    }) s
opens_firm_kept c conns s a g id create pending C_has_open i_firm_kept i_user_body =
    λ p e. let old = i_firm_kept p e in let ub = i_user_body _ _ p e in let ok1 = ok_of c C_has_open p ub.3
    (lock_kind (c.op p) ub.0) in let os = ok_settled (c.outcome (create_at c p)) ok1 in grind arith

opens_no_user : (c : Client) (conns : ℕ → Conn) (s : Server) (a : ℕ → ℕ) (g id : ℕ) → (makes_open (c.op g) ≡ true)
    → (is_unsettled (c.outcome g) ≡ true) → NoUser c s → NoUser (record c {
      file = put c.file g id;
      attached = put c.attached g c.session_number;
    }) s
opens_no_user c conns s a g id create pending i_no_user =
    λ q r ok1. let old = i_no_user q r ok1 in let os = ok_settled (c.outcome q) ok1 in grind arith

opens_kept_reply : (c : Client) (conns : ℕ → Conn) (s : Server) (a : ℕ → ℕ) (g id : ℕ) → (makes_open (c.op g) ≡ true)
    → (is_unsettled (c.outcome g) ≡ true) → HasOpen c → SentReplies c conns → KeptReply c conns s
    → KeptReply (record c { file = put c.file g id; attached = put c.attached g c.session_number }) conns s
opens_kept_reply c conns s a g id create pending C_has_open C_sent_replies i_kept_reply =
    λ j n p y h t. let old = i_kept_reply j n p y h t in let s1 = C_sent_replies j n p y h t in let ok1 =
    ok_of c C_has_open p s1 in let os = ok_settled (c.outcome (create_at c p)) in let ck = close_kind (c.op p) in
    let lk = lock_kind (c.op p) in grind arith

opens_closed_not : (c : Client) (conns : ℕ → Conn) (s : Server) (a : ℕ → ℕ) (g id : ℕ) → (makes_open (c.op g) ≡ true)
    → (is_unsettled (c.outcome g) ≡ true) → HasOpen c → ClosedNot c s a → ClosedNot (record c {
      file = put c.file g id;
      attached = put c.attached g c.session_number;
    }) s a
opens_closed_not c conns s a g id create pending C_has_open i_closed_not =
    λ p l s0. let old = i_closed_not p l s0 in let ok1 = ok_of c C_has_open p s0 (lock_kind (c.op p) l) in let os =
    ok_settled (c.outcome (create_at c p)) ok1 in grind arith

opens_left_full : (c : Client) (conns : ℕ → Conn) (s : Server) (a : ℕ → ℕ) (g id : ℕ) → (makes_open (c.op g) ≡ true)
    → (is_unsettled (c.outcome g) ≡ true) → Bodies c conns → HasOpen c → LeftFull c conns s → LeftFull (record c {
      file = put c.file g id;
      attached = put c.attached g c.session_number;
    }) conns s
opens_left_full c conns s a g id create pending C_bodies C_has_open i_left_full =
    λ j n p x h t. let old = i_left_full j n p x h t in let b = C_bodies j n p x h t in let ok1 = ok_of c C_has_open p
    b.0 in let os = ok_settled (c.outcome (create_at c p)) in let ck = close_kind (c.op p) in grind arith

opens_left_stuck : (c : Client) (conns : ℕ → Conn) (s : Server) (a : ℕ → ℕ) (g id : ℕ) → (makes_open (c.op g) ≡ true)
    → (is_unsettled (c.outcome g) ≡ true) → Bodies c conns → HasOpen c → LeftStuck c conns s → LeftStuck (record c {
      file = put c.file g id;
      attached = put c.attached g c.session_number;
    }) conns s
opens_left_stuck c conns s a g id create pending C_bodies C_has_open i_left_stuck =
    λ j n p x h t. let old = i_left_stuck j n p x h t in let b = C_bodies j n p x h t in let ok1 = ok_of c C_has_open p
    b.0 in let os = ok_settled (c.outcome (create_at c p)) in let ck = close_kind (c.op p) in grind arith

opens_left_idle : (c : Client) (conns : ℕ → Conn) (s : Server) (a : ℕ → ℕ) (g id : ℕ) → (makes_open (c.op g) ≡ true)
    → (is_unsettled (c.outcome g) ≡ true) → Bodies c conns → HasOpen c → LeftIdle c conns s a → LeftIdle (record c {
      file = put c.file g id;
      attached = put c.attached g c.session_number;
    }) conns s a
opens_left_idle c conns s a g id create pending C_bodies C_has_open i_left_idle =
    λ j n p q x h t. let old = i_left_idle j n p q x h t in let b = C_bodies j n p x h t in let ok1 = ok_of c C_has_open
    p b.0 in let os = ok_settled (c.outcome (create_at c p)) in let ck = close_kind (c.op p) in grind arith

opens_close_done : (c : Client) (conns : ℕ → Conn) (s : Server) (a : ℕ → ℕ) (g id : ℕ) → (makes_open (c.op g) ≡ true)
    → (is_unsettled (c.outcome g) ≡ true) → HasOpen c → SentReplies c conns → CloseDone c conns s
    → CloseDone (record c { file = put c.file g id; attached = put c.attached g c.session_number }) conns s
opens_close_done c conns s a g id create pending C_has_open C_sent_replies i_close_done =
    λ j n p y h t. let old = i_close_done j n p y h t in let s1 = C_sent_replies j n p y h t in let ok1 =
    ok_of c C_has_open p s1 in let os = ok_settled (c.outcome (create_at c p)) in let ck = close_kind (c.op p) in
    let lk = lock_kind (c.op p) in grind arith

opens_close_full : (c : Client) (conns : ℕ → Conn) (s : Server) (a : ℕ → ℕ) (g id : ℕ) → (makes_open (c.op g) ≡ true)
    → (is_unsettled (c.outcome g) ≡ true) → HasOpen c → SentReplies c conns → CloseFull c conns s
    → CloseFull (record c { file = put c.file g id; attached = put c.attached g c.session_number }) conns s
opens_close_full c conns s a g id create pending C_has_open C_sent_replies i_close_full =
    λ j n p y h t. let old = i_close_full j n p y h t in let s1 = C_sent_replies j n p y h t in let ok1 =
    ok_of c C_has_open p s1 in let os = ok_settled (c.outcome (create_at c p)) in let ck = close_kind (c.op p) in
    let lk = lock_kind (c.op p) in grind arith

opens_close_stuck : (c : Client) (conns : ℕ → Conn) (s : Server) (a : ℕ → ℕ) (g id : ℕ) → (makes_open (c.op g) ≡ true)
    → (is_unsettled (c.outcome g) ≡ true) → HasOpen c → SentReplies c conns → CloseStuck c conns s
    → CloseStuck (record c { file = put c.file g id; attached = put c.attached g c.session_number }) conns s
opens_close_stuck c conns s a g id create pending C_has_open C_sent_replies i_close_stuck =
    λ j n p y h t. let old = i_close_stuck j n p y h t in let s1 = C_sent_replies j n p y h t in let ok1 =
    ok_of c C_has_open p s1 in let os = ok_settled (c.outcome (create_at c p)) in let ck = close_kind (c.op p) in
    let lk = lock_kind (c.op p) in grind arith

pub opens_keeps : (c : Client) (conns : ℕ → Conn) (s : Server) (a : ℕ → ℕ) (g id : ℕ) → (makes_open (c.op g) ≡ true)
    → (is_unsettled (c.outcome g) ≡ true) → Connections c conns a → Locks c conns s a → Locks (record c {
      file = put c.file g id;
      attached = put c.attached g c.session_number;
    }) conns s a
opens_keeps c conns s a g id create pending C i =
    record {
      slot_index = i.slot_index;
      user_body = i.user_body;
      in_use = i.in_use;
      full_free = i.full_free;
      attached_low = opens_attached_low c conns s a g id create pending i.attached_low;
      shut_ok = i.shut_ok;
      shut_made = i.shut_made;
      shut_gone = i.shut_gone;
      close_before = i.close_before;
      close_after = i.close_after;
      unsent_gone = i.unsent_gone;
      unanswered = i.unanswered;
      ask_up = opens_ask_up c conns s a g id create pending i.ask_up;
      ask_down = i.ask_down;
      users = i.users;
      copy_now = opens_copy_now c conns s a g id create pending C.bodies C.has_open i.copy_now;
      retried_on = i.retried_on;
      retried_done = i.retried_done;
      copy_attached = opens_copy_attached c conns s a g id create pending C.bodies C.has_open i.copy_attached;
      now_attached = opens_now_attached c conns s a g id create pending i.now_attached;
      opened_reply = i.opened_reply;
      join_reply = opens_join_reply c conns s a g id create pending i.join_reply i.ask_down;
      joined_reply = opens_joined_reply c conns s a g id create pending i.joined_reply i.ask_down;
      lost_reply = opens_lost_reply c conns s a g id create pending i.lost_reply i.ask_down;
      kept_says = opens_kept_says c conns s a g id create pending C.has_open i.kept_says i.user_body;
      not_kept = opens_not_kept c conns s a g id create pending C.has_open i.not_kept i.user_body;
      firm_kept = opens_firm_kept c conns s a g id create pending C.has_open i.firm_kept i.user_body;
      no_user = opens_no_user c conns s a g id create pending i.no_user;
      no_slots = i.no_slots;
      full_dead = i.full_dead;
      ok_reply = i.ok_reply;
      no_reply = i.no_reply;
      kept_reply = opens_kept_reply c conns s a g id create pending C.has_open C.sent_replies i.kept_reply;
      first_reply = i.first_reply;
      closed_not = opens_closed_not c conns s a g id create pending C.has_open i.closed_not;
      kept_files = i.kept_files;
      left_full = opens_left_full c conns s a g id create pending C.bodies C.has_open i.left_full;
      left_stuck = opens_left_stuck c conns s a g id create pending C.bodies C.has_open i.left_stuck;
      left_idle = opens_left_idle c conns s a g id create pending C.bodies C.has_open i.left_idle;
      close_done = opens_close_done c conns s a g id create pending C.has_open C.sent_replies i.close_done;
      close_full = opens_close_full c conns s a g id create pending C.has_open C.sent_replies i.close_full;
      close_stuck = opens_close_stuck c conns s a g id create pending C.has_open C.sent_replies i.close_stuck;
      made_plain = i.made_plain;
      at_most = i.at_most;
      ok_acted = i.ok_acted;
      refused_not = i.refused_not;
    }
