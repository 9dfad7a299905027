-- Written by tools/law_locks.py. A lock takes its slot and goes out first.
use Rattle.std.proofs.lemmas.Bool.{eqb-false}
use Rattle.std.proofs.Common.{eqb-true, ◌≡◌, ◌≢◌, ℕ, ◌<◌, ◌==◌, true, false, if◌then◌else◌, refl, arith, sym, subst}
use Rattle.std.proofs.Common.{◌∙◌, ap, Option, Some, None}
use Rattle.spec_exchange.specs.Table.{put, put2}
use Rattle.spec_exchange.specs.Status.{success}
use Rattle.spec_exchange.specs.State.{Server}
use Rattle.spec_exchange.specs.Operations.{is_unsettled, is_ok}
use Rattle.spec_exchange.specs.Client.{Client}
use Rattle.spec_exchange.specs.Network.{Conn}
use Rattle.law_sessions.specs.messages.Connections.{Connections, makes_open, shuts_open, create_at, Outstanding, Settled, Taken}
use Rattle.law_sessions.specs.messages.Connections.{Fresh, Bodies, SentReplies}
use Rattle.law_locks.specs.Locks.{Locks, locking, kept_at, firm, in_slots, user_at, open_at, kept_of, SlotIndex}
use Rattle.law_locks.specs.Locks.{UserBody, InUse, FullFree, ShutGone, CloseBefore, CloseAfter, UnsentGone, Users}
use Rattle.law_locks.specs.Locks.{RetriedOn, RetriedDone, KeptSays, NotKept, FirmKept, NoUser, FullDead, KeptReply}
use Rattle.law_locks.specs.Locks.{ClosedNot}
use Rattle.law_locks.proofs.Words.{lock_stays, unsettled_firm, unsettled_unsent, firm_settled, kept_none, kept_other, up_on}

-- the number that it takes isn't one that its slot keeps
fresh_number : (c : Client) (s : Server) (q0 i0 m0 : ℕ) → ((h : ℕ) → c.slot_user q0 i0 ≡ Some h → firm (c.outcome h)
    ≡ true × m0 ≢ c.number_of h) → c.full q0 i0 ≡ false → UserBody c → FirmKept c s
    → (c.slot_user q0 i0 ≡ None → s.standing (c.file q0) ≡ true → s.lock_sequences (c.file q0) i0 ≡ None)
    → (u : Option ℕ) → c.slot_user q0 i0 ≡ u → s.standing (c.file q0) ≡ true
    → kept_at (s.lock_sequences (c.file q0) i0) m0 ≡ None
fresh_number c s q0 i0 m0 unused unfull body kept none None e st = ap (λ k. kept_at k m0) (none e st) ∙ kept_none m0
fresh_number c s q0 i0 m0 unused unfull body kept none (Some h) e st =
    let un = unused h e in let ub = body q0 i0 h e in let k = kept h in
    kept_other (s.lock_sequences (c.file q0) i0) (c.number_of h) m0 (grind arith) un.1

abbrev Says : Client → Server → (ℕ → ℕ) → ℕ → ℕ → Type 0
Says c s a g st = user_at c g ≡ Some g → s.standing (open_at c g) ≡ true → kept_of c s g ≡ Some st → a g ≡ (if st == success then 1 else 0)

says_own : (c : Client) (s : Server) (a : ℕ → ℕ) (g q0 i0 m0 st : ℕ) → q0 ≡ create_at c g
    → (s.standing (c.file q0) ≡ true → kept_at (s.lock_sequences (c.file q0) i0) m0 ≡ None) → Says (record c {
      slot_of = put c.slot_of g i0;
      number_of = put c.number_of g m0;
      slot_user = put2 c.slot_user q0 i0 (Some g);
      sent = put c.sent g true;
    }) s a g st
says_own c s a g q0 i0 m0 st its none u stands kept = let n = none in grind arith

says_other : (c : Client) (s : Server) (a : ℕ → ℕ) (g q0 i0 m0 p st : ℕ) → p ≢ g → Says c s a p st → Says (record c {
  slot_of = put c.slot_of g i0;
  number_of = put c.number_of g m0;
  slot_user = put2 c.slot_user q0 i0 (Some g);
  sent = put c.sent g true;
}) s a p st
says_other c s a g q0 i0 m0 p st d old u stands kept = grind arith

begin_lock_slot_index : (c : Client) (conns : ℕ → Conn) (s : Server) (a : ℕ → ℕ) (g q0 i0 m0 : ℕ) → (c.sent g ≡ false)
    → (locking (c.op g) ≡ true) → (in_slots i0 ≡ true) → (q0 ≡ create_at c g) → (is_unsettled (c.outcome g) ≡ true)
    → (c.live ≡ true) → (is_ok (c.outcome q0) ≡ true) → (makes_open (c.op q0) ≡ true)
    → (c.retried q0 i0 ≢ c.session_number) → (c.full q0 i0 ≡ false) → SlotIndex c → SlotIndex (record c {
      slot_of = put c.slot_of g i0;
      number_of = put c.number_of g m0;
      slot_user = put2 c.slot_user q0 i0 (Some g);
      sent = put c.sent g true;
    })
begin_lock_slot_index c conns s a g q0 i0 m0 new lock slot its pending live ok made unretried unfull i_slot_index =
    λ p. let old = i_slot_index p in let sl = slot in grind arith

begin_lock_user_body : (c : Client) (conns : ℕ → Conn) (s : Server) (a : ℕ → ℕ) (g q0 i0 m0 : ℕ) → (c.sent g ≡ false)
    → (locking (c.op g) ≡ true) → (in_slots i0 ≡ true) → (q0 ≡ create_at c g) → (is_unsettled (c.outcome g) ≡ true)
    → (c.live ≡ true) → (is_ok (c.outcome q0) ≡ true) → (makes_open (c.op q0) ≡ true)
    → (c.retried q0 i0 ≢ c.session_number) → (c.full q0 i0 ≡ false) → UserBody c → UserBody (record c {
      slot_of = put c.slot_of g i0;
      number_of = put c.number_of g m0;
      slot_user = put2 c.slot_user q0 i0 (Some g);
      sent = put c.sent g true;
    })
begin_lock_user_body c conns s a g q0 i0 m0 new lock slot its pending live ok made unretried unfull i_user_body =
    λ q r p. let old = i_user_body q r p in grind arith

begin_lock_in_use : (c : Client) (conns : ℕ → Conn) (s : Server) (a : ℕ → ℕ) (g q0 i0 m0 : ℕ) → (c.sent g ≡ false)
    → (locking (c.op g) ≡ true) → (in_slots i0 ≡ true) → (q0 ≡ create_at c g) → (is_unsettled (c.outcome g) ≡ true)
    → (c.live ≡ true) → (is_ok (c.outcome q0) ≡ true) → (makes_open (c.op q0) ≡ true)
    → (c.retried q0 i0 ≢ c.session_number) → (c.full q0 i0 ≡ false)
    → ((h : ℕ) → c.slot_user q0 i0 ≡ Some h → firm (c.outcome h) ≡ true × m0 ≢ c.number_of h) → InUse c
    → InUse (record c {
      slot_of = put c.slot_of g i0;
      number_of = put c.number_of g m0;
      slot_user = put2 c.slot_user q0 i0 (Some g);
      sent = put c.sent g true;
    })
begin_lock_in_use c conns s a g q0 i0 m0 new lock slot its pending live ok made unretried unfull unused i_in_use =
    λ p. let old = i_in_use p in let un = unused p in grind arith

begin_lock_full_free : (c : Client) (conns : ℕ → Conn) (s : Server) (a : ℕ → ℕ) (g q0 i0 m0 : ℕ) → (c.sent g ≡ false)
    → (locking (c.op g) ≡ true) → (in_slots i0 ≡ true) → (q0 ≡ create_at c g) → (is_unsettled (c.outcome g) ≡ true)
    → (c.live ≡ true) → (is_ok (c.outcome q0) ≡ true) → (makes_open (c.op q0) ≡ true)
    → (c.retried q0 i0 ≢ c.session_number) → (c.full q0 i0 ≡ false) → FullFree c → FullFree (record c {
      slot_of = put c.slot_of g i0;
      number_of = put c.number_of g m0;
      slot_user = put2 c.slot_user q0 i0 (Some g);
      sent = put c.sent g true;
    })
begin_lock_full_free c conns s a g q0 i0 m0 new lock slot its pending live ok made unretried unfull i_full_free =
    λ p. let old = i_full_free p in grind arith

begin_lock_shut_gone : (c : Client) (conns : ℕ → Conn) (s : Server) (a : ℕ → ℕ) (g q0 i0 m0 : ℕ) → (c.sent g ≡ false)
    → (locking (c.op g) ≡ true) → (in_slots i0 ≡ true) → (q0 ≡ create_at c g) → (is_unsettled (c.outcome g) ≡ true)
    → (c.live ≡ true) → (is_ok (c.outcome q0) ≡ true) → (makes_open (c.op q0) ≡ true)
    → (c.retried q0 i0 ≢ c.session_number) → (c.full q0 i0 ≡ false) → ShutGone c → ShutGone (record c {
      slot_of = put c.slot_of g i0;
      number_of = put c.number_of g m0;
      slot_user = put2 c.slot_user q0 i0 (Some g);
      sent = put c.sent g true;
    })
begin_lock_shut_gone c conns s a g q0 i0 m0 new lock slot its pending live ok made unretried unfull i_shut_gone =
    λ p. let old = i_shut_gone p in grind arith

begin_lock_close_before : (c : Client) (conns : ℕ → Conn) (s : Server) (a : ℕ → ℕ) (g q0 i0 m0 : ℕ) → (c.sent g ≡ false)
    → (locking (c.op g) ≡ true) → (in_slots i0 ≡ true) → (q0 ≡ create_at c g) → (is_unsettled (c.outcome g) ≡ true)
    → (c.live ≡ true) → (is_ok (c.outcome q0) ≡ true) → (makes_open (c.op q0) ≡ true)
    → ((h : ℕ) → 0 < h → h < g → create_at c h ≡ create_at c g → shuts_open (c.op h) ≡ true → is_unsettled (c.outcome h)
    ≡ false × is_ok (c.outcome h) ≡ false) → (c.retried q0 i0 ≢ c.session_number) → (c.full q0 i0 ≡ false)
    → CloseBefore c → CloseBefore (record c {
      slot_of = put c.slot_of g i0;
      number_of = put c.number_of g m0;
      slot_user = put2 c.slot_user q0 i0 (Some g);
      sent = put c.sent g true;
    })
begin_lock_close_before c conns s a g q0 i0 m0 new lock slot its pending live ok made before unretried unfull i_close_before =
    λ p q. let old = i_close_before p q in let bf = before q in grind arith

begin_lock_close_after : (c : Client) (conns : ℕ → Conn) (s : Server) (a : ℕ → ℕ) (g q0 i0 m0 : ℕ) → (c.sent g ≡ false)
    → (locking (c.op g) ≡ true) → (in_slots i0 ≡ true) → (q0 ≡ create_at c g) → (is_unsettled (c.outcome g) ≡ true)
    → (c.live ≡ true) → (is_ok (c.outcome q0) ≡ true) → (makes_open (c.op q0) ≡ true)
    → (c.retried q0 i0 ≢ c.session_number) → (c.full q0 i0 ≡ false) → CloseAfter c → CloseAfter (record c {
      slot_of = put c.slot_of g i0;
      number_of = put c.number_of g m0;
      slot_user = put2 c.slot_user q0 i0 (Some g);
      sent = put c.sent g true;
    })
begin_lock_close_after c conns s a g q0 i0 m0 new lock slot its pending live ok made unretried unfull i_close_after =
    λ q p. let old = i_close_after q p in let ls = lock_stays (c.op g) lock in grind arith

begin_lock_unsent_gone : (c : Client) (conns : ℕ → Conn) (s : Server) (a : ℕ → ℕ) (g q0 i0 m0 : ℕ) → (c.sent g ≡ false)
    → (locking (c.op g) ≡ true) → (in_slots i0 ≡ true) → (q0 ≡ create_at c g) → (is_unsettled (c.outcome g) ≡ true)
    → (c.live ≡ true) → (is_ok (c.outcome q0) ≡ true) → (makes_open (c.op q0) ≡ true)
    → (c.retried q0 i0 ≢ c.session_number) → (c.full q0 i0 ≡ false) → UnsentGone c → UnsentGone (record c {
      slot_of = put c.slot_of g i0;
      number_of = put c.number_of g m0;
      slot_user = put2 c.slot_user q0 i0 (Some g);
      sent = put c.sent g true;
    })
begin_lock_unsent_gone c conns s a g q0 i0 m0 new lock slot its pending live ok made unretried unfull i_unsent_gone =
    λ p. let old = i_unsent_gone p in let st = unsettled_unsent (c.outcome p) in grind arith

begin_lock_users : (c : Client) (conns : ℕ → Conn) (s : Server) (a : ℕ → ℕ) (g q0 i0 m0 : ℕ) → (c.sent g ≡ false)
    → (locking (c.op g) ≡ true) → (in_slots i0 ≡ true) → (q0 ≡ create_at c g) → (is_unsettled (c.outcome g) ≡ true)
    → (c.live ≡ true) → (is_ok (c.outcome q0) ≡ true) → (makes_open (c.op q0) ≡ true)
    → (c.retried q0 i0 ≢ c.session_number) → (c.full q0 i0 ≡ false)
    → ((h : ℕ) → c.slot_user q0 i0 ≡ Some h → firm (c.outcome h) ≡ true × m0 ≢ c.number_of h) → Bodies c conns
    → Outstanding c conns → Settled c → Taken c → Users c conns s → RetriedDone c conns s → Users (record c {
      slot_of = put c.slot_of g i0;
      number_of = put c.number_of g m0;
      slot_user = put2 c.slot_user q0 i0 (Some g);
      sent = put c.sent g true;
    }) conns s
begin_lock_users c conns s a g q0 i0 m0 new lock slot its pending live ok made unretried unfull unused C_bodies
    C_outstanding C_settled C_taken i_users i_retried_done =
    λ j n p x h t. let old = i_users j n p x h t in let b = C_bodies j n p x h t in let tk = C_taken p b.0 in let un =
    unused p in let fs = firm_settled (c.outcome p) in let rt = i_retried_done j n p x h t in let st1 =
    C_settled p in let on1 = up_on c conns C_outstanding j n p x h t tk.0 in grind arith

begin_lock_retried_on : (c : Client) (conns : ℕ → Conn) (s : Server) (a : ℕ → ℕ) (g q0 i0 m0 : ℕ) → (c.sent g ≡ false)
    → (locking (c.op g) ≡ true) → (in_slots i0 ≡ true) → (q0 ≡ create_at c g) → (is_unsettled (c.outcome g) ≡ true)
    → (c.live ≡ true) → (is_ok (c.outcome q0) ≡ true) → (makes_open (c.op q0) ≡ true)
    → (c.retried q0 i0 ≢ c.session_number) → (c.full q0 i0 ≡ false) → Bodies c conns → Taken c → RetriedOn c conns s
    → RetriedOn (record c {
      slot_of = put c.slot_of g i0;
      number_of = put c.number_of g m0;
      slot_user = put2 c.slot_user q0 i0 (Some g);
      sent = put c.sent g true;
    }) conns s
begin_lock_retried_on c conns s a g q0 i0 m0 new lock slot its pending live ok made unretried unfull C_bodies C_taken i_retried_on =
    λ j n p x h t. let old = i_retried_on j n p x h t in let b = C_bodies j n p x h t in let tk = C_taken p b.0 in grind arith

begin_lock_retried_done : (c : Client) (conns : ℕ → Conn) (s : Server) (a : ℕ → ℕ) (g q0 i0 m0 : ℕ) → (c.sent g ≡ false)
    → (locking (c.op g) ≡ true) → (in_slots i0 ≡ true) → (q0 ≡ create_at c g) → (is_unsettled (c.outcome g) ≡ true)
    → (c.live ≡ true) → (is_ok (c.outcome q0) ≡ true) → (makes_open (c.op q0) ≡ true)
    → (c.retried q0 i0 ≢ c.session_number) → (c.full q0 i0 ≡ false) → Bodies c conns → Taken c → RetriedDone c conns s
    → RetriedDone (record c {
      slot_of = put c.slot_of g i0;
      number_of = put c.number_of g m0;
      slot_user = put2 c.slot_user q0 i0 (Some g);
      sent = put c.sent g true;
    }) conns s
begin_lock_retried_done c conns s a g q0 i0 m0 new lock slot its pending live ok made unretried unfull C_bodies C_taken i_retried_done =
    λ j n p x h t. let old = i_retried_done j n p x h t in let b = C_bodies j n p x h t in let tk = C_taken p b.0 in grind arith

begin_lock_kept_says : (c : Client) (conns : ℕ → Conn) (s : Server) (a : ℕ → ℕ) (g q0 i0 m0 : ℕ) → (c.sent g ≡ false)
    → (locking (c.op g) ≡ true) → (in_slots i0 ≡ true) → (q0 ≡ create_at c g) → (is_unsettled (c.outcome g) ≡ true)
    → (c.live ≡ true) → (is_ok (c.outcome q0) ≡ true) → (makes_open (c.op q0) ≡ true)
    → (c.retried q0 i0 ≢ c.session_number) → (c.full q0 i0 ≡ false)
    → ((h : ℕ) → c.slot_user q0 i0 ≡ Some h → firm (c.outcome h) ≡ true × m0 ≢ c.number_of h) → KeptSays c s a
    → FirmKept c s → NoUser c s → UserBody c → KeptSays (record c {
      slot_of = put c.slot_of g i0;
      number_of = put c.number_of g m0;
      slot_user = put2 c.slot_user q0 i0 (Some g);
      sent = put c.sent g true;
    }) s a
begin_lock_kept_says c conns s a g q0 i0 m0 new lock slot its pending live ok made unretried unfull unused i_kept_says
    i_firm_kept i_no_user i_user_body =
    λ p st. elim (p == g) as (λ b. p == g ≡ b → Says (record c {
      slot_of = put c.slot_of g i0;
      number_of = put c.number_of g m0;
      slot_user = put2 c.slot_user q0 i0 (Some g);
      sent = put c.sent g true;
    }) s a p
    st) [
      | true ↦ λ e. subst (λ z. Says (record c {
        slot_of = put c.slot_of g i0;
        number_of = put c.number_of g m0;
        slot_user = put2 c.slot_user q0 i0 (Some g);
        sent = put c.sent g true;
      }) s a z st) (sym (eqb-true p g e))
          (says_own c s a g q0 i0 m0 st its (fresh_number c s q0 i0 m0 unused unfull i_user_body i_firm_kept
          (i_no_user q0 i0 ok made) (c.slot_user q0 i0) refl))
      | false ↦ λ e. says_other c s a g q0 i0 m0 p st
          (eqb-false p g e) (i_kept_says p st)
    ] refl

begin_lock_not_kept : (c : Client) (conns : ℕ → Conn) (s : Server) (a : ℕ → ℕ) (g q0 i0 m0 : ℕ) → (c.sent g ≡ false)
    → (locking (c.op g) ≡ true) → (in_slots i0 ≡ true) → (q0 ≡ create_at c g) → (is_unsettled (c.outcome g) ≡ true)
    → (c.live ≡ true) → (is_ok (c.outcome q0) ≡ true) → (makes_open (c.op q0) ≡ true)
    → (c.retried q0 i0 ≢ c.session_number) → (c.full q0 i0 ≡ false) → Fresh c a → NotKept c s a → NotKept (record c {
      slot_of = put c.slot_of g i0;
      number_of = put c.number_of g m0;
      slot_user = put2 c.slot_user q0 i0 (Some g);
      sent = put c.sent g true;
    }) s a
begin_lock_not_kept c conns s a g q0 i0 m0 new lock slot its pending live ok made unretried unfull C_fresh i_not_kept =
    λ p. let old = i_not_kept p in let fr = C_fresh g new in grind arith

begin_lock_firm_kept : (c : Client) (conns : ℕ → Conn) (s : Server) (a : ℕ → ℕ) (g q0 i0 m0 : ℕ) → (c.sent g ≡ false)
    → (locking (c.op g) ≡ true) → (in_slots i0 ≡ true) → (q0 ≡ create_at c g) → (is_unsettled (c.outcome g) ≡ true)
    → (c.live ≡ true) → (is_ok (c.outcome q0) ≡ true) → (makes_open (c.op q0) ≡ true)
    → (c.retried q0 i0 ≢ c.session_number) → (c.full q0 i0 ≡ false) → FirmKept c s → FirmKept (record c {
      slot_of = put c.slot_of g i0;
      number_of = put c.number_of g m0;
      slot_user = put2 c.slot_user q0 i0 (Some g);
      sent = put c.sent g true;
    }) s
begin_lock_firm_kept c conns s a g q0 i0 m0 new lock slot its pending live ok made unretried unfull i_firm_kept =
    λ p. let old = i_firm_kept p in let uf = unsettled_firm (c.outcome p) in grind arith

begin_lock_no_user : (c : Client) (conns : ℕ → Conn) (s : Server) (a : ℕ → ℕ) (g q0 i0 m0 : ℕ) → (c.sent g ≡ false)
    → (locking (c.op g) ≡ true) → (in_slots i0 ≡ true) → (q0 ≡ create_at c g) → (is_unsettled (c.outcome g) ≡ true)
    → (c.live ≡ true) → (is_ok (c.outcome q0) ≡ true) → (makes_open (c.op q0) ≡ true)
    → (c.retried q0 i0 ≢ c.session_number) → (c.full q0 i0 ≡ false) → NoUser c s → NoUser (record c {
      slot_of = put c.slot_of g i0;
      number_of = put c.number_of g m0;
      slot_user = put2 c.slot_user q0 i0 (Some g);
      sent = put c.sent g true;
    }) s
begin_lock_no_user c conns s a g q0 i0 m0 new lock slot its pending live ok made unretried unfull i_no_user =
    λ q r. let old = i_no_user q r in grind arith

begin_lock_full_dead : (c : Client) (conns : ℕ → Conn) (s : Server) (a : ℕ → ℕ) (g q0 i0 m0 : ℕ) → (c.sent g ≡ false)
    → (locking (c.op g) ≡ true) → (in_slots i0 ≡ true) → (q0 ≡ create_at c g) → (is_unsettled (c.outcome g) ≡ true)
    → (c.live ≡ true) → (is_ok (c.outcome q0) ≡ true) → (makes_open (c.op q0) ≡ true)
    → (c.retried q0 i0 ≢ c.session_number) → (c.full q0 i0 ≡ false) → Bodies c conns → Taken c → FullDead c conns s
    → FullDead (record c {
      slot_of = put c.slot_of g i0;
      number_of = put c.number_of g m0;
      slot_user = put2 c.slot_user q0 i0 (Some g);
      sent = put c.sent g true;
    }) conns s
begin_lock_full_dead c conns s a g q0 i0 m0 new lock slot its pending live ok made unretried unfull C_bodies C_taken i_full_dead =
    λ j n p x h t. let old = i_full_dead j n p x h t in let b = C_bodies j n p x h t in let tk = C_taken p b.0 in grind arith

begin_lock_kept_reply : (c : Client) (conns : ℕ → Conn) (s : Server) (a : ℕ → ℕ) (g q0 i0 m0 : ℕ) → (c.sent g ≡ false)
    → (locking (c.op g) ≡ true) → (in_slots i0 ≡ true) → (q0 ≡ create_at c g) → (is_unsettled (c.outcome g) ≡ true)
    → (c.live ≡ true) → (is_ok (c.outcome q0) ≡ true) → (makes_open (c.op q0) ≡ true)
    → (c.retried q0 i0 ≢ c.session_number) → (c.full q0 i0 ≡ false) → SentReplies c conns → Taken c
    → KeptReply c conns s → KeptReply (record c {
      slot_of = put c.slot_of g i0;
      number_of = put c.number_of g m0;
      slot_user = put2 c.slot_user q0 i0 (Some g);
      sent = put c.sent g true;
    }) conns s
begin_lock_kept_reply c conns s a g q0 i0 m0 new lock slot its pending live ok made unretried unfull C_sent_replies C_taken i_kept_reply =
    λ j n p y h t. let old = i_kept_reply j n p y h t in let sent = C_sent_replies j n p y h t in let tk = C_taken p sent in grind arith

begin_lock_closed_not : (c : Client) (conns : ℕ → Conn) (s : Server) (a : ℕ → ℕ) (g q0 i0 m0 : ℕ) → (c.sent g ≡ false)
    → (locking (c.op g) ≡ true) → (in_slots i0 ≡ true) → (q0 ≡ create_at c g) → (is_unsettled (c.outcome g) ≡ true)
    → (c.live ≡ true) → (is_ok (c.outcome q0) ≡ true) → (makes_open (c.op q0) ≡ true)
    → (c.retried q0 i0 ≢ c.session_number) → (c.full q0 i0 ≡ false) → Fresh c a → ClosedNot c s a
    → ClosedNot (record c {
      slot_of = put c.slot_of g i0;
      number_of = put c.number_of g m0;
      slot_user = put2 c.slot_user q0 i0 (Some g);
      sent = put c.sent g true;
    }) s a
begin_lock_closed_not c conns s a g q0 i0 m0 new lock slot its pending live ok made unretried unfull C_fresh i_closed_not =
    λ p. let old = i_closed_not p in let fr = C_fresh g new in grind arith

pub begin_lock_keeps : (c : Client) (conns : ℕ → Conn) (s : Server) (a : ℕ → ℕ) (g q0 i0 m0 : ℕ) → (c.sent g ≡ false)
    → (locking (c.op g) ≡ true) → (in_slots i0 ≡ true) → (q0 ≡ create_at c g) → (is_unsettled (c.outcome g) ≡ true)
    → (c.live ≡ true) → (is_ok (c.outcome q0) ≡ true) → (makes_open (c.op q0) ≡ true)
    → ((h : ℕ) → 0 < h → h < g → create_at c h ≡ create_at c g → shuts_open (c.op h) ≡ true → is_unsettled (c.outcome h)
    ≡ false × is_ok (c.outcome h) ≡ false) → (c.retried q0 i0 ≢ c.session_number) → (c.full q0 i0 ≡ false)
    → ((h : ℕ) → c.slot_user q0 i0 ≡ Some h → firm (c.outcome h) ≡ true × m0 ≢ c.number_of h) → Connections c conns a
    → Locks c conns s a → Locks (record c {
      slot_of = put c.slot_of g i0;
      number_of = put c.number_of g m0;
      slot_user = put2 c.slot_user q0 i0 (Some g);
      sent = put c.sent g true;
    }) conns s a
begin_lock_keeps c conns s a g q0 i0 m0 new lock slot its pending live ok made before unretried unfull unused C i =
    record {
      slot_index = begin_lock_slot_index c conns s a g q0 i0 m0 new lock slot its pending live ok made unretried unfull i.slot_index;
      user_body = begin_lock_user_body c conns s a g q0 i0 m0 new lock slot its pending live ok made unretried unfull i.user_body;
      in_use = begin_lock_in_use c conns s a g q0 i0 m0 new lock slot its pending live ok made unretried unfull unused i.in_use;
      full_free = begin_lock_full_free c conns s a g q0 i0 m0 new lock slot its pending live ok made unretried unfull i.full_free;
      attached_low = i.attached_low;
      shut_ok = i.shut_ok;
      shut_made = i.shut_made;
      shut_gone = begin_lock_shut_gone c conns s a g q0 i0 m0 new lock slot its pending live ok made unretried unfull i.shut_gone;
      close_before = begin_lock_close_before c conns s a g q0 i0 m0 new lock slot its pending live ok made before
          unretried unfull i.close_before;
      close_after = begin_lock_close_after c conns s a g q0 i0 m0 new lock slot its pending live ok made unretried unfull i.close_after;
      unsent_gone = begin_lock_unsent_gone c conns s a g q0 i0 m0 new lock slot its pending live ok made unretried unfull i.unsent_gone;
      unanswered = i.unanswered;
      ask_up = i.ask_up;
      ask_down = i.ask_down;
      users = begin_lock_users c conns s a g q0 i0 m0 new lock slot its pending live ok made unretried unfull unused
          C.bodies C.outstanding C.settled C.taken i.users i.retried_done;
      copy_now = i.copy_now;
      retried_on = begin_lock_retried_on c conns s a g q0 i0 m0 new lock slot its pending live ok made unretried unfull
          C.bodies C.taken i.retried_on;
      retried_done = begin_lock_retried_done c conns s a g q0 i0 m0 new lock slot its pending live ok made unretried
          unfull C.bodies C.taken i.retried_done;
      copy_attached = i.copy_attached;
      now_attached = i.now_attached;
      opened_reply = i.opened_reply;
      join_reply = i.join_reply;
      joined_reply = i.joined_reply;
      lost_reply = i.lost_reply;
      kept_says = begin_lock_kept_says c conns s a g q0 i0 m0 new lock slot its pending live ok made unretried unfull
          unused i.kept_says i.firm_kept i.no_user i.user_body;
      not_kept = begin_lock_not_kept c conns s a g q0 i0 m0 new lock slot its pending live ok made unretried unfull C.fresh i.not_kept;
      firm_kept = begin_lock_firm_kept c conns s a g q0 i0 m0 new lock slot its pending live ok made unretried unfull i.firm_kept;
      no_user = begin_lock_no_user c conns s a g q0 i0 m0 new lock slot its pending live ok made unretried unfull i.no_user;
      no_slots = i.no_slots;
      full_dead = begin_lock_full_dead c conns s a g q0 i0 m0 new lock slot its pending live ok made unretried unfull
          C.bodies C.taken i.full_dead;
      ok_reply = i.ok_reply;
      no_reply = i.no_reply;
      kept_reply = begin_lock_kept_reply c conns s a g q0 i0 m0 new lock slot its pending live ok made unretried unfull
          C.sent_replies C.taken i.kept_reply;
      first_reply = i.first_reply;
      closed_not = begin_lock_closed_not c conns s a g q0 i0 m0 new lock slot its pending live ok made unretried unfull
          C.fresh i.closed_not;
      kept_files = i.kept_files;
      left_full = i.left_full;
      left_stuck = i.left_stuck;
      left_idle = i.left_idle;
      close_done = i.close_done;
      close_full = i.close_full;
      close_stuck = i.close_stuck;
      made_plain = i.made_plain;
      at_most = i.at_most;
      ok_acted = i.ok_acted;
      refused_not = i.refused_not;
    }
