-- Written by tools/law_locks.py. A slot keeps a lock's answer.
use Rattle.std.proofs.Common.{◌≡◌, ◌≢◌, ℕ, ◌+◌, ◌≤◌, ◌==◌, true, false, if◌then◌else◌, List, arith, sym, subst, ◌∙◌, ap}
use Rattle.std.proofs.Common.{Option, Some, None, slice_get, is_some}
use Rattle.spec_exchange.specs.Table.{put2}
use Rattle.spec_exchange.specs.Status.{success}
use Rattle.spec_exchange.specs.State.{Server, Kept, Range}
use Rattle.spec_exchange.specs.Records.{lower_limit}
use Rattle.spec_exchange.specs.Operations.{is_ok}
use Rattle.spec_exchange.specs.Client.{Client, guid_for}
use Rattle.spec_exchange.specs.Network.{Conn, Received, ForOp}
use Rattle.law_sessions.specs.messages.Connections.{Connections, makes_open, create_at, Outstanding, DownOpen, Settled, Taken}
use Rattle.law_sessions.specs.messages.Connections.{Creates, HasOpen, SentReplies}
use Rattle.law_locks.specs.Locks.{Locks, locking, kept_at, firm, user_at, open_at, kept_of, is_stuck, UserBody, InUse}
use Rattle.law_locks.specs.Locks.{UnsentGone, KeptSays, NotKept, FirmKept, NoUser, NoSlots, OkReply, NoReply, KeptReply}
use Rattle.law_locks.specs.Locks.{FirstReply, ClosedNot, LeftFull, LeftStuck, LeftIdle, CloseFull, CloseStuck, MadePlain}
use Rattle.law_locks.specs.Locks.{AtMost, OkActed, RefusedNot}
use Rattle.law_locks.proofs.Words.{lock_kind, ok_firm, firm_settled, refused_how, kept_same, kept_is_some, down_on}
use Rattle.law_locks.proofs.Words.{ok_of, made_of, split_at}

in_use_out : (c : Client) (p : ℕ) → InUse c → Settled c → c.sent p ≡ true → locking (c.op p) ≡ true → (j : ℕ)
    → c.outstanding_on p ≡ Some j → user_at c p ≡ Some p
in_use_out c p iu st s m j on = let u = iu p s m in let t = st p in let fs = firm_settled (c.outcome p) in grind arith

other_row : (c : Client) (s : Server) (g p : ℕ) (kept : Option Kept) → p ≢ g → user_at c g ≡ Some g → user_at c p
    ≡ Some p → (c.file (create_at c p) ≡ open_at c g → create_at c p ≡ create_at c g)
    → put2 s.lock_sequences (open_at c g) (c.slot_of g) kept (open_at c p) (c.slot_of p) ≡ s.lock_sequences (open_at c p) (c.slot_of p)
other_row c s g p kept d user e ij = grind arith

own_row : (c : Client) (s : Server) (g : ℕ) (kept : Option Kept) → put2 s.lock_sequences (open_at c g) (c.slot_of g)
    kept (open_at c g) (c.slot_of g) ≡ kept
own_row c s g kept = grind arith

other_kept : (c : Client) (s : Server) (g p st0 : ℕ) → p ≢ g → user_at c g ≡ Some g → user_at c p ≡ Some p
    → (c.file (create_at c p) ≡ open_at c g → create_at c p ≡ create_at c g)
    → kept_at (put2 s.lock_sequences (open_at c g) (c.slot_of g) (Some (record {
      number = c.number_of g;
      status = st0;
    })) (open_at c p) (c.slot_of p)) (c.number_of p) ≡ kept_of c s p
other_kept c s g p st0 d user e ij = ap (λ k. kept_at k (c.number_of p))
    (other_row c s g p (Some (record { number = c.number_of g; status = st0 })) d user e ij)

own_kept : (c : Client) (s : Server) (g st0 : ℕ)
    → kept_at (put2 s.lock_sequences (open_at c g) (c.slot_of g) (Some (record {
      number = c.number_of g;
      status = st0;
    })) (open_at c g) (c.slot_of g)) (c.number_of g) ≡ Some st0
own_kept c s g st0 = ap (λ k. kept_at k (c.number_of g))
    (own_row c s g (Some (record { number = c.number_of g; status = st0 }))) ∙ kept_same (c.number_of g) st0

says_it : (x y : Option ℕ) (st n : ℕ) → x ≡ y → (y ≡ Some st → n ≡ (if st == success then 1 else 0)) → x ≡ Some st → n
    ≡ (if st == success then 1 else 0)
says_it x y st n e f k = f (sym e ∙ k)

says_own : (st st0 n : ℕ) (x : Option ℕ) → x ≡ Some st0 → n ≡ (if st0 == success then 1 else 0) → x ≡ Some st → n
    ≡ (if st == success then 1 else 0)
says_own st st0 n x e f k = let same : st0 ≡ st = grind arith in subst (λ z. n ≡ (if z == success then 1 else 0)) same f

not_none : (x : Option ℕ) (st0 n : ℕ) → x ≡ Some st0 → x ≡ None → n ≡ 0
not_none x st0 n e f = absurd (grind arith)

some_it : (x y : Option ℕ) → x ≡ y → is_some y ≡ true → is_some x ≡ true
some_it x y e f = grind arith

writes_kept_says : (c : Client) (conns : ℕ → Conn) (s : Server) (a : ℕ → ℕ) (g st0 j0 : ℕ) (sq : ℕ → ℕ)
    (rg : ℕ → List Range) (a2 : ℕ → ℕ) → (locking (c.op g) ≡ true) → (c.sent g ≡ true) → (user_at c g ≡ Some g)
    → (kept_of c s g ≡ None) → (s.standing (open_at c g) ≡ true) → (firm (c.outcome g) ≡ false) → (s.journal ≤ j0)
    → ((p : ℕ) → locking (c.op p) ≡ true → p ≢ g → a2 p ≡ a p) → (a2 g ≡ (if st0 == success then 1 else 0))
    → ((q : ℕ) → makes_open (c.op q) ≡ true → is_ok (c.outcome q) ≡ true → s.standing (c.file q) ≡ true → c.file q
    ≡ open_at c g → q ≡ create_at c g) → Creates c → HasOpen c → Taken c → KeptSays c s a → UserBody c
    → KeptSays c (record s {
      sequence = sq;
      ranges = rg;
      lock_sequences = put2 s.lock_sequences (open_at c g) (c.slot_of g) (Some (record {
        number = c.number_of g;
        status = st0;
      }));
      journal = j0;
    }) a2
writes_kept_says c conns s a g st0 j0 sq rg a2 lock sent user free stands unfirm journal others own inj C_creates
    C_has_open C_taken i_kept_says i_user_body =
    λ p st e f. let old = i_kept_says p st e f in let ub = i_user_body _ _ p e in let sent1 = ub.3 in let m1 =
    lock_kind (c.op p) ub.0 in let ok1 = ok_of c C_has_open p sent1 m1 in let mk = made_of c C_taken C_creates p
    sent1 m1 in let ij = inj (create_at c p) mk ok1 in
    split_at (λ z. kept_of c ((record s {
      sequence = sq;
      ranges = rg;
      lock_sequences = put2 s.lock_sequences (open_at c g) (c.slot_of g) (Some (record {
        number = c.number_of g;
        status = st0;
      }));
      journal = j0;
    })) z ≡ Some st → a2 z ≡ (if st == success then 1 else 0)) g p
    (λ d. let row = other_kept c s g p st0 d user e (ij f) in let ot = others p ub.0 d in
    says_it (kept_of c ((record s {
      sequence = sq;
      ranges = rg;
      lock_sequences = put2 s.lock_sequences (open_at c g) (c.slot_of g) (Some (record {
        number = c.number_of g;
        status = st0;
      }));
      journal = j0;
    })) p) (kept_of c s p) st (a2 p) row (λ k. ot ∙ old k))
    (says_own st st0 (a2 g)
    (kept_of c ((record s {
      sequence = sq;
      ranges = rg;
      lock_sequences = put2 s.lock_sequences (open_at c g) (c.slot_of g) (Some (record {
        number = c.number_of g;
        status = st0;
      }));
      journal = j0;
    })) g) (own_kept c s g st0) own)

writes_not_kept : (c : Client) (conns : ℕ → Conn) (s : Server) (a : ℕ → ℕ) (g st0 j0 : ℕ) (sq : ℕ → ℕ)
    (rg : ℕ → List Range) (a2 : ℕ → ℕ) → (locking (c.op g) ≡ true) → (c.sent g ≡ true) → (user_at c g ≡ Some g)
    → (kept_of c s g ≡ None) → (s.standing (open_at c g) ≡ true) → (firm (c.outcome g) ≡ false) → (s.journal ≤ j0)
    → ((p : ℕ) → locking (c.op p) ≡ true → p ≢ g → a2 p ≡ a p) → (a2 g ≡ (if st0 == success then 1 else 0))
    → ((q : ℕ) → makes_open (c.op q) ≡ true → is_ok (c.outcome q) ≡ true → s.standing (c.file q) ≡ true → c.file q
    ≡ open_at c g → q ≡ create_at c g) → Creates c → HasOpen c → Taken c → NotKept c s a → UserBody c
    → NotKept c (record s {
      sequence = sq;
      ranges = rg;
      lock_sequences = put2 s.lock_sequences (open_at c g) (c.slot_of g) (Some (record {
        number = c.number_of g;
        status = st0;
      }));
      journal = j0;
    }) a2
writes_not_kept c conns s a g st0 j0 sq rg a2 lock sent user free stands unfirm journal others own inj C_creates
    C_has_open C_taken i_not_kept i_user_body =
    λ p e f. let old = i_not_kept p e f in let ub = i_user_body _ _ p e in let sent1 = ub.3 in let m1 =
    lock_kind (c.op p) ub.0 in let ok1 = ok_of c C_has_open p sent1 m1 in let mk = made_of c C_taken C_creates p
    sent1 m1 in let ij = inj (create_at c p) mk ok1 in
    split_at (λ z. kept_of c ((record s {
      sequence = sq;
      ranges = rg;
      lock_sequences = put2 s.lock_sequences (open_at c g) (c.slot_of g) (Some (record {
        number = c.number_of g;
        status = st0;
      }));
      journal = j0;
    })) z ≡ None → a2 z ≡ 0) g p (λ d. let row = other_kept c s g p st0 d user e
    (ij f) in let ot = others p ub.0 d in λ k. ot ∙ old (sym row ∙ k))
    (not_none (kept_of c ((record s {
      sequence = sq;
      ranges = rg;
      lock_sequences = put2 s.lock_sequences (open_at c g) (c.slot_of g) (Some (record {
        number = c.number_of g;
        status = st0;
      }));
      journal = j0;
    })) g) st0 (a2 g) (own_kept c s g st0))

writes_firm_kept : (c : Client) (conns : ℕ → Conn) (s : Server) (a : ℕ → ℕ) (g st0 j0 : ℕ) (sq : ℕ → ℕ)
    (rg : ℕ → List Range) (a2 : ℕ → ℕ) → (locking (c.op g) ≡ true) → (c.sent g ≡ true) → (user_at c g ≡ Some g)
    → (kept_of c s g ≡ None) → (s.standing (open_at c g) ≡ true) → (firm (c.outcome g) ≡ false) → (s.journal ≤ j0)
    → (a2 g ≡ (if st0 == success then 1 else 0)) → ((q : ℕ) → makes_open (c.op q) ≡ true → is_ok (c.outcome q) ≡ true
    → s.standing (c.file q) ≡ true → c.file q ≡ open_at c g → q ≡ create_at c g) → Creates c → HasOpen c → Taken c
    → FirmKept c s → UserBody c → FirmKept c (record s {
      sequence = sq;
      ranges = rg;
      lock_sequences = put2 s.lock_sequences (open_at c g) (c.slot_of g) (Some (record {
        number = c.number_of g;
        status = st0;
      }));
      journal = j0;
    })
writes_firm_kept c conns s a g st0 j0 sq rg a2 lock sent user free stands unfirm journal own inj C_creates C_has_open
    C_taken i_firm_kept i_user_body =
    λ p e fm fl f. let old = i_firm_kept p e fm fl f in let ub = i_user_body _ _ p e in let sent1 = ub.3 in let m1 =
    lock_kind (c.op p) ub.0 in let ok1 = ok_of c C_has_open p sent1 m1 in let mk = made_of c C_taken C_creates p
    sent1 m1 in let ij = inj (create_at c p) mk ok1 in
    split_at (λ z. is_some
    (kept_of c ((record s {
      sequence = sq;
      ranges = rg;
      lock_sequences = put2 s.lock_sequences (open_at c g) (c.slot_of g) (Some (record {
        number = c.number_of g;
        status = st0;
      }));
      journal = j0;
    })) z) ≡ true) g p (λ d. let row = other_kept c s g p st0 d user e (ij f) in
    some_it (kept_of c ((record s {
      sequence = sq;
      ranges = rg;
      lock_sequences = put2 s.lock_sequences (open_at c g) (c.slot_of g) (Some (record {
        number = c.number_of g;
        status = st0;
      }));
      journal = j0;
    })) p) (kept_of c s p) row old)
    (kept_is_some (kept_of c ((record s {
      sequence = sq;
      ranges = rg;
      lock_sequences = put2 s.lock_sequences (open_at c g) (c.slot_of g) (Some (record {
        number = c.number_of g;
        status = st0;
      }));
      journal = j0;
    })) g) st0 (own_kept c s g st0))

writes_no_user : (c : Client) (conns : ℕ → Conn) (s : Server) (a : ℕ → ℕ) (g st0 j0 : ℕ) (sq : ℕ → ℕ)
    (rg : ℕ → List Range) (a2 : ℕ → ℕ) → (locking (c.op g) ≡ true) → (c.sent g ≡ true) → (user_at c g ≡ Some g)
    → (kept_of c s g ≡ None) → (s.standing (open_at c g) ≡ true) → (firm (c.outcome g) ≡ false) → (s.journal ≤ j0)
    → (a2 g ≡ (if st0 == success then 1 else 0)) → ((q : ℕ) → makes_open (c.op q) ≡ true → is_ok (c.outcome q) ≡ true
    → s.standing (c.file q) ≡ true → c.file q ≡ open_at c g → q ≡ create_at c g) → NoUser c s → NoUser c (record s {
      sequence = sq;
      ranges = rg;
      lock_sequences = put2 s.lock_sequences (open_at c g) (c.slot_of g) (Some (record {
        number = c.number_of g;
        status = st0;
      }));
      journal = j0;
    })
writes_no_user c conns s a g st0 j0 sq rg a2 lock sent user free stands unfirm journal own inj i_no_user =
    λ q r ok1 mk. let old = i_no_user q r ok1 mk in let ij = inj q mk ok1 in grind arith

writes_no_slots : (c : Client) (conns : ℕ → Conn) (s : Server) (a : ℕ → ℕ) (g st0 j0 : ℕ) (sq : ℕ → ℕ)
    (rg : ℕ → List Range) (a2 : ℕ → ℕ) → (locking (c.op g) ≡ true) → (c.sent g ≡ true) → (user_at c g ≡ Some g)
    → (kept_of c s g ≡ None) → (s.standing (open_at c g) ≡ true) → (firm (c.outcome g) ≡ false) → (s.journal ≤ j0)
    → (a2 g ≡ (if st0 == success then 1 else 0)) → ((q : ℕ) → makes_open (c.op q) ≡ true → is_ok (c.outcome q) ≡ false
    → s.by_guid c.who.guid (guid_for c q) ≢ Some (open_at c g)) → NoSlots c s → NoSlots c (record s {
      sequence = sq;
      ranges = rg;
      lock_sequences = put2 s.lock_sequences (open_at c g) (c.slot_of g)
          (Some (record { number = c.number_of g; status = st0 }));
      journal = j0;
    })
writes_no_slots c conns s a g st0 j0 sq rg a2 lock sent user free stands unfirm journal own unmade i_no_slots =
    λ q r o m ok1. let old = i_no_slots q r o m ok1 in let un = unmade q m ok1 in grind arith

writes_ok_reply : (c : Client) (conns : ℕ → Conn) (s : Server) (a : ℕ → ℕ) (g st0 j0 : ℕ) (sq : ℕ → ℕ)
    (rg : ℕ → List Range) (a2 : ℕ → ℕ) → (locking (c.op g) ≡ true) → (c.sent g ≡ true) → (user_at c g ≡ Some g)
    → (kept_of c s g ≡ None) → (s.standing (open_at c g) ≡ true) → (firm (c.outcome g) ≡ false) → (s.journal ≤ j0)
    → ((p : ℕ) → locking (c.op p) ≡ true → p ≢ g → a2 p ≡ a p) → (a2 g ≡ (if st0 == success then 1 else 0))
    → OkReply c conns a → NotKept c s a → OkReply c conns a2
writes_ok_reply c conns s a g st0 j0 sq rg a2 lock sent user free stands unfirm journal others own i_ok_reply i_not_kept =
    λ j n p y h t m. let old = i_ok_reply j n p y h t m in let ot = others p m in let nk = i_not_kept g user stands free in grind arith

writes_no_reply : (c : Client) (conns : ℕ → Conn) (s : Server) (a : ℕ → ℕ) (g st0 j0 : ℕ) (sq : ℕ → ℕ)
    (rg : ℕ → List Range) (a2 : ℕ → ℕ) → (locking (c.op g) ≡ true) → (c.sent g ≡ true) → (user_at c g ≡ Some g)
    → (kept_of c s g ≡ None) → (s.standing (open_at c g) ≡ true) → (firm (c.outcome g) ≡ false) → (s.journal ≤ j0)
    → ((p : ℕ) → locking (c.op p) ≡ true → p ≢ g → a2 p ≡ a p) → (a2 g ≡ (if st0 == success then 1 else 0))
    → NoReply c conns a → KeptReply c conns s → NoReply c conns a2
writes_no_reply c conns s a g st0 j0 sq rg a2 lock sent user free stands unfirm journal others own i_no_reply i_kept_reply =
    λ j n p y h t m e0 e1 e3. let old = i_no_reply j n p y h t m e0 e1 e3 in let kr = i_kept_reply j n p y h t m e1 e3
    in let ot = others p m in grind arith

writes_kept_reply : (c : Client) (conns : ℕ → Conn) (s : Server) (a : ℕ → ℕ) (g st0 j0 : ℕ) (sq : ℕ → ℕ)
    (rg : ℕ → List Range) (a2 : ℕ → ℕ) → (locking (c.op g) ≡ true) → (c.sent g ≡ true) → (user_at c g ≡ Some g)
    → (kept_of c s g ≡ None) → (s.standing (open_at c g) ≡ true) → (firm (c.outcome g) ≡ false) → (s.journal ≤ j0)
    → (a2 g ≡ (if st0 == success then 1 else 0)) → ((q : ℕ) → makes_open (c.op q) ≡ true → is_ok (c.outcome q) ≡ true
    → s.standing (c.file q) ≡ true → c.file q ≡ open_at c g → q ≡ create_at c g) → Creates c → DownOpen conns
    → HasOpen c → Outstanding c conns → SentReplies c conns → Settled c → Taken c → KeptReply c conns s → InUse c
    → KeptReply c conns (record s {
      sequence = sq;
      ranges = rg;
      lock_sequences = put2 s.lock_sequences (open_at c g) (c.slot_of g) (Some (record {
        number = c.number_of g;
        status = st0;
      }));
      journal = j0;
    })
writes_kept_reply c conns s a g st0 j0 sq rg a2 lock sent user free stands unfirm journal own inj C_creates C_down_open
    C_has_open C_outstanding C_sent_replies C_settled C_taken i_kept_reply i_in_use =
    λ j n p y h t m e1 e3 f. let old = i_kept_reply j n p y h t m e1 e3 f in let sent1 = C_sent_replies j n p y h t in
    let m1 = lock_kind (c.op p) m in let ok1 = ok_of c C_has_open p sent1 m1 in let mk = made_of c C_taken C_creates
    p sent1 m1 in let ij = inj (create_at c p) mk ok1 in let tk = C_taken p sent1 in let on1 =
    down_on c conns C_outstanding C_down_open j n p y h t tk.0 in let e = in_use_out c p i_in_use C_settled sent1 m
    j on1 in split_at (λ z.
    is_some (kept_of c ((record s {
      sequence = sq;
      ranges = rg;
      lock_sequences = put2 s.lock_sequences (open_at c g) (c.slot_of g) (Some (record {
        number = c.number_of g;
        status = st0;
      }));
      journal = j0;
    })) z) ≡ true) g p (λ d. let row = other_kept c s g p st0 d user e (ij f) in
    some_it (kept_of c ((record s {
      sequence = sq;
      ranges = rg;
      lock_sequences = put2 s.lock_sequences (open_at c g) (c.slot_of g) (Some (record {
        number = c.number_of g;
        status = st0;
      }));
      journal = j0;
    })) p) (kept_of c s p) row old)
    (kept_is_some (kept_of c ((record s {
      sequence = sq;
      ranges = rg;
      lock_sequences = put2 s.lock_sequences (open_at c g) (c.slot_of g) (Some (record {
        number = c.number_of g;
        status = st0;
      }));
      journal = j0;
    })) g) st0 (own_kept c s g st0))

writes_first_reply : (c : Client) (conns : ℕ → Conn) (s : Server) (a : ℕ → ℕ) (g st0 j0 : ℕ) (sq : ℕ → ℕ)
    (rg : ℕ → List Range) (a2 : ℕ → ℕ) → (locking (c.op g) ≡ true) → (c.sent g ≡ true) → (user_at c g ≡ Some g)
    → (kept_of c s g ≡ None) → (s.standing (open_at c g) ≡ true) → (firm (c.outcome g) ≡ false) → (s.journal ≤ j0)
    → ((p : ℕ) → locking (c.op p) ≡ true → p ≢ g → a2 p ≡ a p) → (a2 g ≡ (if st0 == success then 1 else 0))
    → (c.unanswered g ≡ false → (j n : ℕ) (y : Received) → slice_get (conns j).down n ≡ Some y → y.token ≢ ForOp g)
    → FirstReply c conns a → FirstReply c conns a2
writes_first_reply c conns s a g st0 j0 sq rg a2 lock sent user free stands unfirm journal others own alone i_first_reply =
    λ j n p y h t m. let old = i_first_reply j n p y h t m in let al = alone in let ot = others p m in grind arith

writes_closed_not : (c : Client) (conns : ℕ → Conn) (s : Server) (a : ℕ → ℕ) (g st0 j0 : ℕ) (sq : ℕ → ℕ)
    (rg : ℕ → List Range) (a2 : ℕ → ℕ) → (locking (c.op g) ≡ true) → (c.sent g ≡ true) → (user_at c g ≡ Some g)
    → (kept_of c s g ≡ None) → (s.standing (open_at c g) ≡ true) → (firm (c.outcome g) ≡ false) → (s.journal ≤ j0)
    → ((p : ℕ) → locking (c.op p) ≡ true → p ≢ g → a2 p ≡ a p) → (a2 g ≡ (if st0 == success then 1 else 0))
    → ClosedNot c s a → ClosedNot c (record s {
      sequence = sq;
      ranges = rg;
      lock_sequences = put2 s.lock_sequences (open_at c g) (c.slot_of g) (Some (record {
        number = c.number_of g;
        status = st0;
      }));
      journal = j0;
    }) a2
writes_closed_not c conns s a g st0 j0 sq rg a2 lock sent user free stands unfirm journal others own i_closed_not =
    λ p m. let old = i_closed_not p m in let ot = others p m in grind arith

writes_left_full : (c : Client) (conns : ℕ → Conn) (s : Server) (a : ℕ → ℕ) (g st0 j0 : ℕ) (sq : ℕ → ℕ)
    (rg : ℕ → List Range) (a2 : ℕ → ℕ) → (locking (c.op g) ≡ true) → (c.sent g ≡ true) → (user_at c g ≡ Some g)
    → (kept_of c s g ≡ None) → (s.standing (open_at c g) ≡ true) → (firm (c.outcome g) ≡ false) → (s.journal ≤ j0)
    → (a2 g ≡ (if st0 == success then 1 else 0)) → LeftFull c conns s → LeftFull c conns (record s {
      sequence = sq;
      ranges = rg;
      lock_sequences = put2 s.lock_sequences (open_at c g) (c.slot_of g)
          (Some (record { number = c.number_of g; status = st0 }));
      journal = j0;
    })
writes_left_full c conns s a g st0 j0 sq rg a2 lock sent user free stands unfirm journal own i_left_full =
    λ j n p x h t. let old = i_left_full j n p x h t in grind arith

writes_left_stuck : (c : Client) (conns : ℕ → Conn) (s : Server) (a : ℕ → ℕ) (g st0 j0 : ℕ) (sq : ℕ → ℕ)
    (rg : ℕ → List Range) (a2 : ℕ → ℕ) → (locking (c.op g) ≡ true) → (c.sent g ≡ true) → (user_at c g ≡ Some g)
    → (kept_of c s g ≡ None) → (s.standing (open_at c g) ≡ true) → (firm (c.outcome g) ≡ false) → (s.journal ≤ j0)
    → (a2 g ≡ (if st0 == success then 1 else 0)) → ((o : ℕ) → is_stuck s o ≡ true → is_stuck (record s {
      sequence = sq;
      ranges = rg;
      lock_sequences = put2 s.lock_sequences (open_at c g) (c.slot_of g) (Some (record {
        number = c.number_of g;
        status = st0;
      }));
      journal = j0;
    }) o ≡ true) → LeftStuck c conns s → LeftStuck c conns (record s {
      sequence = sq;
      ranges = rg;
      lock_sequences = put2 s.lock_sequences (open_at c g) (c.slot_of g) (Some (record {
        number = c.number_of g;
        status = st0;
      }));
      journal = j0;
    })
writes_left_stuck c conns s a g st0 j0 sq rg a2 lock sent user free stands unfirm journal own stuck_same i_left_stuck =
    λ j n p x h t. let old = i_left_stuck j n p x h t in let sk = stuck_same (open_at c p) in grind arith

writes_left_idle : (c : Client) (conns : ℕ → Conn) (s : Server) (a : ℕ → ℕ) (g st0 j0 : ℕ) (sq : ℕ → ℕ)
    (rg : ℕ → List Range) (a2 : ℕ → ℕ) → (locking (c.op g) ≡ true) → (c.sent g ≡ true) → (user_at c g ≡ Some g)
    → (kept_of c s g ≡ None) → (s.standing (open_at c g) ≡ true) → (firm (c.outcome g) ≡ false) → (s.journal ≤ j0)
    → ((p : ℕ) → locking (c.op p) ≡ true → p ≢ g → a2 p ≡ a p) → (a2 g ≡ (if st0 == success then 1 else 0))
    → ((s.opened (open_at c g)).persistent ≡ true → s.journal + 66 ≤ lower_limit) → LeftIdle c conns s a
    → LeftFull c conns s → LeftIdle c conns (record s {
      sequence = sq;
      ranges = rg;
      lock_sequences = put2 s.lock_sequences (open_at c g) (c.slot_of g) (Some (record {
        number = c.number_of g;
        status = st0;
      }));
      journal = j0;
    }) a2
writes_left_idle c conns s a g st0 j0 sq rg a2 lock sent user free stands unfirm journal others own room i_left_idle i_left_full =
    λ j n p q x h t. let old = i_left_idle j n p q x h t in let lf = i_left_full j n p x h t in let rm = room in
    let ot = others q in grind arith

writes_close_full : (c : Client) (conns : ℕ → Conn) (s : Server) (a : ℕ → ℕ) (g st0 j0 : ℕ) (sq : ℕ → ℕ)
    (rg : ℕ → List Range) (a2 : ℕ → ℕ) → (locking (c.op g) ≡ true) → (c.sent g ≡ true) → (user_at c g ≡ Some g)
    → (kept_of c s g ≡ None) → (s.standing (open_at c g) ≡ true) → (firm (c.outcome g) ≡ false) → (s.journal ≤ j0)
    → (a2 g ≡ (if st0 == success then 1 else 0)) → CloseFull c conns s → CloseFull c conns (record s {
      sequence = sq;
      ranges = rg;
      lock_sequences = put2 s.lock_sequences (open_at c g) (c.slot_of g)
          (Some (record { number = c.number_of g; status = st0 }));
      journal = j0;
    })
writes_close_full c conns s a g st0 j0 sq rg a2 lock sent user free stands unfirm journal own i_close_full =
    λ j n p y h t. let old = i_close_full j n p y h t in grind arith

writes_close_stuck : (c : Client) (conns : ℕ → Conn) (s : Server) (a : ℕ → ℕ) (g st0 j0 : ℕ) (sq : ℕ → ℕ)
    (rg : ℕ → List Range) (a2 : ℕ → ℕ) → (locking (c.op g) ≡ true) → (c.sent g ≡ true) → (user_at c g ≡ Some g)
    → (kept_of c s g ≡ None) → (s.standing (open_at c g) ≡ true) → (firm (c.outcome g) ≡ false) → (s.journal ≤ j0)
    → (a2 g ≡ (if st0 == success then 1 else 0)) → ((o : ℕ) → is_stuck s o ≡ true → is_stuck (record s {
      sequence = sq;
      ranges = rg;
      lock_sequences = put2 s.lock_sequences (open_at c g) (c.slot_of g) (Some (record {
        number = c.number_of g;
        status = st0;
      }));
      journal = j0;
    }) o ≡ true) → CloseStuck c conns s → CloseStuck c conns (record s {
      sequence = sq;
      ranges = rg;
      lock_sequences = put2 s.lock_sequences (open_at c g) (c.slot_of g) (Some (record {
        number = c.number_of g;
        status = st0;
      }));
      journal = j0;
    })
writes_close_stuck c conns s a g st0 j0 sq rg a2 lock sent user free stands unfirm journal own stuck_same i_close_stuck =
    λ j n p y h t. let old = i_close_stuck j n p y h t in let sk = stuck_same (open_at c p) in grind arith

writes_made_plain : (c : Client) (conns : ℕ → Conn) (s : Server) (a : ℕ → ℕ) (g st0 j0 : ℕ) (sq : ℕ → ℕ)
    (rg : ℕ → List Range) (a2 : ℕ → ℕ) → (locking (c.op g) ≡ true) → (c.sent g ≡ true) → (user_at c g ≡ Some g)
    → (kept_of c s g ≡ None) → (s.standing (open_at c g) ≡ true) → (firm (c.outcome g) ≡ false) → (s.journal ≤ j0)
    → (a2 g ≡ (if st0 == success then 1 else 0)) → ((q : ℕ) → makes_open (c.op q) ≡ true → a2 q ≡ a q) → MadePlain c a
    → MadePlain c a2
writes_made_plain c conns s a g st0 j0 sq rg a2 lock sent user free stands unfirm journal own creates_same i_made_plain =
    λ q m l. let cs = creates_same q m in i_made_plain q m (subst (λ z. 1 ≤ z) cs l)

writes_at_most : (c : Client) (conns : ℕ → Conn) (s : Server) (a : ℕ → ℕ) (g st0 j0 : ℕ) (sq : ℕ → ℕ)
    (rg : ℕ → List Range) (a2 : ℕ → ℕ) → (locking (c.op g) ≡ true) → (c.sent g ≡ true) → (user_at c g ≡ Some g)
    → (kept_of c s g ≡ None) → (s.standing (open_at c g) ≡ true) → (firm (c.outcome g) ≡ false) → (s.journal ≤ j0)
    → ((p : ℕ) → locking (c.op p) ≡ true → p ≢ g → a2 p ≡ a p) → (a2 g ≡ (if st0 == success then 1 else 0)) → AtMost c a
    → AtMost c a2
writes_at_most c conns s a g st0 j0 sq rg a2 lock sent user free stands unfirm journal others own i_at_most =
    λ p m. let old = i_at_most p m in let ot = others p m in let ow = own in grind arith

writes_ok_acted : (c : Client) (conns : ℕ → Conn) (s : Server) (a : ℕ → ℕ) (g st0 j0 : ℕ) (sq : ℕ → ℕ)
    (rg : ℕ → List Range) (a2 : ℕ → ℕ) → (locking (c.op g) ≡ true) → (c.sent g ≡ true) → (user_at c g ≡ Some g)
    → (kept_of c s g ≡ None) → (s.standing (open_at c g) ≡ true) → (firm (c.outcome g) ≡ false) → (s.journal ≤ j0)
    → ((p : ℕ) → locking (c.op p) ≡ true → p ≢ g → a2 p ≡ a p) → (a2 g ≡ (if st0 == success then 1 else 0))
    → OkActed c a → OkActed c a2
writes_ok_acted c conns s a g st0 j0 sq rg a2 lock sent user free stands unfirm journal others own i_ok_acted =
    λ p m e. let old = i_ok_acted p m e in let ot = others p m in let okf = ok_firm (c.outcome p) e in grind arith

writes_refused_not : (c : Client) (conns : ℕ → Conn) (s : Server) (a : ℕ → ℕ) (g st0 j0 : ℕ) (sq : ℕ → ℕ)
    (rg : ℕ → List Range) (a2 : ℕ → ℕ) → (locking (c.op g) ≡ true) → (c.sent g ≡ true) → (user_at c g ≡ Some g)
    → (kept_of c s g ≡ None) → (s.standing (open_at c g) ≡ true) → (firm (c.outcome g) ≡ false) → (s.journal ≤ j0)
    → ((p : ℕ) → locking (c.op p) ≡ true → p ≢ g → a2 p ≡ a p) → (a2 g ≡ (if st0 == success then 1 else 0))
    → RefusedNot c a → UnsentGone c → RefusedNot c a2
writes_refused_not c conns s a g st0 j0 sq rg a2 lock sent user free stands unfirm journal others own i_refused_not i_unsent_gone =
    λ p m e. let old = i_refused_not p m e in let ot = others p m in let rh = refused_how (c.outcome p) e in let ug =
    i_unsent_gone p in grind arith

pub writes_keeps : (c : Client) (conns : ℕ → Conn) (s : Server) (a : ℕ → ℕ) (g st0 j0 : ℕ) (sq : ℕ → ℕ)
    (rg : ℕ → List Range) (a2 : ℕ → ℕ) → (locking (c.op g) ≡ true) → (c.sent g ≡ true) → (user_at c g ≡ Some g)
    → (kept_of c s g ≡ None) → (s.standing (open_at c g) ≡ true) → (firm (c.outcome g) ≡ false) → (s.journal ≤ j0)
    → ((p : ℕ) → locking (c.op p) ≡ true → p ≢ g → a2 p ≡ a p) → (a2 g ≡ (if st0 == success then 1 else 0))
    → ((q : ℕ) → makes_open (c.op q) ≡ true → a2 q ≡ a q) → ((s.opened (open_at c g)).persistent ≡ true
    → s.journal + 66 ≤ lower_limit) → ((o : ℕ) → is_stuck s o ≡ true → is_stuck (record s {
      sequence = sq;
      ranges = rg;
      lock_sequences = put2 s.lock_sequences (open_at c g) (c.slot_of g) (Some (record {
        number = c.number_of g;
        status = st0;
      }));
      journal = j0;
    }) o ≡ true) → ((q : ℕ) → makes_open (c.op q) ≡ true → is_ok (c.outcome q)
    ≡ true → s.standing (c.file q) ≡ true → c.file q ≡ open_at c g → q ≡ create_at c g)
    → ((q : ℕ) → makes_open (c.op q) ≡ true → is_ok (c.outcome q) ≡ false → s.by_guid c.who.guid (guid_for c q) ≢ Some
    (open_at c g)) → (c.unanswered g ≡ false → (j n : ℕ) (y : Received) → slice_get (conns j).down n ≡ Some y
    → y.token ≢ ForOp g) → Connections c conns a → Locks c conns s a → Locks c conns (record s {
      sequence = sq;
      ranges = rg;
      lock_sequences = put2 s.lock_sequences (open_at c g) (c.slot_of g)
          (Some (record { number = c.number_of g; status = st0 }));
      journal = j0;
    }) a2
writes_keeps c conns s a g st0 j0 sq rg a2 lock sent user free stands unfirm journal others own creates_same room
    stuck_same inj unmade alone C i =
    record {
      slot_index = i.slot_index;
      user_body = i.user_body;
      in_use = i.in_use;
      full_free = i.full_free;
      attached_low = i.attached_low;
      shut_ok = i.shut_ok;
      shut_made = i.shut_made;
      shut_gone = i.shut_gone;
      close_before = i.close_before;
      close_after = i.close_after;
      unsent_gone = i.unsent_gone;
      unanswered = i.unanswered;
      ask_up = i.ask_up;
      ask_down = i.ask_down;
      users = i.users;
      copy_now = i.copy_now;
      retried_on = i.retried_on;
      retried_done = i.retried_done;
      copy_attached = i.copy_attached;
      now_attached = i.now_attached;
      opened_reply = i.opened_reply;
      join_reply = i.join_reply;
      joined_reply = i.joined_reply;
      lost_reply = i.lost_reply;
      kept_says = writes_kept_says c conns s a g st0 j0 sq rg a2 lock sent user free stands unfirm journal others own
          inj C.creates C.has_open C.taken i.kept_says i.user_body;
      not_kept = writes_not_kept c conns s a g st0 j0 sq rg a2 lock sent user free stands unfirm journal others own inj
          C.creates C.has_open C.taken i.not_kept i.user_body;
      firm_kept = writes_firm_kept c conns s a g st0 j0 sq rg a2 lock sent user free stands unfirm journal own inj
          C.creates C.has_open C.taken i.firm_kept i.user_body;
      no_user = writes_no_user c conns s a g st0 j0 sq rg a2 lock sent user free stands unfirm journal own inj i.no_user;
      no_slots = writes_no_slots c conns s a g st0 j0 sq rg a2 lock sent user free stands unfirm journal own unmade i.no_slots;
      full_dead = i.full_dead;
      ok_reply = writes_ok_reply c conns s a g st0 j0 sq rg a2 lock sent user free stands unfirm journal others own i.ok_reply i.not_kept;
      no_reply = writes_no_reply c conns s a g st0 j0 sq rg a2 lock sent user free stands unfirm journal others own i.no_reply i.kept_reply;
      kept_reply = writes_kept_reply c conns s a g st0 j0 sq rg a2 lock sent user free stands unfirm journal own inj
          C.creates C.down_open C.has_open C.outstanding C.sent_replies C.settled C.taken i.kept_reply i.in_use;
      first_reply = writes_first_reply c conns s a g st0 j0 sq rg a2 lock sent user free stands unfirm journal others
          own alone i.first_reply;
      closed_not = writes_closed_not c conns s a g st0 j0 sq rg a2 lock sent user free stands unfirm journal others own i.closed_not;
      kept_files = i.kept_files;
      left_full = writes_left_full c conns s a g st0 j0 sq rg a2 lock sent user free stands unfirm journal own i.left_full;
      left_stuck = writes_left_stuck c conns s a g st0 j0 sq rg a2 lock sent user free stands unfirm journal own stuck_same i.left_stuck;
      left_idle = writes_left_idle c conns s a g st0 j0 sq rg a2 lock sent user free stands unfirm journal others own
          room i.left_idle i.left_full;
      close_done = i.close_done;
      close_full = writes_close_full c conns s a g st0 j0 sq rg a2 lock sent user free stands unfirm journal own i.close_full;
      close_stuck = writes_close_stuck c conns s a g st0 j0 sq rg a2 lock sent user free stands unfirm journal own stuck_same i.close_stuck;
      made_plain = writes_made_plain c conns s a g st0 j0 sq rg a2 lock sent user free stands unfirm journal own creates_same i.made_plain;
      at_most = writes_at_most c conns s a g st0 j0 sq rg a2 lock sent user free stands unfirm journal others own i.at_most;
      ok_acted = writes_ok_acted c conns s a g st0 j0 sq rg a2 lock sent user free stands unfirm journal others own i.ok_acted;
      refused_not = writes_refused_not c conns s a g st0 j0 sq rg a2 lock sent user free stands unfirm journal others
          own i.refused_not i.unsent_gone;
    }
