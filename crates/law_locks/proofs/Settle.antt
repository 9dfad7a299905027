-- Written by tools/law_locks.py. A reply settles its operation.
use Rattle.std.proofs.Common.{◌≡◌, ◌≢◌, ℕ, ◌+◌, ◌≤◌, ◌<◌, Bool, true, false, List, arith, Option, Some, None, slice_get, is_some}
use Rattle.spec_exchange.specs.Table.{put}
use Rattle.spec_exchange.specs.State.{Server}
use Rattle.spec_exchange.specs.Records.{lower_limit}
use Rattle.spec_exchange.specs.Operations.{Outcome, is_unsettled, is_ok}
use Rattle.spec_exchange.specs.Client.{Client}
use Rattle.spec_exchange.specs.Network.{Conn, Sent, ForOp}
use Rattle.law_sessions.specs.messages.Connections.{Connections, makes_open, shuts_open, create_at, Settled, Taken, Fresh, Bodies}
use Rattle.law_locks.specs.Locks.{Locks, locking, firm, is_unsent, refused_for_good, user_at, open_at, kept_of}
use Rattle.law_locks.specs.Locks.{is_stuck, InUse, FullFree, ShutOk, ShutMade, ShutGone, CloseBefore, CloseAfter}
use Rattle.law_locks.specs.Locks.{UnsentGone, AskUp, AskDown, Users, RetriedOn, RetriedDone, NowAttached, FirmKept}
use Rattle.law_locks.specs.Locks.{NoUser, NoSlots, FullDead, ClosedNot, LeftFull, LeftStuck, LeftIdle, OkActed}
use Rattle.law_locks.specs.Locks.{RefusedNot}
use Rattle.law_locks.proofs.Words.{lock_kind, unsettled_firm, unsettled_unsent, unsettled_ok, unsettled_refused}
use Rattle.law_locks.proofs.Words.{unsent_firm, unsent_ok, ok_settled}

-- what is firm behind it was firm before
was_firm : (c : Client) (g : ℕ) (new : ℕ → Outcome) (p : ℕ) → (p ≢ g → is_unsettled (c.outcome p) ≡ false → new p ≡ c.outcome p)
    → (p ≢ g → is_unsettled (c.outcome p) ≡ true → is_unsettled (new p) ≡ false → is_unsent (new p) ≡ true × c.sent p
    ≡ false) → p ≢ g → firm (new p) ≡ true → firm (c.outcome p) ≡ true
was_firm c g new p sm gv d f = let uf = unsettled_firm (new p) in let us = unsent_firm (new p) in grind arith

settle_in_use : (c : Client) (conns : ℕ → Conn) (s : Server) (a : ℕ → ℕ) (k g : ℕ) (o0 : Outcome) (new : ℕ → Outcome)
    (sh : ℕ → Bool) (fu : ℕ → ℕ → Bool) (by0 : ℕ → Option ℕ) (order0 : List ℕ) → (c.outstanding_on g ≡ Some k)
    → (new g ≡ o0) → (is_unsettled o0 ≡ false) → (is_unsent o0 ≡ false) → ((h : ℕ) → h ≢ g → is_unsettled (c.outcome h)
    ≡ false → new h ≡ c.outcome h) → ((h : ℕ) → h ≢ g → is_unsettled (c.outcome h) ≡ true → is_unsettled (new h) ≡ false
    → is_unsent (new h) ≡ true × c.sent h ≡ false) → Settled c → InUse c → InUse (record c {
      outcome = new;
      outstanding_on = put c.outstanding_on g None;
      settled_by = by0;
      order = order0;
      closed_ok = sh;
      full = fu;
    })
settle_in_use c conns s a k g o0 new sh fu by0 order0 on own settled0 real same gives C_settled i_in_use =
    λ p s0 l. let old = i_in_use p s0 l in let pend = C_settled g in let sm = same p in let gv = gives p in let uf =
    unsettled_firm (c.outcome p) in let us = unsettled_unsent (c.outcome p) in let sf = unsent_firm (new p) in
    let so = unsent_ok (new p) in let uk = unsettled_ok (c.outcome p) in grind arith

settle_full_free : (c : Client) (conns : ℕ → Conn) (s : Server) (a : ℕ → ℕ) (k g : ℕ) (o0 : Outcome) (new : ℕ → Outcome)
    (sh : ℕ → Bool) (fu : ℕ → ℕ → Bool) (by0 : ℕ → Option ℕ) (order0 : List ℕ) → (c.outstanding_on g ≡ Some k)
    → (new g ≡ o0) → (is_unsettled o0 ≡ false) → (is_unsent o0 ≡ false) → ((h : ℕ) → h ≢ g → is_unsettled (c.outcome h)
    ≡ false → new h ≡ c.outcome h) → ((h : ℕ) → h ≢ g → is_unsettled (c.outcome h) ≡ true → is_unsettled (new h) ≡ false
    → is_unsent (new h) ≡ true × c.sent h ≡ false) → ((p : ℕ) → p ≢ g → user_at c p ≡ Some p
    → fu (create_at c p) (c.slot_of p) ≡ c.full (create_at c p) (c.slot_of p)) → FullFree c → InUse c
    → FullFree (record c {
      outcome = new;
      outstanding_on = put c.outstanding_on g None;
      settled_by = by0;
      order = order0;
      closed_ok = sh;
      full = fu;
    })
settle_full_free c conns s a k g o0 new sh fu by0 order0 on own settled0 real same gives full_same i_full_free i_in_use =
    λ p s0 l u. let old = i_full_free p s0 l in let sm = same p in let gv = gives p in let uf =
    unsettled_firm (c.outcome p) in let iu = i_in_use p s0 l in let fs = full_same p in grind arith

settle_shut_ok : (c : Client) (conns : ℕ → Conn) (s : Server) (a : ℕ → ℕ) (k g : ℕ) (o0 : Outcome) (new : ℕ → Outcome)
    (sh : ℕ → Bool) (fu : ℕ → ℕ → Bool) (by0 : ℕ → Option ℕ) (order0 : List ℕ) → (c.outstanding_on g ≡ Some k)
    → (new g ≡ o0) → (is_unsettled o0 ≡ false) → (is_unsent o0 ≡ false)
    → ((h : ℕ) → shuts_open (c.op h) ≡ true → is_ok (new h) ≡ true → sh (create_at c h) ≡ true) → ShutOk c
    → ShutOk (record c {
      outcome = new;
      outstanding_on = put c.outstanding_on g None;
      settled_by = by0;
      order = order0;
      closed_ok = sh;
      full = fu;
    })
settle_shut_ok c conns s a k g o0 new sh fu by0 order0 on own settled0 real shuts i_shut_ok =
    λ p. shuts p

settle_shut_made : (c : Client) (conns : ℕ → Conn) (s : Server) (a : ℕ → ℕ) (k g : ℕ) (o0 : Outcome) (new : ℕ → Outcome)
    (sh : ℕ → Bool) (fu : ℕ → ℕ → Bool) (by0 : ℕ → Option ℕ) (order0 : List ℕ) → (c.outstanding_on g ≡ Some k)
    → (new g ≡ o0) → (is_unsettled o0 ≡ false) → (is_unsent o0 ≡ false) → ((q : ℕ) → sh q ≡ true → is_ok (new q) ≡ true
    × q ≤ c.taken) → ShutMade c → ShutMade (record c {
      outcome = new;
      outstanding_on = put c.outstanding_on g None;
      settled_by = by0;
      order = order0;
      closed_ok = sh;
      full = fu;
    })
settle_shut_made c conns s a k g o0 new sh fu by0 order0 on own settled0 real shut_ok i_shut_made =
    λ q. shut_ok q

settle_shut_gone : (c : Client) (conns : ℕ → Conn) (s : Server) (a : ℕ → ℕ) (k g : ℕ) (o0 : Outcome) (new : ℕ → Outcome)
    (sh : ℕ → Bool) (fu : ℕ → ℕ → Bool) (by0 : ℕ → Option ℕ) (order0 : List ℕ) → (c.outstanding_on g ≡ Some k)
    → (new g ≡ o0) → (is_unsettled o0 ≡ false) → (is_unsent o0 ≡ false)
    → ((p : ℕ) → 0 < p → p ≤ c.taken → makes_open (c.op p) ≡ false → sh (create_at c p) ≡ true → c.sent p ≡ false
    → is_unsettled (new p) ≡ false) → ShutGone c → ShutGone (record c {
      outcome = new;
      outstanding_on = put c.outstanding_on g None;
      settled_by = by0;
      order = order0;
      closed_ok = sh;
      full = fu;
    })
settle_shut_gone c conns s a k g o0 new sh fu by0 order0 on own settled0 real gone i_shut_gone =
    λ p l m e f. gone p l m e f

settle_close_before : (c : Client) (conns : ℕ → Conn) (s : Server) (a : ℕ → ℕ) (k g : ℕ) (o0 : Outcome)
    (new : ℕ → Outcome) (sh : ℕ → Bool) (fu : ℕ → ℕ → Bool) (by0 : ℕ → Option ℕ) (order0 : List ℕ)
    → (c.outstanding_on g ≡ Some k) → (new g ≡ o0) → (is_unsettled o0 ≡ false) → (is_unsent o0 ≡ false)
    → ((h : ℕ) → h ≢ g → is_unsettled (c.outcome h) ≡ false → new h ≡ c.outcome h) → Settled c → CloseBefore c
    → CloseBefore (record c {
      outcome = new;
      outstanding_on = put c.outstanding_on g None;
      settled_by = by0;
      order = order0;
      closed_ok = sh;
      full = fu;
    })
settle_close_before c conns s a k g o0 new sh fu by0 order0 on own settled0 real same C_settled i_close_before =
    λ p q s0 m l l2 e f. let old = i_close_before p q s0 m l l2 e f in let pend = C_settled g in let sm = same q in grind arith

settle_close_after : (c : Client) (conns : ℕ → Conn) (s : Server) (a : ℕ → ℕ) (k g : ℕ) (o0 : Outcome)
    (new : ℕ → Outcome) (sh : ℕ → Bool) (fu : ℕ → ℕ → Bool) (by0 : ℕ → Option ℕ) (order0 : List ℕ)
    → (c.outstanding_on g ≡ Some k) → (new g ≡ o0) → (is_unsettled o0 ≡ false) → (is_unsent o0 ≡ false)
    → ((h : ℕ) → h ≢ g → is_unsettled (c.outcome h) ≡ false → new h ≡ c.outcome h) → CloseAfter c
    → CloseAfter (record c {
      outcome = new;
      outstanding_on = put c.outstanding_on g None;
      settled_by = by0;
      order = order0;
      closed_ok = sh;
      full = fu;
    })
settle_close_after c conns s a k g o0 new sh fu by0 order0 on own settled0 real same i_close_after =
    λ q p s0 f l l2 e m. let old = i_close_after q p s0 f l l2 e m in let sm = same p in grind arith

settle_unsent_gone : (c : Client) (conns : ℕ → Conn) (s : Server) (a : ℕ → ℕ) (k g : ℕ) (o0 : Outcome)
    (new : ℕ → Outcome) (sh : ℕ → Bool) (fu : ℕ → ℕ → Bool) (by0 : ℕ → Option ℕ) (order0 : List ℕ)
    → (c.outstanding_on g ≡ Some k) → (new g ≡ o0) → (is_unsettled o0 ≡ false) → (is_unsent o0 ≡ false)
    → ((h : ℕ) → h ≢ g → is_unsettled (c.outcome h) ≡ false → new h ≡ c.outcome h)
    → ((h : ℕ) → h ≢ g → is_unsettled (c.outcome h) ≡ true → is_unsettled (new h) ≡ false → is_unsent (new h) ≡ true
    × c.sent h ≡ false) → Settled c → UnsentGone c → UnsentGone (record c {
      outcome = new;
      outstanding_on = put c.outstanding_on g None;
      settled_by = by0;
      order = order0;
      closed_ok = sh;
      full = fu;
    })
settle_unsent_gone c conns s a k g o0 new sh fu by0 order0 on own settled0 real same gives C_settled i_unsent_gone =
    λ p. let old = i_unsent_gone p in let pend = C_settled g in let sm = same p in let gv = gives p in let uf =
    unsettled_firm (c.outcome p) in let us = unsettled_unsent (c.outcome p) in let sf = unsent_firm (new p) in
    let so = unsent_ok (new p) in let uk = unsettled_ok (c.outcome p) in grind arith

settle_ask_up : (c : Client) (conns : ℕ → Conn) (s : Server) (a : ℕ → ℕ) (k g : ℕ) (o0 : Outcome) (new : ℕ → Outcome)
    (sh : ℕ → Bool) (fu : ℕ → ℕ → Bool) (by0 : ℕ → Option ℕ) (order0 : List ℕ) → (c.outstanding_on g ≡ Some k)
    → (new g ≡ o0) → (is_unsettled o0 ≡ false) → (is_unsent o0 ≡ false) → ((h : ℕ) → h ≢ g → is_unsettled (c.outcome h)
    ≡ false → new h ≡ c.outcome h) → Settled c → AskUp c conns → AskUp (record c {
      outcome = new;
      outstanding_on = put c.outstanding_on g None;
      settled_by = by0;
      order = order0;
      closed_ok = sh;
      full = fu;
    }) conns
settle_ask_up c conns s a k g o0 new sh fu by0 order0 on own settled0 real same C_settled i_ask_up =
    λ j n p x h t. let old = i_ask_up j n p x h t in let sm = same (create_at c p) in let os =
    ok_settled (c.outcome (create_at c p)) old.3 in let pend = C_settled g in grind arith

settle_ask_down : (c : Client) (conns : ℕ → Conn) (s : Server) (a : ℕ → ℕ) (k g : ℕ) (o0 : Outcome) (new : ℕ → Outcome)
    (sh : ℕ → Bool) (fu : ℕ → ℕ → Bool) (by0 : ℕ → Option ℕ) (order0 : List ℕ) → (c.outstanding_on g ≡ Some k)
    → (new g ≡ o0) → (is_unsettled o0 ≡ false) → (is_unsent o0 ≡ false) → ((h : ℕ) → h ≢ g → is_unsettled (c.outcome h)
    ≡ false → new h ≡ c.outcome h) → Settled c → AskDown c conns → AskDown (record c {
      outcome = new;
      outstanding_on = put c.outstanding_on g None;
      settled_by = by0;
      order = order0;
      closed_ok = sh;
      full = fu;
    }) conns
settle_ask_down c conns s a k g o0 new sh fu by0 order0 on own settled0 real same C_settled i_ask_down =
    λ j n p y h t. let old = i_ask_down j n p y h t in let sm = same (create_at c p) in let os =
    ok_settled (c.outcome (create_at c p)) old.3 in let pend = C_settled g in grind arith

settle_retried_on : (c : Client) (conns : ℕ → Conn) (s : Server) (a : ℕ → ℕ) (k g : ℕ) (o0 : Outcome)
    (new : ℕ → Outcome) (sh : ℕ → Bool) (fu : ℕ → ℕ → Bool) (by0 : ℕ → Option ℕ) (order0 : List ℕ)
    → (c.outstanding_on g ≡ Some k) → (new g ≡ o0) → (is_unsettled o0 ≡ false) → (is_unsent o0 ≡ false)
    → RetriedOn c conns s → RetriedOn (record c {
      outcome = new;
      outstanding_on = put c.outstanding_on g None;
      settled_by = by0;
      order = order0;
      closed_ok = sh;
      full = fu;
    }) conns s
settle_retried_on c conns s a k g o0 new sh fu by0 order0 on own settled0 real i_retried_on =
    λ j n p x h t. let old = i_retried_on j n p x h t in grind arith

settle_retried_done : (c : Client) (conns : ℕ → Conn) (s : Server) (a : ℕ → ℕ) (k g : ℕ) (o0 : Outcome)
    (new : ℕ → Outcome) (sh : ℕ → Bool) (fu : ℕ → ℕ → Bool) (by0 : ℕ → Option ℕ) (order0 : List ℕ)
    → (c.outstanding_on g ≡ Some k) → (new g ≡ o0) → (is_unsettled o0 ≡ false) → (is_unsent o0 ≡ false)
    → ((h : ℕ) → h ≢ g → is_unsettled (c.outcome h) ≡ false → new h ≡ c.outcome h)
    → ((h : ℕ) → h ≢ g → is_unsettled (c.outcome h) ≡ true → is_unsettled (new h) ≡ false → is_unsent (new h) ≡ true
    × c.sent h ≡ false) → Bodies c conns → RetriedDone c conns s → RetriedOn c conns s → RetriedDone (record c {
      outcome = new;
      outstanding_on = put c.outstanding_on g None;
      settled_by = by0;
      order = order0;
      closed_ok = sh;
      full = fu;
    }) conns s
settle_retried_done c conns s a k g o0 new sh fu by0 order0 on own settled0 real same gives C_bodies i_retried_done i_retried_on =
    λ j n p x h t. let old = i_retried_done j n p x h t in let ron = i_retried_on j n p x h t in
    let b = C_bodies j n p x h t in let sm = same p in let gv = gives p in grind arith

settle_now_attached : (c : Client) (conns : ℕ → Conn) (s : Server) (a : ℕ → ℕ) (k g : ℕ) (o0 : Outcome)
    (new : ℕ → Outcome) (sh : ℕ → Bool) (fu : ℕ → ℕ → Bool) (by0 : ℕ → Option ℕ) (order0 : List ℕ)
    → (c.outstanding_on g ≡ Some k) → (new g ≡ o0) → (is_unsettled o0 ≡ false) → (is_unsent o0 ≡ false)
    → ((h : ℕ) → h ≢ g → is_unsettled (c.outcome h) ≡ false → new h ≡ c.outcome h)
    → ((h : ℕ) → h ≢ g → is_unsettled (c.outcome h) ≡ true → is_unsettled (new h) ≡ false → is_unsent (new h) ≡ true
    × c.sent h ≡ false) → (makes_open (c.op g) ≡ true → is_ok o0 ≡ true → c.live ≡ true → s.present c.session ≡ true
    → s.standing (c.file g) ≡ true → s.session_of_open (c.file g) ≡ Some c.session) → NowAttached c s
    → NowAttached (record c {
      outcome = new;
      outstanding_on = put c.outstanding_on g None;
      settled_by = by0;
      order = order0;
      closed_ok = sh;
      full = fu;
    }) s
settle_now_attached c conns s a k g o0 new sh fu by0 order0 on own settled0 real same gives near i_now_attached =
    λ q m. let old = i_now_attached q m in let nr = near in let sm = same q in let gv = gives q in let so =
    unsent_ok (new q) in let us = unsettled_ok (new q) in grind arith

settle_firm_kept : (c : Client) (conns : ℕ → Conn) (s : Server) (a : ℕ → ℕ) (k g : ℕ) (o0 : Outcome) (new : ℕ → Outcome)
    (sh : ℕ → Bool) (fu : ℕ → ℕ → Bool) (by0 : ℕ → Option ℕ) (order0 : List ℕ) → (c.outstanding_on g ≡ Some k)
    → (new g ≡ o0) → (is_unsettled o0 ≡ false) → (is_unsent o0 ≡ false) → ((h : ℕ) → h ≢ g → is_unsettled (c.outcome h)
    ≡ false → new h ≡ c.outcome h) → ((h : ℕ) → h ≢ g → is_unsettled (c.outcome h) ≡ true → is_unsettled (new h) ≡ false
    → is_unsent (new h) ≡ true × c.sent h ≡ false) → ((p : ℕ) → p ≢ g → user_at c p ≡ Some p
    → fu (create_at c p) (c.slot_of p) ≡ c.full (create_at c p) (c.slot_of p))
    → (firm o0 ≡ true → user_at c g ≡ Some g → fu (create_at c g) (c.slot_of g) ≡ false → s.standing (open_at c g)
    ≡ true → is_some (kept_of c s g) ≡ true) → FirmKept c s → FirmKept (record c {
      outcome = new;
      outstanding_on = put c.outstanding_on g None;
      settled_by = by0;
      order = order0;
      closed_ok = sh;
      full = fu;
    }) s
settle_firm_kept c conns s a k g o0 new sh fu by0 order0 on own settled0 real same gives full_same kept i_firm_kept =
    λ p e f. let old = i_firm_kept p e in let kp = kept in let fs = full_same p in let wf = was_firm c g new p (same p)
    (gives p) in grind arith

settle_no_user : (c : Client) (conns : ℕ → Conn) (s : Server) (a : ℕ → ℕ) (k g : ℕ) (o0 : Outcome) (new : ℕ → Outcome)
    (sh : ℕ → Bool) (fu : ℕ → ℕ → Bool) (by0 : ℕ → Option ℕ) (order0 : List ℕ) → (c.outstanding_on g ≡ Some k)
    → (new g ≡ o0) → (is_unsettled o0 ≡ false) → (is_unsent o0 ≡ false) → ((h : ℕ) → h ≢ g → is_unsettled (c.outcome h)
    ≡ false → new h ≡ c.outcome h) → ((h : ℕ) → h ≢ g → is_unsettled (c.outcome h) ≡ true → is_unsettled (new h) ≡ false
    → is_unsent (new h) ≡ true × c.sent h ≡ false) → ((r : ℕ) → is_ok o0 ≡ true → makes_open (c.op g) ≡ true
    → s.standing (c.file g) ≡ true → s.lock_sequences (c.file g) r ≡ None) → NoUser c s → NoUser (record c {
      outcome = new;
      outstanding_on = put c.outstanding_on g None;
      settled_by = by0;
      order = order0;
      closed_ok = sh;
      full = fu;
    }) s
settle_no_user c conns s a k g o0 new sh fu by0 order0 on own settled0 real same gives made i_no_user =
    λ q r. let old = i_no_user q r in let md = made r in let sm = same q in let gv = gives q in let so =
    unsent_ok (new q) in let us = unsettled_ok (new q) in grind arith

settle_no_slots : (c : Client) (conns : ℕ → Conn) (s : Server) (a : ℕ → ℕ) (k g : ℕ) (o0 : Outcome) (new : ℕ → Outcome)
    (sh : ℕ → Bool) (fu : ℕ → ℕ → Bool) (by0 : ℕ → Option ℕ) (order0 : List ℕ) → (c.outstanding_on g ≡ Some k)
    → (new g ≡ o0) → (is_unsettled o0 ≡ false) → (is_unsent o0 ≡ false) → ((h : ℕ) → h ≢ g → is_unsettled (c.outcome h)
    ≡ false → new h ≡ c.outcome h) → Settled c → NoSlots c s → NoSlots (record c {
      outcome = new;
      outstanding_on = put c.outstanding_on g None;
      settled_by = by0;
      order = order0;
      closed_ok = sh;
      full = fu;
    }) s
settle_no_slots c conns s a k g o0 new sh fu by0 order0 on own settled0 real same C_settled i_no_slots =
    λ q r o m. let old = i_no_slots q r o m in let sm = same q in let os = ok_settled (c.outcome q) in let pend = C_settled g in grind arith

settle_full_dead : (c : Client) (conns : ℕ → Conn) (s : Server) (a : ℕ → ℕ) (k g : ℕ) (o0 : Outcome) (new : ℕ → Outcome)
    (sh : ℕ → Bool) (fu : ℕ → ℕ → Bool) (by0 : ℕ → Option ℕ) (order0 : List ℕ) → (c.outstanding_on g ≡ Some k)
    → (new g ≡ o0) → (is_unsettled o0 ≡ false) → (is_unsent o0 ≡ false) → ((h : ℕ) → h ≢ g → is_unsettled (c.outcome h)
    ≡ false → new h ≡ c.outcome h) → ((h : ℕ) → h ≢ g → is_unsettled (c.outcome h) ≡ true → is_unsettled (new h) ≡ false
    → is_unsent (new h) ≡ true × c.sent h ≡ false) → ((p : ℕ) → p ≢ g → user_at c p ≡ Some p
    → fu (create_at c p) (c.slot_of p) ≡ c.full (create_at c p) (c.slot_of p))
    → ((j n : ℕ) (x : Sent) → slice_get (conns j).up n ≡ Some x → x.token ≡ ForOp g → locking (c.op g) ≡ true → firm o0
    ≡ true → s.present x.message.session_id ≡ true → fu (create_at c g) (c.slot_of g) ≡ false) → FullDead c conns s
    → Users c conns s → FullDead (record c {
      outcome = new;
      outstanding_on = put c.outstanding_on g None;
      settled_by = by0;
      order = order0;
      closed_ok = sh;
      full = fu;
    }) conns s
settle_full_dead c conns s a k g o0 new sh fu by0 order0 on own settled0 real same gives full_same dead i_full_dead i_users =
    λ j n p x h t l. let old = i_full_dead j n p x h t l in let dd = dead j n x in let us = i_users j n p x h t l in
    let fs = full_same p in let wf = was_firm c g new p (same p) (gives p) in grind arith

settle_closed_not : (c : Client) (conns : ℕ → Conn) (s : Server) (a : ℕ → ℕ) (k g : ℕ) (o0 : Outcome)
    (new : ℕ → Outcome) (sh : ℕ → Bool) (fu : ℕ → ℕ → Bool) (by0 : ℕ → Option ℕ) (order0 : List ℕ)
    → (c.outstanding_on g ≡ Some k) → (new g ≡ o0) → (is_unsettled o0 ≡ false) → (is_unsent o0 ≡ false)
    → ((h : ℕ) → h ≢ g → is_unsettled (c.outcome h) ≡ false → new h ≡ c.outcome h) → ClosedNot c s a
    → ClosedNot (record c {
      outcome = new;
      outstanding_on = put c.outstanding_on g None;
      settled_by = by0;
      order = order0;
      closed_ok = sh;
      full = fu;
    }) s a
settle_closed_not c conns s a k g o0 new sh fu by0 order0 on own settled0 real same i_closed_not =
    λ p. let old = i_closed_not p in let sm = same p in grind arith

settle_left_full : (c : Client) (conns : ℕ → Conn) (s : Server) (a : ℕ → ℕ) (k g : ℕ) (o0 : Outcome) (new : ℕ → Outcome)
    (sh : ℕ → Bool) (fu : ℕ → ℕ → Bool) (by0 : ℕ → Option ℕ) (order0 : List ℕ) → (c.outstanding_on g ≡ Some k)
    → (new g ≡ o0) → (is_unsettled o0 ≡ false) → (is_unsent o0 ≡ false) → ((h : ℕ) → h ≢ g → is_unsettled (c.outcome h)
    ≡ false → new h ≡ c.outcome h) → ((h : ℕ) → h ≢ g → is_unsettled (c.outcome h) ≡ true → is_unsettled (new h) ≡ false
    → is_unsent (new h) ≡ true × c.sent h ≡ false) → ((j n : ℕ) (x : Sent) → slice_get (conns j).up n ≡ Some x → x.token
    ≡ ForOp g → shuts_open (c.op g) ≡ true → is_ok o0 ≡ false → s.present x.message.session_id ≡ true
    → s.standing (open_at c g) ≡ true → (s.opened (open_at c g)).persistent ≡ true → lower_limit < s.journal + 66)
    → Bodies c conns → LeftFull c conns s → LeftFull (record c {
      outcome = new;
      outstanding_on = put c.outstanding_on g None;
      settled_by = by0;
      order = order0;
      closed_ok = sh;
      full = fu;
    }) conns s
settle_left_full c conns s a k g o0 new sh fu by0 order0 on own settled0 real same gives full C_bodies i_left_full =
    λ j n p x h t. let old = i_left_full j n p x h t in let b = C_bodies j n p x h t in let nd = full j n x in let sm =
    same p in let gv = gives p in grind arith

settle_left_stuck : (c : Client) (conns : ℕ → Conn) (s : Server) (a : ℕ → ℕ) (k g : ℕ) (o0 : Outcome)
    (new : ℕ → Outcome) (sh : ℕ → Bool) (fu : ℕ → ℕ → Bool) (by0 : ℕ → Option ℕ) (order0 : List ℕ)
    → (c.outstanding_on g ≡ Some k) → (new g ≡ o0) → (is_unsettled o0 ≡ false) → (is_unsent o0 ≡ false)
    → ((h : ℕ) → h ≢ g → is_unsettled (c.outcome h) ≡ false → new h ≡ c.outcome h)
    → ((h : ℕ) → h ≢ g → is_unsettled (c.outcome h) ≡ true → is_unsettled (new h) ≡ false → is_unsent (new h) ≡ true
    × c.sent h ≡ false) → ((j n : ℕ) (x : Sent) → slice_get (conns j).up n ≡ Some x → x.token ≡ ForOp g
    → shuts_open (c.op g) ≡ true → is_ok o0 ≡ false → s.present x.message.session_id ≡ true → s.standing (open_at c g)
    ≡ true → (s.opened (open_at c g)).persistent ≡ false → is_stuck s (open_at c g) ≡ true) → Bodies c conns → LeftStuck c conns s → LeftStuck (record c {
      outcome = new;
      outstanding_on = put c.outstanding_on g None;
      settled_by = by0;
      order = order0;
      closed_ok = sh;
      full = fu;
    }) conns s
settle_left_stuck c conns s a k g o0 new sh fu by0 order0 on own settled0 real same gives stuck C_bodies i_left_stuck =
    λ j n p x h t. let old = i_left_stuck j n p x h t in let b = C_bodies j n p x h t in let nd = stuck j n x in
    let sm = same p in let gv = gives p in grind arith

settle_left_idle : (c : Client) (conns : ℕ → Conn) (s : Server) (a : ℕ → ℕ) (k g : ℕ) (o0 : Outcome) (new : ℕ → Outcome)
    (sh : ℕ → Bool) (fu : ℕ → ℕ → Bool) (by0 : ℕ → Option ℕ) (order0 : List ℕ) → (c.outstanding_on g ≡ Some k)
    → (new g ≡ o0) → (is_unsettled o0 ≡ false) → (is_unsent o0 ≡ false) → ((h : ℕ) → h ≢ g → is_unsettled (c.outcome h)
    ≡ false → new h ≡ c.outcome h) → ((h : ℕ) → h ≢ g → is_unsettled (c.outcome h) ≡ true → is_unsettled (new h) ≡ false
    → is_unsent (new h) ≡ true × c.sent h ≡ false) → Bodies c conns → Fresh c a → Settled c → Taken c
    → LeftIdle c conns s a → CloseBefore c → LeftIdle (record c {
      outcome = new;
      outstanding_on = put c.outstanding_on g None;
      settled_by = by0;
      order = order0;
      closed_ok = sh;
      full = fu;
    }) conns s
    a
settle_left_idle c conns s a k g o0 new sh fu by0 order0 on own settled0 real same gives C_bodies C_fresh C_settled
    C_taken i_left_idle i_close_before =
    λ j n p q x h t. let old = i_left_idle j n p q x h t in let b = C_bodies j n p x h t in let cb = i_close_before q p
    in let fr = C_fresh q in let lk = lock_kind (c.op q) in let tkp = C_taken p b.0 in let pend = C_settled g in
    let sm = same p in let gv = gives p in grind arith

settle_ok_acted : (c : Client) (conns : ℕ → Conn) (s : Server) (a : ℕ → ℕ) (k g : ℕ) (o0 : Outcome) (new : ℕ → Outcome)
    (sh : ℕ → Bool) (fu : ℕ → ℕ → Bool) (by0 : ℕ → Option ℕ) (order0 : List ℕ) → (c.outstanding_on g ≡ Some k)
    → (new g ≡ o0) → (is_unsettled o0 ≡ false) → (is_unsent o0 ≡ false) → ((h : ℕ) → h ≢ g → is_unsettled (c.outcome h)
    ≡ false → new h ≡ c.outcome h) → ((h : ℕ) → h ≢ g → is_unsettled (c.outcome h) ≡ true → is_unsettled (new h) ≡ false
    → is_unsent (new h) ≡ true × c.sent h ≡ false) → (locking (c.op g) ≡ true → is_ok o0 ≡ true → a g ≡ 1) → Settled c
    → OkActed c a → OkActed (record c {
      outcome = new;
      outstanding_on = put c.outstanding_on g None;
      settled_by = by0;
      order = order0;
      closed_ok = sh;
      full = fu;
    }) a
settle_ok_acted c conns s a k g o0 new sh fu by0 order0 on own settled0 real same gives acted C_settled i_ok_acted =
    λ p. let old = i_ok_acted p in let ac = acted in let pend = C_settled g in let sm = same p in let gv = gives p in
    let uf = unsettled_firm (c.outcome p) in let us = unsettled_unsent (c.outcome p) in let sf = unsent_firm (new p)
    in let so = unsent_ok (new p) in let uk = unsettled_ok (c.outcome p) in grind arith

settle_refused_not : (c : Client) (conns : ℕ → Conn) (s : Server) (a : ℕ → ℕ) (k g : ℕ) (o0 : Outcome)
    (new : ℕ → Outcome) (sh : ℕ → Bool) (fu : ℕ → ℕ → Bool) (by0 : ℕ → Option ℕ) (order0 : List ℕ)
    → (c.outstanding_on g ≡ Some k) → (new g ≡ o0) → (is_unsettled o0 ≡ false) → (is_unsent o0 ≡ false)
    → ((h : ℕ) → h ≢ g → is_unsettled (c.outcome h) ≡ false → new h ≡ c.outcome h)
    → ((h : ℕ) → h ≢ g → is_unsettled (c.outcome h) ≡ true → is_unsettled (new h) ≡ false → is_unsent (new h) ≡ true
    × c.sent h ≡ false) → (locking (c.op g) ≡ true → refused_for_good o0 ≡ true → a g ≡ 0) → Fresh c a → RefusedNot c a
    → RefusedNot (record c {
      outcome = new;
      outstanding_on = put c.outstanding_on g None;
      settled_by = by0;
      order = order0;
      closed_ok = sh;
      full = fu;
    }) a
settle_refused_not c conns s a k g o0 new sh fu by0 order0 on own settled0 real same gives unacted C_fresh i_refused_not =
    λ p. let old = i_refused_not p in let ac = unacted in let fr = C_fresh p in let ur = unsettled_refused (new p) in
    let sm = same p in let gv = gives p in grind arith

pub settle_keeps : (c : Client) (conns : ℕ → Conn) (s : Server) (a : ℕ → ℕ) (k g : ℕ) (o0 : Outcome) (new : ℕ → Outcome)
    (sh : ℕ → Bool) (fu : ℕ → ℕ → Bool) (by0 : ℕ → Option ℕ) (order0 : List ℕ) → (c.outstanding_on g ≡ Some k)
    → (new g ≡ o0) → (is_unsettled o0 ≡ false) → (is_unsent o0 ≡ false) → ((h : ℕ) → h ≢ g → is_unsettled (c.outcome h)
    ≡ false → new h ≡ c.outcome h) → ((h : ℕ) → h ≢ g → is_unsettled (c.outcome h) ≡ true → is_unsettled (new h) ≡ false
    → is_unsent (new h) ≡ true × c.sent h ≡ false) → ((p : ℕ) → 0 < p → p ≤ c.taken → makes_open (c.op p) ≡ false
    → sh (create_at c p) ≡ true → c.sent p ≡ false → is_unsettled (new p) ≡ false)
    → ((h : ℕ) → shuts_open (c.op h) ≡ true → is_ok (new h) ≡ true → sh (create_at c h) ≡ true)
    → ((q : ℕ) → sh q ≡ true → is_ok (new q) ≡ true × q ≤ c.taken) → ((p : ℕ) → p ≢ g → user_at c p ≡ Some p
    → fu (create_at c p) (c.slot_of p) ≡ c.full (create_at c p) (c.slot_of p))
    → (firm o0 ≡ true → user_at c g ≡ Some g → fu (create_at c g) (c.slot_of g) ≡ false → s.standing (open_at c g)
    ≡ true → is_some (kept_of c s g) ≡ true) → ((r : ℕ) → is_ok o0 ≡ true → makes_open (c.op g) ≡ true
    → s.standing (c.file g) ≡ true → s.lock_sequences (c.file g) r ≡ None)
    → (makes_open (c.op g) ≡ true → is_ok o0 ≡ true → c.live ≡ true → s.present c.session ≡ true → s.standing (c.file g)
    ≡ true → s.session_of_open (c.file g) ≡ Some c.session) → ((j n : ℕ) (x : Sent) → slice_get (conns j).up n ≡ Some x
    → x.token ≡ ForOp g → locking (c.op g) ≡ true → firm o0 ≡ true → s.present x.message.session_id ≡ true
    → fu (create_at c g) (c.slot_of g) ≡ false) → ((j n : ℕ) (x : Sent) → slice_get (conns j).up n ≡ Some x → x.token
    ≡ ForOp g → shuts_open (c.op g) ≡ true → is_ok o0 ≡ false → s.present x.message.session_id ≡ true
    → s.standing (open_at c g) ≡ true → (s.opened (open_at c g)).persistent ≡ true → lower_limit < s.journal + 66)
    → ((j n : ℕ) (x : Sent) → slice_get (conns j).up n ≡ Some x → x.token ≡ ForOp g → shuts_open (c.op g) ≡ true
    → is_ok o0 ≡ false → s.present x.message.session_id ≡ true → s.standing (open_at c g) ≡ true
    → (s.opened (open_at c g)).persistent ≡ false → is_stuck s (open_at c g) ≡ true)
    → (locking (c.op g) ≡ true → is_ok o0 ≡ true → a g ≡ 1) → (locking (c.op g) ≡ true → refused_for_good o0 ≡ true
    → a g ≡ 0) → Connections c conns a → Locks c conns s a → Locks (record c {
      outcome = new;
      outstanding_on = put c.outstanding_on g None;
      settled_by = by0;
      order = order0;
      closed_ok = sh;
      full = fu;
    }) conns s
    a
settle_keeps c conns s a k g o0 new sh fu by0 order0 on own settled0 real same gives gone shuts shut_ok full_same kept
    made near dead full stuck acted unacted C i =
    record {
      slot_index = i.slot_index;
      user_body = i.user_body;
      in_use = settle_in_use c conns s a k g o0 new sh fu by0 order0 on own settled0 real same gives C.settled i.in_use;
      full_free = settle_full_free c conns s a k g o0 new sh fu by0 order0 on own settled0 real same gives full_same i.full_free i.in_use;
      attached_low = i.attached_low;
      shut_ok = settle_shut_ok c conns s a k g o0 new sh fu by0 order0 on own settled0 real shuts i.shut_ok;
      shut_made = settle_shut_made c conns s a k g o0 new sh fu by0 order0 on own settled0 real shut_ok i.shut_made;
      shut_gone = settle_shut_gone c conns s a k g o0 new sh fu by0 order0 on own settled0 real gone i.shut_gone;
      close_before = settle_close_before c conns s a k g o0 new sh fu by0 order0 on own settled0 real same C.settled i.close_before;
      close_after = settle_close_after c conns s a k g o0 new sh fu by0 order0 on own settled0 real same i.close_after;
      unsent_gone = settle_unsent_gone c conns s a k g o0 new sh fu by0 order0 on own settled0 real same gives C.settled i.unsent_gone;
      unanswered = i.unanswered;
      ask_up = settle_ask_up c conns s a k g o0 new sh fu by0 order0 on own settled0 real same C.settled i.ask_up;
      ask_down = settle_ask_down c conns s a k g o0 new sh fu by0 order0 on own settled0 real same C.settled i.ask_down;
      users = i.users;
      copy_now = i.copy_now;
      retried_on = settle_retried_on c conns s a k g o0 new sh fu by0 order0 on own settled0 real i.retried_on;
      retried_done = settle_retried_done c conns s a k g o0 new sh fu by0 order0 on own settled0 real same gives
          C.bodies i.retried_done i.retried_on;
      copy_attached = i.copy_attached;
      now_attached = settle_now_attached c conns s a k g o0 new sh fu by0 order0 on own settled0 real same gives near i.now_attached;
      opened_reply = i.opened_reply;
      join_reply = i.join_reply;
      joined_reply = i.joined_reply;
      lost_reply = i.lost_reply;
      kept_says = i.kept_says;
      not_kept = i.not_kept;
      firm_kept = settle_firm_kept c conns s a k g o0 new sh fu by0 order0 on own settled0 real same gives full_same kept i.firm_kept;
      no_user = settle_no_user c conns s a k g o0 new sh fu by0 order0 on own settled0 real same gives made i.no_user;
      no_slots = settle_no_slots c conns s a k g o0 new sh fu by0 order0 on own settled0 real same C.settled i.no_slots;
      full_dead = settle_full_dead c conns s a k g o0 new sh fu by0 order0 on own settled0 real same gives full_same
          dead i.full_dead i.users;
      ok_reply = i.ok_reply;
      no_reply = i.no_reply;
      kept_reply = i.kept_reply;
      first_reply = i.first_reply;
      closed_not = settle_closed_not c conns s a k g o0 new sh fu by0 order0 on own settled0 real same i.closed_not;
      kept_files = i.kept_files;
      left_full = settle_left_full c conns s a k g o0 new sh fu by0 order0 on own settled0 real same gives full C.bodies i.left_full;
      left_stuck = settle_left_stuck c conns s a k g o0 new sh fu by0 order0 on own settled0 real same gives stuck C.bodies i.left_stuck;
      left_idle = settle_left_idle c conns s a k g o0 new sh fu by0 order0 on own settled0 real same gives C.bodies
          C.fresh C.settled C.taken i.left_idle i.close_before;
      close_done = i.close_done;
      close_full = i.close_full;
      close_stuck = i.close_stuck;
      made_plain = i.made_plain;
      at_most = i.at_most;
      ok_acted = settle_ok_acted c conns s a k g o0 new sh fu by0 order0 on own settled0 real same gives acted C.settled i.ok_acted;
      refused_not = settle_refused_not c conns s a k g o0 new sh fu by0 order0 on own settled0 real same gives unacted
          C.fresh i.refused_not;
    }
