-- A reply that is taken keeps what holds of locks: what is known of it when it settles its operation.
use Rattle.std.proofs.lemmas.Bool.{eqb-false}
use Rattle.std.proofs.Common.{eqb-true, ◌≡◌, ◌≢◌, ◌⊎◌, inl, inr, ℕ, ◌<◌, ◌==◌, Bool, true, false, not, ◌&&◌}
use Rattle.std.proofs.Common.{if◌then◌else◌, refl, arith, sym, subst, ◌∙◌, ap, Option, Some, None, slice_get, is_some}
use Rattle.spec_exchange.specs.Table.{put, put2}
use Rattle.spec_exchange.specs.Status.{success, user_session_deleted, file_closed, object_name_not_found, disk_full}
use Rattle.spec_exchange.specs.State.{Server}
use Rattle.spec_exchange.specs.Operations.{Op, Outcome, Unsettled, WasOk, WasRefused, NoSlot, NoOpen, Unknown}
use Rattle.spec_exchange.specs.Operations.{is_unsettled, is_ok, is_lock, is_close, id_in}
use Rattle.spec_exchange.specs.Client.{Client, create_for, guid_for}
use Rattle.spec_exchange.specs.Network.{Conn, Sent, Received, ForOp, ForAttach}
use Rattle.law_sessions.specs.messages.Connections.{Connections, makes_open, shuts_open, create_at, copies}
use Rattle.law_sessions.proofs.messages.Opens.{opens_keeps as exchange_opens_keeps}
use Rattle.law_locks.specs.Locks.{Locks, locking, open_at, user_at, kept_of, firm, refused_for_good}
use Rattle.law_locks.proofs.Words.{lock_once, lock_stays, close_kind, unsettled_ok, more_up, up_on}
use Rattle.law_locks.proofs.Lines.{Tells}
use Rattle.law_locks.proofs.Opens.{opens_keeps}
use Rattle.law_locks.proofs.Settling.{OperationSettles, Says, filled, opened, own_for, kind_close, kind_lock, create_unshut, still}
use Rattle.law_locks.proofs.Say.{MaySay}
use Rattle.spec_exchange.specs.Settling.{Settles}
use Rattle.law_server.proofs.tables.Logic.{other_on, other_off}

-- what is known where the reply y to g is taken
pub record Taken (c : Client) (conns : ℕ → Conn) (s : Server) (a : ℕ → ℕ) (k g : ℕ) (asking : Bool) (y : Received) : Type 0 where
  pub links : Connections c conns a
  pub locks : Locks c conns s a
  pub outstanding_on : c.outstanding_on g ≡ Some k
  pub asks : c.asks_attach g ≡ asking
  pub none : copies g (conns k) ≡ 0
  pub live : c.live ≡ true
  pub pending : is_unsettled (c.outcome g) ≡ true
  pub said : MaySay c s a y
  pub own : asking ≡ false → y.token ≡ ForOp g × c.sent g ≡ true
  pub ask : asking ≡ true → y.token ≡ ForAttach g
  pub guid : asking ≡ false → makes_open (c.op g) ≡ true → y.reply.status ≡ success → s.standing (id_in y.reply.body)
      ≡ true → s.by_guid c.who.guid (guid_for c g) ≡ Some (id_in y.reply.body)

firm_how : (o : Outcome) → firm o ≡ true → (is_ok o ≡ true) ⊎ (refused_for_good o ≡ true)
unfolding firm refused_for_good
firm_how Unsettled e = absurd (cc)
firm_how (WasOk reply) e = inl refl
firm_how (WasRefused status) e = inr refl
firm_how (NoSlot n) e = absurd (cc)
firm_how (NoOpen n) e = absurd (cc)
firm_how (Unknown why) e = absurd (cc)

lock_unclosed : (op : Op) → locking op ≡ true → is_close op ≡ false
lock_unclosed op e = kind_close op ∙ lock_stays op e

create_unclosed : (op : Op) → makes_open op ≡ true → is_close op ≡ false
create_unclosed op e = kind_close op ∙ create_unshut op e

-- ---- copies of what a sole reply answers

none_waits : (c : Client) (conns : ℕ → Conn) (s : Server) (a : ℕ → ℕ) (k g : ℕ) (asking : Bool) (y : Received)
    → Taken c conns s a k g asking y → c.unanswered g ≡ false → (j n : ℕ) (x : Sent) → slice_get (conns j).up n ≡ Some x
    → x.token ≡ ForOp g → true ≡ false
none_waits c conns s a k g asking y w bf j n x h t =
    let C = w.links in let bd = C.bodies j n g x h t in let tk = C.taken g bd.0 in
    let op = w.locks.unanswered j n g x h t bf in
    let on1 = up_on c conns C.outstanding j n g x h t tk.0 op in
    let same : j ≡ k = some_same j k (sym on1 ∙ w.outstanding_on) in
    let one = more_up (conns j) g n x h t in
    let zero1 : copies g (conns j) ≡ 0 = subst (λ z. copies g (conns z) ≡ 0) (sym same) w.none in absurd (omega (arith, one, zero1))
  where
    some_same : (j k : ℕ) → Some j ≡ Some k → j ≡ k
    some_same j k e = grind arith

asks_none : (c : Client) (conns : ℕ → Conn) (s : Server) (a : ℕ → ℕ) (k g : ℕ) (y : Received)
    → Taken c conns s a k g true y → makes_open (c.op g) ≡ false → (j n : ℕ) (x : Sent) → slice_get (conns j).up n
    ≡ Some x → x.token ≡ ForOp g → s.present x.message.session_id ≡ true → true ≡ false
asks_none c conns s a k g y w kind j n x h t p = sym w.asks ∙ (w.locks.copy_now j n g x h t kind p w.live).1

-- ---- the full disk

filled_same : (c : Client) (g : ℕ) (asking : Bool) (status : ℕ) (b : Bool)
    → (is_lock (c.op g) && (not asking && (status == disk_full))) ≡ b → b ≡ false → filled c g asking status ≡ c.full
filled_same c g asking status b e f = rw (e, f) refl

filled_put : (c : Client) (g : ℕ) (asking : Bool) (status : ℕ)
    → (is_lock (c.op g) && (not asking && (status == disk_full))) ≡ true → filled c g asking status
    ≡ put2 c.full (create_for c g) (c.slot_of g) true
filled_put c g asking status e = rw e refl

test_parts : (x y z : Bool) → (x && (not y && z)) ≡ true → x ≡ true × y ≡ false × z ≡ true
test_parts x y z e = (grind arith, grind arith, grind arith)

test_off : (x y z : Bool) → z ≡ false → (x && (not y && z)) ≡ false
test_off x y z e = grind arith

test_unlocked : (x y z : Bool) → x ≡ false → (x && (not y && z)) ≡ false
test_unlocked x y z e = grind arith

test_on : (x y z : Bool) → x ≡ true → y ≡ false → z ≡ true → (x && (not y && z)) ≡ true
test_on x y z e f g = grind arith

other_slot : (c : Client) (g p : ℕ) → p ≢ g → user_at c p ≡ Some p → user_at c g ≡ Some g → put2 c.full (create_at c g)
    (c.slot_of g) true (create_at c p) (c.slot_of p) ≡ c.full (create_at c p) (c.slot_of p)
other_slot c g p d u v = grind arith

own_slot : (f : ℕ → ℕ → Bool) (q i : ℕ) → put2 f q i true q i ≡ true
own_slot f q i = grind arith

unfirm_pending : (o : Outcome) → is_unsettled o ≡ true → firm o ≡ false
unfolding firm
unfirm_pending o e = grind arith

same_full : (c : Client) (conns : ℕ → Conn) (s : Server) (a : ℕ → ℕ) (k g : ℕ) (asking : Bool) (y : Received)
    → Taken c conns s a k g asking y → (p : ℕ) → p ≢ g → user_at c p ≡ Some p → filled c g asking y.reply.status
    (create_at c p) (c.slot_of p) ≡ c.full (create_at c p) (c.slot_of p)
same_full c conns s a k g asking y w p d u = by_test (is_lock (c.op g) && (not asking && (y.reply.status == disk_full))) refl
  where
    by_test : (b : Bool) → (is_lock (c.op g) && (not asking && (y.reply.status == disk_full))) ≡ b
        → filled c g asking y.reply.status (create_at c p) (c.slot_of p) ≡ c.full (create_at c p) (c.slot_of p)
    by_test false e = ap (λ f. f (create_at c p) (c.slot_of p)) (filled_same c g asking y.reply.status false e refl)
    by_test true e =
        let t = test_parts (is_lock (c.op g)) asking (y.reply.status == disk_full) e in
        let lk : locking (c.op g) ≡ true = sym (kind_lock (c.op g)) ∙ t.0 in
        let user = w.locks.in_use g (w.own t.1).1 lk (unfirm_pending (c.outcome g) w.pending) in
        ap (λ f. f (create_at c p) (c.slot_of p)) (filled_put c g asking y.reply.status e)
        ∙ subst (λ z. put2 c.full z (c.slot_of g) true (create_at c p) (c.slot_of p)
        ≡ c.full (create_at c p) (c.slot_of p)) (sym (own_for c g)) (other_slot c g p d u user)

-- ---- what is told of it

differ : (st : ℕ) → st ≡ success → st ≢ disk_full
differ st e = λ f. eqb-false success disk_full refl (sym e ∙ f)

differ2 : (st : ℕ) → st ≡ success → st ≢ user_session_deleted
differ2 st e = λ f. eqb-false success user_session_deleted refl (sym e ∙ f)

is_it : (st n : ℕ) → st ≡ n → (st == n) ≡ true
is_it st n e = rw e (same_number n)
  where
    same_number : (n : ℕ) → (n == n) ≡ true
    same_number n = grind arith

isnt : (st n : ℕ) → st ≢ n → (st == n) ≡ false
isnt st n d = elim (st == n) as (λ b. st == n ≡ b → (st == n) ≡ false) [ true ↦ λ e. absurd (d (eqb-true st n e)) | false ↦ λ e. e ] refl

plain_told : (c : Client) (conns : ℕ → Conn) (s : Server) (a : ℕ → ℕ) (k g : ℕ) (asking : Bool) (y : Received)
    (o : Outcome) → Taken c conns s a k g asking y → Tells (c.op g) asking (c.unanswered g) y.reply.status (Settles o)
    → is_unsettled o ≡ false → (makes_open (c.op g) ≡ true → is_ok o ≡ false) → OperationSettles c conns s a g o
    (filled c g asking y.reply.status)
plain_told c conns s a k g asking y o w tells settled0 unmade =
    record {
      full_same = same_full c conns s a k g asking y w;
      kept = λ f u fu st. kept f u fu st;
      made = λ r ok mk. still (is_ok o) _ ok (unmade mk);
      near = λ mk ok. still (is_ok o) _ ok (unmade mk);
      dead = λ j n x h t l f p. dead j n x h t l f p;
      full = λ j n x h t sh no1 p st. closing j n x h t sh no1 p (λ e d1 d2. w.said.of_close_full g e sh d1 d2 st);
      stuck = λ j n x h t sh no1 p st. closing j n x h t sh no1 p (λ e d1 d2. w.said.of_close_stuck g e sh d1 d2 st);
      acted = λ l ok. let t = tells.ok ok (lock_unclosed (c.op g) l) in w.said.of_ok_reply g (w.own t.0).0 l t.1;
      unacted = λ l rf. unacted l rf;
    }
  where
    refused_own : (b : Bool) → asking ≡ b → locking (c.op g) ≡ true → refused_for_good o ≡ true
        → s.standing (open_at c g) ≡ true → filled c g asking y.reply.status (create_at c g) (c.slot_of g) ≡ false
        → is_some (kept_of c s g) ≡ true
    refused_own true e l rf st fu = let r = tells.refuses rf in let lost = w.said.of_lost_reply g (w.ask e) r.0 r.1 in
        still (s.standing (open_at c g)) _ st lost.1
    refused_own false e l rf st fu =
        let r = tells.refuses rf in
        w.said.of_kept_reply g (w.own e).0 l r.1 (λ full1.
        let t = filled_put c g asking y.reply.status (test_on (is_lock (c.op g)) asking (y.reply.status == disk_full)
        (kind_lock (c.op g) ∙ l) e (is_it y.reply.status disk_full full1)) in
        let one : filled c g asking y.reply.status (create_at c g) (c.slot_of g) ≡ true =
        ap (λ z. z (create_at c g) (c.slot_of g)) t
        ∙ subst (λ z. put2 c.full z (c.slot_of g) true (create_at c g) (c.slot_of g) ≡ true) (sym (own_for c g))
        (own_slot c.full (create_at c g) (c.slot_of g)) in
        still (filled c g asking y.reply.status (create_at c g) (c.slot_of g)) _ one fu) st

    kept : firm o ≡ true → user_at c g ≡ Some g → filled c g asking y.reply.status (create_at c g) (c.slot_of g) ≡ false
        → s.standing (open_at c g) ≡ true → is_some (kept_of c s g) ≡ true
    kept f u fu st = by_how (firm_how o f)
      where
        ub : locking (c.op g) ≡ true
        ub = (w.locks.user_body (create_at c g) (c.slot_of g) g u).0

        by_how : (is_ok o ≡ true) ⊎ (refused_for_good o ≡ true) → is_some (kept_of c s g) ≡ true
        by_how (inl ok) = let t = tells.ok ok (lock_unclosed (c.op g) ub) in w.said.of_kept_reply g (w.own t.0).0 ub
            (differ2 y.reply.status t.1) (differ y.reply.status t.1) st
        by_how (inr rf) = refused_own asking refl ub rf st fu

    dead : (j n : ℕ) (x : Sent) → slice_get (conns j).up n ≡ Some x → x.token ≡ ForOp g → locking (c.op g) ≡ true
        → firm o ≡ true → s.present x.message.session_id ≡ true → filled c g asking y.reply.status (create_at c g)
        (c.slot_of g) ≡ false
    dead j n x h t l f p = by_before (c.unanswered g) refl (firm_how o f)
      where
        sent : c.sent g ≡ true
        sent = (w.links.bodies j n g x h t).0

        free : y.reply.status ≢ disk_full → filled c g asking y.reply.status (create_at c g) (c.slot_of g) ≡ false
        free d = ap (λ z. z (create_at c g) (c.slot_of g)) (filled_same c g asking y.reply.status _ refl
            (test_off (is_lock (c.op g)) asking (y.reply.status == disk_full) (isnt y.reply.status disk_full d)))
            ∙ w.locks.full_free g sent l w.pending

        by_before : (b : Bool) → c.unanswered g ≡ b → (is_ok o ≡ true) ⊎ (refused_for_good o ≡ true)
            → filled c g asking y.reply.status (create_at c g) (c.slot_of g) ≡ false
        by_before false e how = absurd (let z = none_waits c conns s a k g asking y w e j n x h t in cc)
        by_before true e (inl ok) = free (differ y.reply.status (tells.ok ok (lock_unclosed (c.op g) l)).1)
        by_before true e (inr rf) = free (tells.refused_all rf e l).1

    closing : (j n : ℕ) (x : Sent) {P : Type 0} → slice_get (conns j).up n ≡ Some x → x.token ≡ ForOp g
        → shuts_open (c.op g) ≡ true → is_ok o ≡ false → s.present x.message.session_id ≡ true
        → (y.token ≡ ForOp g → y.reply.status ≢ user_session_deleted → y.reply.status ≢ file_closed → P) → P
    closing j n x {P} h t sh no1 p f = by_both asking refl (c.unanswered g) refl w
      where
        by_both : (b : Bool) → asking ≡ b → (q : Bool) → c.unanswered g ≡ q → Taken c conns s a k g asking y → P
        by_both true e q e2 w2 =
            absurd (let z = asks_none c conns s a k g y (subst (λ z. Taken c conns s a k g z y) e w2)
            (close_kind (c.op g) sh) j n x h t p in cc)
        by_both false e false e2 w2 = absurd (let z = none_waits c conns s a k g asking y w e2 j n x h t in cc)
        by_both false e true e2 w2 = let r = tells.close (kind_close (c.op g) ∙ sh) e e2 settled0 no1 in f (w.own e).0 r.0 r.1

    unacted : locking (c.op g) ≡ true → refused_for_good o ≡ true → a g ≡ 0
    unacted l rf = by_both asking refl (c.unanswered g) refl
      where
        r : y.reply.status ≢ success × y.reply.status ≢ user_session_deleted
        r = tells.refuses rf

        by_both : (b : Bool) → asking ≡ b → (q : Bool) → c.unanswered g ≡ q → a g ≡ 0
        by_both true e false e2 = w.links.unsent g (lock_once (c.op g) l) e2
            (ap (λ z. if z then true else not (is_some (c.outstanding_on g))) (w.asks ∙ e)) w.pending
        by_both true e true e2 =
            let t = (tells.refused_all rf e2 l).0 in let lost = w.said.of_lost_reply g (w.ask e) r.0 r.1 in
            still (y.reply.status == object_name_not_found) _ (is_it y.reply.status object_name_not_found lost.0)
            (other_off asking (y.reply.status == object_name_not_found) t e)
        by_both false e false e2 = w.said.of_first_reply g (w.own e).0 l r.0 e2
        by_both false e true e2 = w.said.of_no_reply g (w.own e).0 l r.0 r.1 (tells.refused_all rf e2 l).1

put_here : (f : ℕ → ℕ) (g n : ℕ) → put f g n g ≡ n
put_here f g n = grind arith

create_no_lock : (op : Op) → makes_open op ≡ true → locking op ≡ false
unfolding makes_open locking
create_no_lock op e = grind arith

open_told : (c : Client) (conns : ℕ → Conn) (s : Server) (a : ℕ → ℕ) (k g : ℕ) (asking : Bool) (y : Received)
    (o : Outcome) → Taken c conns s a k g asking y → Tells (c.op g) asking (c.unanswered g) y.reply.status (Settles o)
    → makes_open (c.op g) ≡ true → is_ok o ≡ true
    → OperationSettles (opened c g (id_in y.reply.body)) conns s a g o (filled c g asking y.reply.status)
open_told c conns s a k g asking y o w tells mk ok =
    let t = tells.ok ok (create_unclosed (c.op g) mk) in
    let id = id_in y.reply.body in
    let at1 = put_here c.file g id in
    record {
      full_same = λ p d u. ap (λ f. f (create_at c p) (c.slot_of p)) (filled_same c g asking y.reply.status _ refl
          (test_unlocked (is_lock (c.op g)) asking (y.reply.status == disk_full) (kind_lock (c.op g) ∙ unlocked)));
      kept = λ f u. still (locking (c.op g)) _ ((w.locks.user_body (create_at c g) (c.slot_of g) g u).0) unlocked;
      made = λ r ok2 mk2 st. subst (λ z. s.lock_sequences z r ≡ None) (sym at1)
          (w.locks.no_slots g r id mk (unsettled_ok (c.outcome g) w.pending)
          (w.guid t.0 mk t.1 (subst (λ z. s.standing z ≡ true) at1 st)));
      near = λ mk2 ok2 lv p st. subst (λ z. s.session_of_open z ≡ Some c.session) (sym at1)
          (w.said.of_opened_reply g (w.own t.0).0 mk t.1 lv p (subst (λ z. s.standing z ≡ true) at1 st));
      dead = λ j n x h tk l. still (locking (c.op g)) _ l unlocked;
      full = λ j n x h tk sh. still (shuts_open (c.op g)) _ sh (create_unshut (c.op g) mk);
      stuck = λ j n x h tk sh. still (shuts_open (c.op g)) _ sh (create_unshut (c.op g) mk);
      acted = λ l. still (locking (c.op g)) _ l unlocked;
      unacted = λ l. still (locking (c.op g)) _ l unlocked;
    }
  where
    unlocked : locking (c.op g) ≡ false
    unlocked = create_no_lock (c.op g) mk

some_on : (u : Option ℕ) (k : ℕ) → u ≡ Some k → is_some u ≡ true
some_on u k e = rw e refl

close_own : (c : Client) (conns : ℕ → Conn) (s : Server) (a : ℕ → ℕ) (k g : ℕ) (asking : Bool) (y : Received)
    → Taken c conns s a k g asking y → shuts_open (c.op g) ≡ true → is_ok (c.outcome (create_at c g)) ≡ true
    × create_at c g ≢ g
close_own c conns s a k g asking y w sh =
    let C = w.links in let kind = close_kind (c.op g) sh in
    let tn = C.taken_on g (some_on (c.outstanding_on g) k w.outstanding_on) in let cr = C.creates g tn.0 tn.1 kind in
    let op = C.asked_open g (some_on (c.outstanding_on g) k w.outstanding_on) in
    (other_on (makes_open (c.op g)) (is_ok (c.outcome (create_at c g))) op kind, λ e. absurd (less (create_at c g) g cr.1 e))
  where
    less : (n m : ℕ) → n < m → n ≡ m → ⊥
    less n m l e = absurd (omega (arith, l, e))

pub says_of : (c : Client) (conns : ℕ → Conn) (s : Server) (a : ℕ → ℕ) (k g : ℕ) (asking : Bool) (y : Received)
    (o : Outcome) → Taken c conns s a k g asking y → Tells (c.op g) asking (c.unanswered g) y.reply.status (Settles o)
    → is_unsettled o ≡ false → Says c conns s a k g asking y.reply o
says_of c conns s a k g asking y o w tells firm0 =
    record {
      plain = λ unmade. record {
        links = w.links;
        locks = w.locks;
        outstanding_on = w.outstanding_on;
        pending = w.pending;
        firm = firm0;
        real = tells.real;
        told = plain_told c conns s a k g asking y o w tells firm0 unmade;
      };
      names_open = λ mk ok. record {
        links = exchange_opens_keeps c conns a g (id_in y.reply.body) mk (some_on (c.outstanding_on g) k w.outstanding_on) w.links;
        locks = opens_keeps c conns s a g (id_in y.reply.body) mk w.pending w.links w.locks;
        outstanding_on = w.outstanding_on;
        pending = w.pending;
        firm = firm0;
        real = tells.real;
        told = open_told c conns s a k g asking y o w tells mk ok;
      };
      closes = close_own c conns s a k g asking y w;
    }
