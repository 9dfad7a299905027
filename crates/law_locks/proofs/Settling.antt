-- A reply that settles its operation keeps what holds of locks.
use Rattle.std.proofs.Common.{eqb-true, ◌≡◌, ◌≢◌, ◌⊎◌, inl, inr, ℕ, ◌+◌, ◌≤◌, ◌<◌, ◌==◌, Bool, true, false, not, ◌&&◌}
use Rattle.std.proofs.Common.{◌||◌, if◌then◌else◌, [], ◌∷◌, ◌++◌, refl, arith, sym, subst, ◌∙◌, ap, Option, Some, None}
use Rattle.std.proofs.Common.{slice_get, is_some}
use Rattle.spec_exchange.specs.Table.{put, put2}
use Rattle.spec_exchange.specs.Status.{disk_full}
use Rattle.spec_exchange.specs.State.{Server, Reply}
use Rattle.spec_exchange.specs.Records.{lower_limit}
use Rattle.spec_exchange.specs.Operations.{Op, Outcome, Unsettled, WasOk, WasRefused, NoSlot, NoOpen, Unknown}
use Rattle.spec_exchange.specs.Operations.{is_unsettled, is_ok, is_create, is_close, is_lock, id_in}
use Rattle.spec_exchange.specs.Client.{Client, create_for, is_gone_after}
use Rattle.spec_exchange.specs.Settling.{settle, settled, noted_full, settles_open, with_no_opens, give_up_on, without_open}
use Rattle.spec_exchange.specs.Network.{Conn, Sent, ForOp}
use Rattle.law_sessions.specs.messages.Connections.{Connections, makes_open, shuts_open, its_create, create_at}
use Rattle.law_sessions.proofs.messages.Run.{without_same}
use Rattle.law_server.proofs.tables.Logic.{either, back_off}
use Rattle.law_locks.specs.Locks.{Locks, locking, open_at, user_at, kept_of, firm, is_unsent, refused_for_good, is_stuck}
use Rattle.law_locks.proofs.Words.{close_kind, ok_settled, unsettled_ok, unsent_ok, split_at}
use Rattle.law_locks.proofs.Settle.{settle_keeps}

-- ---- what is known of the operation that settles

pub record OperationSettles (d : Client) (conns : ℕ → Conn) (s : Server) (a : ℕ → ℕ) (g : ℕ) (o : Outcome)
    (fu : ℕ → ℕ → Bool) : Type 0 where
  pub full_same : (p : ℕ) → p ≢ g → user_at d p ≡ Some p → fu (create_at d p) (d.slot_of p) ≡ d.full (create_at d p) (d.slot_of p)
  pub kept : firm o ≡ true → user_at d g ≡ Some g → fu (create_at d g) (d.slot_of g) ≡ false → s.standing (open_at d g)
      ≡ true → is_some (kept_of d s g) ≡ true
  pub made : (r : ℕ) → is_ok o ≡ true → makes_open (d.op g) ≡ true → s.standing (d.file g) ≡ true → s.lock_sequences (d.file g) r ≡ None
  pub near : makes_open (d.op g) ≡ true → is_ok o ≡ true → d.live ≡ true → s.present d.session ≡ true
      → s.standing (d.file g) ≡ true → s.session_of_open (d.file g) ≡ Some d.session
  pub dead : (j n : ℕ) (x : Sent) → slice_get (conns j).up n ≡ Some x → x.token ≡ ForOp g → locking (d.op g) ≡ true
      → firm o ≡ true → s.present x.message.session_id ≡ true → fu (create_at d g) (d.slot_of g) ≡ false
  pub full : (j n : ℕ) (x : Sent) → slice_get (conns j).up n ≡ Some x → x.token ≡ ForOp g → shuts_open (d.op g) ≡ true
      → is_ok o ≡ false → s.present x.message.session_id ≡ true → s.standing (open_at d g) ≡ true
      → (s.opened (open_at d g)).persistent ≡ true → lower_limit < s.journal + 66
  pub stuck : (j n : ℕ) (x : Sent) → slice_get (conns j).up n ≡ Some x → x.token ≡ ForOp g → shuts_open (d.op g) ≡ true
      → is_ok o ≡ false → s.present x.message.session_id ≡ true → s.standing (open_at d g) ≡ true
      → (s.opened (open_at d g)).persistent ≡ false → is_stuck s (open_at d g) ≡ true
  pub acted : locking (d.op g) ≡ true → is_ok o ≡ true → a g ≡ 1
  pub unacted : locking (d.op g) ≡ true → refused_for_good o ≡ true → a g ≡ 0

-- a table in which it may settle
pub record Ready (d : Client) (conns : ℕ → Conn) (s : Server) (a : ℕ → ℕ) (k g : ℕ) (o : Outcome) (fu : ℕ → ℕ → Bool) : Type 0 where
  pub links : Connections d conns a
  pub locks : Locks d conns s a
  pub outstanding_on : d.outstanding_on g ≡ Some k
  pub pending : is_unsettled (d.outcome g) ≡ true
  pub firm : is_unsettled o ≡ false
  pub real : is_unsent o ≡ false
  pub told : OperationSettles d conns s a g o fu

abbrev pub done_at : Client → ℕ → Outcome → (ℕ → Bool) → (ℕ → ℕ → Bool) → ℕ → Client
done_at d g o sh fu place = record d {
  outcome = put d.outcome g o;
  outstanding_on = put d.outstanding_on g None;
  settled_by = put d.settled_by g (Some place);
  order = d.order ++ g ∷ [];
  closed_ok = sh;
  full = fu;
}

put_own : (f : ℕ → Outcome) (g : ℕ) (o : Outcome) → put f g o g ≡ o
put_own f g o = grind arith

put_other : (f : ℕ → Outcome) (g h : ℕ) (o : Outcome) → h ≢ g → put f g o h ≡ f h
put_other f g h o d = grind arith

pub still : (b : Bool) (P : Type 0) → b ≡ true → b ≡ false → P
still b P e f = absurd (grind arith)

no_both : (b : Bool) → b ≡ true → b ≡ false → ⊥
no_both b e f = absurd (grind arith)

some_on : (u : Option ℕ) (k : ℕ) → u ≡ Some k → is_some u ≡ true
some_on u k e = rw e refl

below : (n g m : ℕ) → n < g → g ≤ m → n ≤ m
below n g m l e = omega (arith, l, e)

abbrev Shuts : Client → ℕ → Outcome → (ℕ → Bool) → Type 0
Shuts d g o sh = (q : ℕ) → sh q ≡ true → (d.closed_ok q ≡ true) ⊎ (q ≡ create_at d g × is_ok o ≡ true × shuts_open (d.op g) ≡ true)

-- one that neither makes nor shuts
leaf1 : (d : Client) (conns : ℕ → Conn) (s : Server) (a : ℕ → ℕ) (k g : ℕ) (o : Outcome) (fu : ℕ → ℕ → Bool) (place : ℕ)
    → Ready d conns s a k g o fu → shuts_open (d.op g) ≡ false → Locks (done_at d g o d.closed_ok fu place) conns s a
leaf1 d conns s a k g o fu place r off =
    settle_keeps d conns s a k g o (put d.outcome g o) d.closed_ok fu (put d.settled_by g (Some place))
    (d.order ++ g ∷ []) r.outstanding_on (put_own d.outcome g o) r.firm r.real
    (λ h x e. put_other d.outcome g h o x)
    (λ h x e f. still (is_unsettled (d.outcome h)) _ e (sym (ap is_unsettled (put_other d.outcome g h o x)) ∙ f))
    (λ p l m e f u. split_at (λ z. is_unsettled (put d.outcome g o z) ≡ false) g p
    (λ x. ap is_unsettled (put_other d.outcome g p o x) ∙ r.locks.shut_gone p l m e f u)
    (ap is_unsettled (put_own d.outcome g o) ∙ r.firm))
    (λ h sh ok. shut_before h sh ok)
    (λ q e. let sm = r.locks.shut_made q e in (
      split_at (λ z. is_ok (d.outcome z) ≡ true → is_ok (put d.outcome g o z) ≡ true) g q
          (λ x f. ap is_ok (put_other d.outcome g q o x) ∙ f)
          (λ f. still (is_ok (d.outcome g)) _ f (unsettled_ok (d.outcome g) r.pending)) sm.0,
      sm.1,
    ))
    r.told.full_same r.told.kept r.told.made r.told.near r.told.dead r.told.full r.told.stuck r.told.acted r.told.unacted r.links r.locks
  where
    shut_before : (h : ℕ) → shuts_open (d.op h) ≡ true → is_ok (put d.outcome g o h) ≡ true → d.closed_ok (create_at d h) ≡ true
    shut_before h sh ok = split_at (λ z. shuts_open (d.op z) ≡ true → is_ok (put d.outcome g o z) ≡ true
        → d.closed_ok (create_at d z) ≡ true) g h
        (λ x e f. r.locks.shut_ok h e (sym (ap is_ok (put_other d.outcome g h o x)) ∙ f))
        (λ e f. still (shuts_open (d.op g)) _ e off) sh ok

without_new : (names sent gone : Bool) (create : ℕ) (o : Outcome) → is_unsettled o ≡ true
    → is_unsettled (without_open names sent gone create o) ≡ false → is_unsent (without_open names sent gone create o)
    ≡ true × sent ≡ false
unfolding is_unsent
without_new names sent gone create Unsettled e f = (grind arith, grind arith)
without_new names sent gone create (WasOk reply) e f = absurd (cc)
without_new names sent gone create (WasRefused status) e f = absurd (cc)
without_new names sent gone create (NoSlot n) e f = absurd (cc)
without_new names sent gone create (NoOpen n) e f = absurd (cc)
without_new names sent gone create (Unknown why) e f = absurd (cc)

without_gone : (names sent gone : Bool) (create : ℕ) (o : Outcome) → names ≡ true → sent ≡ false → gone ≡ true
    → is_unsettled (without_open names sent gone create o) ≡ false
without_gone names sent gone create Unsettled e f g = grind arith
without_gone names sent gone create (WasOk reply) e f g = refl
without_gone names sent gone create (WasRefused status) e f g = refl
without_gone names sent gone create (NoSlot n) e f g = refl
without_gone names sent gone create (NoOpen n) e f g = refl
without_gone names sent gone create (Unknown why) e f g = refl

gone_ok : (c : Client) (q : ℕ) (o : Outcome) → is_ok o ≡ true → c.closed_ok q ≡ true → is_gone_after c q o ≡ true
gone_ok c q (WasOk reply) e f = grind arith
gone_ok c q Unsettled e f = absurd (cc)
gone_ok c q (WasRefused status) e f = refl
gone_ok c q (NoSlot n) e f = refl
gone_ok c q (NoOpen n) e f = refl
gone_ok c q (Unknown why) e f = refl

pub own_for : (c : Client) (g : ℕ) → create_for c g ≡ create_at c g
unfolding its_create
own_for c g = refl

no_create : (op : Op) → makes_open op ≡ false → is_create op ≡ false
unfolding makes_open
no_create op e = e

named_in : (n q : ℕ) (b : Bool) → n ≡ q → b ≡ false → ((n == q) && not b) ≡ true
named_in n q b e f = rw (e, f) (same q)
  where
    same : (q : ℕ) → ((q == q) && true) ≡ true
    same q = grind arith

-- one that makes or shuts an open: what never went out and has none any more settles with it
leaf2 : (d : Client) (conns : ℕ → Conn) (s : Server) (a : ℕ → ℕ) (k g : ℕ) (o : Outcome) (sh : ℕ → Bool)
    (fu : ℕ → ℕ → Bool) (place : ℕ) → Ready d conns s a k g o fu → Shuts d g o sh
    → ((q : ℕ) → d.closed_ok q ≡ true → sh q ≡ true) → (shuts_open (d.op g) ≡ true → is_ok o ≡ true → sh (create_at d g)
    ≡ true)
    → (shuts_open (d.op g) ≡ true → is_ok (d.outcome (create_at d g)) ≡ true × create_at d g ≢ g)
    → Locks (with_no_opens (done_at d g o sh fu place) (create_for d g)) conns s a
leaf2 d conns s a k g o sh fu place r shuts more own open1 =
    settle_keeps d conns s a k g o (give_up_on D q) sh fu (put d.settled_by g (Some place)) (d.order ++ g ∷ [])
    r.outstanding_on (kept_new g (ap is_unsettled (put_own d.outcome g o) ∙ r.firm) ∙ put_own d.outcome g o) r.firm
    r.real
    (λ h x e. kept_new h (ap is_unsettled (put_other d.outcome g h o x) ∙ e) ∙ put_other d.outcome g h o x)
    (λ h x e f. let u : is_unsettled (D.outcome h) ≡ true = ap is_unsettled (put_other d.outcome g h o x) ∙ e in
    without_new (names h) (d.sent h) gone q (D.outcome h) u f)
    (λ p l m e f u. gone_with p l m e f u)
    (λ h e ok. shut_then h e ok)
    (λ x e. shut_ok_new x (shuts x e))
    r.told.full_same r.told.kept r.told.made r.told.near r.told.dead r.told.full r.told.stuck r.told.acted r.told.unacted r.links r.locks
  where
    D : Client
    D = done_at d g o sh fu place

    q : ℕ
    q = create_for d g

    gone : Bool
    gone = is_gone_after D q (D.outcome q)

    names : ℕ → Bool
    names h = (create_for D h == q) && not (is_create (D.op h))

    kept_new : (h : ℕ) → is_unsettled (D.outcome h) ≡ false → give_up_on D q h ≡ D.outcome h
    kept_new h e = without_same (names h) (d.sent h) gone q (D.outcome h) e

    settled_new : (h : ℕ) → is_unsettled (D.outcome h) ≡ false → is_unsettled (give_up_on D q h) ≡ false
    settled_new h e = ap is_unsettled (kept_new h e) ∙ e

    was_settled : (p : ℕ) → is_unsettled (d.outcome p) ≡ false → is_unsettled (D.outcome p) ≡ false
    was_settled p e = split_at (λ z. is_unsettled (d.outcome z) ≡ false → is_unsettled (D.outcome z) ≡ false) g p
        (λ x f. ap is_unsettled (put_other d.outcome g p o x) ∙ f) (λ f. ap is_unsettled (put_own d.outcome g o)
        ∙ r.firm) e

    gone_with : (p : ℕ) → 0 < p → p ≤ d.taken → makes_open (d.op p) ≡ false → sh (create_at d p) ≡ true → d.sent p
        ≡ false → is_unsettled (give_up_on D q p) ≡ false
    gone_with p l m e f u = by_shut (shuts (create_at d p) f)
      where
        by_shut : (d.closed_ok (create_at d p) ≡ true) ⊎ (create_at d p ≡ create_at d g × is_ok o ≡ true
            × shuts_open (d.op g) ≡ true) → is_unsettled (give_up_on D q p) ≡ false
        by_shut (inl old) = settled_new p (was_settled p (r.locks.shut_gone p l m e old u))
        by_shut (inr new) =
            let op = open1 new.2 in
            let qs : q ≡ create_at d g = own_for d g in
            let okq : is_ok (D.outcome q) ≡ true = subst (λ z. is_ok (D.outcome z) ≡ true) (sym qs)
            (ap is_ok (put_other d.outcome g (create_at d g) o op.1) ∙ op.0) in
            let shq : sh q ≡ true = subst (λ z. sh z ≡ true) (new.0 ∙ sym qs) f in
            without_gone (names p) (d.sent p) gone q (D.outcome p) (named_in (create_for D p) q (is_create (d.op p))
            (own_for d p ∙ (new.0 ∙ sym qs)) (no_create (d.op p) e)) u (gone_ok D q (D.outcome q) okq shq)

    ok_new : (x : ℕ) → x ≢ g → is_ok (d.outcome x) ≡ true → is_ok (give_up_on D q x) ≡ true
    ok_new x a e = ap is_ok (kept_new x (ap is_unsettled (put_other d.outcome g x o a) ∙ ok_settled (d.outcome x) e)
        ∙ put_other d.outcome g x o a) ∙ e

    not_g : (x : ℕ) → is_ok (d.outcome x) ≡ true → x ≢ g
    not_g x e = λ f. no_both (is_ok (d.outcome x)) e (ap (λ z. is_ok (d.outcome z)) f ∙ unsettled_ok (d.outcome g) r.pending)

    shut_ok_new : (x : ℕ) → (d.closed_ok x ≡ true) ⊎ (x ≡ create_at d g × is_ok o ≡ true × shuts_open (d.op g) ≡ true)
        → is_ok (give_up_on D q x) ≡ true × x ≤ d.taken
    shut_ok_new x (inl old) = let sm = r.locks.shut_made x old in (ok_new x (not_g x sm.0) sm.0, sm.1)
    shut_ok_new x (inr new) =
        let op = open1 new.2 in
        let tn = r.links.taken_on g (some_on (d.outstanding_on g) k r.outstanding_on) in
        let cr = r.links.creates g tn.0 tn.1 (close_kind (d.op g) new.2) in (
          subst (λ z. is_ok (give_up_on D q z) ≡ true) (sym new.0) (ok_new (create_at d g) op.1 op.0),
          subst (λ z. z ≤ d.taken) (sym new.0) (below (create_at d g) g d.taken cr.1 tn.1),
        )

    shut_then : (h : ℕ) → shuts_open (d.op h) ≡ true → is_ok (give_up_on D q h) ≡ true → sh (create_at d h) ≡ true
    shut_then h e ok = split_at (λ z. shuts_open (d.op z) ≡ true → is_ok (give_up_on D q z) ≡ true → sh (create_at d z)
        ≡ true) g h (λ x f y. others h x f y)
        (λ f y. own f (sym (ap is_ok (kept_new g (ap is_unsettled (put_own d.outcome g o) ∙ r.firm)
        ∙ put_own d.outcome g o)) ∙ y)) e ok
      where
        others : (h : ℕ) → h ≢ g → shuts_open (d.op h) ≡ true → is_ok (give_up_on D q h) ≡ true → sh (create_at d h) ≡ true
        others h x f y = by_old (is_unsettled (d.outcome h)) refl
          where
            by_old : (b : Bool) → is_unsettled (d.outcome h) ≡ b → sh (create_at d h) ≡ true
            by_old false old = more (create_at d h)
                (r.locks.shut_ok h f (sym (ap is_ok (kept_new h (was_settled h old) ∙ put_other d.outcome g h o x))
                ∙ y))
            by_old true old =
                let u : is_unsettled (D.outcome h) ≡ true = ap is_unsettled (put_other d.outcome g h o x) ∙ old in
                let w = without_new (names h) (d.sent h) gone q (D.outcome h) u (ok_settled (give_up_on D q h) y) in
                still (is_ok (give_up_on D q h)) _ y (unsent_ok (give_up_on D q h) w.0)

-- ---- by kinds of operations

kind_create : (op : Op) → is_create op ≡ true → makes_open op ≡ true
unfolding makes_open
kind_create op e = e

kind_made : (op : Op) → is_create op ≡ makes_open op
unfolding makes_open
kind_made op = refl

pub kind_close : (op : Op) → is_close op ≡ shuts_open op
unfolding shuts_open
kind_close op = refl

pub kind_lock : (op : Op) → is_lock op ≡ locking op
unfolding locking
kind_lock op = refl

pub create_unshut : (op : Op) → makes_open op ≡ true → shuts_open op ≡ false
unfolding makes_open shuts_open
create_unshut op e = grind arith

-- the slots that met a full disk behind it
abbrev pub filled : Client → ℕ → Bool → ℕ → ℕ → ℕ → Bool
filled c g asking status = if is_lock (c.op g) && (not asking && (status == disk_full)) then put2 c.full
    (create_for c g) (c.slot_of g) true else c.full

abbrev pub opened : Client → ℕ → ℕ → Client
opened c g id = record c { file = put c.file g id; attached = put c.attached g c.session_number }

-- what the reply says, in the table before it and in the one that names its open
pub record Says (c : Client) (conns : ℕ → Conn) (s : Server) (a : ℕ → ℕ) (k g : ℕ) (asking : Bool) (r : Reply) (o : Outcome) : Type 0 where
  pub plain : (makes_open (c.op g) ≡ true → is_ok o ≡ false) → Ready c conns s a k g o (filled c g asking r.status)
  pub names_open : makes_open (c.op g) ≡ true → is_ok o ≡ true → Ready (opened c g (id_in r.body)) conns s a k g o
      (filled c g asking r.status)
  pub closes : shuts_open (c.op g) ≡ true → is_ok (c.outcome (create_at c g)) ≡ true × create_at c g ≢ g

put_shut : (f : ℕ → Bool) (q p : ℕ) → put f q true p ≡ true → (f p ≡ true) ⊎ (p ≡ q)
put_shut f q p e = elim (p == q) as (λ b. p == q ≡ b → (f p ≡ true) ⊎ (p ≡ q)) [
  | true ↦ λ h. inr (eqb-true p q h)
  | false ↦ λ h. inl (grind arith)
] refl

put_more : (f : ℕ → Bool) (q p : ℕ) → f p ≡ true → put f q true p ≡ true
put_more f q p e = grind arith

put_here : (f : ℕ → Bool) (q : ℕ) → put f q true q ≡ true
put_here f q = grind arith

settles_if : (c : Client) (conns : ℕ → Conn) (s : Server) (a : ℕ → ℕ) (g : ℕ) (asking : Bool) (status place : ℕ)
    (o : Outcome) (x : Client) → Client
settles_if c conns s a g asking status place o x = if settles_open (c.op g) then with_no_opens
    (settled (noted_full x g asking status) g o place) (create_for c g) else settled (noted_full x g asking status) g o
    place

-- the note of a full disk as a column
full_column : (P : Client → Type 0) (x : Client) (g : ℕ) (asking : Bool) (status : ℕ) → P (record x {
  full = filled x g asking status;
}) → P (noted_full x g asking status)
full_column P x g asking status p = by_test (is_lock (x.op g) && (not asking && (status == disk_full))) p
  where
    by_test : (b : Bool) → P (record x { full = if b then put2 x.full (create_for x g) (x.slot_of g) true else x.full })
        → P (if b then record x { full = put2 x.full (create_for x g) (x.slot_of g) true } else x)
    by_test true p = p
    by_test false p = p

pub settles : (c : Client) (conns : ℕ → Conn) (s : Server) (a : ℕ → ℕ) (k g : ℕ) (asking : Bool) (r : Reply) (place : ℕ)
    (o : Outcome) → Says c conns s a k g asking r o → Locks (settle c g asking r place o) conns s a
settles c conns s a k g asking r place o y = by_outcome o y
  where
    -- nothing was noted of an open
    plainly : (o : Outcome) → Says c conns s a k g asking r o → (shuts_open (c.op g) ≡ true → is_ok o ≡ false)
        → (makes_open (c.op g) ≡ true → is_ok o ≡ false)
        → Locks (if settles_open (c.op g) then with_no_opens (settled (noted_full c g asking r.status) g o place)
        (create_for c g) else settled (noted_full c g asking r.status) g o place) conns s a
    plainly o y quiet unmade =
        full_column (λ x. Locks (if settles_open (c.op g) then with_no_opens (settled x g o place) (create_for c g) else
        settled x g o place) conns s a) c g asking r.status
        (either (λ x. Locks x conns s a) (settles_open (c.op g)) _ _
        (λ _. leaf2 c conns s a k g o c.closed_ok (filled c g asking r.status) place (y.plain unmade) (λ q e. inl e)
        (λ q e. e) (λ e f. still (is_ok o) _ f (quiet e)) y.closes)
        (λ off. leaf1 c conns s a k g o (filled c g asking r.status) place (y.plain unmade) (sym (kind_close (c.op g))
        ∙ back_off (is_create (c.op g)) (is_close (c.op g)) off)))

    by_outcome : (o : Outcome) → Says c conns s a k g asking r o → Locks (settle c g asking r place o) conns s a
    by_outcome Unsettled y = plainly Unsettled y (λ e. refl) (λ e. refl)
    by_outcome (WasRefused status) y = plainly (WasRefused status) y (λ e. refl) (λ e. refl)
    by_outcome (NoSlot create) y = plainly (NoSlot create) y (λ e. refl) (λ e. refl)
    by_outcome (NoOpen create) y = plainly (NoOpen create) y (λ e. refl) (λ e. refl)
    by_outcome (Unknown why) y = plainly (Unknown why) y (λ e. refl) (λ e. refl)
    by_outcome (WasOk reply) y =
        either (λ x. Locks (if settles_open (c.op g) then with_no_opens (settled (noted_full x g asking r.status) g
        (WasOk reply) place) (create_for c g) else settled (noted_full x g asking r.status) g (WasOk reply) place)
        conns s a) (is_create (c.op g)) (opened c g (id_in r.body)) (if is_close (c.op g) then record c {
          closed_ok = put c.closed_ok (create_for c g) true;
        } else c)
        (λ cr. let mk = kind_create (c.op g) cr in
        full_column (λ x. Locks (if settles_open (c.op g) then with_no_opens (settled x g (WasOk reply) place)
        (create_for c g) else settled x g (WasOk reply) place) conns s a) (opened c g (id_in r.body)) g asking
        r.status
        (either (λ x. Locks x conns s a) (settles_open (c.op g))
        (with_no_opens (done_at (opened c g (id_in r.body)) g (WasOk reply) c.closed_ok (filled c g asking r.status)
        place) (create_for c g)) (done_at (opened c g (id_in r.body)) g (WasOk reply) c.closed_ok
        (filled c g asking r.status) place)
        (λ _. leaf2 (opened c g (id_in r.body)) conns s a k g (WasOk reply) c.closed_ok (filled c g asking r.status)
        place (y.names_open mk refl) (λ q e. inl e) (λ q e. e)
        (λ e. still (shuts_open (c.op g)) _ e (create_unshut (c.op g) mk))
        (λ e. still (shuts_open (c.op g)) _ e (create_unshut (c.op g) mk)))
        (λ off. leaf1 (opened c g (id_in r.body)) conns s a k g (WasOk reply) (filled c g asking r.status) place
        (y.names_open mk refl) (create_unshut (c.op g) mk))))
        (λ ncr. either (λ x. Locks (if settles_open (c.op g) then with_no_opens
        (settled (noted_full x g asking r.status) g (WasOk reply) place) (create_for c g) else settled
        (noted_full x g asking r.status) g (WasOk reply) place) conns s a) (is_close (c.op g)) (record c {
          closed_ok = put c.closed_ok (create_for c g) true;
        }) c
        (λ cl. let sh : shuts_open (c.op g) ≡ true = sym (kind_close (c.op g)) ∙ cl in
        full_column (λ x. Locks (if settles_open (c.op g) then with_no_opens (settled x g (WasOk reply) place)
        (create_for c g) else settled x g (WasOk reply) place) conns s a) (record c {
          closed_ok = put c.closed_ok (create_for c g) true;
        }) g asking r.status
        (either (λ x. Locks x conns s a) (settles_open (c.op g))
        (with_no_opens (done_at c g (WasOk reply) (put c.closed_ok (create_for c g) true)
        (filled c g asking r.status) place) (create_for c g))
        (done_at c g (WasOk reply) (put c.closed_ok (create_for c g) true) (filled c g asking r.status) place)
        (λ _. leaf2 c conns s a k g (WasOk reply) (put c.closed_ok (create_for c g) true) (filled c g asking r.status)
        place (y.plain (λ e. still (shuts_open (c.op g)) _ sh (create_unshut (c.op g) e)))
        (λ q e. shut_new q sh (put_shut c.closed_ok (create_for c g) q e)) (λ q e. put_more c.closed_ok (create_for c g) q e)
        (λ e f. subst (λ z. put c.closed_ok (create_for c g) true z ≡ true) (own_for c g) (put_here c.closed_ok (create_for c g))) y.closes)
        (λ off. still (settles_open (c.op g)) _ (either_on (is_create (c.op g)) (is_close (c.op g)) cl) off)))
        (λ ncl. plainly (WasOk reply) y (λ e. still (is_close (c.op g)) _ (kind_close (c.op g) ∙ e) ncl)
        (λ e. still (makes_open (c.op g)) _ e (sym (kind_made (c.op g)) ∙ ncr))))
      where
        either_on : (x y : Bool) → y ≡ true → (x || y) ≡ true
        either_on x y e = grind arith

        shut_new : (q : ℕ) → shuts_open (c.op g) ≡ true → (c.closed_ok q ≡ true) ⊎ (q ≡ create_for c g)
            → (c.closed_ok q ≡ true) ⊎ (q ≡ create_at c g × is_ok (WasOk reply) ≡ true × shuts_open (c.op g) ≡ true)
        shut_new q sh (inl e) = inl e
        shut_new q sh (inr e) = inr (e ∙ own_for c g, refl, sh)
