-- Which steps leave all but how an operation goes out.
use Rattle.std.proofs.Common.{◌≡◌, ℕ, ◌<◌, ◌==◌, Bool, true, false, if◌then◌else◌, Option, None, Some, is_some}
use Rattle.std.proofs.Common.{refl, ap, sym, ◌∙◌, subst, arith, ◌⊎◌, inl, inr}
use Rattle.spec_exchange.specs.Table.{put, put2}
use Rattle.spec_exchange.specs.Operations.{is_lock}
use Rattle.spec_exchange.specs.Client.{Client, again, asked, begin, begun, create_for, outstanding, take_slot}
use Rattle.spec_exchange.specs.Settling.{answered}
use Rattle.client_rows.proofs.operation_rows.Walking.{put_at, put_off}
use Rattle.client_steps.specs.Steps.{AreSlotted, HaveTaken, KeepsRest}

ways : (x y : ℕ) → (x ≡ y) ⊎ (x ≡ y → ⊥)
ways x y = grind arith

test_same : (x y : ℕ) → x ≡ y → (x == y) ≡ true
test_same x y e = grind arith

is_same : (x y : ℕ) → (x == y) ≡ true → x ≡ y
is_same x y e = grind arith

clash : (b : Bool) → b ≡ true → b ≡ false → ⊥
clash b e f = absurd (cc)

-- ---- a lock that went out has a slot

some_by : (p q : Bool) (v : Option ℕ) (g : ℕ) → is_some v ≡ true → is_some (if p then (if q then Some g else v) else v) ≡ true
some_by true true v g e = refl
some_by true false v g e = e
some_by false q v g e = e

some_here : (f : ℕ → ℕ → Option ℕ) (a b g x y : ℕ) → x ≡ a → y ≡ b → is_some (put2 f a b (Some g) x y) ≡ true
some_here f a b g x y p q =
    ap (λ t. is_some (if t then (if y == b then Some g else f x y) else f x y)) (test_same x a p)
    ∙ ap (λ t. is_some (if t then Some g else f x y)) (test_same y b q)

some_still : (f : ℕ → ℕ → Option ℕ) (a b g x y : ℕ) → is_some (f x y) ≡ true → is_some (put2 f a b (Some g) x y) ≡ true
some_still f a b g x y e = some_by (x == a) (y == b) (f x y) g e

slotted_taken : (c : Client) (g i : ℕ) → 0 < i → AreSlotted c → AreSlotted (record (take_slot c g i) { sent = put c.sent g true })
slotted_taken c g i p s = λ h a t sent lock.
    elim (ways h g) as (λ _. (0 < put c.slot_of g i h)
    × (is_some (put2 c.slot_user (create_for c g) i (Some g) (create_for c h) (put c.slot_of g i h)) ≡ true)) [
      | inl q ↦ (
        subst (λ n. 0 < n) (sym (put_at c.slot_of g i h q)) p,
        some_here c.slot_user (create_for c g) i g (create_for c h) (put c.slot_of g i h) (ap (λ y. create_for c y) q)
            (put_at c.slot_of g i h q),
      )
      | inr q ↦ (
          let w = s h a t (sym (put_off c.sent g true h q) ∙ sent) lock in (
            subst (λ n. 0 < n) (sym (put_off c.slot_of g i h q)) w.0,
            some_still c.slot_user (create_for c g) i g (create_for c h) (put c.slot_of g i h)
                (ap (λ n. is_some (c.slot_user (create_for c h) n)) (put_off c.slot_of g i h q) ∙ w.1),
          )
          )
    ]

slotted_sent : (c : Client) (g : ℕ) → is_lock (c.op g) ≡ false → AreSlotted c → AreSlotted (record c { sent = put c.sent g true })
slotted_sent c g e s = λ h a t sent lock.
    elim (ways h g) as (λ _. (0 < c.slot_of h) × (is_some (c.slot_user (create_for c h) (c.slot_of h)) ≡ true)) [
      | inl q ↦ absurd (clash (is_lock (c.op h)) lock (ap (λ y. is_lock (c.op y)) q ∙ e))
      | inr q ↦ s h a t (sym (put_off c.sent g true h q) ∙ sent) lock
    ]

-- ---- a slot's last user went out with it

value_of : Option ℕ → ℕ
value_of None = 0
value_of (Some z) = z

same_some : (x y : ℕ) → Some x ≡ Some y → y ≡ x
unfolding value_of
same_some x y e = sym (ap (λ (o : Option ℕ). value_of o) e)

-- what stands there behind a put: the new user, or what was there
user_ways : (f : ℕ → ℕ → Option ℕ) (a b g x y h : ℕ) → put2 f a b (Some g) x y ≡ Some h
    → ((x ≡ a) × (y ≡ b) × (h ≡ g)) ⊎ (f x y ≡ Some h)
user_ways f a b g x y h e = by_tests (x == a) (y == b) (f x y) refl refl e
  where
    by_tests : (p q : Bool) (v : Option ℕ) → (x == a) ≡ p → (y == b) ≡ q → (if p then (if q then Some g else v) else v) ≡ Some h
        → ((x ≡ a) × (y ≡ b) × (h ≡ g)) ⊎ (v ≡ Some h)
    by_tests true true v s t e = inl (is_same x a s, is_same y b t, same_some g h e)
    by_tests true false v s t e = inr e
    by_tests false q v s t e = inr e

users_taken : (c : Client) (g i : ℕ) → is_lock (c.op g) ≡ true → c.sent g ≡ false → HaveTaken c
    → HaveTaken (record (take_slot c g i) { sent = put c.sent g true })
users_taken c g i lock unsent s = λ x j h e.
    elim (user_ways c.slot_user (create_for c g) i g x j h e) as (λ _. (is_lock (c.op h) ≡ true) × (create_for c h ≡ x)
    × (put c.slot_of g i h ≡ j) × (put c.sent g true h ≡ true)) [
      | inl w ↦ (
        ap (λ y. is_lock (c.op y)) w.2 ∙ lock,
        ap (λ y. create_for c y) w.2 ∙ sym w.0,
        put_at c.slot_of g i h w.2 ∙ sym w.1,
        put_at c.sent g true h w.2,
      )
      | inr w ↦ (
          let u = s x j h w in
          let other : h ≡ g → ⊥ = (λ q. clash (c.sent h) u.3 (ap c.sent q ∙ unsent)) in (
            u.0,
            u.1,
            put_off c.slot_of g i h other ∙ u.2,
            put_off c.sent g true h other ∙ u.3,
          )
          )
    ]

users_sent : (c : Client) (g : ℕ) → HaveTaken c → HaveTaken (record c { sent = put c.sent g true })
users_sent c g s = λ x i h e. (
    let u = s x i h e in
    (u.0, u.1, u.2, still h (ways h g) u.3)
    )
  where
    still : (h : ℕ) → (h ≡ g) ⊎ (h ≡ g → ⊥) → c.sent h ≡ true → put c.sent g true h ≡ true
    still h (inl q) t = put_at c.sent g true h q
    still h (inr q) t = put_off c.sent g true h q ∙ t

-- ---- all but how it goes out

pub ask_rest : (c : Client) (k g : ℕ) → KeepsRest c (asked c k g)
ask_rest c k g =
    record {
      taken = refl;
      op = refl;
      outcome = refl;
      order = refl;
      refusals = refl;
      attached = refl;
      live = refl;
      session = refl;
      number = refl;
      tree = refl;
      sequence = refl;
      channels = refl;
      ready = λ j. refl;
      slotted = λ s. s;
      users = λ s. s;
    }

pub answer_rest : (c : Client) (g : ℕ) → KeepsRest c (answered c g)
answer_rest c g =
    record {
      taken = refl;
      op = refl;
      outcome = refl;
      order = refl;
      refusals = refl;
      attached = refl;
      live = refl;
      session = refl;
      number = refl;
      tree = refl;
      sequence = refl;
      channels = refl;
      ready = λ j. refl;
      slotted = λ s. s;
      users = λ s. s;
    }

out_rest : (c d : Client) (k g : ℕ) → KeepsRest c d → KeepsRest c (outstanding d k g)
out_rest c d k g r =
    record {
      taken = r.taken;
      op = r.op;
      outcome = r.outcome;
      order = r.order;
      refusals = r.refusals;
      attached = r.attached;
      live = r.live;
      session = r.session;
      number = r.number;
      tree = r.tree;
      sequence = r.sequence;
      channels = r.channels;
      ready = r.ready;
      slotted = r.slotted;
      users = r.users;
    }

again_rest : (b : Bool) (c : Client) (g : ℕ) → KeepsRest c (if b then record c {
  retried = put2 c.retried (create_for c g) (c.slot_of g) c.session_number;
} else c)
again_rest true c g =
    record {
      taken = refl;
      op = refl;
      outcome = refl;
      order = refl;
      refusals = refl;
      attached = refl;
      live = refl;
      session = refl;
      number = refl;
      tree = refl;
      sequence = refl;
      channels = refl;
      ready = λ j. refl;
      slotted = λ s. s;
      users = λ s. s;
    }
again_rest false c g =
    record {
      taken = refl;
      op = refl;
      outcome = refl;
      order = refl;
      refusals = refl;
      attached = refl;
      live = refl;
      session = refl;
      number = refl;
      tree = refl;
      sequence = refl;
      channels = refl;
      ready = λ j. refl;
      slotted = λ s. s;
      users = λ s. s;
    }

-- a lock takes a slot, which has a number from 1 on
begin_rest : (b : Bool) (c : Client) (g i : ℕ) → is_lock (c.op g) ≡ b → (b ≡ true → 0 < i) → c.sent g ≡ false
    → KeepsRest c (if b then record (take_slot c g i) { sent = put c.sent g true } else record c { sent = put c.sent g true })
begin_rest true c g i e p unsent =
    record {
      taken = refl;
      op = refl;
      outcome = refl;
      order = refl;
      refusals = refl;
      attached = refl;
      live = refl;
      session = refl;
      number = refl;
      tree = refl;
      sequence = refl;
      channels = refl;
      ready = λ j. refl;
      slotted = slotted_taken c g i (p refl);
      users = users_taken c g i e unsent;
    }
begin_rest false c g i e p unsent =
    record {
      taken = refl;
      op = refl;
      outcome = refl;
      order = refl;
      refusals = refl;
      attached = refl;
      live = refl;
      session = refl;
      number = refl;
      tree = refl;
      sequence = refl;
      channels = refl;
      ready = λ j. refl;
      slotted = slotted_sent c g e;
      users = users_sent c g;
    }

begun_by : (b : Bool) (c : Client) (g i : ℕ) → c.sent g ≡ b → (b ≡ false → is_lock (c.op g) ≡ true → 0 < i)
    → KeepsRest c (if b then again c g else begin c g i)
begun_by true c g i e p = again_rest (is_lock (c.op g)) c g
begun_by false c g i e p = begin_rest (is_lock (c.op g)) c g i refl (p refl) e

pub begun_rest : (c : Client) (k g i : ℕ) → (c.sent g ≡ false → is_lock (c.op g) ≡ true → 0 < i)
    → KeepsRest c (outstanding (begun c g i) k g)
begun_rest c k g i p = out_rest c (begun c g i) k g (begun_by (c.sent g) c g i refl p)

-- one that is no lock, or goes out again, takes none
pub no_slot_is_taken : (lock : Bool) (i : ℕ) → lock ≡ false → lock ≡ true → 0 < i
no_slot_is_taken lock i e f = absurd (cc)
