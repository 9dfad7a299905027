-- How many operations are unsettled: only a Submit makes one more.
use Rattle.std.proofs.Common.{◌≡◌, ℕ, ◌+◌, ◌≤◌, ◌<◌, ◌==◌, eqb-true, Bool, true, false, if◌then◌else◌, ◌⊎◌, inl, inr, refl, sym}
use Rattle.std.proofs.Common.{subst, arith, zero, suc}
use Rattle.spec_exchange.specs.Operations.{Op, is_unsettled}
use Rattle.spec_exchange.specs.Client.{Client, may_take, take_op}
use Rattle.spec_exchange.specs.Network.{World, Event, Submit, Open, Push, Serve, Take, Cut, Drop, Restart, Crash, Wait, Finish, happens}
use Rattle.spec_exchange.specs.Schedules.{Course}
use Rattle.law_server.proofs.tables.Logic.{either, front_of}
use Rattle.law_answers.proofs.completeness.Facts.{Always, count_on, is_submit}
use Rattle.law_answers.proofs.completeness.Later.{Later}
use Rattle.law_answers.proofs.completeness.Rounds.{SettledTo, left}
use Rattle.law_replies.specs.courses.Courses.{submits_of}

no_more : (f g : ℕ → Bool) (n : ℕ) → ((i : ℕ) → f i ≡ false → g i ≡ false) → count_on g n ≤ count_on f n
unfolding count_on
no_more f g zero h = omega arith
no_more f g (suc n) h = sum (f n) (g n) (count_on f n) (count_on g n) (h n) (no_more f g n h)
  where
    sum : (a b : Bool) (x y : ℕ) → (a ≡ false → b ≡ false) → y ≤ x → (if b then 1 else 0) + y ≤ (if a then 1 else 0) + x
    sum true true x y h l = omega (arith, l)
    sum true false x y h l = omega (arith, l)
    sum false b x y h l = let e = h refl in grind arith

at_most : (f : ℕ → Bool) (n : ℕ) → count_on f n ≤ n
unfolding count_on
at_most f zero = omega arith
at_most f (suc n) = sum (f n) (count_on f n) (at_most f n)
  where
    sum : (b : Bool) (m : ℕ) → m ≤ n → (if b then 1 else 0) + m ≤ suc n
    sum true m l = omega (arith, l)
    sum false m l = omega (arith, l)

pub left_low : (c : Client) → left c c.taken ≤ c.taken
left_low c = at_most (λ i. is_unsettled (c.outcome (i + 1))) c.taken

one_more : (f : ℕ → Bool) (n : ℕ) → count_on f (suc n) ≤ count_on f n + 1
unfolding count_on
one_more f n = sum (f n) (count_on f n)
  where
    sum : (b : Bool) (m : ℕ) → (if b then 1 else 0) + m ≤ m + 1
    sum true m = omega arith
    sum false m = omega arith

none : (f : ℕ → Bool) (n : ℕ) → ((i : ℕ) → i < n → f i ≡ false) → count_on f n ≤ 0
unfolding count_on
none f zero h = omega arith
none f (suc n) h = sum (f n) (count_on f n) (h n (omega arith)) (none f n (λ i l. h i (omega (arith, l))))
  where
    sum : (b : Bool) (m : ℕ) → b ≡ false → m ≤ 0 → (if b then 1 else 0) + m ≤ 0
    sum true m e l = absurd (let q : true ≡ false = e in cc)
    sum false m e l = omega (arith, l)

above_none : (i : ℕ) → 0 < i + 1
above_none i = omega arith

next_within : (i n : ℕ) → i < n → i + 1 ≤ n
next_within i n l = omega (arith, l)

pub none_left : (c : Client) → SettledTo c c.taken → left c c.taken ≤ 0
none_left c s =
    none (λ i. is_unsettled (c.outcome (i + 1))) c.taken (λ i l. s (i + 1) (above_none i) (next_within i c.taken l))

pub left_later : (K : World → Type 0) (c d : Course) → Later K c d → left d.world.client d.world.client.taken ≤ left
    c.world.client c.world.client.taken
left_later K c d l =
    subst (λ n. left d.world.client n ≤ left c.world.client c.world.client.taken) (sym l.taken)
    (no_more (λ i. is_unsettled (c.world.client.outcome (i + 1))) (λ i. is_unsettled (d.world.client.outcome (i + 1))) c.world.client.taken
    (λ i s. l.stays (i + 1) s))

-- ---- one event

up_to : (a b : ℕ) → a ≤ b → a ≤ b + 0
up_to a b l = omega (arith, l)

and_one : (a b c : ℕ) → a ≤ b + 1 → b ≤ c → a ≤ c + 1
and_one a b c l h = omega (arith, l, h)

or_one : (a c : ℕ) → a ≤ c → a ≤ c + 1
or_one a c l = omega (arith, l)

same_taken : (K : World → Type 0) → Always K → (w : World) (e : Event) → K w → is_submit e ≡ false
    → left (happens w e).client (happens w e).client.taken ≤ left w.client w.client.taken + 0
same_taken K A w e h n =
    up_to (left (happens w e).client (happens w e).client.taken) (left w.client w.client.taken)
    (subst (λ t. left (happens w e).client t ≤ left w.client w.client.taken) (sym (A.taken w e n))
    (no_more (λ i. is_unsettled (w.client.outcome (i + 1))) (λ i. is_unsettled ((happens w e).client.outcome (i + 1))) w.client.taken
    (λ i s. A.stays w e (i + 1) h s)))

submitted : (w : World) (g : ℕ) (op : Op) → ((happens w (Submit g op)).client.taken ≡ w.client.taken)
    ⊎ ((happens w (Submit g op)).client.taken ≡ w.client.taken + 1)
submitted w g op =
    either (λ (c : Client). (c.taken ≡ w.client.taken) ⊎ (c.taken ≡ w.client.taken + 1)) (may_take w.client g op) (take_op w.client g op)
    w.client (λ m. inr (eqb-true g (w.client.taken + 1) (front_of (g == w.client.taken + 1) _ m))) (λ _. inl refl)

next_is : (n : ℕ) → n + 1 ≡ suc n
next_is n = omega arith

one_taken : (K : World → Type 0) → Always K → (w : World) (g : ℕ) (op : Op) → K w
    → ((happens w (Submit g op)).client.taken ≡ w.client.taken) ⊎ ((happens w (Submit g op)).client.taken ≡ w.client.taken + 1)
    → left (happens w (Submit g op)).client (happens w (Submit g op)).client.taken ≤ left w.client w.client.taken + 1
one_taken K A w g op h s =
    by s
  where
    v : World
    v = happens w (Submit g op)

    fewer : left v.client w.client.taken ≤ left w.client w.client.taken
    fewer =
        no_more (λ i. is_unsettled (w.client.outcome (i + 1))) (λ i. is_unsettled (v.client.outcome (i + 1))) w.client.taken
        (λ i q. A.stays w (Submit g op) (i + 1) h q)

    by : (v.client.taken ≡ w.client.taken) ⊎ (v.client.taken ≡ w.client.taken + 1)
        → left v.client v.client.taken ≤ left w.client w.client.taken + 1
    by (inl e) =
        subst (λ t. left v.client t ≤ left w.client w.client.taken + 1) (sym e)
        (or_one (left v.client w.client.taken) (left w.client w.client.taken) fewer)
    by (inr e) =
        subst (λ t. left v.client t ≤ left w.client w.client.taken + 1) (sym e)
        (subst (λ t. left v.client t ≤ left w.client w.client.taken + 1) (sym (next_is w.client.taken))
        (and_one (left v.client (suc w.client.taken)) (left v.client w.client.taken) (left w.client w.client.taken)
        (one_more (λ i. is_unsettled (v.client.outcome (i + 1))) w.client.taken) fewer))

pub left_on : (K : World → Type 0) → Always K → (w : World) (e : Event) → K w
    → left (happens w e).client (happens w e).client.taken ≤ left w.client w.client.taken + submits_of e
left_on K A w (Submit g op) h = one_taken K A w g op h (submitted w g op)
left_on K A w (Open k) h = same_taken K A w (Open k) h refl
left_on K A w (Push k slotless pick) h = same_taken K A w (Push k slotless pick) h refl
left_on K A w (Serve k) h = same_taken K A w (Serve k) h refl
left_on K A w (Take k) h = same_taken K A w (Take k) h refl
left_on K A w (Cut k) h = same_taken K A w (Cut k) h refl
left_on K A w (Drop k) h = same_taken K A w (Drop k) h refl
left_on K A w Restart h = same_taken K A w Restart h refl
left_on K A w (Crash k kept) h = same_taken K A w (Crash k kept) h refl
left_on K A w (Wait n) h = same_taken K A w (Wait n) h refl
left_on K A w (Finish refusal) h = same_taken K A w (Finish refusal) h refl
