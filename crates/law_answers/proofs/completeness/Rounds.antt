-- Each round settles an operation, or attaches its open, so that the next round settles it.
use Rattle.std.proofs.lemmas.Bool.{eqb-false}
use Rattle.std.proofs.Common.{eqb-true, ◌≡◌, ℕ, ◌+◌, ◌*◌, ◌≤◌, ◌<◌, ◌==◌, Bool, true, false, if◌then◌else◌, ◌⊎◌, inl}
use Rattle.std.proofs.Common.{inr, refl, arith, sym, subst, ◌∙◌, ap, zero, suc}
use Rattle.spec_exchange.specs.Operations.{is_unsettled}
use Rattle.spec_exchange.specs.Client.{Client, goes_itself}
use Rattle.spec_exchange.specs.ClientStep.{some_unsettled, last_number}
use Rattle.spec_exchange.specs.Schedules.{Course, linked, ready_round, pushed_round, rounds, each, tidy, least}
use Rattle.spec_exchange.specs.Network.{World}
use Rattle.law_answers.proofs.completeness.Facts.{Facts, Always, AllPresent, count_on}
use Rattle.law_answers.proofs.completeness.Equations.{by_test, linked_off, ready_on, ready_off, rounds_on, rounds_off}
use Rattle.law_answers.proofs.completeness.Equations.{unsettled_on, unsettled_off}
use Rattle.law_answers.proofs.completeness.Later.{Later, now, joined_on, rounds_later, one_round}
use Rattle.law_answers.proofs.completeness.Round.{Least, RoundEnd, Ended, IsSettled, IsNear, round_on}
use Rattle.law_answers.proofs.completeness.Clean.{Clean, clean_else, at_or_else}
use Rattle.law_answers.proofs.completeness.Tidy.{count_above, Rested, tidied, idle_of, calm_of, least_ready}
use Rattle.law_answers.proofs.completeness.NewSession.{Sought, Found, HasReady, GaveUp, CountedOut, seeks}

absent : (b : Bool) (P : Type 0) → b ≡ true → b ≡ false → P
absent b P e f = absurd (cc)

-- ---- the least unsettled operation

abbrev pub SettledTo : Client → ℕ → Type 0
SettledTo c n = (h : ℕ) → 0 < h → h ≤ n → is_unsettled (c.outcome h) ≡ false

settled_more : (c : Client) (n : ℕ) → SettledTo c n → is_unsettled (c.outcome (n + 1)) ≡ false → SettledTo c (suc n)
settled_more c n s e h low high =
    elim (h == n + 1) as (λ b. h == n + 1 ≡ b → is_unsettled (c.outcome h) ≡ false) [
      | true ↦ λ q. ap (λ x. is_unsettled (c.outcome x)) (eqb-true h (n + 1) q) ∙ e
      | false ↦ λ q. let d = eqb-false h (n + 1) q in s h low (omega (arith, d, high))
    ] refl

pub record LeastTo (c : Client) (n : ℕ) : Type 0 where
  pub op : ℕ
  pub low : 0 < op
  pub high : op ≤ n
  pub pending : is_unsettled (c.outcome op) ≡ true
  pub lower : (h : ℕ) → 0 < h → h < op → is_unsettled (c.outcome h) ≡ false

pub seek : (c : Client) (n : ℕ) → SettledTo c n ⊎ LeastTo c n
seek c zero = inl (λ h a b. absurd (omega (arith, a, b)))
seek c (suc n) = by (seek c n)
  where
    here : SettledTo c n → (b : Bool) → is_unsettled (c.outcome (n + 1)) ≡ b → SettledTo c (suc n) ⊎ LeastTo c (suc n)
    here s true e = inr (record {
      op = n + 1;
      low = omega arith;
      high = omega arith;
      pending = e;
      lower = λ h a b. s h a (omega (arith, b));
    })
    here s false e = inl (settled_more c n s e)

    by : SettledTo c n ⊎ LeastTo c n → SettledTo c (suc n) ⊎ LeastTo c (suc n)
    by (inl s) = here s (is_unsettled (c.outcome (n + 1))) refl
    by (inr l) = inr (record { op = l.op; low = l.low; high = omega (arith, l.high); pending = l.pending; lower = l.lower })

pub none_unsettled : (c : Client) (n : ℕ) → some_unsettled c n ≡ false → SettledTo c n
unfolding some_unsettled
none_unsettled c zero e = λ h low high. absurd (omega (arith, low, high))
none_unsettled c (suc n) e =
    let more = λ (i : some_unsettled c n ≡ false). none_unsettled c n i in
    elim (is_unsettled (c.outcome (n + 1))) as (λ b. is_unsettled (c.outcome (n + 1)) ≡ b → SettledTo c (suc n)) [
      | true ↦ λ q. absent (some_unsettled c (suc n)) _ (unsettled_on c n q) e
      | false ↦ λ q. settled_more c n (more (sym (unsettled_off c n q) ∙ e)) q
    ] refl

pub all_settled : (c : Client) (n : ℕ) → SettledTo c n → some_unsettled c n ≡ false
unfolding some_unsettled
all_settled c zero s = refl
all_settled c (suc n) s = let i = all_settled c n (λ h a b. s h a (omega (arith, b))) in
    unsettled_off c n (s (n + 1) (omega arith) (omega arith)) ∙ i

-- ---- how many are unsettled

abbrev pub left : Client → ℕ → ℕ
left c n = count_on (λ i. is_unsettled (c.outcome (i + 1))) n

no_more : (f g : ℕ → Bool) (n : ℕ) → ((i : ℕ) → f i ≡ false → g i ≡ false) → count_on g n ≤ count_on f n
unfolding count_on
no_more f g zero h = omega arith
no_more f g (suc n) h = let i = no_more f g n h in sum (f n) (g n) (count_on f n) (count_on g n) (h n) i
  where
    sum : (a b : Bool) (x y : ℕ) → (a ≡ false → b ≡ false) → y ≤ x → (if b then 1 else 0) + y ≤ (if a then 1 else 0) + x
    sum true true x y h l = omega (arith, l)
    sum true false x y h l = omega (arith, l)
    sum false b x y h l = let e = h refl in grind arith

fewer : (f g : ℕ → Bool) (n j : ℕ) → ((i : ℕ) → f i ≡ false → g i ≡ false) → j < n → f j ≡ true → g j ≡ false → count_on g n < count_on f n
unfolding count_on
fewer f g zero j h l e s = absurd (omega (arith, l))
fewer f g (suc n) j h l e s =
    let again = λ (m : j < n). fewer f g n j h m e s in let rest = no_more f g n h in
    elim (j == n) as (λ b. j == n ≡ b → count_on g (suc n) < count_on f (suc n)) [
      | true ↦ λ q. let is = eqb-true j n q in here (f n) (g n) (count_on f n) (count_on g n) (ap f (sym is) ∙ e) (ap g (sym is) ∙ s) rest
      | false ↦ λ q. let d = eqb-false j n q in there (f n) (g n) (count_on f n) (count_on g n) (h n) (again (omega (arith, d, l)))
    ] refl
  where
    here : (a b : Bool) (x y : ℕ) → a ≡ true → b ≡ false → y ≤ x → (if b then 1 else 0) + y < (if a then 1 else 0) + x
    here a b x y e s l = grind arith

    there : (a b : Bool) (x y : ℕ) → (a ≡ false → b ≡ false) → y < x → (if b then 1 else 0) + y < (if a then 1 else 0) + x
    there true true x y h l = omega (arith, l)
    there true false x y h l = omega (arith, l)
    there false b x y h l = let e = h refl in grind arith

predecessor : (g : ℕ) → 0 < g → (j : ℕ) × g ≡ j + 1
predecessor zero l = absurd (omega (arith, l))
predecessor (suc j) l = (j, omega arith)

left_less : (K : World → Type 0) (c d : Course) (g : ℕ) → Later K c d → 0 < g → g ≤ c.world.client.taken
    → is_unsettled (c.world.client.outcome g) ≡ true → is_unsettled (d.world.client.outcome g) ≡ false
    → left d.world.client d.world.client.taken < left c.world.client c.world.client.taken
left_less K c d g l low high pending shut =
    let p = predecessor g low in
    subst (λ n. left d.world.client n < left c.world.client c.world.client.taken) (sym l.taken)
    (fewer (λ i. is_unsettled (c.world.client.outcome (i + 1))) (λ i. is_unsettled (d.world.client.outcome (i + 1)))
    c.world.client.taken p.0 (λ i s. l.stays (i + 1) s) (omega (arith, p.1, high))
    (ap (λ x. is_unsettled (c.world.client.outcome x)) (sym p.1) ∙ pending)
    (ap (λ x. is_unsettled (d.world.client.outcome x)) (sym p.1) ∙ shut))

left_no_more : (K : World → Type 0) (c d : Course) → Later K c d → left d.world.client d.world.client.taken ≤ left
    c.world.client c.world.client.taken
left_no_more K c d l =
    subst (λ n. left d.world.client n ≤ left c.world.client c.world.client.taken) (sym l.taken)
    (no_more (λ i. is_unsettled (c.world.client.outcome (i + 1)))
    (λ i. is_unsettled (d.world.client.outcome (i + 1))) c.world.client.taken (λ i s. l.stays (i + 1) s))

-- ---- one round

-- the operation is settled, or goes itself in the next round, or the client has no number for a session
pub data After (d : World) (g : ℕ) : Type 0 where
  NowSettled : is_unsettled (d.client.outcome g) ≡ false → After d g
  NowNear : goes_itself d.client g ≡ true → d.client.live ≡ true → After d g
  NoNumber : last_number ≤ d.client.session_number → After d g

pub record OneRound (K : World → Type 0) (c d : Course) (g : ℕ) : Type 0 where
  pub later : Later K c d
  pub rested : Rested d.world
  pub after : After d.world g
  pub own : goes_itself c.world.client g ≡ true → c.world.client.live ≡ true → is_unsettled (d.world.client.outcome g) ≡ false

after_ended : (d e : World) (g : ℕ) → e.client ≡ d.client → Ended d g → After e g
after_ended d e g s (IsSettled x) = NowSettled (subst (λ (c : Client). is_unsettled (c.outcome g) ≡ false) (sym s) x)
after_ended d e g s (IsNear a b) = NowNear (subst (λ (c : Client). goes_itself c g ≡ true) (sym s) a) (ap (λ (c : Client). c.live) s ∙ b)

least_there : (K : World → Type 0) (c d : Course) (g : ℕ) → Later K c d → Least c.world.client g → Least d.world.client g
least_there K c d g l m = record { low = m.low; high = subst (λ n. g ≤ n) (sym l.taken) m.high; lower = λ h a b. l.stays h (m.lower h a b) }

-- the round from where its channels are found
from_ready : (K : World → Type 0) → Always K → AllPresent K → (c d : Course) (g : ℕ) → Later K c d
    → ((q : ℕ) → Clean d.world.conns q) → (d.world.client.channels == 0) ≡ false → Least c.world.client g
    → (goes_itself c.world.client g ≡ true → c.world.client.live ≡ true → goes_itself d.world.client g ≡ true)
    → OneRound K c (each tidy 0 256 (ready_round 256 d)) g
from_ready K A R c d g l clean some m near =
    let k = least d.world.client.ready 0 256 in let F = A.facts d.world l.known in let on = least_ready d.world F some in
    subst (λ e. OneRound K c (each tidy 0 256 e) g) (sym (ready_off 256 d some)) (ends k (here k on (least_there K c d g l m)))
  where
    here : (k : ℕ) → d.world.client.ready k ≡ true → Least d.world.client g → RoundEnd K d (pushed_round d k) k g
    here k on n = let F = A.facts d.world l.known in round_on K A R d k g l.known (idle_of d.world k F clean on)
        (calm_of d.world k F clean on) n

    ends : (k : ℕ) → RoundEnd K d (pushed_round d k) k g → OneRound K c (each tidy 0 256 (pushed_round d k)) g
    ends k r =
        let e = pushed_round d k in
        let t = tidied K A e r.later.known (λ q. at_or_else (λ x. Clean e.world.conns x) k q r.here
        (λ n. clean_else d.world.conns e.world.conns k q r.elsewhere n (clean q))) in
        record {
          later = joined_on K c d (each tidy 0 256 e) l (joined_on K d e (each tidy 0 256 e) r.later t.later);
          rested = t.rested;
          after = after_ended e.world (each tidy 0 256 e).world g t.client r.end;
          own = λ a b. t.later.stays g (r.own (near a b));
        }

bare_round : (K : World → Type 0) → Always K → (c d : Course) (g : ℕ) → Later K c d → ((q : ℕ) → Clean d.world.conns q)
    → (d.world.client.channels == 0) ≡ true → After d.world g
    → (goes_itself c.world.client g ≡ true → c.world.client.live ≡ true → is_unsettled (d.world.client.outcome g)
    ≡ false)
    → OneRound K c (each tidy 0 256 (ready_round 256 d)) g
bare_round K A c d g l clean none a own =
    let t = tidied K A d l.known clean in let e = each tidy 0 256 d in
    subst (λ u. OneRound K c (each tidy 0 256 u) g) (sym (ready_on 256 d none))
    (record { later = joined_on K c d e l t.later; rested = t.rested; after = same a t.client; own = λ x y. t.later.stays g (own x y) })
  where
    same : After d.world g → (each tidy 0 256 d).world.client ≡ d.world.client → After (each tidy 0 256 d).world g
    same (NowSettled x) s = NowSettled (subst (λ (c : Client). is_unsettled (c.outcome g) ≡ false) (sym s) x)
    same (NowNear a b) s = NowNear (subst (λ (c : Client). goes_itself c g ≡ true) (sym s) a) (ap (λ (c : Client). c.live) s ∙ b)
    same (NoNumber n) s = NoNumber (subst (λ (c : Client). last_number ≤ c.session_number) (sym s) n)

-- a live session has a ready channel
not_live : (w : World) → Facts w → (w.client.channels == 0) ≡ true → w.client.live ≡ true → (P : Type 0) → P
not_live w F none live P = let l = F.live_channels live in let z = eqb-true w.client.channels 0 none in absurd (omega (arith, l, z))

pub one_round_on : (K : World → Type 0) → Always K → AllPresent K → (c : Course) (g : ℕ) → K c.world → Rested c.world
    → Least c.world.client g → OneRound K c (one_round 256 c) g
one_round_on K A R c g h rest m =
    elim (c.world.client.channels == 0) as (λ b. c.world.client.channels == 0 ≡ b → OneRound K c (one_round 256 c) g) [
      | true ↦ λ none. sought none (seeks K A R c h rest none)
      | false ↦ λ some. subst (λ d. OneRound K c (each tidy 0 256 (ready_round 256 d)) g) (sym (linked_off 256 c some))
          (from_ready K A R c c g (now K c h) rest.clean some m (λ own live. own))
    ] refl
  where
    sought : (c.world.client.channels == 0) ≡ true → Sought K c (linked 256 c) → OneRound K c (one_round 256 c) g
    sought none s = by s.found
      where
        by : Found (linked 256 c) c.world → OneRound K c (one_round 256 c) g
        by (HasReady some) = from_ready K A R c (linked 256 c) g s.later s.clean some m
            (λ own live. not_live c.world (A.facts c.world h) none live _)
        by (GaveUp bare all) = let e = all g m.low m.high in bare_round K A c (linked 256 c) g s.later s.clean bare
            (NowSettled e) (λ own live. e)
        by (CountedOut bare n) = bare_round K A c (linked 256 c) g s.later s.clean bare (NoNumber n)
            (λ own live. not_live c.world (A.facts c.world h) none live _)

-- ---- the rounds

-- all is settled, or the client has no number for a session
abbrev pub Done : World → Type 0
Done w = SettledTo w.client w.client.taken ⊎ (last_number ≤ w.client.session_number)

-- whether the next operation goes itself
pub data Start (w : World) : Bool → Type 0 where
  Far : Start w false
  Near : (g : ℕ) → Least w.client g → is_unsettled (w.client.outcome g) ≡ true → goes_itself w.client g ≡ true
      → w.client.live ≡ true → Start w true

abbrev pub rounds_due : Client → Bool → ℕ
rounds_due c near = 2 * left c c.taken + (if near then 0 else 1)

none_left : (c : Client) (n : ℕ) → left c n ≤ 0 → SettledTo c n
none_left c n l = by (seek c n)
  where
    by : SettledTo c n ⊎ LeastTo c n → SettledTo c n
    by (inl s) = s
    by (inr m) =
        let p = predecessor m.op m.low in let h = m.high in
        let k = count_above (λ i. is_unsettled (c.outcome (i + 1))) n p.0 (omega (arith, p.1, h))
        (ap (λ x. is_unsettled (c.outcome x)) (sym p.1) ∙ m.pending) in absurd (omega (arith, k, l))

pub record First (c : Client) : Type 0 where
  pub op : ℕ
  pub least : Least c op
  pub pending : is_unsettled (c.outcome op) ≡ true

-- one round, and then the others
further : (K : World → Type 0) → Always K → AllPresent K → (c : Course) (fuel : ℕ) (near : Bool) (g : ℕ) → K c.world
    → Rested c.world → Least c.world.client g → is_unsettled (c.world.client.outcome g) ≡ true
    → (near ≡ true → goes_itself c.world.client g ≡ true × c.world.client.live ≡ true) → rounds_due c.world.client near ≤ suc fuel
    → (K (one_round 256 c).world → Rested (one_round 256 c).world → (b : Bool) → Start (one_round 256 c).world b
    → rounds_due (one_round 256 c).world.client b ≤ fuel → Done (rounds 256 fuel (one_round 256 c)).world)
    → Done (rounds 256 fuel (one_round 256 c)).world
further K A R c fuel near g h rest m pending goes due again = by o.after
  where
    d : Course
    d = one_round 256 c

    o : OneRound K c (one_round 256 c) g
    o = one_round_on K A R c g h rest m

    few : (b : Bool) (x y : ℕ) → y < x → 2 * x + (if b then 0 else 1) ≤ suc fuel → 2 * y + 1 ≤ fuel
    few true x y l e = omega (arith, l, e)
    few false x y l e = omega (arith, l, e)

    settled : is_unsettled ((one_round 256 c).world.client.outcome g) ≡ false → Done (rounds 256 fuel (one_round 256 c)).world
    settled e =
        again o.later.known o.rested false Far
        (few near (left c.world.client c.world.client.taken)
        (left (one_round 256 c).world.client (one_round 256 c).world.client.taken)
        (left_less K c (one_round 256 c) g o.later m.low m.high pending e) due)

    nearer : (b : Bool) → near ≡ b → goes_itself (one_round 256 c).world.client g ≡ true
        → (one_round 256 c).world.client.live ≡ true → (e : Bool)
        → is_unsettled ((one_round 256 c).world.client.outcome g) ≡ e → Done (rounds 256 fuel (one_round 256 c)).world
    nearer b q itself live false e = settled e
    nearer true q itself live true e = let p = goes q in settled (o.own p.0 p.1)
    nearer false q itself live true e =
        again o.later.known o.rested true (Near g (least_there K c (one_round 256 c) g o.later m) e itself live)
        (twice near (left c.world.client c.world.client.taken)
        (left (one_round 256 c).world.client (one_round 256 c).world.client.taken) q
        (left_no_more K c (one_round 256 c) o.later) due)
      where
        twice : (b : Bool) (x y : ℕ) → b ≡ false → y ≤ x → 2 * x + (if b then 0 else 1) ≤ suc fuel → 2 * y + 0 ≤ fuel
        twice true x y f l e = absurd (cc)
        twice false x y f l e = omega (arith, l, e)

    by : After (one_round 256 c).world g → Done (rounds 256 fuel (one_round 256 c)).world
    by (NowSettled e) = settled e
    by (NowNear a b) = nearer near refl a b (is_unsettled ((one_round 256 c).world.client.outcome g)) refl
    by (NoNumber n) = let r = rounds_later K A 256 fuel (one_round 256 c) o.later.known in inr (omega (arith, n, r.number))

pub rounds_end : (K : World → Type 0) → Always K → AllPresent K → (fuel : ℕ) (c : Course) (near : Bool) → K c.world
    → Rested c.world → Start c.world near → rounds_due c.world.client near ≤ fuel → Done (rounds 256 fuel c).world
unfolding rounds
rounds_end K A R zero c near h rest s due =
    inl (none_left c.world.client c.world.client.taken (small near (left c.world.client c.world.client.taken) due))
  where
    small : (b : Bool) (x : ℕ) → 2 * x + (if b then 0 else 1) ≤ 0 → x ≤ 0
    small true x l = omega (arith, l)
    small false x l = omega (arith, l)
rounds_end K A R (suc fuel) c near h rest s due =
    let again = λ (k : K (one_round 256 c).world) (r : Rested (one_round 256 c).world) (b : Bool)
    (t : Start (one_round 256 c).world b) (e : rounds_due (one_round 256 c).world.client b ≤ fuel).
    rounds_end K A R fuel (one_round 256 c) b k r t e in
    by_test (λ (d : Course). Done d.world) (some_unsettled c.world.client c.world.client.taken)
    (rounds 256 (suc fuel) c) (rounds 256 fuel (one_round 256 c)) c (rounds_on 256 fuel c) (rounds_off 256 fuel c)
    (λ some. by near s due some again)
    (λ none. inl (none_unsettled c.world.client c.world.client.taken none))
  where
    Again : Type 0
    Again = K (one_round 256 c).world → Rested (one_round 256 c).world → (b : Bool) → Start (one_round 256 c).world b
        → rounds_due (one_round 256 c).world.client b ≤ fuel → Done (rounds 256 fuel (one_round 256 c)).world

    found : rounds_due c.world.client false ≤ suc fuel → some_unsettled c.world.client c.world.client.taken ≡ true
        → Again → SettledTo c.world.client c.world.client.taken ⊎ LeastTo c.world.client c.world.client.taken
        → Done (rounds 256 fuel (one_round 256 c)).world
    found due some again (inl s) = absent (some_unsettled c.world.client c.world.client.taken) _ some
        (all_settled c.world.client c.world.client.taken s)
    found due some again (inr m) = further K A R c fuel false m.op h rest (record {
      low = m.low;
      high = m.high;
      lower = m.lower;
    }) m.pending (λ e. absurd (cc)) due again

    by : (b : Bool) → Start c.world b → rounds_due c.world.client b ≤ suc fuel → some_unsettled c.world.client
        c.world.client.taken ≡ true → Again → Done (rounds 256 fuel (one_round 256 c)).world
    by true (Near g m pending itself live) due some again = further K A R c fuel true g h rest m pending (λ _. (itself, live)) due again
    by false s due some again = found due some again (seek c.world.client c.world.client.taken)
