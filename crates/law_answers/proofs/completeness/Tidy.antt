-- Dropping the server's ends whose client's ends are closed, and what is known of a world in which that was done.
use Rattle.std.proofs.lemmas.Bool.{eqb-false}
use Rattle.std.proofs.lemmas.Bool.Decides.{nat_tests}
use Rattle.std.proofs.Common.{eqb-true, ◌≡◌, ◌≢◌, ℕ, ◌+◌, ◌≤◌, ◌<◌, ◌==◌, nat_lt, Bool, true, false, not, ◌&&◌}
use Rattle.std.proofs.Common.{if◌then◌else◌, [], refl, arith, sym, subst, ◌∙◌, ap, Option, Some, None, zero, suc}
use Rattle.spec_exchange.specs.Operations.{Op, is_create, create_of}
use Rattle.spec_exchange.specs.Client.{Client, create_for}
use Rattle.spec_exchange.specs.Schedules.{Course, went, went_if, is_orphan, drop_orphan, tidy, each, least}
use Rattle.spec_exchange.specs.Network.{World, Cut, Drop, Conn, happens, changed, later, server_off}
use Rattle.law_sessions.specs.messages.Connections.{copies, makes_open, its_create, create_at, count_up, count_down}
use Rattle.law_answers.proofs.completeness.Events.{if_on, put_at, put_off, Elsewhere, drop_elsewhere}
use Rattle.law_answers.proofs.completeness.Facts.{Facts, Always, count_on}
use Rattle.law_answers.proofs.completeness.Equations.{by_test, went_on, went_off, least_on, least_off}
use Rattle.law_answers.proofs.completeness.Later.{Later, now, joined_on, one}
use Rattle.law_answers.proofs.completeness.Choose.{Calm}
use Rattle.law_answers.proofs.completeness.Round.{Idle}
use Rattle.law_answers.proofs.completeness.Clean.{Clean, NoOrphan, clean_else, clean_shut, at_or_else, Steps, EachOf, each_of}

absent : (b : Bool) (P : Type 0) → b ≡ true → b ≡ false → P
absent b P e f = absurd (cc)

-- ---- one channel

pub record Dropped (K : World → Type 0) (c d : Course) (k : ℕ) : Type 0 where
  pub later : Later K c d
  pub client : d.world.client ≡ c.world.client
  pub clean : (q : ℕ) → Clean c.world.conns q → Clean d.world.conns q
  pub here : NoOrphan d.world.conns k
  pub others : (q : ℕ) → NoOrphan c.world.conns q → NoOrphan d.world.conns q

-- what Drop makes of the connection
pub record Off (w v : World) (k : ℕ) : Type 0 where
  pub client : v.client ≡ w.client
  pub here : v.conns k ≡ server_off (w.conns k)
  pub others : (q : ℕ) → q ≢ k → v.conns q ≡ w.conns q

drop_is : (w : World) (k : ℕ) → (w.conns k).server_open ≡ true → Off w (happens w (Drop k)) k
drop_is w k o = subst (λ v. Off w v k) (sym (if_on (w.conns k).server_open (later (changed w (Drop k)) 1) w o))
    (record {
      client = refl;
      here = put_at w.conns k (server_off (w.conns k));
      others = λ q n. put_off w.conns k (server_off (w.conns k)) q n;
    })

orphan_ends : (w : World) (k : ℕ) → is_orphan w k ≡ true → (w.conns k).server_open ≡ true × (w.conns k).client_open ≡ false
unfolding is_orphan
orphan_ends w k e = (grind arith, grind arith)

no_orphan : (w : World) (k : ℕ) → is_orphan w k ≡ false → NoOrphan w.conns k
unfolding is_orphan
no_orphan w k e shut = grind arith

other_orphan : (f g : ℕ → Conn) (k q : ℕ) → Elsewhere f g k → q ≢ k → ((f q).client_open ≡ false → (f q).server_open
    ≡ false) → (g q).client_open ≡ false → (f q).client_open ≡ false → (g q).server_open ≡ false
other_orphan f g k q e n o shut before = e.server q n ∙ o before

went_drop : (K : World → Type 0) → Always K → (c : Course) (k : ℕ) → K c.world → is_orphan c.world k ≡ true
    → Dropped K c (went c (Drop k)) k
unfolding went
went_drop K A c k h orphan =
    let p = orphan_ends c.world k orphan in let o = drop_is c.world k p.0 in let d = happens c.world (Drop k) in
    let e = drop_elsewhere c.world k in
    let shut : (d.conns k).client_open ≡ false = ap (λ (x : Conn). x.client_open) o.here ∙ p.1 in
    let gone : (d.conns k).server_open ≡ false = ap (λ (x : Conn). x.server_open) o.here in
    record {
      later = one K A c (Drop k) refl h;
      client = o.client;
      clean = λ q i. at_or_else (λ x. Clean c.world.conns x → Clean d.conns x) k q (λ _. clean_shut d.conns k shut)
          (λ n. clean_else c.world.conns d.conns k q e n) i;
      here = λ _. gone;
      others = λ q i. at_or_else (λ x. NoOrphan c.world.conns x → NoOrphan d.conns x) k q (λ _ _. gone)
          (λ n j s. kept q n (other_client o q n) j s) i;
    }
  where
    other_client : Off c.world (happens c.world (Drop k)) k → (q : ℕ) → q ≢ k
        → ((happens c.world (Drop k)).conns q).client_open ≡ (c.world.conns q).client_open
    other_client o q n = ap (λ (x : Conn). x.client_open) (o.others q n)

    kept : (q : ℕ) → q ≢ k → ((happens c.world (Drop k)).conns q).client_open ≡ (c.world.conns q).client_open
        → NoOrphan c.world.conns q → ((happens c.world (Drop k)).conns q).client_open ≡ false
        → ((happens c.world (Drop k)).conns q).server_open ≡ false
    kept q n same j s = (drop_elsewhere c.world k).server q n ∙ j (sym same ∙ s)

pub drops : (K : World → Type 0) → Always K → (c : Course) (k : ℕ) → K c.world → Dropped K c (drop_orphan c k) k
unfolding drop_orphan
drops K A c k h =
    by_test (λ d. Dropped K c d k) (is_orphan c.world k) (went_if (is_orphan c.world k) c (Drop k)) (went c (Drop k)) c
    (went_on (is_orphan c.world k) c (Drop k)) (went_off (is_orphan c.world k) c (Drop k))
    (λ o. went_drop K A c k h o) (λ o. record {
      later = now K c h;
      client = refl;
      clean = λ q i. i;
      here = no_orphan c.world k o;
      others = λ q i. i;
    })

-- where no client's end is open alone, tidying only drops
pub tidies : (K : World → Type 0) → Always K → (c : Course) (k : ℕ) → K c.world → Clean c.world.conns k → Dropped K c (tidy c k) k
unfolding tidy
tidies K A c k h clean =
    let b = (c.world.conns k).client_open && not (c.world.conns k).server_open in
    subst (λ d. Dropped K c (drop_orphan d k) k)
    (sym (went_off b c (Cut k) (never (c.world.conns k).client_open (c.world.conns k).server_open
    (λ o. (clean o).0)))) (drops K A c k h)
  where
    never : (x y : Bool) → (x ≡ true → y ≡ true) → (x && not y) ≡ false
    never true y f = ap not (f refl)
    never false y f = refl

-- ---- all channels

pub record Rested (w : World) : Type 0 where
  pub clean : (q : ℕ) → Clean w.conns q
  pub orphan : (q : ℕ) → NoOrphan w.conns q

pub record Tidied (K : World → Type 0) (c d : Course) : Type 0 where
  pub later : Later K c d
  pub client : d.world.client ≡ c.world.client
  pub rested : Rested d.world

pub high_end : (q : ℕ) (b : Bool) → (b ≡ true → q < 256) → nat_lt q 256 ≡ false → b ≡ false
high_end q true f e = absurd (high (f refl) e)
  where
    high : q < 256 → nat_lt q 256 ≡ false → ⊥
    high l e = absurd (grind (arith, nat_tests))
high_end q false f e = refl

pub record Held (K : World → Type 0) (c d : Course) : Type 0 where
  pub later : Later K c d
  pub client : d.world.client ≡ c.world.client
  pub clean : (q : ℕ) → Clean d.world.conns q

held_by : (K : World → Type 0) (c d e : Course) (k : ℕ) → Held K c d → Dropped K d e k → Held K c e
held_by K c d e k a b = record {
  later = joined_on K c d e a.later b.later;
  client = b.client ∙ a.client;
  clean = λ q. b.clean q (a.clean q);
}

rests : (K : World → Type 0) → Always K → (c d : Course) → EachOf (Held K c) (λ q e. NoOrphan e.world.conns q) c d 0 256 → Tidied K c d
rests K A c d e =
    let h = e.keeps in let F = A.facts d.world h.later.known in
    record {
      later = h.later;
      client = h.client;
      rested = record {
        clean = h.clean;
        orphan = λ q. elim (nat_lt q 256) as (λ b. nat_lt q 256 ≡ b → NoOrphan d.world.conns q) [
          | true ↦ λ l. e.makes q (omega arith) (grind (arith, nat_tests))
          | false ↦ λ l _. high_end q (d.world.conns q).server_open (F.server_low q) l
        ] refl;
      };
    }

tidy_steps : (K : World → Type 0) → Always K → (c : Course) → Steps (Held K c) (λ q e. NoOrphan e.world.conns q) tidy
tidy_steps K A c =
    record {
      keeps = λ d k h. held_by K c d (tidy d k) k h (tidies K A d k h.later.known (h.clean k));
      makes = λ d k h. (tidies K A d k h.later.known (h.clean k)).here;
      stays = λ d k q h i. (tidies K A d k h.later.known (h.clean k)).others q i;
    }

pub tidied : (K : World → Type 0) → Always K → (c : Course) → K c.world → ((q : ℕ) → Clean c.world.conns q) → Tidied K c (each tidy 0 256 c)
tidied K A c h clean = rests K A c (each tidy 0 256 c) (each_of (Held K c) (λ q e. NoOrphan e.world.conns q) tidy
    (tidy_steps K A c) 0 256 c (record { later = now K c h; client = refl; clean = clean }))

drop_steps : (K : World → Type 0) → Always K → (c : Course) → Steps (Held K c) (λ q e. NoOrphan e.world.conns q) drop_orphan
drop_steps K A c =
    record {
      keeps = λ d k h. held_by K c d (drop_orphan d k) k h (drops K A d k h.later.known);
      makes = λ d k h. (drops K A d k h.later.known).here;
      stays = λ d k q h i. (drops K A d k h.later.known).others q i;
    }

pub all_dropped : (K : World → Type 0) → Always K → (c : Course) → K c.world → ((q : ℕ) → Clean c.world.conns q)
    → Tidied K c (each drop_orphan 0 256 c)
all_dropped K A c h clean = rests K A c (each drop_orphan 0 256 c) (each_of (Held K c) (λ q e. NoOrphan e.world.conns q)
    drop_orphan (drop_steps K A c) 0 256 c (record { later = now K c h; client = refl; clean = clean }))

-- ---- what is known of a rested world

pub idle_of : (w : World) (k : ℕ) → Facts w → ((q : ℕ) → Clean w.conns q) → w.client.ready k ≡ true → Idle w k
idle_of w k F clean on = let o = (F.fit.ready k on).0 in let p = clean k o in record {
  ready = on;
  client_end = o;
  server_end = p.0;
  up = p.1;
  down = p.2;
}

none_carried : (g : ℕ) (c : Conn) → c.up ≡ [] → c.down ≡ [] → 1 ≤ copies g c → (P : Type 0) → P
none_carried g c up down l P = absurd (omega (arith, l, none g c up down))
  where
    none : (g : ℕ) (c : Conn) → c.up ≡ [] → c.down ≡ [] → copies g c ≡ 0
    none g c up down = sum (count_up g c.up) (count_down g c.down) (ap (λ xs. count_up g xs) up) (ap (λ ys. count_down g ys) down)
      where
        sum : (a b : ℕ) → a ≡ 0 → b ≡ 0 → a + b ≡ 0
        sum a b e f = omega (arith, e, f)

pub nothing_out : (w : World) → Facts w → ((q : ℕ) → Clean w.conns q) → (g : ℕ) → w.client.outstanding_on g ≡ None
nothing_out w F clean g = by (w.client.outstanding_on g) refl
  where
    by : (o : Option ℕ) → w.client.outstanding_on g ≡ o → w.client.outstanding_on g ≡ None
    by None e = e
    by (Some k) e =
        let r = F.fit.on_ready g k e in let i = idle_of w k F clean r.0 in none_carried g (w.conns k) i.up i.down
        (F.carried g k e i.client_end i.server_end) _

own_create : (op : Op) (g : ℕ) → is_create op ≡ true → create_of g op ≡ g
own_create op g e = grind arith

pub creates_known : (c : Client) (g : ℕ) → (makes_open (c.op g) ≡ false → 0 < create_at c g × create_at c g < g
    × makes_open (c.op (create_at c g)) ≡ true) → 0 < g → 0 < create_for c g
    × (is_create (c.op g) ≡ false → create_for c g < g × is_create (c.op (create_for c g)) ≡ true)
unfolding makes_open its_create
creates_known c g f low =
    elim (is_create (c.op g)) as (λ b. is_create (c.op g) ≡ b → 0 < create_for c g
    × (is_create (c.op g) ≡ false → create_for c g < g × is_create (c.op (create_for c g)) ≡ true)) [
      | true ↦ λ e. (subst (λ n. 0 < n) (sym (own_create (c.op g) g e)) low, λ n. absent (is_create (c.op g)) _ e n)
      | false ↦ λ e. let p = f e in (p.0, λ _. (p.1, p.2))
    ] refl

pub calm_of : (w : World) (k : ℕ) → Facts w → ((q : ℕ) → Clean w.conns q) → w.client.ready k ≡ true → Calm w.client k
calm_of w k F clean on =
    record {
      ready = on;
      idle = nothing_out w F clean;
      creates = λ g low high. creates_known w.client g (F.fit.creates g low high) low;
      create_ok = F.create_ok;
      limits = F.limits;
      zeroth = ap (λ op. create_of 0 op) F.beyond;
    }

-- ---- ready channels and their count

pub count_finds : (f : ℕ → Bool) (n : ℕ) → 0 < count_on f n → (j : ℕ) × j < n × f j ≡ true
unfolding count_on
count_finds f zero l = absurd (omega (arith, l))
count_finds f (suc n) l =
    let more = λ (e : 0 < count_on f n). count_finds f n e in
    elim (f n) as (λ b. f n ≡ b → (j : ℕ) × j < suc n × f j ≡ true) [
      | true ↦ λ e. (n, omega arith, e)
      | false ↦ λ e. let r = more (less (f n) (count_on f n) e l) in (r.0, omega (arith, r.1), r.2)
    ] refl
  where
    less : (b : Bool) (m : ℕ) → b ≡ false → 0 < (if b then 1 else 0) + m → 0 < m
    less b m e l = grind arith

pub count_above : (f : ℕ → Bool) (n j : ℕ) → j < n → f j ≡ true → 0 < count_on f n
unfolding count_on
count_above f zero j l e = absurd (omega (arith, l))
count_above f (suc n) j l e =
    let more = λ (h : j < n). count_above f n j h e in
    elim (j == n) as (λ b. j == n ≡ b → 0 < count_on f (suc n)) [
      | true ↦ λ q. one (f n) (count_on f n) (ap f (sym (eqb-true j n q)) ∙ e)
      | false ↦ λ q. let d = eqb-false j n q in sum (f n) (count_on f n) (more (omega (arith, d, l)))
    ] refl
  where
    one : (b : Bool) (m : ℕ) → b ≡ true → 0 < (if b then 1 else 0) + m
    one b m e = grind arith

    sum : (b : Bool) (m : ℕ) → 0 < m → 0 < (if b then 1 else 0) + m
    sum true m l = omega arith
    sum false m l = omega (arith, l)

pub least_finds : (f : ℕ → Bool) (k n j : ℕ) → k ≤ j → j < k + n → f j ≡ true → f (least f k n) ≡ true
unfolding least
least_finds f k zero j a b e = absurd (omega (arith, a, b))
least_finds f k (suc n) j a b e =
    let more = λ (h : k + 1 ≤ j). least_finds f (k + 1) n j h (omega (arith, b)) e in
    by_test (λ m. f m ≡ true) (f k) (least f k (suc n)) k (least f (k + 1) n) (least_on f k n) (least_off f k n) (λ h. h)
    (λ h. elim (j == k) as (λ x. j == k ≡ x → f (least f (k + 1) n) ≡ true) [
      | true ↦ λ q. absent (f k) _ (ap f (sym (eqb-true j k q)) ∙ e) h
      | false ↦ λ q. let d = eqb-false j k q in more (omega (arith, d, a))
    ] refl)

-- the push of a round goes to a ready channel
pub least_ready : (w : World) → Facts w → (w.client.channels == 0) ≡ false → w.client.ready (least w.client.ready 0 256) ≡ true
least_ready w F some =
    let r = count_finds w.client.ready 256 (above w.client.channels (count_on w.client.ready 256) some F.counted) in
    least_finds w.client.ready 0 256 r.0 (omega arith) (omega (arith, r.1)) r.2
  where
    above : (n m : ℕ) → (n == 0) ≡ false → n ≡ m → 0 < m
    above n m e f = let d = eqb-false n 0 e in omega (arith, d, f)

pub ready_counts : (w : World) (k : ℕ) → Facts w → w.client.ready k ≡ true → (w.client.channels == 0) ≡ false
ready_counts w k F on = let l = count_above w.client.ready 256 k (F.client_low k (F.fit.ready k on).0) on in
    not_zero w.client.channels (count_on w.client.ready 256) F.counted l
  where
    not_zero : (n m : ℕ) → n ≡ m → 0 < m → (n == 0) ≡ false
    not_zero n m e l = grind (arith, nat_tests)

pub none_ready : (w : World) → Facts w → ((q : ℕ) → (w.conns q).client_open ≡ false) → (w.client.channels == 0) ≡ true
none_ready w F shut =
    elim (w.client.channels == 0) as (λ b. w.client.channels == 0 ≡ b → (w.client.channels == 0) ≡ true) [
      | true ↦ λ e. e
      | false ↦ λ e. let k = least w.client.ready 0 256 in absent (w.conns k).client_open _ (F.fit.ready k (least_ready w F e)).0 (shut k)
    ] refl
