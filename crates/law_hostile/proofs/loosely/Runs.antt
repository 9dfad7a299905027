-- From what holds in every world of a loose run to once and newer.
use Rattle.std.proofs.Common.{◌≡◌, ℕ, ◌+◌, ◌≤◌, Bool, true, false, ◌&&◌, if◌then◌else◌, List, [], ◌∷◌, refl, arith, subst, ◌∙◌}
use Rattle.spec_exchange.specs.Operations.{Op, Outcome, is_create, is_lock}
use Rattle.spec_exchange.specs.Network.{World, Sent, Settings, run, start, answer}
use Rattle.spec_exchange.specs.Runs.{acts, is_once, never_acted, is_send_of}
use Rattle.law_server.proofs.tables.Logic.{other_on}
use Rattle.law_server.proofs.tables.Run.{ServerFits, holds as fits_hold}
use Rattle.law_records.proofs.recovery.Worlds.{begins as records_begin}
use Rattle.law_sessions.specs.messages.Connections.{makes_open}
use Rattle.law_sessions.proofs.messages.Run.{begins as links_begin, one_more, from_zero}
use Rattle.law_sessions.proofs.sessions.Run.{SessionsHold}
use Rattle.law_sessions.proofs.sessions.Always.{holds as sessions_hold}
use Rattle.law_creates.proofs.Run.{CreatesHold}
use Rattle.law_creates.proofs.Law.{creates}
use Rattle.law_locks.specs.Locks.{locking, refused_for_good}
use Rattle.law_locks.proofs.Pushing.{LocksHold}
use Rattle.law_locks.proofs.Law.{locks}
use Rattle.law_order.specs.order.Newest.{Newest}
use Rattle.law_order.proofs.order.Newer.{newest}
use Rattle.law_order.proofs.order.Lower.{below}
use Rattle.law_hostile.specs.loosely.LooseRuns.{LooseEvent, Meets, Loses, Overtakes, Hears, loses, overtakes, loose_happens, loose_run}
use Rattle.law_hostile.specs.loosely.LooseRuns.{may_hear, heard_apart, loose_acts_now, loose_acts, LooselyOnce, LooselyNewer}
use Rattle.law_hostile.proofs.loosely.Lists.{loses_sifts, overtakes_sifts}
use Rattle.law_hostile.proofs.loosely.KindsStay.{begins as kinds_begin}
use Rattle.law_hostile.proofs.loosely.Staying.{Held, held_keeps, held_sifts}
use Rattle.law_hostile.proofs.loosely.Hearing.{held_hears}

-- ---- the first world

fits_begin : (z : Settings) → ServerFits (start z)
unfolding run
fits_begin z = fits_hold z []

sessions_begin : (z : Settings) → SessionsHold (start z)
unfolding run
sessions_begin z = sessions_hold z []

creates_begin : (z : Settings) → CreatesHold (start z) (acts [] (start z))
unfolding run
creates_begin z = creates z []

locks_begin : (z : Settings) → LocksHold (start z) (acts [] (start z))
unfolding run
locks_begin z = locks z []

newest_begins : (z : Settings) → Newest (start z)
unfolding run
newest_begins z = newest z (below z) []

no_acts : (w : World) → acts [] w ≡ (λ g. 0)
unfolding acts
no_acts w = refl

pub begins : (z : Settings) → Held z.who.share (start z) (λ g. 0)
begins z =
    record {
      core = record {
        links = links_begin z;
        fits = fits_begin z;
        sessions = sessions_begin z;
        kinds = kinds_begin z;
        recorded = records_begin z;
      };
      creates = subst (λ a. CreatesHold (start z) a) (no_acts (start z)) (creates_begin z);
      locks = subst (λ a. LocksHold (start z) a) (no_acts (start z)) (locks_begin z);
      newest = newest_begins z;
    }

-- ---- every loose run

-- the counts behind an event
abbrev pub loose_after : World → LooseEvent → (ℕ → ℕ) → ℕ → ℕ
loose_after w e a g = if loose_acts_now w e g then a g + 1 else a g

hears_keeps : (share : List ℕ) (w : World) (a : ℕ → ℕ) (x : Sent) (b : Bool) → may_hear w.client x ≡ b → Held share w a
    → Held share (if b then heard_apart w x (answer w x) else w)
    (λ g. if b && (is_send_of g x.token && (answer w x).acted) then a g + 1 else a g)
hears_keeps share w a x true e i =
    subst (λ b. Held share (heard_apart w x (answer w x))
    (λ g. if b && (is_send_of g x.token && (answer w x).acted) then a g + 1 else a g)) e (held_hears share w a x e i)
hears_keeps share w a x false e i = i

pub event_keeps : (share : List ℕ) (w : World) (a : ℕ → ℕ) (e : LooseEvent) → Held share w a
    → Held share (loose_happens w e) (loose_after w e a)
event_keeps share w a (Meets e) i = held_keeps share w a e i
event_keeps share w a (Loses k up place) i =
    held_sifts share w a k (loses (w.conns k) up place) (loses_sifts (w.conns k) up place) i
event_keeps share w a (Overtakes k up place) i =
    held_sifts share w a k (overtakes (w.conns k) up place) (overtakes_sifts (w.conns k) up place) i
event_keeps share w a (Hears x) i = hears_keeps share w a x (may_hear w.client x) refl i

counts : List LooseEvent → World → (ℕ → ℕ) → ℕ → ℕ
counts [] w a = a
counts (e ∷ es) w a = counts es (loose_happens w e) (loose_after w e a)

always : (share : List ℕ) (es : List LooseEvent) (w : World) (a : ℕ → ℕ) → Held share w a
    → Held share (loose_run es w) (counts es w a)
unfolding loose_run counts
always share [] w a i = i
always share (e ∷ es) w a i = always share es (loose_happens w e) (loose_after w e a) (event_keeps share w a e i)

counts_acts : (es : List LooseEvent) (w : World) (a : ℕ → ℕ) (g : ℕ) → counts es w a g ≡ a g + loose_acts es w g
unfolding counts loose_acts
counts_acts [] w a g = omega arith
counts_acts (e ∷ es) w a g =
    counts_acts es (loose_happens w e) (loose_after w e a) g
    ∙ one_more (loose_acts_now w e g) (a g) (loose_acts es (loose_happens w e) g)

same_counts : (es : List LooseEvent) (w : World) → counts es w (λ g. 0) ≡ loose_acts es w
same_counts es w = λ t g. from_zero (loose_acts es w g) (counts es w (λ x. 0) g) (counts_acts es w (λ x. 0) g) t

pub held : (z : Settings) (es : List LooseEvent) → Held z.who.share (loose_run es (start z)) (loose_acts es (start z))
held z es =
    subst (λ a. Held z.who.share (loose_run es (start z)) a) (same_counts es (start z))
    (always z.who.share es (start z) (λ g. 0) (begins z))

-- ---- once and newer

of_create : (op : Op) → is_create op ≡ true → makes_open op ≡ true
unfolding makes_open
of_create op e = e

of_lock : (op : Op) → is_lock op ≡ true → locking op ≡ true
unfolding locking
of_lock op e = e

of_refused : (o : Outcome) → never_acted o ≡ true → refused_for_good o ≡ true
unfolding refused_for_good
of_refused o e = e

-- a create, or a lock or unlock
by_kind : (op : Op) (P : Type 0) → is_once op ≡ true → (is_create op ≡ true → P) → (is_lock op ≡ true → P) → P
by_kind op P e f g = elim (is_create op) as (λ b. is_create op ≡ b → P) [
  | true ↦ λ h. f h
  | false ↦ λ h. g (other_on (is_create op) (is_lock op) e h)
] refl

one_of : (n : ℕ) → n ≤ 1 → 1 ≤ n → n ≡ 1
one_of n l m = omega (arith, l, m)

pub loosely_once : LooselyOnce
loosely_once z es =
    let w : World = loose_run es (start z) in
    let h = held z es in
    record {
      at_most = λ g e. by_kind (w.client.op g) _ e (λ c. h.creates.at_most g (of_create (w.client.op g) c))
          (λ l. h.locks.at_most g (of_lock (w.client.op g) l));
      acknowledged = λ g e ok. by_kind (w.client.op g) _ e
          (λ c. one_of (loose_acts es (start z) g) (h.creates.at_most g (of_create (w.client.op g) c))
          (h.creates.ok_acted g (of_create (w.client.op g) c) ok))
          (λ l. h.locks.ok_acted g (of_lock (w.client.op g) l) ok);
      never = λ g e n. by_kind (w.client.op g) _ e (λ c. h.creates.refused_not g (of_create (w.client.op g) c) n)
          (λ l. h.locks.refused_not g (of_lock (w.client.op g) l) (of_refused (w.client.outcome g) n));
    }

pub loosely_newer : LooselyNewer
loosely_newer z es = (held z es).newest.ordered
