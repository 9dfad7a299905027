-- Two sealings of one key and one number have one turn behind them.
use Rattle.std.proofs.Common.{◌≡◌, ◌⊎◌, ℕ, zero, suc, ◌+◌, ◌≤◌, ◌<◌, Bool, true, false, List, [], ◌∷◌, ◌++◌, Some, None}
use Rattle.std.proofs.Common.{inl, inr, refl, sym, ap, subst, ◌∙◌, arith}
use Rattle.std.specs.Prelude.{◌==◌, is_some, slice_get, unwrap_or, Option as Perhaps}
use Rattle.spec_crypto.specs.declared.sessions.material.Keys.{Keys}
use Rattle.serve_turns.specs.declared.shared_book.view.Entry.{Entry}
use Rattle.serve_turns.specs.shared_book.Histories.{entries_of, entry_if}
use Rattle.client_book.specs.declared.turn.Told.{Told}
use Rattle.client_book.specs.declared.turn.Turn.{Turn}
use Rattle.client_book.specs.declared.turn.Turn.TheVariants as turns
use Rattle.client_channels.specs.channel_threads.Nonces.{SessionKeysDiffer}
use Rattle.client_channels.specs.channel_threads.Numbers.{AcceptsAt, AcceptsSession, BoundNumbersRise, GivesAt, NoneAccepted}
use Rattle.client_channels.specs.channel_turns.Sealings.{Sealing}
use Rattle.client_channels.specs.channel_turns.Turning.{Placed}
use Rattle.client_channels.proofs.channel_threads.Ordered.{Origin, less_or_same}

abbrev Log : Type 0
Log = List (Entry Turn Told)

-- ---- entries of a seat

-- one stands in the history at its place, and is the seat's
pub record Stands (seat from : ℕ) (log : Log) (p : Placed) : Type 0 where
  pub more : ℕ
  pub place : p.0 ≡ from + more
  pub stands : slice_get log more ≡ Some p.1
  pub seat_is : p.1.seat ≡ seat

nothing_at : {X : Type 0} (x : X) → None ≡ Some x → ⊥
nothing_at {X} x e = let both : false ≡ true = ap (λ (o : Perhaps X). is_some o) e in cc

pub some_of : {X : Type 0} (x y : X) → Some x ≡ Some y → x ≡ y
some_of {X} x y e = ap (λ (o : Perhaps X). unwrap_or o x) e

is_seat : (m n : ℕ) → (m == n) ≡ true → m ≡ n
is_seat m n e = grind (arith, e)

later : (seat from : ℕ) (e : Entry Turn Told) (es : Log) (p : Placed) → Stands seat (from + 1) es p → Stands seat from (e ∷ es) p
later seat from e es p h =
    let place = h.place in
    record { more = suc h.more; place = omega (arith, place); stands = h.stands; seat_is = h.seat_is }

head_stands : (seat from : ℕ) (e : Entry Turn Told) (es : Log) (p : Placed) → e.seat ≡ seat → (from, e) ≡ p → Stands seat from (e ∷ es) p
head_stands seat from e es p is same =
    subst (λ (q : Placed). Stands seat from (e ∷ es) q) same
    (record { more = 0; place = omega arith; stands = refl; seat_is = is })

stands_by : (b : Bool) (seat from : ℕ) (e : Entry Turn Told) (es : Log) (p : Placed) → (e.seat == seat) ≡ b
    → ((i : ℕ) → slice_get (entries_of seat (from + 1) es) i ≡ Some p → Stands seat (from + 1) es p) → (i : ℕ)
    → slice_get (entry_if b from e ++ entries_of seat (from + 1) es) i ≡ Some p → Stands seat from (e ∷ es) p
stands_by true seat from e es p is rest zero h = head_stands seat from e es p (is_seat e.seat seat is) (some_of (from, e) p h)
stands_by true seat from e es p is rest (suc i) h = later seat from e es p (rest i h)
stands_by false seat from e es p is rest i h = later seat from e es p (rest i h)

pub entry_stands : (seat from : ℕ) (log : Log) (j : ℕ) (p : Placed) → slice_get (entries_of seat from log) j ≡ Some p
    → Stands seat from log p
entry_stands seat from [] j p e = absurd (nothing_at p e)
entry_stands seat from (e ∷ es) j p at =
    stands_by (e.seat == seat) seat from e es p refl (λ i h. entry_stands seat (from + 1) es i p h) j at

-- a later one has a later place
rise_by : (b : Bool) (seat from : ℕ) (e : Entry Turn Told) (es : Log) (p q : Placed)
    → ((i l : ℕ) → i < l → slice_get (entries_of seat (from + 1) es) i ≡ Some p → slice_get (entries_of seat (from + 1) es) l ≡ Some q
    → p.0 < q.0)
    → (i l : ℕ) → i < l → slice_get (entry_if b from e ++ entries_of seat (from + 1) es) i ≡ Some p
    → slice_get (entry_if b from e ++ entries_of seat (from + 1) es) l ≡ Some q → p.0 < q.0
rise_by true seat from e es p q rest zero zero lt h g = absurd (omega (arith, lt))
rise_by true seat from e es p q rest (suc i) zero lt h g = absurd (omega (arith, lt))
rise_by true seat from e es p q rest zero (suc l) lt h g =
    let first : from ≡ p.0 = ap (λ (x : Placed). x.0) (some_of (from, e) p h) in
    let behind = (entry_stands seat (from + 1) es l q g).place in omega (arith, first, behind)
rise_by true seat from e es p q rest (suc i) (suc l) lt h g = rest i l (omega (arith, lt)) h g
rise_by false seat from e es p q rest i l lt h g = rest i l lt h g

pub entries_rise : (seat from : ℕ) (log : Log) (j k : ℕ) (p q : Placed) → j < k → slice_get (entries_of seat from log) j ≡ Some p
    → slice_get (entries_of seat from log) k ≡ Some q → p.0 < q.0
entries_rise seat from [] j k p q less e f = absurd (nothing_at p e)
entries_rise seat from (e ∷ es) j k p q less at also =
    rise_by (e.seat == seat) seat from e es p q (λ i l lt h g. entries_rise seat (from + 1) es i l p q lt h g) j k less at also

-- ---- the session that was accepted last in front of a place

pub record LastAccepted (log : Log) (j : ℕ) : Type 0 where
  pub place : ℕ
  pub keys : Keys
  pub before : place < j
  pub accepts : AcceptsAt log place keys
  pub none : NoneAccepted log place j

abbrev pub NoneBefore : Log → ℕ → Type 0
NoneBefore log j = (k : ℕ) (e : Entry Turn Told) → k < j → slice_get log k ≡ Some e → AcceptsSession e.event → ⊥

below_next : (k j : ℕ) → k < suc j → (k < j) ⊎ (k ≡ j)
below_next k j h = less_or_same k j (omega (arith, h))

-- a turn that accepts no session comes behind
module _ (log : Log) (j : ℕ) (none : (e : Entry Turn Told) → slice_get log j ≡ Some e → AcceptsSession e.event → ⊥) where
  none_at : (k : ℕ) (e : Entry Turn Told) → (k < j) ⊎ (k ≡ j) → (k < j → AcceptsSession e.event → ⊥) → slice_get log k ≡ Some e
      → AcceptsSession e.event → ⊥
  none_at k e (inl less) f at = f less
  none_at k e (inr same) f at = none e (subst (λ (i : ℕ). slice_get log i ≡ Some e) same at)

  last_on : LastAccepted log j ⊎ NoneBefore log j → LastAccepted log (suc j) ⊎ NoneBefore log (suc j)
  last_on (inl h) =
      let before = h.before in
      inl (record {
        place = h.place;
        keys = h.keys;
        before = omega (arith, before);
        accepts = h.accepts;
        none = λ k e low less at. none_at k e (below_next k j less) (λ below. h.none k e low below at) at;
      })
  last_on (inr f) = inr (λ k e less at. none_at k e (below_next k j less) (λ below. f k e below at) at)

which : (t : Turn) → ((session : ℕ) × (keys : Keys) × (t ≡ turns.Accept session keys)) ⊎ (AcceptsSession t → ⊥)
which (turns.Submit number kind) = inr (λ f. f)
which (turns.Begin channel first shuns) = inr (λ f. f)
which (turns.Failed channel) = inr (λ f. f)
which (turns.Accept session keys) = inl (session, keys, refl)
which (turns.Ready channel session tree) = inr (λ f. f)
which (turns.Refused channel why) = inr (λ f. f)
which (turns.Leave channel) = inr (λ f. f)
which (turns.Finish why) = inr (λ f. f)
which (turns.Push channel credits) = inr (λ f. f)
which (turns.Hear channel answer) = inr (λ f. f)
which (turns.Cut channel) = inr (λ f. f)
which turns.Lack = inr (λ f. f)

last_by : (log : Log) (j : ℕ) (e : Entry Turn Told) → slice_get log j ≡ Some e
    → ((session : ℕ) × (keys : Keys) × (e.event ≡ turns.Accept session keys)) ⊎ (AcceptsSession e.event → ⊥)
    → LastAccepted log j ⊎ NoneBefore log j → LastAccepted log (suc j) ⊎ NoneBefore log (suc j)
last_by log j e at (inl (session, keys, is)) h =
    inl (record {
      place = j;
      keys = keys;
      before = omega arith;
      accepts = record { entry = e; session = session; stands = at; accepts = is };
      none = λ k x low less there. absurd (omega (arith, low, less));
    })
last_by log j e at (inr other) h =
    last_on log j (λ x there accepts. other (subst (λ (y : Entry Turn Told). AcceptsSession y.event) (some_of x e (sym there ∙ at)) accepts)) h

last_at : (log : Log) (j : ℕ) (o : Perhaps (Entry Turn Told)) → slice_get log j ≡ o → LastAccepted log j ⊎ NoneBefore log j
    → LastAccepted log (suc j) ⊎ NoneBefore log (suc j)
last_at log j None e h = last_on log j (λ x there accepts. nothing_at x (sym e ∙ there)) h
last_at log j (Some x) e h = last_by log j x e (which x.event) h

last_accepted : (log : Log) (j : ℕ) → LastAccepted log j ⊎ NoneBefore log j
last_accepted log zero = inr (λ k e less at accepts. omega (arith, less))
last_accepted log (suc j) = last_at log j (slice_get log j) refl (last_accepted log j)

-- ---- one turn behind both

-- no session was accepted: a bound channel has keys without a cipher
abbrev pub NoneSeals : Log → Type 0
NoneSeals log = (j n : ℕ) → (g : GivesAt log j n) → NoneBefore log j → g.bound.keys.cipher ≡ 0

module _ (log : Log) (rising : BoundNumbersRise log) (unsealed : NoneSeals log) (differ : SessionKeysDiffer log) where
  -- a number that was given, with the session that was accepted last in front of it
  record GivenIn (j n : ℕ) (key : List ℕ) : Type 0 where
    place : ℕ
    keys : Keys
    before : place < j
    accepts : AcceptsAt log place keys
    none : NoneAccepted log place j
    above : 1 < n
    key_is : key ≡ keys.to_server

  given_in : (j n : ℕ) (key : List ℕ) (g : GivesAt log j n) → key ≡ g.bound.keys.to_server → 1 ≤ g.bound.keys.cipher → GivenIn j n key
  given_in j n key g is seals = by (last_accepted log j)
    where
      by : LastAccepted log j ⊎ NoneBefore log j → GivenIn j n key
      by (inr none) = let zero_is = unsealed j n g none in absurd (omega (arith, zero_is, seals))
      by (inl h) =
          let bound_so = rising.of_session h.place j n h.keys h.before h.accepts g h.none in
          record {
            place = h.place;
            keys = h.keys;
            before = h.before;
            accepts = h.accepts;
            none = h.none;
            above = bound_so.0;
            key_is = is ∙ ap (λ (k : Keys). k.to_server) bound_so.1;
          }

  -- in one session the later number is the larger
  both_given : (i j m n : ℕ) (key : List ℕ) → i < j → GivesAt log i m → GivesAt log j n → GivenIn i m key → GivenIn j n key → m < n
  both_given i j m n key less g h a b =
      let same : a.place ≡ b.place = differ a.place b.place a.keys b.keys a.accepts b.accepts (sym a.key_is ∙ b.key_is) in
      rising.rise i j m n less g h (λ k e low below at. b.none k e (above_both a.before low same) below at)
    where
      above_both : {p q k : ℕ} → p < i → i < k → p ≡ q → q < k
      above_both {p} {q} {k} first second same = omega (arith, first, second, same)

  accepts_at : (i session : ℕ) (keys : Keys) (e : Entry Turn Told) → slice_get log i ≡ Some e → e.event ≡ turns.Accept session keys
      → AcceptsAt log i keys
  accepts_at i session keys e at is = record { entry = e; session = session; stands = at; accepts = is }

  -- the later of two turns isn't behind a sealing of the same key and number
  pub apart : (p q : Placed) (a b : Sealing) → p.0 < q.0 → slice_get log p.0 ≡ Some p.1 → slice_get log q.0 ≡ Some q.1 → Origin p a
      → Origin q b → a.key ≡ b.key → a.nonce.channel ≡ b.nonce.channel → ⊥
  apart p q a b less at also (inl (session, keys, event, key, number)) (inl (session', keys', event', key', number')) same like =
      let one = differ p.0 q.0 keys keys' (accepts_at p.0 session keys p.1 at event) (accepts_at q.0 session' keys' q.1 also event')
      (sym key ∙ (same ∙ key')) in omega (arith, one, less)
  apart p q a b less at also (inl (session, keys, event, key, number)) (inr (bound, reply, key', seals)) same like =
      let given = given_in q.0 b.nonce.channel b.key (record { entry = q.1; bound = bound; stands = also; gives = reply }) key' seals in
      let above = given.above in omega (arith, above, number, like)
  apart p q a b less at also (inr (bound, reply, key, seals)) (inl (session, keys, event, key', number)) same like =
      let given = given_in p.0 a.nonce.channel a.key (record { entry = p.1; bound = bound; stands = at; gives = reply }) key seals in
      let above = given.above in omega (arith, above, number, like)
  apart p q a b less at also (inr (bound, reply, key, seals)) (inr (bound', reply', key', seals')) same like =
      let first : GivesAt log p.0 a.nonce.channel = record { entry = p.1; bound = bound; stands = at; gives = reply } in
      let second : GivesAt log q.0 b.nonce.channel = record { entry = q.1; bound = bound'; stands = also; gives = reply' } in
      let rises = both_given p.0 q.0 a.nonce.channel b.nonce.channel b.key less first second
      (given_in p.0 a.nonce.channel b.key first (sym same ∙ key) seals) (given_in q.0 b.nonce.channel b.key second key' seals') in
      omega (arith, rises, like)
