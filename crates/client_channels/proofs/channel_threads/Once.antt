-- No nonce comes twice under one key.
use Rattle.std.proofs.Common.{◌≡◌, ◌⊎◌, ℕ, zero, suc, ◌+◌, ◌-◌, ◌<◌, Bool, List, [], ◌∷◌, Some}
use Rattle.std.proofs.Common.{inl, inr, refl, sym, ap, subst, ◌∙◌, arith, length}
use Rattle.std.specs.Prelude.{slice_get, slice_index_or}
use Rattle.spec_crypto.specs.sessions.Nonces.{NonceState}
use Rattle.client_ends.specs.declared.ends.config.ClientConfig.{ClientConfig}
use Rattle.serve_turns.specs.declared.shared_book.view.Entry.{Entry}
use Rattle.serve_turns.specs.shared_book.Histories.{HaveAll, Replays, entries_of}
use Rattle.serve_turns.specs.shared_book.Numbers.{AreApart, IsOneOf, numbers_in}
use Rattle.client_book.specs.Steps.{IsNew}
use Rattle.client_book.specs.declared.turn.Told.{Told}
use Rattle.client_book.specs.declared.turn.Turn.{Turn}
use Rattle.client_channels.specs.channel_threads.Nonces.{AreChannels, HasWorked, NoNonceTwice, SessionKeysDiffer, sealed_by_channel}
use Rattle.client_channels.specs.channel_threads.Numbers.{BoundNumbersRise}
use Rattle.client_channels.specs.channel_turns.Rounds.{been}
use Rattle.client_channels.specs.channel_turns.Sealings.{Sealing}
use Rattle.client_channels.specs.channel_turns.Sharing.{TurnSteps}
use Rattle.client_channels.specs.channel_turns.Turning.{Placed}
use Rattle.client_channels.specs.declared.channel_turns.shared_client.ClientTurns.{ClientTurns}
use Rattle.client_channels.proofs.channel_threads.Ordered.{HasOrigin, Ordered, ordered_at, ordered_two, rounds_go}
use Rattle.client_channels.proofs.channel_threads.Origins.{NoneSeals, Stands, apart, entries_rise, entry_stands, some_of}
use Rattle.client_channels.proofs.channel_threads.Rising.{bare_from, numbers_rise}

abbrev Seats : Type 0
Seats = List (ℕ × List Placed)

-- ---- seats

own_are : (log : List (Entry Turn Told)) (seats : Seats) (k : ℕ) (d : ℕ × List Placed) → HaveAll log seats → k < length seats
    → (slice_index_or seats k d).1 ≡ entries_of (slice_index_or seats k d).0 0 log
own_are log [] k d have low = absurd (omega (arith, low))
own_are log (x ∷ xs) zero d have low = have.0
own_are log (x ∷ xs) (suc k) d have low = own_are log xs k d have.1 (omega (arith, low))

is_one : (seats : Seats) (k : ℕ) (d : ℕ × List Placed) → k < length seats → IsOneOf (slice_index_or seats k d).0 (numbers_in seats)
is_one [] k d low = absurd (omega (arith, low))
is_one (x ∷ xs) zero d low = inl refl
is_one (x ∷ xs) (suc k) d low = inr (is_one xs k d (omega (arith, low)))

-- two seats have two numbers
seats_apart : (seats : Seats) (k l : ℕ) (d : ℕ × List Placed) → AreApart (numbers_in seats) → k < length seats → l < length seats
    → (k ≡ l → ⊥) → (slice_index_or seats k d).0 ≡ (slice_index_or seats l d).0 → ⊥
seats_apart [] k l d apart low less other same = absurd (omega (arith, low))
seats_apart (x ∷ xs) zero zero d apart low less other same = other refl
seats_apart (x ∷ xs) zero (suc l) d apart low less other same =
    apart.0 (subst (λ (n : ℕ). IsOneOf n (numbers_in xs)) (sym same) (is_one xs l d (omega (arith, less))))
seats_apart (x ∷ xs) (suc k) zero d apart low less other same =
    apart.0 (subst (λ (n : ℕ). IsOneOf n (numbers_in xs)) same (is_one xs k d (omega (arith, low))))
seats_apart (x ∷ xs) (suc k) (suc l) d apart low less other same =
    seats_apart xs k l d apart.1 (omega (arith, low)) (omega (arith, less)) (λ e. other (ap (λ (i : ℕ). suc i) e)) same

-- ---- which of two comes first

either : (m n : ℕ) → (m < n) ⊎ (n < m) ⊎ (m ≡ n)
either zero zero = inr (inr refl)
either zero (suc n) = inl (omega arith)
either (suc m) zero = inr (inl (omega arith))
either (suc m) (suc n) = by (either m n)
  where
    by : (m < n) ⊎ (n < m) ⊎ (m ≡ n) → (suc m < suc n) ⊎ (suc n < suc m) ⊎ (suc m ≡ suc n)
    by (inl less) = inl (omega (arith, less))
    by (inr (inl more)) = inr (inl (omega (arith, more)))
    by (inr (inr same)) = inr (inr (ap (λ (i : ℕ). suc i) same))

-- ---- what stands in a history

at_place : (seat : ℕ) (log : List (Entry Turn Told)) (p : Placed) → Stands seat 0 log p → slice_get log p.0 ≡ Some p.1
at_place seat log p h =
    let place = h.place in
    subst (λ (i : ℕ). slice_get log i ≡ Some p.1) (same_place p.0 h.more place) h.stands
  where
    same_place : (m n : ℕ) → m ≡ 0 + n → n ≡ m
    same_place m n e = omega (arith, e)

-- ---- the law

module _ (log : List (Entry Turn Told)) (rising : BoundNumbersRise log) (unsealed : NoneSeals log) (differ : SessionKeysDiffer log) where
  -- in one seat two turns of one key and number aren't two
  one_seat : (seat : ℕ) (own : List Placed) (j k : ℕ) (a b : Sealing) → own ≡ entries_of seat 0 log → j < k → HasOrigin own j a
      → HasOrigin own k b → a.key ≡ b.key → a.nonce.channel ≡ b.nonce.channel → ⊥
  one_seat seat own j k a b is less (p, at, origin) (q, also, source) same like =
      let first : slice_get (entries_of seat 0 log) j ≡ Some p = subst (λ (ys : List Placed). slice_get ys j ≡ Some p) is at in
      let second : slice_get (entries_of seat 0 log) k ≡ Some q = subst (λ (ys : List Placed). slice_get ys k ≡ Some q) is also in
      apart log rising unsealed differ p q a b (entries_rise seat 0 log j k p q less first second)
      (at_place seat log p (entry_stands seat 0 log j p first)) (at_place seat log q (entry_stands seat 0 log k q second)) origin source same
      like

  -- and in two seats there are none
  two_seats : (seat other : ℕ) (own more : List Placed) (j k : ℕ) (a b : Sealing) → own ≡ entries_of seat 0 log
      → more ≡ entries_of other 0 log → (seat ≡ other → ⊥) → HasOrigin own j a → HasOrigin more k b → a.key ≡ b.key
      → a.nonce.channel ≡ b.nonce.channel → ⊥
  two_seats seat other own more j k a b is are not_same (p, at, origin) (q, also, source) same like =
      by (entry_stands seat 0 log j p (subst (λ (ys : List Placed). slice_get ys j ≡ Some p) is at))
      (entry_stands other 0 log k q (subst (λ (ys : List Placed). slice_get ys k ≡ Some q) are also)) (either p.0 q.0)
    where
      by : Stands seat 0 log p → Stands other 0 log q → (p.0 < q.0) ⊎ (q.0 < p.0) ⊎ (p.0 ≡ q.0) → ⊥
      by first second (inl less) =
          apart log rising unsealed differ p q a b less (at_place seat log p first) (at_place other log q second) origin source same like
      by first second (inr (inl more)) =
          apart log rising unsealed differ q p b a more (at_place other log q second) (at_place seat log p first) source origin (sym same)
          (sym like)
      by first second (inr (inr one)) =
          let entry : p.1 ≡ q.1 =
          some_of p.1 q.1 (sym (at_place seat log p first)
          ∙ (ap (λ (i : ℕ). slice_get log i) one ∙ at_place other log q second)) in
          not_same (sym first.seat_is ∙ (ap (λ (e : Entry Turn Told). e.seat) entry ∙ second.seat_is))

  -- of one channel
  once_in : (seat : ℕ) (own : List Placed) (h : ℕ) (xs : List Sealing) (p q : ℕ) (a b : Sealing) → own ≡ entries_of seat 0 log
      → Ordered own 0 0 h xs → slice_get xs p ≡ Some a → slice_get xs q ≡ Some b → a.key ≡ b.key → a.nonce ≡ b.nonce → p ≡ q
  once_in seat own h xs p q a b is t at also same nonce = by (either p q)
    where
      counter : a.nonce.counter ≡ b.nonce.counter
      counter = ap (λ (n : NonceState). n.counter) nonce

      number : a.nonce.channel ≡ b.nonce.channel
      number = ap (λ (n : NonceState). n.channel) nonce

      by : (p < q) ⊎ (q < p) ⊎ (p ≡ q) → p ≡ q
      by (inl less) =
          let two = ordered_two own 0 0 h xs p q a b t less at also counter in
          absurd (one_seat seat own two.0 two.1 a b is two.2 two.3 two.4 same number)
      by (inr (inl more)) =
          let two = ordered_two own 0 0 h xs q p b a t more also at (sym counter) in
          absurd (one_seat seat own two.0 two.1 b a is two.2 two.3 two.4 (sym same) (sym number))
      by (inr (inr one)) = one

module _ {K : Type 0} (told : Type 0) (given left written : K → List ℕ) (faults : K → ℕ) (ended : K → Bool) (bars : ℕ → ℕ → Type 0)
    (config : ClientConfig) (seed : List ℕ) {N : Type 0} (net_faults : N → ℕ) where
  channel_ordered : (channel : ℕ) (own : List Placed)
      → (h : HasWorked told given left written faults ended bars config seed net_faults channel own)
      → Ordered own 0 0 (length own)
      (sealed_by_channel told given left written faults ended bars config seed net_faults channel own h)
  channel_ordered channel own (draws, rounds) =
      (rounds_go told given left written faults ended bars config seed channel net_faults rounds.count (been [] 0) (been own draws)
      rounds.rounds).1

  pub never_twice : (salt : ℕ) (from to : ClientTurns) (log : List (Entry Turn Told)) (count : ℕ) (seats : Seats) → IsNew salt from.book
      → Replays TurnSteps from log to → HaveAll log seats → AreApart (numbers_in seats)
      → (channels : AreChannels told given left written faults ended bars config seed net_faults count seats) → SessionKeysDiffer log
      → (d : ℕ × List Placed) → NoNonceTwice told given left written faults ended bars config seed net_faults count seats channels d
  never_twice salt from to log count seats new replays have apart_are channels differ d = record {
    of_one = λ k low p q a b at also same nonce.
        once_in log rising unsealed differ (slice_index_or seats k d).0 (slice_index_or seats k d).1 (length (slice_index_or seats k d).1)
        (sealed k low) p q a b (own_are log seats k d have low) (ordered k low) at also same nonce;
    of_two = λ k l low less p q a b other at also same nonce.
        let first = ordered_at (slice_index_or seats k d).1 0 0 (length (slice_index_or seats k d).1) (sealed k low) p a
        (ordered k low) at in
        let second = ordered_at (slice_index_or seats l d).1 0 0 (length (slice_index_or seats l d).1) (sealed l less) q b
        (ordered l less) also in
        two_seats log rising unsealed differ (slice_index_or seats k d).0 (slice_index_or seats l d).0 (slice_index_or seats k d).1
        (slice_index_or seats l d).1 first.place second.place a b (own_are log seats k d have low) (own_are log seats l d have less)
        (seats_apart seats k l d apart_are low less other) first.origin second.origin same (ap (λ (n : NonceState). n.channel) nonce);
  }
    where
      rising : BoundNumbersRise log
      rising = numbers_rise from to log replays

      unsealed : NoneSeals log
      unsealed = λ j n g none. bare_from n from to log j replays (inr new.cipher) g none

      sealed : (k : ℕ) → k < length seats → List Sealing
      sealed = λ k low. sealed_by_channel told given left written faults ended bars config seed net_faults (count - 1 - k)
          (slice_index_or seats k d).1 (channels.1 k d low)

      ordered : (k : ℕ) (low : k < length seats)
          → Ordered (slice_index_or seats k d).1 0 0 (length (slice_index_or seats k d).1) (sealed k low)
      ordered = λ k low. channel_ordered (count - 1 - k) (slice_index_or seats k d).1 (channels.1 k d low)
