-- The numbers that bound channels are given, which their nonces carry.
use Rattle.std.specs.Prelude.{◌≡◌, ℕ, ◌<◌, List, Some, slice_get}
use Rattle.client_ends.specs.declared.ends.config.Bound.{Bound}
use Rattle.serve_turns.specs.declared.shared_book.view.Entry.{Entry}
use Rattle.spec_crypto.specs.declared.sessions.material.Keys.{Keys}
use Rattle.client_book.specs.declared.turn.Told.{Told}
use Rattle.client_book.specs.declared.turn.Told.TheVariants as tells
use Rattle.client_book.specs.declared.turn.Turn.{Turn}
use Rattle.client_book.specs.declared.turn.Turn.TheVariants as turns

-- a further session is accepted
abbrev pub AcceptsSession : Turn → Type 0
AcceptsSession (turns.Accept session keys) = Unit {0}
AcceptsSession _ = ⊥

-- the turn at a place accepted a session, with these keys
pub record AcceptsAt (log : List (Entry Turn Told)) (place : ℕ) (keys : Keys) : Type 0 where
  pub entry : Entry Turn Told
  pub session : ℕ
  pub stands : slice_get log place ≡ Some entry
  pub accepts : entry.event ≡ turns.Accept session keys

-- the turn at a place was told to be bound under this number
pub record GivesAt (log : List (Entry Turn Told)) (place number : ℕ) : Type 0 where
  pub entry : Entry Turn Told
  pub bound : Bound
  pub stands : slice_get log place ≡ Some entry
  pub gives : entry.reply ≡ tells.Bind bound number

abbrev pub NoneAccepted : List (Entry Turn Told) → ℕ → ℕ → Type 0
NoneAccepted log i j = (k : ℕ) (e : Entry Turn Told) → i < k → k < j → slice_get log k ≡ Some e → AcceptsSession e.event → ⊥

-- A number has two bytes, as in a nonce. Of two that were given while no further session was accepted, the later one is the larger. One that
-- was given in a session is above 1, the number of the channel that made the session, and its channel is bound with that session's keys.
pub record BoundNumbersRise (log : List (Entry Turn Told)) : Type 0 where
  pub above : (i n : ℕ) → GivesAt log i n → 0 < n
  pub below : (i n : ℕ) → GivesAt log i n → n < 65536
  pub rise : (i j m n : ℕ) → i < j → GivesAt log i m → GivesAt log j n → NoneAccepted log i j → m < n
  pub of_session : (i j n : ℕ) (keys : Keys) → i < j → AcceptsAt log i keys → (g : GivesAt log j n) → NoneAccepted log i j
      → (1 < n) × (g.bound.keys ≡ keys)
