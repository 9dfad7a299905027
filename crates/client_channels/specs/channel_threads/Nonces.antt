-- No nonce comes twice under one key (MS-SMB2 2.2.41, 3.1.4.3).
use Rattle.std.specs.Prelude.{◌≡◌, ℕ, ◌-◌, ◌<◌, Bool, List, [], Some, length, slice_get, slice_index_or}
use Rattle.client_ends.specs.declared.ends.config.ClientConfig.{ClientConfig}
use Rattle.client_book.specs.declared.turn.Told.{Told}
use Rattle.client_book.specs.declared.turn.Turn.{Turn}
use Rattle.serve_turns.specs.declared.shared_book.view.Entry.{Entry}
use Rattle.spec_crypto.specs.declared.sessions.material.Keys.{Keys}
use Rattle.client_channels.specs.channel_threads.Numbers.{AcceptsAt}
use Rattle.client_channels.specs.channel_threads.Seating.{EachAt}
use Rattle.client_channels.specs.channel_turns.Rounds.{GoesRound, been}
use Rattle.client_channels.specs.channel_turns.Sealings.{Sealing, sealed_over}
use Rattle.client_channels.specs.channel_turns.Turning.{Placed}

-- no two sessions that were accepted have one key to the server
abbrev pub SessionKeysDiffer : List (Entry Turn Told) → Type 0
SessionKeysDiffer log = (i j : ℕ) (k l : Keys) → AcceptsAt log i k → AcceptsAt log j l → k.to_server ≡ l.to_server → i ≡ j

module _ {K : Type 0} (told : Type 0) (given left written : K → List ℕ) (faults : K → ℕ) (ended : K → Bool) (bars : ℕ → ℕ → Type 0)
    (config : ClientConfig) (seed : List ℕ) {N : Type 0} (net_faults : N → ℕ) where
  -- these are all turns of a channel, from its first to its last
  abbrev pub HasWorked : ℕ → List Placed → Type 0
  HasWorked channel own =
      (draws : ℕ) × GoesRound told given left written faults ended bars config seed channel net_faults (been [] 0) (been own draws)

  -- the seats of so many channels, each with its number and its entries; the last channel's stands first
  abbrev pub AreChannels : ℕ → List (ℕ × List Placed) → Type 0
  AreChannels count seats = (length seats ≡ count) × EachAt (λ k x. HasWorked (count - 1 - k) x.1) seats

  -- what a channel sealed, from its first link to its last
  abbrev pub sealed_by_channel : (channel : ℕ) (own : List Placed) → HasWorked channel own → List Sealing
  sealed_by_channel channel own (draws, rounds) =
      sealed_over told given left written faults ended bars config seed channel net_faults (been [] 0) (been own draws) rounds

  module _ (count : ℕ) (seats : List (ℕ × List Placed)) (channels : AreChannels count seats) (d : ℕ × List Placed) where
    -- what the channel of a seat sealed
    abbrev pub sealed_at : (k : ℕ) → k < length seats → List Sealing
    sealed_at k low = sealed_by_channel (count - 1 - k) (slice_index_or seats k d).1 (channels.1 k d low)

    -- two frames that one channel sealed, or two channels, have two keys or two nonces
    pub record NoNonceTwice : Type 0 where
      pub of_one : (k : ℕ) (low : k < length seats) (p q : ℕ) (a b : Sealing) → slice_get (sealed_at k low) p ≡ Some a
          → slice_get (sealed_at k low) q ≡ Some b → a.key ≡ b.key → a.nonce ≡ b.nonce → p ≡ q
      pub of_two : (k l : ℕ) (low : k < length seats) (less : l < length seats) (p q : ℕ) (a b : Sealing) → (k ≡ l → ⊥)
          → slice_get (sealed_at k low) p ≡ Some a → slice_get (sealed_at l less) q ≡ Some b → a.key ≡ b.key → a.nonce ≡ b.nonce → ⊥
