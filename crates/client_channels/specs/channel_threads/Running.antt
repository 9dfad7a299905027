-- A client's channels from its first operation to its last outcome.
use Rattle.std.specs.Prelude.{◌≡◌, ℕ, ◌+◌, Bool, true, false, List, [], ◌∷◌, map, take, slice_get, Some}
use Rattle.std.specs.Int.{from_le_bytes, w64}
use Rattle.client_ends.specs.declared.ends.config.ClientConfig.{ClientConfig}
use Rattle.client_steps.specs.declared.whole_client.client.Client.{Client as Core}
use Rattle.client_steps.specs.whole_client.Shown.{ShowsClient}
use Rattle.client_values.specs.declared.operations.values.OpKind.{OpKind}
use Rattle.client_values.specs.declared.outcomes.outcome.Why.TheVariants.{Ended}
use Rattle.client_values.specs.outcomes.Meaning.{why_of}
use Rattle.serve_turns.specs.declared.shared_book.view.Entry.{Entry}
use Rattle.serve_turns.specs.declared.shared_book.view.View.{View}
use Rattle.serve_turns.specs.shared_book.Histories.{HaveAll, Replays, entries_of}
use Rattle.serve_turns.specs.shared_book.Numbers.{AreApart, IsOneOf, numbers_in}
use Rattle.serve_turns.specs.shared_book.Seats.{Closes}
use Rattle.spec_exchange.specs.Client.{Client, finish}
use Rattle.client_book.specs.Beginning.{is_settled}
use Rattle.client_book.specs.Steps.{IsNew}
use Rattle.client_book.specs.declared.book.ClientBook.{ClientBook}
use Rattle.client_book.specs.declared.turn.Told.{Told}
use Rattle.client_book.specs.declared.turn.Turn.{Turn}
use Rattle.client_book.specs.declared.turn.Turn.TheVariants as turns
use Rattle.client_channels.specs.Draws.{channel_draw}
use Rattle.client_channels.specs.channel_threads.Nonces.{AreChannels, NoNonceTwice, SessionKeysDiffer}
use Rattle.client_channels.specs.channel_threads.Numbers.{BoundNumbersRise}
use Rattle.client_channels.specs.channel_turns.Sharing.{TurnSteps}
use Rattle.client_channels.specs.channel_turns.Turning.{Placed}
use Rattle.client_channels.specs.declared.channel_turns.shared_client.ClientTurns.{ClientTurns}

-- the random half of the client's CreateGuids
abbrev pub salt_of : List ℕ → ℕ
salt_of seed = from_le_bytes w64 (take 8 (channel_draw seed 4294967295 0))

-- operations are submitted in order, and counted from a number on
abbrev pub submits_from : ℕ → List OpKind → List Turn
submits_from n [] = []
submits_from n (op ∷ ops) = turns.Submit n op ∷ submits_from (n + 1) ops

abbrev pub events_of : List Placed → List Turn
events_of own = map (λ p. p.1.event) own

-- The client of a book that found memory at each turn. Each of its operations is settled, so that none is given up at its end.
pub record EndsAs (book : ClientBook) (client : Core) : Type 0 where
  pub going : book.stopped ≡ false
  pub settled : (c : Client) → ShowsClient book.client c → is_settled c ≡ true
  pub client_is : (c : Client) → ShowsClient book.client c → ShowsClient client (finish c (why_of Ended))

-- it is that of the book which the whole history gives
pub record HasRun (v : View ClientTurns Turn Told) (client : Core) : Type 0 where
  pub last : ClientTurns
  pub closes : Closes TurnSteps v last
  pub ends : EndsAs last.book client

module _ {K : Type 0} (told : Type 0) (given left written : K → List ℕ) (faults : K → ℕ) (ended : K → Bool) (bars : ℕ → ℕ → Type 0)
    (config : ClientConfig) (seed : List ℕ) {N : Type 0} (net_faults : N → ℕ) where
  -- So many channels ran these operations. All turns at the client are one history from a new client on. The seat of number 0 submits the
  -- operations, in order. Each further turn is one of a channel, which has a seat of its own. At its end every operation is settled, and the
  -- client is the one that the history gives.
  pub record ChannelsRan (count : ℕ) (ops : List OpKind) (client : Core) : Type 0 where
    pub opening : ClientTurns
    pub is_new : IsNew (salt_of seed) opening.book
    pub log : List (Entry Turn Told)
    pub last : ClientTurns
    pub replays : Replays TurnSteps opening log last
    pub submits : events_of (entries_of 0 0 log) ≡ submits_from 1 ops
    pub seats : List (ℕ × List Placed)
    pub entries : HaveAll log seats
    pub channels : AreChannels told given left written faults ended bars config seed net_faults count seats
    pub apart : AreApart (0 ∷ numbers_in seats)
    pub none_else : (place : ℕ) (e : Entry Turn Told) → slice_get log place ≡ Some e → IsOneOf e.seat (0 ∷ numbers_in seats)
    pub numbers : BoundNumbersRise log
    pub nonces : SessionKeysDiffer log → (d : ℕ × List Placed)
        → NoNonceTwice told given left written faults ended bars config seed net_faults count seats channels d
    pub ends : EndsAs last.book client
