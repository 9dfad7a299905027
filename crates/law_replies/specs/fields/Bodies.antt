-- What answers tell of the server's rows fits.
use Rattle.std.specs.Prelude.{◌≡◌, ℕ, ◌≤◌, Bool, true, false, List, ◌∷◌, length}
use Rattle.spec_exchange.specs.Commands.{Command, Create, QueryFile, ListDirectory}
use Rattle.spec_exchange.specs.State.{CreateReply, Body, Created, FileInfo, Listing}
use Rattle.spec_exchange.specs.Opens.{id_of, max_ids}
use Rattle.spec_exchange.specs.Network.{Event, Settings, Sent, answer, run, start}
use Rattle.spec_commands.specs.Infos.{listing_bytes}
use Rattle.law_commands.specs.commands.Fitting.{IsInfo, IsFittingTimeout, AreFittingNames}

-- an open of this epoch or an earlier one
pub record FitsCreate (epoch : ℕ) (reply : CreateReply) : Type 0 where
  pub low : reply.id ≤ id_of epoch max_ids
  pub done : reply.action ≤ 3
  pub told : IsInfo reply.info
  pub wait : IsFittingTimeout reply.timeout

abbrev pub FitsBody : ℕ → Body → Type 0
FitsBody epoch (Created reply) = FitsCreate epoch reply
FitsBody epoch (FileInfo class path info access options position) = IsInfo info
FitsBody epoch (Listing class entries) = AreFittingNames entries × (length (listing_bytes class entries) ≤ 1048583)
FitsBody epoch _ = Unit {0}

-- a CREATE, a QUERY_INFO of a file and a QUERY_DIRECTORY
abbrev pub asks_rows : Command → Bool
asks_rows (Create request) = true
asks_rows (QueryFile file class room) = true
asks_rows (ListDirectory file class restart single pattern room) = true
asks_rows _ = false

-- of what waits
abbrev pub BodiesFit : Type 0
BodiesFit =
    (z : Settings) (events : List Event) (k : ℕ) (x : Sent) (xs : List Sent) → ((run events (start z)).conns k).up ≡ x ∷ xs →
    asks_rows x.message.command ≡ true →
    FitsBody (run events (start z)).server.epoch (answer (run events (start z)) x).reply.body
