-- What keeps ends tied behind a Push.
use Rattle.std.specs.Prelude.{◌≡◌, ℕ, true, List, Option}
use Rattle.spec_exchange.specs.Operations.{weight, charge}
use Rattle.spec_exchange.specs.Client.{Apart, own_message, ask_message}
use Rattle.spec_exchange.specs.ClientStep.{Pick, Pushes, Sends, Asks, client_after, act}
use Rattle.spec_exchange.specs.Network.{Push}
use Rattle.spec_world.specs.Settings.{WorldSettings}
use Rattle.spec_world.specs.World.{World, paid}
use Rattle.spec_world.specs.Events.{Plain, bytes_happen}
use Rattle.law_ties.specs.wire_facts.Lawful.{IsLawful}
use Rattle.law_ties.specs.events.Links.{IsTied}
use Rattle.law_ties.specs.requests.Sending.{IsLineMessage}

-- a ready channel is open, and its dialog is over; and what goes out fits
pub record PushFits (z : WorldSettings) (w : World) (k : ℕ) (slotless : List ℕ) (pick : Option Pick) : Type 0 where
  pub is_open : (w.values.conns k).client_open ≡ true
  pub apart : w.values.client.stage k ≡ Apart
  pub sends :
      (g : ℕ) → act w.values.client (Pushes k slotless pick) ≡ Sends g →
      IsLineMessage z (w.wires k).client_end k
      (own_message (client_after w.values.client (Pushes k slotless pick)) k (w.wires k).client_end.purse.next g)
      (charge (weight ((client_after w.values.client (Pushes k slotless pick)).op g)))
  pub asks :
      (g : ℕ) → act w.values.client (Pushes k slotless pick) ≡ Asks g →
      IsLineMessage z (w.wires k).client_end k
      (ask_message (client_after w.values.client (Pushes k slotless pick)) k (w.wires k).client_end.purse.next g) 1

abbrev pub PushesAreKept : Type 0
PushesAreKept =
    (z : WorldSettings) (w : World) (k : ℕ) (slotless : List ℕ) (pick : Option Pick) → IsLawful z → IsTied z w →
    (w.values.client.ready k ≡ true → PushFits z w k slotless (paid w k slotless pick)) →
    IsTied z (bytes_happen z w (Plain (Push k slotless pick)))
