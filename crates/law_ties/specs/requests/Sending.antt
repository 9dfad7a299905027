-- What keeps ends tied behind a line's request that goes up.
use Rattle.std.specs.Prelude.{◌≡◌, ℕ, ◌+◌, ◌^◌, ◌<◌, ◌≤◌, ◌==◌, nat_le, true, false, List, length, Some, None}
use Rattle.spec_wire.specs.messages.Places.{number_of}
use Rattle.spec_wire.specs.messages.Header.{IsWritableHeader}
use Rattle.spec_wire.specs.declared.messages.header.Header.{Header}
use Rattle.spec_exchange.specs.State.{Message}
use Rattle.spec_exchange.specs.Table.{put}
use Rattle.spec_exchange.specs.Client.{Apart}
use Rattle.spec_exchange.specs.Network.{Token, send_up}
use Rattle.spec_wire.specs.credits.Ids.{counted}
use Rattle.spec_commands.specs.CommandOf.{Told, command_of}
use Rattle.spec_commands.specs.BodyOf.{body_of, number_of_command}
use Rattle.spec_world.specs.Settings.{WorldSettings}
use Rattle.spec_world.specs.Ends.{ClientEnd}
use Rattle.spec_world.specs.World.{World, line_sent}
use Rattle.law_ties.specs.wire_facts.Fitting.{IsSent, IsMessage}
use Rattle.law_ties.specs.wire_facts.Lawful.{header_as, IsLawful}
use Rattle.law_ties.specs.events.Links.{is_operations, Ties, IsTied}

-- The message of an operation's request: this client's on its connection, of the next id, which is paid for; its numbers fit, its body
-- reads back behind its header, and it fits a frame.
pub record IsLineMessage (z : WorldSettings) (n : ClientEnd) (k : ℕ) (m : Message) (charge : ℕ) : Type 0 where
  pub connection : m.connection ≡ k
  pub client : m.client_guid ≡ number_of z.client.guid
  pub fault : m.fault ≡ None
  pub id : m.message_id ≡ n.purse.next
  pub sent : IsSent m charge
  pub paid : nat_le (counted charge) n.purse.held ≡ true
  pub positive : 1 ≤ charge
  pub small : number_of_command m.command < 256 ^ 2
  pub greets_not : (number_of_command m.command == 0) ≡ false
  pub sets_up_not : (number_of_command m.command == 1) ≡ false
  pub cancels_not : (number_of_command m.command == 12) ≡ false
  pub short : 64 + length (body_of m.command) ≤ 1114060
  pub reads :
      (t : Told) (h : Header) (b : List ℕ) → IsWritableHeader h → IsMessage h (body_of m.command) b →
      h.charge ≡ charge → h.command ≡ number_of_command m.command → command_of t (header_as h b) b ≡ Some m.command

abbrev pub LineSendsAreKept : Type 0
LineSendsAreKept =
    (z : WorldSettings) (w : World) (k : ℕ) (token : Token) (m : Message) (charge : ℕ) → IsLawful z → IsTied z w →
    (w.values.conns k).client_open ≡ true → (w.wires k).client_end.stage ≡ Apart → is_operations token ≡ true →
    IsLineMessage z (w.wires k).client_end k m charge →
    Ties z w.values.client w.keys w.logons (put w.values.conns k (send_up (w.values.conns k) token m charge))
    (line_sent w k token m charge).wires
