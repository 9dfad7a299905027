-- Whose a server's end takes to be what it hears in a repeat run.
use Rattle.std.specs.Prelude.{◌≡◌, ℕ, false, List, [], Some, Ok, slice_get}
use Rattle.spec_wire.specs.messages.Places.{number_of}
use Rattle.spec_exchange.specs.State.{Message}
use Rattle.spec_world.specs.Settings.{WorldSettings, chosen_of}
use Rattle.spec_world.specs.Ends.{Greeting, Logons}
use Rattle.spec_world.specs.Hearing.{Checked, Frame, check_frame, is_negotiate}
use Rattle.spec_world.specs.Connection.{heard_message}
use Rattle.spec_hostile.specs.RepeatRuns.{RepeatEvent, UpFrame}
use Rattle.spec_hostile.specs.HostileNetwork.{repeated}
use Rattle.law_ties.specs.wire_facts.Fitting.{IsFitting}

-- A NEGOTIATE that an end answered with success told the client's ClientGuid, and what was chosen there is what this server chooses of the
-- client's offer, where the client offers no cipher.
abbrev pub EndsGreetClient : Type 0
EndsGreetClient =
    (z : WorldSettings) (es : List RepeatEvent) (k : ℕ) (g : Greeting) → IsFitting z → z.client.ciphers ≡ []
    → ((repeated z es).world.wires k).server_end.greeting ≡ Some g
    → (g.client ≡ number_of z.client.guid) × (g.chosen ≡ chosen_of z.client)

-- so what an end hears of a frame that was put up is of this ClientGuid, whichever end it is given to, but for a NEGOTIATE
abbrev pub RequestsAreTheClients : Type 0
RequestsAreTheClients =
    (z : WorldSettings) (es : List RepeatEvent) (i k n : ℕ) (u : UpFrame) (L : Logons) (x : Frame) (c : Checked) (m : Message)
    → IsFitting z → z.client.ciphers ≡ [] → slice_get (repeated z es).ups i ≡ Some u
    → check_frame ((repeated z es).world.wires k).server_end u.frame ≡ Ok x → slice_get x.messages n ≡ Some c
    → is_negotiate c.header ≡ false → heard_message z.server L k x.server_end c ≡ Some m → m.client_guid ≡ number_of z.client.guid
