-- What is asked of what was taken.
use Rattle.std.proofs.Common.{◌≡◌, ℕ, ◌<◌, ◌≤◌, ◌^◌, true, arith}
use Rattle.spec_commands.specs.Fits.{FitsAsked}
use Rattle.spec_exchange.specs.Operations.{Op, keeps_limits, reconnect_of, request_of}
use Rattle.spec_exchange.specs.Client.{Client, ask_message, create_for, guid_for, own_message}
use Rattle.client_events.specs.world_law.Asking.{AsksFit}

far_below : (n : ℕ) → n ≤ 64 → n < 2 ^ 28
far_below n low = omega (arith, low)

abbrev pub OwnFit : Type 0
OwnFit = (op : Op) (guid file slot number : ℕ) → keeps_limits op ≡ true → slot < 2 ^ 28 → number < 16
    → FitsAsked (request_of op guid file slot number)

abbrev pub AskingFit : Type 0
AskingFit = (op : Op) (guid file : ℕ) → keeps_limits op ≡ true → FitsAsked (reconnect_of op guid file)

pub own_fits : OwnFit → (c : Client) (k id g : ℕ) → AsksFit c → 0 < g → g ≤ c.taken → FitsAsked (own_message c k id g).command
own_fits law c k id g f low high =
    law (c.op g) (guid_for c g) (c.file (create_for c g)) (c.slot_of g) (c.number_of g) (f.kept g low high)
    (far_below (c.slot_of g) (f.slots g)) (f.numbers g)

pub asking_fits : AskingFit → (c : Client) (k id g : ℕ) → AsksFit c → 0 < create_for c g → create_for c g ≤ c.taken
    → FitsAsked (ask_message c k id g).command
asking_fits law c k id g f low high =
    law (c.op (create_for c g)) (guid_for c (create_for c g)) (c.file (create_for c g)) (f.kept (create_for c g) low high)
