-- The header of a dialog's message.
use Rattle.std.proofs.Common.{◌≡◌, ℕ, ◌+◌, ◌++◌, Bool, true, false, List, length, take, drop, replicate, sym, arith}
use Rattle.std.proofs.lemmas.List.{take_at}
use Rattle.spec_commands.specs.Tables.{bit_if}
use Rattle.spec_exchange.specs.State.{Message}
use Rattle.spec_world.specs.Sending.{request_header}
use Rattle.client_ends.specs.dialog_requests.Dialogs.{IsDialogs}

flags_are : (signs replay : Bool) (flags : ℕ) → replay ≡ false → flags ≡ bit_if signs 8
    → flags ≡ bit_if signs 8 + bit_if replay 0x2000_0000
unfolding bit_if
flags_are signs false flags r e = omega (arith, e)
flags_are signs true flags r e = absurd cc

pub header_is : (m : Message) (id session command flags : ℕ) (signs : Bool) → IsDialogs m id session → flags ≡ bit_if signs 8
    → record {
      charge = 1;
      status = 0;
      command = command;
      credits = 512;
      flags = flags;
      next = 0;
      message = id;
      tree = 0;
      session = session;
      signature = replicate 16 0;
    } ≡ request_header m 1 command signs
header_is m id session command flags signs d e =
    let told : flags ≡ bit_if signs 8 + bit_if m.replay 0x2000_0000 = flags_are signs m.replay flags d.replay e in
    λ t. record {
      charge = 1;
      status = sym d.sequence t;
      command = command;
      credits = 512;
      flags = told t;
      next = 0;
      message = sym d.number t;
      tree = sym d.tree t;
      session = sym d.logon t;
      signature = replicate 16 0;
    }

-- a vector that was written in place
pub written : (new old : List ℕ) (n : ℕ) → n ≡ length new → take n (new ++ drop (length new) old) ≡ new
written new old n len = take_at new (drop (length new) old) n (sym len)
