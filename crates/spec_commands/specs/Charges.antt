-- What a request owes for the bytes that it moves (MS-SMB2 3.1.5.2, 3.3.5.2.5): one of 61 KB with a charge of 1 could else ask for
-- 1 MiB in each of its 500 messages.
use Rattle.std.specs.Prelude.{ℕ, ◌+◌, ◌==◌, ◌||◌, max, nat_lt, Bool, if◌then◌else◌, List, length}
use Rattle.spec_wire.specs.messages.Places.{number}
use Rattle.spec_wire.specs.credits.Ids.{counted}
use Rattle.spec_exchange.specs.Status.{invalid_parameter}
use Rattle.spec_exchange.specs.Commands.{Command, Unreadable}
use Rattle.spec_exchange.specs.Operations.{charge}

-- the number of 4 bytes at a place; 0 where the message ends before it, which then doesn't read
abbrev pub told_at : List ℕ → ℕ → ℕ
told_at m at = if nat_lt (length m) (at + 4) then 0 else number 4 m at

-- The greater of the bytes that a request of this command carries and those that it asks for: READ's and WRITE's Length (2.2.19,
-- 2.2.21); IOCTL's InputCount and OutputCount, MaxInputResponse and MaxOutputResponse (2.2.31); OutputBufferLength of QUERY_DIRECTORY,
-- whose pattern of at most 65,535 bytes never costs a second credit (2.2.33); QUERY_INFO's InputBufferLength, OutputBufferLength
-- (2.2.37); SET_INFO's BufferLength (2.2.39).
abbrev pub payload : ℕ → List ℕ → ℕ
payload command m =
    if (command == 8) || ((command == 9) || (command == 17)) then told_at m 68
    else if command == 11 then max (told_at m 92 + told_at m 104) (told_at m 96 + told_at m 108)
    else if command == 14 then told_at m 92
    else if command == 16 then max (told_at m 76) (told_at m 68)
    else 0

-- its CreditCharge is below what a client pays for them
abbrev pub is_undercharged : ℕ → ℕ → List ℕ → Bool
is_undercharged command paid m = nat_lt (counted paid) (charge (payload command m))

-- the command, where it is paid for
abbrev pub paid_for : ℕ → ℕ → List ℕ → Command → Command
paid_for command paid m c = if is_undercharged command paid m then Unreadable invalid_parameter else c
