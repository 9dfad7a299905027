-- Those that hang on an open that is gone, one after the other.
use Rattle.std.specs.Prelude.{ℕ, nat_lt, ◌==◌, if◌then◌else◌}
use Rattle.spec_exchange.specs.Client.{Client}
use Rattle.spec_exchange.specs.Settling.{give_up_on}

-- those below a number are given up
abbrev pub given_below : Client → (create n : ℕ) → Client
given_below c create n = record c { outcome = λ g. if nat_lt g n then give_up_on c create g else c.outcome g }

-- a walk upwards, of n rows, that has come so far; 0 where it has come to the end
abbrev pub reached : (at n : ℕ) → ℕ
reached at n = if at == 0 then n else at
