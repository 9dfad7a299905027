-- Operations that are given up one after the other, from below.
use Rattle.std.specs.Prelude.{ℕ, ◌&&◌, nat_lt, if◌then◌else◌}
use Rattle.spec_exchange.specs.Operations.{Why}
use Rattle.spec_exchange.specs.Client.{Client, is_taken, outcome_after_finish}

-- those below a number are given up
abbrev pub finished_below : Client → Why → ℕ → Client
finished_below c why n = record c {
  outcome = λ g. if is_taken c g && nat_lt g n then outcome_after_finish why (c.outcome g) else c.outcome g;
}
