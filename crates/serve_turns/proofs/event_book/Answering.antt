-- A server that stopped, and one that didn't.
use Rattle.std.proofs.Common.{◌≡◌, ℕ, Option, None, Some, Err, sym, ◌∙◌}
use Rattle.conn_core.specs.declared.served.error.ServeError.TheVariants as errors
use Rattle.conn_core.specs.frame_events.Dealing.{EventAnswer}

pub had_stopped : (o : Option ℕ) (count : ℕ) → o ≡ Some count → o ≡ None → ⊥
had_stopped o count is none = apart (sym is ∙ none)
  where
    apart : Some count ≡ None → ⊥
    apart e = absurd cc

-- what a stopped server answers
abbrev pub some_count : Option ℕ → EventAnswer
some_count None = None
some_count (Some count) = Some (Err (errors.Stopped count))
