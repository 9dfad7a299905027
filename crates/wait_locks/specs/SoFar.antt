-- Waiters that went so far, in front of those that are still to be tried.
use Rattle.std.specs.Prelude.{◌≡◌, ℕ, zero, suc, List, [], ◌∷◌, ◌++◌, length, Option, None}
use Rattle.spec_exchange.specs.State.{Server}
use Rattle.law_waiting.specs.wait_steps.WaitStep.{MadeStep, Response, StepMishap, Tried, Waiter, tried}

-- nothing befalls so many steps
abbrev pub nones : ℕ → List (Option StepMishap)
nones zero = []
nones (suc n) = None ∷ nones n

abbrev pub in_front : List Response → List MadeStep → Tried → Tried
in_front fs xs t = record t { finals = fs ++ t.finals; made = xs ++ t.made }

-- whatever befalls the rest
pub record SoFar (now : ℕ) (s : Server) (ws : List Waiter) (t : Server) (us : List Waiter) (fs : List Response) (xs : List MadeStep) : Type 0 where
  pub rounds : (ms : List (Option StepMishap))
      → tried now s ws (nones (length xs) ++ ms) (length ws) ≡ in_front fs xs (tried now t us ms (length us))
