use Rattle.std.proofs.Common.{ℕ, ◌+◌, option_map, sym, ap, ◌∙◌}
use Rattle.access_lists.specs.Decide.{below}
use Rattle.access_lists.proofs.rules.first_below.Goals as goal

pub returns-in-Some : goal.returns-in-Some
unfolding below
returns-in-Some c = ap (option_map (λ (i : ℕ). i + 1)) (sym c.in-Some.is ∙ c.place_below.ensures.is)

pub returns-in-None : goal.returns-in-None
unfolding below
returns-in-None c = ap (option_map (λ (i : ℕ). i + 1)) (sym c.in-None.is ∙ c.place_below.ensures.is)
