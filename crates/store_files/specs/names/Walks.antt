-- A walk along a pattern and a name, which goes back to the last `*` alone.
use Rattle.std.specs.Prelude.{◌≡◌, ℕ, ◌+◌, ◌-◌, ◌*◌, ◌≤◌, ◌==◌, ◌||◌, Bool, true, false, if◌then◌else◌, List, ◌∷◌, length, drop}
use Rattle.spec_exchange.specs.Listing.{matches, any_tail}

-- whether the rest of the pattern behind the last `*` accepts a later rest of the name than the one last tried
unfoldable pub may_take_more : ℕ → ℕ → List ℕ → List ℕ → Bool
may_take_more behind from pattern name = if behind == 0 then false else any_tail (matches (drop behind pattern)) (drop (from + 1) name)

-- what the walk came to says all: the rests from here, or the last `*` takes more; and where that is so, these rests fit
-- from here or from a later place of the name
pub record IsUnderWay (pattern name : List ℕ) (i j behind from : ℕ) : Type 0 where
  pub in_pattern : (i ≤ length pattern) × (behind ≤ length pattern)
  pub in_name : (from ≤ j) × (j ≤ length name)
  pub whole : matches pattern name ≡ (matches (drop i pattern) (drop j name) || may_take_more behind from pattern name)
  pub ahead : may_take_more behind from pattern name ≡ true → any_tail (matches (drop i pattern)) (drop j name) ≡ true

-- more than the steps that are left
abbrev pub turns : List ℕ → List ℕ → ℕ → ℕ → ℕ
turns pattern name i from = (length name - from) * (length pattern + 1) + (length pattern - i)

-- the character accepts what stands between two places of the name, and there alone; from a later place it leads further
pub record LeadsBehind (character : ℕ) (name : List ℕ) (at next : ℕ) : Type 0 where
  pub here : (ps : List ℕ) → matches (character ∷ ps) (drop at name) ≡ matches ps (drop next name)
  pub later : (ps : List ℕ) → any_tail (matches (character ∷ ps)) (drop at name) ≡ true → any_tail (matches ps) (drop next name) ≡ true
