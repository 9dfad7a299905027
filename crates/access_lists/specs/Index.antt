-- Rules by the first component of their path: in which of 64 places a path is looked for, and the rules that are found there.
use Rattle.std.specs.Prelude.{ℕ, ◌+◌, ◌*◌, ◌%◌, ◌≡◌, ◌<◌, ◌==◌, Bool, true, if◌then◌else◌, List, [], ◌∷◌, length, get_or}
use Rattle.spec_exchange.specs.Texts.{upper}
use Rattle.access_lists.specs.declared.rules.Rule.{Rule}

-- of a path's first component, by ASCII case
unfoldable pub place_from : ℕ → List ℕ → ℕ
place_from h [] = h
place_from h (c ∷ cs) = if c == 92 then h else place_from ((h * 31 + upper c) % 64) cs

unfoldable pub place_of : List ℕ → ℕ
place_of path = place_from 0 path

-- a rule is looked at for the paths of a place: one of the root for all
unfoldable pub is_reached : List ℕ → ℕ → Bool
is_reached [] h = true
is_reached (c ∷ cs) h = place_of (c ∷ cs) == h

-- the rules that are looked at there, in their order, counted from n on
unfoldable pub reached : ℕ → ℕ → List Rule → List ℕ
reached h n [] = []
reached h n (x ∷ xs) = if is_reached x.path h then n ∷ reached h (n + 1) xs else reached h (n + 1) xs

-- each place has the rules that are looked at there
pub record IsIndex (places : List (List ℕ)) (rules : List Rule) : Type 0 where
  pub count : length places ≡ 64
  pub each : (h : ℕ) → h < 64 → get_or places h [] ≡ reached h 0 rules
