-- Items one behind the other: each tells in its first 4 bytes how far behind its own beginning the next one is, the last
-- one tells 0 (MS-SMB2 2.2.13.2, MS-FSCC 2.4).
use Rattle.std.specs.Prelude.{◌≡◌, ℕ, zero, suc, ◌+◌, ◌%◌, ◌==◌, nat_lt, Bool, false, not, ◌&&◌, ◌||◌, if◌then◌else◌}
use Rattle.std.specs.Prelude.{List, [], ◌∷◌, ◌++◌, length, take, drop, Option, Some, None}
use Rattle.spec_wire.specs.messages.Places.{number, le, gap_to_8}

-- it tells of a next one that isn't at a multiple of 8 or is past the end
unfoldable pub is_badly_linked : List ℕ → Bool
is_badly_linked m = not (number 4 m 0 == 0) && (not (number 4 m 0 % 8 == 0) || nat_lt (length m) (number 4 m 0))

-- the bytes of the first item: up to the next one, or all where there is none
unfoldable pub piece : List ℕ → List ℕ
piece m = if number 4 m 0 == 0 then m else take (number 4 m 0) m

module _ {V : Type 0} (Is : List ℕ → V → Type 0) where
  -- m is this item and those behind it
  abbrev pub IsChain : List ℕ → V → List V → Type 0
  IsChain m v [] = (number 4 m 0 ≡ 0) × (is_badly_linked m ≡ false) × Is (piece m) v
  IsChain m v (w ∷ ws) = (number 4 m 0 ≡ 0 → ⊥) × (is_badly_linked m ≡ false) × Is (piece m) v × IsChain (drop (number 4 m 0) m) w ws

  -- m is these items; no bytes are none
  abbrev pub IsChainOf : List ℕ → List V → Type 0
  IsChainOf m [] = m ≡ []
  IsChainOf m (v ∷ vs) = IsChain m v vs

module _ {E : Type 0} (fault : List ℕ → Option E) where
  -- the item behind so many others, each of which breaks nothing and tells of a next one, has this break
  abbrev pub BreaksBehind : ℕ → List ℕ → E → Type 0
  BreaksBehind zero m e = fault m ≡ Some e
  BreaksBehind (suc n) m e = (fault m ≡ None) × (number 4 m 0 ≡ 0 → ⊥) × BreaksBehind n (drop (number 4 m 0) m) e

  -- the first break of a chain; no bytes have none
  pub record BreaksChain (m : List ℕ) (e : E) : Type 0 where
    pub some : m ≡ [] → ⊥
    pub count : ℕ
    pub break : BreaksBehind count m e

-- Items written: each but the last begins the next one at the next multiple of 8. `item` is one written with the place of
-- the next one, `size` its length.
module _ {V : Type 0} (item : V → ℕ → List ℕ) (size : V → ℕ) where
  abbrev pub linked : V → List V → List ℕ
  linked v [] = item v 0
  linked v (w ∷ ws) = item v (size v + gap_to_8 (size v)) ++ le (gap_to_8 (size v)) 0

  abbrev pub chain_spelling : List V → List ℕ
  chain_spelling [] = []
  chain_spelling (v ∷ vs) = linked v vs ++ chain_spelling vs
