-- The items of a chain: each tells in its first 4 bytes how far behind its own beginning the next one is (MS-SMB2 2.2.13.2,
-- MS-FSCC 2.4).
use Rattle.std.specs.Prelude.{ℕ, zero, suc, ◌==◌, Bool, if◌then◌else◌, List, [], ◌∷◌, length, drop, Option, Some, None, option_map}
use Rattle.spec_wire.specs.messages.Places.{number}
use Rattle.spec_wire.specs.messages.Chain.{piece}

-- by what an item's bytes say, and whether the one at the front breaks
module _ {V : Type 0} (value : List ℕ → V) (breaks : List ℕ → Bool) where
  -- the first n items at most; nothing where one breaks, or there are more
  unfoldable pub first_items : ℕ → List ℕ → Option (List V)
  first_items zero m = None
  first_items (suc n) m =
      if breaks m then None
      else if number 4 m 0 == 0 then Some (value (piece m) ∷ [])
      else option_map (λ vs. value (piece m) ∷ vs) (first_items n (drop (number 4 m 0) m))

  -- all items of a chain, where none breaks: no bytes are none, and there are no more than bytes
  unfoldable pub items_in : List ℕ → Option (List V)
  items_in [] = Some []
  items_in (b ∷ bs) = first_items (length (b ∷ bs)) (b ∷ bs)
