-- Blocks of 128 prices.
use Rattle.std.proofs.Common.{◌≡◌, ℕ, ◌+◌, ◌*◌, ◌/◌, ◌%◌, ◌-◌, ◌<◌, ◌≤◌, ◌∷◌, [], ◌++◌, List, length, slice_index, take}
use Rattle.std.proofs.Common.{drop, set, arith, min, subst, sym, ◌∙◌, ◌⊎◌, inl, inr}
use Rattle.std.proofs.lemmas.Grind.{common_steps}
use Rattle.std.proofs.lemmas.List.{get_or-drop, get_or-take, get_or-set_same}
use Rattle.base_lists.specs.price_table.Prices.{AllAbove, Before, IsFirstPrice, PriceBounds}

-- a piece that is looked at
abbrev pub piece : ℕ → ℕ → List ℕ → List ℕ
piece start end prices = take (end - start) (drop start prices)

pub piece_at : (start end i : ℕ) (prices : List ℕ) → i < end - start
    → slice_index (piece start end prices) i ≡ slice_index prices (start + i)
piece_at start end i prices h = get_or-take (end - start) (drop start prices) i 0 h ∙ get_or-drop start prices i 0

pub piece_length : (start end : ℕ) (prices : List ℕ) → end ≤ length prices → length (piece start end prices) ≡ end - start
piece_length start end prices h = grind (arith, common_steps)

-- a block whose bound is above the limit has no price that it pays
pub skips : (limit from b : ℕ) (prices lows : List ℕ) → PriceBounds prices lows → limit < slice_index lows b
    → Before limit prices from b → Before limit prices from (b + 1)
skips limit from b prices lows h above done i behind within below = grind (arith, h.low i within, done i behind within)

-- what stands before n in a piece stands before start + n
pub joined : (limit from start end n : ℕ) (prices : List ℕ) → n ≤ end - start
    → AllAbove limit (piece start end prices) 0 n → ((i : ℕ) → from ≤ i → i < start → limit < slice_index prices i)
    → AllAbove limit prices from (start + n)
joined limit from start end n prices h found done i behind below =
    let case : (i < start) ⊎ (start ≤ i) = grind arith in
    elim case [
      | inl k ↦ done i behind k
      | inr k ↦
          let at : start + (i - start) ≡ i = omega arith in
          subst (λ j. limit < slice_index prices j) at
          (subst (λ j. limit < j) (piece_at start end (i - start) prices (omega arith))
          (found (i - start) (omega arith) (omega arith)))
    ]

-- a block that was searched has none
pub searched : (limit from b end : ℕ) (prices : List ℕ) → b * 128 ≤ length prices
    → end ≡ min (length prices) (b * 128 + 128)
    → AllAbove limit (piece (b * 128) end prices) 0 (length (piece (b * 128) end prices)) → Before limit prices from b
    → Before limit prices from (b + 1)
searched limit from b end prices begun is found done i behind within below =
    let l = piece_length (b * 128) end prices (omega arith) in
    joined limit from (b * 128) end (end - b * 128) prices (omega arith) (λ j z k. found j z (omega (arith, l)))
    (λ j f k. done j f (omega arith) k) i behind (omega arith)

-- one that was found in a piece is the first of all
pub first_found : (limit from start end i : ℕ) (prices : List ℕ) → from ≤ start → end ≤ length prices
    → IsFirstPrice limit (piece start end prices) 0 i → ((j : ℕ) → from ≤ j → j < start → limit < slice_index prices j)
    → IsFirstPrice limit prices from (start + i)
first_found limit from start end i prices ahead is f done =
    let l = piece_length start end prices is in
    let inside : i < end - start = (let w = f.within in omega arith) in
    record {
      behind = omega arith;
      within = omega arith;
      paid = subst (λ n. n ≤ limit) (piece_at start end i prices inside) f.paid;
      above = joined limit from start end i prices (omega arith) f.above done;
    }

three : (a b : ℕ) → (a ≡ b) ⊎ ((a < b) ⊎ (b < a))
three a b = grind arith

pub set_bounds : (index price low end : ℕ) (prices lows : List ℕ) → low ≤ 255 → index < length prices
    → end ≡ min (length prices) (index / 128 * 128 + 128) → PriceBounds prices lows
    → ((i : ℕ) → i < length (piece (index / 128 * 128) end (set prices index price))
    → low ≤ slice_index (piece (index / 128 * 128) end (set prices index price)) i)
    → PriceBounds (set prices index price) (set lows (index / 128) low)
set_bounds index price low end prices lows fits inside is h found =
    record {
      few = grind (arith, common_steps, h.few);
      enough = grind (arith, common_steps, h.enough);
      low = below;
      most = λ b. grind (arith, common_steps, h.most b);
    }
  where
    below : (i : ℕ) → i < length (set prices index price)
        → slice_index (set lows (index / 128) low) (i / 128) ≤ slice_index (set prices index price) i
    below i within =
        let w : i < length prices = grind (arith, common_steps) in
        let b : index / 128 < length lows = (let e = h.enough in omega arith) in
        let case : (i / 128 ≡ index / 128) ⊎ ((i / 128 < index / 128) ⊎ (index / 128 < i / 128)) = three (i / 128) (index / 128) in
        let n : length (set prices index price) ≡ length prices = grind (arith, common_steps) in
        elim case [
          | inl e ↦
              let l = piece_length (index / 128 * 128) end (set prices index price) (omega arith) in
              let small : i - index / 128 * 128 < end - index / 128 * 128 = omega arith in
              let at : index / 128 * 128 + (i - index / 128 * 128) ≡ i = omega arith in
              let f = found (i - index / 128 * 128) (omega (arith, l)) in
              let p = piece_at (index / 128 * 128) end (i - index / 128 * 128) (set prices index price) small in
              rw (e, get_or-set_same lows (index / 128) low 0 b)
              (subst (λ n. low ≤ slice_index (set prices index price) n) at (subst (λ n. low ≤ n) p f))
          | inr e ↦ grind (arith, common_steps, h.low i w)
        ]

pub push_bounds : (prices lows : List ℕ) → (length prices % 128 ≡ 0 → ⊥) → PriceBounds prices lows → PriceBounds (prices ++ 255 ∷ []) lows
push_bounds prices lows odd h =
    record {
      few = grind (arith, common_steps, h.few);
      enough = grind (arith, common_steps, h.enough, odd);
      low = below;
      most = h.most;
    }
  where
    below : (i : ℕ) → i < length (prices ++ 255 ∷ []) → slice_index lows (i / 128) ≤ slice_index (prices ++ 255 ∷ []) i
    below i within =
        let case : (i < length prices) ⊎ (i ≡ length prices) = grind (arith, common_steps) in
        elim case [ inl l ↦ grind (arith, common_steps, h.low i l) | inr e ↦ grind (arith, common_steps, h.most (i / 128)) ]

-- blocks whose bounds are above the limit have no price that it pays
pub skips_many : (limit from b c : ℕ) (prices lows : List ℕ) → PriceBounds prices lows → AllAbove limit lows b c
    → Before limit prices from b → Before limit prices from c
skips_many limit from b c prices lows h above done i behind within below =
    let case : (i < b * 128) ⊎ (b * 128 ≤ i) = grind arith in
    elim case [
      | inl k ↦ done i behind within k
      | inr k ↦ (let a = above (i / 128) (omega arith) (omega arith) in let l = h.low i within in omega arith)
    ]

-- and none behind the last block
pub skips_all : (limit from b : ℕ) (prices lows : List ℕ) → PriceBounds prices lows → AllAbove limit lows b (length lows)
    → Before limit prices from b → AllAbove limit prices from (length prices)
skips_all limit from b prices lows h above done i behind within =
    skips_many limit from b (length lows) prices lows h above done i behind within (let e = h.enough in omega arith)

-- a price that is no more than its block's bound becomes the bound
pub lower_bounds : (index price : ℕ) (prices lows : List ℕ) → price ≤ slice_index lows (index / 128)
    → index < length prices → PriceBounds prices lows → PriceBounds (set prices index price) (set lows (index / 128) price)
lower_bounds index price prices lows less inside h =
    record {
      few = grind (arith, common_steps, h.few);
      enough = grind (arith, common_steps, h.enough);
      low = below;
      most = most;
    }
  where
    most : (b : ℕ) → slice_index (set lows (index / 128) price) b ≤ 255
    most b = (let m = h.most b in let n = h.most (index / 128) in grind (arith, common_steps))

    below : (i : ℕ) → i < length (set prices index price)
        → slice_index (set lows (index / 128) price) (i / 128) ≤ slice_index (set prices index price) i
    below i within =
        let w : i < length prices = grind (arith, common_steps) in
        let b : index / 128 < length lows = (let e = h.enough in omega arith) in
        let case : (i / 128 ≡ index / 128) ⊎ ((i / 128 < index / 128) ⊎ (index / 128 < i / 128)) = three (i / 128) (index / 128) in
        elim case [
          | inl e ↦ (let l = h.low i w in let k : slice_index lows (index / 128) ≤ slice_index prices i = rw (sym e) l
              in rw (e, get_or-set_same lows (index / 128) price 0 b) (grind (arith, common_steps)))
          | inr e ↦ grind (arith, common_steps, h.low i w)
        ]
