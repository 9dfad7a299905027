-- Which numbers are members, and where each stands.
use Rattle.std.specs.Prelude.{◌≡◌, ℕ, ◌<◌, ◌≤◌, ◌^◌, Bool, true, false, ◌==◌, if◌then◌else◌, nat_lt, List, [], ◌∷◌, length, slice_index}
use Rattle.std.specs.Prelude.{vec_len, vec_capacity}
use Rattle.base_lists.specs.declared.number_set.Members.{Members}

-- how many numbers there are, and how many are members
abbrev pub size : Members → ℕ
size s = length s.places.items

abbrev pub count : Members → ℕ
count s = s.count

-- the number at a place, and the place of a number
abbrev pub member : Members → ℕ → ℕ
member s i = slice_index s.order.items i

abbrev pub place : Members → ℕ → ℕ
place s g = slice_index s.places.items g

abbrev pub has : Members → ℕ → Bool
has s g = nat_lt (place s g) (count s)

-- each number stands at one place
pub record Pairs (n : ℕ) (order places : List ℕ) : Type 0 where
  pub ordered : length order ≡ n
  pub placed : length places ≡ n
  pub number : (i : ℕ) → i < n → slice_index order i < n
  pub place : (g : ℕ) → g < n → slice_index places g < n
  pub there : (i : ℕ) → i < n → slice_index places (slice_index order i) ≡ i
  pub back : (g : ℕ) → g < n → slice_index order (slice_index places g) ≡ g

pub record MembersFit (s : Members) : Type 0 where
  pub pairs : Pairs (size s) s.order.items s.places.items
  pub within : count s ≤ size s
  pub few : size s < 2 ^ 32

-- one number more finds room
abbrev pub HasMemberPlace : Members → Type 0
HasMemberPlace s = (vec_len s.order < vec_capacity s.order) × (vec_len s.places < vec_capacity s.places)

-- a number stands in a list
abbrev pub is_in : ℕ → List ℕ → Bool
is_in n [] = false
is_in n (x ∷ xs) = if x == n then true else is_in n xs
