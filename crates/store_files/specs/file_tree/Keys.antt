-- Keys of the index in order.
use Rattle.std.specs.Prelude.{◌≡◌, ℕ, Bool, true, false, ◌==◌, List, [], ◌∷◌, Option, Some, None, not, ◌&&◌, ◌||◌, is_some, String}
use Rattle.std.specs.Ordering.{is_gt, nat_cmp}
use Rattle.std.specs.String.{string_bytes}
use Rattle.spec_exchange.specs.Table.{has}
use Rattle.std.specs.Cmp.Lexicographic.{slice_cmp}

-- whether the second key begins with the first
unfoldable pub key_begins : List ℕ → List ℕ → Bool
key_begins [] q = true
key_begins (x ∷ xs) [] = false
key_begins (x ∷ xs) (y ∷ ys) = (x == y) && key_begins xs ys

-- the first key stands before the second, or is the same
abbrev pub key_le : List ℕ → List ℕ → Bool
key_le a b = not (is_gt (slice_cmp nat_cmp a b))

-- the least key from a start on at which something is
abbrev pub IsNext : Option (List ℕ) → (List ℕ → Option ℕ) → List ℕ → Type 0
IsNext None at start = (q : List ℕ) → key_le start q ≡ true → at q ≡ None
IsNext (Some k) at start = (key_le start k ≡ true) × (is_some (at k) ≡ true)
    × ((q : List ℕ) → key_le start q ≡ true → is_some (at q) ≡ true → key_le k q ≡ true)

-- the file is named by some key that begins so
abbrev pub below_in : {Y : Type 0} → List ℕ → List (String Y × ℕ) → ℕ → Bool
below_in front [] g = false
below_in front (e ∷ es) g = ((e.1 == g) && key_begins front (string_bytes e.0)) || below_in front es g

-- these are the files of the keys that begin so
abbrev pub AreKeysBelow : (List ℕ → Option ℕ) → List ℕ → List ℕ → Type 0
AreKeysBelow at front fs = (g : ℕ) → (has g fs ≡ true → (q : List ℕ) × (at q ≡ Some g) × (key_begins front q ≡ true))
    × ((q : List ℕ) → at q ≡ Some g → key_begins front q ≡ true → has g fs ≡ true)

-- a name has no backslash
unfoldable pub has_slash : List ℕ → Bool
has_slash [] = false
has_slash (c ∷ cs) = (c == 92) || has_slash cs
