-- Texts as lists of their UTF-8 bytes, and paths (MS-FSCC 2.1.5, MS-SMB2 2.2.13).
use Rattle.std.specs.Prelude.{ℕ, ◌-◌, ◌==◌, nat_le, nat_lt, Bool, true, false, not, ◌&&◌, ◌||◌, if◌then◌else◌, List, []}
use Rattle.std.specs.Prelude.{◌∷◌, ◌++◌, sum_by, Option, Some, None}
pub use Rattle.std.specs.Str.{is_utf8, chars}
use Rattle.spec_exchange.specs.Content.{same_bytes}

-- a letter a to z as A to Z
unfoldable pub upper : ℕ → ℕ
upper c = if nat_le 97 c && nat_le c 122 then c - 32 else c

-- equal but for the case of ASCII letters
unfoldable pub same_name : List ℕ → List ℕ → Bool
same_name [] [] = true
same_name [] (y ∷ ys) = false
same_name (x ∷ xs) [] = false
same_name (x ∷ xs) (y ∷ ys) = (upper x == upper y) && same_name xs ys

-- the first stands before the second in byte order of their ASCII upper case
unfoldable pub name_before : List ℕ → List ℕ → Bool
name_before [] [] = false
name_before [] (y ∷ ys) = true
name_before (x ∷ xs) [] = false
name_before (x ∷ xs) (y ∷ ys) = if upper x == upper y then name_before xs ys else nat_lt (upper x) (upper y)

-- a UTF-8 byte begins two, one or no UTF-16 units
unfoldable pub units_of : ℕ → ℕ
units_of b = if nat_le 240 b then 2 else if nat_le 192 b then 1 else if nat_le 128 b then 0 else 1

unfoldable pub utf16_length : List ℕ → ℕ
utf16_length text = sum_by units_of text

-- the part before the last `\`, and nothing where there is none
unfoldable pub parent_from : List ℕ → List ℕ → List ℕ → List ℕ
parent_from found front [] = found
parent_from found front (c ∷ cs) = if c == 92 then parent_from front (front ++ c ∷ []) cs else parent_from found (front ++ c ∷ []) cs

unfoldable pub parent_of : List ℕ → List ℕ
parent_of path = parent_from [] [] path

-- the part behind the last `\`
unfoldable pub leaf_from : List ℕ → List ℕ → List ℕ
leaf_from leaf [] = leaf
leaf_from leaf (c ∷ cs) = if c == 92 then leaf_from [] cs else leaf_from (leaf ++ c ∷ []) cs

unfoldable pub leaf_of : List ℕ → List ℕ
leaf_of path = leaf_from [] path

-- what follows the front, where the text begins with it by ASCII case
unfoldable pub after_name : List ℕ → List ℕ → Option (List ℕ)
after_name [] text = Some text
after_name (x ∷ xs) [] = None
after_name (x ∷ xs) (y ∷ ys) = if upper x == upper y then after_name xs ys else None

unfoldable pub begins_below : Option (List ℕ) → Bool
begins_below None = false
begins_below (Some []) = false
begins_below (Some (c ∷ cs)) = c == 92

-- the path lies below the directory, at any depth; all but the root lie below the root
unfoldable pub is_below : List ℕ → List ℕ → Bool
is_below [] path = not (same_bytes path [])
is_below (d ∷ ds) path = begins_below (after_name (d ∷ ds) path)

-- no control character and none of " * / : < > ? |
unfoldable pub is_plain : ℕ → Bool
is_plain c = nat_le 32 c
    && not ((c == 34) || ((c == 42)
    || ((c == 47) || ((c == 58) || ((c == 60) || ((c == 62) || ((c == 63) || (c == 124))))))))

-- a component: not empty, not `.` and not `..`
unfoldable pub is_component : List ℕ → Bool
is_component name = not (same_bytes name []) && (not (same_bytes name (46 ∷ [])) && not (same_bytes name (46 ∷ 46 ∷ [])))

unfoldable pub components_from : List ℕ → List ℕ → Bool
components_from name [] = is_component name
components_from name (c ∷ cs) = if c == 92 then is_component name && components_from [] cs else is_plain c
    && components_from (name ++ c ∷ []) cs

-- a path of the share: at most 1,024 UTF-16 units in components divided by `\`; the empty path is the root
unfoldable pub is_path : List ℕ → Bool
is_path [] = true
is_path (c ∷ cs) = nat_le (utf16_length (c ∷ cs)) 1024 && components_from [] (c ∷ cs)

unfoldable pub begins_with_backslash : List ℕ → Bool
begins_with_backslash [] = false
begins_with_backslash (c ∷ cs) = c == 92
