-- An operation's stretch of the list, and the settled ones at its end.
use Rattle.std.proofs.Common.{◌≡◌, ℕ, ◌+◌, ◌-◌, ◌<◌, ◌≤◌, false, List, length, set, get_or, refl, ap, sym, ◌∙◌, arith}
use Rattle.base_lists.proofs.price_table.Blocks.{piece, piece_at, piece_length}
use Rattle.client_rows.specs.declared.operation_rows.row.Row.{Row}
use Rattle.client_rows.specs.operation_rows.Rows.{row_at, stands, ends}
use Rattle.client_rows.proofs.operation_rows.Walking.{row_here}

-- the row with another end
abbrev pub cut_off : List Row → ℕ → ℕ → Row
cut_off rows g end = record (row_at rows g) { holders_end = end }

pub end_is : (rows : List Row) (g end : ℕ) → g < length rows → ends (set rows g (cut_off rows g end)) g ≡ end
end_is rows g end h = ap (λ (s : Row). s.holders_end) (row_here rows g (cut_off rows g end) g h refl)

-- those behind what is left are settled
pub settled_in : (rows : List Row) (holders : List ℕ) (b e left : ℕ) → e ≤ length holders
    → ((i : ℕ) → left ≤ i → i < length (piece b e holders) → stands rows (get_or (piece b e holders) i 0) ≡ false)
    → (i : ℕ) → b + left ≤ i → i < e → stands rows (get_or holders i 0) ≡ false
settled_in rows holders b e left l f i h k =
    let n = piece_length b e holders l in
    let j : b + (i - b) ≡ i = omega arith in
    let w : i - b < e - b = omega arith in
    let x : i - b < length (piece b e holders) = omega arith in
    let y : left ≤ i - b = omega arith in
    ap (λ z. stands rows (get_or holders z 0)) (sym j) ∙ sym (ap (λ z. stands rows z) (piece_at b e (i - b) holders w)) ∙ f (i - b) y x
