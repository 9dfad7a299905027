-- Marks that are below a number.
use Rattle.std.proofs.Common.{◌≡◌, ℕ, ◌<◌, Bool, true, false, if◌then◌else◌, sym, subst, arith}
use Rattle.client_values.specs.declared.operations.shapes.Kind.{Kind}
use Rattle.client_values.specs.declared.operations.shapes.Kind.TheVariants as kinds
use Rattle.client_rows.specs.declared.open_marks.marks.Marks.{Marks}
use Rattle.client_rows.specs.open_marks.Marks.{AreMarksBelow, mark_of}

either_below : (b : Bool) (x y n : ℕ) → x < n → y < n → (if b then x else y) < n
either_below true x y n p q = p
either_below false x y n p q = q

pub raised_below : (b : Bool) (x y r n : ℕ) → r ≡ (if b then x else y) → x < n → y < n → r < n
raised_below b x y r n e p q = subst (λ z. z < n) (sym e) (either_below b x y n p q)

some_below : (x n : ℕ) → x < n → 0 < n
some_below x n l = omega arith

-- the one at which a new operation looks
pub mark_below : (k : Kind) (m : Marks) (n : ℕ) → AreMarksBelow m n → mark_of k m < n
mark_below kinds.Create m n b = some_below m.last n b.last
mark_below kinds.Write m n b = b.barrier
mark_below kinds.Read m n b = b.end
mark_below kinds.End m n b = some_below m.last n b.last
mark_below kinds.Change m n b = some_below m.last n b.last
mark_below kinds.Lock m n b = some_below m.last n b.last
mark_below kinds.Look m n b = b.end
mark_below kinds.List m n b = some_below m.last n b.last
mark_below kinds.Close m n b = some_below m.last n b.last
