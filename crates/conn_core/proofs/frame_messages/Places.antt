-- Messages that stand one behind the other: each has its bytes, and no two of them share one.
use Rattle.std.proofs.Common.{◌≡◌, ℕ, zero, suc, ◌+◌, ◌≤◌, ◌<◌, List, [], ◌∷◌, Option, Some, None, length, slice_get, ◌⊎◌, inl, inr}
use Rattle.std.proofs.Common.{refl, ap, subst, arith}
use Rattle.conn_core.specs.declared.frame_messages.checked.Checked.{Checked}
use Rattle.conn_core.specs.declared.frame_messages.checked.CheckedFrame.{CheckedFrame}
use Rattle.conn_core.specs.frame_messages.Checking.{InOrder, AreInOrder, AllHaveMessages, places_of}

abbrev or_this : Checked → Option Checked → Checked
or_this d None = d
or_this d (Some m) = m

some_same : (m n : Checked) → Some m ≡ Some n → m ≡ n
some_same m n e = ap (λ (o : Option Checked). or_this m o) e

-- ---- each has its bytes

has_place : (at size : ℕ) (ms : List Checked) (i : ℕ) → InOrder at size (places_of ms) → i < length ms
    → (m : Checked) × (slice_get ms i ≡ Some m) × (m.span.start + 64 ≤ m.span.end) × (m.span.end ≤ size)
has_place at size [] i o less = absurd (omega (arith, less))
has_place at size (m ∷ ms) zero o less = (m, refl, o.1, o.2)
has_place at size (m ∷ ms) (suc i) o less = has_place m.span.end size ms i o.3 (omega (arith, less))

pub each_has : (x : CheckedFrame) → AreInOrder x → AllHaveMessages x
each_has x o = λ at less. has_place 0 (length x.bytes.items) x.messages.items at o less

-- ---- no two share one

from_place : (at size : ℕ) (ms : List Checked) (j : ℕ) (n : Checked) → InOrder at size (places_of ms) → slice_get ms j ≡ Some n
    → at ≤ n.span.start
from_place at size [] zero n o e = absurd cc
from_place at size [] (suc j) n o e = absurd cc
from_place at size (m ∷ ms) zero n o e = subst (λ (x : Checked). at ≤ x.span.start) (some_same m n e) o.0
from_place at size (m ∷ ms) (suc j) n o e =
    let first : at ≤ m.span.start = o.0 in
    let long : m.span.start + 64 ≤ m.span.end = o.1 in
    let behind : m.span.end ≤ n.span.start = from_place m.span.end size ms j n o.3 e in
    omega (arith, first, long, behind)

pub apart : (at size : ℕ) (ms : List Checked) (i j : ℕ) (m n : Checked) → InOrder at size (places_of ms) → (i ≡ j → ⊥)
    → slice_get ms i ≡ Some m → slice_get ms j ≡ Some n → (m.span.end ≤ n.span.start) ⊎ (n.span.end ≤ m.span.start)
apart at size [] zero j m n o differs e f = absurd cc
apart at size [] (suc i) j m n o differs e f = absurd cc
apart at size (x ∷ xs) zero zero m n o differs e f = absurd (differs refl)
apart at size (x ∷ xs) zero (suc j) m n o differs e f =
    inl (subst (λ (y : Checked). y.span.end ≤ n.span.start) (some_same x m e) (from_place x.span.end size xs j n o.3 f))
apart at size (x ∷ xs) (suc i) zero m n o differs e f =
    inr (subst (λ (y : Checked). y.span.end ≤ m.span.start) (some_same x n f) (from_place x.span.end size xs i m o.3 e))
apart at size (x ∷ xs) (suc i) (suc j) m n o differs e f =
    apart x.span.end size xs i j m n o.3 (λ same. differs (ap (λ (k : ℕ). suc k) same)) e f
