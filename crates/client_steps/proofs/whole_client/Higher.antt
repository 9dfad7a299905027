-- One operation more among those of its open.
use Rattle.std.proofs.Common.{◌≡◌, ℕ, zero, suc, ◌<◌, ◌≤◌, Bool, true, List, [], ◌∷◌, ◌++◌, length, refl, sym, subst, arith}
use Rattle.client_values.specs.declared.operations.shapes.Kind.{Kind}
use Rattle.client_values.specs.declared.operations.shapes.Kind.TheVariants as kinds
use Rattle.client_rows.specs.declared.operation_rows.row.Row.{Row}
use Rattle.client_rows.specs.operation_rows.Rows.{owner}
use Rattle.client_rows.specs.open_marks.Marks.{IsHighest, is_create_kind}
use Rattle.client_tables.specs.whole_table.Shown.{AreRowsOwned}
use Rattle.client_steps.specs.unsent.Ascending.{Ascends}
use Rattle.client_steps.specs.submitting.Marked.{AddsOne}

within_zero : (n : ℕ) → zero ≤ n
within_zero n = omega arith

within_more : (x n : ℕ) → x < n → x ≤ n
within_more x n l = omega arith

some_one : (x : ℕ) → 0 < suc x
some_one x = omega arith

no_less : (x : ℕ) → x < x → ⊥
no_less x l = omega arith

itself_not : (x n : ℕ) → x < n → x ≡ n → ⊥
itself_not x n l e = omega arith

pub highest_within : (o : ℕ → ℕ) (such : ℕ → Bool) (create n m : ℕ) → IsHighest o such create n m → m ≤ n
highest_within o such create n zero i = within_zero n
highest_within o such create n (suc m) i = within_more (suc m) n (i.below (some_one m))

-- of a create to come there is none
pub none_highest : (rows : List Row) → AreRowsOwned rows → IsHighest (owner rows) (λ h. true) (length rows) (length rows) 0
none_highest rows owned =
    record {
      below = λ p. absurd (no_less 0 p);
      own = λ p. absurd (no_less 0 p);
      is = λ p. refl;
      none = λ h l k e. absurd (itself_not (owner rows h) (length rows) (owned h l k).1 e);
    }

pub ascends_one : (rows new : List Row) (create : ℕ) (later : List ℕ) → AddsOne rows new create
    → ((r : Row) → r.create ≡ create → Ascends (rows ++ r ∷ []) later) → Ascends new later
ascends_one rows new create later w f = subst (λ (xs : List Row). Ascends xs later) (sym w.1) (f w.0 w.2)

pub create_of_kind : (k : Kind) → is_create_kind k ≡ true → k ≡ kinds.Create
create_of_kind kinds.Create e = refl
create_of_kind kinds.Write e = absurd (cc)
create_of_kind kinds.Read e = absurd (cc)
create_of_kind kinds.End e = absurd (cc)
create_of_kind kinds.Change e = absurd (cc)
create_of_kind kinds.Lock e = absurd (cc)
create_of_kind kinds.Look e = absurd (cc)
create_of_kind kinds.List e = absurd (cc)
create_of_kind kinds.Close e = absurd (cc)

pub same_ascends : (rows new : List Row) (later : List ℕ) → new ≡ rows → Ascends rows later → Ascends new later
same_ascends rows new later e a = subst (λ (xs : List Row). Ascends xs later) (sym e) a
