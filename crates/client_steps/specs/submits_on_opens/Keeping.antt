-- What an open keeps of its operations, and a row more.
use Rattle.std.specs.Prelude.{◌≡◌, ℕ, List, [], ◌∷◌, ◌++◌}
use Rattle.spec_exchange.specs.Operations.{Op}
use Rattle.client_values.specs.declared.operations.shapes.Kind.{Kind}
use Rattle.client_values.specs.operations.Waiting.{at_of, size_of}
use Rattle.client_rows.specs.declared.operation_rows.row.Row.{Row}
use Rattle.base_lists.specs.range_index.Shown.{top}
use Rattle.client_tables.specs.declared.opens.opening.Open.{Open}
use Rattle.client_tables.specs.opens.Opened.{ShowsOpen}

-- an open keeps what it should of the first n rows
abbrev pub SubmitKeeps : List Row → (n : ℕ) → (ℕ → Op) → (create : ℕ) → Open → Type 0
SubmitKeeps rows n op create m = ShowsOpen rows (λ x. at_of (op x)) (λ x. size_of (op x)) create n m.marks (top m.written) (top m.locked)

-- one row more, of an operation of this kind on this open
abbrev pub IsMore : (old new : List Row) → (create open_at : ℕ) → Kind → Type 0
IsMore old new create open_at kind =
    (r : Row) × (new ≡ old ++ r ∷ []) × (r.create ≡ create) × (r.«open» ≡ open_at) × (r.kind ≡ kind)
