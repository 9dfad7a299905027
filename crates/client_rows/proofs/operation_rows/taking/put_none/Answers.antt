use Rattle.std.proofs.Common.{List, [], ◌∷◌, ◌++◌, ap, ◌∙◌}
use Rattle.client_rows.specs.declared.operation_rows.row.Row.{Row}
use Rattle.client_rows.proofs.operation_rows.taking.put_none.Goals as goal

pub returns-clause-row : goal.returns-clause-row
returns-clause-row c =
    c.put_row.ensures ∙ ap (λ (xs : List Row). xs ++ c.none.result ∷ []) c.requires.none ∙ ap (λ (r : Row). r ∷ []) c.none.ensures
