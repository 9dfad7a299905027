use Rattle.std.proofs.Common.{rules, [], ◌∷◌, List, sym, ap, ◌∙◌, subst}
use Rattle.atomic_table.specs.Table.{opening}
use Rattle.serve_turns.specs.declared.shared_book.view.Slot.{Slot}
use Rattle.serve_turns.specs.declared.shared_book.view.Slot.TheVariants.{Opening}
use Rattle.serve_turns.specs.shared_book.Turns.{first_view, Kept}
use Rattle.serve_turns.proofs.shared_book.Seating.{starts}
use Rattle.serve_turns.proofs.shared_book.shared.SharedBook+B.new.Goals as goal

pub new-requires : goal.new-requires
new-requires g c =
    let x = c.of-opening.result.value in
    subst (λ (l : List (Slot g.row.B.Denot g.row.B-Event.Denot g.row.B-Reply.Denot)).
    Kept g.B.Book.steps x (opening (0 ∷ 0 ∷ 0 ∷ 1 ∷ []) l (first_view x)))
    (ap (λ z. Opening z ∷ []) c.of-opening.ensures ∙ sym (search rules)) (starts g.B.Book.steps x)
