use Rattle.std.proofs.Common.{Bool, ◌==◌, ◌&&◌, sym, ap, ◌∙◌}
use Rattle.spec_world.specs.Dialog.{is_dialogs}
use Rattle.client_ends.proofs.response_faults.form.answers.Goals as goal

pub returns-then-responds : goal.returns-then-responds
returns-then-responds c = λ n s.
    let h = c.args.header.now in
    c.is_asked.ensures n s
    ∙ ap (λ (b : Bool). b && ((h.command == c.args.command) && is_dialogs (n.awaited h.message)))
    (sym c.if-responds.true ∙ c.is_response-responds.ensures)

pub returns-else-responds : goal.returns-else-responds
returns-else-responds c = λ n s.
    let h = c.args.header.now in
    ap (λ (b : Bool). b && ((h.command == c.args.command) && is_dialogs (n.awaited h.message)))
    (sym c.if-responds.false ∙ c.is_response-responds.ensures)
