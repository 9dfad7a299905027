use Rattle.std.proofs.Common.{Bool, ◌&&◌, sym, ap, ◌∙◌}
use Rattle.spec_world.specs.Dialog.{is_dialogs}
use Rattle.client_ends.proofs.response_faults.Forms.{other_number, same_number}
use Rattle.client_ends.proofs.response_faults.form.is_asked.Goals as goal

pub returns-then-same : goal.returns-then-same
returns-then-same c = λ n s.
    let h = c.args.header.now in
    c.waits.ensures n s
    ∙ ap (λ (b : Bool). b && is_dialogs (n.awaited h.message)) (sym (same_number h.command c.args.command c.if-same.true))

pub returns-else-same : goal.returns-else-same
returns-else-same c = λ n s.
    let h = c.args.header.now in
    ap (λ (b : Bool). b && is_dialogs (n.awaited h.message)) (sym (other_number h.command c.args.command c.if-same.false))
