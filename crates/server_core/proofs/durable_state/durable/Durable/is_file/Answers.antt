use Rattle.std.proofs.Common.{sym, ◌∙◌}
use Rattle.server_core.proofs.durable_state.OfFile.{file_on, file_off}
use Rattle.server_core.proofs.durable_state.durable.Durable.is_file.Goals as goal

pub returns-then-exists : goal.returns-then-exists
returns-then-exists c = λ s h.
    let e = sym (c.exists.ensures s h.files) ∙ c.if-exists.true in
    file_on s c.args.file c.is_directory.result e (c.is_directory.ensures s h.files e)

pub returns-else-exists : goal.returns-else-exists
returns-else-exists c = λ s h. c.if-exists.false ∙ file_off s c.args.file (sym (c.exists.ensures s h.files) ∙ c.if-exists.false)
