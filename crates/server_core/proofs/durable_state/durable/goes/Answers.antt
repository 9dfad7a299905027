use Rattle.std.proofs.Common.{◌==◌, ◌&&◌, not, sym, ◌∙◌}
use Rattle.spec_exchange.specs.Files.{exists}
use Rattle.spec_exchange.specs.Opens.{file_has_open}
use Rattle.server_core.proofs.durable_state.Choice.{all_three, first_off, second_off, not_on, not_off, eq_on, eq_off}
use Rattle.server_core.proofs.durable_state.durable.goes.Goals as goal

pub returns-then-file-eq0 : goal.returns-then-file-eq0
returns-then-file-eq0 c = λ s h o.
    sym (first_off (not (c.args.file == 0)) _ (not_off (c.args.file == 0) (eq_on c.args.file 0 c.if-file-eq0.true)))

pub returns-then-not-is_pending : goal.returns-then-not-is_pending
returns-then-not-is_pending c = λ s h o.
    sym (second_off (not (c.args.file == 0)) _ (first_off (exists s c.args.file && s.delete_pending c.args.file) _
    (sym (c.is_pending.ensures s h) ∙ c.if-not-is_pending.true)))

pub returns : goal.returns
returns c = λ s h o. all_three (not (c.args.file == 0)) (exists s c.args.file && s.delete_pending c.args.file) (file_has_open s c.args.file)
    c.has_open.result (not_on (c.args.file == 0) (eq_off c.args.file 0 c.if-file-eq0.false))
    (sym (c.is_pending.ensures s h) ∙ c.if-not-is_pending.false)
    (c.has_open.ensures s o)
