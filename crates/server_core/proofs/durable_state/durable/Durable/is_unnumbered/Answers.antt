use Rattle.std.proofs.Common.{sym, ◌∙◌}
use Rattle.server_core.proofs.durable_state.ByPiece.{began, first_number, numbered_open}
use Rattle.server_core.proofs.durable_state.durable.Durable.is_unnumbered.Goals as goal

pub returns-then-self-ne0 : goal.returns-then-self-ne0
returns-then-self-ne0 c = λ s h. began s c.args.self.now.epoch h.epoch_is c.if-self-ne0.true

pub returns-then-given-ne0 : goal.returns-then-given-ne0
returns-then-given-ne0 c = λ s h. numbered_open s c.given.result (c.given.ensures s h.opens) c.if-given-ne0.true

pub returns : goal.returns
returns c = λ s h. first_number s c.next_file.result (h.epoch_is ∙ c.if-self-ne0.false)
    (sym (c.given.ensures s h.opens) ∙ c.if-given-ne0.false) (c.next_file.ensures.shown s h.files)
