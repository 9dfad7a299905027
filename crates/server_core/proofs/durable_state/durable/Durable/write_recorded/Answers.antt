use Rattle.std.proofs.Common.{not, sym, ◌∙◌}
use Rattle.spec_exchange.specs.Content.{is_empty}
use Rattle.server_core.proofs.durable_state.Choice.{first_off, second_off, not_off}
use Rattle.server_core.proofs.durable_state.OfFile.{write_shown, write_none, is_empty_of, filled_bytes}
use Rattle.spec_exchange.specs.Fold.{is_file}
use Rattle.server_core.proofs.durable_state.durable.Durable.write_recorded.Goals as goal

pub returns-then-not-is_file : goal.returns-then-not-is_file
returns-then-not-is_file c = λ s origin h. write_none c.args.self.now s origin c.args.file c.args.at c.args.bytes.now c.args.time
    (first_off (is_file s c.args.file) _ (sym (c.is_file.ensures s h) ∙ c.if-not-is_file.true)) h

pub returns-then-is_empty : goal.returns-then-is_empty
returns-then-is_empty c = λ s origin h. write_none c.args.self.now s origin c.args.file c.args.at c.args.bytes.now c.args.time
    (second_off (is_file s c.args.file) _ (first_off (not (is_empty c.args.bytes.now)) _ (not_off (is_empty c.args.bytes.now)
    (is_empty_of c.args.bytes.now c.is_empty.result c.is_empty.ensures ∙ c.if-is_empty.true)))) h

pub returns : goal.returns
returns c = λ s origin h. write_shown c.write.result c.unless_memory.result c.args.self.now c.write.new.self s origin c.args.file c.args.at
    c.args.bytes.now c.args.time h (sym (c.is_file.ensures s h) ∙ c.if-not-is_file.false)
    (is_empty_of c.args.bytes.now c.is_empty.result c.is_empty.ensures ∙ c.if-is_empty.false)
    (c.write.ensures.done (filled_bytes c.args.bytes.now (sym c.is_empty.ensures ∙ c.if-is_empty.false))) c.unless_memory.ensures
