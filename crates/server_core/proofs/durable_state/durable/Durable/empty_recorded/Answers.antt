use Rattle.std.proofs.Common.{sym, ◌∙◌}
use Rattle.server_core.proofs.durable_state.Making.{emptied_shown}
use Rattle.server_core.proofs.durable_state.OfFile.{file_there, file_plain}
use Rattle.server_core.proofs.durable_state.durable.Durable.empty_recorded.Goals as goal

pub returns-then-not-is_file : goal.returns-then-not-is_file
returns-then-not-is_file c = λ s h. (sym c.if-not-is_file.true ∙ c.is_file.ensures s h, h)

pub returns : goal.returns
returns c = λ s h.
    let f = sym (c.is_file.ensures s h) ∙ c.if-not-is_file.false in (
      sym f,
      emptied_shown c.args.self.now c.empty.new.self s c.args.made.now.file c.args.made.now.attributes c.args.made.now.time h
          (c.empty.ensures.shown s h.files (file_there s c.args.made.now.file f) (file_plain s c.args.made.now.file f)),
    )
