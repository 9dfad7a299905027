use Rattle.std.proofs.Common.{◌&&◌, not, sym, ◌∙◌}
use Rattle.spec_exchange.specs.Content.{ended}
use Rattle.spec_exchange.specs.Files.{passes_room, set_content}
use Rattle.spec_exchange.specs.State.{Server}
use Rattle.server_core.specs.durable_state.Durable.{DurableShown}
use Rattle.spec_exchange.specs.Fold.{is_file}
use Rattle.server_core.proofs.durable_state.Choice.{off, first_off}
use Rattle.server_core.proofs.durable_state.OfFile.{end_shown}
use Rattle.server_core.proofs.durable_state.durable.Durable.end_recorded.Goals as goal

pub returns-then-not-is_file : goal.returns-then-not-is_file
returns-then-not-is_file c = λ s origin h. off (λ (u : Server). DurableShown c.args.self.now u)
    (is_file s c.args.file && not (passes_room s c.args.file c.args.length))
    (set_content s c.args.file (ended c.args.length (s.content c.args.file)) c.args.time) s (first_off (is_file s c.args.file) _
    (sym (c.is_file.ensures s h) ∙ c.if-not-is_file.true)) h

pub returns : goal.returns
returns c = λ s origin h. end_shown c.set_end.result c.unless_memory.result c.args.self.now c.set_end.new.self s origin
    c.args.file c.args.length
    c.args.time h (sym (c.is_file.ensures s h) ∙ c.if-not-is_file.false) c.set_end.ensures.shown c.unless_memory.ensures
