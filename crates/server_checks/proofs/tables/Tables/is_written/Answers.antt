use Rattle.std.proofs.Common.{ℕ, ap, sym, ◌∙◌}
use Rattle.std.proofs.lemmas.Result.{IfOk-weaker}
use Rattle.wire_commands.specs.values.Meaning.{message_of}
use Rattle.spec_exchange.specs.Content.{same_bytes, written}
use Rattle.server_checks.proofs.Writes.{bytes_repeated}
use Rattle.server_checks.proofs.tables.Tables.is_written.Goals as goal

pub returns : goal.returns
returns c = λ s o t e x. IfOk-weaker c.holds.result _ _
    (λ b h. h s t.files x
    ∙ (ap (λ (g : ℕ). same_bytes (written c.args.at c.args.bytes.now (s.content g)) (s.content g)) e
    ∙ bytes_repeated s (message_of c.args.m.now) o c.args.at c.args.bytes.now c.if-not-m.false
    (sym c.is_empty.ensures ∙ c.if-is_empty.false))) c.holds.ensures
