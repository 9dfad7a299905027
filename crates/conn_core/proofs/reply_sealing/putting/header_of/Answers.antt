use Rattle.std.proofs.Common.{ℕ, ◌+◌, ◌∙◌, if◌then◌else◌, ap, arith}
use Rattle.spec_wire.specs.messages.Places.{gap_to_8}
use Rattle.conn_core.proofs.reply_sealing.Headers.{header_due}
use Rattle.conn_core.proofs.reply_sealing.putting.header_of.Goals as goal

pub next_if-next-requires : goal.next_if-next-requires
next_if-next-requires c = omega (arith, c.size.ensures, c.requires.1)

pub flags_if-flags-requires : goal.flags_if-flags-requires
flags_if-flags-requires c = c.requires.0

pub returns : goal.returns
returns c = λ r said.
    header_due c.args.more c.args.signs c.args.said.now r c.next_if-next.result c.flags_if-flags.result said
    (c.next_if-next.ensures ∙ ap (λ (k : ℕ). if c.args.more then k + gap_to_8 k else 0) c.size.ensures)
    c.flags_if-flags.ensures
