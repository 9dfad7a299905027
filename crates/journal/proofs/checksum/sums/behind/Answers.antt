use Rattle.std.proofs.Common.{ℕ, ◌/◌, sym, ◌∙◌, ap, arith}
use Rattle.std.specs.Int.Bits.{bit_xor}
use Rattle.journal.proofs.checksum.Steps.{byte_behind}
use Rattle.journal.proofs.checksum.sums.behind.Goals as goal

pub returns : goal.returns
returns c =
    ap (λ (x : ℕ). bit_xor (c.args.left / 256) x) c.left_of.ensures ∙ sym (byte_behind c.args.left c.args.byte (omega arith))
