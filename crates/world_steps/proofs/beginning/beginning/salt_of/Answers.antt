use Rattle.std.proofs.Common.{List, ℕ, ap, sym, ◌∙◌, rules}
use Rattle.wire_bytes.proofs.byte_lists.Endian.{number_of_8}
use Rattle.spec_wire.specs.messages.Places.{number_of}
use Rattle.world_steps.proofs.beginning.beginning.salt_of.Goals as goal

pub returns : goal.returns
returns c = c.read_u64.ensures ∙ (sym (number_of_8 c.draw_8.result (search rules)) ∙ ap (λ (v : List ℕ). number_of v) c.draw_8.ensures)
