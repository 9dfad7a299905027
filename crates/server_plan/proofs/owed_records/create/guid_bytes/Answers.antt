use Rattle.std.proofs.Common.{ℕ, List, ap, ◌∙◌, arith}
use Rattle.spec_wire.specs.messages.Places.{number_of}
use Rattle.server_plan.proofs.owed_records.Told.{guid_again}
use Rattle.server_plan.proofs.owed_records.create.guid_bytes.Goals as goal

pub returns : goal.returns
returns c = ap (λ (b : List ℕ). number_of b) c.to_le_bytes.ensures ∙ guid_again c.args.guid (omega arith)
