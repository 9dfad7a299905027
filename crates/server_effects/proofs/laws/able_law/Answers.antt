use Rattle.server_effects.proofs.Checks.{able_behind, lesser_behind}
use Rattle.server_effects.proofs.laws.able_law.Goals as goal

pub returns : goal.returns
returns c = record { able = able_behind; lesser = lesser_behind }
