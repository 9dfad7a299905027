use Rattle.server_plan.proofs.rulings.Ruled.{able, able_lesser}
use Rattle.server_plan.proofs.rulings.ruling.ruling_law.Goals as goal

pub returns : goal.returns
returns c = record { able = able c.able_law.ensures.able; lesser = able_lesser c.able_law.ensures.lesser }
