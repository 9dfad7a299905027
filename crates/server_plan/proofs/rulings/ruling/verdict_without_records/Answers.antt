use Rattle.server_plan.proofs.rulings.Ruled.{other, said_without, unsaid_without}
use Rattle.server_plan.proofs.rulings.ruling.verdict_without_records.Goals as goal

pub returns-in-Says : goal.returns-in-Says
returns-in-Says c = said_without c.args.asked.now _ _ c.args.verdict c.without_room.result c.in-Says.is c.without_room.ensures

pub returns-in_default : goal.returns-in_default
returns-in_default c = unsaid_without c.args.asked.now c.args.verdict (other c.args.asked.now c.in_default.not-Says)
