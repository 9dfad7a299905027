use Rattle.conn_core.proofs.reply_sealing.Parts.{unsigned}
use Rattle.conn_core.proofs.reply_sealing.putting.sign_if.Goals as goal

pub returns-in-Some : goal.returns-in-Some
returns-in-Some c = rw c.in-Some.is c.sign_behind.ensures

pub returns-in_default : goal.returns-in_default
returns-in_default c = rw c.in_default.is (unsigned c.args.start c.args.out.now)
