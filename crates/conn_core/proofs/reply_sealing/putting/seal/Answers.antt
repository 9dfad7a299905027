use Rattle.conn_core.proofs.reply_sealing.putting.seal.Goals as goal

pub returns-in-Some : goal.returns-in-Some
returns-in-Some c = rw c.in-Some.is c.seal_by.ensures

pub returns-in-None : goal.returns-in-None
returns-in-None c = rw c.in-None.is (λ h. h)
