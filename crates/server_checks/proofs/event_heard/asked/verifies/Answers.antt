use Rattle.server_checks.proofs.event_heard.Made.{absent, live}
use Rattle.server_checks.proofs.event_heard.asked.verifies.Goals as goal

pub returns-in-Some : goal.returns-in-Some
returns-in-Some c = λ s L t l.
    live s c.args.session _ (L.keys c.args.session) c.args.bytes.now _ c.is_signed.ensures (c.in-Some.ensures.shows s t)
    (c.in-Some.ensures.keys L.keys L.pending l)

pub returns-in-None : goal.returns-in-None
returns-in-None c = λ s L t l. absent s c.args.session _ (c.in-None.ensures.shows s t)
