use Rattle.client_rows.proofs.session_state.Showing.{last_channel, last_sequence}
use Rattle.client_rows.proofs.session_state.session.Session.is_last.Goals as goal

pub returns-then-self-le1-clause-shown : goal.returns-then-self-le1-clause-shown
returns-then-self-le1-clause-shown c = λ d k h l r. last_channel c.args.self.now d k h l r c.if-self-le1.true

pub returns-else-self-le1-clause-shown : goal.returns-else-self-le1-clause-shown
returns-else-self-le1-clause-shown c = λ d k h l r. last_sequence c.args.self.now d k h l r c.if-self-le1.false
