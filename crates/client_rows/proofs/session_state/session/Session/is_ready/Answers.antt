use Rattle.std.proofs.Common.{sym}
use Rattle.client_rows.proofs.session_state.Showing.{past_ready}
use Rattle.client_rows.proofs.session_state.session.Session.is_ready.Goals as goal

pub returns-then-channel-lt-CHANNELS-clause-shown : goal.returns-then-channel-lt-CHANNELS-clause-shown
returns-then-channel-lt-CHANNELS-clause-shown c = λ d h. sym (h.ready c.args.channel)

pub returns-else-channel-lt-CHANNELS-clause-shown : goal.returns-else-channel-lt-CHANNELS-clause-shown
returns-else-channel-lt-CHANNELS-clause-shown c = λ d h. past_ready c.args.self.now d c.args.channel h c.if-channel-lt-CHANNELS.false
