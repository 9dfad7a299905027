use Rattle.run_command.specs.Running.{RunsOver}
use Rattle.run_command.proofs.Reached.{goes_on}
use Rattle.run_command.proofs.command.run_ready.Goals as goal

pub returns : goal.returns
returns g c = λ guid read ready.
    goes_on (RunsOver g.N.L.Link.told g.N.L.Link.given g.N.L.Link.left g.N.L.Link.written g.N.L.Link.faults g.N.L.Link.ended g.N.Net.faults)
    c.args.seed guid (g.O.Sink.written c.args.sink.now) (g.O.Sink.written c.told.new.sink) (g.O.Sink.faults c.args.sink.now)
    (g.O.Sink.faults c.told.new.sink) read c.args.ready c.run_channels-ran.result.client c.told.result ready c.run_channels-ran.ensures
    c.told.ensures
