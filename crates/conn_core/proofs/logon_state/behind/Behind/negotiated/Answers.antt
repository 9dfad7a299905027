use Rattle.std.proofs.Common.{[], sym}
use Rattle.conn_core.proofs.logon_state.Moved.{greeted}
use Rattle.conn_core.proofs.logon_state.behind.Behind.negotiated.Goals as goal

pub returns : goal.returns
returns c = λ nonces guid salt now f s shows hello chooses greets status raw.
    let good = chooses greets status in
    greeted nonces c.args.self.now f s c.args.request.now c.args.response.now (record {
      client = c.args.hello.now.client;
      chosen = c.args.hello.now.chosen;
      chain = c.taken.result;
    }) shows greets status raw (hello.client good) (hello.chosen good) (c.taken.ensures [] (sym c.start.ensures))
