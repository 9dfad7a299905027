use Rattle.spec_exchange.specs.ClientStep.{some_unsettled}
use Rattle.client_steps.specs.pushing.Acts.{act_of}
use Rattle.client_steps.proofs.pushing.Told.{all_done, some_left}
use Rattle.client_steps.proofs.pushing.pushing.left_or.Goals as goal

pub returns-then-is_settled : goal.returns-then-is_settled
returns-then-is_settled c =
    let e = c.is_settled.ensures in
    record {
      fits = e.fits;
      rows = e.rows;
      shown = e.shown;
      told = λ d s. all_done (some_unsettled d d.taken) c.is_settled.result (act_of c.args.other) (e.told d s) c.if-is_settled.true;
    }

pub returns : goal.returns
returns c =
    let e = c.is_settled.ensures in
    record {
      fits = e.fits;
      rows = e.rows;
      shown = e.shown;
      told = λ d s. some_left (some_unsettled d d.taken) c.is_settled.result (act_of c.args.other) (e.told d s) c.if-is_settled.false;
    }
