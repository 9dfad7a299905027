use Rattle.client_ends.proofs.response_faults.Forms.{due_as, early_none, long_as}
use Rattle.client_ends.proofs.response_faults.form.due_header.Goals as goal

pub returns-in-Some : goal.returns-in-Some
returns-in-Some c =
    let has = c.in-Some.ensures.0 in
    let is = c.in-Some.ensures.1 in
    record {
      due = due_as c.args.m.now c.in-Some.header c.args.due c.due_of.result has is c.due_of.ensures;
      long = long_as c.args.m.now c.due_of.result has;
    }

pub returns-in-None : goal.returns-in-None
returns-in-None c = record { due = early_none c.args.m.now c.args.due c.in-None.ensures; long = tt }
