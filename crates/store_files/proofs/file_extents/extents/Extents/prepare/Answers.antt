use Rattle.std.proofs.Common.{◌+◌, length}
use Rattle.store_files.proofs.file_extents.extents.Extents.prepare.Goals as goal

pub returns-in_err-mark-clause-same : goal.returns-in_err-mark-clause-same
returns-in_err-mark-clause-same c b s =
    let at = c.args.at in
    let end = c.args.at + length c.args.bytes.now in
    record { shows = c.mark.ensures.shown at end b (c.plan_of-plan.ensures.planned b s.shows) s.shows; len = s.len }

pub returns-clause-same : goal.returns-clause-same
returns-clause-same c b s =
    let at = c.args.at in
    let end = c.args.at + length c.args.bytes.now in
    record { shows = c.mark.ensures.shown at end b (c.plan_of-plan.ensures.planned b s.shows) s.shows; len = s.len }

pub returns-clause-ready : goal.returns-clause-ready
returns-clause-ready c b s =
    let at = c.args.at in
    let end = c.args.at + length c.args.bytes.now in
    let p = c.in_ok-mark.ensures.ok at end (c.plan_of-plan.ensures.planned b s.shows) in
    record { plan = p.0; marked = p.1; middle = c.in_ok-middle.ensures; some = (c.requires).0 }
