use Rattle.std.proofs.Common.{refl, subst, sym}
use Rattle.server_checks.specs.Shown.{TablesShown}
use Rattle.server_checks.specs.declared.tables.Tables.{Tables}
use Rattle.wait_locks.proofs.Sends.{all_rest, next_is}
use Rattle.wait_locks.proofs.wait_server.WaitServer.try_next.Goals as goal

pub returns-in-Some-clause-step : goal.returns-in-Some-clause-step
returns-in-Some-clause-step g c = λ own s L records h none.
    let P : Tables → Type 0 = λ t. TablesShown t s in
    next_is g.D.Disk.told g.D.Disk.seen g.D.Disk.may_leave g.D.Disk.moment g.D.Disk.left_since g.D.Disk.faults c.args.now own c.args.self.now c.try_at.new.self c.args.finals.now.items
    c.try_at.new.finals.items s L records c.try_at.result c.as_slice.result.now c.in-Some.place c.as_slice.ensures.value
    (c.in-Some.ensures.exact s h.fits (subst P (sym c.tables.ensures) h.shown.tables)) (λ d. c.try_at.ensures.step own s L records d h none)

pub returns-in-None-clause-step : goal.returns-in-None-clause-step
returns-in-None-clause-step g c = λ own s L records h none.
    let P : Tables → Type 0 = λ t. TablesShown t s in
    all_rest g.D.Disk.told g.D.Disk.seen g.D.Disk.may_leave g.D.Disk.moment g.D.Disk.left_since g.D.Disk.faults c.args.now own c.args.self.now c.args.self.now c.args.finals.now.items
    c.args.finals.now.items s L records c.as_slice.result.now c.as_slice.ensures.value
    (c.in-None.ensures.exact s h.fits (subst P (sym c.tables.ensures) h.shown.tables)) refl refl
