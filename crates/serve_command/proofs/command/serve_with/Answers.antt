use Rattle.std.proofs.Common.{inl, inr, refl}
use Rattle.serve_command.specs.Whole.{first_stand}
use Rattle.serve_command.proofs.Still.{serves_still}
use Rattle.serve_command.proofs.Wholes.{begins_at}
use Rattle.serve_command.proofs.command.serve_with.Goals as goal

pub returns-in-Ok : goal.returns-in-Ok
returns-in-Ok g c = (let begins = c.in-Ok.ensures.holds in
    let served = c.serve_at.ensures (first_stand c.args.setup.config begins.2 begins.4 begins.3)
    (begins_at g.D.Disk.told g.D.Disk.seen g.D.Disk.may_leave g.D.Disk.faults c.args.setup.config c.args.disk c.in-Ok.server begins) in
    inr (
      c.in-Ok.server,
      begins,
      c.in-Ok.ensures.config,
      serves_still _ _ _ _ _ _ _ _ _ _ _ _ _ _ _ _ _ _ _ _ _ _ _ _ c.watch.ensures.place c.watch.ensures.accepted c.watch.ensures.calm
          c.watch.ensures.sent
          (rw c.fault_count-before.ensures at served),
    ))

pub returns-in-Err : goal.returns-in-Err
returns-in-Err g c = inl (
  c.in-Err.refused.cause,
  c.in-Err.refused.disk,
  c.in-Err.ensures.refused,
  c.unbegun-ending.ensures,
  (c.watch.ensures.place, c.watch.ensures.accepted, c.watch.ensures.calm, c.watch.ensures.sent),
  refl,
)
