use Rattle.std.proofs.Common.{◌<◌, arith, inl, inr, refl}
use Rattle.server_core.proofs.body_writing.Cases.{allows_still, lacks, never_lacks, only_same, room_alone}
use Rattle.server_core.proofs.body_writing.writing.reserve_body.Goals as goal

pub returns-then-length-eq0-clause-room : goal.returns-then-length-eq0-clause-room
returns-then-length-eq0-clause-room g c = inl (omega arith)

pub returns-then-length-eq0-clause-kept : goal.returns-then-length-eq0-clause-kept
returns-then-length-eq0-clause-kept g c = only_same c.args.journal.now c.args.journal.now refl

pub returns-in-Ok-clause-room : goal.returns-in-Ok-clause-room
returns-in-Ok-clause-room g c = let r = c.in-Ok.ensures in
    inr (allows_still c.args.journal.now c.reserve.new.self c.args.length r.2 r.0, r.1)

pub returns-in-Ok-clause-kept : goal.returns-in-Ok-clause-kept
returns-in-Ok-clause-kept g c = c.in-Ok.ensures.2

pub returns-in-Err-clause-lack : goal.returns-in-Err-clause-lack
returns-in-Err-clause-lack g c = rw c.refusal.ensures
    (lacks c.args.journal.now c.reserve.new.self c.args.length c.in-Err.error c.in-Err.ensures)

pub returns-in-Err-clause-kept : goal.returns-in-Err-clause-kept
returns-in-Err-clause-kept g c = room_alone c.args.journal.now c.reserve.new.self c.args.length c.in-Err.error c.in-Err.ensures

pub returns-in-Err-clause-none : goal.returns-in-Err-clause-none
returns-in-Err-clause-none g c = λ none. let some : 0 < c.args.length = omega arith in absurd (omega (arith, none, some))

pub returns-in-Err-clause-sure : goal.returns-in-Err-clause-sure
returns-in-Err-clause-sure g c = λ none fits room.
    absurd (never_lacks c.args.journal.now c.reserve.new.self c.args.length c.in-Err.error c.in-Err.ensures none fits room)
