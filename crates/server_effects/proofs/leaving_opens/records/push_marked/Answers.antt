use Rattle.std.proofs.Common.{sym}
use Rattle.std.proofs.lemmas.List.{append-nil}
use Rattle.server_effects.proofs.leaving_opens.records.push_marked.Goals as goal

pub returns-then-not-marks : goal.returns-then-not-marks
returns-then-not-marks c = rw c.if-not-marks.true (sym (append-nil _))

pub returns : goal.returns
returns c = rw c.if-not-marks.false c.push_record.ensures
