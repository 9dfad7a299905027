use Rattle.std.proofs.Common.{◌≡◌, drop}
use Rattle.access_lists.specs.Walk.{judged}
use Rattle.access_lists.proofs.deciding.walked.Given as goal

abbrev pub invariant-loop-i : goal.invariant-loop-i
invariant-loop-i l = judged l.rules (drop l.i l.numbers) l.user l.path l.asked ≡ judged l.rules l.numbers l.user l.path l.fn.rights
