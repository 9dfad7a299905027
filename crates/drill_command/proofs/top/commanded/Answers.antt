use Rattle.std.proofs.Common.{refl}
use Rattle.drill_command.proofs.Ended.{never_reads}
use Rattle.drill_command.proofs.top.commanded.Goals as goal

pub returns-in-Drill-clause-ends : goal.returns-in-Drill-clause-ends
returns-in-Drill-clause-ends g c = rw c.in-Drill.is c.drilled.ensures

pub returns-in-Drill-clause-words_first : goal.returns-in-Drill-clause-words_first
returns-in-Drill-clause-words_first g c = rw c.in-Drill.is (λ e. absurd (never_reads e))

pub returns-in-Gen-clause-ends : goal.returns-in-Gen-clause-ends
returns-in-Gen-clause-ends g c = rw c.in-Gen.is c.generated.ensures

pub returns-in-Gen-clause-words_first : goal.returns-in-Gen-clause-words_first
returns-in-Gen-clause-words_first g c = λ e. refl
