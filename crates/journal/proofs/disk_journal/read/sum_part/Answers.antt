use Rattle.std.proofs.Common.{List, ℕ, ◌∙◌, ap}
use Rattle.spec_journal.specs.Castagnoli.{behind_bytes}
use Rattle.journal.proofs.disk_journal.read.sum_part.Goals as goal

pub returns-clause-summed : goal.returns-clause-summed
returns-clause-summed g c = λ told fits.
    let read = c.in_ok-whole.ensures.filled told fits in
    (read.0, c.add.ensures ∙ ap (λ (l : List ℕ). behind_bytes c.args.sum.now l) read.1)
