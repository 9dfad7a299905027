use Rattle.std.proofs.Common.{◌≡◌, ℕ, ◌+◌, length, take, drop, ◌∙◌, ap, arith}
use Rattle.spec_journal.specs.Castagnoli.{behind_bytes}
use Rattle.journal.proofs.disk_journal.Looks.{sum_from}
use Rattle.journal.proofs.disk_journal.read.is_summed.Goals as goal

pub returns-clause-told : goal.returns-clause-told
returns-clause-told g c = λ yes fits.
    let there = c.fill.ensures.quiet.same yes in
    let read = c.in_ok-front.ensures.filled yes (omega (arith, fits)) in
    let body = c.in_ok-back.ensures.summed yes (omega (arith, fits, ap length there)) in
    let long : length c.fill.new.into ≡ 8 = omega arith in
    let first = c.add.ensures ∙ ap (λ (l : ℕ). behind_bytes l (take 4 c.fill.new.into)) c.new-sum.ensures in
    sum_from (g.D.Disk.seen c.args.disk.now) c.fill.new.into c.args.gate c.args.size c.length_of-told.result c.sum_range.new.sum
    c.value-value.result long (read.1 ∙ ap (λ (k : ℕ). take k (drop (c.args.gate + 1) (g.D.Disk.seen c.args.disk.now))) long)
    c.length_of-told.ensures c.length_of-told.type_inv c.value-value.type_inv
    (body.1 ∙ (λ i. behind_bytes (first i) (take c.args.size (drop (c.args.gate + 9) (there i))))) c.value-value.ensures
