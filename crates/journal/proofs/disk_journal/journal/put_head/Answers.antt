use Rattle.std.proofs.Common.{◌≡◌, ℕ, ◌+◌, ◌≤◌, List, ◌++◌, length, ap, ◌∙◌}
use Rattle.spec_journal.specs.Forms.{form_sum}
use Rattle.journal.proofs.disk_journal.Gathered.{head_short, on_ok}
use Rattle.journal.proofs.disk_journal.journal.put_head.Goals as goal

pub returns-clause-long : goal.returns-clause-long
returns-clause-long c =
    let sum : List ℕ = form_sum c.args.form c.args.body.now in
    on_ok c.push_sum.result (c.push_sum.new.buffer.items ≡ c.extend_from_slice.new.self.items ++ sum)
    (length c.push_sum.new.buffer.items ≤ length c.args.buffer.now.items + 8)
    (λ is. head_short c.args.form c.args.body.now c.args.buffer.now.items c.push_sum.new.buffer.items
    (is ∙ ap (λ (l : List ℕ). l ++ sum) (c.in_ok-extend_from_slice.ensures.items
    ∙ ap (λ (l : List ℕ). c.args.buffer.now.items ++ l) c.front_of-front.ensures))) c.push_sum.ensures.pushed
