use Rattle.std.proofs.Common.{List, ℕ, take, drop, sym, ◌∙◌, ap}
use Rattle.std.proofs.lemmas.List.{take-append-drop}
use Rattle.spec_journal.specs.Castagnoli.{behind_bytes}
use Rattle.journal.proofs.checksum.Steps.{in_parts}
use Rattle.journal.proofs.checksum.sums.Sum.add.Goals as goal

pub loop-rest-preserved : goal.loop-rest-preserved
loop-rest-preserved c =
    let left : ℕ = c.loop-rest.left in
    let rest : List ℕ = c.loop-rest.rest.now in
    (λ k. behind_bytes (c.behind_eight-left.ensures k) (c.split_at.ensures.back k))
    ∙ (λ k. behind_bytes (behind_bytes left (c.split_at.ensures.front k)) (drop 8 rest))
    ∙ sym (in_parts left (take 8 rest) (drop 8 rest))
    ∙ ap (λ (l : List ℕ). behind_bytes left l) (take-append-drop 8 rest)
    ∙ c.loop-rest.invariant
