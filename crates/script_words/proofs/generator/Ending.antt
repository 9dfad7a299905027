-- Where no event and no operation is left, no line is.
use Rattle.std.proofs.Common.{◌≡◌, ℕ, ◌-◌, ◌≤◌, List, [], ◌++◌, map, ap, ◌∙◌, arith}
use Rattle.rand_chacha.specs.ChaCha.{ChaCha}
use Rattle.script_words.specs.generator.Making.{operations_from}
use Rattle.script_words.specs.declared.generator.events.MadeEvent.{MadeEvent}
use Rattle.script_words.specs.declared.generator.lines.MadeLine.TheVariants.{Event}

pub none_left : (es : List MadeEvent) (total before : ℕ) (g : ChaCha) → es ≡ [] → total ≤ before
    → map Event es ++ operations_from (total - before) before g ≡ []
unfolding operations_from
none_left es total before g none past =
    let over : total - before ≡ 0 = omega (arith, past) in
    ap (λ (l : List MadeEvent). map Event l ++ operations_from (total - before) before g) none
    ∙ ap (λ (n : ℕ). operations_from n before g) over
