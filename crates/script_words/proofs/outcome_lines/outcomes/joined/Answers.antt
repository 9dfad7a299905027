use Rattle.std.proofs.Common.{◌≡◌, ℕ, List, IfOk, sym, ap, subst, ◌∙◌}
use Rattle.std.proofs.lemmas.List.{nil_from_length}
use Rattle.std.specs.String.{string_bytes}
use Rattle.script_words.specs.outcome_lines.Text.{joined_names}
use Rattle.script_words.proofs.outcome_lines.outcomes.joined.Goals as goal

pub returns-in-Some : goal.returns-in-Some
returns-in-Some c = subst (λ (text : List ℕ). IfOk c.with_more.result (λ shown. string_bytes shown ≡ text))
    (sym (ap joined_names c.in-Some.ensures.cases.0)) c.with_more.ensures

pub returns-in-None : goal.returns-in-None
returns-in-None c = c.new.ensures.bytes ∙ sym (ap joined_names (nil_from_length c.args.names.now c.in-None.ensures.cases))
