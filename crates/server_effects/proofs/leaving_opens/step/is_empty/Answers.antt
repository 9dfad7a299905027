use Rattle.std.proofs.Common.{ℕ, List, sym, ap, ◌∙◌}
use Rattle.law_records.specs.leaving_opens.Since.{all_gone}
use Rattle.server_effects.specs.leaving_opens.Left.{went_with}
use Rattle.server_effects.proofs.leaving_opens.Files.{empty_yet, empty_now, numbered}
use Rattle.server_effects.proofs.leaving_opens.step.is_empty.Goals as goal

pub returns-then-not-is_full : goal.returns-then-not-is_full
returns-then-not-is_full c = λ s u t a hu hs n. empty_yet c.args.leaving.now s u c.args.file a hu n
    (sym (c.is_full.ensures s t hs) ∙ c.if-not-is_full.true)

pub returns : goal.returns
returns c = λ s u t a hu hs n. empty_now c.args.leaving.now s u c.args.file c.in_ok-below.below.items _ a hu n
    (numbered s.entries t.rows.apart) (sym (c.is_full.ensures s t hs) ∙ c.if-not-is_full.false) (c.in_ok-below.ensures s t hs)
    (c.have_gone.ensures ∙ ap (λ (v : List ℕ). all_gone (went_with c.args.leaving.now) v) c.as_slice.ensures.value)
