use Rattle.std.proofs.Common.{◌≤◌, length, sym, ◌∙◌, arith}
use Rattle.server_effects.specs.leaving_opens.Left.{went_with}
use Rattle.server_effects.proofs.leaving_opens.Files.{all_gone_more, all_gone_off, all_gone_end}
use Rattle.server_effects.proofs.leaving_opens.leaving.Leaving.have_gone.Goals as goal

pub returns-then-not-has_gone : goal.returns-then-not-has_gone
returns-then-not-has_gone c =
    all_gone_off (went_with c.args.self.now) c.args.files.now c.loop-file.file-index c.loop-file-test.true
    (sym c.has_gone.ensures ∙ c.if-not-has_gone.true) ∙ c.loop-file.invariant

pub loop-file-preserved : goal.loop-file-preserved
loop-file-preserved c =
    all_gone_more (went_with c.args.self.now) c.args.files.now c.loop-file.file-index c.loop-file-test.true
    (sym c.has_gone.ensures ∙ c.if-not-has_gone.false) ∙ c.loop-file.invariant

pub returns : goal.returns
returns c =
    let all : length c.args.files.now ≤ c.loop-file.file-index = omega arith in
    all_gone_end (went_with c.args.self.now) c.args.files.now c.loop-file.file-index all ∙ c.loop-file.invariant
