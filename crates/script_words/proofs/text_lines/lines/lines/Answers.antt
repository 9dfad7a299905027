use Rattle.std.proofs.lemmas.Result.{err_from_is_err_and}
use Rattle.script_words.proofs.text_lines.LineLemmas.{goes_on, fails_there, all_read}
use Rattle.script_words.proofs.text_lines.lines.lines.Goals as goal

pub loop-line-preserved : goal.loop-line-preserved
loop-line-preserved c =
    goes_on c.args.command c.loop-line.progress c.take.new.self c.args.cut c.passes-past.result c.in-Some.line.now c.next.new.self
    c.loop-line.rest _ c.passes-past.ensures c.in_ok-take.ensures c.in-Some.ensures c.loop-line.invariant

pub returns-in_err-take : goal.returns-in_err-take
returns-in_err-take c =
    let p = err_from_is_err_and c.from_residual.result c.from_residual.ensures.1 in
    rw (p.1, p.2) (fails_there c.args.command c.loop-line.progress c.args.cut c.passes-past.result c.in-Some.line.now c.next.new.self
    c.loop-line.rest _ _ c.passes-past.ensures c.in_err-take.ensures c.in-Some.ensures c.loop-line.invariant)

pub returns : goal.returns
returns c = all_read c.args.command c.loop-line.progress c.args.cut c.loop-line.rest _ c.in_default.ensures.0 c.loop-line.invariant
