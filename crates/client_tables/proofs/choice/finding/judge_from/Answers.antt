use Rattle.std.proofs.Common.{arith}
use Rattle.client_tables.proofs.choice.Telling.{inside_from}
use Rattle.client_tables.proofs.choice.finding.judge_from.Goals as goal

pub returns-then-index-start : goal.returns-then-index-start
returns-then-index-start c =
    let t = c.if-index-start.true in
    record {
      inside = tt;
      some = λ l e. absurd (omega arith);
      told = λ d holders prices watchers k credits slotless s o i r w l. absurd (omega arith);
    }

pub returns : goal.returns
returns c =
    record {
      inside = inside_from c.args.rows.now c.args.opens.now c.args.start c.args.index c.judge.result
          (let t = c.if-index-start.false in omega arith) c.judge.ensures.inside;
      some = λ l. c.judge.ensures.some;
      told = λ d holders prices watchers k credits slotless s o i r w l. c.judge.ensures.told d holders prices watchers k credits
          slotless s o i r w;
    }
