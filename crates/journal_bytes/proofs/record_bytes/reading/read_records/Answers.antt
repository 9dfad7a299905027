use Rattle.std.proofs.Common.{◌≡◌, [], ◌∷◌, ◌++◌, arith}
use Rattle.std.proofs.lemmas.Grind.{common_steps}
use Rattle.journal_bytes.proofs.record_bytes.Walk.{went_on_in, broke_in}
use Rattle.journal_bytes.proofs.record_bytes.reading.read_records.Goals as goal

pub returns-in-Err-Bad : goal.returns-in-Err-Bad
returns-in-Err-Bad c = broke_in c.args.version c.args.body.now c.loop-at.at c.loop-at.reached c.loop-at.records
    c.in-Err-Bad.field-0 c.loop-at.invariant c.loop-at-test.true c.in-Err-Bad.field-0-is c.in-Err-Bad.ensures

pub loop-at-preserved : goal.loop-at-preserved
loop-at-preserved c =
    let pushed : c.push.new.self ≡ c.loop-at.records ++ c.in-Ok.found.record ∷ [] = grind (arith, common_steps) in
    went_on_in c.args.version c.args.body.now c.loop-at.at c.loop-at.reached c.loop-at.records c.in-Ok.found
    c.next_version-reached.result c.push.new.self c.loop-at.invariant c.in-Ok.ensures c.next_version-reached.ensures
    pushed
