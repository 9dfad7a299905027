use Rattle.std.proofs.Common.{◌≤◌, length, take, refl, sym, arith, rules}
use Rattle.std.proofs.lemmas.Grind.{common_steps}
use Rattle.std.proofs.lemmas.List.{take_all}
use Rattle.std.proofs.lemmas.List.Elements.{All-more, All-same}
use Rattle.journal_bytes.specs.record_bytes.Grammar.{WrittenRecordFits}
use Rattle.journal_bytes.proofs.record_bytes.fitting.can_write.Goals as goal

pub loop-r-preserved : goal.loop-r-preserved
loop-r-preserved c = All-more WrittenRecordFits c.args.records.now c.loop-r.r-index c.r-item.result (grind arith)
    c.loop-r.invariant (search (rules, common_steps))

pub returns : goal.returns
returns c =
    let end : length c.args.records.now ≤ c.loop-r.r-index = grind arith in (
      λ _. All-same WrittenRecordFits c.args.records.now (take c.loop-r.r-index c.args.records.now)
          (sym (take_all c.loop-r.r-index c.args.records.now end)) c.loop-r.invariant,
      λ _. refl,
    )
