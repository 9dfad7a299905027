use Rattle.std.proofs.Common.{◌≤◌, length, take, sym, arith, rules}
use Rattle.std.proofs.lemmas.Grind.{common_steps}
use Rattle.std.proofs.lemmas.List.{take_all}
use Rattle.std.proofs.lemmas.List.Elements.{All-more, All-same}
use Rattle.journal_bytes.specs.record_bytes.Grammar.{IsInRange}
use Rattle.journal_bytes.proofs.record_bodies.typed.are_typed.Goals as goal

pub loop-one-preserved : goal.loop-one-preserved
loop-one-preserved c = All-more IsInRange c.args.records.now c.loop-one.one-index c.one-item.result (grind arith)
    c.loop-one.invariant (search (rules, common_steps))

pub returns : goal.returns
returns c =
    let end : length c.args.records.now ≤ c.loop-one.one-index = grind arith in
    All-same IsInRange c.args.records.now (take c.loop-one.one-index c.args.records.now)
    (sym (take_all c.loop-one.one-index c.args.records.now end)) c.loop-one.invariant
