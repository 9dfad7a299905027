use Rattle.wire_bytes.proofs.byte_lists.Units.{read_more, read_all}
use Rattle.wire_bytes.proofs.byte_lists.utf16.text_of_utf16.Goals as goal

pub loop-at-preserved : goal.loop-at-preserved
loop-at-preserved c =
    let found = c.in-Some.ensures in (
      found.2,
      found.3,
      read_more c.args.bytes.now c.loop-at.at c.in-Some.found.end c.loop-at.text c.push.new.self
          c.in-Some.found.character c.loop-at.invariant.2 found.0 found.4 c.in_ok-push.ensures.ok,
    )

pub returns : goal.returns
returns c = read_all c.args.bytes.now c.loop-at.at c.loop-at.text c.loop-at.invariant.2 c.loop-at-test.false
