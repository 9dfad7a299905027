use Rattle.journal_bytes.proofs.record_bytes.Tables.{put_more, put_all}
use Rattle.journal_bytes.proofs.record_bytes.putting.put_fields.Goals as goal

pub loop-put-preserved : goal.loop-put-preserved
loop-put-preserved c = put_more c.args.out.now.items c.loop-put.out.items c.put_one.new.out.items c.args.puts.now c.loop-put.put-index _
    c.loop-put-test.true c.loop-put.invariant c.in_ok-put_one.ensures

pub returns : goal.returns
returns c = put_all c.args.out.now.items c.loop-put.out.items c.args.puts.now c.loop-put.put-index c.loop-put-test.false
    c.loop-put.invariant
