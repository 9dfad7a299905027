use Rattle.journal_bytes.proofs.record_bytes.Written.{put_behind}
use Rattle.journal_bytes.proofs.record_bytes.writing.write_records.Goals as goal

pub loop-r-preserved : goal.loop-r-preserved
loop-r-preserved c = put_behind c.loop-r.out.items c.put_record.new.out.items c.args.records.now c.loop-r.r-index
    c.r-item.result c.loop-r-test.true c.r-item.is c.loop-r.invariant c.in_ok-put_record.ensures
