use Rattle.wire_info.specs.classes.Views.{directory_entry}
use Rattle.wire_info.proofs.classes.Writing.{on_ok, last_entry, linked_entry}
use Rattle.wire_info.proofs.classes.directory_writing.put_directory_entry.Goals as goal

pub returns-then-not-more : goal.returns-then-not-more
returns-then-not-more c = on_ok c.put_entry.result (last_entry c.args.more c.args.out.now c.put_entry.new.out
    c.args.class (directory_entry c.args.v.now) c.if-not-more.true) c.put_entry.ensures

pub returns : goal.returns
returns c =
    on_ok c.put_zeros.result
    (linked_entry c.args.more c.args.out.now c.put_entry-2.new.out c.put_zeros.new.self c.args.class
    (directory_entry c.args.v.now) c.directory_entry_size-size.result c.gap_before-gap.result c.if-not-more.false
    c.directory_entry_size-size.ensures c.gap_before-gap.ensures.value c.in_ok-put_entry.ensures)
    c.put_zeros.ensures.ok
