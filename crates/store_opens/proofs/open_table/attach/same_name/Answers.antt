use Rattle.store_opens.proofs.open_table.Names.{same_by}
use Rattle.store_opens.proofs.open_table.attach.same_name.Goals as goal

pub returns : goal.returns
returns c = same_by c.eq_ignore_ascii_case.result c.args.a.now c.args.b.now c.eq_ignore_ascii_case.ensures.test
