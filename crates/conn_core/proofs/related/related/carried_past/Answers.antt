use Rattle.std.proofs.Common.{refl, option_map}
use Rattle.conn_core.specs.related.Carrying.{carry_of}
use Rattle.conn_core.proofs.related.Carried.{past}
use Rattle.conn_core.proofs.related.related.carried_past.Goals as goal

pub returns : goal.returns
returns c = λ k x.
    past (option_map carry_of c.args.before.now) c.args.checked.now c.args.message.now k c.args.status (record {
      status = c.create_behind.result;
      session = c.args.checked.now.header.session;
      tree = c.args.checked.now.header.tree;
      file = c.file_past.result;
    }) x (c.create_behind.ensures c.args.message.now k x) refl refl (c.file_past.ensures k x)
