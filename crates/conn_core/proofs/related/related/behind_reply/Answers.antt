use Rattle.std.proofs.Common.{refl, option_map}
use Rattle.conn_core.specs.related.Carrying.{carry_of}
use Rattle.conn_core.proofs.related.Carried.{answered}
use Rattle.conn_core.proofs.related.related.behind_reply.Goals as goal

pub returns : goal.returns
returns c = λ k x due named.
    answered (option_map carry_of c.args.before.now) k c.args.reply.now due (record {
      status = c.create_behind.result;
      session = c.args.reply.now.session;
      tree = c.args.reply.now.tree;
      file = c.file_behind.result;
    }) named (c.create_behind.ensures c.args.message.now k x) refl refl (c.file_behind.ensures k x)
