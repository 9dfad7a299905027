use Rattle.std.proofs.Common.{◌∙◌}
use Rattle.conn_core.proofs.reply_sealing.Parts.{framed_at}
use Rattle.conn_core.proofs.reply_sealing.putting.put_length.Goals as goal

pub returns : goal.returns
returns c =
    c.put_field.ensures
    ∙ framed_at c.args.at c.args.out.now c.length_field-field.result c.requires c.length_field-field.ensures
