use Rattle.std.proofs.Common.{length, refl}
use Rattle.std.proofs.lemmas.Option.{slice_get_read}
use Rattle.drill_command.proofs.drill_text.creates.order_at.Goals as goal

pub returns : goal.returns
returns c =
    slice_get_read c.args.told.now (length c.args.told.now) c.args.at c.index-told-at.result refl c.requires c.index-told-at.is
