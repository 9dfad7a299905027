use Rattle.wire_commands.proofs.reading.Halves.{guid_is, halves}
use Rattle.wire_commands.proofs.reading.ids.guid_of.Goals as goal

pub returns : goal.returns
returns c = guid_is c.args.id.now c.from_le_bytes.result (halves c.args.id.now c.told-id c.fits-id) c.from_le_bytes.ensures
