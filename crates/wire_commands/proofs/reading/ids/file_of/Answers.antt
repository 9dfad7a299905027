use Rattle.wire_commands.proofs.reading.Halves.{halves, named, unnamed}
use Rattle.wire_commands.proofs.reading.ids.file_of.Goals as goal

pub returns-then-low-high : goal.returns-then-low-high
returns-then-low-high c = named c.args.id.now c.from_le_bytes-both.result (halves c.args.id.now c.told-id c.fits-id)
    c.from_le_bytes-both.ensures c.if-low-high.true

pub returns-else-low-high : goal.returns-else-low-high
returns-else-low-high c = unnamed c.args.id.now c.from_le_bytes-both.result (halves c.args.id.now c.told-id c.fits-id)
    c.from_le_bytes-both.ensures c.if-low-high.false
