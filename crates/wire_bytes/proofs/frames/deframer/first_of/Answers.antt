use Rattle.wire_bytes.proofs.frames.Handing.{first}
use Rattle.wire_bytes.proofs.frames.deframer.first_of.Goals as goal

pub returns-in_ok-bytes-in-Ok-Some : goal.returns-in_ok-bytes-in-Ok-Some
returns-in_ok-bytes-in-Ok-Some c =
    first c.args.stream.now c.in_ok-bytes-in-Ok-Some.bytes c.in-Ok-Some.length c.in-Ok-Some.field-0 c.in-Ok-Some.field-0-is
    c.in-Ok-Some.ensures c.in_ok-bytes-in-Ok-Some.ensures
