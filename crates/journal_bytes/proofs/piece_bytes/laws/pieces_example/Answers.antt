use Rattle.std.proofs.Common.{refl}
use Rattle.std.specs.Str.{chars}
use Rattle.spec_wire.specs.messages.Places.{le}
use Rattle.spec_wire.specs.messages.Utf16.{utf16}
use Rattle.journal_bytes.proofs.piece_bytes.laws.pieces_example.Goals as goal

pub returns : goal.returns
unfolding le utf16 chars
returns c = refl
