use Rattle.std.proofs.Common.{◌≡◌, take, flat_map}
use Rattle.spec_wire.specs.messages.Lock.{lock_element_spelling}
use Rattle.spec_commands.specs.BodyOf.{element_of}
use Rattle.wire_commands.proofs.writing.spelling.elements_bytes.Given as goal

abbrev pub invariant-loop-element : goal.invariant-loop-element
invariant-loop-element l = l.bytes ≡ flat_map (λ e. lock_element_spelling (element_of e)) (take l.element-index l.elements)
