use Rattle.std.proofs.Common.{flat_map, sym, ap, ◌∙◌, map-id}
use Rattle.std.proofs.lemmas.Iterator.{YieldsList-from_chars}
use Rattle.std.proofs.lemmas.Iterator.Consumers.{YieldsList-end}
use Rattle.spec_wire.specs.messages.Utf16.{units_of, utf16}
use Rattle.wire_bytes.proofs.byte_lists.utf16.utf16_of.Goals as goal

pub returns : goal.returns
unfolding utf16
returns c =
    let end = YieldsList-end (YieldsList-from_chars c.args.text.now c.utf8.text cc) c.loop-character.yielded _
    c.loop-character.yielded_by _ _ c.in-None.is c.next.ensures.steps in
    c.finish.ensures ∙ c.loop-character.invariant ∙ ap (flat_map units_of) (sym (map-id c.loop-character.yielded) ∙ end.0)
