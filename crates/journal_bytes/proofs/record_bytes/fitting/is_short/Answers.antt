use Rattle.std.proofs.Common.{◌≡◌, ℕ, List, length, min, flat_map, sym, ap, ◌∙◌, map-id, arith}
use Rattle.std.proofs.lemmas.Iterator.{YieldsList-from_chars}
use Rattle.std.proofs.lemmas.Iterator.Consumers.{YieldsList-end}
use Rattle.spec_wire.specs.messages.Utf16.{units_of, utf16}
use Rattle.journal_bytes.proofs.record_bytes.fitting.is_short.Goals as goal

pub returns : goal.returns
unfolding utf16
returns c =
    let end = YieldsList-end (YieldsList-from_chars c.args.text.now c.utf8.text cc) c.loop-character.yielded _
    c.loop-character.yielded_by _ _ c.in-None.is c.next.ensures.steps in
    let size : c.loop-character.size ≡ min (length (utf16 c.args.text.now)) 4294967295 = c.loop-character.invariant
    ∙ ap (λ (l : List ℕ). min (length (flat_map units_of l)) 4294967295)
    (sym (map-id c.loop-character.yielded) ∙ end.0) in grind arith
