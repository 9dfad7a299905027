use Rattle.std.proofs.Common.{◌≡◌, ◌+◌, ◌≤◌, drop, sum_by}
use Rattle.script_words.specs.Parts.{begins_character}
use Rattle.script_words.proofs.parts.characters.Given as goal

abbrev pub invariant-loop-byte : goal.invariant-loop-byte
invariant-loop-byte l = (sum_by begins_character l.text ≡ l.count + sum_by begins_character (drop l.byte-index l.text))
    × l.count ≤ l.byte-index
