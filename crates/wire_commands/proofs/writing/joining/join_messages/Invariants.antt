use Rattle.std.proofs.Common.{◌≡◌, List, ◌++◌, drop, map}
use Rattle.wire_commands.specs.writing.Joining.{JoinedMessage, message_of, joined_spelling, AreSmall}
use Rattle.wire_commands.proofs.writing.joining.join_messages.Given as goal

abbrev pub invariant-loop-at : goal.invariant-loop-at
invariant-loop-at l =
    let ms : List JoinedMessage = map message_of l.messages in
    (joined_spelling ms ≡ l.out ++ joined_spelling (drop l.at ms)) × (AreSmall (drop l.at ms) → AreSmall ms)
