-- The client's book in turns of its channels.
use Rattle.client_book.specs.Steps.{ClientSteps}
use Rattle.client_book.specs.declared.turn.Told.{Told}
use Rattle.client_book.specs.declared.turn.Turn.{Turn}
use Rattle.client_channels.specs.declared.channel_turns.shared_client.ClientTurns.{ClientTurns}

abbrev pub TurnSteps : ClientTurns → Turn → Told → ClientTurns → Type 0
TurnSteps old turn told new = ClientSteps old.book turn told new.book
