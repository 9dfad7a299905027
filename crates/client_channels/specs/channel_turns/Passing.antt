-- What a channel knows of itself.
use Rattle.std.specs.Prelude.{◌≡◌, vec_len}
use Rattle.client_channels.specs.declared.channel_turns.passing.Course.{Course}

-- what stays of it while a link is used: its number, its draws, and the room for a read
abbrev pub KeepsCourse : Course → Course → Type 0
KeepsCourse old new = (new.channel ≡ old.channel) × (new.draws ≡ old.draws) × (vec_len new.piece ≡ vec_len old.piece)

-- what stays of it over its links
abbrev pub KeepsChannel : Course → Course → Type 0
KeepsChannel old new = (new.channel ≡ old.channel) × (vec_len new.piece ≡ vec_len old.piece)
