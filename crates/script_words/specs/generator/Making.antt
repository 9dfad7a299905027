-- Which lines a seed gives (this project's): the words are those of ChaCha20 under the seed's 8 bytes, least first, and 24 zeros.
use Rattle.std.specs.Prelude.{ℕ, zero, suc, ◌+◌, ◌-◌, ◌*◌, ◌/◌, ◌%◌, ◌==◌, nat_le, true, false, if◌then◌else◌, List, []}
use Rattle.std.specs.Prelude.{◌∷◌, ◌++◌, map, replicate}
use Rattle.std.specs.Int.{w64, to_le_bytes}
use Rattle.rand_chacha.specs.ChaCha.{ChaCha, next_word, of_seed}
use Rattle.script_words.specs.declared.generator.events.MadeEvent.{MadeEvent}
use Rattle.script_words.specs.declared.generator.events.MadeEvent.TheVariants.{Link, Push, Serve, Cut, Drop, Restart, Crash, Settle}
use Rattle.script_words.specs.declared.generator.lines.MadeLine.{MadeLine}
use Rattle.script_words.specs.declared.generator.lines.MadeLine.TheVariants as made
use Rattle.script_words.specs.declared.generator.making.Maker.{Maker}

abbrev pub word_of : ChaCha → ℕ
word_of g = (next_word 10 g).0

abbrev pub behind_word : ChaCha → ChaCha
behind_word g = (next_word 10 g).1

-- ---- the events that a number below 64 chooses

abbrev pub settled : List MadeEvent
settled = Settle ∷ []

abbrev pub request_lost : List MadeEvent
request_lost = Push 0 ∷ Cut 0 ∷ Settle ∷ []

abbrev pub response_lost : List MadeEvent
response_lost = Push 0 ∷ Serve 0 ∷ Cut 0 ∷ Settle ∷ []

abbrev pub other_channel : List MadeEvent
other_channel = Link 1 ∷ Push 0 ∷ Cut 0 ∷ Push 1 ∷ Settle ∷ Link 0 ∷ Cut 1 ∷ Drop 1 ∷ []

abbrev pub restarted : List MadeEvent
restarted = Push 0 ∷ Serve 0 ∷ Restart ∷ Cut 0 ∷ Settle ∷ []

abbrev pub crashed_kept : List MadeEvent
crashed_kept = Push 0 ∷ Crash true ∷ Cut 0 ∷ Settle ∷ []

abbrev pub crashed_lost : List MadeEvent
crashed_lost = Push 0 ∷ Crash false ∷ Cut 0 ∷ Settle ∷ []

unfoldable pub events_chosen : ℕ → List MadeEvent
events_chosen n =
    if nat_le n 39 then settled
    else if nat_le n 47 then request_lost
    else if nat_le n 53 then response_lost
    else if nat_le n 60 then other_channel
    else if n == 61 then restarted
    else if n == 62 then crashed_kept
    else crashed_lost

-- ---- operations: eight of each open, whose file is one of eight

-- the create of an operation behind so many
abbrev pub create_at : ℕ → ℕ
create_at before = before / 8 * 8 + 1

unfoldable pub operation_at : ℕ → ChaCha → MadeLine
operation_at before g =
    if before % 8 == 0 then made.Create (before / 8 % 8)
    else if before % 8 == 1 then made.Write (create_at before) (word_of g % 64) (word_of (behind_word g))
    else if before % 8 == 2 then made.Lock (create_at before)
    else if before % 8 == 3 then made.Fill (create_at before) (word_of g % 100)
    else if before % 8 == 4 then made.Read (create_at before)
    else if before % 8 == 5 then made.End (create_at before)
    else if before % 8 == 6 then made.Unlock (create_at before)
    else made.Close (create_at before)

-- a write draws two words, a fill one
unfoldable pub behind_operation : ℕ → ChaCha → ChaCha
behind_operation before g =
    if before % 8 == 1 then behind_word (behind_word g)
    else if before % 8 == 3 then behind_word g
    else g

-- ---- the lines of so many operations, behind so many
unfoldable pub operations_from : ℕ → ℕ → ChaCha → List MadeLine
operations_from zero before g = []
operations_from (suc n) before g =
    operation_at before g
    ∷ (map made.Event (events_chosen (word_of (behind_operation before g) % 64))
    ++ operations_from n (before + 1) (behind_word (behind_operation before g)))

-- a script begins with its first channel
abbrev pub first_events : List MadeEvent
first_events = Link 0 ∷ []

abbrev pub key_bytes : ℕ → List ℕ
key_bytes seed = to_le_bytes w64 seed ++ replicate 24 0

-- the script of a seed, with so many operations
abbrev pub made_lines : ℕ → ℕ → List MadeLine
made_lines seed operations = map made.Event first_events ++ operations_from operations 0 (of_seed (key_bytes seed))

-- what a maker makes yet
abbrev pub lines_left : Maker → List MadeLine
lines_left m = map made.Event m.events.now ++ operations_from (m.operations - m.made) m.made m.words
