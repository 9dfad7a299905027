-- The lines of events. K names a connection, from 0 to 255.
use Rattle.std.specs.Prelude.{ℕ, ◌-◌, ◌^◌, Bool, true, false, if◌then◌else◌, List, codes, Option, Some, None, Result, Ok, Err}
use Rattle.std.specs.Str.{bytes_eq}
use Rattle.script_words.specs.Outcome.{◌>>=◌}
use Rattle.script_words.specs.Parts.{Reading, word, number, bytes, given_by}
use Rattle.script_words.specs.declared.values.Code.TheVariants.{BadLine}
use Rattle.script_words.specs.declared.values.ScriptEvent.{ScriptEvent}
use Rattle.script_words.specs.declared.values.ScriptEvent.TheVariants.{Open, Push, Serve, Take, Cut, Drop, Restart}
use Rattle.script_words.specs.declared.values.ScriptEvent.TheVariants.{Crash, Forge, Flip, Wait, Link, Settle}

-- an event on a connection alone
unfoldable pub on_connection : (ℕ → ScriptEvent) → List (List ℕ) → Reading ScriptEvent
on_connection made words = do
  k ← number 255 words
  Ok (made k.0, k.1)

-- whether the record that was last written stays: `kept` or `lost`
unfoldable pub kept_of : List ℕ → Option Bool
kept_of text =
    if bytes_eq text (codes "kept") then Some true
    else if bytes_eq text (codes "lost") then Some false
    else None

unfoldable pub kept : List (List ℕ) → Reading Bool
kept words = do
  first ← word words
  given_by (kept_of first.0) first.1

-- `crash K kept|lost`
unfoldable pub crashes : List (List ℕ) → Reading ScriptEvent
crashes words = do
  k ← number 255 words
  stays ← kept k.1
  Ok (Crash k.0 stays.0, stays.1)

-- which way a message goes: `up` to the server, `down` to the client
unfoldable pub up_of : List ℕ → Option Bool
up_of text =
    if bytes_eq text (codes "up") then Some true
    else if bytes_eq text (codes "down") then Some false
    else None

unfoldable pub up : List (List ℕ) → Reading Bool
up words = do
  first ← word words
  given_by (up_of first.0) first.1

-- `forge K up|down HEX`: the front message is replaced
unfoldable pub forges : List (List ℕ) → Reading ScriptEvent
forges words = do
  k ← number 255 words
  way ← up k.1
  held ← bytes 1_114_112 way.1
  Ok (Forge k.0 way.0 held.0, held.1)

-- `flip K up|down AT HEX`: the front message's bytes from AT on, by exclusive or
unfoldable pub flips : List (List ℕ) → Reading ScriptEvent
flips words = do
  k ← number 255 words
  way ← up k.1
  at ← number (2 ^ 32 - 1) way.1
  mask ← bytes 1_114_112 at.1
  Ok (Flip k.0 way.0 at.0 mask.0, mask.1)

-- `wait MS`: so many milliseconds pass
unfoldable pub waits : List (List ℕ) → Reading ScriptEvent
waits words = do
  time ← number 1_000_000_000 words
  Ok (Wait time.0, time.1)

-- the events that have more or fewer words than a connection's number
unfoldable pub other_event : List ℕ → List (List ℕ) → Reading ScriptEvent
other_event name words =
    if bytes_eq name (codes "restart") then Ok (Restart, words)
    else if bytes_eq name (codes "settle") then Ok (Settle, words)
    else if bytes_eq name (codes "wait") then waits words
    else if bytes_eq name (codes "crash") then crashes words
    else if bytes_eq name (codes "forge") then forges words
    else if bytes_eq name (codes "flip") then flips words
    else Err BadLine

unfoldable pub event : List ℕ → List (List ℕ) → Reading ScriptEvent
event name words =
    if bytes_eq name (codes "open") then on_connection Open words
    else if bytes_eq name (codes "push") then on_connection Push words
    else if bytes_eq name (codes "serve") then on_connection Serve words
    else if bytes_eq name (codes "take") then on_connection Take words
    else if bytes_eq name (codes "cut") then on_connection Cut words
    else if bytes_eq name (codes "drop") then on_connection Drop words
    else if bytes_eq name (codes "link") then on_connection Link words
    else other_event name words
