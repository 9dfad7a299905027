-- The settings that `serve` alone knows. The lines that give them are taken out of a text before its other lines are read as those of
-- a script: every byte of such a line becomes a `#`, so it is a comment there, and every other line keeps its number and its place.
use Rattle.std.specs.Prelude.{ℕ, ◌+◌, ◌-◌, ◌==◌, nat_lt, Bool, true, false, not, ◌&&◌, ◌||◌, if◌then◌else◌, List, [], ◌∷◌, ◌++◌, length, codes}
use Rattle.std.specs.Prelude.{replicate, slice_index_or, Option, Some, None, is_some}
use Rattle.std.specs.List.{count_by, list_any}
use Rattle.std.specs.Str.{bytes_eq}
use Rattle.base_outside.specs.declared.network.standing.Printed.{Printed}
use Rattle.base_outside.specs.declared.network.standing.Printed.TheVariants.{Nothing, Errors, Warnings, All}
use Rattle.base_outside.specs.declared.network.standing.Watch.{Watch}
use Rattle.script_words.specs.Numbers.{number_to}
use Rattle.script_words.specs.Pieces.{pieces}
use Rattle.script_words.specs.text_lines.Script.{says_nothing}
use Rattle.script_words.specs.text_lines.Settings.{or_else}
use Rattle.serve_command.specs.declared.server_settings.own.Own.{Own}
use Rattle.serve_command.specs.declared.server_settings.own.Patience.{Patience}
use Rattle.serve_command.specs.server_settings.Words.{◌>>=◌, paired, if_last, if_some}

-- ---- one line

abbrev pub printed_of : List ℕ → Option Printed
printed_of word =
    if bytes_eq word (codes "error") then Some Errors
    else if bytes_eq word (codes "warn") then Some Warnings
    else if bytes_eq word (codes "info") then Some All
    else None

abbrev pub next_printed : List (List ℕ) → Option (Printed × List (List ℕ))
next_printed [] = None
next_printed (word ∷ more) = paired (printed_of word) more

-- `log error`, `log warn` or `log info`
unfoldable pub log_said : Own → List (List ℕ) → Option Own
log_said own words =
    if is_some own.printed then None
    else next_printed words >>= λ level. if_last level.1
    (record { printed = Some level.0; patience = own.patience; peers = own.peers; bare = own.bare })

-- a time in seconds, from one second to a day
abbrev pub seconds_of : List ℕ → Option ℕ
seconds_of word = number_to 86_400 word >>= if_some

abbrev pub next_seconds : List (List ℕ) → Option (ℕ × List (List ℕ))
next_seconds [] = None
next_seconds (word ∷ more) = paired (seconds_of word) more

-- `patience LOGON IDLE`
unfoldable pub patience_said : Own → List (List ℕ) → Option Own
patience_said own words =
    if is_some own.patience then None
    else next_seconds words >>= λ logon. next_seconds logon.1 >>= λ idle. if_last idle.1
    (record { printed = own.printed; patience = Some (record { logon = logon.0; idle = idle.0 }); peers = own.peers; bare = own.bare })

-- from 1 to 256
abbrev pub peers_of : List ℕ → Option ℕ
peers_of word = number_to 256 word >>= if_some

abbrev pub next_peers : List (List ℕ) → Option (ℕ × List (List ℕ))
next_peers [] = None
next_peers (word ∷ more) = paired (peers_of word) more

-- `peers N`
unfoldable pub peers_said : Own → List (List ℕ) → Option Own
peers_said own words =
    if is_some own.peers then None
    else next_peers words >>= λ peers. if_last peers.1
    (record { printed = own.printed; patience = own.patience; peers = Some peers.0; bare = own.bare })

abbrev pub bare_of : List ℕ → Option Bool
bare_of word =
    if bytes_eq word (codes "any") then Some true
    else if bytes_eq word (codes "spnego") then Some false
    else None

abbrev pub next_bare : List (List ℕ) → Option (Bool × List (List ℕ))
next_bare [] = None
next_bare (word ∷ more) = paired (bare_of word) more

-- `tokens spnego`, or `tokens any`: NTLM's messages are taken alone too
unfoldable pub tokens_said : Own → List (List ℕ) → Option Own
tokens_said own words =
    if is_some own.bare then None
    else next_bare words >>= λ bare. if_last bare.1
    (record { printed = own.printed; patience = own.patience; peers = own.peers; bare = Some bare.0 })

-- The settings behind a line of these words that gives one of them. Where one is given again, or in another form, the line gives nothing.
abbrev pub own_said : Own → List (List ℕ) → Option Own
own_said own [] = None
own_said own (name ∷ more) =
    if bytes_eq name (codes "log") then log_said own more
    else if bytes_eq name (codes "patience") then patience_said own more
    else if bytes_eq name (codes "peers") then peers_said own more
    else if bytes_eq name (codes "tokens") then tokens_said own more
    else None

-- U+0000 to U+001F and U+007F
abbrev pub is_control : ℕ → Bool
is_control byte = nat_lt byte 32 || byte == 127

-- a line that is no comment, and has a character that no setting has
abbrev pub has_control : List ℕ → Bool
has_control line = not (says_nothing line) && list_any is_control line

-- A line as the grammar of scripts reads it: a comment where it gave a setting; no line at all, which that grammar refuses, where it has
-- a control character; else itself. Its length stays, so that a limit on bytes or lines is passed where it was.
abbrev pub as_line : Option Own → List ℕ → List ℕ
as_line (Some own) line = replicate (length line) 35
as_line None line = if has_control line then replicate (length line) 63 else line

abbrev pub behind : Own → Option Own → Own
behind own None = own
behind own (Some new) = new

-- ---- all lines

abbrev pub nothing_said : Own
nothing_said = record { printed = None; patience = None; peers = None; bare = None }

-- a line feed stands in front of each line but the first
abbrev pub feed_before : List (List ℕ) → List ℕ
feed_before more = if length more == 0 then [] else 10 ∷ []

unfoldable pub marked_from : Own → List (List ℕ) → List ℕ
marked_from own [] = []
marked_from own (line ∷ more) =
    let said = own_said own (pieces 32 line) in
    as_line said line ++ (feed_before more ++ marked_from (behind own said) more)

unfoldable pub own_from : Own → List (List ℕ) → Own
own_from own [] = own
own_from own (line ∷ more) = own_from (behind own (own_said own (pieces 32 line))) more

-- the text for the grammar of scripts
abbrev pub marked : List ℕ → List ℕ
marked text = marked_from nothing_said (pieces 10 text)

-- the settings that `serve` alone knows
abbrev pub own_of : List ℕ → Own
own_of text = own_from nothing_said (pieces 10 text)

-- how many lines a text has: a line feed ends each, but that of the last may lack; the empty text has none
unfoldable pub line_count : List ℕ → ℕ
line_count text =
    count_by (λ byte. byte == 10) text + (if slice_index_or text (length text - 1) 10 == 10 then 0 else 1)

-- ---- what they tell

-- nothing is printed; 30 seconds for a logon, 15 minutes between two frames, 128 connections from one address
abbrev pub patience_of : Own → Patience
patience_of own = or_else (record { logon = 30; idle = 900 }) own.patience

-- SPNEGO's tokens alone
abbrev pub takes_bare : Own → Bool
takes_bare own = or_else false own.bare

abbrev pub watch_of : Own → Watch
watch_of own = record {
  printed = or_else Nothing own.printed;
  logon = (patience_of own).logon;
  idle = (patience_of own).idle;
  peers = or_else 128 own.peers;
}
