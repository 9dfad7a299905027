-- Each made line says what it was made for.
use Rattle.std.proofs.Common.{◌≡◌, ℕ, ◌-◌, ◌<◌, ◌≤◌, ◌^◌, ◌==◌, slice_index, Bool, true, false, not, if◌then◌else◌}
use Rattle.std.proofs.Common.{List, [], ◌∷◌, ◌++◌, codes, length, decimal}
use Rattle.std.proofs.Common.{Some, None, Result, Ok, Err, refl, ap, arith}
use Rattle.std.specs.Int.{w32, to_le_bytes}
use Rattle.std.specs.Str.{is_utf8}
use Rattle.std.proofs.lemmas.Bool.{or_from}
use Rattle.std.proofs.lemmas.Grind.{common_steps}
use Rattle.hex.specs.Hex.{encode_lower}
use Rattle.script_words.specs.generator.Lines.{event_text, line_said, line_text}
use Rattle.script_words.specs.declared.generator.events.MadeEvent.{MadeEvent}
use Rattle.script_words.specs.declared.generator.events.MadeEvent.TheVariants as happens
use Rattle.script_words.specs.declared.generator.lines.MadeLine.{MadeLine}
use Rattle.script_words.specs.declared.generator.lines.MadeLine.TheVariants as made
use Rattle.script_words.specs.text_lines.Script.{said, says_nothing, some}
use Rattle.script_words.specs.Pieces.{pieces}
use Rattle.script_words.specs.Words.{statement}
use Rattle.script_words.specs.declared.values.Code.{Code}
use Rattle.script_words.specs.declared.values.Code.TheVariants.{BadLine}
use Rattle.script_words.specs.declared.values.Command.TheVariants.{Drill}
use Rattle.script_words.specs.declared.values.Given.{Given}
use Rattle.script_words.specs.declared.values.Statement.{Statement}
use Rattle.law_scripts.specs.generated.ReadsBack.{IsMadeEvent, FitsBehind, LinesReadBack}
use Rattle.law_scripts.proofs.generated.Bytes.{Within, decimal_within, hex_within, is_text, joins, literal, lower, word_bytes}
use Rattle.law_scripts.proofs.generated.Numbers.{create_read, number_read}
use Rattle.law_scripts.proofs.generated.Pieces.{close_words, create_words, cut_words, drop_words, end_words, fill_words}
use Rattle.law_scripts.proofs.generated.Pieces.{kept_words, link_words, lock_words}
use Rattle.law_scripts.proofs.generated.Pieces.{lost_words, push_words, read_words, restart_words, serve_words}
use Rattle.law_scripts.proofs.generated.Pieces.{settle_words, unlock_words, write_words}
use Rattle.law_scripts.proofs.generated.Readers.{at_start, fifty_long, first_connection, hundred_long, letter_read}
use Rattle.law_scripts.proofs.generated.Readers.{name_read, ten_long, two_hundred}
use Rattle.law_scripts.proofs.generated.Readers.{word_bytes_read}

-- ---- the bytes of each line

short : (n : ℕ) → n ≤ 1_048_576 → n < 2 ^ 64
short n h = omega (arith, h)

wide : (n : ℕ) → n < 2 ^ 32 → n < 2 ^ 64
wide n h = omega (arith, h)

connection : (k : ℕ) → k ≤ 255 → k < 2 ^ 64
connection k h = omega (arith, h)

low : (n : ℕ) → n < 2 ^ 32 → n ≤ 2 ^ 64 - 1
low n h = omega (arith, h)

spelled : (n : ℕ) → n < 2 ^ 64 → Within 32 (decimal n)
spelled n h = lower 32 33 (decimal n) (omega arith) (decimal_within n h)

digits : (n : ℕ) → Within 32 (encode_lower (to_le_bytes w32 n))
digits n = lower 32 33 (encode_lower (to_le_bytes w32 n)) (omega arith) (hex_within (to_le_bytes w32 n) (word_bytes n))

pub event_within : (e : MadeEvent) → IsMadeEvent e → Within 32 (event_text e)
unfolding event_text
event_within (happens.Link k) h = joins 32 (codes "link ") (decimal k) (literal 32 (codes "link ") refl) (spelled k (connection k h))
event_within (happens.Push k) h = joins 32 (codes "push ") (decimal k) (literal 32 (codes "push ") refl) (spelled k (connection k h))
event_within (happens.Serve k) h = joins 32 (codes "serve ") (decimal k) (literal 32 (codes "serve ") refl) (spelled k (connection k h))
event_within (happens.Cut k) h = joins 32 (codes "cut ") (decimal k) (literal 32 (codes "cut ") refl) (spelled k (connection k h))
event_within (happens.Drop k) h = joins 32 (codes "drop ") (decimal k) (literal 32 (codes "drop ") refl) (spelled k (connection k h))
event_within happens.Restart h = literal 32 (codes "restart") refl
event_within (happens.Crash true) h = literal 32 (codes "crash 0 kept") refl
event_within (happens.Crash false) h = literal 32 (codes "crash 0 lost") refl
event_within happens.Settle h = literal 32 (codes "settle") refl

-- a number between two texts
between : (a b : List ℕ) (n : ℕ) → Within 32 a → n < 2 ^ 64 → Within 32 b → Within 32 (a ++ (decimal n ++ b))
between a b n w h v = joins 32 a (decimal n ++ b) w (joins 32 (decimal n) b (spelled n h) v)

pub line_within : (creates : List Bool) (l : MadeLine) → FitsBehind creates l → Within 32 (line_text l)
unfolding line_text
line_within creates (made.Event e) h = event_within e h
line_within creates (made.Create file) h =
    between (codes "op create f") (codes " rw - openif persist") file (literal 32 (codes "op create f") refl) (wide file h)
    (literal 32 (codes " rw - openif persist") refl)
line_within creates (made.Write create at word) h =
    between (codes "op write ") (codes " " ++ (decimal at ++ (codes " " ++ encode_lower (to_le_bytes w32 word)))) create
    (literal 32 (codes "op write ") refl) (short create h.0.few)
    (between (codes " ") (codes " " ++ encode_lower (to_le_bytes w32 word)) at (literal 32 (codes " ") refl) (wide at h.1)
    (joins 32 (codes " ") (encode_lower (to_le_bytes w32 word)) (literal 32 (codes " ") refl) (digits word)))
line_within creates (made.Lock create) h =
    between (codes "op lock ") (codes " 0 10 exclusive") create (literal 32 (codes "op lock ") refl) (short create h.few)
    (literal 32 (codes " 0 10 exclusive") refl)
line_within creates (made.Fill create at) h =
    between (codes "op fill ") (codes " " ++ (decimal at ++ codes " 50 61")) create (literal 32 (codes "op fill ") refl)
    (short create h.0.few)
    (between (codes " ") (codes " 50 61") at (literal 32 (codes " ") refl) (wide at h.1) (literal 32 (codes " 50 61") refl))
line_within creates (made.Read create) h =
    between (codes "op read ") (codes " 0 200") create (literal 32 (codes "op read ") refl) (short create h.few)
    (literal 32 (codes " 0 200") refl)
line_within creates (made.End create) h =
    between (codes "op end ") (codes " 100") create (literal 32 (codes "op end ") refl) (short create h.few)
    (literal 32 (codes " 100") refl)
line_within creates (made.Unlock create) h =
    between (codes "op unlock ") (codes " 0 10") create (literal 32 (codes "op unlock ") refl) (short create h.few)
    (literal 32 (codes " 0 10") refl)
line_within creates (made.Close create) h =
    joins 32 (codes "op close ") (decimal create) (literal 32 (codes "op close ") refl) (spelled create (short create h.few))

-- it isn't empty, nor a comment
not_none : (n : ℕ) → 0 < n → (n == 0) ≡ false
not_none n h = grind (arith, common_steps)

speaks_so : (line : List ℕ) → 0 < length line → (slice_index line 0 == 35) ≡ false → says_nothing line ≡ false
speaks_so line some e = or_from (length line == 0) (slice_index line 0 == 35) (not_none (length line) some) e

speaks : (l : MadeLine) → says_nothing (line_text l) ≡ false
unfolding line_text event_text
speaks (made.Event (happens.Link k)) = speaks_so (line_text (made.Event (happens.Link k))) (omega arith) refl
speaks (made.Event (happens.Push k)) = speaks_so (line_text (made.Event (happens.Push k))) (omega arith) refl
speaks (made.Event (happens.Serve k)) = speaks_so (line_text (made.Event (happens.Serve k))) (omega arith) refl
speaks (made.Event (happens.Cut k)) = speaks_so (line_text (made.Event (happens.Cut k))) (omega arith) refl
speaks (made.Event (happens.Drop k)) = speaks_so (line_text (made.Event (happens.Drop k))) (omega arith) refl
speaks (made.Event happens.Restart) = speaks_so (line_text (made.Event happens.Restart)) (omega arith) refl
speaks (made.Event (happens.Crash true)) = speaks_so (line_text (made.Event (happens.Crash true))) (omega arith) refl
speaks (made.Event (happens.Crash false)) = speaks_so (line_text (made.Event (happens.Crash false))) (omega arith) refl
speaks (made.Event happens.Settle) = speaks_so (line_text (made.Event happens.Settle)) (omega arith) refl
speaks (made.Create file) = speaks_so (line_text (made.Create file)) (omega arith) refl
speaks (made.Write create at word) = speaks_so (line_text (made.Write create at word)) (omega arith) refl
speaks (made.Lock create) = speaks_so (line_text (made.Lock create)) (omega arith) refl
speaks (made.Fill create at) = speaks_so (line_text (made.Fill create at)) (omega arith) refl
speaks (made.Read create) = speaks_so (line_text (made.Read create)) (omega arith) refl
speaks (made.End create) = speaks_so (line_text (made.End create)) (omega arith) refl
speaks (made.Unlock create) = speaks_so (line_text (made.Unlock create)) (omega arith) refl
speaks (made.Close create) = speaks_so (line_text (made.Close create)) (omega arith) refl

-- ---- what its words say

abbrev Says : List Bool → Given → MadeLine → Type 0
Says creates g l = statement Drill creates g (pieces 32 (line_text l)) ≡ Ok (line_said l)

event_says : (creates : List Bool) (g : Given) (e : MadeEvent) → IsMadeEvent e → Says creates g (made.Event e)
unfolding line_text Rattle.script_words.specs.Words.statement Rattle.script_words.specs.Words.line_part Rattle.script_words.specs.Words.event
    Rattle.script_words.specs.Events.event Rattle.script_words.specs.Events.other_event Rattle.script_words.specs.Events.on_connection
    Rattle.script_words.specs.Events.crashes Rattle.script_words.specs.Events.kept Rattle.script_words.specs.Events.kept_of
event_says creates g (happens.Link k) h = rw (link_words k (connection k h), number_read 255 k [] h (connection k h)) refl
event_says creates g (happens.Push k) h = rw (push_words k (connection k h), number_read 255 k [] h (connection k h)) refl
event_says creates g (happens.Serve k) h = rw (serve_words k (connection k h), number_read 255 k [] h (connection k h)) refl
event_says creates g (happens.Cut k) h = rw (cut_words k (connection k h), number_read 255 k [] h (connection k h)) refl
event_says creates g (happens.Drop k) h = rw (drop_words k (connection k h), number_read 255 k [] h (connection k h)) refl
event_says creates g happens.Restart h = rw restart_words refl
event_says creates g (happens.Crash true) h = rw (kept_words, first_connection (codes "kept" ∷ [])) refl
event_says creates g (happens.Crash false) h = rw (lost_words, first_connection (codes "lost" ∷ [])) refl
event_says creates g happens.Settle h = rw settle_words refl

line_says : (creates : List Bool) (g : Given) (l : MadeLine) → FitsBehind creates l → Says creates g l
unfolding Rattle.script_words.specs.Words.statement Rattle.script_words.specs.Words.line_part Rattle.script_words.specs.Words.operation
    Rattle.script_words.specs.Operations.operation Rattle.script_words.specs.Operations.named_operation
    Rattle.script_words.specs.Operations.long_operation Rattle.script_words.specs.Operations.creates_file
    Rattle.script_words.specs.Operations.access Rattle.script_words.specs.Operations.letters_of
    Rattle.script_words.specs.Operations.share Rattle.script_words.specs.Operations.disposition
    Rattle.script_words.specs.Operations.disposition_of Rattle.script_words.specs.Operations.kind
    Rattle.script_words.specs.Operations.kind_of Rattle.script_words.specs.Operations.writes
    Rattle.script_words.specs.Operations.fills Rattle.script_words.specs.Operations.reads
    Rattle.script_words.specs.Operations.sets_end Rattle.script_words.specs.Operations.locks
    Rattle.script_words.specs.Operations.exclusive Rattle.script_words.specs.Operations.exclusive_of
    Rattle.script_words.specs.Operations.unlocks Rattle.script_words.specs.Operations.on_open
line_says creates g (made.Event e) h = event_says creates g e h
line_says creates g (made.Create file) h =
    rw (create_words file (wide file h), name_read file (codes "rw" ∷ codes "-" ∷ codes "openif" ∷ codes "persist" ∷ []) h) refl
line_says creates g (made.Write create at word) h =
    rw (
      write_words create at word (short create h.0.few) (wide at h.1),
      create_read creates create (decimal at ∷ encode_lower (to_le_bytes w32 word) ∷ []) h.0.few h.0.named,
      number_read (2 ^ 64 - 1) at (encode_lower (to_le_bytes w32 word) ∷ []) (low at h.1) (wide at h.1),
      word_bytes_read word [],
    ) refl
line_says creates g (made.Lock create) h =
    rw (
      lock_words create (short create h.few),
      create_read creates create (codes "0" ∷ codes "10" ∷ codes "exclusive" ∷ []) h.few h.named,
      at_start (codes "10" ∷ codes "exclusive" ∷ []),
      ten_long (codes "exclusive" ∷ []),
    ) refl
line_says creates g (made.Fill create at) h =
    rw (
      fill_words create at (short create h.0.few) (wide at h.1),
      create_read creates create (decimal at ∷ codes "50" ∷ codes "61" ∷ []) h.0.few h.0.named,
      number_read (2 ^ 64 - 1) at (codes "50" ∷ codes "61" ∷ []) (low at h.1) (wide at h.1),
      fifty_long (codes "61" ∷ []),
      letter_read [],
    ) refl
line_says creates g (made.Read create) h =
    rw (
      read_words create (short create h.few),
      create_read creates create (codes "0" ∷ codes "200" ∷ []) h.few h.named,
      at_start (codes "200" ∷ []),
      two_hundred [],
    ) refl
line_says creates g (made.End create) h =
    rw (end_words create (short create h.few), create_read creates create (codes "100" ∷ []) h.few h.named, hundred_long []) refl
line_says creates g (made.Unlock create) h =
    rw (
      unlock_words create (short create h.few),
      create_read creates create (codes "0" ∷ codes "10" ∷ []) h.few h.named,
      at_start (codes "10" ∷ []),
      ten_long [],
    ) refl
line_says creates g (made.Close create) h =
    rw (close_words create (short create h.few), create_read creates create [] h.few h.named) refl

by_tests : (a b : Bool) (r : Result Statement Code) (st : Statement) → a ≡ true → b ≡ false → r ≡ Ok st
    → (if not a then Err BadLine else if b then Ok None else some r) ≡ Ok (Some st)
by_tests true true r st e f h = absurd cc
by_tests true false r st e f h = ap some h
by_tests false b r st e f h = absurd cc

pub lines_read : LinesReadBack
unfolding said
lines_read creates g l h =
    by_tests (is_utf8 (line_text l)) (says_nothing (line_text l)) (statement Drill creates g (pieces 32 (line_text l))) (line_said l)
    (is_text 32 (line_text l) (line_within creates l h)) (speaks l) (line_says creates g l h)
