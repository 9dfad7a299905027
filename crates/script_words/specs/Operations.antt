-- The lines of operations, behind their first word `op`. C names an earlier create by its number, from 1.
use Rattle.std.specs.Prelude.{ℕ, ◌+◌, ◌-◌, ◌^◌, Bool, true, false, if◌then◌else◌, List, codes, replicate, Option, Some}
use Rattle.std.specs.Prelude.{None, Result, Ok, Err}
use Rattle.std.specs.Str.{bytes_eq}
use Rattle.client_values.specs.declared.operations.values.OpKind.{OpKind}
use Rattle.client_values.specs.declared.operations.values.OpKind.TheVariants as kinds
use Rattle.script_words.specs.Outcome.{◌>>=◌}
use Rattle.script_words.specs.Parts.{Reading, word, number, create, bytes, byte, path, given_by}
use Rattle.script_words.specs.declared.operations.Letters.{Letters}
use Rattle.script_words.specs.declared.values.Code.TheVariants.{BadLine}

-- ---- the words of a create: what it may do with the file, and what others may meanwhile

abbrev pub three : Bool → Bool → Bool → Letters
three reads writes deletes = record { reads = reads; writes = writes; deletes = deletes }

-- letters of `rwd` in this order, one at least
unfoldable pub letters_of : List ℕ → Option Letters
letters_of text =
    if bytes_eq text (codes "r") then Some (three true false false)
    else if bytes_eq text (codes "w") then Some (three false true false)
    else if bytes_eq text (codes "d") then Some (three false false true)
    else if bytes_eq text (codes "rw") then Some (three true true false)
    else if bytes_eq text (codes "rd") then Some (three true false true)
    else if bytes_eq text (codes "wd") then Some (three false true true)
    else if bytes_eq text (codes "rwd") then Some (three true true true)
    else None

abbrev pub if_said : Bool → ℕ → ℕ
if_said said mask = if said then mask else 0

-- DesiredAccess (MS-SMB2 2.2.13.1.1): r is 0x81, w 0x102, d 0x10000
abbrev pub access_mask : Letters → ℕ
access_mask letters = if_said letters.reads 129 + (if_said letters.writes 258 + if_said letters.deletes 65536)

-- ShareAccess (MS-SMB2 2.2.13): r is 1, w 2, d 4
abbrev pub share_mask : Letters → ℕ
share_mask letters = if_said letters.reads 1 + (if_said letters.writes 2 + if_said letters.deletes 4)

abbrev pub mask_by : (Letters → ℕ) → Option Letters → Option ℕ
mask_by mask None = None
mask_by mask (Some letters) = Some (mask letters)

unfoldable pub access : List (List ℕ) → Reading ℕ
access words = do
  first ← word words
  given_by (mask_by access_mask (letters_of first.0)) first.1

-- `-` shares nothing
abbrev pub share_of : List ℕ → Option ℕ
share_of text = if bytes_eq text (codes "-") then Some 0 else mask_by share_mask (letters_of text)

unfoldable pub share : List (List ℕ) → Reading ℕ
share words = do
  first ← word words
  given_by (share_of first.0) first.1

-- CreateDisposition (MS-SMB2 2.2.13)
unfoldable pub disposition_of : List ℕ → Option ℕ
disposition_of text =
    if bytes_eq text (codes "supersede") then Some 0
    else if bytes_eq text (codes "open") then Some 1
    else if bytes_eq text (codes "create") then Some 2
    else if bytes_eq text (codes "openif") then Some 3
    else if bytes_eq text (codes "overwrite") then Some 4
    else if bytes_eq text (codes "overwriteif") then Some 5
    else None

unfoldable pub disposition : List (List ℕ) → Reading ℕ
disposition words = do
  first ← word words
  given_by (disposition_of first.0) first.1

-- whether its open outlives its session, and whether it is a directory's
unfoldable pub kind_of : List ℕ → Option (Bool × Bool)
kind_of text =
    if bytes_eq text (codes "plain") then Some (false, false)
    else if bytes_eq text (codes "persist") then Some (true, false)
    else if bytes_eq text (codes "dir") then Some (false, true)
    else None

unfoldable pub kind : List (List ℕ) → Reading (Bool × Bool)
kind words = do
  first ← word words
  given_by (kind_of first.0) first.1

-- ---- each operation behind its name

-- `create PATH ACCESS SHARE DISP KIND`
unfoldable pub creates_file : List (List ℕ) → Reading OpKind
creates_file words = do
  name ← path words
  asked ← access name.1
  shared ← share asked.1
  how ← disposition shared.1
  what ← kind how.1
  Ok (kinds.Create name.0 asked.0 shared.0 how.0 what.0.0 what.0.1, what.1)

-- `write C AT HEX`: one byte more than a request may carry, so that its refusal can be seen
unfoldable pub writes : List Bool → List (List ℕ) → Reading OpKind
writes creates words = do
  on ← create creates words
  at ← number (2 ^ 64 - 1) on.1
  held ← bytes 1_048_577 at.1
  Ok (kinds.Write on.0 at.0 held.0, held.1)

-- `fill C AT LEN BYTE`: a write of so many times this byte
unfoldable pub fills : List Bool → List (List ℕ) → Reading OpKind
fills creates words = do
  on ← create creates words
  at ← number (2 ^ 64 - 1) on.1
  size ← number 1_048_577 at.1
  held ← byte size.1
  Ok (kinds.Write on.0 at.0 (replicate size.0 held.0), held.1)

-- `read C AT LEN`
unfoldable pub reads : List Bool → List (List ℕ) → Reading OpKind
reads creates words = do
  on ← create creates words
  at ← number (2 ^ 64 - 1) on.1
  size ← number 1_048_577 at.1
  Ok (kinds.Read on.0 at.0 size.0, size.1)

-- `end C LEN`
unfoldable pub sets_end : List Bool → List (List ℕ) → Reading OpKind
sets_end creates words = do
  on ← create creates words
  size ← number (2 ^ 64 - 1) on.1
  Ok (kinds.SetEnd on.0 size.0, size.1)

-- `time C T`
unfoldable pub sets_time : List Bool → List (List ℕ) → Reading OpKind
sets_time creates words = do
  on ← create creates words
  time ← number (2 ^ 64 - 1) on.1
  Ok (kinds.SetTime on.0 time.0, time.1)

-- `rename C PATH`
unfoldable pub renames : List Bool → List (List ℕ) → Reading OpKind
renames creates words = do
  on ← create creates words
  name ← path on.1
  Ok (kinds.Rename on.0 name.0, name.1)

unfoldable pub exclusive_of : List ℕ → Option Bool
exclusive_of text =
    if bytes_eq text (codes "shared") then Some false
    else if bytes_eq text (codes "exclusive") then Some true
    else None

unfoldable pub exclusive : List (List ℕ) → Reading Bool
exclusive words = do
  first ← word words
  given_by (exclusive_of first.0) first.1

-- `lock C AT LEN shared|exclusive`
unfoldable pub locks : List Bool → List (List ℕ) → Reading OpKind
locks creates words = do
  on ← create creates words
  at ← number (2 ^ 64 - 1) on.1
  size ← number (2 ^ 64 - 1) at.1
  alone ← exclusive size.1
  Ok (kinds.Lock on.0 at.0 size.0 alone.0, alone.1)

-- `unlock C AT LEN`
unfoldable pub unlocks : List Bool → List (List ℕ) → Reading OpKind
unlocks creates words = do
  on ← create creates words
  at ← number (2 ^ 64 - 1) on.1
  size ← number (2 ^ 64 - 1) at.1
  Ok (kinds.Unlock on.0 at.0 size.0, size.1)

-- `remove C`, `flush C`, `stat C`, `list C` and `close C`
unfoldable pub on_open : (ℕ → OpKind) → List Bool → List (List ℕ) → Reading OpKind
on_open made creates words = do
  on ← create creates words
  Ok (made on.0, on.1)

-- the operations that have more words than a create's number
unfoldable pub long_operation : List Bool → List ℕ → List (List ℕ) → Reading OpKind
long_operation creates name words =
    if bytes_eq name (codes "create") then creates_file words
    else if bytes_eq name (codes "write") then writes creates words
    else if bytes_eq name (codes "fill") then fills creates words
    else if bytes_eq name (codes "read") then reads creates words
    else if bytes_eq name (codes "end") then sets_end creates words
    else if bytes_eq name (codes "time") then sets_time creates words
    else if bytes_eq name (codes "rename") then renames creates words
    else if bytes_eq name (codes "lock") then locks creates words
    else if bytes_eq name (codes "unlock") then unlocks creates words
    else Err BadLine

unfoldable pub named_operation : List Bool → List ℕ → List (List ℕ) → Reading OpKind
named_operation creates name words =
    if bytes_eq name (codes "remove") then on_open kinds.Remove creates words
    else if bytes_eq name (codes "flush") then on_open kinds.Flush creates words
    else if bytes_eq name (codes "stat") then on_open kinds.Stat creates words
    else if bytes_eq name (codes "list") then on_open kinds.List creates words
    else if bytes_eq name (codes "close") then on_open kinds.Close creates words
    else long_operation creates name words

unfoldable pub operation : List Bool → List (List ℕ) → Reading OpKind
operation creates words = do
  name ← word words
  named_operation creates name.0 name.1
