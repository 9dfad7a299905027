-- A server's rows and its journal's records fit on.
use Rattle.std.specs.Prelude.{ℕ, ◌^◌, ◌<◌, ◌≤◌, List, [], ◌∷◌, ◌++◌, Option, Some, None, IsUtf8}
use Rattle.spec_exchange.specs.Commands.{Command, Create, SetInfo, Setting, SetBasic, Rename}
use Rattle.spec_exchange.specs.State.{Server, ServerEvent, Heard, Record, NewOpen, CreateRecord, WriteRecord, EndRecord}
use Rattle.spec_exchange.specs.State.{BasicRecord, RenameRecord}
use Rattle.spec_exchange.specs.Fold.{Configuration, full_room, recovered, recovery_records}
use Rattle.spec_exchange.specs.Step.{step}
use Rattle.law_commands.specs.commands.Fitting.{IsBasic}
use Rattle.law_replies.specs.fields.Rows.{IsLeaf, IsFieldPlace, RowsFit}
use Rattle.law_server.specs.tables.Fits.{Fits}
use Rattle.spec_world.specs.Lacking.{Expires, alone_records}

-- ---- what a request has by the types of its parts: texts, and numbers within their fields

abbrev pub IsTypedSetting : Setting → Type 0
IsTypedSetting (SetBasic basic) = IsBasic basic
IsTypedSetting (Rename replace path) = IsUtf8 path
IsTypedSetting _ = Unit {0}

abbrev pub IsTyped : Command → Type 0
IsTyped (Create r) = IsUtf8 r.path × (r.attributes < 256 ^ 4)
IsTyped (SetInfo file setting) = IsTypedSetting setting
IsTyped _ = Unit {0}

abbrev pub IsTypedEvent : ServerEvent → Type 0
IsTypedEvent (Heard m) = IsTyped m.command
IsTypedEvent _ = Unit {0}

-- ---- records that fit

abbrev pub IsShortOpen : Option NewOpen → Type 0
IsShortOpen None = Unit {0}
IsShortOpen (Some n) = n.timeout ≤ 300000

abbrev pub RecordFits : Record → Type 0
RecordFits (CreateRecord origin action file path attributes is_dir time opened) =
    IsLeaf path × (attributes < 256 ^ 4) × (time < 256 ^ 8) × IsShortOpen opened
RecordFits (WriteRecord origin file at time bytes) = time < 256 ^ 8
RecordFits (EndRecord origin file size time) = time < 256 ^ 8
RecordFits (BasicRecord origin file basic) = IsBasic basic
RecordFits (RenameRecord origin file replaced path) = IsFieldPlace path
RecordFits _ = Unit {0}

abbrev pub RecordsFit : List Record → Type 0
RecordsFit [] = Unit {0}
RecordsFit (r ∷ rs) = RecordFits r × RecordsFit rs

-- ---- they stay so

abbrev pub RowsKept : Type 0
RowsKept =
    (s : Server) (now : ℕ) (e : ServerEvent) (records : List Record) → now < 256 ^ 8 → Fits s → IsTypedEvent e → RowsFit s
    → RecordsFit records → RowsFit (step s now e).server × RecordsFit (records ++ (step s now e).records)

abbrev pub RowsKeptAlone : Type 0
RowsKeptAlone =
    (s : Server) (now : ℕ) (e : ServerEvent) (t : Server) (o : ℕ) (records : List Record) → Expires s now e t o → RowsFit s
    → RecordsFit records → RowsFit t × RecordsFit (records ++ alone_records s now e o)

abbrev pub RowsKeptBehind : Type 0
RowsKeptBehind =
    (z : Configuration) (bytes : ℕ) (records : List Record) → z.room ≤ full_room → RecordsFit records
    → RowsFit (recovered z bytes records) × RecordsFit (records ++ recovery_records records)
