-- The replies of a server whose rows fit can be written, in few bytes.
use Rattle.std.specs.Prelude.{ℕ, ◌^◌, ◌<◌, ◌≤◌, List, length, IsUtf8}
use Rattle.spec_exchange.specs.State.{Server, Message, Heard, Body, FileInfo}
use Rattle.spec_exchange.specs.Step.{step}
use Rattle.spec_commands.specs.Fits.{FitsReply}
use Rattle.spec_commands.specs.ReplyBody.{reply_body}
use Rattle.wire_commands.specs.reply_shapes.Room.{reply_room}
use Rattle.law_replies.specs.fields.Rows.{RowsFit}

-- the path that is told of a file is text
abbrev pub IsTextBody : Body → Type 0
IsTextBody (FileInfo class path info access options position) = IsUtf8 path
IsTextBody _ = Unit {0}

abbrev pub RepliesFit : Type 0
RepliesFit =
    (token : List ℕ) (s : Server) (now : ℕ) (m : Message) → RowsFit s → length token < 2 ^ 16
    → IsTextBody (step s now (Heard m)).reply.body
    → FitsReply token m.command (step s now (Heard m)).reply
    × (length (reply_body token m.command (step s now (Heard m)).reply) ≤ reply_room m.command)
