-- How many bytes the body of a reply takes at most.
use Rattle.std.specs.Prelude.{ℕ, ◌+◌, min}
use Rattle.spec_exchange.specs.Commands.{Command, Setup, Read, ListDirectory, QueryFile}

-- what was asked for, of which a request may ask for 1,048,576 bytes, behind a fixed part; a SESSION_SETUP's token has 65,535
abbrev pub reply_room : Command → ℕ
reply_room (Setup request) = 66048
reply_room (Read file at size minimum channel) = 512 + min size 1048576
reply_room (ListDirectory file class restart single pattern room) = 512 + min room 1048576
reply_room (QueryFile file class room) = 512 + min room 1048576
reply_room _ = 512
