-- A reply can be written, in at most the room of its command.
use Rattle.std.proofs.Common.{ℕ, ◌≤◌, List, [], length, arith}
use Rattle.spec_wire.specs.messages.Error.{error_response_table, error_response_spelling}
use Rattle.spec_exchange.specs.Commands.{Command, Aside, Unreadable, Setup, Logoff, TreeConnect, TreeDisconnect, Create, Close}
use Rattle.spec_exchange.specs.Commands.{Flush, Read, Write, Lock, Ioctl, ListDirectory, QueryFile, QueryVolume, SetInfo}
use Rattle.spec_exchange.specs.State.{Heard, Reply}
use Rattle.spec_exchange.specs.Step.{step}
use Rattle.law_server.proofs.tables.Logic.{either}
use Rattle.spec_commands.specs.ReplyBody.{reply_body, success_body, is_told}
use Rattle.spec_commands.proofs.Lengths.{total, length_fields}
use Rattle.law_replies.specs.replies.Replies.{RepliesFit}
use Rattle.wire_commands.specs.reply_shapes.Room.{reply_room}
use Rattle.law_replies.proofs.replies.Told.{body_is}
use Rattle.law_replies.proofs.replies.Lengths.{Fits, success_fits}

room_least : (c : Command) → 512 ≤ reply_room c
room_least (Aside status) = omega arith
room_least (Unreadable status) = omega arith
room_least (Setup request) = omega arith
room_least Logoff = omega arith
room_least (TreeConnect share) = omega arith
room_least TreeDisconnect = omega arith
room_least (Create request) = omega arith
room_least (Close file query) = omega arith
room_least (Flush file) = omega arith
room_least (Read file at size minimum channel) = omega arith
room_least (Write file at bytes channel) = omega arith
room_least (Lock file index number elements) = omega arith
room_least (Ioctl file code room) = omega arith
room_least (ListDirectory file class restart single pattern room) = omega arith
room_least (QueryFile file class room) = omega arith
room_least (QueryVolume file class room) = omega arith
room_least (SetInfo file setting) = omega arith

pub room_most : (c : Command) → reply_room c ≤ 1049088
room_most (Aside status) = omega arith
room_most (Unreadable status) = omega arith
room_most (Setup request) = omega arith
room_most Logoff = omega arith
room_most (TreeConnect share) = omega arith
room_most TreeDisconnect = omega arith
room_most (Create request) = omega arith
room_most (Close file query) = omega arith
room_most (Flush file) = omega arith
room_most (Read file at size minimum channel) = omega arith
room_most (Write file at bytes channel) = omega arith
room_most (Lock file index number elements) = omega arith
room_most (Ioctl file code room) = omega arith
room_most (ListDirectory file class restart single pattern room) = omega arith
room_most (QueryFile file class room) = omega arith
room_most (QueryVolume file class room) = omega arith
room_most (SetInfo file setting) = omega arith

error_few : length (error_response_spelling (record { error_context_count = 0; byte_count = 0 })) ≤ 512
unfolding total
error_few = omega (arith, length_fields (error_response_table (record { error_context_count = 0; byte_count = 0 })) [])

less : (a b : ℕ) → a ≤ 512 → 512 ≤ b → a ≤ b
less a b l h = omega (arith, l, h)

body_few : (token : List ℕ) (c : Command) (r : Reply) → Fits token c r.body → length (reply_body token c r) ≤ reply_room c
unfolding reply_body
body_few token c r f =
    either (λ (bs : List ℕ). length bs ≤ reply_room c) (is_told c r.status) (success_body token c r.body) _ (λ _. f.1)
    (λ _. less (length (error_response_spelling (record { error_context_count = 0; byte_count = 0 }))) (reply_room c) error_few
    (room_least c))

pub replies_fit : RepliesFit
replies_fit token s now m h short text =
    let r = (step s now (Heard m)).reply in
    let f = success_fits token m.command r.body short text (body_is s now m h) in
    (λ _. f.0, body_few token m.command r f)
