-- What a reply says to its operation.
use Rattle.std.specs.Prelude.{◌≡◌, ℕ, false, if◌then◌else◌, Some}
use Rattle.client_steps.specs.whole_client.Shown.{ShowsClient}
use Rattle.client_steps.specs.declared.whole_client.client.Client.{Client as Core}
use Rattle.client_ends.specs.declared.line_calls.incoming.Answer.{Answer}
use Rattle.client_ends.specs.ends.Shown.{token_of}
use Rattle.spec_commands.specs.ReplyOf as reading
use Rattle.spec_exchange.specs.Client.{Client, create_for, guid_for}
use Rattle.spec_exchange.specs.Commands.{Command}
use Rattle.spec_exchange.specs.Operations.{reconnect_of, request_of}
use Rattle.spec_world.specs.Dialog.{is_dialogs}
use Rattle.spec_world.specs.World.{command_asked}
use Rattle.wire_commands.specs.values.Meaning.{reply_of}
use Rattle.wire_commands.specs.declared.values.reply.Reply.{Reply}
use Rattle.client_book.specs.Asking.{token_for}
use Rattle.client_book.specs.declared.reading.Response.{Response}

-- the response of a reply: whose it is, and its message
pub record IsResponseOf (a : Answer) (r : Response) : Type 0 where
  pub header : r.header ≡ a.header
  pub message : r.message ≡ a.message
  pub token : is_dialogs (Some (token_of a.token)) ≡ false → token_of a.token ≡ token_for r.number r.asking

abbrev pub IsCommandOf : Core → ℕ → Response → Command → Type 0
IsCommandOf x salt r command =
    (c : Client) → ShowsClient x c → c.who.salt ≡ salt → command
    ≡ (if r.asking then reconnect_of (c.op (create_for c r.number)) (guid_for c (create_for c r.number)) (c.file (create_for c r.number))
    else request_of (c.op r.number) (guid_for c r.number) (c.file (create_for c r.number)) (c.slot_of r.number) (c.number_of r.number))

-- it reads by its operation's command, or by that of the request to attach
abbrev pub Reads : Core → ℕ → Response → Reply → Type 0
Reads x salt r reply =
    (c : Client) → ShowsClient x c → c.who.salt ≡ salt
    → reply_of reply ≡ reading.reply_of (command_asked c r.number r.asking) r.header r.message
