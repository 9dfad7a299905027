-- Frames that open a file, ask something of it and close it, as usual clients send them.
use Rattle.std.specs.Prelude.{ℕ, true, false, List, [], ◌∷◌, map, Option, Some, None}
use Rattle.spec_wire.specs.messages.Bare.{bare_spelling}
use Rattle.spec_exchange.specs.Commands.{Command, Create, Close, QueryFile}
use Rattle.spec_exchange.specs.Fold.{nothing_yet}
use Rattle.spec_exchange.specs.State.{Server}
use Rattle.spec_commands.specs.BodyOf.{body_of, number_of_command}
use Rattle.spec_world.specs.Ends.{no_logons}
use Rattle.spec_crypto.specs.declared.sessions.material.Signer.{Signer}
use Rattle.spec_world.specs.Hearing.{Checked}
use Rattle.spec_world.specs.Answering.{SaidReply}
use Rattle.spec_world.specs.Connection.{Going, went_all, beginning}
use Rattle.examples_world.specs.runs.Ends.{greeted_end, nobody, header_of, checked}
use Rattle.examples_world.specs.runs.Keyed.{one_session, keyed_end}

-- session 9 has tree 1
abbrev pub one_tree : Server
one_tree = record one_session { trees = λ x. record { id = 1; pipes = false } ∷ [] }

abbrev pub on_a_tree : List Checked → Going
on_a_tree cs = went_all nobody 0 5 [] greeted_end (beginning one_tree no_logons greeted_end) cs

-- a new file of this name
abbrev pub make : List ℕ → Command
make path = Create (record {
  path = path;
  access = 3;
  share = 7;
  attributes = 0;
  disposition = 2;
  options = 0;
  durable = None;
  reconnect = None;
  maximal = false;
  disk_id = false;
})

abbrev pub first_of : Command → Option ℕ → Checked
first_of command fault =
    record (checked (record (header_of (number_of_command command) 1 0 0) { session = 9; tree = 1 }) (body_of command) false) { fault = fault }

-- related, with FF throughout in place of ids
abbrev pub behind : ℕ → Command → Checked
behind id command =
    checked (record (header_of (number_of_command command) id 4 0) { session = 0xffff_ffff_ffff_ffff; tree = 0xffff_ffff })
    (body_of command) true

abbrev pub no_class : Command
no_class = QueryFile 0xffff_ffff_ffff_ffff 99 100

abbrev pub close : Command
close = Close 0xffff_ffff_ffff_ffff false

-- a file is made, asked for a class that isn't known, and closed
abbrev pub made_and_closed : List Checked
made_and_closed = first_of (make (97 ∷ [])) None ∷ behind 2 no_class ∷ behind 3 close ∷ []

-- between them stands a bare request of this number, which names no open: an ECHO, a CANCEL, a CHANGE_NOTIFY
abbrev pub with_between : ℕ → List Checked
with_between number = first_of (make (97 ∷ [])) None ∷ checked (header_of number 2 4 0) bare_spelling true ∷ behind 3 close ∷ []

-- a CREATE that has the related flag as its frame's first message
abbrev pub misplaced_create : List Checked
misplaced_create = checked (record (header_of 5 1 4 0) { session = 9; tree = 1 }) (body_of (make (97 ∷ []))) false ∷ []

-- a CREATE and a CLOSE in which the connection found this fault, or none, where it has keys and the server no session
abbrev pub on_no_session : Option ℕ → Going
on_no_session fault =
    went_all nobody 0 5 [] (keyed_end false) (beginning nothing_yet no_logons (keyed_end false))
    (first_of (make (97 ∷ [])) fault ∷ record (behind 3 close) { fault = fault } ∷ [])

abbrev pub signers_of : List SaidReply → List (Option Signer)
signers_of rs = map (λ (r : SaidReply). r.signer) rs

-- a CREATE in which the connection found a fault, an ECHO and a CLOSE
abbrev pub refused_and_closed : List Checked
refused_and_closed =
    first_of (make (97 ∷ [])) (Some 0xc000_0022) ∷ checked (header_of 13 2 4 0) bare_spelling true ∷ behind 3 close ∷ []

-- a CLOSE that isn't related begins a chain of its own
abbrev pub refused_and_apart : List Checked
refused_and_apart =
    first_of (make (97 ∷ [])) (Some 0xc000_0022) ∷ first_of close None ∷ behind 3 close ∷ []
