-- What a run prints: its refused dialogs, a line for each operation in the order of their numbers, the orders of creates, and
-- the files. And what is printed of a refused line.
use Rattle.std.specs.Prelude.{ℕ, ◌+◌, ◌==◌, nat_le, Bool, ◌&&◌, if◌then◌else◌, List, [], ◌∷◌, ◌++◌, length, codes}
use Rattle.std.specs.Fmt.{decimal}
use Rattle.std.specs.Int.{w32, to_be_bytes}
use Rattle.std.specs.List.{flat_map}
use Rattle.hex.specs.Hex.{encode_lower}
use Rattle.sha2.specs.Sha256.{sha256}
use Rattle.spec_exchange.specs.Client.{RefusedDialog}
use Rattle.spec_exchange.specs.Operations.{Op, is_create, is_ok, share_of}
use Rattle.spec_exchange.specs.Operations.{Outcome, Unsettled, WasOk, WasRefused, NoSlot, NoOpen, Unknown}
use Rattle.spec_exchange.specs.Operations.{OpReply, IsDone, Action, IsCount, IsContent, Length, Names}
use Rattle.spec_exchange.specs.Operations.{Why, SessionLost, WithStatus, NoSession, GaveUp, Ended}
use Rattle.spec_exchange.specs.Operations.{Refusal, BadChoice, BadToken, BadSignature, HadStatus, NoSha512}
use Rattle.spec_exchange.specs.Opens.{denies_writers}
use Rattle.store_files.specs.declared.file_tree.files.StoredFile.{StoredFile}
use Rattle.script_words.specs.declared.values.Code.{Code}
use Rattle.script_words.specs.declared.values.Code.TheVariants.{BadLine, TooLong, NoChannel, NothingThere, InUse}
use Rattle.script_words.specs.declared.text_lines.line.Refusal.{Refusal as RefusedLine}
use Rattle.script_words.specs.declared.outcome_lines.orders.CreateOrder.{CreateOrder}

-- ---- bytes and statuses

-- two lower case digits a byte, and `-` for no bytes
abbrev pub bytes_text : List ℕ → List ℕ
bytes_text bytes = if length bytes == 0 then codes "-" else encode_lower bytes

-- a status as eight digits (MS-ERREF 2.3.1)
unfoldable pub status_text : ℕ → List ℕ
status_text status = encode_lower (to_be_bytes w32 status)

-- ---- refused dialogs

abbrev pub refusal_text : Refusal → List ℕ
refusal_text (BadChoice field) = codes "bad-choice"
refusal_text BadToken = codes "bad-token"
refusal_text BadSignature = codes "bad-signature"
refusal_text (HadStatus status) = codes "status " ++ status_text status
refusal_text NoSha512 = codes "no-sha512"

-- a dialog by its connection
unfoldable pub dialog_line : RefusedDialog → List ℕ
dialog_line d = codes "dialog " ++ (decimal d.connection ++ (codes " " ++ (refusal_text d.refusal ++ codes "\n")))

-- ---- operations

-- what a create did (MS-SMB2 2.2.14); a number that has no name there, as it is
unfoldable pub action_text : ℕ → List ℕ
action_text action =
    if action == 0 then codes "superseded"
    else if action == 1 then codes "opened"
    else if action == 2 then codes "created"
    else if action == 3 then codes "overwritten"
    else decimal action

abbrev pub behind_slash : List ℕ → List ℕ
behind_slash name = codes "/" ++ name

-- names divided by slashes
abbrev pub joined_names : List (List ℕ) → List ℕ
joined_names [] = []
joined_names (first ∷ more) = first ++ flat_map behind_slash more

-- and `-` for no names
abbrev pub names_text : List (List ℕ) → List ℕ
names_text names = if length names == 0 then codes "-" else joined_names names

abbrev pub reply_text : OpReply → List ℕ
reply_text IsDone = codes "ok"
reply_text (Action action) = codes "ok " ++ action_text action
reply_text (IsCount count) = codes "ok " ++ decimal count
reply_text (IsContent bytes) = codes "ok " ++ bytes_text bytes
reply_text (Length size) = codes "ok " ++ decimal size
reply_text (Names names) = codes "ok " ++ names_text names

abbrev pub why_text : Why → List ℕ
why_text (SessionLost session) = codes "session-lost " ++ decimal session
why_text (WithStatus status) = codes "status " ++ status_text status
why_text (NoSession refusal) = codes "no-session " ++ refusal_text refusal
why_text (GaveUp tries) = codes "gave-up " ++ decimal tries
why_text Ended = codes "ended"

-- an operation that never settled is unknown, since the schedule ended
abbrev pub outcome_text : Outcome → List ℕ
outcome_text Unsettled = codes "unknown ended"
outcome_text (WasOk reply) = reply_text reply
outcome_text (WasRefused status) = codes "refused " ++ status_text status
outcome_text (NoSlot create) = codes "noslot " ++ decimal create
outcome_text (NoOpen create) = codes "noopen " ++ decimal create
outcome_text (Unknown why) = codes "unknown " ++ why_text why

unfoldable pub outcome_line : ℕ → Outcome → List ℕ
outcome_line number outcome = decimal number ++ (codes " " ++ (outcome_text outcome ++ codes "\n"))

-- the lines of operations whose numbers follow each other, from a number on
unfoldable pub settled_lines : ℕ → List Outcome → List ℕ
settled_lines number [] = []
settled_lines number (outcome ∷ outcomes) = outcome_line number outcome ++ settled_lines (number + 1) outcomes

-- ---- orders

-- a create that settled Ok, whose share access lacks writing: what other opens do leaves the bytes of its file
abbrev pub has_order : Op → Outcome → Bool
has_order op outcome = is_create op && (is_ok outcome && denies_writers (share_of op))

abbrev pub behind_space : ℕ → List ℕ
behind_space number = codes " " ++ decimal number

-- a create, and the numbers of the writes, ends and reads of its open
unfoldable pub order_line : CreateOrder → List ℕ
order_line order = codes "order " ++ (decimal order.create ++ (flat_map behind_space order.numbers ++ codes "\n"))

-- ---- files

-- the bytes of a file, or above 64 bytes their digest (FIPS 180-4)
abbrev pub content_text : List ℕ → List ℕ
content_text bytes = if nat_le (length bytes) 64 then bytes_text bytes else codes "sha256:" ++ encode_lower (sha256 bytes)

unfoldable pub file_line : StoredFile → List ℕ
file_line file = codes "file " ++ (file.path ++ (codes " "
    ++ (decimal (length file.bytes) ++ (codes " " ++ (content_text file.bytes ++ codes "\n")))))

-- ---- all of it

abbrev pub run_text : List RefusedDialog → List Outcome → List CreateOrder → List StoredFile → List ℕ
run_text dialogs outcomes orders files =
    flat_map dialog_line dialogs ++ (settled_lines 1 outcomes ++ (flat_map order_line orders ++ flat_map file_line files))

-- ---- a refused line

abbrev pub code_text : Code → List ℕ
code_text BadLine = codes "bad-line"
code_text TooLong = codes "too-long"
code_text (NoChannel connection) = codes "no-channel " ++ decimal connection
code_text (NothingThere connection) = codes "nothing-there " ++ decimal connection
code_text (InUse connection) = codes "in-use " ++ decimal connection

unfoldable pub refusal_line : RefusedLine → List ℕ
refusal_line refusal = codes "line " ++ (decimal refusal.line ++ (codes " " ++ (code_text refusal.code ++ codes "\n")))
