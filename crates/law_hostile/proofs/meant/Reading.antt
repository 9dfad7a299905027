-- A request's frame, whose numbers fit, is read as what it was made for.
use Rattle.std.proofs.Common.{◌≡◌, ℕ, ◌+◌, ◌-◌, ◌/◌, ◌<◌, ◌≤◌, ◌^◌, ◌==◌, Bool, true, false, not, ◌&&◌, if◌then◌else◌, List}
use Rattle.std.proofs.Common.{[], ◌∷◌, refl, sym, ap, ◌∙◌, subst, arith, Option, Some, None, Result, Ok, Err}
use Rattle.std.proofs.lemmas.Bool.Decides.{nat_tests}
use Rattle.std.specs.Prelude.{option_map}
use Rattle.spec_wire.specs.messages.Header.{IsWritableHeader}
use Rattle.spec_wire.specs.declared.messages.header.Header.{Header}
use Rattle.spec_exchange.specs.Commands.{Command, has_bit}
use Rattle.spec_exchange.specs.State.{Message}
use Rattle.spec_exchange.specs.Operations.{Op, OpCreate, OpWrite, OpRead, OpEnd, OpTime, OpRename, OpRemove, OpLock, OpUnlock}
use Rattle.spec_exchange.specs.Operations.{OpFlush, OpStat, OpList, OpClose, keeps_limits, is_create, request_of, reconnect_of, weight}
use Rattle.spec_exchange.specs.Operations.{charge as charge_of}
use Rattle.spec_crypto.specs.declared.sessions.material.Signer.{Signer}
use Rattle.spec_crypto.specs.sessions.Signing.{signed}
use Rattle.spec_commands.specs.CommandOf.{Told, heard_as as message_as, command_of, message_of}
use Rattle.spec_commands.specs.BodyOf.{body_of, number_of_command}
use Rattle.spec_commands.specs.Tables.{bit_if}
use Rattle.law_server.proofs.tables.Logic.{either}
use Rattle.spec_world.specs.Settings.{WorldSettings}
use Rattle.spec_world.specs.Messages.{HeardMessage, messages_in}
use Rattle.spec_world.specs.Ends.{ServerEnd, Logons, ConnEnd, BadFrame, client_on}
use Rattle.spec_world.specs.Negotiate.{client_told}
use Rattle.spec_world.specs.Hearing.{Frame, check_frame, checked_text, checked_in, checked_behind, checked_as, behind_turn}
use Rattle.spec_world.specs.Hearing.{turn_end, if_in_turn, is_too_long, begins_sealed, opened_by, opened_text, split_text, is_misplaced}
use Rattle.spec_world.specs.Hearing.{is_negotiate}
use Rattle.spec_world.specs.Sending.{request_header, request_text}
use Rattle.spec_world.specs.Connection.{told_of, heard_message}
use Rattle.law_ties.specs.wire_facts.Fitting.{IsMessage, Signed}
use Rattle.law_ties.specs.wire_facts.Lawful.{header_as, heard_under, AreHeadersLawful, AreCommandsLawful, AreTreesLawful}
use Rattle.law_ties.proofs.requests.Commands.{placed_well}
use Rattle.law_ties.proofs.requests.Asking.{replay_told, related_not, small_low}
use Rattle.law_hostile.specs.meant.Meant.{bytes_moved}
use Rattle.law_hostile.specs.meant.Heard.{FitsCommand, OfOperation, OfAttach, OfTree, FitsRequest, IsHeardAs}
use Rattle.law_hostile.proofs.ids.Bearing.{own_moves, asked_moves}

-- ---- numbers

-- the command's number is none of a dialog's first two, nor an ECHO's
pub record IsLineNumber (n : ℕ) : Type 0 where
  pub small : n < 256 ^ 2
  pub greets_not : (n == 0) ≡ false
  pub sets_not : (n == 1) ≡ false
  pub asks_not : (n == 13) ≡ false

own_number : (op : Op) (guid file slot turn : ℕ) → IsLineNumber (number_of_command (request_of op guid file slot turn))
own_number (OpCreate path access share disposition persist directory) guid file slot turn = record { small = omega arith; greets_not = refl; sets_not = refl; asks_not = refl }
own_number (OpWrite create at bytes) guid file slot turn = record { small = omega arith; greets_not = refl; sets_not = refl; asks_not = refl }
own_number (OpRead create at size) guid file slot turn = record { small = omega arith; greets_not = refl; sets_not = refl; asks_not = refl }
own_number (OpEnd create size) guid file slot turn = record { small = omega arith; greets_not = refl; sets_not = refl; asks_not = refl }
own_number (OpTime create time) guid file slot turn = record { small = omega arith; greets_not = refl; sets_not = refl; asks_not = refl }
own_number (OpRename create path) guid file slot turn = record { small = omega arith; greets_not = refl; sets_not = refl; asks_not = refl }
own_number (OpRemove create) guid file slot turn = record { small = omega arith; greets_not = refl; sets_not = refl; asks_not = refl }
own_number (OpLock create at size exclusive) guid file slot turn = record { small = omega arith; greets_not = refl; sets_not = refl; asks_not = refl }
own_number (OpUnlock create at size) guid file slot turn = record { small = omega arith; greets_not = refl; sets_not = refl; asks_not = refl }
own_number (OpFlush create) guid file slot turn = record { small = omega arith; greets_not = refl; sets_not = refl; asks_not = refl }
own_number (OpStat create) guid file slot turn = record { small = omega arith; greets_not = refl; sets_not = refl; asks_not = refl }
own_number (OpList create) guid file slot turn = record { small = omega arith; greets_not = refl; sets_not = refl; asks_not = refl }
own_number (OpClose create) guid file slot turn = record { small = omega arith; greets_not = refl; sets_not = refl; asks_not = refl }

off : {X : Type 0} → false ≡ true → X
off e = absurd (let h : false ≡ true = e in cc)

asked_number : (op : Op) (guid file : ℕ) → is_create op ≡ true → IsLineNumber (number_of_command (reconnect_of op guid file))
asked_number (OpCreate path access share disposition persist directory) guid file e = record { small = omega arith; greets_not = refl; sets_not = refl; asks_not = refl }
asked_number (OpWrite create at bytes) guid file e = off e
asked_number (OpRead create at size) guid file e = off e
asked_number (OpEnd create size) guid file e = off e
asked_number (OpTime create time) guid file e = off e
asked_number (OpRename create path) guid file e = off e
asked_number (OpRemove create) guid file e = off e
asked_number (OpLock create at size exclusive) guid file e = off e
asked_number (OpUnlock create at size) guid file e = off e
asked_number (OpFlush create) guid file e = off e
asked_number (OpStat create) guid file e = off e
asked_number (OpList create) guid file e = off e
asked_number (OpClose create) guid file e = off e

pub line_number : (z : WorldSettings) (c : Command) → FitsCommand z c → IsLineNumber (number_of_command c)
line_number z c (OfOperation op guid file slot turn e keeps g f s n) =
    subst (λ d. IsLineNumber (number_of_command d)) (sym e) (own_number op guid file slot turn)
line_number z c (OfAttach op guid file e keeps creates g f) =
    subst (λ d. IsLineNumber (number_of_command d)) (sym e) (asked_number op guid file creates)
line_number z c (OfTree e) =
    subst (λ d. IsLineNumber (number_of_command d)) (sym e) (record { small = omega arith; greets_not = refl; sets_not = refl; asks_not = refl })

pub fits_no_dialog : (z : WorldSettings) (c : Command) → FitsCommand z c → number_of_command c ≡ 0 → ⊥
fits_no_dialog z c fits e =
    let line = line_number z c fits in
    let q : true ≡ false = sym (ap (λ n. n == 0) e) ∙ line.greets_not in
    cc

weight_low : (op : Op) → keeps_limits op ≡ true → weight op ≤ 1048577
weight_low (OpWrite create at bytes) k = grind (arith, nat_tests)
weight_low (OpRead create at size) k = grind (arith, nat_tests)
weight_low _ k = omega arith

pub charge_low : (n : ℕ) → n ≤ 1048577 → charge_of n < 256 ^ 2
charge_low n l = either (λ m. m < 256 ^ 2) (n == 0) 1 ((n - 1) / 65536 + 1) (λ _. omega arith) (λ _. omega (arith, l))

no_bytes : (n : ℕ) → n ≡ 0 → n ≤ 1048577
no_bytes n e = omega (arith, e)

pub moves_low : (z : WorldSettings) (c : Command) → FitsCommand z c → bytes_moved c ≤ 1048577
moves_low z c (OfOperation op guid file slot turn e keeps g f s n) =
    subst (λ w. w ≤ 1048577) (sym (ap bytes_moved e ∙ own_moves op guid file slot turn)) (weight_low op keeps)
moves_low z c (OfAttach op guid file e keeps creates g f) =
    no_bytes (bytes_moved c) (ap bytes_moved e ∙ asked_moves op guid file)
moves_low z c (OfTree e) = no_bytes (bytes_moved c) (ap bytes_moved e)

-- ---- the header

abbrev pub head_of : Message → Header
head_of m = request_header m (charge_of (bytes_moved m.command)) (number_of_command m.command) true

flags_fit : (b : Bool) → bit_if true 8 + bit_if b 0x2000_0000 < 256 ^ 4
unfolding bit_if
flags_fit true = omega arith
flags_fit false = omega arith

wide : (n : ℕ) → n < 256 ^ 2 → n < 256 ^ 4
wide n l = omega (arith, l)

pub long_id : (n : ℕ) → n < 2 ^ 64 → n < 256 ^ 8
long_id n l = omega (arith, l)

pub head_fits : (z : WorldSettings) (m : Message) → FitsRequest z m → m.message_id < 2 ^ 64 → IsWritableHeader (head_of m)
head_fits z m i id =
    let number = line_number z m.command i.command in (
      refl,
      (
        omega arith,
        (
          charge_low (bytes_moved m.command) (moves_low z m.command i.command),
          (
            wide m.channel_sequence i.sequence,
            (
              number.small,
              (
                omega arith,
                (
                  flags_fit m.replay,
                  (omega arith, (long_id m.message_id id, (i.tree, (i.session, (refl, tt))))),
                ),
              ),
            ),
          ),
        ),
      ),
    )

-- ---- the command

same_paid : (a b c : ℕ) → a ≡ b → b ≡ c → c ≤ a
same_paid a b c e f = omega (arith, e, f)

abbrev ReadsAs : Told → Header → List ℕ → Command → Type 0
ReadsAs t h m c =
    IsMessage h (body_of c) m → h.command ≡ number_of_command c → h.charge ≡ charge_of (bytes_moved c)
    → command_of t (header_as h m) m ≡ Some c

command_reads : (z : WorldSettings) → AreCommandsLawful → AreTreesLawful z → (t : Told) (h : Header) (m : List ℕ) (c : Command)
    → IsWritableHeader h → FitsCommand z c → ReadsAs t h m c
command_reads z law trees t h m c fit (OfOperation op guid file slot turn e keeps g f s n) =
    subst (ReadsAs t h m) (sym e)
    (λ is at pays. law.own t h m op guid file slot turn fit is at keeps g f s n
    (same_paid h.charge (charge_of (bytes_moved (request_of op guid file slot turn))) (charge_of (weight op)) pays
    (ap charge_of (own_moves op guid file slot turn))))
command_reads z law trees t h m c fit (OfAttach op guid file e keeps creates g f) =
    subst (ReadsAs t h m) (sym e) (λ is at pays. law.attach t h m op guid file fit is at keeps creates g f)
command_reads z law trees t h m c fit (OfTree e) = subst (ReadsAs t h m) (sym e) (λ is at pays. trees.tree t h m fit is at)

-- ---- the message

message_is : (m : Message) (t : Told) (who : ℕ) (bytes : List ℕ) → m.channel_sequence < 256 ^ 2 → t.client ≡ who
    → command_of t (header_as (head_of m) bytes) bytes ≡ Some m.command
    → message_of t (header_as (head_of m) bytes) bytes
    ≡ Some (record m { connection = t.connection; client_guid = who; fault = t.fault })
unfolding message_of
message_is m t who bytes low client command =
    let h = header_as (head_of m) bytes in
    let same : message_as t h m.command ≡ record m { connection = t.connection; client_guid = who; fault = t.fault } = (λ j. record {
      connection = t.connection;
      client_guid = client j;
      session_id = m.session_id;
      tree_id = m.tree_id;
      message_id = m.message_id;
      channel_sequence = small_low m.channel_sequence low j;
      replay = replay_told true m.replay j;
      fault = t.fault;
      command = m.command;
    }) in
    ap (option_map (message_as t h)) command ∙ ap Some same

-- ---- the frame

abbrev pub Reads : ServerEnd → HeardMessage → Result Frame ConnEnd → Type 0
Reads f y (Err why) = Unit {0}
Reads f y (Ok x) = (x.messages ≡ checked_as f false false true y ∷ []) × (x.server_end ≡ behind_turn f y.header)

reads_turn : (f : ServerEnd) (y : HeardMessage) (o : Option ConnEnd)
    → Reads f y (if_in_turn o (Ok (record {
      server_end = behind_turn f y.header;
      sealed = false;
      messages = checked_as f false false true y ∷ [];
    })))
reads_turn f y None = (refl, refl)
reads_turn f y (Some e) = tt

reads_checked : (f : ServerEnd) (y : HeardMessage) → Reads f y (checked_in f false (y ∷ []))
unfolding checked_behind
reads_checked f y = reads_turn f y (turn_end f y.header)

reads_split : (f : ServerEnd) (o : Option (List HeardMessage)) (y : HeardMessage) → o ≡ Some (y ∷ [])
    → Reads f y (checked_text f (split_text false o))
reads_split f o y e = subst (λ p. Reads f y (checked_text f (split_text false p))) (sym e) (reads_checked f y)

pub reads_frame : (f : ServerEnd) (frame : List ℕ) (y : HeardMessage) → begins_sealed frame ≡ false → messages_in frame ≡ Some (y ∷ [])
    → Reads f y (check_frame f frame)
reads_frame f frame y bare one =
    either (λ r. Reads f y (checked_text f r)) (is_too_long f.keys frame) (Err BadFrame) _ (λ _. tt)
    (λ _. either (λ r. Reads f y (checked_text f r)) (begins_sealed frame) (opened_text (opened_by f.keys frame)) (split_text false (messages_in frame))
    (λ on. absurd (let a = on in let b = bare in cc)) (λ _. reads_split f (messages_in frame) y one))

-- ---- both

placed_not : (first flagged : Bool) → flagged ≡ false → (not first && flagged) ≡ false
placed_not true flagged e = refl
placed_not false flagged e = e

client_not : (b : Bool) (told other : ℕ) → b ≡ false → (if b then told else other) ≡ other
client_not true told other e = absurd (let q : true ≡ false = e in cc)
client_not false told other e = refl

pub text_signed : (s : Signer) (m : Message) (frame : List ℕ) → frame ≡ signed s (request_text m (charge_of (bytes_moved m.command)) true)
    → IsMessage (head_of m) (body_of m.command) frame
unfolding request_text
text_signed s m frame e = Signed s e

-- what an end behind it hears
pub heard_line : (z : WorldSettings) → AreHeadersLawful → AreCommandsLawful → AreTreesLawful z → (s : Signer) (m : Message) (frame : List ℕ)
    (L : Logons) (k : ℕ) (f : ServerEnd) (x : Frame) → FitsRequest z m → m.message_id < 2 ^ 64
    → frame ≡ signed s (request_text m (charge_of (bytes_moved m.command)) true) → check_frame f frame ≡ Ok x → IsHeardAs z L k frame x m
heard_line z heads law trees s m frame L k f x i id is ok =
    let h = head_of m in
    let fit = head_fits z m i id in
    let one = text_signed s m frame is in
    let y = heard_under h frame in
    let got : (x.messages ≡ checked_as f false false true y ∷ []) × (x.server_end ≡ behind_turn f y.header) =
    subst (Reads f y) ok
    (reads_frame f frame y (heads.plain h (body_of m.command) frame one) (heads.alone h (body_of m.command) frame fit refl one)) in
    let e = behind_turn f y.header in
    let c = checked_as f false false true y in
    let told = told_of z.server L k e c in
    let number = line_number z m.command i.command in
    let who : told.client ≡ client_on e.greeting =
    client_not (is_negotiate c.header) (client_told c.bytes) (client_on e.greeting) number.greets_not in
    let command = command_reads z law trees told h frame m.command fit i.command one refl refl in
    let meant : Message = record m { connection = k; client_guid = client_on e.greeting; fault = c.fault } in
    let read : heard_message z.server L k e c ≡ Some meant =
    placed_well (is_misplaced c) (message_of told c.header c.bytes) (Some meant)
    (placed_not c.related (has_bit c.header.flags 4) (related_not true m.replay))
    (message_is m told (client_on e.greeting) frame i.sequence who command) in
    record {
      checked = c;
      messages = got.0;
      raw = refl;
      heard = subst (λ (q : ServerEnd). heard_message z.server L k q c
          ≡ Some (record m { connection = k; client_guid = client_on q.greeting; fault = c.fault })) (sym got.1) read;
    }
