-- A sealed request and its sealed reply, computed but for the cipher.
use Rattle.std.proofs.Common.{◌≡◌, ℕ, ◌+◌, ◌≤◌, ◌<◌, ◌^◌, nat_lt, true, false, if◌then◌else◌, List, [], ◌∷◌, ◌++◌, length, length-append}
use Rattle.std.proofs.Common.{replicate, Some, None, Result, Ok, Err, refl, ap, ◌∙◌, arith}
use Rattle.std.proofs.lemmas.Bool.Decides.{nat_tests}
use Rattle.spec_exchange.specs.Commands.{has_bit}
use Rattle.spec_exchange.specs.Records.{text_size, opened_size, record_size, records_size, entry_bytes, fits}
use Rattle.spec_exchange.specs.Step.{due_in}
use Rattle.spec_exchange.specs.Table.{is_filled}
use Rattle.spec_exchange.specs.Fold.{nothing_yet}
use Rattle.spec_commands.specs.CommandOf.{command_of, message_of}
use Rattle.spec_commands.specs.ReplyBody.{reply_body}
use Rattle.spec_commands.specs.Tables.{bit_if}
use Rattle.spec_wire.specs.messages.Places.{number_of, le, bytes_at}
use Rattle.spec_wire.specs.messages.Fault.{part_fault, count_fault}
use Rattle.spec_wire.proofs.messages.Numbers.{length-le}
use Rattle.spec_crypto.specs.declared.sessions.material.Keys.{Keys}
use Rattle.spec_crypto.specs.sessions.Nonces.{nonce_of}
use Rattle.spec_crypto.specs.sessions.Sealing.{protocol, key_for, added_of, ciphertext, tag_of, sealed_by, sealed, if_given, opened}
use Rattle.law_crypto.proofs.sealing.Frames.{tag_length, ciphertext_length}
use Rattle.law_crypto.proofs.sealing.Opening.{opens}
use Rattle.law_ties.proofs.wire_facts.Ciphers.{flagged}
use Rattle.spec_world.specs.Ends.{no_logons, nonce_at, ConnEnd, BadFrame}
use Rattle.spec_world.specs.Messages.{HeardMessage, heard_in, has_header, header_in, messages_from, messages_in, message_spelling}
use Rattle.spec_world.specs.Hearing.{FrameText, is_too_long, begins_sealed, opened_by, split_text}
use Rattle.spec_world.specs.Hearing.{opened_text, text_of, checked_text, checked_behind}
use Rattle.spec_world.specs.Answering.{said_body, gathered, texts_of, all_texts, concatenated}
use Rattle.spec_world.specs.Answering.{each_joined, told_each, sealed_each, seals_of}
use Rattle.spec_world.specs.Connection.{ConnectionStep, step_of, went_all, last_status}
use Rattle.spec_world.specs.Logon.{token_in, exported, pending_by, answer_token_by}
use Rattle.spec_world.specs.Related.{file_place, file_past, with_file}
use Rattle.examples_world.specs.runs.Ends.{nobody, frame_step, echo}
use Rattle.examples_world.specs.runs.Keyed.{keyed_end, sealed_echo, sealed_reply}
use Rattle.examples_world.specs.connections.Parts.{some_keys}

-- ---- a sealed frame: its length, and its first bytes

added_length : (nonce : List ℕ) (size session : ℕ) → length nonce ≡ 16 → length (added_of nonce size session) ≡ 32
added_length nonce size session e =
    let a = length-append nonce (le 4 size ++ (le 2 0 ++ (le 2 1 ++ le 8 session))) in
    let b = length-append (le 4 size) (le 2 0 ++ (le 2 1 ++ le 8 session)) in
    let c = length-append (le 2 0) (le 2 1 ++ le 8 session) in
    let d = length-append (le 2 1) (le 8 session) in
    let f = length-le 4 size in
    let g = length-le 2 0 in
    let h = length-le 2 1 in
    let i = length-le 8 session in
    omega (arith, a, b, c, d, e, f, g, h, i)

frame_length : (keys : Keys) (nonce text : List ℕ) → length nonce ≡ 16 → length (sealed keys true nonce text) ≡ length text + 52
unfolding sealed_by
frame_length keys nonce text whole =
    let key = key_for keys true in
    let hidden = ciphertext keys.cipher key nonce text in
    let added = added_of nonce (length text) keys.session in
    let tag = tag_of keys.cipher key nonce added text hidden in
    let a = length-append protocol (tag ++ (added ++ hidden)) in
    let b = length-append tag (added ++ hidden) in
    let c = length-append added hidden in
    let d : length tag ≡ 16 = tag_length keys.cipher key nonce added text hidden in
    let e : length hidden ≡ length text = ciphertext_length keys.cipher key nonce text in
    let f : length added ≡ 32 = added_length nonce (length text) keys.session whole in
    let g : length protocol ≡ 4 = refl in
    omega (arith, a, b, c, d, e, f, g)

begins : (keys : Keys) (nonce text : List ℕ) → begins_sealed (sealed keys true nonce text) ≡ true
unfolding begins_sealed sealed_by bytes_at
begins keys nonce text = refl

-- ---- it opens to its only message

read_as : (keys : Keys) (frame text : List ℕ) (messages : List HeardMessage) → is_too_long (Some keys) frame ≡ false
    → begins_sealed frame ≡ true
    → opened_by (Some keys) frame ≡ Some text → messages_in text ≡ Some messages
    → text_of (Some keys) frame ≡ Ok (record { sealed = true; messages = messages })
read_as keys frame text messages long begun shown heard =
    let split : text_of (Some keys) frame ≡ split_text true (messages_in text) =
    λ t. if long t then Err BadFrame else if begun t then opened_text (shown t) else split_text false (messages_in frame)
    in
    split ∙ ap (split_text true) heard

not_above : (n k : ℕ) → k ≤ n → nat_lt n k ≡ false
not_above n k h = grind (arith, nat_tests)

echo_length : length (echo 1 0) ≡ 68
unfolding message_spelling number_of le bytes_at
echo_length = refl

nonce_length : length (nonce_at 1 0) ≡ 16
unfolding nonce_of le
nonce_length = refl

few : length (echo 1 0) ≤ 1114060
few = let e = echo_length in omega (arith, e)

frame_short : length sealed_echo ≤ 1114112
frame_short = let e = echo_length in let f = frame_length some_keys (nonce_at 1 0) (echo 1 0) nonce_length in omega (arith, e, f)

id_fits : 9 < 2 ^ 64
id_fits = omega arith

only_message : messages_in (echo 1 0) ≡ Some (heard_in (echo 1 0) ∷ [])
unfolding messages_in messages_from has_header message_spelling number_of le bytes_at
only_message = refl

echo_read : text_of (Some some_keys) sealed_echo ≡ Ok (record { sealed = true; messages = heard_in (echo 1 0) ∷ [] })
echo_read =
    read_as some_keys sealed_echo (echo 1 0) (heard_in (echo 1 0) ∷ [])
    (not_above 1114112 (length sealed_echo) frame_short)
    (begins some_keys (nonce_at 1 0) (echo 1 0))
    (ap (λ b. if b then opened some_keys true sealed_echo else None) (flagged some_keys true 1 0 (echo 1 0))
    ∙ ap if_given (opens 2 (replicate 32 2) 9 (nonce_at 1 0) (echo 1 0) nonce_length few id_fits))
    only_message

-- ---- and is answered

abbrev answer_to : Result FrameText ConnEnd → ConnectionStep
answer_to t = step_of nobody 0 5 [] nothing_yet no_logons (keyed_end true) (checked_text (keyed_end true) t)

answered :
    ((answer_to (Ok (record { sealed = true; messages = heard_in (echo 1 0) ∷ [] }))).frames ≡ sealed_reply ∷ [])
    × ((answer_to (Ok (record { sealed = true; messages = heard_in (echo 1 0) ∷ [] }))).server_end.counter ≡ 1)
unfolding has_bit text_size opened_size record_size records_size entry_bytes fits due_in is_filled command_of message_of
    reply_body bit_if number_of le bytes_at part_fault count_fault said_body gathered texts_of all_texts concatenated
    each_joined told_each sealed_each seals_of went_all last_status begins_sealed checked_behind token_in exported
    pending_by answer_token_by has_header header_in messages_from messages_in message_spelling file_place file_past
    with_file
answered = (refl, refl)

pub sealed_replies :
    ((frame_step (keyed_end true) sealed_echo).frames ≡ sealed_reply ∷ [])
    × ((frame_step (keyed_end true) sealed_echo).server_end.counter ≡ 1)
sealed_replies =
    (ap (λ t. (answer_to t).frames) echo_read ∙ answered.0, ap (λ t. (answer_to t).server_end.counter) echo_read ∙ answered.1)
