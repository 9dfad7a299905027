-- An ECHO of no session, Flags of a transform header, and how long a frame may be before a session, computed.
use Rattle.std.proofs.Common.{◌≡◌, ℕ, ◌≤◌, ◌<◌, nat_lt, true, false, if◌then◌else◌, List, [], ◌∷◌, length, replicate, Some, None, Err, refl}
use Rattle.std.proofs.Common.{arith}
use Rattle.std.proofs.lemmas.List.{length-replicate}
use Rattle.std.proofs.lemmas.Bool.Decides.{nat_tests}
use Rattle.spec_exchange.specs.Commands.{has_bit}
use Rattle.spec_exchange.specs.Records.{text_size, opened_size, record_size, records_size, entry_bytes, fits}
use Rattle.spec_exchange.specs.Step.{due_in}
use Rattle.spec_exchange.specs.Table.{is_filled}
use Rattle.spec_commands.specs.CommandOf.{command_of, message_of}
use Rattle.spec_commands.specs.ReplyBody.{reply_body}
use Rattle.spec_commands.specs.Tables.{bit_if}
use Rattle.spec_wire.specs.messages.Places.{number_of, le, bytes_at}
use Rattle.spec_wire.specs.messages.Fault.{part_fault, count_fault}
use Rattle.spec_world.specs.Answering.{said_body, gathered, texts_of, all_texts, concatenated, each_joined, told_each}
use Rattle.spec_world.specs.Connection.{went_all, last_status}
use Rattle.spec_world.specs.Hearing.{begins_sealed, checked_behind, is_too_long, opened_by, opened_text, split_text, text_of}
use Rattle.spec_world.specs.Logon.{token_in, exported, pending_by, answer_token_by}
use Rattle.spec_world.specs.Messages.{has_header, header_in, messages_from, messages_in, message_spelling}
use Rattle.spec_world.specs.Related.{file_place, file_past, with_file}
use Rattle.spec_crypto.specs.sessions.Signing.{signed, verifies, signature}
use Rattle.spec_world.specs.Ends.{BadFrame}
use Rattle.spec_crypto.specs.sessions.Sealing.{words_of, ciphertext, tag_of, is_sealed, frame_fault, tag_is_right, unsealed_by}
use Rattle.spec_crypto.specs.ciphers.Field.{sbox}
use Rattle.spec_crypto.specs.ciphers.Aes.{replaced, mixed_columns, block_sum, round_key, rounds, after, cipher, constant}
use Rattle.spec_crypto.specs.ciphers.Aes.{word_change, next_word, expanded}
use Rattle.spec_crypto.specs.ciphers.Blocks.{block_at, stream_byte, masked}
use Rattle.spec_crypto.specs.ciphers.Ghash.{shifted, bits_of, sum_at, hashed, ghash}
use Rattle.spec_crypto.specs.ciphers.Gcm.{counter_block, hash_key}
use Rattle.examples_world.specs.runs.Ends.{greeted_end, frame_step, probe, related_probe, echo_and_probe}
use Rattle.examples_world.specs.runs.Keyed.{keyed_end, probe_reply, flagged_transform, tag_of_0, tag_of_1, tag_of_2}
use Rattle.examples_world.specs.connections.Parts.{some_keys}

pub probes_answered :
    ((frame_step greeted_end (probe 1 0)).frames ≡ probe_reply ∷ [])
    × ((frame_step (keyed_end false) (probe 1 0)).frames ≡ probe_reply ∷ [])
    × ((frame_step (keyed_end true) (probe 1 0)).frames ≡ probe_reply ∷ [])
    × ((frame_step greeted_end related_probe).status ≡ Some 0xc000_0022)
    × ((frame_step greeted_end echo_and_probe).status ≡ Some 0xc000_0022)
unfolding has_bit text_size opened_size record_size records_size entry_bytes fits due_in is_filled command_of message_of
    reply_body bit_if number_of le bytes_at part_fault count_fault said_body gathered texts_of all_texts concatenated
    each_joined told_each went_all last_status begins_sealed checked_behind token_in exported pending_by answer_token_by
    has_header header_in messages_from messages_in message_spelling file_place file_past with_file signed verifies
    signature
probes_answered = (refl, refl, refl, refl, refl)

pub transform_flags :
    (opened_by (Some some_keys) (flagged_transform 0 tag_of_0) ≡ None) × (opened_by (Some some_keys) (flagged_transform 2 tag_of_2) ≡ None)
    × (opened_by (Some some_keys) (flagged_transform 1 tag_of_1) ≡ Some [])
unfolding sbox replaced mixed_columns block_sum round_key rounds after cipher constant word_change next_word expanded
    block_at stream_byte masked shifted bits_of sum_at hashed ghash counter_block hash_key number_of le bytes_at words_of ciphertext
    tag_of is_sealed frame_fault tag_is_right unsealed_by
transform_flags = (refl, refl, refl)

above : (n k : ℕ) → n < k → nat_lt n k ≡ true
above n k h = grind (arith, nat_tests)

not_above : (n k : ℕ) → k ≤ n → nat_lt n k ≡ false
not_above n k h = grind (arith, nat_tests)

pub first_frames :
    (is_too_long None (replicate 66001 0) ≡ true) × (text_of None (replicate 66001 0) ≡ Err BadFrame)
    × (is_too_long None (replicate 66000 0) ≡ false) × (is_too_long (Some some_keys) (replicate 66001 0) ≡ false)
first_frames =
    let above_it : List ℕ = replicate 66001 0 in
    let whole : List ℕ = replicate 66000 0 in
    let long : length above_it ≡ 66001 = length-replicate {A = ℕ} 66001 0 in
    let fits : length whole ≡ 66000 = length-replicate {A = ℕ} 66000 0 in
    let over : is_too_long None above_it ≡ true = above 66000 (length above_it) (omega (arith, long)) in (
      over,
      λ t. if over t then Err BadFrame
          else if begins_sealed above_it then opened_text (opened_by None above_it)
          else split_text false (messages_in above_it),
      not_above 66000 (length whole) (omega (arith, fits)),
      not_above 1114112 (length above_it) (omega (arith, long)),
    )
