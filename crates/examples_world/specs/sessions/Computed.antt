-- The definitions that the examples compute: where `computed` is opened, so is each that its `unfolding` line names.
use Rattle.std.specs.Prelude.{ℕ}
use Rattle.spec_crypto.specs.ciphers.Kdf.{outputs, derived}
use Rattle.spec_crypto.specs.sessions.Chain.{hash}
use Rattle.spec_crypto.specs.sessions.Choice.{cipher_of, signing_of}
use Rattle.spec_crypto.specs.sessions.Derivation.{signing_key, to_server_key, to_client_key}
use Rattle.spec_crypto.specs.sessions.Nonces.{nonce_of}
use Rattle.spec_crypto.specs.sessions.Sealing.{words_of, ciphertext, tag_of, sealed_by, is_sealed, frame_fault, tag_is_right}
use Rattle.spec_crypto.specs.sessions.Sealing.{unsealed_by}
use Rattle.spec_crypto.specs.sessions.Signing.{signature, verifies}
use Rattle.sha2.specs.Sha256.{sha256}
use Rattle.sha2.specs.Sha512.{sha512}
use Rattle.spec_crypto.specs.tokens.Der.{length_in, element, ends, spelled}
use Rattle.spec_crypto.specs.tokens.Spnego.{byte_is, spnego_named, octets, passed, names_ntlm, begins_with_ntlm, names_in}
use Rattle.spec_crypto.specs.tokens.Spnego.{mech_types, hints, init_fields, init_choice, init_in, state_in, mech_in}
use Rattle.spec_crypto.specs.tokens.Spnego.{resp_fields, resp_in, init_spelling, resp_spelling}
use Rattle.spec_wire.specs.messages.Places.{number_of, le, bytes_at}

unfoldable pub computed : ℕ
unfolding hash cipher_of signing_of signing_key to_server_key to_client_key nonce_of signature verifies words_of
    ciphertext tag_of sealed_by is_sealed frame_fault tag_is_right unsealed_by length_in element ends spelled byte_is
    spnego_named octets passed names_ntlm begins_with_ntlm names_in mech_types hints init_fields init_choice init_in
    state_in mech_in resp_fields resp_in init_spelling resp_spelling number_of le bytes_at outputs derived
    Rattle.sha2.specs.Sha512.first_words Rattle.sha2.specs.Sha512.schedule Rattle.sha2.specs.Sha512.rounds
    Rattle.sha2.specs.Sha512.compress Rattle.sha2.specs.Sha512.hash_after Rattle.sha2.specs.Sha512.digest_bytes sha512
    Rattle.sha2.specs.Sha256.first_words Rattle.sha2.specs.Sha256.schedule Rattle.sha2.specs.Sha256.rounds
    Rattle.sha2.specs.Sha256.compress Rattle.sha2.specs.Sha256.hash_after Rattle.sha2.specs.Sha256.digest_bytes sha256
computed = 0
