-- NEGOTIATE at the server (MS-SMB2 3.3.5.4) and the client's own (3.2.4.2.2.2).
use Rattle.std.specs.Prelude.{ℕ, ◌/◌, ◌==◌, Bool, true, not, if◌then◌else◌, List, [], ◌∷◌, length}
use Rattle.std.specs.Prelude.{is_some, Result, Ok, Err}
use Rattle.spec_wire.specs.messages.Places.{le, number_of}
use Rattle.spec_wire.specs.messages.Negotiate.{negotiate_request_in, negotiate_request_fault, negotiate_request_spelling}
use Rattle.spec_wire.specs.messages.Negotiate.{negotiate_response_spelling}
use Rattle.spec_wire.specs.messages.Offer.{OfferValue, offer_in, offer_fault, offer_spelling, offer_count, ids_at, has_id}
use Rattle.spec_crypto.specs.declared.sessions.choice.Chosen.{Chosen}
use Rattle.spec_crypto.specs.declared.sessions.choice.ChooseError.{ChooseError}
use Rattle.spec_crypto.specs.declared.sessions.choice.ChooseError.TheVariants.{NoPreauth, NoHash}
use Rattle.spec_crypto.specs.sessions.Choice.{choice}
use Rattle.spec_crypto.specs.tokens.Tokens.{hint_token}
use Rattle.spec_exchange.specs.Status.{success, invalid_parameter, not_supported}
use Rattle.spec_world.specs.Settings.{ClientSettings}
use Rattle.spec_world.specs.Ends.{no_choice}

-- STATUS_SMB_NO_PREAUTH_INTEGRITY_HASH_OVERLAP (MS-ERREF 2.3.1)
abbrev pub hash_overlap : ℕ
hash_overlap = 0xc05d_0000

-- ---- the server's verdict on a request, m being the message from its header on

abbrev pub offer_told : List ℕ → OfferValue
offer_told m = offer_in (negotiate_request_in m).contexts (negotiate_request_in m).negotiate_context_count

-- it has the dialect 0x0311
unfoldable pub has_dialect : List ℕ → Bool
has_dialect dialects = has_id 0x311 (ids_at dialects 0 (length dialects / 2))

abbrev pub choice_of_offer : OfferValue → Result Chosen ChooseError
choice_of_offer v = choice v.preauth v.sha512 v.ciphers v.signings

abbrev pub choice_status : Result Chosen ChooseError → ℕ
choice_status (Ok chosen) = success
choice_status (Err NoPreauth) = invalid_parameter
choice_status (Err NoHash) = hash_overlap

-- a body that doesn't read, or no dialect; no 0x0311; contexts that don't read, or none of preauthentication; no SHA-512
unfoldable pub negotiate_status : List ℕ → ℕ
negotiate_status m =
    if is_some (negotiate_request_fault m) then invalid_parameter
    else if not (has_dialect (negotiate_request_in m).dialects) then not_supported
    else if is_some (offer_fault (negotiate_request_in m).contexts (negotiate_request_in m).negotiate_context_count) then invalid_parameter
    else choice_status (choice_of_offer (offer_told m))

abbrev pub chosen_or_none : Result Chosen ChooseError → Chosen
chosen_or_none (Ok chosen) = chosen
chosen_or_none (Err e) = no_choice

unfoldable pub negotiated : List ℕ → Chosen
negotiated m = chosen_or_none (choice_of_offer (offer_told m))

-- the ClientGuid that it tells
unfoldable pub client_told : List ℕ → ℕ
client_told m = number_of (negotiate_request_in m).client_guid

-- ---- the server's response: each kind of context where it was offered, with the one algorithm that was chosen

abbrev pub told_if : Bool → ℕ → List ℕ
told_if told id = if told then id ∷ [] else []

abbrev pub choice_offer : OfferValue → Chosen → OfferValue
choice_offer v chosen = record {
  sha512 = true;
  preauth = true;
  ciphers = told_if (not (length v.ciphers == 0)) chosen.cipher;
  signings = told_if chosen.signing_told chosen.signing;
}

-- SecurityMode: signing enabled 1 and required 2; Capabilities: large MTU 4, multi-channel 8, persistent handles 0x10. Its
-- boot isn't told.
unfoldable pub negotiate_response_body : List ℕ → List ℕ → ℕ → List ℕ → List ℕ
negotiate_response_body guid salt now m =
    let offer = choice_offer (offer_told m) (negotiated m) in
    negotiate_response_spelling (record {
      security_mode = 3;
      dialect_revision = 0x311;
      negotiate_context_count = offer_count offer;
      server_guid = guid;
      capabilities = 0x1c;
      max_transact_size = 1048576;
      max_read_size = 1048576;
      max_write_size = 1048576;
      system_time = now;
      server_start_time = 0;
      security = hint_token;
      contexts = offer_spelling offer salt;
    })

-- ---- the client's request: the dialect 0x0311 alone, a context for each list that isn't empty

abbrev pub client_offer : ClientSettings → OfferValue
client_offer c = record { sha512 = true; preauth = true; ciphers = c.ciphers; signings = c.signings }

unfoldable pub negotiate_request_body : ClientSettings → List ℕ → List ℕ
negotiate_request_body c salt =
    negotiate_request_spelling (record {
      security_mode = 3;
      capabilities = 0x1c;
      client_guid = c.guid;
      negotiate_context_count = offer_count (client_offer c);
      dialects = le 2 0x311;
      contexts = offer_spelling (client_offer c) salt;
    })
