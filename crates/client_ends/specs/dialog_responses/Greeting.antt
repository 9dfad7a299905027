-- What a response to NEGOTIATE comes to.
use Rattle.std.specs.Prelude.{◌≡◌, ℕ, ◌==◌, Bool, true, false, not, if◌then◌else◌, List, length, Option, Some, None, Result, Ok, Err}
use Rattle.spec_exchange.specs.Operations.{Refusal, BadChoice, BadToken, NoSha512}
use Rattle.spec_crypto.specs.declared.sessions.choice.Chosen.{Chosen}
use Rattle.spec_wire.specs.messages.Negotiate.{negotiate_response_in}
use Rattle.spec_world.specs.Settings.{ClientSettings}
use Rattle.spec_world.specs.Dialog.{has_contexts, choice_fault, chosen_told, first_or, first_refusal, is_hint, unless, was_offered}
use Rattle.wire_bytes.specs.declared.session_messages.refusal.Refusal.{Refusal as DialogRefusal}
use Rattle.client_values.specs.outcomes.Meaning.{refusal_of}

-- the first fault of a dialect, whether SHA-512 is among so many hashes, ciphers and signing algorithms
abbrev pub choice_by : ClientSettings → ℕ → Bool → ℕ → List ℕ → List ℕ → Option Refusal
choice_by c dialect sha512 hashes ciphers signings =
    if not (dialect == 0x311) then Some (BadChoice 1)
    else if not sha512 then Some NoSha512
    else if not (hashes == 1) then Some (BadChoice 2)
    else if not (was_offered c.ciphers ciphers) then Some (BadChoice 3)
    else if not (was_offered c.signings signings) then Some (BadChoice 4)
    else None

abbrev pub chosen_by : List ℕ → List ℕ → Chosen
chosen_by ciphers signings = record {
  cipher = first_or 0 ciphers;
  signing = first_or 1 signings;
  signing_told = not (length signings == 0);
}

-- of a response to NEGOTIATE, m being the message from its header on: form, choices, token
abbrev pub greeting_refusal : ClientSettings → List ℕ → Option Refusal
greeting_refusal c m =
    first_refusal (unless (has_contexts m) BadToken)
    (first_refusal (choice_fault c m) (unless (is_hint (negotiate_response_in m).security) BadToken))

-- behind the choices: a token that is a hint, or BadToken
abbrev pub GreetingHints : List ℕ → List ℕ → List ℕ → Result Chosen DialogRefusal → Type 0
GreetingHints security ciphers signings (Ok chosen) = (is_hint security ≡ true) × (chosen ≡ chosen_by ciphers signings)
GreetingHints security ciphers signings (Err why) = (is_hint security ≡ false) × (refusal_of why ≡ BadToken)

-- what was chosen, or the first fault
abbrev pub Greets : ClientSettings → List ℕ → Result Chosen DialogRefusal → Type 0
Greets c m (Ok chosen) = (greeting_refusal c m ≡ None) × (chosen_told m ≡ chosen)
Greets c m (Err why) = greeting_refusal c m ≡ Some (refusal_of why)
