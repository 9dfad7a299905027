-- The facts on bytes that the laws of the exchange over bytes take as one premise.
use Rattle.std.specs.Prelude.{◌≡◌, ℕ, ◌+◌, ◌<◌, ◌≤◌, ◌^◌, ◌⊎◌, Bool, true, false, List, [], ◌∷◌, ◌++◌, All, length, Option, Some, None, IfSome}
use Rattle.spec_wire.specs.messages.Places.{bytes_at, number_of}
use Rattle.spec_wire.specs.messages.Header.{IsWritableHeader}
use Rattle.spec_wire.specs.declared.messages.header.Header.{Header}
use Rattle.spec_wire.specs.messages.Negotiate.{negotiate_response_in}
use Rattle.spec_exchange.specs.Status.{success}
use Rattle.spec_exchange.specs.Commands.{Command, Setup, TreeConnect, Logon}
use Rattle.spec_exchange.specs.State.{Message, Reply, Empty, Connected}
use Rattle.spec_exchange.specs.Operations.{Op, keeps_limits, is_create, request_of, reconnect_of, weight, charge}
use Rattle.spec_exchange.specs.Client.{SaidSecond, AskedTree}
use Rattle.spec_commands.specs.Ids.{file_kept}
use Rattle.spec_commands.specs.CommandOf.{Told, command_of}
use Rattle.spec_commands.specs.BodyOf.{body_of, number_of_command}
use Rattle.spec_commands.specs.ReplyBody.{reply_body}
use Rattle.spec_commands.specs.ReplyOf.{reply_of}
use Rattle.law_commands.specs.commands.Fitting.{IsByte, IsFittingAnswer, IsHeardAlike}
use Rattle.spec_crypto.specs.declared.sessions.material.Keys.{Keys}
use Rattle.spec_crypto.specs.declared.sessions.material.Signer.{Signer}
use Rattle.spec_crypto.specs.sessions.Chain.{hash}
use Rattle.spec_crypto.specs.sessions.Signing.{signed, verifies}
use Rattle.spec_crypto.specs.sessions.Sealing.{sealed, opened}
use Rattle.spec_crypto.specs.tokens.Tokens.{Begun, Pending, first_token, begun_by, is_final}
use Rattle.spec_world.specs.Settings.{WorldSettings, chosen_of, logon_of}
use Rattle.spec_world.specs.Messages.{HeardMessage, messages_in}
use Rattle.spec_world.specs.Ends.{ClientEnd, nonce_at}
use Rattle.spec_world.specs.Related.{file_place}
use Rattle.spec_world.specs.Negotiate.{negotiate_status, negotiated, client_told, negotiate_response_body}
use Rattle.spec_world.specs.Hearing.{begins_sealed, is_encrypted}
use Rattle.spec_world.specs.Logon.{token_in, token_shows, exported, pending_by, challenge_of, final_of}
use Rattle.spec_world.specs.Sending.{greeting_text, setup_text, request_header, answer_of}
use Rattle.spec_world.specs.Dialog.{response_in, body_reads, has_contexts, choice_fault, chosen_told, is_hint, setup_token, setup_flags}
use Rattle.law_ties.specs.wire_facts.Fitting.{IsFitting, IsSent, IsMessage, IsSetUpBy, flags_of}

-- the header as a message's bytes tell it
abbrev pub header_as : Header → List ℕ → Header
header_as h m = record h { signature = bytes_at 16 m 48 }

abbrev pub heard_under : Header → List ℕ → HeardMessage
heard_under h m = record { header = header_as h m; bytes = m }

-- ---- ciphers

pub record AreCiphersLawful : Type 0 where
  pub hash_length : (m : List ℕ) → length (hash m) ≡ 64
  pub verified : (s : Signer) (m : List ℕ) → 64 ≤ length m → verifies s (signed s m) ≡ true
  pub opens : (keys : Keys) (from_client : Bool) (channel counter : ℕ) (text : List ℕ) → length text ≤ 1114060 → keys.session < 2 ^ 64 →
      opened keys from_client (sealed keys from_client (nonce_at channel counter) text) ≡ Some text
  pub begins : (keys : Keys) (from_client : Bool) (nonce text : List ℕ) → begins_sealed (sealed keys from_client nonce text) ≡ true
  pub flagged : (keys : Keys) (from_client : Bool) (channel counter : ℕ) (text : List ℕ) →
      is_encrypted (sealed keys from_client (nonce_at channel counter) text) ≡ true
  pub short : (keys : Keys) (from_client : Bool) (channel counter : ℕ) (text : List ℕ) → length text ≤ 1114060 →
      length (sealed keys from_client (nonce_at channel counter) text) ≤ 1114112

-- ---- headers

pub record AreHeadersLawful : Type 0 where
  pub alone : (h : Header) (body m : List ℕ) → IsWritableHeader h → h.next ≡ 0 → IsMessage h body m →
      messages_in m ≡ Some (heard_under h m ∷ [])
  pub heard : (h : Header) (body m : List ℕ) → IsWritableHeader h → IsMessage h body m → response_in (Some m) ≡ Some (heard_under h m)
  pub plain : (h : Header) (body m : List ℕ) → IsMessage h body m → begins_sealed m ≡ false
  pub size : (h : Header) (body m : List ℕ) → IsWritableHeader h → IsMessage h body m → length m ≡ 64 + length body

-- ---- commands and replies of operations: read back as they were meant

pub record AreCommandsLawful : Type 0 where
  pub own : (t : Told) (h : Header) (m : List ℕ) (op : Op) (guid file slot number : ℕ) →
      IsWritableHeader h → IsMessage h (body_of (request_of op guid file slot number)) m → h.command
      ≡ number_of_command (request_of op guid file slot number) →
      keeps_limits op ≡ true → guid < 256 ^ 16 → file < 256 ^ 8 → slot < 256 ^ 3 → number < 16 → charge (weight op) ≤ h.charge →
      command_of t (header_as h m) m ≡ Some (request_of op guid file slot number)
  pub attach : (t : Told) (h : Header) (m : List ℕ) (op : Op) (guid file : ℕ) →
      IsWritableHeader h → IsMessage h (body_of (reconnect_of op guid file)) m → h.command ≡ number_of_command (reconnect_of op guid file) →
      keeps_limits op ≡ true → is_create op ≡ true → guid < 256 ^ 16 → file < 256 ^ 8 →
      command_of t (header_as h m) m ≡ Some (reconnect_of op guid file)
  pub reply : (h : Header) (m token : List ℕ) (op : Op) (guid file slot number : ℕ) (r : Reply) →
      IsWritableHeader h → IsMessage h (reply_body token (request_of op guid file slot number) r) m → h.status ≡ r.status →
      r.status ≡ success → IsFittingAnswer op r.body →
      IsHeardAlike op (reply_of (request_of op 0 0 0 0) (header_as h m) m).body r.body
  pub refused : (c : Command) (h : Header) (m : List ℕ) → (h.status ≡ success → ⊥) → (reply_of c (header_as h m) m).body ≡ Empty

-- The request of an operation carries the FileId of its open, whichever 16 bytes its client was told, at the place of its command; of the
-- request to attach its open the context does.
abbrev pub AreFileIdsCarried : Type 0
AreFileIdsCarried = (header rest id : List ℕ) (op : Op) (guid slot number : ℕ) → length header ≡ 64 → length id ≡ 16 → All IsByte id
    → let c = request_of op guid (file_kept id) slot number in
    IfSome (file_place (number_of_command c)) (λ place. bytes_at 16 (header ++ (body_of c ++ rest)) place ≡ id)

-- ---- a dialog's messages: NEGOTIATE, SESSION_SETUP and TREE_CONNECT, each both ways

pub record IsGreetingHeard (z : WorldSettings) : Type 0 where
  pub greeting : (salt : List ℕ) (m : Message) → length salt ≡ 32 → IsSent m 1 →
      (negotiate_status (greeting_text z.client salt m) ≡ success) × (negotiated (greeting_text z.client salt m) ≡ chosen_of z.client)
      × (client_told (greeting_text z.client salt m) ≡ number_of z.client.guid)

pub record IsGreetingAnswered (z : WorldSettings) : Type 0 where
  pub greeted : (salt answer_salt : List ℕ) (m : Message) (now : ℕ) (h : Header) (r : List ℕ) →
      length salt ≡ 32 → length answer_salt ≡ 32 → IsSent m 1 → now < 256 ^ 8
      → IsWritableHeader h → IsMessage h (negotiate_response_body z.server.guid answer_salt now (greeting_text z.client salt m)) r →
      (has_contexts r ≡ true) × (choice_fault z.client r ≡ None) × (is_hint (negotiate_response_in r).security ≡ true)
      × ((chosen_told r).cipher ≡ (chosen_of z.client).cipher) × ((chosen_told r).signing ≡ (chosen_of z.client).signing)

pub record AreSetupsLawful : Type 0 where
  pub setup : (t : Told) (bound : Bool) (previous : ℕ) (token : List ℕ) (m : Message) (r : List ℕ) → IsSent m 1 → previous < 256 ^ 8 →
      length token < 256 ^ 2 → (r ≡ setup_text bound previous token m) × (bound ≡ false)
      ⊎ (s : Signer) × (r ≡ signed s (setup_text bound previous token m)) × (bound ≡ true) →
      (token_in r ≡ token) × (command_of t (header_as (request_header m 1 1 bound) r) r ≡ Some (Setup (record {
        readable = true;
        binding = bound;
        signed = bound;
        verified = t.verified;
        previous = previous;
        cipher = t.cipher;
        signing = t.signing;
        shows = t.shows token;
      })))
  pub told : (c : Command) (h : Header) (token r : List ℕ) (reply : Reply) (bound : Bool) → IsWritableHeader h
      → IsMessage h (reply_body token c reply) r →
      IsSetUpBy c reply token → (body_reads (SaidSecond bound) r ≡ true) × (setup_token r ≡ token) × (setup_flags r ≡ flags_of reply)

pub record AreTreesLawful (z : WorldSettings) : Type 0 where
  pub tree : (t : Told) (h : Header) (m : List ℕ) → IsWritableHeader h → IsMessage h (body_of (TreeConnect z.share)) m → h.command ≡ 3 →
      command_of t (header_as h m) m ≡ Some (TreeConnect z.share)
  pub tree_told : (h : Header) (token r : List ℕ) (kind capabilities access : ℕ) (reply : Reply) → reply.status ≡ success →
      reply.body ≡ Connected kind capabilities access → IsWritableHeader h → IsMessage h (reply_body token (TreeConnect z.share) reply) r →
      kind < 256 → capabilities < 256 ^ 4 → access < 256 ^ 4 → body_reads AskedTree r ≡ true

-- ---- the tokens of a logon

-- the 8 and 16 random bytes of this end's logon
pub record HasLogon (n : ClientEnd) : Type 0 where
  pub challenge : length n.challenge ≡ 8
  pub base : length n.base ≡ 16

pub record IsLawfulAnswered (z : WorldSettings) (n : ClientEnd) (p : Option Pending) (token : List ℕ) : Type 0 where
  pub short : length token < 256 ^ 2
  pub shows : token_shows z.server.users p token ≡ logon_of z
  pub exported_is : (user : List ℕ) → logon_of z ≡ Logon user → exported z.server.users p token ≡ n.base
  pub final : (user : List ℕ) → logon_of z ≡ Logon user → is_final n.base (final_of z.server.users p token) ≡ true
  pub final_short : length (final_of z.server.users p token) < 256 ^ 2

pub record AreTokensLawful (z : WorldSettings) : Type 0 where
  pub first : (b : Begun) × ((bare : Bool) → begun_by bare first_token ≡ Some b)
  pub short : length first_token < 256 ^ 2
  pub challenge : (fresh : List ℕ) (now : ℕ) → length fresh ≡ 8 → now < 256 ^ 8 →
      length (challenge_of (pending_by false first_token fresh now)) < 256 ^ 2
  pub answer : (n : ClientEnd) (fresh : List ℕ) (now : ℕ) → HasLogon n → length fresh ≡ 8 → now < 256 ^ 8 →
      (token : List ℕ) × (answer_of z.client n (challenge_of (pending_by false first_token fresh now)) ≡ Some token)
      × IsLawfulAnswered z n (pending_by false first_token fresh now) token

-- ---- all of them

pub record IsLawful (z : WorldSettings) : Type 0 where
  pub ciphers : AreCiphersLawful
  pub headers : AreHeadersLawful
  pub commands : AreCommandsLawful
  pub greeting_heard : IsGreetingHeard z
  pub greeting_answered : IsGreetingAnswered z
  pub setups : AreSetupsLawful
  pub trees : AreTreesLawful z
  pub tokens : AreTokensLawful z

-- of any settings that fit
abbrev pub WireFacts : Type 0
WireFacts = (z : WorldSettings) → IsFitting z → IsLawful z

abbrev pub TreeFacts : Type 0
TreeFacts = (z : WorldSettings) → IsFitting z → AreTreesLawful z

abbrev pub GreetingFacts : Type 0
GreetingFacts = (z : WorldSettings) → IsFitting z → IsGreetingHeard z

abbrev pub AnswerFacts : Type 0
AnswerFacts = (z : WorldSettings) → IsFitting z → IsGreetingAnswered z
