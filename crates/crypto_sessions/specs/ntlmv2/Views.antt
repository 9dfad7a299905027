-- The messages in code as the definitions see them.
use Rattle.std.specs.Prelude.{◌≡◌, ℕ, ◌<◌, length, Result, Ok, Err}
use Rattle.spec_crypto.specs.declared.tokens.ntlm.NtlmError.{NtlmError}
use Rattle.spec_crypto.specs.declared.tokens.ntlm.LogonError.{LogonError}
use Rattle.spec_crypto.specs.declared.tokens.ntlm.LogonError.TheVariants as logon
use Rattle.spec_crypto.specs.tokens.Messages.{Type2Value, Type3Value}
use Rattle.spec_crypto.specs.tokens.Acceptor.{LogonValue}
use Rattle.spec_crypto.specs.tokens.Answer
use Rattle.crypto_sessions.specs.declared.ntlmv2.answer.Credentials.{Credentials}
use Rattle.crypto_sessions.specs.declared.ntlmv2.messages.Type2.{Type2}
use Rattle.crypto_sessions.specs.declared.ntlmv2.messages.Type3.{Type3}
use Rattle.crypto_sessions.specs.declared.ntlmv2.acceptor.Logon.{Logon}

abbrev pub type2_view : Type2 → Type2Value
type2_view m = record { flags = m.flags; challenge = m.challenge; target_name = m.target_name.now; target_info = m.target_info.now }

abbrev pub type3_view : Type3 → Type3Value
type3_view m = record {
  flags = m.flags;
  lm = m.lm.now;
  nt = m.nt.now;
  domain = m.domain.now;
  user = m.user.now;
  workstation = m.workstation.now;
  session_key = m.session_key.now;
  mic = m.mic;
}

-- each part of a type 3 has fewer than 65,536 bytes
abbrev pub AreFieldsShort : Type3 → Type 0
AreFieldsShort m =
    (length m.lm.now < 65536) × (length m.nt.now < 65536) × (length m.domain.now < 65536) × (length m.user.now < 65536)
    × (length m.workstation.now < 65536) × (length m.session_key.now < 65536)

abbrev pub credentials_view : Credentials → Answer.Credentials
credentials_view c = record { user = c.user.now; password = c.password.now; domain = c.domain.now; challenge = c.challenge; key = c.key }

-- what a reader answered, seen so, is what is due
abbrev pub NtlmReads : {X V : Type 0} → (X → V) → Result X NtlmError → Result V NtlmError → Type 0
NtlmReads view (Ok x) due = due ≡ Ok (view x)
NtlmReads view (Err e) due = due ≡ Err e

-- a logon or the refusal that is due, or no memory
abbrev pub Judges : Result Logon LogonError → Result LogonValue LogonError → Type 0
Judges (Ok l) due = due ≡ Ok (record { user = l.user; key = l.key; exchanged = l.exchanged })
Judges (Err logon.Memory) due = Unit {0}
Judges (Err e) due = due ≡ Err e
