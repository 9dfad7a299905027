-- The tokens in code as the definitions see them, and what a reader answered.
use Rattle.std.specs.Prelude.{◌≡◌, Result, Ok, Err}
use Rattle.spec_crypto.specs.declared.tokens.der.DerError.{DerError}
use Rattle.spec_crypto.specs.declared.tokens.der.DerError.TheVariants.{Memory}
use Rattle.spec_crypto.specs.tokens.Spnego.{InitValue, RespValue}
use Rattle.crypto_sessions.specs.declared.spnego.token.InitToken.{InitToken}
use Rattle.crypto_sessions.specs.declared.spnego.token.RespToken.{RespToken}

abbrev pub init_view : InitToken → InitValue
init_view t = record { mech_list = t.mech_list; ntlm_first = t.ntlm_first; token = t.token; mic = t.mic }

abbrev pub resp_view : RespToken → RespValue
resp_view t = record { state = t.state; ntlm = t.ntlm; token = t.token; mic = t.mic }

-- the value or the break that is due, or no memory for the value
abbrev pub TokenReads : {X V : Type 0} → (X → V) → Result X DerError → Result V DerError → Type 0
TokenReads view (Ok x) due = due ≡ Ok (view x)
TokenReads view (Err Memory) due = Unit {0}
TokenReads view (Err e) due = due ≡ Err e
