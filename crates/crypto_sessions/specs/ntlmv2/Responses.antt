-- The client's response to a challenge, and the type 3 that it makes.
use Rattle.std.specs.Prelude.{◌≡◌, ℕ, ◌<◌, ◌^◌, List, [], ◌++◌, length, replicate}
use Rattle.spec_crypto.specs.tokens.Formulas.{utf16, base_key, exchanged_key}
use Rattle.spec_crypto.specs.tokens.Messages.{Type2Value, Type3Value}
use Rattle.spec_crypto.specs.tokens.Answer.{Credentials, client_flags, key_of, proof_of, temp_of}
use Rattle.crypto_sessions.specs.declared.ntlmv2.answer.Response.{Response}

pub record IsResponse (c : Credentials) (second : Type2Value) (r : Response) : Type 0 where
  pub nt : r.nt ≡ proof_of c second ++ temp_of c second
  pub domain : r.domain ≡ utf16 c.domain
  pub user : r.user ≡ utf16 c.user
  pub session_key : r.session_key ≡ exchanged_key (base_key (key_of c) (proof_of c second)) c.key

-- each part fits its length field
pub record IsResponseShort (r : Response) : Type 0 where
  pub nt : length r.nt < 256 ^ 2
  pub domain : length r.domain < 256 ^ 2
  pub user : length r.user < 256 ^ 2

abbrev pub answer_value : Response → List ℕ → Type3Value
answer_value r code = record {
  flags = client_flags;
  lm = replicate 24 0;
  nt = r.nt;
  domain = r.domain;
  user = r.user;
  workstation = [];
  session_key = r.session_key;
  mic = code;
}
