-- What a client offers fits its contexts.
use Rattle.std.proofs.Common.{◌≡◌, ℕ, ◌<◌, List, length, subst, sym, arith}
use Rattle.client_ends.specs.declared.ends.config.ClientConfig.{ClientConfig}
use Rattle.client_ends.specs.dialog_requests.Dialogs.{CanOffer}
use Rattle.law_scripts.specs.script_setup.Scripts.{ciphers_of, signings_of}
use Rattle.script_words.specs.declared.values.Cipher.{Cipher}
use Rattle.script_words.specs.declared.values.Cipher.TheVariants as ciphers
use Rattle.script_words.specs.declared.values.Signing.{Signing}
use Rattle.script_words.specs.declared.values.Signing.TheVariants as signings

few_ciphers : (s : Cipher) → length (ciphers_of s) < 32767
few_ciphers ciphers.None = omega arith
few_ciphers ciphers.Ccm = omega arith
few_ciphers ciphers.Gcm = omega arith
few_ciphers ciphers.Ccm256 = omega arith
few_ciphers ciphers.Gcm256 = omega arith

few_signings : (s : Signing) → length (signings_of s) < 32767
few_signings signings.Cmac = omega arith
few_signings signings.Gmac = omega arith

pub offers : (s : Cipher) (t : Signing) (client : ClientConfig) → client.ciphers ≡ ciphers_of s → client.signings ≡ signings_of t
    → CanOffer client
offers s t client ciphers signings = record {
  ciphers = subst (λ (l : List ℕ). length l < 32767) (sym ciphers) (few_ciphers s);
  signings = subst (λ (l : List ℕ). length l < 32767) (sym signings) (few_signings t);
}
