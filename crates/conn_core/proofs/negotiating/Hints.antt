-- The token by which a client knows that NTLM is wanted can be written, and is short.
use Rattle.std.proofs.Common.{◌≡◌, ◌<◌, true, List, ℕ, length, None, refl, arith}
use Rattle.spec_crypto.specs.tokens.Der.{spelled, element, length_in, ends}
use Rattle.spec_crypto.specs.tokens.Spnego.{IsWritableInit, ntlm_list, names_in, names_ntlm, begins_with_ntlm, init_spelling}
use Rattle.spec_crypto.specs.tokens.Tokens.{hint_token}

pub hint_size : length hint_token ≡ 30
unfolding hint_token init_spelling spelled
hint_size = refl

written_size : length (init_spelling (record { mech_list = ntlm_list; ntlm_first = true; token = None; mic = None })) ≡ 30
unfolding init_spelling spelled
written_size = refl

writable_value : IsWritableInit (record { mech_list = ntlm_list; ntlm_first = true; token = None; mic = None })
unfolding names_in element length_in begins_with_ntlm names_ntlm ends
writable_value = record { list = λ at. refl; short = omega (arith, written_size) }

pub hint_writable : (list : List ℕ) → list ≡ ntlm_list → IsWritableInit (record {
  mech_list = list;
  ntlm_first = true;
  token = None;
  mic = None;
})
hint_writable list l = rw l writable_value

pub hint_short : (token : List ℕ) → token ≡ hint_token → length token < 65536
hint_short token e = rw e (omega (arith, hint_size))
