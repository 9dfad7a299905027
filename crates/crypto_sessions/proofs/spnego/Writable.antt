-- How long tokens are at most, and that the list of NTLMSSP alone reads at any place.
use Rattle.std.proofs.Common.{◌≡◌, ℕ, ◌+◌, ◌^◌, ◌<◌, ◌≤◌, nat_lt, Bool, true, false, if◌then◌else◌, List, [], ◌∷◌, ◌++◌}
use Rattle.std.proofs.Common.{length, length-append, refl, ap, arith, Option, Some, None, Ok}
use Rattle.spec_crypto.specs.tokens.Der.{length_bytes, spelled, element, length_in, ends}
use Rattle.spec_crypto.specs.tokens.Spnego.{spnego, ntlmssp, ntlm_list, names_in, names_ntlm, begins_with_ntlm, octets_spelling}
use Rattle.spec_crypto.specs.tokens.Spnego.{init_spelling, resp_spelling, init_fields_spelling, resp_fields_spelling, InitValue}
use Rattle.spec_crypto.specs.tokens.Spnego.{RespValue, state_spelling, mech_spelling, IsWritableInit, IsWritableResp}
use Rattle.crypto_sessions.specs.spnego.Fitting.{size_of}

five : (a b c d : Bool) (p q r s t : List ℕ) → length p ≤ 5 → length q ≤ 5 → length r ≤ 5 → length s ≤ 5 → length t ≤ 5
    → length (if a then p else if b then q else if c then r else if d then s else t) ≤ 5
five true b c d p q r s t h1 h2 h3 h4 h5 = h1
five false true c d p q r s t h1 h2 h3 h4 h5 = h2
five false false true d p q r s t h1 h2 h3 h4 h5 = h3
five false false false true p q r s t h1 h2 h3 h4 h5 = h4
five false false false false p q r s t h1 h2 h3 h4 h5 = h5

length_most : (n : ℕ) → length (length_bytes n) ≤ 5
length_most n =
    five (nat_lt n 0x80) (nat_lt n 0x100) (nat_lt n 0x1_0000) (nat_lt n 0x100_0000) _ _ _ _ _ (omega arith) (omega
    arith) (omega arith) (omega arith) (omega arith)

most : (tag : ℕ) (c : List ℕ) → length (spelled tag c) ≤ length c + 6
unfolding spelled
most tag c = let a = length-append (length_bytes (length c)) c in let b = length_most (length c) in omega arith

octets_most : (tag : ℕ) (o : Option (List ℕ)) → length (octets_spelling tag o) ≤ size_of o + 12
octets_most tag None = omega arith
octets_most tag (Some bytes) = let a = most 4 bytes in let b = most tag (spelled 4 bytes) in omega arith

state_most : (o : Option ℕ) → length (state_spelling o) ≤ 13
state_most None = omega arith
state_most (Some s) = let a = most 0x0a (s ∷ []) in let b = most 0xa0 (spelled 0x0a (s ∷ [])) in omega arith

mech_most : (b : Bool) → length (mech_spelling b) ≤ 22
mech_most true = let a = most 0x06 ntlmssp in let b = most 0xa1 (spelled 0x06 ntlmssp) in omega arith
mech_most false = omega arith

names_alone : (at : ℕ) → names_in (record { at = at; bytes = ntlm_list }) ≡ Ok (record { first = true; named = true })
unfolding names_in element length_in begins_with_ntlm names_ntlm ends
names_alone at = refl

pub init_writable : (v : InitValue) → v.ntlm_first ≡ true → v.mech_list ≡ ntlm_list → size_of v.token < 2 ^ 30 → size_of
    v.mic < 2 ^ 30 → IsWritableInit v
unfolding init_spelling
init_writable v first alone token mic =
    let list = most 0xa0 v.mech_list in
    let two = octets_most 0xa2 v.token in
    let three = octets_most 0xa3 v.mic in
    let a = length-append (octets_spelling 0xa2 v.token) (octets_spelling 0xa3 v.mic) in
    let b = length-append (spelled 0xa0 v.mech_list) (octets_spelling 0xa2 v.token ++ octets_spelling 0xa3 v.mic) in
    let sequence = most 0x30 (init_fields_spelling v) in
    let choice = most 0xa0 (spelled 0x30 (init_fields_spelling v)) in
    let name = most 0x06 spnego in
    let c = length-append (spelled 0x06 spnego) (spelled 0xa0 (spelled 0x30 (init_fields_spelling v))) in
    let all = most 0x60 (spelled 0x06 spnego ++ spelled 0xa0 (spelled 0x30 (init_fields_spelling v))) in
    let short : length v.mech_list ≡ 14 = ap length alone in
    record {
      list = λ at. rw (alone, first) (names_alone at);
      short = omega arith;
    }

pub resp_writable : (v : RespValue) → size_of v.token < 2 ^ 30 → size_of v.mic < 2 ^ 30 → IsWritableResp v
unfolding resp_spelling
resp_writable v token mic =
    let state = state_most v.state in
    let mech = mech_most v.ntlm in
    let two = octets_most 0xa2 v.token in
    let three = octets_most 0xa3 v.mic in
    let a = length-append (octets_spelling 0xa2 v.token) (octets_spelling 0xa3 v.mic) in
    let b = length-append (mech_spelling v.ntlm) (octets_spelling 0xa2 v.token ++ octets_spelling 0xa3 v.mic) in
    let c = length-append (state_spelling v.state) (mech_spelling v.ntlm ++ (octets_spelling 0xa2 v.token ++ octets_spelling 0xa3 v.mic)) in
    let sequence = most 0x30 (resp_fields_spelling v) in
    let all = most 0xa1 (spelled 0x30 (resp_fields_spelling v)) in
    record { short = omega arith }
