-- How long spelled elements are at least, and what is put together.
use Rattle.std.proofs.Common.{◌≡◌, ℕ, suc, ◌+◌, ◌<◌, ◌≤◌, ◌^◌, List, [], ◌∷◌, ◌++◌, length, length-append, append_assoc, refl, arith, ap}
use Rattle.spec_crypto.specs.tokens.Der.{length_bytes, spelled}
use Rattle.spec_crypto.specs.tokens.Spnego.{spnego, ntlmssp, init_spelling, resp_spelling, init_fields_spelling}
use Rattle.spec_crypto.specs.tokens.Spnego.{resp_fields_spelling, InitValue, RespValue}

length-spelled : (tag : ℕ) (c : List ℕ) → length (spelled tag c) ≡ suc (length (length_bytes (length c)) + length c)
unfolding spelled
length-spelled tag c = ap suc (length-append (length_bytes (length c)) c)

pub inside : (tag : ℕ) (c : List ℕ) → length c ≤ length (spelled tag c)
inside tag c = let e = length-spelled tag c in omega arith

pub short_inside : (tag : ℕ) (c : List ℕ) → length (spelled tag c) < 2 ^ 32 → length c < 2 ^ 32
short_inside tag c h = let e = inside tag c in omega arith

pub short_front : (a b : List ℕ) → length (a ++ b) < 2 ^ 32 → length a < 2 ^ 32
short_front a b h = let e = length-append a b in omega arith

pub short_back : (a b : List ℕ) → length (a ++ b) < 2 ^ 32 → length b < 2 ^ 32
short_back a b h = let e = length-append a b in omega arith

pub joined : (out : List ℕ) (tag : ℕ) (contents : List ℕ) → ((out ++ tag ∷ []) ++ length_bytes (length contents)) ++
    contents ≡ out ++ spelled tag contents
unfolding spelled
joined out tag contents = simp append_assoc refl

pub mech_short : length (spelled 6 ntlmssp) < 2 ^ 32
unfolding spelled
mech_short = omega arith

pub state_short : (s : ℕ) → length (spelled 10 (s ∷ [])) < 2 ^ 32
unfolding spelled
state_short s = omega arith

-- of a NegTokenInit: its fields, its SEQUENCE, what stands in its choice, and the whole contents
pub init_parts : (v : InitValue) → length (init_spelling v) < 2 ^ 32 → (length (init_fields_spelling v) < 2 ^ 32) ×
    (length (spelled 0x30 (init_fields_spelling v)) < 2 ^ 32) × (length (spelled 6 spnego ++ spelled 0xa0 (spelled 0x30
    (init_fields_spelling v))) < 2 ^ 32)
unfolding init_spelling
init_parts v h =
    let all = short_inside 0x60 (spelled 6 spnego ++ spelled 0xa0 (spelled 0x30 (init_fields_spelling v))) h in
    let choice = short_back (spelled 6 spnego) (spelled 0xa0 (spelled 0x30 (init_fields_spelling v))) all in
    let sequence = short_inside 0xa0 (spelled 0x30 (init_fields_spelling v)) choice in
    (short_inside 0x30 (init_fields_spelling v) sequence, sequence, all)

pub resp_parts : (v : RespValue) → length (resp_spelling v) < 2 ^ 32 → (length (resp_fields_spelling v) < 2 ^ 32) ×
    (length (spelled 0x30 (resp_fields_spelling v)) < 2 ^ 32)
unfolding resp_spelling
resp_parts v h =
    let sequence = short_inside 0xa1 (spelled 0x30 (resp_fields_spelling v)) h in
    (short_inside 0x30 (resp_fields_spelling v) sequence, sequence)
