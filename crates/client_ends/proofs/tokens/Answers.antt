-- How long the token of an answer is.
use Rattle.std.proofs.Common.{◌≡◌, ℕ, ◌^◌, ◌<◌, ◌≤◌, nat_lt, Bool, true, false, if◌then◌else◌, List, ◌++◌}
use Rattle.std.proofs.Common.{length, length-append, ap, arith, Some, None}
use Rattle.std.proofs.lemmas.Bool.Decides.{nat_tests}
use Rattle.spec_crypto.specs.tokens.Der.{length_bytes, spelled}
use Rattle.spec_crypto.specs.tokens.Spnego.{octets_spelling, resp_spelling}
use Rattle.spec_crypto.specs.tokens.Tokens.{answer_resp}
use Rattle.spec_world.specs.Sending.{that_fits}

short : (n : ℕ) → n < 65536 → nat_lt n 65536 ≡ true
short n h = grind (arith, nat_tests)

long : (n : ℕ) → 65536 ≤ n → nat_lt n 65536 ≡ false
long n h = grind (arith, nat_tests)

-- a token that fits, and one that doesn't
pub fits : (t : List ℕ) → length t < 65536 → that_fits (Some t) ≡ Some t
fits t h = ap (λ (b : Bool). if b then Some t else None) (short (length t) h)

pub over : (t : List ℕ) → 65536 ≤ length t → that_fits (Some t) ≡ None
over t h = ap (λ (b : Bool). if b then Some t else None) (long (length t) h)

-- an element is longer than its contents
inside : (tag : ℕ) (c : List ℕ) → length c ≤ length (spelled tag c)
unfolding spelled
inside tag c = let a = length-append (length_bytes (length c)) c in omega arith

-- and a token than its message
pub too_long : (third code : List ℕ) → 65536 ≤ length third → that_fits (Some (answer_resp third code)) ≡ None
unfolding resp_spelling
too_long third code h =
    let string = inside 0x04 third in
    let part = inside 0xa2 (spelled 0x04 third) in
    let two = length-append (octets_spelling 0xa2 (Some third)) (octets_spelling 0xa3 (Some code)) in
    let fields = octets_spelling 0xa2 (Some third) ++ octets_spelling 0xa3 (Some code) in
    let sequence = inside 0x30 fields in
    let all = inside 0xa1 (spelled 0x30 fields) in
    over (answer_resp third code) (omega arith)

-- a MIC of 16 bytes
pub code_short : (n : ℕ) → n ≡ 16 → n < 2 ^ 30
code_short n e = omega arith
