-- A challenge and an answer read back.
use Rattle.std.proofs.Common.{◌≡◌, ℕ, ◌+◌, ◌^◌, ◌<◌, ◌≤◌, ◌==◌, nat_lt, Bool, true, false, ◌&&◌, if◌then◌else◌, List}
use Rattle.std.proofs.Common.{◌∷◌, ◌++◌, append_assoc, length, drop, replicate, length-append, length-drop, refl, ap}
use Rattle.std.proofs.Common.{subst, ◌∙◌, arith, Option, Some, None, Result, Ok}
use Rattle.std.specs.Prelude.{bit_and}
use Rattle.std.proofs.lemmas.Bool.Decides.{nat_tests}
use Rattle.std.proofs.lemmas.List.{drop_at, length-take}
use Rattle.std.proofs.lemmas.Nat.{or_of_32, and_le_r}
use Rattle.spec_crypto.specs.declared.tokens.ntlm.Type1.{Type1}
use Rattle.spec_crypto.specs.declared.tokens.ntlm.NtlmError.{NtlmError}
use Rattle.spec_crypto.specs.tokens.Pairs.{pair_in}
use Rattle.spec_crypto.specs.tokens.Formulas.{base_key, temp}
use Rattle.spec_crypto.specs.tokens.Messages.{Type2Value, Type3Value, info_fault, nt_at, type1_in, type2_in, type3_in}
use Rattle.spec_crypto.specs.tokens.Messages.{type2_spelling, type3_spelling, IsWritableType2, IsWritableType3}
use Rattle.spec_crypto.specs.tokens.Acceptor.{challenge_flags, large_name, server_info, challenge_value, challenge}
use Rattle.spec_crypto.specs.tokens.Answer.{Credentials, client_info, time_or_zero, time_in, temp_of, key_of, proof_of}
use Rattle.spec_crypto.specs.tokens.Answer.{answer_with, has_room, answer_code, answer, answered}
use Rattle.law_crypto.proofs.ntlm.Again.{type2_again, type3_again}
use Rattle.law_crypto.proofs.ntlm.Fits.{HasPairs, server_fits, server_size, info_read, answer_fits}
use Rattle.law_crypto.proofs.ntlm.Codes.{length-exchanged, length-proof, length-mic}

none_if : (b : Bool) (x : Option NtlmError) → x ≡ None → (if b then None else x) ≡ None
none_if true x h = refl
none_if false x h = h

-- ---- a challenge

flags_fit : (flags : ℕ) → challenge_flags flags < 256 ^ 4
flags_fit flags =
    let low : bit_and flags 0x6008_8031 < 2 ^ 32 = (let h = and_le_r flags 0x6008_8031 in omega arith) in
    let all = or_of_32 0x0082_0204 (bit_and flags 0x6008_8031) (omega arith) low in
    omega arith

writable2 : (v : Type2Value) → v.flags < 256 ^ 4 → length v.challenge ≡ 8 → length v.target_name < 256 ^ 2 → length
    v.target_info < 256 ^ 2 → IsWritableType2 v
writable2 v flags challenge name info = (
  refl,
  (
    omega arith,
    (
      name,
      (
        name,
        (
          omega arith,
          (
            flags,
            (
              challenge,
              (
                info,
                (info, (omega arith, (refl, (refl, tt)))),
              ),
            ),
          ),
        ),
      ),
    ),
  ),
)

challenged : (v : Type1) (server : List ℕ) (now : ℕ) → length server ≡ 8 → type2_in (type2_spelling (challenge_value v
    server now)) ≡ Ok (challenge_value v server now)
challenged v server now long =
    type2_again (challenge_value v server now) (writable2 (challenge_value v server now) (flags_fit v.flags) long (omega
    arith) (let s = server_size now in omega arith))
    (none_if (length (server_info now) == 0) (info_fault (56 + length large_name) (server_info now)) (server_fits (56 +
    length large_name) now))

pub same_ok : {X : Type 0} (x y : X) → ◌≡◌ {A = Result X NtlmError} (Ok x) (Ok y) → x ≡ y
same_ok x y h = cc

-- what a challenge is of
pub challenge_reads : (first server second : List ℕ) (now : ℕ) (v : Type1) → length server ≡ 8 → type1_in first ≡ Ok v →
    challenge first server now ≡ Ok second → type2_in second ≡ Ok (challenge_value v server now)
unfolding challenge
challenge_reads first server second now v long reads made =
    let is : type2_spelling (challenge_value v server now) ≡ second = same_ok _ _ (rw reads at made) in
    subst (λ (m : List ℕ). type2_in m ≡ Ok (challenge_value v server now)) is (challenged v server now long)

-- ---- an answer

pub length-time : (o : Option (List ℕ)) → length (time_or_zero o) ≡ 8
length-time None = refl
length-time (Some time) = omega (arith, length-take 8 (time ++ replicate 8 0), length-append time (replicate 8 0))

-- the pairs behind the first 44 bytes of a response
response_rest : (p time challenge info : List ℕ) → length p ≡ 16 → length time ≡ 8 → length challenge ≡ 8 → drop 44 (p
    ++ temp time challenge info) ≡ info ++ replicate 4 0
response_rest p time challenge info lp lt lc =
    let middle : List ℕ = replicate 6 0 ++ (time ++ (challenge ++ replicate 4 0)) in
    let front : List ℕ = p ++ (1 ∷ 1 ∷ middle) in
    let one = length-append challenge (replicate 4 0) in
    let two = length-append time (challenge ++ replicate 4 0) in
    let all = length-append p (1 ∷ 1 ∷ middle) in
    let long : length front ≡ 44 = omega arith in
    let joined : p ++ temp time challenge info ≡ front ++ (info ++ replicate 4 0) = simp append_assoc refl in
    ap (drop 44) joined ∙ drop_at front (info ++ replicate 4 0) 44 long

-- a response has room for a proof and what it is of
pub response_long : (p time challenge info : List ℕ) → length p ≡ 16 → length time ≡ 8 → length challenge ≡ 8
    → 44 ≤ length (p ++ temp time challenge info)
response_long p time challenge info lp lt lc =
    let rest = ap length (response_rest p time challenge info lp lt lc) in
    let behind = length-drop 44 (p ++ temp time challenge info) in
    let some = length-append info (replicate 4 0) in
    omega arith

writable3 : (v : Type3Value) → v.flags < 256 ^ 4 → length v.lm < 256 ^ 2 → length v.nt < 256 ^ 2 → length v.domain < 256
    ^ 2 → length v.user < 256 ^ 2 → length v.workstation < 256 ^ 2 → length v.session_key < 256 ^ 2 → length v.mic ≡ 16
    → IsWritableType3 v
writable3 v flags lm nt domain user workstation key mic = (
  refl,
  (
    omega arith,
    (
      lm,
      (
        lm,
        (
          omega arith,
          (
            nt,
            (
              nt,
              (
                omega arith,
                (
                  domain,
                  (
                    domain,
                    (
                      omega arith,
                      (
                        user,
                        (
                          user,
                          (
                            omega arith,
                            (
                              workstation,
                              (
                                workstation,
                                (
                                  omega arith,
                                  (
                                    key,
                                    (
                                      key,
                                      (
                                        omega arith,
                                        (
                                          flags,
                                          (
                                            mic,
                                            (
                                              refl,
                                              (
                                                refl,
                                                (refl, (refl, (refl, (refl, tt)))),
                                              ),
                                            ),
                                          ),
                                        ),
                                      ),
                                    ),
                                  ),
                                ),
                              ),
                            ),
                          ),
                        ),
                      ),
                    ),
                  ),
                ),
              ),
            ),
          ),
        ),
      ),
    ),
  ),
)

below : (n : ℕ) → nat_lt n 65536 ≡ true → n < 256 ^ 2
below n h = grind (arith, nat_tests)

all_three : (a b c : Bool) → (a && (b && c)) ≡ true → (a ≡ true) × (b ≡ true) × (c ≡ true)
all_three true true true h = (refl, refl, refl)
all_three true true false h = absurd cc
all_three true false c h = absurd cc
all_three false b c h = absurd cc

answer_again : (c : Credentials) (v : Type2Value) (code : List ℕ) → HasPairs v.target_info → length c.challenge ≡ 8 →
    length c.key ≡ 16 → length code ≡ 16 → has_room (answer_with c v code) ≡ true → type3_in (type3_spelling
    (answer_with c v code)) ≡ Ok (answer_with c v code)
answer_again c v code pairs challenge key long room =
    let w : Type3Value = answer_with c v code in
    let parts = all_three (nat_lt (length w.nt) 65536) (nat_lt (length w.domain) 65536) (nat_lt (length w.user) 65536) room in
    let exchanged = length-exchanged (base_key (key_of c) (proof_of c v)) c.key in
    let rest : drop 44 w.nt ≡ client_info v.target_info ++ replicate 4 0 =
    response_rest (proof_of c v) (time_in v.target_info) c.challenge (client_info v.target_info) (length-proof (key_of
    c) v.challenge (temp_of c v)) (length-time (pair_in (length v.target_info) 7 v.target_info)) challenge in
    let fits : info_fault (nt_at w + 44) (drop 44 w.nt) ≡ None = ap (info_fault (nt_at w + 44)) rest ∙ answer_fits
    (nt_at w + 44) v.target_info pairs in
    type3_again w
    (writable3 w (omega arith) (omega arith) (below (length w.nt) parts.0) (below (length w.domain) parts.1) (below
    (length w.user) parts.2) (omega arith) (omega arith) long)
    (none_if (nat_lt (length w.nt) 44) (info_fault (nt_at w + 44) (drop 44 w.nt)) fits)

given_if : {X : Type 0} (b : Bool) (x y : X) → (if b then Some x else None) ≡ Some y → (b ≡ true) × (x ≡ y)
given_if true x y h = (refl, cc)
given_if false x y h = absurd cc

-- an answer is the type 3 with its MIC, whose parts have room
pub is_answer : (c : Credentials) (first second third : List ℕ) (v : Type2Value) → answered c first second v ≡ Some
    third → (has_room (answer_with c v (answer_code c first second v)) ≡ true) × (type3_spelling (answer_with c v
    (answer_code c first second v)) ≡ third)
unfolding answered answer
is_answer c first second third v h = given_if (has_room (answer_with c v (replicate 16 0))) (answer c first second v) third h

pub answer_reads : (c : Credentials) (first second third : List ℕ) (v : Type2Value) → length c.challenge ≡ 8 → length
    c.key ≡ 16 → type2_in second ≡ Ok v → answered c first second v ≡ Some third → type3_in third ≡ Ok (answer_with c v
    (answer_code c first second v))
answer_reads c first second third v challenge key reads made =
    let w : Type3Value = answer_with c v (answer_code c first second v) in
    let is = is_answer c first second third v made in
    subst (λ (m : List ℕ). type3_in m ≡ Ok w) is.1
    (answer_again c v (answer_code c first second v) (info_read second v reads) challenge key (length-mic c.key first
    second (type3_spelling (answer_with c v (replicate 16 0)))) is.0)
