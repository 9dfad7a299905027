-- Eight bytes of a value, and the parts of a type 3 that fit their fields.
use Rattle.std.proofs.Common.{◌≡◌, ℕ, ◌+◌, ◌^◌, ◌<◌, ◌≤◌, List, [], ◌∷◌, ◌++◌, length, take, drop, replicate, refl, sym, arith}
use Rattle.std.proofs.lemmas.List.{take-append-le}
use Rattle.spec_crypto.specs.tokens.Messages.{Type2Value, Type3Value, IsWritableType2, IsWritableType3}

-- ---- eight bytes

pub filled : (xs : List ℕ) → length xs < 8 → xs ++ drop (length xs) (replicate 8 0) ≡ take 8 (xs ++ replicate 8 0)
filled [] h = refl
filled (a ∷ []) h = refl
filled (a ∷ b ∷ []) h = refl
filled (a ∷ b ∷ c ∷ []) h = refl
filled (a ∷ b ∷ c ∷ d ∷ []) h = refl
filled (a ∷ b ∷ c ∷ d ∷ e ∷ []) h = refl
filled (a ∷ b ∷ c ∷ d ∷ e ∷ f ∷ []) h = refl
filled (a ∷ b ∷ c ∷ d ∷ e ∷ f ∷ g ∷ []) h = refl
filled (a ∷ b ∷ c ∷ d ∷ e ∷ f ∷ g ∷ i ∷ xs) h = absurd (omega arith)

pub long_enough : (xs : List ℕ) → 8 ≤ length xs → take 8 xs ≡ take 8 (xs ++ replicate 8 0)
long_enough xs h = sym (take-append-le 8 xs (replicate 8 0) h)

-- ---- messages whose parts fit

pub writable2 : (v : Type2Value) → v.flags < 256 ^ 4 → length v.challenge ≡ 8 → length v.target_name < 256 ^ 2 → length
    v.target_info < 256 ^ 2 → IsWritableType2 v
writable2 v flags challenge name info = (
  refl,
  (
    omega arith,
    (
      name,
      (
        name,
        (
          omega arith,
          (
            flags,
            (
              challenge,
              (
                info,
                (info, (omega arith, (refl, (refl, tt)))),
              ),
            ),
          ),
        ),
      ),
    ),
  ),
)

pub writable3 : (v : Type3Value) → v.flags < 256 ^ 4 → length v.lm < 256 ^ 2 → length v.nt < 256 ^ 2 → length v.domain <
    256 ^ 2 → length v.user < 256 ^ 2 → length v.workstation < 256 ^ 2 → length v.session_key < 256 ^ 2 → length v.mic ≡
    16 → IsWritableType3 v
writable3 v flags lm nt domain user workstation key mic = (
  refl,
  (
    omega arith,
    (
      lm,
      (
        lm,
        (
          omega arith,
          (
            nt,
            (
              nt,
              (
                omega arith,
                (
                  domain,
                  (
                    domain,
                    (
                      omega arith,
                      (
                        user,
                        (
                          user,
                          (
                            omega arith,
                            (
                              workstation,
                              (
                                workstation,
                                (
                                  omega arith,
                                  (
                                    key,
                                    (
                                      key,
                                      (
                                        omega arith,
                                        (
                                          flags,
                                          (
                                            mic,
                                            (
                                              refl,
                                              (
                                                refl,
                                                (refl, (refl, (refl, (refl, tt)))),
                                              ),
                                            ),
                                          ),
                                        ),
                                      ),
                                    ),
                                  ),
                                ),
                              ),
                            ),
                          ),
                        ),
                      ),
                    ),
                  ),
                ),
              ),
            ),
          ),
        ),
      ),
    ),
  ),
)
