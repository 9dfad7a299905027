-- The SessionId of a message by its eight bytes: they spell 0 exactly where each is 0.
use Rattle.std.proofs.Common.{◌≡◌, ℕ, zero, suc, ◌+◌, ◌-◌, ◌*◌, ◌≤◌, ◌==◌, ◌&&◌, Bool, true, false, List, [], ◌∷◌, length, length-drop}
use Rattle.std.proofs.Common.{drop, take, replicate, refl, sym, ap, ◌∙◌, arith}
use Rattle.std.proofs.lemmas.Bool.Decides.{nat_tests}
use Rattle.std.proofs.lemmas.List.{length-take-le, take_rest}
use Rattle.std.specs.Str.{bytes_eq}
use Rattle.spec_wire.specs.messages.Places.{number, number_of, bytes_at}

one_more : (x r : ℕ) (b : Bool) → b ≡ (r == 0) → (0 == x && b) ≡ (x + 256 * r == 0)
one_more x r true e = (let e' : (r == 0) ≡ true = sym e in grind (arith, nat_tests))
one_more x r false e = (let e' : (r == 0) ≡ false = sym e in grind (arith, nat_tests))

all_zero : (n : ℕ) (xs : List ℕ) → length xs ≡ n → bytes_eq (replicate n 0) xs ≡ (number_of xs == 0)
unfolding number_of
all_zero zero [] e = refl
all_zero zero (x ∷ xs) e = absurd (omega (arith, e))
all_zero (suc n) [] e = absurd (omega (arith, e))
all_zero (suc n) (x ∷ xs) e = one_more x (number_of xs) (bytes_eq (replicate n 0) xs) (all_zero n xs (omega (arith, e)))

none_told : (m : List ℕ) → 64 ≤ length m → bytes_eq (replicate 8 0) (take 8 (drop 40 m)) ≡ (number 8 m 40 == 0)
unfolding bytes_at
none_told m long =
    let rest : length (drop 40 m) ≡ length m - 40 = length-drop 40 m in
    all_zero 8 (take 8 (drop 40 m)) (length-take-le 8 (drop 40 m) (omega (arith, long, rest)))

pub probe_told : (command : ℕ) (m : List ℕ) → command ≡ 13 → 64 ≤ length m
    → bytes_eq (replicate 8 0) (take 8 (take (length m - 40) (drop 40 m))) ≡ (command == 13 && number 8 m 40 == 0)
probe_told command m echo long =
    ap (λ (l : List ℕ). bytes_eq (replicate 8 0) (take 8 l)) (take_rest m 40) ∙ (none_told m long
    ∙ ap (λ (n : ℕ). n == 13 && number 8 m 40 == 0) (sym echo))
