-- A spelled element reads back, whatever stands behind it.
use Rattle.std.proofs.Common.{◌≡◌, ℕ, suc, ◌+◌, ◌*◌, ◌/◌, ◌%◌, ◌^◌, ◌<◌, ◌≤◌, ◌==◌, nat_lt, Bool, true, false, ◌&&◌}
use Rattle.std.proofs.Common.{if◌then◌else◌, List, [], ◌∷◌, ◌++◌, length, take, drop, length-append, append_assoc, refl}
use Rattle.std.proofs.Common.{arith, sym, ◌∙◌, ap, Ok}
use Rattle.std.proofs.lemmas.Bool.Decides.{nat_tests}
use Rattle.std.proofs.lemmas.List.{append-nil}
use Rattle.spec_crypto.specs.tokens.Der.{Parted, length_bytes, length_in, element, comes, spelled}

drop_front : (a b : List ℕ) → drop (length a) (a ++ b) ≡ b
drop_front [] b = refl
drop_front (x ∷ a) b = drop_front a b

take_front : (a b : List ℕ) → take (length a) (a ++ b) ≡ a
take_front [] b = refl
take_front (x ∷ a) b = ap (λ l. x ∷ l) (take_front a b)

not_zero : (k : ℕ) → (suc k == 0) ≡ false
not_zero k = grind (arith, nat_tests)

is_self : (k : ℕ) → (k == k) ≡ true
is_self k = grind (arith, nat_tests)

low : (n k : ℕ) → n < k → nat_lt n k ≡ true
low n k h = grind (arith, nat_tests)

high : (n k : ℕ) → k ≤ n → nat_lt n k ≡ false
high n k h = grind (arith, nat_tests)

in_one : (n at : ℕ) (more : List ℕ) → n < 128 → length_in (record { at = at; bytes = n ∷ more }) ≡ Ok (1, n)
unfolding length_in
in_one n at more lt = rw (not_zero (length more), low n 128 lt) refl

in_two : (n at : ℕ) (more : List ℕ) → length_in (record { at = at; bytes = 0x81 ∷ n ∷ more }) ≡ Ok (2, n)
unfolding length_in
in_two n at more = rw (not_zero (suc (length more)), high (suc (suc (length more))) 2 (omega arith)) refl

in_three : (a b at : ℕ) (more : List ℕ) → length_in (record { at = at; bytes = 0x82 ∷ a ∷ b ∷ more }) ≡ Ok (3, 256 * a + b)
unfolding length_in
in_three a b at more = rw (not_zero (suc (suc (length more))), high (suc (suc (suc (length more)))) 3 (omega arith)) refl

in_four : (a b c at : ℕ) (more : List ℕ) → length_in (record { at = at; bytes = 0x83 ∷ a ∷ b ∷ c ∷ more }) ≡ Ok (4, 65536 * a + 256 * b + c)
unfolding length_in
in_four a b c at more = rw (not_zero (suc (suc (suc (length more)))), high (suc (suc (suc (suc (length more))))) 4 (omega arith)) refl

in_five : (a b c d at : ℕ) (more : List ℕ) → length_in (record { at = at; bytes = 0x84 ∷ a ∷ b ∷ c ∷ d ∷ more }) ≡ Ok
    (5, 16777216 * a + 65536 * b + 256 * c + d)
unfolding length_in
in_five a b c d at more = rw (
  not_zero (suc (suc (suc (suc (length more))))),
  high (suc (suc (suc (suc (suc (length
      more)))))) 5 (omega arith),
) refl

-- the choice among the five forms, with its tests as Bools
form : (n : ℕ) (b1 b2 b3 b4 : Bool) → List ℕ
form n b1 b2 b3 b4 =
    if b1 then n ∷ []
    else if b2 then 0x81 ∷ n ∷ []
    else if b3 then 0x82 ∷ (n / 256) ∷ (n % 256) ∷ []
    else if b4 then 0x83 ∷ (n / 65536) ∷ (n / 256 % 256) ∷ (n % 256) ∷ []
    else 0x84 ∷ (n / 16777216) ∷ (n / 65536 % 256) ∷ (n / 256 % 256) ∷ (n % 256) ∷ []

reads : (n at : ℕ) (more : List ℕ) (b1 b2 b3 b4 : Bool) → nat_lt n 0x80 ≡ b1 → n < 2 ^ 32 → length_in (record {
  at = at;
  bytes = form n b1 b2 b3 b4 ++ more;
}) ≡ Ok (length (form n b1 b2 b3 b4), n)
unfolding form
reads n at more true b2 b3 b4 e lt = in_one n at more (grind (arith, nat_tests))
reads n at more false true b3 b4 e lt = in_two n at more
reads n at more false false true b4 e lt = let same : 256 * (n / 256) + n % 256 ≡ n = omega arith in in_three (n / 256)
    (n % 256) at more ∙ ap (λ k. Ok (3, k)) same
reads n at more false false false true e lt = let same : 65536 * (n / 65536) + 256 * (n / 256 % 256) + n % 256 ≡ n =
    omega arith in in_four (n / 65536) (n / 256 % 256) (n % 256) at more ∙ ap (λ k. Ok (4, k)) same
reads n at more false false false false e lt = let same : 16777216 * (n / 16777216) + 65536 * (n / 65536 % 256) + 256 *
    (n / 256 % 256) + n % 256 ≡ n = omega arith in in_five (n / 16777216) (n / 65536 % 256) (n / 256 % 256) (n % 256) at
    more ∙ ap (λ k. Ok (5, k)) same

length_reads : (n at : ℕ) (more : List ℕ) → n < 2 ^ 32 → length_in (record { at = at; bytes = length_bytes n ++ more })
    ≡ Ok (length (length_bytes n), n)
unfolding form
length_reads n at more lt = reads n at more (nat_lt n 0x80) (nat_lt n 0x100) (nat_lt n 0x1_0000) (nat_lt n 0x100_0000) refl lt

-- how far the contents stand behind the tag
abbrev pub lead : List ℕ → ℕ
lead contents = 1 + length (length_bytes (length contents))

abbrev pub after : ℕ → ℕ → List ℕ → List ℕ → Parted
after tag at contents rest = record {
  contents = record { at = at + lead contents; bytes = contents };
  rest = record {
    at = at + (lead contents + length contents);
    bytes = rest;
  };
}

drop_behind : (a b : List ℕ) (n : ℕ) → drop (length a + n) (a ++ b) ≡ drop n b
drop_behind [] b n = let e : 0 + n ≡ n = omega arith in rw e refl
drop_behind (x ∷ a) b n = let e : suc (length a) + n ≡ suc (length a + n) = omega arith in rw e (drop_behind a b n)

pub element_reads : (tag at : ℕ) (contents rest : List ℕ) → length contents < 2 ^ 32 → element tag (record {
  at = at;
  bytes = spelled tag contents ++ rest;
}) ≡ Ok (after tag at contents rest)
unfolding element spelled
element_reads tag at contents rest lt =
    let lb = length_bytes (length contents) in
    let all = lb ++ (contents ++ rest) in
    let told : length_in (record { at = at + 1; bytes = all }) ≡ Ok (length lb, length contents) = length_reads (length
    contents) (at + 1) (contents ++ rest) lt in
    let long : length all ≡ length lb + (length contents + length rest) = length-append lb (contents ++ rest) ∙ ap (λ (k
    : ℕ). length lb + k) (length-append contents rest) in
    let fits : nat_lt (suc (length all)) (1 + length lb + length contents) ≡ false = high (suc (length all)) (1 + length
    lb + length contents) (omega arith) in
    let one : 1 + length lb ≡ suc (length lb) = omega arith in
    let two : 1 + length lb + length contents ≡ suc (length lb + length contents) = omega arith in
    let inner : take (length contents) (drop (1 + length lb) (tag ∷ all)) ≡ contents =
    ap (λ (k : ℕ). take (length contents) (drop k (tag ∷ all))) one ∙ (ap (take (length contents)) (drop_front lb
    (contents ++ rest)) ∙ take_front contents rest) in
    let outer : drop (1 + length lb + length contents) (tag ∷ all) ≡ rest =
    ap (λ (k : ℕ). drop k (tag ∷ all)) two ∙ (drop_behind lb (contents ++ rest) (length contents) ∙ drop_front contents rest) in
    rw (append_assoc lb contents rest, not_zero (length all), is_self tag, told, fits)
    (λ t. Ok (record {
      contents = record { at = at + (1 + length lb); bytes = inner t };
      rest = record {
        at = at + (1 +
            length lb + length contents);
        bytes = outer t;
      };
    }))

pub element_alone : (tag at : ℕ) (contents : List ℕ) → length contents < 2 ^ 32 → element tag (record {
  at = at;
  bytes =
      spelled tag contents;
}) ≡ Ok (after tag at contents [])
element_alone tag at contents lt = ap (λ (b : List ℕ). element tag (record { at = at; bytes = b })) (sym (append-nil
    (spelled tag contents))) ∙ element_reads tag at contents [] lt

and_false : (b : Bool) → (b && false) ≡ false
and_false true = refl
and_false false = refl

pub comes_here : (tag at : ℕ) (c rest : List ℕ) → comes tag (record { at = at; bytes = spelled tag c ++ rest }) ≡ true
unfolding spelled
comes_here tag at c rest =
    let some : nat_lt 0 (suc (length ((length_bytes (length c) ++ c) ++ rest))) ≡ true = low 0 (suc (length
    ((length_bytes (length c) ++ c) ++ rest))) (omega arith) in
    rw (some, is_self tag) refl

pub comes_other : (tag other at : ℕ) (c rest : List ℕ) → (other == tag) ≡ false → comes tag (record {
  at = at;
  bytes =
      spelled other c ++ rest;
}) ≡ false
unfolding spelled
comes_other tag other at c rest e = rw e (and_false (nat_lt 0 (suc (length ((length_bytes (length c) ++ c) ++ rest)))))
