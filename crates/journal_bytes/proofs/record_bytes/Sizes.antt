-- What is written is as long as the model reckons.
use Rattle.std.proofs.Common.{◌≡◌, ℕ, zero, suc, ◌+◌, ◌-◌, ◌*◌, ◌/◌, ◌%◌, ◌<◌, ◌≤◌, List, [], ◌∷◌, ◌++◌, length}
use Rattle.std.proofs.Common.{drop, fold, Option, Some, None, chars, IsUtf8, inl, inr, refl, ap}
use Rattle.std.proofs.Common.{◌∙◌, arith, length-append}
use Rattle.std.proofs.lemmas.List.Elements.{All-head, All-tail}
use Rattle.std.proofs.lemmas.Bool.{cases_lt}
use Rattle.std.proofs.lemmas.Grind.{common_steps}
use Rattle.std.proofs.lemmas.Str.{encodes-chars}
use lib.Utf8.{encode}
use Rattle.std.specs.Prelude.{encode_utf8, encode_utf8_all}
use Rattle.spec_wire.specs.messages.Places.{le}
use Rattle.spec_wire.specs.messages.Utf16.{utf16, utf16_of, units_of as wide_units}
use Rattle.spec_wire.proofs.messages.Numbers.{length-le}
use Rattle.spec_exchange.specs.Texts.{units_of, utf16_length}
use Rattle.spec_exchange.specs.Records.{text_size, opened_size, record_size, records_size}
use Rattle.journal_bytes.specs.record_bytes.Grammar.{behind_fields, record_table, opened_table, IsKept, OpenIsKept, IsWritableRecord}
use Rattle.journal_bytes.specs.record_bytes.Grammar.{AreWritableRecords, record_spelling, records_spelling}
use Rattle.journal_bytes.specs.record_bytes.Meaning.{elements_in, opened, record_of, records_of}
use Rattle.journal_bytes.specs.declared.record_bytes.value.NewOpen.{NewOpen}
use Rattle.journal_bytes.specs.declared.record_bytes.value.Record.{Record}
use Rattle.journal_bytes.specs.declared.record_bytes.value.Record.TheVariants.{Epoch, Create, Write, SetEnd, SetBasic, SetDelete}
use Rattle.journal_bytes.specs.declared.record_bytes.value.Record.TheVariants.{Rename, Remove, Lock, Shut, Version, Expire}
use Rattle.journal_bytes.proofs.record_bytes.Again.{length_written}

counted : (xs : List ℕ) (n : ℕ) → fold (λ (a x : ℕ). a + units_of x) n xs ≡ n + fold (λ (a x : ℕ). a + units_of x) 0 xs
counted [] n = omega arith
counted (x ∷ xs) n = counted xs (n + units_of x) ∙ omega (arith, counted xs (0 + units_of x))

counted-append : (xs ys : List ℕ) → utf16_length (xs ++ ys) ≡ utf16_length xs + utf16_length ys
unfolding utf16_length
counted-append [] ys = omega arith
counted-append (x ∷ xs) ys = counted (xs ++ ys) (0 + units_of x) ∙ omega (arith, counted-append xs ys, counted xs (0 + units_of x))

-- a character takes as many units as its bytes count
one : (b : ℕ) → b < 128 → units_of b ≡ 1
unfolding units_of
one b small = grind (arith, common_steps)

lead : (b : ℕ) → 192 ≤ b → b < 240 → units_of b ≡ 1
unfolding units_of
lead b least most = grind (arith, common_steps)

lead_of_four : (b : ℕ) → 240 ≤ b → units_of b ≡ 2
unfolding units_of
lead_of_four b least = grind (arith, common_steps)

later : (x : ℕ) → units_of (128 + x % 64) ≡ 0
unfolding units_of
later x = let least : 128 ≤ 128 + x % 64 = omega arith in let most : 128 + x % 64 < 192 = omega arith in grind (arith, common_steps)

plain : (c : ℕ) → c < 0x10000 → length (wide_units c) ≡ 2
plain c small = let e : wide_units c ≡ le 2 c = grind (arith, common_steps) in ap length e ∙ length-le 2 c

pair : (c : ℕ) → 0x10000 ≤ c → length (wide_units c) ≡ 4
pair c big =
    let e : wide_units c ≡ le 2 (0xd800 + (c - 0x10000) / 0x400) ++ le 2 (0xdc00 + (c - 0x10000) % 0x400) = grind (arith, common_steps) in
    ap length e ∙ omega (
      arith,
      length-append (le 2 (0xd800 + (c - 0x10000) / 0x400))
          (le 2 (0xdc00 + (c - 0x10000) % 0x400)),
      length-le 2 (0xd800 + (c - 0x10000) / 0x400),
      length-le 2 (0xdc00 + (c - 0x10000) % 0x400),
    )

encoded_1 : (c : ℕ) → c < 128 → encode c ≡ c ∷ []
unfolding encode
encoded_1 c small = grind (arith, common_steps)

encoded_2 : (c : ℕ) → 128 ≤ c → c < 2048 → encode c ≡ (192 + c / 64) ∷ (128 + c % 64) ∷ []
unfolding encode
encoded_2 c least most = grind (arith, common_steps)

encoded_3 : (c : ℕ) → 2048 ≤ c → c < 65536 → encode c ≡ (224 + c / 4096) ∷ (128 + c / 64 % 64) ∷ (128 + c % 64) ∷ []
unfolding encode
encoded_3 c least most = grind (arith, common_steps)

encoded_4 : (c : ℕ) → 65536 ≤ c → encode c ≡ (240 + c / 262144) ∷ (128 + c / 4096 % 64) ∷ (128 + c / 64 % 64) ∷ (128 + c % 64) ∷ []
unfolding encode
encoded_4 c least = grind (arith, common_steps)

one_character : (c : ℕ) → length (wide_units c) ≡ 2 * utf16_length (encode_utf8 c)
unfolding utf16_length
one_character c = elim (cases_lt c 128) [
  | inl small ↦ rw (encoded_1 c small) (omega (arith, plain c (omega arith), one c small))
  | inr first ↦ elim (cases_lt c 2048) [
    | inl small ↦ rw (encoded_2 c first small)
        (omega (arith, plain c (omega arith), lead (192 + c / 64) (omega arith) (omega arith), later c))
    | inr second ↦ elim (cases_lt c 65536) [
      | inl small ↦ rw (encoded_3 c second small)
          (omega (arith, plain c small, lead (224 + c / 4096) (omega arith) (omega arith), later (c / 64), later c))
      | inr third ↦ rw (encoded_4 c third) (omega (
        arith,
        pair c third,
        lead_of_four (240 + c / 262144) (omega arith),
        later (c / 4096),
        later (c / 64),
        later c,
      ))
    ]
  ]
]

none_counted : utf16_length [] ≡ 0
unfolding utf16_length
none_counted = refl

characters : (cs : List ℕ) → length (utf16_of cs) ≡ 2 * utf16_length (encode_utf8_all cs)
characters [] = omega (arith, none_counted)
characters (c ∷ cs) = length-append (wide_units c) (utf16_of cs) ∙ omega (
  arith,
  one_character c,
  characters cs,
  counted-append (encode_utf8 c) (encode_utf8_all cs),
)

pub text_length : (text : List ℕ) → IsUtf8 text → length (utf16 text) ≡ 2 * utf16_length text
unfolding utf16
text_length text is = characters (chars text) ∙ ap (λ (b : List ℕ). 2 * utf16_length b) (encodes-chars text is)

count_elements : (n : ℕ) (bytes : List ℕ) → length (elements_in n bytes) ≡ n
unfolding elements_in
count_elements zero bytes = refl
count_elements (suc n) bytes = ap suc (count_elements n (drop 24 bytes))

opened_behind : (o : Option NewOpen) (at : ℕ) → OpenIsKept 2 o → behind_fields at (opened_table 2 o) ≡ at + opened_size (opened o)
unfolding opened_size text_size
opened_behind None at kept = omega arith
opened_behind (Some n) at kept = omega (arith, text_length n.user kept.0)

size_behind : (r : Record) → IsKept 2 r → behind_fields 0 (record_table 2 r) ≡ record_size (record_of r)
unfolding record_size text_size
size_behind (Epoch told_number) kept = omega arith
size_behind (Create origin action file path attributes directory time made) kept = opened_behind made
    (35 + length (utf16 path) + 4 + 1 + 8) kept.1 ∙ omega (arith, text_length path kept.0)
size_behind (Write origin file at time bytes) kept = omega arith
size_behind (SetEnd origin file size time) kept = omega arith
size_behind (SetBasic origin file basic) kept = omega arith
size_behind (SetDelete origin file marked) kept = omega arith
size_behind (Rename origin file replaced path) kept = omega (arith, text_length path kept)
size_behind (Remove origin file) kept = omega arith
size_behind (Lock origin id index tried_number status elements) kept = omega (arith, count_elements (length elements / 24) elements)
size_behind (Shut origin id) kept = omega arith
size_behind (Version told_number) kept = omega arith
size_behind (Expire origin id) kept = omega arith

pub written_size : (rs : List Record) → AreWritableRecords rs → length (records_spelling rs) ≡ records_size (records_of rs)
unfolding records_size
written_size [] fit = refl
written_size (r ∷ rs) fit =
    let first : IsWritableRecord r = All-head IsWritableRecord r rs fit in
    let here : length (record_spelling r) ≡ record_size (record_of r) = length_written (record_table 2 r) [] first.fits
    ∙ size_behind r first.kept in
    omega (arith, length-append (record_spelling r) (records_spelling rs), here, written_size rs (All-tail IsWritableRecord r rs fit))
