-- Characters in UTF-16 are told apart by their units.
use Rattle.std.proofs.Common.{◌≡◌, ℕ, zero, suc, ◌+◌, ◌-◌, ◌*◌, ◌/◌, ◌%◌, ◌^◌, ◌<◌, ◌≤◌, ◌⊎◌, inl, inr, Bool, true}
use Rattle.std.proofs.Common.{false, ◌&&◌, List, [], ◌∷◌, ◌++◌, length, take, drop, flat_map, chars, encode_utf8_all}
use Rattle.std.proofs.Common.{IsUtf8, refl, sym, ap, subst, ◌∙◌, arith, append_assoc, length-append, length-drop}
use Rattle.std.specs.Char.{IsScalar, InScalarRange}
use Rattle.std.specs.Str.{all_scalars}
use Rattle.std.specs.Prelude.{nat_lt, if◌then◌else◌}
use Rattle.std.proofs.lemmas.Bool.{cases_lt}
use Rattle.std.proofs.lemmas.Grind.{common_steps}
use Rattle.std.proofs.lemmas.List.{append-nil, append_cancel_left, drop-drop, take-append-drop}
use Rattle.std.proofs.lemmas.Str.{scalars-chars, encodes-chars}
use Rattle.spec_wire.specs.messages.Places.{le, number, number_of, bytes_at}
use Rattle.spec_wire.specs.messages.Utf16.{units_of, utf16_of, utf16, IsHigh, IsLow, IsLone, IsReadTo, BreaksUtf16}
use Rattle.spec_wire.specs.declared.messages.refusal.TextError.{TextError}
use Rattle.spec_wire.specs.declared.messages.refusal.TextError.TheVariants as errors
use Rattle.spec_wire.proofs.messages.Numbers.{length-le, number_of-le, bytes_at-behind}

range_of : (c : ℕ) → IsScalar c → InScalarRange c
range_of c is = grind (arith, common_steps)

-- the first two units of a character
high_of : ℕ → ℕ
high_of c = 0xd800 + (c - 0x10000) / 0x400

low_of : ℕ → ℕ
low_of c = 0xdc00 + (c - 0x10000) % 0x400

small_units : (c : ℕ) → c < 0x10000 → units_of c ≡ le 2 c
small_units c small = grind (arith, common_steps)

big_units : (c : ℕ) → 0x10000 ≤ c → units_of c ≡ le 2 (high_of c) ++ le 2 (low_of c)
unfolding high_of low_of
big_units c big = grind (arith, common_steps)

first_of : (n : ℕ) (rest : List ℕ) → n < 256 ^ 2 → number 2 (le 2 n ++ rest) 0 ≡ n
first_of n rest fits = ap number_of (bytes_at-behind 2 [] (le 2 n) rest 0 refl (length-le 2 n)) ∙ number_of-le 2 n fits

second_of : (a n : ℕ) (rest : List ℕ) → n < 256 ^ 2 → number 2 ((le 2 a ++ le 2 n) ++ rest) 2 ≡ n
second_of a n rest fits =
    ap (λ (l : List ℕ). number 2 l 2) (append_assoc (le 2 a) (le 2 n) rest)
    ∙ ap number_of (bytes_at-behind 2 (le 2 a) (le 2 n) rest 2 (sym (length-le 2 a)) (length-le 2 n))
    ∙ number_of-le 2 n fits

-- what stands at the front of a character's units
small_front : (c : ℕ) (rest : List ℕ) → c < 0x10000 → number 2 (units_of c ++ rest) 0 ≡ c
small_front c rest small = ap (λ (l : List ℕ). number 2 (l ++ rest) 0) (small_units c small) ∙ first_of c rest (omega (arith, small))

big_range : (c : ℕ) → 0x10000 ≤ c → InScalarRange c → (0xd800 ≤ high_of c) × (high_of c < 0xdc00) × (0xdc00 ≤ low_of c)
    × (low_of c < 0xe000)
unfolding high_of low_of
big_range c big (inl below) = absurd (omega (arith, big, below))
big_range c big (inr inside) = let top = inside.1 in (omega arith, omega (arith, top, big), omega arith, omega arith)

big_front : (c : ℕ) (rest : List ℕ) → 0x10000 ≤ c → InScalarRange c → (number 2 (units_of c ++ rest) 0 ≡ high_of c)
    × (number 2 (units_of c ++ rest) 2 ≡ low_of c)
big_front c rest big range =
    let bounds = big_range c big range in
    let high = bounds.1 in
    let low = bounds.3 in
    let units : List ℕ = le 2 (high_of c) ++ le 2 (low_of c) in
    let same = big_units c big in (
      ap (λ (l : List ℕ). number 2 (l ++ rest) 0) same ∙ ap (λ (l : List ℕ). number 2 l 0)
          (append_assoc (le 2 (high_of c)) (le 2 (low_of c)) rest) ∙ first_of (high_of c) (le 2 (low_of c) ++ rest)
          (omega (arith, high)),
      ap (λ (l : List ℕ). number 2 (l ++ rest) 2) same ∙ second_of (high_of c) (low_of c) rest (omega (arith, low)),
    )

-- a plain unit is no high surrogate
plain_unit : (c d : ℕ) → c < 0x10000 → InScalarRange c → 0x10000 ≤ d → InScalarRange d → c ≡ high_of d → ⊥
plain_unit c d small (inl below) big range e = let high = (big_range d big range).0 in absurd (omega (arith, below, high, e))
plain_unit c d small (inr inside) big range e = let high = (big_range d big range).1 in let low = inside.0 in
    absurd (omega (arith, low, high, e))

same_big : (c d : ℕ) → 0x10000 ≤ c → 0x10000 ≤ d → high_of c ≡ high_of d → low_of c ≡ low_of d → c ≡ d
unfolding high_of low_of
same_big c d big far e f = omega (arith, big, far, e, f)

same_code : (c d : ℕ) (a b : List ℕ) → InScalarRange c → InScalarRange d → units_of c ++ a ≡ units_of d ++ b → c ≡ d
same_code c d a b range other e = by_size (cases_lt c 0x10000) (cases_lt d 0x10000)
  where
    fronts : number 2 (units_of c ++ a) 0 ≡ number 2 (units_of d ++ b) 0
    fronts = ap (λ (l : List ℕ). number 2 l 0) e

    seconds : number 2 (units_of c ++ a) 2 ≡ number 2 (units_of d ++ b) 2
    seconds = ap (λ (l : List ℕ). number 2 l 2) e

    by_size : (c < 0x10000) ⊎ (0x10000 ≤ c) → (d < 0x10000) ⊎ (0x10000 ≤ d) → c ≡ d
    by_size (inl small) (inl less) = sym (small_front c a small) ∙ fronts ∙ small_front d b less
    by_size (inl small) (inr far) = absurd (plain_unit c d small range far other (sym (small_front c a small) ∙ fronts
        ∙ (big_front d b far other).0))
    by_size (inr big) (inl less) = absurd (plain_unit d c less other big range (sym (small_front d b less) ∙ sym fronts
        ∙ (big_front c a big range).0))
    by_size (inr big) (inr far) =
        same_big c d big far (sym (big_front c a big range).0 ∙ fronts ∙ (big_front d b far other).0)
        (sym (big_front c a big range).1 ∙ seconds ∙ (big_front d b far other).1)

both : (a b : Bool) → (a && b) ≡ true → (a ≡ true) × (b ≡ true)
both true b e = (refl, e)
both false b e = absurd cc

each : (c : ℕ) (cs : List ℕ) → all_scalars (c ∷ cs) ≡ true → IsScalar c × (all_scalars cs ≡ true)
each c cs e = both _ (all_scalars cs) e

-- the units of a character are two bytes or four
units_whole : (c : ℕ) → (length (units_of c) ≡ 2) ⊎ (length (units_of c) ≡ 4)
units_whole c = by_size (cases_lt c 0x10000)
  where
    by_size : (c < 0x10000) ⊎ (0x10000 ≤ c) → (length (units_of c) ≡ 2) ⊎ (length (units_of c) ≡ 4)
    by_size (inl small) = inl (ap length (small_units c small) ∙ length-le 2 c)
    by_size (inr big) = inr (ap length (big_units c big)
        ∙ omega (
          arith,
          length-append (le 2 (high_of c)) (le 2 (low_of c)),
          length-le 2 (high_of c),
          length-le 2 (low_of c),
        ))

some_units : (c : ℕ) → 2 ≤ length (units_of c)
some_units c = from (units_whole c)
  where
    from : (length (units_of c) ≡ 2) ⊎ (length (units_of c) ≡ 4) → 2 ≤ length (units_of c)
    from (inl e) = omega (arith, e)
    from (inr e) = omega (arith, e)

even_units : (c : ℕ) (n : ℕ) → n % 2 ≡ 0 → (length (units_of c) + n) % 2 ≡ 0
even_units c n even = from (units_whole c)
  where
    from : (length (units_of c) ≡ 2) ⊎ (length (units_of c) ≡ 4) → (length (units_of c) + n) % 2 ≡ 0
    from (inl e) = omega (arith, e, even)
    from (inr e) = omega (arith, e, even)

even : (cs : List ℕ) → length (utf16_of cs) % 2 ≡ 0
even [] = refl
even (c ∷ cs) = ap (λ (n : ℕ). n % 2) (length-append (units_of c) (utf16_of cs)) ∙ even_units c (length (utf16_of cs)) (even cs)

-- Characters of which others are the beginning: what follows is characters too.
split : (cs ds rest : List ℕ) → all_scalars cs ≡ true → all_scalars ds ≡ true → utf16_of ds ≡ utf16_of cs ++ rest
    → (es : List ℕ) × (ds ≡ cs ++ es) × (all_scalars es ≡ true) × (utf16_of es ≡ rest)
split [] ds rest all others e = (ds, refl, others, e)
split (c ∷ cs) [] rest all others e =
    let none : 0 ≡ length (utf16_of (c ∷ cs) ++ rest) = ap length e in
    let some = some_units c in
    absurd (omega (arith, none, some, length-append (units_of c ++ utf16_of cs) rest, length-append (units_of c) (utf16_of cs)))
split (c ∷ cs) (d ∷ ds) rest all others e =
    let parts : units_of d ++ utf16_of ds ≡ units_of c ++ (utf16_of cs ++ rest) = e ∙ append_assoc (units_of c) (utf16_of cs) rest in
    let same : d ≡ c = same_code d c (utf16_of ds) (utf16_of cs ++ rest) (range_of d (each d ds others).0)
    (range_of c (each c cs all).0) parts in
    let later : utf16_of ds ≡ utf16_of cs ++ rest = append_cancel_left (units_of c) (utf16_of ds) (utf16_of cs ++ rest)
    (ap (λ (x : ℕ). units_of x ++ utf16_of ds) (sym same) ∙ parts) in
    let (es, is, scalars, units) = split cs ds rest (each c cs all).1 (each d ds others).1 later in
    (es, ap (λ (x : ℕ). x ∷ ds) same ∙ ap (λ (l : List ℕ). c ∷ l) is, scalars, units)

nothing : (es : List ℕ) → utf16_of es ≡ [] → es ≡ []
nothing [] e = refl
nothing (c ∷ cs) e =
    let none : length (utf16_of (c ∷ cs)) ≡ 0 = ap length e in
    let some = some_units c in
    absurd (omega (arith, none, some, length-append (units_of c) (utf16_of cs)))

one_list : (cs ds : List ℕ) → all_scalars cs ≡ true → all_scalars ds ≡ true → utf16_of cs ≡ utf16_of ds → cs ≡ ds
one_list cs ds all others e =
    let (es, is, scalars, units) = split cs ds [] all others (sym e ∙ sym (append-nil (utf16_of cs))) in
    sym (is ∙ ap (λ (l : List ℕ). cs ++ l) (nothing es units) ∙ append-nil cs)

pub one_text : (s t : List ℕ) → IsUtf8 s → IsUtf8 t → utf16 s ≡ utf16 t → s ≡ t
unfolding utf16
one_text s t is other e =
    sym (encodes-chars s is) ∙ ap encode_utf8_all (one_list (chars s) (chars t) (scalars-chars s is)
    (scalars-chars t other) e) ∙ encodes-chars t other

-- no character begins with a surrogate that has no partner
begins_well : (c : ℕ) (rest : List ℕ) → IsScalar c → IsLow (number 2 (units_of c ++ rest) 0)
    ⊎ IsHigh (number 2 (units_of c ++ rest) 0) × (IsLow (number 2 (units_of c ++ rest) 2) → ⊥) → ⊥
begins_well c rest is lone = by_size (cases_lt c 0x10000) lone
  where
    range : InScalarRange c
    range = range_of c is

    low_plain : InScalarRange c → 0xdc00 ≤ c → c < 0xe000 → ⊥
    low_plain (inl below) l h = omega (arith, below, l)
    low_plain (inr inside) l h = let low = inside.0 in omega (arith, low, h)

    high_plain : InScalarRange c → 0xd800 ≤ c → c < 0xdc00 → ⊥
    high_plain (inl below) l h = omega (arith, below, l)
    high_plain (inr inside) l h = let low = inside.0 in omega (arith, low, h)

    by_size : (c < 0x10000) ⊎ (0x10000 ≤ c) → IsLow (number 2 (units_of c ++ rest) 0)
        ⊎ IsHigh (number 2 (units_of c ++ rest) 0) × (IsLow (number 2 (units_of c ++ rest) 2) → ⊥) → ⊥
    by_size (inl small) (inl low) = let f = small_front c rest small in low_plain range (omega (arith, f, low.0)) (omega (arith, f, low.1))
    by_size (inl small) (inr high) = let f = small_front c rest small in high_plain range (omega (arith, f, high.0.0))
        (omega (arith, f, high.0.1))
    by_size (inr big) (inl low) = let f = (big_front c rest big range).0 in let b = (big_range c big range).1 in omega (arith, f, b, low.0)
    by_size (inr big) (inr high) =
        let f = (big_front c rest big range).1 in
        let b = big_range c big range in
        let least = b.2 in
        let most = b.3 in
        high.1 (omega (arith, f, least), omega (arith, f, most))

reads_well : (es : List ℕ) → all_scalars es ≡ true → 2 ≤ length (utf16_of es) → IsLow (number 2 (utf16_of es) 0)
    ⊎ IsHigh (number 2 (utf16_of es) 0) × (IsLow (number 2 (utf16_of es) 2) → ⊥) → ⊥
reads_well [] all some lone = omega (arith, some)
reads_well (c ∷ cs) all some lone = begins_well c (utf16_of cs) (each c cs all).0 lone

-- a place in the bytes, seen from behind it
at_behind : (bytes : List ℕ) (at : ℕ) → IsLone bytes at → IsLow (number 2 (drop at bytes) 0)
    ⊎ IsHigh (number 2 (drop at bytes) 0) × (IsLow (number 2 (drop at bytes) 2) → ⊥)
unfolding bytes_at
at_behind bytes at (inl low) = inl low
at_behind bytes at (inr high) =
    inr (high.0, λ low. high.1 (subst (λ (l : List ℕ). IsLow (number_of (take 2 l))) (drop-drop 2 at bytes) low))

no_lone : (ds : List ℕ) (at : ℕ) → all_scalars ds ≡ true → IsReadTo (utf16_of ds) at → IsLone (utf16_of ds) at → ⊥
no_lone ds at all (cs, scalars, units, inside) lone =
    let bytes : List ℕ = utf16_of ds in
    let parts : utf16_of ds ≡ utf16_of cs ++ drop at bytes = sym (take-append-drop at bytes)
    ∙ ap (λ (l : List ℕ). l ++ drop at bytes) (sym units) in
    let (es, is, others, rest) = split cs ds (drop at bytes) scalars all parts in
    let size = length-drop at bytes in
    let some : 2 ≤ length (utf16_of es) = omega (arith, ap length rest, size, inside) in
    reads_well es others some (subst (λ (l : List ℕ). IsLow (number 2 l 0) ⊎ IsHigh (number 2 l 0)
    × (IsLow (number 2 l 2) → ⊥)) (sym rest) (at_behind bytes at lone))

pub text_holds : (t : List ℕ) (e : TextError) → IsUtf8 t → BreaksUtf16 (utf16 t) e → (e ≡ errors.Memory → ⊥) → ⊥
unfolding utf16
text_holds t errors.Memory is broken other = other refl
text_holds t (errors.OddLength n) is broken other = let whole = even (chars t) in let odd = broken.1 in let size =
    broken.0 in omega (arith, ap (λ (k : ℕ). k % 2) size, whole, odd)
text_holds t (errors.LoneSurrogate at) is broken other = no_lone (chars t) at (scalars-chars t is) broken.1 broken.2
