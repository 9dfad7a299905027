-- The lines that a seed gives fit.
use Rattle.std.proofs.Common.{◌≡◌, ℕ, ◌+◌, ◌-◌, ◌*◌, ◌/◌, ◌%◌, ◌<◌, ◌≤◌, ◌^◌, ◌==◌, Bool, true, false, ◌||◌}
use Rattle.std.proofs.Common.{if◌then◌else◌, nat_le, nat_lt, zero, suc}
use Rattle.std.proofs.Common.{List, [], ◌∷◌, ◌++◌, map, length, get_or, slice_index_or, Some, None, refl, sym, subst, ap, ◌∙◌, arith}
use Rattle.std.proofs.Common.{append-nil, length-append}
use Rattle.std.proofs.lemmas.Grind.{common_steps}
use Rattle.std.proofs.lemmas.List.{get_or_append_left, length-map}
use Rattle.rand_chacha.specs.ChaCha.{ChaCha, of_seed}
use Rattle.script_words.specs.generator.Making.{behind_operation, behind_word, create_at, events_chosen, first_events}
use Rattle.script_words.specs.generator.Making.{key_bytes, operation_at}
use Rattle.script_words.specs.generator.Making.{operations_from, word_of}
use Rattle.script_words.specs.generator.Making.{settled, request_lost, response_lost, other_channel, restarted, crashed_kept, crashed_lost}
use Rattle.script_words.specs.declared.generator.events.MadeEvent.{MadeEvent}
use Rattle.script_words.specs.declared.generator.events.MadeEvent.TheVariants as happens
use Rattle.script_words.specs.declared.generator.lines.MadeLine.{MadeLine}
use Rattle.script_words.specs.declared.generator.lines.MadeLine.TheVariants as made
use Rattle.law_scripts.specs.generated.ReadsBack.{FitsBehind, IsMadeCreate, IsMadeEvent, MadeAreFew, ScriptsReadBack}
use Rattle.law_scripts.proofs.generated.Scripts.{AreFitting, creates_of, script_reads}

-- one of two, by a test
pick : {A : Type 0} (P : A → Type 0) (b : Bool) (x y : A) → (b ≡ true → P x) → (b ≡ false → P y) → P (if b then x else y)
pick P true x y f g = f refl
pick P false x y f g = g refl

-- ---- events

abbrev AreEvents : List MadeEvent → Type 0
AreEvents [] = Unit {0}
AreEvents (e ∷ es) = IsMadeEvent e × AreEvents es

chosen_fit : (n : ℕ) → AreEvents (events_chosen n)
unfolding events_chosen
chosen_fit n =
    pick AreEvents (nat_le n 39) settled _ (λ _. (tt, tt))
    (λ _. pick AreEvents (nat_le n 47) request_lost _ (λ _. (omega arith, (omega arith, (tt, tt))))
    (λ _. pick AreEvents (nat_le n 53) response_lost _ (λ _. (omega arith, (omega arith, (omega arith, (tt, tt)))))
    (λ _. pick AreEvents (nat_le n 60) other_channel _
    (λ _. (omega arith, (omega arith, (omega arith, (omega arith, (tt, (omega arith, (omega arith, (omega arith, tt)))))))))
    (λ _. pick AreEvents (n == 61) restarted _ (λ _. (omega arith, (omega arith, (tt, (omega arith, (tt, tt))))))
    (λ _. pick AreEvents (n == 62) crashed_kept crashed_lost (λ _. (omega arith, (tt, (omega arith, (tt, tt)))))
    (λ _. (omega arith, (tt, (omega arith, (tt, tt))))))))))

events_on : (creates : List Bool) (es : List MadeEvent) (rest : List MadeLine) → AreEvents es → length creates ≤ 1_048_576
    → AreFitting creates rest → AreFitting creates (map made.Event es ++ rest)
unfolding AreFitting
events_on creates [] rest h few fit = fit
events_on creates (e ∷ es) rest h few fit = (
  h.0,
  omega (arith, few),
  subst (λ (cs : List Bool). AreFitting cs (map made.Event es ++ rest)) (sym (append-nil creates)) (events_on creates es rest h.1 few fit),
)

-- ---- operations: each eighth is a create

record IsBehind (creates : List Bool) (before : ℕ) : Type 0 where
  long : length creates ≡ before
  each : (i : ℕ) → i < before → get_or creates i false ≡ (i % 8 == 0)

none_behind : IsBehind [] 0
none_behind = record { long = refl; each = λ (i : ℕ) (h : i < 0). absurd (omega (arith, h)) }

is_below : (i n : ℕ) → nat_lt i n ≡ true → i < n
is_below i n e = grind (arith, common_steps)

not_below : (i n : ℕ) → nat_lt i n ≡ false → n ≤ i
not_below i n e = grind (arith, common_steps)

is_same : (i n : ℕ) → i < n + 1 → nat_lt i n ≡ false → n ≡ i
is_same i n h e = let past : n ≤ i = not_below i n e in omega (arith, h, past)

at_last : (xs : List Bool) (b : Bool) → get_or (xs ++ b ∷ []) (length xs) false ≡ b
at_last [] b = refl
at_last (x ∷ xs) b = at_last xs b

one_behind : (creates : List Bool) (before : ℕ) → IsBehind creates before
    → IsBehind (creates ++ (before % 8 == 0) ∷ []) (before + 1)
one_behind creates before h = record {
  long = (let e = h.long in omega (arith, length-append creates ((before % 8 == 0) ∷ []), e));
  each = λ (i : ℕ) (below : i < before + 1). place i below (nat_lt i before) refl;
}
  where
    last_one : get_or (creates ++ (before % 8 == 0) ∷ []) before false ≡ (before % 8 == 0)
    last_one =
        subst (λ (k : ℕ). get_or (creates ++ (before % 8 == 0) ∷ []) k false ≡ (before % 8 == 0)) h.long (at_last creates (before % 8 == 0))

    place : (i : ℕ) → i < before + 1 → (b : Bool) → nat_lt i before ≡ b → get_or (creates ++ (before % 8 == 0) ∷ []) i false ≡ (i % 8 == 0)
    place i below true e =
        let l : i < before = is_below i before e in
        let k : i < length creates = subst (λ (n : ℕ). i < n) (sym h.long) l in
        get_or_append_left creates ((before % 8 == 0) ∷ []) false i k ∙ h.each i l
    place i below false e =
        let is : before ≡ i = is_same i before below e in
        subst (λ (k : ℕ). get_or (creates ++ (before % 8 == 0) ∷ []) k false ≡ (k % 8 == 0)) is last_one

-- ---- the create of an operation

not_zero : (n : ℕ) → (n == 0) ≡ false → 0 < n
not_zero n e = grind (arith, common_steps)

no_more : (a b : ℕ) → b ≤ a → nat_lt a b ≡ false
no_more a b h = grind (arith, common_steps)

eighth : (n : ℕ) → (n / 8 * 8 % 8 == 0) ≡ true
eighth n = let e : n / 8 * 8 % 8 ≡ 0 = omega arith in ap (λ (k : ℕ). k == 0) e

named_so : (a b c : Bool) (n : ℕ) → a ≡ false → b ≡ false → c ≡ true
    → (if a || b then None else if c then Some n else None) ≡ Some n
named_so true b c n p q r = absurd cc
named_so false true c n p q r = absurd cc
named_so false false true n p q r = refl
named_so false false false n p q r = absurd cc

some_number : (n : ℕ) → (n + 1 == 0) ≡ false
some_number n = grind (arith, common_steps)

is_create : (creates : List Bool) (before : ℕ) → IsBehind creates before → before < 1_048_576 → (before % 8 == 0) ≡ false
    → IsMadeCreate creates (create_at before)
is_create creates before h few apart =
    let some : 0 < before % 8 = not_zero (before % 8) apart in
    let below : before / 8 * 8 < before = omega (arith, some) in
    let place : create_at before - 1 ≡ before / 8 * 8 = omega arith in
    let long : length creates ≡ before = h.long in
    let within : create_at before ≤ length creates = omega (arith, below, long) in
    record {
      few = omega (arith, below, few);
      named = named_so (create_at before == 0) (nat_lt (length creates) (create_at before))
          (slice_index_or creates (create_at before - 1) false)
          (create_at before) (some_number (before / 8 * 8)) (no_more (length creates) (create_at before) within)
          (ap (λ (i : ℕ). get_or creates i false) place ∙ (h.each (before / 8 * 8) below ∙ eighth before));
    }

small : (n m : ℕ) → 0 < m → m ≤ 100 → n % m < 2 ^ 32
small n m some few = omega arith

abbrev FitsAt : List Bool → ℕ → MadeLine → Type 0
FitsAt creates before l = FitsBehind creates l × (creates_of l ≡ (before % 8 == 0) ∷ [])

-- an operation that is none of the creates
apart_one : (before : ℕ) → (before % 8 == 0) ≡ false → false ∷ [] ≡ (before % 8 == 0) ∷ []
apart_one before e = ap (λ (b : Bool). b ∷ []) (sym e)

operation_fits : (creates : List Bool) (before : ℕ) (g : ChaCha) → IsBehind creates before → before < 1_048_576
    → FitsAt creates before (operation_at before g)
unfolding operation_at
operation_fits creates before g h few =
    pick (FitsAt creates before) (before % 8 == 0) (made.Create (before / 8 % 8)) _
    (λ e. (omega arith, ap (λ (b : Bool). b ∷ []) (sym e)))
    (λ e. let is = is_create creates before h few e in let one = apart_one before e in
    pick (FitsAt creates before) (before % 8 == 1) (made.Write (create_at before) (word_of g % 64)
    (word_of (behind_word g))) _ (λ _. ((is, omega arith), one))
    (λ _. pick (FitsAt creates before) (before % 8 == 2) (made.Lock (create_at before)) _ (λ _. (is, one))
    (λ _. pick (FitsAt creates before) (before % 8 == 3) (made.Fill (create_at before) (word_of g % 100)) _ (λ _. ((is, omega arith), one))
    (λ _. pick (FitsAt creates before) (before % 8 == 4) (made.Read (create_at before)) _ (λ _. (is, one))
    (λ _. pick (FitsAt creates before) (before % 8 == 5) (made.End (create_at before)) _ (λ _. (is, one))
    (λ _. pick (FitsAt creates before) (before % 8 == 6) (made.Unlock (create_at before))
    (made.Close (create_at before)) (λ _. (is, one)) (λ _. (is, one))))))))

-- ---- all of them

operations_fit : (n before : ℕ) (creates : List Bool) (g : ChaCha) → IsBehind creates before → before + n ≤ 1_048_576
    → AreFitting creates (operations_from n before g)
unfolding operations_from AreFitting
operations_fit zero before creates g h few = tt
operations_fit (suc n) before creates g h few =
    let fits = operation_fits creates before g h (omega (arith, few)) in
    let next : IsBehind (creates ++ (before % 8 == 0) ∷ []) (before + 1) = one_behind creates before h in
    let long : length creates ≡ before = h.long in
    let long_next : length (creates ++ (before % 8 == 0) ∷ []) ≡ before + 1 = next.long in
    let w : ℕ = word_of (behind_operation before g) % 64 in
    let d : ChaCha = behind_word (behind_operation before g) in (
      fits.0,
      subst (λ (cs : List Bool). length creates + length cs ≤ 1_048_576) (sym fits.1) (omega (arith, long, few)),
      subst (λ (cs : List Bool). AreFitting (creates ++ cs) (map made.Event (events_chosen w)
          ++ operations_from n (before + 1) d)) (sym fits.1)
          (events_on (creates ++ (before % 8 == 0) ∷ []) (events_chosen w) (operations_from n (before + 1) d) (chosen_fit w)
          (omega (arith, long_next, few))
          (operations_fit n (before + 1) (creates ++ (before % 8 == 0) ∷ []) d next (omega (arith, few)))),
    )

pub scripts_read : ScriptsReadBack
scripts_read seed operations few lines =
    script_reads (made.Event (happens.Link 0)) (operations_from operations 0 (of_seed (key_bytes seed)))
    (events_on [] first_events (operations_from operations 0 (of_seed (key_bytes seed))) (omega arith, tt) (omega arith)
    (operations_fit operations 0 [] (of_seed (key_bytes seed)) none_behind (omega (arith, few)))) lines

-- ---- how many

abbrev IsShort : List MadeEvent → Type 0
IsShort es = length es ≤ 8

chosen_short : (n : ℕ) → length (events_chosen n) ≤ 8
unfolding events_chosen
chosen_short n =
    pick IsShort (nat_le n 39) settled _ (λ _. omega arith)
    (λ _. pick IsShort (nat_le n 47) request_lost _ (λ _. omega arith)
    (λ _. pick IsShort (nat_le n 53) response_lost _ (λ _. omega arith)
    (λ _. pick IsShort (nat_le n 60) other_channel _ (λ _. omega arith)
    (λ _. pick IsShort (n == 61) restarted _ (λ _. omega arith)
    (λ _. pick IsShort (n == 62) crashed_kept crashed_lost (λ _. omega arith) (λ _. omega arith))))))

operations_few : (n before : ℕ) (g : ChaCha) → length (operations_from n before g) ≤ 9 * n
unfolding operations_from
operations_few zero before g = omega arith
operations_few (suc n) before g =
    let w : ℕ = word_of (behind_operation before g) % 64 in
    let rest : List MadeLine = operations_from n (before + 1) (behind_word (behind_operation before g)) in
    omega (
      arith,
      length-append (map made.Event (events_chosen w)) rest,
      length-map (events_chosen w) made.Event,
      chosen_short w,
      operations_few n (before + 1) (behind_word (behind_operation before g)),
    )

pub made_few : MadeAreFew
made_few seed operations = omega (arith, operations_few operations 0 (of_seed (key_bytes seed)))
