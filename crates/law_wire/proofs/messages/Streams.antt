-- Frames at the front of a stream.
use Rattle.std.proofs.Common.{◌≡◌, ℕ, ◌+◌, ◌/◌, ◌%◌, ◌<◌, ◌≤◌, Bool, true, false, List, [], ◌∷◌, ◌++◌, length, get_or}
use Rattle.std.proofs.Common.{take, drop, refl, sym, ap, subst, ◌∙◌, arith, append_assoc, length-append}
use Rattle.std.specs.Prelude.{◌==◌, nat_lt, not, if◌then◌else◌}
use Rattle.std.proofs.lemmas.Grind.{common_steps}
use Rattle.std.proofs.lemmas.List.{append-nil, take-append-le, drop-append-le, length-drop, take_at, drop_at}
use Rattle.std.proofs.Math.ListN.{get_or-append}
use Rattle.spec_wire.specs.messages.Places.{bytes_at}
use Rattle.spec_wire.specs.messages.Frames.{Front, Waits, Whole, Breaks, front, told_length, frame_spelling, Frames, Call, Fed}
use Rattle.spec_wire.specs.messages.Frames.{Gave, Waited, Refused, Calls, fed, given}
use Rattle.spec_wire.specs.declared.messages.refusal.FrameError.{FrameError}
use Rattle.spec_wire.specs.declared.messages.refusal.FrameError.TheVariants.{BadLead, TooLong}

-- the four tests, and what they say of a stream
chain : (a b c d e : Bool) (lead long : FrameError) (whole : Front) → Front
chain a b c d e lead long whole = if a then Waits else if not b then Breaks lead else if c then Waits else if d then
    Breaks long else if e then Waits else whole

whole_tests : (a b c d e : Bool) (lead long : FrameError) (whole : Front) (m r : List ℕ) → chain a b c d e lead long
    whole ≡ Whole m r → (a ≡ false) × (b ≡ true) × (c ≡ false) × (d ≡ false) × (e ≡ false) × (whole ≡ Whole m r)
unfolding chain
whole_tests true b c d e lead long whole m r is = absurd cc
whole_tests false false c d e lead long whole m r is = absurd cc
whole_tests false true true d e lead long whole m r is = absurd cc
whole_tests false true false true e lead long whole m r is = absurd cc
whole_tests false true false false true lead long whole m r is = absurd cc
whole_tests false true false false false lead long whole m r is = (refl, refl, refl, refl, refl, is)

front_chain : (s : List ℕ) → front s ≡ chain (length s == 0) (get_or s 0 0 == 0) (nat_lt (length s) 4)
    (nat_lt 1114112 (told_length s)) (nat_lt (length s) (4 + told_length s)) (BadLead (get_or s 0 0))
    (TooLong (told_length s)) (Whole (bytes_at (told_length s) s 4) (drop (4 + told_length s) s))
unfolding front chain
front_chain s = refl

-- a whole frame at the front
pub record IsWhole (s m r : List ℕ) : Type 0 where
  pub lead : get_or s 0 0 ≡ 0
  pub small : told_length s ≤ 1114112
  pub inside : 4 + told_length s ≤ length s
  pub message : bytes_at (told_length s) s 4 ≡ m
  pub rest : drop (4 + told_length s) s ≡ r

is_nought : (n : ℕ) → (n == 0) ≡ true → n ≡ 0
is_nought n e = grind (arith, common_steps)

isnt_nought : (n : ℕ) → (n == 0) ≡ false → (n ≡ 0 → ⊥)
isnt_nought n e = grind (arith, common_steps)

no_less : (a b : ℕ) → nat_lt a b ≡ false → b ≤ a
no_less a b e = grind (arith, common_steps)

is_less : (a b : ℕ) → nat_lt a b ≡ true → a < b
is_less a b e = grind (arith, common_steps)

same_message : (a b m r : List ℕ) → Whole a b ≡ Whole m r → a ≡ m
same_message a b m r e = cc

same_rest : (a b m r : List ℕ) → Whole a b ≡ Whole m r → b ≡ r
same_rest a b m r e = cc

pub whole_facts : (s m r : List ℕ) → front s ≡ Whole m r → IsWhole s m r
whole_facts s m r e =
    let tests = whole_tests (length s == 0) (get_or s 0 0 == 0) (nat_lt (length s) 4) (nat_lt 1114112 (told_length s))
    (nat_lt (length s) (4 + told_length s)) (BadLead (get_or s 0 0)) (TooLong (told_length s))
    (Whole (bytes_at (told_length s) s 4) (drop (4 + told_length s) s)) m r (sym (front_chain s) ∙ e) in
    record {
      lead = is_nought (get_or s 0 0) tests.1;
      small = no_less 1114112 (told_length s) tests.3;
      inside = no_less (length s) (4 + told_length s) tests.4;
      message = same_message _ _ m r tests.5;
      rest = same_rest _ _ m r tests.5;
    }

pub whole_from : (s : List ℕ) → get_or s 0 0 ≡ 0 → told_length s ≤ 1114112 → 4 + told_length s ≤ length s → front s
    ≡ Whole (bytes_at (told_length s) s 4) (drop (4 + told_length s) s)
unfolding chain
whole_from s lead small inside =
    let a : (length s == 0) ≡ false = grind (arith, common_steps) in
    let b : (get_or s 0 0 == 0) ≡ true = grind (arith, common_steps) in
    let c : nat_lt (length s) 4 ≡ false = grind (arith, common_steps) in
    let d : nat_lt 1114112 (told_length s) ≡ false = grind (arith, common_steps) in
    let e : nat_lt (length s) (4 + told_length s) ≡ false = grind (arith, common_steps) in
    front_chain s ∙ rw (a, b, c, d, e) refl

-- what is told, of a stream that has more behind it
told_more : (s more : List ℕ) → 4 ≤ length s → told_length (s ++ more) ≡ told_length s
told_more s more there =
    let one = get_or-append s more 0 1 (omega (arith, there)) in
    let two = get_or-append s more 0 2 (omega (arith, there)) in
    let three = get_or-append s more 0 3 (omega (arith, there)) in
    omega (arith, one, two, three)

pub whole_stays : (s m r more : List ℕ) → front s ≡ Whole m r → front (s ++ more) ≡ Whole m (r ++ more)
unfolding bytes_at
whole_stays s m r more e =
    let is = whole_facts s m r e in
    let told : told_length (s ++ more) ≡ told_length s = told_more s more (omega (arith, is.inside)) in
    let size = length-append s more in
    let lead = get_or-append s more 0 0 (omega (arith, is.inside)) in
    let found = whole_from (s ++ more) (lead ∙ is.lead) (omega (arith, told, is.small)) (omega (arith, told, size, is.inside)) in
    let behind : drop 4 (s ++ more) ≡ drop 4 s ++ more = drop-append-le 4 s more (omega (arith, is.inside)) in
    let left = length-drop 4 s in
    let message : bytes_at (told_length (s ++ more)) (s ++ more) 4 ≡ m =
    ap (λ (k : ℕ). take k (drop 4 (s ++ more))) told ∙ ap (take (told_length s)) behind ∙ take-append-le (told_length s)
    (drop 4 s) more (omega (arith, left, is.inside)) ∙ is.message in
    let rest : drop (4 + told_length (s ++ more)) (s ++ more) ≡ r ++ more =
    ap (λ (k : ℕ). drop (4 + k) (s ++ more)) told ∙ drop-append-le (4 + told_length s) s more is.inside
    ∙ ap (λ (l : List ℕ). l ++ more) is.rest in
    found ∙ ap (λ (b : List ℕ). Whole b (drop (4 + told_length (s ++ more)) (s ++ more))) message ∙ ap (λ (b : List ℕ). Whole m b) rest

-- a refusal at the front
data IsRefused (s : List ℕ) (x : FrameError) : Type 0 where
  ByLead : 0 < length s → (get_or s 0 0 ≡ 0 → ⊥) → BadLead (get_or s 0 0) ≡ x → IsRefused s x
  ByLength : 4 ≤ length s → get_or s 0 0 ≡ 0 → 1114112 < told_length s → TooLong (told_length s) ≡ x → IsRefused s x

same_refusal : (a b : FrameError) → Breaks a ≡ Breaks b → a ≡ b
same_refusal a b e = cc

refused_tests : (s : List ℕ) (x : FrameError) (a b c d e : Bool) (whole : Front) → (length s == 0) ≡ a
    → (get_or s 0 0 == 0) ≡ b → nat_lt (length s) 4 ≡ c → nat_lt 1114112 (told_length s) ≡ d
    → ((y : FrameError) → whole ≡ Breaks y → ⊥) → chain a b c d e (BadLead (get_or s 0 0)) (TooLong (told_length s))
    whole ≡ Breaks x → IsRefused s x
unfolding chain
refused_tests s x true b c d e whole p q u v other is = absurd cc
refused_tests s x false false c d e whole p q u v other is = ByLead (grind (arith, common_steps))
    (isnt_nought (get_or s 0 0) q) (same_refusal _ x is)
refused_tests s x false true true d e whole p q u v other is = absurd cc
refused_tests s x false true false true e whole p q u v other is = ByLength (no_less (length s) 4 u)
    (is_nought (get_or s 0 0) q) (is_less 1114112 (told_length s) v) (same_refusal _ x is)
refused_tests s x false true false false true whole p q u v other is = absurd cc
refused_tests s x false true false false false whole p q u v other is = absurd (other x is)

refused_facts : (s : List ℕ) (x : FrameError) → front s ≡ Breaks x → IsRefused s x
refused_facts s x e = refused_tests s x _ _ _ _ (nat_lt (length s) (4 + told_length s))
    (Whole (bytes_at (told_length s) s 4) (drop (4 + told_length s) s)) refl refl refl refl (λ y f. absurd cc)
    (sym (front_chain s) ∙ e)

lead_from : (s : List ℕ) → 0 < length s → (get_or s 0 0 ≡ 0 → ⊥) → front s ≡ Breaks (BadLead (get_or s 0 0))
unfolding chain
lead_from s some lead =
    let a : (length s == 0) ≡ false = grind (arith, common_steps) in
    let b : (get_or s 0 0 == 0) ≡ false = grind (arith, common_steps) in
    front_chain s ∙ rw (a, b) refl

long_from : (s : List ℕ) → 4 ≤ length s → get_or s 0 0 ≡ 0 → 1114112 < told_length s → front s ≡ Breaks (TooLong (told_length s))
unfolding chain
long_from s there lead long =
    let a : (length s == 0) ≡ false = grind (arith, common_steps) in
    let b : (get_or s 0 0 == 0) ≡ true = grind (arith, common_steps) in
    let c : nat_lt (length s) 4 ≡ false = grind (arith, common_steps) in
    let d : nat_lt 1114112 (told_length s) ≡ true = grind (arith, common_steps) in
    front_chain s ∙ rw (a, b, c, d) refl

still_refused : (s more : List ℕ) (x : FrameError) → IsRefused s x → front (s ++ more) ≡ Breaks x
still_refused s more x (ByLead some lead is) =
    let same = get_or-append s more 0 0 some in
    let size = length-append s more in
    lead_from (s ++ more) (omega (arith, size, some)) (λ e. lead (sym same ∙ e)) ∙ ap (λ (k : ℕ). Breaks (BadLead k)) same ∙ ap Breaks is
still_refused s more x (ByLength there lead long is) =
    let same = get_or-append s more 0 0 (omega (arith, there)) in
    let size = length-append s more in
    let told = told_more s more there in
    long_from (s ++ more) (omega (arith, size, there)) (same ∙ lead) (omega (arith, told, long))
    ∙ ap (λ (k : ℕ). Breaks (TooLong k)) told ∙ ap Breaks is

pub refusal_stays : (s more : List ℕ) (x : FrameError) → front s ≡ Breaks x → front (s ++ more) ≡ Breaks x
refusal_stays s more x e = still_refused s more x (refused_facts s x e)

-- a frame that was made
pub frame_again : (m rest : List ℕ) → length m ≤ 1114112 → front (frame_spelling m ++ rest) ≡ Whole m rest
unfolding frame_spelling bytes_at
frame_again m rest small =
    let s : List ℕ = frame_spelling m ++ rest in
    let told : told_length s ≡ length m = omega (arith, small) in
    let size : length s ≡ 4 + length m + length rest = omega (arith, length-append m rest) in
    let found = whole_from s refl (omega (arith, told, small)) (omega (arith, told, size)) in
    let message : bytes_at (told_length s) s 4 ≡ m = ap (λ (k : ℕ). take k (m ++ rest)) told ∙ take_at m rest (length m) refl in
    let left : drop (4 + told_length s) s ≡ rest = ap (λ (k : ℕ). drop (4 + k) s) told
    ∙ drop_at (0 ∷ length m / 65536 ∷ length m / 256 % 256 ∷ length m % 256 ∷ m) rest (4 + length m) (omega arith)
    in
    found ∙ ap (λ (b : List ℕ). Whole b (drop (4 + told_length s) s)) message ∙ ap (λ (b : List ℕ). Whole m b) left

-- one list of frames
pub one_list : (s : List ℕ) (ms ns : List (List ℕ)) (r q : List ℕ) → Frames s ms r → Frames s ns q
    → ((m t : List ℕ) → front r ≡ Whole m t → ⊥) → ((m t : List ℕ) → front q ≡ Whole m t → ⊥) → (ms ≡ ns) × (r ≡ q)
one_list s [] [] r q f g ended done = (refl, sym f ∙ g)
one_list s [] (n ∷ ns) r q f (later, whole, g) ended done = absurd (ended n later (ap front (sym f) ∙ whole))
one_list s (m ∷ ms) [] r q (later, whole, f) g ended done = absurd (done m later (ap front (sym g) ∙ whole))
one_list s (m ∷ ms) (n ∷ ns) r q (later, whole, f) (after, found, g) ended done =
    let same : Whole m later ≡ Whole n after = sym whole ∙ found in
    let rest = one_list later ms ns r q f (subst (λ (l : List ℕ). Frames l ns q) (sym (same_rest m later n after same)) g) ended done in
    (ap (λ (x : List ℕ). x ∷ ms) (same_message m later n after same) ∙ ap (λ (xs : List (List ℕ)). n ∷ xs) rest.0, rest.1)

-- Whatever pieces were fed and however the calls were mixed: the frames of all that was left at first and fed since
-- are those that were handed out, and what is left now.
pub cut_from : (cs : List Call) (old new : List ℕ) → Calls old cs new → Frames (old ++ fed cs) (given cs) new
unfolding fed given
cut_from [] old new e = append-nil old ∙ sym e
cut_from (Fed piece ∷ cs) old new (later, is, calls) =
    subst (λ (l : List ℕ). Frames l (given cs) new) (ap (λ (l : List ℕ). l ++ fed cs) is ∙ append_assoc old piece
    (fed cs)) (cut_from cs later new calls)
cut_from (Gave m ∷ cs) old new (later, is, calls) = (later ++ fed cs, whole_stays old m later (fed cs) is, cut_from cs later new calls)
cut_from (Waited ∷ cs) old new (later, is, calls) = subst (λ (l : List ℕ). Frames (l ++ fed cs) (given cs) new) is.1
    (cut_from cs later new calls)
cut_from (Refused e ∷ cs) old new (later, is, calls) = subst (λ (l : List ℕ). Frames (l ++ fed cs) (given cs) new) is.1
    (cut_from cs later new calls)
