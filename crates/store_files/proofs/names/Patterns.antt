-- What is left of a pattern and of a name from a place on, and a walk along both that goes back to the last `*` alone.
use Rattle.std.proofs.Common.{◌≡◌, ℕ, ◌+◌, ◌-◌, ◌*◌, ◌≤◌, ◌<◌, ◌==◌, nat_le, nat_lt, Bool, true, false, ◌&&◌, ◌||◌}
use Rattle.std.proofs.Common.{if◌then◌else◌, List, [], ◌∷◌, length, get_or, drop, refl}
use Rattle.std.proofs.Common.{sym, ap, ◌∙◌, arith}
use Rattle.std.proofs.lemmas.Grind.{common_steps}
use Rattle.std.proofs.lemmas.List.{drop_more, drop_all, length-drop}
use Rattle.std.proofs.lemmas.Bool.Decides.{nat_tests}
use Rattle.std.proofs.Math.Nat.{mul-le-mul_right, add-mul}
use Rattle.spec_exchange.specs.Listing.{accepts, matches, any_tail, one_character, after_character, one_byte}
use Rattle.spec_exchange.specs.Texts.{upper}
use Rattle.store_files.specs.names.Walks.{IsUnderWay, LeadsBehind, may_take_more, turns}

any_step : (f : List ℕ → Bool) (name : List ℕ) (i : ℕ) → i < length name → any_tail f (drop i name)
    ≡ (f (drop i name) || any_tail f (drop (i + 1) name))
unfolding any_tail
any_step f name i l = rw (drop_more name i 0 l) refl

any_end : (f : List ℕ → Bool) (name : List ℕ) (i : ℕ) → i ≡ length name → any_tail f (drop i name) ≡ f (drop i name)
unfolding any_tail
any_end f name i e = rw (drop_all i name (omega arith)) refl

any_end_past : (f : List ℕ → Bool) (name : List ℕ) (i : ℕ) → length name ≤ i → any_tail f (drop i name) ≡ f (drop i name)
unfolding any_tail
any_end_past f name i e = rw (drop_all i name e) refl

character_step : (f : List ℕ → Bool) (name : List ℕ) (i : ℕ) → i < length name → one_character f (drop i name)
    ≡ after_character f (drop (i + 1) name)
unfolding one_character
character_step f name i l = rw (drop_more name i 0 l) refl

pub middle_step : (f : List ℕ → Bool) (name : List ℕ) (i : ℕ) → i < length name
    → (nat_le 128 (get_or name i 0) && nat_lt (get_or name i 0) 192) ≡ true
    → after_character f (drop i name) ≡ after_character f (drop (i + 1) name)
unfolding after_character
middle_step f name i l e = rw (drop_more name i 0 l, e) refl

pub begin_step : (f : List ℕ → Bool) (name : List ℕ) (i : ℕ) → i < length name
    → (nat_le 128 (get_or name i 0) && nat_lt (get_or name i 0) 192) ≡ false
    → after_character f (drop i name) ≡ f (drop i name)
unfolding after_character
begin_step f name i l e = rw (drop_more name i 0 l, e) refl

pub middle_end : (f : List ℕ → Bool) (name : List ℕ) (i : ℕ) → i ≡ length name → after_character f (drop i name) ≡ f (drop i name)
unfolding after_character
middle_end f name i e = rw (drop_all i name (omega arith)) refl

byte_step : (p : ℕ) (f : List ℕ → Bool) (name : List ℕ) (i : ℕ) → i < length name → one_byte p f (drop i name)
    ≡ ((upper p == upper (get_or name i 0)) && f (drop (i + 1) name))
unfolding one_byte
byte_step p f name i l = rw (drop_more name i 0 l) refl

-- ---- the pattern's end, and patterns that accept all

empty_matches : (cs : List ℕ) → matches [] cs ≡ (length cs == 0)
unfolding matches
empty_matches [] = refl
empty_matches (c ∷ cs) = grind arith

nothing_left : (name : List ℕ) (i : ℕ) → i ≤ length name → matches [] (drop i name) ≡ (i == length name)
nothing_left name i l = empty_matches (drop i name) ∙ (let e = length-drop i name in grind (arith, nat_tests))

-- `*` alone accepts each name
any_name : (name : List ℕ) → any_tail (matches []) name ≡ true
unfolding any_tail matches
any_name [] = refl
any_name (c ∷ cs) = let h = any_name cs in grind (arith, common_steps)

star_accepts : (p : ℕ) (name : List ℕ) → (p == 42) ≡ true → accepts (p ∷ []) name ≡ true
unfolding accepts matches
star_accepts p name e = rw e (any_name name)

none_accepts : (name : List ℕ) → accepts [] name ≡ true
unfolding accepts
none_accepts name = refl

pub short_accepts : (pattern name : List ℕ) → length pattern < 1 → accepts pattern name ≡ true
short_accepts [] name l = none_accepts name
short_accepts (p ∷ ps) name l = absurd (omega arith)

pub star_only : (pattern name : List ℕ) → 1 ≤ length pattern → length pattern < 2 → (get_or pattern 0 0 == 42) ≡ true
    → accepts pattern name ≡ true
star_only [] name l m e = absurd (omega arith)
star_only (p ∷ []) name l m e = star_accepts p name e
star_only (p ∷ q ∷ qs) name l m e = absurd (omega arith)

pub accepts_filled : (pattern name : List ℕ) → 0 < length pattern → accepts pattern name ≡ matches pattern name
unfolding accepts
accepts_filled [] name l = absurd (omega arith)
accepts_filled (p ∷ ps) name l = refl

-- ---- any tail of a name

tail_here : (f : List ℕ → Bool) (xs : List ℕ) → f xs ≡ true → any_tail f xs ≡ true
unfolding any_tail
tail_here f [] e = e
tail_here f (x ∷ xs) e = rw e refl

tail_later : (f : List ℕ → Bool) (x : ℕ) (xs : List ℕ) → any_tail f xs ≡ true → any_tail f (x ∷ xs) ≡ true
unfolding any_tail
tail_later f x xs e = grind (arith, common_steps)

same_tails : (f g : List ℕ → Bool) → ((xs : List ℕ) → f xs ≡ g xs) → (xs : List ℕ) → any_tail f xs ≡ any_tail g xs
unfolding any_tail
same_tails f g h [] = h []
same_tails f g h (x ∷ xs) = rw (h (x ∷ xs), same_tails f g h xs) refl

either_tail : (a b c : Bool) → (a ≡ true → c ≡ true) → (b ≡ true → c ≡ true) → (a || b) ≡ true → c ≡ true
either_tail true b c f g e = f refl
either_tail false b c f g e = g e

-- a `*` behind a `*` takes nothing that the first doesn't
tail_of_tail : (f : List ℕ → Bool) (xs : List ℕ) → any_tail (any_tail f) xs ≡ true → any_tail f xs ≡ true
unfolding any_tail
tail_of_tail f [] e = e
tail_of_tail f (x ∷ xs) e = either_tail (any_tail f (x ∷ xs)) (any_tail (any_tail f) xs) (any_tail f (x ∷ xs)) (λ h. h)
    (λ h. tail_later f x xs (tail_of_tail f xs h)) e

-- ---- a character that is tried at later places leads further

byte_there : (p : ℕ) (f : List ℕ → Bool) (x : ℕ) (xs : List ℕ) → one_byte p f (x ∷ xs) ≡ true → f xs ≡ true
unfolding one_byte
byte_there p f x xs e = grind (arith, common_steps)

byte_nowhere : (p : ℕ) (f : List ℕ → Bool) → any_tail (one_byte p f) [] ≡ false
unfolding any_tail one_byte
byte_nowhere p f = refl

any_split : (f : List ℕ → Bool) (x : ℕ) (xs : List ℕ) → any_tail f (x ∷ xs) ≡ (f (x ∷ xs) || any_tail f xs)
unfolding any_tail
any_split f x xs = refl

byte_later : (p : ℕ) (f : List ℕ → Bool) (x : ℕ) (xs : List ℕ) → any_tail (one_byte p f) (x ∷ xs) ≡ true → any_tail f xs ≡ true
byte_later p f x [] e = either_tail (one_byte p f (x ∷ [])) (any_tail (one_byte p f) []) (any_tail f [])
    (λ h. tail_here f [] (byte_there p f x [] h)) (λ h. absurd (let n = byte_nowhere p f in cc)) (sym (any_split (one_byte p f) x []) ∙ e)
byte_later p f x (y ∷ ys) e = either_tail (one_byte p f (x ∷ y ∷ ys)) (any_tail (one_byte p f) (y ∷ ys)) (any_tail f (y ∷ ys))
    (λ h. tail_here f (y ∷ ys) (byte_there p f x (y ∷ ys) h)) (λ h. tail_later f y ys (byte_later p f y ys h))
    (sym (any_split (one_byte p f) x (y ∷ ys)) ∙ e)

character_there : (f : List ℕ → Bool) (x : ℕ) (xs : List ℕ) → one_character f (x ∷ xs) ≡ after_character f xs
unfolding one_character
character_there f x xs = refl

character_nowhere : (f : List ℕ → Bool) → any_tail (one_character f) [] ≡ false
unfolding any_tail one_character
character_nowhere f = refl

after_is : (f : List ℕ → Bool) (x : ℕ) (xs : List ℕ) (b : Bool) → (nat_le 128 x && nat_lt x 192) ≡ b
    → after_character f (x ∷ xs) ≡ (if b then after_character f xs else f (x ∷ xs))
unfolding after_character
after_is f x xs b e = rw e refl

after_end : (f : List ℕ → Bool) → after_character f [] ≡ f []
unfolding after_character
after_end f = refl

-- behind the character all that is behind it here
after_grows : (f : List ℕ → Bool) (xs : List ℕ) → after_character f xs ≡ true → after_character (any_tail f) xs ≡ true
after_grows f [] e = after_end (any_tail f) ∙ tail_here f [] (sym (after_end f) ∙ e)
after_grows f (x ∷ xs) e = by (nat_le 128 x && nat_lt x 192) refl (after_grows f xs)
  where
    by : (b : Bool) → (nat_le 128 x && nat_lt x 192) ≡ b → (after_character f xs ≡ true → after_character (any_tail f) xs ≡ true)
        → after_character (any_tail f) (x ∷ xs) ≡ true
    by true m h = after_is (any_tail f) x xs true m ∙ h (sym (after_is f x xs true m) ∙ e)
    by false m h = after_is (any_tail f) x xs false m ∙ tail_here f (x ∷ xs) (sym (after_is f x xs false m) ∙ e)

after_among : (f : List ℕ → Bool) (xs : List ℕ) → after_character (any_tail f) xs ≡ true → any_tail f xs ≡ true
after_among f [] e = sym (after_end (any_tail f)) ∙ e
after_among f (x ∷ xs) e = by (nat_le 128 x && nat_lt x 192) refl (after_among f xs)
  where
    by : (b : Bool) → (nat_le 128 x && nat_lt x 192) ≡ b → (after_character (any_tail f) xs ≡ true → any_tail f xs ≡ true)
        → any_tail f (x ∷ xs) ≡ true
    by true m h = tail_later f x xs (h (sym (after_is (any_tail f) x xs true m) ∙ e))
    by false m h = sym (after_is (any_tail f) x xs false m) ∙ e

after_later : (f : List ℕ → Bool) (x : ℕ) (xs : List ℕ) → after_character (any_tail f) xs ≡ true
    → after_character (any_tail f) (x ∷ xs) ≡ true
after_later f x xs e = by (nat_le 128 x && nat_lt x 192) refl
  where
    by : (b : Bool) → (nat_le 128 x && nat_lt x 192) ≡ b → after_character (any_tail f) (x ∷ xs) ≡ true
    by true m = after_is (any_tail f) x xs true m ∙ e
    by false m = after_is (any_tail f) x xs false m ∙ tail_later f x xs (after_among f xs e)

character_later : (f : List ℕ → Bool) (x : ℕ) (xs : List ℕ) → any_tail (one_character f) (x ∷ xs) ≡ true
    → after_character (any_tail f) xs ≡ true
character_later f x [] e = either_tail (one_character f (x ∷ [])) (any_tail (one_character f) []) (after_character (any_tail f) [])
    (λ h. after_grows f [] (sym (character_there f x []) ∙ h)) (λ h. absurd (let n = character_nowhere f in cc))
    (sym (any_split (one_character f) x []) ∙ e)
character_later f x (y ∷ ys) e = either_tail (one_character f (x ∷ y ∷ ys)) (any_tail (one_character f) (y ∷ ys))
    (after_character (any_tail f) (y ∷ ys))
    (λ h. after_grows f (y ∷ ys) (sym (character_there f x (y ∷ ys)) ∙ h)) (λ h. after_later f y ys (character_later f y ys h))
    (sym (any_split (one_character f) x (y ∷ ys)) ∙ e)

-- ---- a character of the pattern

star_is : (p : ℕ) (ps xs : List ℕ) → (p == 42) ≡ true → matches (p ∷ ps) xs ≡ any_tail (matches ps) xs
unfolding matches
star_is p ps xs e = rw e refl

character_is : (p : ℕ) (ps xs : List ℕ) → (p == 42) ≡ false → (p == 63) ≡ true → matches (p ∷ ps) xs ≡ one_character (matches ps) xs
unfolding matches
character_is p ps xs a e = rw (a, e) refl

byte_is : (p : ℕ) (ps xs : List ℕ) → (p == 42) ≡ false → (p == 63) ≡ false → matches (p ∷ ps) xs ≡ one_byte p (matches ps) xs
unfolding matches
byte_is p ps xs a e = rw (a, e) refl

pub question_behind : (p : ℕ) (name : List ℕ) (at next : ℕ) → (p == 42) ≡ false → (p == 63) ≡ true → at < length name
    → ((f : List ℕ → Bool) → after_character f (drop (at + 1) name) ≡ f (drop next name)) → LeadsBehind p name at next
question_behind p name at next a q l h = record {
  here = λ ps. character_is p ps (drop at name) a q ∙ (character_step (matches ps) name at l ∙ h (matches ps));
  later = λ ps e. sym (h (any_tail (matches ps))) ∙ character_later (matches ps) (get_or name at 0) (drop (at + 1) name)
      (ap (any_tail (one_character (matches ps))) (sym (drop_more name at 0 l))
      ∙ (sym (same_tails (matches (p ∷ ps)) (one_character (matches ps)) (λ xs. character_is p ps xs a q) (drop at name)) ∙ e));
}

pub letter_behind : (p : ℕ) (name : List ℕ) (at : ℕ) → (p == 42) ≡ false → (p == 63) ≡ false → at < length name
    → (upper p == upper (get_or name at 0)) ≡ true → LeadsBehind p name at (at + 1)
letter_behind p name at a q l s = record {
  here = λ ps. byte_is p ps (drop at name) a q ∙ (byte_step p (matches ps) name at l ∙ rw s refl);
  later = λ ps e. byte_later p (matches ps) (get_or name at 0) (drop (at + 1) name)
      (ap (any_tail (one_byte p (matches ps))) (sym (drop_more name at 0 l))
      ∙ (sym (same_tails (matches (p ∷ ps)) (one_byte p (matches ps)) (λ xs. byte_is p ps xs a q) (drop at name)) ∙ e));
}

pub letter_fails : (p : ℕ) (name : List ℕ) (at : ℕ) → (p == 42) ≡ false → (p == 63) ≡ false → at < length name
    → (upper p == upper (get_or name at 0)) ≡ false → (ps : List ℕ) → matches (p ∷ ps) (drop at name) ≡ false
letter_fails p name at a q l s ps = byte_is p ps (drop at name) a q ∙ (byte_step p (matches ps) name at l ∙ rw s refl)

none_fits : (p : ℕ) (ps : List ℕ) → (p == 42) ≡ false → (b : Bool) → (p == 63) ≡ b → matches (p ∷ ps) [] ≡ false
unfolding matches one_character one_byte
none_fits p ps a true q = rw (a, q) refl
none_fits p ps a false q = rw (a, q) refl

-- ---- the walk

pub starts : (pattern name : List ℕ) → IsUnderWay pattern name 0 0 0 0
unfolding may_take_more
starts pattern name = record {
  in_pattern = (omega arith, omega arith);
  in_name = (omega arith, omega arith);
  whole = or_none (matches pattern name);
  ahead = λ e. absurd (let h : false ≡ true = e in cc);
}
  where
    or_none : (b : Bool) → b ≡ (b || false)
    or_none true = refl
    or_none false = refl

takes_more : (behind from : ℕ) (pattern name : List ℕ) → (behind == 0) ≡ false → may_take_more behind from pattern name
    ≡ any_tail (matches (drop behind pattern)) (drop (from + 1) name)
unfolding may_take_more
takes_more behind from pattern name e = rw e refl

takes_none : (behind from : ℕ) (pattern name : List ℕ) → (behind == 0) ≡ true → may_take_more behind from pattern name ≡ false
unfolding may_take_more
takes_none behind from pattern name e = rw e refl

absorbed : (a b c : Bool) → (b ≡ true → a ≡ true) → a ≡ c → (a || b) ≡ c
absorbed true b c h e = e
absorbed false false c h e = e
absorbed false true c h e = sym (h refl) ∙ e

or_right : (a b c : Bool) → c ≡ (a || b) → b ≡ true → c ≡ true
or_right a b c e h = grind (arith, common_steps)

tails_split : (f : List ℕ → Bool) (name : List ℕ) (j : ℕ) → j ≤ length name → any_tail f (drop j name)
    ≡ (f (drop j name) || any_tail f (drop (j + 1) name))
tails_split f name j l = by (nat_lt j (length name)) refl
  where
    twice : (b : Bool) → b ≡ (b || b)
    twice true = refl
    twice false = refl

    by : (b : Bool) → nat_lt j (length name) ≡ b → any_tail f (drop j name) ≡ (f (drop j name) || any_tail f (drop (j + 1) name))
    by true e = any_step f name j (grind (arith, nat_tests))
    by false e = let n : j ≡ length name = grind (arith, nat_tests) in
        any_end f name j n ∙ (twice (f (drop j name)) ∙ ap (λ (b : Bool). f (drop j name) || b)
        (ap f (drop_all j name (omega arith) ∙ sym (drop_all (j + 1) name (omega arith)))
        ∙ sym (any_end_past f name (j + 1) (omega arith))))

-- a walk that begins anew behind a `*`
anew : (pattern name : List ℕ) (i j : ℕ) → 0 < i → i ≤ length pattern → j ≤ length name
    → matches pattern name ≡ any_tail (matches (drop i pattern)) (drop j name) → IsUnderWay pattern name i j i j
anew pattern name i j z l m e = record {
  in_pattern = (l, l);
  in_name = (omega arith, m);
  whole = e ∙ (split ∙ ap (λ b. matches (drop i pattern) (drop j name) || b) (sym more));
  ahead = λ h. or_right (matches (drop i pattern) (drop j name)) (any_tail (matches (drop i pattern)) (drop (j + 1) name))
      (any_tail (matches (drop i pattern)) (drop j name)) split (sym more ∙ h);
}
  where
    more : may_take_more i j pattern name ≡ any_tail (matches (drop i pattern)) (drop (j + 1) name)
    more = takes_more i j pattern name (grind (arith, nat_tests))

    split : any_tail (matches (drop i pattern)) (drop j name)
        ≡ (matches (drop i pattern) (drop j name) || any_tail (matches (drop i pattern)) (drop (j + 1) name))
    split = tails_split (matches (drop i pattern)) name j m

star_stands : (pattern name : List ℕ) (i j behind from : ℕ) → IsUnderWay pattern name i j behind from → i < length pattern
    → (get_or pattern i 0 == 42) ≡ true → IsUnderWay pattern name (i + 1) j (i + 1) j
star_stands pattern name i j behind from w l e = anew pattern name (i + 1) j (omega arith) (omega arith) w.in_name.1
    (w.whole ∙ absorbed (matches (drop i pattern) (drop j name)) (may_take_more behind from pattern name)
    (any_tail (matches (drop (i + 1) pattern)) (drop j name))
    (λ h. is (drop j name) ∙ tail_of_tail (matches (drop (i + 1) pattern)) (drop j name)
    (sym (same_tails (matches (drop i pattern)) (any_tail (matches (drop (i + 1) pattern))) is (drop j name)) ∙ w.ahead h))
    (is (drop j name)))
  where
    is : (xs : List ℕ) → matches (drop i pattern) xs ≡ any_tail (matches (drop (i + 1) pattern)) xs
    is xs = ap (λ (qs : List ℕ). matches qs xs) (drop_more pattern i 0 l) ∙ star_is (get_or pattern i 0) (drop (i + 1) pattern) xs e

onward_stands : (pattern name : List ℕ) (i j behind from next : ℕ) → IsUnderWay pattern name i j behind from → i < length pattern
    → j < next → next ≤ length name → LeadsBehind (get_or pattern i 0) name j next → IsUnderWay pattern name (i + 1) next behind from
onward_stands pattern name i j behind from next w l a b h = record {
  in_pattern = (omega arith, w.in_pattern.1);
  in_name = (let o = w.in_name.0 in omega arith, b);
  whole = w.whole ∙ ap (λ (q : Bool). q || may_take_more behind from pattern name)
      (ap (λ (qs : List ℕ). matches qs (drop j name)) more ∙ h.here (drop (i + 1) pattern));
  ahead = λ t. h.later (drop (i + 1) pattern)
      (ap (λ (qs : List ℕ). any_tail (matches qs) (drop j name)) (sym more) ∙ w.ahead t);
}
  where
    more : drop i pattern ≡ get_or pattern i 0 ∷ drop (i + 1) pattern
    more = drop_more pattern i 0 l

back_stands : (pattern name : List ℕ) (i j behind from : ℕ) → IsUnderWay pattern name i j behind from → (behind == 0) ≡ false
    → j < length name → matches (drop i pattern) (drop j name) ≡ false → IsUnderWay pattern name behind (from + 1) behind (from + 1)
back_stands pattern name i j behind from w z l e = anew pattern name behind (from + 1) (grind (arith, nat_tests)) w.in_pattern.1
    (let o = w.in_name.0 in omega arith)
    (w.whole ∙ (ap (λ (q : Bool). q || may_take_more behind from pattern name) e ∙ takes_more behind from pattern name z))

none_left : (pattern name : List ℕ) (i j behind from : ℕ) → IsUnderWay pattern name i j behind from → (behind == 0) ≡ true
    → matches (drop i pattern) (drop j name) ≡ false → matches pattern name ≡ false
none_left pattern name i j behind from w z e = w.whole ∙ (ap (λ (q : Bool). q || may_take_more behind from pattern name) e
    ∙ takes_none behind from pattern name z)

name_spent : (pattern name : List ℕ) (i j behind from : ℕ) → IsUnderWay pattern name i j behind from → j ≡ length name
    → matches (drop i pattern) (drop j name) ≡ false → matches pattern name ≡ false
name_spent pattern name i j behind from w z e = w.whole ∙ absorbed (matches (drop i pattern) (drop j name))
    (may_take_more behind from pattern name) false
    (λ h. sym (any_end (matches (drop i pattern)) name j z) ∙ w.ahead h) e

at_end : (name : List ℕ) (j : ℕ) (b : Bool) → j ≤ length name → (j == length name) ≡ b → matches [] (drop j name) ≡ b
at_end name j b l e = nothing_left name j l ∙ e

pub both_spent : (pattern name : List ℕ) (i j behind from : ℕ) → IsUnderWay pattern name i j behind from → i ≡ length pattern
    → j ≡ length name → matches pattern name ≡ true
both_spent pattern name i j behind from w p n =
    let e : (j == length name) ≡ true = grind (arith, nat_tests) in
    w.whole ∙ ap (λ (q : Bool). q || may_take_more behind from pattern name)
    (ap (λ (qs : List ℕ). matches qs (drop j name)) (drop_all i pattern (omega arith)) ∙ at_end name j true w.in_name.1 e)

pub pattern_spent : (pattern name : List ℕ) (i j : ℕ) → i ≡ length pattern → j < length name
    → matches (drop i pattern) (drop j name) ≡ false
pattern_spent pattern name i j p n =
    let e : (j == length name) ≡ false = grind (arith, nat_tests) in
    ap (λ (qs : List ℕ). matches qs (drop j name)) (drop_all i pattern (omega arith)) ∙ at_end name j false (omega arith) e

misses : (pattern name : List ℕ) (i j : ℕ) → i < length pattern
    → ((ps : List ℕ) → matches (get_or pattern i 0 ∷ ps) (drop j name) ≡ false) → matches (drop i pattern) (drop j name) ≡ false
misses pattern name i j l h = ap (λ (qs : List ℕ). matches qs (drop j name)) (drop_more pattern i 0 l) ∙ h (drop (i + 1) pattern)

pub end_misses : (pattern name : List ℕ) (i j : ℕ) → i < length pattern → (get_or pattern i 0 == 42) ≡ false → j ≡ length name
    → matches (drop i pattern) (drop j name) ≡ false
end_misses pattern name i j l a n = misses pattern name i j l (λ ps. ap (matches (get_or pattern i 0 ∷ ps)) (drop_all j name (omega arith))
    ∙ none_fits (get_or pattern i 0) ps a (get_or pattern i 0 == 63) refl)

-- ---- the steps that are left

less_by_one : (a b c d : ℕ) → a ≤ b → c < d → a + c < b + d
less_by_one a b c d l m = omega arith

fewer_onward : (p n i from at : ℕ) → i < p → from ≤ at → (n - at) * (p + 1) + (p - (i + 1)) < (n - from) * (p + 1) + (p - i)
fewer_onward p n i from at l o = less_by_one ((n - at) * (p + 1)) ((n - from) * (p + 1)) (p - (i + 1)) (p - i)
    (mul-le-mul_right (p + 1) (omega arith)) (omega arith)

less_by_all : (a b c d m : ℕ) → b ≡ a + 1 * m → c < m → a + c < b + d
less_by_all a b c d m e l = omega arith

fewer_back : (p n i from behind : ℕ) → from < n
    → (n - (from + 1)) * (p + 1) + (p - behind) < (n - from) * (p + 1) + (p - i)
fewer_back p n i from behind o = less_by_all ((n - (from + 1)) * (p + 1)) ((n - from) * (p + 1)) (p - behind) (p - i) (p + 1)
    (ap (λ (k : ℕ). k * (p + 1)) one ∙ add-mul (n - (from + 1)) 1 (p + 1)) (omega arith)
  where
    one : n - from ≡ n - (from + 1) + 1
    one = omega arith

-- ---- the steps of the walk, as they are taken

pub walk_ends : (pattern name : List ℕ) (i j behind from : ℕ) → IsUnderWay pattern name i j behind from
    → matches (drop i pattern) (drop j name) ≡ false → (behind == 0 || j == length name) ≡ true → matches pattern name ≡ false
walk_ends pattern name i j behind from w e t = by (behind == 0) refl
  where
    by : (b : Bool) → (behind == 0) ≡ b → matches pattern name ≡ false
    by true z = none_left pattern name i j behind from w z e
    by false z = name_spent pattern name i j behind from w (grind (arith, common_steps, nat_tests)) e

pub walk_goes_back : (pattern name : List ℕ) (i j behind from : ℕ) → IsUnderWay pattern name i j behind from
    → matches (drop i pattern) (drop j name) ≡ false → (behind == 0 || j == length name) ≡ false
    → IsUnderWay pattern name behind (from + 1) behind (from + 1)
    × (turns pattern name behind (from + 1) < turns pattern name i from)
walk_goes_back pattern name i j behind from w e t =
    let z : (behind == 0) ≡ false = grind (arith, common_steps) in
    let n : (j == length name) ≡ false = grind (arith, common_steps) in
    let l : j < length name = let r = w.in_name.1 in grind (arith, nat_tests) in (
      back_stands pattern name i j behind from w z l e,
      fewer_back (length pattern) (length name) i from behind (let o = w.in_name.0 in omega arith),
    )

pub walk_goes_on : (pattern name : List ℕ) (i j behind from next : ℕ) → IsUnderWay pattern name i j behind from → i < length pattern
    → (j < next) × (next ≤ length name) × LeadsBehind (get_or pattern i 0) name j next
    → IsUnderWay pattern name (i + 1) next behind from × (turns pattern name (i + 1) from < turns pattern name i from)
walk_goes_on pattern name i j behind from next w l h = (
  onward_stands pattern name i j behind from next w l h.0 h.1 h.2,
  fewer_onward (length pattern) (length name) i from from l (omega arith),
)

pub walk_meets_star : (pattern name : List ℕ) (i j behind from : ℕ) → IsUnderWay pattern name i j behind from → i < length pattern
    → (get_or pattern i 0 == 42) ≡ true
    → IsUnderWay pattern name (i + 1) j (i + 1) j × (turns pattern name (i + 1) j < turns pattern name i from)
walk_meets_star pattern name i j behind from w l e = (
  star_stands pattern name i j behind from w l e,
  fewer_onward (length pattern) (length name) i from j l w.in_name.0,
)
