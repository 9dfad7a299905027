-- What the greatest key that isn't above a byte tells of it, behind changes of keys.
use Rattle.std.proofs.Common.{◌≡◌, ℕ, zero, suc, ◌+◌, ◌<◌, ◌≤◌, arith, ◌⊎◌, inl, inr, sym, ◌∙◌, ap, refl, subst, Option, Some, None}
use Rattle.std.proofs.Common.{[], ◌^◌, ◌-◌, min, Bool, true, false, if◌then◌else◌, IsSome, nat_le, ◌==◌, ◌||◌}
use Rattle.std.proofs.lemmas.Grind.{common_steps}
use Rattle.std.specs.Ordering.{nat_cmp, is_eq}
use Rattle.std.specs.BTreeMap.{BTreeMap, get, UpdatesBy}
use Rattle.std.proofs.lemmas.Bool.Decides.{nat_tests}
use Rattle.base_lists.specs.declared.range_index.keys.Reach.{Reach}
use Rattle.base_lists.specs.range_index.Tops.{look, range_told, top_in, is_in, Covers, Forgets}

-- ---- what one key tells

pub told_near : (r : Reach) (f : ℕ) → ((r.more == 4294967295) || nat_le f r.more) ≡ true → range_told r f ≡ r.number
told_near r f e = ap (λ (b : Bool). if b then r.number else 0) e

pub told_far : (r : Reach) (f : ℕ) → ((r.more == 4294967295) || nat_le f r.more) ≡ false → range_told r f ≡ 0
told_far r f e = ap (λ (b : Bool). if b then r.number else 0) e

at_itself : (m : ℕ) → ((m == 4294967295) || nat_le 0 m) ≡ true
at_itself m = grind arith

pub told_itself : (r : Reach) → range_told r 0 ≡ r.number
told_itself r = told_near r 0 (at_itself r.more)

nearer : (m f g : ℕ) → f ≤ g → ((m == 4294967295) || nat_le g m) ≡ true → ((m == 4294967295) || nat_le f m) ≡ true
nearer m f g h e = grind arith

-- further on it tells the same, or nothing
told_less : (r : Reach) (f g : ℕ) → f ≤ g → (range_told r g ≡ range_told r f) ⊎ (range_told r g ≡ 0)
told_less r f g h = cases ((r.more == 4294967295) || nat_le g r.more) refl
  where
    cases : (b : Bool) → ((r.more == 4294967295) || nat_le g r.more) ≡ b → (range_told r g ≡ range_told r f) ⊎ (range_told r g ≡ 0)
    cases true e = inl (told_near r g e ∙ sym (told_near r f (nearer r.more f g h e)))
    cases false e = inr (told_far r g e)

told_any : (r : Reach) (f : ℕ) → (range_told r f ≡ r.number) ⊎ (range_told r f ≡ 0)
told_any r f = elim (told_less r 0 f (omega arith)) [ inl e ↦ inl (e ∙ told_itself r) | inr e ↦ inr e ]

pub told_none : (r : Reach) → r.number ≡ 0 → (f : ℕ) → range_told r f ≡ 0
told_none r z f = elim (told_any r f) [ inl e ↦ e ∙ z | inr e ↦ e ]

-- ---- what the keys tell

abbrev here : Option Reach → ℕ → ℕ → ℕ
here (Some r) far below = range_told r far
here None far below = below

next : (keys : ℕ → Option Reach) (x f : ℕ) → look keys (suc x) f ≡ here (keys (suc x)) f (look keys x (suc f))
unfolding look
next keys x f = cases (keys (suc x)) (look keys x (suc f))
  where
    cases : (o : Option Reach) (n : ℕ) → (elim o as (λ _. ℕ) [ Some r ↦ range_told r f | None ↦ n ]) ≡ here o f n
    cases None n = refl
    cases (Some r) n = refl

first : (keys : ℕ → Option Reach) (f : ℕ) → look keys 0 f ≡ here (keys 0) f 0
unfolding look
first keys f = cases (keys 0)
  where
    cases : (o : Option Reach) → (elim o as (λ _. ℕ) [ Some r ↦ range_told r f | None ↦ 0 ]) ≡ here o f 0
    cases None = refl
    cases (Some r) = refl

-- at a key
pub at_key : (keys : ℕ → Option Reach) (x f : ℕ) (r : Reach) → keys x ≡ Some r → look keys x f ≡ range_told r f
at_key keys zero f r e = first keys f ∙ ap (λ o. here o f 0) e
at_key keys (suc x) f r e = next keys x f ∙ ap (λ o. here o f (look keys x (suc f))) e

below_or_last : (a x : ℕ) → a ≤ suc x → (a ≤ x) ⊎ (a ≡ suc x)
below_or_last a x h = grind arith

-- up to the next key, so many bytes further on
pub flat : (keys : ℕ → Option Reach) (a x d f : ℕ) → x ≡ a + d → ((q : ℕ) → a < q → q ≤ x → keys q ≡ None)
    → look keys x f ≡ look keys a (f + d)
flat keys a x zero f e none =
    let p : x ≡ a = omega arith in
    let s : f ≡ f + 0 = omega arith in
    ap (λ n. look keys n f) p ∙ ap (λ n. look keys a n) s
flat keys a zero (suc d) f e none = absurd (omega arith)
flat keys a (suc x) (suc d) f e none =
    let s : suc f + d ≡ f + suc d = omega arith in
    next keys x f ∙ ap (λ o. here o f (look keys x (suc f))) (none (suc x) (omega arith) (omega arith))
    ∙ flat keys a x d (suc f) (omega arith) (λ q b c. none q b (omega arith)) ∙ ap (λ n. look keys a n) s

pub ahead : (a x : ℕ) → a ≤ x → x ≡ a + (x - a)
ahead a x h = omega arith

-- at the greatest key that isn't above a byte
pub floored : (keys : ℕ → Option Reach) (k x f : ℕ) (r : Reach) → keys k ≡ Some r → k ≤ x
    → ((q : ℕ) → k < q → q ≤ x → keys q ≡ None) → look keys x f ≡ range_told r (f + (x - k))
floored keys k x f r e h none = flat keys k x (x - k) f (ahead k x h) none ∙ at_key keys k (f + (x - k)) r e

-- below every key
pub empty : (keys : ℕ → Option Reach) (x f : ℕ) → ((q : ℕ) → q ≤ x → keys q ≡ None) → look keys x f ≡ 0
empty keys zero f none = first keys f ∙ ap (λ o. here o f 0) (none 0 (omega arith))
empty keys (suc x) f none = next keys x f ∙ ap (λ o. here o f (look keys x (suc f))) (none (suc x) (omega arith))
    ∙ empty keys x (suc f) (λ q h. none q (omega arith))

-- the same keys up to a byte
pub front : (keys more : ℕ → Option Reach) (x f : ℕ) → ((q : ℕ) → q ≤ x → more q ≡ keys q) → look more x f ≡ look keys x f
front keys more zero f same = first more f ∙ ap (λ o. here o f 0) (same 0 (omega arith)) ∙ sym (first keys f)
front keys more (suc x) f same =
    next more x f ∙ (λ t. here (same (suc x) (omega arith) t) f (front keys more x (suc f) (λ q l. same q (omega arith)) t))
    ∙ sym (next keys x f)

-- the same keys behind a byte, of which the same is told
pub tail : (keys more : ℕ → Option Reach) (a x f : ℕ) → a ≤ x → ((q : ℕ) → a < q → q ≤ x → more q ≡ keys q)
    → ((g : ℕ) → look more a g ≡ look keys a g) → look more x f ≡ look keys x f
tail keys more a zero f h same e =
    (let z : a ≡ 0 = omega arith in ap (λ n. look more n f) (sym z) ∙ e f ∙ ap (λ n. look keys n f) z)
tail keys more a (suc x) f h same e =
    elim (below_or_last a x h) [
      | inl l ↦ next more x f ∙ (λ t. here (same (suc x) (omega arith) (omega arith) t) f
          (tail keys more a x (suc f) l (λ q b c. same q b (omega arith)) e t)) ∙ sym (next keys x f)
      | inr z ↦ ap (λ n. look more n f) (sym z) ∙ e f ∙ ap (λ n. look keys n f) z
    ]

three : (x a : ℕ) → (x < a) ⊎ ((x ≡ a) ⊎ (a < x))
three x a = grind arith

-- a key that tells what was told already
pub divided : (keys more : ℕ → Option Reach) (a : ℕ) (r : Reach) → more a ≡ Some r → ((f : ℕ) → range_told r f ≡ look keys a f)
    → ((q : ℕ) → (q ≡ a → ⊥) → more q ≡ keys q) → (x : ℕ) → top_in more x ≡ top_in keys x
divided keys more a r is tells others x =
    elim (three x a) [
      | inl l ↦ front keys more x 0 (λ q b. others q (λ e. omega arith))
      | inr (inl e) ↦ tail keys more a x 0 (omega arith) (λ q b c. others q (λ k. omega arith)) (λ f. at_key more a f r is ∙ tells f)
      | inr (inr l) ↦ tail keys more a x 0 (omega arith) (λ q b c. others q (λ k. omega arith)) (λ f. at_key more a f r is ∙ tells f)
    ]

pub none_if : (o : Option Reach) → (IsSome o → ⊥) → o ≡ None
none_if None h = refl
none_if (Some v) h = absurd (h refl)

pub not_both : (o : Option Reach) → IsSome o → o ≡ None → ⊥
not_both o s e = is_none (subst (λ z. IsSome z) e s)
  where
    is_none : IsSome {T = Reach} None → ⊥
    is_none e = grind (arith, e)

other : (k q : ℕ) → (q ≡ k → ⊥) → is_eq (nat_cmp k q) ≡ false
other k q h = grind (arith, nat_tests)

-- what each key tells behind a change of one
pub at_new : (m n : BTreeMap ℕ Reach) (k : ℕ) (w : Option Reach) → UpdatesBy nat_cmp (nat_cmp k) m n w → get nat_cmp n k ≡ w
at_new m n k w u = u.1

pub at_others : (m n : BTreeMap ℕ Reach) (k : ℕ) (w : Option Reach) → UpdatesBy nat_cmp (nat_cmp k) m n w → (q : ℕ)
    → (q ≡ k → ⊥) → get nat_cmp n q ≡ get nat_cmp m q
at_others m n k w u q h = u.2 q (other k q h)

-- no entries, no keys
pub no_keys : (m : BTreeMap ℕ Reach) → m.entries ≡ [] → (q : ℕ) → get nat_cmp m q ≡ None
no_keys m e q = grind (arith, common_steps, e)

-- ---- further on the same is told, or nothing

here_less : (o : Option Reach) (f g m n : ℕ) → f ≤ g → (m ≡ n) ⊎ (m ≡ 0) → (here o g m ≡ here o f n) ⊎ (here o g m ≡ 0)
here_less None f g m n h b = b
here_less (Some r) f g m n h b = told_less r f g h

less : (keys : ℕ → Option Reach) (a f g : ℕ) → f ≤ g → (look keys a g ≡ look keys a f) ⊎ (look keys a g ≡ 0)
less keys zero f g h =
    elim (here_less (keys 0) f g 0 0 h (inl refl)) [
      | inl e ↦ inl (first keys g ∙ e ∙ sym (first keys f))
      | inr e ↦ inr (first keys g ∙ e)
    ]
less keys (suc x) f g h =
    elim (here_less (keys (suc x)) f g (look keys x (suc g)) (look keys x (suc f)) h (less keys x (suc f) (suc g) (omega arith))) [
      | inl e ↦ inl (next keys x g ∙ e ∙ sym (next keys x f))
      | inr e ↦ inr (next keys x g ∙ e)
    ]

-- a byte that has no number, and those behind it up to the next key
quiet : (keys : ℕ → Option Reach) (a f : ℕ) → top_in keys a ≡ 0 → look keys a f ≡ 0
quiet keys a f e = elim (less keys a 0 f (omega arith)) [ inl s ↦ s ∙ e | inr z ↦ z ]

-- bytes up to the next key
pub spread : (keys : ℕ → Option Reach) (a x number : ℕ) → a ≤ x → ((q : ℕ) → a < q → q ≤ x → keys q ≡ None)
    → number ≡ top_in keys a → (top_in keys x ≡ number) ⊎ (top_in keys x ≡ 0)
spread keys a x number h none is =
    let e : look keys x 0 ≡ look keys a (0 + (x - a)) = flat keys a x (x - a) 0 (ahead a x h) none in
    elim (less keys a 0 (0 + (x - a)) (omega arith)) [ inl s ↦ inl (e ∙ s ∙ sym is) | inr z ↦ inr (e ∙ z) ]

-- ---- a range covers its bytes

-- behind the range
module _ (cut new : ℕ → Option Reach) (at size last : ℕ) (r : Reach) (is : new at ≡ Some r)
    (none : (q : ℕ) → at < q → q ≤ last → new q ≡ None) (inside : (x : ℕ) → x < at + size → x < 2 ^ 64 → x ≤ last)
    (fits : at + size < 2 ^ 64) (kept : new (at + size) ≡ cut (at + size)) where
  up_to : (q : ℕ) → q ≤ at + size → (q < at + size) ⊎ (q ≡ at + size)
  up_to q h = grind arith

  none_there : cut (at + size) ≡ None → (q : ℕ) → at < q → q ≤ at + size → new q ≡ None
  none_there e q a b =
      elim (up_to q b) [ inl l ↦ none q a (inside q l (omega arith)) | inr z ↦ ap (λ n. new n) z ∙ kept ∙ e ]

  pub behind_it : (o : Option Reach) → cut (at + size) ≡ o
      → (cut (at + size) ≡ None → (top_in cut (at + size) ≡ 0) × ((g : ℕ) → size ≤ g → range_told r g ≡ 0))
      → (f : ℕ) → look new (at + size) f ≡ look cut (at + size) f
  behind_it (Some u) e quits f = at_key new (at + size) f u (kept ∙ e) ∙ sym (at_key cut (at + size) f u e)
  behind_it None e quits f =
      flat new at (at + size) size f refl (none_there e) ∙ at_key new at (f + size) r is ∙ (quits e).1 (f + size) (omega arith)
      ∙ sym (quiet cut (at + size) f (quits e).0)

-- a key and all behind it up to the last byte of a range are gone but for the first, which tells its number
pub covered : (old cut new : ℕ → Option Reach) (at size number last : ℕ) (r : Reach) → 0 < size
    → ((x : ℕ) → top_in cut x ≡ top_in old x) → new at ≡ Some r → ((f : ℕ) → f < size → range_told r f ≡ number)
    → ((q : ℕ) → at < q → q ≤ last → new q ≡ None)
    → ((q : ℕ) → (q < at) ⊎ (last < q) → new q ≡ cut q) → ((x : ℕ) → x < at + size → x < 2 ^ 64 → x ≤ last)
    → (at + size < 2 ^ 64 → (last < at + size)
    × (cut (at + size) ≡ None → (top_in cut (at + size) ≡ 0) × ((g : ℕ) → size ≤ g → range_told r g ≡ 0)))
    → Covers (top_in old) (top_in new) at size number
covered old cut new at size number last r some same is own none others inside behind x fits =
    let case : (x < at) ⊎ (((at ≤ x) × (x < at + size)) ⊎ (at + size ≤ x)) = grind arith in
    elim case [
      | inl l ↦ (
          let e : top_in new x ≡ top_in old x = front cut new x 0 (λ q b. others q (inl (omega arith))) ∙ same x in
          let i : is_in at size x ≡ false = grind (arith, l) in
          e ∙ sym (not_in i number (top_in old x))
          )
      | inr (inl l) ↦ (
          let e : top_in new x ≡ number =
          floored new at x 0 r is l.0 (λ q a b. none q a (let k = inside x l.1 fits in omega arith))
          ∙ own (0 + (x - at)) (let a = l.0 in let b = l.1 in omega arith) in
          let i : is_in at size x ≡ true = grind (arith, l.0, l.1) in
          e ∙ sym (is_in_then i number (top_in old x))
          )
      | inr (inr l) ↦ (
          let there : at + size < 2 ^ 64 = omega arith in
          let b = behind there in
          let k : new (at + size) ≡ cut (at + size) = others (at + size) (inr b.0) in
          let e : top_in new x ≡ top_in old x =
          tail cut new (at + size) x 0 l (λ q m n. others q (inr (let z = b.0 in omega arith)))
          (behind_it cut new at size last r is none inside there k (cut (at + size)) refl b.1) ∙ same x in
          let i : is_in at size x ≡ false = grind (arith, l) in
          e ∙ sym (not_in i number (top_in old x))
          )
    ]
  where
    not_in : {b : Bool} → b ≡ false → (m n : ℕ) → (if b then m else n) ≡ n
    not_in e m n = ap (λ (b : Bool). if b then m else n) e

    is_in_then : {b : Bool} → b ≡ true → (m n : ℕ) → (if b then m else n) ≡ m
    is_in_then e m n = ap (λ (b : Bool). if b then m else n) e

-- the last byte of a range that isn't empty
pub last_of : (at size last : ℕ) → at < 2 ^ 64 → 0 < size → last ≡ min (at + (size - 1)) 18446744073709551615
    → (at ≤ last) × ((last < at + size) × ((x : ℕ) → x < at + size → x < 2 ^ 64 → x ≤ last))
last_of at size last fits some is = (grind (arith, common_steps), (grind (arith, common_steps), λ x a b. grind (arith, common_steps)))

-- ---- a range leaves

-- a key that goes, where the byte before it has no number
pub gone : (old new : ℕ → Option Reach) (at : ℕ) → new at ≡ None → ((q : ℕ) → (q ≡ at → ⊥) → new q ≡ old q)
    → (0 < at → top_in old (at - 1) ≡ 0) → (f : ℕ) → look new at f ≡ 0
gone old new zero none others h f = first new f ∙ ap (λ o. here o f 0) none
gone old new (suc x) none others h f = next new x f ∙ ap (λ o. here o f (look new x (suc f))) none
    ∙ front old new x (suc f) (λ q b. others q (λ e. omega arith))
    ∙ quiet old x (suc f) (ap (λ n. look old n 0) (let e : x ≡ suc x - 1 = omega arith in e) ∙ h (omega arith))

here_lost : (o : Option Reach) (f m n number : ℕ) → (m ≡ n) ⊎ ((n ≡ number) × (m ≡ 0))
    → (here o f m ≡ here o f n) ⊎ ((here o f n ≡ number) × (here o f m ≡ 0))
here_lost None f m n number b = b
here_lost (Some r) f m n number b = inl refl

module _ (old new : ℕ → Option Reach) (at number : ℕ) (r : Reach) (is : old at ≡ Some r) (own : r.number ≡ number)
    (none : (f : ℕ) → look new at f ≡ 0) (others : (q : ℕ) → (q ≡ at → ⊥) → new q ≡ old q) where
  lost_here : (f : ℕ) → (look new at f ≡ look old at f) ⊎ ((look old at f ≡ number) × (look new at f ≡ 0))
  lost_here f =
      elim (told_any r f) [
        | inl e ↦ inr (at_key old at f r is ∙ e ∙ own, none f)
        | inr e ↦ inl (none f ∙ sym (at_key old at f r is ∙ e))
      ]

  lost : (x f : ℕ) → at ≤ x → (look new x f ≡ look old x f) ⊎ ((look old x f ≡ number) × (look new x f ≡ 0))
  lost zero f h =
      let z : at ≡ 0 = omega arith in
      subst (λ n. (look new n f ≡ look old n f) ⊎ ((look old n f ≡ number) × (look new n f ≡ 0))) z (lost_here f)
  lost (suc x) f h =
      elim (below_or_last at x h) [
        | inl l ↦ (
            let k : new (suc x) ≡ old (suc x) = others (suc x) (λ e. omega arith) in
            let e : look new (suc x) f ≡ here (old (suc x)) f (look new x (suc f)) =
            next new x f ∙ ap (λ o. here o f (look new x (suc f))) k in
            elim (here_lost (old (suc x)) f (look new x (suc f)) (look old x (suc f)) number (lost x (suc f) l)) [
              | inl s ↦ inl (e ∙ s ∙ sym (next old x f))
              | inr s ↦ inr (next old x f ∙ s.0, e ∙ s.1)
            ]
            )
        | inr z ↦ subst (λ n. (look new n f ≡ look old n f) ⊎ ((look old n f ≡ number) × (look new n f ≡ 0))) z (lost_here f)
      ]

  -- what a key told is told no more
  pub forgot : Forgets (top_in old) (top_in new) number
  forgot x fits =
      let case : (x < at) ⊎ (at ≤ x) = grind arith in
      elim case [
        | inl l ↦ inl (front old new x 0 (λ q b. others q (λ e. omega arith)))
        | inr l ↦ lost x 0 l
      ]
