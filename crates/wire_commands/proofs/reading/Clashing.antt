-- Contexts met one by one, each name looked up among those before it, clash as the whole list does.
use Rattle.std.proofs.Common.{◌≡◌, ℕ, zero, suc, ◌+◌, ◌≤◌, Bool, true, false, not, ◌&&◌, ◌||◌, if◌then◌else◌, List, [], ◌∷◌}
use Rattle.std.proofs.Common.{length, drop, Option, Some, None, is_some, Bor, Ordering, refl, sym, ap, ◌∙◌, arith}
use Rattle.std.specs.Prelude.{◌==◌, nat_eq, cond, option_map}
use Rattle.std.specs.Cmp.Lexicographic.{slice_cmp, pointwise}
use Rattle.std.specs.Ordering.{nat_cmp}
use Rattle.std.specs.BTreeSet.{BTreeSet, contains, Updates}
use Rattle.std.proofs.lemmas.Grind.{common_steps}
use Rattle.std.proofs.lemmas.Bool.Decides.{nat_tests}
use Rattle.std.proofs.lemmas.Map.Text.{is_eq-slice_cmp}
use Rattle.spec_wire.specs.messages.Places.{number}
use Rattle.spec_wire.specs.messages.Chain.{is_badly_linked, piece}
use Rattle.spec_wire.specs.messages.CreateContexts.{CreateContext, context_in, context_fault, first_fault, request_due, request_contexts}
use Rattle.spec_wire.specs.messages.CreateContexts.{is_named, is_outside, dh2c}
use Rattle.spec_commands.specs.Items.{first_items, items_in}
use Rattle.spec_commands.specs.CommandOf.{contexts_in}
use Rattle.spec_commands.specs.Clashes.{has_named, has_twice, mixes_versions, clash, all_clash, clash_in, dhnq, dhnc}
use Rattle.wire_commands.specs.reading.Names as names

-- ---- one context that breaks nothing

pub first_is_long : (m : List ℕ) → first_fault request_due m ≡ None → 16 ≤ length m
unfolding first_fault
first_is_long m e = grind (arith, nat_tests)

pub first_is_linked : (m : List ℕ) → first_fault request_due m ≡ None → is_badly_linked m ≡ false
unfolding first_fault
first_is_linked m e = grind (arith, nat_tests)

piece_whole : (m : List ℕ) → first_fault request_due m ≡ None → context_fault request_due (piece m) ≡ None
unfolding first_fault
piece_whole m e = grind (arith, nat_tests)

whole_long : (p : List ℕ) → context_fault request_due p ≡ None → 16 ≤ length p
unfolding context_fault
whole_long p e = grind (arith, nat_tests)

whole_inside : (p : List ℕ) → context_fault request_due p ≡ None → is_outside p (number 2 p 4) (number 2 p 6) ≡ false
unfolding context_fault
whole_inside p e = grind (arith, nat_tests)

inside : (p : List ℕ) (at size : ℕ) → is_outside p at size ≡ false → (size ≡ 0 → ⊥) → at + size ≤ length p
unfolding is_outside
inside p at size e some = grind (arith, nat_tests)

pub piece_long : (m : List ℕ) → first_fault request_due m ≡ None → 16 ≤ length (piece m)
piece_long m e = whole_long (piece m) (piece_whole m e)

pub name_inside : (m : List ℕ) → first_fault request_due m ≡ None → (number 2 (piece m) 6 ≡ 0 → ⊥)
    → number 2 (piece m) 4 + number 2 (piece m) 6 ≤ length (piece m)
name_inside m e some = inside (piece m) (number 2 (piece m) 4) (number 2 (piece m) 6) (whole_inside (piece m) (piece_whole m e)) some

-- ---- what is met one by one

abbrev going : List CreateContext → List CreateContext → Bool
going seen [] = mixes_versions seen
going seen (c ∷ cs) = has_named c.name seen || going (c ∷ seen) cs

-- a name of the second list is one of the first
abbrev crosses : List CreateContext → List CreateContext → Bool
crosses seen [] = false
crosses seen (c ∷ cs) = has_named c.name seen || crosses seen cs

abbrev either_has : List ℕ → List CreateContext → List CreateContext → Bool
either_has name seen cs = has_named name cs || has_named name seen

abbrev both_mix : List CreateContext → List CreateContext → Bool
both_mix seen cs = either_has dh2c seen cs && (either_has dhnq seen cs || either_has dhnc seen cs)

or_false : (a : Bool) → (a || false) ≡ a
or_false true = refl
or_false false = refl

or_moves : (a b c : Bool) → (a || (b || c)) ≡ ((b || a) || c)
or_moves true true c = refl
or_moves true false c = refl
or_moves false true c = refl
or_moves false false c = refl

or_four : (h n x t : Bool) → (h || ((n || x) || t)) ≡ ((h || x) || (n || t))
or_four true n x t = refl
or_four false true true t = refl
or_four false true false t = refl
or_four false false x t = refl

or_three : (h a b : Bool) → (h || (a || b)) ≡ ((h || a) || b)
or_three true a b = refl
or_three false a b = refl

same_bytes : (a b : List ℕ) → pointwise nat_eq a b ≡ pointwise nat_eq b a
same_bytes [] [] = refl
same_bytes [] (y ∷ ys) = refl
same_bytes (x ∷ xs) [] = refl
same_bytes (x ∷ xs) (y ∷ ys) =
    let e : nat_eq x y ≡ nat_eq y x = grind (arith, nat_tests) in
    ap (λ (b : Bool). b && pointwise nat_eq xs ys) e ∙ ap (λ (b : Bool). nat_eq y x && b) (same_bytes xs ys)

same_name : (a b : List ℕ) → is_named a b ≡ is_named b a
unfolding is_named
same_name a b = same_bytes a b

crosses_one : (c : CreateContext) (seen cs : List CreateContext) → crosses (c ∷ seen) cs ≡ (has_named c.name cs || crosses seen cs)
unfolding has_named
crosses_one c seen [] = refl
crosses_one c seen (d ∷ ds) =
    ap (λ (b : Bool). (is_named c.name d.name || has_named d.name seen) || b) (crosses_one c seen ds)
    ∙ ap (λ (b : Bool). (b || has_named d.name seen) || (has_named c.name ds || crosses seen ds)) (same_name c.name d.name)
    ∙ mixed (is_named d.name c.name) (has_named d.name seen) (has_named c.name ds) (crosses seen ds)
  where
    mixed : (n h x t : Bool) → ((n || h) || (x || t)) ≡ ((n || x) || (h || t))
    mixed true h x t = refl
    mixed false true true t = refl
    mixed false true false t = refl
    mixed false false x t = refl

crosses_none : (cs : List CreateContext) → crosses [] cs ≡ false
unfolding has_named
crosses_none [] = refl
crosses_none (c ∷ cs) = crosses_none cs

either_moves : (name : List ℕ) (c : CreateContext) (seen cs : List CreateContext) → either_has name (c ∷ seen) cs
    ≡ either_has name seen (c ∷ cs)
unfolding has_named
either_moves name c seen cs = or_moves (has_named name cs) (is_named c.name name) (has_named name seen)

mix_moves : (c : CreateContext) (seen cs : List CreateContext) → both_mix (c ∷ seen) cs ≡ both_mix seen (c ∷ cs)
mix_moves c seen cs =
    ap (λ (b : Bool). b && (either_has dhnq (c ∷ seen) cs || either_has dhnc (c ∷ seen) cs)) (either_moves dh2c c seen cs)
    ∙ ap (λ (b : Bool). either_has dh2c seen (c ∷ cs) && (b || either_has dhnc (c ∷ seen) cs)) (either_moves dhnq c seen cs)
    ∙ ap (λ (b : Bool). either_has dh2c seen (c ∷ cs) && (either_has dhnq seen (c ∷ cs) || b)) (either_moves dhnc c seen cs)

going_is : (seen cs : List CreateContext) → going seen cs ≡ ((crosses seen cs || has_twice cs) || both_mix seen cs)
unfolding has_named has_twice
going_is seen [] = refl
going_is seen (c ∷ cs) =
    ap (λ (b : Bool). has_named c.name seen || b) (going_is (c ∷ seen) cs)
    ∙ ap (λ (b : Bool). has_named c.name seen || ((b || has_twice cs) || both_mix (c ∷ seen) cs)) (crosses_one c seen cs)
    ∙ ap (λ (b : Bool). has_named c.name seen || (((has_named c.name cs || crosses seen cs) || has_twice cs) || b)) (mix_moves c seen cs)
    ∙ or_three (has_named c.name seen) ((has_named c.name cs || crosses seen cs) || has_twice cs) (both_mix seen (c ∷ cs))
    ∙ ap (λ (b : Bool). b || both_mix seen (c ∷ cs))
    (or_four (has_named c.name seen) (has_named c.name cs) (crosses seen cs) (has_twice cs))

either_none : (name : List ℕ) (cs : List CreateContext) → either_has name [] cs ≡ has_named name cs
unfolding has_named
either_none name cs = or_false (has_named name cs)

going_all : (cs : List CreateContext) → clash cs ≡ going [] cs
going_all cs =
    sym (going_is [] cs
    ∙ ap (λ (b : Bool). (b || has_twice cs) || both_mix [] cs) (crosses_none cs)
    ∙ ap (λ (b : Bool). has_twice cs || (b && (either_has dhnq [] cs || either_has dhnc [] cs))) (either_none dh2c cs)
    ∙ ap (λ (b : Bool). has_twice cs || (has_named dh2c cs && (b || either_has dhnc [] cs))) (either_none dhnq cs)
    ∙ ap (λ (b : Bool). has_twice cs || (has_named dh2c cs && (has_named dhnq cs || b))) (either_none dhnc cs))

-- ---- the contexts of bytes, from one on

breaks : List ℕ → Bool
breaks m = is_some (first_fault request_due m)

abbrev from_here : ℕ → List ℕ → Option (List CreateContext)
from_here n rest = first_items context_in (λ m. is_some (first_fault request_due m)) n rest

-- what is behind the first one
record Behind (rest : List ℕ) (later : List CreateContext) : Type 0 where
  count : ℕ
  others : List CreateContext
  front : from_here count (drop (number 4 rest 0) rest) ≡ Some others
  are : later ≡ context_in (piece rest) ∷ others

none_of : {E : Type 0} (o : Option E) → is_some o ≡ false → o ≡ None
none_of None e = refl
none_of (Some x) e = absurd cc

no_break : {V : Type 0} (b : Bool) (o : Option (List V)) (vs : List V) → (if b then None else o) ≡ Some vs → b ≡ false × o ≡ Some vs
no_break true o vs e = absurd cc
no_break false o vs e = (refl, e)

mapped : {V : Type 0} (x : V) (o : Option (List V)) (vs : List V) → option_map (λ (ws : List V). x ∷ ws) o ≡ Some vs
    → (ws : List V) × (o ≡ Some ws) × (vs ≡ x ∷ ws)
mapped x None vs e = absurd cc
mapped x (Some ws) vs e = (ws, refl, cc)

shape : (n : ℕ) (rest : List ℕ) (later : List CreateContext) → from_here n rest ≡ Some later
    → (n' : ℕ) × (is_some (first_fault request_due rest) ≡ false)
    × ((if number 4 rest 0 == 0 then Some (context_in (piece rest) ∷ []) else option_map (λ vs. context_in (piece rest) ∷ vs)
    (from_here n' (drop (number 4 rest 0) rest))) ≡ Some later)
unfolding first_items
shape zero rest later e = absurd cc
shape (suc n) rest later e =
    let b = no_break (is_some (first_fault request_due rest)) _ later e in (n, b.0, b.1)

whole_at : (n : ℕ) (rest : List ℕ) (later : List CreateContext) → from_here n rest ≡ Some later → first_fault request_due rest ≡ None
whole_at n rest later e = none_of (first_fault request_due rest) (shape n rest later e).1

last_at : (n : ℕ) (rest : List ℕ) (later : List CreateContext) → from_here n rest ≡ Some later → number 4 rest 0 ≡ 0
    → later ≡ context_in (piece rest) ∷ []
last_at n rest later e last =
    let s = shape n rest later e in picked (number 4 rest 0 == 0) (grind (arith, nat_tests)) _ s.2
  where
    picked : (b : Bool) → b ≡ true → (o : Option (List CreateContext))
        → (if b then Some (context_in (piece rest) ∷ []) else o) ≡ Some later → later ≡ context_in (piece rest) ∷ []
    picked true t o e = cc
    picked false t o e = absurd cc

behind_at : (n : ℕ) (rest : List ℕ) (later : List CreateContext) → from_here n rest ≡ Some later → (number 4 rest 0 ≡ 0 → ⊥)
    → Behind rest later
behind_at n rest later e more =
    let s = shape n rest later e in
    let o = picked (number 4 rest 0 == 0) (grind (arith, nat_tests)) _ s.2 in
    let w = mapped (context_in (piece rest)) (from_here s.0 (drop (number 4 rest 0) rest)) later o in
    record { count = s.0; others = w.0; front = w.1; are = w.2 }
  where
    picked : (b : Bool) → b ≡ false → (o : Option (List CreateContext))
        → (if b then Some (context_in (piece rest) ∷ []) else o) ≡ Some later → o ≡ Some later
    picked true t o e = absurd cc
    picked false t o e = e

-- ---- the loop

abbrev Met : Type 0
Met = BTreeSet (Bor (List ℕ))

abbrev by_bytes : Bor (List ℕ) → Bor (List ℕ) → Ordering
by_bytes = λ x y. slice_cmp nat_cmp x.now y.now

-- these names are met, and the bytes from here on decide
pub record Going (all rest : List ℕ) (met : Met) : Type 0 where
  pub seen : List CreateContext
  pub same : (q : List ℕ) → names.has_name met q ≡ has_named q seen
  pub count : ℕ
  pub later : List CreateContext
  pub front : from_here count rest ≡ Some later
  pub goes : clash_in all ≡ going seen later

pub goes_whole : (all rest : List ℕ) (met : Met) → Going all rest met → first_fault request_due rest ≡ None
goes_whole all rest met g = whole_at g.count rest g.later g.front

found : (bytes : List ℕ) → is_some (contexts_in bytes) ≡ true → (cs : List CreateContext)
    × (items_in context_in (λ m. is_some (first_fault request_due m)) bytes ≡ Some cs)
unfolding contexts_in
found bytes e = there (items_in context_in (λ m. is_some (first_fault request_due m)) bytes) e
  where
    there : (o : Option (List CreateContext)) → is_some (option_map request_contexts o) ≡ true → (cs : List CreateContext) × (o ≡ Some cs)
    there None e = absurd cc
    there (Some cs) e = (cs, refl)

pub none_clash : (bytes : List ℕ) → bytes ≡ [] → clash_in bytes ≡ false
unfolding clash_in items_in has_twice has_named
none_clash bytes e = ap clash_in e

pub goes_begin : (bytes : List ℕ) (met : Met) → met.keys ≡ [] → (bytes ≡ [] → ⊥) → is_some (contexts_in bytes) ≡ true → Going bytes bytes met
unfolding clash_in items_in has_named
goes_begin [] met empty some e = absurd (some refl)
goes_begin (b ∷ bs) met empty some e =
    let f = found (b ∷ bs) e in
    record {
      seen = [];
      same = λ q. none met.keys q empty;
      count = length (b ∷ bs);
      later = f.0;
      front = f.1;
      goes = ap all_clash f.1 ∙ going_all f.0;
    }
  where
    none : (keys : List (Bor (List ℕ))) (q : List ℕ) → keys ≡ [] → names.has_name (record { keys = keys }) q ≡ false
    none keys q e = grind (arith, common_steps)

-- ---- the name at the front

abbrev name_of : List ℕ → List ℕ
name_of rest = (context_in (piece rest)).name

-- a name that was met before
known : (all rest : List ℕ) (met : Met) (g : Going all rest met) → names.has_name met (name_of rest) ≡ true → going g.seen g.later ≡ true
known all rest met g old =
    let hit : has_named (name_of rest) g.seen ≡ true = sym (g.same (name_of rest)) ∙ old in
    by_place (number 4 rest 0 == 0) refl hit
  where
    begins : (later others : List CreateContext) → later ≡ context_in (piece rest) ∷ others → has_named (name_of rest) g.seen ≡ true
        → going g.seen later ≡ true
    begins later others are hit =
        ap (going g.seen) are ∙ ap (λ (b : Bool). b || going (context_in (piece rest) ∷ g.seen) others) hit

    by_place : (b : Bool) → (number 4 rest 0 == 0) ≡ b → has_named (name_of rest) g.seen ≡ true → going g.seen g.later ≡ true
    by_place true e hit = begins g.later [] (last_at g.count rest g.later g.front (grind (arith, nat_tests))) hit
    by_place false e hit =
        let h = behind_at g.count rest g.later g.front (λ z. grind (arith, nat_tests)) in begins g.later h.others h.are hit

pub goes_twice : (all rest : List ℕ) (met : Met) → Going all rest met → names.has_name met (name_of rest) ≡ true → clash_in all ≡ true
goes_twice all rest met g old = g.goes ∙ known all rest met g old

-- a new name is met from here on
more_met : (seen : List CreateContext) (c : CreateContext) (old new : Met) (k : Bor (List ℕ)) → k.now ≡ c.name
    → ((q : List ℕ) → names.has_name old q ≡ has_named q seen) → Updates by_bytes old new k true
    → (q : List ℕ) → names.has_name new q ≡ has_named q (c ∷ seen)
unfolding has_named is_named
more_met seen c old new k same is u q =
    let b : Bor (List ℕ) = record { ref_ptr = (0, 0); now = q } in
    u.0 b
    ∙ ap (λ (t : Bool). cond t true (contains by_bytes old b)) (is_eq-slice_cmp k.now q)
    ∙ ap (λ (n : List ℕ). cond (pointwise nat_eq n q) true (contains by_bytes old b)) same
    ∙ ap (λ (t : Bool). cond (pointwise nat_eq c.name q) true t) (is q)
    ∙ chosen (pointwise nat_eq c.name q) (has_named q seen)
  where
    chosen : (a b : Bool) → cond a true b ≡ (a || b)
    chosen true b = refl
    chosen false b = refl

new_name : (all rest : List ℕ) (met : Met) (g : Going all rest met) → names.has_name met (name_of rest) ≡ false
    → (others : List CreateContext) → going g.seen (context_in (piece rest) ∷ others) ≡ going (context_in (piece rest) ∷ g.seen) others
new_name all rest met g new others =
    ap (λ (b : Bool). b || going (context_in (piece rest) ∷ g.seen) others) (sym (g.same (name_of rest)) ∙ new)

mixes : (met : Met) (seen : List CreateContext) → ((q : List ℕ) → names.has_name met q ≡ has_named q seen)
    → mixes_versions seen ≡ names.mixes_versions met
mixes met seen same =
    sym (ap (λ (b : Bool). b && (names.has_name met dhnq || names.has_name met dhnc)) (same dh2c)
    ∙ ap (λ (b : Bool). has_named dh2c seen && (b || names.has_name met dhnc)) (same dhnq)
    ∙ ap (λ (b : Bool). has_named dh2c seen && (has_named dhnq seen || b)) (same dhnc))

pub goes_end : (all rest : List ℕ) (old new : Met) (k : Bor (List ℕ)) → Going all rest old → k.now ≡ name_of rest
    → names.has_name old (name_of rest) ≡ false → Updates by_bytes old new k true → number 4 rest 0 ≡ 0
    → clash_in all ≡ names.mixes_versions new
goes_end all rest old new k g named n u last =
    let c : CreateContext = context_in (piece rest) in
    g.goes
    ∙ ap (going g.seen) (last_at g.count rest g.later g.front last)
    ∙ new_name all rest old g n []
    ∙ mixes new (c ∷ g.seen) (more_met g.seen c old new k named g.same u)

pub goes_on : (all rest : List ℕ) (old new : Met) (k : Bor (List ℕ)) → Going all rest old → k.now ≡ name_of rest
    → names.has_name old (name_of rest) ≡ false → Updates by_bytes old new k true → (number 4 rest 0 ≡ 0 → ⊥)
    → Going all (drop (number 4 rest 0) rest) new
goes_on all rest old new k g named n u more =
    let h = behind_at g.count rest g.later g.front more in
    let c : CreateContext = context_in (piece rest) in
    record {
      seen = c ∷ g.seen;
      same = more_met g.seen c old new k named g.same u;
      count = h.count;
      later = h.others;
      front = h.front;
      goes = g.goes ∙ ap (going g.seen) h.are ∙ new_name all rest old g n h.others;
    }

-- what an insertion said of the name
pub was_met : (old : Met) (k : Bor (List ℕ)) (rest : List ℕ) (added : Bool) → k.now ≡ name_of rest → added ≡ not (contains by_bytes old k)
    → names.has_name old (name_of rest) ≡ not added
was_met old k rest added named is =
    ap (names.has_name old) (sym named) ∙ twice (contains by_bytes old k) ∙ ap not (sym is)
  where
    twice : (b : Bool) → b ≡ not (not b)
    twice true = refl
    twice false = refl
