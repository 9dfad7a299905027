-- The rules of a place's numbers, one behind the other.
use Rattle.std.proofs.Common.{◌≡◌, ◌==◌, ◌<◌, ◌≤◌, ◌+◌, ℕ, Bool, true, false, ◌&&◌, List, [], ◌∷◌, length, get_or, drop}
use Rattle.std.proofs.Common.{Option, Some, None, nat_lt, ◌*◌, ◌%◌, if◌then◌else◌, refl, sym, ap, ◌∙◌, arith, All}
use Rattle.std.proofs.lemmas.Bool.Decides.{nat_tests}
use Rattle.std.proofs.lemmas.List.{drop_more, drop_all, length-drop, get_or_default}
use Rattle.std.proofs.lemmas.List.Elements.{All-get_or, All-cons, All-nil}
use Rattle.spec_exchange.specs.Texts.{upper}
use Rattle.access_lists.specs.declared.rules.Rule.{Rule}
use Rattle.access_lists.specs.declared.deciding.Asked.{Asked}
use Rattle.access_lists.specs.Decide.{is_within, is_of_user, bears_on, decided}
use Rattle.access_lists.specs.Index.{place_from, place_of, is_reached, reached, IsIndex}
use Rattle.access_lists.specs.Walk.{begins_so, no_rule, judged, judged_one, judged_behind, asked_of, AreNumbers}
use Rattle.access_lists.proofs.Comparing.{not_within, short_begins, longer_within}
use Rattle.access_lists.proofs.Denials.{true_false, first_true, second_true, judged_from, least_denial, judged_all}

-- ---- one step of the walk

pub walk_step : (rules : List Rule) (numbers name path : List ℕ) (a : Asked) (i : ℕ) → i < length numbers
    → judged rules (drop i numbers) name path a
    ≡ judged_behind (judged_one (get_or rules (get_or numbers i 0) no_rule) name path a) (get_or numbers i 0 + 1)
    (λ b. judged rules (drop (i + 1) numbers) name path b)
unfolding judged
walk_step rules numbers name path a i l = rw (drop_more numbers i 0 l) refl

-- the rule of a number, whatever else stands for none
pub rule_at : (rules : List Rule) (numbers name path : List ℕ) (a : Asked) (i : ℕ) (x : Rule) → AreNumbers numbers rules
    → i < length numbers
    → x ≡ get_or rules (get_or numbers i 0) x
    → judged_one (get_or rules (get_or numbers i 0) no_rule) name path a ≡ judged_one x name path a
rule_at rules numbers name path a i x n l e = ap (λ r. judged_one r name path a)
    (get_or_default rules (get_or numbers i 0) no_rule x (All-get_or (λ k. k < length rules) numbers i 0 l n) ∙ sym e)

pub walk_none : (rules : List Rule) (numbers name path : List ℕ) (a : Asked) (i : ℕ) → i < length numbers
    → judged_one (get_or rules (get_or numbers i 0) no_rule) name path a ≡ None
    → judged rules (drop i numbers) name path a ≡ Some (get_or numbers i 0 + 1)
walk_none rules numbers name path a i l e = walk_step rules numbers name path a i l
    ∙ ap (λ o. judged_behind o (get_or numbers i 0 + 1) (λ b. judged rules (drop (i + 1) numbers) name path b)) e

pub walk_some : (rules : List Rule) (numbers name path : List ℕ) (a : Asked) (i : ℕ) (b : Asked) → i < length numbers
    → judged_one (get_or rules (get_or numbers i 0) no_rule) name path a ≡ Some b
    → judged rules (drop i numbers) name path a ≡ judged rules (drop (i + 1) numbers) name path b
walk_some rules numbers name path a i b l e = walk_step rules numbers name path a i l
    ∙ ap (λ o. judged_behind o (get_or numbers i 0 + 1) (λ b. judged rules (drop (i + 1) numbers) name path b)) e

pub walk_end : (rules : List Rule) (numbers name path : List ℕ) (a : Asked) (i : ℕ) → length numbers ≤ i
    → judged rules (drop i numbers) name path a ≡ None
unfolding judged
walk_end rules numbers name path a i l = rw (drop_all i numbers l) refl

-- ---- a rule that bears on a path is looked at in the path's place

abbrev ends : List ℕ → Bool
ends [] = true
ends (c ∷ cs) = c == 92

and_no : (b : Bool) → (b && false) ≡ false
and_no true = refl
and_no false = refl

-- letters are alike where both or none is `\`
alike_end : (x y : ℕ) → (upper x == upper y) ≡ true → (y == 92) ≡ (x == 92)
unfolding upper
alike_end x y e = grind (arith, nat_tests)

within_place : (h : ℕ) (d path : List ℕ) → begins_so d path ≡ true → ends (drop (length d) path) ≡ true → place_from h d ≡ place_from h path
unfolding place_from begins_so
within_place h [] [] b e = refl
within_place h [] (c ∷ cs) b e = rw e refl
within_place h (x ∷ xs) [] b e = absurd (true_false (sym b))
within_place h (x ∷ xs) (y ∷ ys) b e =
    let same : (upper x == upper y) ≡ true = first_true (upper x == upper y) (begins_so xs ys) b in
    let equal : upper x ≡ upper y = grind (arith, nat_tests) in
    let rest : place_from ((h * 31 + upper x) % 64) xs ≡ place_from ((h * 31 + upper y) % 64) ys =
    ap (λ u. place_from ((h * 31 + u) % 64) xs) equal
    ∙ within_place ((h * 31 + upper y) % 64) xs ys (second_true (upper x == upper y) (begins_so xs ys) b) e in
    ap (λ n. if x == 92 then h else n) rest
    ∙ ap (λ b. if b then h else place_from ((h * 31 + upper y) % 64) ys) (sym (alike_end x y same))

-- a directory that isn't the root, within which the path is
by_length : (d path : List ℕ) → 0 < length d → is_within d path ≡ true → begins_so d path ≡ true
    → (same : Bool) → (length d == length path) ≡ same → (short : Bool) → nat_lt (length path) (length d) ≡ short
    → ends (drop (length d) path) ≡ true
by_length d path l w b true s short t = rw (drop_all (length d) path
    (let e : length d ≡ length path = grind (arith, nat_tests) in omega (arith, e))) refl
by_length d path l w b false s true t =
    absurd (true_false (sym b ∙ short_begins d path (let e : length path < length d = grind (arith, nat_tests) in e)))
by_length d path l w b false s false t =
    let e : length d < length path = grind (arith, nat_tests) in
    rw (drop_more path (length d) 0 e) (sym (longer_within d path l b e) ∙ w)

by_begins : (d path : List ℕ) → 0 < length d → is_within d path ≡ true → (b : Bool) → begins_so d path ≡ b
    → (begins_so d path ≡ true) × (ends (drop (length d) path) ≡ true)
by_begins d path l w true e = (e, by_length d path l w e (length d == length path) refl (nat_lt (length path) (length d)) refl)
by_begins d path l w false e = absurd (true_false (sym w ∙ not_within d path l e))

ends_there : (d path : List ℕ) → 0 < length d → is_within d path ≡ true → (begins_so d path ≡ true) × (ends (drop (length d) path) ≡ true)
ends_there d path l w = by_begins d path l w (begins_so d path) refl

pub reached_where_within : (d path : List ℕ) → is_within d path ≡ true → is_reached d (place_of path) ≡ true
unfolding is_reached place_of
reached_where_within [] path w = refl
reached_where_within (c ∷ cs) path w =
    let p = ends_there (c ∷ cs) path (omega arith) w in
    let same = within_place 0 (c ∷ cs) path p.0 p.1 in
    grind (arith, nat_tests)

-- ---- the rules of a place decide as all do

by_within : (x : Rule) (name path : List ℕ) → is_reached x.path (place_of path) ≡ false → (w : Bool) → is_within x.path path ≡ w
    → (is_of_user x.user name && is_within x.path path) ≡ false
by_within x name path n true w = absurd (true_false (sym (reached_where_within x.path path w) ∙ n))
by_within x name path n false w = rw w (and_no (is_of_user x.user name))

not_judged : (x : Rule) (name path : List ℕ) (a : Asked) → bears_on x name path ≡ false → judged_one x name path a ≡ Some a
unfolding judged_one
not_judged x name path a e = rw e refl

borne_where_reached : (x : Rule) (name path : List ℕ) → is_reached x.path (place_of path) ≡ false → bears_on x name path ≡ false
unfolding bears_on
borne_where_reached x name path n = by_within x name path n (is_within x.path path) refl

at_step : (o : Option Asked) (n : ℕ) (f g : Asked → Option ℕ) → ((b : Asked) → f b ≡ g b) → judged_behind o n f ≡ judged_behind o n g
at_step None n f g e = refl
at_step (Some b) n f g e = e b

none_there : (rules : List Rule) (name path : List ℕ) (n : ℕ) (a : Asked)
    → judged rules (reached (place_of path) n []) name path a ≡ judged_from n [] name path a
unfolding judged reached judged_from
none_there rules name path n a = refl

module _ (rules : List Rule) (n : ℕ) (x : Rule) (xs : List Rule) (d : drop n rules ≡ x ∷ xs) where
  inside : n < length rules
  inside = let e = length-drop n rules in let l : length (drop n rules) ≡ length xs + 1 = ap length d ∙ omega arith in omega (arith, e, l)

  there : get_or rules n no_rule ≡ x
  there = ap (λ l. get_or l 0 no_rule) (sym (drop_more rules n no_rule inside) ∙ d)

  one_less : drop (n + 1) rules ≡ xs
  one_less = ap (λ l. drop 1 l) (sym (drop_more rules n no_rule inside) ∙ d)

by_reached : (rules : List Rule) (name path : List ℕ) (n : ℕ) (x : Rule) (xs : List Rule) (a : Asked) → drop n rules ≡ x ∷ xs
    → (r : Bool) → is_reached x.path (place_of path) ≡ r
    → ((b : Asked) → judged rules (reached (place_of path) (n + 1) xs) name path b ≡ judged_from (n + 1) xs name path b)
    → judged rules (reached (place_of path) n (x ∷ xs)) name path a ≡ judged_from n (x ∷ xs) name path a
unfolding judged reached judged_from
by_reached rules name path n x xs a d true r rest =
    rw (r, there rules n x xs d) (at_step (judged_one x name path a) (n + 1)
    (λ b. judged rules (reached (place_of path) (n + 1) xs) name path b)
    (λ b. judged_from (n + 1) xs name path b) rest)
by_reached rules name path n x xs a d false r rest =
    rw (r, not_judged x name path a (borne_where_reached x name path r)) (rest a)

pub place_decides : (rules : List Rule) (name path : List ℕ) (n : ℕ) (xs : List Rule) (a : Asked) → drop n rules ≡ xs
    → judged rules (reached (place_of path) n xs) name path a ≡ judged_from n xs name path a
place_decides rules name path n [] a d = none_there rules name path n a
place_decides rules name path n (x ∷ xs) a d = by_reached rules name path n x xs a d (is_reached x.path (place_of path)) refl
    (λ b. place_decides rules name path (n + 1) xs b (one_less rules n x xs d))

-- ---- what is decided by the rules of a place

-- each number of a place is one of a rule
reached_by : (h n : ℕ) (x : Rule) (xs : List Rule) (end : ℕ) → n + length (x ∷ xs) ≤ end → (b : Bool)
    → All (λ k. k < end) (reached h (n + 1) xs)
    → All (λ k. k < end) (if b then n ∷ reached h (n + 1) xs else reached h (n + 1) xs)
reached_by h n x xs end l true rest = All-cons (λ k. k < end) n (reached h (n + 1) xs) (omega (arith, l)) rest
reached_by h n x xs end l false rest = rest

reached_below : (h n : ℕ) (xs : List Rule) (end : ℕ) → n + length xs ≤ end → All (λ k. k < end) (reached h n xs)
unfolding reached
reached_below h n [] end l = All-nil (λ k. k < end)
reached_below h n (x ∷ xs) end l = reached_by h n x xs end l (is_reached x.path h) (reached_below h (n + 1) xs end (omega (arith, l)))

pub numbers_are : (h : ℕ) (rules : List Rule) → AreNumbers (reached h 0 rules) rules
numbers_are h rules = reached_below h 0 rules (length rules) (omega arith)

pub decided_there : (rules : List Rule) (name path : List ℕ) (rights : ℕ)
    → judged rules (reached (place_of path) 0 rules) name path (asked_of rights) ≡ decided rules name path rights
unfolding decided least_denial
decided_there rules name path rights =
    place_decides rules name path 0 rules (asked_of rights) refl ∙ judged_all 0 rules name path (asked_of rights)

-- the numbers that stand in a place
pub numbers_of : (places : List (List ℕ)) (rules : List Rule) (slice : List (List ℕ)) (found numbers : List ℕ) (h : ℕ)
    → IsIndex places rules → h < 64 → slice ≡ places → found ≡ get_or slice h found → numbers ≡ found → numbers ≡ reached h 0 rules
numbers_of places rules slice found numbers h index below same is there =
    let long : h < length slice = rw same (let n = index.count in omega (arith, n, below)) in
    there ∙ is ∙ get_or_default slice h found [] long ∙ ap (λ (l : List (List ℕ)). get_or l h []) same ∙ index.each h below
