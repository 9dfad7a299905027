-- Files found by their names, whatever the order in which they stand, and the sum of their lengths.
use Rattle.std.proofs.Common.{◌≡◌, ℕ, ◌+◌, ◌==◌, nat_lt, Bool, true, false, not, ◌&&◌, ◌||◌, if◌then◌else◌, List, [], ◌∷◌, ◌++◌}
use Rattle.std.proofs.Common.{length, Option, Some, None, is_some, refl, sym, ap, subst, ◌∙◌, arith, eqb-true}
use Rattle.spec_exchange.specs.Texts.{upper, same_name, parent_of, leaf_of, is_component, begins_with_backslash}
use Rattle.spec_exchange.specs.State.{Server, Entry}
use Rattle.spec_exchange.specs.Files.{root, exists_in, find, find_in, has_parent, is_directory, is_found_directory, sizes}
use Rattle.law_server.proofs.tables.Logic.{front_of, back_of}
use Rattle.law_snapshots.specs.snapshots.Pieces.{placed_entry}
use Rattle.law_snapshots.specs.snapshots.Taken.{may_name}
use Rattle.law_snapshots.proofs.snapshots.Order.{placed_all}

-- ---- names

-- names that are the same are the same as whatever is asked
pub same_right : (c a b : List ℕ) → same_name a b ≡ true → same_name c a ≡ same_name c b
unfolding same_name
same_right [] [] [] h = refl
same_right [] [] (y ∷ ys) h = absurd (cc)
same_right [] (x ∷ xs) [] h = absurd (cc)
same_right [] (x ∷ xs) (y ∷ ys) h = refl
same_right (z ∷ zs) [] [] h = refl
same_right (z ∷ zs) [] (y ∷ ys) h = absurd (cc)
same_right (z ∷ zs) (x ∷ xs) [] h = absurd (cc)
same_right (z ∷ zs) (x ∷ xs) (y ∷ ys) h =
    ap (λ (u : ℕ). (upper z == u) && same_name zs xs) (eqb-true (upper x) (upper y) (front_of (upper x == upper y) (same_name xs ys) h))
    ∙ ap (λ (b : Bool). (upper z == upper y) && b) (same_right zs xs ys (back_of (upper x == upper y) (same_name xs ys) h))

pub found_same : (es : List Entry) (a b : List ℕ) → same_name a b ≡ true → find_in es a ≡ find_in es b
unfolding find_in
found_same [] a b h = refl
found_same (e ∷ es) a b h =
    ap (λ (k : Bool). if k then Some e.file else find_in es a) (same_right e.path a b h)
    ∙ ap (λ (v : Option ℕ). if same_name e.path b then Some e.file else v) (found_same es a b h)

pub find_same : (s : Server) (a b : List ℕ) → same_name a b ≡ true → find s a ≡ find s b
unfolding find same_name
find_same s [] [] h = refl
find_same s [] (y ∷ ys) h = absurd (cc)
find_same s (x ∷ xs) [] h = absurd (cc)
find_same s (x ∷ xs) (y ∷ ys) h = found_same s.entries (x ∷ xs) (y ∷ ys) h

-- ---- one more entry

off_first : (k : Bool) (f : ℕ) (v : Option ℕ) → (if k then Some f else v) ≡ None → k ≡ false
off_first true f v h = absurd (cc)
off_first false f v h = refl

off_rest : (k : Bool) (f : ℕ) (v : Option ℕ) → (if k then Some f else v) ≡ None → v ≡ None
off_rest true f v h = absurd (cc)
off_rest false f v h = h

swapped : (k l : Bool) (f g : ℕ) (v : Option ℕ) → (k ≡ true → l ≡ false)
    → (if l then Some g else (if k then Some f else v)) ≡ (if k then Some f else (if l then Some g else v))
swapped true true f g v h = absurd (let z = h refl in cc)
swapped true false f g v h = refl
swapped false l f g v h = refl

-- what has the name of the new one isn't among the others
other_name : (x e : Entry) (es : List Entry) (p : List ℕ) → find_in (x ∷ es) e.path ≡ None → same_name e.path p ≡ true → same_name x.path p ≡ false
unfolding find_in
other_name x e es p n h = sym (same_right x.path e.path p h) ∙ off_first (same_name x.path e.path) x.file (find_in es e.path) n

rest_free : (x e : Entry) (es : List Entry) → find_in (x ∷ es) e.path ≡ None → find_in es e.path ≡ None
unfolding find_in
rest_free x e es n = off_rest (same_name x.path e.path) x.file (find_in es e.path) n

pub find_placed : (e : Entry) (ts : List Entry) (p : List ℕ) → find_in ts e.path ≡ None
    → find_in (placed_entry e ts) p ≡ (if same_name e.path p then Some e.file else find_in ts p)
unfolding placed_entry find_in
find_placed e [] p n = refl
find_placed e (x ∷ xs) p n = by (nat_lt e.file x.file) (find_placed e xs p (rest_free x e xs n))
  where
    by : (b : Bool) → find_in (placed_entry e xs) p ≡ (if same_name e.path p then Some e.file else find_in xs p)
        → find_in (if b then e ∷ x ∷ xs else x ∷ placed_entry e xs) p
        ≡ (if same_name e.path p then Some e.file else (if same_name x.path p then Some x.file else find_in xs p))
    by true h = refl
    by false h = ap (λ (v : Option ℕ). if same_name x.path p then Some x.file else v) h
        ∙ swapped (same_name e.path p) (same_name x.path p) e.file x.file (find_in xs p) (λ k. other_name x e xs p n k)

pub find_pushed : (e : Entry) (ts : List Entry) (p : List ℕ) → find_in ts e.path ≡ None
    → find_in (ts ++ e ∷ []) p ≡ (if same_name e.path p then Some e.file else find_in ts p)
unfolding find_in
find_pushed e [] p n = refl
find_pushed e (x ∷ xs) p n =
    ap (λ (v : Option ℕ). if same_name x.path p then Some x.file else v) (find_pushed e xs p (rest_free x e xs n))
    ∙ swapped (same_name e.path p) (same_name x.path p) e.file x.file (find_in xs p) (λ k. other_name x e xs p n k)

-- what is found is there
pub found_there : (es : List Entry) (p : List ℕ) (f : ℕ) → find_in es p ≡ Some f → exists_in es f ≡ true
unfolding find_in exists_in
found_there [] p f h = absurd (cc)
found_there (e ∷ es) p f h = by (same_name e.path p) h (λ k. found_there es p f k)
  where
    some_same : (x y : ℕ) → Some x ≡ Some y → x ≡ y
    some_same x y e = cc

    later : (b k : Bool) → k ≡ true → (if b then true else k) ≡ true
    later true k h = refl
    later false k h = h

    by : (b : Bool) → (if b then Some e.file else find_in es p) ≡ Some f → (find_in es p ≡ Some f → exists_in es f ≡ true)
        → (if e.file == f then true else exists_in es f) ≡ true
    by true k rest =
        let same : (e.file == f) ≡ true = let q = some_same e.file f k in grind arith in
        ap (λ (b : Bool). if b then true else exists_in es f) same
    by false k rest = later (e.file == f) (exists_in es f) (rest k)

-- ---- a name that may be given

-- in states that find the same by each name, and have the same directories among what they find
find_is : (s t : Server) → ((q : List ℕ) → find_in t.entries q ≡ find_in s.entries q) → (q : List ℕ) → find t q ≡ find s q
unfolding find
find_is s t found [] = refl
find_is s t found (c ∷ cs) = found (c ∷ cs)

some_same : (x y : ℕ) → Some x ≡ Some y → x ≡ y
some_same x y e = cc

houses : (s t : Server) → ((f : ℕ) → exists_in s.entries f ≡ true → t.directory f ≡ s.directory f) → (q : List ℕ) (v : Option ℕ) → find s q ≡ v
    → is_found_directory t v ≡ is_found_directory s v
unfolding find is_found_directory is_directory
houses s t directory q None e = refl
houses s t directory [] (Some f) e =
    let same : root ≡ f = some_same root f e in
    subst (λ (g : ℕ). ((g == root) || t.directory g) ≡ ((g == root) || s.directory g)) same refl
houses s t directory (c ∷ cs) (Some f) e = ap (λ (b : Bool). (f == root) || b) (directory f (found_there s.entries (c ∷ cs) f e))

pub may_name_same : (s t : Server) (p : List ℕ) → ((q : List ℕ) → find_in t.entries q ≡ find_in s.entries q)
    → ((f : ℕ) → exists_in s.entries f ≡ true → t.directory f ≡ s.directory f) → may_name t p ≡ may_name s p
unfolding may_name has_parent
may_name_same s t p found directory =
    ap (λ (v : Option ℕ). (is_component (leaf_of p) && not (begins_with_backslash p)) && (not (is_some v) && is_found_directory t (find t (parent_of p))))
    (find_is s t found p)
    ∙ ap (λ (b : Bool). (is_component (leaf_of p) && not (begins_with_backslash p)) && (not (is_some (find s p)) && b))
    (ap (λ (v : Option ℕ). is_found_directory t v) (find_is s t found (parent_of p)) ∙ houses s t directory (parent_of p) (find s (parent_of p)) refl)

-- ---- lengths

pub sizes_placed : (content : ℕ → List ℕ) (e : Entry) (ts : List Entry) → sizes content (placed_entry e ts) ≡ length (content e.file) + sizes content ts
unfolding placed_entry sizes
sizes_placed content e [] = refl
sizes_placed content e (x ∷ xs) = by (nat_lt e.file x.file) (sizes_placed content e xs)
  where
    by : (b : Bool) → sizes content (placed_entry e xs) ≡ length (content e.file) + sizes content xs
        → sizes content (if b then e ∷ x ∷ xs else x ∷ placed_entry e xs)
        ≡ length (content e.file) + (length (content x.file) + sizes content xs)
    by true h = refl
    by false h = omega (arith, h)

pub sizes_both : (content : ℕ → List ℕ) (es fs : List Entry) → sizes content (es ++ fs) ≡ sizes content es + sizes content fs
unfolding sizes
sizes_both content [] fs = omega arith
sizes_both content (e ∷ es) fs = let h = sizes_both content es fs in omega (arith, h)

pub sizes_same : (c d : ℕ → List ℕ) (es : List Entry) → ((f : ℕ) → exists_in es f ≡ true → c f ≡ d f) → sizes c es ≡ sizes d es
unfolding sizes exists_in
sizes_same c d [] h = refl
sizes_same c d (e ∷ es) h =
    let first : c e.file ≡ d e.file = h e.file (here e.file) in
    ap (λ (l : List ℕ). length l + sizes c es) first
    ∙ ap (λ (n : ℕ). length (d e.file) + n) (sizes_same c d es (λ f i. h f (later (e.file == f) (exists_in es f) i)))
  where
    here : (f : ℕ) → (if f == f then true else exists_in es f) ≡ true
    here f = let e : (f == f) ≡ true = grind arith in ap (λ (b : Bool). if b then true else exists_in es f) e

    later : (b k : Bool) → k ≡ true → (if b then true else k) ≡ true
    later true k h = refl
    later false k h = h

pub sizes_all : (content : ℕ → List ℕ) (es ts : List Entry) → sizes content (placed_all es ts) ≡ sizes content es + sizes content ts
unfolding sizes placed_all
sizes_all content [] ts = omega arith
sizes_all content (e ∷ es) ts =
    let more = sizes_all content es (placed_entry e ts) in let one = sizes_placed content e ts in omega (arith, more, one)
