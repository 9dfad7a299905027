-- Numbers in an order in which each file stands behind its directory, as entries.
use Rattle.std.proofs.Common.{◌≡◌, ℕ, ◌==◌, Bool, true, false, not, ◌&&◌, if◌then◌else◌, List, [], ◌∷◌, ◌++◌}
use Rattle.std.proofs.Common.{Option, Some, None, is_some, refl, sym, ap, subst, ◌∙◌, arith, eqb-true}
use Rattle.std.proofs.lemmas.Bool.Decides.{nat_tests}
use Rattle.std.proofs.lemmas.List.{append_assoc}
use Rattle.spec_exchange.specs.Table.{has}
use Rattle.spec_exchange.specs.Content.{same_bytes}
use Rattle.spec_exchange.specs.Texts.{same_name, parent_of, leaf_of, leaf_from, is_component, begins_with_backslash}
use Rattle.spec_exchange.specs.State.{Server, Entry}
use Rattle.spec_exchange.specs.Files.{root, exists_in, find, find_in, has_parent, is_directory, is_found_directory, path_in, path_of}
use Rattle.law_server.specs.tables.Fits.{Fits}
use Rattle.law_server.proofs.tables.Logic.{front_of, back_of, both, not_true}
use Rattle.law_records.specs.fold.Order.{FilesAscend, numbers}
use Rattle.law_snapshots.specs.snapshots.Kept.{IsOrderOf, are_distinct}
use Rattle.law_snapshots.specs.snapshots.Taken.{AreParentsFirst, are_parents_first, numbered_entries, may_name}
use Rattle.law_snapshots.proofs.snapshots.Order.{once_ascending, once_first, once_rest}
use Rattle.law_snapshots.proofs.taking.Names.{find_same, found_there}

-- ---- entries of numbers

exists_of : (s : Server) (fs : List ℕ) (f : ℕ) → exists_in (numbered_entries s fs) f ≡ has f fs
unfolding exists_in numbered_entries
exists_of s [] f = refl
exists_of s (g ∷ fs) f = ap (λ (b : Bool). if g == f then true else b) (exists_of s fs f)

numbers_of : (s : Server) (fs : List ℕ) → numbers (numbered_entries s fs) ≡ fs
unfolding numbers numbered_entries
numbers_of s [] = refl
numbers_of s (f ∷ fs) = ap (λ (v : List ℕ). f ∷ v) (numbers_of s fs)

paths_of : (s : Server) (fs : List ℕ) (f : ℕ) → has f fs ≡ true → path_in (numbered_entries s fs) f ≡ path_of s f
unfolding path_in numbered_entries
paths_of s [] f h = absurd (cc)
paths_of s (g ∷ fs) f h = by (g == f) refl h (λ k. paths_of s fs f k)
  where
    by : (b : Bool) → (g == f) ≡ b → (if b then true else has f fs) ≡ true → (has f fs ≡ true → path_in (numbered_entries s fs) f ≡ path_of s f)
        → (if b then path_of s g else path_in (numbered_entries s fs) f) ≡ path_of s f
    by true q k rest = ap (λ (x : ℕ). path_of s x) (eqb-true g f q)
    by false q k rest = rest k

of_pushed : (s : Server) (fs : List ℕ) (f : ℕ) → numbered_entries s fs ++ record { file = f; path = path_of s f } ∷ [] ≡ numbered_entries s (fs ++ f ∷ [])
unfolding numbered_entries
of_pushed s [] f = refl
of_pushed s (g ∷ fs) f = ap (λ (v : List Entry). record { file = g; path = path_of s g } ∷ v) (of_pushed s fs f)

pub is_order : (s : Server) (fs : List ℕ) → AreParentsFirst s fs → IsOrderOf (numbered_entries s fs) s.entries
unfolding path_of
is_order s fs a = record {
  there = λ f. exists_of s fs f ∙ a.each f;
  paths = λ f h. paths_of s fs f (a.each f ∙ h);
  once = ap (λ (ns : List ℕ). are_distinct ns) (numbers_of s fs) ∙ a.once;
}

-- ---- numbers in two parts

has_front : (front back : List ℕ) (f g : ℕ) → has g front ≡ true → has g (front ++ f ∷ back) ≡ true
has_front [] back f g h = absurd (cc)
has_front (x ∷ xs) back f g h = by (x == g) h (λ k. has_front xs back f g k)
  where
    by : (b : Bool) → (if b then true else has g xs) ≡ true → (has g xs ≡ true → has g (xs ++ f ∷ back) ≡ true)
        → (if b then true else has g (xs ++ f ∷ back)) ≡ true
    by true k rest = refl
    by false k rest = rest k

has_middle : (front back : List ℕ) (f : ℕ) → has f (front ++ f ∷ back) ≡ true
has_middle [] back f = let e : (f == f) ≡ true = grind arith in ap (λ (b : Bool). if b then true else has f back) e
has_middle (x ∷ xs) back f = by (x == f) (has_middle xs back f)
  where
    by : (b : Bool) → has f (xs ++ f ∷ back) ≡ true → (if b then true else has f (xs ++ f ∷ back)) ≡ true
    by true k = refl
    by false k = k

-- a number stands in one place
once_apart : (front back : List ℕ) (f : ℕ) → are_distinct (front ++ f ∷ back) ≡ true → has f front ≡ false
unfolding are_distinct
once_apart [] back f o = refl
once_apart (x ∷ xs) back f o = by (x == f) refl (once_apart xs back f (back_of (not (has x (xs ++ f ∷ back))) _ o))
  where
    by : (b : Bool) → (x == f) ≡ b → has f xs ≡ false → (if b then true else has f xs) ≡ false
    by true q k =
        let new : has x (xs ++ f ∷ back) ≡ false = not_true (has x (xs ++ f ∷ back)) (front_of (not (has x (xs ++ f ∷ back))) _ o) in
        let own : has x (xs ++ f ∷ back) ≡ true = subst (λ (y : ℕ). has y (xs ++ f ∷ back) ≡ true) (sym (eqb-true x f q)) (has_middle xs back f) in
        absurd (cc)
    by false q k = k

-- ---- what is found among entries of numbers

found_of : (s : Server) (fs : List ℕ) (p : List ℕ) (x : ℕ) → find_in (numbered_entries s fs) p ≡ Some x
    → (has x fs ≡ true) × (same_name (path_of s x) p ≡ true)
unfolding find_in numbered_entries
found_of s [] p x h = absurd (cc)
found_of s (f ∷ fs) p x h = by (same_name (path_of s f) p) refl h (λ k. found_of s fs p x k)
  where
    some_same : (y z : ℕ) → Some y ≡ Some z → y ≡ z
    some_same y z e = cc

    own : (b : Bool) (y : ℕ) → (if y == y then true else b) ≡ true
    own b y = let e : (y == y) ≡ true = grind arith in ap (λ (k : Bool). if k then true else b) e

    later : (b k : Bool) → k ≡ true → (if b then true else k) ≡ true
    later true k h = refl
    later false k h = h

    by : (b : Bool) → same_name (path_of s f) p ≡ b → (if b then Some f else find_in (numbered_entries s fs) p) ≡ Some x
        → (find_in (numbered_entries s fs) p ≡ Some x → (has x fs ≡ true) × (same_name (path_of s x) p ≡ true))
        → ((if f == x then true else has x fs) ≡ true) × (same_name (path_of s x) p ≡ true)
    by true q k rest =
        let same : f ≡ x = some_same f x k in
        subst (λ (y : ℕ). ((if f == y then true else has y fs) ≡ true) × (same_name (path_of s y) p ≡ true)) same (own (has f fs) f, q)
    by false q k rest = let r = rest k in (later (f == x) (has x fs) r.0, r.1)

found_some : (s : Server) (fs : List ℕ) (p : List ℕ) (d : ℕ) → has d fs ≡ true → same_name (path_of s d) p ≡ true
    → is_some (find_in (numbered_entries s fs) p) ≡ true
unfolding find_in numbered_entries
found_some s [] p d h n = absurd (cc)
found_some s (f ∷ fs) p d h n = by (same_name (path_of s f) p) refl (f == d) refl h (λ k. found_some s fs p d k n)
  where
    by : (b : Bool) → same_name (path_of s f) p ≡ b → (c : Bool) → (f == d) ≡ c → (if c then true else has d fs) ≡ true
        → (has d fs ≡ true → is_some (find_in (numbered_entries s fs) p) ≡ true)
        → is_some (if b then Some f else find_in (numbered_entries s fs) p) ≡ true
    by true q c r k rest = refl
    by false q true r k rest =
        absurd (let z : same_name (path_of s f) p ≡ true = subst (λ (y : ℕ). same_name (path_of s y) p ≡ true) (sym (eqb-true f d r)) n in cc)
    by false q false r k rest = rest k

-- the name of what is found, where no number stands twice
found_name : (es : List Entry) (p : List ℕ) (d : ℕ) → are_distinct (numbers es) ≡ true → find_in es p ≡ Some d → same_name (path_in es d) p ≡ true
unfolding find_in path_in exists_in
found_name [] p d o h = absurd (cc)
found_name (e ∷ es) p d o h = by (same_name e.path p) refl (e.file == d) refl h (λ k. found_name es p d (once_rest e es o) k)
  where
    some_same : (y z : ℕ) → Some y ≡ Some z → y ≡ z
    some_same y z e = cc

    by : (b : Bool) → same_name e.path p ≡ b → (c : Bool) → (e.file == d) ≡ c → (if b then Some e.file else find_in es p) ≡ Some d
        → (find_in es p ≡ Some d → same_name (path_in es d) p ≡ true) → same_name (if c then e.path else path_in es d) p ≡ true
    by true q true r k rest = q
    by true q false r k rest = absurd (let z : e.file ≡ d = some_same e.file d k in let w : (e.file == d) ≡ true = grind arith in cc)
    by false q true r k rest =
        let there : exists_in es d ≡ true = found_there es p d k in
        let none : exists_in es d ≡ false = subst (λ (y : ℕ). exists_in es y ≡ false) (eqb-true e.file d r) (once_first e es o) in
        absurd (cc)
    by false q false r k rest = rest k

the_some : (v : Option ℕ) → is_some v ≡ true → (x : ℕ) × (v ≡ Some x)
the_some None h = absurd (cc)
the_some (Some x) h = (x, refl)

some_one : (x y : ℕ) → Some x ≡ Some y → x ≡ y
some_one x y e = cc

-- a path that ends in a name isn't empty
filled : (s : Server) (es : List Entry) (p : List ℕ) → (is_component (leaf_of p) && not (begins_with_backslash p)) ≡ true
    → find_in es p ≡ None → find (record s { entries = es }) p ≡ None
unfolding find is_component leaf_of leaf_from same_bytes
filled s es [] h e = absurd (cc)
filled s es (c ∷ cs) h e = e

-- ---- one file

module _ (s : Server) (fs : List ℕ) (i : Fits s) (ascend : FilesAscend s) (a : AreParentsFirst s fs) where
  -- a number of the list is that of the file that its path names
  one_of : (x y : ℕ) (p : List ℕ) → has x fs ≡ true → same_name (path_of s x) p ≡ true → find s p ≡ Some y → x ≡ y
  one_of x y p h n e =
      some_one x y (sym (a.named x (sym (a.each x) ∙ h)) ∙ find_same s (path_of s x) p n ∙ e)

  in_front : (front back : List ℕ) (f x : ℕ) → fs ≡ front ++ f ∷ back → has x front ≡ true → has x fs ≡ true
  in_front front back f x e h = subst (λ (v : List ℕ). has x v ≡ true) (sym e) (has_front front back f x h)

  not_yet : (front back : List ℕ) (f : ℕ) → fs ≡ front ++ f ∷ back → find s (path_of s f) ≡ Some f
      → find_in (numbered_entries s front) (path_of s f) ≡ None
  not_yet front back f e own = by (find_in (numbered_entries s front) (path_of s f)) refl
    where
      apart : has f front ≡ false
      apart = once_apart front back f (subst (λ (v : List ℕ). are_distinct v ≡ true) e a.once)

      by : (v : Option ℕ) → find_in (numbered_entries s front) (path_of s f) ≡ v → v ≡ None
      by None q = refl
      by (Some x) q =
          let r = found_of s front (path_of s f) x q in
          let same : x ≡ f = one_of x f (path_of s f) (in_front front back f x e r.0) r.1 own in
          absurd (let z : has f front ≡ true = subst (λ (y : ℕ). has y front ≡ true) same r.0 in let w : has f front ≡ false = apart in cc)

  house_before : (front back : List ℕ) (f d : ℕ) (q : List ℕ) → fs ≡ front ++ f ∷ back → parent_of (path_of s f) ≡ q
      → (v : Option ℕ) → find s q ≡ v → is_found_directory s v ≡ true
      → is_found_directory (record s { entries = numbered_entries s front }) (find (record s { entries = numbered_entries s front }) q) ≡ true
  unfolding find is_found_directory is_directory path_of
  house_before front back f d q e p None r h = absurd (cc)
  house_before front back f d [] e p (Some k) r h = refl
  house_before front back f d (c ∷ cs) e p (Some k) r h =
      let there : exists_in s.entries k ≡ true = found_there s.entries (c ∷ cs) k r in
      let off : (k == root) ≡ false = let l = (i.file_numbers k there).0 in grind (arith, nat_tests) in
      let named : find s (parent_of (path_of s f)) ≡ Some k = ap (λ (x : List ℕ). find s x) p ∙ r in
      let front_has : has k front ≡ true = a.behind front back f k e named off in
      let name : same_name (path_of s k) (c ∷ cs) ≡ true =
      found_name s.entries (c ∷ cs) k (once_ascending (numbers s.entries) ascend) r in
      let some = the_some (find_in (numbered_entries s front) (c ∷ cs)) (found_some s front (c ∷ cs) k front_has name) in
      let got = found_of s front (c ∷ cs) some.0 some.1 in
      let same : some.0 ≡ k = one_of some.0 k (c ∷ cs) (in_front front back f some.0 e got.0) got.1 r in
      ap (λ (v : Option ℕ). is_found_directory (record s { entries = numbered_entries s front }) v) (some.1 ∙ ap (λ (x : ℕ). Some x) same) ∙ h

  name_given : (front back : List ℕ) (f : ℕ) → fs ≡ front ++ f ∷ back
      → may_name (record s { entries = numbered_entries s front }) (path_of s f) ≡ true
  unfolding may_name has_parent
  name_given front back f e =
      let there : exists_in s.entries f ≡ true =
      sym (a.each f) ∙ subst (λ (v : List ℕ). has f v ≡ true) (sym e) (has_middle front back f) in
      let free : not (is_some (find (record s { entries = numbered_entries s front }) (path_of s f))) ≡ true =
      ap (λ (v : Option ℕ). not (is_some v)) (filled s (numbered_entries s front) (path_of s f) (a.placeable f there) (not_yet front back f e (a.named f there))) in
      let housed = house_before front back f f (parent_of (path_of s f)) e refl (find s (parent_of (path_of s f))) refl (a.housed f there) in
      both (is_component (leaf_of (path_of s f)) && not (begins_with_backslash (path_of s f))) _ (a.placeable f there) (both _ _ free housed)

  all_behind : (front back : List ℕ) → fs ≡ front ++ back → are_parents_first s (numbered_entries s front) (numbered_entries s back) ≡ true
  unfolding are_parents_first numbered_entries
  all_behind front [] e = refl
  all_behind front (f ∷ back) e =
      both (may_name (record s { entries = numbered_entries s front }) (path_of s f)) _ (name_given front back f e)
      (ap (λ (v : List Entry). are_parents_first s v (numbered_entries s back)) (of_pushed s front f)
      ∙ all_behind (front ++ f ∷ []) back (e ∙ sym (append_assoc front (f ∷ []) back)))

pub ordered : (s : Server) (fs : List ℕ) → Fits s → FilesAscend s → AreParentsFirst s fs → IsOrderOf (numbered_entries s fs) s.entries
    × (are_parents_first s [] (numbered_entries s fs) ≡ true)
unfolding numbered_entries
ordered s fs i ascend a = (is_order s fs a, all_behind s fs i ascend a [] fs refl)
