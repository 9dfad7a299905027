-- The files in the order of their keys: each once, behind the directory in which it stands.
use Rattle.std.proofs.Common.{◌≡◌, ◌⊎◌, inl, inr, ℕ, ◌<◌, ◌==◌, Bool, true, false, ◌&&◌, ◌||◌, not, if◌then◌else◌, List, [], ◌∷◌, ◌++◌}
use Rattle.std.proofs.Common.{length, String, Option, Some, None, is_some, unwrap_or, refl, sym, ap, subst, ◌∙◌, arith}
use Rattle.std.specs.Bool.{⊤}
use Rattle.std.proofs.lemmas.Bool.Decides.{nat_tests}
use Rattle.std.proofs.lemmas.Cmp.{nat_list_cmp_total}
use Rattle.std.proofs.lemmas.List.{append-nil, append_assoc}
use Rattle.std.specs.String.{string_bytes, string_cmp}
use Rattle.std.specs.Ordering.{is_eq, nat_cmp, ordering_reverse}
use Rattle.std.specs.declared.cmp.Ordering.{Ordering}
use Rattle.std.specs.declared.cmp.Ordering.TheVariants.{Less, Greater, Equal}
use Rattle.std.specs.Map.{keys_of}
use Rattle.std.specs.List.Sorted.{IsStrictlySortedBy}
use Rattle.std.specs.Cmp.Lexicographic.{slice_cmp}
use Rattle.std.specs.BTreeMap.{get_by_text}
use Rattle.spec_exchange.specs.Table.{has}
use Rattle.spec_exchange.specs.State.{Server, Entry}
use Rattle.spec_exchange.specs.Texts.{is_component, leaf_of, parent_of, begins_with_backslash}
use Rattle.spec_exchange.specs.Files.{root, find, exists_in, path_in, path_of, has_parent, is_found_directory, is_directory, used}
use Rattle.store_files.specs.declared.file_tree.tree.Tree.{Tree}
use Rattle.store_files.specs.file_tree.Shown.{folded, at_key, path_at, FileApart, AllPlain, IsHouse, ShowsFiles}
use Rattle.store_files.specs.file_tree.Placed.{is_placeable, Once, IsPathOrder}
use Rattle.store_files.proofs.file_tree.Children.{has_slash, parent_is, parent_whole}
use Rattle.store_files.proofs.file_tree.Entries.{key_of_path}
use Rattle.store_files.proofs.file_tree.Found.{key_there}
use Rattle.store_files.proofs.file_tree.Full.{path_filled}
use Rattle.store_files.proofs.file_tree.Housed.{last_slash, folded_append}
use Rattle.store_files.proofs.file_tree.Indexed.{all_found}
use Rattle.store_files.proofs.file_tree.Keys.{find_other, exists_is, path_is, some_there}
use Rattle.store_files.proofs.file_tree.Moving.{path_of_key}
use Rattle.store_files.proofs.file_tree.Pairs.{at_text, AreLater, InOrder, in_order}
use Rattle.store_files.proofs.file_tree.Taking.{AllFound}

-- ---- a key and what goes on behind it

goes_on : (a : List ℕ) (c : ℕ) (r : List ℕ) → slice_cmp nat_cmp a (a ++ c ∷ r) ≡ Less
goes_on [] c r = refl
goes_on (x ∷ xs) c r = let h = goes_on xs c r in grind (arith, nat_tests)

not_itself : (a : List ℕ) → slice_cmp nat_cmp a a ≡ Less → true ≡ false
not_itself a e = absurd (let x = sym (nat_list_cmp_total.antisymm a a) ∙ e in let y = ap ordering_reverse e in cc)

not_both : (a b : List ℕ) → slice_cmp nat_cmp a b ≡ Less → slice_cmp nat_cmp b a ≡ Less → true ≡ false
not_both a b e f = absurd (let x = nat_list_cmp_total.antisymm a b in let y = ap ordering_reverse f in cc)

self_same : (f : ℕ) → (f == f) ≡ true
self_same f = grind (arith, nat_tests)

if_true : (b : Bool) (x : Bool) → x ≡ true → (if b then true else x) ≡ true
if_true true x e = refl
if_true false x e = e

same_path : (es : List Entry) (f : ℕ) (p q : List ℕ) → path_at es f ≡ Some p → path_at es f ≡ Some q → p ≡ q
same_path es f p q a b = cc

long : (c : ℕ) (cs : List ℕ) → (length (c ∷ cs) == 0) ≡ false
long c cs = grind arith

-- ---- numbers of the index

module _ {Y : Type 0} where
  abbrev pub numbers : List (String Y × ℕ) → List ℕ
  numbers [] = []
  numbers (e ∷ es) = e.1 ∷ numbers es

  module _ (s : Server) (apart : FileApart s.entries) where
    -- each key is that of its file's path
    abbrev Keyed : List (String Y × ℕ) → Type 0
    Keyed [] = ⊤
    Keyed (e ∷ es) = ((p : List ℕ) × (path_at s.entries e.1 ≡ Some p) × (folded p ≡ string_bytes e.0)) × Keyed es

    keyed : (at : List ℕ → Option ℕ) (es : List (String Y × ℕ)) → ((q : List ℕ) → at q ≡ at_key s.entries q) → AllFound at es → Keyed es
    keyed at [] same h = tt
    keyed at (e ∷ es) same h = (
      path_of_key s.entries (string_bytes e.0) e.1 apart (sym (same (string_bytes e.0)) ∙ h.0),
      keyed at es same h.1,
    )

    -- what stands behind a key has a greater one
    behind : (k : List ℕ) (es : List (String Y × ℕ)) (f : ℕ) (p : List ℕ) → AreLater k es → Keyed es → path_at s.entries f ≡ Some p
        → has f (numbers es) ≡ true → slice_cmp nat_cmp k (folded p) ≡ Less
    behind k [] f p l h e there = absurd (cc)
    behind k (x ∷ xs) f p l h e there = by (x.1 == f) refl there (λ u. behind k xs f p l.1 h.1 e u)
      where
        by : (b : Bool) → (x.1 == f) ≡ b → (if b then true else has f (numbers xs)) ≡ true
            → (has f (numbers xs) ≡ true → slice_cmp nat_cmp k (folded p) ≡ Less) → slice_cmp nat_cmp k (folded p) ≡ Less
        by true t u more =
            let same : x.1 ≡ f = grind (arith, nat_tests) in
            let q = same_path s.entries f h.0.0 p (ap (path_at s.entries) (sym same) ∙ h.0.1) e in
            subst (λ (r : List ℕ). slice_cmp nat_cmp k r ≡ Less) (sym h.0.2 ∙ ap folded q) l.0
        by false t u more = more u

    once_in : (es : List (String Y × ℕ)) → InOrder es → Keyed es → Once (numbers es)
    once_in [] o h = tt
    once_in (e ∷ es) o h = (by (has e.1 (numbers es)) refl, once_in es o.1 h.1)
      where
        by : (b : Bool) → has e.1 (numbers es) ≡ b → b ≡ false
        by false t = refl
        by true t = not_itself (folded h.0.0) (subst (λ (k : List ℕ). slice_cmp nat_cmp k (folded h.0.0) ≡ Less) (sym h.0.2)
            (behind (string_bytes e.0) es e.1 h.0.0 o.0 h.1 h.0.1 t))

    -- what has a lesser key stands before it
    before : (es : List (String Y × ℕ)) (front back : List ℕ) (f d : ℕ) (p q : List ℕ) → InOrder es → Keyed es
        → numbers es ≡ front ++ f ∷ back → path_at s.entries f ≡ Some p → path_at s.entries d ≡ Some q
        → slice_cmp nat_cmp (folded q) (folded p) ≡ Less → has d (numbers es) ≡ true → has d front ≡ true
    before [] [] back f d p q o h split e g less there = absurd (cc)
    before [] (x ∷ xs) back f d p q o h split e g less there = absurd (cc)
    before (z ∷ zs) [] back f d p q o h split e g less there = absurd (by (z.1 == d) refl there)
      where
        first : z.1 ≡ f
        first = cc

        own : folded p ≡ string_bytes z.0
        own = ap folded (same_path s.entries f p h.0.0 e (ap (path_at s.entries) (sym first) ∙ h.0.1)) ∙ h.0.2

        by : (b : Bool) → (z.1 == d) ≡ b → (if b then true else has d (numbers zs)) ≡ true → ⊥
        by true t u =
            let same : z.1 ≡ d = grind (arith, nat_tests) in
            let r = same_path s.entries d q p g (ap (path_at s.entries) (sym same ∙ first) ∙ e) in
            let n = not_itself (folded p) (subst (λ (k : List ℕ). slice_cmp nat_cmp (folded k) (folded p) ≡ Less) r less) in cc
        by false t u =
            let m = behind (string_bytes z.0) zs d q o.0 h.1 g u in
            let n = not_both (folded q) (folded p) less (subst (λ (k : List ℕ). slice_cmp nat_cmp k (folded q) ≡ Less) (sym own) m) in cc
    before (z ∷ zs) (x ∷ xs) back f d p q o h split e g less there =
        let first : z.1 ≡ x = cc in
        let rest : numbers zs ≡ xs ++ f ∷ back = cc in
        by (x == d) refl (ap (λ (y : ℕ). if y == d then true else has d (numbers zs)) (sym first) ∙ there)
        (λ u. before zs xs back f d p q o.1 h.1 rest e g less u)
      where
        by : (b : Bool) → (x == d) ≡ b → (if b then true else has d (numbers zs)) ≡ true
            → (has d (numbers zs) ≡ true → has d xs ≡ true) → (if b then true else has d xs) ≡ true
        by true t u more = refl
        by false t u more = more u

    number_there : (es : List (String Y × ℕ)) (f : ℕ) → Keyed es → has f (numbers es) ≡ true → exists_in s.entries f ≡ true
    number_there [] f h there = absurd (cc)
    number_there (x ∷ xs) f h there = by (x.1 == f) refl there (λ u. number_there xs f h.1 u)
      where
        by : (b : Bool) → (x.1 == f) ≡ b → (if b then true else has f (numbers xs)) ≡ true
            → (has f (numbers xs) ≡ true → exists_in s.entries f ≡ true) → exists_in s.entries f ≡ true
        by true t u more =
            let same : x.1 ≡ f = grind (arith, nat_tests) in
            exists_is s.entries f ∙ ap is_some (ap (path_at s.entries) (sym same) ∙ h.0.1)
        by false t u more = more u

  named_there : (es : List (String Y × ℕ)) (q : List ℕ) (f : ℕ) → at_text es q ≡ Some f → has f (numbers es) ≡ true
  named_there [] q f e = absurd (cc)
  named_there (x ∷ xs) q f e = by (is_eq (slice_cmp nat_cmp q (string_bytes x.0))) e (λ i. named_there xs q f i)
    where
      by : (b : Bool) → (if b then Some x.1 else at_text xs q) ≡ Some f → (at_text xs q ≡ Some f → has f (numbers xs) ≡ true)
          → (if x.1 == f then true else has f (numbers xs)) ≡ true
      by true i more = let same : x.1 ≡ f = cc in ap (λ (c : Bool). if c then true else has f (numbers xs))
          (ap (λ (y : ℕ). y == f) same ∙ self_same f)
      by false i more = if_true (x.1 == f) (has f (numbers xs)) (more i)

-- ---- what the state says of a file that is there

same_there : (b c : Bool) → (b ≡ true → c ≡ true) → (c ≡ true → b ≡ true) → b ≡ c
same_there true true f g = refl
same_there true false f g = sym (f refl)
same_there false true f g = g refl
same_there false false f g = refl

plain_there : (xs : List Entry) (f : ℕ) (p : List ℕ) → AllPlain xs → path_at xs f ≡ Some p → (is_component (leaf_of p) ≡ true)
    × (begins_with_backslash p ≡ false)
unfolding path_at
plain_there [] f p a e = absurd (cc)
plain_there (x ∷ xs) f p a e = by (x.file == f) e (plain_there xs f p a.2)
  where
    by : (b : Bool) → (if b then Some x.path else path_at xs f) ≡ Some p
        → (path_at xs f ≡ Some p → (is_component (leaf_of p) ≡ true) × (begins_with_backslash p ≡ false))
        → (is_component (leaf_of p) ≡ true) × (begins_with_backslash p ≡ false)
    by true i t = let same : x.path ≡ p = cc in (ap (λ q. is_component (leaf_of q)) (sym same) ∙ a.0, ap begins_with_backslash (sym same) ∙ a.1)
    by false i t = t i

module _ (t : Tree) (s : Server) (h : ShowsFiles t s) where
  path_there : (f : ℕ) → exists_in s.entries f ≡ true → path_at s.entries f ≡ Some (path_of s f)
  unfolding path_of
  path_there f e = some_there s.entries f e

  filled : (f : ℕ) → exists_in s.entries f ≡ true → (length (path_of s f) == 0) ≡ false
  filled f e = path_filled s.entries f (path_of s f) h.rows.apart h.rows.no_empty (path_there f e)

  key_there_of : (f : ℕ) → exists_in s.entries f ≡ true → at_key s.entries (folded (path_of s f)) ≡ Some f
  key_there_of f e = key_of_path s.entries f (path_of s f) h.rows.apart (path_there f e)

  pub named_so : (f : ℕ) → exists_in s.entries f ≡ true → find s (path_of s f) ≡ Some f
  named_so f e = find_other s (path_of s f) (filled f e) ∙ key_there_of f e

  pub placeable_so : (f : ℕ) → exists_in s.entries f ≡ true → is_placeable (path_of s f) ≡ true
  placeable_so f e = let p = plain_there s.entries f (path_of s f) h.rows.plain (path_there f e) in rw (p.0, p.1) refl

  house_found : (o : Option ℕ) → IsHouse o s.directory → is_found_directory s o ≡ true
  unfolding is_found_directory is_directory
  house_found None i = absurd i
  house_found (Some g) i = rw i (either (g == 0))
    where
      either : (b : Bool) → (b || true) ≡ true
      either true = refl
      either false = refl

  root_found : is_found_directory s (find s []) ≡ true
  unfolding is_found_directory is_directory find
  root_found = refl

  parent_found : (d : List ℕ) → ((length d == 0) ≡ false → IsHouse (at_key s.entries (folded d)) s.directory)
      → is_found_directory s (find s d) ≡ true
  parent_found [] i = root_found
  parent_found (c ∷ cs) i = ap (is_found_directory s) (find_other s (c ∷ cs) (long c cs))
      ∙ house_found (at_key s.entries (folded (c ∷ cs))) (i (long c cs))

  -- the key of a path that is cut at its last backslash
  cut_key : (p d l : List ℕ) → p ≡ d ++ 92 ∷ l → folded p ≡ folded d ++ 92 ∷ folded l
  cut_key p d l e = ap folded e ∙ folded_append d (92 ∷ l)

  pub housed_so : (f : ℕ) → exists_in s.entries f ≡ true → has_parent s (path_of s f) ≡ true
  unfolding has_parent
  housed_so f e = by (has_slash (path_of s f)) refl
    where
      by : (b : Bool) → has_slash (path_of s f) ≡ b → is_found_directory s (find s (parent_of (path_of s f))) ≡ true
      by false n = ap (λ (q : List ℕ). is_found_directory s (find s q)) (parent_whole (path_of s f) n) ∙ root_found
      by true n =
          let c = last_slash (path_of s f) n in
          let k = cut_key (path_of s f) c.0 c.1 c.2 in
          ap (λ (q : List ℕ). is_found_directory s (find s q)) (ap parent_of c.2 ∙ parent_is c.0 c.1 c.3)
          ∙ parent_found c.0 (λ z. h.rows.housed (folded c.0) (folded c.1)
          (ap (λ (q : List ℕ). is_some (at_key s.entries q)) (sym k) ∙ ap is_some (key_there_of f e)))

  root_number : (d : ℕ) → find s [] ≡ Some d → (d == root) ≡ true
  unfolding find
  root_number d e = let z : 0 ≡ d = cc in grind (arith, nat_tests)

  found_other : (p : List ℕ) (d : ℕ) → find s p ≡ Some d → (d == root) ≡ false → at_key s.entries (folded p) ≡ Some d
  found_other [] d e n = absurd (let r = root_number d e in cc)
  found_other (c ∷ cs) d e n = sym (find_other s (c ∷ cs) (long c cs)) ∙ e

  -- the directory of a file has a lesser key
  lesser_key : (f d : ℕ) → find s (parent_of (path_of s f)) ≡ Some d → (d == root) ≡ false
      → (q : List ℕ) × (path_at s.entries d ≡ Some q) × (slice_cmp nat_cmp (folded q) (folded (path_of s f)) ≡ Less)
  lesser_key f d e n = by (has_slash (path_of s f)) refl
    where
      by : (b : Bool) → has_slash (path_of s f) ≡ b
          → (q : List ℕ) × (path_at s.entries d ≡ Some q) × (slice_cmp nat_cmp (folded q) (folded (path_of s f)) ≡ Less)
      by false i = absurd (let r = root_number d (ap (find s) (sym (parent_whole (path_of s f) i)) ∙ e) in cc)
      by true i =
          let c = last_slash (path_of s f) i in
          let k = cut_key (path_of s f) c.0 c.1 c.2 in
          let at = found_other c.0 d (ap (find s) (sym (ap parent_of c.2 ∙ parent_is c.0 c.1 c.3)) ∙ e) n in
          let g = path_of_key s.entries (folded c.0) d h.rows.apart at in (
            g.0,
            g.1,
            ap (λ (x : List ℕ). slice_cmp nat_cmp x (folded (path_of s f))) g.2
                ∙ (ap (slice_cmp nat_cmp (folded c.0)) k ∙ goes_on (folded c.0) 92 (folded c.1)),
          )

  pub by_path_is : used s < 0x1_0000_0000_0000_0000 → IsStrictlySortedBy string_cmp (keys_of t.paths.entries)
      → IsPathOrder (numbers t.paths.entries) s
  by_path_is small sorted =
      let es = t.paths.entries in
      let o = in_order es sorted in
      let k = keyed s h.rows.apart (at_text es) es (λ q. h.keys_are q) (all_found es o) in
      let each : (f : ℕ) → has f (numbers es) ≡ exists_in s.entries f =
      λ f. same_there (has f (numbers es)) (exists_in s.entries f) (number_there s h.rows.apart es f k)
      (λ e. named_there es (folded (path_of s f)) f (h.keys_are (folded (path_of s f)) ∙ key_there_of f e)) in
      record {
        each = each;
        once = once_in s h.rows.apart es o k;
        behind_parent = λ front back f d split e n.
            let g = lesser_key f d e n in
            let there : exists_in s.entries f ≡ true = sym (each f) ∙ (ap (has f) split ∙ middle f front back) in
            let dir : exists_in s.entries d ≡ true = exists_is s.entries d ∙ ap is_some g.1 in
            before s h.rows.apart es front back f d (path_of s f) g.0 o k split (path_there f there) g.1 g.2 (each d ∙ dir);
        named = named_so;
        placeable = placeable_so;
        housed = housed_so;
        small = small;
      }
    where
      middle : (f : ℕ) (front back : List ℕ) → has f (front ++ f ∷ back) ≡ true
      middle f [] back = rw (self_same f) refl
      middle f (x ∷ xs) back = if_true (x == f) (has f (xs ++ f ∷ back)) (middle f xs back)

-- ---- the walk, step by step

module _ {Y : Type 0} where
  pub numbers_on : (all : List ℕ) (it rest : List (String Y × ℕ)) (k : String Y) (f : ℕ) (was now : List ℕ)
      → was ++ numbers it ≡ all → it ≡ (k, f) ∷ rest → now ≡ was ++ f ∷ [] → now ++ numbers rest ≡ all
  numbers_on all it rest k f was now h e n =
      ap (λ (l : List ℕ). l ++ numbers rest) n ∙ (append_assoc was (f ∷ []) (numbers rest)
      ∙ (ap (λ (l : List (String Y × ℕ)). was ++ numbers l) (sym e) ∙ h))

  pub numbers_end : (all : List ℕ) (it : List (String Y × ℕ)) (was : List ℕ) → was ++ numbers it ≡ all → it ≡ [] → was ≡ all
  numbers_end all it was h e = sym (append-nil was) ∙ (ap (λ (l : List (String Y × ℕ)). was ++ numbers l) (sym e) ∙ h)
