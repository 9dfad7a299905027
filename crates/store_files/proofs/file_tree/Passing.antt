-- A look-up behind what stands below a directory passes no name.
use Rattle.std.proofs.Common.{◌≡◌, ℕ, zero, suc, ◌+◌, ◌<◌, ◌≤◌, ◌==◌, Bool, true, false, not, ◌&&◌, if◌then◌else◌}
use Rattle.std.proofs.Common.{List, [], ◌∷◌, ◌++◌, length, drop, String, Option, Some, None, refl, sym, ap, subst, ◌∙◌}
use Rattle.std.proofs.Common.{arith}
use Rattle.std.specs.Bool.{⊤}
use Rattle.std.proofs.lemmas.Grind.{common_steps}
use Rattle.std.proofs.lemmas.Bool.Decides.{nat_tests}
use Rattle.std.proofs.lemmas.Cmp.{nat_list_cmp_total}
use Rattle.std.specs.String.{string_bytes, string_cmp}
use Rattle.std.specs.Map.{keys_of}
use Rattle.std.specs.List.Sorted.{IsStrictlySortedBy}
use Rattle.std.specs.declared.ops.Bound.TheVariants.{Included, Unbounded}
use Rattle.std.specs.BTreeMap.Range.{entries_between}
use Rattle.std.specs.Ordering.{nat_cmp, ordering_reverse}
use Rattle.std.specs.declared.cmp.Ordering.TheVariants.{Less, Greater}
use Rattle.std.specs.Cmp.Lexicographic.{slice_cmp}
use Rattle.spec_exchange.specs.State.{Named}
use Rattle.store_files.specs.file_tree.Keys.{key_begins, key_le, has_slash}
use Rattle.spec_exchange.specs.Listing.{rank}
use Rattle.store_files.specs.file_tree.Shown.{folded}
use Rattle.store_files.specs.file_tree.Listed.{from_key, is_child, kids, start_key}
use Rattle.store_files.proofs.file_tree.Target.{begins_append}
use Rattle.store_files.proofs.file_tree.Order.{front_le}
use Rattle.store_files.proofs.file_tree.Pairs.{at_text, AreLater, InOrder, AreFrom, in_order, order_from, from_front}
use Rattle.store_files.proofs.file_tree.Taking.{AllFound, le_more, from_is, found_from, from_more, no_kids, kid_taken}
use Rattle.store_files.proofs.file_tree.Indexed.{all_found}

-- ---- keys

less_le : (a b : List ℕ) → slice_cmp nat_cmp a b ≡ Less → key_le a b ≡ true
less_le a b e = rw e refl

not_back : (a b : List ℕ) → slice_cmp nat_cmp a b ≡ Less → key_le b a ≡ false
not_back a b e = let t : slice_cmp nat_cmp b a ≡ Greater = nat_list_cmp_total.antisymm b a ∙ ap ordering_reverse e in rw t refl

-- what stands behind a key that stands behind another
not_before : (a b q : List ℕ) → slice_cmp nat_cmp a b ≡ Less → key_le b q ≡ true → key_le q a ≡ false
not_before a b q e l = by (key_le q a) refl
  where
    by : (c : Bool) → key_le q a ≡ c → c ≡ false
    by false i = refl
    by true i = absurd (let x = le_more b q a l i in let y = not_back a b e in cc)

between : (d r x : List ℕ) → key_le (d ++ 92 ∷ r) x ≡ true → key_le (d ++ 93 ∷ []) x ≡ false → key_begins (d ++ 92 ∷ []) x ≡ true
unfolding key_begins
between [] r [] a b = absurd (cc)
between [] r (c ∷ []) a b = grind (arith, common_steps, nat_tests)
between [] r (c ∷ e ∷ es) a b = grind (arith, common_steps, nat_tests)
between (y ∷ ys) r [] a b = absurd (cc)
between (y ∷ ys) r (c ∷ cs) a b = let h = between ys r cs in grind (arith, common_steps, nat_tests)

below_next : (d r : List ℕ) → slice_cmp nat_cmp (d ++ 92 ∷ r) (d ++ 93 ∷ []) ≡ Less
below_next [] r = refl
below_next (y ∷ ys) r = let h = below_next ys r in grind (arith, common_steps, nat_tests)

slash_in : (d x : List ℕ) → key_begins (d ++ 92 ∷ []) x ≡ true → has_slash x ≡ true
unfolding key_begins has_slash
slash_in [] [] e = absurd (cc)
slash_in [] (c ∷ cs) e = grind (arith, common_steps, nat_tests)
slash_in (y ∷ ys) [] e = absurd (cc)
slash_in (y ∷ ys) (c ∷ cs) e = let h = slash_in ys cs in grind (arith, common_steps)

slash_behind : (n : ℕ) (d x : List ℕ) → n ≤ length d → key_begins (d ++ 92 ∷ []) x ≡ true → has_slash (drop n x) ≡ true
unfolding key_begins
slash_behind zero d x l e = slash_in d x e
slash_behind (suc n) [] x l e = absurd (omega arith)
slash_behind (suc n) (y ∷ ys) [] l e = absurd (cc)
slash_behind (suc n) (y ∷ ys) (c ∷ cs) l e = slash_behind n ys cs (omega arith) (grind (arith, common_steps))

-- what stands below a directory is no name of the front's
no_kid : (front d rest : List ℕ) → length front ≤ length d → (x : List ℕ) → key_le (d ++ 92 ∷ rest) x ≡ true
    → key_le (d ++ 93 ∷ []) x ≡ false → is_child front x ≡ false
no_kid front d rest l x a b = off (key_begins front x) (has_slash (drop (length front) x))
    (slash_behind (length front) d x l (between d rest x a b))
  where
    off : (b c : Bool) → c ≡ true → (b && not c) ≡ false
    off true true e = refl
    off true false e = absurd (cc)
    off false c e = refl

-- ---- the index from a key on

-- from its first key on the index is this
abbrev pub IsRest : {Y : Type 0} → List (String Y × ℕ) → List (String Y × ℕ) → Type 0
IsRest all [] = ⊤
IsRest all (e ∷ es) = (q : List ℕ) → key_le (string_bytes e.0) q ≡ true → from_key q all ≡ from_key q (e ∷ es)

-- what is known of the rest of the index under way
pub record Runs {Y : Type 0} (front start : List ℕ) (all it : List (String Y × ℕ)) : Type 0 where
  pub order : InOrder it
  pub behind : key_le front start ≡ true → AreFrom front it
  pub found : AllFound (at_text all) it
  pub rest : IsRest all it
  pub fewer : length it ≤ length (from_key start all)

module _ {Y : Type 0} where
  pub rest_on : (all : List (String Y × ℕ)) (e : String Y × ℕ) (es : List (String Y × ℕ)) → InOrder (e ∷ es)
      → IsRest all (e ∷ es) → IsRest all es
  rest_on all e [] o h = tt
  rest_on all e (x ∷ xs) o h = λ q l.
      let a = o.0.0 in
      h q (le_more (string_bytes e.0) (string_bytes x.0) q (less_le (string_bytes e.0) (string_bytes x.0) a) l)
      ∙ rw (not_before (string_bytes e.0) (string_bytes x.0) q a l) refl

  from_twice : (start q : List ℕ) (es : List (String Y × ℕ)) → key_le start q ≡ true → from_key q es ≡ from_key q (from_key start es)
  from_twice start q [] l = refl
  from_twice start q (e ∷ es) l = by (key_le start (string_bytes e.0)) refl (key_le q (string_bytes e.0)) refl (from_twice start q es l)
    where
      by : (b : Bool) → key_le start (string_bytes e.0) ≡ b → (c : Bool) → key_le q (string_bytes e.0) ≡ c
          → from_key q es ≡ from_key q (from_key start es)
          → (if c then e ∷ from_key q es else from_key q es) ≡ from_key q (if b then e ∷ from_key start es else from_key start es)
      by true i true j t = rw j (ap (λ (l : List (String Y × ℕ)). e ∷ l) t)
      by true i false j t = rw j t
      by false i false j t = t
      by false i true j t = absurd (let x = le_more start q (string_bytes e.0) l j in cc)

  pub rest_first : (start : List ℕ) (all it : List (String Y × ℕ)) → it ≡ from_key start all → AreFrom start it → IsRest all it
  rest_first start all [] e a = tt
  rest_first start all (x ∷ xs) e a = λ q l.
      from_twice start q all (le_more start (string_bytes x.0) q a.0 l) ∙ ap (from_key q) (sym e)

  no_more : (q : List ℕ) (es : List (String Y × ℕ)) → length (from_key q es) ≤ length es
  no_more q [] = omega arith
  no_more q (e ∷ es) = by (key_le q (string_bytes e.0)) (no_more q es)
    where
      by : (b : Bool) → length (from_key q es) ≤ length es → length (if b then e ∷ from_key q es else from_key q es) ≤ length (e ∷ es)
      by true t = omega arith
      by false t = omega arith

  later_from : (k : List ℕ) (es : List (String Y × ℕ)) → AreLater k es → AreFrom k es
  later_from k [] h = tt
  later_from k (e ∷ es) h = (less_le k (string_bytes e.0) h.0, later_from k es h.1)

  module _ (names : ℕ → Named) (front d rest : List ℕ) (l : length front ≤ length d) where
    passed : (es : List (String Y × ℕ)) → AreFrom (d ++ 92 ∷ rest) es → kids names front es ≡ kids names front (from_key (d ++ 93 ∷ []) es)
    passed [] h = refl
    passed (e ∷ es) h = by (key_le (d ++ 93 ∷ []) (string_bytes e.0)) refl (passed es h.1)
      where
        same : (b : Bool) → kids names front es ≡ kids names front (from_key (d ++ 93 ∷ []) es)
            → (if b then names e.1 ∷ kids names front es else kids names front es)
            ≡ (if b then names e.1 ∷ kids names front (from_key (d ++ 93 ∷ []) es) else kids names front
            (from_key (d ++ 93 ∷ []) es))
        same true t = ap (λ (l : List Named). names e.1 ∷ l) t
        same false t = t

        by : (b : Bool) → key_le (d ++ 93 ∷ []) (string_bytes e.0) ≡ b → kids names front es
            ≡ kids names front (from_key (d ++ 93 ∷ []) es) → kids names front (e ∷ es)
            ≡ kids names front (if b then e ∷ from_key (d ++ 93 ∷ []) es else from_key (d ++ 93 ∷ []) es)
        by true i t = same (is_child front (string_bytes e.0)) t
        by false i t = rw (no_kid front d rest l (string_bytes e.0) h.0 i) t

    -- the names of what is left stand behind it
    pub jumped : (all it es : List (String Y × ℕ)) (k : String Y) (v : ℕ) → it ≡ (k, v) ∷ es → string_bytes k ≡ d
        ++ 92 ∷ rest → InOrder it → IsRest all it
        → (kids names front it ≡ kids names front (from_key (d ++ 93 ∷ []) all)) × (length (from_key (d ++ 93 ∷ []) all) < length it)
    jumped all it es k v e s o r =
        let p : InOrder ((k, v) ∷ es) = subst (λ (x : List (String Y × ℕ)). InOrder x) e o in
        let q : IsRest all ((k, v) ∷ es) = subst (λ (x : List (String Y × ℕ)). IsRest all x) e r in
        let less : slice_cmp nat_cmp (string_bytes k) (d ++ 93 ∷ []) ≡ Less =
        ap (λ (x : List ℕ). slice_cmp nat_cmp x (d ++ 93 ∷ [])) s ∙ below_next d rest in
        let gone : key_le (d ++ 93 ∷ []) (string_bytes k) ≡ false = not_back (string_bytes k) (d ++ 93 ∷ []) less in
        let left : from_key (d ++ 93 ∷ []) all ≡ from_key (d ++ 93 ∷ []) es = q (d ++ 93 ∷ [])
        (less_le (string_bytes k) (d ++ 93 ∷ []) less) ∙ rw gone refl in
        let child : is_child front (string_bytes k) ≡ false = no_kid front d rest l (string_bytes k)
        (ap (λ (x : List ℕ). key_le (d ++ 92 ∷ rest) x) s ∙ itself (d ++ 92 ∷ rest)) gone in
        let first : kids names front ((k, v) ∷ es) ≡ kids names front es = rw child refl in
        let later = later_from (string_bytes k) es p.0 in
        let rest_kids = passed es (subst (λ (x : List ℕ). AreFrom x es) s later) in
        let fewer = no_more (d ++ 93 ∷ []) es in
        let whole : length it ≡ suc (length es) = ap (λ (x : List (String Y × ℕ)). length x) e in (
          ap (kids names front) e ∙ (first ∙ (rest_kids ∙ ap (kids names front) (sym left))),
          (let size = ap (λ (x : List (String Y × ℕ)). length x) left in omega arith),
        )
      where
        itself : (x : List ℕ) → key_le x x ≡ true
        itself [] = refl
        itself (c ∷ cs) = let h = itself cs in grind (arith, common_steps, nat_tests)

  -- ---- a run of names

  pub run_begun : (front : List ℕ) (start : String Y) (all it : List (String Y × ℕ)) → it ≡ entries_between string_cmp
      (Included start) Unbounded all → IsStrictlySortedBy string_cmp (keys_of all)
      → (it ≡ from_key (string_bytes start) all) × Runs front (string_bytes start) all it
  run_begun front start all it i o =
      let e = i ∙ from_is start all in
      let order = in_order all o in
      let first : AreFrom (string_bytes start) it = subst (λ (x : List (String Y × ℕ)). AreFrom (string_bytes start) x)
      (sym i) (from_front start all) in
      let size = ap (λ (x : List (String Y × ℕ)). length x) e in (
        e,
        record {
          order = subst (λ (x : List (String Y × ℕ)). InOrder x) (sym i) (order_from start all order);
          behind = λ l. from_more front (string_bytes start) it l first;
          found = subst (λ (x : List (String Y × ℕ)). AllFound (at_text all) x) (sym e)
              (found_from (at_text all) (string_bytes start) all (all_found all order));
          rest = rest_first (string_bytes start) all it e first;
          fewer = omega arith;
        },
      )

  pub run_on : (front start : List ℕ) (all it es : List (String Y × ℕ)) (k : String Y) (v : ℕ) → it ≡ (k, v) ∷ es
      → Runs front start all it → Runs front start all es
  run_on front start all it es k v e h =
      let r : Runs front start all ((k, v) ∷ es) = subst (λ (x : List (String Y × ℕ)). Runs front start all x) e h in
      let size = r.fewer in
      let o : InOrder ((k, v) ∷ es) = r.order in
      let f : AllFound (at_text all) ((k, v) ∷ es) = r.found in
      record { order = o.1; behind = λ l. (r.behind l).1; found = f.1; rest = rest_on all (k, v) es r.order r.rest; fewer = omega arith }

  pub run_found : (front start : List ℕ) (all it es : List (String Y × ℕ)) (k : String Y) (v : ℕ) → it ≡ (k, v) ∷ es
      → Runs front start all it → at_text all (string_bytes k) ≡ Some v
  run_found front start all it es k v e h = let f : AllFound (at_text all) ((k, v) ∷ es) =
      subst (λ (x : List (String Y × ℕ)). AllFound (at_text all) x) e h.found in f.0

  -- it ends where a key doesn't begin so
  pub run_stopped : (names : ℕ → Named) (front start : List ℕ) (all it es : List (String Y × ℕ)) (k : String Y) (v : ℕ)
      → it ≡ (k, v) ∷ es → Runs front start all it → key_le front start ≡ true
      → key_begins front (string_bytes k) ≡ false → kids names front it ≡ []
  run_stopped names front start all it es k v e h l b =
      let o : InOrder ((k, v) ∷ es) = subst (λ (x : List (String Y × ℕ)). InOrder x) e h.order in
      let f : AreFrom front ((k, v) ∷ es) = subst (λ (x : List (String Y × ℕ)). AreFrom front x) e (h.behind l) in
      ap (kids names front) e ∙ no_kids names front (k, v) es b f.0 o.0

  -- one name more
  pub run_taken : (names : ℕ → Named) (front : List ℕ) (it es : List (String Y × ℕ)) (k : String Y) (v : ℕ) → it
      ≡ (k, v) ∷ es → key_begins front (string_bytes k) ≡ true
      → has_slash (drop (length front) (string_bytes k)) ≡ false → kids names front it ≡ names v ∷ kids names front es
  run_taken names front it es k v e b n = ap (kids names front) e ∙ kid_taken names front (k, v) es b n

  -- and on behind what stands below a directory
  pub run_jumped : (names : ℕ → Named) (front start d rest j : List ℕ) (all it es : List (String Y × ℕ)) (k : String Y)
      (v : ℕ) → it ≡ (k, v) ∷ es → Runs front start all it
      → length front ≤ length d → string_bytes k ≡ d ++ 92 ∷ rest → j ≡ d ++ 93 ∷ [] → key_begins front (string_bytes k) ≡ true
      → (kids names front it ≡ kids names front (from_key j all)) × (length (from_key j all) < length it)
  run_jumped names front start d rest j all it es k v e h l s i b =
      subst (λ (y : List ℕ). (kids names front it ≡ kids names front (from_key y all)) × (length (from_key y all) < length it)) (sym i)
      (jumped names front d rest l all it es k v e s h.order h.rest)

  pub run_fewer : (front start d rest j : List ℕ) (all it es : List (String Y × ℕ)) (k : String Y) (v : ℕ) → it
      ≡ (k, v) ∷ es → Runs front start all it
      → length front ≤ length d → string_bytes k ≡ d ++ 92 ∷ rest → j ≡ d ++ 93 ∷ [] → length (from_key j all) < length (from_key start all)
  run_fewer front start d rest j all it es k v e h l s i =
      let fewer = (jumped (λ n. record {
        name = [];
        info = record {
          file = 0;
          is_directory = false;
          size = 0;
          is_delete_pending = false;
          times = record { created = 0; accessed = 0; written = 0; changed = 0; attributes = 0 };
        };
      }) front d rest l all it es k v e s h.order h.rest).1 in
      let size = h.fewer in
      let same = ap (λ (y : List ℕ). length (from_key y all)) i in
      omega arith

pub run_behind : (front d rest key j : List ℕ) → key ≡ d ++ 92 ∷ rest → j ≡ d ++ 93 ∷ [] → key_begins front key ≡ true
    → key_le front j ≡ true
run_behind front d rest key j s i b =
    let less : slice_cmp nat_cmp key (d ++ 93 ∷ []) ≡ Less = ap (λ (y : List ℕ). slice_cmp nat_cmp y (d ++ 93 ∷ [])) s
    ∙ below_next d rest in
    subst (λ (y : List ℕ). key_le front y ≡ true) (sym i) (le_more front key (d ++ 93 ∷ []) (front_le front key b)
    (less_le key (d ++ 93 ∷ []) less))

-- ---- where a listing begins

le_itself : (x : List ℕ) → key_le x x ≡ true
le_itself [] = refl
le_itself (c ∷ cs) = let h = le_itself cs in grind (arith, common_steps, nat_tests)

pub start_from : (front : List ℕ) (last : Option (List ℕ)) (start : List ℕ) → start ≡ start_key front last → key_le front start ≡ true
start_from front None start e = subst (λ (k : List ℕ). key_le front k ≡ true) (sym e) (le_itself front)
start_from front (Some l) start e = subst (λ (k : List ℕ). key_le front k ≡ true) (sym e) (by (rank l == 2))
  where
    by : (b : Bool) → key_le front (if b then front ++ (folded l ++ 0 ∷ []) else front) ≡ true
    by true = front_le front (front ++ (folded l ++ 0 ∷ [])) (begins_append front (folded l ++ 0 ∷ []))
    by false = le_itself front
