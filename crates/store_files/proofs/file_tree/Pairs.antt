-- The index as a list of its keys and numbers, in order, and what of it stands below a directory.
use Rattle.std.proofs.Common.{◌≡◌, ℕ, ◌==◌, Bool, true, false, not, ◌&&◌, ◌||◌, cond, if◌then◌else◌, List, [], ◌∷◌}
use Rattle.std.proofs.Common.{◌++◌, length, String, Option, Some, None, is_some, refl, sym, ap, subst, ◌∙◌, arith}
use Rattle.std.specs.Bool.{⊤}
use Rattle.std.proofs.lemmas.Bool.Decides.{nat_tests}
use Rattle.std.proofs.lemmas.Map.Text.{is_eq-slice_cmp}
use Rattle.std.specs.Map.{lookup, keys_of}
use Rattle.std.specs.List.{AllByRecursion}
use Rattle.std.specs.List.Sorted.{IsStrictlySortedBy}
use Rattle.std.specs.String.{string_bytes, string_cmp}
use Rattle.std.specs.Ordering.{is_eq, is_le, is_gt, nat_cmp}
use Rattle.std.specs.declared.cmp.Ordering.{Ordering}
use Rattle.std.specs.declared.cmp.Ordering.TheVariants.{Less, Equal, Greater}
use Rattle.std.specs.declared.ops.Bound.TheVariants.{Included, Unbounded}
use Rattle.std.specs.BTreeMap.Range.{entries_between}
use Rattle.std.specs.Cmp.Lexicographic.{slice_cmp, nat_list_eq_equiv}
use Rattle.spec_exchange.specs.State.{Server, Entry}
use Rattle.spec_exchange.specs.Table.{has}
use Rattle.spec_exchange.specs.Texts.{is_below}
use Rattle.spec_exchange.specs.Files.{exists_in, path_in, path_of, is_directory}
use Rattle.store_files.specs.declared.file_tree.row.Row.{Row}
use Rattle.store_files.specs.file_tree.Shown.{folded, at_key, path_at, FileApart, below_key, FileRowFound, RowOrRoot}
use Rattle.spec_exchange.specs.Content.{same_bytes}
use Rattle.store_files.specs.file_tree.Keys.{key_begins, key_le, below_in, AreKeysBelow}
use Rattle.store_files.proofs.file_tree.Full.{path_filled, row_filled}
use Rattle.store_files.proofs.file_tree.Found.{found_path, found_directory, found_below}
use Rattle.store_files.proofs.file_tree.Gathered.{has_more_files}
use Rattle.store_files.proofs.file_tree.Keys.{exists_is, some_there}
use Rattle.store_files.proofs.file_tree.Entries.{bytes_same, key_of_path}
use Rattle.store_files.proofs.file_tree.Below.{below_is}
use Rattle.store_files.proofs.file_tree.Order.{front_le, front_between}
use Rattle.store_files.proofs.file_tree.Moving.{path_of_key}

iff : (b c : Bool) → (b ≡ true → c ≡ true) → (c ≡ true → b ≡ true) → b ≡ c
iff true true f g = refl
iff true false f g = sym (f refl)
iff false true f g = g refl
iff false false f g = refl

both : (b c : Bool) → (b && c) ≡ true → (b ≡ true) × (c ≡ true)
both true true e = (refl, refl)
both true false e = absurd (cc)
both false c e = absurd (cc)

and : (b c : Bool) → b ≡ true → c ≡ true → (b && c) ≡ true
and true true i j = refl
and true false i j = absurd (cc)
and false c i j = absurd (cc)

less_le : (a b : List ℕ) → slice_cmp nat_cmp a b ≡ Less → key_le a b ≡ true
less_le a b e = rw e refl

not_gt : (o : Ordering) → (is_le o && true) ≡ false → not (is_gt o) ≡ true → true ≡ false
not_gt Less a b = a
not_gt Equal a b = a
not_gt Greater a b = absurd (cc)

le_not_gt : (o : Ordering) → (is_le o && true) ≡ true → not (is_gt o) ≡ true
le_not_gt Less a = refl
le_not_gt Equal a = refl
le_not_gt Greater a = absurd (cc)

or_shift : (a b c d : Bool) → c ≡ true → (a || ((b && c) || d)) ≡ ((a || b) || d)
or_shift true b c d e = refl
or_shift false true true d e = refl
or_shift false true false d e = absurd (cc)
or_shift false false c d e = refl

or_false : (a b : Bool) → b ≡ false → (a || b) ≡ a
or_false true b e = refl
or_false false b e = e

never_first : (b c d : Bool) → c ≡ false → d ≡ false → ((b && c) || d) ≡ false
never_first true c d e f = rw (e, f) refl
never_first false c d e f = f

module _ {Y : Type 0} where
  abbrev pub at_text : List (String Y × ℕ) → List ℕ → Option ℕ
  at_text es q = lookup (λ k. is_eq (slice_cmp nat_cmp q (string_bytes k))) es

  -- the key stands before all of them
  abbrev pub AreLater : List ℕ → List (String Y × ℕ) → Type 0
  AreLater k [] = ⊤
  AreLater k (e ∷ es) = (slice_cmp nat_cmp k (string_bytes e.0) ≡ Less) × AreLater k es

  abbrev pub InOrder : List (String Y × ℕ) → Type 0
  InOrder [] = ⊤
  InOrder (e ∷ es) = AreLater (string_bytes e.0) es × InOrder es

  -- none of them stands before the key
  abbrev pub AreFrom : List ℕ → List (String Y × ℕ) → Type 0
  AreFrom k [] = ⊤
  AreFrom k (e ∷ es) = (key_le k (string_bytes e.0) ≡ true) × AreFrom k es

  found_first : (e : String Y × ℕ) (es : List (String Y × ℕ)) → at_text (e ∷ es) (string_bytes e.0) ≡ Some e.1
  found_first e es = rw (is_eq-slice_cmp (string_bytes e.0) (string_bytes e.0), nat_list_eq_equiv.refl (string_bytes e.0)) refl

  later_none : (k : List ℕ) (es : List (String Y × ℕ)) → AreLater k es → at_text es k ≡ None
  later_none k [] h = refl
  later_none k (e ∷ es) h = rw (h.0) (later_none k es h.1)

  -- what stands below is found by a key that begins so
  pub below_found : (front : List ℕ) (es : List (String Y × ℕ)) (g : ℕ) → InOrder es → below_in front es g ≡ true
      → (q : List ℕ) × (at_text es q ≡ Some g) × (key_begins front q ≡ true)
  below_found front [] g h b = absurd (cc)
  below_found front (e ∷ es) g h b = by (e.1 == g) (key_begins front (string_bytes e.0)) refl refl b (λ t. below_found front es g h.1 t)
    where
      more : (q : List ℕ) × (at_text es q ≡ Some g) × (key_begins front q ≡ true) → (q : List ℕ)
          × (at_text (e ∷ es) q ≡ Some g) × (key_begins front q ≡ true)
      more f = (f.0, other (is_eq (slice_cmp nat_cmp f.0 (string_bytes e.0))) refl, f.2)
        where
          other : (c : Bool) → is_eq (slice_cmp nat_cmp f.0 (string_bytes e.0)) ≡ c → cond c (Some e.1) (at_text es f.0) ≡ Some g
          other false i = f.1
          other true i =
              let same = bytes_same f.0 (string_bytes e.0) (sym (is_eq-slice_cmp f.0 (string_bytes e.0)) ∙ i) in
              absurd (let x = ap (at_text es) same in let y = later_none (string_bytes e.0) es h.0 in let z = f.1 in cc)

      by : (c d : Bool) → (e.1 == g) ≡ c → key_begins front (string_bytes e.0) ≡ d → ((c && d) || below_in front es g)
          ≡ true → (below_in front es g ≡ true → (q : List ℕ) × (at_text es q ≡ Some g) × (key_begins front q ≡ true))
          → (q : List ℕ) × (at_text (e ∷ es) q ≡ Some g) × (key_begins front q ≡ true)
      by true true i j t rest = (string_bytes e.0, found_first e es ∙ ap Some (grind (arith, nat_tests)), j)
      by true false i j t rest = more (rest t)
      by false d i j t rest = more (rest t)

  pub found_in : (front : List ℕ) (es : List (String Y × ℕ)) (g : ℕ) (q : List ℕ) → at_text es q ≡ Some g
      → key_begins front q ≡ true → below_in front es g ≡ true
  found_in front [] g q e b = absurd (cc)
  found_in front (x ∷ xs) g q e b = by (is_eq (slice_cmp nat_cmp q (string_bytes x.0))) refl e (λ t. found_in front xs g q t b)
    where
      or : (c d : Bool) → d ≡ true → (c || d) ≡ true
      or true d i = refl
      or false d i = i

      here : (c d : Bool) → c ≡ true → d ≡ true → ((c && d) || below_in front xs g) ≡ true
      here true true i j = refl
      here true false i j = absurd (cc)
      here false d i j = absurd (cc)

      by : (c : Bool) → is_eq (slice_cmp nat_cmp q (string_bytes x.0)) ≡ c → cond c (Some x.1) (at_text xs q) ≡ Some g
          → (at_text xs q ≡ Some g → below_in front xs g ≡ true) → (((x.1 == g) && key_begins front (string_bytes x.0))
          || below_in front xs g) ≡ true
      by false i t rest = or ((x.1 == g) && key_begins front (string_bytes x.0)) (below_in front xs g) (rest t)
      by true i t rest =
          let same = bytes_same q (string_bytes x.0) (sym (is_eq-slice_cmp q (string_bytes x.0)) ∙ i) in
          let file : x.1 ≡ g = cc in
          here (x.1 == g) (key_begins front (string_bytes x.0)) (grind (arith, nat_tests)) (ap (key_begins front) (sym same) ∙ b)

  -- behind the first that doesn't begin so none does
  pub none_behind : (front : List ℕ) (e : String Y × ℕ) (es : List (String Y × ℕ)) (g : ℕ)
      → key_begins front (string_bytes e.0) ≡ false → key_le front (string_bytes e.0) ≡ true → AreLater (string_bytes e.0)
      es → below_in front es g ≡ false
  none_behind front e [] g n f h = refl
  none_behind front e (x ∷ xs) g n f h = rw (
    off (key_begins front (string_bytes x.0)) refl,
    none_behind front e xs g n f
        h.1,
  ) (never (x.1 == g))
    where
      off : (c : Bool) → key_begins front (string_bytes x.0) ≡ c → c ≡ false
      off false i = refl
      off true i = absurd (let y = front_between front (string_bytes e.0) (string_bytes x.0) f
          (less_le (string_bytes e.0) (string_bytes x.0) h.0) i in cc)

      never : (c : Bool) → ((c && false) || false) ≡ false
      never true = refl
      never false = refl

  -- ---- the part of the index from a key on

  abbrev from : String Y → List (String Y × ℕ) → List (String Y × ℕ)
  from start es = entries_between string_cmp (Included start) Unbounded es

  later_from : (start : String Y) (k : List ℕ) (es : List (String Y × ℕ)) → AreLater k es → AreLater k (from start es)
  later_from start k [] h = tt
  later_from start k (e ∷ es) h = by (is_le (string_cmp start e.0) && true) (later_from start k es h.1)
    where
      by : (c : Bool) → AreLater k (from start es) → AreLater k (if c then e ∷ from start es else from start es)
      by true t = (h.0, t)
      by false t = t

  pub order_from : (start : String Y) (es : List (String Y × ℕ)) → InOrder es → InOrder (from start es)
  order_from start [] h = tt
  order_from start (e ∷ es) h = by (is_le (string_cmp start e.0) && true) (order_from start es h.1)
    where
      by : (c : Bool) → InOrder (from start es) → InOrder (if c then e ∷ from start es else from start es)
      by true t = (later_from start (string_bytes e.0) es h.0, t)
      by false t = t

  pub in_order : (es : List (String Y × ℕ)) → IsStrictlySortedBy string_cmp (keys_of es) → InOrder es
  unfolding IsStrictlySortedBy
  in_order [] h = tt
  in_order (e ∷ es) h = (later es h.0, in_order es h.1)
    where
      later : (xs : List (String Y × ℕ)) → AllByRecursion (λ (y : String Y). string_cmp (e.0) y ≡ Less) (keys_of xs)
          → AreLater (string_bytes e.0) xs
      later [] k = tt
      later (x ∷ xs) k = (k.0, later xs k.1)

  pub from_front : (start : String Y) (es : List (String Y × ℕ)) → AreFrom (string_bytes start) (from start es)
  from_front start [] = tt
  from_front start (e ∷ es) = by (is_le (string_cmp start e.0) && true) refl (from_front start es)
    where
      by : (c : Bool) → (is_le (string_cmp start e.0) && true) ≡ c → AreFrom (string_bytes start) (from start es)
          → AreFrom (string_bytes start) (if c then e ∷ from start es else from start es)
      by true i t = (le_not_gt (string_cmp start e.0) i, t)
      by false i t = t

  -- nothing that begins so stands before it
  pub from_below : (start : String Y) (es : List (String Y × ℕ)) (g : ℕ) → below_in (string_bytes start) (from start es)
      g ≡ below_in (string_bytes start) es g
  from_below start [] g = refl
  from_below start (e ∷ es) g = by (is_le (string_cmp start e.0) && true) refl (from_below start es g)
    where
      off : (c : Bool) → key_begins (string_bytes start) (string_bytes e.0) ≡ c → (is_le (string_cmp start e.0) && true) ≡ false → c ≡ false
      off false i n = refl
      off true i n = absurd (let x = not_gt (string_cmp start e.0) n (front_le (string_bytes start) (string_bytes e.0) i) in cc)

      never : (c d : Bool) → ((c && false) || d) ≡ d
      never true d = refl
      never false d = refl

      by : (c : Bool) → (is_le (string_cmp start e.0) && true) ≡ c → below_in (string_bytes start) (from start es) g
          ≡ below_in (string_bytes start) es g
          → below_in (string_bytes start) (if c then e ∷ from start es else from start es) g
          ≡ (((e.1 == g) && key_begins (string_bytes start) (string_bytes e.0)) || below_in (string_bytes start) es g)
      by true i t = ap (λ b. ((e.1 == g) && key_begins (string_bytes start) (string_bytes e.0)) || b) t
      by false i t = t ∙ sym (rw (off (key_begins (string_bytes start) (string_bytes e.0)) refl i)
          (never (e.1 == g) (below_in (string_bytes start) es g)))

  -- what a walk along the index gave is what its keys find
  pub walked : (front : List ℕ) (es : List (String Y × ℕ)) (fs : List ℕ) → InOrder es
      → ((g : ℕ) → below_in front es g ≡ has g fs) → AreKeysBelow (λ q. at_text es q) front fs
  walked front es fs order same = λ g. (λ b. below_found front es g order (same g ∙ b), λ q e b. sym (same g) ∙ found_in front es g q e b)

  -- ---- a walk, step by step

  pub begun : (start : String Y) (es it : List (String Y × ℕ)) (fs : List ℕ) → it ≡ from start es → fs ≡ []
      → IsStrictlySortedBy string_cmp (keys_of es)
      → ((g : ℕ) → below_in (string_bytes start) es g ≡ (has g fs || below_in (string_bytes start) it g)) × InOrder it
      × AreFrom (string_bytes start) it
  begun start es it fs e f o = rw (e, f) (λ g. sym (from_below start es g), order_from start es (in_order es o), from_front start es)

  pub walked_on : (front : List ℕ) (all : ℕ → Bool) (it rest : List (String Y × ℕ)) (k : String Y) (v : ℕ)
      (fs ms : List ℕ) → ((g : ℕ) → all g ≡ (has g fs || below_in front it g)) → InOrder it → AreFrom front it
      → it ≡ (k, v) ∷ rest → key_begins front (string_bytes k) ≡ true → ms ≡ fs ++ v ∷ []
      → ((g : ℕ) → all g ≡ (has g ms || below_in front rest g)) × InOrder rest × AreFrom front rest
  walked_on front all it rest k v fs ms h o a e b m =
      let p : InOrder ((k, v) ∷ rest) = subst (λ (l : List (String Y × ℕ)). InOrder l) e o in
      let q : AreFrom front ((k, v) ∷ rest) = subst (λ (l : List (String Y × ℕ)). AreFrom front l) e a in (
        λ g. h g ∙ (ap (λ (l : List (String Y × ℕ)). has g fs || below_in front l g) e
            ∙ (or_shift (has g fs) (v == g) (key_begins front (string_bytes k)) (below_in front rest g) b
            ∙ ap (λ c. c || below_in front rest g) (sym (ap (has g) m ∙ has_more_files g v fs)))),
        p.1,
        q.1,
      )

  -- the walk ends where a key doesn't begin so
  pub stopped : (front : List ℕ) (es it rest : List (String Y × ℕ)) (k : String Y) (v : ℕ) (fs : List ℕ)
      → IsStrictlySortedBy string_cmp (keys_of es)
      → ((g : ℕ) → below_in front es g ≡ (has g fs || below_in front it g)) → InOrder it → AreFrom front it
      → it ≡ (k, v) ∷ rest → key_begins front (string_bytes k) ≡ false → AreKeysBelow (λ q. at_text es q) front fs
  stopped front es it rest k v fs s h o a e b =
      let p : InOrder ((k, v) ∷ rest) = subst (λ (l : List (String Y × ℕ)). InOrder l) e o in
      let q : AreFrom front ((k, v) ∷ rest) = subst (λ (l : List (String Y × ℕ)). AreFrom front l) e a in
      walked front es fs (in_order es s) (λ g. h g ∙ (ap (λ (l : List (String Y × ℕ)). has g fs || below_in front l g) e
      ∙ or_false (has g fs) (((v == g) && key_begins front (string_bytes k)) || below_in front rest g)
      (never_first (v == g) (key_begins front (string_bytes k)) (below_in front rest g) b
      (none_behind front (k, v) rest g b q.0 p.0))))

  pub ended : (front : List ℕ) (es it : List (String Y × ℕ)) (fs : List ℕ) → IsStrictlySortedBy string_cmp (keys_of es)
      → ((g : ℕ) → below_in front es g ≡ (has g fs || below_in front it g)) → it ≡ [] → AreKeysBelow (λ q. at_text es q) front fs
  ended front es it fs s h e = walked front es fs (in_order es s)
      (λ g. h g ∙ (ap (λ (l : List (String Y × ℕ)). has g fs || below_in front l g) e ∙ or_false (has g fs) false refl))

-- what is named by keys that begin so stands below the directory
pub stands_below : (at : List ℕ → Option ℕ) (es : List Entry) (p : List ℕ) (fs : List ℕ) (g : ℕ) → (length p == 0) ≡ false → FileApart es
    → ((q : List ℕ) → at q ≡ at_key es q) → AreKeysBelow at (below_key p) fs → has g fs ≡ (exists_in es g && is_below p (path_in es g))
stands_below at es p fs g n apart keys below = iff (has g fs) (exists_in es g && is_below p (path_in es g)) there back
  where
    there : has g fs ≡ true → (exists_in es g && is_below p (path_in es g)) ≡ true
    there b =
        let f = (below g).0 b in
        let k = path_of_key es f.0 g apart (sym (keys f.0) ∙ f.1) in
        let e : exists_in es g ≡ true = exists_is es g ∙ ap is_some k.1 in
        let same : k.0 ≡ path_in es g = (let x = k.1 in let y = some_there es g e in cc) in
        and (exists_in es g) (is_below p (path_in es g)) e
        (below_is p (path_in es g) n ∙ (ap (λ (q : List ℕ). key_begins (below_key p) (folded q)) (sym same)
        ∙ (ap (key_begins (below_key p)) k.2 ∙ f.2)))

    back : (exists_in es g && is_below p (path_in es g)) ≡ true → has g fs ≡ true
    back b =
        let h = both (exists_in es g) (is_below p (path_in es g)) b in
        (below g).1 (folded (path_in es g)) (keys (folded (path_in es g)) ∙ key_of_path es g (path_in es g) apart (some_there es g h.0))
        (sym (below_is p (path_in es g) n) ∙ h.1)

all_begin : (q : List ℕ) → key_begins [] q ≡ true
unfolding key_begins
all_begin q = refl

below_root : (p : List ℕ) → (length p == 0) ≡ false → is_below [] p ≡ true
unfolding is_below same_bytes
below_root [] n = absurd (cc)
below_root (c ∷ cs) n = refl

-- all stand below the root
pub stands_in_root : (at : List ℕ → Option ℕ) (es : List Entry) (fs : List ℕ) (g : ℕ) → FileApart es → at_key es [] ≡ None
    → ((q : List ℕ) → at q ≡ at_key es q) → AreKeysBelow at [] fs → has g fs ≡ (exists_in es g && is_below [] (path_in es g))
stands_in_root at es fs g apart empty keys below = iff (has g fs) (exists_in es g && is_below [] (path_in es g)) there back
  where
    there : has g fs ≡ true → (exists_in es g && is_below [] (path_in es g)) ≡ true
    there b =
        let f = (below g).0 b in
        let k = path_of_key es f.0 g apart (sym (keys f.0) ∙ f.1) in
        let e : exists_in es g ≡ true = exists_is es g ∙ ap is_some k.1 in
        and (exists_in es g) (is_below [] (path_in es g)) e
        (below_root (path_in es g) (path_filled es g (path_in es g) apart empty (some_there es g e)))

    back : (exists_in es g && is_below [] (path_in es g)) ≡ true → has g fs ≡ true
    back b =
        let h = both (exists_in es g) (is_below [] (path_in es g)) b in
        (below g).1 (folded (path_in es g)) (keys (folded (path_in es g)) ∙ key_of_path es g (path_in es g) apart
        (some_there es g h.0)) (all_begin (folded (path_in es g)))

-- what stands below the directory of a row
pub row_stands : (s : Server) (f : ℕ) (r : Row) (at : List ℕ → Option ℕ) (fs : List ℕ) → FileApart s.entries
    → at_key s.entries [] ≡ None → path_at s.entries 0 ≡ None → ((q : List ℕ) → at q ≡ at_key s.entries q)
    → FileRowFound (Some r) s f → r.directory ≡ true → AreKeysBelow at (string_bytes r.below) fs
    → (g : ℕ) → has g fs ≡ (is_directory s f && (exists_in s.entries g && is_below (path_of s f) (path_in s.entries g)))
row_stands s f r at fs apart empty zero keys found d below g =
    by (f == 0) refl found
    ∙ (ap (λ (p : List ℕ). exists_in s.entries g && is_below p (path_in s.entries g)) (found_path s f r zero found)
    ∙ sym (rw (sym (found_directory s f r found) ∙ d) refl))
  where
    by : (b : Bool) → (f == 0) ≡ b → RowOrRoot b (Some r) s f → has g fs ≡ (exists_in s.entries g && is_below r.path (path_in s.entries g))
    by true e h =
        stands_in_root at s.entries fs g apart empty keys (subst (λ (k : List ℕ). AreKeysBelow at k fs) h.2 below)
        ∙ ap (λ (p : List ℕ). exists_in s.entries g && is_below p (path_in s.entries g)) (sym h.0)
    by false e h =
        let n = row_filled s f r apart empty e found in
        stands_below at s.entries r.path fs g n apart keys (subst (λ (k : List ℕ). AreKeysBelow at k fs)
        (found_below s f r found n d) below)

pub file_stands : (s : Server) (f : ℕ) (r : Row) → FileRowFound (Some r) s f → r.directory ≡ false → (g : ℕ) → false
    ≡ (is_directory s f && (exists_in s.entries g && is_below (path_of s f) (path_in s.entries g)))
file_stands s f r found d g = sym (rw (sym (found_directory s f r found) ∙ d) refl)
