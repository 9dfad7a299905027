-- The names of a directory among the keys of the index are the model's children.
use Rattle.std.proofs.Common.{◌≡◌, ℕ, ◌+◌, ◌==◌, nat_lt, Bool, true, false, not, ◌&&◌, cond}
use Rattle.std.proofs.Common.{if◌then◌else◌, List, [], ◌∷◌, ◌++◌, length, drop, String, Option, Some, None}
use Rattle.std.proofs.Common.{option_map, refl, sym, ap, subst, ◌∙◌, arith}
use Rattle.std.specs.Bool.{⊤}
use Rattle.std.proofs.lemmas.Grind.{common_steps}
use Rattle.std.proofs.lemmas.Bool.Decides.{nat_tests}
use Rattle.std.proofs.lemmas.Map.Text.{is_eq-slice_cmp}
use Rattle.std.specs.declared.cmp.Ordering.{Ordering}
use Rattle.std.specs.Ordering.{is_lt, is_eq, is_gt, nat_cmp}
use Rattle.std.specs.String.{string_bytes}
use Rattle.std.specs.Str.{bytes_eq}
use Rattle.std.specs.Cmp.Lexicographic.{slice_cmp, nat_list_eq_equiv}
use Rattle.spec_exchange.specs.State.{Server, Entry, Named}
use Rattle.spec_exchange.specs.Texts.{same_name, parent_of, leaf_of, begins_with_backslash}
use Rattle.spec_exchange.specs.Files.{info_of, path_in}
use Rattle.spec_exchange.specs.Listing.{rank, listed_before, insert_named, children, is_behind, accepts, wanted}
use Rattle.store_files.specs.file_tree.Shown.{folded, at_key, path_at, FileApart, AllPlain}
use Rattle.store_files.specs.file_tree.Keys.{key_begins, key_le, has_slash}
use Rattle.store_files.specs.file_tree.Listed.{listing_accepted, start_key, from_key, is_child, kids, named_of}
use Rattle.store_files.proofs.file_tree.Entries.{bytes_same, bytes_turned}
use Rattle.store_files.proofs.file_tree.Children.{leaf_slash}
use Rattle.store_files.proofs.file_tree.Carried.{fronts_cancel}
use Rattle.store_files.proofs.file_tree.Plain.{component_rank}
use Rattle.store_files.proofs.file_tree.Housed.{slash_folded}
use Rattle.store_files.proofs.file_tree.Sorted.{key_cmp, key_of, named, AllAfter, Ascends, same_names}
use Rattle.store_files.proofs.file_tree.Kids.{front_of, child_is, AllRanked, inserted_ranked, inserted_ascends, inserted_named}
use Rattle.store_files.proofs.file_tree.Kids.{before_ranked, same_bytes}
use Rattle.store_files.proofs.file_tree.Pairs.{at_text, AreLater, InOrder}

none_either : {X : Type 0} (b : Bool) (o : Option X) → o ≡ None → o ≡ (if b then o else None)
none_either true o e = refl
none_either false o e = e

none_else : {X : Type 0} (b : Bool) (o : Option X) → o ≡ None → o ≡ (if b then None else o)
none_else true o e = e
none_else false o e = refl

-- ---- the model's children, by key

-- what the child of a number is called
abbrev pub entry_named : Server → List Entry → ℕ → Named
entry_named s es f = record { name = leaf_of (path_in es f); info = info_of s f }

path_first : (x : Entry) (xs : List Entry) → path_in (x ∷ xs) x.file ≡ x.path
unfolding path_in
path_first x xs = let e : (x.file == x.file) ≡ true = grind (arith, nat_tests) in rw e refl

path_later : (x : Entry) (xs : List Entry) (g : ℕ) → (x.file == g) ≡ false → path_in (x ∷ xs) g ≡ path_in xs g
unfolding path_in
path_later x xs g e = rw e refl

number_found : (es : List Entry) (q : List ℕ) (g f : ℕ) → at_key es q ≡ Some g → path_at es f ≡ None → (f == g) ≡ false
unfolding at_key path_at
number_found [] q g f e n = absurd (cc)
number_found (x ∷ xs) q g f e n = let h = number_found xs q g f in grind (arith, common_steps, nat_tests)

-- the name that a key gives
abbrev pub child_at : Server → List Entry → Bool → Option ℕ → Option Named
child_at s es slash found = if slash then None else option_map (entry_named s es) found

named_if : (b : Bool) (x y : Option Named) → x ≡ y → (if b then None else x) ≡ (if b then None else y)
named_if true x y e = refl
named_if false x y e = e

-- the children by key, and that they ascend
pub record AreChildren (s : Server) (path : List ℕ) (es : List Entry) : Type 0 where
  pub by_key : (k : List ℕ) → named (children s es path) k ≡ child_at s es (has_slash k) (at_key es (front_of path ++ k))
  pub ascend : Ascends (children s es path)

module _ (s : Server) (path : List ℕ) where
  abbrev pub child : Entry → Named
  child x = record { name = leaf_of x.path; info = info_of s x.file }

  pub children_ranked : (es : List Entry) → AllPlain es → AllRanked (children s es path)
  unfolding children
  children_ranked [] p = tt
  children_ranked (x ∷ xs) p = by (same_name (parent_of x.path) path) (children_ranked xs p.2)
    where
      by : (b : Bool) → AllRanked (children s xs path)
          → AllRanked (if b then insert_named (child x) (children s xs path) else children s xs path)
      by true h = inserted_ranked (child x) (children s xs path) (component_rank (leaf_of x.path) p.0) h
      by false h = h

  entry_later : (x : Entry) (xs : List Entry) (g : ℕ) (q : List ℕ) → path_at xs x.file ≡ None → at_key xs q ≡ Some g
      → entry_named s (x ∷ xs) g ≡ entry_named s xs g
  entry_later x xs g q n e = ap (λ (p : List ℕ). record { name = leaf_of p; info = info_of s g })
      (path_later x xs g (number_found xs q g x.file e n))

  entry_first : (x : Entry) (xs : List Entry) → entry_named s (x ∷ xs) x.file ≡ child x
  entry_first x xs = ap (λ (p : List ℕ). record { name = leaf_of p; info = info_of s x.file }) (path_first x xs)

  later_mapped : (x : Entry) (xs : List Entry) (q : List ℕ) → path_at xs x.file ≡ None → (o : Option ℕ) → at_key xs q
      ≡ o → option_map (entry_named s (x ∷ xs)) o ≡ option_map (entry_named s xs) o
  later_mapped x xs q n None e = refl
  later_mapped x xs q n (Some g) e = ap Some (entry_later x xs g q n e)

  no_child : (x : Entry) (xs : List Entry) → begins_with_backslash x.path ≡ false → at_key xs (folded x.path) ≡ None
      → same_name (parent_of x.path) path ≡ true
      → AreChildren s path xs → named (children s xs path) (key_of (child x)) ≡ None
  no_child x xs b a i h =
      let k = folded (leaf_of x.path) in
      let slash : has_slash k ≡ false = slash_folded (leaf_of x.path) ∙ leaf_slash x.path in
      let t : bytes_eq (folded x.path) (front_of path ++ k) ≡ true = sym (child_is x.path path k b slash)
      ∙ rw (i, nat_list_eq_equiv.refl k) refl in
      let same = bytes_same (folded x.path) (front_of path ++ k) t in
      h.by_key k ∙ rw (slash, sym same, a) refl

  module _ (x : Entry) (xs : List Entry) (b : begins_with_backslash x.path ≡ false) (a : at_key xs (folded x.path)
      ≡ None) (n : path_at xs x.file ≡ None) (h : AreChildren s path xs) where
    slashed : (k : List ℕ) → has_slash k ≡ true → bytes_eq (key_of (child x)) k ≡ false
    slashed k e = by (bytes_eq (folded (leaf_of x.path)) k) refl
      where
        by : (c : Bool) → bytes_eq (folded (leaf_of x.path)) k ≡ c → c ≡ false
        by false i = refl
        by true i = absurd (let u = ap has_slash (bytes_same (folded (leaf_of x.path)) k i) in
            let v = slash_folded (leaf_of x.path) ∙ leaf_slash x.path in cc)

    rest : (k : List ℕ) → has_slash k ≡ false → named (children s xs path) k ≡ option_map (entry_named s (x ∷ xs))
        (at_key xs (front_of path ++ k))
    rest k e = h.by_key k ∙ rw e (sym (later_mapped x xs (front_of path ++ k) n (at_key xs (front_of path ++ k)) refl))

    rest_slashed : (k : List ℕ) → has_slash k ≡ true → named (children s xs path) k ≡ None
    rest_slashed k e = h.by_key k ∙ rw e refl

    first : (k : List ℕ) → (c d : Bool) → c ≡ d → (if c then Some (child x) else option_map (entry_named s (x ∷ xs))
        (at_key xs (front_of path ++ k)))
        ≡ option_map (entry_named s (x ∷ xs)) (if d then Some x.file else at_key xs (front_of path ++ k))
    first k true true e = ap Some (sym (entry_first x xs))
    first k true false e = absurd (cc)
    first k false true e = absurd (cc)
    first k false false e = refl

    is_key : (k : List ℕ) → has_slash k ≡ false → (same_name (parent_of x.path) path && bytes_eq (key_of (child x)) k)
        ≡ bytes_eq (folded x.path) (front_of path ++ k)
    is_key k e = child_is x.path path k b e

    pub in_it : same_name (parent_of x.path) path ≡ true → (k : List ℕ)
        → named (insert_named (child x) (children s xs path)) k ≡ child_at s (x ∷ xs) (has_slash k)
        (at_key (x ∷ xs) (front_of path ++ k))
    unfolding at_key
    in_it i k = inserted_named (child x) (children s xs path) k (no_child x xs b a i h) ∙ by (has_slash k) refl
      where
        by : (c : Bool) → has_slash k ≡ c → (if bytes_eq (key_of (child x)) k then Some (child x) else named (children s xs path) k)
            ≡ (if c then None else option_map (entry_named s (x ∷ xs)) (if bytes_eq (folded x.path) (front_of path ++ k)
            then Some x.file else at_key xs (front_of path ++ k)))
        by true e = rw (slashed k e) (rest_slashed k e)
        by false e = rw (rest k e)
            (first k (bytes_eq (key_of (child x)) k) (bytes_eq (folded x.path) (front_of path ++ k))
            (rw i at (is_key k e)))

    pub off_it : same_name (parent_of x.path) path ≡ false → (k : List ℕ) → named (children s xs path) k
        ≡ child_at s (x ∷ xs) (has_slash k) (at_key (x ∷ xs) (front_of path ++ k))
    unfolding at_key
    off_it i k = by (has_slash k) refl
      where
        by : (c : Bool) → has_slash k ≡ c → named (children s xs path) k
            ≡ (if c then None else option_map (entry_named s (x ∷ xs)) (if bytes_eq (folded x.path) (front_of path ++ k)
            then Some x.file else at_key xs (front_of path ++ k)))
        by true e = rest_slashed k e
        by false e = rw (sym (rw i at (is_key k e))) (rest k e)

  pub children_are : (es : List Entry) → FileApart es → AllPlain es → AreChildren s path es
  unfolding children named at_key
  children_are [] a p = record { by_key = λ k. none_else {X = Named} (has_slash k) None refl; ascend = tt }
  children_are (x ∷ xs) a p = by (same_name (parent_of x.path) path) refl (children_are xs a.2 p.2)
    where
      by : (c : Bool) → same_name (parent_of x.path) path ≡ c → AreChildren s path xs → AreChildren s path (x ∷ xs)
      by true i h = record {
        by_key = λ k. rw i (in_it x xs p.1 a.0 a.1 h i k);
        ascend = rw i (inserted_ascends (child x) (children s xs path) (component_rank (leaf_of x.path) p.0)
            (children_ranked xs p.2) (no_child x xs p.1 a.0 i h) h.ascend);
      }
      by false i h = record {
        by_key = λ k. rw i (off_it x xs p.1 a.0 a.1 h i k);
        ascend = rw i h.ascend;
      }

-- ---- the names among the keys of the index

begins_drop : (front q : List ℕ) → key_begins front q ≡ true → q ≡ front ++ drop (length front) q
unfolding key_begins
begins_drop [] q e = refl
begins_drop (x ∷ xs) [] e = absurd (cc)
begins_drop (x ∷ xs) (y ∷ ys) e = let h = begins_drop xs ys in let i : (x == y) ≡ true → x
    ≡ y = grind (arith, nat_tests) in grind (arith, common_steps)

begins_itself : (front k : List ℕ) → key_begins front (front ++ k) ≡ true
unfolding key_begins
begins_itself [] k = refl
begins_itself (x ∷ xs) k = let h = begins_itself xs k in grind (arith, common_steps)

drop_front : (front k : List ℕ) → drop (length front) (front ++ k) ≡ k
drop_front [] k = refl
drop_front (x ∷ xs) k = let h = drop_front xs k in grind (arith, common_steps)

fronts_cmp : (front a b : List ℕ) → slice_cmp nat_cmp (front ++ a) (front ++ b) ≡ slice_cmp nat_cmp a b
fronts_cmp [] a b = refl
fronts_cmp (x ∷ xs) a b = let h = fronts_cmp xs a b in grind (arith, common_steps)

both : (b c : Bool) → (b && c) ≡ true → (b ≡ true) × (c ≡ true)
both true true e = (refl, refl)
both true false e = absurd (cc)
both false c e = absurd (cc)

not_true : (b : Bool) → not b ≡ true → b ≡ false
not_true true e = absurd (cc)
not_true false e = refl

child_key : (front k : List ℕ) → has_slash k ≡ false → is_child front (front ++ k) ≡ true
child_key front k e = rw (begins_itself front k, drop_front front k, e) refl

-- what a key names, if it is a name's
abbrev pub found_at : Server → Bool → Option ℕ → Option Named
found_at s slash found = if slash then None else option_map (named_of s) found

module _ {Y : Type 0} (s : Server) (path : List ℕ) where
  -- each key is that of its file's path
  abbrev pub Keyed : List (String Y × ℕ) → Type 0
  Keyed [] = ⊤
  Keyed (e ∷ es) = (folded (path_in s.entries e.1) ≡ string_bytes e.0) × (begins_with_backslash (path_in s.entries e.1) ≡ false) × Keyed es

  -- the name of a child is what its key has behind the (front_of path)
  name_is : (e : String Y × ℕ) (es : List (String Y × ℕ)) → Keyed (e ∷ es) → is_child (front_of path) (string_bytes e.0) ≡ true
      → (string_bytes e.0 ≡ (front_of path) ++ key_of ((named_of s) e.1)) × (has_slash (key_of ((named_of s) e.1)) ≡ false)
  name_is e es h c =
      let x = both (key_begins (front_of path) (string_bytes e.0)) (not (has_slash (drop (length (front_of path)) (string_bytes e.0)))) c in
      let k = drop (length (front_of path)) (string_bytes e.0) in
      let key : string_bytes e.0 ≡ (front_of path) ++ k = begins_drop (front_of path) (string_bytes e.0) x.0 in
      let slash : has_slash k ≡ false = not_true (has_slash k) x.1 in
      let t = child_is (path_in s.entries e.1) path k h.1 slash ∙ same_bytes (folded (path_in s.entries e.1))
      ((front_of path) ++ k) (h.0 ∙ key) in
      let y = both (same_name (parent_of (path_in s.entries e.1)) path) (bytes_eq (folded (leaf_of (path_in s.entries e.1))) k) t in
      let same : folded (leaf_of (path_in s.entries e.1)) ≡ k = bytes_same (folded (leaf_of (path_in s.entries e.1))) k y.1 in
      (key ∙ ap (λ (q : List ℕ). (front_of path) ++ q) (sym same), ap has_slash same ∙ slash)

  pub kids_by_key : (es : List (String Y × ℕ)) → Keyed es → (k : List ℕ) → named (kids (named_of s) (front_of path) es)
      k ≡ found_at s (has_slash k) (at_text es ((front_of path) ++ k))
  unfolding named
  kids_by_key [] h k = by (has_slash k)
    where
      by : (b : Bool) → None ≡ found_at s b None
      by true = refl
      by false = refl
  kids_by_key (e ∷ es) h k = by (is_child (front_of path) (string_bytes e.0)) refl (kids_by_key es h.2 k)
    where
      is_it : is_eq (slice_cmp nat_cmp ((front_of path) ++ k) (string_bytes e.0)) ≡ bytes_eq ((front_of path) ++ k) (string_bytes e.0)
      is_it = is_eq-slice_cmp ((front_of path) ++ k) (string_bytes e.0)

      put : (c d : Bool) → c ≡ d → (b : Bool) → (c ≡ true → b ≡ false) → (o : Option Named) (p : Option ℕ) → o
          ≡ found_at s b p → (if c then Some ((named_of s) e.1) else o) ≡ found_at s b (cond d (Some e.1) p)
      put true true i true n o p j = absurd (let x = n refl in cc)
      put true true i false n o p j = refl
      put true false i b n o p j = absurd (cc)
      put false true i b n o p j = absurd (cc)
      put false false i b n o p j = j

      inside : is_child (front_of path) (string_bytes e.0) ≡ true → named (kids (named_of s) (front_of path) es) k
          ≡ found_at s (has_slash k) (at_text es ((front_of path) ++ k))
          → (if bytes_eq (key_of ((named_of s) e.1)) k then Some ((named_of s) e.1) else named
          (kids (named_of s) (front_of path) es) k) ≡ found_at s (has_slash k)
          (cond (is_eq (slice_cmp nat_cmp ((front_of path) ++ k) (string_bytes e.0))) (Some e.1)
          (at_text es ((front_of path) ++ k)))
      inside c t =
          let n = name_is e es h c in
          put (bytes_eq (key_of ((named_of s) e.1)) k) (is_eq (slice_cmp nat_cmp ((front_of path) ++ k) (string_bytes e.0)))
          (sym (is_it ∙ (ap (bytes_eq ((front_of path) ++ k)) n.0
          ∙ (fronts_cancel (front_of path) k (key_of ((named_of s) e.1))
          ∙ bytes_turned k (key_of ((named_of s) e.1))))))
          (has_slash k) (λ i. ap has_slash (sym (bytes_same (key_of ((named_of s) e.1)) k i)) ∙ n.1)
          (named (kids (named_of s) (front_of path) es) k) (at_text es ((front_of path) ++ k)) t

      away : (b d : Bool) → (b ≡ false → d ≡ false) → (o : Option Named) (p : Option ℕ) → o ≡ found_at s b p → o
          ≡ found_at s b (cond d (Some e.1) p)
      away true d n o p j = j
      away false true n o p j = absurd (let x = n refl in cc)
      away false false n o p j = j

      outside : is_child (front_of path) (string_bytes e.0) ≡ false → has_slash k ≡ false
          → is_eq (slice_cmp nat_cmp ((front_of path) ++ k) (string_bytes e.0)) ≡ false
      outside c z = off (is_eq (slice_cmp nat_cmp ((front_of path) ++ k) (string_bytes e.0))) refl
        where
          off : (d : Bool) → is_eq (slice_cmp nat_cmp ((front_of path) ++ k) (string_bytes e.0)) ≡ d → d ≡ false
          off false i = refl
          off true i =
              let same = bytes_same ((front_of path) ++ k) (string_bytes e.0) (sym is_it ∙ i) in
              absurd (let x = ap (is_child (front_of path)) same in let y = child_key (front_of path) k z in cc)

      by : (c : Bool) → is_child (front_of path) (string_bytes e.0) ≡ c → named (kids (named_of s) (front_of path) es) k
          ≡ found_at s (has_slash k) (at_text es ((front_of path) ++ k))
          → named (if c then (named_of s) e.1 ∷ kids (named_of s) (front_of path) es else kids (named_of s)
          (front_of path) es) k ≡ found_at s (has_slash k)
          (cond (is_eq (slice_cmp nat_cmp ((front_of path) ++ k) (string_bytes e.0))) (Some e.1)
          (at_text es ((front_of path) ++ k)))
      by true c t = inside c t
      by false c t = away (has_slash k) (is_eq (slice_cmp nat_cmp ((front_of path) ++ k) (string_bytes e.0)))
          (outside c) (named (kids (named_of s) (front_of path) es) k) (at_text es ((front_of path) ++ k)) t

  kids_after : (k : List ℕ) (es : List (String Y × ℕ)) → Keyed es → AreLater ((front_of path) ++ k) es
      → AllAfter k (kids (named_of s) (front_of path) es)
  kids_after k [] h l = tt
  kids_after k (e ∷ es) h l = by (is_child (front_of path) (string_bytes e.0)) refl (kids_after k es h.2 l.1)
    where
      by : (c : Bool) → is_child (front_of path) (string_bytes e.0) ≡ c
          → AllAfter k (kids (named_of s) (front_of path) es)
          → AllAfter k (if c then (named_of s) e.1 ∷ kids (named_of s) (front_of path) es else kids (named_of s)
          (front_of path) es)
      by true c t = let n = name_is e es h c in (
        sym (fronts_cmp (front_of path) k (key_of ((named_of s) e.1)))
            ∙ (ap (slice_cmp nat_cmp ((front_of path) ++ k)) (sym n.0) ∙ l.0),
        t,
      )
      by false c t = t

  pub kids_ascend : (es : List (String Y × ℕ)) → Keyed es → InOrder es → Ascends (kids (named_of s) (front_of path) es)
  kids_ascend [] h o = tt
  kids_ascend (e ∷ es) h o = by (is_child (front_of path) (string_bytes e.0)) refl (kids_ascend es h.2 o.1)
    where
      by : (c : Bool) → is_child (front_of path) (string_bytes e.0) ≡ c → Ascends (kids (named_of s) (front_of path) es)
          → Ascends (if c then (named_of s) e.1 ∷ kids (named_of s) (front_of path) es else kids (named_of s)
          (front_of path) es)
      by true c t = let n = name_is e es h c in
          (kids_after (key_of ((named_of s) e.1)) es h.2 (subst (λ (q : List ℕ). AreLater q es) n.0 o.0), t)
      by false c t = t

  -- ---- the part from a key on

  pub keyed_from : (start : List ℕ) (es : List (String Y × ℕ)) → Keyed es → Keyed (from_key start es)
  keyed_from start [] h = tt
  keyed_from start (e ∷ es) h = by (key_le start (string_bytes e.0)) (keyed_from start es h.2)
    where
      by : (c : Bool) → Keyed (from_key start es) → Keyed (if c then e ∷ from_key start es else from_key start es)
      by true t = (h.0, h.1, t)
      by false t = t

  later_from : (start k : List ℕ) (es : List (String Y × ℕ)) → AreLater k es → AreLater k (from_key start es)
  later_from start k [] h = tt
  later_from start k (e ∷ es) h = by (key_le start (string_bytes e.0)) (later_from start k es h.1)
    where
      by : (c : Bool) → AreLater k (from_key start es) → AreLater k (if c then e ∷ from_key start es else from_key start es)
      by true t = (h.0, t)
      by false t = t

  pub ordered_from : (start : List ℕ) (es : List (String Y × ℕ)) → InOrder es → InOrder (from_key start es)
  ordered_from start [] h = tt
  ordered_from start (e ∷ es) h = by (key_le start (string_bytes e.0)) (ordered_from start es h.1)
    where
      by : (c : Bool) → InOrder (from_key start es) → InOrder (if c then e ∷ from_key start es else from_key start es)
      by true t = (later_from start (string_bytes e.0) es h.0, t)
      by false t = t

  pub at_from : (start q : List ℕ) (es : List (String Y × ℕ)) → at_text (from_key start es) q
      ≡ (if key_le start q then at_text es q else None)
  at_from start q [] = none_either {X = ℕ} (key_le start q) None refl
  at_from start q (e ∷ es) = by (key_le start (string_bytes e.0)) refl (at_from start q es)
    where
      found : (b d : Bool) → key_le start q ≡ b → is_eq (slice_cmp nat_cmp q (string_bytes e.0)) ≡ d
          → key_le start (string_bytes e.0) ≡ true → (o p : Option ℕ) → o ≡ (if b then p else None)
          → cond d (Some e.1) o ≡ (if b then cond d (Some e.1) p else None)
      found true true i j c o p t = refl
      found true false i j c o p t = t
      found false true i j c o p t =
          let same = bytes_same q (string_bytes e.0) (sym (is_eq-slice_cmp q (string_bytes e.0)) ∙ j) in
          absurd (let x = ap (key_le start) same in cc)
      found false false i j c o p t = t

      lost : (b d : Bool) → key_le start q ≡ b → is_eq (slice_cmp nat_cmp q (string_bytes e.0)) ≡ d
          → key_le start (string_bytes e.0) ≡ false → (o p : Option ℕ) → o ≡ (if b then p else None)
          → o ≡ (if b then cond d (Some e.1) p else None)
      lost true true i j c o p t =
          let same = bytes_same q (string_bytes e.0) (sym (is_eq-slice_cmp q (string_bytes e.0)) ∙ j) in
          absurd (let x = ap (key_le start) same in cc)
      lost true false i j c o p t = t
      lost false d i j c o p t = t

      by : (c : Bool) → key_le start (string_bytes e.0) ≡ c → at_text (from_key start es) q
          ≡ (if key_le start q then at_text es q else None)
          → at_text (if c then e ∷ from_key start es else from_key start es) q
          ≡ (if key_le start q then cond (is_eq (slice_cmp nat_cmp q (string_bytes e.0))) (Some e.1) (at_text es q)
          else None)
      by true c t = found (key_le start q) (is_eq (slice_cmp nat_cmp q (string_bytes e.0))) refl refl c
          (at_text (from_key start es) q) (at_text es q) t
      by false c t = lost (key_le start q) (is_eq (slice_cmp nat_cmp q (string_bytes e.0))) refl refl c
          (at_text (from_key start es) q) (at_text es q) t

-- ---- the names behind the last one

abbrev pub behind : Option (List ℕ) → List Named → List Named
behind last [] = []
behind last (n ∷ ns) = if is_behind last n.name then n ∷ behind last ns else behind last ns

abbrev pub behind_key : Option (List ℕ) → List ℕ → Bool
behind_key None k = true
behind_key (Some last) k = if rank last == 2 then is_lt (key_cmp (folded last) k) else true

rank_low : (l : List ℕ) → (rank l == 2) ≡ false → nat_lt (rank l) 2 ≡ true
unfolding rank
rank_low l e = grind (arith, nat_tests, common_steps)

low : (l n : List ℕ) → (rank l == 2) ≡ false → rank n ≡ 2 → listed_before l n ≡ true
unfolding listed_before
low l n i r = rw (r, rank_low l i) refl

pub behind_is : (last : Option (List ℕ)) (n : List ℕ) → rank n ≡ 2 → is_behind last n ≡ behind_key last (folded n)
unfolding is_behind
behind_is None n r = refl
behind_is (Some l) n r = by (rank l == 2) refl
  where
    by : (b : Bool) → (rank l == 2) ≡ b → listed_before l n ≡ (if b then is_lt (key_cmp (folded l) (folded n)) else true)
    by true i = before_ranked l n (grind (arith, nat_tests)) r
    by false i = low l n i r

pub behind_named : (last : Option (List ℕ)) (ns : List Named) → AllRanked ns → (k : List ℕ) → named (behind last ns) k
    ≡ (if behind_key last k then named ns k else None)
unfolding named
behind_named last [] r k = none_either {X = Named} (behind_key last k) None refl
behind_named last (n ∷ ns) r k = by (is_behind last n.name) refl (behind_named last ns r.1 k)
  where
    at_key_of : (d : Bool) → bytes_eq (key_of n) k ≡ d → d ≡ true → behind_key last k ≡ is_behind last n.name
    at_key_of d i j = ap (behind_key last) (sym (bytes_same (key_of n) k (i ∙ j))) ∙ sym (behind_is last n.name r.0)

    kept : (b d : Bool) → (d ≡ true → b ≡ true) → (o p : Option Named) → o ≡ (if b then p else None)
        → (if d then Some n else o) ≡ (if b then (if d then Some n else p) else None)
    kept true true f o p t = refl
    kept true false f o p t = t
    kept false true f o p t = absurd (let x = f refl in cc)
    kept false false f o p t = t

    lost : (b d : Bool) → (d ≡ true → b ≡ false) → (o p : Option Named) → o ≡ (if b then p else None) → o
        ≡ (if b then (if d then Some n else p) else None)
    lost true true f o p t = absurd (let x = f refl in cc)
    lost true false f o p t = t
    lost false d f o p t = t

    by : (c : Bool) → is_behind last n.name ≡ c → named (behind last ns) k ≡ (if behind_key last k then named ns k else None)
        → named (if c then n ∷ behind last ns else behind last ns) k
        ≡ (if behind_key last k then (if bytes_eq (key_of n) k then Some n else named ns k) else None)
    by true c t = kept (behind_key last k) (bytes_eq (key_of n) k) (λ d. at_key_of (bytes_eq (key_of n) k) refl d ∙ c)
        (named (behind last ns) k) (named ns k) t
    by false c t = lost (behind_key last k) (bytes_eq (key_of n) k) (λ d. at_key_of (bytes_eq (key_of n) k) refl d ∙ c)
        (named (behind last ns) k) (named ns k) t

behind_after : (last : Option (List ℕ)) (k : List ℕ) (ns : List Named) → AllAfter k ns → AllAfter k (behind last ns)
behind_after last k [] h = tt
behind_after last k (n ∷ ns) h = by (is_behind last n.name) (behind_after last k ns h.1)
  where
    by : (c : Bool) → AllAfter k (behind last ns) → AllAfter k (if c then n ∷ behind last ns else behind last ns)
    by true t = (h.0, t)
    by false t = t

pub behind_ascends : (last : Option (List ℕ)) (ns : List Named) → Ascends ns → Ascends (behind last ns)
behind_ascends last [] h = tt
behind_ascends last (n ∷ ns) h = by (is_behind last n.name) (behind_ascends last ns h.1)
  where
    by : (c : Bool) → Ascends (behind last ns) → Ascends (if c then n ∷ behind last ns else behind last ns)
    by true t = (behind_after last (key_of n) ns h.0, t)
    by false t = t

pub wanted_is : (last : Option (List ℕ)) (pattern : List ℕ) (ns : List Named) → wanted last pattern ns
    ≡ listing_accepted pattern (behind last ns)
unfolding wanted
wanted_is last pattern [] = refl
wanted_is last pattern (n ∷ ns) = by (is_behind last n.name) (wanted_is last pattern ns)
  where
    put : (a : Bool) (xs ys : List Named) → xs ≡ ys → (if a then n ∷ xs else xs) ≡ (if a then n ∷ ys else ys)
    put true xs ys e = ap (λ (l : List Named). n ∷ l) e
    put false xs ys e = e

    by : (b : Bool) → wanted last pattern ns ≡ listing_accepted pattern (behind last ns)
        → (if b && accepts pattern n.name then n ∷ wanted last pattern ns else wanted last pattern ns)
        ≡ listing_accepted pattern (if b then n ∷ behind last ns else behind last ns)
    by true t = put (accepts pattern n.name) (wanted last pattern ns) (listing_accepted pattern (behind last ns)) t
    by false t = t

-- ---- from the start key on

after_zero : (a k : List ℕ) → not (is_gt (slice_cmp nat_cmp (a ++ 0 ∷ []) k)) ≡ is_lt (slice_cmp nat_cmp a k)
after_zero [] [] = refl
after_zero [] (y ∷ ys) = grind (arith, common_steps)
after_zero (x ∷ xs) [] = refl
after_zero (x ∷ xs) (y ∷ ys) = let h = after_zero xs ys in grind (arith, common_steps)

itself_not_gt : (front k : List ℕ) → key_le front (front ++ k) ≡ true
itself_not_gt [] [] = refl
itself_not_gt [] (y ∷ ys) = refl
itself_not_gt (x ∷ xs) k = let h = itself_not_gt xs k in grind (arith, common_steps)

pub start_is : (front : List ℕ) (last : Option (List ℕ)) (k : List ℕ) → key_le (start_key front last) (front ++ k) ≡ behind_key last k
start_is front None k = itself_not_gt front k
start_is front (Some l) k = by (rank l == 2)
  where
    by : (b : Bool) → key_le (if b then front ++ (folded l ++ 0 ∷ []) else front) (front ++ k)
        ≡ (if b then is_lt (key_cmp (folded l) k) else true)
    by true = ap (λ (o : Ordering). not (is_gt o)) (fronts_cmp front (folded l ++ 0 ∷ []) k) ∙ after_zero (folded l) k
    by false = itself_not_gt front k

-- ---- the whole

pub walked_names : {Y : Type 0} (s : Server) (path : List ℕ) (last : Option (List ℕ)) (pattern : List ℕ)
    (index : List (String Y × ℕ)) → FileApart s.entries → AllPlain s.entries
    → InOrder index → Keyed s path index → ((q : List ℕ) → at_text index q ≡ at_key s.entries q)
    → listing_accepted pattern (kids (named_of s) (front_of path) (from_key (start_key (front_of path) last) index))
    ≡ wanted last pattern (children s s.entries path)
walked_names s path last pattern index apart plain order keyed same =
    let start = start_key (front_of path) last in
    let part = from_key start index in
    let kid = children_are s path s.entries apart plain in
    let alike = same_names (kids (named_of s) (front_of path) part) (behind last (children s s.entries path))
    (kids_ascend s path part (keyed_from s path start index keyed) (ordered_from s path start index order))
    (behind_ascends last (children s s.entries path) kid.ascend)
    (λ k. kids_by_key s path part (keyed_from s path start index keyed) k
    ∙ (ap (found_at s (has_slash k)) (at_from s path start (front_of path ++ k) index
    ∙ (ap (λ (b : Bool). if b then at_text index (front_of path ++ k) else None) (start_is (front_of path) last k)
    ∙ ap (λ (o : Option ℕ). if behind_key last k then o else None) (same (front_of path ++ k))))
    ∙ (turned (has_slash k) (behind_key last k) (at_key s.entries (front_of path ++ k))
    ∙ sym (behind_named last (children s s.entries path) (children_ranked s path s.entries plain) k
    ∙ ap (λ (o : Option Named). if behind_key last k then o else None) (kid.by_key k))))) in
    ap (listing_accepted pattern) alike ∙ sym (wanted_is last pattern (children s s.entries path))
  where
    turned : (b c : Bool) (o : Option ℕ) → found_at s b (if c then o else None) ≡ (if c then child_at s s.entries b o else None)
    turned true true o = refl
    turned true false o = refl
    turned false true o = refl
    turned false false o = refl
