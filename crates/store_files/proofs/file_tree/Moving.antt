-- The keys of a rename are the model's.
use Rattle.std.proofs.Common.{◌≡◌, ℕ, ◌==◌, nat_eq, Bool, true, false, ◌||◌, if◌then◌else◌, List, [], ◌∷◌, ◌++◌, length}
use Rattle.std.proofs.Common.{Option, Some, None, is_some, refl, sym, ap, subst, ◌∙◌, arith}
use Rattle.std.proofs.lemmas.Bool.Decides.{nat_tests}
use Rattle.std.specs.HashMap.{get}
use Rattle.std.specs.Str.{bytes_eq}
use Rattle.std.specs.String.{string_bytes}
use Rattle.std.specs.Cmp.Lexicographic.{nat_list_eq_equiv}
use Rattle.spec_exchange.specs.State.{Server, Entry}
use Rattle.spec_exchange.specs.Files.{moved_path, moved_entries}
use Rattle.store_files.specs.declared.file_tree.row.Row.{Row}
use Rattle.store_files.specs.declared.file_tree.tree.Tree.{Tree}
use Rattle.store_files.specs.declared.file_tree.new_name.NewName.{NewName}
use Rattle.store_files.specs.file_tree.Shown.{folded, at_key, path_at, FileApart, FileShowsRows}
use Rattle.store_files.specs.file_tree.Moved.{after_key, name_within, moved_key, row_key, name_taken, moved_to}
use Rattle.store_files.specs.file_tree.Moved.{one_by_one, has_name, IsNameOf, AreMovedNames}
use Rattle.store_files.proofs.file_tree.Entries.{bytes_same, key_of_path}
use Rattle.store_files.proofs.file_tree.Fronts.{folded_moved}
use Rattle.std.proofs.lemmas.List.{append-nil}
use Rattle.store_files.proofs.file_tree.Carried.{after_front, front_back, fronts_cancel, moved_in, moved_out}
use Rattle.store_files.proofs.file_tree.Names.{keyed, OnlyOf, taken_none, taken_some, moved_none, moved_kept, moved_gone, moved_there}

-- each key that finds something is the key of that entry
pub path_of_key : (es : List Entry) (q : List ℕ) (f : ℕ) → FileApart es → at_key es q ≡ Some f → (p : List ℕ)
    × (path_at es f ≡ Some p) × (folded p ≡ q)
unfolding at_key path_at
path_of_key [] q f a e = absurd (cc)
path_of_key (x ∷ xs) q f a e = by (path_of_key xs q f a.2) (bytes_eq (folded x.path) q) refl e
  where
    first : (b : Bool) → (x.file == f) ≡ b → x.file ≡ f → (if b then Some x.path else path_at xs f) ≡ Some x.path
    first true i s = refl
    first false i s = absurd (let t : (x.file == f) ≡ true = grind arith in cc)

    behind : (b : Bool) (p : List ℕ) → (x.file == f) ≡ b → path_at xs f ≡ Some p → (if b then Some x.path else path_at xs f) ≡ Some p
    behind true p i s = let same : x.file ≡ f = grind (arith, nat_tests) in absurd (let t = ap (path_at xs) same in let u = a.1 in cc)
    behind false p i s = s

    by : (at_key xs q ≡ Some f → (p : List ℕ) × (path_at xs f ≡ Some p) × (folded p ≡ q)) → (b : Bool)
        → bytes_eq (folded x.path) q ≡ b → (if b then Some x.file else at_key xs q) ≡ Some f
        → (p : List ℕ) × ((if x.file == f then Some x.path else path_at xs f) ≡ Some p) × (folded p ≡ q)
    by more true i t = (x.path, first (x.file == f) refl (cc), bytes_same (folded x.path) q i)
    by more false i t = let h = more t in (h.0, behind (x.file == f) h.0 refl h.1, h.2)

-- a number has one key
pub one_key : (es : List Entry) (q k : List ℕ) (f : ℕ) → FileApart es → at_key es q ≡ Some f → at_key es k ≡ Some f → q ≡ k
one_key es q k f a d e =
    let p = path_of_key es q f a d in
    let r = path_of_key es k f a e in
    let same : p.0 ≡ r.0 = (let x = p.1 in let y = r.1 in cc) in
    sym p.2 ∙ (ap folded same ∙ r.2)

-- ---- rows have the keys of their entries

module _ (t : Tree) (s : Server) (h : FileShowsRows t s) where
  row_own : (o : Option Row) (f : ℕ) (q : List ℕ) → get nat_eq t.rows f ≡ o → row_key o q ≡ true → at_key s.entries q ≡ Some f
  row_own None f q e k = absurd (cc)
  row_own (Some r) f q e k =
      let i = rw e at (h.rows_are f) in
      ap (at_key s.entries) (sym (bytes_same (string_bytes r.key) q k) ∙ i.1.key_is) ∙ key_of_path s.entries f r.path h.apart i.0

  pub owns : (f : ℕ) (q : List ℕ) → row_key (get nat_eq t.rows f) q ≡ true → at_key s.entries q ≡ Some f
  owns f q k = row_own (get nat_eq t.rows f) f q refl k

  owned_row : (o : Option Row) (f : ℕ) (p : List ℕ) → get nat_eq t.rows f ≡ o → path_at s.entries f ≡ Some p → row_key o (folded p) ≡ true
  owned_row None f p e k = absurd (let i = rw e at (h.rows_are f) in cc)
  owned_row (Some r) f p e k =
      let i = rw e at (h.rows_are f) in
      let same : r.path ≡ p = (let a = i.0 in cc) in
      ap (λ l. bytes_eq l (folded p)) (i.1.key_is ∙ ap folded same) ∙ nat_list_eq_equiv.refl (folded p)

  pub owned : (f : ℕ) (q : List ℕ) → at_key s.entries q ≡ Some f → row_key (get nat_eq t.rows f) q ≡ true
  owned f q e = let p = path_of_key s.entries q f h.apart e in
      ap (λ l. row_key (get nat_eq t.rows f) l) (sym p.2) ∙ owned_row (get nat_eq t.rows f) f p.0 refl p.1

  not_own : (b : Bool) (f : ℕ) (q : List ℕ) → row_key (get nat_eq t.rows f) q ≡ b → at_key s.entries q ≡ None → b ≡ false
  not_own true f q k e = absurd (let o = owns f q k in cc)
  not_own false f q k e = refl

  pub free_own : (q : List ℕ) → at_key s.entries q ≡ None → (f : ℕ) → row_key (get nat_eq t.rows f) q ≡ false
  free_own q e f = not_own (row_key (get nat_eq t.rows f) q) f q refl e

-- ---- what a name says

module _ (es : List Entry) (directory : ℕ → Bool) (old to : List ℕ) (apart : FileApart es) (filled : (length old == 0) ≡ false) where
  -- its key has the new front, and its entry the old one
  abbrev Facts : NewName → Type 0
  Facts n = (rest : List ℕ) × (name_within (Some rest) ≡ true) × (string_bytes n.key ≡ folded to ++ rest)
      × (at_key es (folded old ++ rest) ≡ Some n.file)

  pub facts : (n : NewName) → IsNameOf n (path_at es n.file) (directory n.file) old to → Facts n
  unfolding moved_key name_within
  facts n h = by (path_at es n.file) refl h
    where
      front : (p : List ℕ) (o : Option (List ℕ)) → path_at es n.file ≡ Some p → after_key (folded old) (folded p) ≡ o
          → name_within o ≡ true → string_bytes n.key ≡ folded (moved_path old to p) → Facts n
      front p None e a w k = absurd (cc)
      front p (Some rest) e a w k = (
        rest,
        w,
        k ∙ (folded_moved old to p filled ∙ rw (a, w) refl),
        ap (at_key es) (sym (front_back (folded old) (folded p) rest a)) ∙ key_of_path es n.file p apart e,
      )

      by : (o : Option (List ℕ)) → path_at es n.file ≡ o → IsNameOf n o (directory n.file) old to → Facts n
      by None e i = absurd i
      by (Some p) e i = front p (after_key (folded old) (folded p)) e refl i.0 i.1.1

  -- a name with this key is of the file that had the key with the old front
  pub same_rest : (n : NewName) (r : List ℕ) → Facts n → bytes_eq (string_bytes n.key) (folded to ++ r) ≡ true
      → at_key es (folded old ++ r) ≡ Some n.file
  same_rest n r f e =
      let same : f.0 ≡ r = bytes_same f.0 r (sym (fronts_cancel (folded to) f.0 r)
      ∙ (ap (λ k. bytes_eq k (folded to ++ r)) (sym f.2) ∙ e)) in
      ap (λ (k : List ℕ). at_key es (folded old ++ k)) (sym same) ∙ f.3

  pub key_within : (n : NewName) (q : List ℕ) → Facts n → bytes_eq (string_bytes n.key) q ≡ true
      → name_within (after_key (folded to) q) ≡ true
  key_within n q f e =
      ap (λ (k : List ℕ). name_within (after_key (folded to) k)) (sym (bytes_same (string_bytes n.key) q e) ∙ f.2)
      ∙ (ap name_within (after_front (folded to) f.0) ∙ f.1)

  -- where no entry has the key with the old front, no name has the new one
  pub unkeyed : (ns : List NewName) → AreMovedNames ns es directory old to → (r : List ℕ) → at_key es (folded old ++ r)
      ≡ None → keyed ns (folded to ++ r) ≡ false
  unfolding keyed
  unkeyed [] a r e = refl
  unkeyed (n ∷ ns) a r e = by (bytes_eq (string_bytes n.key) (folded to ++ r)) refl (unkeyed ns a.1 r e)
    where
      by : (b : Bool) → bytes_eq (string_bytes n.key) (folded to ++ r) ≡ b → keyed ns (folded to ++ r) ≡ false
          → (b || keyed ns (folded to ++ r)) ≡ false
      by true i t = absurd (let x = same_rest n r (facts n a.0) i in cc)
      by false i t = t

  pub unkeyed_outside : (ns : List NewName) → AreMovedNames ns es directory old to → (q : List ℕ)
      → name_within (after_key (folded to) q) ≡ false → keyed ns q ≡ false
  unfolding keyed
  unkeyed_outside [] a q e = refl
  unkeyed_outside (n ∷ ns) a q e = by (bytes_eq (string_bytes n.key) q) refl (unkeyed_outside ns a.1 q e)
    where
      by : (b : Bool) → bytes_eq (string_bytes n.key) q ≡ b → keyed ns q ≡ false → (b || keyed ns q) ≡ false
      by true i t = absurd (let x = key_within n q (facts n a.0) i in cc)
      by false i t = t

  -- the file that had the key with the old front has a name with the new one
  pub keyed_by : (ns : List NewName) → AreMovedNames ns es directory old to → (g : ℕ) (r : List ℕ) → has_name ns g ≡ true
      → at_key es (folded old ++ r) ≡ Some g → keyed ns (folded to ++ r) ≡ true
  unfolding keyed
  keyed_by [] a g r h e = absurd (cc)
  keyed_by (n ∷ ns) a g r h e = by (n.file == g) refl h (λ t. keyed_by ns a.1 g r t e)
    where
      f : Facts n
      f = facts n a.0

      here : n.file ≡ g → bytes_eq (string_bytes n.key) (folded to ++ r) ≡ true
      here i =
          let k = one_key es (folded old ++ f.0) (folded old ++ r) g apart (f.3 ∙ ap Some i) e in
          let same : f.0 ≡ r = bytes_same f.0 r (sym (fronts_cancel (folded old) f.0 r)
          ∙ (ap (λ (l : List ℕ). bytes_eq l (folded old ++ r)) k ∙ nat_list_eq_equiv.refl (folded old ++ r))) in
          ap (λ (l : List ℕ). bytes_eq l (folded to ++ r)) (f.2 ∙ ap (λ (l : List ℕ). folded to ++ l) same)
          ∙ nat_list_eq_equiv.refl (folded to ++ r)

      either : (b c : Bool) → b ≡ true → (b || c) ≡ true
      either true c i = refl
      either false c i = absurd (cc)

      or : (b c : Bool) → c ≡ true → (b || c) ≡ true
      or true c i = refl
      or false c i = i

      by : (b : Bool) → (n.file == g) ≡ b → (if b then true else has_name ns g) ≡ true
          → (has_name ns g ≡ true → keyed ns (folded to ++ r) ≡ true) → (bytes_eq (string_bytes n.key) (folded to ++ r)
          || keyed ns (folded to ++ r)) ≡ true
      by true i t more = either (bytes_eq (string_bytes n.key) (folded to ++ r)) (keyed ns (folded to ++ r))
          (here (grind (arith, nat_tests)))
      by false i t more = or (bytes_eq (string_bytes n.key) (folded to ++ r)) (keyed ns (folded to ++ r)) (more t)

  -- a file that has a name had a key with the old front
  pub named_within : (ns : List NewName) → AreMovedNames ns es directory old to → (f : ℕ) (q : List ℕ) → has_name ns f ≡ true
      → at_key es q ≡ Some f → name_within (after_key (folded old) q) ≡ true
  named_within [] a f q h e = absurd (cc)
  named_within (n ∷ ns) a f q h e = by (n.file == f) refl h (λ t. named_within ns a.1 f q t e)
    where
      by : (b : Bool) → (n.file == f) ≡ b → (if b then true else has_name ns f) ≡ true
          → (has_name ns f ≡ true → name_within (after_key (folded old) q) ≡ true) → name_within (after_key (folded old) q) ≡ true
      by false i t more = more t
      by true i t more =
          let k = facts n a.0 in
          let same : n.file ≡ f = grind (arith, nat_tests) in
          let eq = one_key es (folded old ++ k.0) q f apart (k.3 ∙ ap Some same) e in
          ap (λ (l : List ℕ). name_within (after_key (folded old) l)) (sym eq) ∙ (ap name_within (after_front (folded old) k.0) ∙ k.1)

-- ---- the table behind a rename

module _ (t : Tree) (s : Server) (h : FileShowsRows t s) (f : ℕ) (old to : List ℕ) (filled : (length old == 0) ≡ false)
    (stands : path_at s.entries f ≡ Some old)
    (ns : List NewName) (names : AreMovedNames ns s.entries s.directory old to)
    (whole : (g : ℕ) (p : List ℕ) → path_at s.entries g ≡ Some p → name_within (after_key (folded old) (folded p))
    ≡ true → has_name ns g ≡ true)
    (disjoint : (q : List ℕ) → name_within (after_key (folded to) q) ≡ true → name_within (after_key (folded old) q)
    ≡ true → folded old ≡ folded to)
    (left : List Entry) (kept : (q : List ℕ) → bytes_eq (folded to) q ≡ false → at_key left q ≡ at_key s.entries q)
    (all : folded old ≡ folded to → (q : List ℕ) → at_key left q ≡ at_key s.entries q)
    (free : (q : List ℕ) → name_within (after_key (folded to) q) ≡ true → name_within (after_key (folded old) q) ≡ false
    → at_key left q ≡ None) where
  abbrev es : List Entry
  es = s.entries

  abbrev rows : ℕ → Option Row
  rows g = get nat_eq t.rows g

  abbrev after : List ℕ → Option ℕ
  after q = one_by_one (moved_to rows) ns q (one_by_one name_taken ns q (at_key s.entries q))

  in_front : (front rest : List ℕ) → name_within (Some rest) ≡ true → name_within (after_key front (front ++ rest)) ≡ true
  in_front front rest w = ap name_within (after_front front rest) ∙ w

  -- what is left has each key with the old front
  left_old : (r : List ℕ) → name_within (Some r) ≡ true → at_key left (folded old ++ r) ≡ at_key s.entries (folded old ++ r)
  unfolding name_within
  left_old r w = by (bytes_eq (folded to) (folded old ++ r)) refl
    where
      itself : name_within (after_key (folded to) (folded to)) ≡ true
      itself = subst (λ (q : List ℕ). name_within (after_key (folded to) q) ≡ true) (append-nil (folded to)) (in_front (folded to) [] refl)

      by : (b : Bool) → bytes_eq (folded to) (folded old ++ r) ≡ b → at_key left (folded old ++ r) ≡ at_key s.entries (folded old ++ r)
      by false i = kept (folded old ++ r) i
      by true i =
          let same = bytes_same (folded to) (folded old ++ r) i in
          all (disjoint (folded to) itself (ap (λ (q : List ℕ). name_within (after_key (folded old) q)) same
          ∙ in_front (folded old) r w)) (folded old ++ r)

  only : (ms : List NewName) → AreMovedNames ms s.entries s.directory old to → (r : List ℕ) (g : ℕ) → name_within (Some r) ≡ true
      → at_key s.entries (folded old ++ r) ≡ Some g → OnlyOf rows ms (folded to ++ r) g
  only [] a r g w e = tt
  only (n ∷ ms) a r g w e = (
    λ k. let x = same_rest s.entries s.directory old to h.apart filled n r (facts s.entries s.directory old to h.apart
        filled n a.0) k in (cc),
    λ k. other (row_key (rows n.file) (folded to ++ r)) refl k,
    only ms a.1 r g w e,
  )
    where
      other : (b : Bool) → row_key (rows n.file) (folded to ++ r) ≡ b → bytes_eq (string_bytes n.key) (folded to ++ r) ≡ false → b ≡ false
      other false i k = refl
      other true i k =
          let x = facts s.entries s.directory old to h.apart filled n a.0 in
          let q = one_key s.entries (folded to ++ r) (folded old ++ x.0) n.file h.apart (owns t s h n.file (folded to ++ r) i) x.3 in
          let same = disjoint (folded to ++ r) (in_front (folded to) r w)
          (ap (λ (l : List ℕ). name_within (after_key (folded old) l)) q ∙ in_front (folded old) x.0 x.1) in
          let key : string_bytes n.key ≡ folded to ++ r = x.2 ∙ (ap (λ (l : List ℕ). l ++ x.0) (sym same) ∙ sym q) in
          absurd (let y = ap (λ (l : List ℕ). bytes_eq l (folded to ++ r)) key ∙ nat_list_eq_equiv.refl (folded to ++ r) in cc)

  some_of : (o : Option ℕ) → is_some o ≡ true → (x : ℕ) × (o ≡ Some x)
  some_of None e = absurd (cc)
  some_of (Some x) e = (x, refl)

  -- a key with the new front
  moved_inside : (r : List ℕ) → name_within (Some r) ≡ true → after (folded to ++ r) ≡ at_key (moved_entries old to left) (folded to ++ r)
  moved_inside r w = by (at_key s.entries (folded old ++ r)) refl
      ∙ sym (moved_in old to (λ p. folded_moved old to p filled) left r w free ∙ left_old r w)
    where
      there : (g : ℕ) → at_key s.entries (folded old ++ r) ≡ Some g → after (folded to ++ r) ≡ Some g
      there g e =
          let p = path_of_key s.entries (folded old ++ r) g h.apart e in
          let n = whole g p.0 p.1 (ap (λ (l : List ℕ). name_within (after_key (folded old) l)) p.2 ∙ in_front (folded old) r w) in
          let k = keyed_by s.entries s.directory old to h.apart filled ns names g r n e in
          let x = some_of (one_by_one name_taken ns (folded to ++ r) (at_key s.entries (folded to ++ r)))
          (taken_some ns (folded to ++ r) (at_key s.entries (folded to ++ r)) k) in
          ap (λ o. one_by_one (moved_to rows) ns (folded to ++ r) o) x.1 ∙ moved_there rows (folded to ++ r) g ns x.0 k
          (only ns names r g w e)

      alone : at_key s.entries (folded old ++ r) ≡ None → at_key s.entries (folded to ++ r) ≡ None
      alone e = outside (name_within (after_key (folded old) (folded to ++ r))) refl (bytes_eq (folded to) (folded to ++ r)) refl
        where
          outside : (b : Bool) → name_within (after_key (folded old) (folded to ++ r)) ≡ b → (c : Bool)
              → bytes_eq (folded to) (folded to ++ r) ≡ c → at_key s.entries (folded to ++ r) ≡ None
          outside true i c k =
              let same = disjoint (folded to ++ r) (in_front (folded to) r w) i in
              ap (λ (l : List ℕ). at_key s.entries (l ++ r)) (sym same) ∙ e
          outside false i false k = sym (kept (folded to ++ r) k) ∙ free (folded to ++ r) (in_front (folded to) r w) i
          outside false i true k =
              let nil : [] ≡ r = bytes_same [] r (sym (fronts_cancel (folded to) [] r)
              ∙ (ap (λ (l : List ℕ). bytes_eq l (folded to ++ r)) (append-nil (folded to)) ∙ k)) in
              let found = ap (at_key s.entries) (ap (λ (l : List ℕ). folded old ++ l) (sym nil)
              ∙ append-nil (folded old)) ∙ key_of_path s.entries f old h.apart stands in
              absurd (cc)

      by : (o : Option ℕ) → at_key s.entries (folded old ++ r) ≡ o → after (folded to ++ r) ≡ o
      by (Some g) e = there g e
      by None e =
          ap (λ o. one_by_one (moved_to rows) ns (folded to ++ r) o)
          (taken_none ns (folded to ++ r) (at_key s.entries (folded to ++ r))
          (unkeyed s.entries s.directory old to h.apart filled ns names r e) ∙ alone e)
          ∙ moved_none rows (folded to ++ r) ns

  -- any other
  moved_outside : (q : List ℕ) → name_within (after_key (folded to) q) ≡ false → after q ≡ at_key (moved_entries old to left) q
  unfolding name_within
  moved_outside q w =
      ap (λ o. one_by_one (moved_to rows) ns q o) (taken_none ns q (at_key s.entries q) no_key)
      ∙ (by (name_within (after_key (folded old) q)) refl (at_key s.entries q) refl
      ∙ sym (moved_out old to (λ p. folded_moved old to p filled) left q w))
    where
      no_key : keyed ns q ≡ false
      no_key = unkeyed_outside s.entries s.directory old to h.apart filled ns names q w

      apart : (b : Bool) → bytes_eq (folded to) q ≡ b → b ≡ false
      apart false i = refl
      apart true i = absurd (let x = ap (λ (l : List ℕ). name_within (after_key (folded to) l)) (append-nil (folded to)
          ∙ bytes_same (folded to) q i) in let y = in_front (folded to) [] refl in cc)

      none : name_within (after_key (folded old) q) ≡ false → (g : ℕ) → has_name ns g ≡ true → row_key (rows g) q ≡ false
      none i g n = off (row_key (rows g) q) refl
        where
          off : (b : Bool) → row_key (rows g) q ≡ b → b ≡ false
          off false k = refl
          off true k = absurd (let x = named_within s.entries s.directory old to h.apart filled ns names g q n (owns t s h g q k) in cc)

      by : (b : Bool) → name_within (after_key (folded old) q) ≡ b → (o : Option ℕ) → at_key s.entries q ≡ o
          → one_by_one (moved_to rows) ns q (at_key s.entries q) ≡ (if b then None else at_key left q)
      by true i None e = ap (λ o. one_by_one (moved_to rows) ns q o) e ∙ moved_none rows q ns
      by true i (Some g) e =
          let p = path_of_key s.entries q g h.apart e in
          let n = whole g p.0 p.1 (ap (λ (l : List ℕ). name_within (after_key (folded old) l)) p.2 ∙ i) in
          ap (λ o. one_by_one (moved_to rows) ns q o) e ∙ moved_gone rows q ns g no_key n (owned t s h g q e)
      by false i o e = moved_kept rows q ns (at_key s.entries q) no_key (none i) ∙ sym (kept q (apart (bytes_eq (folded to) q) refl))

  no_front : name_within None ≡ false
  unfolding name_within
  no_front = refl

  pub moved_keys : (q : List ℕ) → after q ≡ at_key (moved_entries old to left) q
  moved_keys q = by (after_key (folded to) q) refl
    where
      put : (b : Bool) (r : List ℕ) → after_key (folded to) q ≡ Some r → name_within (Some r) ≡ b → after q
          ≡ at_key (moved_entries old to left) q
      put true r e w = subst (λ (k : List ℕ). after k ≡ at_key (moved_entries old to left) k)
          (sym (front_back (folded to) q r e)) (moved_inside r w)
      put false r e w = moved_outside q (ap name_within e ∙ w)

      by : (o : Option (List ℕ)) → after_key (folded to) q ≡ o → after q ≡ at_key (moved_entries old to left) q
      by None e = moved_outside q (ap name_within e ∙ no_front)
      by (Some r) e = put (name_within (Some r)) r e refl
