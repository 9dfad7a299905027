-- The names of a rename, gathered one by one.
use Rattle.std.proofs.Common.{◌≡◌, ◌⊎◌, inl, inr, ℕ, zero, suc, ◌+◌, ◌<◌, ◌==◌, nat_eq, Bool, true, false, ◌&&◌, ◌||◌}
use Rattle.std.proofs.Common.{if◌then◌else◌, List, [], ◌∷◌, ◌++◌, length, take, drop, get_or, Option, Some, None}
use Rattle.std.proofs.Common.{is_some, unwrap_or, refl, sym, ap, subst, ◌∙◌, arith}
use Rattle.std.proofs.lemmas.Grind.{common_steps}
use Rattle.std.proofs.lemmas.Bool.Decides.{nat_tests}
use Rattle.std.proofs.lemmas.List.{append-nil, append_assoc, take_more}
use Rattle.std.specs.HashMap.{get}
use Rattle.std.specs.Str.{IsCharBoundary}
use Rattle.spec_exchange.specs.State.{Server}
use Rattle.spec_exchange.specs.Table.{has}
use Rattle.spec_exchange.specs.Texts.{is_below}
use Rattle.spec_exchange.specs.Files.{exists_in, is_directory, path_in, path_of, moved_path}
use Rattle.store_files.specs.declared.file_tree.row.Row.{Row}
use Rattle.store_files.specs.declared.file_tree.tree.Tree.{Tree}
use Rattle.store_files.specs.declared.file_tree.new_name.NewName.{NewName}
use Rattle.store_files.specs.file_tree.Shown.{folded, below_key, at_key, path_at, ShowsFiles, FileRowFound, RowOrRoot}
use Rattle.store_files.specs.file_tree.Keys.{key_begins}
use Rattle.store_files.specs.file_tree.Moved.{after_key, name_within, IsMovedName, IsNameOf, AreMovedNames, AreWithin}
use Rattle.store_files.specs.file_tree.Moved.{IsPushed, IsMovedWhole, has_name}
use Rattle.store_files.proofs.file_tree.Keys.{path_is, exists_is, some_there}
use Rattle.store_files.proofs.file_tree.Entries.{key_of_path}
use Rattle.store_files.proofs.file_tree.Full.{path_filled}
use Rattle.store_files.proofs.file_tree.RowsMade.{row_there, gone_row}
use Rattle.store_files.proofs.file_tree.Found.{none_found}
use Rattle.store_files.proofs.file_tree.Below.{below_is}
use Rattle.store_files.proofs.file_tree.Behind.{moved_drop, boundary}
use Rattle.store_files.proofs.file_tree.Renaming.{names_more, has_more}
use Rattle.store_files.proofs.file_tree.Target.{within_rest, within_cases, house_of, itself_within, some_is, begins_append}

-- the name of one file
pub named : (t : Tree) (s : Server) (f : ℕ) (r : Row) (n : NewName) (old to : List ℕ) (front : ℕ) → ShowsFiles t s
    → get nat_eq t.rows f ≡ Some r
    → (IsCharBoundary r.path front → IsMovedName n (to ++ drop front r.path) r.directory) → (length old == 0) ≡ false → front ≡ length old
    → name_within (after_key (folded old) (folded (path_in s.entries f))) ≡ true → IsNameOf n (path_at s.entries f) (s.directory f) old to
named t s f r n old to front h e i z l w =
    let x = row_there (get nat_eq t.rows f) r (path_at s.entries f) (s.directory f) (s.delete_pending f) (s.basic f)
    (s.content f) e (h.rows.rows_are f) in
    let p : path_in s.entries f ≡ r.path = path_is s.entries f ∙ ap (λ (o : Option (List ℕ)). unwrap_or o []) x.0 in
    let v : name_within (after_key (folded old) (folded r.path)) ≡ true =
    ap (λ (q : List ℕ). name_within (after_key (folded old) (folded q))) (sym p) ∙ w in
    let b = subst (λ k. IsCharBoundary r.path k) (sym l) (boundary old r.path v) in
    let q : to ++ drop front r.path ≡ moved_path old to r.path = ap (λ k. to ++ drop k r.path) l ∙ sym (moved_drop old to r.path z v) in
    subst (λ (o : Option (List ℕ)). IsNameOf n o (s.directory f) old to) (sym x.0) (
      v,
      subst (λ (k : List ℕ). IsMovedName n k (s.directory f)) q (subst (λ d. IsMovedName n (to ++ drop front r.path) d)
          (sym x.1.directory_is) (i b)),
    )

-- ---- files in a list

pub has_more_files : (g x : ℕ) (xs : List ℕ) → has g (xs ++ x ∷ []) ≡ (has g xs || (x == g))
has_more_files g x [] = by (x == g)
  where
    by : (b : Bool) → (if b then true else false) ≡ b
    by true = refl
    by false = refl
has_more_files g x (y ∷ ys) = by (y == g) (has_more_files g x ys)
  where
    by : (b : Bool) → has g (ys ++ x ∷ []) ≡ (has g ys || (x == g)) → (if b then true else has g (ys ++ x ∷ []))
        ≡ ((if b then true else has g ys) || (x == g))
    by true e = refl
    by false e = e

pub has_at : (xs : List ℕ) (i : ℕ) → i < length xs → has (get_or xs i 0) xs ≡ true
has_at [] i l = absurd (omega arith)
has_at (x ∷ xs) zero l = let e : (x == x) ≡ true = grind (arith, nat_tests) in rw e refl
has_at (x ∷ xs) (suc i) l = by (x == get_or xs i 0) (has_at xs i (omega arith))
  where
    by : (b : Bool) → has (get_or xs i 0) xs ≡ true → (if b then true else has (get_or xs i 0) xs) ≡ true
    by true e = refl
    by false e = e

pub has_behind : (g x : ℕ) (xs : List ℕ) → has g xs ≡ true → has g (x ∷ xs) ≡ true
has_behind g x xs e = by (x == g)
  where
    by : (b : Bool) → (if b then true else has g xs) ≡ true
    by true = refl
    by false = e

pub has_first : (x : ℕ) (xs : List ℕ) → has x (x ∷ xs) ≡ true
has_first x xs = let e : (x == x) ≡ true = grind (arith, nat_tests) in rw e refl

-- ---- one name more

pub gathered_more : (ns ms : List NewName) (fs : List ℕ) (x : ℕ) (s : Server) (old to : List ℕ)
    → AreMovedNames ns s.entries s.directory old to × ((g : ℕ) → has_name ns g ≡ has g fs)
    → IsPushed ns ms s x old to → AreMovedNames ms s.entries s.directory old to × ((g : ℕ) → has_name ms g ≡ has g (fs ++ x ∷ []))
gathered_more ns ms fs x s old to h p =
    let n = p.0 in
    let i : IsNameOf n (path_at s.entries n.file) (s.directory n.file) old to =
    subst (λ k. IsNameOf n (path_at s.entries k) (s.directory k) old to) (sym p.2) p.3 in (
      subst (λ (l : List NewName). AreMovedNames l s.entries s.directory old to) (sym p.1)
          (names_more ns n s.entries s.directory old to h.0 i),
      λ g. ap (λ (l : List NewName). has_name l g) p.1
          ∙ (has_more ns n g ∙ (ap (λ b. b || (n.file == g)) (h.1 g)
          ∙ (ap (λ k. has g fs || (k == g)) p.2 ∙ sym (has_more_files g x fs)))),
    )

pub gathered_one : (ns ms : List NewName) (x : ℕ) (s : Server) (old to : List ℕ) → ns ≡ [] → IsPushed ns ms s x old to
    → AreMovedNames ms s.entries s.directory old to × ((g : ℕ) → has_name ms g ≡ has g (x ∷ []))
gathered_one ns ms x s old to e p = gathered_more [] ms [] x s old to (tt, λ g. refl)
    (subst (λ (l : List NewName). IsPushed l ms s x old to) e p)

pub gathered_at : (ns ms : List NewName) (file : ℕ) (below : List ℕ) (i x : ℕ) (s : Server) (old to : List ℕ)
    → i < length below → x ≡ get_or below i 0
    → AreMovedNames ns s.entries s.directory old to × ((g : ℕ) → has_name ns g ≡ has g (file ∷ take i below)) → IsPushed ns ms s x old to
    → AreMovedNames ms s.entries s.directory old to × ((g : ℕ) → has_name ms g ≡ has g (file ∷ take (i + 1) below))
gathered_at ns ms file below i x s old to l e h p =
    let m = gathered_more ns ms (file ∷ take i below) x s old to h p in
    (m.0, λ g. m.1 g ∙ ap (λ (xs : List ℕ). has g (file ∷ xs)) (ap (λ (k : ℕ). take i below ++ k ∷ []) e ∙ sym (take_more below i 0 l)))

pub no_row_there : (t : Tree) (s : Server) (f : ℕ) → ShowsFiles t s → get nat_eq t.rows f ≡ None → exists_in s.entries f
    ≡ true → false ≡ true
no_row_there t s f h n e =
    none_found (path_at s.entries f) (gone_row (get nat_eq t.rows f) (path_at s.entries f) (s.directory f)
    (s.delete_pending f) (s.basic f) (s.content f) n (h.rows.rows_are f)) (sym (exists_is s.entries f) ∙ e)

-- ---- all that has the old front

begun : (d q : List ℕ) → key_begins (d ++ 92 ∷ []) q ≡ true → name_within (after_key d q) ≡ true
unfolding key_begins name_within after_key
begun [] [] b = absurd (cc)
begun [] (c ∷ cs) b = grind (arith, common_steps)
begun (x ∷ xs) [] b = absurd (cc)
begun (x ∷ xs) (y ∷ ys) b = let h = begun xs ys in grind (arith, common_steps)

module _ (t : Tree) (s : Server) (f : ℕ) (h : ShowsFiles t s) (there : exists_in s.entries f ≡ true) (below : List ℕ)
    (are : (g : ℕ) → has g below ≡ (is_directory s f && (exists_in s.entries g && is_below (path_of s f) (path_in s.entries g)))) where
  abbrev old : List ℕ
  old = path_of s f

  stands : path_at s.entries f ≡ Some old
  unfolding path_of
  stands = some_there s.entries f there

  pub old_filled : (length old == 0) ≡ false
  old_filled = path_filled s.entries f old h.rows.apart h.rows.no_empty stands

  both : (b c : Bool) → (b && c) ≡ true → (b ≡ true) × (c ≡ true)
  both true true e = (refl, refl)
  both true false e = absurd (cc)
  both false c e = absurd (cc)

  and : (b c : Bool) → b ≡ true → c ≡ true → (b && c) ≡ true
  and true true i j = refl
  and true false i j = absurd (cc)
  and false c i j = absurd (cc)

  lies : (p : List ℕ) → is_below old p ≡ true → name_within (after_key (folded old) (folded p)) ≡ true
  lies p e = begun (folded old) (folded p) (sym (below_is old p old_filled) ∙ e)

  pub are_within : AreWithin (f ∷ below) s old
  unfolding path_of
  are_within g e = by (f == g) refl e
    where
      itself : f ≡ g → (exists_in s.entries g ≡ true) × (name_within (after_key (folded old) (folded (path_in s.entries g))) ≡ true)
      itself i = subst (λ k. (exists_in s.entries k ≡ true)
          × (name_within (after_key (folded (path_in s.entries f)) (folded (path_in s.entries k))) ≡ true)) i
          (there, itself_within (folded (path_in s.entries f)))

      by : (b : Bool) → (f == g) ≡ b → (if b then true else has g below) ≡ true → (exists_in s.entries g ≡ true)
          × (name_within (after_key (folded old) (folded (path_in s.entries g))) ≡ true)
      by true i t = itself (grind (arith, nat_tests))
      by false i t =
          let x = both (is_directory s f) (exists_in s.entries g && is_below old (path_in s.entries g)) (sym (are g) ∙ t) in
          let y = both (exists_in s.entries g) (is_below old (path_in s.entries g)) x.1 in
          (y.0, lies (path_in s.entries g) y.1)

  house : s.directory f ≡ true → is_directory s f ≡ true
  unfolding is_directory
  house e = by (f == 0)
    where
      by : (b : Bool) → (b || s.directory f) ≡ true
      by true = refl
      by false = e

  pub is_whole : (ns : List NewName) → ((g : ℕ) → has_name ns g ≡ has g (f ∷ below)) → IsMovedWhole ns s.entries old
  is_whole ns n = λ g p e w.
      let r = within_rest (folded old) (folded p) w in
      n g ∙ by g p e r.0 r.1 (within_cases r.0 r.2)
    where
      own : at_key s.entries (folded old) ≡ Some f
      own = key_of_path s.entries f old h.rows.apart stands

      same_file : (g : ℕ) (p : List ℕ) → path_at s.entries g ≡ Some p → folded p ≡ folded old → f ≡ g
      same_file g p e z = let x = sym own ∙ (ap (at_key s.entries) (sym z) ∙ key_of_path s.entries g p h.rows.apart e) in cc

      in_it : (g : ℕ) (p : List ℕ) → path_at s.entries g ≡ Some p → p ≡ path_in s.entries g
      in_it g p e = sym (path_is s.entries g ∙ ap (λ (o : Option (List ℕ)). unwrap_or o []) e)

      by : (g : ℕ) (p : List ℕ) → path_at s.entries g ≡ Some p → (r : List ℕ) → folded p ≡ folded old ++ r → (r ≡ [])
          ⊎ ((l : List ℕ) × (r ≡ 92 ∷ l)) → has g (f ∷ below) ≡ true
      by g p e r k (inl z) = subst (λ x. has x (f ∷ below) ≡ true)
          (same_file g p e (k ∙ (ap (λ (q : List ℕ). folded old ++ q) z ∙ append-nil (folded old)))) (has_first f below)
      by g p e r k (inr l) =
          let q : folded p ≡ folded old ++ 92 ∷ l.0 = k ∙ ap (λ (x : List ℕ). folded old ++ x) l.1 in
          let up = house_of (at_key s.entries (folded old)) s.directory f own
          (h.rows.housed (folded old) l.0 (some_is (at_key s.entries (folded old ++ 92 ∷ l.0)) g
          (ap (at_key s.entries) (sym q) ∙ key_of_path s.entries g p h.rows.apart e))) in
          let lies : is_below old p ≡ true = below_is old p old_filled
          ∙ (ap (key_begins (below_key old)) (q ∙ sym (append_assoc (folded old) (92 ∷ []) l.0))
          ∙ begins_append (below_key old) l.0) in
          let there : exists_in s.entries g ≡ true = exists_is s.entries g ∙ ap is_some e in
          has_behind g f below (are g ∙ and (is_directory s f) (exists_in s.entries g && is_below old (path_in s.entries g)) (house up)
          (and (exists_in s.entries g) (is_below old (path_in s.entries g)) there (ap (is_below old) (sym (in_it g p e)) ∙ lies)))

pub row_found : (t : Tree) (s : Server) (f : ℕ) (r : Row) → ShowsFiles t s → exists_in s.entries f ≡ true
    → get nat_eq t.rows f ≡ Some r → FileRowFound (Some r) s f
row_found t s f r h there e = by (f == 0) refl
  where
    by : (b : Bool) → (f == 0) ≡ b → RowOrRoot b (Some r) s f
    by true i =
        let zero_is : f ≡ 0 = grind (arith, nat_tests) in
        absurd (let x = none_found (path_at s.entries f) (ap (path_at s.entries) zero_is ∙ h.rows.no_root)
        (sym (exists_is s.entries f) ∙ there) in cc)
    by false i = (rw e at (h.rows.rows_are f))
