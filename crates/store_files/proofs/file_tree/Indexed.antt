-- What the keys of the index name: each the file of its path, with a row that has its name.
use Rattle.std.proofs.Common.{◌≡◌, ℕ, ◌==◌, nat_eq, Bool, true, false, if◌then◌else◌, List, [], ◌∷◌, ◌++◌, length}
use Rattle.std.proofs.Common.{String, Option, Some, None, is_some, unwrap_or, refl, sym, ap, subst, ◌∙◌, arith}
use Rattle.std.proofs.lemmas.Grind.{common_steps}
use Rattle.std.proofs.lemmas.Bool.Decides.{nat_tests}
use Rattle.std.proofs.lemmas.List.{append_assoc}
use Rattle.std.proofs.lemmas.Cmp.{nat_list_cmp_total}
use Rattle.std.specs.HashMap.{get}
use Rattle.std.specs.BTreeMap.{get_by_text}
use Rattle.std.specs.String.{string_bytes}
use Rattle.std.specs.Ordering.{is_eq, nat_cmp, ordering_reverse}
use Rattle.std.specs.declared.cmp.Ordering.TheVariants.{Greater}
use Rattle.std.specs.Cmp.Lexicographic.{slice_cmp}
use Rattle.spec_exchange.specs.State.{Server, Entry, Named}
use Rattle.spec_exchange.specs.Texts.{leaf_of, begins_with_backslash, parent_of}
use Rattle.spec_exchange.specs.Files.{exists, exists_in, find, info_of, path_in, path_of}
use Rattle.spec_exchange.specs.Listing.{parent_file, children, wanted}
use Rattle.store_files.specs.declared.file_tree.row.Row.{Row}
use Rattle.store_files.specs.declared.file_tree.row.Info.{Info}
use Rattle.store_files.specs.declared.file_tree.tree.Tree.{Tree}
use Rattle.store_files.specs.file_tree.Shown.{folded, below_key, at_key, path_at, FileApart, AllPlain, FileRowFound}
use Rattle.store_files.specs.file_tree.Shown.{RowOrRoot, InfoIs, ShowsFiles, model_info}
use Rattle.store_files.specs.file_tree.Keys.{has_slash}
use Rattle.store_files.specs.file_tree.Listed.{IsRowNamed, AreListingRows, named_of, listing_accepted, start_key, from_key, kids}
use Rattle.store_files.proofs.file_tree.Keys.{exists_is, path_is}
use Rattle.store_files.proofs.file_tree.Found.{found_info, found_there, found_path, found_below}
use Rattle.store_files.proofs.file_tree.Full.{row_filled}
use Rattle.store_files.proofs.file_tree.Entries.{key_of_path}
use Rattle.store_files.proofs.file_tree.Target.{house_of}
use Rattle.store_files.proofs.file_tree.Sorted.{named, same_names}
use Rattle.store_files.proofs.file_tree.Kids.{front_of}
use Rattle.store_files.proofs.file_tree.Gathered.{row_found}
use Rattle.store_files.proofs.file_tree.Moving.{path_of_key}
use Rattle.store_files.proofs.file_tree.RowsMade.{row_there}
use Rattle.store_files.proofs.file_tree.Pairs.{at_text, AreLater, InOrder}
use Rattle.store_files.proofs.file_tree.Taking.{AllFound}
use Rattle.store_files.proofs.file_tree.Walked.{Keyed, AreChildren, children_are, child_at, walked_names}

-- ---- each entry of the index is what its key finds

module _ {Y : Type 0} where
  first_found : (e : String Y × ℕ) (es : List (String Y × ℕ)) → at_text (e ∷ es) (string_bytes e.0) ≡ Some e.1
  first_found e es = rw (itself (string_bytes e.0)) refl
    where
      itself : (k : List ℕ) → is_eq (slice_cmp nat_cmp k k) ≡ true
      itself [] = refl
      itself (c ∷ cs) = let h = itself cs in grind (arith, common_steps, nat_tests)

  later_found : (e : String Y × ℕ) (es xs : List (String Y × ℕ)) → AreLater (string_bytes e.0) xs
      → AllFound (at_text es) xs → AllFound (at_text (e ∷ es)) xs
  later_found e es [] l h = tt
  later_found e es (x ∷ xs) l h = (rw (other) h.0, later_found e es xs l.1 h.1)
    where
      turned : slice_cmp nat_cmp (string_bytes x.0) (string_bytes e.0) ≡ Greater
      turned = nat_list_cmp_total.antisymm (string_bytes x.0) (string_bytes e.0) ∙ ap ordering_reverse l.0

      other : is_eq (slice_cmp nat_cmp (string_bytes x.0) (string_bytes e.0)) ≡ false
      other = ap is_eq turned

  pub all_found : (es : List (String Y × ℕ)) → InOrder es → AllFound (at_text es) es
  all_found [] o = tt
  all_found (e ∷ es) o = (first_found e es, later_found e es es o.0 (all_found es o.1))

  -- ---- and its key is that of its file's path

  pub all_keyed : (s : Server) (path : List ℕ) (at : List ℕ → Option ℕ) (es : List (String Y × ℕ)) → FileApart s.entries
      → AllPlain s.entries → ((q : List ℕ) → at q ≡ at_key s.entries q) → AllFound at es → Keyed s path es
  unfolding path_at
  all_keyed s path at [] apart plain same h = tt
  all_keyed s path at (e ∷ es) apart plain same h =
      let k = path_of_key s.entries (string_bytes e.0) e.1 apart (sym (same (string_bytes e.0)) ∙ h.0) in
      let in_it : path_in s.entries e.1 ≡ k.0 = path_is s.entries e.1 ∙ ap (λ (o : Option (List ℕ)). unwrap_or o []) k.1 in (
        ap folded in_it ∙ k.2,
        ap begins_with_backslash in_it ∙ plain_at s.entries e.1 k.0 plain k.1,
        all_keyed s path at es apart plain same h.1,
      )
    where
      plain_at : (xs : List Entry) (f : ℕ) (p : List ℕ) → AllPlain xs → path_at xs f ≡ Some p → begins_with_backslash p ≡ false
      plain_at [] f p a e = absurd (let x = no_path f p e in cc)
        where
          no_path : (f : ℕ) (p : List ℕ) → path_at [] f ≡ Some p → false ≡ true
          no_path f p e = absurd (cc)
      plain_at (x ∷ xs) f p a e = by (x.file == f) e (plain_at xs f p a.2)
        where
          by : (b : Bool) → (if b then Some x.path else path_at xs f) ≡ Some p
              → (path_at xs f ≡ Some p → begins_with_backslash p ≡ false) → begins_with_backslash p ≡ false
          by true i t = let same : x.path ≡ p = cc in ap begins_with_backslash (sym same) ∙ a.1
          by false i t = t i

-- ---- rows by the keys that name them

pub are_rows : (t : Tree) (s : Server) → ShowsFiles t s → AreListingRows (λ q. get_by_text t.paths q)
    (λ f. get nat_eq t.rows f) (named_of s)
are_rows t s h = λ q f e.
    let k = path_of_key s.entries q f h.rows.apart (sym (h.keys_are q) ∙ e) in
    by f k.0 k.1 (get nat_eq t.rows f) refl
  where
    by : (f : ℕ) (p : List ℕ) → path_at s.entries f ≡ Some p → (o : Option Row) → get nat_eq t.rows f ≡ o → IsRowNamed o f (named_of s f)
    by f p e None i = absurd (let x = none_there f p e (row_none f i) in cc)
      where
        row_none : (f : ℕ) → get nat_eq t.rows f ≡ None → path_at s.entries f ≡ None
        row_none f i = let x = rw i at (h.rows.rows_are f) in x

        none_there : (f : ℕ) (p : List ℕ) → path_at s.entries f ≡ Some p → path_at s.entries f ≡ None → false ≡ true
        none_there f p e n = absurd (cc)
    by f p e (Some r) i =
        let x = row_there (get nat_eq t.rows f) r (path_at s.entries f) (s.directory f) (s.delete_pending f) (s.basic f)
        (s.content f) i (h.rows.rows_are f) in
        let there : exists_in s.entries f ≡ true = exists_is s.entries f ∙ ap is_some e in
        let in_it : path_in s.entries f ≡ r.path = path_is s.entries f ∙ ap (λ (o : Option (List ℕ)). unwrap_or o []) x.0 in
        (ap leaf_of in_it, λ j is. found_info s f r j (row_found t s f r h there i) is)

pub row_named : (o : Option Row) (r : Row) (f : ℕ) (n : Named) (name : List ℕ) (i : Info) → o ≡ Some r
    → IsRowNamed o f n → name ≡ leaf_of r.path → InfoIs i f r → record { name = name; info = model_info i } ≡ n
row_named o r f n name i e h l is = same (l ∙ sym k.0) (k.1 i is)
  where
    k : IsRowNamed (Some r) f n
    k = subst (λ x. IsRowNamed x f n) e h

    same : name ≡ n.name → model_info i ≡ n.info → record { name = name; info = model_info i } ≡ n
    same p q = λ j. record { name = p j; info = q j }

pub no_row_named : (o : Option Row) (f : ℕ) (n : Named) → o ≡ None → IsRowNamed o f n → false ≡ true
no_row_named None f n e h = absurd h
no_row_named (Some r) f n e h = absurd (cc)

-- the parent of a path that is there is there
pub parent_there : (s : Server) (p : List ℕ) → exists s (parent_file (find s p)) ≡ true
unfolding parent_file exists
parent_there s p = by (find s p) refl
  where
    by : (o : Option ℕ) → find s p ≡ o → exists s (parent_file o) ≡ true
    by None e = refl
    by (Some f) e = found_there s p f e

-- ---- the names of a directory by its row

none_named : (k : List ℕ) → named [] k ≡ None
unfolding named
none_named k = refl

front_key : (p : List ℕ) → (length p == 0) ≡ false → front_of p ≡ below_key p
front_key [] n = absurd (cc)
front_key (c ∷ cs) n = refl

module _ (t : Tree) (s : Server) (f : ℕ) (r : Row) (h : ShowsFiles t s) (found : FileRowFound (Some r) s f) where
  abbrev path : List ℕ
  path = path_of s f

  same_path : r.path ≡ path
  same_path = found_path s f r h.rows.no_root found

  front_below : r.directory ≡ true → string_bytes r.below ≡ front_of path
  front_below d = by (f == 0) refl found
    where
      by : (b : Bool) → (f == 0) ≡ b → RowOrRoot b (Some r) s f → string_bytes r.below ≡ front_of path
      by true e x = x.2 ∙ ap front_of (sym x.0 ∙ same_path)
      by false e x =
          let n = row_filled s f r h.rows.apart h.rows.no_empty e found in
          found_below s f r found n d ∙ (sym (front_key r.path n) ∙ ap front_of same_path)

  pub taken_children : (last : Option (List ℕ)) (pattern start : List ℕ) → r.directory ≡ true → start
      ≡ start_key (string_bytes r.below) last → InOrder t.paths.entries
      → listing_accepted pattern (kids (named_of s) (string_bytes r.below) (from_key start t.paths.entries))
      ≡ wanted last pattern (children s s.entries path)
  taken_children last pattern start d e order =
      let front = front_below d in
      let keyed = all_keyed s path (λ q. get_by_text t.paths q) t.paths.entries h.rows.apart h.rows.plain h.keys_are
      (all_found t.paths.entries order) in
      ap (λ (k : List ℕ). listing_accepted pattern (kids (named_of s) (string_bytes r.below) (from_key k t.paths.entries))) e
      ∙ (ap (λ (k : List ℕ). listing_accepted pattern (kids (named_of s) k (from_key (start_key k last) t.paths.entries))) front
      ∙ walked_names s path last pattern t.paths.entries h.rows.apart h.rows.plain order keyed h.keys_are)

  -- nothing stands in a file
  pub no_children : (last : Option (List ℕ)) (pattern : List ℕ) → r.directory ≡ false → [] ≡ wanted last pattern (children s s.entries path)
  unfolding wanted
  no_children last pattern d = sym (ap (wanted last pattern) none)
    where
      other : (b : Bool) → (f == 0) ≡ b → RowOrRoot b (Some r) s f → b ≡ false
      other true e x = absurd (let y = (x.1).directory_is in cc)
      other false e x = refl

      off : (f == 0) ≡ false
      off = let b = other (f == 0) refl found in b

      own : (b : Bool) → (f == 0) ≡ b → b ≡ false → RowOrRoot b (Some r) s f → (at_key s.entries (folded path) ≡ Some f)
          × (s.directory f ≡ false)
      own true e i x = absurd (cc)
      own false e i x = (key_of_path s.entries f path h.rows.apart (x.0 ∙ ap Some same_path), (x.1).directory_is ∙ d)

      mine : (at_key s.entries (folded path) ≡ Some f) × (s.directory f ≡ false)
      mine = own (f == 0) refl off found

      nothing : (k : List ℕ) (o : Option ℕ) → at_key s.entries (folded path ++ 92 ∷ k) ≡ o → o ≡ None
      nothing k None e = refl
      nothing k (Some g) e = absurd (let x = house_of (at_key s.entries (folded path)) s.directory f mine.0
          (h.rows.housed (folded path) k (ap is_some e)) in let y = mine.1 in cc)

      filled : (length path == 0) ≡ false
      filled = ap (λ (p : List ℕ). length p == 0) (sym same_path) ∙ row_filled s f r h.rows.apart h.rows.no_empty off found

      key : (k : List ℕ) → front_of path ++ k ≡ folded path ++ 92 ∷ k
      key k = ap (λ (p : List ℕ). p ++ k) (front_key path filled) ∙ append_assoc (folded path) (92 ∷ []) k

      kid : AreChildren s path s.entries
      kid = children_are s path s.entries h.rows.apart h.rows.plain

      none_at : (b : Bool) (o : Option ℕ) → o ≡ None → child_at s s.entries b o ≡ None
      none_at true o e = refl
      none_at false None e = refl
      none_at false (Some g) e = absurd (cc)

      none : children s s.entries path ≡ []
      none = same_names (children s s.entries path) [] kid.ascend tt (λ k.
          kid.by_key k ∙ (none_at (has_slash k) (at_key s.entries (front_of path ++ k))
          (nothing k (at_key s.entries (front_of path ++ k)) (ap (at_key s.entries) (sym (key k))))
          ∙ sym (none_named k)))

pub dots_info : (t : Tree) (s : Server) (f : ℕ) (r : Row) → ShowsFiles t s → FileRowFound (Some r) s f
    → (parent : ℕ) (i : Info) → parent ≡ parent_file (find s (parent_of r.path))
    → (exists s parent ≡ true → model_info i ≡ info_of s parent) → model_info i ≡ info_of s (parent_file (find s (parent_of (path_of s f))))
dots_info t s f r h found parent i p known =
    let e = p ∙ ap (λ (q : List ℕ). parent_file (find s (parent_of q))) (found_path s f r h.rows.no_root found) in
    known (ap (exists s) e ∙ parent_there s (parent_of (path_of s f))) ∙ ap (info_of s) e
