-- Files by their paths as they are spelled.
use Rattle.std.proofs.Common.{◌≡◌, ℕ, ◌==◌, nat_eq, Bool, true, false, not, ◌&&◌, cond, if◌then◌else◌, List, [], ◌∷◌}
use Rattle.std.proofs.Common.{◌++◌, String, Option, Some, None, is_some, unwrap_or, refl, sym, ap, subst, ◌∙◌, arith}
use Rattle.std.specs.Bool.{⊤}
use Rattle.std.proofs.lemmas.Bool.Decides.{nat_tests}
use Rattle.std.proofs.lemmas.Map.Text.{is_eq-slice_cmp}
use Rattle.std.specs.Str.{bytes_eq}
use Rattle.std.specs.String.{string_bytes, string_cmp}
use Rattle.std.specs.Ordering.{is_eq, nat_cmp}
use Rattle.std.specs.declared.cmp.Ordering.TheVariants.{Less}
use Rattle.std.specs.Cmp.Lexicographic.{slice_cmp, nat_list_eq_equiv}
use Rattle.spec_exchange.specs.State.{Server, Entry}
use Rattle.std.specs.HashMap.{get}
use Rattle.std.specs.BTreeMap.{get_by_text}
use Rattle.std.specs.Map.{keys_of}
use Rattle.std.specs.List.Sorted.{IsStrictlySortedBy}
use Rattle.spec_exchange.specs.Files.{exists_in, path_in}
use Rattle.store_files.specs.file_extents.Kept.{IsContent}
use Rattle.store_files.specs.declared.file_tree.files.StoredFile.{StoredFile}
use Rattle.store_files.specs.declared.file_tree.row.Row.{Row}
use Rattle.store_files.specs.declared.file_tree.tree.Tree.{Tree}
use Rattle.store_files.specs.file_tree.Shown.{folded, at_key, path_at, FileApart, ShowsFiles}
use Rattle.store_files.specs.file_tree.Stored.{spelled_in, content_of, stored_at, StandsBefore, PathsAscend}
use Rattle.store_files.proofs.file_tree.Entries.{bytes_same}
use Rattle.store_files.proofs.file_tree.Keys.{path_is, exists_is}
use Rattle.store_files.proofs.file_tree.Taking.{AllFound}
use Rattle.store_files.proofs.file_tree.Indexed.{all_found}
use Rattle.store_files.proofs.file_tree.RowsMade.{row_there}
use Rattle.store_files.proofs.file_tree.Moving.{path_of_key}
use Rattle.store_files.proofs.file_tree.Pairs.{at_text, AreLater, InOrder, in_order}

same_eq : (p q : List ℕ) → p ≡ q → bytes_eq p q ≡ true
same_eq p q e = ap (λ (x : List ℕ). bytes_eq x q) e ∙ nat_list_eq_equiv.refl q

-- where no entry has its key, no entry has the path
pub no_key : (s : Server) (es : List Entry) (p : List ℕ) → at_key es (folded p) ≡ None → spelled_in s es p ≡ None
unfolding at_key spelled_in
no_key s [] p e = refl
no_key s (x ∷ xs) p e = by (bytes_eq x.path p) refl (bytes_eq (folded x.path) (folded p)) refl (not (s.directory x.file)) e (no_key s xs p)
  where
    by : (b : Bool) → bytes_eq x.path p ≡ b → (c : Bool) → bytes_eq (folded x.path) (folded p) ≡ c → (d : Bool)
        → (if c then Some x.file else at_key xs (folded p)) ≡ None
        → (at_key xs (folded p) ≡ None → spelled_in s xs p ≡ None) → (if b && d then Some x.file else spelled_in s xs p) ≡ None
    by b i true j d n more = absurd (cc)
    by true i false j d n more = absurd (let y = same_eq (folded x.path) (folded p) (ap folded (bytes_same x.path p i)) in cc)
    by false i false j d n more = more n

-- the entry with the key is the only one that may have the path
pub key_decides : (s : Server) (es : List Entry) (p : List ℕ) (f : ℕ) (q : List ℕ) → FileApart es → at_key es (folded p)
    ≡ Some f → path_at es f ≡ Some q
    → spelled_in s es p ≡ (if bytes_eq q p && not (s.directory f) then Some f else None)
unfolding at_key path_at spelled_in
key_decides s [] p f q a e k = absurd (cc)
key_decides s (x ∷ xs) p f q a e k = by (bytes_eq (folded x.path) (folded p)) refl (x.file == f) refl e k
    (λ i j. key_decides s xs p f q a.2 i j)
  where
    here : x.file ≡ f → x.path ≡ q → spelled_in s xs p ≡ None
        → (if bytes_eq x.path p && not (s.directory x.file) then Some x.file else spelled_in s xs p)
        ≡ (if bytes_eq q p && not (s.directory f) then Some f else None)
    here i j n = rw (n, i, j) refl

    other : bytes_eq (folded x.path) (folded p) ≡ false → (b : Bool) → bytes_eq x.path p ≡ b → b ≡ false
    other n false i = refl
    other n true i = absurd (let y = same_eq (folded x.path) (folded p) (ap folded (bytes_same x.path p i)) in cc)

    by : (c : Bool) → bytes_eq (folded x.path) (folded p) ≡ c → (d : Bool) → (x.file == f) ≡ d
        → (if c then Some x.file else at_key xs (folded p)) ≡ Some f → (if d then Some x.path else path_at xs f)
        ≡ Some q
        → (at_key xs (folded p) ≡ Some f → path_at xs f ≡ Some q → spelled_in s xs p
        ≡ (if bytes_eq q p && not (s.directory f) then Some f else None))
        → (if bytes_eq x.path p && not (s.directory x.file) then Some x.file else spelled_in s xs p)
        ≡ (if bytes_eq q p && not (s.directory f) then Some f else None)
    by true i true j t u more =
        let g : x.file ≡ f = cc in
        let h : x.path ≡ q = cc in
        here g h (no_key s xs p (ap (at_key xs) (sym (bytes_same (folded x.path) (folded p) i)) ∙ a.0))
    by true i false j t u more = absurd (let g : x.file ≡ f = cc in let y : (x.file == f) ≡ true = grind (arith, nat_tests) in cc)
    by false i true j t u more =
        let g : x.file ≡ f = grind (arith, nat_tests) in
        let y = path_of_key xs (folded p) f a.2 t in
        absurd (let z = ap (path_at xs) g in let n = a.1 in let w = y.1 in cc)
    by false i false j t u more = rw (other i (bytes_eq x.path p) refl) (more t u)

-- what is found so is there
pub spelled_there : (s : Server) (es : List Entry) (p : List ℕ) (f : ℕ) → spelled_in s es p ≡ Some f → exists_in es f ≡ true
unfolding spelled_in exists_in
spelled_there s [] p f e = absurd (cc)
spelled_there s (x ∷ xs) p f e = by (bytes_eq x.path p && not (s.directory x.file)) (x.file == f) refl refl e
    (λ i. spelled_there s xs p f i)
  where
    by : (b c : Bool) → (bytes_eq x.path p && not (s.directory x.file)) ≡ b → (x.file == f) ≡ c
        → (if b then Some x.file else spelled_in s xs p) ≡ Some f
        → (spelled_in s xs p ≡ Some f → exists_in xs f ≡ true) → (if c then true else exists_in xs f) ≡ true
    by b true i j t more = refl
    by true false i j t more = absurd (let g : x.file ≡ f = cc in let y : (x.file == f) ≡ true = grind (arith, nat_tests) in cc)
    by false false i j t more = more t

-- ---- the walk along the index

-- what the map has while these entries are still to come
abbrev pub so_far : {Y : Type 0} → Server → List (String Y × ℕ) → List ℕ → Option ℕ
so_far s it p = if is_some (at_text it (folded p)) then None else spelled_in s s.entries p

module _ {Y : Type 0} (s : Server) where
  pub spelled_begun : (all : List (String Y × ℕ)) → ((q : List ℕ) → at_text all q ≡ at_key s.entries q) → (p : List ℕ)
      → None ≡ so_far s all p
  spelled_begun all same p = by (at_text all (folded p)) refl
    where
      by : (o : Option ℕ) → at_text all (folded p) ≡ o → None ≡ (if is_some o then None else spelled_in s s.entries p)
      by (Some f) e = refl
      by None e = sym (no_key s s.entries p (sym (same (folded p)) ∙ e))

  later_none : (k : List ℕ) (es : List (String Y × ℕ)) → AreLater k es → at_text es k ≡ None
  later_none k [] h = refl
  later_none k (e ∷ es) h = rw (h.0) (later_none k es h.1)

  -- one file more
  pub spelled_on : (it es : List (String Y × ℕ)) (k : String Y) (f : ℕ) (q : List ℕ) (was now : List ℕ → Option ℕ)
      → FileApart s.entries → it ≡ (k, f) ∷ es → InOrder it
      → at_key s.entries (string_bytes k) ≡ Some f → path_at s.entries f ≡ Some q → folded q ≡ string_bytes k
      → ((p : List ℕ) → was p ≡ so_far s it p)
      → ((p : List ℕ) → now p ≡ (if bytes_eq q p && not (s.directory f) then Some f else was p)) → (p : List ℕ)
      → now p ≡ so_far s es p
  spelled_on it es k f q was now apart e order at there key before step p = by (is_eq (slice_cmp nat_cmp (folded p) (string_bytes k))) refl
    where
      o : InOrder ((k, f) ∷ es)
      o = subst (λ (x : List (String Y × ℕ)). InOrder x) e order

      old : was p ≡ (if is_some (cond (is_eq (slice_cmp nat_cmp (folded p) (string_bytes k))) (Some f)
          (at_text es (folded p))) then None else spelled_in s s.entries p)
      old = before p ∙ ap (λ (x : List (String Y × ℕ)). so_far s x p) e

      itself : folded p ≡ string_bytes k → now p ≡ so_far s es p
      itself i =
          let none : at_text es (folded p) ≡ None = ap (at_text es) i ∙ later_none (string_bytes k) es o.0 in
          let gone : was p ≡ None = old ∙ rw (sound i) refl in
          let decided = key_decides s s.entries p f q apart (ap (at_key s.entries) i ∙ at) there in
          step p ∙ (ap (λ (x : Option ℕ). if bytes_eq q p && not (s.directory f) then Some f else x) gone ∙ (sym decided ∙ rw none refl))
        where
          sound : folded p ≡ string_bytes k → is_eq (slice_cmp nat_cmp (folded p) (string_bytes k)) ≡ true
          sound i = is_eq-slice_cmp (folded p) (string_bytes k) ∙ same_eq (folded p) (string_bytes k) i

      apart_from : (b : Bool) → bytes_eq q p ≡ b → is_eq (slice_cmp nat_cmp (folded p) (string_bytes k)) ≡ false → b ≡ false
      apart_from false i n = refl
      apart_from true i n =
          let same : folded p ≡ string_bytes k = ap folded (sym (bytes_same q p i)) ∙ key in
          absurd (let y = is_eq-slice_cmp (folded p) (string_bytes k) in let z = same_eq (folded p) (string_bytes k) same in cc)

      by : (b : Bool) → is_eq (slice_cmp nat_cmp (folded p) (string_bytes k)) ≡ b → now p ≡ so_far s es p
      by true i = itself (bytes_same (folded p) (string_bytes k) (sym (is_eq-slice_cmp (folded p) (string_bytes k)) ∙ i))
      by false i = step p ∙ (rw (apart_from (bytes_eq q p) refl i) refl ∙ (old ∙ rw i refl))

-- ---- the files in order

-- they stand before all that is to come
abbrev pub AllBefore : {Y : Type 0} → List StoredFile → List (String Y × ℕ) → Type 0
AllBefore [] it = ⊤
AllBefore (f ∷ fs) it = AreLater f.path it × AllBefore fs it

-- the files so far, and the entries to come
pub record Gathers {Y : Type 0} (s : Server) (all it : List (String Y × ℕ)) (fs : List StoredFile) : Type 0 where
  pub order : InOrder it
  pub before : AllBefore fs it
  pub ascend : PathsAscend fs
  pub bytes : (p : List ℕ) → (if is_some (at_text it p) then content_of s (at_text it p) else stored_at fs p) ≡ content_of s (at_text all p)

module _ {Y : Type 0} (s : Server) (all : List (String Y × ℕ)) where
  none_stored : (p : List ℕ) → content_of s None ≡ stored_at [] p
  none_stored p = refl

  pub gathers_begun : (it : List (String Y × ℕ)) (fs : List StoredFile) → it ≡ all → fs ≡ [] → InOrder all → Gathers s all it fs
  gathers_begun it fs e n o = subst (λ (x : List (String Y × ℕ)). Gathers s all x fs) (sym e)
      (subst (λ (x : List StoredFile). Gathers s all all x) (sym n) begun)
    where
      by : (x : Option ℕ) → (if is_some x then content_of s x else None) ≡ content_of s x
      by None = refl
      by (Some f) = refl

      begun : Gathers s all all []
      begun = record { order = o; before = tt; ascend = tt; bytes = λ p. by (at_text all p) }

  before_more : (fs : List StoredFile) (f : StoredFile) (k : String Y) (v : ℕ) (es : List (String Y × ℕ))
      → AllBefore fs ((k, v) ∷ es) → AreLater f.path es → AllBefore (fs ++ f ∷ []) es
  before_more [] f k v es h l = (l, tt)
  before_more (g ∷ gs) f k v es h l = (h.0.1, before_more gs f k v es h.1 l)

  stands_more : (p : List ℕ) (fs : List StoredFile) (f : StoredFile) → StandsBefore p fs → slice_cmp nat_cmp p f.path
      ≡ Less → StandsBefore p (fs ++ f ∷ [])
  stands_more p [] f h l = (l, tt)
  stands_more p (g ∷ gs) f h l = (h.0, stands_more p gs f h.1 l)

  ascend_more : (fs : List StoredFile) (f : StoredFile) (k : String Y) (v : ℕ) (es : List (String Y × ℕ))
      → PathsAscend fs → AllBefore fs ((k, v) ∷ es) → f.path ≡ string_bytes k → PathsAscend (fs ++ f ∷ [])
  ascend_more [] f k v es a h i = (tt, tt)
  ascend_more (g ∷ gs) f k v es a h i = (
    stands_more g.path gs f a.0 (ap (slice_cmp nat_cmp g.path) i ∙ h.0.0),
    ascend_more gs f k v es a.1 h.1 i,
  )

  stored_more : (fs : List StoredFile) (f : StoredFile) (p : List ℕ) → bytes_eq f.path p ≡ false
      → stored_at (fs ++ f ∷ []) p ≡ stored_at fs p
  stored_more [] f p n = rw n refl
  stored_more (g ∷ gs) f p n = rw (stored_more gs f p n) refl

  -- a path behind those of all files is none of theirs
  stored_last : (fs : List StoredFile) (f : StoredFile) (k : String Y) (v : ℕ) (es : List (String Y × ℕ)) (p : List ℕ)
      → AllBefore fs ((k, v) ∷ es) → p ≡ string_bytes k → bytes_eq f.path p ≡ true → stored_at (fs ++ f ∷ []) p
      ≡ Some f.bytes
  stored_last [] f k v es p h i e = rw e refl
  stored_last (g ∷ gs) f k v es p h i e = rw (other (bytes_eq g.path p) refl) (stored_last gs f k v es p h.1 i e)
    where
      other : (b : Bool) → bytes_eq g.path p ≡ b → b ≡ false
      other false j = refl
      other true j =
          let same : g.path ≡ string_bytes k = bytes_same g.path p j ∙ i in
          let less = h.0.0 in
          let eq = is_eq-slice_cmp g.path (string_bytes k) ∙ same_eq g.path (string_bytes k) same in
          absurd (let x = ap is_eq less in cc)

  pub gathers_on : (it es : List (String Y × ℕ)) (fs gs : List StoredFile) (f : StoredFile) (k : String Y) (v : ℕ) → it
      ≡ (k, v) ∷ es → Gathers s all it fs → gs ≡ fs ++ f ∷ [] → f.path ≡ string_bytes k → f.bytes ≡ s.content v
      → Gathers s all es gs
  gathers_on it es fs gs f k v e h n i c = subst (λ (x : List StoredFile). Gathers s all es x) (sym n) (record {
    order = o.1;
    before = before_more fs f k v es b (subst (λ (p : List ℕ). AreLater p es) (sym i) o.0);
    ascend = ascend_more fs f k v es h.ascend b i;
    bytes = λ p. by p (is_eq (slice_cmp nat_cmp p (string_bytes k))) refl;
  })
    where
      o : InOrder ((k, v) ∷ es)
      o = subst (λ (x : List (String Y × ℕ)). InOrder x) e h.order

      b : AllBefore fs ((k, v) ∷ es)
      b = subst (λ (x : List (String Y × ℕ)). AllBefore fs x) e h.before

      old : (p : List ℕ) → (if is_some (at_text ((k, v) ∷ es) p) then content_of s (at_text ((k, v) ∷ es) p) else
          stored_at fs p) ≡ content_of s (at_text all p)
      old p = subst (λ (x : List (String Y × ℕ)).
          (if is_some (at_text x p) then content_of s (at_text x p) else stored_at fs p) ≡ content_of s (at_text all p))
          e (h.bytes p)

      here : (p : List ℕ) → p ≡ string_bytes k → is_eq (slice_cmp nat_cmp p (string_bytes k)) ≡ true
          → (if is_some (at_text es p) then content_of s (at_text es p) else stored_at (fs ++ f ∷ []) p) ≡ content_of s (at_text all p)
      here p j t =
          let none : at_text es p ≡ None = ap (at_text es) j ∙ later_none s (string_bytes k) es o.0 in
          let own : bytes_eq f.path p ≡ true = same_eq f.path p (i ∙ sym j) in
          let was : Some (s.content v) ≡ content_of s (at_text all p) = (rw t at (old p)) in
          rw none (stored_last fs f k v es p b j own ∙ (ap Some c ∙ was))

      apart_from : (p : List ℕ) (x : Bool) → bytes_eq f.path p ≡ x → is_eq (slice_cmp nat_cmp p (string_bytes k)) ≡ false → x ≡ false
      apart_from p false j n = refl
      apart_from p true j n = absurd (let x = is_eq-slice_cmp p (string_bytes k) in let y = same_eq p (string_bytes k)
          (sym (bytes_same f.path p j) ∙ i) in cc)

      by : (p : List ℕ) (x : Bool) → is_eq (slice_cmp nat_cmp p (string_bytes k)) ≡ x
          → (if is_some (at_text es p) then content_of s (at_text es p) else stored_at (fs ++ f ∷ []) p)
          ≡ content_of s (at_text all p)
      by p true t = here p (bytes_same p (string_bytes k) (sym (is_eq-slice_cmp p (string_bytes k)) ∙ t)) t
      by p false t = rw (stored_more fs f p (apart_from p (bytes_eq f.path p) refl t)) (rw t at (old p))

  pub gathers_end : (it : List (String Y × ℕ)) (fs : List StoredFile) → it ≡ [] → Gathers s all it fs → (p : List ℕ)
      → stored_at fs p ≡ content_of s (at_text all p)
  gathers_end it fs e h p = subst (λ (x : List (String Y × ℕ)).
      (if is_some (at_text x p) then content_of s (at_text x p) else stored_at fs p) ≡ content_of s (at_text all p)) e
      (h.bytes p)

-- ---- one row

row_says : (t : Tree) (s : Server) (f : ℕ) (r : Row) → ShowsFiles t s → get nat_eq t.rows f ≡ Some r
    → (path_in s.entries f ≡ r.path) × (s.directory f ≡ r.directory)
row_says t s f r h e =
    let x = row_there (get nat_eq t.rows f) r (path_at s.entries f) (s.directory f) (s.delete_pending f) (s.basic f)
    (s.content f) e (h.rows.rows_are f) in
    (path_is s.entries f ∙ ap (λ (o : Option (List ℕ)). unwrap_or o []) x.0, (x.1).directory_is)

pub row_content : (t : Tree) (s : Server) (f : ℕ) (r : Row) → ShowsFiles t s → get nat_eq t.rows f ≡ Some r
    → IsContent r.bytes (s.content f)
row_content t s f r h e =
    let x = row_there (get nat_eq t.rows f) r (path_at s.entries f) (s.directory f) (s.delete_pending f) (s.basic f)
    (s.content f) e (h.rows.rows_are f) in (x.1).content_is

pub spell_directory : (t : Tree) (s : Server) (f : ℕ) (r : Row) → ShowsFiles t s → get nat_eq t.rows f ≡ Some r
    → r.directory ≡ true → (p : List ℕ) (old : Option ℕ)
    → old ≡ (if bytes_eq (path_in s.entries f) p && not (s.directory f) then Some f else old)
spell_directory t s f r h e d p old = rw ((row_says t s f r h e).1 ∙ d) (by (bytes_eq (path_in s.entries f) p))
  where
    by : (b : Bool) → old ≡ (if b && not true then Some f else old)
    by true = refl
    by false = refl

pub spell_file : (t : Tree) (s : Server) (f : ℕ) (r : Row) → ShowsFiles t s → get nat_eq t.rows f ≡ Some r → r.directory
    ≡ false → (p : List ℕ) (old : Option ℕ)
    → (if bytes_eq r.path p then Some f else old) ≡ (if bytes_eq (path_in s.entries f) p && not (s.directory f) then Some f else old)
spell_file t s f r h e d p old =
    let x = row_says t s f r h e in
    rw (x.0, x.1 ∙ d) (by (bytes_eq r.path p))
  where
    by : (b : Bool) → (if b then Some f else old) ≡ (if b && not false then Some f else old)
    by true = refl
    by false = refl

-- ---- the walk, step by step

pub record Spells {Y : Type 0} (t : Tree) (it : List (String Y × ℕ)) (now : List ℕ → Option ℕ) : Type 0 where
  pub order : InOrder it
  pub found : AllFound (λ q. get_by_text t.paths q) it
  pub map : (s : Server) → ShowsFiles t s → (p : List ℕ) → now p ≡ so_far s it p

found_so : {Y : Type 0} (at bt : List ℕ → Option ℕ) → ((q : List ℕ) → at q ≡ bt q) → (es : List (String Y × ℕ))
    → AllFound at es → AllFound bt es
found_so at bt same [] h = tt
found_so at bt same (e ∷ es) h = (sym (same (string_bytes e.0)) ∙ h.0, found_so at bt same es h.1)

pub spells_begun : {Y : Type 0} (t : Tree) (all it : List (String Y × ℕ)) (now : List ℕ → Option ℕ) → it ≡ all
    → IsStrictlySortedBy string_cmp (keys_of all)
    → ((q : List ℕ) → at_text all q ≡ get_by_text t.paths q) → ((p : List ℕ) → now p ≡ None) → Spells t it now
spells_begun t all it now e o same n =
    let order = in_order all o in
    let found = found_so (at_text all) (λ q. get_by_text t.paths q) same all (all_found all order) in record {
      order = subst (λ x. InOrder x) (sym e) order;
      found = subst (λ x. AllFound (λ q. get_by_text t.paths q) x) (sym e) found;
      map = λ s h p. n p ∙ (spelled_begun s all (λ q. same q ∙ h.keys_are q) p ∙ ap (λ x. so_far s x p) (sym e));
    }

pub spells_on : {Y : Type 0} (t : Tree) (it es : List (String Y × ℕ)) (k : String Y) (f : ℕ) (was now : List ℕ
    → Option ℕ) → it ≡ (k, f) ∷ es → Spells t it was
    → ((s : Server) → ShowsFiles t s → exists_in s.entries f ≡ true → (p : List ℕ) → now p
    ≡ (if bytes_eq (path_in s.entries f) p && not (s.directory f) then Some f else was p)) → Spells t es now
spells_on t it es k f was now e h step = record {
  order = o.1;
  found = a.1;
  map = λ s shows p.
      let at : at_key s.entries (string_bytes k) ≡ Some f = sym (shows.keys_are (string_bytes k)) ∙ a.0 in
      let q = path_of_key s.entries (string_bytes k) f shows.rows.apart at in
      let in_it : path_in s.entries f ≡ q.0 = path_is s.entries f ∙ ap (λ (x : Option (List ℕ)). unwrap_or x []) q.1 in
      let there : exists_in s.entries f ≡ true = exists_is s.entries f ∙ ap is_some q.1 in
      spelled_on s it es k f q.0 was now shows.rows.apart e h.order at q.1 q.2 (h.map s shows)
      (λ p. step s shows there p ∙ ap (λ (x : List ℕ). if bytes_eq x p && not (s.directory f) then Some f else was p) in_it) p;
}
  where
    o : InOrder ((k, f) ∷ es)
    o = subst (λ x. InOrder x) e h.order

    a : AllFound (λ q. get_by_text t.paths q) ((k, f) ∷ es)
    a = subst (λ x. AllFound (λ q. get_by_text t.paths q) x) e h.found

pub spells_end : {Y : Type 0} (t : Tree) (it : List (String Y × ℕ)) (now : List ℕ → Option ℕ) → it ≡ []
    → Spells t it now → (s : Server) → ShowsFiles t s → (p : List ℕ) → now p ≡ spelled_in s s.entries p
spells_end t it now e h s shows p = h.map s shows p ∙ ap (λ x. so_far s x p) e
