-- Rows behind a rename, and the names one by one.
use Rattle.std.proofs.lemmas.List.{take_more, take_all}
use Rattle.std.proofs.Common.{◌≡◌, ℕ, ◌+◌, ◌<◌, ◌≤◌, ◌==◌, Bool, true, false, ◌||◌, if◌then◌else◌, List, [], ◌∷◌, ◌++◌}
use Rattle.std.proofs.Common.{length, take, get_or, Option, Some, None, option_map, refl, sym, ap, subst, ◌∙◌, arith}
use Rattle.std.proofs.lemmas.Bool.Decides.{nat_tests}
use Rattle.spec_exchange.specs.State.{Entry}
use Rattle.spec_exchange.specs.Commands.{Basic}
use Rattle.spec_exchange.specs.Files.{moved_path}
use Rattle.store_files.specs.declared.file_tree.row.Row.{Row}
use Rattle.store_files.specs.declared.file_tree.new_name.NewName.{NewName}
use Rattle.store_files.specs.file_tree.Shown.{folded, below_key, path_at, FileRowIs, FileRowShown}
use Rattle.store_files.specs.file_tree.Moved.{IsMovedName, IsNameOf, AreMovedNames, has_name, named_row, with_names, one_by_one}

-- ---- one more name

pub names_more : (ns : List NewName) (n : NewName) (es : List Entry) (directory : ℕ → Bool) (old to : List ℕ)
    → AreMovedNames ns es directory old to → IsNameOf n (path_at es n.file) (directory n.file) old to
    → AreMovedNames (ns ++ n ∷ []) es directory old to
names_more [] n es directory old to a i = (i, tt)
names_more (m ∷ ms) n es directory old to a i = (a.0, names_more ms n es directory old to a.1 i)

pub has_more : (ns : List NewName) (n : NewName) (f : ℕ) → has_name (ns ++ n ∷ []) f ≡ (has_name ns f || (n.file == f))
has_more [] n f = by (n.file == f)
  where
    by : (b : Bool) → (if b then true else false) ≡ b
    by true = refl
    by false = refl
has_more (m ∷ ms) n f = by (m.file == f) (has_more ms n f)
  where
    by : (b : Bool) → has_name (ms ++ n ∷ []) f ≡ (has_name ms f || (n.file == f))
        → (if b then true else has_name (ms ++ n ∷ []) f) ≡ ((if b then true else has_name ms f) || (n.file == f))
    by true e = refl
    by false e = e

pub one_more : (step : NewName → List ℕ → Option ℕ → Option ℕ) (ns : List NewName) (n : NewName) (q : List ℕ)
    (o : Option ℕ) → one_by_one step (ns ++ n ∷ []) q o ≡ step n q (one_by_one step ns q o)
one_more step [] n q o = refl
one_more step (m ∷ ms) n q o = one_more step ms n q (step m q o)

-- ---- rows

pub none_named : (ns : List NewName) (f : ℕ) → with_names ns f None ≡ None
none_named [] f = refl
none_named (n ∷ ns) f = by (f == n.file) (none_named ns f)
  where
    by : (b : Bool) → with_names ns f None ≡ None → with_names ns f (if b then None else None) ≡ None
    by true t = t
    by false t = t

turned : (f g : ℕ) (b : Bool) → (f == g) ≡ b → (g == f) ≡ b
turned f g b e = grind (arith, nat_tests)

pub not_named : (ns : List NewName) (f : ℕ) (o : Option Row) → has_name ns f ≡ false → with_names ns f o ≡ o
not_named [] f o e = refl
not_named (n ∷ ns) f o e = by (f == n.file) refl (n.file == f) refl e (λ t. not_named ns f o t)
  where
    by : (b : Bool) → (f == n.file) ≡ b → (c : Bool) → (n.file == f) ≡ c → (if c then true else has_name ns f) ≡ false
        → (has_name ns f ≡ false → with_names ns f o ≡ o)
        → with_names ns f (if b then option_map (λ (r : Row). record r { path = n.path; key = n.key; below = n.below })
        o else o) ≡ o
    by true i true j t more = absurd (cc)
    by true i false j t more = absurd (let x = turned f n.file true i in cc)
    by false i true j t more = absurd (cc)
    by false i false j t more = more t

-- the row of a file that is renamed
module _ (es : List Entry) (directory : ℕ → Bool) (old to : List ℕ) (f : ℕ) (p : List ℕ) (stands : path_at es f
    ≡ Some p) (delete_pending : Bool) (basic : Basic) (content : List ℕ) where
  abbrev Done : Option Row → Type 0
  Done o = FileRowShown o (Some (moved_path old to p)) (directory f) delete_pending basic content

  renamed : (n : NewName) (r : Row) (q : List ℕ) → IsMovedName n (moved_path old to p) (directory f)
      → FileRowIs r (directory f) delete_pending basic content
      → Done (Some (record r { path = n.path; key = n.key; below = n.below }))
  renamed n r q i h = (
    ap Some (sym i.0),
    record {
      key_is = i.1 ∙ ap folded (sym i.0);
      below_is = λ z d. i.2 (h.directory_is ∙ d) ∙ ap below_key (sym i.0);
      directory_is = h.directory_is;
      delete_pending_is = h.delete_pending_is;
      basic_is = h.basic_is;
      content_is = h.content_is;
    },
  )

  name_at : (n : NewName) → IsNameOf n (path_at es n.file) (directory n.file) old to → n.file ≡ f
      → IsMovedName n (moved_path old to p) (directory f)
  name_at n i e = by (path_at es n.file) refl i
    where
      by : (o : Option (List ℕ)) → path_at es n.file ≡ o → IsNameOf n o (directory n.file) old to
          → IsMovedName n (moved_path old to p) (directory f)
      by None j i = absurd i
      by (Some q) j i =
          let same : q ≡ p = (let x = ap (path_at es) e in let y = stands in cc) in
          subst (λ g. IsMovedName n (moved_path old to p) (directory g)) e
          (subst (λ (l : List ℕ). IsMovedName n (moved_path old to l) (directory n.file)) same i.1)

  done_stays : (ns : List NewName) (r : Row) → AreMovedNames ns es directory old to → Done (Some r) → Done (with_names ns f (Some r))
  done_stays [] r a h = h
  done_stays (n ∷ ns) r a h = by (f == n.file) refl (λ w. done_stays ns w a.1)
    where
      by : (b : Bool) → (f == n.file) ≡ b → ((w : Row) → Done (Some w) → Done (with_names ns f (Some w)))
          → Done (with_names ns f (if b then Some (record r { path = n.path; key = n.key; below = n.below }) else Some
          r))
      by false i more = more r h
      by true i more =
          let same : n.file ≡ f = grind (arith, nat_tests) in
          more (record r { path = n.path; key = n.key; below = n.below }) (renamed n r p (name_at n a.0 same) h.1)

  pub row_renamed : (ns : List NewName) (r : Row) → AreMovedNames ns es directory old to → has_name ns f ≡ true
      → FileRowIs r (directory f) delete_pending basic content → Done (with_names ns f (Some r))
  row_renamed [] r a e h = absurd (cc)
  row_renamed (n ∷ ns) r a e h = by (f == n.file) refl (n.file == f) refl e (λ t. row_renamed ns r a.1 t h)
    where
      by : (b : Bool) → (f == n.file) ≡ b → (c : Bool) → (n.file == f) ≡ c → (if c then true else has_name ns f) ≡ true
          → (has_name ns f ≡ true → Done (with_names ns f (Some r)))
          → Done (with_names ns f (if b then Some (record r { path = n.path; key = n.key; below = n.below }) else
          Some r))
      by true i c j t more =
          let same : n.file ≡ f = grind (arith, nat_tests) in
          done_stays ns (record r { path = n.path; key = n.key; below = n.below }) a.1 (renamed n r p (name_at n a.0 same) h)
      by false i true j t more = absurd (let x = turned n.file f true j in cc)
      by false i false j t more = more t

pub with_more : (ns : List NewName) (n : NewName) (f : ℕ) (o : Option Row) → with_names (ns ++ n ∷ []) f o
    ≡ named_row n f (with_names ns f o)
with_more [] n f o = refl
with_more (m ∷ ms) n f o = with_more ms n f (named_row m f o)

-- a loop over the names does one step more
pub one_step : (step : NewName → List ℕ → Option ℕ → Option ℕ) (ns : List NewName) (i : ℕ) (n : NewName) (q : List ℕ)
    (o x new : Option ℕ) → i < length ns → n ≡ get_or ns i n
    → x ≡ one_by_one step (take i ns) q o → new ≡ step n q x → new ≡ one_by_one step (take (i + 1) ns) q o
one_step step ns i n q o x new l e f g =
    g ∙ (ap (step n q) f ∙ sym (ap (λ (ms : List NewName). one_by_one step ms q o) (take_more ns i n l)
    ∙ (one_more step (take i ns) (get_or ns i n) q o ∙ ap (λ (m : NewName). step m q (one_by_one step (take i ns) q o)) (sym e))))

pub all_steps : (step : NewName → List ℕ → Option ℕ → Option ℕ) (ns : List NewName) (i : ℕ) (q : List ℕ)
    (o x : Option ℕ) → length ns ≤ i → x ≡ one_by_one step (take i ns) q o → x ≡ one_by_one step ns q o
all_steps step ns i q o x l e = e ∙ ap (λ (ms : List NewName). one_by_one step ms q o) (take_all i ns l)
