-- The store behind a rename is the model's.
use Rattle.std.proofs.Common.{◌≡◌, ℕ, ◌+◌, ◌-◌, ◌==◌, nat_eq, Bool, true, false, not, ◌&&◌, ◌||◌, if◌then◌else◌, List}
use Rattle.std.proofs.Common.{[], ◌∷◌, length, Option, Some, None, is_some, option_map, refl, sym, ap, subst, ◌∙◌}
use Rattle.std.proofs.Common.{arith}
use Rattle.std.specs.HashMap.{get, hash_map_len}
use Rattle.std.specs.BTreeMap.{get_by_text}
use Rattle.spec_exchange.specs.State.{Server, Entry}
use Rattle.spec_exchange.specs.Status.{access_denied, invalid_parameter, object_path_not_found, object_name_collision}
use Rattle.spec_exchange.specs.Commands.{Basic, path_form}
use Rattle.spec_exchange.specs.Texts.{is_below}
use Rattle.spec_exchange.specs.Files.{find, has_parent, is_directory, path_of, exists_in, sizes, without_target}
use Rattle.spec_exchange.specs.Files.{moved_path, moved_entries, rename_file}
use Rattle.spec_exchange.specs.CheckOpen.{target_of}
use Rattle.store_files.specs.file_extents.Kept.{IsContent}
use Rattle.store_files.specs.declared.file_tree.row.Row.{Row}
use Rattle.store_files.specs.declared.file_tree.tree.Tree.{Tree}
use Rattle.store_files.specs.declared.file_tree.rename.Move.{Move}
use Rattle.store_files.specs.declared.file_tree.new_name.NewName.{NewName}
use Rattle.store_files.specs.file_tree.Refusals.{form_first}
use Rattle.store_files.specs.file_tree.Shown.{folded, at_key, path_at, AllPlain, FileRowIs, FileRowShown, ShowsFiles, FileShowsRows}
use Rattle.store_files.specs.file_tree.Moved.{after_key, name_within, target_is_directory, target_refusal, move_refusal, rename_refusal}
use Rattle.store_files.specs.file_tree.Moved.{same_file, has_name, with_names, name_taken, given_back, moved_to, one_by_one, Moving}
use Rattle.store_files.proofs.file_tree.Entries.{path_gone, none_if}
use Rattle.store_files.proofs.file_tree.Counts.{length_gone, sizes_gone}
use Rattle.store_files.proofs.file_tree.Keys.{some_there}
use Rattle.store_files.proofs.file_tree.Plain.{plain_gone, made_leaf, made_front}
use Rattle.store_files.proofs.file_tree.PlainMoved.{plain_moved}
use Rattle.store_files.proofs.file_tree.Behind.{moved_stays}
use Rattle.store_files.proofs.file_tree.Renamed.{path_moved, length_moved, sizes_moved, apart_moved}
use Rattle.store_files.proofs.file_tree.Renaming.{none_named, not_named, row_renamed}
use Rattle.store_files.proofs.file_tree.Names.{back_own, back_free}
use Rattle.store_files.proofs.file_tree.Moving.{path_of_key, owned, free_own, moved_keys}
use Rattle.store_files.proofs.file_tree.Target.{Stood, Free, Same, Goes, filled, to_filled, disjoint, left_none, left_some, stood}
use Rattle.store_files.proofs.file_tree.Target.{kept, all, left_free, free_there, left_apart, without_new, housed_moved}

-- ---- a rename that isn't refused

form_none : (o r : Option ℕ) → form_first o r ≡ None → (o ≡ None) × (r ≡ None)
form_none None r e = (refl, e)
form_none (Some x) r e = absurd (cc)

move_none : (a b c : Bool) (d : Option ℕ) → (if a then Some access_denied else if b then Some invalid_parameter else
    if not c then Some object_path_not_found else d) ≡ None
    → (a ≡ false) × (b ≡ false) × (c ≡ true) × (d ≡ None)
move_none true b c d e = absurd (cc)
move_none false true c d e = absurd (cc)
move_none false false false d e = absurd (cc)
move_none false false true d e = (refl, refl, refl, e)

target_none : (b c : Bool) → (if b then Some object_name_collision else if c then Some access_denied else None) ≡ None → c ≡ false
target_none true c e = absurd (cc)
target_none false true e = absurd (cc)
target_none false false e = refl

pub allowed_form : (s : Server) (f : ℕ) (replace : Bool) (to : List ℕ) → rename_refusal s f replace to ≡ None → path_form to ≡ None
allowed_form s f replace to e = (form_none (path_form to) (move_refusal s f replace to) e).0

allowed_move : (s : Server) (f : ℕ) (replace : Bool) (to : List ℕ) → rename_refusal s f replace to ≡ None
    → ((f == 0) ≡ false) × ((is_directory s f && is_below (path_of s f) to) ≡ false) × (has_parent s to ≡ true)
    × (target_refusal s f replace to ≡ None)
allowed_move s f replace to e = move_none (f == 0) (is_directory s f && is_below (path_of s f) to) (has_parent s to)
    (target_refusal s f replace to) (form_none (path_form to) (move_refusal s f replace to) e).1

pub allowed_target : (s : Server) (f : ℕ) (replace : Bool) (to : List ℕ) → rename_refusal s f replace to ≡ None
    → target_is_directory s (target_of f (find s to)) ≡ false
allowed_target s f replace to e = target_none (not replace && is_some (find s to))
    (target_is_directory s (target_of f (find s to))) ((allowed_move s f replace to e).3)

off_root : (b c d : Bool) → ((b || c) && d) ≡ false → (c && d) ≡ false
off_root b false d e = refl
off_root true true d e = e
off_root false true d e = e

pub allowed_outside : (s : Server) (f : ℕ) (replace : Bool) (to : List ℕ) → rename_refusal s f replace to ≡ None
    → (s.directory f && is_below (path_of s f) to) ≡ false
unfolding is_directory
allowed_outside s f replace to e = off_root (f == 0) (s.directory f) (is_below (path_of s f) to) ((allowed_move s f replace to e).1)

pub allowed_other : (s : Server) (f : ℕ) (replace : Bool) (to : List ℕ) → rename_refusal s f replace to ≡ None → (f == 0) ≡ false
allowed_other s f replace to e = (allowed_move s f replace to e).0

pub allowed_parent : (s : Server) (f : ℕ) (replace : Bool) (to : List ℕ) → rename_refusal s f replace to ≡ None → has_parent s to ≡ true
allowed_parent s f replace to e = (allowed_move s f replace to e).2

-- what is let through without replacing is let through with it
pub allowed_any : (s : Server) (f : ℕ) (replace : Bool) (to : List ℕ) → rename_refusal s f replace to ≡ None
    → rename_refusal s f true to ≡ None
allowed_any s f replace to e = rw (
  allowed_form s f replace to e,
  allowed_other s f replace to e,
  (allowed_move s f replace to e).1,
  allowed_parent s f replace to e,
  allowed_target s f replace to e,
) refl

pub stands_at : (s : Server) (f : ℕ) → exists_in s.entries f ≡ true → path_at s.entries f ≡ Some (path_of s f)
unfolding path_of
stands_at s f e = some_there s.entries f e

-- ---- keys given back

pub restored : (t : Tree) (s : Server) → FileShowsRows t s → (ns : List NewName) (q : List ℕ)
    → one_by_one (given_back (λ g. get nat_eq t.rows g)) ns q (one_by_one name_taken ns q (at_key s.entries q)) ≡ at_key s.entries q
restored t s h ns q = by (at_key s.entries q) refl
  where
    rows : ℕ → Option Row
    rows g = get nat_eq t.rows g

    by : (o : Option ℕ) → at_key s.entries q ≡ o → one_by_one (given_back (λ g. get nat_eq t.rows g)) ns q
        (one_by_one name_taken ns q o) ≡ o
    by None e = back_free (λ g. get nat_eq t.rows g) q ns (free_own t s h q e)
    by (Some g) e = back_own (λ g. get nat_eq t.rows g) q g (owned t s h g q e) ns

-- ---- the rename done

path_left : (o : Option ℕ) (es : List Entry) (g : ℕ) → path_at (without_target o es) g ≡ (if same_file o g then None else path_at es g)
unfolding without_target
path_left None es g = refl
path_left (Some x) es g = path_gone es x g

none_mapped : (b : Bool) (k : List ℕ → List ℕ) (o : Option (List ℕ)) → o ≡ None → option_map k (if b then None else o) ≡ None
none_mapped true k o e = refl
none_mapped false k None e = refl
none_mapped false k (Some x) e = absurd (cc)

plain_left : (o : Option ℕ) (es : List Entry) → AllPlain es → AllPlain (without_target o es)
unfolding without_target
plain_left None es h = h
plain_left (Some x) es h = plain_gone es x h

no_key : (to : List ℕ) → (length to == 0) ≡ false → name_within (after_key (folded to) []) ≡ false
unfolding name_within after_key
no_key [] n = absurd (cc)
no_key (c ∷ cs) n = refl

row_some : (o : Option Row) (path : Option (List ℕ)) (p : List ℕ) (d m : Bool) (b : Basic) (c : List ℕ) → path ≡ Some p
    → FileRowShown o path d m b c → (r : Row) × (o ≡ Some r) × FileRowIs r d m b c
row_some None path p d m b c e h = absurd (cc)
row_some (Some r) path p d m b c e h = (r, refl, h.1)

some_row : (o : Option Row) (r : Row) → o ≡ Some r → is_some o ≡ true
some_row None r e = absurd (cc)
some_row (Some x) r e = refl

module _ (t u : Tree) (m : Move) (s : Server) (f : ℕ) (to : List ℕ) (p : Moving t m s f to)
    (paths : (q : List ℕ) → get_by_text u.paths q ≡ one_by_one (moved_to (λ g. get nat_eq t.rows g)) m.names.items q
    (get_by_text t.paths q))
    (rows : (g : ℕ) → get nat_eq u.rows g ≡ with_names m.names.items g (if same_file m.replaced g then None else get nat_eq t.rows g))
    (count : (g : ℕ) → m.replaced ≡ Some g → is_some (get nat_eq t.rows g) ≡ true → hash_map_len u.rows + 1 ≡ hash_map_len t.rows)
    (used : (g : ℕ) (r : Row) (c : List ℕ) → m.replaced ≡ Some g → get nat_eq t.rows g ≡ Some r → IsContent r.bytes c
    → u.used ≡ t.used - length c)
    (none : m.replaced ≡ None → (u.used ≡ t.used) × (hash_map_len u.rows ≡ hash_map_len t.rows))
    (root : u.root ≡ t.root) (next : u.next ≡ t.next) (room : u.room ≡ t.room) where
  abbrev old : List ℕ
  old = path_of s f

  abbrev o : Option ℕ
  o = target_of f (find s to)

  abbrev left : List Entry
  left = without_target o s.entries

  abbrev ns : List NewName
  ns = m.names.items

  h : FileShowsRows t s
  h = p.rows

  stands : path_at s.entries f ≡ Some old
  stands = stands_at s f p.there

  form : path_form to ≡ None
  form = allowed_form s f true to p.allowed

  parent : has_parent s to ≡ true
  parent = allowed_parent s f true to p.allowed

  outside : (s.directory f && is_below old to) ≡ false
  outside = allowed_outside s f true to p.allowed

  target : target_is_directory s o ≡ false
  target = allowed_target s f true to p.allowed

  other : (f == 0) ≡ false
  other = allowed_other s f true to p.allowed

  full : (length old == 0) ≡ false
  full = filled s f old to h.apart h.no_root h.no_empty h.housed stands form parent outside target other

  to_full : (length to == 0) ≡ false
  to_full = to_filled s f old to h.apart h.no_root h.no_empty h.housed stands form parent outside target other

  free : (q : List ℕ) → name_within (after_key (folded to) q) ≡ true → name_within (after_key (folded old) q) ≡ false → at_key left q ≡ None
  free = free_there s f old to h.apart h.no_root h.no_empty h.housed stands form parent outside target other

  -- one row
  row_at : (g : ℕ) → FileRowShown (get nat_eq u.rows g) (path_at (moved_entries old to left) g) (s.directory g)
      (s.delete_pending g) (s.basic g) (s.content g)
  row_at g = rw (rows g, p.replaced_is, path_moved old to left g, path_left o s.entries g) (by (same_file o g))
    where
      named : (r : Row) → path_at s.entries g ≡ Some r.path → FileRowIs r (s.directory g) (s.delete_pending g) (s.basic g)
          (s.content g) → (b : Bool) → has_name ns g ≡ b
          → FileRowShown (with_names ns g (Some r)) (Some (moved_path old to r.path)) (s.directory g) (s.delete_pending g)
          (s.basic g) (s.content g)
      named r e i true n = row_renamed s.entries s.directory old to g r.path e (s.delete_pending g) (s.basic g)
          (s.content g) ns r p.names_are n i
      named r e i false n =
          subst (λ (x : Option Row). FileRowShown x (Some (moved_path old to r.path)) (s.directory g) (s.delete_pending g)
          (s.basic g) (s.content g)) (sym (not_named ns g (Some r) n))
          (ap Some (moved_stays old to r.path full (apart_from (name_within (after_key (folded old) (folded r.path))) refl)), i)
        where
          apart_from : (b : Bool) → name_within (after_key (folded old) (folded r.path)) ≡ b → b ≡ false
          apart_from false w = refl
          apart_from true w = absurd (let x = p.whole g r.path e w in cc)

      there : (x : Option Row) → FileRowShown x (path_at s.entries g) (s.directory g) (s.delete_pending g) (s.basic g) (s.content g)
          → FileRowShown (with_names ns g x) (option_map (λ (q : List ℕ). moved_path old to q) (path_at s.entries g))
          (s.directory g) (s.delete_pending g) (s.basic g) (s.content g)
      there None i = rw (none_named ns g, i) refl
      there (Some r) i = rw (i.0) (named r i.0 i.1 (has_name ns g) refl)

      by : (b : Bool) → FileRowShown (with_names ns g (if b then None else get nat_eq t.rows g))
          (option_map (λ (q : List ℕ). moved_path old to q) (if b then None else path_at s.entries g)) (s.directory g)
          (s.delete_pending g) (s.basic g) (s.content g)
      by true = rw (none_named ns g) refl
      by false = there (get nat_eq t.rows g) (h.rows_are g)

  sums : (length (moved_entries old to left) ≡ hash_map_len u.rows) × (sizes s.content (moved_entries old to left) ≡ u.used)
  sums = by (stood s f old to h.apart h.no_root h.no_empty h.housed stands form parent outside target other)
    where
      plain : o ≡ None → (length (moved_entries old to left) ≡ hash_map_len u.rows) × (sizes s.content (moved_entries old to left) ≡ u.used)
      plain e =
          let l = left_none s f old to h.apart h.no_root h.no_empty h.housed stands form parent outside target other e in
          let n = none (p.replaced_is ∙ e) in (
            length_moved old to left ∙ (ap (λ (es : List Entry). length es) l ∙ (h.count_is ∙ sym n.1)),
            sizes_moved s.content old to left ∙ (ap (λ (es : List Entry). sizes s.content es) l ∙ (h.used_is ∙ sym n.0)),
          )

      by : Stood s.entries o f s.directory (folded old) (folded to)
          → (length (moved_entries old to left) ≡ hash_map_len u.rows) × (sizes s.content (moved_entries old to left)
          ≡ u.used)
      by (Free e z) = plain e
      by (Same e z) = plain e
      by (Goes g e k i d) =
          let l = left_some s f old to h.apart h.no_root h.no_empty h.housed stands form parent outside target other g e in
          let q = path_of_key s.entries (folded to) g h.apart k in
          let r = row_some (get nat_eq t.rows g) (path_at s.entries g) q.0 (s.directory g) (s.delete_pending g)
          (s.basic g) (s.content g) q.1 (h.rows_are g) in
          let c = count g (p.replaced_is ∙ e) (some_row (get nat_eq t.rows g) r.0 r.1) in
          let w = used g r.0 (s.content g) (p.replaced_is ∙ e) r.1 (r.2).content_is in
          let a = length_gone s.entries g q.0 h.apart q.1 in
          let b = sizes_gone s.content s.entries g q.0 h.apart q.1 in
          let n = h.count_is in
          let v = h.used_is in (
            length_moved old to left ∙ (ap (λ (es : List Entry). length es) l ∙ omega arith),
            sizes_moved s.content old to left ∙ (ap (λ (es : List Entry). sizes s.content es) l ∙ omega arith),
          )

  pub landed : ShowsFiles u (rename_file s f (target_of f (find s to)) to)
  landed = record {
    rows = record {
      apart = apart_moved old to full left (left_apart s f old to h.apart h.no_root h.no_empty h.housed stands form
          parent outside target other) free;
      fresh = λ g l. path_moved old to left g
          ∙ (ap (option_map (λ (q : List ℕ). moved_path old to q)) (path_left o s.entries g)
          ∙ none_mapped (same_file o g) (λ (q : List ℕ). moved_path old to q) (path_at s.entries g) (h.fresh g l));
      above = h.above;
      no_root = path_moved old to left 0
          ∙ (ap (option_map (λ (q : List ℕ). moved_path old to q)) (path_left o s.entries 0)
          ∙ none_mapped (same_file o 0) (λ (q : List ℕ). moved_path old to q) (path_at s.entries 0) h.no_root);
      no_empty = without_new s f old to h.apart h.no_root h.no_empty h.housed stands form parent outside target other [] (no_key to to_full)
          ∙ none_if (name_within (after_key (folded old) [])) (at_key left [])
          (left_free s f old to h.apart h.no_root h.no_empty h.housed stands form parent outside target other []
          h.no_empty);
      housed = housed_moved s f old to h.apart h.no_root h.no_empty h.housed stands form parent outside target other;
      plain = plain_moved old to full to_full (made_leaf to to_full form) (made_front to form) left (plain_left o s.entries h.plain);
      root_path = rw root h.root_path;
      root_below = rw root h.root_below;
      root_is = rw root h.root_is;
      rows_are = row_at;
      count_is = sums.0;
      next_is = h.next_is ∙ sym next;
      used_is = sums.1;
      room_is = h.room_is ∙ sym room;
    };
    keys_are = λ q. paths q ∙ (ap (λ (x : Option ℕ). one_by_one (moved_to (λ g. get nat_eq t.rows g)) ns q x) (p.keys_are q)
        ∙ moved_keys t s h f old to full stands ns p.names_are p.whole
        (disjoint s f old to h.apart h.no_root h.no_empty h.housed stands form parent outside target other)
        left (kept s f old to h.apart h.no_root h.no_empty h.housed stands form parent outside target other)
        (all s f old to h.apart h.no_root h.no_empty h.housed stands form parent outside target other) free q);
  }
