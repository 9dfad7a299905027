-- A file that is put back at its number.
use Rattle.std.proofs.Common.{◌≡◌, ℕ, ◌+◌, ◌<◌, ◌≤◌, ◌==◌, min, nat_lt, nat_le, nat_eq, Bool, true, false, not, ◌&&◌, ◌||◌, if◌then◌else◌}
use Rattle.std.proofs.Common.{List, [], ◌∷◌, ◌++◌, length, Option, Some, None, is_some, refl, sym, ap, subst, ◌∙◌, arith}
use Rattle.std.proofs.lemmas.Grind.{common_steps}
use Rattle.std.proofs.lemmas.Bool.Decides.{nat_tests}
use Rattle.std.specs.HashMap.{get, hash_map_len}
use Rattle.std.specs.BTreeMap.{get_by_text}
use Rattle.std.specs.Str.{bytes_eq}
use Rattle.spec_exchange.specs.State.{Server, Entry}
use Rattle.spec_exchange.specs.Content.{ended, is_empty}
use Rattle.spec_exchange.specs.Texts.{is_component, leaf_of, begins_with_backslash}
use Rattle.spec_exchange.specs.Files.{find, exists, exists_in, has_parent, passes_room, used, sizes}
use Rattle.spec_exchange.proofs.Content.{length-ended}
use Rattle.store_files.specs.declared.file_tree.placing.PlacedFile.{PlacedFile}
use Rattle.store_files.specs.declared.file_tree.row.Row.{Row}
use Rattle.store_files.specs.declared.file_tree.tree.Tree.{Tree}
use Rattle.store_files.specs.file_tree.Shown.{folded, at_key, path_at, FileShowsRows, ShowsFiles}
use Rattle.store_files.specs.file_tree.Placed.{is_placeable, has_free_number, has_free_path, may_be_placed, IsOneMore, placed_among}
use Rattle.store_files.specs.file_tree.Placed.{IsPlacedRow, IsPathTaken, may_have_bytes}
use Rattle.store_files.specs.file_extents.Kept.{IsContent}
use Rattle.store_files.proofs.file_tree.Between.{key_between, path_between, apart_between, sizes_between, length_between, plain_between}
use Rattle.store_files.proofs.file_tree.Counts.{bytes_filled}
use Rattle.store_files.proofs.file_tree.Housed.{housed_made}
use Rattle.store_files.proofs.file_tree.Keys.{find_none, none_there, exists_is}
use Rattle.store_files.proofs.file_tree.Refused.{find_filled}
use Rattle.store_files.proofs.file_tree.RowsMade.{row_made, root_stays, no_row, row_there, gone_row}

-- ---- what may be placed, test by test

front : (a b : Bool) → (a && b) ≡ true → a ≡ true
front true b e = refl
front false b e = absurd (cc)

back : (a b : Bool) → (a && b) ≡ true → b ≡ true
back true b e = e
back false b e = absurd (cc)

turned : (b : Bool) → not b ≡ true → b ≡ false
turned true e = absurd (cc)
turned false e = refl

no_some : (o : Option ℕ) → not (is_some o) ≡ true → o ≡ None
no_some None e = refl
no_some (Some x) e = absurd (cc)

pub record MayBePlaced (s : Server) (f : ℕ) (path : List ℕ) (size : ℕ) : Type 0 where
  pub above : 0 < f
  pub below : f < s.next_file
  pub fresh : path_at s.entries f ≡ None
  pub leaf : is_component (leaf_of path) ≡ true
  pub start : begins_with_backslash path ≡ false
  pub free : find s path ≡ None
  pub parent : has_parent s path ≡ true
  pub fits : used s + size < 0x1_0000_0000_0000_0000

lesser : (a b : ℕ) → nat_lt a b ≡ true → a < b
lesser a b e = grind (arith, nat_tests)

pub may : (s : Server) (f : ℕ) (path : List ℕ) (size : ℕ) → may_be_placed s f path size ≡ true → MayBePlaced s f path size
may s f path size e =
    let n = front (has_free_number s f) (has_free_path s path && nat_lt (used s + size) 0x1_0000_0000_0000_0000) e in
    let r = back (has_free_number s f) (has_free_path s path && nat_lt (used s + size) 0x1_0000_0000_0000_0000) e in
    let p = front (has_free_path s path) (nat_lt (used s + size) 0x1_0000_0000_0000_0000) r in
    let m = back (nat_lt 0 f) (nat_lt f s.next_file && not (exists_in s.entries f)) n in
    let q = front (is_placeable path) (not (is_some (find s path)) && has_parent s path) p in
    let w = back (is_placeable path) (not (is_some (find s path)) && has_parent s path) p in record {
      above = lesser 0 f (front (nat_lt 0 f) (nat_lt f s.next_file && not (exists_in s.entries f)) n);
      below = lesser f s.next_file (front (nat_lt f s.next_file) (not (exists_in s.entries f)) m);
      fresh = none_there s.entries f (turned (exists_in s.entries f) (back (nat_lt f s.next_file) (not (exists_in s.entries f)) m));
      leaf = front (is_component (leaf_of path)) (not (begins_with_backslash path)) q;
      start = turned (begins_with_backslash path) (back (is_component (leaf_of path)) (not (begins_with_backslash path)) q);
      free = no_some (find s path) (front (not (is_some (find s path))) (has_parent s path) w);
      parent = back (not (is_some (find s path))) (has_parent s path) w;
      fits = lesser _ _ (back (has_free_path s path) (nat_lt (used s + size) 0x1_0000_0000_0000_0000) r);
    }

-- ---- the whole table

summed : (s : Server) (es : List Entry) (size : ℕ) → s.entries ≡ es → length (ended size []) + sizes s.content es ≡ used s + size
unfolding used
summed s es size e = let l = length-ended size [] in let k = ap (sizes s.content) e in omega (arith, l, k)

if_none : {X : Type 0} (b : Bool) (x : X) (o : Option X) → b ≡ false → o ≡ None → (if b then Some x else o) ≡ None
if_none true x o e n = absurd (cc)
if_none false x o e n = n

above_none : (es more : List Entry) (f g n : ℕ) (p : List ℕ) → path_at more g ≡ (if g == f then Some p else path_at es g) → f < n → n ≤ g
    → ((k : ℕ) → n ≤ k → path_at es k ≡ None) → path_at more g ≡ None
above_none es more f g n p e l m fresh = e ∙ if_none (g == f) p (path_at es g) (grind (arith, nat_tests)) (fresh g m)

pub placed : (t u : Tree) (s : Server) (w : Row) (path : List ℕ) (p : PlacedFile) (more : List Entry) → IsPathTaken t s path p.file
    → IsPlacedRow w path p → MayBePlaced s p.file path p.size → IsOneMore (record { file = p.file; path = path }) s.entries more
    → ((q : ℕ) → get nat_eq u.rows q ≡ (if q == p.file then Some w else get nat_eq t.rows q))
    → (get nat_eq t.rows p.file ≡ None → hash_map_len u.rows ≡ hash_map_len t.rows + 1)
    → u.paths ≡ t.paths → u.root ≡ t.root → u.next ≡ t.next → u.room ≡ t.room → used s + p.size ≡ u.used
    → ShowsFiles u (placed_among s more p)
placed t u s w path p more n r m one rows count paths root next room sum =
    let h = n.rows in
    let f = p.file in
    let e : Entry = record { file = f; path = path } in
    let a = one.0 in
    let b = one.1 in
    let old : s.entries ≡ a ++ b = one.2 in
    let new : more ≡ a ++ e ∷ b = one.3 in
    let free = find_none s path m.free in
    let free_in : at_key (a ++ b) (folded path) ≡ None = ap (λ (l : List Entry). at_key l (folded path)) (sym old) ∙ free in
    let fresh_in : path_at (a ++ b) f ≡ None = ap (λ (l : List Entry). path_at l f) (sym old) ∙ m.fresh in
    let keys : (q : List ℕ) → at_key more q ≡ (if bytes_eq (folded path) q then Some f else at_key s.entries q) =
    λ q. subst (λ (l : List Entry). at_key l q ≡ (if bytes_eq (folded path) q then Some f else at_key s.entries q)) (sym new)
    (subst (λ (l : List Entry). at_key (a ++ e ∷ b) q ≡ (if bytes_eq (folded path) q then Some f else at_key l q)) (sym old)
    (key_between a b e q free_in)) in
    let numbers : (q : ℕ) → path_at more q ≡ (if q == f then Some path else path_at s.entries q) =
    λ q. subst (λ (l : List Entry). path_at l q ≡ (if q == f then Some path else path_at s.entries q)) (sym new)
    (subst (λ (l : List Entry). path_at (a ++ e ∷ b) q ≡ (if q == f then Some path else path_at l q)) (sym old)
    (path_between a b e q fresh_in)) in
    record {
      rows = record {
        apart = rw new (apart_between a b e (rw (sym old) h.apart) free_in fresh_in);
        fresh = λ g l. above_none s.entries more f g s.next_file path (numbers g) m.below l h.fresh;
        above = h.above;
        no_root = numbers 0 ∙ if_none (0 == f) path (path_at s.entries 0) (let l = m.above in grind (arith, nat_tests)) h.no_root;
        no_empty = keys [] ∙ if_none (bytes_eq (folded path) []) f (at_key s.entries [])
            (bytes_filled path (find_filled s path m.free)) h.no_empty;
        housed = housed_made s more f path p.directory h.no_root m.fresh free h.housed m.start m.parent keys;
        plain = rw new (plain_between a b e (rw (sym old) h.plain) m.leaf m.start);
        root_path = rw root h.root_path;
        root_below = rw root h.root_below;
        root_is = rw root (root_stays f t.root _ _ _ _ _ _ m.above h.root_is);
        rows_are = λ q. row_made q f f (get nat_eq t.rows q) _ w path (path_at s.entries q) _ _ _ _ _ _ _ _ _ refl (rows q)
            (numbers q) r.path_is r.row_is (h.rows_are q);
        count_is = ap length new ∙ (length_between a b e ∙ (ap (λ (l : List Entry). length l + 1) (sym old)
            ∙ (ap (λ k. k + 1) h.count_is ∙ sym (count (no_row _ _ _ _ _ _ (h.rows_are f) m.fresh)))));
        next_is = h.next_is ∙ sym next;
        used_is = rw new (sizes_between s.content a b f path (ended p.size []) fresh_in)
            ∙ summed s (a ++ b) p.size old ∙ sum;
        room_is = h.room_is ∙ sym room;
      };
      keys_are = λ q. ap (λ (v : _). get_by_text v q) paths ∙ (n.keys_are q ∙ sym (keys q));
    }

pub sum_is : (s : Server) (before size after : ℕ) → sizes s.content s.entries ≡ before → used s + size < 0x1_0000_0000_0000_0000
    → after ≡ min (before + size) 0xffff_ffff_ffff_ffff → used s + size ≡ after
unfolding used
sum_is s before size after e l m = omega (arith, e, l, m)

-- the tests as the code asks them
number_is : (s : Server) (f : ℕ) → (f == 0) ≡ false → not (exists s f) ≡ not (exists_in s.entries f)
unfolding exists
number_is s f z = rw z refl

pub number_free : (s : Server) (f n : ℕ) (b : Bool) → 0 < f → f < n → n ≡ s.next_file → b ≡ exists s f → not b ≡ has_free_number s f
number_free s f n b z l e i =
    let low : nat_lt 0 f ≡ true = grind (arith, nat_tests) in
    let high : nat_lt f s.next_file ≡ true = grind (arith, nat_tests) in
    let apart : (f == 0) ≡ false = grind (arith, nat_tests) in
    ap not i ∙ (number_is s f apart ∙ sym (ap (λ (x : Bool). x && (nat_lt f s.next_file && not (exists_in s.entries f))) low
    ∙ ap (λ (x : Bool). x && not (exists_in s.entries f)) high))

-- ---- bytes that are put back

no_bytes : (d : List ℕ) → (length d == 0) ≡ true → is_empty d ≡ true
unfolding is_empty
no_bytes [] e = refl
no_bytes (x ∷ xs) e = absurd (let z : (length (x ∷ xs) == 0) ≡ false = grind arith in cc)

some_bytes : (d : List ℕ) → (length d == 0) ≡ false → is_empty d ≡ false
unfolding is_empty
some_bytes [] e = absurd (cc)
some_bytes (x ∷ xs) e = refl

off : (b c : Bool) → b ≡ false → false ≡ (b && c)
off true c e = absurd (cc)
off false c e = refl

off_inside : (a b c : Bool) → b ≡ false → false ≡ (a && (b && c))
off_inside true true c e = absurd (cc)
off_inside true false c e = refl
off_inside false b c e = refl

pub none_given : (s : Server) (f at : ℕ) (d : List ℕ) → (length d == 0) ≡ true → false ≡ may_have_bytes s f at d
none_given s f at d e = off_inside (exists_in s.entries f) (not (is_empty d)) (nat_le (at + length d) (length (s.content f)))
    (ap not (no_bytes d e))

pub bytes_given : (s : Server) (f at : ℕ) (d : List ℕ) (b : Bool) → exists_in s.entries f ≡ true → (length d == 0) ≡ false
    → b ≡ nat_le (at + length d) (length (s.content f)) → b ≡ may_have_bytes s f at d
bytes_given s f at d b there some e =
    e ∙ sym (ap (λ (x : Bool). x && (not (is_empty d) && nat_le (at + length d) (length (s.content f)))) there
    ∙ ap (λ (x : Bool). not x && nat_le (at + length d) (length (s.content f))) (some_bytes d some))

pub not_there : (s : Server) (f at : ℕ) (d : List ℕ) → exists_in s.entries f ≡ false → false ≡ may_have_bytes s f at d
not_there s f at d e = off (exists_in s.entries f) (not (is_empty d) && nat_le (at + length d) (length (s.content f))) e

pub record MayHaveBytes (s : Server) (f : ℕ) (end : ℕ) : Type 0 where
  pub there : exists_in s.entries f ≡ true
  pub fits : passes_room s f end ≡ false

no_more : (b : Bool) (n m : ℕ) → nat_le m n ≡ true → (b && nat_lt n m) ≡ false
no_more true n m e = grind (arith, nat_tests)
no_more false n m e = refl

pub bytes_may : (s : Server) (f at : ℕ) (d : List ℕ) → may_have_bytes s f at d ≡ true → MayHaveBytes s f (at + length d)
unfolding passes_room
bytes_may s f at d e =
    let r = back (exists_in s.entries f) (not (is_empty d) && nat_le (at + length d) (length (s.content f))) e in record {
      there = front (exists_in s.entries f) (not (is_empty d) && nat_le (at + length d) (length (s.content f))) e;
      fits = no_more _ (length (s.content f)) (at + length d)
          (back (not (is_empty d)) (nat_le (at + length d) (length (s.content f))) r);
    }

-- ---- a row that is there, or not

module _ (t : Tree) (s : Server) (f : ℕ) (h : ShowsFiles t s) where
  pub row_gone_so : None ≡ get nat_eq t.rows f → exists_in s.entries f ≡ false
  row_gone_so e = exists_is s.entries f ∙ ap is_some (gone_row (get nat_eq t.rows f) _ _ _ _ _ (sym e) (h.rows.rows_are f))

  pub row_there_so : (r : Row) → Some r ≡ get nat_eq t.rows f → exists_in s.entries f ≡ true × IsContent r.bytes (s.content f)
  row_there_so r e =
      let x = row_there (get nat_eq t.rows f) r _ _ _ _ _ (sym e) (h.rows.rows_are f) in
      (exists_is s.entries f ∙ ap is_some x.0, (x.1).content_is)

  pub never_gone : {X : Type 0} → None ≡ get nat_eq t.rows f → exists_in s.entries f ≡ true → X
  never_gone e there = absurd (let n = row_gone_so e in cc)
