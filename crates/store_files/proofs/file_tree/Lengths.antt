-- Rows whose bytes changed, and the sum of the lengths.
use Rattle.std.proofs.Common.{◌≡◌, ℕ, ◌+◌, ◌-◌, ◌≤◌, ◌<◌, ◌==◌, ◌^◌, min, max, nat_lt, Bool, true, false, ◌&&◌, nat_eq}
use Rattle.std.proofs.Common.{if◌then◌else◌, List, [], ◌∷◌, length, take, drop, get_or, Option, Some, None, Result, Ok}
use Rattle.std.proofs.Common.{Err, MatchResult, refl, sym, ap, subst, ◌∙◌, arith}
use Rattle.std.proofs.lemmas.Grind.{common_steps, same_number_lists}
use Rattle.std.proofs.lemmas.List.{places}
use Rattle.std.specs.Str.{bytes_eq}
use Rattle.std.specs.Cmp.Lexicographic.{nat_list_eq_equiv}
use Rattle.std.proofs.lemmas.Bool.Decides.{nat_tests}
use Rattle.std.specs.HashMap.{get, hash_map_len}
use Rattle.spec_exchange.specs.State as model
use Rattle.spec_exchange.specs.Commands.{Basic}
use Rattle.spec_exchange.specs.Content.{written, ended, is_empty, same_bytes, past_end, Read}
use Rattle.spec_exchange.proofs.Content.{written-empty, length-written, get_or-written}
use Rattle.spec_exchange.specs.Files.{sizes, exists, is_directory, passes_room, used, info_of}
use Rattle.store_files.specs.declared.file_extents.extents.Extents.{Extents}
use Rattle.store_files.specs.file_extents.Kept.{IsContent}
use Rattle.store_files.specs.declared.file_tree.row.Row.{Row}
use Rattle.store_files.specs.declared.file_tree.tree.Tree.{Tree}
use Rattle.store_files.specs.declared.file_tree.row.Info.{Info}
use Rattle.store_files.specs.declared.file_tree.error.StoreError.{StoreError}
use Rattle.store_files.specs.file_tree.Refusals.{read_refusal, StoreTells}
use Rattle.store_files.specs.file_tree.Shown.{FileRowIs, FileRowShown, FileRowFound, RowOrRoot, ShowsFiles, FileApart, path_at, model_info}
use Rattle.store_files.specs.declared.file_extents.write.Prepared.{Prepared}
use Rattle.store_files.specs.file_extents.Ready.{IsPieceReady}
use Rattle.store_files.specs.file_tree.Bytes.{BytesPut, RowReady, with_content}
use Rattle.store_files.proofs.file_tree.Entries.{path_head, bytes_same}
use Rattle.store_files.proofs.file_tree.Counts.{sizes_gone}

-- ---- one row

pub row_put : (old new : Option Row) (P : Extents → Extents → Type 0) (path : Option (List ℕ))
    (directory delete_pending : Bool) (basic : Basic) (c d : List ℕ)
    → ((x y : Extents) → P x y → IsContent x c → IsContent y d) → BytesPut old new P → FileRowShown old path directory
    delete_pending basic c → FileRowShown new path directory delete_pending basic d
row_put None new P path directory delete_pending basic c d k p h = rw p h
row_put (Some r) new P path directory delete_pending basic c d k p h =
    rw (p.1) (
      h.0,
      record {
        key_is = h.1.key_is;
        below_is = h.1.below_is;
        directory_is = h.1.directory_is;
        delete_pending_is = h.1.delete_pending_is;
        basic_is = h.1.basic_is;
        content_is = k r.bytes (p.0) (p.2) h.1.content_is;
      },
    )

module _ (t u : Tree) (f : ℕ) (P : Extents → Extents → Type 0) (there : BytesPut (get nat_eq t.rows f) (get nat_eq u.rows f) P)
    (others : (q : ℕ) → (q == f) ≡ false → get nat_eq u.rows q ≡ get nat_eq t.rows q) (s : model.Server) (h : ShowsFiles t s) where
  same_at : (g : ℕ) → (g == f) ≡ true → g ≡ f
  same_at g e = grind (arith, nat_tests)

  pub rows_kept : ((x y : Extents) → P x y → (c : List ℕ) → IsContent x c → IsContent y c) → (g : ℕ)
      → FileRowShown (get nat_eq u.rows g) (path_at s.entries g) (s.directory g) (s.delete_pending g) (s.basic g)
      (s.content g)
  rows_kept k g = by (g == f) refl
    where
      here : FileRowShown (get nat_eq u.rows f) (path_at s.entries f) (s.directory f) (s.delete_pending f) (s.basic f) (s.content f)
      here = row_put (get nat_eq t.rows f) (get nat_eq u.rows f) P _ _ _ _ (s.content f) (s.content f)
          (λ x y p. k x y p (s.content f)) there (h.rows.rows_are f)

      by : (b : Bool) → (g == f) ≡ b → FileRowShown (get nat_eq u.rows g) (path_at s.entries g) (s.directory g)
          (s.delete_pending g) (s.basic g) (s.content g)
      by true e = subst (λ q. FileRowShown (get nat_eq u.rows q) (path_at s.entries q) (s.directory q) (s.delete_pending q)
          (s.basic q) (s.content q)) (sym (same_at g e)) here
      by false e = rw (others g e) (h.rows.rows_are g)

  pub rows_changed : (d : List ℕ) → ((x y : Extents) → P x y → IsContent x (s.content f) → IsContent y d)
      → (g : ℕ) → FileRowShown (get nat_eq u.rows g) (path_at s.entries g) (s.directory g) (s.delete_pending g) (s.basic g)
      (if g == f then d else s.content g)
  rows_changed d k g = by (g == f) refl
    where
      here : FileRowShown (get nat_eq u.rows f) (path_at s.entries f) (s.directory f) (s.delete_pending f) (s.basic f) d
      here = row_put (get nat_eq t.rows f) (get nat_eq u.rows f) P _ _ _ _ (s.content f) d k there (h.rows.rows_are f)

      by : (b : Bool) → (g == f) ≡ b → FileRowShown (get nat_eq u.rows g) (path_at s.entries g) (s.directory g)
          (s.delete_pending g) (s.basic g) (if b then d else s.content g)
      by true e = subst (λ q. FileRowShown (get nat_eq u.rows q) (path_at s.entries q) (s.directory q) (s.delete_pending q)
          (s.basic q) d) (sym (same_at g e)) here
      by false e = rw (others g e) (h.rows.rows_are g)

-- ---- the sum of the lengths

sizes_absent : (content : ℕ → List ℕ) (es : List model.Entry) (f : ℕ) (d : List ℕ) → path_at es f ≡ None
    → sizes (λ q. if q == f then d else content q) es ≡ sizes content es
unfolding sizes path_at
sizes_absent content [] f d e = refl
sizes_absent content (x ∷ xs) f d e = let h = sizes_absent content xs f d in grind (arith, common_steps)

pub sizes_put : (content : ℕ → List ℕ) (es : List model.Entry) (f : ℕ) (p d : List ℕ) → FileApart es → path_at es f ≡ Some p
    → length (content f) + sizes (λ q. if q == f then d else content q) es ≡ length d + sizes content es
unfolding sizes path_at
sizes_put content [] f p d a e = absurd (cc)
sizes_put content (x ∷ xs) f p d a e =
    let h = sizes_put content xs f p d a.2 in let w = sizes_absent content xs f d in let m = path_head x xs f a in
    let z : (x.file == f) ≡ true → x.file ≡ f = grind (arith, nat_tests) in grind (arith, common_steps)

-- ---- a file that is there and is no directory is not the root

pub no_root : (s : model.Server) (f : ℕ) → is_directory s f ≡ false → (f == 0) ≡ false
unfolding is_directory
no_root s f e = grind (arith, common_steps)

-- a sum that doesn't pass the room fits 64 bits
pub sum_fits : (total len size room : ℕ) → total < 2 ^ 64 → room < 2 ^ 64 → len ≤ total
    → (nat_lt room ((total - len) + size) && nat_lt len size) ≡ false → min ((total - len) + size) (2 ^ 64 - 1)
    ≡ (total - len) + size
sum_fits total len size room u r l n = grind (arith, nat_tests)

-- where a file grows to the greater of two ends, the lesser passes nothing
pub used_grown : (used len end room : ℕ) → (nat_lt room ((used - len) + end) && nat_lt len end) ≡ false
    → (nat_lt room ((used - len) + max len end) && nat_lt len (max len end)) ≡ false
used_grown used len end room n = grind (arith, nat_tests)

pub sizes_in : (content : ℕ → List ℕ) (es : List model.Entry) (f : ℕ) (p : List ℕ) → FileApart es → path_at es f ≡ Some p
    → length (content f) ≤ sizes content es
sizes_in content es f p a e = let g = sizes_gone content es f p a e in omega arith

pub none_passes : (s : model.Server) (f : ℕ) → passes_room s f 0 ≡ false
unfolding passes_room
none_passes s f = by (nat_lt s.room ((used s - length (s.content f)) + 0))
  where
    by : (b : Bool) → (b && nat_lt (length (s.content f)) 0) ≡ false
    by true = grind (arith, nat_tests)
    by false = refl

pub ended_none : (c : List ℕ) → ended 0 c ≡ []
unfolding ended
ended_none c = refl

pub filled : (d : List ℕ) → 0 < length d → is_empty d ≡ false
unfolding is_empty
filled [] l = absurd (omega arith)
filled (x ∷ xs) l = refl

filled_length : (d : List ℕ) → is_empty d ≡ false → 1 ≤ length d
unfolding is_empty
filled_length [] e = absurd (cc)
filled_length (x ∷ xs) e = omega arith

-- ---- the table with other bytes in one file

content_zero : (r : Row) (f : ℕ) (m : Bool) (b : Basic) (c d : List ℕ) → (f == 0) ≡ false → FileRowIs r true m b c
    → FileRowIs r true m b (if 0 == f then d else c)
content_zero r f m b c d z h = by (0 == f) (grind (arith, nat_tests))
  where
    by : (x : Bool) → x ≡ false → FileRowIs r true m b (if x then d else c)
    by true e = absurd (cc)
    by false e = h

pub shows_changed : (t u : Tree) (s : model.Server) (f : ℕ) (d : List ℕ) → (f == 0) ≡ false
    → ((g : ℕ) → FileRowShown (get nat_eq u.rows g) (path_at s.entries g) (s.directory g) (s.delete_pending g) (s.basic g)
    (if g == f then d else s.content g))
    → hash_map_len u.rows ≡ hash_map_len t.rows → sizes (λ q. if q == f then d else s.content q) s.entries ≡ u.used
    → u.root ≡ t.root → u.paths ≡ t.paths → u.next ≡ t.next → u.room ≡ t.room → ShowsFiles t s → ShowsFiles u (with_content s f d)
shows_changed t u s f d z rows count sum root paths next room h = record {
  rows = record {
    apart = h.rows.apart;
    fresh = h.rows.fresh;
    above = h.rows.above;
    no_root = h.rows.no_root;
    no_empty = h.rows.no_empty;
    housed = h.rows.housed;
    plain = h.rows.plain;
    root_path = rw root h.rows.root_path;
    root_below = rw root h.rows.root_below;
    root_is = rw root (content_zero t.root f _ _ _ d z h.rows.root_is);
    rows_are = rows;
    count_is = h.rows.count_is ∙ sym count;
    next_is = h.rows.next_is ∙ sym next;
    used_is = sum;
    room_is = h.rows.room_is ∙ sym room;
  };
  keys_are = λ q. rw paths (h.keys_are q);
}

-- what a prepared write puts where its row is ready
pub ready_put : (old new : Option Row) (p : Prepared) (at : ℕ) (d : List ℕ) → RowReady old p at d
    → BytesPut old new (λ x y. (at : ℕ) (c : List ℕ) → IsPieceReady x p at d → IsContent x c → IsContent y (written at d c))
    → BytesPut old new (λ x y. (c : List ℕ) → IsContent x c → IsContent y (written at d c))
ready_put None new p at d r b = b
ready_put (Some o) new p at d r b = (b.0, b.1, λ c i. b.2 at c r i)

-- ---- bytes that are there already

same_is : (a b : List ℕ) → same_bytes a b ≡ bytes_eq a b
unfolding same_bytes
same_is [] [] = refl
same_is [] (y ∷ ys) = refl
same_is (x ∷ xs) [] = refl
same_is (x ∷ xs) (y ∷ ys) = rw (same_is xs ys) refl

iff : (b c : Bool) → (b ≡ true → c ≡ true) → (c ≡ true → b ≡ true) → b ≡ c
iff true true f g = refl
iff true false f g = sym (f refl)
iff false true f g = g refl
iff false false f g = refl

module _ (at : ℕ) (d c : List ℕ) (e : is_empty d ≡ false) where
  written_there : take (length d) (drop at c) ≡ d → written at d c ≡ c
  written_there s =
      let l = length-written at d c e in
      let n : at + length d ≤ length c = (let x = ap length s in let f = filled_length d e in grind (arith, places)) in
      same_number_lists (written at d c) c (grind arith) (λ k m.
      let g = get_or-written at d c k e in
      let v = ap (λ (x : List ℕ). get_or x (k - at) 0) s in
      grind (arith, places, nat_tests))

  there_written : written at d c ≡ c → take (length d) (drop at c) ≡ d
  there_written s =
      let l = length-written at d c e in
      let n : at + length d ≤ length c = (let x = ap length s in omega arith) in
      same_number_lists (take (length d) (drop at c)) d (grind (arith, places)) (λ k m.
      let g = get_or-written at d c (at + k) e in
      let v = ap (λ (x : List ℕ). get_or x (at + k) 0) s in
      grind (arith, places, nat_tests))

holds_none : (at : ℕ) (d c v : List ℕ) → v ≡ take (length d) (drop at c) → is_empty d ≡ true → bytes_eq v d ≡ same_bytes (written at d c) c
unfolding is_empty
holds_none at [] c v r e = rw (r, written-empty at [] c refl, same_is c c, nat_list_eq_equiv.refl c) refl
holds_none at (x ∷ xs) c v r e = absurd (cc)

pub holds_is : (at : ℕ) (d c v : List ℕ) → v ≡ take (length d) (drop at c) → bytes_eq v d ≡ same_bytes (written at d c) c
holds_is at d c v r = by (is_empty d) refl
  where
    by : (b : Bool) → is_empty d ≡ b → bytes_eq v d ≡ same_bytes (written at d c) c
    by true e = holds_none at d c v r e
    by false e = iff (bytes_eq v d) (same_bytes (written at d c) c)
        (λ s. same_is (written at d c) c
        ∙ (ap (λ (x : List ℕ). bytes_eq x c) (written_there at d c e (sym r ∙ bytes_same v d s))
        ∙ nat_list_eq_equiv.refl c))
        (λ s. ap (λ (x : List ℕ). bytes_eq x d)
        (r ∙ there_written at d c e (bytes_same (written at d c) c (sym (same_is (written at d c) c) ∙ s)))
        ∙ nat_list_eq_equiv.refl d)

-- ---- what a row says of its file

pub found_content : (s : model.Server) (f : ℕ) (r : Row) → FileRowFound (Some r) s f → IsContent r.bytes (s.content f)
found_content s f r h = by (f == 0) refl h
  where
    by : (b : Bool) → (f == 0) ≡ b → RowOrRoot b (Some r) s f → IsContent r.bytes (s.content f)
    by true e h = let z : 0 ≡ f = grind (arith, nat_tests) in subst (λ g. IsContent r.bytes (s.content g)) z h.1.content_is
    by false e h = h.1.content_is

pub told_basic : (i : Info) (s : model.Server) (f : ℕ) → model_info i ≡ info_of s f → i.basic ≡ s.basic f
unfolding info_of
told_basic i s f e = ap (λ (x : model.Info). x.times) e

pub read_told : (t : Tree) (f at n : ℕ) (r : Row) (o : Result (List ℕ) StoreError)
    → ((s : model.Server) → ShowsFiles t s → FileRowFound (Some r) s f)
    → MatchResult o (λ b. (c : List ℕ) → IsContent r.bytes c → (past_end (Read at n) c ≡ false) × (b ≡ take n (drop at c)))
    (λ e. (c : List ℕ) → IsContent r.bytes c → StoreTells e (if past_end (Read at n) c then Some 0xc000_0011 else None))
    → MatchResult o (λ b. (s : model.Server) → ShowsFiles t s → exists s f ≡ true → (read_refusal s f at n ≡ None)
    × (b ≡ take n (drop at (s.content f))))
    (λ e. (s : model.Server) → ShowsFiles t s → exists s f ≡ true → StoreTells e (read_refusal s f at n))
read_told t f at n r (Ok b) found m = λ s h e. let x = m (s.content f) (found_content s f r (found s h)) in (rw (x.0) refl, x.1)
read_told t f at n r (Err e) found m = λ s h i. m (s.content f) (found_content s f r (found s h))

-- the sum of the lengths behind a change of one file's
pub sum_changed : (s : model.Server) (f size : ℕ) (p d : List ℕ) → FileApart s.entries → path_at s.entries f ≡ Some p
    → length d ≡ size → sizes (λ q. if q == f then d else s.content q) s.entries ≡ (used s - length (s.content f))
    + size
unfolding used
sum_changed s f size p d a e l = let g = sizes_put s.content s.entries f p d a e in let h = sizes_in s.content s.entries
    f p a e in omega arith

pub part_of_used : (s : model.Server) (f : ℕ) (p : List ℕ) → FileApart s.entries → path_at s.entries f ≡ Some p
    → length (s.content f) ≤ used s
unfolding used
part_of_used s f p a e = sizes_in s.content s.entries f p a e

pub room_left_used : (s : model.Server) (f size : ℕ) → passes_room s f size ≡ false
    → (nat_lt s.room ((used s - length (s.content f)) + size) && nat_lt (length (s.content f)) size) ≡ false
unfolding passes_room
room_left_used s f size e = e
