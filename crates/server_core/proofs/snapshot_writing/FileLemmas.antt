-- Files of a snapshot under way: one part more, one file more.
use Rattle.std.proofs.Common.{◌≡◌, ℕ, zero, suc, ◌+◌, ◌<◌, ◌≤◌, ◌==◌, nat_lt, Bool, true, false, not, ◌&&◌, ◌||◌, if◌then◌else◌, List, [], ◌∷◌, ◌++◌}
use Rattle.std.proofs.Common.{length, take, get_or, Option, Some, None, is_some, Result, Ok, Err, OnOk, refl, sym, ap, subst, ◌∙◌, arith, append_assoc}
use Rattle.std.proofs.lemmas.Bool.Decides.{nat_tests}
use Rattle.std.proofs.lemmas.List.{append-nil, places}
use Rattle.std.proofs.lemmas.Grind.{same_number_lists, common_steps}
use Rattle.spec_exchange.specs.Table.{has, put}
use Rattle.spec_exchange.specs.Content.{is_empty, written, ended}
use Rattle.spec_exchange.proofs.Content.{length-ended, get_or-ended}
use Rattle.spec_exchange.specs.State as model
use Rattle.spec_exchange.specs.State.{Server, Entry}
use Rattle.spec_exchange.specs.Files.{exists, exists_in, is_directory, info_of, path_of}
use Rattle.law_snapshots.specs.snapshots.Pieces.{SnapshotPiece, FilePiece, BytesPiece, Patch, FileBytes, patched, bytes_pieces, file_piece, file_pieces}
use Rattle.journal.specs.disk_journal.Rewrite.{RewriteState}
use Rattle.journal_bytes.specs.declared.piece_bytes.value.FileFront.{FileFront}
use Rattle.store_files.specs.declared.file_tree.tree.Tree.{Tree}
use Rattle.store_files.specs.declared.file_tree.row.Info.{Info}
use Rattle.store_files.specs.file_extents.Parts.{up_to, IsFilePart}
use Rattle.store_files.specs.file_tree.Shown.{ShowsFiles, model_info, path_at}
use Rattle.store_files.specs.file_tree.Placed.{Once}
use Rattle.law_snapshots.specs.snapshots.Taken.{all_filled, numbered_entries}
use Rattle.server_core.specs.snapshot_writing.Told.{IsTold}
use Rattle.server_core.specs.snapshot_writing.Files.{PartsSoFar, PartsTold, FileTold, FilesTold, ArePatchesOf, IsFrontOf, front_piece}

pub on_ok : {T E : Type 0} (r : Result T E) (P Q : Type 0) → (P → Q) → OnOk r P → OnOk r Q
on_ok (Ok x) P Q f h = f h
on_ok (Err e) P Q f h = tt

-- ---- parts

patched_end : (ps : List Patch) (p : Patch) (c : List ℕ) → patched (ps ++ p ∷ []) c ≡ written p.at p.bytes (patched ps c)
unfolding patched
patched_end [] p c = refl
patched_end (q ∷ qs) p c = patched_end qs p (written q.at q.bytes c)

pieces_end : (f : ℕ) (ps : List Patch) (p : Patch) → bytes_pieces f (ps ++ p ∷ []) ≡ bytes_pieces f ps ++ BytesPiece f p.at p.bytes ∷ []
unfolding bytes_pieces
pieces_end f [] p = refl
pieces_end f (q ∷ qs) p = ap (λ l. BytesPiece f q.at q.bytes ∷ l) (pieces_end f qs p)

filled_end : (ps : List Patch) (p : Patch) → all_filled ps ≡ true → is_empty p.bytes ≡ false → all_filled (ps ++ p ∷ []) ≡ true
unfolding all_filled
filled_end [] p h e = rw e refl
filled_end (q ∷ qs) p h e = by (not (is_empty q.bytes)) (all_filled qs) h (λ i. filled_end qs p i e)
  where
    by : (b c : Bool) → (b && c) ≡ true → (c ≡ true → all_filled (qs ++ p ∷ []) ≡ true) → (b && all_filled (qs ++ p ∷ [])) ≡ true
    by true c i more = more i
    by false c i more = absurd (cc)

some_bytes : (d : List ℕ) → 0 < length d → is_empty d ≡ false
unfolding is_empty
some_bytes [] l = absurd (omega arith)
some_bytes (x ∷ xs) l = refl

none_told : (f : ℕ) → bytes_pieces f [] ≡ []
unfolding bytes_pieces
none_told f = refl

none_patched : (c : List ℕ) → patched [] c ≡ c
unfolding patched
none_patched c = refl

none_filled : all_filled [] ≡ true
unfolding all_filled
none_filled = refl

module _ {D : Type 0} (knows : Type 0) (drafted : D → List ℕ) where
  pub parts_begun : (disk : D) (w : RewriteState) (body : List ℕ) (s : Server) (f : ℕ) (ps : List SnapshotPiece)
      → IsTold knows drafted disk w body ps → PartsSoFar knows drafted disk w body s f ps 0
  parts_begun disk w body s f ps h = (
    [],
    none_patched (ended (length (s.content f)) []),
    none_filled,
    subst (λ l. IsTold knows drafted disk w body l) (sym (ap (λ l. ps ++ l) (none_told f) ∙ append-nil ps)) h,
  )

  pub parts_on : (disk disk2 : D) (w v : RewriteState) (body new : List ℕ) (s : Server) (f : ℕ) (ps : List SnapshotPiece)
      (at most place next : ℕ) (bytes : List ℕ) → IsFilePart (s.content f) at most place bytes → next ≡ place + length bytes
      → (h : PartsSoFar knows drafted disk w body s f ps at)
      → IsTold knows drafted disk2 v new ((ps ++ bytes_pieces f h.0) ++ BytesPiece f place bytes ∷ [])
      → PartsSoFar knows drafted disk2 v new s f ps next
  parts_on disk disk2 w v body new s f ps at most place next bytes part e h told =
      let p : Patch = record { at = place; bytes = bytes } in (
        h.0 ++ p ∷ [],
        patched_end h.0 p (ended (length (s.content f)) []) ∙ (ap (written place bytes) h.1
            ∙ (part.told ∙ ap (λ n. up_to n (s.content f)) (sym e))),
        filled_end h.0 p h.2 (some_bytes bytes part.some),
        subst (λ l. IsTold knows drafted disk2 v new l) (append_assoc ps (bytes_pieces f h.0) (BytesPiece f place bytes ∷ [])
            ∙ ap (λ l. ps ++ l) (sym (pieces_end f h.0 p))) told,
      )

  pub parts_end : (disk : D) (w : RewriteState) (body : List ℕ) (s : Server) (f : ℕ) (ps : List SnapshotPiece) (at : ℕ)
      → up_to at (s.content f) ≡ s.content f → PartsSoFar knows drafted disk w body s f ps at → PartsTold knows drafted disk w body s f ps
  parts_end disk w body s f ps at e h = (h.0, record { whole = h.1 ∙ e; filled = h.2 }, h.3)

  -- the file before its parts
  pub file_on : (disk : D) (w : RewriteState) (body : List ℕ) (s : Server) (f : ℕ) (ps : List SnapshotPiece)
      → PartsTold knows drafted disk w body s f (ps ++ front_piece s f ∷ []) → FileTold knows drafted disk w body s f ps
  file_on disk w body s f ps h = (
    h.0,
    h.1,
    subst (λ l. IsTold knows drafted disk w body l) (append_assoc ps (front_piece s f ∷ []) (bytes_pieces f h.0)) h.2,
  )

get_up_to : (at : ℕ) (c : List ℕ) (k : ℕ) → get_or (up_to at c) k 0 ≡ (if nat_lt k at then get_or c k 0 else 0)
get_up_to at c k = let e = get_or-ended (length c) (take at c) k in grind (arith, places, nat_tests)

pub all_up_to : (at : ℕ) (c : List ℕ) → length c ≤ at → up_to at c ≡ c
all_up_to at c l = same_number_lists (up_to at c) c (length-ended (length c) (take at c))
    (λ k m. let g = get_up_to at c k in let n = length-ended (length c) (take at c) in let o : k < at = omega (arith, m, n, l) in
    grind (arith, nat_tests))

-- ---- what is told of a file

there_so : (s : Server) (f : ℕ) → exists_in s.entries f ≡ true → exists s f ≡ true
unfolding exists
there_so s f e = rw e (either (f == 0))
  where
    either : (b : Bool) → (b || true) ≡ true
    either true = refl
    either false = refl

pub there : (s : Server) (f : ℕ) → exists_in s.entries f ≡ true → exists s f ≡ true
there = there_so

exists_at : (es : List Entry) (f : ℕ) → exists_in es f ≡ is_some (path_at es f)
unfolding exists_in path_at
exists_at [] f = refl
exists_at (e ∷ es) f = let h = exists_at es f in grind (arith, common_steps)

own_directory : (s : Server) (f : ℕ) → (f == 0) ≡ false → is_directory s f ≡ s.directory f
unfolding is_directory
own_directory s f z = rw z refl

info_directory : (s : Server) (f : ℕ) → (info_of s f).is_directory ≡ is_directory s f
unfolding info_of
info_directory s f = refl

info_size : (s : Server) (f : ℕ) → (info_of s f).size ≡ length (s.content f)
unfolding info_of
info_size s f = refl

info_marked : (s : Server) (f : ℕ) → (info_of s f).is_delete_pending ≡ s.delete_pending f
unfolding info_of
info_marked s f = refl

info_times : (s : Server) (f : ℕ) → (info_of s f).times ≡ s.basic f
unfolding info_of
info_times s f = refl

pub length_is : (i : Info) (s : Server) (f : ℕ) → model_info i ≡ info_of s f → i.length ≡ length (s.content f)
length_is i s f e = ap (λ (x : model.Info). x.size) e ∙ info_size s f

pub front_is : (i : Info) (s : Server) (f : ℕ) → (f == 0) ≡ false → model_info i ≡ info_of s f
    → IsFrontOf (record { directory = i.directory; pending = i.marked; basic = i.basic; size = i.length; stored = 0 }) s f
front_is i s f z e = record {
  directory = ap (λ (x : model.Info). x.is_directory) e ∙ (info_directory s f ∙ own_directory s f z);
  pending = ap (λ (x : model.Info). x.is_delete_pending) e ∙ info_marked s f;
  basic = ap (λ (x : model.Info). x.times) e ∙ info_times s f;
  size = length_is i s f e;
  stored = refl;
}

-- what has an entry is not the root
pub apart : (t : Tree) (s : Server) (f : ℕ) → ShowsFiles t s → exists_in s.entries f ≡ true → (f == 0) ≡ false
apart t s f h e = by (f == 0) refl
  where
    some : (o : Option (List ℕ)) → o ≡ None → is_some o ≡ true → false ≡ true
    some None i k = k
    some (Some x) i k = absurd (cc)

    by : (b : Bool) → (f == 0) ≡ b → b ≡ false
    by false z = refl
    by true z =
        let same : f ≡ 0 = grind (arith, nat_tests) in
        sym (some (path_at s.entries 0) h.rows.no_root (sym (exists_at s.entries 0) ∙ (ap (exists_in s.entries) (sym same) ∙ e)))

pub text_is : (path : List ℕ) (s : Server) (f : ℕ) → Some path ≡ Some (path_of s f) → path ≡ path_of s f
text_is path s f e = cc

pub piece_is : (front : FileFront) (s : Server) (f : ℕ) (path : List ℕ) → IsFrontOf front s f → path ≡ path_of s f
    → FilePiece f path front.directory front.pending front.basic front.size front.stored ≡ front_piece s f
piece_is front s f path h e = rw (e, h.directory, h.pending, h.basic, h.size, h.stored) refl

-- ---- one file more

numbered_end : (s : Server) (fs : List ℕ) (f : ℕ) → numbered_entries s (fs ++ f ∷ []) ≡ numbered_entries s fs ++ record { file = f; path = path_of s f } ∷ []
unfolding numbered_entries
numbered_end s [] f = refl
numbered_end s (g ∷ gs) f = ap (λ l. record { file = g; path = path_of s g } ∷ l) (numbered_end s gs f)

files_end : (s : Server) (held : ℕ → FileBytes) (es : List Entry) (e : Entry) → file_pieces s held (es ++ e ∷ [])
    ≡ file_pieces s held es ++ file_piece s (held e.file).stored e ∷ bytes_pieces e.file (held e.file).patches
unfolding file_pieces
files_end s held [] e = ap (λ l. file_piece s (held e.file).stored e ∷ l) (append-nil (bytes_pieces e.file (held e.file).patches))
files_end s held (x ∷ xs) e = ap (λ l. file_piece s (held x.file).stored x ∷ l)
    (ap (λ l. bytes_pieces x.file (held x.file).patches ++ l) (files_end s held xs e)
    ∙ sym (append_assoc (bytes_pieces x.file (held x.file).patches) (file_pieces s held xs)
    (file_piece s (held e.file).stored e ∷ bytes_pieces e.file (held e.file).patches)))

files_same : (s : Server) (held other : ℕ → FileBytes) (fs : List ℕ) → ((g : ℕ) → has g fs ≡ true → other g ≡ held g)
    → file_pieces s other (numbered_entries s fs) ≡ file_pieces s held (numbered_entries s fs)
unfolding file_pieces numbered_entries
files_same s held other [] h = refl
files_same s held other (f ∷ fs) h =
    let e = h f (first f fs) in
    let r = files_same s held other fs (λ g i. h g (later f g fs i)) in
    ap (λ (x : FileBytes). file_piece s x.stored (record { file = f; path = path_of s f }) ∷ (bytes_pieces f x.patches
    ++ file_pieces s other (numbered_entries s fs))) e
    ∙ ap (λ l. file_piece s (held f).stored (record { file = f; path = path_of s f }) ∷ (bytes_pieces f (held f).patches ++ l)) r
  where
    first : (f : ℕ) (fs : List ℕ) → has f (f ∷ fs) ≡ true
    first f fs = let e : (f == f) ≡ true = grind (arith, nat_tests) in ap (λ (b : Bool). if b then true else has f fs) e

    later : (f g : ℕ) (fs : List ℕ) → has g fs ≡ true → has g (f ∷ fs) ≡ true
    later f g fs i = by (f == g)
      where
        by : (b : Bool) → (if b then true else has g fs) ≡ true
        by true = refl
        by false = i

has_end : (fs : List ℕ) (f g : ℕ) → has g (fs ++ f ∷ []) ≡ (if f == g then true else has g fs)
has_end [] f g = refl
has_end (x ∷ xs) f g = by (x == g) (f == g) (has_end xs f g)
  where
    by : (b c : Bool) → has g (xs ++ f ∷ []) ≡ (if c then true else has g xs)
        → (if b then true else has g (xs ++ f ∷ [])) ≡ (if c then true else (if b then true else has g xs))
    by true true h = refl
    by true false h = refl
    by false c h = h

put_here : (held : ℕ → FileBytes) (f : ℕ) (x : FileBytes) → put held f x f ≡ x
put_here held f x = let e : (f == f) ≡ true = grind (arith, nat_tests) in ap (λ (b : Bool). if b then x else held f) e

put_other : (held : ℕ → FileBytes) (f g : ℕ) (x : FileBytes) (fs : List ℕ) → has f fs ≡ false → has g fs ≡ true → put held f x g ≡ held g
put_other held f g x fs n h = by (g == f) refl
  where
    by : (b : Bool) → (g == f) ≡ b → (if b then x else held g) ≡ held g
    by false e = refl
    by true e = absurd (let z : g ≡ f = grind (arith, nat_tests) in let y = ap (λ k. has k fs) z in cc)

pub has_at : (xs : List ℕ) (i : ℕ) → i < length xs → has (get_or xs i 0) xs ≡ true
has_at [] i l = absurd (omega arith)
has_at (x ∷ xs) zero l = let e : (x == x) ≡ true = grind (arith, nat_tests) in ap (λ (b : Bool). if b then true else has x xs) e
has_at (x ∷ xs) (suc i) l = by (x == get_or xs i 0) (has_at xs i (omega arith))
  where
    by : (b : Bool) → has (get_or xs i 0) xs ≡ true → (if b then true else has (get_or xs i 0) xs) ≡ true
    by true h = refl
    by false h = h

pub once_at : (xs : List ℕ) (i : ℕ) → i < length xs → Once xs → has (get_or xs i 0) (take i xs) ≡ false
once_at [] i l o = absurd (omega arith)
once_at (x ∷ xs) zero l o = refl
once_at (x ∷ xs) (suc i) l o = by (x == get_or xs i 0) refl (has_at xs i (omega arith)) (once_at xs i (omega arith) o.1)
  where
    by : (b : Bool) → (x == get_or xs i 0) ≡ b → has (get_or xs i 0) xs ≡ true → has (get_or xs i 0) (take i xs) ≡ false
        → (if b then true else has (get_or xs i 0) (take i xs)) ≡ false
    by true e h n = absurd (let z : x ≡ get_or xs i 0 = grind (arith, nat_tests) in let y = ap (λ k. has k xs) z in let m = o.0 in cc)
    by false e h n = n

-- a property of what is held of each file of a list goes over to one more
held_more : (P : ℕ → FileBytes → Type 0) (held : ℕ → FileBytes) (fs : List ℕ) (f : ℕ) (x : FileBytes) → has f fs ≡ false
    → ((g : ℕ) → has g fs ≡ true → P g (held g)) → P f x → (g : ℕ) → has g (fs ++ f ∷ []) ≡ true → P g (put held f x g)
held_more P held fs f x n old new g h = by (f == g) refl (sym (has_end fs f g) ∙ h)
  where
    by : (b : Bool) → (f == g) ≡ b → (if b then true else has g fs) ≡ true → P g (put held f x g)
    by true e t = let z : f ≡ g = grind (arith, nat_tests) in
        subst (λ k. P k (put held f x k)) z (subst (λ (y : FileBytes). P f y) (sym (put_here held f x)) new)
    by false e t = subst (λ (y : FileBytes). P g y) (sym (put_other held f g x fs n t)) (old g t)

module _ {D : Type 0} (knows : Type 0) (drafted : D → List ℕ) where
  pub files_on : (disk disk2 : D) (w v : RewriteState) (body new : List ℕ) (s : Server) (fs : List ℕ) (f : ℕ) (ps : List SnapshotPiece)
      → has f fs ≡ false → (h : FilesTold knows drafted disk w body s fs ps)
      → FileTold knows drafted disk2 v new s f (ps ++ file_pieces s h.0 (numbered_entries s fs))
      → FilesTold knows drafted disk2 v new s (fs ++ f ∷ []) ps
  files_on disk disk2 w v body new s fs f ps n h one =
      let x : FileBytes = record { stored = 0; patches = one.0 } in
      let held = put h.0 f x in
      let e : Entry = record { file = f; path = path_of s f } in
      let here : held f ≡ x = put_here h.0 f x in
      let told : file_pieces s held (numbered_entries s (fs ++ f ∷ [])) ≡ file_pieces s h.0 (numbered_entries s fs)
      ++ front_piece s f ∷ bytes_pieces f one.0 =
      ap (file_pieces s held) (numbered_end s fs f) ∙ (files_end s held (numbered_entries s fs) e
      ∙ (ap (λ l. l ++ file_piece s (held f).stored e ∷ bytes_pieces f (held f).patches)
      (files_same s h.0 held fs (λ g i. put_other h.0 f g x fs n i))
      ∙ ap (λ (y : FileBytes). file_pieces s h.0 (numbered_entries s fs) ++ file_piece s y.stored e ∷ bytes_pieces f y.patches) here)) in (
        held,
        record {
          stored = held_more (λ g y. y.stored ≡ 0) h.0 fs f x n h.1.stored refl;
          patches = held_more (λ g y. ArePatchesOf s g y.patches) h.0 fs f x n h.1.patches one.1;
        },
        subst (λ l. IsTold knows drafted disk2 v new l) (append_assoc ps (file_pieces s h.0 (numbered_entries s fs))
            (front_piece s f ∷ bytes_pieces f one.0) ∙ ap (λ l. ps ++ l) (sym told)) one.2,
      )

  pub files_begun : (disk : D) (w : RewriteState) (body : List ℕ) (s : Server) (ps : List SnapshotPiece)
      → IsTold knows drafted disk w body ps → FilesTold knows drafted disk w body s [] ps
  unfolding file_pieces numbered_entries
  files_begun disk w body s ps h = (
    λ f. record { stored = 0; patches = [] },
    record { stored = λ f i. refl; patches = λ f i. absurd (cc) },
    subst (λ l. IsTold knows drafted disk w body l) (sym (append-nil ps)) h,
  )
