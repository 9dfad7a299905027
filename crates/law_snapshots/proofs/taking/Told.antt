-- The files of a snapshot are taken, each with its bytes.
use Rattle.std.proofs.Common.{◌≡◌, ℕ, ◌+◌, ◌<◌, ◌≤◌, ◌==◌, nat_le, nat_lt, max, Bool, true, false, not, ◌||◌, if◌then◌else◌, List, []}
use Rattle.std.proofs.Common.{◌∷◌, ◌++◌, length, take, is_some, Option, None, Some, refl, sym, ap, subst, ◌∙◌, arith, eqb-true}
use Rattle.std.proofs.lemmas.Bool.Decides.{nat_tests}
use Rattle.spec_exchange.specs.Table.{put}
use Rattle.spec_exchange.specs.Texts.{same_name}
use Rattle.spec_exchange.specs.Content.{written, ended, is_empty}
use Rattle.spec_exchange.specs.State.{Server, Entry}
use Rattle.spec_exchange.specs.Files.{exists_in, find, find_in, sizes, used}
use Rattle.spec_exchange.proofs.Content.{length-written, length-ended}
use Rattle.law_server.proofs.tables.Lists.{exists-pushed}
use Rattle.law_server.proofs.tables.Logic.{front_of, back_of, both, none_of, not_true}
use Rattle.law_snapshots.specs.snapshots.Pieces.{BytesPiece, FileBytes, Patch, patched, place_file, bytes_pieces, file_piece, file_pieces}
use Rattle.law_snapshots.specs.snapshots.Pieces.{may_place, with_piece, with_pieces}
use Rattle.law_snapshots.specs.snapshots.Taken.{all_filled, are_parents_first, has_size, may_name, takes_piece, takes_pieces}
use Rattle.law_snapshots.proofs.snapshots.Files.{Behind, Placed, behind_one, one_placed, placed, put_same}
use Rattle.law_snapshots.proofs.snapshots.Order.{exists_placed, here_in, later_in}
use Rattle.law_snapshots.proofs.taking.Names.{find_placed, find_pushed, may_name_same, sizes_placed, sizes_both, sizes_same}
use Rattle.law_snapshots.proofs.taking.Taken.{taken_both}

-- ---- the bytes of a file

longer : (p : Patch) (c : List ℕ) → not (is_empty p.bytes) ≡ true → (length c ≤ length (written p.at p.bytes c))
    × (p.at + length p.bytes ≤ length (written p.at p.bytes c))
longer p c f =
    let e : length (written p.at p.bytes c) ≡ max (length c) (p.at + length p.bytes) =
    length-written p.at p.bytes c (not_true (is_empty p.bytes) f) in
    (grind arith, grind arith)

patched_longer : (ps : List Patch) (c : List ℕ) → all_filled ps ≡ true → length c ≤ length (patched ps c)
unfolding patched all_filled
patched_longer [] c f = omega arith
patched_longer (p ∷ ps) c f =
    let one = (longer p c (front_of (not (is_empty p.bytes)) (all_filled ps) f)).0 in
    let more = patched_longer ps (written p.at p.bytes c) (back_of (not (is_empty p.bytes)) (all_filled ps) f) in
    omega (arith, one, more)

-- each stands within the file, since all of them leave its length
bytes_taken : (t : Server) (f : ℕ) (ps : List Patch) (c : List ℕ) → exists_in t.entries f ≡ true → t.content f ≡ c → all_filled ps ≡ true
    → length (patched ps c) ≤ length c → takes_pieces t (bytes_pieces f ps) ≡ true
unfolding takes_pieces bytes_pieces patched all_filled
bytes_taken t f [] c there is filled l = refl
bytes_taken t f (p ∷ ps) c there is filled l =
    let some : not (is_empty p.bytes) ≡ true = front_of (not (is_empty p.bytes)) (all_filled ps) filled in
    let rest : all_filled ps ≡ true = back_of (not (is_empty p.bytes)) (all_filled ps) filled in
    let d : List ℕ = written p.at p.bytes c in
    let one = longer p c some in
    let more : length d ≤ length (patched ps d) = patched_longer ps d rest in
    let within : p.at + length p.bytes ≤ length c = omega (arith, one.1, more, l) in
    let fits : nat_le (p.at + length p.bytes) (length c) ≡ true = grind (arith, nat_tests) in
    let takes : takes_piece t (BytesPiece f p.at p.bytes) ≡ true =
    both (exists_in t.entries f) _ there (both (not (is_empty p.bytes)) _ some
    (ap (λ (x : List ℕ). nat_le (p.at + length p.bytes) (length x)) is ∙ fits)) in
    let u : Server = with_piece t (BytesPiece f p.at p.bytes) in
    let made = on_there t f p there in
    both (takes_piece t (BytesPiece f p.at p.bytes)) (takes_pieces u (bytes_pieces f ps)) takes
    (bytes_taken u f ps d (ap (λ (x : Server). exists_in x.entries f) made ∙ there)
    (ap (λ (x : Server). x.content f) made ∙ put_same t.content f (written p.at p.bytes (t.content f)) ∙ ap (λ (x : List ℕ). written p.at p.bytes x) is)
    rest (omega (arith, one.0, l)))
  where
    on_there : (t : Server) (f : ℕ) (p : Patch) → exists_in t.entries f ≡ true
        → with_piece t (BytesPiece f p.at p.bytes) ≡ record t { content = put t.content f (written p.at p.bytes (t.content f)) }
    on_there t f p there = ap (λ (b : Bool). if b then record t { content = put t.content f (written p.at p.bytes (t.content f)) } else t) there

-- ---- file by file

-- t has the files of this list: found by the same names, of the same kinds and lengths
pub record Has (s t : Server) (before : List Entry) : Type 0 where
  pub found : (p : List ℕ) → find_in t.entries p ≡ find_in before p
  pub there : (f : ℕ) → exists_in t.entries f ≡ exists_in before f
  pub directory : (f : ℕ) → exists_in before f ≡ true → t.directory f ≡ s.directory f
  pub lengths : sizes t.content t.entries ≡ sizes s.content before

-- nothing has the name of a file that may be placed
free_name : (s : Server) (before : List Entry) (e : Entry) → may_name (record s { entries = before }) e.path ≡ true → find_in before e.path ≡ None
unfolding may_name find
free_name s before e h = by e.path (none_of (find (record s { entries = before }) e.path)
    (not_true (is_some (find (record s { entries = before }) e.path)) (front_of (not (is_some (find (record s { entries = before }) e.path))) _
    (back_of _ _ h))))
  where
    by : (p : List ℕ) → find (record s { entries = before }) p ≡ None → find_in before p ≡ None
    by [] e = absurd (cc)
    by (c ∷ cs) e = e

-- its piece is taken, and its bytes are
one_taken : (s : Server) (stored : ℕ → List ℕ) (t : Server) (held : ℕ → FileBytes) (before : List Entry) (e : Entry) (es : List Entry)
    → Behind s stored t held (e ∷ es) → Has s t before → may_name (record s { entries = before }) e.path ≡ true
    → sizes s.content before + length (s.content e.file) < 0x1_0000_0000_0000_0000 → (held e.file).stored ≡ 0
    → all_filled (held e.file).patches ≡ true
    → (takes_piece t (file_piece s (held e.file).stored e) ≡ true)
    × (takes_pieces (with_piece t (file_piece s (held e.file).stored e)) (bytes_pieces e.file (held e.file).patches) ≡ true)
unfolding has_size used
one_taken s stored t held before e es b has named room none filled =
    let f : ℕ = e.file in
    let size : ℕ = length (s.content f) in
    let count : ℕ = (held f).stored in
    let may : may_place t f ≡ true = placed s stored t held e es b in
    let name : may_name t e.path ≡ true = may_name_same (record s { entries = before }) t e.path has.found has.directory ∙ named in
    let sum : nat_lt (sizes t.content t.entries + size) 0x1_0000_0000_0000_0000 ≡ true =
    let l = has.lengths in grind (arith, nat_tests) in
    let nothing : (count == 0) ≡ true = grind arith in
    let u : Server = place_file t f e.path (s.directory f) (s.delete_pending f) (s.basic f) size count in
    let made : with_piece t (file_piece s count e) ≡ u = ap (λ (k : Bool). if k then u else t) may in
    let there : exists_in u.entries f ≡ true = exists_placed e t.entries f ∙ own (exists_in t.entries f) f in
    let begins : u.content f ≡ ended size (take count (stored f)) =
    put_same t.content f (ended size (take count (t.stored f))) ∙ ap (λ (w : ℕ → List ℕ). ended size (take count (w f))) b.beside in
    let long : length (ended size (take count (stored f))) ≡ size = length-ended size (take count (stored f)) in
    let whole = b.told f (here_in e es) in
    let bytes : takes_pieces u (bytes_pieces f (held f).patches) ≡ true =
    bytes_taken u f (held f).patches (ended size (take count (stored f))) there begins filled
    (no_more (length (patched (held f).patches (ended size (take count (stored f))))) (length (ended size (take count (stored f))))
    (ap (λ (c : List ℕ). length c) whole ∙ sym long)) in (
      both (may_place t f) _ may (both (may_name t e.path) _ name (both (has_size t size) _ sum nothing)),
      ap (λ (x : Server). takes_pieces x (bytes_pieces f (held f).patches)) made ∙ bytes,
    )
  where
    own : (b : Bool) (f : ℕ) → (if f == f then true else b) ≡ true
    own b f = let e : (f == f) ≡ true = grind arith in ap (λ (k : Bool). if k then true else b) e

    no_more : (n m : ℕ) → n ≡ m → n ≤ m
    no_more n m e = omega (arith, e)

has_more : (s t u : Server) (before : List Entry) (e : Entry) → Placed s t u e → Has s t before → exists_in t.entries e.file ≡ false
    → find_in before e.path ≡ None → Has s u (before ++ e ∷ [])
unfolding sizes
has_more s t u before e one has new free =
    let free_there : find_in t.entries e.path ≡ None = has.found e.path ∙ free in
    record {
      found = λ p. ap (λ (v : List Entry). find_in v p) one.entries ∙ find_placed e t.entries p free_there
          ∙ ap (λ (v : Option ℕ). if same_name e.path p then Some e.file else v) (has.found p)
          ∙ sym (find_pushed e before p free);
      there = λ f. ap (λ (v : List Entry). exists_in v f) one.entries ∙ exists_placed e t.entries f
          ∙ ap (λ (b : Bool). if e.file == f then true else b) (has.there f) ∙ turned (e.file == f) (exists_in before f)
          ∙ sym (exists-pushed before e f);
      directory = λ f h. kind f (e.file == f) refl (sym (exists-pushed before e f) ∙ h);
      lengths = ap (λ (v : List Entry). sizes u.content v) one.entries ∙ sizes_placed u.content e t.entries
          ∙ ap (λ (c : List ℕ). length c + sizes u.content t.entries) one.here.content
          ∙ ap (λ (n : ℕ). length (s.content e.file) + n) (sizes_same u.content t.content t.entries (λ f h. (one.other f (apart f h)).content) ∙ has.lengths)
          ∙ last ∙ sym (sizes_both s.content before (e ∷ []));
    }
  where
    turned : (a b : Bool) → (if a then true else b) ≡ (b || a)
    turned true true = refl
    turned true false = refl
    turned false true = refl
    turned false false = refl

    apart : (f : ℕ) → exists_in t.entries f ≡ true → (f == e.file) ≡ false
    apart f h = by (f == e.file) refl
      where
        by : (k : Bool) → (f == e.file) ≡ k → k ≡ false
        by true q = absurd (let z : exists_in t.entries f ≡ false = subst (λ (g : ℕ). exists_in t.entries g ≡ false) (sym (eqb-true f e.file q)) new in cc)
        by false q = refl

    kind : (f : ℕ) (k : Bool) → (e.file == f) ≡ k → (exists_in before f || k) ≡ true → u.directory f ≡ s.directory f
    kind f true q h = subst (λ (g : ℕ). u.directory g ≡ s.directory g) (eqb-true e.file f q) one.here.directory
    kind f false q h =
        let was : exists_in before f ≡ true = grind arith in
        (one.other f (apart f (has.there f ∙ was))).directory ∙ has.directory f was

    last : length (s.content e.file) + sizes s.content before ≡ sizes s.content before + sizes s.content (e ∷ [])
    last = omega arith

less_sum : (a b c n : ℕ) → a + (b + c) < n → a + b < n
less_sum a b c n h = omega (arith, h)

-- all of them
pub files_taken : (s : Server) (stored : ℕ → List ℕ) (t : Server) (held : ℕ → FileBytes) (before es : List Entry) → Behind s stored t held es
    → Has s t before → are_parents_first s before es ≡ true → sizes s.content before + sizes s.content es < 0x1_0000_0000_0000_0000
    → ((f : ℕ) → exists_in es f ≡ true → ((held f).stored ≡ 0) × (all_filled (held f).patches ≡ true))
    → takes_pieces t (file_pieces s held es) ≡ true
unfolding takes_pieces file_pieces are_parents_first sizes
files_taken s stored t held before [] b has parents room told = refl
files_taken s stored t held before (e ∷ es) b has parents room told =
    let named : may_name (record s { entries = before }) e.path ≡ true = front_of (may_name (record s { entries = before }) e.path) _ parents in
    let next : are_parents_first s (before ++ e ∷ []) es ≡ true = back_of (may_name (record s { entries = before }) e.path) _ parents in
    let own = told e.file (here_in e es) in
    let v : Server = with_piece t (file_piece s (held e.file).stored e) in
    let u : Server = with_pieces v (bytes_pieces e.file (held e.file).patches) in
    let one : Placed s t u e = one_placed s stored t held e es b in
    let taken = one_taken s stored t held before e es b has named
    (less_sum (sizes s.content before) (length (s.content e.file)) (sizes s.content es) 0x1_0000_0000_0000_0000 room) own.0 own.1 in
    let sum : sizes s.content (before ++ e ∷ []) + sizes s.content es < 0x1_0000_0000_0000_0000 =
    let k = sizes_both s.content before (e ∷ []) in omega (arith, k, room) in
    let more : takes_pieces u (file_pieces s held es) ≡ true =
    files_taken s stored u held (before ++ e ∷ []) es (behind_one s stored t u held e es b one)
    (has_more s t u before e one has (b.free e.file (here_in e es)) (free_name s before e named)) next sum (λ f h. told f (later_in e es f h)) in
    both (takes_piece t (file_piece s (held e.file).stored e)) _ taken.0
    (taken_both v (bytes_pieces e.file (held e.file).patches) (file_pieces s held es)
    ∙ both (takes_pieces v (bytes_pieces e.file (held e.file).patches)) _ taken.1 more)
