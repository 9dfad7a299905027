-- The files of a snapshot, piece by piece.
use Rattle.std.proofs.Common.{◌≡◌, ℕ, ◌<◌, ◌==◌, nat_lt, Bool, true, false, not, if◌then◌else◌, List, [], ◌∷◌, ◌++◌, length, take}
use Rattle.std.proofs.Common.{refl, sym, ap, subst, ◌∙◌, arith, eqb-true}
use Rattle.std.proofs.lemmas.Bool.Decides.{nat_tests}
use Rattle.spec_exchange.specs.Table.{put}
use Rattle.spec_exchange.specs.Content.{written, ended}
use Rattle.spec_exchange.specs.State.{Server, Entry}
use Rattle.spec_exchange.specs.Files.{exists_in}
use Rattle.law_server.proofs.tables.Logic.{both}
use Rattle.law_records.specs.fold.Order.{numbers}
use Rattle.law_snapshots.specs.snapshots.Kept.{are_distinct}
use Rattle.law_snapshots.specs.snapshots.Pieces.{SnapshotPiece, FileBytes, Patch, shown, patched, placed_entry, may_place, place_file}
use Rattle.law_snapshots.specs.snapshots.Pieces.{with_piece, with_pieces, bytes_pieces, file_piece, file_pieces}
use Rattle.law_snapshots.proofs.snapshots.Order.{here_in, later_in, exists_placed, once_first, once_rest, absent_rest, placed_all}

pub behind_both : (t : Server) (ps qs : List SnapshotPiece) → with_pieces t (ps ++ qs) ≡ with_pieces (with_pieces t ps) qs
unfolding with_pieces
behind_both t [] qs = refl
behind_both t (p ∷ ps) qs = behind_both (with_piece t p) ps qs

-- ---- tables

pub put_same : {X : Type 0} (c : ℕ → X) (f : ℕ) (x : X) → put c f x f ≡ x
put_same c f x = let e : (f == f) ≡ true = grind arith in ap (λ (b : Bool). if b then x else c f) e

pub put_other : {X : Type 0} (c : ℕ → X) (f g : ℕ) (x : X) → (g == f) ≡ false → put c f x g ≡ c g
put_other c f g x e = ap (λ (b : Bool). if b then x else c g) e

-- ---- the bytes of a file

pub record Filled (t u : Server) (f : ℕ) (bytes : List ℕ) : Type 0 where
  pub is : u ≡ record t { content = u.content }
  pub here : u.content f ≡ bytes
  pub other : (g : ℕ) → (g == f) ≡ false → u.content g ≡ t.content g

pub filled : (t : Server) (f : ℕ) (c : List ℕ) (ps : List Patch) → exists_in t.entries f ≡ true → t.content f ≡ c
    → Filled t (with_pieces t (bytes_pieces f ps)) f (patched ps c)
unfolding with_pieces bytes_pieces patched
filled t f c [] there is = record { is = refl; here = is; other = λ g e. refl }
filled t f c (p ∷ ps) there is =
    let u : Server = record t { content = put t.content f (written p.at p.bytes (t.content f)) } in
    let bytes : u.content f ≡ written p.at p.bytes c =
    put_same t.content f (written p.at p.bytes (t.content f)) ∙ ap (λ (l : List ℕ). written p.at p.bytes l) is in
    let more : Filled u (with_pieces u (bytes_pieces f ps)) f (patched ps (written p.at p.bytes c)) =
    filled u f (written p.at p.bytes c) ps there bytes in
    subst (λ (b : Bool). Filled t (with_pieces (if b then u else t) (bytes_pieces f ps)) f (patched ps (written p.at p.bytes c)))
    (sym there) (record {
      is = more.is;
      here = more.here;
      other = λ g e. more.other g e ∙ put_other t.content f g (written p.at p.bytes (t.content f)) e;
    })

-- ---- the entries

absent : (b : Bool) → (b ≡ true → ⊥) → not b ≡ true
absent true h = absurd (h refl)
absent false h = refl

-- ---- file by file

-- the columns agree at this number
pub record SameAt (s u : Server) (f : ℕ) : Type 0 where
  pub directory : u.directory f ≡ s.directory f
  pub delete_pending : u.delete_pending f ≡ s.delete_pending f
  pub basic : u.basic f ≡ s.basic f
  pub content : u.content f ≡ s.content f

same_behind : (r t u : Server) (f : ℕ) → SameAt r t f → SameAt t u f → SameAt r u f
same_behind r t u f a b = record {
  directory = b.directory ∙ a.directory;
  delete_pending = b.delete_pending ∙ a.delete_pending;
  basic = b.basic ∙ a.basic;
  content = b.content ∙ a.content;
}

-- u is t with these files of s
pub record Walked (s t u : Server) (es : List Entry) : Type 0 where
  pub is : u ≡ record t {
    entries = u.entries;
    directory = u.directory;
    delete_pending = u.delete_pending;
    basic = u.basic;
    content = u.content;
    ranges = u.ranges;
  }
  pub entries : u.entries ≡ placed_all es t.entries
  pub here : (f : ℕ) → exists_in es f ≡ true → SameAt s u f
  pub other : (f : ℕ) → exists_in es f ≡ false → SameAt t u f
  pub unlocked : (f : ℕ) → t.ranges f ≡ [] → u.ranges f ≡ []

-- each number was given, once, and no file has it yet
pub record Behind (s : Server) (stored : ℕ → List ℕ) (t : Server) (held : ℕ → FileBytes) (es : List Entry) : Type 0 where
  pub given : (f : ℕ) → exists_in es f ≡ true → 0 < f × f < t.next_file
  pub once : are_distinct (numbers es) ≡ true
  pub free : (f : ℕ) → exists_in es f ≡ true → exists_in t.entries f ≡ false
  pub told : (f : ℕ) → exists_in es f ≡ true → shown (held f) (length (s.content f)) (stored f) ≡ s.content f
  pub beside : t.stored ≡ stored

-- so that it may be placed
pub placed : (s : Server) (stored : ℕ → List ℕ) (t : Server) (held : ℕ → FileBytes) (e : Entry) (es : List Entry) → Behind s stored t held (e ∷ es) → may_place t e.file ≡ true
unfolding may_place
placed s stored t held e es b =
    let g = b.given e.file (here_in e es) in
    let some : nat_lt 0 e.file ≡ true = let l = g.0 in grind (arith, nat_tests) in
    let next : nat_lt e.file t.next_file ≡ true = let l = g.1 in grind (arith, nat_tests) in
    let free : not (exists_in t.entries e.file) ≡ true = ap (λ (k : Bool). not k) (b.free e.file (here_in e es)) in
    both (nat_lt 0 e.file) _ some (both (nat_lt e.file t.next_file) _ next free)

-- one file
pub record Placed (s t u : Server) (e : Entry) : Type 0 where
  pub is : u ≡ record t {
    entries = u.entries;
    directory = u.directory;
    delete_pending = u.delete_pending;
    basic = u.basic;
    content = u.content;
    ranges = u.ranges;
  }
  pub entries : u.entries ≡ placed_entry e t.entries
  pub here : SameAt s u e.file
  pub other : (f : ℕ) → (f == e.file) ≡ false → SameAt t u f
  pub unlocked : (f : ℕ) → t.ranges f ≡ [] → u.ranges f ≡ []

stay_empty : (t : Server) (e : Entry) (f : ℕ) → t.ranges f ≡ [] → put t.ranges e.file [] f ≡ []
stay_empty t e f h = by (f == e.file)
  where
    by : (b : Bool) → (if b then [] else t.ranges f) ≡ []
    by true = refl
    by false = h

pub one_placed : (s : Server) (stored : ℕ → List ℕ) (t : Server) (held : ℕ → FileBytes) (e : Entry) (es : List Entry) → Behind s stored t held (e ∷ es)
    → Placed s t (with_pieces (with_piece t (file_piece s (held e.file).stored e)) (bytes_pieces e.file (held e.file).patches)) e
one_placed s stored t held e es b =
    let f : ℕ = e.file in
    let size : ℕ = length (s.content f) in
    let count : ℕ = (held f).stored in
    let ps : List Patch = (held f).patches in
    let u : Server = place_file t f e.path (s.directory f) (s.delete_pending f) (s.basic f) size count in
    let there : exists_in u.entries f ≡ true = exists_placed e t.entries f ∙ own (exists_in t.entries f) f in
    let begins : u.content f ≡ ended size (take count (stored f)) =
    put_same t.content f (ended size (take count (t.stored f)))
    ∙ ap (λ (w : ℕ → List ℕ). ended size (take count (w f))) b.beside in
    let w : Filled u (with_pieces u (bytes_pieces f ps)) f (patched ps (ended size (take count (stored f)))) =
    filled u f (ended size (take count (stored f))) ps there begins in
    subst (λ (k : Bool). Placed s t (with_pieces (if k then u else t) (bytes_pieces f ps)) e) (sym (placed s stored t held e es b))
    (record {
      is = subst (λ (x : Server). x ≡ record t {
        entries = x.entries;
        directory = x.directory;
        delete_pending = x.delete_pending;
        basic = x.basic;
        content = x.content;
        ranges = x.ranges;
      }) (sym w.is) refl;
      entries = ap (λ (x : Server). x.entries) w.is;
      here = record {
        directory = ap (λ (x : Server). x.directory f) w.is ∙ put_same t.directory f (s.directory f);
        delete_pending = ap (λ (x : Server). x.delete_pending f) w.is ∙ put_same t.delete_pending f (s.delete_pending f);
        basic = ap (λ (x : Server). x.basic f) w.is ∙ put_same t.basic f (s.basic f);
        content = w.here ∙ b.told f (here_in e es);
      };
      other = λ g o. record {
        directory = ap (λ (x : Server). x.directory g) w.is ∙ put_other t.directory f g (s.directory f) o;
        delete_pending = ap (λ (x : Server). x.delete_pending g) w.is ∙ put_other t.delete_pending f g (s.delete_pending f) o;
        basic = ap (λ (x : Server). x.basic g) w.is ∙ put_other t.basic f g (s.basic f) o;
        content = w.other g o ∙ put_other t.content f g (ended size (take count (t.stored f))) o;
      };
      unlocked = λ g h. ap (λ (x : Server). x.ranges g) w.is ∙ stay_empty t e g h;
    })
  where
    own : (b : Bool) (f : ℕ) → (if f == f then true else b) ≡ true
    own b f = let e : (f == f) ≡ true = grind arith in ap (λ (k : Bool). if k then true else b) e

-- one file and those behind it
joined_walk : (s t u w : Server) (e : Entry) (es : List Entry) → are_distinct (numbers (e ∷ es)) ≡ true → Placed s t u e → Walked s u w es
    → Walked s t w (e ∷ es)
unfolding exists_in placed_all
joined_walk s t u w e es a one more =
    record {
      is = more.is ∙ ap (λ (x : Server). record x {
        entries = w.entries;
        directory = w.directory;
        delete_pending = w.delete_pending;
        basic = w.basic;
        content = w.content;
        ranges = w.ranges;
      }) one.is;
      entries = more.entries ∙ ap (λ (v : List Entry). placed_all es v) one.entries;
      here = λ f h. at_one f (e.file == f) refl h;
      other = λ f h. at_none f (e.file == f) refl h;
      unlocked = λ f h. more.unlocked f (one.unlocked f h);
    }
  where
    at_one : (f : ℕ) (b : Bool) → (e.file == f) ≡ b → exists_in (e ∷ es) f ≡ true → SameAt s w f
    at_one f true q h = subst (λ (g : ℕ). SameAt s w g) (eqb-true e.file f q) (same_behind s u w e.file one.here (more.other e.file (once_first e es a)))
    at_one f false q h = more.here f (subst (λ (b : Bool). (if b then true else exists_in es f) ≡ true) q h)

    at_none : (f : ℕ) (b : Bool) → (e.file == f) ≡ b → exists_in (e ∷ es) f ≡ false → SameAt t w f
    at_none f true q h = absurd (let k = subst (λ (b : Bool). (if b then true else exists_in es f) ≡ false) q h in cc)
    at_none f false q h =
        let o : (f == e.file) ≡ false = grind (arith, nat_tests) in
        same_behind t u w f (one.other f o) (more.other f (subst (λ (b : Bool). (if b then true else exists_in es f) ≡ false) q h))

pub behind_one : (s : Server) (stored : ℕ → List ℕ) (t u : Server) (held : ℕ → FileBytes) (e : Entry) (es : List Entry) → Behind s stored t held (e ∷ es) → Placed s t u e
    → Behind s stored u held es
behind_one s stored t u held e es b one =
    let same : u.next_file ≡ t.next_file = ap (λ (x : Server). x.next_file) one.is in
    record {
      given = λ f h. let g = b.given f (later_in e es f h) in (g.0, subst (λ (k : ℕ). f < k) (sym same) g.1);
      once = once_rest e es b.once;
      free = λ f h. ap (λ (v : List Entry). exists_in v f) one.entries ∙ absent_rest e es t.entries b.once b.free f h;
      told = λ f h. b.told f (later_in e es f h);
      beside = ap (λ (x : Server). x.stored) one.is ∙ b.beside;
    }

-- all of them
pub walked : (s : Server) (stored : ℕ → List ℕ) (t : Server) (held : ℕ → FileBytes) (es : List Entry) → Behind s stored t held es
    → Walked s t (with_pieces t (file_pieces s held es)) es
unfolding with_pieces file_pieces exists_in placed_all
walked s stored t held [] b = record {
  is = refl;
  entries = refl;
  here = λ f h. absurd (none f h);
  other = λ f h. record { directory = refl; delete_pending = refl; basic = refl; content = refl };
  unlocked = λ f h. h;
}
  where
    none : (f : ℕ) → exists_in [] f ≡ true → ⊥
    none f h = absurd (cc)
walked s stored t held (e ∷ es) b =
    let v : Server = with_piece t (file_piece s (held e.file).stored e) in
    let u : Server = with_pieces v (bytes_pieces e.file (held e.file).patches) in
    let one : Placed s t u e = one_placed s stored t held e es b in
    let more : Walked s u (with_pieces u (file_pieces s held es)) es = walked s stored u held es (behind_one s stored t u held e es b one) in
    subst (λ (w : Server). Walked s t w (e ∷ es)) (sym (behind_both v (bytes_pieces e.file (held e.file).patches) (file_pieces s held es)))
    (joined_walk s t u (with_pieces u (file_pieces s held es)) e es b.once one more)
