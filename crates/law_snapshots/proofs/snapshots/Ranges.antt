-- The ranges and the guids of a snapshot.
use Rattle.std.proofs.Common.{◌≡◌, ℕ, ◌+◌, ◌==◌, Bool, true, false, ◌||◌, if◌then◌else◌, List, [], ◌∷◌, ◌++◌, length}
use Rattle.std.proofs.Common.{Some, suc, slice_get, refl, sym, ap, subst, ◌∙◌, arith, eqb-true}
use Rattle.std.proofs.lemmas.Bool.Decides.{nat_tests}
use Rattle.std.proofs.lemmas.List.{append-nil, append_assoc}
use Rattle.spec_exchange.specs.Table.{put2}
use Rattle.spec_exchange.specs.State.{Server, Entry, Range}
use Rattle.spec_exchange.specs.Files.{exists, exists_in}
use Rattle.spec_exchange.specs.Fold.{stays, ranges_that_stay}
use Rattle.law_server.specs.tables.Fits.{Fits}
use Rattle.law_records.specs.fold.Order.{numbers}
use Rattle.law_snapshots.specs.snapshots.Pieces.{RangePiece, GuidPiece, with_piece, with_pieces, push_range, range_pieces, all_range_pieces, guid_pieces}
use Rattle.law_snapshots.specs.snapshots.Kept.{has_pair, are_distinct}
use Rattle.law_snapshots.proofs.snapshots.Files.{behind_both, put_same, put_other}
use Rattle.law_snapshots.proofs.snapshots.Order.{once_first, once_rest}

-- ---- the ranges of one file

-- each is of an open of this file
abbrev pub AllOwned : (ℕ → Bool) → (ℕ → ℕ) → ℕ → List Range → Type 0
AllOwned standing file f [] = Unit {0}
AllOwned standing file f (r ∷ rs) = (standing r.owner ≡ true) × (file r.owner ≡ f) × AllOwned standing file f rs

abbrev pub file_in : Server → ℕ → ℕ
file_in t o = (t.opened o).file

pub record Ranged (t u : Server) (f : ℕ) (rs : List Range) : Type 0 where
  pub is : u ≡ record t { ranges = u.ranges }
  pub here : u.ranges f ≡ t.ranges f ++ rs
  pub other : (g : ℕ) → (g == f) ≡ false → u.ranges g ≡ t.ranges g

pub ranged : (t : Server) (f : ℕ) (rs : List Range) → AllOwned t.standing (file_in t) f rs → Ranged t (with_pieces t (range_pieces rs)) f rs
unfolding with_pieces range_pieces
ranged t f [] h = record { is = refl; here = sym (append-nil (t.ranges f)); other = λ g e. refl }
ranged t f (r ∷ rs) h =
    let u : Server = push_range t f r in
    let made : with_piece t (RangePiece r) ≡ u =
    ap (λ (b : Bool). if b then push_range t (file_in t r.owner) r else t) h.0 ∙ ap (λ (g : ℕ). push_range t g r) h.1 in
    let more : Ranged u (with_pieces u (range_pieces rs)) f rs = ranged u f rs h.2 in
    subst (λ (x : Server). Ranged t (with_pieces x (range_pieces rs)) f (r ∷ rs)) (sym made) (record {
      is = more.is;
      here = more.here ∙ ap (λ (v : List Range). v ++ rs) (put_same t.ranges f (t.ranges f ++ r ∷ [])) ∙ append_assoc (t.ranges f) (r ∷ []) rs;
      other = λ g e. more.other g e ∙ put_other t.ranges f g (t.ranges f ++ r ∷ []) e;
    })

-- the ranges of a state that stay are so
pub stay_owned : (s t : Server) (f : ℕ) (rs : List Range)
    → ((n : ℕ) (r : Range) → slice_get rs n ≡ Some r → s.standing r.owner ≡ true × (s.opened r.owner).file ≡ f)
    → ((o : ℕ) → stays s o ≡ true → (t.standing o ≡ true) × (file_in t o ≡ (s.opened o).file))
    → AllOwned t.standing (file_in t) f (ranges_that_stay s rs)
unfolding ranges_that_stay
stay_owned s t f [] h w = tt
stay_owned s t f (r ∷ rs) h w = by (stays s r.owner) refl (stay_owned s t f rs (λ n x e. h (suc n) x e) w)
  where
    by : (k : Bool) → stays s r.owner ≡ k → AllOwned t.standing (file_in t) f (ranges_that_stay s rs)
        → AllOwned t.standing (file_in t) f (if k then r ∷ ranges_that_stay s rs else ranges_that_stay s rs)
    by true e rest = ((w r.owner e).0, (w r.owner e).1 ∙ (h 0 r refl).1, rest)
    by false e rest = rest

-- ---- those of all files

pub record AllRanged (s t u : Server) (es : List Entry) : Type 0 where
  pub is : u ≡ record t { ranges = u.ranges }
  pub here : (f : ℕ) → exists_in es f ≡ true → u.ranges f ≡ t.ranges f ++ ranges_that_stay s (s.ranges f)
  pub other : (f : ℕ) → exists_in es f ≡ false → u.ranges f ≡ t.ranges f

pub all_ranged : (s t : Server) (es : List Entry) → Fits s → are_distinct (numbers es) ≡ true
    → ((o : ℕ) → stays s o ≡ true → (t.standing o ≡ true) × (file_in t o ≡ (s.opened o).file))
    → AllRanged s t (with_pieces t (all_range_pieces s es)) es
unfolding with_pieces all_range_pieces exists_in
all_ranged s t [] i a w = record { is = refl; here = λ f h. absurd (cc); other = λ f h. refl }
all_ranged s t (e ∷ es) i a w =
    let rs : List Range = ranges_that_stay s (s.ranges e.file) in
    let u : Server = with_pieces t (range_pieces rs) in
    let one : Ranged t u e.file rs = ranged t e.file rs (stay_owned s t e.file (s.ranges e.file) (i.range_owners e.file) w) in
    let kept : (o : ℕ) → stays s o ≡ true → (u.standing o ≡ true) × (file_in u o ≡ (s.opened o).file) = λ o h.
    (ap (λ (x : Server). x.standing o) one.is ∙ (w o h).0, ap (λ (x : Server). file_in x o) one.is ∙ (w o h).1) in
    let more : AllRanged s u (with_pieces u (all_range_pieces s es)) es = all_ranged s u es i (once_rest e es a) kept in
    let d : Server = with_pieces u (all_range_pieces s es) in
    subst (λ (x : Server). AllRanged s t x (e ∷ es)) (sym (behind_both t (range_pieces rs) (all_range_pieces s es))) (record {
      is = more.is ∙ ap (λ (x : Server). record x { ranges = d.ranges }) one.is;
      here = λ f h. at_one u d one.here one.other more.here more.other f h (e.file == f) refl;
      other = λ f h. at_none u d one.other more.other f h (e.file == f) refl;
    })
  where
    at_one : (u d : Server) → u.ranges e.file ≡ t.ranges e.file ++ ranges_that_stay s (s.ranges e.file)
        → ((g : ℕ) → (g == e.file) ≡ false → u.ranges g ≡ t.ranges g)
        → ((f : ℕ) → exists_in es f ≡ true → d.ranges f ≡ u.ranges f ++ ranges_that_stay s (s.ranges f))
        → ((f : ℕ) → exists_in es f ≡ false → d.ranges f ≡ u.ranges f)
        → (f : ℕ) → (if e.file == f then true else exists_in es f) ≡ true → (k : Bool) → (e.file == f) ≡ k
        → d.ranges f ≡ t.ranges f ++ ranges_that_stay s (s.ranges f)
    at_one u d first off there later f h true q =
        subst (λ (g : ℕ). d.ranges g ≡ t.ranges g ++ ranges_that_stay s (s.ranges g)) (eqb-true e.file f q)
        (later e.file (once_first e es a) ∙ first)
    at_one u d first off there later f h false q =
        let o : (f == e.file) ≡ false = grind (arith, nat_tests) in
        there f (subst (λ (b : Bool). (if b then true else exists_in es f) ≡ true) q h)
        ∙ ap (λ (v : List Range). v ++ ranges_that_stay s (s.ranges f)) (off f o)

    at_none : (u d : Server) → ((g : ℕ) → (g == e.file) ≡ false → u.ranges g ≡ t.ranges g)
        → ((f : ℕ) → exists_in es f ≡ false → d.ranges f ≡ u.ranges f) → (f : ℕ)
        → (if e.file == f then true else exists_in es f) ≡ false → (k : Bool) → (e.file == f) ≡ k → d.ranges f ≡ t.ranges f
    at_none u d off later f h true q = absurd (let z = subst (λ (b : Bool). (if b then true else exists_in es f) ≡ false) q h in cc)
    at_none u d off later f h false q =
        let o : (f == e.file) ≡ false = grind (arith, nat_tests) in
        later f (subst (λ (b : Bool). (if b then true else exists_in es f) ≡ false) q h) ∙ off f o

-- a file that isn't there has none
pub no_ranges : (s : Server) (f : ℕ) → Fits s → exists s f ≡ false → s.ranges f ≡ []
no_ranges s f i h = none (s.ranges f) (λ r e.
    let own = i.range_owners f 0 r e in
    let there : exists s f ≡ true = subst (λ (g : ℕ). exists s g ≡ true) own.1 (i.open_files r.owner own.0) in
    cc)
  where
    none : (rs : List Range) → ((r : Range) → slice_get rs 0 ≡ Some r → ⊥) → rs ≡ []
    none [] g = refl
    none (r ∷ rs) g = absurd (g r refl)

-- ---- guids of expired opens

pub record Expired (t u : Server) (gs : List (ℕ × ℕ)) : Type 0 where
  pub is : u ≡ record t { expired_guids = u.expired_guids; expired_count = u.expired_count }
  pub each : (c g : ℕ) → u.expired_guids c g ≡ (has_pair c g gs || t.expired_guids c g)
  pub count : u.expired_count ≡ t.expired_count + length gs

pub expired : (t : Server) (gs : List (ℕ × ℕ)) → Expired t (with_pieces t (guid_pieces gs)) gs
unfolding with_pieces guid_pieces has_pair
expired t [] = record { is = refl; each = λ c g. refl; count = omega arith }
expired t (p ∷ gs) =
    let u : Server = with_piece t (GuidPiece p.0 p.1) in
    let d : Server = with_pieces u (guid_pieces gs) in
    let more : Expired u d gs = expired u gs in
    record {
      is = more.is;
      each = λ c g. more.each c g ∙ at c g (has_pair c g gs) (p.0 == c) refl (p.1 == g) refl;
      count = more.count ∙ omega arith;
    }
  where
    at : (c g : ℕ) (x : Bool) (k : Bool) → (p.0 == c) ≡ k → (m : Bool) → (p.1 == g) ≡ m
        → (x || put2 t.expired_guids p.0 p.1 true c g) ≡ ((if k then (if m then true else x) else x) || t.expired_guids c g)
    at c g x k e m f = grind (arith, nat_tests)
