-- Opens, slots, ranges and guids of a snapshot are taken.
use Rattle.std.proofs.Common.{◌≡◌, ℕ, ◌+◌, ◌<◌, ◌≤◌, ◌==◌, nat_le, nat_lt, Bool, true, false, not, ◌&&◌, ◌||◌, if◌then◌else◌, List, [], ◌∷◌, ◌++◌}
use Rattle.std.proofs.Common.{length, Option, Some, None, zero, suc, refl, sym, ap, subst, ◌∙◌, arith, eqb-true}
use Rattle.std.proofs.lemmas.Bool.Decides.{nat_tests}
use Rattle.spec_exchange.specs.Table.{has}
use Rattle.spec_exchange.specs.CheckOpen.{is_slot}
use Rattle.spec_exchange.specs.Effects.{keep_slot}
use Rattle.spec_exchange.specs.State.{Server, Entry, Kept, Range}
use Rattle.spec_exchange.specs.Fold.{stays, ranges_that_stay}
use Rattle.spec_exchange.specs.Opens.{add_open, id_of}
use Rattle.law_server.specs.tables.Fits.{Fits, is_ascending}
use Rattle.law_server.proofs.tables.Logic.{either, front_of, back_of, both, not_true}
use Rattle.law_records.proofs.fold.Numbers.{above, ascending_above, ascending_rest}
use Rattle.law_snapshots.specs.snapshots.Pieces.{GuidPiece, OpenPiece, RangePiece, SlotPiece, SnapshotPiece, may_stand, push_range, with_piece, with_pieces}
use Rattle.law_snapshots.specs.snapshots.Pieces.{slot_piece, slot_pieces, open_pieces, range_pieces, all_range_pieces, guid_pieces}
use Rattle.law_snapshots.specs.snapshots.Taken.{are_pairs_distinct, takes_piece, takes_pieces}
use Rattle.law_snapshots.specs.snapshots.Kept.{has_pair}
use Rattle.law_snapshots.proofs.snapshots.Files.{put_same}
use Rattle.law_snapshots.proofs.snapshots.Opens.{Opened, able_stand, has_pushed, opened_one}
use Rattle.law_snapshots.proofs.taking.Taken.{taken_both}

-- ---- slots

-- no slot, range or guid makes an open leave
slot_stands : (t : Server) (o p index number status : ℕ) → t.standing o ≡ true → (with_piece t (SlotPiece p index number status)).standing o ≡ true
slot_stands t o p index number status h =
    either (λ x. x.standing o ≡ true) (t.standing p) (keep_slot t p index number status) t
    (λ _. either (λ x. x.standing o ≡ true) (is_slot index) _ t (λ _. h) (λ _. h)) (λ _. h)

slots_taken : (t : Server) (slots : ℕ → Option Kept) (o n : ℕ) → t.standing o ≡ true → n ≤ 64 → takes_pieces t (slot_pieces slots o n) ≡ true
unfolding takes_pieces slot_pieces slot_piece
slots_taken t slots o zero st l = refl
slots_taken t slots o (suc n) st l = by (slots (suc n)) (slots_taken t slots o n st (omega (arith, l)))
    (λ number status. slots_taken (with_piece t (SlotPiece o (suc n) number status)) slots o n (slot_stands t o o (suc n) number status st) (omega (arith, l)))
  where
    ok : is_slot (suc n) ≡ true
    ok = grind (arith, nat_tests)

    by : (k : Option Kept) → takes_pieces t (slot_pieces slots o n) ≡ true
        → ((number status : ℕ) → takes_pieces (with_piece t (SlotPiece o (suc n) number status)) (slot_pieces slots o n) ≡ true)
        → takes_pieces t (slot_piece o (suc n) k ++ slot_pieces slots o n) ≡ true
    by None none some = none
    by (Some k) none some =
        both (t.standing o && is_slot (suc n)) _ (both (t.standing o) (is_slot (suc n)) st ok) (some k.number k.status)

-- ---- opens

pub opens_taken : (s b t : Server) (done os : List ℕ) → Opened s b t done → Fits s → b.entries ≡ s.entries → b.epoch ≡ s.epoch
    → b.open_ids_given ≡ s.open_ids_given → ((o : ℕ) → has o os ≡ true → stays s o ≡ true) → is_ascending os ≡ true
    → ((p : ℕ) → has p done ≡ true → above p os ≡ true) → takes_pieces t (open_pieces s os) ≡ true
unfolding takes_pieces open_pieces
opens_taken s b t done [] w i es ep gi st a below = refl
opens_taken s b t done (o ∷ os) w i es ep gi st a below =
    let lower : (p : ℕ) → has p done ≡ true → p < o = λ p h.
    let l = front_of (nat_lt p o) (above p os) (below p h) in grind (arith, nat_tests) in
    let free : has o done ≡ false = not_has (has o done) (λ h. let l = lower o h in omega (arith, l)) in
    let stay : stays s o ≡ true = st o (here_has o os) in
    let able : may_stand t o (s.opened o) ≡ true = able_stand s b t done o w i es stay free in
    let epoch : t.epoch ≡ s.epoch = ap (λ (x : Server). x.epoch) w.is ∙ ep in
    let given : t.open_ids_given ≡ s.open_ids_given = ap (λ (x : Server). x.open_ids_given) w.is ∙ gi in
    let last : o ≤ id_of s.epoch s.open_ids_given = (i.open_ids o (front_of (s.standing o) (s.opened o).persistent stay)).1 in
    let id : nat_le o (id_of t.epoch t.open_ids_given) ≡ true =
    ap (λ (n : ℕ). nat_le o (id_of n t.open_ids_given)) epoch ∙ ap (λ (n : ℕ). nat_le o (id_of s.epoch n)) given ∙ at_most o (id_of s.epoch s.open_ids_given) last in
    let v : Server = with_piece t (OpenPiece o (s.opened o)) in
    let u : Server = with_pieces v (slot_pieces (s.lock_sequences o) o 64) in
    let made : v ≡ add_open t o (s.opened o) None 0 = ap (λ (k : Bool). if k then add_open t o (s.opened o) None 0 else t) able in
    let stands : v.standing o ≡ true = ap (λ (x : Server). x.standing o) made ∙ put_same t.standing o true in
    let one : Opened s b u (done ++ o ∷ []) = opened_one s b t done o w i es stay free lower in
    let more : takes_pieces u (open_pieces s os) ≡ true =
    opens_taken s b u (done ++ o ∷ []) os one i es ep gi (λ p h. st p (later_has o os p h)) (ascending_rest o os a)
    (λ p h. over p h (has p done) refl) in
    both (takes_piece t (OpenPiece o (s.opened o))) _ (both (may_stand t o (s.opened o)) _ able id)
    (taken_both v (slot_pieces (s.lock_sequences o) o 64) (open_pieces s os)
    ∙ both (takes_pieces v (slot_pieces (s.lock_sequences o) o 64)) _ (slots_taken v (s.lock_sequences o) o 64 stands (omega arith)) more)
  where
    at_most : (n m : ℕ) → n ≤ m → nat_le n m ≡ true
    at_most n m l = grind (arith, nat_tests)

    not_has : (k : Bool) → (k ≡ true → ⊥) → k ≡ false
    not_has true h = absurd (h refl)
    not_has false h = refl

    here_has : (x : ℕ) (xs : List ℕ) → has x (x ∷ xs) ≡ true
    here_has x xs = let e : (x == x) ≡ true = grind arith in rw e refl

    later_has : (x : ℕ) (xs : List ℕ) (p : ℕ) → has p xs ≡ true → has p (x ∷ xs) ≡ true
    later_has x xs p h = by (x == p)
      where
        by : (b : Bool) → (if b then true else has p xs) ≡ true
        by true = refl
        by false = h

    over : (p : ℕ) → has p (done ++ o ∷ []) ≡ true → (k : Bool) → has p done ≡ k → above p os ≡ true
    over p h true e = back_of (nat_lt p o) (above p os) (below p e)
    over p h false e =
        let r : (o == p) ≡ true = subst (λ (k : Bool). (k || (o == p)) ≡ true) e (sym (has_pushed p o done) ∙ h) in
        subst (λ (y : ℕ). above y os ≡ true) (eqb-true o p r) (ascending_above o os a)

-- ---- ranges

-- opens that stay stand
abbrev pub Stand : Server → Server → Type 0
Stand s t = (o : ℕ) → stays s o ≡ true → t.standing o ≡ true

range_stands : (s t : Server) (r : Range) → Stand s t → Stand s (with_piece t (RangePiece r))
range_stands s t r h o e = either (λ x. x.standing o ≡ true) (t.standing r.owner) (push_range t (t.opened r.owner).file r) t (λ _. h o e) (λ _. h o e)

pub ranges_taken : (s t : Server) (rs : List Range) → Stand s t
    → (takes_pieces t (range_pieces (ranges_that_stay s rs)) ≡ true) × Stand s (with_pieces t (range_pieces (ranges_that_stay s rs)))
unfolding takes_pieces with_pieces range_pieces ranges_that_stay
ranges_taken s t [] h = (refl, h)
ranges_taken s t (r ∷ rs) h =
    by (stays s r.owner) refl (ranges_taken s t rs h) (ranges_taken s (with_piece t (RangePiece r)) rs (range_stands s t r h))
  where
    by : (k : Bool) → stays s r.owner ≡ k
        → (takes_pieces t (range_pieces (ranges_that_stay s rs)) ≡ true) × Stand s (with_pieces t (range_pieces (ranges_that_stay s rs)))
        → (takes_pieces (with_piece t (RangePiece r)) (range_pieces (ranges_that_stay s rs)) ≡ true)
        × Stand s (with_pieces (with_piece t (RangePiece r)) (range_pieces (ranges_that_stay s rs)))
        → (takes_pieces t (range_pieces (if k then r ∷ ranges_that_stay s rs else ranges_that_stay s rs)) ≡ true)
        × Stand s (with_pieces t (range_pieces (if k then r ∷ ranges_that_stay s rs else ranges_that_stay s rs)))
    by true e rest more = (both (t.standing r.owner) _ (h r.owner e) more.0, more.1)
    by false e rest more = rest

pub all_ranges_taken : (s t : Server) (es : List Entry) → Stand s t → takes_pieces t (all_range_pieces s es) ≡ true
unfolding takes_pieces all_range_pieces
all_ranges_taken s t [] h = refl
all_ranges_taken s t (e ∷ es) h =
    let one = ranges_taken s t (s.ranges e.file) h in
    let ps : List SnapshotPiece = range_pieces (ranges_that_stay s (s.ranges e.file)) in
    taken_both t ps (all_range_pieces s es)
    ∙ both (takes_pieces t ps) _ one.0 (all_ranges_taken s (with_pieces t ps) es one.1)

-- ---- guids

-- none of these expired yet
abbrev pub Unexpired : Server → List (ℕ × ℕ) → Type 0
Unexpired t gs = (c g : ℕ) → has_pair c g gs ≡ true → t.expired_guids c g ≡ false

own_pair : (p : ℕ × ℕ) (ps : List (ℕ × ℕ)) → has_pair p.0 p.1 (p ∷ ps) ≡ true
unfolding has_pair
own_pair p ps = let e : (p.0 == p.0) ≡ true = grind arith in let f : (p.1 == p.1) ≡ true = grind arith in
    ap (λ (b : Bool). if b then (if p.1 == p.1 then true else has_pair p.0 p.1 ps) else has_pair p.0 p.1 ps) e
    ∙ ap (λ (b : Bool). if b then true else has_pair p.0 p.1 ps) f

later_pair : (p : ℕ × ℕ) (ps : List (ℕ × ℕ)) (c g : ℕ) → has_pair c g ps ≡ true → has_pair c g (p ∷ ps) ≡ true
unfolding has_pair
later_pair p ps c g h = by (p.0 == c) (p.1 == g)
  where
    by : (a b : Bool) → (if a then (if b then true else has_pair c g ps) else has_pair c g ps) ≡ true
    by true true = refl
    by true false = h
    by false b = h

-- the others haven't yet behind one of them
still_unexpired : (t : Server) (p : ℕ × ℕ) (ps : List (ℕ × ℕ)) → has_pair p.0 p.1 ps ≡ false → Unexpired t (p ∷ ps)
    → Unexpired (with_piece t (GuidPiece p.0 p.1)) ps
still_unexpired t p ps new h c g k = by (c == p.0) refl (g == p.1) refl
  where
    by : (a : Bool) → (c == p.0) ≡ a → (b : Bool) → (g == p.1) ≡ b
        → (if a then (if b then true else t.expired_guids c g) else t.expired_guids c g) ≡ false
    by true q true r =
        let own : has_pair p.0 p.1 ps ≡ true =
        subst (λ (x : ℕ). has_pair x p.1 ps ≡ true) (eqb-true c p.0 q) (subst (λ (y : ℕ). has_pair c y ps ≡ true) (eqb-true g p.1 r) k) in
        absurd (cc)
    by true q false r = h c g (later_pair p ps c g k)
    by false q b r = h c g (later_pair p ps c g k)

pub guids_taken : (t : Server) (gs : List (ℕ × ℕ)) → 0 < t.epoch → t.expired_count + length gs ≤ 65536 → Unexpired t gs
    → are_pairs_distinct gs ≡ true → takes_pieces t (guid_pieces gs) ≡ true
unfolding takes_pieces guid_pieces are_pairs_distinct
guids_taken t [] e l h d = refl
guids_taken t (g ∷ gs) e l h d =
    let began : nat_lt 0 t.epoch ≡ true = grind (arith, nat_tests) in
    let new : not (t.expired_guids g.0 g.1) ≡ true = ap (λ (b : Bool). not b) (h g.0 g.1 (own_pair g gs)) in
    let few : nat_lt t.expired_count 65536 ≡ true = grind (arith, nat_tests) in
    let apart : has_pair g.0 g.1 gs ≡ false = not_true (has_pair g.0 g.1 gs) (front_of (not (has_pair g.0 g.1 gs)) _ d) in
    both (takes_piece t (GuidPiece g.0 g.1)) _ (both (nat_lt 0 t.epoch) _ began (both (not (t.expired_guids g.0 g.1)) _ new few))
    (guids_taken (with_piece t (GuidPiece g.0 g.1)) gs e (omega (arith, l)) (still_unexpired t g gs apart h)
    (back_of (not (has_pair g.0 g.1 gs)) _ d))
