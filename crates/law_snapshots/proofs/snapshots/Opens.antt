-- The opens of a snapshot, one behind the other, with their slots.
use Rattle.std.proofs.Common.{◌≡◌, ◌≢◌, ℕ, ◌<◌, ◌≤◌, ◌==◌, nat_lt, Bool, true, false, not, ◌&&◌, ◌||◌, if◌then◌else◌, List, [], ◌∷◌, ◌++◌}
use Rattle.std.proofs.Common.{Option, Some, None, zero, suc, is_some, refl, sym, ap, subst, ◌∙◌, arith, eqb-true}
use Rattle.std.proofs.lemmas.Bool.Decides.{nat_tests}
use Rattle.std.proofs.lemmas.List.{append-nil, append_assoc}
use Rattle.spec_exchange.specs.Table.{put2, has, placed_in}
use Rattle.spec_exchange.specs.Commands.{deletes_on_close}
use Rattle.spec_exchange.specs.State.{Server, Entry, Open, Kept}
use Rattle.spec_exchange.specs.Files.{root, exists, exists_in}
use Rattle.spec_exchange.specs.Fold.{persistent_in, stays}
use Rattle.spec_exchange.specs.Opens.{add_open, with_guid}
use Rattle.spec_exchange.specs.Effects.{keep_slot}
use Rattle.spec_exchange.specs.CheckOpen.{is_slot}
use Rattle.law_server.specs.tables.Fits.{Fits, is_ascending}
use Rattle.law_server.proofs.tables.Logic.{front_of, back_of, both}
use Rattle.law_records.proofs.fold.Numbers.{above, ascending_above, ascending_rest, ascending_front}
use Rattle.law_snapshots.specs.snapshots.Pieces.{OpenPiece, SlotPiece, with_piece, with_pieces, may_stand, has_free_guid, slot_piece, slot_pieces, open_pieces}
use Rattle.law_snapshots.proofs.snapshots.Files.{behind_both, put_same, put_other}

-- ---- the slots of one open

pub record Slotted (t u : Server) (o n : ℕ) (slots : ℕ → Option Kept) : Type 0 where
  pub is : u ≡ record t { lock_sequences = u.lock_sequences }
  pub here : (i : ℕ) → 0 < i → i ≤ n → u.lock_sequences o i ≡ slots i
  pub higher : (i : ℕ) → n < i → u.lock_sequences o i ≡ t.lock_sequences o i
  pub other : (p i : ℕ) → (p == o) ≡ false → u.lock_sequences p i ≡ t.lock_sequences p i

put2_same : {X : Type 0} (c : ℕ → ℕ → X) (a b : ℕ) (x : X) → put2 c a b x a b ≡ x
put2_same c a b x =
    let e : (a == a) ≡ true = grind arith in let f : (b == b) ≡ true = grind arith in
    ap (λ (k : Bool). if k then (if b == b then x else c a b) else c a b) e ∙ ap (λ (k : Bool). if k then x else c a b) f

put2_off : {X : Type 0} (c : ℕ → ℕ → X) (a b p q : ℕ) (x : X) → (p == a) ≡ false → put2 c a b x p q ≡ c p q
put2_off c a b p q x e = ap (λ (k : Bool). if k then (if q == b then x else c p q) else c p q) e

put2_beside : {X : Type 0} (c : ℕ → ℕ → X) (a b p q : ℕ) (x : X) → (q == b) ≡ false → put2 c a b x p q ≡ c p q
put2_beside c a b p q x e = by (p == a)
  where
    by : (k : Bool) → (if k then (if q == b then x else c p q) else c p q) ≡ c p q
    by true = ap (λ (k : Bool). if k then x else c p q) e
    by false = refl

one_slot : (t : Server) (o n : ℕ) (k : Option Kept) → t.standing o ≡ true → n < 64 → t.lock_sequences o (suc n) ≡ None
    → (u : Server) × (with_pieces t (slot_piece o (suc n) k) ≡ u) × (u ≡ record t { lock_sequences = u.lock_sequences })
    × (u.lock_sequences o (suc n) ≡ k) × ((i : ℕ) → (i == suc n) ≡ false → u.lock_sequences o i ≡ t.lock_sequences o i)
    × ((p i : ℕ) → (p == o) ≡ false → u.lock_sequences p i ≡ t.lock_sequences p i)
unfolding with_pieces slot_piece
one_slot t o n None st l h = (t, refl, refl, h, (λ i e. refl), (λ p i e. refl))
one_slot t o n (Some k) st l h =
    let ok : is_slot (suc n) ≡ true = grind (arith, nat_tests) in
    let u : Server = record t { lock_sequences = put2 t.lock_sequences o (suc n) (Some k) } in
    let made : with_piece t (SlotPiece o (suc n) k.number k.status) ≡ u =
    ap (λ (b : Bool). if b then keep_slot t o (suc n) k.number k.status else t) st
    ∙ ap (λ (b : Bool). if b then u else t) ok in (
      u,
      made,
      refl,
      put2_same t.lock_sequences o (suc n) (Some k),
      (λ i e. put2_beside t.lock_sequences o (suc n) o i (Some k) e),
      (λ p i e. put2_off t.lock_sequences o (suc n) p i (Some k) e),
    )

pub slotted : (t : Server) (o n : ℕ) (slots : ℕ → Option Kept) → t.standing o ≡ true → n ≤ 64
    → ((i : ℕ) → i ≤ n → t.lock_sequences o i ≡ None) → Slotted t (with_pieces t (slot_pieces slots o n)) o n slots
unfolding with_pieces slot_pieces
slotted t o zero slots st l h = record {
  is = refl;
  here = λ i a b. absurd (grind arith);
  higher = λ i a. refl;
  other = λ p i e. refl;
}
slotted t o (suc n) slots st l h =
    let one = one_slot t o n (slots (suc n)) st (omega (arith, l)) (h (suc n) (omega arith)) in
    let u : Server = one.0 in
    let is : u ≡ record t { lock_sequences = u.lock_sequences } = one.2 in
    let standing : u.standing o ≡ true = ap (λ (x : Server). x.standing o) is ∙ st in
    let more = slotted u o n slots standing (omega (arith, l)) (λ i b.
    let off : (i == suc n) ≡ false = grind (arith, nat_tests) in one.4 i off ∙ h i (omega (arith, b))) in
    let w : Server = with_pieces u (slot_pieces slots o n) in
    let place : with_pieces t (slot_piece o (suc n) (slots (suc n)) ++ slot_pieces slots o n) ≡ w =
    behind_both t (slot_piece o (suc n) (slots (suc n))) (slot_pieces slots o n)
    ∙ ap (λ (x : Server). with_pieces x (slot_pieces slots o n)) one.1 in
    subst (λ (x : Server). Slotted t x o (suc n) slots) (sym place) (record {
      is = more.is ∙ ap (λ (x : Server). record x { lock_sequences = w.lock_sequences }) is;
      here = λ i a b. at_or_below u w one.3 more.here more.higher i a b (i == suc n) refl;
      higher = λ i a.
          let off : (i == suc n) ≡ false = grind (arith, nat_tests) in
          more.higher i (omega (arith, a)) ∙ one.4 i off;
      other = λ p i e. more.other p i e ∙ one.5 p i e;
    })
  where
    at_or_below : (u w : Server) → u.lock_sequences o (suc n) ≡ slots (suc n) → ((i : ℕ) → 0 < i → i ≤ n → w.lock_sequences o i ≡ slots i)
        → ((i : ℕ) → n < i → w.lock_sequences o i ≡ u.lock_sequences o i) → (i : ℕ) → 0 < i → i ≤ suc n → (b : Bool) → (i == suc n) ≡ b
        → w.lock_sequences o i ≡ slots i
    at_or_below u w first low high i a b true e =
        subst (λ (k : ℕ). w.lock_sequences o k ≡ slots k) (sym (eqb-true i (suc n) e)) (high (suc n) (omega arith) ∙ first)
    at_or_below u w first low high i a b false e = low i a (grind (arith, nat_tests))

-- ---- the list of opens

-- the persistent ones of a list
pub has_persistent : (opened : ℕ → Open) (p : ℕ) (os : List ℕ) → has p (persistent_in opened os) ≡ (has p os && (opened p).persistent)
unfolding persistent_in
has_persistent opened p [] = refl
has_persistent opened p (x ∷ xs) = by (x == p) refl (opened x).persistent refl (has_persistent opened p xs)
  where
    by : (b : Bool) → (x == p) ≡ b → (k : Bool) → (opened x).persistent ≡ k
        → has p (persistent_in opened xs) ≡ (has p xs && (opened p).persistent)
        → has p (if k then x ∷ persistent_in opened xs else persistent_in opened xs) ≡ ((if b then true else has p xs) && (opened p).persistent)
    by true e true q h =
        ap (λ (c : Bool). if c then true else has p (persistent_in opened xs)) e
        ∙ sym (subst (λ (y : ℕ). (opened y).persistent ≡ true) (eqb-true x p e) q)
    by true e false q h =
        let own : (opened p).persistent ≡ false = subst (λ (y : ℕ). (opened y).persistent ≡ false) (eqb-true x p e) q in
        grind arith
    by false e true q h = ap (λ (c : Bool). if c then true else has p (persistent_in opened xs)) e ∙ h
    by false e false q h = h

above_persistent : (opened : ℕ → Open) (n : ℕ) (os : List ℕ) → above n os ≡ true → above n (persistent_in opened os) ≡ true
unfolding persistent_in
above_persistent opened n [] h = refl
above_persistent opened n (x ∷ xs) h = by (opened x).persistent (above_persistent opened n xs (back_of (nat_lt n x) (above n xs) h))
  where
    by : (k : Bool) → above n (persistent_in opened xs) ≡ true
        → above n (if k then x ∷ persistent_in opened xs else persistent_in opened xs) ≡ true
    by true r = both (nat_lt n x) (above n (persistent_in opened xs)) (front_of (nat_lt n x) (above n xs) h) r
    by false r = r

pub ascending_persistent : (opened : ℕ → Open) (os : List ℕ) → is_ascending os ≡ true → is_ascending (persistent_in opened os) ≡ true
unfolding persistent_in is_ascending
ascending_persistent opened [] h = refl
ascending_persistent opened (x ∷ xs) h = by (opened x).persistent (ascending_persistent opened xs (ascending_rest x xs h))
  where
    by : (k : Bool) → is_ascending (persistent_in opened xs) ≡ true
        → is_ascending (if k then x ∷ persistent_in opened xs else persistent_in opened xs) ≡ true
    by true r = ascending_front x (persistent_in opened xs) (above_persistent opened x xs (ascending_above x xs h)) r
    by false r = r

pub has_pushed : (p n : ℕ) (xs : List ℕ) → has p (xs ++ n ∷ []) ≡ (has p xs || (n == p))
has_pushed p n [] = grind arith
has_pushed p n (x ∷ xs) = let old = has_pushed p n xs in grind arith

here_has : (x : ℕ) (xs : List ℕ) → has x (x ∷ xs) ≡ true
here_has x xs = let e : (x == x) ≡ true = grind arith in rw e refl

later_has : (x : ℕ) (xs : List ℕ) (p : ℕ) → has p xs ≡ true → has p (x ∷ xs) ≡ true
later_has x xs p h = by (x == p)
  where
    by : (b : Bool) → (if b then true else has p xs) ≡ true
    by true = refl
    by false = h

pub placed_end : (n : ℕ) (xs : List ℕ) → ((p : ℕ) → has p xs ≡ true → p < n) → placed_in n xs ≡ xs ++ n ∷ []
placed_end n [] h = refl
placed_end n (x ∷ xs) h =
    let l : x < n = h x (here_has x xs) in
    let off : nat_lt n x ≡ false = grind (arith, nat_tests) in
    ap (λ (b : Bool). if b then n ∷ x ∷ xs else x ∷ placed_in n xs) off
    ∙ ap (λ (v : List ℕ). x ∷ v) (placed_end n xs (λ p i. h p (later_has x xs p i)))

-- ---- opens, one behind the other

-- the open where it is among these
abbrev pub told_of : List ℕ → Option ℕ → Option ℕ
told_of done None = None
told_of done (Some o) = if has o done then Some o else None

-- t is b with these opens of s
pub record Opened (s b t : Server) (done : List ℕ) : Type 0 where
  pub is : t ≡ record b {
    opens = t.opens;
    standing = t.standing;
    opened = t.opened;
    session_of_open = t.session_of_open;
    sequence = t.sequence;
    deadline = t.deadline;
    enumeration_location = t.enumeration_location;
    current_byte_offset = t.current_byte_offset;
    lock_sequences = t.lock_sequences;
    by_guid = t.by_guid;
  }
  pub opens : t.opens ≡ done
  pub standing : (p : ℕ) → t.standing p ≡ has p done
  pub opened : (p : ℕ) → has p done ≡ true → t.opened p ≡ s.opened p
  pub slots : (p i : ℕ) → has p done ≡ true → 0 < i → i ≤ 64 → t.lock_sequences p i ≡ s.lock_sequences p i
  pub guids : (c g : ℕ) → t.by_guid c g ≡ told_of done (s.by_guid c g)

-- what the opens of a snapshot are
pub record Able (s b : Server) (os : List ℕ) : Type 0 where
  pub stay : (o : ℕ) → has o os ≡ true → stays s o ≡ true
  pub fits : Fits s
  pub entries : b.entries ≡ s.entries

free_guid : (s t : Server) (done : List ℕ) (o g : ℕ) → t.by_guid (s.opened o).client_guid g ≡ told_of done (s.by_guid (s.opened o).client_guid g)
    → s.by_guid (s.opened o).client_guid g ≡ Some o → has o done ≡ false → is_some (t.by_guid (s.opened o).client_guid g) ≡ false
free_guid s t done o g h e n =
    ap (λ (v : Option ℕ). is_some v) (h ∙ ap (λ (v : Option ℕ). told_of done v) e) ∙ ap (λ (b : Bool). is_some (if b then Some o else None)) n

guid_of : (v : Option ℕ) → is_some v ≡ true → (g : ℕ) × (v ≡ Some g)
guid_of None h = absurd (cc)
guid_of (Some g) h = (g, refl)

pub able_stand : (s b t : Server) (done : List ℕ) (o : ℕ) → Opened s b t done → Fits s → b.entries ≡ s.entries → stays s o ≡ true → has o done ≡ false
    → may_stand t o (s.opened o) ≡ true
unfolding may_stand has_free_guid exists
able_stand s b t done o w i es st n =
    let stands : s.standing o ≡ true = front_of (s.standing o) (s.opened o).persistent st in
    let persists : (s.opened o).persistent ≡ true = back_of (s.standing o) (s.opened o).persistent st in
    let some : nat_lt 0 o ≡ true = let l = (i.open_ids o stands).0 in grind (arith, nat_tests) in
    let free : not (t.standing o) ≡ true = ap (λ (k : Bool). not k) (w.standing o ∙ n) in
    let there : exists t (s.opened o).file ≡ true =
    ap (λ (v : List Entry). ((s.opened o).file == root) || exists_in v (s.opened o).file) (ap (λ (x : Server). x.entries) w.is ∙ es)
    ∙ i.open_files o stands in
    let kept : not (deletes_on_close (s.opened o).options && ((s.opened o).file == root)) ≡ true =
    no_both (deletes_on_close (s.opened o).options) (s.opened o).file (i.not_root o) in
    let own = guid_of (s.opened o).create_guid (i.persistent_guid o stands persists) in
    let alone : has_free_guid t (s.opened o).client_guid (s.opened o).create_guid ≡ true =
    ap (λ (v : Option ℕ). has_free_guid t (s.opened o).client_guid v) own.1
    ∙ ap (λ (k : Bool). not k) (free_guid s t done o own.0 (w.guids (s.opened o).client_guid own.0) (i.open_guid o own.0 stands own.1) n) in
    both (nat_lt 0 o) _ some (both (not (t.standing o)) _ free (both (s.opened o).persistent _ persists
    (both (exists t (s.opened o).file) _ there (both _ _ kept alone))))
  where
    no_both : (d : Bool) (f : ℕ) → (d ≡ true → f ≢ root) → not (d && (f == root)) ≡ true
    no_both false f h = refl
    no_both true f h = by (f == root) refl
      where
        by : (k : Bool) → (f == root) ≡ k → not k ≡ true
        by true e = absurd (h refl (eqb-true f root e))
        by false e = refl

abbrev pub with_opens : Server → Server → Server
with_opens b t = record b {
  opens = t.opens;
  standing = t.standing;
  opened = t.opened;
  session_of_open = t.session_of_open;
  sequence = t.sequence;
  deadline = t.deadline;
  enumeration_location = t.enumeration_location;
  current_byte_offset = t.current_byte_offset;
  lock_sequences = t.lock_sequences;
  by_guid = t.by_guid;
}

or_on : (b c : Bool) → c ≡ true → (b || c) ≡ true
or_on true c h = refl
or_on false c h = h

or_off : (b c : Bool) → c ≡ false → (b || c) ≡ b
or_off true c h = refl
or_off false c h = h

own_pushed : (o : ℕ) (done : List ℕ) → has o (done ++ o ∷ []) ≡ true
own_pushed o done = let e : (o == o) ≡ true = grind arith in has_pushed o o done ∙ or_on (has o done) (o == o) e

off_pushed : (p o : ℕ) (done : List ℕ) → (p == o) ≡ false → has p (done ++ o ∷ []) ≡ has p done
off_pushed p o done h =
    let e : (o == p) ≡ false = grind (arith, nat_tests) in has_pushed p o done ∙ or_off (has p done) (o == p) e

told_more : (done : List ℕ) (o : ℕ) (v : Option ℕ) → (v ≡ Some o → ⊥) → told_of done v ≡ told_of (done ++ o ∷ []) v
told_more done o None h = refl
told_more done o (Some p) h = by (p == o) refl
  where
    by : (b : Bool) → (p == o) ≡ b → (if has p done then Some p else None) ≡ (if has p (done ++ o ∷ []) then Some p else None)
    by true e = absurd (h (ap (λ (k : ℕ). Some k) (eqb-true p o e)))
    by false e = ap (λ (b : Bool). if b then Some p else None) (sym (off_pushed p o done e))

guid_told : (s t : Server) (done : List ℕ) (o g0 c g : ℕ) → Fits s → (s.opened o).create_guid ≡ Some g0
    → s.by_guid (s.opened o).client_guid g0 ≡ Some o → t.by_guid c g ≡ told_of done (s.by_guid c g)
    → put2 t.by_guid (s.opened o).client_guid g0 (Some o) c g ≡ told_of (done ++ o ∷ []) (s.by_guid c g)
guid_told s t done o g0 c g i own named old =
    by (c == (s.opened o).client_guid) refl (g == g0) refl
  where
    here : told_of (done ++ o ∷ []) (Some o) ≡ Some o
    here = ap (λ (b : Bool). if b then Some o else None) (own_pushed o done)

    by : (b : Bool) → (c == (s.opened o).client_guid) ≡ b → (k : Bool) → (g == g0) ≡ k
        → (if b then (if k then Some o else t.by_guid c g) else t.by_guid c g) ≡ told_of (done ++ o ∷ []) (s.by_guid c g)
    by true e true f =
        sym (ap (λ (v : Option ℕ). told_of (done ++ o ∷ []) v)
        (ap (λ (x : ℕ). s.by_guid x g) (eqb-true c (s.opened o).client_guid e)
        ∙ ap (λ (x : ℕ). s.by_guid (s.opened o).client_guid x) (eqb-true g g0 f) ∙ named)
        ∙ ap (λ (b : Bool). if b then Some o else None) (own_pushed o done))
    by true e false f = old ∙ told_more done o (s.by_guid c g) (λ h.
        let n : Some g ≡ Some g0 = sym (i.guid_open c g o h).2 ∙ own in let z : g ≡ g0 = grind arith in grind (arith, nat_tests))
    by false e k f = old ∙ told_more done o (s.by_guid c g) (λ h.
        let n : (s.opened o).client_guid ≡ c = (i.guid_open c g o h).1 in grind (arith, nat_tests))

pub opened_one : (s b t : Server) (done : List ℕ) (o : ℕ) → Opened s b t done → Fits s → b.entries ≡ s.entries → stays s o ≡ true
    → has o done ≡ false → ((p : ℕ) → has p done ≡ true → p < o)
    → Opened s b (with_pieces (with_piece t (OpenPiece o (s.opened o))) (slot_pieces (s.lock_sequences o) o 64)) (done ++ o ∷ [])
opened_one s b t done o w i es st n below =
    let u : Server = add_open t o (s.opened o) None 0 in
    let stands : s.standing o ≡ true = front_of (s.standing o) (s.opened o).persistent st in
    let persists : (s.opened o).persistent ≡ true = back_of (s.standing o) (s.opened o).persistent st in
    let own = guid_of (s.opened o).create_guid (i.persistent_guid o stands persists) in
    let d : Server = with_pieces u (slot_pieces (s.lock_sequences o) o 64) in
    let z : Slotted u d o 64 (s.lock_sequences o) = slotted u o 64 (s.lock_sequences o) (put_same t.standing o true) (omega arith)
    (λ k l. ap (λ (f : ℕ → Option Kept). f k) (put_same t.lock_sequences o (λ j. None))) in
    let over : d ≡ with_opens t d = subst (λ (x : Server). x ≡ with_opens t x) (sym z.is) refl in
    subst (λ (k : Bool). Opened s b (with_pieces (if k then u else t) (slot_pieces (s.lock_sequences o) o 64)) (done ++ o ∷ []))
    (sym (able_stand s b t done o w i es st n))
    (record {
      is = over ∙ ap (λ (x : Server). with_opens x d) w.is;
      opens = ap (λ (x : Server). x.opens) z.is ∙ ap (λ (v : List ℕ). placed_in o v) w.opens ∙ placed_end o done below;
      standing = λ p. ap (λ (x : Server). x.standing p) z.is ∙ at_standing t p (w.standing p) (p == o) refl;
      opened = λ p h. ap (λ (x : Server). x.opened p) z.is ∙ at_opened t p w.opened h (p == o) refl;
      slots = λ p k h a l. at_slot t d z w.slots p k h a l (p == o) refl;
      guids = λ c g. ap (λ (x : Server). x.by_guid c g) z.is
          ∙ ap (λ (v : Option ℕ). with_guid t.by_guid (s.opened o).client_guid v (Some o) c g) own.1
          ∙ guid_told s t done o own.0 c g i own.1 (i.open_guid o own.0 stands own.1) (w.guids c g);
    })
  where
    at_standing : (t : Server) (p : ℕ) → t.standing p ≡ has p done → (k : Bool) → (p == o) ≡ k
        → (if k then true else t.standing p) ≡ has p (done ++ o ∷ [])
    at_standing t p h true e = sym (subst (λ (y : ℕ). has y (done ++ o ∷ []) ≡ true) (sym (eqb-true p o e)) (own_pushed o done))
    at_standing t p h false e = h ∙ sym (off_pushed p o done e)

    at_opened : (t : Server) (p : ℕ) → ((q : ℕ) → has q done ≡ true → t.opened q ≡ s.opened q) → has p (done ++ o ∷ []) ≡ true → (k : Bool)
        → (p == o) ≡ k → (if k then s.opened o else t.opened p) ≡ s.opened p
    at_opened t p old h true e = ap (λ (y : ℕ). s.opened y) (sym (eqb-true p o e))
    at_opened t p old h false e = old p (sym (off_pushed p o done e) ∙ h)

    at_slot : (t d : Server) → Slotted (add_open t o (s.opened o) None 0) d o 64 (s.lock_sequences o)
        → ((q j : ℕ) → has q done ≡ true → 0 < j → j ≤ 64 → t.lock_sequences q j ≡ s.lock_sequences q j)
        → (p j : ℕ) → has p (done ++ o ∷ []) ≡ true → 0 < j → j ≤ 64 → (k : Bool) → (p == o) ≡ k → d.lock_sequences p j ≡ s.lock_sequences p j
    at_slot t d z old p j h a l true e =
        subst (λ (y : ℕ). d.lock_sequences y j ≡ s.lock_sequences y j) (sym (eqb-true p o e)) (z.here j a l)
    at_slot t d z old p j h a l false e =
        z.other p j e ∙ ap (λ (f : ℕ → Option Kept). f j) (put_other t.lock_sequences o p (λ j. None) e)
        ∙ old p j (sym (off_pushed p o done e) ∙ h) a l

-- all of them
pub opened_all : (s b t : Server) (done os : List ℕ) → Opened s b t done → Fits s → b.entries ≡ s.entries
    → ((o : ℕ) → has o os ≡ true → stays s o ≡ true) → is_ascending os ≡ true
    → ((p : ℕ) → has p done ≡ true → above p os ≡ true) → Opened s b (with_pieces t (open_pieces s os)) (done ++ os)
unfolding with_pieces open_pieces
opened_all s b t done [] w i es st a below = subst (λ (v : List ℕ). Opened s b t v) (sym (append-nil done)) w
opened_all s b t done (o ∷ os) w i es st a below =
    let lower : (p : ℕ) → has p done ≡ true → p < o = λ p h.
    let l = front_of (nat_lt p o) (above p os) (below p h) in grind (arith, nat_tests) in
    let free : has o done ≡ false = not_has (has o done) (λ h. let l = lower o h in omega (arith, l)) in
    let v : Server = with_piece t (OpenPiece o (s.opened o)) in
    let u : Server = with_pieces v (slot_pieces (s.lock_sequences o) o 64) in
    let one : Opened s b u (done ++ o ∷ []) = opened_one s b t done o w i es (st o (here_has o os)) free lower in
    let more : Opened s b (with_pieces u (open_pieces s os)) ((done ++ o ∷ []) ++ os) =
    opened_all s b u (done ++ o ∷ []) os one i es (λ p h. st p (later_has o os p h)) (ascending_rest o os a)
    (λ p h. over p h (has p done) refl) in
    subst (λ (x : Server). Opened s b x (done ++ (o ∷ os))) (sym (behind_both v (slot_pieces (s.lock_sequences o) o 64) (open_pieces s os)))
    (subst (λ (v : List ℕ). Opened s b (with_pieces u (open_pieces s os)) v) (append_assoc done (o ∷ []) os) more)
  where
    not_has : (k : Bool) → (k ≡ true → ⊥) → k ≡ false
    not_has true h = absurd (h refl)
    not_has false h = refl

    over : (p : ℕ) → has p (done ++ o ∷ []) ≡ true → (k : Bool) → has p done ≡ k → above p os ≡ true
    over p h true e = back_of (nat_lt p o) (above p os) (below p e)
    over p h false e =
        let r : (o == p) ≡ true = subst (λ (k : Bool). (k || (o == p)) ≡ true) e (sym (has_pushed p o done) ∙ h) in
        subst (λ (y : ℕ). above y os ≡ true) (eqb-true o p r) (ascending_above o os a)
