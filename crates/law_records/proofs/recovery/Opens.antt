-- Opens that come and go: the fold has the persistent ones.
use Rattle.std.proofs.Common.{◌≡◌, ◌≢◌, ℕ, ◌<◌, ◌==◌, Bool, true, false, List, refl, arith, sym, subst, ◌∙◌, ap, Option}
use Rattle.std.proofs.Common.{Some, None, slice_get}
use Rattle.std.proofs.lemmas.Bool.{eqb-false}
use Rattle.spec_exchange.specs.Table.{put, put2, has, without, placed_in}
use Rattle.spec_exchange.specs.State.{Server, Open, Range, Kept}
use Rattle.spec_exchange.specs.Ranges.{without_owner}
use Rattle.spec_exchange.specs.Opens.{with_guid, add_open, drop_open}
use Rattle.law_records.specs.recovery.Recovers.{staying, kept_ranges, kept_guid, RecordOpens}
use Rattle.law_records.proofs.recovery.Lists.{ext, persistent_placed_plain, persistent_placed, persistent_without, without_plain}
use Rattle.law_records.proofs.recovery.Ranges.{kept_same, kept_without, without_absent}

-- ---- a plain open comes

plain_stays : (standing : ℕ → Bool) (opened : ℕ → Open) (o : ℕ) (row : Open) → standing o ≡ false → row.persistent ≡ false
    → (p : ℕ) → staying (put standing o true) (put opened o row) p ≡ staying standing opened p
plain_stays standing opened o row new plain p = grind arith

plain_row : (standing : ℕ → Bool) (opened rows : ℕ → Open) (o : ℕ) (row : Open) → standing o ≡ false → row.persistent ≡ false
    → ((p : ℕ) → staying standing opened p ≡ true → rows p ≡ opened p)
    → (p : ℕ) → staying (put standing o true) (put opened o row) p ≡ true → rows p ≡ put opened o row p
plain_row standing opened rows o row new plain h p e = let old = h p in grind arith

plain_slots : (standing : ℕ → Bool) (opened : ℕ → Open) (dsl slots : ℕ → ℕ → Option Kept) (o : ℕ) (row : Open)
    (new : ℕ → Option Kept) → standing o ≡ false → row.persistent ≡ false
    → ((p i : ℕ) → staying standing opened p ≡ true → dsl p i ≡ slots p i)
    → (p i : ℕ) → staying (put standing o true) (put opened o row) p ≡ true → dsl p i ≡ put slots o new p i
plain_slots standing opened dsl slots o row new fresh plain h p i e = let old = h p i in grind arith

plain_guid : (p : ℕ → Bool) (dby by : ℕ → ℕ → Option ℕ) (o client : ℕ) (guid : Option ℕ) → p o ≡ false
    → ((g : ℕ) → guid ≡ Some g → by client g ≡ None)
    → ((c g : ℕ) → dby c g ≡ kept_guid p (by c g)) → (c g : ℕ) → dby c g ≡ kept_guid p (with_guid by client guid (Some o) c g)
plain_guid p dby by o client None plain free h c g = h c g
plain_guid p dby by o client (Some k) plain free h c g = let old = h c g in let none = free k refl in grind arith

-- the test of the opens that stay, with an open more
abbrev staying_with : Server → ℕ → Open → ℕ → Bool
staying_with s o row = staying (put s.standing o true) (put s.opened o row)

not_staying : (standing : ℕ → Bool) (opened : ℕ → Open) (o : ℕ) → standing o ≡ false → staying standing opened o ≡ false
not_staying standing opened o h = grind arith

pub adds_plain : (d s : Server) (o : ℕ) (row : Open) (session : Option ℕ) (sequence : ℕ) → s.standing o ≡ false
    → has o s.opens ≡ false → row.persistent ≡ false
    → ((g : ℕ) → row.create_guid ≡ Some g → s.by_guid row.client_guid g ≡ None) → RecordOpens d s
    → RecordOpens d (add_open s o row session sequence)
adds_plain d s o row session sequence new absent plain free h =
    let same = ext (staying_with s o row) (staying s.standing s.opened) (plain_stays s.standing s.opened o row new plain) in
    record {
      opens = h.opens ∙ sym (persistent_placed_plain s.opened o row s.opens plain absent);
      standing = λ p. h.standing p ∙ sym (plain_stays s.standing s.opened o row new plain p);
      opened = plain_row s.standing s.opened d.opened o row new plain h.opened;
      lock_sequences = plain_slots s.standing s.opened d.lock_sequences s.lock_sequences o row (λ i. None) new plain h.lock_sequences;
      by_guid = subst (λ (t : ℕ → Bool). (c g : ℕ) → d.by_guid c g
          ≡ kept_guid t (with_guid s.by_guid row.client_guid row.create_guid (Some o) c g)) (sym same)
          (plain_guid (staying s.standing s.opened) d.by_guid s.by_guid o row.client_guid row.create_guid
          (not_staying s.standing s.opened o new) free h.by_guid);
      ranges = subst (λ (t : ℕ → Bool). (f : ℕ) → d.ranges f ≡ kept_ranges t (s.ranges f)) (sym same) h.ranges;
    }

-- ---- a persistent open comes

more_stays : (dst standing : ℕ → Bool) (opened : ℕ → Open) (o : ℕ) (row : Open) → row.persistent ≡ true
    → ((p : ℕ) → dst p ≡ staying standing opened p)
    → (p : ℕ) → put dst o true p ≡ staying (put standing o true) (put opened o row) p
more_stays dst standing opened o row kept h p = let old = h p in grind arith

more_row : (standing : ℕ → Bool) (opened rows : ℕ → Open) (o : ℕ) (row : Open)
    → ((p : ℕ) → staying standing opened p ≡ true → rows p ≡ opened p)
    → (p : ℕ) → staying (put standing o true) (put opened o row) p ≡ true → put rows o row p ≡ put opened o row p
more_row standing opened rows o row h p e = let old = h p in grind arith

more_slots : (standing : ℕ → Bool) (opened : ℕ → Open) (dsl slots : ℕ → ℕ → Option Kept) (o : ℕ) (row : Open)
    (new : ℕ → Option Kept) → ((p i : ℕ) → staying standing opened p ≡ true → dsl p i ≡ slots p i)
    → (p i : ℕ) → staying (put standing o true) (put opened o row) p ≡ true → put dsl o new p i ≡ put slots o new p i
more_slots standing opened dsl slots o row new h p i e = let old = h p i in grind arith

-- where the tests agree on what the guid names
kept_guid_same : (p q : ℕ → Bool) (x : Option ℕ) → ((o : ℕ) → x ≡ Some o → q o ≡ p o) → kept_guid q x ≡ kept_guid p x
kept_guid_same p q None h = refl
kept_guid_same p q (Some o) h = let e = h o refl in grind arith

more_guid : (q : ℕ → Bool) (dby by : ℕ → ℕ → Option ℕ) (o client : ℕ) (guid : Option ℕ) → q o ≡ true
    → ((c g : ℕ) → dby c g ≡ kept_guid q (by c g)) → (c g : ℕ) → with_guid dby client guid (Some o) c g
    ≡ kept_guid q (with_guid by client guid (Some o) c g)
more_guid q dby by o client None kept h c g = h c g
more_guid q dby by o client (Some k) kept h c g = let old = h c g in grind arith

apart_of : (standing : ℕ → Bool) (o p : ℕ) → standing o ≡ false → standing p ≡ true → p ≢ o
apart_of standing o p a b e = absurd (cc (ap standing e))

stays_apart : (standing : ℕ → Bool) (opened : ℕ → Open) (o : ℕ) (row : Open) (p : ℕ) → p ≢ o
    → staying (put standing o true) (put opened o row) p ≡ staying standing opened p
stays_apart standing opened o row p n = grind arith

stays_here : (standing : ℕ → Bool) (opened : ℕ → Open) (o : ℕ) (row : Open) → row.persistent ≡ true
    → staying (put standing o true) (put opened o row) o ≡ true
stays_here standing opened o row kept = grind arith

pub adds_persistent : (d s : Server) (o : ℕ) (row : Open) (session : Option ℕ) (sequence : ℕ) → s.standing o ≡ false → row.persistent ≡ true
    → ((p : ℕ) → has p s.opens ≡ true → p < o)
    → ((c g p : ℕ) → s.by_guid c g ≡ Some p → s.standing p ≡ true)
    → ((f n : ℕ) (r : Range) → slice_get (s.ranges f) n ≡ Some r → s.standing r.owner ≡ true)
    → RecordOpens d s → RecordOpens (add_open d o row None 0) (add_open s o row session sequence)
adds_persistent d s o row session sequence new kept above guids owners h =
    let p = staying s.standing s.opened in let q = staying_with s o row in
    record {
      opens = ap (placed_in o) h.opens ∙ sym (persistent_placed s.opened o row s.opens kept above);
      standing = more_stays d.standing s.standing s.opened o row kept h.standing;
      opened = more_row s.standing s.opened d.opened o row h.opened;
      lock_sequences = more_slots s.standing s.opened d.lock_sequences s.lock_sequences o row (λ i. None) h.lock_sequences;
      by_guid = more_guid q d.by_guid s.by_guid o row.client_guid row.create_guid (stays_here s.standing s.opened o row kept)
          (λ c g. h.by_guid c g
          ∙ sym (kept_guid_same p q (s.by_guid c g) (λ x e. stays_apart s.standing s.opened o row x
          (apart_of s.standing o x new (guids c g x e)))));
      ranges = λ f. h.ranges f
          ∙ sym (kept_same p q (s.ranges f) (λ n r e. stays_apart s.standing s.opened o row r.owner
          (apart_of s.standing o r.owner new (owners f n r e))));
    }

-- ---- a plain open leaves

gone_plain_stays : (standing : ℕ → Bool) (opened : ℕ → Open) (o : ℕ) → (opened o).persistent ≡ false → (p : ℕ)
    → staying (put standing o false) opened p ≡ staying standing opened p
gone_plain_stays standing opened o plain p = grind arith

gone_plain_guid : (p : ℕ → Bool) (dby by : ℕ → ℕ → Option ℕ) (o client : ℕ) (guid : Option ℕ) → p o ≡ false
    → ((g : ℕ) → guid ≡ Some g → by client g ≡ Some o)
    → ((c g : ℕ) → dby c g ≡ kept_guid p (by c g)) → (c g : ℕ) → dby c g ≡ kept_guid p (with_guid by client guid None c g)
gone_plain_guid p dby by o client None plain own h c g = h c g
gone_plain_guid p dby by o client (Some k) plain own h c g = let old = h c g in let mine = own k refl in grind arith

gone_plain_ranges : (p : ℕ → Bool) (drs rs : ℕ → List Range) (o f : ℕ) → p o ≡ false
    → ((q : ℕ) → drs q ≡ kept_ranges p (rs q)) → (q : ℕ) → drs q ≡ kept_ranges p (put rs f (without_owner o (rs f)) q)
gone_plain_ranges p drs rs o f plain h q =
    let old = h q in let cut = kept_without p p o (rs f) (λ x n. refl) in let same = without_absent p o (rs f) plain in grind arith

plain_not : (standing : ℕ → Bool) (opened : ℕ → Open) (o : ℕ) → (opened o).persistent ≡ false → staying standing opened o ≡ false
plain_not standing opened o plain = grind arith

pub drops_plain : (d s : Server) (o : ℕ) → (s.opened o).persistent ≡ false
    → ((g : ℕ) → (s.opened o).create_guid ≡ Some g → s.by_guid (s.opened o).client_guid g ≡ Some o) → RecordOpens d s
    → RecordOpens d (drop_open s o)
drops_plain d s o plain own h =
    let same = ext (staying (put s.standing o false) s.opened) (staying s.standing s.opened)
    (gone_plain_stays s.standing s.opened o plain) in
    let p = staying s.standing s.opened in
    record {
      opens = h.opens ∙ sym (without_plain s.opened o s.opens plain);
      standing = λ x. h.standing x ∙ sym (gone_plain_stays s.standing s.opened o plain x);
      opened = λ x e. h.opened x (sym (gone_plain_stays s.standing s.opened o plain x) ∙ e);
      lock_sequences = λ x i e. h.lock_sequences x i (sym (gone_plain_stays s.standing s.opened o plain x) ∙ e);
      by_guid = subst (λ (t : ℕ → Bool). (c g : ℕ) → d.by_guid c g
          ≡ kept_guid t (with_guid s.by_guid (s.opened o).client_guid (s.opened o).create_guid None c g)) (sym same)
          (gone_plain_guid p d.by_guid s.by_guid o (s.opened o).client_guid (s.opened o).create_guid
          (plain_not s.standing s.opened o plain) own h.by_guid);
      ranges = subst (λ (t : ℕ → Bool). (f : ℕ) → d.ranges f
          ≡ kept_ranges t (put s.ranges (s.opened o).file (without_owner o (s.ranges (s.opened o).file)) f)) (sym same)
          (gone_plain_ranges p d.ranges s.ranges o (s.opened o).file (plain_not s.standing s.opened o plain) h.ranges);
    }

-- ---- a persistent open leaves

gone_stays : (dst standing : ℕ → Bool) (opened : ℕ → Open) (o : ℕ) → ((p : ℕ) → dst p ≡ staying standing opened p)
    → (p : ℕ) → put dst o false p ≡ staying (put standing o false) opened p
gone_stays dst standing opened o h p = let old = h p in grind arith

gone_apart : (standing : ℕ → Bool) (opened : ℕ → Open) (o p : ℕ) → p ≢ o → staying (put standing o false) opened p
    ≡ staying standing opened p
gone_apart standing opened o p n = grind arith

gone_still : (standing : ℕ → Bool) (opened : ℕ → Open) (o p : ℕ) → staying (put standing o false) opened p ≡ true
    → staying standing opened p ≡ true
gone_still standing opened o p e = grind arith

some_same : (x y : ℕ) → Some x ≡ Some y → x ≡ y
some_same x y e = cc

-- what a guid still names isn't the open
gone_guid : (p q : ℕ → Bool) (dby by : ℕ → ℕ → Option ℕ) (o client : ℕ) (guid : Option ℕ)
    → ((x : ℕ) → x ≢ o → q x ≡ p x) → ((c g : ℕ) → by c g ≡ Some o → c ≡ client × guid ≡ Some g)
    → ((c g : ℕ) → dby c g ≡ kept_guid p (by c g)) → (c g : ℕ) → with_guid dby client guid None c g
    ≡ kept_guid q (with_guid by client guid None c g)
gone_guid p q dby by o client None apart own h c g =
    h c g ∙ sym (kept_guid_same p q (by c g) (λ x e. apart x (λ t. absurd (cc ((own c g (e ∙ ap Some t)).1)))))
gone_guid p q dby by o client (Some k) apart own h c g =
    let old = h c g in
    elim (c == client) as (λ b. c == client ≡ b → put2 dby client k None c g ≡ kept_guid q (put2 by client k None c g)) [
      | true ↦ λ e. elim (g == k) as (λ b. g == k ≡ b → put2 dby client k None c g ≡ kept_guid q (put2 by client k None c g)) [
        | true ↦ λ f. grind arith
        | false ↦ λ f. let n = eqb-false g k f in
            let same = kept_guid_same p q (by c g)
            (λ x i. apart x (λ t. n (sym (some_same k g (own c g (i ∙ ap Some t)).1)))) in grind arith
      ] refl
      | false ↦ λ e. let n = eqb-false c client e in
          let same = kept_guid_same p q (by c g) (λ x i. apart x (λ t. n (own c g (i ∙ ap Some t)).0)) in grind arith
    ] refl

gone_ranges : (p q : ℕ → Bool) (drs rs : ℕ → List Range) (o f : ℕ) → ((x : ℕ) → x ≢ o → q x ≡ p x)
    → ((k n : ℕ) (r : Range) → slice_get (rs k) n ≡ Some r → r.owner ≡ o → k ≡ f)
    → ((k : ℕ) → drs k ≡ kept_ranges p (rs k)) → (k : ℕ) → put drs f (without_owner o (drs f)) k
    ≡ kept_ranges q (put rs f (without_owner o (rs f)) k)
gone_ranges p q drs rs o f apart own h k = elim (k == f) as (λ b. k == f ≡ b → put drs f (without_owner o (drs f)) k
    ≡ kept_ranges q (put rs f (without_owner o (rs f)) k)) [
      | true ↦ λ e. let old = h f in let cut = kept_without p q o (rs f) apart in grind arith
      | false ↦ λ e. let old = h k in let n = eqb-false k f e in
          let same = kept_same p q (rs k) (λ i r g. apart r.owner (λ t. n (own k i r g t))) in grind arith
    ] refl

pub drops_persistent : (d s : Server) (o : ℕ) → staying s.standing s.opened o ≡ true
    → ((c g : ℕ) → s.by_guid c g ≡ Some o → c ≡ (s.opened o).client_guid × (s.opened o).create_guid ≡ Some g)
    → ((k n : ℕ) (r : Range) → slice_get (s.ranges k) n ≡ Some r → r.owner ≡ o → k ≡ (s.opened o).file)
    → RecordOpens d s → RecordOpens (drop_open d o) (drop_open s o)
drops_persistent d s o kept guids owners h =
    let row = h.opened o kept in let p = staying s.standing s.opened in let q = staying (put s.standing o false) s.opened in
    record {
      opens = ap (without o) h.opens ∙ sym (persistent_without s.opened o s.opens);
      standing = gone_stays d.standing s.standing s.opened o h.standing;
      opened = λ x e. h.opened x (gone_still s.standing s.opened o x e);
      lock_sequences = λ x i e. h.lock_sequences x i (gone_still s.standing s.opened o x e);
      by_guid = subst (λ (r : Open). (c g : ℕ) → with_guid d.by_guid r.client_guid r.create_guid None c g
          ≡ kept_guid q (with_guid s.by_guid (s.opened o).client_guid (s.opened o).create_guid None c g)) (sym row)
          (gone_guid p q d.by_guid s.by_guid o (s.opened o).client_guid (s.opened o).create_guid
          (gone_apart s.standing s.opened o) guids h.by_guid);
      ranges = subst (λ (r : Open). (k : ℕ) → put d.ranges r.file (without_owner o (d.ranges r.file)) k
          ≡ kept_ranges q (put s.ranges (s.opened o).file (without_owner o (s.ranges (s.opened o).file)) k)) (sym row)
          (gone_ranges p q d.ranges s.ranges o (s.opened o).file (gone_apart s.standing s.opened o) owners h.ranges);
    }
