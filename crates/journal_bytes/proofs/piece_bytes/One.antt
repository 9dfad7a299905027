-- At a place stands one piece at most.
use Rattle.std.proofs.Common.{◌≡◌, ℕ, ◌+◌, ◌<◌, ◌≤◌, ◌==◌, if◌then◌else◌, Bool, true, false, List, [], ◌∷◌, length, drop}
use Rattle.std.proofs.Common.{Option, Some, None, IsUtf8, refl, sym, ap, subst, ◌∙◌, arith}
use Rattle.std.proofs.lemmas.Str.{IsUtf8-nil}
use Rattle.spec_wire.specs.messages.Places.{number, bytes_at}
use Rattle.spec_wire.specs.messages.Utf16.{utf16}
use Rattle.law_wire.proofs.messages.Characters.{one_text}
use Rattle.spec_exchange.specs.Commands.{Basic}
use Rattle.spec_exchange.specs.State.{Open, Range}
use Rattle.law_snapshots.specs.snapshots.Pieces.{SnapshotPiece, BasePiece, FilePiece, BytesPiece, OpenPiece, SlotPiece, RangePiece, GuidPiece}
use Rattle.journal_bytes.specs.record_bytes.Grammar.{flag, behind_fields, SpellsRecords}
use Rattle.journal_bytes.specs.declared.record_bytes.value.Record.{Record}
use Rattle.journal_bytes.proofs.record_bytes.Told as records
use Rattle.journal_bytes.specs.piece_bytes.Grammar.{kind, piece_table, create_guid, HasGuid, StandsPiece, ArePieces, SpellsPieces, BreaksPieces}
use Rattle.journal_bytes.proofs.piece_bytes.Standing.{inside_piece, piece_ahead}
use Rattle.journal_bytes.proofs.piece_bytes.Told.{is_known}

-- ---- what the bytes say of a piece but for its text

abbrev made_basic : ℕ → ℕ → ℕ → ℕ → ℕ → Basic
made_basic created accessed written changed attributes = record {
  created = created;
  accessed = accessed;
  written = written;
  changed = changed;
  attributes = attributes;
}

abbrev basic_in : List ℕ → ℕ → Basic
basic_in m at = made_basic (number 8 m at) (number 8 m (at + 8)) (number 8 m (at + 8 + 8)) (number 8 m (at + 8 + 8 + 8))
    (number 4 m (at + 8 + 8 + 8 + 8))

abbrev made_row : ℕ → ℕ → ℕ → ℕ → ℕ → Bool → ℕ → Option ℕ → List ℕ → ℕ → Open
made_row file access share options action persistent client guid user timeout = record {
  file = file;
  access = access;
  share = share;
  options = options;
  action = action;
  persistent = persistent;
  client_guid = client;
  create_guid = guid;
  user = user;
  timeout = timeout;
}

abbrev row_in : List ℕ → List ℕ → Open
row_in m user = made_row (number 8 m 9) (number 4 m 49) (number 4 m 53) (number 4 m 57) (number 4 m 61) true (number 16 m 17)
    (Some (number 16 m 33)) user (number 4 m 65)

abbrev made_range : ℕ → ℕ → ℕ → Bool → Range
made_range owner at size exclusive = record { owner = owner; at = at; length = size; exclusive = exclusive }

abbrev range_in : List ℕ → Range
range_in m = made_range (number 8 m 1) (number 8 m 9) (number 8 m 17) (number 1 m 25 == 1)

abbrev decoded : ℕ → List ℕ → List ℕ → SnapshotPiece
decoded k m text =
    if k == 64 then BasePiece (number 4 m 1) (number 4 m 5) (number 4 m 9) (number 8 m 13) (basic_in m 21)
    else if k == 65 then FilePiece (number 8 m 1) text (number 1 m 9 == 1) (number 1 m 10 == 1) (basic_in m 11) (number 8 m 47) (number 8 m 55)
    else if k == 66 then BytesPiece (number 8 m 1) (number 8 m 9) (bytes_at (number 4 m 17) m 21)
    else if k == 67 then OpenPiece (number 8 m 1) (row_in m text)
    else if k == 68 then SlotPiece (number 8 m 1) (number 1 m 9) (number 1 m 10) (number 4 m 11)
    else if k == 69 then RangePiece (range_in m) else GuidPiece (number 16 m 1) (number 16 m 17)

abbrev text_in : SnapshotPiece → List ℕ
text_in (BasePiece version epoch given next times) = []
text_in (FilePiece f path is_dir pending basic size stored) = path
text_in (BytesPiece f at bytes) = []
text_in (OpenPiece o row) = row.user
text_in (SlotPiece o index told status) = []
text_in (RangePiece r) = []
text_in (GuidPiece client create) = []

-- what is made of the same parts is one
same_of_five : {X : Type 0} (make : ℕ → ℕ → ℕ → ℕ → ℕ → X) (a b c d e f g h i j : ℕ) → a ≡ f → b ≡ g → c ≡ h → d ≡ i → e ≡ j
    → make a b c d e ≡ make f g h i j
same_of_five make a b c d e f g h i j p q r s t = cc

same_of_four : {X : Type 0} (make : ℕ → ℕ → ℕ → Bool → X) (a b c e f g : ℕ) (d h : Bool) → a ≡ e → b ≡ f → c ≡ g → d ≡ h
    → make a b c d ≡ make e f g h
same_of_four make a b c e f g d h p q r s = cc

same_of_ten : {X : Type 0} (make : ℕ → ℕ → ℕ → ℕ → ℕ → Bool → ℕ → Option ℕ → List ℕ → ℕ → X) (a b c d e g j k l m n o q t : ℕ)
    (f p : Bool) (h r : Option ℕ) (u : List ℕ) → a ≡ k → b ≡ l → c ≡ m → d ≡ n → e ≡ o → f ≡ p → g ≡ q → h ≡ r → j ≡ t
    → make a b c d e f g h u j ≡ make k l m n o p q r u t
same_of_ten make a b c d e g j k l m n o q t f p h r u aa bb cc_ dd ee ff gg hh jj = cc

flag_told : (b : Bool) (n : ℕ) → n ≡ flag b → b ≡ (n == 1)
flag_told false n e = sym (ap (λ (x : ℕ). x == 1) e)
flag_told true n e = sym (ap (λ (x : ℕ). x == 1) e)

guid_told : (g : Option ℕ) (n : ℕ) → HasGuid g → n ≡ create_guid g → g ≡ Some n
guid_told None n is e = absurd is
guid_told (Some g) n is e = ap Some (sym e)

inside_one : (m : List ℕ) (at : ℕ) (b : List ℕ) (len : ℕ) (n : ℕ) → bytes_at len m at ≡ b → n ≡ len → b ≡ bytes_at n m at
inside_one m at b len n is e = sym is ∙ ap (λ (w : ℕ). bytes_at w m at) (sym e)

decodes : (m : List ℕ) (p : SnapshotPiece) → StandsPiece m 0 p → p ≡ decoded (kind p) m (text_in p)
decodes m (BasePiece version epoch given next times) s =
    let told = s.fields.1.0 in
    let started = s.fields.1.1.0 in
    let ids = s.fields.1.1.1.0 in
    let number_next = s.fields.1.1.1.1.0 in
    let b = s.fields.1.1.1.1.1 in
    let basic : times ≡ basic_in m 21 = same_of_five made_basic times.created times.accessed times.written times.changed times.attributes
    (number 8 m 21) (number 8 m 29) (number 8 m 37) (number 8 m 45) (number 4 m 53) (sym b.0) (sym b.1.0) (sym b.1.1.0) (sym b.1.1.1.0)
    (sym b.1.1.1.1.0) in
    let all : BasePiece version epoch given next times ≡ BasePiece (number 4 m 1) (number 4 m 5) (number 4 m 9) (number 8 m 13)
    (basic_in m 21) = cc in all
decodes m (FilePiece f path is_dir pending basic size stored) s =
    let of = s.fields.1.0 in
    let d : is_dir ≡ (number 1 m 9 == 1) = flag_told is_dir (number 1 m 9) s.fields.1.1.0 in
    let w : pending ≡ (number 1 m 10 == 1) = flag_told pending (number 1 m 10) s.fields.1.1.1.0 in
    let b = s.fields.1.1.1.1 in
    let times : basic ≡ basic_in m 11 = same_of_five made_basic basic.created basic.accessed basic.written basic.changed basic.attributes
    (number 8 m 11) (number 8 m 19) (number 8 m 27) (number 8 m 35) (number 4 m 43) (sym b.0) (sym b.1.0) (sym b.1.1.0) (sym b.1.1.1.0)
    (sym b.1.1.1.1.0) in
    let long = b.1.1.1.1.1.0 in
    let kept = b.1.1.1.1.1.1.0 in
    let all : FilePiece f path is_dir pending basic size stored ≡ FilePiece (number 8 m 1) path (number 1 m 9 == 1) (number 1 m 10 == 1)
    (basic_in m 11) (number 8 m 47) (number 8 m 55) = cc in all
decodes m (BytesPiece f at bytes) s =
    let of = s.fields.1.0 in
    let place = s.fields.1.1.0 in
    let b : bytes ≡ bytes_at (number 4 m 17) m 21 = inside_one m 21 bytes (length bytes) (number 4 m 17) s.fields.1.1.1.1.0 s.fields.1.1.1.0 in
    let all : BytesPiece f at bytes ≡ BytesPiece (number 8 m 1) (number 8 m 9) (bytes_at (number 4 m 17) m 21) = cc in all
decodes m (OpenPiece o row) s =
    let id = s.fields.1.0 in
    let r = s.fields.1.1 in
    let guid : row.create_guid ≡ Some (number 16 m 33) = guid_told row.create_guid (number 16 m 33) s.kept.1 r.1.1.0 in
    let n = r.1.1.1 in
    let same : row ≡ row_in m row.user = same_of_ten made_row row.file row.access row.share row.options row.action row.client_guid row.timeout
    (number 8 m 9) (number 4 m 49) (number 4 m 53) (number 4 m 57) (number 4 m 61) (number 16 m 17) (number 4 m 65) row.persistent true
    row.create_guid (Some (number 16 m 33)) row.user (sym r.0) (sym n.0) (sym n.1.0) (sym n.1.1.0) (sym n.1.1.1.0) s.kept.0 (sym r.1.0) guid
    (sym n.1.1.1.1.0) in
    let all : OpenPiece o row ≡ OpenPiece (number 8 m 1) (row_in m row.user) = cc in all
decodes m (SlotPiece o index told status) s =
    let id = s.fields.1.0 in
    let place = s.fields.1.1.0 in
    let last = s.fields.1.1.1.0 in
    let answer = s.fields.1.1.1.1.0 in
    let all : SlotPiece o index told status ≡ SlotPiece (number 8 m 1) (number 1 m 9) (number 1 m 10) (number 4 m 11) = cc in all
decodes m (RangePiece r) s =
    let b = s.fields.1 in
    let same : r ≡ range_in m = same_of_four made_range r.owner r.at r.length (number 8 m 1) (number 8 m 9) (number 8 m 17) r.exclusive
    (number 1 m 25 == 1) (sym b.0) (sym b.1.0) (sym b.1.1.0) (flag_told r.exclusive (number 1 m 25) b.1.1.1.0) in
    let all : RangePiece r ≡ RangePiece (range_in m) = cc in all
decodes m (GuidPiece client create) s =
    let of = s.fields.1.0 in
    let made = s.fields.1.1.0 in
    let all : GuidPiece client create ≡ GuidPiece (number 16 m 1) (number 16 m 17) = cc in all

-- ---- texts

-- the units of the text, where a piece of this kind has one
text_units : ℕ → List ℕ → List ℕ
text_units k m = if k == 65 then bytes_at (number 2 m 63) m 65 else if k == 67 then bytes_at (number 2 m 69) m 71 else utf16 []

text_told : (m : List ℕ) (p : SnapshotPiece) → StandsPiece m 0 p → IsUtf8 (text_in p) × (utf16 (text_in p) ≡ text_units (kind p) m)
unfolding text_units
text_told m (BasePiece version epoch given next times) s = (IsUtf8-nil, refl)
text_told m (FilePiece f path is_dir pending basic size stored) s = let t = s.fields.1.1.1.1.1.1.1.1.1.1.1 in
    (s.kept, inside_one m 65 (utf16 path) (length (utf16 path)) (number 2 m 63) t.1.0 t.0)
text_told m (BytesPiece f at bytes) s = (IsUtf8-nil, refl)
text_told m (OpenPiece o row) s = let t = s.fields.1.1.1.1.1.1.1.1.1.1 in
    (s.kept.2, inside_one m 71 (utf16 row.user) (length (utf16 row.user)) (number 2 m 69) t.1.0 t.0)
text_told m (SlotPiece o index told status) s = (IsUtf8-nil, refl)
text_told m (RangePiece r) s = (IsUtf8-nil, refl)
text_told m (GuidPiece client create) s = (IsUtf8-nil, refl)

-- ---- pieces and bodies

front_piece : (m : List ℕ) (p q : SnapshotPiece) → StandsPiece m 0 p → StandsPiece m 0 q → p ≡ q
front_piece m p q a b =
    let kinds : kind p ≡ kind q = sym a.fields.0 ∙ b.fields.0 in
    let t = text_told m p a in
    let u = text_told m q b in
    let text : text_in p ≡ text_in q = one_text (text_in p) (text_in q) t.0 u.0 (t.1 ∙ ap (λ (k : ℕ). text_units k m) kinds ∙ sym u.1) in
    decodes m p a ∙ ap (λ (k : ℕ). decoded k m (text_in p)) kinds ∙ ap (λ (l : List ℕ). decoded (kind q) m l) text ∙ sym (decodes m q b)

pub one_piece : (m : List ℕ) (at : ℕ) (p q : SnapshotPiece) → StandsPiece m at p → StandsPiece m at q → p ≡ q
one_piece m at p q a b =
    let inside : at ≤ length m = omega (arith, inside_piece m at p a) in
    front_piece (drop at m) p q (piece_ahead m at p inside a) (piece_ahead m at q inside b)

pub one_body : (ps qs : List SnapshotPiece) (m : List ℕ) (at : ℕ) → ArePieces m at (length m) ps → ArePieces m at (length m) qs → ps ≡ qs
one_body [] [] m at a b = refl
one_body [] (q ∷ qs) m at a b = absurd (omega (arith, a, inside_piece m at q b.0))
one_body (p ∷ ps) [] m at a b = absurd (omega (arith, b, inside_piece m at p a.0))
one_body (p ∷ ps) (q ∷ qs) m at a b =
    let same : p ≡ q = one_piece m at p q a.0 b.0 in
    let rest : ps ≡ qs = one_body ps qs m (behind_fields at (piece_table p)) a.1
    (subst (λ (x : SnapshotPiece). ArePieces m (behind_fields at (piece_table x)) (length m) qs) (sym same) b.1) in
    ap (λ (l : List SnapshotPiece). p ∷ l) rest ∙ ap (λ (x : SnapshotPiece). x ∷ qs) same

-- where a body breaks no list of pieces spells it
no_body : (front ps : List SnapshotPiece) (m : List ℕ) (at place : ℕ) → ArePieces m at place front → place < length m
    → ((p : SnapshotPiece) → StandsPiece m place p → ⊥) → ArePieces m at (length m) ps → ⊥
no_body [] [] m at place a inside none b = omega (arith, a, b, inside)
no_body [] (p ∷ ps) m at place a inside none b = none p (subst (λ (x : ℕ). StandsPiece m x p) a b.0)
no_body (f ∷ front) [] m at place a inside none b = omega (arith, b, inside_piece m at f a.0)
no_body (f ∷ front) (p ∷ ps) m at place a inside none b =
    let same : p ≡ f = one_piece m at p f b.0 a.0 in
    no_body front ps m (behind_fields at (piece_table f)) place a.1 inside none
    (subst (λ (x : SnapshotPiece). ArePieces m (behind_fields at (piece_table x)) (length m) ps) same b.1)

pub breaks_alone : (m : List ℕ) (place : ℕ) (ps : List SnapshotPiece) → BreaksPieces m place → SpellsPieces m ps → ⊥
breaks_alone m place ps b s = no_body b.front ps m 0 place b.stands b.inside b.none s

one_place : (front other : List SnapshotPiece) (m : List ℕ) (at x y : ℕ) → ArePieces m at x front → ArePieces m at y other
    → ((p : SnapshotPiece) → StandsPiece m x p → ⊥) → ((p : SnapshotPiece) → StandsPiece m y p → ⊥) → x ≡ y
one_place [] [] m at x y a b none nor = sym a ∙ b
one_place [] (q ∷ qs) m at x y a b none nor = absurd (none q (subst (λ (z : ℕ). StandsPiece m z q) a b.0))
one_place (p ∷ ps) [] m at x y a b none nor = absurd (nor p (subst (λ (z : ℕ). StandsPiece m z p) b a.0))
one_place (p ∷ ps) (q ∷ qs) m at x y a b none nor =
    let same : q ≡ p = one_piece m at q p b.0 a.0 in
    one_place ps qs m (behind_fields at (piece_table p)) x y a.1
    (subst (λ (z : SnapshotPiece). ArePieces m (behind_fields at (piece_table z)) y qs) same b.1) none nor

pub breaks_once : (m : List ℕ) (x y : ℕ) → BreaksPieces m x → BreaksPieces m y → x ≡ y
breaks_once m x y a b = one_place a.front b.front m 0 x y a.stands b.stands a.none b.none

-- a body of pieces has no records
pub apart : (v : ℕ) (m : List ℕ) (p : SnapshotPiece) (ps : List SnapshotPiece) (rs : List Record) → SpellsPieces m (p ∷ ps)
    → SpellsRecords v m rs → ⊥
apart v m p ps [] s t = omega (arith, inside_piece m 0 p s.0, t)
apart v m p ps (r ∷ rs) s t = omega (arith, (is_known m p s.0).0, (records.is_known v m r t.0).1)
