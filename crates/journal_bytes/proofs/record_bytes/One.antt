-- At a place stands one record at most.
use Rattle.std.proofs.Common.{◌≡◌, ℕ, ◌+◌, ◌*◌, ◌/◌, ◌<◌, ◌≤◌, ◌⊎◌, inl, inr, ◌==◌, if◌then◌else◌, Bool, true, false}
use Rattle.std.proofs.Common.{List, [], ◌∷◌, length, drop, Option, Some, None, IsUtf8, refl, sym, ap, subst, ◌∙◌, arith}
use Rattle.std.proofs.lemmas.Bool.{cases_eq}
use Rattle.std.proofs.lemmas.Grind.{common_steps}
use Rattle.std.proofs.lemmas.Str.{IsUtf8-nil}
use Rattle.spec_wire.specs.messages.Places.{number, bytes_at}
use Rattle.spec_wire.specs.messages.Table.{Num, Stands}
use Rattle.spec_wire.specs.messages.Utf16.{utf16}
use Rattle.law_wire.proofs.messages.Characters.{one_text}
use Rattle.spec_exchange.specs.declared.values.Basic.{Basic}
use Rattle.spec_exchange.specs.declared.values.Origin.{Origin}
use Rattle.journal_bytes.specs.record_bytes.Grammar.{flag, behind_fields, kind, record_fields, record_table, opened_table, timeout_table}
use Rattle.journal_bytes.specs.record_bytes.Grammar.{next_version, version_behind, IsRecordTimeout, OpenIsKept, StandsRecord}
use Rattle.journal_bytes.specs.record_bytes.Grammar.{AreRecords, SpellsRecords, BreaksRecords}
use Rattle.journal_bytes.specs.declared.record_bytes.value.NewOpen.{NewOpen}
use Rattle.journal_bytes.specs.declared.record_bytes.value.Record.{Record}
use Rattle.journal_bytes.specs.declared.record_bytes.value.Record.TheVariants.{Epoch, Create, Write, SetEnd, SetBasic, SetDelete}
use Rattle.journal_bytes.specs.declared.record_bytes.value.Record.TheVariants.{Rename, Remove, Lock, Shut, Version, Expire}
use Rattle.journal_bytes.proofs.record_bytes.Standing.{ends_inside, ends_later, record_ahead}

-- ---- what the bytes say of a record but for its texts and its open

origin_in : List ℕ → Origin
origin_in m = record { session = number 8 m 1; connection = number 4 m 9; message = number 8 m 13 }

basic_in : List ℕ → Basic
basic_in m = record {
  created = number 8 m 29;
  accessed = number 8 m 37;
  written = number 8 m 45;
  changed = number 8 m 53;
  attributes = number 4 m 61;
}

abbrev decoded : ℕ → List ℕ → List ℕ → Option NewOpen → Record
decoded k m path made =
    if k == 1 then Epoch (number 4 m 1) else if k == 2 then Create (origin_in m) (number 4 m 21) (number 8 m 25) path
    (number 4 m (35 + length (utf16 path))) (number 1 m (35 + length (utf16 path) + 4) == 1)
    (number 8 m (35 + length (utf16 path) + 4 + 1)) made
    else if k == 3 then Write (origin_in m) (number 8 m 21) (number 8 m 29) (number 8 m 37)
    (bytes_at (number 4 m 45) m 49) else if k == 4 then SetEnd (origin_in m) (number 8 m 21) (number 8 m 29)
    (number 8 m 37)
    else if k == 5 then SetBasic (origin_in m) (number 8 m 21) (basic_in m) else if k == 6 then SetDelete (origin_in m)
    (number 8 m 21) (number 1 m 29 == 1)
    else if k == 7 then Rename (origin_in m) (number 8 m 21) (number 8 m 29) path else if k == 8 then Remove (origin_in m) (number 8 m 21)
    else if k == 9 then Lock (origin_in m) (number 8 m 21) (number 1 m 29) (number 1 m 30) (number 4 m 31)
    (bytes_at (24 * number 2 m 35) m 37)
    else if k == 10 then Shut (origin_in m) (number 8 m 21) else if k == 11 then Version (number 4 m 1) else Expire
    (origin_in m) (number 8 m 21)

abbrev path_in : Record → List ℕ
path_in (Epoch told_number) = []
path_in (Create origin action file path attributes directory time made) = path
path_in (Write origin file at time bytes) = []
path_in (SetEnd origin file size time) = []
path_in (SetBasic origin file basic) = []
path_in (SetDelete origin file marked) = []
path_in (Rename origin file replaced path) = path
path_in (Remove origin file) = []
path_in (Lock origin id index tried_number status elements) = []
path_in (Shut origin id) = []
path_in (Version told_number) = []
path_in (Expire origin id) = []

abbrev made_in : Record → Option NewOpen
made_in (Epoch told_number) = None
made_in (Create origin action file path attributes directory time made) = made
made_in (Write origin file at time bytes) = None
made_in (SetEnd origin file size time) = None
made_in (SetBasic origin file basic) = None
made_in (SetDelete origin file marked) = None
made_in (Rename origin file replaced path) = None
made_in (Remove origin file) = None
made_in (Lock origin id index tried_number status elements) = None
made_in (Shut origin id) = None
made_in (Version told_number) = None
made_in (Expire origin id) = None

same_origin : (m : List ℕ) (o : Origin) → number 8 m 1 ≡ o.session → number 4 m 9 ≡ o.connection → number 8 m 13
    ≡ o.message → o ≡ origin_in m
unfolding origin_in
same_origin m o session connection message =
    ap (λ (x : ℕ). record { session = x; connection = o.connection; message = o.message }) (sym session)
    ∙ ap (λ (x : ℕ). record { session = number 8 m 1; connection = x; message = o.message }) (sym connection)
    ∙ ap (λ (x : ℕ). record { session = number 8 m 1; connection = number 4 m 9; message = x }) (sym message)

same_basic : (m : List ℕ) (b : Basic) → number 8 m 29 ≡ b.created → number 8 m 37 ≡ b.accessed → number 8 m 45
    ≡ b.written → number 8 m 53 ≡ b.changed → number 4 m 61 ≡ b.attributes → b ≡ basic_in m
unfolding basic_in
same_basic m b created accessed written changed attributes =
    ap (λ (x : ℕ). record {
      created = x;
      accessed = b.accessed;
      written = b.written;
      changed = b.changed;
      attributes = b.attributes;
    }) (sym created)
    ∙ ap (λ (x : ℕ). record {
      created = number 8 m 29;
      accessed = x;
      written = b.written;
      changed = b.changed;
      attributes = b.attributes;
    }) (sym accessed)
    ∙ ap (λ (x : ℕ). record {
      created = number 8 m 29;
      accessed = number 8 m 37;
      written = x;
      changed = b.changed;
      attributes = b.attributes;
    }) (sym written)
    ∙ ap (λ (x : ℕ). record {
      created = number 8 m 29;
      accessed = number 8 m 37;
      written = number 8 m 45;
      changed = x;
      attributes = b.attributes;
    }) (sym changed)
    ∙ ap (λ (x : ℕ). record {
      created = number 8 m 29;
      accessed = number 8 m 37;
      written = number 8 m 45;
      changed = number 8 m 53;
      attributes = x;
    }) (sym attributes)

flag_told : (b : Bool) (n : ℕ) → n ≡ flag b → b ≡ (n == 1)
flag_told false n e = sym (ap (λ (x : ℕ). x == 1) e)
flag_told true n e = sym (ap (λ (x : ℕ). x == 1) e)

inside_one : (m : List ℕ) (at : ℕ) (b : List ℕ) (len : ℕ) (n : ℕ) → bytes_at len m at ≡ b → n ≡ len → b ≡ bytes_at n m at
inside_one m at b len n is e = sym is ∙ ap (λ (w : ℕ). bytes_at w m at) (sym e)

decodes : (v : ℕ) (m : List ℕ) (r : Record) → StandsRecord v m 0 r → r ≡ decoded (kind r) m (path_in r) (made_in r)
decodes v m (Epoch told_number) s =
    let k = s.fields.0 in
    let told = s.fields.1.0 in
    let rest = s.fields.1.1 in
    let all : Epoch told_number ≡ Epoch (number 4 m 1) = cc in all
decodes v m (Create origin action file path attributes directory time made) s =
    let k = s.fields.0 in
    let session = s.fields.1.0 in
    let connection = s.fields.1.1.0 in
    let message = s.fields.1.1.1.0 in
    let of = s.fields.1.1.1.1.1.0 in
    let size = s.fields.1.1.1.1.1.1.0 in
    let units = s.fields.1.1.1.1.1.1.1.0 in
    let told = s.fields.1.1.1.1.1.1.1.1.1.0 in
    let moment = s.fields.1.1.1.1.1.1.1.1.1.1.0 in
    let rest = s.fields.1.1.1.1.1.1.1.1.1.1.1 in
    let o : origin ≡ origin_in m = same_origin m origin session connection message in
    let d : directory ≡ (number 1 m (35 + length (utf16 path) + 4) == 1) = flag_told directory
    (number 1 m (35 + length (utf16 path) + 4)) told in
    let all : Create origin action file path attributes directory time made ≡ Create (origin_in m) (number 4 m 21)
    (number 8 m 25) path (number 4 m (35 + length (utf16 path))) (number 1 m (35 + length (utf16 path) + 4) == 1)
    (number 8 m (35 + length (utf16 path) + 4 + 1)) made = cc in all
decodes v m (Write origin file at time bytes) s =
    let k = s.fields.0 in
    let session = s.fields.1.0 in
    let connection = s.fields.1.1.0 in
    let message = s.fields.1.1.1.0 in
    let of = s.fields.1.1.1.1.0 in
    let moment = s.fields.1.1.1.1.1.1.0 in
    let size = s.fields.1.1.1.1.1.1.1.0 in
    let units = s.fields.1.1.1.1.1.1.1.1.0 in
    let rest = s.fields.1.1.1.1.1.1.1.1.1 in
    let o : origin ≡ origin_in m = same_origin m origin session connection message in
    let b : bytes ≡ bytes_at (number 4 m 45) m 49 = inside_one m 49 bytes (length bytes) (number 4 m 45) units size in
    let all : Write origin file at time bytes ≡ Write (origin_in m) (number 8 m 21) (number 8 m 29) (number 8 m 37)
    (bytes_at (number 4 m 45) m 49) = cc in all
decodes v m (SetEnd origin file size time) s =
    let k = s.fields.0 in
    let session = s.fields.1.0 in
    let connection = s.fields.1.1.0 in
    let message = s.fields.1.1.1.0 in
    let of = s.fields.1.1.1.1.0 in
    let rest = s.fields.1.1.1.1.1.1.1 in
    let o : origin ≡ origin_in m = same_origin m origin session connection message in
    let all : SetEnd origin file size time ≡ SetEnd (origin_in m) (number 8 m 21) (number 8 m 29) (number 8 m 37) = cc in all
decodes v m (SetBasic origin file basic) s =
    let k = s.fields.0 in
    let session = s.fields.1.0 in
    let connection = s.fields.1.1.0 in
    let message = s.fields.1.1.1.0 in
    let of = s.fields.1.1.1.1.0 in
    let created = s.fields.1.1.1.1.1.0 in
    let accessed = s.fields.1.1.1.1.1.1.0 in
    let written = s.fields.1.1.1.1.1.1.1.0 in
    let changed = s.fields.1.1.1.1.1.1.1.1.0 in
    let attributes = s.fields.1.1.1.1.1.1.1.1.1.0 in
    let rest = s.fields.1.1.1.1.1.1.1.1.1.1 in
    let o : origin ≡ origin_in m = same_origin m origin session connection message in
    let b : basic ≡ basic_in m = same_basic m basic created accessed written changed attributes in
    let all : SetBasic origin file basic ≡ SetBasic (origin_in m) (number 8 m 21) (basic_in m) = cc in all
decodes v m (SetDelete origin file marked) s =
    let k = s.fields.0 in
    let session = s.fields.1.0 in
    let connection = s.fields.1.1.0 in
    let message = s.fields.1.1.1.0 in
    let of = s.fields.1.1.1.1.0 in
    let told = s.fields.1.1.1.1.1.0 in
    let rest = s.fields.1.1.1.1.1.1 in
    let o : origin ≡ origin_in m = same_origin m origin session connection message in
    let d : marked ≡ (number 1 m 29 == 1) = flag_told marked (number 1 m 29) told in
    let all : SetDelete origin file marked ≡ SetDelete (origin_in m) (number 8 m 21) (number 1 m 29 == 1) = cc in all
decodes v m (Rename origin file replaced path) s =
    let k = s.fields.0 in
    let session = s.fields.1.0 in
    let connection = s.fields.1.1.0 in
    let message = s.fields.1.1.1.0 in
    let of = s.fields.1.1.1.1.0 in
    let units = s.fields.1.1.1.1.1.1.1.0 in
    let rest = s.fields.1.1.1.1.1.1.1.1 in
    let o : origin ≡ origin_in m = same_origin m origin session connection message in
    let all : Rename origin file replaced path ≡ Rename (origin_in m) (number 8 m 21) (number 8 m 29) path = cc in all
decodes v m (Remove origin file) s =
    let k = s.fields.0 in
    let session = s.fields.1.0 in
    let connection = s.fields.1.1.0 in
    let message = s.fields.1.1.1.0 in
    let of = s.fields.1.1.1.1.0 in
    let rest = s.fields.1.1.1.1.1 in
    let o : origin ≡ origin_in m = same_origin m origin session connection message in
    let all : Remove origin file ≡ Remove (origin_in m) (number 8 m 21) = cc in all
decodes v m (Lock origin id index tried_number status elements) s =
    let k = s.fields.0 in
    let session = s.fields.1.0 in
    let connection = s.fields.1.1.0 in
    let message = s.fields.1.1.1.0 in
    let of = s.fields.1.1.1.1.0 in
    let count = s.fields.1.1.1.1.1.1.1.1.0 in
    let units = s.fields.1.1.1.1.1.1.1.1.1.0 in
    let rest = s.fields.1.1.1.1.1.1.1.1.1.1 in
    let o : origin ≡ origin_in m = same_origin m origin session connection message in
    let e : elements ≡ bytes_at (24 * number 2 m 35) m 37 = inside_one m 37 elements (24 * (length elements / 24))
    (24 * number 2 m 35) units (ap (λ (x : ℕ). 24 * x) count) in
    let all : Lock origin id index tried_number status elements ≡ Lock (origin_in m) (number 8 m 21) (number 1 m 29)
    (number 1 m 30) (number 4 m 31) (bytes_at (24 * number 2 m 35) m 37) = cc in all
decodes v m (Shut origin id) s =
    let k = s.fields.0 in
    let session = s.fields.1.0 in
    let connection = s.fields.1.1.0 in
    let message = s.fields.1.1.1.0 in
    let of = s.fields.1.1.1.1.0 in
    let rest = s.fields.1.1.1.1.1 in
    let o : origin ≡ origin_in m = same_origin m origin session connection message in
    let all : Shut origin id ≡ Shut (origin_in m) (number 8 m 21) = cc in all
decodes v m (Version told_number) s =
    let k = s.fields.0 in
    let rest = s.fields.1.1 in
    let all : Version told_number ≡ Version (number 4 m 1) = cc in all
decodes v m (Expire origin id) s =
    let session = s.fields.1.0 in
    let connection = s.fields.1.1.0 in
    let message = s.fields.1.1.1.0 in
    let o : origin ≡ origin_in m = same_origin m origin session connection message in
    let all : Expire origin id ≡ Expire (origin_in m) (number 8 m 21) = cc in all

-- ---- texts and opens

-- the units of the path, where a record of this kind has one
path_units : ℕ → List ℕ → List ℕ
path_units k m = if k == 2 then bytes_at (number 2 m 33) m 35 else if k == 7 then bytes_at (number 2 m 37) m 39 else utf16 []

path_told : (v : ℕ) (m : List ℕ) (r : Record) → StandsRecord v m 0 r → IsUtf8 (path_in r) × (utf16 (path_in r) ≡ path_units (kind r) m)
unfolding path_units
path_told v m (Epoch told_number) s = (IsUtf8-nil, refl)
path_told v m (Create origin action file path attributes directory time made) s = let k = s.fields.0 in
    let session = s.fields.1.0 in
    let connection = s.fields.1.1.0 in
    let message = s.fields.1.1.1.0 in
    let of = s.fields.1.1.1.1.1.0 in
    let size = s.fields.1.1.1.1.1.1.0 in
    let units = s.fields.1.1.1.1.1.1.1.0 in
    let rest = s.fields.1.1.1.1.1.1.1.1 in (s.kept.0, inside_one m 35 (utf16 path) (length (utf16 path)) (number 2 m 33) units size)
path_told v m (Write origin file at time bytes) s = (IsUtf8-nil, refl)
path_told v m (SetEnd origin file size time) s = (IsUtf8-nil, refl)
path_told v m (SetBasic origin file basic) s = (IsUtf8-nil, refl)
path_told v m (SetDelete origin file marked) s = (IsUtf8-nil, refl)
path_told v m (Rename origin file replaced path) s = let size = s.fields.1.1.1.1.1.1.0 in
    let units = s.fields.1.1.1.1.1.1.1.0 in (s.kept, inside_one m 39 (utf16 path) (length (utf16 path)) (number 2 m 37) units size)
path_told v m (Remove origin file) s = (IsUtf8-nil, refl)
path_told v m (Lock origin id index tried_number status elements) s = (IsUtf8-nil, refl)
path_told v m (Shut origin id) s = (IsUtf8-nil, refl)
path_told v m (Version told_number) s = (IsUtf8-nil, refl)
path_told v m (Expire origin id) s = (IsUtf8-nil, refl)

-- what was opened, where a record of this kind tells it
made_told : (v : ℕ) (m : List ℕ) (r : Record) → StandsRecord v m 0 r
    → (kind r ≡ 2) × Stands m (35 + length (utf16 (path_in r)) + 4 + 1 + 8) (opened_table v (made_in r))
    × OpenIsKept v (made_in r) ⊎ (kind r ≡ 2 → ⊥) × (made_in r ≡ None)
made_told v m (Epoch told_number) s = inr (λ e. absurd (omega (arith, e)), refl)
made_told v m (Create origin action file path attributes directory time made) s = let size = s.fields.1.1.1.1.1.1.0 in
    let rest = s.fields.1.1.1.1.1.1.1.1.1.1.1 in inl (refl, rest, s.kept.1)
made_told v m (Write origin file at time bytes) s = inr (λ e. absurd (omega (arith, e)), refl)
made_told v m (SetEnd origin file size time) s = inr (λ e. absurd (omega (arith, e)), refl)
made_told v m (SetBasic origin file basic) s = inr (λ e. absurd (omega (arith, e)), refl)
made_told v m (SetDelete origin file marked) s = inr (λ e. absurd (omega (arith, e)), refl)
made_told v m (Rename origin file replaced path) s = inr (λ e. absurd (omega (arith, e)), refl)
made_told v m (Remove origin file) s = inr (λ e. absurd (omega (arith, e)), refl)
made_told v m (Lock origin id index tried_number status elements) s = inr (λ e. absurd (omega (arith, e)), refl)
made_told v m (Shut origin id) s = inr (λ e. absurd (omega (arith, e)), refl)
made_told v m (Version told_number) s = inr (λ e. absurd (omega (arith, e)), refl)
made_told v m (Expire origin id) s = inr (λ e. absurd (omega (arith, e)), refl)

one_timeout : (v : ℕ) (m : List ℕ) (at a b : ℕ) → Stands m at (timeout_table v a) → Stands m at (timeout_table v b)
    → IsRecordTimeout v a → IsRecordTimeout v b → a ≡ b
one_timeout v m at a b s t is other = elim (cases_eq v 1) [
  | inl first ↦ is first ∙ sym (other first)
  | inr later ↦ grind (arith, common_steps)
]

-- opens with the same fields are one
same_open : (a b : NewOpen) → a.id ≡ b.id → a.client ≡ b.client → a.guid ≡ b.guid → a.user ≡ b.user → a.access
    ≡ b.access → a.share ≡ b.share → a.options ≡ b.options → a.timeout ≡ b.timeout → a ≡ b
same_open a b id client guid user access share options timeout =
    ap (λ (x : ℕ). record {
      id = x;
      client = a.client;
      guid = a.guid;
      user = a.user;
      access = a.access;
      share = a.share;
      options = a.options;
      timeout = a.timeout;
    }) id
    ∙ ap (λ (x : List ℕ). record {
      id = b.id;
      client = x;
      guid = a.guid;
      user = a.user;
      access = a.access;
      share = a.share;
      options = a.options;
      timeout = a.timeout;
    }) client
    ∙ ap (λ (x : List ℕ). record {
      id = b.id;
      client = b.client;
      guid = x;
      user = a.user;
      access = a.access;
      share = a.share;
      options = a.options;
      timeout = a.timeout;
    }) guid
    ∙ ap (λ (x : List ℕ). record {
      id = b.id;
      client = b.client;
      guid = b.guid;
      user = x;
      access = a.access;
      share = a.share;
      options = a.options;
      timeout = a.timeout;
    }) user
    ∙ ap (λ (x : ℕ). record {
      id = b.id;
      client = b.client;
      guid = b.guid;
      user = b.user;
      access = x;
      share = a.share;
      options = a.options;
      timeout = a.timeout;
    }) access
    ∙ ap (λ (x : ℕ). record {
      id = b.id;
      client = b.client;
      guid = b.guid;
      user = b.user;
      access = b.access;
      share = x;
      options = a.options;
      timeout = a.timeout;
    }) share
    ∙ ap (λ (x : ℕ). record {
      id = b.id;
      client = b.client;
      guid = b.guid;
      user = b.user;
      access = b.access;
      share = b.share;
      options = x;
      timeout = a.timeout;
    }) options
    ∙ ap (λ (x : ℕ). record {
      id = b.id;
      client = b.client;
      guid = b.guid;
      user = b.user;
      access = b.access;
      share = b.share;
      options = b.options;
      timeout = x;
    }) timeout

one_opened : (v : ℕ) (m : List ℕ) (at : ℕ) (a b : Option NewOpen) → Stands m at (opened_table v a)
    → Stands m at (opened_table v b) → OpenIsKept v a → OpenIsKept v b → a ≡ b
one_opened v m at None None s t is other = refl
one_opened v m at None (Some b) s t is other = absurd (omega (arith, s.0, t.0))
one_opened v m at (Some a) None s t is other = absurd (omega (arith, s.0, t.0))
one_opened v m at (Some a) (Some b) s t is other =
    let id = s.1.0 in let id_too = t.1.0 in
    let client = s.1.1.0 in let client_too = t.1.1.0 in
    let guid = s.1.1.1.0 in let guid_too = t.1.1.1.0 in
    let size = s.1.1.1.1.0 in let size_too = t.1.1.1.1.0 in
    let units = s.1.1.1.1.1.0 in let units_too = t.1.1.1.1.1.0 in
    let after = s.1.1.1.1.1.1 in let after_too = t.1.1.1.1.1.1 in
    let lengths : length (utf16 a.user) ≡ length (utf16 b.user) = sym size ∙ size_too in
    let user : a.user ≡ b.user = one_text a.user b.user is.0 other.0
    (sym units ∙ ap (λ (n : ℕ). bytes_at n m (at + 1 + 8 + 16 + 16 + 2)) lengths ∙ units_too) in
    let access = after.0 in
    let share = after.1.0 in
    let options = after.1.1.0 in
    let rest = after.1.1.1 in
    let others : Stands m (at + 1 + 8 + 16 + 16 + 2 + length (utf16 a.user))
    (Num 4 b.access ∷ Num 4 b.share ∷ Num 4 b.options ∷ timeout_table v b.timeout) =
    subst (λ (n : ℕ). Stands m (at + 1 + 8 + 16 + 16 + 2 + n) (Num 4 b.access ∷ Num 4 b.share ∷ Num 4 b.options ∷
    timeout_table v b.timeout)) (sym lengths) after_too in
    let access_too = others.0 in let share_too = others.1.0 in let options_too = others.1.1.0 in let rest_too = others.1.1.1 in
    let timeout : a.timeout ≡ b.timeout = one_timeout v m (at + 1 + 8 + 16 + 16 + 2 + length (utf16 a.user) + 4 + 4 + 4)
    a.timeout b.timeout rest rest_too is.1 other.1 in
    ap Some (same_open a b (sym id ∙ id_too) (sym client ∙ client_too) (sym guid ∙ guid_too) user
    (sym access ∙ access_too) (sym share ∙ share_too) (sym options ∙ options_too) timeout)

-- ---- records and bodies

front_record : (v : ℕ) (m : List ℕ) (r s : Record) → StandsRecord v m 0 r → StandsRecord v m 0 s → r ≡ s
front_record v m r s a b =
    let kinds : kind r ≡ kind s = sym a.fields.0 ∙ b.fields.0 in
    let p = path_told v m r a in
    let q = path_told v m s b in
    let path : path_in r ≡ path_in s = one_text (path_in r) (path_in s) p.0 q.0 (p.1 ∙ ap (λ (k : ℕ). path_units k m) kinds ∙ sym q.1) in
    let made : made_in r ≡ made_in s = elim (made_told v m r a) [
      | inl x ↦ elim (made_told v m s b) [
        | inl y ↦ one_opened v m (35 + length (utf16 (path_in r)) + 4 + 1 + 8) (made_in r) (made_in s) x.1
            (subst (λ (l : List ℕ). Stands m (35 + length (utf16 l) + 4 + 1 + 8) (opened_table v (made_in s)))
            (sym path) y.1) x.2 y.2
        | inr y ↦ absurd (y.0 (sym kinds ∙ x.0))
      ]
      | inr x ↦ elim (made_told v m s b) [
        | inl y ↦ absurd (x.0 (kinds ∙ y.0))
        | inr y ↦ x.1 ∙ sym y.1
      ]
    ] in
    decodes v m r a ∙ ap (λ (k : ℕ). decoded k m (path_in r) (made_in r)) kinds
    ∙ ap (λ (l : List ℕ). decoded (kind s) m l (made_in r)) path
    ∙ ap (λ (o : Option NewOpen). decoded (kind s) m (path_in s) o) made ∙ sym (decodes v m s b)

inside_record : (v : ℕ) (m : List ℕ) (at : ℕ) (r : Record) → StandsRecord v m at r → at + 1 ≤ length m
inside_record v m at r s = let end = ends_inside m (at + 1) (record_fields v r) s.fields.1 in let later =
    ends_later (at + 1) (record_fields v r) in omega (arith, end, later)

pub one_record : (v : ℕ) (m : List ℕ) (at : ℕ) (r s : Record) → StandsRecord v m at r → StandsRecord v m at s → r ≡ s
one_record v m at r s a b =
    let inside : at ≤ length m = omega (arith, inside_record v m at r a) in
    front_record v (drop at m) r s (record_ahead v m at r inside a) (record_ahead v m at s inside b)

pub one_body : (rs ss : List Record) (v : ℕ) (m : List ℕ) (at : ℕ) → AreRecords v m at (length m) rs
    → AreRecords v m at (length m) ss → rs ≡ ss
one_body [] [] v m at a b = refl
one_body [] (s ∷ ss) v m at a b = absurd (omega (arith, a, inside_record v m at s b.0))
one_body (r ∷ rs) [] v m at a b = absurd (omega (arith, b, inside_record v m at r a.0))
one_body (r ∷ rs) (s ∷ ss) v m at a b =
    let same : r ≡ s = one_record v m at r s a.0 b.0 in
    let rest : rs ≡ ss = one_body rs ss (next_version v r) m (behind_fields at (record_table v r)) a.1
    (subst (λ (x : Record). AreRecords (next_version v x) m (behind_fields at (record_table v x)) (length m) ss) (sym same)
    b.1) in
    ap (λ (l : List Record). r ∷ l) rest ∙ ap (λ (x : Record). x ∷ ss) same

-- where a body breaks no list of records spells it
no_body : (front rs : List Record) (v : ℕ) (m : List ℕ) (at place : ℕ) → AreRecords v m at place front → place < length m
    → ((r : Record) → StandsRecord (version_behind v front) m place r → ⊥) → AreRecords v m at (length m) rs → ⊥
no_body [] [] v m at place a inside none b = omega (arith, a, b, inside)
no_body [] (r ∷ rs) v m at place a inside none b = none r (subst (λ (p : ℕ). StandsRecord v m p r) a b.0)
no_body (f ∷ front) [] v m at place a inside none b = omega (arith, b, inside_record v m at f a.0)
no_body (f ∷ front) (r ∷ rs) v m at place a inside none b =
    let same : r ≡ f = one_record v m at r f b.0 a.0 in
    no_body front rs (next_version v f) m (behind_fields at (record_table v f)) place a.1 inside none
    (subst (λ (x : Record). AreRecords (next_version v x) m (behind_fields at (record_table v x)) (length m) rs) same b.1)

pub breaks_alone : (v : ℕ) (m : List ℕ) (place : ℕ) (rs : List Record) → BreaksRecords v m place → SpellsRecords v m rs → ⊥
breaks_alone v m place rs b s = no_body b.front rs v m 0 place b.stands b.inside b.none s

one_place : (front other : List Record) (v : ℕ) (m : List ℕ) (at p q : ℕ) → AreRecords v m at p front → AreRecords v m at q other
    → ((r : Record) → StandsRecord (version_behind v front) m p r → ⊥)
    → ((r : Record) → StandsRecord (version_behind v other) m q r → ⊥) → p ≡ q
one_place [] [] v m at p q a b none nor = sym a ∙ b
one_place [] (s ∷ ss) v m at p q a b none nor = absurd (none s (subst (λ (x : ℕ). StandsRecord v m x s) a b.0))
one_place (r ∷ rs) [] v m at p q a b none nor = absurd (nor r (subst (λ (x : ℕ). StandsRecord v m x r) b a.0))
one_place (r ∷ rs) (s ∷ ss) v m at p q a b none nor =
    let same : s ≡ r = one_record v m at s r b.0 a.0 in
    let rest : AreRecords (next_version v r) m (behind_fields at (record_table v r)) q ss =
    subst (λ (x : Record). AreRecords (next_version v x) m (behind_fields at (record_table v x)) q ss) same b.1 in
    one_place rs ss (next_version v r) m (behind_fields at (record_table v r)) p q a.1 rest none
    (subst (λ (x : Record). (z : Record) → StandsRecord (version_behind (next_version v x) ss) m q z → ⊥) same nor)

pub breaks_once : (v : ℕ) (m : List ℕ) (p q : ℕ) → BreaksRecords v m p → BreaksRecords v m q → p ≡ q
breaks_once v m p q a b = one_place a.front b.front v m 0 p q a.stands b.stands a.none b.none
