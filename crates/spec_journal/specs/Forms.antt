-- The two forms of a journal, and which bytes stand for which bodies. A journal is a mark, then for each body an open gate, the body's
-- length in four bytes and the body, and behind the last one a closed gate and any bytes. In the second form the checksum of length and
-- body stands between them.
use Rattle.std.specs.Prelude.{◌≡◌, ◌≢◌, ◌⊎◌, ℕ, ◌+◌, ◌<◌, ◌≤◌, List, [], ◌∷◌, ◌++◌, length, take, drop, get_or}
use Rattle.spec_journal.specs.Castagnoli.{crc32c}
use Rattle.spec_wire.specs.messages.Places.{le, number_of}
use Rattle.spec_wire.specs.journal.Grammar.{magic, entry, IsClosed, AllFit}
use Rattle.spec_journal.specs.declared.form.Form.{Form}
use Rattle.spec_journal.specs.declared.form.Form.TheVariants.{Plain, Summed}

-- `smb311j1`, or `smb311j2`
abbrev pub form_mark : Form → List ℕ
form_mark Plain = magic
form_mark Summed = 115 ∷ 109 ∷ 98 ∷ 51 ∷ 49 ∷ 49 ∷ 106 ∷ 50 ∷ []

-- how many bytes of an entry are its checksum
abbrev pub sum_size : Form → ℕ
sum_size Plain = 0
sum_size Summed = 4

-- of length and body together, the lowest byte first
abbrev pub form_sum : Form → List ℕ → List ℕ
form_sum Plain body = []
form_sum Summed body = le 4 (crc32c (entry body))

abbrev pub form_entry : Form → List ℕ → List ℕ
form_entry form body = le 4 (length body) ++ (form_sum form body ++ body)

-- these bodies, each behind an open gate
abbrev pub form_opened : Form → List (List ℕ) → List ℕ
form_opened form [] = []
form_opened form (body ∷ bodies) = 1 ∷ (form_entry form body ++ form_opened form bodies)

-- all that stands before the gate behind these bodies
abbrev pub form_front : Form → List (List ℕ) → List ℕ
form_front form bodies = form_mark form ++ form_opened form bodies

-- these bodies in one of the forms, a closed gate and any bytes
pub record JournalHolds (bytes : List ℕ) (bodies : List (List ℕ)) : Type 0 where
  pub form : Form
  pub gate : ℕ
  pub rest : List ℕ
  pub spelled : bytes ≡ form_front form bodies ++ gate ∷ rest
  pub closed : IsClosed gate
  pub fit : AllFit bodies

-- What bytes stand for. At most 9 bytes stand for no bodies, whatever they are.
abbrev pub StandsFor : List ℕ → List (List ℕ) → Type 0
StandsFor bytes bodies = ((length bytes ≤ 9) × (bodies ≡ [])) ⊎ JournalHolds bytes bodies

-- the bytes begin with these bodies in this form, if there are any
abbrev pub IsInForm : Form → List ℕ → List (List ℕ) → Type 0
IsInForm form bytes bodies = (bodies ≡ []) ⊎ ((rest : List ℕ) × (bytes ≡ form_front form bodies ++ rest))

-- where the gate stands of the body of this number
abbrev pub GateStands : List ℕ → List (List ℕ) → ℕ → ℕ → Type 0
GateStands bytes bodies k gate = (form : Form) × IsInForm form bytes bodies × (gate ≡ length (form_front form (take k bodies)))

-- This byte is the first that is no mark's; the marks differ in their last one alone.
pub record DiffersAt (bytes : List ℕ) (at : ℕ) : Type 0 where
  pub within : at < 8
  pub same : take at bytes ≡ take at magic
  pub other : (form : Form) → get_or bytes at 0 ≢ get_or (form_mark form) at 0

-- Behind an open gate stands no entry: the bytes end before the gate that the entry wants behind it, or its checksum is another.
abbrev pub IsNoEntry : Form → List ℕ → Type 0
IsNoEntry form rest = (length rest ≤ 4 + sum_size form + number_of (take 4 rest))
    ⊎ (take (sum_size form) (drop 4 rest) ≢ form_sum form (take (number_of (take 4 rest)) (drop (4 + sum_size form) rest)))

-- Behind these bodies stands an open gate without an entry.
pub record NoEntryAt (bytes : List ℕ) (at : ℕ) : Type 0 where
  pub form : Form
  pub bodies : List (List ℕ)
  pub rest : List ℕ
  pub spelled : bytes ≡ form_front form bodies ++ 1 ∷ rest
  pub place : at ≡ length (form_front form bodies)
  pub broken : IsNoEntry form rest
  pub fit : AllFit bodies

-- Where bytes break the grammar: the first byte that is no mark's, or the first open gate without an entry.
abbrev pub BreaksAt : List ℕ → ℕ → Type 0
BreaksAt bytes at = (9 < length bytes) × (DiffersAt bytes at ⊎ NoEntryAt bytes at)
