-- What is told of an entry by its head, and then by its checksum; and what the first bytes tell.
use Rattle.std.proofs.Common.{◌≡◌, ℕ, Bool, true, false, ◌==◌, ◌+◌, ◌^◌, ◌<◌, List, [], ◌∷◌, ◌++◌, length, take, drop, get_or}
use Rattle.std.proofs.Common.{refl, sym, ◌∙◌, ap, subst, arith}
use Rattle.std.proofs.lemmas.List.{drop-drop, drop-take, get_or-take, take-take}
use Rattle.std.specs.Int.Bits.{bit_xor}
use Rattle.spec_wire.specs.messages.Places.{le}
use Rattle.spec_wire.specs.journal.Grammar.{magic}
use Rattle.spec_journal.specs.Castagnoli.{behind_bytes, crc32c}
use Rattle.spec_journal.specs.declared.form.Form.{Form}
use Rattle.spec_journal.specs.declared.form.Form.TheVariants.{Plain, Summed}
use Rattle.journal.specs.declared.disk_journal.read.Look.{Look}
use Rattle.journal.specs.declared.disk_journal.read.Look.TheVariants.{Closed, Entry, NoEntry}
use Rattle.journal.specs.disk_journal.Read.{FitsBefore, HeadShows, JournalShows, SumIs}
use Rattle.journal.proofs.checksum.Eight.{are_eight}
use Rattle.journal.proofs.checksum.Steps.{in_parts}
use Rattle.journal.proofs.disk_journal.Gates.{closed_shows, none_shows, plain_shows, sum_is, summed_shows, unsummed_shows}

-- ---- an entry

of_form : (form given : Form) (rest : List ℕ) (look : Look) (n : ℕ) → form ≡ given → look ≡ Entry n → HeadShows form rest look
    → HeadShows given rest (Entry n)
of_form form given rest look n is entry shows =
    subst (λ (k : Look). HeadShows given rest k) entry (subst (λ (f : Form). HeadShows f rest look) is shows)

pub plainly : (form : Form) (rest : List ℕ) (look : Look) (n : ℕ) → form ≡ Plain → look ≡ Entry n → HeadShows form rest look
    → JournalShows form rest (Entry n)
plainly form rest look n is entry shows =
    subst (λ (f : Form). JournalShows f rest (Entry n)) (sym is) (plain_shows rest n (of_form form Plain rest look n is entry shows))

pub with_sum : (form : Form) (bytes : List ℕ) (gate n : ℕ) (look : Look) (b : Bool) → form ≡ Summed → look ≡ Entry n
    → HeadShows form (drop gate bytes) look → b ≡ true → SumIs (drop (gate + 1) bytes) n b → JournalShows form (drop gate bytes) (Entry n)
with_sum form bytes gate n look b is entry shows whole sum =
    subst (λ (f : Form). JournalShows f (drop gate bytes) (Entry n)) (sym is)
    (summed_shows bytes gate n (of_form form Summed (drop gate bytes) look n is entry shows)
    (subst (λ (c : Bool). SumIs (drop (gate + 1) bytes) n c) whole sum))

pub without_sum : (form : Form) (bytes : List ℕ) (gate n : ℕ) (look : Look) (b : Bool) → form ≡ Summed → look ≡ Entry n
    → HeadShows form (drop gate bytes) look → b ≡ false → SumIs (drop (gate + 1) bytes) n b → JournalShows form (drop gate bytes) NoEntry
without_sum form bytes gate n look b is entry shows other sum =
    subst (λ (f : Form). JournalShows f (drop gate bytes) NoEntry) (sym is)
    (unsummed_shows bytes gate n (of_form form Summed (drop gate bytes) look n is entry shows)
    (subst (λ (c : Bool). SumIs (drop (gate + 1) bytes) n c) other sum))

pub shut : (form : Form) (rest : List ℕ) (look : Look) → look ≡ Closed → HeadShows form rest look → JournalShows form rest Closed
shut form rest look is shows = closed_shows form rest (subst (λ (k : Look). HeadShows form rest k) is shows)

pub no_entry : (form : Form) (rest : List ℕ) (look : Look) → look ≡ NoEntry → HeadShows form rest look → JournalShows form rest NoEntry
no_entry form rest look is shows = none_shows form rest (subst (λ (k : Look). HeadShows form rest k) is shows)

-- an entry of the second form has its checksum within the disk
pub room_for_sum : (form : Form) (gate end n : ℕ) (look : Look) → form ≡ Summed → look ≡ Entry n → FitsBefore form gate end look
    → gate + 9 + n < end
room_for_sum form gate end n look is entry fits =
    let there : FitsBefore Summed gate end (Entry n) =
    subst (λ (k : Look). FitsBefore Summed gate end k) entry (subst (λ (f : Form). FitsBefore f gate end look) is fits) in
    omega (arith, there)

-- ---- a checksum

four_more : (head : List ℕ) → length head ≡ 8 → take 4 (drop 4 head) ≡ get_or head 4 0 ∷ get_or head 5 0 ∷ get_or head 6 0 ∷ get_or head 7 0 ∷ []
four_more head long = ap (λ (l : List ℕ). take 4 (drop 4 l)) (are_eight head long)

is_crc : (l : List ℕ) (left value : ℕ) → value ≡ bit_xor left 0xffff_ffff → behind_bytes 0xffff_ffff l ≡ left → value ≡ crc32c l
unfolding crc32c
is_crc l left value ends behind = ends ∙ ap (λ (x : ℕ). bit_xor x 0xffff_ffff) (sym behind)

-- the eight bytes behind a gate are an entry's length and its checksum
pub sum_from : (bytes head : List ℕ) (gate n told left value : ℕ) → length head ≡ 8 → head ≡ take 8 (drop (gate + 1) bytes)
    → le 4 told ≡ get_or head 4 0 ∷ get_or head 5 0 ∷ get_or head 6 0 ∷ get_or head 7 0 ∷ [] → told < 2 ^ 32 → value < 2 ^ 32
    → left ≡ behind_bytes (behind_bytes 0xffff_ffff (take 4 head)) (take n (drop (gate + 9) bytes))
    → value ≡ bit_xor left 0xffff_ffff → SumIs (drop (gate + 1) bytes) n (value == told)
sum_from bytes head gate n told left value long is spelled small less summed ends =
    let rest : List ℕ = drop (gate + 1) bytes in
    let five : take 4 (drop 4 rest) ≡ take 4 (drop (gate + 5) bytes) =
    ap (λ (l : List ℕ). take 4 l) (drop-drop 4 (gate + 1) bytes ∙ ap (λ (k : ℕ). drop k bytes) (omega arith)) in
    let back : take 4 (drop 4 head) ≡ take 4 (drop 4 rest) =
    ap (λ (l : List ℕ). take 4 (drop 4 l)) is ∙ ap (λ (l : List ℕ). take 4 l) (drop-take 4 4 rest) ∙ take-take 4 4 (drop 4 rest) (omega arith) in
    let front : take 4 head ≡ take 4 rest = ap (λ (l : List ℕ). take 4 l) is ∙ take-take 4 8 rest (omega arith) in
    let body : List ℕ = take n (drop (gate + 9) bytes) in
    sum_is bytes gate n told value (spelled ∙ sym (four_more head long) ∙ back ∙ five) small less
    (is_crc (take 4 rest ++ body) left value ends (in_parts 0xffff_ffff (take 4 rest) body
    ∙ ap (λ (l : List ℕ). behind_bytes (behind_bytes 0xffff_ffff l) body) (sym front) ∙ sym summed))

pub none_more : (left : ℕ) → left ≡ behind_bytes left []
unfolding behind_bytes
none_more left = refl

-- ---- a mark

pub eighth_is : (m head : List ℕ) → take 8 m ≡ head → get_or m 7 0 ≡ get_or head 7 0
eighth_is m head is = sym (get_or-take 8 m 7 0 (omega arith)) ∙ ap (λ (l : List ℕ). get_or l 7 0) is

pub seven_are : (m head : List ℕ) → take 8 m ≡ head → take 7 head ≡ take 7 magic → take 7 m ≡ take 7 magic
seven_are m head is same = sym (take-take 7 8 m (omega arith)) ∙ ap (λ (l : List ℕ). take 7 l) is ∙ same

-- ---- a gate

pub shows_as : (form : Form) (now start : List ℕ) (gate : ℕ) (l k : Look) → now ≡ start → l ≡ k → JournalShows form (drop gate now) l
    → JournalShows form (drop gate start) k
shows_as form now start gate l k same is shows =
    subst (λ (b : List ℕ). JournalShows form (drop gate b) k) same (subst (λ (j : Look). JournalShows form (drop gate now) j) is shows)
