-- What is read of a disk, gate by gate.
use Rattle.std.proofs.Common.{◌≡◌, inl, inr, ℕ, Bool, true, false, ◌==◌, ◌+◌, ◌*◌, ◌/◌, ◌%◌, ◌^◌, ◌<◌, ◌≤◌, List, [], ◌∷◌, ◌++◌, length, take, drop}
use Rattle.std.proofs.Common.{get_or, refl, sym, ◌∙◌, ap, subst, arith, append_assoc, length-append, length-drop}
use Rattle.std.proofs.Common.{take-append-drop}
use Rattle.std.proofs.lemmas.Bool.Decides.{nat_tests}
use Rattle.std.proofs.lemmas.List.{take_at, drop_at, drop-drop, length-take-le, take-append-le, take_more, take-take}
use Rattle.std.proofs.lemmas.List.{get_or_append_left, get_or-take}
use Rattle.spec_wire.specs.messages.Places.{le, number_of}
use Rattle.spec_wire.proofs.messages.Numbers.{number_of-le}
use Rattle.spec_journal.specs.Castagnoli.{behind_bytes, crc32c}
use Rattle.spec_wire.specs.journal.Grammar.{magic, entry, front, AllFit}
use Rattle.spec_journal.specs.declared.form.Form.{Form}
use Rattle.spec_journal.specs.declared.form.Form.TheVariants.{Plain, Summed}
use Rattle.journal.specs.declared.disk_journal.read.Look.{Look}
use Rattle.journal.specs.declared.disk_journal.read.Look.TheVariants.{Closed, Entry, NoEntry}
use Rattle.spec_journal.specs.Forms.{form_mark, sum_size, form_sum, form_entry, form_front, DiffersAt, NoEntryAt}
use Rattle.journal.specs.disk_journal.Read.{HeadShows, JournalShows, SumIs, ReadTo, EndsWith}
use Rattle.journal.proofs.disk_journal.Grown.{all_fit_push, front-push, length-front-push, length-plain-push}
use Rattle.journal.proofs.disk_journal.Lists.{take_sum}

-- four bytes and the number that they spell
pub le_4 : (a b c d : ℕ) → a < 256 → b < 256 → c < 256 → d < 256 → le 4 (a + 256 * b + 65536 * c + 16777216 * d) ≡ a ∷ b ∷ c ∷ d ∷ []
unfolding le
le_4 a b c d la lb lc ld =
    let n = a + 256 * b + 65536 * c + 16777216 * d in
    let first : n % 256 ≡ a = omega arith in
    let n1 : n / 256 ≡ b + 256 * c + 65536 * d = omega arith in
    let second : (b + 256 * c + 65536 * d) % 256 ≡ b = omega arith in
    let n2 : (b + 256 * c + 65536 * d) / 256 ≡ c + 256 * d = omega arith in
    let third : (c + 256 * d) % 256 ≡ c = omega arith in
    let n3 : (c + 256 * d) / 256 ≡ d = omega arith in
    let fourth : d % 256 ≡ d = omega arith in
    rw (first, n1, second, n2, third, n3, fourth) refl

-- one read more of a buffer
pub fill_more : (bytes buffer piece rest : List ℕ) (at done count : ℕ) → done ≤ length buffer → take done buffer
    ≡ take done (drop at bytes) → count ≤ length piece → take count piece ≡ take count (drop (at + done) bytes)
    → take (done + count) (take done buffer ++ (piece ++ rest)) ≡ take (done + count) (drop at bytes)
fill_more bytes buffer piece rest at done count fits so_far within read =
    let long : length (take done buffer) ≡ done = length-take-le done buffer fits in
    take_sum done count (done + count) (take done buffer ++ (piece ++ rest)) refl
    ∙ ap (λ (l : List ℕ). l ++ take count (drop done (take done buffer ++ (piece ++ rest))))
    (take_at (take done buffer) (piece ++ rest) done long ∙ so_far)
    ∙ ap (λ (l : List ℕ). take done (drop at bytes) ++ take count l) (drop_at (take done buffer) (piece ++ rest) done long)
    ∙ ap (λ (l : List ℕ). take done (drop at bytes) ++ l) (take-append-le count piece rest within ∙ read
    ∙ ap (λ (l : List ℕ). take count l) (sym (drop-drop done at bytes)))
    ∙ sym (take_sum done count (done + count) (drop at bytes) refl)

five : (head : List ℕ) → length head ≡ 5 → head ≡ get_or head 0 0 ∷ get_or head 1 0 ∷ get_or head 2 0 ∷ get_or head 3 0
    ∷ get_or head 4 0 ∷ []
five [] long = absurd (omega arith)
five (a ∷ []) long = absurd (omega arith)
five (a ∷ b ∷ []) long = absurd (omega arith)
five (a ∷ b ∷ c ∷ []) long = absurd (omega arith)
five (a ∷ b ∷ c ∷ d ∷ []) long = absurd (omega arith)
five (a ∷ b ∷ c ∷ d ∷ e ∷ []) long = refl
five (a ∷ b ∷ c ∷ d ∷ e ∷ f ∷ rest) long = absurd (omega arith)

-- what the first bytes tell where the entry ends before its end
pub shows_early : (form : Form) (m head : List ℕ) (n k left : ℕ) → k ≡ sum_size form → get_or head 0 0 ≡ 1 → length head ≡ 5 → le 4 n
    ≡ get_or head 1 0 ∷ get_or head 2 0 ∷ get_or head 3 0 ∷ get_or head 4 0 ∷ [] → n < 2 ^ 32 → left ≤ 5 + k + n
    → length m ≡ left → 5 ≤ left → take (length head) m ≡ head → HeadShows form m NoEntry
shows_early form [] head n k left sum is_open long spelled small early size some front = absurd (omega arith)
shows_early form (gate ∷ rest) head n k left sum is_open long spelled small early size some front =
    let fives : gate ∷ take 4 rest ≡ get_or head 0 0 ∷ get_or head 1 0 ∷ get_or head 2 0 ∷ get_or head 3 0 ∷ get_or head
    4 0 ∷ [] = ap (λ (k : ℕ). take k (gate ∷ rest)) (sym long) ∙ front ∙ five head long in
    let gate_is : gate ≡ get_or head 0 0 = cc in
    let four : take 4 rest ≡ get_or head 1 0 ∷ get_or head 2 0 ∷ get_or head 3 0 ∷ get_or head 4 0 ∷ [] = cc in
    let value : number_of (take 4 rest) ≡ n = ap number_of (four ∙ sym spelled) ∙ number_of-le 4 n small in
    (gate_is ∙ is_open, omega arith)

-- and where it ends in time
pub shows_entry : (form : Form) (m head : List ℕ) (n k left : ℕ) → k ≡ sum_size form → get_or head 0 0 ≡ 1 → length head ≡ 5 → le 4 n
    ≡ get_or head 1 0 ∷ get_or head 2 0 ∷ get_or head 3 0 ∷ get_or head 4 0 ∷ [] → n < 2 ^ 32 → 5 + k + n < left
    → length m ≡ left → take (length head) m ≡ head → HeadShows form m (Entry n)
shows_entry form [] head n k left sum is_open long spelled small fits size front = absurd (omega arith)
shows_entry form (gate ∷ rest) head n k left sum is_open long spelled small fits size front =
    let fives : gate ∷ take 4 rest ≡ get_or head 0 0 ∷ get_or head 1 0 ∷ get_or head 2 0 ∷ get_or head 3 0 ∷ get_or head
    4 0 ∷ [] = ap (λ (k : ℕ). take k (gate ∷ rest)) (sym long) ∙ front ∙ five head long in
    let gate_is : gate ≡ get_or head 0 0 = cc in
    let four : take 4 rest ≡ get_or head 1 0 ∷ get_or head 2 0 ∷ get_or head 3 0 ∷ get_or head 4 0 ∷ [] = cc in
    (gate_is ∙ is_open, small, omega arith, spelled ∙ sym four)

-- an entry behind a gate, and the rest behind it
split_entry : (form : Form) (rest : List ℕ) (n : ℕ) → 4 + sum_size form + n < length rest → le 4 n ≡ take 4 rest
    → take (sum_size form) (drop 4 rest) ≡ form_sum form (take n (drop (4 + sum_size form) rest))
    → rest ≡ form_entry form (take n (drop (4 + sum_size form) rest)) ++ drop n (drop (4 + sum_size form) rest)
split_entry form rest n fits spelled summed =
    let k : ℕ = sum_size form in
    let back : List ℕ = drop (4 + k) rest in
    let body : List ℕ = take n back in
    let size : length body ≡ n = length-take-le n back (omega (arith, fits, length-drop (4 + k) rest)) in
    let tail : List ℕ = drop n back in
    sym (take-append-drop 4 rest)
    ∙ ap (λ (l : List ℕ). l ++ drop 4 rest) (sym spelled ∙ ap (λ (i : ℕ). le 4 i) (sym size))
    ∙ ap (λ (l : List ℕ). le 4 (length body) ++ l) (sym (take-append-drop k (drop 4 rest))
    ∙ ap (λ (l : List ℕ). l ++ drop k (drop 4 rest)) summed
    ∙ ap (λ (l : List ℕ). form_sum form body ++ l) (drop-drop k 4 rest ∙ sym (take-append-drop n back))
    ∙ sym (append_assoc (form_sum form body) body tail))
    ∙ sym (append_assoc (le 4 (length body)) (form_sum form body ++ body) tail)

read_entry : (form : Form) (bytes rest : List ℕ) (bodies : List (List ℕ)) (gate used count n k : ℕ) → k ≡ sum_size form
    → bytes ≡ form_front form bodies ++ rest → gate ≡ length (form_front form bodies) → used ≡ length (front bodies) + 1
    → count ≡ length bodies → AllFit bodies → JournalShows form rest (Entry n)
    → ReadTo form bytes (gate + (5 + k + n)) (used + (5 + n)) (count + 1)
read_entry form bytes [] bodies gate used count n k sum spelled place told number fit shows = absurd shows
read_entry form bytes (g ∷ rest) bodies gate used count n k sum spelled place told number fit shows =
    let head = shows.0 in
    let back : List ℕ = drop (4 + sum_size form) rest in
    let body : List ℕ = take n back in
    let size : length body ≡ n = length-take-le n back (omega (arith, head.2, length-drop (4 + sum_size form) rest)) in
    record {
      bodies = bodies ++ body ∷ [];
      rest = drop n back;
      spelled = spelled ∙ ap (λ (i : ℕ). form_front form bodies ++ i ∷ rest) head.0 ∙ ap (λ (l : List ℕ). form_front form bodies ++ 1 ∷ l)
          (split_entry form rest n head.2 head.3 shows.1) ∙ front-push form bodies body (drop n back);
      place = omega (arith, place, size, sum, length-front-push form bodies body);
      told = omega (arith, told, size, length-plain-push bodies body);
      number = omega (arith, number, length-append bodies (body ∷ []));
      fit = all_fit_push bodies body fit (omega (arith, size, head.1));
    }

rest_at : (form : Form) (bytes rest : List ℕ) (bodies : List (List ℕ)) (gate : ℕ) → bytes ≡ form_front form bodies ++ rest → gate
    ≡ length (form_front form bodies) → drop gate bytes ≡ rest
rest_at form bytes rest bodies gate spelled place = ap (λ (l : List ℕ). drop gate l) spelled
    ∙ drop_at (form_front form bodies) rest gate (sym place)

pub read_more : (form : Form) (bytes : List ℕ) (gate used count n k : ℕ) → k ≡ sum_size form → ReadTo form bytes gate used count
    → JournalShows form (drop gate bytes) (Entry n) → ReadTo form bytes (gate + (5 + k + n)) (used + (5 + n)) (count + 1)
read_more form bytes gate used count n k sum so_far shows =
    read_entry form bytes so_far.rest so_far.bodies gate used count n k sum so_far.spelled so_far.place so_far.told so_far.number so_far.fit
    (subst (λ (l : List ℕ). JournalShows form l (Entry n)) (rest_at form bytes so_far.rest so_far.bodies gate so_far.spelled
    so_far.place) shows)

closed_gate : (form : Form) (bytes rest : List ℕ) (bodies : List (List ℕ)) (gate used count : ℕ) → bytes ≡ form_front form bodies ++ rest
    → gate ≡ length (form_front form bodies) → used ≡ length (front bodies) + 1 → count ≡ length bodies → AllFit bodies
    → JournalShows form rest Closed → EndsWith form bytes gate used count
closed_gate form bytes [] bodies gate used count spelled place told number fit shows = absurd shows
closed_gate form bytes (g ∷ rest) bodies gate used count spelled place told number fit shows = record {
  bodies = bodies;
  shut = g;
  rest = rest;
  spelled = spelled;
  closed = shows;
  place = place;
  told = told;
  number = number;
  fit = fit;
}

pub read_closed : (form : Form) (bytes : List ℕ) (gate used count : ℕ) → ReadTo form bytes gate used count
    → JournalShows form (drop gate bytes) Closed → EndsWith form bytes gate used count
read_closed form bytes gate used count so_far shows =
    closed_gate form bytes so_far.rest so_far.bodies gate used count so_far.spelled so_far.place so_far.told so_far.number so_far.fit
    (subst (λ (l : List ℕ). JournalShows form l Closed) (rest_at form bytes so_far.rest so_far.bodies gate so_far.spelled
    so_far.place) shows)

no_gate : (form : Form) (bytes rest : List ℕ) (bodies : List (List ℕ)) (gate : ℕ) → bytes ≡ form_front form bodies ++ rest → gate
    ≡ length (form_front form bodies) → AllFit bodies → JournalShows form rest NoEntry → NoEntryAt bytes gate
no_gate form bytes [] bodies gate spelled place fit shows = absurd shows
no_gate form bytes (g ∷ rest) bodies gate spelled place fit shows = record {
  form = form;
  bodies = bodies;
  rest = rest;
  spelled = spelled ∙ ap (λ (k : ℕ). form_front form bodies ++ k ∷ rest) shows.0;
  place = place;
  broken = shows.1;
  fit = fit;
}

pub read_none : (form : Form) (bytes : List ℕ) (gate used count : ℕ) → ReadTo form bytes gate used count
    → JournalShows form (drop gate bytes) NoEntry → NoEntryAt bytes gate
read_none form bytes gate used count so_far shows =
    no_gate form bytes so_far.rest so_far.bodies gate so_far.spelled so_far.place so_far.fit
    (subst (λ (l : List ℕ). JournalShows form l NoEntry) (rest_at form bytes so_far.rest so_far.bodies gate so_far.spelled
    so_far.place) shows)

pub read_mark : (form : Form) (bytes : List ℕ) → take 8 bytes ≡ form_mark form → ReadTo form bytes 8 9 0
read_mark Plain bytes is = record {
  bodies = [];
  rest = drop 8 bytes;
  spelled = sym (take-append-drop 8 bytes) ∙ ap (λ (l : List ℕ). l ++ drop 8 bytes) is;
  place = refl;
  told = refl;
  number = refl;
  fit = tt;
}
read_mark Summed bytes is = record {
  bodies = [];
  rest = drop 8 bytes;
  spelled = sym (take-append-drop 8 bytes) ∙ ap (λ (l : List ℕ). l ++ drop 8 bytes) is;
  place = refl;
  told = refl;
  number = refl;
  fit = tt;
}

pub shows_there : (form : Form) (now start : List ℕ) (gate n : ℕ) (l : Look) → now ≡ start → l ≡ Entry n
    → JournalShows form (drop gate now) l → JournalShows form (drop gate start) (Entry n)
shows_there form now start gate n l same is shows =
    subst (λ (k : Look). JournalShows form (drop gate start) k) is (subst (λ (b : List ℕ). JournalShows form (drop gate b) l) same shows)

-- ---- checksums

-- one part more of a range
pub sum_more : (bytes : List ℕ) (first left at done part now : ℕ) → left ≡ behind_bytes first (take done (drop at bytes))
    → now ≡ behind_bytes left (take part (drop (at + done) bytes))
    → ((l : ℕ) (a b : List ℕ) → behind_bytes l (a ++ b) ≡ behind_bytes (behind_bytes l a) b)
    → now ≡ behind_bytes first (take (done + part) (drop at bytes))
sum_more bytes first left at done part now so_far is parts =
    is ∙ ap (λ (l : ℕ). behind_bytes l (take part (drop (at + done) bytes))) so_far
    ∙ sym (parts first (take done (drop at bytes)) (take part (drop (at + done) bytes)))
    ∙ ap (λ (l : List ℕ). behind_bytes first (take done (drop at bytes) ++ take part l)) (sym (drop-drop done at bytes))
    ∙ ap (λ (l : List ℕ). behind_bytes first l) (sym (take_sum done part (done + part) (drop at bytes) refl))

sum_by : (rest : List ℕ) (n told value : ℕ) → le 4 told ≡ take 4 (drop 4 rest) → told < 2 ^ 32 → value < 2 ^ 32
    → value ≡ crc32c (take 4 rest ++ take n (drop 8 rest)) → (b : Bool) → (value == told) ≡ b → SumIs rest n b
sum_by rest n told value spelled small less is true e =
    let same : told ≡ value = grind (arith, nat_tests) in
    sym spelled ∙ ap (λ (k : ℕ). le 4 k) (same ∙ is)
sum_by rest n told value spelled small less is false e = λ same.
    let told_value : told ≡ value =
    sym (number_of-le 4 told small) ∙ ap number_of (spelled ∙ same ∙ ap (λ (k : ℕ). le 4 k) (sym is)) ∙ number_of-le 4 value less in
    absurd (grind (arith, nat_tests))

-- what a comparison of the two tells
pub sum_is : (bytes : List ℕ) (gate n told value : ℕ) → le 4 told ≡ take 4 (drop (gate + 5) bytes) → told < 2 ^ 32 → value < 2 ^ 32
    → value ≡ crc32c (take 4 (drop (gate + 1) bytes) ++ take n (drop (gate + 9) bytes)) → SumIs (drop (gate + 1) bytes) n (value == told)
sum_is bytes gate n told value spelled small less is =
    let rest : List ℕ = drop (gate + 1) bytes in
    let four : drop 4 rest ≡ drop (gate + 5) bytes = drop-drop 4 (gate + 1) bytes ∙ ap (λ (k : ℕ). drop k bytes) (omega arith) in
    let eight : drop 8 rest ≡ drop (gate + 9) bytes = drop-drop 8 (gate + 1) bytes ∙ ap (λ (k : ℕ). drop k bytes) (omega arith) in
    sum_by rest n told value (spelled ∙ ap (λ (l : List ℕ). take 4 l) (sym four)) small less
    (is ∙ ap (λ (l : List ℕ). crc32c (take 4 rest ++ take n l)) (sym eight)) (value == told) refl

-- an entry of the first form has no checksum
no_sum : (rest : List ℕ) (n : ℕ) → take 0 (drop 4 rest) ≡ []
no_sum rest n = refl

pub plain_shows : (rest : List ℕ) (n : ℕ) → HeadShows Plain rest (Entry n) → JournalShows Plain rest (Entry n)
plain_shows [] n shows = shows
plain_shows (gate ∷ rest) n shows = (shows, no_sum rest n)

pub closed_shows : (form : Form) (rest : List ℕ) → HeadShows form rest Closed → JournalShows form rest Closed
closed_shows form [] shows = shows
closed_shows form (gate ∷ rest) shows = shows

pub none_shows : (form : Form) (rest : List ℕ) → HeadShows form rest NoEntry → JournalShows form rest NoEntry
none_shows form [] shows = shows
none_shows form (gate ∷ rest) shows = (shows.0, inl shows.1)

-- of the second form one
its_sum : (rest : List ℕ) (n : ℕ) → n < 2 ^ 32 → 8 + n < length rest → le 4 n ≡ take 4 rest
    → crc32c (take 4 rest ++ take n (drop 8 rest)) ≡ crc32c (entry (take n (drop 8 rest)))
its_sum rest n small fits spelled =
    let size : length (take n (drop 8 rest)) ≡ n = length-take-le n (drop 8 rest) (omega (arith, fits, length-drop 8 rest)) in
    ap (λ (l : List ℕ). crc32c (l ++ take n (drop 8 rest))) (sym spelled ∙ ap (λ (k : ℕ). le 4 k) (sym size))

pub summed_shows : (bytes : List ℕ) (gate n : ℕ) → HeadShows Summed (drop gate bytes) (Entry n) → SumIs (drop (gate + 1) bytes) n true
    → JournalShows Summed (drop gate bytes) (Entry n)
summed_shows bytes gate n shows sum = by (drop gate bytes) (sym (drop-drop 1 gate bytes)) shows
  where
    by : (l : List ℕ) → drop (gate + 1) bytes ≡ drop 1 l → HeadShows Summed l (Entry n) → JournalShows Summed l (Entry n)
    by [] is h = h
    by (g ∷ rest) is h =
        let here : SumIs rest n true = subst (λ (l : List ℕ). SumIs l n true) is sum in
        (h, here ∙ ap (λ (k : ℕ). le 4 k) (its_sum rest n h.1 h.2 h.3))

pub unsummed_shows : (bytes : List ℕ) (gate n : ℕ) → HeadShows Summed (drop gate bytes) (Entry n) → SumIs (drop (gate + 1) bytes) n false
    → JournalShows Summed (drop gate bytes) NoEntry
unsummed_shows bytes gate n shows sum = by (drop gate bytes) (sym (drop-drop 1 gate bytes)) shows
  where
    by : (l : List ℕ) → drop (gate + 1) bytes ≡ drop 1 l → HeadShows Summed l (Entry n) → JournalShows Summed l NoEntry
    by [] is h = h
    by (g ∷ rest) is h =
        let here : SumIs rest n false = subst (λ (l : List ℕ). SumIs l n false) is sum in
        let value : number_of (take 4 rest) ≡ n = ap number_of (sym h.3) ∙ number_of-le 4 n h.1 in (
          h.0,
          inr (λ same. here (same ∙ ap (λ (k : ℕ). form_sum Summed (take k (drop 8 rest))) value
              ∙ ap (λ (k : ℕ). le 4 k) (sym (its_sum rest n h.1 h.2 h.3)))),
        )

pub sum_few : (form : Form) → sum_size form ≤ 4
sum_few Plain = omega arith
sum_few Summed = omega arith

-- ---- marks

-- the marks are alike but for their last byte
alike : (form : Form) (i : ℕ) → i < 7 → get_or (form_mark form) i 0 ≡ get_or magic i 0
alike Plain i less = refl
alike Summed i less = get_or_append_left (115 ∷ 109 ∷ 98 ∷ 51 ∷ 49 ∷ 49 ∷ 106 ∷ []) (50 ∷ []) 0 i less
    ∙ sym (get_or_append_left (115 ∷ 109 ∷ 98 ∷ 51 ∷ 49 ∷ 49 ∷ 106 ∷ []) (49 ∷ []) 0 i less)

pub differs_in : (m head : List ℕ) (i : ℕ) → i < 7 → 8 ≤ length m → take 8 m ≡ head → take i head ≡ take i magic
    → (get_or head i 0 ≡ get_or magic i 0 → ⊥) → DiffersAt m i
differs_in m head i less long is same other = record {
  within = omega arith;
  same = shorter i m less ∙ ap (λ (l : List ℕ). take i l) is ∙ same;
  other = λ form e. other (ap (λ (l : List ℕ). get_or l i 0) (sym is) ∙ get_or-take 8 m i 0 (omega arith) ∙ e ∙ alike form i less);
}
  where
    shorter : (i : ℕ) (m : List ℕ) → i < 7 → take i m ≡ take i (take 8 m)
    shorter i m less = sym (take-take i 8 m (omega arith))

eighth : (m : List ℕ) → 8 ≤ length m → take 8 m ≡ take 7 m ++ get_or m 7 0 ∷ []
eighth m long = take_more m 7 0 (omega arith)

pub plain_mark : (m : List ℕ) → 8 ≤ length m → take 7 m ≡ take 7 magic → get_or m 7 0 ≡ 49 → take 8 m ≡ form_mark Plain
plain_mark m long front last = eighth m long ∙ ap (λ (l : List ℕ). l ++ get_or m 7 0 ∷ []) front
    ∙ ap (λ (k : ℕ). take 7 magic ++ k ∷ []) last

pub summed_mark : (m : List ℕ) → 8 ≤ length m → take 7 m ≡ take 7 magic → get_or m 7 0 ≡ 50 → take 8 m ≡ form_mark Summed
summed_mark m long front last = eighth m long ∙ ap (λ (l : List ℕ). l ++ get_or m 7 0 ∷ []) front
    ∙ ap (λ (k : ℕ). take 7 magic ++ k ∷ []) last

pub no_mark : (m : List ℕ) (last : ℕ) → take 7 m ≡ take 7 magic → get_or m 7 0 ≡ last → (last ≡ 49 → ⊥) → (last ≡ 50 → ⊥) → DiffersAt m 7
no_mark m last front is other other2 = record { within = omega arith; same = front; other = by }
  where
    by : (form : Form) → get_or m 7 0 ≡ get_or (form_mark form) 7 0 → ⊥
    by Plain e = other (sym is ∙ e)
    by Summed e = other2 (sym is ∙ e)
