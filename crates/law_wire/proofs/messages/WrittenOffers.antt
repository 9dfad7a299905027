-- The contexts that are written for an offer: they fit, none stands twice, and they tell the offer.
use Rattle.std.proofs.Common.{◌≡◌, ℕ, ◌+◌, ◌*◌, ◌^◌, ◌<◌, ◌≤◌, Bool, true, false, List, [], ◌∷◌, ◌++◌, length, Option}
use Rattle.std.proofs.Common.{Some, None, refl, sym, ap, ◌∙◌, arith, append_assoc, length-append}
use Rattle.std.specs.Prelude.{◌==◌, nat_lt, nat_le, if◌then◌else◌}
use Rattle.std.proofs.lemmas.Grind.{common_steps}
use Rattle.std.proofs.lemmas.List.{append-nil}
use Rattle.spec_wire.specs.messages.Places.{le, number, number_of}
use Rattle.spec_wire.specs.messages.Contexts.{Context, contexts_end, contexts_in}
use Rattle.spec_wire.specs.messages.Offer.{OfferValue, ids_at, lists_fit, all_fit, first_of, ids_in, is_there, has_id, offer_of}
use Rattle.spec_wire.specs.messages.Offer.{doubled, offer_fault, ids_spelling, preauth_ids, ids_contexts, offer_contexts}
use Rattle.spec_wire.specs.messages.Offer.{offer_count, offer_spelling}
use Rattle.spec_wire.proofs.messages.Numbers.{length-le, number_of-le, bytes_at-behind}
use Rattle.law_wire.specs.messages.Offers.{AreIds, IsWritableOffer}
use Rattle.law_wire.proofs.messages.WrittenContexts.{AreFit, written_in, written_end}

length-ids : (ids : List ℕ) → length (ids_spelling ids) ≡ 2 * length ids
length-ids [] = refl
length-ids (x ∷ xs) = omega (arith, length-append (le 2 x) (ids_spelling xs), length-le 2 x, length-ids xs)

-- ids that stand behind a front are read again
ids_again : (ids front rest : List ℕ) (at : ℕ) → at ≡ length front → AreIds ids
    → ids_at (front ++ (ids_spelling ids ++ rest)) at (length ids) ≡ ids
unfolding ids_at
ids_again [] front rest at e fit = refl
ids_again (x ∷ xs) front rest at e fit =
    let m : List ℕ = front ++ (ids_spelling (x ∷ xs) ++ rest) in
    let parts : m ≡ front ++ (le 2 x ++ (ids_spelling xs ++ rest)) = ap (λ (l : List ℕ). front ++ l)
    (append_assoc (le 2 x) (ids_spelling xs) rest) in
    let here : number 2 m at ≡ x = ap (λ (l : List ℕ). number 2 l at) parts
    ∙ ap number_of (bytes_at-behind 2 front (le 2 x) (ids_spelling xs ++ rest) at e (length-le 2 x))
    ∙ number_of-le 2 x fit.0 in
    let behind : at + 2 ≡ length (front ++ le 2 x) = omega (arith, e, length-append front (le 2 x), length-le 2 x) in
    let later : ids_at m (at + 2) (length xs) ≡ xs =
    ap (λ (l : List ℕ). ids_at l (at + 2) (length xs))
    (parts ∙ sym (append_assoc front (le 2 x) (ids_spelling xs ++ rest))) ∙ ids_again xs (front ++ le 2 x) rest
    (at + 2) behind fit.1 in
    ap (λ (k : ℕ). k ∷ ids_at m (at + 2) (length xs)) here ∙ ap (λ (l : List ℕ). x ∷ l) later

-- a count and its ids
abbrev counted : List ℕ → List ℕ
counted ids = le 2 (length ids) ++ ids_spelling ids

count_first : (n : ℕ) (rest : List ℕ) → n < 256 ^ 2 → number 2 (le 2 n ++ rest) 0 ≡ n
count_first n rest fits = ap number_of (bytes_at-behind 2 [] (le 2 n) rest 0 refl (length-le 2 n)) ∙ number_of-le 2 n fits

counted_ids : (ids : List ℕ) → AreIds ids → length ids < 32767 → ids_at (counted ids) 2 (number 2 (counted ids) 0) ≡ ids
counted_ids ids fit few =
    let size : ids_spelling ids ++ [] ≡ ids_spelling ids = append-nil (ids_spelling ids) in
    ap (ids_at (counted ids) 2) (count_first (length ids) (ids_spelling ids) (omega (arith, few)))
    ∙ ap (λ (l : List ℕ). ids_at (le 2 (length ids) ++ l) 2 (length ids)) (sym size) ∙ ids_again ids (le 2 (length ids))
    [] 2 (omega (arith, length-le 2 (length ids))) fit

is_at_most : (a b : ℕ) → a ≤ b → nat_le a b ≡ true
is_at_most a b le = grind (arith, common_steps)

counted_fits : (ids : List ℕ) → length ids < 32767 → nat_le (2 + 2 * number 2 (counted ids) 0) (length (counted ids)) ≡ true
counted_fits ids few =
    let count = count_first (length ids) (ids_spelling ids) (omega (arith, few)) in
    is_at_most _ _ (omega (arith, count, length-append (le 2 (length ids)) (ids_spelling ids), length-le 2 (length ids), length-ids ids))

counted_small : (ids : List ℕ) → length ids < 32767 → length (counted ids) < 256 ^ 2
counted_small ids few = omega (arith, few, length-append (le 2 (length ids)) (ids_spelling ids), length-le 2 (length ids), length-ids ids)

-- what the preauthentication context tells
abbrev salted : List ℕ → List ℕ → List ℕ
salted hashes salt = le 2 (length hashes) ++ (le 2 (length salt) ++ (ids_spelling hashes ++ salt))

length-salted : (hashes salt : List ℕ) → length (salted hashes salt) ≡ 4 + 2 * length hashes + length salt
length-salted hashes salt =
    omega (
      arith,
      length-append (ids_spelling hashes) salt,
      length-append (le 2 (length salt)) (ids_spelling hashes ++ salt),
      length-append (le 2 (length hashes)) (le 2 (length salt) ++ (ids_spelling hashes ++ salt)),
      length-le 2 (length hashes),
      length-le 2 (length salt),
      length-ids hashes,
    )

salted_size : (hashes salt : List ℕ) → length salt ≡ 32 → number 2 (salted hashes salt) 2 ≡ length salt
salted_size hashes salt e =
    ap number_of (bytes_at-behind 2 (le 2 (length hashes)) (le 2 (length salt)) (ids_spelling hashes ++ salt) 2
    (sym (length-le 2 (length hashes))) (length-le 2 (length salt))) ∙ number_of-le 2 (length salt)
    (omega (arith, e))

salted_ids : (hashes salt : List ℕ) → AreIds hashes → length hashes ≤ 1 → ids_at (salted hashes salt) 4
    (number 2 (salted hashes salt) 0) ≡ hashes
salted_ids hashes salt fit few =
    let front : List ℕ = le 2 (length hashes) ++ le 2 (length salt) in
    let parts : salted hashes salt ≡ front ++ (ids_spelling hashes ++ salt) =
    sym (append_assoc (le 2 (length hashes)) (le 2 (length salt)) (ids_spelling hashes ++ salt)) in
    ap (ids_at (salted hashes salt) 4)
    (count_first (length hashes) (le 2 (length salt) ++ (ids_spelling hashes ++ salt)) (omega (arith, few)))
    ∙ ap (λ (l : List ℕ). ids_at l 4 (length hashes)) parts
    ∙ ids_again hashes front salt 4 (omega (
      arith,
      length-append (le 2 (length hashes)) (le 2 (length salt)),
      length-le 2 (length hashes),
      length-le 2 (length salt),
    )) fit

salted_fits : (hashes salt : List ℕ) → length salt ≡ 32 → length hashes ≤ 1
    → nat_le (4 + 2 * number 2 (salted hashes salt) 0 + number 2 (salted hashes salt) 2) (length (salted hashes salt))
    ≡ true
salted_fits hashes salt e few =
    let count = count_first (length hashes) (le 2 (length salt) ++ (ids_spelling hashes ++ salt)) (omega (arith, few)) in
    is_at_most _ _ (omega (arith, count, salted_size hashes salt e, length-salted hashes salt))

-- The contexts for a preauthentication context, where there is one, and two lists. All that is said of them is by
-- which of the three are there.
abbrev written : Bool → List ℕ → List ℕ → List ℕ → List Context
written preauth bytes ciphers signings = (if preauth then record { kind = 1; bytes = bytes } ∷ [] else [])
    ++ (ids_contexts 2 ciphers ++ ids_contexts 8 signings)

none_doubled : (preauth : Bool) (bytes ciphers signings : List ℕ) → doubled [] (written preauth bytes ciphers signings) ≡ None
unfolding doubled has_id
none_doubled false bytes [] [] = refl
none_doubled false bytes [] (d ∷ ds) = refl
none_doubled false bytes (c ∷ cs) [] = refl
none_doubled false bytes (c ∷ cs) (d ∷ ds) = refl
none_doubled true bytes [] [] = refl
none_doubled true bytes [] (d ∷ ds) = refl
none_doubled true bytes (c ∷ cs) [] = refl
none_doubled true bytes (c ∷ cs) (d ∷ ds) = refl

first_preauth : (preauth : Bool) (bytes ciphers signings : List ℕ) → first_of 1 (written preauth bytes ciphers signings)
    ≡ (if preauth then Some (record { kind = 1; bytes = bytes }) else None)
unfolding first_of
first_preauth false bytes [] [] = refl
first_preauth false bytes [] (d ∷ ds) = refl
first_preauth false bytes (c ∷ cs) [] = refl
first_preauth false bytes (c ∷ cs) (d ∷ ds) = refl
first_preauth true bytes [] [] = refl
first_preauth true bytes [] (d ∷ ds) = refl
first_preauth true bytes (c ∷ cs) [] = refl
first_preauth true bytes (c ∷ cs) (d ∷ ds) = refl

first_ciphers : (preauth : Bool) (bytes ciphers signings : List ℕ) → AreIds ciphers → length ciphers < 32767
    → ids_in (first_of 2 (written preauth bytes ciphers signings)) ≡ ciphers
unfolding first_of
first_ciphers false bytes [] [] fit few = refl
first_ciphers false bytes [] (d ∷ ds) fit few = refl
first_ciphers false bytes (c ∷ cs) [] fit few = counted_ids (c ∷ cs) fit few
first_ciphers false bytes (c ∷ cs) (d ∷ ds) fit few = counted_ids (c ∷ cs) fit few
first_ciphers true bytes [] [] fit few = refl
first_ciphers true bytes [] (d ∷ ds) fit few = refl
first_ciphers true bytes (c ∷ cs) [] fit few = counted_ids (c ∷ cs) fit few
first_ciphers true bytes (c ∷ cs) (d ∷ ds) fit few = counted_ids (c ∷ cs) fit few

first_signings : (preauth : Bool) (bytes ciphers signings : List ℕ) → AreIds signings → length signings < 32767
    → ids_in (first_of 8 (written preauth bytes ciphers signings)) ≡ signings
unfolding first_of
first_signings false bytes [] [] fit few = refl
first_signings false bytes [] (d ∷ ds) fit few = counted_ids (d ∷ ds) fit few
first_signings false bytes (c ∷ cs) [] fit few = refl
first_signings false bytes (c ∷ cs) (d ∷ ds) fit few = counted_ids (d ∷ ds) fit few
first_signings true bytes [] [] fit few = refl
first_signings true bytes [] (d ∷ ds) fit few = counted_ids (d ∷ ds) fit few
first_signings true bytes (c ∷ cs) [] fit few = refl
first_signings true bytes (c ∷ cs) (d ∷ ds) fit few = counted_ids (d ∷ ds) fit few

all_lists_fit : (preauth : Bool) (bytes ciphers signings : List ℕ) → lists_fit (record { kind = 1; bytes = bytes })
    ≡ true → length ciphers < 32767 → length signings < 32767 → all_fit (written preauth bytes ciphers signings) ≡ true
unfolding all_fit
all_lists_fit false bytes [] [] is few small = refl
all_lists_fit false bytes [] (d ∷ ds) is few small = rw (counted_fits (d ∷ ds) small) refl
all_lists_fit false bytes (c ∷ cs) [] is few small = rw (counted_fits (c ∷ cs) few) refl
all_lists_fit false bytes (c ∷ cs) (d ∷ ds) is few small = rw (counted_fits (c ∷ cs) few, counted_fits (d ∷ ds) small) refl
all_lists_fit true bytes [] [] is few small = rw (is) refl
all_lists_fit true bytes [] (d ∷ ds) is few small = rw (is, counted_fits (d ∷ ds) small) refl
all_lists_fit true bytes (c ∷ cs) [] is few small = rw (is, counted_fits (c ∷ cs) few) refl
all_lists_fit true bytes (c ∷ cs) (d ∷ ds) is few small = rw (is, counted_fits (c ∷ cs) few, counted_fits (d ∷ ds) small) refl

are_fit : (preauth : Bool) (bytes ciphers signings : List ℕ) → length bytes < 256 ^ 2 → length ciphers < 32767
    → length signings < 32767 → AreFit (written preauth bytes ciphers signings)
are_fit false bytes [] [] is few small = tt
are_fit false bytes [] (d ∷ ds) is few small = ((omega arith, counted_small (d ∷ ds) small), tt)
are_fit false bytes (c ∷ cs) [] is few small = ((omega arith, counted_small (c ∷ cs) few), tt)
are_fit false bytes (c ∷ cs) (d ∷ ds) is few small = (
  (omega arith, counted_small (c ∷ cs) few),
  ((omega arith, counted_small (d ∷ ds) small), tt),
)
are_fit true bytes [] [] is few small = ((omega arith, is), tt)
are_fit true bytes [] (d ∷ ds) is few small = ((omega arith, is), ((omega arith, counted_small (d ∷ ds) small), tt))
are_fit true bytes (c ∷ cs) [] is few small = ((omega arith, is), ((omega arith, counted_small (c ∷ cs) few), tt))
are_fit true bytes (c ∷ cs) (d ∷ ds) is few small =
    ((omega arith, is), ((omega arith, counted_small (c ∷ cs) few), ((omega arith, counted_small (d ∷ ds) small), tt)))

how_many : (preauth : Bool) (bytes ciphers signings : List ℕ) → length (written preauth bytes ciphers signings)
    ≡ (if preauth then 1 else 0) + ((if length ciphers == 0 then 0 else 1) + (if length signings == 0 then 0 else 1))
how_many false bytes [] [] = grind (arith, common_steps)
how_many false bytes [] (d ∷ ds) = grind (arith, common_steps)
how_many false bytes (c ∷ cs) [] = grind (arith, common_steps)
how_many false bytes (c ∷ cs) (d ∷ ds) = grind (arith, common_steps)
how_many true bytes [] [] = grind (arith, common_steps)
how_many true bytes [] (d ∷ ds) = grind (arith, common_steps)
how_many true bytes (c ∷ cs) [] = grind (arith, common_steps)
how_many true bytes (c ∷ cs) (d ∷ ds) = grind (arith, common_steps)

few_hashes : (sha512 : Bool) → length {A = ℕ} (if sha512 then 1 ∷ [] else []) ≤ 1
few_hashes true = omega arith
few_hashes false = omega arith

hash_ids : (sha512 : Bool) → AreIds (if sha512 then 1 ∷ [] else [])
hash_ids true = (omega arith, tt)
hash_ids false = tt

names_hash : (sha512 : Bool) → has_id 1 (if sha512 then 1 ∷ [] else []) ≡ sha512
unfolding has_id
names_hash true = refl
names_hash false = refl

-- SHA-512 is told where there is a preauthentication context
hash_told : (sha512 preauth : Bool) (salt : List ℕ) → (sha512 ≡ true → preauth ≡ true)
    → has_id 1 (ids_in (if preauth then Some (record { kind = 1; bytes = salted (if sha512 then 1 ∷ [] else []) salt })
    else None)) ≡ sha512
unfolding has_id
hash_told sha512 true salt with_hash = ap (has_id 1) (salted_ids (if sha512 then 1 ∷ [] else []) salt (hash_ids sha512)
    (few_hashes sha512)) ∙ names_hash sha512
hash_told true false salt with_hash = let e : false ≡ true = with_hash refl in absurd cc
hash_told false false salt with_hash = refl

there_told : (preauth : Bool) (c : Context) → is_there (if preauth then Some c else None) ≡ preauth
there_told true c = refl
there_told false c = refl

no_fault : (bytes : List ℕ) (count : ℕ) (cs : List Context) → contexts_in bytes 0 count ≡ cs
    → contexts_end bytes 0 count ≤ length bytes → all_fit cs ≡ true → doubled [] cs ≡ None → offer_fault bytes count
    ≡ None
no_fault bytes count cs e inside all none =
    let few : nat_lt (length bytes) (contexts_end bytes 0 count) ≡ false = grind (arith, common_steps) in
    rw (few, e, all, none) refl

pub contexts_again : (v : OfferValue) (salt rest : List ℕ) → IsWritableOffer v salt
    → (contexts_in (offer_spelling v salt ++ rest) 0 (offer_count v) ≡ offer_contexts v salt)
    × (contexts_end (offer_spelling v salt ++ rest) 0 (offer_count v) ≡ length (offer_spelling v salt))
contexts_again v salt rest w =
    let bytes : List ℕ = salted (preauth_ids v) salt in
    let small : length bytes < 256 ^ 2 = omega (arith, length-salted (preauth_ids v) salt, w.salted, few_hashes v.sha512) in
    let fit = are_fit v.preauth bytes v.ciphers v.signings small w.few_ciphers w.few_signings in
    let count = how_many v.preauth bytes v.ciphers v.signings in (
      ap (λ (n : ℕ). contexts_in (offer_spelling v salt ++ rest) 0 n) (sym count) ∙ written_in (offer_contexts v salt) [] rest fit,
      ap (λ (n : ℕ). contexts_end (offer_spelling v salt ++ rest) 0 n) (sym count) ∙ written_end (offer_contexts v salt) [] rest fit,
    )

pub offer_whole : (v : OfferValue) (salt rest : List ℕ) → IsWritableOffer v salt
    → offer_fault (offer_spelling v salt ++ rest) (offer_count v) ≡ None
offer_whole v salt rest w =
    let bytes : List ℕ = salted (preauth_ids v) salt in
    let facts = contexts_again v salt rest w in
    no_fault (offer_spelling v salt ++ rest) (offer_count v) (offer_contexts v salt) facts.0
    (omega (arith, facts.1, length-append (offer_spelling v salt) rest))
    (all_lists_fit v.preauth bytes v.ciphers v.signings (salted_fits (preauth_ids v) salt w.salted
    (few_hashes v.sha512)) w.few_ciphers w.few_signings)
    (none_doubled v.preauth bytes v.ciphers v.signings)

pub offer_again : (v : OfferValue) (salt rest : List ℕ) → IsWritableOffer v salt
    → offer_of (contexts_in (offer_spelling v salt ++ rest) 0 (offer_count v)) ≡ v
offer_again v salt rest w =
    let bytes : List ℕ = salted (preauth_ids v) salt in
    let cs : List Context = offer_contexts v salt in
    let preauth = first_preauth v.preauth bytes v.ciphers v.signings in
    let hash : has_id 1 (ids_in (first_of 1 cs)) ≡ v.sha512 = ap (λ (o : Option Context). has_id 1 (ids_in o)) preauth
    ∙ hash_told v.sha512 v.preauth salt w.hash in
    let there : is_there (first_of 1 cs) ≡ v.preauth = ap is_there preauth ∙ there_told v.preauth (record { kind = 1; bytes = bytes }) in
    let ciphers : ids_in (first_of 2 cs) ≡ v.ciphers = first_ciphers v.preauth bytes v.ciphers v.signings w.ciphers w.few_ciphers in
    let signings : ids_in (first_of 8 cs) ≡ v.signings = first_signings v.preauth bytes v.ciphers v.signings w.signings w.few_signings in
    ap offer_of (contexts_again v salt rest w).0
    ∙ ap {B = OfferValue} (λ (b : Bool). record {
      sha512 = b;
      preauth = is_there (first_of 1 cs);
      ciphers = ids_in (first_of 2 cs);
      signings = ids_in (first_of 8 cs);
    }) hash
    ∙ ap {B = OfferValue} (λ (b : Bool). record {
      sha512 = v.sha512;
      preauth = b;
      ciphers = ids_in (first_of 2 cs);
      signings = ids_in (first_of 8 cs);
    }) there
    ∙ ap {B = OfferValue} (λ (l : List ℕ). record {
      sha512 = v.sha512;
      preauth = v.preauth;
      ciphers = l;
      signings = ids_in (first_of 8 cs);
    }) ciphers
    ∙ ap {B = OfferValue} (λ (l : List ℕ). record { sha512 = v.sha512; preauth = v.preauth; ciphers = v.ciphers; signings = l }) signings
