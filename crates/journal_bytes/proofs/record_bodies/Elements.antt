-- A number of 16 bytes by its two halves, and the elements of a lock, one after the other.
use Rattle.std.proofs.Common.{◌≡◌, ℕ, suc, ◌+◌, ◌*◌, ◌/◌, ◌<◌, ◌≤◌, List, [], ◌∷◌, ◌++◌, length, drop, ap, sym, ◌∙◌, arith}
use Rattle.std.proofs.Common.{length-drop, append_assoc}
use Rattle.std.proofs.lemmas.List.{append-nil, take_all}
use Rattle.spec_wire.specs.messages.Places.{number, number_of, bytes_at}
use Rattle.spec_wire.specs.messages.Table.{Stands}
use Rattle.spec_wire.specs.messages.Lock.{lock_element_table}
use Rattle.spec_wire.specs.declared.messages.message.LockElement.{LockElement}
use Rattle.spec_exchange.specs.Commands.{Element}
use Rattle.journal_bytes.specs.record_bytes.Meaning.{elements_in}

-- ---- GUIDs

cut : (m : List ℕ) → 8 ≤ length m → number 16 m 0 ≡ number 8 m 0 + number 8 m 8 * 0x1_0000_0000_0000_0000
unfolding number_of bytes_at
cut [] h = absurd (omega (arith, h))
cut (a ∷ []) h = absurd (omega (arith, h))
cut (a ∷ b ∷ []) h = absurd (omega (arith, h))
cut (a ∷ b ∷ c ∷ []) h = absurd (omega (arith, h))
cut (a ∷ b ∷ c ∷ d ∷ []) h = absurd (omega (arith, h))
cut (a ∷ b ∷ c ∷ d ∷ e ∷ []) h = absurd (omega (arith, h))
cut (a ∷ b ∷ c ∷ d ∷ e ∷ f ∷ []) h = absurd (omega (arith, h))
cut (a ∷ b ∷ c ∷ d ∷ e ∷ f ∷ g ∷ []) h = absurd (omega (arith, h))
cut (a ∷ b ∷ c ∷ d ∷ e ∷ f ∷ g ∷ i ∷ rest) h = omega arith

whole : (m : List ℕ) → length m ≡ 16 → number_of m ≡ number 16 m 0
unfolding bytes_at
whole m h = ap number_of (sym (take_all 16 m (omega (arith, h))))

pub guid_cut : (m : List ℕ) → length m ≡ 16 → number_of m ≡ number 8 m 0 + number 8 m 8 * 0x1_0000_0000_0000_0000
guid_cut m h = whole m h ∙ cut m (omega (arith, h))

-- ---- elements

abbrev pub element : LockElement → Element
element e = record { at = e.offset; length = e.length; flags = e.flags }

front : List ℕ → Element
front rest = record { at = number 8 rest 0; length = number 8 rest 8; flags = number 4 rest 16 }

front_is : (rest : List ℕ) (e : LockElement) → Stands rest 0 (lock_element_table e) → front rest ≡ element e
unfolding front
front_is rest e s = cc

-- the elements that bytes hold
abbrev pub all_in : List ℕ → List Element
all_in rest = elements_in (length rest / 24) rest

one_more : (rest : List ℕ) → 24 ≤ length rest → all_in rest ≡ front rest ∷ all_in (drop 24 rest)
unfolding front elements_in
one_more rest long =
    let count : length rest / 24 ≡ suc (length (drop 24 rest) / 24) = omega (arith, length-drop 24 rest) in
    ap (λ (n : ℕ). elements_in n rest) count

pub elements_go_on : (all rest : List ℕ) (es : List Element) (e : LockElement) → Stands rest 0 (lock_element_table e)
    → all_in all ≡ es ++ all_in rest → all_in all ≡ (es ++ element e ∷ []) ++ all_in (drop 24 rest)
elements_go_on all rest es e s is =
    is ∙ ap (λ (l : List Element). es ++ l) (one_more rest (omega arith) ∙ ap (λ (x : Element). x ∷ all_in (drop 24
    rest)) (front_is rest e s)) ∙ sym (append_assoc es (element e ∷ []) (all_in (drop 24 rest)))

pub elements_end : (all rest : List ℕ) (es : List Element) → length rest < 24 → all_in all ≡ es ++ all_in rest → all_in
    all ≡ es
unfolding elements_in
elements_end all rest es short is =
    let count : length rest / 24 ≡ 0 = omega arith in
    is ∙ ap (λ (n : ℕ). es ++ elements_in n rest) count ∙ append-nil es
