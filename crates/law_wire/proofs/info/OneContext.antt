-- One create context: it stands once, breaks nothing, and reads back as it was written.
use Rattle.std.proofs.Common.{◌≡◌, ℕ, ◌+◌, ◌≤◌, ◌⊎◌, Bool, true, false, List, [], ◌++◌, length, take, Option, Some}
use Rattle.std.proofs.Common.{None, refl, sym, ap, ◌∙◌, arith, inl, inr}
use Rattle.std.specs.Prelude.{◌==◌, nat_lt, if◌then◌else◌}
use Rattle.std.proofs.lemmas.Grind.{common_steps}
use Rattle.std.proofs.lemmas.List.{length-take}
use Rattle.spec_wire.specs.messages.Places.{number, bytes_at}
use Rattle.spec_wire.specs.messages.Table.{AreWritable, IsPart}
use Rattle.spec_wire.specs.messages.Aligned.{told, aligned_gap}
use Rattle.spec_wire.specs.messages.Chain.{is_badly_linked, piece}
use Rattle.spec_wire.specs.messages.CreateContexts.{CreateContext, IsContext, HasLength, context_fault, first_fault, is_outside}
use Rattle.spec_wire.specs.messages.CreateContexts.{length_fault, context_in, context_whole, context_spelling}
use Rattle.spec_wire.specs.declared.messages.chain_error.ChainError.{ChainError}
use Rattle.spec_wire.proofs.messages.Numbers.{length-bytes_at, bytes_at-nothing}
use Rattle.law_wire.proofs.messages.Rows.{table_again}
use Rattle.law_wire.proofs.messages.Faults.{part_told}
use Rattle.law_wire.proofs.messages.Told.{told_stands}

pub same_context : (due : List ℕ → Option ℕ) (m : List ℕ) (v w : CreateContext) → IsContext due m v → IsContext due m w → v ≡ w
same_context due m v w s t =
    let name : v.name ≡ w.name = s.name.bytes ∙ sym t.name.bytes in
    let value : v.value ≡ w.value = s.value.bytes ∙ sym t.value.bytes in
    ap (λ (n : List ℕ). record { name = n; value = v.value }) name ∙ ap (λ (x : List ℕ). record { name = w.name; value = x }) value

inside : (m part : List ℕ) (at len : ℕ) → IsPart m at len 16 part → is_outside m at len ≡ false
unfolding is_outside
inside m part at len is = grind (arith, common_steps)

outside_place : (m : List ℕ) (at len : ℕ) → is_outside m at len ≡ false → (len ≡ 0) ⊎ (16 ≤ at) × (at + len ≤ length m)
unfolding is_outside
outside_place m at len e = grind (arith, common_steps)

fits_or_nothing : (m : List ℕ) (at len : ℕ) → (len ≡ 0) ⊎ (16 ≤ at) × (at + len ≤ length m) → length (bytes_at len m at) ≡ len
fits_or_nothing m at len (inl none) = rw none (ap length (bytes_at-nothing m at))
fits_or_nothing m at len (inr in_it) = length-bytes_at len m at in_it.1

part_in : (m : List ℕ) (at len : ℕ) → is_outside m at len ≡ false → IsPart m at len 16 (bytes_at len m at)
part_in m at len e =
    let place = outside_place m at len e in
    record { bytes = refl; whole = fits_or_nothing m at len place; place = place }

due_length : (due : Option ℕ) (name : List ℕ) (len : ℕ) → HasLength due len → length_fault due name len ≡ None
unfolding length_fault
due_length None name len h = refl
due_length (Some d) name len h = rw h (grind (arith, common_steps))

length_due : (due : Option ℕ) (name : List ℕ) (len : ℕ) → length_fault due name len ≡ None → HasLength due len
unfolding length_fault
length_due None name len e = tt
length_due (Some d) name len e = grind (arith, common_steps)

no_context_fault : (long outside_name outside_value : Bool) (short : Option ChainError) (rest : Option ChainError)
    → long ≡ false → outside_name ≡ false → outside_value ≡ false → rest ≡ None
    → (if long then short else if outside_name then short else if outside_value then short else rest) ≡ None
no_context_fault long outside_name outside_value short rest a b c d = rw (a, b, c, d) refl

not_short : (m : List ℕ) → 16 ≤ length m → nat_lt (length m) 16 ≡ false
not_short m le = grind (arith, common_steps)

pub whole_context : (due : List ℕ → Option ℕ) (m : List ℕ) (v : CreateContext) → IsContext due m v → context_fault due m ≡ None
unfolding context_fault
whole_context due m v is =
    let long : 16 ≤ length m = grind (arith, common_steps) in
    let name = inside m v.name (number 2 m 4) (number 2 m 6) is.name in
    let value = inside m v.value (number 2 m 10) (number 4 m 12) is.value in
    let size : HasLength (due (bytes_at (number 2 m 6) m (number 2 m 4))) (number 4 m 12) = rw (sym is.name.bytes) is.size in
    let fit = due_length (due (bytes_at (number 2 m 6) m (number 2 m 4))) (bytes_at (number 2 m 6) m (number 2 m 4)) (number 4 m 12) size in
    rw (not_short m long, name, value, fit) refl

pub given_context : (due : List ℕ → Option ℕ) (m : List ℕ) → context_fault due m ≡ None → IsContext due m (context_in m)
unfolding context_fault
given_context due m none =
    let long : 16 ≤ length m = grind (arith, common_steps) in
    let name : is_outside m (number 2 m 4) (number 2 m 6) ≡ false = grind (arith, common_steps) in
    let value : is_outside m (number 2 m 10) (number 4 m 12) ≡ false = grind (arith, common_steps) in
    let fit : length_fault (due (bytes_at (number 2 m 6) m (number 2 m 4))) (bytes_at (number 2 m 6) m (number 2 m 4))
    (number 4 m 12) ≡ None = grind (arith, common_steps) in
    let name_part = part_in m (number 2 m 4) (number 2 m 6) name in
    let value_part = part_in m (number 2 m 10) (number 4 m 12) value in
    record {
      fixed = grind (arith, common_steps);
      name = name_part;
      value = value_part;
      size = length_due (due (bytes_at (number 2 m 6) m (number 2 m 4))) (bytes_at (number 2 m 6) m (number 2 m 4)) (number 4 m 12) fit;
    }

pub again_context : (due : List ℕ → Option ℕ) (rest : List ℕ) (v : CreateContext) (next : ℕ)
    → AreWritable (context_whole v next) → HasLength (due v.name) (length v.value)
    → IsContext due (context_spelling v next ++ rest) v
again_context due rest v next fit size =
    let m : List ℕ = context_spelling v next ++ rest in
    let row = table_again (context_whole v next) [] rest 0 refl fit in
    let value_at : ℕ = 16 + length v.name + aligned_gap (length v.value) (length v.name) in
    let value_told : number 2 m 10 ≡ told (length v.value) value_at = grind (arith, common_steps) in
    let value_len : number 4 m 12 ≡ length v.value = grind (arith, common_steps) in
    let value_bytes : bytes_at (length v.value) m value_at ≡ v.value = grind (arith, common_steps) in
    let value_inside : value_at + length v.value ≤ length m = grind (arith, common_steps) in
    record {
      fixed = grind (arith, common_steps);
      name = record { bytes = grind (arith, common_steps); whole = grind (arith, common_steps); place = grind (arith, common_steps) };
      value = rw value_told (part_told m v.value value_at (told (length v.value) value_at) (number 4 m 12) 16 value_len
          value_bytes (told_stands (length v.value) value_at 16 (length m) (omega arith) value_inside));
      size = rw value_len size;
    }

longer : (m : List ℕ) (last : Bool) (next : ℕ) → 16 ≤ length (if last then m else take next m) → 16 ≤ length m
longer m true next le = le
longer m false next le = omega (arith, length-take next m)

pub whole_first : (due : List ℕ → Option ℕ) (m : List ℕ) (v : CreateContext) → is_badly_linked m ≡ false
    → IsContext due (piece m) v → first_fault due m ≡ None
unfolding first_fault piece
whole_first due m v link is =
    let whole = whole_context due (piece m) v is in
    let long : 16 ≤ length (piece m) = grind (arith, common_steps) in
    let all : 16 ≤ length m = longer m (number 4 m 0 == 0) (number 4 m 0) long in
    rw (not_short m all, link) whole

pub no_context : (due : List ℕ → Option ℕ) (v : CreateContext) → IsContext due [] v → ⊥
no_context due v is = grind (arith, common_steps)
