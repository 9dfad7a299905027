use Rattle.std.proofs.Common.{◌≡◌, ℕ, Bool, true, false, refl, inl, inr, ◌+◌, ◌≤◌, ◌⊎◌, ◌++◌, List, length, None, arith}
use Rattle.std.specs.Prelude.{◌==◌, if◌then◌else◌}
use Rattle.std.proofs.lemmas.Grind.{common_steps}
use Rattle.spec_wire.specs.messages.Places.{number, bytes_at, gap_to_8}
use Rattle.spec_wire.specs.messages.Fault.{◌or_else◌, fields_fault, size_fault, part_fault}
use Rattle.spec_wire.specs.declared.messages.error.Part.TheVariants.{Name, Contexts}
use Rattle.spec_wire.specs.messages.Create.{create_request_table, create_request_in, create_request_whole}
use Rattle.spec_wire.specs.messages.Create.{create_request_spelling, contexts_place, contexts_gap}
use Rattle.law_wire.proofs.messages.Rows.{table_again}
use Rattle.law_wire.proofs.messages.Faults.{no_part_fault, part_stands, part_told, none_of}
use Rattle.law_wire.proofs.messages.create.create_request_law.Goals as goal

pub returns-clause-whole : goal.returns-clause-whole
returns-clause-whole c = λ m v p.
    let name : part_fault m (number 2 m 108) (number 2 m 110) 120 Name ≡ None = no_part_fault m _ _ _ _ Name p.name in
    let contexts : part_fault m (number 4 m 112) (number 4 m 116) 120 Contexts ≡ None = no_part_fault m _ _ _ _ Contexts p.contexts in
    grind (arith, common_steps)

pub returns-clause-given : goal.returns-clause-given
returns-clause-given c = λ m none.
    let fields = fields_fault m (create_request_table (create_request_in m) (number 2 m 108) (number 4 m 112)) or_else size_fault m 57 in
    let front = fields or_else part_fault m (number 2 m 108) (number 2 m 110) 120 Name in
    let split = none_of front (part_fault m (number 4 m 112) (number 4 m 116) 120 Contexts) none in
    let earlier = none_of fields (part_fault m (number 2 m 108) (number 2 m 110) 120 Name) split.0 in
    let name = part_stands m (number 2 m 108) (number 2 m 110) 120 Name earlier.1 in
    let contexts = part_stands m (number 4 m 112) (number 4 m 116) 120 Contexts split.1 in
    record { fixed = grind (arith, common_steps); name = name; contexts = contexts }

-- where there are contexts, their place is the one that is told
told_place : (empty : Bool) (name contexts gap total : ℕ) → (empty ≡ true → contexts ≡ 0)
    → 120 + name + (if empty then 0 else gap) + contexts ≤ total
    → (contexts ≡ 0) ⊎ ((if empty then 0 else 120 + name + gap) ≡ 120 + name + (if empty then 0 else gap))
    × (120 ≤ 120 + name + (if empty then 0 else gap)) × (120 + name + (if empty then 0 else gap) + contexts ≤ total)
told_place true name contexts gap total none inside = inl (none refl)
told_place false name contexts gap total none inside = inr (refl, omega arith, inside)

none_where : (n : ℕ) → (n == 0) ≡ true → n ≡ 0
none_where n e = grind (arith, common_steps)

pub returns-clause-again : goal.returns-clause-again
returns-clause-again c = λ header rest v e fit.
    let m : List ℕ = header ++ (create_request_spelling v ++ rest) in
    let row = table_again (create_request_whole v) header rest 64 e fit in
    let at : ℕ = 120 + length v.name + contexts_gap v in
    let told : number 4 m 112 ≡ contexts_place v = grind (arith, common_steps) in
    let len : number 4 m 116 ≡ length v.contexts = grind (arith, common_steps) in
    let bytes : bytes_at (length v.contexts) m at ≡ v.contexts = grind (arith, common_steps) in
    let inside : at + length v.contexts ≤ length m = grind (arith, common_steps) in
    let place : (length v.contexts ≡ 0) ⊎ (contexts_place v ≡ at) × (120 ≤ at) × (at + length v.contexts ≤ length m) =
    told_place (length v.contexts == 0) (length v.name) (length v.contexts) (gap_to_8 (length v.name)) (length m)
    (none_where (length v.contexts)) inside in
    record {
      fixed = grind (arith, common_steps);
      name = record { bytes = grind (arith, common_steps); whole = grind (arith, common_steps); place = grind (arith, common_steps) };
      contexts = rw told (part_told m v.contexts at (contexts_place v) (number 4 m 116) 120 len bytes place);
    }
