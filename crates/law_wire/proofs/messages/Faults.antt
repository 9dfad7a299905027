-- What stands has no fault, and what has no fault stands.
use Rattle.std.proofs.Common.{◌≡◌, ℕ, ◌+◌, ◌*◌, ◌≤◌, ◌<◌, List, [], ◌∷◌, length, Option, Some, None, refl, sym, ap, ◌∙◌}
use Rattle.std.proofs.Common.{arith, inl, inr, ◌⊎◌}
use Rattle.std.proofs.lemmas.Grind.{common_steps}
use Rattle.spec_wire.specs.messages.Places.{bytes_at}
use Rattle.spec_wire.specs.messages.Table.{Field, Num, Raw, Any, Stands, widths, IsPart, IsCounted}
use Rattle.spec_wire.specs.messages.Fault.{◌or_else◌, short_fault, part_fault, count_fault}
use Rattle.spec_wire.specs.declared.messages.error.Part.{Part}
use Rattle.spec_wire.specs.declared.messages.error.MessageError.{MessageError}
use Rattle.spec_wire.proofs.messages.Numbers.{length-bytes_at, bytes_at-nothing}

pub no_part_fault : (m : List ℕ) (at len fixed : ℕ) (bytes : List ℕ) (part : Part) → IsPart m at len fixed bytes
    → part_fault m at len fixed part ≡ None
unfolding part_fault
no_part_fault m at len fixed bytes part is = grind (arith, common_steps)

pub no_count_fault : (m : List ℕ) (at count each : ℕ) (bytes : List ℕ) (part : Part) → IsCounted m at count each bytes
    → count_fault m at count each part ≡ None
unfolding count_fault
no_count_fault m at count each bytes part is = grind (arith, common_steps)

-- fields that stand end inside the message
pub end_of : ℕ → List Field → ℕ
end_of at [] = at
end_of at (Num w n ∷ fs) = end_of (at + w) fs
end_of at (Raw w b ∷ fs) = end_of (at + w) fs
end_of at (Any w ∷ fs) = end_of (at + w) fs

stands_inside : (m : List ℕ) (at : ℕ) (fs : List Field) → Stands m at fs → at ≤ length m
stands_inside m at [] s = s
stands_inside m at (Num w n ∷ fs) s = let later = stands_inside m (at + w) fs s.1 in omega arith
stands_inside m at (Raw w b ∷ fs) s = let later = stands_inside m (at + w) fs s.1 in omega arith
stands_inside m at (Any w ∷ fs) s = let later = stands_inside m (at + w) fs s in omega arith

pub no_short_fault : (m : List ℕ) (at : ℕ) (fs : List Field) → Stands m at fs → short_fault m at (widths fs) ≡ None
no_short_fault m at [] s = refl
no_short_fault m at (Num w n ∷ fs) s = let later = stands_inside m (at + w) fs s.1 in let rest = no_short_fault m
    (at + w) fs s.1 in grind (arith, common_steps)
no_short_fault m at (Raw w b ∷ fs) s = let later = stands_inside m (at + w) fs s.1 in let rest = no_short_fault m
    (at + w) fs s.1 in grind (arith, common_steps)
no_short_fault m at (Any w ∷ fs) s = let later = stands_inside m (at + w) fs s in let rest = no_short_fault m (at + w)
    fs s in grind (arith, common_steps)

bytes_at-fits : (m : List ℕ) (at len fixed : ℕ) → (len ≡ 0) ⊎ (fixed ≤ at) × (at + len ≤ length m) → length (bytes_at len m at) ≡ len
bytes_at-fits m at len fixed (inl none) = rw none (ap length (bytes_at-nothing m at))
bytes_at-fits m at len fixed (inr inside) = length-bytes_at len m at inside.1

part_place : (m : List ℕ) (at len fixed : ℕ) (part : Part) → part_fault m at len fixed part ≡ None → (len ≡ 0)
    ⊎ (fixed ≤ at) × (at + len ≤ length m)
unfolding part_fault
part_place m at len fixed part none = grind (arith, common_steps)

pub part_stands : (m : List ℕ) (at len fixed : ℕ) (part : Part) → part_fault m at len fixed part ≡ None
    → IsPart m at len fixed (bytes_at len m at)
part_stands m at len fixed part none =
    let place = part_place m at len fixed part none in
    record { bytes = refl; whole = bytes_at-fits m at len fixed place; place = place }

list_place : (m : List ℕ) (at count each : ℕ) (part : Part) → count_fault m at count each part ≡ None → (0 < count)
    × (at + count * each ≤ length m)
unfolding count_fault
list_place m at count each part none = grind (arith, common_steps)

pub list_stands : (m : List ℕ) (at count each : ℕ) (part : Part) → count_fault m at count each part ≡ None
    → IsCounted m at count each (bytes_at (count * each) m at)
list_stands m at count each part none =
    let place = list_place m at count each part none in
    record { bytes = refl; whole = length-bytes_at (count * each) m at place.1; some = place.0; place = place.1 }

-- of two breaks neither is there
pub none_of : (a b : Option MessageError) → (a or_else b) ≡ None → (a ≡ None) × (b ≡ None)
none_of (Some e) b none = absurd cc
none_of None b none = (refl, none)

-- a part whose bytes stand at a place, told as its place unless it is empty
pub part_told : (m part : List ℕ) (at told len fixed : ℕ) → len ≡ length part → bytes_at (length part) m at ≡ part
    → (length part ≡ 0) ⊎ (told ≡ at) × (fixed ≤ at) × (at + length part ≤ length m) → IsPart m told len fixed part
part_told m [] at told len fixed e bytes place =
    record { bytes = sym (bytes_at-nothing m told) ∙ ap (λ (x : ℕ). bytes_at x m told) (sym e); whole = sym e; place = inl e }
part_told m (x ∷ xs) at told len fixed e bytes (inl none) = absurd (omega arith)
part_told m (x ∷ xs) at told len fixed e bytes (inr inside) =
    record {
      bytes = sym bytes ∙ ap (λ (w : ℕ). bytes_at w m at) (sym e) ∙ ap (λ (p : ℕ). bytes_at len m p)
          (sym inside.0);
      whole = sym e;
      place = inr (omega arith, omega arith);
    }
