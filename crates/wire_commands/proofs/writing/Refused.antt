-- What kept a part from being written keeps the whole from it.
use Rattle.std.proofs.Common.{◌≡◌, ℕ, Bool, true, false, List, Result, Ok, Err, ◌∙◌}
use Rattle.wire_commands.specs.declared.writing.fault.WriteError.{WriteError}
use Rattle.wire_commands.specs.declared.writing.fault.WriteError.TheVariants.{Memory, Unwritable}
use Rattle.wire_commands.specs.writing.Writing.{IsBodyRefused, BodyWrites}

pub refused : (fits part : Type 0) (e : WriteError) → (fits → part) → IsBodyRefused part e → IsBodyRefused fits e
refused fits part Memory needs no_part = tt
refused fits part Unwritable needs no_part = λ fit. no_part (needs fit)

-- a part that isn't written keeps two parts from being written
pub first_refused : (part rest : Type 0) (e : WriteError) → IsBodyRefused part e → IsBodyRefused (part × rest) e
first_refused part rest e no_part = refused (part × rest) part e (λ all. all.0) no_part

-- the first part fits, and the rest was written
pub both_written : (part rest : Type 0) (x y : List ℕ) (r : Result (List ℕ) WriteError) → part → x ≡ y → BodyWrites rest x r
    → BodyWrites (part × rest) y r
both_written part rest x y (Ok bytes) fits same w = ((fits, w.0), w.1 ∙ same)
both_written part rest x y (Err Memory) fits same w = tt
both_written part rest x y (Err Unwritable) fits same w = λ all. w all.1

-- what counts under a condition alone
pub told_written : (b : Bool) (fits : Type 0) (x y : List ℕ) (r : Result (List ℕ) WriteError) → b ≡ true → x ≡ y → BodyWrites fits x r
    → BodyWrites (b ≡ true → fits) y r
told_written b fits x y (Ok bytes) told same w = (λ e. w.0, w.1 ∙ same)
told_written b fits x y (Err Memory) told same w = tt
told_written b fits x y (Err Unwritable) told same w = λ all. w (all told)

pub untold : (b : Bool) (fits : Type 0) → b ≡ false → b ≡ true → fits
untold b fits apart is = absurd cc
