-- Want of memory refuses any event, and leaves what was told of a result.
use Rattle.std.proofs.Common.{◌≡◌, ℕ, Bool, true, false, sym, ap, subst, ◌∙◌, List, slice_get, Option, Result, Ok, Err, MatchResult}
use Rattle.spec_world.specs.Notes as notes
use Rattle.spec_world.specs.Settings.{WorldSettings}
use Rattle.spec_world.specs.World as bytes
use Rattle.world_ends.specs.declared.events.WorldError.{WorldError}
use Rattle.world_ends.specs.declared.sides.Channel.{Channel}
use Rattle.world_ends.specs.declared.world.World.{World}
use Rattle.world_steps.specs.Parts.{IsWorldMemory}
use Rattle.world_steps.specs.Steps.{WorldRefuses}

pub memory : (z : WorldSettings) (x : World) (w : bytes.World) (due : Option notes.WorldError) (e : WorldError) → IsWorldMemory e
    → WorldRefuses z x w due e
memory z x w due e m = subst (λ (v : WorldError). WorldRefuses z x w due v) (sym m) tt

pub result_with : {T : Type 0} {P Q : T → Type 0} (r : Result T WorldError) → ((x : T) → P x → Q x) → MatchResult r P (λ e. IsWorldMemory e)
    → MatchResult r Q (λ e. IsWorldMemory e)
result_with (Ok x) f h = f x h
result_with (Err e) f h = h

-- ---- what was tested of a slice holds of the connections that it is

pub refused_by : (f : Option Channel → Bool) (r : Bool) (ys xs : List Channel) (k : ℕ) → r ≡ f (slice_get ys k) → ys ≡ xs → r ≡ false
    → f (slice_get xs k) ≡ false
refused_by f r ys xs k told same e = sym (told ∙ ap (λ (v : List Channel). f (slice_get v k)) same) ∙ e

pub passed_by : (f : Option Channel → Bool) (r : Bool) (ys xs : List Channel) (k : ℕ) → r ≡ f (slice_get ys k) → ys ≡ xs → r ≡ true
    → f (slice_get xs k) ≡ true
passed_by f r ys xs k told same e = sym (told ∙ ap (λ (v : List Channel). f (slice_get v k)) same) ∙ e
