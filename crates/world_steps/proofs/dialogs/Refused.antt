-- Why a connection's dialog hears nothing, in code and in the definitions.
use Rattle.std.proofs.Common.{◌≡◌, ℕ, suc, ◌==◌, Bool, true, false, not, if◌then◌else◌, List, [], ◌∷◌, length, slice_get}
use Rattle.std.proofs.Common.{Option, Some, None, arith}
use Rattle.std.proofs.lemmas.Bool.Decides.{nat_tests}
use Rattle.std.proofs.Common.{Result, Ok, Err, MatchResult, refl, sym, ap, subst, ◌∙◌}
use Rattle.spec_exchange.specs.Network.{Received, Take}
use Rattle.spec_exchange.specs.Table.{is_filled}
use Rattle.spec_world.specs.Events.{Plain}
use Rattle.spec_world.specs.Notes as notes
use Rattle.spec_world.specs.Notes.{step_error}
use Rattle.spec_world.specs.Settings.{WorldSettings}
use Rattle.spec_world.specs.World as bytes
use Rattle.world_ends.specs.Channels.{AreDown, seen_of}
use Rattle.world_ends.specs.Shown.{ShowsWorld}
use Rattle.world_ends.specs.Tests.{is_open, opened_in}
use Rattle.world_ends.specs.declared.events.WorldError.{WorldError}
use Rattle.world_ends.specs.declared.events.WorldError.TheVariants as errors
use Rattle.world_ends.specs.declared.sides.Channel.{Channel}
use Rattle.world_ends.specs.declared.sides.Down.{Down}
use Rattle.world_ends.specs.declared.world.World.{World}
use Rattle.world_steps.specs.opening.Opening.{IsOpeningDue}
use Rattle.world_steps.specs.Parts.{IsWorldMemory}
use Rattle.world_steps.specs.Steps.{WorldRefuses}
use Rattle.world_steps.proofs.Closing.{is_opened}
use Rattle.world_steps.specs.dialogs.Talking.{taking_refusal_on, taking_refusal}

pub filled_front : {X : Type 0} (x : X) (xs : List X) → is_filled (x ∷ xs) ≡ true
unfolding is_filled
filled_front x xs = refl

filled_as : (ds : List Down) (bs : List (List ℕ)) (ys : List Received) → AreDown ds bs ys → is_filled bs ≡ is_filled ds
unfolding is_filled
filled_as [] [] [] h = refl
filled_as (d ∷ ds) (b ∷ bs) (y ∷ ys) h = refl
filled_as [] [] (y ∷ ys) h = absurd h
filled_as [] (b ∷ bs) [] h = absurd h
filled_as [] (b ∷ bs) (y ∷ ys) h = absurd h
filled_as (d ∷ ds) [] [] h = absurd h
filled_as (d ∷ ds) [] (y ∷ ys) h = absurd h
filled_as (d ∷ ds) (b ∷ bs) [] h = absurd h

abbrev error_with : ℕ → Bool → Bool → Option notes.WorldError
error_with k there filled = if not there then Some (notes.NoChannel k) else if filled then None else Some (notes.NothingThere k)

turned : (k : ℕ) (there filled : Bool) → error_with k there filled
    ≡ (if there then (if filled then None else Some (notes.NothingThere k)) else Some (notes.NoChannel k))
turned k true filled = refl
turned k false filled = refl

module _ (z : WorldSettings) (x : World) (w : bytes.World) (k : ℕ) (h : ShowsWorld z x w) where
  there : (w.values.conns k).client_open ≡ opened_in (slice_get x.channels.items k)
  there =
      is_opened x.settings x.guid x.keys w.values.client.taken (seen_of w.values.client) w.values.conns w.wires
      x.channels.items h.channels k

  due_by : (o : Option Channel) → slice_get x.channels.items k ≡ o → step_error w (Plain (Take k)) ≡ taking_refusal o k
  due_by None e = ap (λ (b : Bool). error_with k b (is_filled (w.wires k).down)) (there ∙ ap opened_in e)
  due_by (Some c) e =
      let opens = there ∙ ap opened_in e in
      let filled = filled_as c.down.items (w.wires k).down (w.values.conns k).down (h.channels.each k c e).down in
      (λ t. error_with k (opens t) (filled t)) ∙ turned k (is_open c.client) (is_filled c.down.items)

  pub refused : (e : WorldError) → IsOpeningDue (taking_refusal (slice_get x.channels.items k) k) (Err e)
      → WorldRefuses z x w (step_error w (Plain (Take k))) e
  refused errors.Memory d = absurd d
  refused (errors.NoChannel j) d = (due_by (slice_get x.channels.items k) refl ∙ d, h)
  refused (errors.NothingThere j) d = (due_by (slice_get x.channels.items k) refl ∙ d, h)
  refused (errors.InUse j) d = (due_by (slice_get x.channels.items k) refl ∙ d, h)

-- ---- the tests of the code

positive : (m : ℕ) → (suc m == 0) ≡ false
positive m = grind (arith, nat_tests)

pub filled_by : {X : Type 0} (xs : List X) (n : ℕ) (r : Bool) → n ≡ length xs → r ≡ (n == 0) → not r ≡ is_filled xs
unfolding is_filled
filled_by [] n r e f = ap not (f ∙ ap (λ (m : ℕ). m == 0) e)
filled_by (v ∷ xs) n r e f = ap not (f ∙ (ap (λ (m : ℕ). m == 0) e ∙ positive (length xs)))

pub closed_due : (c : Channel) (k : ℕ) (r : Bool) → r ≡ is_open c.client → r ≡ false → taking_refusal_on c k ≡ Some (notes.NoChannel k)
closed_due c k r e f =
    ap (λ (b : Bool). if b then (if is_filled c.down.items then None else Some (notes.NothingThere k)) else Some (notes.NoChannel k))
    (sym e ∙ f)

pub open_due : (c : Channel) (k : ℕ) (r s v : Bool) → r ≡ is_open c.client → r ≡ true → s ≡ is_filled c.down.items → s ≡ v
    → taking_refusal_on c k ≡ (if v then None else Some (notes.NothingThere k))
open_due c k r s v e f g h =
    (λ t. if (sym e ∙ f) t then (if (sym g ∙ h) t then None else Some (notes.NothingThere k)) else Some (notes.NoChannel k))

-- ---- what a bound channel's dialog came to

pub joined_with : {J H : Type 0} (Q : H → Type 0) (heard : H) (ready : J → H) (r : Result J WorldError)
    → MatchResult r (λ j. heard ≡ ready j) (λ e. IsWorldMemory e) → Q heard → MatchResult r (λ j. Q (ready j)) (λ e. IsWorldMemory e)
joined_with Q heard ready (Ok j) e q = subst Q e q
joined_with Q heard ready (Err e) m q = m

pub no_way : {P : Type 0} → false ≡ true → P
no_way e = absurd (cc)
