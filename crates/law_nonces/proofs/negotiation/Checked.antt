-- What the whole look at a frame leaves: NEGOTIATE's greeting and what is in the making stay, each message that isn't a NEGOTIATE
-- stands behind a greeting, and a fault is ACCESS_DENIED.
use Rattle.std.proofs.Common.{◌≡◌, ℕ, Bool, true, false, not, ◌&&◌, if◌then◌else◌, List, [], ◌∷◌, refl}
use Rattle.std.proofs.Common.{Option, Some, None, is_some, Result, Ok, Err}
use Rattle.law_server.proofs.tables.Logic.{either}
use Rattle.spec_world.specs.Messages.{HeardMessage}
use Rattle.spec_world.specs.Ends.{ServerEnd, Greeting, ConnEnd, BadFrame}
use Rattle.spec_world.specs.Hearing.{FrameText, text_of, is_negotiate, turn_end, behind_turn, bars}
use Rattle.spec_world.specs.Hearing.{fault_of, is_protected, owes_nothing}
use Rattle.spec_world.specs.Hearing.{Checked, checked_as, Frame, in_front, if_in_turn, checked_behind, checked_in}
use Rattle.spec_world.specs.Hearing.{checked_text, check_frame}
use Rattle.law_nonces.proofs.negotiation.Making.{FaultFine}

-- of one message, by the greeting of its connection
pub record IsFine (g : Option Greeting) (c : Checked) : Type 0 where
  pub greeted : is_negotiate c.header ≡ false → is_some g ≡ true
  pub fault : FaultFine c.fault

abbrev pub AreFine : Option Greeting → List Checked → Type 0
AreFine g [] = Unit {0}
AreFine g (c ∷ cs) = IsFine g c × AreFine g cs

abbrev pub FrameFine : Option Greeting → Option (List (List ℕ)) → Result Frame ConnEnd → Type 0
FrameFine g m (Err e) = Unit {0}
FrameFine g m (Ok x) = (x.server_end.greeting ≡ g) × (x.server_end.making ≡ m) × AreFine g x.messages

fault_fine : (f : ServerEnd) (sealed behind : Bool) (x : HeardMessage) → FaultFine (fault_of f sealed behind x)
fault_fine f sealed behind x =
    either FaultFine behind _ _ (λ _. record { fails = refl; ends = refl })
    (λ _. either FaultFine (owes_nothing x) _ _ (λ _. tt)
    (λ _. either FaultFine (is_protected f sealed x) _ _ (λ _. tt) (λ _. record { fails = refl; ends = refl })))

-- a message that doesn't end its connection is a NEGOTIATE, or comes behind a greeting
turned : (a b : Bool) (rest : Option ConnEnd) → (if not a && not b then Some BadFrame else rest) ≡ None → b ≡ false → a ≡ true
turned true b rest e off = refl
turned false true rest e off = absurd (cc)
turned false false rest e off = absurd (let q : Some BadFrame ≡ None = e in cc)

one_fine : (f : ServerEnd) (sealed behind first : Bool) (x : HeardMessage) → turn_end f x.header ≡ None
    → IsFine f.greeting (checked_as f sealed behind first x)
one_fine f sealed behind first x e =
    record { greeted = λ off. turned (is_some f.greeting) (is_negotiate x.header) _ e off; fault = fault_fine f sealed behind x }

with_front : (g : Option Greeting) (m : Option (List (List ℕ))) (c : Checked) (r : Result Frame ConnEnd) → IsFine g c
    → FrameFine g m r → FrameFine g m (in_front c r)
with_front g m c (Err e) fine all = tt
with_front g m c (Ok x) fine all = (all.0, all.1, (fine, all.2))

in_turn : (g : Option Greeting) (m : Option (List (List ℕ))) (o : Option ConnEnd) (r : Result Frame ConnEnd)
    → (o ≡ None → FrameFine g m r) → FrameFine g m (if_in_turn o r)
in_turn g m (Some e) r all = tt
in_turn g m None r all = all refl

behind_fine : (f : ServerEnd) (sealed behind : Bool) (xs : List HeardMessage) → FrameFine f.greeting f.making
    (checked_behind f sealed behind xs)
unfolding checked_behind
behind_fine f sealed behind [] = (refl, refl, tt)
behind_fine f sealed behind (x ∷ xs) =
    in_turn f.greeting f.making (turn_end f x.header) _
    (λ e. with_front f.greeting f.making (checked_as f sealed behind false x) _ (one_fine f sealed behind false x e)
    (behind_fine (behind_turn f x.header) sealed (bars f sealed behind x) xs))

in_fine : (f : ServerEnd) (sealed : Bool) (xs : List HeardMessage) → FrameFine f.greeting f.making (checked_in f sealed xs)
in_fine f sealed [] = tt
in_fine f sealed (x ∷ xs) =
    in_turn f.greeting f.making (turn_end f x.header) _
    (λ e. with_front f.greeting f.making (checked_as f sealed false true x) _ (one_fine f sealed false true x e)
    (behind_fine (behind_turn f x.header) sealed (bars f sealed false x) xs))

text_fine : (f : ServerEnd) (t : Result FrameText ConnEnd) → FrameFine f.greeting f.making (checked_text f t)
text_fine f (Err e) = tt
text_fine f (Ok t) = in_fine f t.sealed t.messages

pub frame_fine : (f : ServerEnd) (frame : List ℕ) → FrameFine f.greeting f.making (check_frame f frame)
frame_fine f frame = text_fine f (text_of f.keys frame)
