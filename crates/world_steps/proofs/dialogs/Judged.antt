-- What the definitions make of a dialog's response, by its first refusal.
use Rattle.std.proofs.Common.{◌≡◌, ℕ, ◌==◌, Bool, true, false, if◌then◌else◌, List, Option, Some, None, refl, ap, ◌∙◌}
use Rattle.client_ends.specs.dialog_calls.Turning.{refusal_on}
use Rattle.spec_exchange.specs.Client.{Stage, Apart, SaidNegotiate, SaidFirst, SaidSecond, AskedTree}
use Rattle.spec_exchange.specs.Dialogs.{Accepts, Binds, DialogStep, GoesOn, Readies, Refuses, dialog_step}
use Rattle.spec_exchange.specs.Network.{dialog_took}
use Rattle.spec_exchange.specs.Operations.{BadToken, HadStatus, Refusal}
use Rattle.spec_world.specs.Dialog.{dialog_fault, dialog_response, status_due}
use Rattle.spec_world.specs.Messages.{HeardMessage}
use Rattle.spec_world.specs.Settings.{WorldSettings}
use Rattle.spec_world.specs.World as bytes
use Rattle.spec_world.specs.World.{dialog_hears, dialog_off, dialog_passed, dialog_reply, dialog_wires, hears, with_values}

-- ---- a dialog's stage is none behind its end

abbrev pub IsAsked : Stage → Type 0
IsAsked Apart = ⊥
IsAsked _ = Unit {0}

pub hears_is : (z : WorldSettings) (w : bytes.World) (k : ℕ) (frame : List ℕ) (place : ℕ) (s : Stage) → IsAsked s
    → hears z w k frame place s ≡ dialog_hears z w k s (dialog_response (w.wires k).client_end s frame)
hears_is z w k frame place Apart a = absurd a
hears_is z w k frame place (SaidNegotiate b) a = refl
hears_is z w k frame place (SaidFirst b) a = refl
hears_is z w k frame place (SaidSecond b) a = refl
hears_is z w k frame place AskedTree a = refl

-- ---- another status than the due one refuses

abbrev pub step_due : Stage → DialogStep
step_due Apart = Refuses 0
step_due (SaidNegotiate b) = GoesOn (SaidFirst b)
step_due (SaidFirst b) = GoesOn (SaidSecond b)
step_due (SaidSecond b) = if b then Binds else Accepts
step_due AskedTree = Readies

undue : (s : Stage) (status : ℕ) → IsAsked s → (status == status_due s) ≡ false → dialog_step s status ≡ Refuses status
undue Apart status a e = absurd a
undue (SaidNegotiate b) status a e = ap (λ (q : Bool). if q then GoesOn (SaidFirst b) else Refuses status) e
undue (SaidFirst b) status a e = ap (λ (q : Bool). if q then GoesOn (SaidSecond b) else Refuses status) e
undue (SaidSecond b) status a e = ap (λ (q : Bool). if q then (if b then Binds else Accepts) else Refuses status) e
undue AskedTree status a e = ap (λ (q : Bool). if q then Readies else Refuses status) e

is_due : (s : Stage) (status : ℕ) → IsAsked s → (status == status_due s) ≡ true → dialog_step s status ≡ step_due s
is_due Apart status a e = absurd a
is_due (SaidNegotiate b) status a e = ap (λ (q : Bool). if q then GoesOn (SaidFirst b) else Refuses status) e
is_due (SaidFirst b) status a e = ap (λ (q : Bool). if q then GoesOn (SaidSecond b) else Refuses status) e
is_due (SaidSecond b) status a e = ap (λ (q : Bool). if q then (if b then Binds else Accepts) else Refuses status) e
is_due AskedTree status a e = ap (λ (q : Bool). if q then Readies else Refuses status) e

some_same : (p q : Refusal) → Some p ≡ Some q → p ≡ q
some_same p q e = cc

some_none : (p : Refusal) → Some p ≡ None → ⊥
some_none p e = absurd (cc)

module _ (z : WorldSettings) (w : bytes.World) (k : ℕ) (s : Stage) (a : IsAsked s) where
  -- the world behind a step that the definitions take
  abbrev pub taken_as : HeardMessage → DialogStep → bytes.World
  taken_as x step = with_values (dialog_wires z w k s x step) (dialog_took w.values k (dialog_reply w s x) step)

  refused_by : (x : HeardMessage) (why : Refusal) (b : Bool) → (x.header.status == status_due s) ≡ b
      → (if b then dialog_fault z.client (w.wires k).client_end s x else Some (HadStatus x.header.status)) ≡ Some why
      → dialog_hears z w k s (Some x) ≡ dialog_off w k why
  refused_by x why true e f =
      ap (λ (q : Bool). dialog_passed z w k s x (if q then dialog_fault z.client (w.wires k).client_end s x else None)) e
      ∙ ap (λ (o : Option Refusal). dialog_passed z w k s x o) f
  refused_by x why false e f =
      ap (λ (q : Bool). dialog_passed z w k s x (if q then dialog_fault z.client (w.wires k).client_end s x else None)) e
      ∙ (ap (λ (step : DialogStep). taken_as x step) (undue s x.header.status a e)
      ∙ ap (λ (r : Refusal). dialog_off w k r) (some_same (HadStatus x.header.status) why f))

  pub refused : (o : Option HeardMessage) (why : Refusal) → refusal_on z.client (w.wires k).client_end s o ≡ Some why
      → dialog_hears z w k s o ≡ dialog_off w k why
  refused None why e = ap (λ (r : Refusal). dialog_off w k r) (some_same BadToken why e)
  refused (Some x) why e = refused_by x why (x.header.status == status_due s) refl e

  passed_by : (x : HeardMessage) (b : Bool) → (x.header.status == status_due s) ≡ b
      → (if b then dialog_fault z.client (w.wires k).client_end s x else Some (HadStatus x.header.status)) ≡ None
      → dialog_hears z w k s (Some x) ≡ taken_as x (step_due s)
  passed_by x false e f = absurd (some_none (HadStatus x.header.status) f)
  passed_by x true e f =
      ap (λ (q : Bool). dialog_passed z w k s x (if q then dialog_fault z.client (w.wires k).client_end s x else None)) e
      ∙ (ap (λ (o : Option Refusal). dialog_passed z w k s x o) f
      ∙ ap (λ (step : DialogStep). taken_as x step) (is_due s x.header.status a e))

  pub passed : (x : HeardMessage) → refusal_on z.client (w.wires k).client_end s (Some x) ≡ None
      → dialog_hears z w k s (Some x) ≡ taken_as x (step_due s)
  passed x e = passed_by x (x.header.status == status_due s) refl e
