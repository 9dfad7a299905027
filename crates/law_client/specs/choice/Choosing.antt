-- Why an operation stays at a push, or goes.
use Rattle.std.specs.Prelude.{◌≡◌, ℕ, ◌+◌, ◌<◌, ◌≤◌, ◌&&◌, true, false, List, [], ◌∷◌, ◌++◌, Some, None, is_some, ◌⊎◌}
use Rattle.spec_exchange.specs.Operations.{is_unsettled, holds_up}
use Rattle.spec_exchange.specs.Client.{Client, create_for, goes_itself, needs_slot, settle_no_slot}
use Rattle.spec_exchange.specs.Schedules.{Choice, choose, cost, least_free}

-- b holds g up: its create, or a lower one of its open that it waits for
pub record ChoiceHolder (c : Client) (b g : ℕ) : Type 0 where
  pub above : 0 < b
  pub lower : b < g
  pub unsettled : is_unsettled (c.outcome b) ≡ true
  pub same : create_for c b ≡ create_for c g
  pub why : (b ≡ create_for c g) ⊎ (holds_up (c.op b) (c.op g) ≡ true)

-- it is settled, or outstanding, or too dear, or another holds it up
abbrev pub ChoiceStays : Client → ℕ → ℕ → Type 0
ChoiceStays c credits g =
    (is_unsettled (c.outcome g) ≡ false)
    ⊎ ((is_some (c.outstanding_on g) ≡ true) ⊎ ((credits < cost c g) ⊎ ((b : ℕ) × ChoiceHolder c b g)))

pub record ChoiceGoes (c : Client) (credits g : ℕ) : Type 0 where
  pub unsettled : is_unsettled (c.outcome g) ≡ true
  pub apart : is_some (c.outstanding_on g) ≡ false
  pub paid : cost c g ≤ credits
  pub free : (b : ℕ) → ChoiceHolder c b g → ⊥

-- it is picked, with the least free slot where it needs one; or there is none, and the choice goes on with the n behind it
abbrev pub chosen : Client → ℕ → ℕ → List ℕ → ℕ → ℕ → Choice
chosen c k credits slotless g n =
    elim (goes_itself c g && needs_slot c g) [
      | false ↦ record { slotless = slotless; pick = Some (record { op = g; slot = 0 }) }
      | true ↦
          elim (least_free c (create_for c g) 1 64) [
            | Some i ↦ record { slotless = slotless; pick = Some (record { op = g; slot = i }) }
            | None ↦ choose (settle_no_slot c k g) k credits (slotless ++ g ∷ []) (g + 1) n
          ]
    ]
