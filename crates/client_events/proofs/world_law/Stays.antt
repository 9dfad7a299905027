-- Locks for which there is no slot settle, and which channels are ready and what was taken stay.
use Rattle.std.proofs.Common.{◌≡◌, ℕ, Bool, true, false, if◌then◌else◌, List, [], ◌∷◌, refl, ◌∙◌}
use Rattle.spec_exchange.specs.Client.{Client, lacks_slot, settle_no_slot, settle_no_slots}
use Rattle.spec_exchange.specs.Client.{create_for}
use Rattle.spec_exchange.specs.Operations.{NoSlot}
use Rattle.spec_exchange.specs.Table.{put}

-- in a branch or the other the same
alike : {X : Type 0} (f : Client → X) (b : Bool) (c d : Client) → f d ≡ f c → f (if b then d else c) ≡ f c
alike f true c d e = e
alike f false c d e = refl

one_taken : (c : Client) (k g : ℕ) → (settle_no_slot c k g).taken ≡ c.taken
one_taken c k g = alike (λ (d : Client). d.taken) (lacks_slot c k g) c (record c {
  outcome = put c.outcome g (NoSlot (create_for c g));
}) refl

one_ready : (c : Client) (k g j : ℕ) → (settle_no_slot c k g).ready j ≡ c.ready j
one_ready c k g j = alike (λ (d : Client). d.ready j) (lacks_slot c k g) c (record c {
  outcome = put c.outcome g (NoSlot (create_for c g));
}) refl

pub taken_stays : (c : Client) (k : ℕ) (gs : List ℕ) → (settle_no_slots c k gs).taken ≡ c.taken
unfolding settle_no_slots
taken_stays c k [] = refl
taken_stays c k (g ∷ gs) = taken_stays (settle_no_slot c k g) k gs ∙ one_taken c k g

pub ready_stays : (c : Client) (k : ℕ) (gs : List ℕ) (j : ℕ) → (settle_no_slots c k gs).ready j ≡ c.ready j
unfolding settle_no_slots
ready_stays c k [] j = refl
ready_stays c k (g ∷ gs) j = ready_stays (settle_no_slot c k g) k gs j ∙ one_ready c k g j
