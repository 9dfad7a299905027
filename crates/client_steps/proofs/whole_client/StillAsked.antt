-- A push leaves what operations ask.
use Rattle.std.proofs.Common.{◌≡◌, ℕ, Bool, true, false, if◌then◌else◌, List, [], ◌∷◌, Option, None, Some, refl, ◌∙◌}
use Rattle.spec_exchange.specs.Table.{put, put2}
use Rattle.spec_exchange.specs.Operations.{NoSlot, is_lock}
use Rattle.spec_exchange.specs.Client.{Client, asked, begun, create_for, goes_itself, has_its_slot, lacks_slot, may_push, outstanding}
use Rattle.spec_exchange.specs.Client.{settle_no_slot, settle_no_slots, take_slot}
use Rattle.spec_exchange.specs.ClientStep.{Pick, itself_after, op_after, pick_after, push_after}
use Rattle.law_client.proofs.table.Chosen.{in_both}

settled_op : (b : Bool) (c : Client) (g : ℕ) → (if b then record c { outcome = put c.outcome g (NoSlot (create_for c g)) } else c).op ≡ c.op
settled_op true c g = refl
settled_op false c g = refl

slotless_op : (c : Client) (k : ℕ) (gs : List ℕ) → (settle_no_slots c k gs).op ≡ c.op
unfolding settle_no_slots
slotless_op c k [] = refl
slotless_op c k (g ∷ gs) = slotless_op (settle_no_slot c k g) k gs ∙ settled_op (lacks_slot c k g) c g

by_op : (sent lock : Bool) (c : Client) (g i : ℕ)
    → (if sent then (if lock then record c { retried = put2 c.retried (create_for c g) (c.slot_of g) c.session_number } else c)
    else (if lock then record (take_slot c g i) { sent = put c.sent g true } else record c { sent = put c.sent g true })).op ≡ c.op
by_op true true c g i = refl
by_op true false c g i = refl
by_op false true c g i = refl
by_op false false c g i = refl

after_op : (c : Client) (k g i : ℕ) → (op_after c k g i).op ≡ c.op
after_op c k g i =
    in_both (λ (z : Client). z.op ≡ c.op) (may_push c k g) (if goes_itself c g then itself_after c k g i else asked c k g) c
    (λ e. in_both (λ (z : Client). z.op ≡ c.op) (goes_itself c g) (itself_after c k g i) (asked c k g)
    (λ f. in_both (λ (z : Client). z.op ≡ c.op) (has_its_slot c g i) (outstanding (begun c g i) k g) c
    (λ h. by_op (c.sent g) (is_lock (c.op g)) c g i) (λ h. refl)) (λ f. refl)) (λ e. refl)

pick_op : (c : Client) (k : ℕ) (p : Option Pick) → (pick_after c k p).op ≡ c.op
pick_op c k None = refl
pick_op c k (Some p) = after_op c k p.op p.slot

pub push_op : (c : Client) (k : ℕ) (slotless : List ℕ) (p : Option Pick) → (push_after c k slotless p).op ≡ c.op
push_op c k slotless p =
    in_both (λ (z : Client). z.op ≡ c.op) (c.ready k) (pick_after (settle_no_slots c k slotless) k p) c
    (λ e. pick_op (settle_no_slots c k slotless) k p ∙ slotless_op c k slotless) (λ e. refl)
