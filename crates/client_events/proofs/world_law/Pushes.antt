-- A push changes the slot of a lock that goes out first, which is one of the 64, and its number.
use Rattle.std.proofs.Common.{◌≡◌, ℕ, ◌+◌, ◌%◌, ◌<◌, ◌≤◌, ◌&&◌, nat_le, nat_lt, not, Bool, true, false, if◌then◌else◌}
use Rattle.std.proofs.Common.{List, [], ◌∷◌, Option, Some, None, sym, ap, ◌∙◌, arith}
use Rattle.spec_exchange.specs.Operations.{NoSlot, is_lock}
use Rattle.spec_exchange.specs.Table.{put, put2}
use Rattle.spec_exchange.specs.Client.{Client, again, asked, begin, begun, create_for, goes_itself, has_its_slot}
use Rattle.spec_exchange.specs.Client.{is_free, lacks_slot, may_push}
use Rattle.spec_exchange.specs.Client.{needs_slot, next_number, outstanding, settle_no_slot, settle_no_slots, take_slot}
use Rattle.spec_exchange.specs.ClientStep.{Pick, itself_after, op_after, pick_after, push_after}
use Rattle.client_events.specs.world_law.Asking.{AsksFit}
use Rattle.client_events.proofs.world_law.Tests.{either, front_of, back_of, one_more}

-- ---- no slot

slotless : (c : Client) (k g : ℕ) → AsksFit c → AsksFit (settle_no_slot c k g)
slotless c k g f =
    either (lacks_slot c k g) (record c { outcome = put c.outcome g (NoSlot (create_for c g)) }) c
    (λ e. record { kept = f.kept; slots = f.slots; numbers = f.numbers }) (λ e. f)

pub slotless_all : (c : Client) (k : ℕ) (gs : List ℕ) → AsksFit c → AsksFit (settle_no_slots c k gs)
unfolding settle_no_slots
slotless_all c k [] f = f
slotless_all c k (g ∷ gs) f = slotless_all (settle_no_slot c k g) k gs (slotless c k g f)

-- ---- a slot

remains : (n : ℕ) → n % 16 < 16
remains n = omega arith

low_number : (c : Client) (o : Option ℕ) → next_number c o < 16
low_number c None = omega arith
low_number c (Some h) = remains (c.number_of h + 1)

is_low : (n k : ℕ) → nat_le n k ≡ true → n ≤ k
is_low n k h = grind arith

takes_slot : (c : Client) (g i : ℕ) → i ≤ 64 → AsksFit c → AsksFit (record (take_slot c g i) { sent = put c.sent g true })
takes_slot c g i low f = record {
  kept = f.kept;
  slots = one_more (λ (n : ℕ). n ≤ 64) c.slot_of g i low f.slots;
  numbers =
      one_more (λ (n : ℕ). n < 16) c.number_of g (next_number c (c.slot_user (create_for c g) i))
      (low_number c (c.slot_user (create_for c g) i)) f.numbers;
}

begins : (c : Client) (g i : ℕ) → (is_lock (c.op g) ≡ true → i ≤ 64) → AsksFit c → AsksFit (begin c g i)
begins c g i low f =
    either (is_lock (c.op g)) (record (take_slot c g i) { sent = put c.sent g true }) (record c { sent = put c.sent g true })
    (λ e. takes_slot c g i (low e) f) (λ e. record { kept = f.kept; slots = f.slots; numbers = f.numbers })

goes_again : (c : Client) (g : ℕ) → AsksFit c → AsksFit (again c g)
goes_again c g f =
    either (is_lock (c.op g)) (record c { retried = put2 c.retried (create_for c g) (c.slot_of g) c.session_number }) c
    (λ e. record { kept = f.kept; slots = f.slots; numbers = f.numbers }) (λ e. f)

both : (a b : Bool) → a ≡ true → b ≡ false → (a && not b) ≡ true
both a b e g = (λ i. e i && not (g i))

slot_of : (c : Client) (g i : ℕ) → has_its_slot c g i ≡ true → c.sent g ≡ false → is_lock (c.op g) ≡ true → i ≤ 64
slot_of c g i h new lock =
    let need : needs_slot c g ≡ true = both (is_lock (c.op g)) (c.sent g) lock new in
    let free : is_free c (create_for c g) i ≡ true =
    sym (ap (λ (b : Bool). if b then is_free c (create_for c g) i else true) need) ∙ h in
    is_low i 64 (back_of (nat_lt 0 i) (nat_le i 64) (front_of (nat_lt 0 i && nat_le i 64) _ free))

goes_out : (c : Client) (g i : ℕ) → has_its_slot c g i ≡ true → AsksFit c → AsksFit (begun c g i)
goes_out c g i h f =
    either (c.sent g) (again c g) (begin c g i) (λ e. goes_again c g f) (λ e. begins c g i (λ lock. slot_of c g i h e lock) f)

out : (c : Client) (k g : ℕ) → AsksFit c → AsksFit (outstanding c k g)
out c k g f = record { kept = f.kept; slots = f.slots; numbers = f.numbers }

asks : (c : Client) (k g : ℕ) → AsksFit c → AsksFit (asked c k g)
asks c k g f = record { kept = f.kept; slots = f.slots; numbers = f.numbers }

goes_by : (c : Client) (k g i : ℕ) → AsksFit c → AsksFit (itself_after c k g i)
goes_by c k g i f =
    either (has_its_slot c g i) (outstanding (begun c g i) k g) c (λ h. out (begun c g i) k g (goes_out c g i h f)) (λ h. f)

one_goes : (c : Client) (k g i : ℕ) → AsksFit c → AsksFit (op_after c k g i)
one_goes c k g i f =
    either (may_push c k g) (if goes_itself c g then itself_after c k g i else asked c k g) c
    (λ e. either (goes_itself c g) (itself_after c k g i) (asked c k g) (λ d. goes_by c k g i f) (λ d. asks c k g f)) (λ e. f)

picked : (c : Client) (k : ℕ) (pick : Option Pick) → AsksFit c → AsksFit (pick_after c k pick)
picked c k None f = f
picked c k (Some p) f = one_goes c k p.op p.slot f

pub pushed : (c : Client) (k : ℕ) (gs : List ℕ) (pick : Option Pick) → AsksFit c → AsksFit (push_after c k gs pick)
pushed c k gs pick f =
    either (c.ready k) (pick_after (settle_no_slots c k gs) k pick) c
    (λ e. picked (settle_no_slots c k gs) k pick (slotless_all c k gs f)) (λ e. f)
