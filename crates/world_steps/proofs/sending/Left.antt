-- What a push leaves of the client.
use Rattle.std.proofs.Common.{◌≡◌, ℕ, Bool, true, false, if◌then◌else◌, List, [], ◌∷◌, Option, Some, None, refl, ◌∙◌}
use Rattle.spec_exchange.specs.Client.{Client, Identity, again, asked, begin, begun, create_for, goes_itself, has_its_slot, lacks_slot}
use Rattle.spec_exchange.specs.Client.{may_push, outstanding, settle_no_slot, settle_no_slots, take_slot}
use Rattle.spec_exchange.specs.ClientStep.{Pick, Pushes, client_after, itself_after, op_after, pick_after}
use Rattle.spec_exchange.specs.Operations.{NoSlot, is_lock}
use Rattle.spec_exchange.specs.Table.{put, put2}
use Rattle.world_ends.specs.Channels.{ChannelSeen, seen_of}

-- the columns at which a world in code looks, but for the client's own
pub record Columns : Type 0 where
  pub who : Identity
  pub taken : ℕ
  pub seen : ChannelSeen
  pub settled_by : ℕ → Option ℕ

abbrev pub columns_of : Client → Columns
columns_of c = record { who = c.who; taken = c.taken; seen = seen_of c; settled_by = c.settled_by }

either : (b : Bool) (c d x : Client) → columns_of c ≡ columns_of x → columns_of d ≡ columns_of x
    → columns_of (if b then c else d) ≡ columns_of x
either true c d x e f = e
either false c d x e f = f

one_slotless : (c : Client) (k g : ℕ) → columns_of (settle_no_slot c k g) ≡ columns_of c
one_slotless c k g = either (lacks_slot c k g) (record c { outcome = put c.outcome g (NoSlot (create_for c g)) }) c c refl refl

slotless : (c : Client) (k : ℕ) (gs : List ℕ) → columns_of (settle_no_slots c k gs) ≡ columns_of c
unfolding settle_no_slots
slotless c k [] = refl
slotless c k (g ∷ gs) = slotless (settle_no_slot c k g) k gs ∙ one_slotless c k g

goes_again : (c : Client) (g : ℕ) → columns_of (again c g) ≡ columns_of c
goes_again c g =
    either (is_lock (c.op g)) (record c { retried = put2 c.retried (create_for c g) (c.slot_of g) c.session_number }) c c refl refl

goes_first : (c : Client) (g i : ℕ) → columns_of (begin c g i) ≡ columns_of c
goes_first c g i =
    either (is_lock (c.op g)) (record (take_slot c g i) { sent = put c.sent g true }) (record c { sent = put c.sent g true }) c refl refl

begins : (c : Client) (g i : ℕ) → columns_of (begun c g i) ≡ columns_of c
begins c g i = either (c.sent g) (again c g) (begin c g i) c (goes_again c g) (goes_first c g i)

goes_by : (c : Client) (k g i : ℕ) → columns_of (itself_after c k g i) ≡ columns_of c
goes_by c k g i = either (has_its_slot c g i) (outstanding (begun c g i) k g) c c (begins c g i) refl

one_goes : (c : Client) (k g i : ℕ) → columns_of (op_after c k g i) ≡ columns_of c
one_goes c k g i =
    either (may_push c k g) (if goes_itself c g then itself_after c k g i else asked c k g) c c
    (either (goes_itself c g) (itself_after c k g i) (asked c k g) c (goes_by c k g i) refl) refl

picks : (c : Client) (k : ℕ) (p : Option Pick) → columns_of (pick_after c k p) ≡ columns_of c
picks c k None = refl
picks c k (Some p) = one_goes c k p.op p.slot

pub push_leaves : (c : Client) (k : ℕ) (gs : List ℕ) (p : Option Pick) → columns_of (client_after c (Pushes k gs p)) ≡ columns_of c
push_leaves c k gs p =
    either (c.ready k) (pick_after (settle_no_slots c k gs) k p) c c (picks (settle_no_slots c k gs) k p ∙ slotless c k gs) refl
