-- Any other event.
use Rattle.std.proofs.Common.{◌≡◌, ℕ, true, false, if◌then◌else◌, List, [], ◌∷◌, Option, Some, None, refl, ◌∙◌}
use Rattle.spec_exchange.specs.Operations.{NoSlot, is_lock}
use Rattle.spec_exchange.specs.Table.{put, put2}
use Rattle.spec_exchange.specs.Client.{Client, again, asked, begin, begin_session, begun, bind_channel, create_for}
use Rattle.spec_exchange.specs.Client.{cut_channel, end_session}
use Rattle.spec_exchange.specs.Client.{ends_at_cut, goes_itself, has_its_slot, lacks_slot, leave_dialog, may_push, may_take, outstanding}
use Rattle.spec_exchange.specs.Client.{settle_no_slot, settle_no_slots, take_op, take_slot}
use Rattle.spec_exchange.specs.ClientStep.{ClientEvent, Finishes, Hears, IsCut, IsReady, IsRefused, Pick, Pushes, TakesOp, becomes_ready}
use Rattle.spec_exchange.specs.ClientStep.{client_after, cut_after, itself_after, op_after, pick_after, push_after, ready_after}
use Rattle.client_events.specs.world_law.Settled.{SettlesNone, is_client_response}
use Rattle.client_events.proofs.world_law.Settling.{in_both}

-- two steps that settle none
two : (a b c : Client) → SettlesNone a b → SettlesNone b c → SettlesNone a c
two a b c s t = record { order = t.order ∙ s.order; settled_by = t.settled_by ∙ s.settled_by }

same : (c : Client) → SettlesNone c c
same c = record { order = refl; settled_by = refl }

-- ---- a push

slotless : (c : Client) (k g : ℕ) → SettlesNone c (settle_no_slot c k g)
slotless c k g =
    in_both (λ (d : Client). SettlesNone c d) (lacks_slot c k g) (record c { outcome = put c.outcome g (NoSlot (create_for c g)) }) c
    (record { order = refl; settled_by = refl }) (same c)

slotless_all : (c : Client) (k : ℕ) (gs : List ℕ) → SettlesNone c (settle_no_slots c k gs)
unfolding settle_no_slots
slotless_all c k [] = same c
slotless_all c k (g ∷ gs) =
    two c (settle_no_slot c k g) (settle_no_slots (settle_no_slot c k g) k gs) (slotless c k g) (slotless_all (settle_no_slot c k g) k gs)

begins : (c : Client) (g i : ℕ) → SettlesNone c (begun c g i)
begins c g i =
    in_both (λ (d : Client). SettlesNone c d) (c.sent g) (again c g) (begin c g i)
    (in_both (λ (d : Client). SettlesNone c d) (is_lock (c.op g))
    (record c { retried = put2 c.retried (create_for c g) (c.slot_of g) c.session_number }) c
    (record { order = refl; settled_by = refl }) (same c))
    (in_both (λ (d : Client). SettlesNone c d) (is_lock (c.op g)) (record (take_slot c g i) { sent = put c.sent g true })
    (record c { sent = put c.sent g true }) (record { order = refl; settled_by = refl })
    (record { order = refl; settled_by = refl }))

goes_by : (c : Client) (k g i : ℕ) → SettlesNone c (itself_after c k g i)
goes_by c k g i =
    in_both (λ (d : Client). SettlesNone c d) (has_its_slot c g i) (outstanding (begun c g i) k g) c
    (two c (begun c g i) (outstanding (begun c g i) k g) (begins c g i) (record { order = refl; settled_by = refl })) (same c)

one_goes : (c : Client) (k g i : ℕ) → SettlesNone c (op_after c k g i)
one_goes c k g i =
    in_both (λ (d : Client). SettlesNone c d) (may_push c k g) (if goes_itself c g then itself_after c k g i else asked c k g) c
    (in_both (λ (d : Client). SettlesNone c d) (goes_itself c g) (itself_after c k g i) (asked c k g) (goes_by c k g i)
    (record { order = refl; settled_by = refl })) (same c)

picked : (c : Client) (k : ℕ) (pick : Option Pick) → SettlesNone c (pick_after c k pick)
picked c k None = same c
picked c k (Some p) = one_goes c k p.op p.slot

pushed : (c : Client) (k : ℕ) (gs : List ℕ) (pick : Option Pick) → SettlesNone c (push_after c k gs pick)
pushed c k gs pick =
    in_both (λ (d : Client). SettlesNone c d) (c.ready k) (pick_after (settle_no_slots c k gs) k pick) c
    (two c (settle_no_slots c k gs) (pick_after (settle_no_slots c k gs) k pick) (slotless_all c k gs)
    (picked (settle_no_slots c k gs) k pick)) (same c)

-- ---- channels

cuts : (c : Client) (k : ℕ) → SettlesNone c (cut_after c k)
cuts c k =
    in_both (λ (d : Client). SettlesNone c d) (c.ready k) (if ends_at_cut c then end_session c else cut_channel c k) c
    (in_both (λ (d : Client). SettlesNone c d) (ends_at_cut c) (end_session c) (cut_channel c k)
    (record { order = refl; settled_by = refl }) (record { order = refl; settled_by = refl })) (same c)

readies : (c : Client) (k session tree : ℕ) → SettlesNone c (ready_after c k session tree)
readies c k session tree =
    in_both (λ (d : Client). SettlesNone c d) (becomes_ready c session)
    (if c.live then bind_channel c k else begin_session c k session tree) (leave_dialog c k)
    (in_both (λ (d : Client). SettlesNone c d) c.live (bind_channel c k) (begin_session c k session tree)
    (record { order = refl; settled_by = refl }) (record { order = refl; settled_by = refl }))
    (record { order = refl; settled_by = refl })

-- ---- all of them

pub others : (c : Client) (e : ClientEvent) → is_client_response e ≡ false → SettlesNone c (client_after c e)
others c (TakesOp g op) h =
    in_both (λ (d : Client). SettlesNone c d) (may_take c g op) (take_op c g op) c (record { order = refl; settled_by = refl }) (same c)
others c (Pushes k gs pick) h = pushed c k gs pick
others c (Hears k g asking reply place) h = absurd cc
others c (IsCut k) h = cuts c k
others c (IsReady k session tree) h = readies c k session tree
others c (IsRefused k why) h = record { order = refl; settled_by = refl }
others c (Finishes why) h = record { order = refl; settled_by = refl }
