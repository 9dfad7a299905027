-- What goes out was taken.
use Rattle.std.proofs.Common.{◌≡◌, ℕ, ◌<◌, ◌≤◌, ◌&&◌, nat_le, nat_lt, Bool, true, false, if◌then◌else◌, List, Option, Some, None}
use Rattle.std.proofs.Common.{refl, ap, subst, arith}
use Rattle.spec_exchange.specs.Client.{Client, goes_itself, has_its_slot, is_taken, may_push, settle_no_slots}
use Rattle.spec_exchange.specs.ClientStep.{Act, AllSettled, Asks, CloseChannels, Nothing, Pick, Pushes, Sends, act}
use Rattle.spec_exchange.specs.ClientStep.{op_act, pick_act, some_unsettled}
use Rattle.client_events.proofs.world_law.Stays.{taken_stays}

-- ---- acts

abbrev number_of : Act → ℕ
number_of (Sends g) = g
number_of (Asks g) = g
number_of _ = 0

abbrev by_tests : Bool → Bool → Bool → ℕ → Act
by_tests may itself slot g = if may then (if itself then (if slot then Sends g else Nothing) else Asks g) else Nothing

sends_it : (may itself slot : Bool) (q g : ℕ) → by_tests may itself slot q ≡ Sends g → (may ≡ true) × (q ≡ g)
sends_it true true true q g e = (refl, ap number_of e)
sends_it true true false q g e = absurd cc
sends_it true false slot q g e = absurd cc
sends_it false itself slot q g e = absurd cc

asks_it : (may itself slot : Bool) (q g : ℕ) → by_tests may itself slot q ≡ Asks g → (may ≡ true) × (q ≡ g)
asks_it true true true q g e = absurd cc
asks_it true true false q g e = absurd cc
asks_it true false slot q g e = (refl, ap number_of e)
asks_it false itself slot q g e = absurd cc

-- with no pick nothing goes out
none_sends : (b : Bool) (g : ℕ) → (if b then Nothing else AllSettled) ≡ Sends g → ⊥
none_sends true g e = absurd cc
none_sends false g e = absurd cc

none_asks : (b : Bool) (g : ℕ) → (if b then Nothing else AllSettled) ≡ Asks g → ⊥
none_asks true g e = absurd cc
none_asks false g e = absurd cc

-- nor on a channel that isn't ready
ready_sends : (ready some : Bool) (x : Act) (g : ℕ) → (if ready then x else if some then CloseChannels else AllSettled) ≡ Sends g
    → x ≡ Sends g
ready_sends true some x g e = e
ready_sends false true x g e = absurd cc
ready_sends false false x g e = absurd cc

ready_asks : (ready some : Bool) (x : Act) (g : ℕ) → (if ready then x else if some then CloseChannels else AllSettled) ≡ Asks g
    → x ≡ Asks g
ready_asks true some x g e = e
ready_asks false true x g e = absurd cc
ready_asks false false x g e = absurd cc

-- ---- what may be pushed was taken

and_left : (a b : Bool) → (a && b) ≡ true → a ≡ true
and_left a b h = grind arith

and_right : (a b : Bool) → (a && b) ≡ true → b ≡ true
and_right a b h = grind arith

is_positive : (x : ℕ) → nat_lt 0 x ≡ true → 0 < x
is_positive x h = grind arith

is_at_most : (x y : ℕ) → nat_le x y ≡ true → x ≤ y
is_at_most x y h = grind arith

was_taken : (c : Client) (k g : ℕ) → may_push c k g ≡ true → 0 < g × g ≤ c.taken
was_taken c k g h =
    let taken = and_left (is_taken c g) _ (and_right (c.ready k) _ h) in
    (is_positive g (and_left (nat_lt 0 g) (nat_le g c.taken) taken), is_at_most g c.taken (and_right (nat_lt 0 g) (nat_le g c.taken) taken))

abbrev Within : Client → ℕ → Type 0
Within c g = 0 < g × g ≤ c.taken

op_within : (d : Client) (k g n : ℕ) (p : Pick) → d.taken ≡ n → (may_push d k p.op ≡ true) × (p.op ≡ g) → 0 < g × g ≤ n
op_within d k g n p e h =
    let w = was_taken d k p.op h.0 in
    (subst (λ (x : ℕ). 0 < x) h.1 w.0, subst (λ (x : ℕ). x ≤ n) h.1 (subst (λ (x : ℕ). p.op ≤ x) e w.1))

pub sends_taken : (c : Client) (k g : ℕ) (slotless : List ℕ) (pick : Option Pick) → act c (Pushes k slotless pick) ≡ Sends g
    → 0 < g × g ≤ c.taken
sends_taken c k g slotless None e =
    let d = settle_no_slots c k slotless in
    absurd (none_sends (some_unsettled d d.taken) g
    (ready_sends (c.ready k) (some_unsettled c c.taken) (pick_act d k None) g e))
sends_taken c k g slotless (Some p) e =
    let d = settle_no_slots c k slotless in
    op_within d k g c.taken p (taken_stays c k slotless)
    (sends_it (may_push d k p.op) (goes_itself d p.op) (has_its_slot d p.op p.slot) p.op g
    (ready_sends (c.ready k) (some_unsettled c c.taken) (op_act d k p.op p.slot) g e))

pub asks_taken : (c : Client) (k g : ℕ) (slotless : List ℕ) (pick : Option Pick) → act c (Pushes k slotless pick) ≡ Asks g
    → 0 < g × g ≤ c.taken
asks_taken c k g slotless None e =
    let d = settle_no_slots c k slotless in
    absurd (none_asks (some_unsettled d d.taken) g
    (ready_asks (c.ready k) (some_unsettled c c.taken) (pick_act d k None) g e))
asks_taken c k g slotless (Some p) e =
    let d = settle_no_slots c k slotless in
    op_within d k g c.taken p (taken_stays c k slotless)
    (asks_it (may_push d k p.op) (goes_itself d p.op) (has_its_slot d p.op p.slot) p.op g
    (ready_asks (c.ready k) (some_unsettled c c.taken) (op_act d k p.op p.slot) g e))
