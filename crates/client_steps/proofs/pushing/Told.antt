-- What a push comes to, by its tests.
use Rattle.std.proofs.Common.{◌≡◌, ℕ, ◌+◌, ◌<◌, ◌≤◌, not, Bool, true, false, if◌then◌else◌, List, [], ◌∷◌, Option}
use Rattle.std.proofs.Common.{refl, ap, ◌∙◌, arith, ◌⊎◌, inl, inr}
use Rattle.spec_exchange.specs.Table.{put}
use Rattle.spec_exchange.specs.Operations.{NoSlot, keeps_limits}
use Rattle.spec_exchange.specs.Client.{Client, create_for, goes_itself, has_its_slot, lacks_slot, may_push, settle_no_slot, settle_no_slots}
use Rattle.spec_exchange.specs.ClientStep.{Act, AllSettled, Asks, CloseChannels, Nothing, Pick, Sends, op_act, pick_act, pick_after}
use Rattle.spec_exchange.specs.ClientStep.{some_unsettled}
use Rattle.spec_exchange.specs.Schedules.{Choice, choose, cost}
use Rattle.client_rows.specs.declared.operation_rows.row.Row.{Row}
use Rattle.client_tables.specs.declared.attached_opens.opened.Opened.{Opened}
use Rattle.client_tables.specs.attached_opens.Known.{ShowsOpened}
use Rattle.client_tables.specs.attached_opens.Places.{KeepsPlaces}
use Rattle.client_tables.proofs.attached_opens.Known.{known_moved}
use Rattle.client_steps.specs.pushing.Acts.{act_by, chosen_with, pushed_by}

-- ---- whether all is settled

pub all_done : (u r : Bool) (a : Act) → r ≡ not u → r ≡ true → AllSettled ≡ (if u then a else AllSettled)
all_done true r a e f = absurd (cc)
all_done false r a e f = refl

pub some_left : (u r : Bool) (a : Act) → r ≡ not u → r ≡ false → a ≡ (if u then a else AllSettled)
some_left true r a e f = refl
some_left false r a e f = absurd (cc)

-- ---- a channel that isn't ready

pub apart_after : (c : Client) (k : ℕ) (x : Choice) → c.ready k ≡ false → pushed_by c k x ≡ c
apart_after c k x e = ap (λ b. if b then pick_after (settle_no_slots c k x.slotless) k x.pick else c) e

pub apart_act : (c : Client) (k : ℕ) (x : Choice) → c.ready k ≡ false
    → act_by c k x ≡ (if some_unsettled c c.taken then CloseChannels else AllSettled)
apart_act c k x e =
    ap (λ b. if b then pick_act (settle_no_slots c k x.slotless) k x.pick else if some_unsettled c c.taken then
    CloseChannels else AllSettled) e

-- ---- one that is ready, by the choice

module _ (c : Client) (k : ℕ) (x : Choice) (s : List ℕ) (p : Option Pick) (e : x ≡ record { slotless = s; pick = p })
    (ready : c.ready k ≡ true) where
  pub ready_after : pushed_by c k x ≡ pick_after (settle_no_slots c k s) k p
  ready_after =
      ap (λ z. pushed_by c k z) e ∙ ap (λ b. if b then pick_after (settle_no_slots c k s) k p else c) ready

  pub ready_act : act_by c k x ≡ pick_act (settle_no_slots c k s) k p
  ready_act =
      ap (λ z. act_by c k z) e
      ∙ ap (λ b. if b then pick_act (settle_no_slots c k s) k p else if some_unsettled c c.taken then CloseChannels else AllSettled) ready

-- an operation that goes, with a slot of its own
by_way : (may goes has asking : Bool) (g : ℕ) → may ≡ true → (goes ≡ true → has ≡ true) → asking ≡ not goes
    → (if asking then Asks g else Sends g) ≡ (if may then (if goes then (if has then Sends g else Nothing) else Asks g) else Nothing)
by_way true true true asking g e h a = ap (λ b. if b then Asks g else Sends g) a
by_way true true false asking g e h a = absurd (let w = h refl in cc)
by_way true false has asking g e h a = ap (λ b. if b then Asks g else Sends g) a
by_way false goes has asking g e h a = absurd (cc)

pub goes_act : (z : Client) (k g slot : ℕ) (asking : Bool) → may_push z k g ≡ true
    → (goes_itself z g ≡ true → has_its_slot z g slot ≡ true) → asking ≡ not (goes_itself z g)
    → (if asking then Asks g else Sends g) ≡ op_act z k g slot
goes_act z k g slot asking e h a = by_way (may_push z k g) (goes_itself z g) (has_its_slot z g slot) asking g e h a

-- ---- credits

few_or_many : (n : ℕ) → (n ≤ 254) ⊎ (254 < n)
few_or_many n = grind arith

within : (g n : ℕ) → g < 1 + n → g ≤ n
within g n l = omega arith

many : (m : ℕ) → m ≡ 254 → 17 ≤ m
many m e = omega arith

more : (n : ℕ) → 254 < n → 17 ≤ n
more n l = omega arith

pub same_choice : (c : Client) (k credits m : ℕ) → ((g : ℕ) → 0 < g → g ≤ c.taken → keeps_limits (c.op g) ≡ true)
    → (credits ≤ 254 → m ≡ credits) → (254 < credits → m ≡ 254)
    → ((d : Client) (g : ℕ) → keeps_limits (d.op g) ≡ true → cost d g ≤ 17)
    → ((d : Client) (j a b from count : ℕ) (slotless : List ℕ) → ((g : ℕ) → from ≤ g → g < from + count → cost d g ≤ 17) → 17 ≤ a → 17 ≤ b
    → choose d j a slotless from count ≡ choose d j b slotless from count)
    → chosen_with c k m ≡ chosen_with c k credits
same_choice c k credits m limits few most costs same =
    elim (few_or_many credits) as (λ _. chosen_with c k m ≡ chosen_with c k credits) [
      | inl l ↦ ap (λ n. chosen_with c k n) (few l)
      | inr l ↦ same c k m credits 1 c.taken [] (λ g p q. costs c g (limits g p (within g c.taken q))) (many m (most l)) (more credits l)
    ]

-- ---- what is known of opens, behind the locks that settled for want of a slot

by_known : (b : Bool) (c : Client) (g : ℕ) (rows : List Row) (opened : List Opened) → ShowsOpened rows opened c
    → ShowsOpened rows opened (if b then record c { outcome = put c.outcome g (NoSlot (create_for c g)) } else c)
by_known true c g rows opened s = s
by_known false c g rows opened s = s

known_same : (c : Client) (k : ℕ) (gs : List ℕ) (rows : List Row) (opened : List Opened) → ShowsOpened rows opened c
    → ShowsOpened rows opened (settle_no_slots c k gs)
unfolding settle_no_slots
known_same c k [] rows opened s = s
known_same c k (g ∷ gs) rows opened s =
    known_same (settle_no_slot c k g) k gs rows opened (by_known (lacks_slot c k g) c g rows opened s)

pub known_chosen : (c : Client) (k : ℕ) (gs : List ℕ) (rows new : List Row) (opened : List Opened) → KeepsPlaces rows new
    → ShowsOpened rows opened c → ShowsOpened new opened (settle_no_slots c k gs)
known_chosen c k gs rows new opened m s =
    known_same c k gs new opened (known_moved rows new opened m c.op c.file c.closed_ok c.sent c.slot_of s)
