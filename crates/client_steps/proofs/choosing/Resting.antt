-- A push's choice, as far as its loop has come: behind the locks that settled for want of a slot.
use Rattle.std.proofs.Common.{◌≡◌, ℕ, zero, suc, ◌+◌, ◌-◌, ◌<◌, ◌≤◌, Bool, true, false, if◌then◌else◌, List, [], ◌∷◌, ◌++◌, Some, None}
use Rattle.std.proofs.Common.{refl, ap, sym, ◌∙◌, arith}
use Rattle.spec_exchange.specs.Table.{put}
use Rattle.spec_exchange.specs.Operations.{NoSlot}
use Rattle.spec_exchange.specs.Client.{Client, create_for, lacks_slot, settle_no_slot, settle_no_slots}
use Rattle.spec_exchange.specs.Schedules.{choose}
use Rattle.client_rows.specs.declared.operation_rows.row.Row.{Row}
use Rattle.client_tables.specs.declared.choice.finding.Attached.{Attached}
use Rattle.client_tables.specs.choice.Shown.{ChoiceTells}
use Rattle.client_tables.specs.declared.choice.finding.Found.TheVariants as found
use Rattle.client_tables.specs.attached_opens.Opens.{ShowsAttached}

-- the last of the list settles last
pub settle_last : (c : Client) (k g : ℕ) (gs : List ℕ)
    → settle_no_slots c k (gs ++ g ∷ []) ≡ settle_no_slot (settle_no_slots c k gs) k g
unfolding settle_no_slots
settle_last c k g [] = refl
settle_last c k g (x ∷ xs) = settle_last (settle_no_slot c k x) k g xs

-- ---- what such a settling leaves

by_taken : (b : Bool) (c : Client) (g : ℕ)
    → (if b then record c { outcome = put c.outcome g (NoSlot (create_for c g)) } else c).taken ≡ c.taken
by_taken true c g = refl
by_taken false c g = refl

by_ready : (b : Bool) (c : Client) (g k : ℕ)
    → (if b then record c { outcome = put c.outcome g (NoSlot (create_for c g)) } else c).ready k ≡ c.ready k
by_ready true c g k = refl
by_ready false c g k = refl

pub taken_same : (c : Client) (k : ℕ) (gs : List ℕ) → (settle_no_slots c k gs).taken ≡ c.taken
unfolding settle_no_slots
taken_same c k [] = refl
taken_same c k (g ∷ gs) = taken_same (settle_no_slot c k g) k gs ∙ by_taken (lacks_slot c k g) c g

pub ready_same : (c : Client) (k j : ℕ) (gs : List ℕ) → (settle_no_slots c k gs).ready j ≡ c.ready j
unfolding settle_no_slots
ready_same c k j [] = refl
ready_same c k j (g ∷ gs) = ready_same (settle_no_slot c k g) k j gs ∙ by_ready (lacks_slot c k g) c g j

-- ---- the loop

-- what the choice comes to is what it comes to from here on
abbrev pub Rest : Client → (k credits : ℕ) → List ℕ → ℕ → Type 0
Rest c k credits s from = (m : ℕ) → from + m ≡ c.taken + 1
    → choose c k credits [] 1 c.taken ≡ choose (settle_no_slots c k s) k credits s from m

count_at_first : (m n : ℕ) → 1 + m ≡ n + 1 → m ≡ n
count_at_first m n e = omega arith

pub rest_first : (c : Client) (k credits : ℕ) → Rest c k credits [] 1
unfolding settle_no_slots
rest_first c k credits m e = sym (ap (λ n. choose c k credits [] 1 n) (count_at_first m c.taken e))

-- a lock settles for want of a slot
pub rest_next : (c : Client) (k credits : ℕ) (s : List ℕ) (from i : ℕ) → from ≤ i → i ≤ c.taken → Rest c k credits s from
    → ChoiceTells (settle_no_slots c k s) k credits s from (found.Slotless i) → Rest c k credits (s ++ i ∷ []) (i + 1)
rest_next c k credits s from i a l r t = λ m e.
    let d = settle_no_slots c k s in
    let p = i - from in
    let q : from + p ≡ i = apart from i a in
    r (p + (m + 1)) (whole from p i m c.taken q e)
    ∙ t.1 p m q (behind i m c.taken e ∙ sym (taken_same c k s))
    ∙ ap (λ z. choose z k credits (s ++ i ∷ []) (i + 1) m) (sym (settle_last c k i s))
  where
    apart : (x y : ℕ) → x ≤ y → x + (y - x) ≡ y
    apart x y h = omega arith

    whole : (x p y m n : ℕ) → x + p ≡ y → (y + 1) + m ≡ n + 1 → x + (p + (m + 1)) ≡ n + 1
    whole x p y m n h e = omega arith

    behind : (y m n : ℕ) → (y + 1) + m ≡ n + 1 → y + m ≡ n
    behind y m n e = omega arith

-- the loop's ends: nothing goes, or this one does
pub rest_none : (c : Client) (k credits : ℕ) (s : List ℕ) (from : ℕ) → from ≤ c.taken + 1 → Rest c k credits s from
    → ChoiceTells (settle_no_slots c k s) k credits s from found.Nothing
    → choose c k credits [] 1 c.taken ≡ record { slotless = s; pick = None }
rest_none c k credits s from l r t =
    let m = (c.taken + 1) - from in
    let q : from + m ≡ c.taken + 1 = apart from (c.taken + 1) l in
    r m q ∙ t m (q ∙ sym (ap (λ n. n + 1) (taken_same c k s)))
  where
    apart : (x y : ℕ) → x ≤ y → x + (y - x) ≡ y
    apart x y h = omega arith

-- behind the last one there is none, without a look
pub rest_end : (c : Client) (k credits : ℕ) (s : List ℕ) → Rest c k credits s (c.taken + 1)
    → choose c k credits [] 1 c.taken ≡ record { slotless = s; pick = None }
unfolding choose
rest_end c k credits s r = r 0 (and_none (c.taken + 1))
  where
    and_none : (n : ℕ) → n + 0 ≡ n
    and_none n = omega arith

pub rest_some : (c : Client) (k credits : ℕ) (s : List ℕ) (from i slot : ℕ) → from ≤ i → i ≤ c.taken → Rest c k credits s from
    → ChoiceTells (settle_no_slots c k s) k credits s from (found.Goes i slot)
    → choose c k credits [] 1 c.taken ≡ record { slotless = s; pick = Some (record { op = i; slot = slot }) }
rest_some c k credits s from i slot a l r t =
    let p = i - from in
    let n = c.taken - i in
    let q : from + p ≡ i = apart from i a in
    let w : i + n ≡ c.taken = apart i c.taken l in
    r (p + (n + 1)) (whole from p i n c.taken q w) ∙ t.2 p n q (w ∙ sym (taken_same c k s))
  where
    apart : (x y : ℕ) → x ≤ y → x + (y - x) ≡ y
    apart x y h = omega arith

    whole : (x p y m n : ℕ) → x + p ≡ y → y + m ≡ n → x + (p + (m + 1)) ≡ n + 1
    whole x p y m n h e = omega arith

-- ---- what such a settling leaves of the opens

by_attached : (b : Bool) (c : Client) (g : ℕ) (rows : List Row) (attached : List Attached) → ShowsAttached rows attached c
    → ShowsAttached rows attached (if b then record c { outcome = put c.outcome g (NoSlot (create_for c g)) } else c)
by_attached true c g rows attached s = record {
  session_is = s.session_is;
  slots_are = s.slots_are;
  session_none = s.session_none;
  slots_none = s.slots_none;
}
by_attached false c g rows attached s = s

pub attached_same : (c : Client) (k : ℕ) (gs : List ℕ) (rows : List Row) (attached : List Attached) → ShowsAttached rows attached c
    → ShowsAttached rows attached (settle_no_slots c k gs)
unfolding settle_no_slots
attached_same c k [] rows attached s = s
attached_same c k (g ∷ gs) rows attached s =
    attached_same (settle_no_slot c k g) k gs rows attached (by_attached (lacks_slot c k g) c g rows attached s)

-- the first client shows itself
pub none_yet : (c : Client) (k : ℕ) → settle_no_slots c k [] ≡ c
unfolding settle_no_slots
none_yet c k = refl

-- the loop ends behind the last one
pub at_end : (taken n from : ℕ) → (0 < taken → taken < n) → n ≤ from → 0 < from → from ≤ taken + 1 → from ≡ taken + 1
at_end zero n from h l p q = omega arith
at_end (suc t) n from h l p q = let w = h (omega arith) in omega arith

-- and begins at the first one
pub first_in : (n : ℕ) → 1 ≤ n + 1
first_in n = omega arith
