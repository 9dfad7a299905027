-- What the model chooses at an operation that goes, by the tests of the rows.
use Rattle.std.proofs.Common.{◌≡◌, ℕ, zero, suc, ◌+◌, ◌<◌, ◌≤◌, ◌&&◌, ◌||◌, not, nat_le, Bool, true, false, List, [], ◌∷◌, ◌++◌, length}
use Rattle.std.proofs.Common.{refl, ap, sym, ◌∙◌, subst, arith, ◌⊎◌, inl, inr, Option, Some, None, IfSome, IfNone, is_none, if◌then◌else◌}
use Rattle.base_lists.specs.declared.watch_lists.Link.{Link as Watch}
use Rattle.spec_exchange.specs.Table.{put}
use Rattle.spec_exchange.specs.Operations.{Op, OpCreate, OpWrite, OpRead, OpEnd, OpTime, OpRename, OpRemove, OpLock, NoSlot}
use Rattle.spec_exchange.specs.Operations.{OpUnlock, OpFlush, OpStat, OpList, OpClose, is_create, is_lock, is_unsettled}
use Rattle.spec_exchange.specs.Client.{Client, create_for, goes_itself, has_free, is_attached, is_free, lacks_slot, may_push, needs_slot}
use Rattle.spec_exchange.specs.Client.{has_its_slot, has_open, is_taken, settle_no_slot, waits}
use Rattle.spec_exchange.specs.Schedules.{Choice, choose, cost, least_free}
use Rattle.law_client.specs.table.Kept.{TableKept}
use Rattle.law_client.specs.table.Columns.{IsClientFirst, ops_of, standing_of}
use Rattle.law_client.proofs.table.Waiting.{waits_not}
use Rattle.law_client.specs.choice.Choosing.{ChoiceGoes, chosen}
use Rattle.law_client.proofs.choice.Pushing.{goes_so}
use Rattle.client_values.specs.declared.operations.shapes.Kind.{Kind}
use Rattle.client_values.specs.operations.Waiting.{kind_of}
use Rattle.client_rows.specs.declared.operation_rows.row.Row.{Row}
use Rattle.client_rows.specs.operation_rows.Rows.{row_at}
use Rattle.client_rows.specs.Shown.{ShowsRows}
use Rattle.client_rows.specs.open_marks.Marks.{is_create_kind, is_lock_kind}

-- ---- kinds

pub create_kind : (o : Op) → is_create o ≡ is_create_kind (kind_of o)
create_kind (OpCreate path access share disposition persist directory) = refl
create_kind (OpWrite create at bytes) = refl
create_kind (OpRead create at size) = refl
create_kind (OpEnd create size) = refl
create_kind (OpTime create time) = refl
create_kind (OpRename create path) = refl
create_kind (OpRemove create) = refl
create_kind (OpLock create at n exclusive) = refl
create_kind (OpUnlock create at n) = refl
create_kind (OpFlush create) = refl
create_kind (OpStat create) = refl
create_kind (OpList create) = refl
create_kind (OpClose create) = refl

pub lock_kind : (o : Op) → is_lock o ≡ is_lock_kind (kind_of o)
lock_kind (OpCreate path access share disposition persist directory) = refl
lock_kind (OpWrite create at bytes) = refl
lock_kind (OpRead create at size) = refl
lock_kind (OpEnd create size) = refl
lock_kind (OpTime create time) = refl
lock_kind (OpRename create path) = refl
lock_kind (OpRemove create) = refl
lock_kind (OpLock create at n exclusive) = refl
lock_kind (OpUnlock create at n) = refl
lock_kind (OpFlush create) = refl
lock_kind (OpStat create) = refl
lock_kind (OpList create) = refl
lock_kind (OpClose create) = refl

-- ---- slots

slot_past : (i n j : ℕ) → i ≤ j → j < i + suc n → (j ≡ i) ⊎ ((i + 1 ≤ j) × (j < (i + 1) + n))
slot_past i n j l m = grind arith

first_none : (b : Bool) (i : ℕ) (r : Option ℕ) → (elim b as (λ x. Option ℕ) [ true ↦ Some i | false ↦ r ]) ≡ None → b ≡ false
first_none true i r e = absurd (cc)
first_none false i r e = refl

rest_none : (b : Bool) (i : ℕ) (r : Option ℕ) → (elim b as (λ x. Option ℕ) [ true ↦ Some i | false ↦ r ]) ≡ None → r ≡ None
rest_none true i r e = absurd (cc)
rest_none false i r e = e

none_from : (c : Client) (create i n : ℕ) → least_free c create i n ≡ None → (j : ℕ) → i ≤ j → j < i + n → is_free c create j ≡ false
unfolding least_free
none_from c create i zero e j l m = absurd (omega arith)
none_from c create i (suc n) e j l m =
    elim (slot_past i n j l m) as (λ _. is_free c create j ≡ false) [
      | inl q ↦ ap (λ x. is_free c create x) q ∙ first_none (is_free c create i) i (least_free c create (i + 1) n) e
      | inr q ↦ none_from c create (i + 1) n (rest_none (is_free c create i) i (least_free c create (i + 1) n) e) j q.0 q.1
    ]

neither : (a b : Bool) → a ≡ false → b ≡ false → (a || b) ≡ false
neither a b e f = grind arith

none_below : (c : Client) (create n : ℕ) → ((j : ℕ) → 0 < j → j ≤ n → is_free c create j ≡ false) → has_free c create n ≡ false
unfolding has_free
none_below c create zero h = refl
none_below c create (suc n) h =
    neither (is_free c create (n + 1)) (has_free c create n) (h (n + 1) (omega arith) (omega arith))
    (none_below c create n (λ j p l. h j p (omega arith)))

pub none_free : (c : Client) (create : ℕ) → least_free c create 1 64 ≡ None → has_free c create 64 ≡ false
none_free c create e = none_below c create 64 (λ j p l. none_from c create 1 64 e j (omega arith) (omega arith))

-- ---- what is chosen

module _ (c : Client) (k credits : ℕ) (slotless : List ℕ) (g n : ℕ) where
  abbrev by_slot : Option ℕ → Choice
  by_slot r = elim r as (λ x. Choice) [
    | Some i ↦ record { slotless = slotless; pick = Some (record { op = g; slot = i }) }
    | None ↦ choose (settle_no_slot c k g) k credits (slotless ++ g ∷ []) (g + 1) n
  ]

  abbrev by_need : Bool → Choice
  by_need b = elim b as (λ x. Choice) [
    | false ↦ record { slotless = slotless; pick = Some (record { op = g; slot = 0 }) }
    | true ↦ by_slot (least_free c (create_for c g) 1 64)
  ]

  as_needed : chosen c k credits slotless g n ≡ by_need (goes_itself c g && needs_slot c g)
  as_needed = refl

  pub without_slot : (goes_itself c g && needs_slot c g) ≡ false
      → chosen c k credits slotless g n ≡ record { slotless = slotless; pick = Some (record { op = g; slot = 0 }) }
  without_slot e = as_needed ∙ ap (λ b. by_need b) e

  with_slot : (r : Option ℕ) → (goes_itself c g && needs_slot c g) ≡ true → r ≡ least_free c (create_for c g) 1 64
      → chosen c k credits slotless g n ≡ by_slot r
  with_slot r e f = as_needed ∙ ap (λ b. by_need b) e ∙ ap (λ o. by_slot o) (sym f)

  some_of : (r : Option ℕ) → chosen c k credits slotless g n ≡ by_slot r → IfSome r (λ slot. chosen c k credits slotless g n
      ≡ record { slotless = slotless; pick = Some (record { op = g; slot = slot }) })
  some_of None e = tt
  some_of (Some i) e = e

  none_of : (r : Option ℕ) → chosen c k credits slotless g n ≡ by_slot r → IfNone r (chosen c k credits slotless g n
      ≡ choose (settle_no_slot c k g) k credits (slotless ++ g ∷ []) (g + 1) n)
  none_of None e = e
  none_of (Some i) e = tt

  pub some_slot : (r : Option ℕ) → (goes_itself c g && needs_slot c g) ≡ true → r ≡ least_free c (create_for c g) 1 64
      → IfSome r (λ slot. chosen c k credits slotless g n ≡ record { slotless = slotless; pick = Some (record { op = g; slot = slot }) })
  some_slot r e f = some_of r (with_slot r e f)

  pub none_slot : (r : Option ℕ) → (goes_itself c g && needs_slot c g) ≡ true → r ≡ least_free c (create_for c g) 1 64
      → IfNone r (chosen c k credits slotless g n ≡ choose (settle_no_slot c k g) k credits (slotless ++ g ∷ []) (g + 1) n)
  none_slot r e f = none_of r (with_slot r e f)

-- ---- a lock for which there is none

first_of : (a b : Bool) → (a && b) ≡ true → a ≡ true
first_of a b e = grind arith

second_of : (a b : Bool) → (a && b) ≡ true → b ≡ true
second_of a b e = grind arith

all_lack : (may goes needs free : Bool) → may ≡ true → (goes && needs) ≡ true → free ≡ false → (may && (goes && (needs && not free))) ≡ true
all_lack may goes needs free e f g = grind arith

pub may_go : (c : Client) (k credits g : ℕ) → TableKept c → c.ready k ≡ true → 0 < g → g ≤ c.taken
    → ChoiceGoes c credits g → may_push c k g ≡ true
may_go c k credits g i r p l w = first_of (may_push c k g) (nat_le (cost c g) credits) (goes_so c k credits g i r p l w)

lacks_so : (c : Client) (k credits g : ℕ) (r : Option ℕ) → TableKept c → c.ready k ≡ true → 0 < g → g ≤ c.taken → ChoiceGoes c credits g
    → (goes_itself c g && needs_slot c g) ≡ true → r ≡ least_free c (create_for c g) 1 64 → IfNone r (lacks_slot c k g ≡ true)
lacks_so c k credits g None i a p l w e f =
    all_lack (may_push c k g) (goes_itself c g) (needs_slot c g) (has_free c (create_for c g) 64) (may_go c k credits g i a p l w) e
    (none_free c (create_for c g) (sym f))
lacks_so c k credits g (Some slot) i a p l w e f = tt

-- it waits for nothing
not_waits : (a t u n h w : Bool) → (a && (t && (u && (n && (h && not w))))) ≡ true → w ≡ false
not_waits a t u n h w e = grind arith

-- ---- by rows

module _ (rows : List Row) (holders prices : List ℕ) (watchers : List Watch) (c : Client) (g : ℕ) (p : 0 < g) (l : g < length rows)
    (s : ShowsRows rows holders prices watchers c) where
  taken : g ≤ c.taken
  taken = s.places.is_taken g p l

  kind_is : kind_of (c.op g) ≡ (row_at rows g).kind
  kind_is = s.places.kinds g p taken

  pub tests_are : (goes_itself c g && needs_slot c g)
      ≡ ((is_create_kind (row_at rows g).kind || is_attached c (create_for c g))
      && (is_lock_kind (row_at rows g).kind && not (row_at rows g).sent))
  tests_are =
      let a : is_create (c.op g) ≡ is_create_kind (row_at rows g).kind =
      create_kind (c.op g) ∙ ap (λ (z : Kind). is_create_kind z) kind_is in
      let b : is_lock (c.op g) ≡ is_lock_kind (row_at rows g).kind = lock_kind (c.op g) ∙ ap (λ (z : Kind). is_lock_kind z) kind_is in
      let d = s.sends.sent_is g in
      λ t. ((a t) || is_attached c (create_for c g)) && ((b t) && not (d t))

  pub lacks_it : (k credits : ℕ) (r : Option ℕ) → TableKept c → c.ready k ≡ true → ChoiceGoes c credits g
      → (goes_itself c g && needs_slot c g) ≡ true → r ≡ least_free c (create_for c g) 1 64 → IfNone r (lacks_slot c k g ≡ true)
  lacks_it k credits r i a w e f = lacks_so c k credits g r i a p taken w e f

-- ---- it settles

pub no_slot_put : (c : Client) (k g : ℕ) → lacks_slot c k g ≡ true
    → settle_no_slot c k g ≡ record c { outcome = put c.outcome g (NoSlot (create_for c g)) }
no_slot_put c k g e = ap (λ b. if b then record c { outcome = put c.outcome g (NoSlot (create_for c g)) } else c) e

pub first_so : (c : Client) (k g : ℕ) → lacks_slot c k g ≡ true → IsClientFirst (ops_of c) (standing_of c) g
first_so c k g e =
    waits_not c g (not_waits (c.ready k) (is_taken c g) (is_unsettled (c.outcome g)) (is_none (c.outstanding_on g)) (has_open c g)
    (waits c g g) (first_of (may_push c k g) (goes_itself c g && (needs_slot c g && not (has_free c (create_for c g) 64))) e))

-- ---- tests in a row

pub or_first : (x k a : Bool) → x ≡ k → x ≡ true → x ≡ (k || a)
or_first x k a e f = grind arith

pub or_second : (x k a y : Bool) → x ≡ k → x ≡ false → y ≡ a → y ≡ (k || a)
or_second x k a y e f g = grind arith

pub and_both : (x a y b : Bool) → x ≡ a → x ≡ true → y ≡ b → y ≡ (a && b)
and_both x a y b e f g = grind arith

pub and_none : (x a b : Bool) → x ≡ a → x ≡ false → x ≡ (a && b)
and_none x a b e f = grind arith

pub bounded_slot : (n : ℕ) (o : Option ℕ) → IfSome o (λ slot. (0 < slot) × (slot ≤ n + 1)) → IfSome o (λ slot. slot ≤ n + 1)
bounded_slot n None h = tt
bounded_slot n (Some slot) h = h.1

-- ---- the slot that is told is the operation's

if_weaker : (o : Option ℕ) (P Q : ℕ → Type 0) → ((s : ℕ) → P s → Q s) → IfSome o P → IfSome o Q
if_weaker None P Q f h = tt
if_weaker (Some s) P Q f h = f s h

by_free : (c : Client) (create i : ℕ) (b : Bool) (o : Option ℕ) → is_free c create i ≡ b → IfSome o (λ s. is_free c create s ≡ true)
    → IfSome (elim b as (λ x. Option ℕ) [ true ↦ Some i | false ↦ o ]) (λ s. is_free c create s ≡ true)
by_free c create i true o e h = e
by_free c create i false o e h = h

least_is_free : (c : Client) (create i n : ℕ) → IfSome (least_free c create i n) (λ s. is_free c create s ≡ true)
unfolding least_free
least_is_free c create i zero = tt
least_is_free c create i (suc n) =
    by_free c create i (is_free c create i) (least_free c create (i + 1) n) refl (least_is_free c create (i + 1) n)

has_by : (needs free : Bool) → free ≡ true → (if needs then free else true) ≡ true
has_by true free e = e
has_by false free e = refl

pub no_need : (goes needs free : Bool) → (goes && needs) ≡ false → goes ≡ true → (if needs then free else true) ≡ true
no_need true true free e f = absurd (cc)
no_need true false free e f = refl
no_need false needs free e f = absurd (cc)

pub has_slot : (c : Client) (g : ℕ) (r : Option ℕ) → r ≡ least_free c (create_for c g) 1 64
    → IfSome r (λ slot. goes_itself c g ≡ true → has_its_slot c g slot ≡ true)
has_slot c g r e = if_weaker r (λ s. is_free c (create_for c g) s ≡ true) (λ s. goes_itself c g ≡ true → has_its_slot c g s ≡ true)
    (λ s f i. has_by (needs_slot c g) (is_free c (create_for c g) s) f)
    (subst (λ (o : Option ℕ). IfSome o (λ s. is_free c (create_for c g) s ≡ true)) (sym e) (least_is_free c (create_for c g) 1 64))
