-- What the code's tests tell of the model's client, and the model's step by them.
use Rattle.std.proofs.Common.{◌≡◌, ℕ, ◌+◌, ◌-◌, ◌<◌, ◌≤◌, ◌&&◌, ◌||◌, nat_le, nat_lt, not, Bool, true, false, if◌then◌else◌, List, length}
use Rattle.std.proofs.Common.{Option, None, is_some, refl, ap, sym, ◌∙◌, arith, ◌⊎◌, inl, inr}
use Rattle.base_lists.specs.declared.watch_lists.Link.{Link as Watch}
use Rattle.spec_exchange.specs.Operations.{is_lock}
use Rattle.spec_exchange.specs.Client.{Client, asked, begun, create_for, goes_itself, has_its_slot, is_attached}
use Rattle.spec_exchange.specs.Client.{is_free, may_push, needs_slot, outstanding}
use Rattle.spec_exchange.specs.ClientStep.{itself_after, op_after}
use Rattle.law_client.proofs.table.Chosen.{and_left, is_positive}
use Rattle.client_values.specs.declared.operations.shapes.Kind.{Kind}
use Rattle.client_values.specs.declared.operations.values.OpKind.{OpKind}
use Rattle.client_rows.specs.declared.operation_rows.row.Row.{Row}
use Rattle.client_rows.specs.declared.operation_rows.slots.Slot.{Slot}
use Rattle.client_rows.specs.operation_rows.Rows.{row_at, kind}
use Rattle.client_rows.specs.open_marks.Marks.{is_create_kind, is_lock_kind}
use Rattle.client_values.specs.declared.outcomes.outcome.Outcome.{Outcome as Settled}
use Rattle.client_values.specs.declared.outcomes.outcome.RefusedDialog.{RefusedDialog as Refused}
use Rattle.client_rows.specs.Shown.{KeepsRow, ShowsRows}
use Rattle.client_rows.specs.declared.session_state.session.Session.{Session}
use Rattle.client_rows.specs.session_state.Shown.{ClientShowsSession}
use Rattle.client_tables.proofs.pushes.Picked.{create_kind, lock_kind}
use Rattle.client_tables.specs.declared.choice.finding.Attached.{Attached}
use Rattle.client_tables.specs.choice.Shown.{IsChoiceAt}
use Rattle.client_tables.specs.whole_table.Shown.{TableBounds, ShowsParts}
use Rattle.client_tables.specs.attached_opens.Opens.{HasSlots, ShowsAttached}
use Rattle.client_steps.specs.sending.Slotted.{HasSlot}

-- ---- the model's step

module _ (c : Client) (k g i : ℕ) (may : may_push c k g ≡ true) where
  pub asks_after : goes_itself c g ≡ false → op_after c k g i ≡ asked c k g
  asks_after e =
      ap (λ t. if t then (if goes_itself c g then itself_after c k g i else asked c k g) else c) may
      ∙ ap (λ t. if t then itself_after c k g i else asked c k g) e

  pub sends_after : goes_itself c g ≡ true → has_its_slot c g i ≡ true → op_after c k g i ≡ outstanding (begun c g i) k g
  sends_after e f =
      ap (λ t. if t then (if goes_itself c g then itself_after c k g i else asked c k g) else c) may
      ∙ ap (λ t. if t then itself_after c k g i else asked c k g) e
      ∙ ap (λ t. if t then outstanding (begun c g i) k g else c) f

-- ---- what a row tells of its operation

pub lock_at : (rows : List Row) (holders prices : List ℕ) (watchers : List Watch) (c : Client) (g : ℕ) → 0 < g → g < length rows
    → ShowsRows rows holders prices watchers c → is_lock (c.op g) ≡ is_lock_kind (kind rows g)
lock_at rows holders prices watchers c g p l s =
    lock_kind (c.op g) ∙ ap (λ (z : Kind). is_lock_kind z) (s.places.kinds g p (s.places.is_taken g p l))

-- whether it goes out itself
pub itself_at : (z : Session) (rows : List Row) (holders prices : List ℕ) (watchers : List Watch) (ops : List OpKind)
    (settled : List Settled) (order : List ℕ) (dialogs : List Refused) (attached : List Attached) (c : Client) (g : ℕ) (own : Attached)
    (told : Bool) → 0 < g → g < length rows → IsChoiceAt attached (row_at rows g).«open» own
    → ((d : Client) (create : ℕ) → ClientShowsSession z d → d.attached create ≡ own.session
    → told ≡ (is_create_kind (kind rows g) || is_attached d create))
    → ShowsParts z rows holders prices watchers ops settled order dialogs c → ShowsAttached rows attached c → goes_itself c g ≡ told
itself_at z rows holders prices watchers ops settled order dialogs attached c g own told p l is e s a =
    let taken = s.rows.places.is_taken g p l in
    ap (λ b. b || is_attached c (create_for c g))
    (create_kind (c.op g) ∙ ap (λ (y : Kind). is_create_kind y) (s.rows.places.kinds g p taken))
    ∙ sym (e c (create_for c g) s.session (ap (λ y. c.attached y) (s.rows.places.creates g p taken) ∙ a.session_is g own p l is))

-- ---- a lock has its slot

needs_by : (lock sent : Bool) → lock ≡ true → sent ≡ false → (lock && not sent) ≡ true
needs_by lock sent e f = grind arith

free_by : (needs free : Bool) → needs ≡ true → (if needs then free else true) ≡ true → free ≡ true
free_by true free e h = h
free_by false free e h = absurd (cc)

either_way : (n x : ℕ) → (x ≤ n) ⊎ (n < x)
either_way n x = grind arith

one_before : (n x : ℕ) → n < x → n ≤ x - 1
one_before n x l = omega arith

and_one : (x : ℕ) → 0 < x → (x - 1) + 1 ≡ x
and_one x p = omega arith

none_is_none : (o : Option ℕ) → o ≡ None → is_some o ≡ true → ⊥
none_is_none o e f = absurd (cc)

pub has_slot_so : (c : Client) (g slot : ℕ) (slots : List Slot) → 0 < g → g ≤ c.taken → is_lock (c.op g) ≡ true → TableBounds c
    → HasSlots slots (c.slot_user (create_for c g)) (c.retried (create_for c g)) (c.full (create_for c g))
    → has_its_slot c g slot ≡ true → (room : ℕ) → (c.sent g ≡ false → length slots < slot → length slots < room)
    → HasSlot c g slot (length slots) room
has_slot_so c g slot slots p l lock b h has room finds =
    record {
      first = λ e. (
          let needs : needs_slot c g ≡ true = needs_by (is_lock (c.op g)) (c.sent g) lock e in
          let free : is_free c (create_for c g) slot ≡ true =
          free_by (needs_slot c g) (is_free c (create_for c g) slot) needs has in
          (is_positive slot (and_left (nat_lt 0 slot) (nat_le slot 64) (and_left (nat_lt 0 slot && nat_le slot 64) _ free)), finds e)
          );
      again = λ e. (
          let w = b.slotted g p l e lock in
          let x = c.slot_of g in
          elim (either_way (length slots) x) as (λ _. (0 < x) × (x ≤ length slots)) [
            | inl k ↦ (w.0, k)
            | inr k ↦ absurd (none_is_none (c.slot_user (create_for c g) x)
                (ap (λ y. c.slot_user (create_for c g) y) (sym (and_one x w.0)) ∙ (h.unused (x - 1) (one_before (length slots) x k)).0)
                w.1)
          ]
          );
    }

pub not_among : (x n : ℕ) → (nat_lt 0 x && nat_le x n) ≡ false → 0 < x → x ≤ n → ⊥
not_among x n e p l = grind arith

-- nothing changes
pub keeps_none : (rows : List Row) (x : ℕ) → KeepsRow rows rows x
keeps_none rows x =
    record {
      count = refl;
      create = λ g. refl;
      opens = λ g. refl;
      kinds = λ g. refl;
      unsettled = λ g. refl;
      firms = λ g. refl;
      charges = λ g. refl;
      others = λ g e. refl;
    }
