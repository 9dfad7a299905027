-- What rows and slots show of the model's client behind an operation that goes out.
use Rattle.std.proofs.Common.{◌≡◌, ℕ, ◌+◌, ◌<◌, ◌≤◌, true, false, List, ◌++◌, length, take, drop, set, if◌then◌else◌}
use Rattle.std.proofs.Common.{ap, sym, ◌∙◌, arith, subst, append-nil, Some}
use Rattle.std.proofs.lemmas.List.{drop_all, take_all}
use Rattle.base_lists.specs.declared.watch_lists.Link.{Link as Watch}
use Rattle.spec_exchange.specs.Table.{put, put2}
use Rattle.spec_exchange.specs.Operations.{is_lock}
use Rattle.spec_exchange.specs.Client.{Client, again, begin, begun, create_for, next_number, outstanding, take_slot}
use Rattle.client_rows.specs.declared.operation_rows.row.Row.{Row}
use Rattle.client_rows.specs.declared.operation_rows.slots.Slot.{Slot}
use Rattle.client_rows.specs.operation_rows.Rows.{row_at}
use Rattle.client_rows.specs.operation_rows.Slots.{slot_at}
use Rattle.client_rows.proofs.operation_rows.Changing.{col_kept}
use Rattle.client_rows.specs.Shown.{ShowsRows}
use Rattle.client_rows.specs.lock_slots.Shown.{HaveRows, ShowsSlots}

-- a slice of all of a list, written back
pub whole : {X : Type 0} → (n : ℕ) (old new : List X) → length old ≡ n → length new ≡ length old
    → take n (new ++ drop (length new) old) ≡ new
whole n old new e l =
    ap (λ xs. take n (new ++ xs)) (drop_all (length new) old (omega arith)) ∙ ap (λ xs. take n xs) (append-nil new)
    ∙ take_all n new (omega arith)

pub firm_same : (rows new : List Row) (x : ℕ) (r : Row) → x < length rows → r.firm ≡ (row_at rows x).firm → new ≡ set rows x r
    → (g : ℕ) → (row_at new g).firm ≡ (row_at rows g).firm
firm_same rows new x r l e q g =
    ap (λ (rs : List Row). (row_at rs g).firm) q ∙ sym (λ t. (col_kept (λ (z : Row). z.firm) rows x r l e t) g)

pub have_same : (rows new : List Row) (slots : List Slot) → length new ≡ length rows → HaveRows rows slots → HaveRows new slots
have_same rows new slots e h p l = subst (λ z. (slot_at slots p).user < z) (sym e) (h p l)

-- ---- the model's step

begun_lock : (c : Client) (g i : ℕ) → is_lock (c.op g) ≡ true → c.sent g ≡ false
    → begun c g i ≡ record (take_slot c g i) { sent = put c.sent g true }
begun_lock c g i e f =
    ap (λ b. if b then again c g else begin c g i) f
    ∙ ap (λ b. if b then record (take_slot c g i) { sent = put c.sent g true } else record c { sent = put c.sent g true }) e

begun_other : (c : Client) (g i : ℕ) → is_lock (c.op g) ≡ false → c.sent g ≡ false → begun c g i ≡ record c { sent = put c.sent g true }
begun_other c g i e f =
    ap (λ b. if b then again c g else begin c g i) f
    ∙ ap (λ b. if b then record (take_slot c g i) { sent = put c.sent g true } else record c { sent = put c.sent g true }) e

module _ (rows : List Row) (holders prices : List ℕ) (watchers : List Watch) (c : Client) (k g i : ℕ) (f : c.sent g ≡ false) where
  pub lock_shown : is_lock (c.op g) ≡ true
      → ShowsRows rows holders prices watchers (record c {
        sent = put c.sent g true;
        outstanding_on = put c.outstanding_on g (Some k);
        asks_attach = put c.asks_attach g false;
        unanswered = c.unanswered;
        sequence_of = put c.sequence_of g c.sequence;
        slot_of = put c.slot_of g i;
        number_of = put c.number_of g (next_number c (c.slot_user (create_for c g) i));
      })
      → ShowsRows rows holders prices watchers (outstanding (begun c g i) k g)
  lock_shown e s =
      subst (λ (z : Client). ShowsRows rows holders prices watchers (outstanding z k g)) (sym (begun_lock c g i e f))
      (record { places = s.places; sends = s.sends; stand = s.stand })

  pub other_shown : is_lock (c.op g) ≡ false
      → ShowsRows rows holders prices watchers (record c {
        sent = put c.sent g true;
        outstanding_on = put c.outstanding_on g (Some k);
        asks_attach = put c.asks_attach g false;
        unanswered = c.unanswered;
        sequence_of = put c.sequence_of g c.sequence;
        slot_of = c.slot_of;
        number_of = c.number_of;
      })
      → ShowsRows rows holders prices watchers (outstanding (begun c g i) k g)
  other_shown e s =
      subst (λ (z : Client). ShowsRows rows holders prices watchers (outstanding z k g)) (sym (begun_other c g i e f))
      (record { places = s.places; sends = s.sends; stand = s.stand })

module _ (rows new : List Row) (slots : List Slot) (session : ℕ) (c : Client) (k g i create : ℕ)
    (firm : (h : ℕ) → (row_at new h).firm ≡ (row_at rows h).firm) (f : c.sent g ≡ false) where
  pub lock_slots : is_lock (c.op g) ≡ true → ShowsSlots rows slots session (take_slot c g i) create
      → ShowsSlots new slots session (outstanding (begun c g i) k g) create
  lock_slots e h =
      subst (λ (z : Client). ShowsSlots new slots session (outstanding z k g) create) (sym (begun_lock c g i e f))
      (record {
        user = h.user;
        retried = h.retried;
        full = h.full;
        firm = λ p l. h.firm p l ∙ sym (firm (slot_at slots p).user);
        unused = h.unused;
        number = h.number;
      })

  pub other_slots : is_lock (c.op g) ≡ false → ShowsSlots rows slots session c create
      → ShowsSlots new slots session (outstanding (begun c g i) k g) create
  other_slots e h =
      subst (λ (z : Client). ShowsSlots new slots session (outstanding z k g) create) (sym (begun_other c g i e f))
      (record {
        user = h.user;
        retried = h.retried;
        full = h.full;
        firm = λ p l. h.firm p l ∙ sym (firm (slot_at slots p).user);
        unused = h.unused;
        number = h.number;
      })

-- ---- a slot behind those that were used

pub one_behind : (slot n : ℕ) → n < slot → slot ≤ n + 1 → n + 1 ≡ slot
one_behind slot n l m = omega arith

-- ---- what goes out again

begun_again : (c : Client) (g i : ℕ) → c.sent g ≡ true → begun c g i ≡ again c g
begun_again c g i f = ap (λ b. if b then again c g else begin c g i) f

again_lock : (c : Client) (g : ℕ) → is_lock (c.op g) ≡ true
    → again c g ≡ record c { retried = put2 c.retried (create_for c g) (c.slot_of g) c.session_number }
again_lock c g e =
    ap (λ b. if b then record c { retried = put2 c.retried (create_for c g) (c.slot_of g) c.session_number } else c) e

again_other : (c : Client) (g : ℕ) → is_lock (c.op g) ≡ false → again c g ≡ c
again_other c g e = ap (λ b. if b then record c { retried = put2 c.retried (create_for c g) (c.slot_of g) c.session_number } else c) e

module _ (rows : List Row) (holders prices : List ℕ) (watchers : List Watch) (c : Client) (k g i : ℕ) (f : c.sent g ≡ true) where
  pub lock_again : is_lock (c.op g) ≡ true → ShowsRows rows holders prices watchers (outstanding c k g)
      → ShowsRows rows holders prices watchers (outstanding (begun c g i) k g)
  lock_again e s =
      subst (λ (z : Client). ShowsRows rows holders prices watchers (outstanding z k g)) (sym (begun_again c g i f ∙ again_lock c g e))
      (record { places = s.places; sends = s.sends; stand = s.stand })

  pub other_again : is_lock (c.op g) ≡ false → ShowsRows rows holders prices watchers (outstanding c k g)
      → ShowsRows rows holders prices watchers (outstanding (begun c g i) k g)
  other_again e s =
      subst (λ (z : Client). ShowsRows rows holders prices watchers (outstanding z k g)) (sym (begun_again c g i f ∙ again_other c g e)) s

-- what is outstanding leaves slots, and so does a row whose firmness stays
out_slots : (rows new : List Row) (slots : List Slot) (session : ℕ) (c : Client) (k g create : ℕ)
    → ((h : ℕ) → (row_at new h).firm ≡ (row_at rows h).firm) → ShowsSlots rows slots session c create
    → ShowsSlots new slots session (outstanding c k g) create
out_slots rows new slots session c k g create firm h =
    record {
      user = h.user;
      retried = h.retried;
      full = h.full;
      firm = λ p l. h.firm p l ∙ sym (firm (slot_at slots p).user);
      unused = h.unused;
      number = h.number;
    }

module _ (rows new : List Row) (slots : List Slot) (session : ℕ) (c : Client) (k g i create : ℕ)
    (firm : (h : ℕ) → (row_at new h).firm ≡ (row_at rows h).firm) (f : c.sent g ≡ true) where
  pub lock_slots_again : ShowsSlots rows slots session (again c g) create
      → ShowsSlots new slots session (outstanding (begun c g i) k g) create
  lock_slots_again h =
      subst (λ (z : Client). ShowsSlots new slots session (outstanding z k g) create) (sym (begun_again c g i f))
      (out_slots rows new slots session (again c g) k g create firm h)

  pub other_slots_again : is_lock (c.op g) ≡ false → ShowsSlots rows slots session c create
      → ShowsSlots new slots session (outstanding (begun c g i) k g) create
  other_slots_again e h =
      subst (λ (z : Client). ShowsSlots new slots session (outstanding z k g) create)
      (sym (begun_again c g i f ∙ again_other c g e)) (out_slots rows new slots session c k g create firm h)

pub have_moved : (rows new : List Row) (old slots : List Slot) → length new ≡ length rows → length slots ≡ length old
    → ((p : ℕ) → (slot_at slots p).user ≡ (slot_at old p).user) → HaveRows rows old → HaveRows new slots
have_moved rows new old slots e l same h p k =
    subst (λ u. u < length new) (sym (same p)) (subst (λ z. (slot_at old p).user < z) (sym e) (h p (subst (λ n. p < n) l k)))
