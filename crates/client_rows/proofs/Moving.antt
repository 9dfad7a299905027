-- One row changes.
use Rattle.std.proofs.Common.{◌≡◌, ℕ, ◌<◌, ◌≤◌, Bool, true, false, List, length, set, refl, ap, sym, ◌∙◌, arith}
use Rattle.std.proofs.Common.{subst, ◌⊎◌, inl, inr, Option}
use Rattle.base_lists.specs.declared.watch_lists.Link.{Link as Watch}
use Rattle.spec_exchange.specs.Table.{put}
use Rattle.spec_exchange.specs.Operations.{Op, Outcome, is_firm, is_unsettled}
use Rattle.spec_exchange.specs.Client.{Client}
use Rattle.spec_exchange.specs.Schedules.{cost}
use Rattle.law_client.specs.table.Columns.{IsClientFirst, ops_of, standing_of}
use Rattle.client_rows.specs.declared.operation_rows.row.Row.{Row}
use Rattle.client_rows.specs.operation_rows.Rows.{row_at, stands, costs}
use Rattle.client_rows.specs.operation_rows.Holding.{IsSafe}
use Rattle.client_rows.specs.operation_rows.Moves.{IsSettled, KeepsPlace, StandsRows}
use Rattle.client_rows.proofs.operation_rows.Walking.{count_same, positive, put_at, put_off, row_here, row_there}
use Rattle.client_rows.proofs.operation_rows.Changing.{col_kept, settled_row}
use Rattle.client_rows.specs.Shown.{RowShowsPlaces, ShowsRows, ShowsSends, waits_by, fills_by}

ways : (x y : ℕ) → (x ≡ y) ⊎ (x ≡ y → ⊥)
ways x y = grind arith

clash : (b : Bool) → b ≡ true → b ≡ false → ⊥
clash b h k = absurd (cc)

-- a column that stays, and one that changes at a row
kept_at : {X : Type 0} (f : Row → X) (rows : List Row) (x : ℕ) (r : Row) → x < length rows → f r ≡ f (row_at rows x)
    → (g : ℕ) → f (row_at rows g) ≡ f (row_at (set rows x r) g)
kept_at f rows x r h e g = λ t. (col_kept f rows x r h e t) g

pub same_col : {X : Type 0} (f : Row → X) (rows : List Row) (x : ℕ) (r : Row) (k : ℕ → X) → x < length rows
    → f r ≡ f (row_at rows x) → ((g : ℕ) → k g ≡ f (row_at rows g)) → (g : ℕ) → k g ≡ f (row_at (set rows x r) g)
same_col f rows x r k h e s g = s g ∙ kept_at f rows x r h e g

pub put_col : {X : Type 0} (f : Row → X) (rows : List Row) (x : ℕ) (r : Row) (k : ℕ → X) (v : X) → x < length rows
    → v ≡ f r → ((g : ℕ) → k g ≡ f (row_at rows g)) → (g : ℕ) → put k x v g ≡ f (row_at (set rows x r) g)
put_col f rows x r k v h e s g =
    elim (ways g x) as (λ _. put k x v g ≡ f (row_at (set rows x r) g)) [
      | inl q ↦ put_at k x v g q ∙ e ∙ sym (ap f (row_here rows x r g h q))
      | inr q ↦ put_off k x v g q ∙ s g ∙ sym (ap f (row_there rows x r g q))
    ]

places_kept : (rows : List Row) (x : ℕ) (r : Row) (taken : ℕ) (op : ℕ → Op) (outcome : ℕ → Outcome) (paid : ℕ → ℕ)
    → x < length rows → KeepsPlace (row_at rows x) r → r.firm ≡ (row_at rows x).firm → r.cost ≡ (row_at rows x).cost
    → r.charge ≡ (row_at rows x).charge
    → RowShowsPlaces rows taken op outcome paid → RowShowsPlaces (set rows x r) taken op outcome paid
places_kept rows x r taken op outcome paid h k f e q s =
    let n = count_same rows x r in
    record {
      has_row = λ g p l. subst (λ z. g < z) (sym n) (s.has_row g p l);
      is_taken = λ g p l. s.is_taken g p (subst (λ z. g < z) n l);
      creates = λ g p l. s.creates g p l ∙ kept_at (λ (w : Row). w.create) rows x r h k.create g;
      kinds = λ g p l. s.kinds g p l ∙ kept_at (λ (w : Row). w.kind) rows x r h k.kind g;
      charges = λ g p l. s.charges g p l ∙ kept_at (λ (w : Row). w.charge) rows x r h q g;
      unsettled = λ g p l. s.unsettled g p l ∙ kept_at (λ (w : Row). w.unsettled) rows x r h k.unsettled g;
      firm_is = λ g p l. s.firm_is g p l ∙ kept_at (λ (w : Row). w.firm) rows x r h f g;
      pays = λ g p l u. s.pays g p l (kept_at (λ (w : Row). w.unsettled) rows x r h k.unsettled g ∙ u)
          ∙ kept_at (λ (w : Row). w.cost) rows x r h e g;
    }

pub shown_moved : (rows : List Row) (x : ℕ) (r : Row) (holders prices prices2 : List ℕ) (watchers : List Watch) (c : Client)
    (sent : ℕ → Bool) (out : ℕ → Option ℕ) (asks unanswered : ℕ → Bool) (sequence slot number : ℕ → ℕ)
    → x < length rows → KeepsPlace (row_at rows x) r → r.firm ≡ (row_at rows x).firm → r.cost ≡ (row_at rows x).cost
    → r.charge ≡ (row_at rows x).charge → ShowsRows rows holders prices watchers c
    → ShowsSends (set rows x r) sent out asks unanswered sequence slot number
    → StandsRows (waits_by c.op) (fills_by c.op) (set rows x r) holders prices2 watchers
    → ShowsRows (set rows x r) holders prices2 watchers (record c {
      sent = sent;
      outstanding_on = out;
      asks_attach = asks;
      unanswered = unanswered;
      sequence_of = sequence;
      slot_of = slot;
      number_of = number;
    })
shown_moved rows x r holders prices prices2 watchers c sent out asks unanswered sequence slot number h k f e q s w t =
    record {
      places = places_kept rows x r c.taken c.op c.outcome (λ g. cost c g) h k f e q s.places;
      sends = w;
      stand = t;
    }

-- ---- one settles

pub is_first : (rows : List Row) (holders prices list : List ℕ) (watchers : List Watch) (c : Client) (g : ℕ) → IsSafe rows list
    → ShowsRows rows holders prices watchers c → 0 < g → g ≤ c.taken → IsClientFirst (ops_of c) (standing_of c) g
    → IsSettled (waits_by c.op) rows g
is_first rows holders prices list watchers c g safe s p l first h k e w =
    elim (ways h 0) as (λ _. stands rows h ≡ false) [
      | inl q ↦ ap (λ z. stands rows z) q ∙ safe.nought
      | inr q ↦ (
          let b = positive h q in
          let m : h ≤ c.taken = omega arith in
          sym (s.places.unsettled h b m) ∙ first h b k (s.places.creates h b m ∙ e ∙ sym (s.places.creates g p l)) w
          )
    ]

module _ (rows : List Row) (x : ℕ) (firm : Bool) where
  abbrev new : List Row
  new = set rows x (settled_row rows x firm)

  places_settled : (c : Client) (o : Outcome) → x < length rows → RowShowsPlaces rows c.taken c.op c.outcome (λ g. cost c g)
      → is_unsettled o ≡ false → is_firm o ≡ firm
      → RowShowsPlaces new c.taken c.op (put c.outcome x o) (λ g. cost c g)
  places_settled c o h s u f =
      let r = settled_row rows x firm in
      let n = count_same rows x r in
      record {
        has_row = λ g p l. subst (λ z. g < z) (sym n) (s.has_row g p l);
        is_taken = λ g p l. s.is_taken g p (subst (λ z. g < z) n l);
        creates = λ g p l. s.creates g p l ∙ kept_at (λ (w : Row). w.create) rows x r h refl g;
        kinds = λ g p l. s.kinds g p l ∙ kept_at (λ (w : Row). w.kind) rows x r h refl g;
        charges = λ g p l. s.charges g p l ∙ kept_at (λ (w : Row). w.charge) rows x r h refl g;
        unsettled = λ g p l. (
            elim (ways g x) as (λ _. is_unsettled (put c.outcome x o g) ≡ stands new g) [
              | inl q ↦ ap (λ z. is_unsettled z) (put_at c.outcome x o g q) ∙ u
                  ∙ sym (ap (λ (w : Row). w.unsettled) (row_here rows x r g h q))
              | inr q ↦ ap (λ z. is_unsettled z) (put_off c.outcome x o g q) ∙ s.unsettled g p l
                  ∙ sym (ap (λ (w : Row). w.unsettled) (row_there rows x r g q))
            ]
            );
        firm_is = λ g p l. (
            elim (ways g x) as (λ _. is_firm (put c.outcome x o g) ≡ (row_at new g).firm) [
              | inl q ↦ ap (λ z. is_firm z) (put_at c.outcome x o g q) ∙ f ∙ sym (ap (λ (w : Row). w.firm) (row_here rows x r g h q))
              | inr q ↦ ap (λ z. is_firm z) (put_off c.outcome x o g q) ∙ s.firm_is g p l
                  ∙ sym (ap (λ (w : Row). w.firm) (row_there rows x r g q))
            ]
            );
        pays = λ g p l v. (
            elim (ways g x) as (λ _. cost c g ≡ costs new g) [
              | inl q ↦ absurd (clash (stands new g) v (ap (λ (w : Row). w.unsettled) (row_here rows x r g h q)))
              | inr q ↦ s.pays g p l (sym (ap (λ (w : Row). w.unsettled) (row_there rows x r g q)) ∙ v)
                  ∙ sym (ap (λ (w : Row). w.cost) (row_there rows x r g q))
            ]
            );
      }

  sends_settled : (c : Client) → x < length rows
      → ShowsSends rows c.sent c.outstanding_on c.asks_attach c.unanswered c.sequence_of c.slot_of c.number_of
      → ShowsSends new c.sent c.outstanding_on c.asks_attach c.unanswered c.sequence_of c.slot_of c.number_of
  sends_settled c h s =
      let r = settled_row rows x firm in
      record {
        sent_is = same_col (λ (w : Row). w.sent) rows x r c.sent h refl s.sent_is;
        out_is = same_col (λ (w : Row). w.outstanding_on) rows x r c.outstanding_on h refl s.out_is;
        asks_is = same_col (λ (w : Row). w.asking) rows x r c.asks_attach h refl s.asks_is;
        unanswered_is = same_col (λ (w : Row). w.unanswered) rows x r c.unanswered h refl s.unanswered_is;
        sequence_is = same_col (λ (w : Row). w.sequence) rows x r c.sequence_of h refl s.sequence_is;
        slot_is = same_col (λ (w : Row). w.slot) rows x r c.slot_of h refl s.slot_is;
        number_is = same_col (λ (w : Row). w.slot_number) rows x r c.number_of h refl s.number_is;
      }

  pub shown_settled : (holders prices prices2 : List ℕ) (watchers watchers2 : List Watch) (c : Client) (o : Outcome)
      → x < length rows → ShowsRows rows holders prices watchers c → is_unsettled o ≡ false → is_firm o ≡ firm
      → StandsRows (waits_by c.op) (fills_by c.op) new holders prices2 watchers2
      → ShowsRows new holders prices2 watchers2 (record c { outcome = put c.outcome x o })
  shown_settled holders prices prices2 watchers watchers2 c o h s u f t =
      record {
        places = places_settled c o h s.places u f;
        sends = sends_settled c h s.sends;
        stand = t;
      }
