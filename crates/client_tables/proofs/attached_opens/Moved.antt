-- Rows change, and stay on their opens.
use Rattle.std.proofs.Common.{ℕ, ◌<◌, ◌≤◌, Bool, List, length, vec_capacity, Option, ap, sym, ◌∙◌, subst}
use Rattle.client_rows.specs.declared.operation_rows.row.Row.{Row}
use Rattle.client_rows.specs.operation_rows.Rows.{row_at}
use Rattle.client_rows.specs.operation_rows.Slots.{slot_at}
use Rattle.client_tables.specs.declared.choice.finding.Attached.{Attached}
use Rattle.client_tables.specs.choice.Shown.{IsChoiceAt}
use Rattle.client_tables.specs.attached_opens.Places.{KeepsPlaces}
use Rattle.client_tables.specs.attached_opens.Opens.{FitsOpens, HasSlots, IsRoomy, ShowsSlotsOf}
use Rattle.client_tables.proofs.attached_opens.Locks.{locks_moved}

module _ (rows new : List Row) (attached : List Attached) (m : KeepsPlaces rows new) where
  within : (g : ℕ) → g < length new → g < length rows
  within g l = subst (λ n. g < n) m.count l

  there : (g : ℕ) (o : Attached) → IsChoiceAt attached (row_at new g).«open» o → IsChoiceAt attached (row_at rows g).«open» o
  there g o q = subst (λ x. IsChoiceAt attached x o) (m.opens g) q

  pub fits_moved : FitsOpens rows attached → FitsOpens new attached
  fits_moved f =
      record {
        opens = λ g p l. subst (λ x. x < length attached) (sym (m.opens g)) (f.opens g p (within g l));
        paired = λ g h p l q k. (
            let w = f.paired g h p (within g l) q (within h k) in (
              λ e. m.opens g ∙ w.0 (sym (m.create g) ∙ e ∙ m.create h) ∙ sym (m.opens h),
              λ e. m.create g ∙ w.1 (sym (m.opens g) ∙ e ∙ m.opens h) ∙ sym (m.create h),
            )
            );
        room = λ i o l q. subst (λ n. IsRoomy n o.locks (vec_capacity o.slots)) (sym (locks_moved rows new m i)) (f.room i o l q);
        bounded = λ i o l q. (
          (f.bounded i o l q).0,
          λ p k. subst (λ n. (slot_at o.slots.items p).user < n) (sym m.count) ((f.bounded i o l q).1 p k),
        );
        users = λ i o l q p k. (
          (f.users i o l q p k).0,
          subst (λ n. (slot_at o.slots.items p).user < n) (sym m.count) (f.users i o l q p k).1,
        );
      }

  pub shown_moved : (session : ℕ → ℕ) (user : ℕ → ℕ → Option ℕ) (retried : ℕ → ℕ → ℕ) (full : ℕ → ℕ → Bool)
      → ShowsSlotsOf rows attached session user retried full → ShowsSlotsOf new attached session user retried full
  shown_moved session user retried full s =
      record {
        session_is = λ g o p l q. ap session (m.create g) ∙ s.session_is g o p (within g l) (there g o q);
        slots_are = λ g o p l q. subst (λ x. HasSlots o.slots.items (user x) (retried x) (full x)) (sym (m.create g))
            (s.slots_are g o p (within g l) (there g o q));
        session_none = λ x l. s.session_none x (subst (λ n. n ≤ x) m.count l);
        slots_none = λ x i l. s.slots_none x i (subst (λ n. n ≤ x) m.count l);
      }
