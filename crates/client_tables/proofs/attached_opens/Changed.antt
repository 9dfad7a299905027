-- One open changes; the others stay.
use Rattle.std.proofs.Common.{◌≡◌, ℕ, ◌<◌, ◌≤◌, Bool, List, length, Option, set, get_or, vec_capacity}
use Rattle.std.proofs.Common.{ap, sym, ◌∙◌, subst, arith, ◌⊎◌, inl, inr}
use Rattle.std.proofs.Math.ListN.{length-set}
use Rattle.std.proofs.lemmas.List.{get_or-set_same, get_or-set_other}
use Rattle.client_rows.specs.declared.operation_rows.row.Row.{Row}
use Rattle.client_rows.specs.operation_rows.Rows.{row_at, owner}
use Rattle.client_rows.specs.operation_rows.Slots.{slot_at}
use Rattle.client_tables.specs.declared.choice.finding.Attached.{Attached}
use Rattle.client_tables.specs.choice.Shown.{IsChoiceAt}
use Rattle.client_tables.specs.attached_opens.Locks.{locks_on}
use Rattle.client_tables.specs.attached_opens.Opens.{ArePaired, FitsOpens, HasSlots, HaveUsers, IsRoomy, KeepsOthers, ShowsSlotsOf}
use Rattle.client_tables.proofs.attached_opens.Slots.{slots_alike}

ways : (x y : ℕ) → (x ≡ y) ⊎ (x ≡ y → ⊥)
ways x y = grind arith

module _ (attached : List Attached) (at : ℕ) (own : Attached) (inside : at < length attached) where
  -- what is read at that place is the new one, elsewhere what was there
  here : (i : ℕ) (o : Attached) → i ≡ at → IsChoiceAt (set attached at own) i o → o ≡ own
  here i o e q = q ∙ ap (λ y. get_or (set attached at own) y o) e ∙ get_or-set_same attached at own o inside

  there : (i : ℕ) (o : Attached) → (i ≡ at → ⊥) → IsChoiceAt (set attached at own) i o → IsChoiceAt attached i o
  there i o e q = q ∙ get_or-set_other attached at i own o e

  within : (i : ℕ) → i < length (set attached at own) → i < length attached
  within i l = subst (λ n. i < n) (length-set attached at own) l

  pub fits_set : (rows : List Row) → FitsOpens rows attached
      → IsRoomy (locks_on rows at) own.locks (vec_capacity own.slots)
      → length own.slots.items ≤ 64 → HaveUsers rows own.slots.items → FitsOpens rows (set attached at own)
  fits_set rows f room few users =
      record {
        opens = λ g p l. subst (λ n. (row_at rows g).«open» < n) (sym (length-set attached at own)) (f.opens g p l);
        paired = f.paired;
        room = λ i o l q.
            elim (ways i at) as (λ _. IsRoomy (locks_on rows i) o.locks (vec_capacity o.slots)) [
              | inl s ↦ subst (λ (z : Attached). IsRoomy (locks_on rows i) z.locks (vec_capacity z.slots)) (sym (here i o s q))
                  (subst (λ x. IsRoomy (locks_on rows x) own.locks (vec_capacity own.slots)) (sym s) room)
              | inr s ↦ f.room i o (within i l) (there i o s q)
            ];
        bounded = λ i o l q.
            elim (ways i at) as (λ _. (length o.slots.items ≤ 64)
            × ((place : ℕ) → place < length o.slots.items → (slot_at o.slots.items place).user < length rows)) [
              | inl s ↦ subst (λ (z : Attached). (length z.slots.items ≤ 64)
                  × ((place : ℕ) → place < length z.slots.items → (slot_at z.slots.items place).user < length rows))
                  (sym (here i o s q)) (few, λ place k. (users place k).1)
              | inr s ↦ f.bounded i o (within i l) (there i o s q)
            ];
        users = λ i o l q.
            elim (ways i at) as (λ _. HaveUsers rows o.slots.items) [
              | inl s ↦ subst (λ (z : Attached). HaveUsers rows z.slots.items) (sym (here i o s q)) users
              | inr s ↦ f.users i o (within i l) (there i o s q)
            ];
      }

  -- by an operation that is on the open
  pub shown_set : (rows : List Row) (index : ℕ) (session was_session : ℕ → ℕ) (user was_user : ℕ → ℕ → Option ℕ)
      (retried was_retried : ℕ → ℕ → ℕ) (full was_full : ℕ → ℕ → Bool) → 0 < index → index < length rows → ArePaired rows
      → owner rows index < length rows → (row_at rows index).«open» ≡ at
      → KeepsOthers (owner rows index) was_session session was_user user was_retried retried was_full full
      → session (owner rows index) ≡ own.session
      → HasSlots own.slots.items (user (owner rows index)) (retried (owner rows index)) (full (owner rows index))
      → ShowsSlotsOf rows attached was_session was_user was_retried was_full
      → ShowsSlotsOf rows (set attached at own) session user retried full
  shown_set rows index session was_session user was_user retried was_retried full was_full p l paired owned is k numbered slotted s =
      record {
        session_is = λ g o a b q.
            elim (ways (row_at rows g).«open» at) as (λ _. session (owner rows g) ≡ o.session) [
              | inl e ↦ ap session (same g a b e) ∙ numbered
                  ∙ sym (ap (λ (z : Attached). z.session) (here (row_at rows g).«open» o e q))
              | inr e ↦ k.session_is (owner rows g) (other g a b e)
                  ∙ s.session_is g o a b (there (row_at rows g).«open» o e q)
            ];
        slots_are = λ g o a b q.
            elim (ways (row_at rows g).«open» at) as
            (λ _. HasSlots o.slots.items (user (owner rows g)) (retried (owner rows g)) (full (owner rows g))) [
              | inl e ↦ subst (λ (z : Attached). HasSlots z.slots.items (user (owner rows g)) (retried (owner rows g))
                  (full (owner rows g))) (sym (here (row_at rows g).«open» o e q))
                  (subst (λ y. HasSlots own.slots.items (user y) (retried y) (full y)) (sym (same g a b e)) slotted)
              | inr e ↦ slots_alike o.slots.items (user (owner rows g)) (was_user (owner rows g)) (retried (owner rows g))
                  (was_retried (owner rows g)) (full (owner rows g)) (was_full (owner rows g))
                  (k.user_is (owner rows g) (other g a b e)) (k.retried_is (owner rows g) (other g a b e))
                  (k.full_is (owner rows g) (other g a b e))
                  (s.slots_are g o a b (there (row_at rows g).«open» o e q))
            ];
        session_none = λ x a. k.session_is x (beyond x a) ∙ s.session_none x a;
        slots_none = λ x i a. (
            let w = s.slots_none x i a in (
              k.user_is x (beyond x a) i ∙ w.0,
              k.retried_is x (beyond x a) i ∙ w.1,
              k.full_is x (beyond x a) i ∙ w.2,
            )
            );
      }
    where
      past : (x y n : ℕ) → y < n → n ≤ x → x ≡ y → ⊥
      past x y n a b e = omega arith

      beyond : (x : ℕ) → length rows ≤ x → x ≡ owner rows index → ⊥
      beyond x a = past x (owner rows index) (length rows) owned a

      same : (g : ℕ) → 0 < g → g < length rows → (row_at rows g).«open» ≡ at → owner rows g ≡ owner rows index
      same g a b e = (paired g index a b p l).1 (e ∙ sym is)

      other : (g : ℕ) → 0 < g → g < length rows → ((row_at rows g).«open» ≡ at → ⊥) → owner rows g ≡ owner rows index → ⊥
      other g a b e q = e ((paired g index a b p l).0 q ∙ is)

-- nothing is done to any open
pub shown_kept : (rows : List Row) (attached : List Attached) (session was_session : ℕ → ℕ) (user was_user : ℕ → ℕ → Option ℕ)
    (retried was_retried : ℕ → ℕ → ℕ) (full was_full : ℕ → ℕ → Bool) → session ≡ was_session → user ≡ was_user → retried ≡ was_retried
    → full ≡ was_full → ShowsSlotsOf rows attached was_session was_user was_retried was_full
    → ShowsSlotsOf rows attached session user retried full
shown_kept rows attached session was_session user was_user retried was_retried full was_full a b d e s =
    record {
      session_is = λ g o p l q. ap (λ (z : ℕ → ℕ). z (owner rows g)) a ∙ s.session_is g o p l q;
      slots_are = λ g o p l q. slots_alike o.slots.items (user (owner rows g)) (was_user (owner rows g)) (retried (owner rows g))
          (was_retried (owner rows g)) (full (owner rows g)) (was_full (owner rows g))
          (λ i. ap (λ (z : ℕ → ℕ → Option ℕ). z (owner rows g) i) b) (λ i. ap (λ (z : ℕ → ℕ → ℕ). z (owner rows g) i) d)
          (λ i. ap (λ (z : ℕ → ℕ → Bool). z (owner rows g) i) e) (s.slots_are g o p l q);
      session_none = λ x l. ap (λ (z : ℕ → ℕ). z x) a ∙ s.session_none x l;
      slots_none = λ x i l. (
          let w = s.slots_none x i l in (
            ap (λ (z : ℕ → ℕ → Option ℕ). z x i) b ∙ w.0,
            ap (λ (z : ℕ → ℕ → ℕ). z x i) d ∙ w.1,
            ap (λ (z : ℕ → ℕ → Bool). z x i) e ∙ w.2,
          )
          );
    }
