-- One open more, of which no row is yet.
use Rattle.std.proofs.Common.{◌≡◌, ℕ, ◌+◌, ◌<◌, ◌≤◌, Bool, List, [], ◌∷◌, ◌++◌, length, get_or, vec_capacity, Option}
use Rattle.std.proofs.Common.{ap, sym, ◌∙◌, subst, arith, ◌⊎◌, inl, inr}
use Rattle.std.proofs.lemmas.Grind.{common_steps}
use Rattle.std.proofs.lemmas.List.{length_push}
use Rattle.spec_exchange.specs.Operations.{Op}
use Rattle.client_rows.specs.declared.operation_rows.row.Row.{Row}
use Rattle.client_rows.specs.declared.operation_rows.slots.Slot.{Slot}
use Rattle.client_rows.specs.operation_rows.Rows.{row_at}
use Rattle.client_rows.specs.operation_rows.Slots.{slot_at}
use Rattle.client_tables.specs.declared.choice.finding.Attached.{Attached}
use Rattle.client_tables.specs.choice.Shown.{IsChoiceAt}
use Rattle.client_tables.specs.declared.attached_opens.opened.Opened.{Opened}
use Rattle.client_tables.specs.attached_opens.Known.{IsKnownAt, ShowsKnown}
use Rattle.client_tables.specs.attached_opens.Locks.{locks_on}
use Rattle.client_tables.specs.attached_opens.Opens.{FitsOpens, HaveUsers, IsRoomy, ShowsSlotsOf}
use Rattle.client_tables.proofs.attached_opens.Locks.{locks_none}
use Rattle.client_tables.proofs.attached_opens.Roomy.{roomy_none}

ways : (x y : ℕ) → (x ≡ y) ⊎ (x ≡ y → ⊥)
ways x y = grind arith

before_last : (g n m : ℕ) → g < m → m ≡ n + 1 → (g ≡ n → ⊥) → g < n
before_last g n m l e q = omega arith

beyond : (x n i : ℕ) → x < n → i ≡ n → x ≡ i → ⊥
beyond x n i l e q = omega arith

higher : (x n m : ℕ) → x < n → m ≡ n + 1 → x < m
higher x n m l e = omega arith

pub last_of : {X : Type 0} (xs : List X) (x d : X) (i : ℕ) → i ≡ length xs → get_or (xs ++ x ∷ []) i d ≡ x
last_of xs x d i e = grind (arith, common_steps)

pub front_of : {X : Type 0} (xs : List X) (x d : X) (i : ℕ) → i < length xs → get_or (xs ++ x ∷ []) i d ≡ get_or xs i d
front_of xs x d i l = grind (arith, common_steps)

none_used : (slots : List Slot) → slots ≡ [] → (n place : ℕ) → place < length slots
    → (0 < (slot_at slots place).user) × ((slot_at slots place).user < n)
none_used slots e n place l = absurd (no place (subst (λ (xs : List Slot). place < length xs) e l))
  where
    no : (x : ℕ) → x < 0 → ⊥
    no x l = omega arith

module _ (attached : List Attached) (a : Attached) where
  abbrev pub more : List Attached
  more = attached ++ a ∷ []

  pub at_front : (i : ℕ) (o : Attached) → i < length attached → IsChoiceAt more i o → IsChoiceAt attached i o
  at_front i o l q = q ∙ front_of attached a o i l

  pub at_last : (i : ℕ) (o : Attached) → i ≡ length attached → IsChoiceAt more i o → o ≡ a
  at_last i o e q = q ∙ last_of attached a o i e

  pub fits_more : (rows : List Row) → a.slots.items ≡ [] → a.locks ≡ 0 → FitsOpens rows attached → FitsOpens rows more
  fits_more rows none fresh f =
      record {
        opens = λ g p l. higher (row_at rows g).«open» (length attached) (length more) (f.opens g p l) (length_push attached a);
        paired = f.paired;
        room = λ i o l q.
            elim (ways i (length attached)) as (λ _. IsRoomy (locks_on rows i) o.locks (vec_capacity o.slots)) [
              | inl e ↦ subst (λ n. IsRoomy n o.locks (vec_capacity o.slots))
                  (sym (locks_none rows i (λ g p k h. beyond (row_at rows g).«open» (length attached) i (f.opens g p k) e h)))
                  (roomy_none o.locks (vec_capacity o.slots) (ap (λ (z : Attached). z.locks) (at_last i o e q) ∙ fresh))
              | inr e ↦ (
                  let k = before_last i (length attached) (length more) l (length_push attached a) e in
                  f.room i o k (at_front i o k q)
                  )
            ];
        bounded = λ i o l q.
            elim (ways i (length attached)) as (λ _. (length o.slots.items ≤ 64)
            × ((place : ℕ) → place < length o.slots.items → (slot_at o.slots.items place).user < length rows)) [
              | inl e ↦ (
                  let w = ap (λ (z : Attached). z.slots.items) (at_last i o e q) ∙ none in (
                    subst (λ (xs : List Slot). length xs ≤ 64) (sym w) (omega arith),
                    λ place k. (none_used o.slots.items w (length rows) place k).1,
                  )
                  )
              | inr e ↦ (
                  let k = before_last i (length attached) (length more) l (length_push attached a) e in
                  f.bounded i o k (at_front i o k q)
                  )
            ];
        users = λ i o l q.
            elim (ways i (length attached)) as (λ _. HaveUsers rows o.slots.items) [
              | inl e ↦ none_used o.slots.items (ap (λ (z : Attached). z.slots.items) (at_last i o e q) ∙ none) (length rows)
              | inr e ↦ (
                  let k = before_last i (length attached) (length more) l (length_push attached a) e in
                  f.users i o k (at_front i o k q)
                  )
            ];
      }

  pub shown_more : (rows : List Row) (session : ℕ → ℕ) (user : ℕ → ℕ → Option ℕ) (retried : ℕ → ℕ → ℕ) (full : ℕ → ℕ → Bool)
      → FitsOpens rows attached → ShowsSlotsOf rows attached session user retried full
      → ShowsSlotsOf rows more session user retried full
  shown_more rows session user retried full f s =
      record {
        session_is = λ g o p l q. s.session_is g o p l (at_front (row_at rows g).«open» o (f.opens g p l) q);
        slots_are = λ g o p l q. s.slots_are g o p l (at_front (row_at rows g).«open» o (f.opens g p l) q);
        session_none = s.session_none;
        slots_none = s.slots_none;
      }

module _ (opened : List Opened) (a : Opened) where
  pub known_front : (i : ℕ) (o : Opened) → i < length opened → IsKnownAt (opened ++ a ∷ []) i o → IsKnownAt opened i o
  known_front i o l q = q ∙ front_of opened a o i l

  pub known_last : (i : ℕ) (o : Opened) → i ≡ length opened → IsKnownAt (opened ++ a ∷ []) i o → o ≡ a
  known_last i o e q = q ∙ last_of opened a o i e

  pub known_more : (rows : List Row) (op : ℕ → Op) (file : ℕ → ℕ) (closed sent : ℕ → Bool) (slot : ℕ → ℕ)
      → ((g : ℕ) → 0 < g → g < length rows → (row_at rows g).«open» < length opened) → ShowsKnown rows opened op file closed sent slot
      → ShowsKnown rows (opened ++ a ∷ []) op file closed sent slot
  known_more rows op file closed sent slot inside s =
      record {
        file_is = λ g o p l q. s.file_is g o p l (known_front (row_at rows g).«open» o (inside g p l) q);
        closed_is = λ g o p l q. s.closed_is g o p l (known_front (row_at rows g).«open» o (inside g p l) q);
        persists_is = λ g o p l q. s.persists_is g o p l (known_front (row_at rows g).«open» o (inside g p l) q);
        file_none = s.file_none;
        closed_none = s.closed_none;
        unsent = s.unsent;
      }
