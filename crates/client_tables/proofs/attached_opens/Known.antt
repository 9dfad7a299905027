-- What is known of opens stays over a step.
use Rattle.std.proofs.Common.{◌≡◌, ℕ, ◌<◌, ◌≤◌, Bool, false, List, length, set, get_or, ap, sym, ◌∙◌, subst, arith, ◌⊎◌, inl, inr}
use Rattle.std.proofs.lemmas.List.{get_or-set_same, get_or-set_other}
use Rattle.spec_exchange.specs.Operations.{Op, persists}
use Rattle.client_rows.specs.declared.operation_rows.row.Row.{Row}
use Rattle.client_rows.specs.operation_rows.Rows.{row_at, owner}
use Rattle.client_tables.specs.declared.attached_opens.opened.Opened.{Opened}
use Rattle.client_tables.specs.attached_opens.Known.{IsKnownAt, ShowsKnown}
use Rattle.client_tables.specs.attached_opens.Opens.{ArePaired}
use Rattle.client_tables.specs.attached_opens.Places.{KeepsPlaces}

ways : (x y : ℕ) → (x ≡ y) ⊎ (x ≡ y → ⊥)
ways x y = grind arith

module _ (rows new : List Row) (opened : List Opened) (m : KeepsPlaces rows new) where
  within : (g : ℕ) → g < length new → g < length rows
  within g l = subst (λ n. g < n) m.count l

  there : (g : ℕ) (o : Opened) → IsKnownAt opened (row_at new g).«open» o → IsKnownAt opened (row_at rows g).«open» o
  there g o q = subst (λ x. IsKnownAt opened x o) (m.opens g) q

  pub known_moved : (op : ℕ → Op) (file : ℕ → ℕ) (closed sent : ℕ → Bool) (slot : ℕ → ℕ) → ShowsKnown rows opened op file closed sent slot
      → ShowsKnown new opened op file closed sent slot
  known_moved op file closed sent slot s =
      record {
        file_is = λ g o p l q. ap file (m.create g) ∙ s.file_is g o p (within g l) (there g o q);
        closed_is = λ g o p l q. ap closed (m.create g) ∙ s.closed_is g o p (within g l) (there g o q);
        persists_is = λ g o p l q. ap (λ x. persists (op x)) (m.create g) ∙ s.persists_is g o p (within g l) (there g o q);
        file_none = λ x l. s.file_none x (subst (λ n. n ≤ x) m.count l);
        closed_none = λ x l. s.closed_none x (subst (λ n. n ≤ x) m.count l);
        unsent = s.unsent;
      }

-- what was sent since has a slot or needs none
pub known_sent : (rows : List Row) (opened : List Opened) (op : ℕ → Op) (file : ℕ → ℕ) (closed sent was_sent : ℕ → Bool)
    (slot was_slot : ℕ → ℕ)
    → ((g : ℕ) → sent g ≡ false → (was_sent g ≡ false) × (slot g ≡ was_slot g)) → ShowsKnown rows opened op file closed was_sent was_slot
    → ShowsKnown rows opened op file closed sent slot
known_sent rows opened op file closed sent was_sent slot was_slot h s =
    record {
      file_is = s.file_is;
      closed_is = s.closed_is;
      persists_is = s.persists_is;
      file_none = s.file_none;
      closed_none = s.closed_none;
      unsent = λ g e. (h g e).1 ∙ s.unsent g (h g e).0;
    }

-- more is known of one open, by an operation that is on it
module _ (opened : List Opened) (at : ℕ) (own : Opened) (inside : at < length opened) where
  here : (i : ℕ) (o : Opened) → i ≡ at → IsKnownAt (set opened at own) i o → o ≡ own
  here i o e q = q ∙ ap (λ y. get_or (set opened at own) y o) e ∙ get_or-set_same opened at own o inside

  elsewhere : (i : ℕ) (o : Opened) → (i ≡ at → ⊥) → IsKnownAt (set opened at own) i o → IsKnownAt opened i o
  elsewhere i o e q = q ∙ get_or-set_other opened at i own o e

  pub known_set : (rows : List Row) (index : ℕ) (op : ℕ → Op) (file was_file : ℕ → ℕ) (closed was_closed sent : ℕ → Bool) (slot : ℕ → ℕ)
      → 0 < index → index < length rows → ArePaired rows → owner rows index < length rows → (row_at rows index).«open» ≡ at
      → ((x : ℕ) → (x ≡ owner rows index → ⊥) → file x ≡ was_file x)
      → ((x : ℕ) → (x ≡ owner rows index → ⊥) → closed x ≡ was_closed x)
      → file (owner rows index) ≡ own.file → closed (owner rows index) ≡ own.shut → persists (op (owner rows index)) ≡ own.persist
      → ShowsKnown rows opened op was_file was_closed sent slot → ShowsKnown rows (set opened at own) op file closed sent slot
  known_set rows index op file was_file closed was_closed sent slot p l paired owned is f c named shut firm s =
      record {
        file_is = λ g o a b q.
            elim (ways (row_at rows g).«open» at) as (λ _. file (owner rows g) ≡ o.file) [
              | inl e ↦ ap file (same g a b e) ∙ named ∙ sym (ap (λ (z : Opened). z.file) (here (row_at rows g).«open» o e q))
              | inr e ↦ f (owner rows g) (other g a b e) ∙ s.file_is g o a b (elsewhere (row_at rows g).«open» o e q)
            ];
        closed_is = λ g o a b q.
            elim (ways (row_at rows g).«open» at) as (λ _. closed (owner rows g) ≡ o.shut) [
              | inl e ↦ ap closed (same g a b e) ∙ shut ∙ sym (ap (λ (z : Opened). z.shut) (here (row_at rows g).«open» o e q))
              | inr e ↦ c (owner rows g) (other g a b e) ∙ s.closed_is g o a b (elsewhere (row_at rows g).«open» o e q)
            ];
        persists_is = λ g o a b q.
            elim (ways (row_at rows g).«open» at) as (λ _. persists (op (owner rows g)) ≡ o.persist) [
              | inl e ↦ ap (λ x. persists (op x)) (same g a b e) ∙ firm
                  ∙ sym (ap (λ (z : Opened). z.persist) (here (row_at rows g).«open» o e q))
              | inr e ↦ s.persists_is g o a b (elsewhere (row_at rows g).«open» o e q)
            ];
        file_none = λ x a. f x (beyond x a) ∙ s.file_none x a;
        closed_none = λ x a. c x (beyond x a) ∙ s.closed_none x a;
        unsent = s.unsent;
      }
    where
      same : (g : ℕ) → 0 < g → g < length rows → (row_at rows g).«open» ≡ at → owner rows g ≡ owner rows index
      same g a b e = (paired g index a b p l).1 (e ∙ sym is)

      other : (g : ℕ) → 0 < g → g < length rows → ((row_at rows g).«open» ≡ at → ⊥) → owner rows g ≡ owner rows index → ⊥
      other g a b e q = e ((paired g index a b p l).0 q ∙ is)

      past : (x y n : ℕ) → y < n → n ≤ x → x ≡ y → ⊥
      past x y n a b e = omega arith

      beyond : (x : ℕ) → length rows ≤ x → x ≡ owner rows index → ⊥
      beyond x a = past x (owner rows index) (length rows) owned a
