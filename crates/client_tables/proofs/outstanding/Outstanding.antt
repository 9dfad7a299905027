-- What is outstanding is among the members, before and behind.
use Rattle.std.proofs.Common.{◌≡◌, ℕ, ◌<◌, ◌≤◌, ◌==◌, Bool, true, false, if◌then◌else◌, List, [], ◌∷◌, length, is_some}
use Rattle.std.proofs.Common.{refl, ap, sym, ◌∙◌, subst}
use Rattle.std.proofs.Common.{arith, ◌⊎◌, inl, inr}
use Rattle.std.proofs.lemmas.List.{get_or_past}
use Rattle.spec_exchange.specs.Table.{has as has_in}
use Rattle.spec_exchange.specs.Client.{Client}
use Rattle.base_lists.specs.declared.number_set.Members.{Members}
use Rattle.base_lists.specs.number_set.Members.{has, is_in, size}
use Rattle.client_rows.specs.declared.operation_rows.row.Row.{Row}
use Rattle.client_rows.specs.operation_rows.Rows.{is_out, no_row}
use Rattle.client_rows.specs.Shown.{ShowsSends}
use Rattle.client_tables.specs.cuts.Cutting.{CutLoses}
use Rattle.client_tables.specs.outstanding.Shown.{HoldsOut}

-- a list of numbers has the same ones by either word
in_is : (g : ℕ) (xs : List ℕ) → has_in g xs ≡ is_in g xs
in_is g [] = refl
in_is g (x ∷ xs) = ap (λ b. if x == g then true else b) (in_is g xs)

below_or_past : (k n : ℕ) → (k < n) ⊎ (n ≤ k)
below_or_past k n = grind arith

clash : (b : Bool) → b ≡ true → b ≡ false → ⊥
clash b p q = absurd (cc)

-- what is outstanding has a row: none is behind the last one
below_rows : (rows : List Row) (g : ℕ) → is_out rows g ≡ true → g < length rows
below_rows rows g e =
    elim (below_or_past g (length rows)) as (λ _. g < length rows) [
      | inl l ↦ l
      | inr l ↦ absurd (clash (is_out rows g) e (ap (λ (r : Row). is_some r.outstanding_on) (get_or_past rows g no_row l)))
    ]

-- what is outstanding behind a cut was before, so that it is a member still
pub swept_from : (rows new : List Row) (out : Members) → CutLoses rows new → HoldsOut rows out
    → (g : ℕ) → g < length new → is_out new g ≡ true → has out g ≡ true
swept_from rows new out m o g l e = o.out_is g (subst (λ n. g < n) m.count l) ∙ m.out g e

module _ (rows : List Row) (out : Members) (xs : List ℕ) (o : HoldsOut rows out)
    (all : (g : ℕ) → g < size out → has out g ≡ true → is_in g xs ≡ true) where
  -- what is outstanding is in a list of all members
  pub listed : (g : ℕ) → is_out rows g ≡ true → has_in g xs ≡ true
  listed g e =
      let l = below_rows rows g e in in_is g xs ∙ all g (subst (λ n. g < n) (sym o.sized) l) (o.out_is g l ∙ e)

  pub listed_of : (c : Client) → ShowsSends rows c.sent c.outstanding_on c.asks_attach c.unanswered c.sequence_of c.slot_of c.number_of
      → (g : ℕ) → is_some (c.outstanding_on g) ≡ true → has_in g xs ≡ true
  listed_of c s g e = listed g (sym (ap (λ z. is_some z) (s.out_is g)) ∙ e)
