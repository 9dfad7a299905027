-- What a search tells, by what becomes of the operation that was found.
use Rattle.std.proofs.Common.{◌≡◌, ℕ, ◌+◌, ◌<◌, ◌≤◌, true, List, length, refl, ap, sym, ◌∙◌, subst, arith, Some}
use Rattle.std.proofs.lemmas.List.{get_or_default}
use Rattle.spec_exchange.specs.Client.{Client, goes_itself, has_its_slot}
use Rattle.spec_exchange.specs.Schedules.{choose}
use Rattle.law_client.specs.choice.Choosing.{ChoiceGoes, chosen}
use Rattle.client_rows.specs.declared.operation_rows.row.Row.{Row}
use Rattle.client_rows.specs.operation_rows.Rows.{row_at}
use Rattle.client_rows.specs.operation_rows.Slots.{slot_at}
use Rattle.client_rows.specs.operation_rows.Holding.{Alike}
use Rattle.client_rows.specs.declared.session_state.session.Session.{Session}
use Rattle.client_tables.specs.declared.choice.finding.Attached.{Attached}
use Rattle.client_tables.specs.declared.choice.finding.Found.{Found}
use Rattle.client_tables.specs.declared.choice.finding.Found.TheVariants as found
use Rattle.client_tables.specs.choice.Shown.{AreChoicesBounded, HaveOpens, IsChoiceAt, IsChoiceInside, ChoiceShowsOpens}
use Rattle.client_tables.specs.choice.Shown.{ChoiceTells, TellsOf}

-- an operation behind those that are passed over
pub tells_from : (c : Client) (k credits start index : ℕ) (slotless : List ℕ) (r : Found)
    → ((d n : ℕ) → start + d ≡ index → index + n ≡ c.taken → choose c k credits slotless start (d + (n + 1))
    ≡ chosen c k credits slotless index n)
    → (r ≡ found.Nothing → ⊥) → ChoiceGoes c credits index → TellsOf c k credits slotless index r → ChoiceTells c k credits slotless start r
tells_from c k credits start index slotless found.Nothing h a w t = absurd (a refl)
tells_from c k credits start index slotless (found.Goes i slot) h a w t = (
  subst (λ x. ChoiceGoes c credits x) (sym t.0) w,
  subst (λ x. goes_itself c x ≡ true → has_its_slot c x slot ≡ true) (sym t.0) t.1,
  subst (λ x. (d n : ℕ) → start + d ≡ x → x + n ≡ c.taken → choose c k credits slotless start (d + (n + 1))
      ≡ record { slotless = slotless; pick = Some (record { op = x; slot = slot }) }) (sym t.0) (λ d n e f. h d n e f ∙ t.2 n),
)
tells_from c k credits start index slotless (found.Slotless i) h a w t =
    subst (λ x. ChoiceTells c k credits slotless start (found.Slotless x)) (sym t.0) (t.1, λ d n e f. h d n e f ∙ t.2 n)

-- one that is behind another is behind a lower one
pub inside_from : (rows : List Row) (opens : List Attached) (start index : ℕ) (r : Found) → start ≤ index
    → IsChoiceInside rows opens index r
    → IsChoiceInside rows opens start r
inside_from rows opens start index found.Nothing l h = tt
inside_from rows opens start index (found.Goes i slot) l h = (let a = h.0 in (omega arith, h.1, h.2, h.3))
inside_from rows opens start index (found.Slotless i) l h = (let a = h.0 in (omega arith, h.1))

-- what stands at a place is one
pub one_at : (opens : List Attached) (i : ℕ) (o p : Attached) → i < length opens → IsChoiceAt opens i o → IsChoiceAt opens i p → o ≡ p
one_at opens i o p l a b = a ∙ get_or_default opens i o p l ∙ sym b

-- ---- rows that differ by links alone

module _ (rows new : List Row) (opens : List Attached) (a : Alike rows new) where
  same_open : (g : ℕ) → (row_at new g).«open» ≡ (row_at rows g).«open»
  same_open g = ap (λ (r : Row). r.«open») (a.row g)

  same_firm : (g : ℕ) → (row_at new g).firm ≡ (row_at rows g).firm
  same_firm g = ap (λ (r : Row). r.firm) (a.row g)

  pub opens_alike : HaveOpens rows opens → HaveOpens new opens
  opens_alike h g p l = subst (λ x. x < length opens) (sym (same_open g)) (h g p (subst (λ n. g < n) a.count l))

  pub bounded_alike : AreChoicesBounded rows opens → AreChoicesBounded new opens
  bounded_alike h i o l q = (
    (h i o l q).0,
    λ p k. subst (λ n. (slot_at o.slots.items p).user < n) (sym a.count) ((h i o l q).1 p k),
  )

  pub shows_alike : (session : Session) (c : Client) → ChoiceShowsOpens rows opens session c → ChoiceShowsOpens new opens session c
  shows_alike session c h g o p l q =
      let s = h g o p (subst (λ n. g < n) a.count l) (subst (λ x. IsChoiceAt opens x o) (same_open g) q) in
      let z = s.has_slots in
      record {
        in_session = s.in_session;
        attached_in = s.attached_in;
        counted = s.counted;
        has_slots = record {
          user = z.user;
          retried = z.retried;
          full = z.full;
          firm = λ place k. z.firm place k ∙ sym (same_firm (slot_at o.slots.items place).user);
          unused = z.unused;
          number = z.number;
        };
      }
