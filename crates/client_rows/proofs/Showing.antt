-- What the rows tell of an operation is what the model's client tells: why it stays, and that it goes.
use Rattle.std.proofs.Common.{◌≡◌, ℕ, ◌+◌, ◌<◌, ◌≤◌, Bool, true, false, List, length, refl, ap, sym, ◌∙◌, arith}
use Rattle.std.proofs.Common.{subst, ◌⊎◌, inl, inr, is_some, Option, Some, None, MatchOption, IfSome, IfNone}
use Rattle.base_lists.specs.declared.watch_lists.Link.{Link as Watch}
use Rattle.spec_exchange.specs.Operations.{holds_up}
use Rattle.spec_exchange.specs.Client.{Client, create_for}
use Rattle.spec_exchange.specs.Schedules.{choose, cost}
use Rattle.law_client.specs.table.Kept.{TableKept}
use Rattle.law_client.specs.choice.Choosing.{ChoiceGoes, ChoiceHolder, ChoiceStays, chosen}
use Rattle.law_client.proofs.choice.Picking.{first_goes, none_goes}
use Rattle.client_rows.specs.declared.operation_rows.row.Row.{Row}
use Rattle.client_rows.specs.operation_rows.Rows.{stands, owner, is_out, costs}
use Rattle.client_rows.specs.operation_rows.Holding.{Alike, HoldingHolder as RowHolder}
use Rattle.client_rows.specs.operation_rows.Choosing.{AllStay, IsLeast, RowStands, RowStays as RowStays}
use Rattle.client_rows.specs.Shown.{RowShowsPlaces, ShowsRows, ShowsSends, waits_by, fills_by}

true_or_false : (b : Bool) → (b ≡ true) ⊎ (b ≡ false)
true_or_false true = inl refl
true_or_false false = inr refl

module _ (rows : List Row) (holders prices : List ℕ) (watchers : List Watch) (c : Client) where
  out_same : ShowsRows rows holders prices watchers c → (g : ℕ) → is_some (c.outstanding_on g) ≡ is_out rows g
  out_same s g = ap (λ o. is_some o) (s.sends.out_is g)

  holder_is : ShowsRows rows holders prices watchers c → (b g : ℕ) → 0 < b → g ≤ c.taken
      → RowHolder (waits_by c.op) (owner rows) (stands rows) b g → ChoiceHolder c b g
  holder_is s b g p l h =
      let k = h.lower in
      let n = s.places.creates b p (omega arith) in
      let m = s.places.creates g (omega arith) l in
      record {
        above = p;
        lower = h.lower;
        unsettled = s.places.unsettled b p (omega arith) ∙ h.unsettled;
        same = n ∙ h.same ∙ sym m;
        why = elim h.why as (λ _. (b ≡ create_for c g) ⊎ (holds_up (c.op b) (c.op g) ≡ true)) [ inl e ↦ inl (e ∙ sym m) | inr e ↦ inr e ];
      }

  holder_of : ShowsRows rows holders prices watchers c → (b g : ℕ) → g ≤ c.taken → ChoiceHolder c b g
      → RowHolder (waits_by c.op) (owner rows) (stands rows) b g
  holder_of s b g l h =
      let k = h.lower in
      let p = h.above in
      let n = s.places.creates b h.above (omega arith) in
      let m = s.places.creates g (omega arith) l in
      record {
        lower = h.lower;
        unsettled = sym (s.places.unsettled b h.above (omega arith)) ∙ h.unsettled;
        same = sym n ∙ h.same ∙ m;
        why = elim h.why as (λ _. (b ≡ owner rows g) ⊎ (waits_by c.op b g ≡ true)) [ inl e ↦ inl (e ∙ m) | inr e ↦ inr e ];
      }

  pub stays_so : ShowsRows rows holders prices watchers c → (credits g : ℕ) → 0 < g → g ≤ c.taken
      → RowStays (waits_by c.op) (costs rows) credits rows g → ChoiceStays c credits g
  stays_so s credits g p l (inl e) = inl (s.places.unsettled g p l ∙ e)
  stays_so s credits g p l (inr (inl e)) = inr (inl (out_same s g ∙ e))
  stays_so s credits g p l (inr (inr (inl e))) =
      elim (true_or_false (stands rows g)) as (λ _. ChoiceStays c credits g) [
        | inl u ↦ inr (inr (inl (subst (λ n. credits < n) (sym (s.places.pays g p l u)) e)))
        | inr u ↦ inl (s.places.unsettled g p l ∙ u)
      ]
  stays_so s credits g p l (inr (inr (inr e))) = inr (inr (inr (e.0, holder_is s e.0 g e.1 l e.2)))

  pub goes_so : ShowsRows rows holders prices watchers c → (credits from g : ℕ) → 0 < g → g ≤ c.taken
      → IsLeast (waits_by c.op) (costs rows) credits rows from g → ChoiceGoes c credits g
  goes_so s credits from g p l i =
      record {
        unsettled = s.places.unsettled g p l ∙ i.unsettled;
        apart = out_same s g ∙ i.apart;
        paid = subst (λ n. n ≤ credits) (sym (s.places.pays g p l i.unsettled)) i.paid;
        free = λ b h. i.free b h.above (holder_of s b g l h);
      }

  pub none_is : ShowsRows rows holders prices watchers c → (k credits from m : ℕ) (slotless : List ℕ) (r : Option ℕ)
      → TableKept c → 0 < from → from + m ≡ c.taken + 1
      → MatchOption r (AllStay (waits_by c.op) (costs rows) credits rows from (length rows))
      (λ i. IsLeast (waits_by c.op) (costs rows) credits rows from i)
      → IfNone r (choose c k credits slotless from m ≡ record { slotless = slotless; pick = None })
  none_is s k credits from m slotless None i p e h =
      none_goes c k credits from m slotless i p e
      (λ g l j. stays_so s credits g (omega arith) j (h g l (s.places.has_row g (omega arith) j)))
  none_is s k credits from m slotless (Some x) i p e h = tt

  some_goes : ShowsRows rows holders prices watchers c → (k credits from d n g : ℕ) (slotless : List ℕ)
      → TableKept c → c.ready k ≡ true → 0 < from → from + d ≡ g → g + n ≡ c.taken
      → IsLeast (waits_by c.op) (costs rows) credits rows from g
      → choose c k credits slotless from (d + (n + 1)) ≡ chosen c k credits slotless g n
  some_goes s k credits from d n g slotless i r p e f w =
      first_goes c k credits from d g n slotless i r p e f
      (λ x l j. stays_so s credits x (omega arith) (omega arith) (w.lower x l j))
      (goes_so s credits from g (omega arith) (omega arith) w)

  pub some_is : ShowsRows rows holders prices watchers c → (k credits from d n : ℕ) (slotless : List ℕ) (r : Option ℕ)
      → TableKept c → c.ready k ≡ true → 0 < from
      → MatchOption r (AllStay (waits_by c.op) (costs rows) credits rows from (length rows))
      (λ i. IsLeast (waits_by c.op) (costs rows) credits rows from i)
      → IfSome r (λ i. from + d ≡ i → i + n ≡ c.taken
      → choose c k credits slotless from (d + (n + 1)) ≡ chosen c k credits slotless i n)
  some_is s k credits from d n slotless None i r p h = tt
  some_is s k credits from d n slotless (Some g) i r p h = λ e f. some_goes s k credits from d n g slotless i r p e f h

  pub goes_is : ShowsRows rows holders prices watchers c → (credits from : ℕ) (r : Option ℕ) → 0 < from
      → IfSome r (λ i. i < length rows)
      → MatchOption r (AllStay (waits_by c.op) (costs rows) credits rows from (length rows))
      (λ i. IsLeast (waits_by c.op) (costs rows) credits rows from i)
      → IfSome r (λ i. ChoiceGoes c credits i)
  goes_is s credits from None p l h = tt
  goes_is s credits from (Some g) p l h =
      let b = h.behind in
      let q : 0 < g = omega arith in
      goes_so s credits from g q (s.places.is_taken g q l) h

-- ---- rows that differ by links alone

module _ (old new : List Row) (a : Alike old new) where
  places_alike : (c : Client) (paid : ℕ → ℕ) → RowShowsPlaces old c.taken c.op c.outcome paid
      → RowShowsPlaces new c.taken c.op c.outcome paid
  places_alike c paid s =
      record {
        has_row = λ g p l. subst (λ z. g < z) (sym a.count) (s.has_row g p l);
        is_taken = λ g p l. s.is_taken g p (subst (λ z. g < z) a.count l);
        creates = λ g p l. s.creates g p l ∙ ap (λ (r : Row). r.create) (sym (a.row g));
        kinds = λ g p l. s.kinds g p l ∙ ap (λ (r : Row). r.kind) (sym (a.row g));
        charges = λ g p l. s.charges g p l ∙ ap (λ (r : Row). r.charge) (sym (a.row g));
        unsettled = λ g p l. s.unsettled g p l ∙ ap (λ (r : Row). r.unsettled) (sym (a.row g));
        firm_is = λ g p l. s.firm_is g p l ∙ ap (λ (r : Row). r.firm) (sym (a.row g));
        pays = λ g p l u. s.pays g p l (ap (λ (r : Row). r.unsettled) (sym (a.row g)) ∙ u) ∙ ap (λ (r : Row). r.cost) (sym (a.row g));
      }

  sends_alike : (c : Client) → ShowsSends old c.sent c.outstanding_on c.asks_attach c.unanswered c.sequence_of c.slot_of c.number_of
      → ShowsSends new c.sent c.outstanding_on c.asks_attach c.unanswered c.sequence_of c.slot_of c.number_of
  sends_alike c s =
      record {
        sent_is = λ g. s.sent_is g ∙ ap (λ (r : Row). r.sent) (sym (a.row g));
        out_is = λ g. s.out_is g ∙ ap (λ (r : Row). r.outstanding_on) (sym (a.row g));
        asks_is = λ g. s.asks_is g ∙ ap (λ (r : Row). r.asking) (sym (a.row g));
        unanswered_is = λ g. s.unanswered_is g ∙ ap (λ (r : Row). r.unanswered) (sym (a.row g));
        sequence_is = λ g. s.sequence_is g ∙ ap (λ (r : Row). r.sequence) (sym (a.row g));
        slot_is = λ g. s.slot_is g ∙ ap (λ (r : Row). r.slot) (sym (a.row g));
        number_is = λ g. s.number_is g ∙ ap (λ (r : Row). r.slot_number) (sym (a.row g));
      }

  same_costs : costs old ≡ costs new
  same_costs = λ t g. (sym (a.row g) t).cost

  pub alike_shown : (holders prices prices2 : List ℕ) (watchers watchers2 : List Watch) (c : Client)
      → ShowsRows old holders prices watchers c
      → RowStands (waits_by c.op) (fills_by c.op) (costs old) new holders prices2 watchers2
      → ShowsRows new holders prices2 watchers2 c
  alike_shown holders prices prices2 watchers watchers2 c s t =
      record {
        places = places_alike c (λ g. cost c g) s.places;
        sends = sends_alike c s.sends;
        stand = subst (λ (k : ℕ → ℕ). RowStands (waits_by c.op) (fills_by c.op) k new holders prices2 watchers2) same_costs t;
      }

-- ---- one that is found isn't below where the search began

pub behind_is : (holds : ℕ → ℕ → Bool) (price : ℕ → ℕ) (credits : ℕ) (rows : List Row) (from : ℕ) (r : Option ℕ)
    → MatchOption r (AllStay holds price credits rows from (length rows)) (λ i. IsLeast holds price credits rows from i)
    → IfSome r (λ i. from ≤ i)
behind_is holds price credits rows from None h = tt
behind_is holds price credits rows from (Some g) h = h.behind
