-- What stays may not be pushed, and what goes may.
use Rattle.std.proofs.Common.{◌≡◌, ℕ, ◌<◌, ◌≤◌, ◌&&◌, ◌||◌, not, nat_le, nat_lt, Bool, true, false, refl, arith, subst}
use Rattle.std.proofs.Common.{inl, inr, Option, Some, None, is_some, is_none}
use Rattle.spec_exchange.specs.Operations.{is_create, is_ok, is_unsettled, holds_up}
use Rattle.spec_exchange.specs.Client.{Client, create_for, has_open, is_taken, may_push, waits}
use Rattle.spec_exchange.specs.Schedules.{cost}
use Rattle.law_client.specs.table.Columns.{ops_of, standing_of, IsClientFirst}
use Rattle.law_client.specs.table.Kept.{TableKept}
use Rattle.law_client.proofs.table.Moves.{true_or_false, clash}
use Rattle.law_client.proofs.table.Waiting.{first_waits, waits_not}
use Rattle.law_client.specs.choice.Choosing.{ChoiceGoes, ChoiceHolder, ChoiceStays}

abbrev pub goes : Client → ℕ → ℕ → ℕ → Bool
goes c k credits g = may_push c k g && nat_le (cost c g) credits

-- ---- tests alone

abbrev all_of : (ready taken unsettled none opened waiting paid : Bool) → Bool
all_of ready taken unsettled none opened waiting paid = (ready && (taken && (unsettled && (none && (opened && not waiting))))) && paid

no_unsettled : (r t u n h w a : Bool) → u ≡ false → all_of r t u n h w a ≡ false
no_unsettled r t u n h w a e = grind arith

no_none : (r t u n h w a : Bool) → n ≡ false → all_of r t u n h w a ≡ false
no_none r t u n h w a e = grind arith

no_open : (r t u n h w a : Bool) → h ≡ false → all_of r t u n h w a ≡ false
no_open r t u n h w a e = grind arith

it_waits : (r t u n h w a : Bool) → w ≡ true → all_of r t u n h w a ≡ false
it_waits r t u n h w a e = grind arith

not_paid : (r t u n h w a : Bool) → a ≡ false → all_of r t u n h w a ≡ false
not_paid r t u n h w a e = grind arith

all_hold : (r t u n h w a : Bool) → r ≡ true → t ≡ true → u ≡ true → n ≡ true → h ≡ true → w ≡ false → a ≡ true
    → all_of r t u n h w a ≡ true
all_hold r t u n h w a e f g i j k l = rw (e, f, g, i, j, k, l) refl

some_none : (o : Option ℕ) → is_some o ≡ true → is_none o ≡ false
some_none None e = absurd (cc)
some_none (Some x) e = refl

none_some : (o : Option ℕ) → is_some o ≡ false → is_none o ≡ true
none_some None e = refl
none_some (Some x) e = absurd (cc)

dear : (cost credits : ℕ) → credits < cost → nat_le cost credits ≡ false
dear cost credits l = grind arith

paid : (cost credits : ℕ) → cost ≤ credits → nat_le cost credits ≡ true
paid cost credits l = grind arith

neither : (a b : Bool) → a ≡ false → b ≡ false → (a || b) ≡ false
neither a b e f = grind arith

left_holds : (a b : Bool) → a ≡ true → (a || b) ≡ true
left_holds a b e = grind arith

right_holds : (a b : Bool) → b ≡ true → (a || b) ≡ true
right_holds a b e = grind arith

in_range : (g n : ℕ) → 0 < g → g ≤ n → (nat_lt 0 g && nat_le g n) ≡ true
in_range g n p l = grind arith

-- ---- an operation that stays

-- its create is unsettled
closed : (c : Client) (g : ℕ) → TableKept c → create_for c g < g → is_unsettled (c.outcome (create_for c g)) ≡ true → has_open c g ≡ false
closed c g i l u =
    neither (is_create (c.op g)) (is_ok (c.outcome (create_for c g))) (elim (true_or_false (is_create (c.op g))) as
    (λ _. is_create (c.op g) ≡ false) [
      | inl e ↦ absurd (let s = i.ordered.itself g e in omega arith)
      | inr e ↦ e
    ])
    (elim (true_or_false (is_ok (c.outcome (create_for c g)))) as (λ _. is_ok (c.outcome (create_for c g)) ≡ false) [
      | inl e ↦ absurd (clash (is_unsettled (c.outcome (create_for c g))) u (i.stands.ok_settled (create_for c g) e))
      | inr e ↦ e
    ])

-- a lower one that it waits for is unsettled
held : (c : Client) (b g : ℕ) → 0 < b → b < g → is_unsettled (c.outcome b) ≡ true → create_for c b ≡ create_for c g
    → holds_up (c.op b) (c.op g) ≡ true → waits c g g ≡ true
held c b g p l u s h =
    elim (true_or_false (waits c g g)) as (λ _. waits c g g ≡ true) [
      | inl e ↦ e
      | inr e ↦ absurd (clash (is_unsettled (c.outcome b)) u (waits_not c g e b p l s h))
    ]

pub stays_not : (c : Client) (k credits g : ℕ) → TableKept c → ChoiceStays c credits g → goes c k credits g ≡ false
stays_not c k credits g i (inl e) =
    no_unsettled (c.ready k) (is_taken c g) (is_unsettled (c.outcome g)) (is_none (c.outstanding_on g)) (has_open c g)
    (waits c g g) (nat_le (cost c g) credits) e
stays_not c k credits g i (inr (inl e)) =
    no_none (c.ready k) (is_taken c g) (is_unsettled (c.outcome g)) (is_none (c.outstanding_on g)) (has_open c g)
    (waits c g g) (nat_le (cost c g) credits) (some_none (c.outstanding_on g) e)
stays_not c k credits g i (inr (inr (inl e))) =
    not_paid (c.ready k) (is_taken c g) (is_unsettled (c.outcome g)) (is_none (c.outstanding_on g)) (has_open c g)
    (waits c g g) (nat_le (cost c g) credits) (dear (cost c g) credits e)
stays_not c k credits g i (inr (inr (inr h))) = by_holder c k credits h.0 g i h.1
  where
    by_holder : (c : Client) (k credits b g : ℕ) → TableKept c → ChoiceHolder c b g → goes c k credits g ≡ false
    by_holder c k credits b g i h =
        elim h.why as (λ _. goes c k credits g ≡ false) [
          | inl e ↦ no_open (c.ready k) (is_taken c g) (is_unsettled (c.outcome g)) (is_none (c.outstanding_on g))
              (has_open c g) (waits c g g) (nat_le (cost c g) credits)
              (closed c g i (subst (λ x. x < g) e h.lower) (subst (λ x. is_unsettled (c.outcome x) ≡ true) e h.unsettled))
          | inr e ↦ it_waits (c.ready k) (is_taken c g) (is_unsettled (c.outcome g)) (is_none (c.outstanding_on g))
              (has_open c g) (waits c g g) (nat_le (cost c g) credits)
              (held c b g h.above h.lower h.unsettled h.same e)
        ]

-- ---- an operation that goes

opened : (c : Client) (credits g : ℕ) → TableKept c → 0 < g → g ≤ c.taken → ChoiceGoes c credits g → has_open c g ≡ true
opened c credits g i p l w =
    elim (true_or_false (is_create (c.op g))) as (λ _. has_open c g ≡ true) [
      | inl e ↦ left_holds (is_create (c.op g)) (is_ok (c.outcome (create_for c g))) e
      | inr e ↦ (
          let o = i.ordered.owned g p l e in
          right_holds (is_create (c.op g)) (is_ok (c.outcome (create_for c g))) (
          elim (true_or_false (is_unsettled (c.outcome (create_for c g)))) as (λ _. is_ok (c.outcome (create_for c g)) ≡ true) [
            | inl u ↦ absurd (w.free (create_for c g) (record {
              above = o.0;
              lower = o.1;
              unsettled = u;
              same = i.ordered.itself (create_for c g) o.2;
              why = inl refl;
            }))
            | inr u ↦ i.stands.opened g p l e w.unsettled u
          ])
          )
    ]

its_create : (c : Client) (g : ℕ) → TableKept c → 0 < g → g ≤ c.taken → 0 < create_for c g
its_create c g i p l =
    elim (true_or_false (is_create (c.op g))) as (λ _. 0 < create_for c g) [
      | inl e ↦ (let q = i.ordered.itself g e in omega arith)
      | inr e ↦ (i.ordered.owned g p l e).0
    ]

free_first : (c : Client) (credits g : ℕ) → ChoiceGoes c credits g → IsClientFirst (ops_of c) (standing_of c) g
free_first c credits g w h p l s o =
    elim (true_or_false (is_unsettled (c.outcome h))) as (λ _. is_unsettled (c.outcome h) ≡ false) [
      | inl u ↦ absurd (w.free h (record { above = p; lower = l; unsettled = u; same = s; why = inr o }))
      | inr u ↦ u
    ]

pub goes_so : (c : Client) (k credits g : ℕ) → TableKept c → c.ready k ≡ true → 0 < g → g ≤ c.taken → ChoiceGoes c credits g
    → goes c k credits g ≡ true
goes_so c k credits g i r p l w =
    all_hold (c.ready k) (is_taken c g) (is_unsettled (c.outcome g)) (is_none (c.outstanding_on g)) (has_open c g)
    (waits c g g) (nat_le (cost c g) credits) r (in_range g c.taken p l) w.unsettled
    (none_some (c.outstanding_on g) w.apart) (opened c credits g i p l w)
    (first_waits c g i.ordered (its_create c g i p l) (free_first c credits g w)) (paid (cost c g) credits w.paid)
