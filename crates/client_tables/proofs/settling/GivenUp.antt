-- Operations are given up one after the other, from below.
use Rattle.std.proofs.Common.{◌≡◌, ℕ, zero, suc, ◌+◌, ◌-◌, ◌<◌, ◌≤◌, ◌&&◌, nat_le, nat_lt, Bool, true, false, if◌then◌else◌}
use Rattle.std.proofs.Common.{refl, ap, sym, ◌∙◌, List, length, get_or, subst, arith, ◌⊎◌, inl, inr}
use Rattle.spec_exchange.specs.Table.{put}
use Rattle.spec_exchange.specs.Operations.{Op, Outcome, Why, Unknown, Unsettled, WasOk, WasRefused, NoSlot, NoOpen, is_unsettled}
use Rattle.spec_exchange.specs.Client.{Client, finish, is_taken, outcome_after_finish}
use Rattle.base_lists.specs.declared.watch_lists.Link.{Link as Watch}
use Rattle.law_client.specs.table.Columns.{IsClientFirst, ops_of, standing_of}
use Rattle.client_rows.specs.declared.operation_rows.row.Row.{Row}
use Rattle.client_rows.specs.operation_rows.Rows.{stands}
use Rattle.client_rows.specs.Shown.{ShowsRows}
use Rattle.client_values.specs.declared.operations.values.OpKind.{OpKind}
use Rattle.client_values.specs.declared.outcomes.outcome.Outcome.{Outcome as Settled}
use Rattle.client_values.specs.declared.outcomes.outcome.Outcome.TheVariants as outcomes
use Rattle.client_tables.specs.settling.Shown.{AreSettledBelow, ShowsValues, outcome_by}
use Rattle.client_tables.proofs.settling.Settled.{never_unsettled}
use Rattle.client_rows.proofs.operation_rows.Walking.{put_at, put_off}
use Rattle.client_tables.specs.settling.GivenUp.{finished_below}

ways : (x y : ℕ) → (x ≡ y) ⊎ (x ≡ y → ⊥)
ways x y = grind arith

-- the test by which one is given up
abbrev given : Client → ℕ → ℕ → Bool
given c g n = is_taken c g && nat_lt g n

given_here : (taken g n : ℕ) → 0 < n → n ≤ taken → g ≡ n → ((nat_lt 0 g && nat_le g taken) && nat_lt g (n + 1)) ≡ true
given_here taken g n p l e = grind arith

given_there : (taken g n : ℕ) → (g ≡ n → ⊥)
    → ((nat_lt 0 g && nat_le g taken) && nat_lt g (n + 1)) ≡ ((nat_lt 0 g && nat_le g taken) && nat_lt g n)
given_there taken g n e = grind arith

given_all : (taken g n : ℕ) → taken < n → ((nat_lt 0 g && nat_le g taken) && nat_lt g n) ≡ (nat_lt 0 g && nat_le g taken)
given_all taken g n l = grind arith

unsettled_is : (o : Outcome) → is_unsettled o ≡ true → o ≡ Unsettled
unsettled_is Unsettled e = refl
unsettled_is (WasOk reply) e = absurd (cc)
unsettled_is (WasRefused status) e = absurd (cc)
unsettled_is (NoSlot create) e = absurd (cc)
unsettled_is (NoOpen create) e = absurd (cc)
unsettled_is (Unknown why) e = absurd (cc)

after_unsettled : (why : Why) (o : Outcome) → is_unsettled o ≡ true → outcome_after_finish why o ≡ Unknown why
after_unsettled why o e = ap (λ z. outcome_after_finish why z) (unsettled_is o e)

after_settled : (why : Why) (o : Outcome) → is_unsettled o ≡ false → outcome_after_finish why o ≡ o
after_settled why Unsettled e = absurd (cc)
after_settled why (WasOk reply) e = refl
after_settled why (WasRefused status) e = refl
after_settled why (NoSlot create) e = refl
after_settled why (NoOpen create) e = refl
after_settled why (Unknown w) e = refl

either : {X : Type 0} (b : Bool) (x y : X) → x ≡ y → (if b then x else y) ≡ y
either true x y e = e
either false x y e = refl

module _ (c : Client) (why : Why) (n : ℕ) where
  abbrev by : ℕ → Bool → Outcome
  by g b = if b then outcome_after_finish why (c.outcome g) else c.outcome g

  -- one that is unsettled is given up
  pub finish_next : 0 < n → n ≤ c.taken → is_unsettled (c.outcome n) ≡ true
      → (g : ℕ) → put (finished_below c why n).outcome n (Unknown why) g ≡ (finished_below c why (n + 1)).outcome g
  finish_next p l u g =
      elim (ways g n) as (λ _. put (finished_below c why n).outcome n (Unknown why) g ≡ (finished_below c why (n + 1)).outcome g) [
        | inl e ↦ put_at (finished_below c why n).outcome n (Unknown why) g e
            ∙ sym (ap (λ b. by g b) (given_here c.taken g n p l e)
            ∙ ap (λ x. outcome_after_finish why (c.outcome x)) e ∙ after_unsettled why (c.outcome n) u)
        | inr e ↦ put_off (finished_below c why n).outcome n (Unknown why) g e
            ∙ ap (λ b. by g b) (sym (given_there c.taken g n e))
      ]

  -- and one that is settled stays
  pub finish_kept : is_unsettled (c.outcome n) ≡ false
      → (g : ℕ) → (finished_below c why n).outcome g ≡ (finished_below c why (n + 1)).outcome g
  finish_kept u g =
      elim (ways g n) as (λ _. (finished_below c why n).outcome g ≡ (finished_below c why (n + 1)).outcome g) [
        | inl e ↦ (
            let w : outcome_after_finish why (c.outcome g) ≡ c.outcome g =
            after_settled why (c.outcome g) (ap (λ x. is_unsettled (c.outcome x)) e ∙ u) in
            either (given c g n) (outcome_after_finish why (c.outcome g)) (c.outcome g) w
            ∙ sym (either (given c g (n + 1)) (outcome_after_finish why (c.outcome g)) (c.outcome g) w)
            )
        | inr e ↦ ap (λ b. by g b) (sym (given_there c.taken g n e))
      ]

  -- all are: what `finish` leaves, but for `given_up`
  pub finish_whole : c.taken < n → (g : ℕ) → (finished_below c why n).outcome g ≡ (finish c why).outcome g
  finish_whole l g = ap (λ b. by g b) (given_all c.taken g n l)

-- where all below are settled it has given up none
and_first : (a b : Bool) → (a && b) ≡ true → a ≡ true
and_first true b e = refl
and_first false b e = e

and_second : (a b : Bool) → (a && b) ≡ true → b ≡ true
and_second true b e = e
and_second false b e = absurd (cc)

test_below : (x n : ℕ) → nat_lt x n ≡ true → x < n
test_below x n e = grind arith

test_within : (x n : ℕ) → nat_le x n ≡ true → x ≤ n
test_within x n e = grind arith

pub finish_begun : (c : Client) (why : Why) (n : ℕ) → ((g : ℕ) → 0 < g → g ≤ c.taken → g < n → is_unsettled (c.outcome g) ≡ false)
    → (g : ℕ) → c.outcome g ≡ (finished_below c why n).outcome g
finish_begun c why n h g = by_test (given c g n) refl
  where
    by_test : (b : Bool) → given c g n ≡ b → c.outcome g ≡ (if b then outcome_after_finish why (c.outcome g) else c.outcome g)
    by_test true e =
        let t = and_first (is_taken c g) (nat_lt g n) e in
        let m = and_second (is_taken c g) (nat_lt g n) e in
        let p = and_first (nat_lt 0 g) (nat_le g c.taken) t in
        let l = and_second (nat_lt 0 g) (nat_le g c.taken) t in
        sym (after_settled why (c.outcome g) (h g (test_below 0 g p) (test_within g c.taken l) (test_below g n m)))
    by_test false e = refl

-- ---- over rows

last_row : (taken m n : ℕ) → ((g : ℕ) → 0 < g → g ≤ taken → g < m) → m ≤ n → 0 < n → taken < n
last_row zero m n h l p = p
last_row (suc t) m n h l p = let w = h (suc t) (omega arith) (omega arith) in omega arith

-- outcomes alone differ, and by name alone
pub rows_with : (rows : List Row) (holders prices : List ℕ) (watchers : List Watch) (c : Client) (old new : ℕ → Outcome)
    → ((g : ℕ) → old g ≡ new g) → ShowsRows rows holders prices watchers (record c { outcome = old })
    → ShowsRows rows holders prices watchers (record c { outcome = new })
rows_with rows holders prices watchers c old new e s =
    let p : old ≡ new = λ t g. (e g) t in
    subst (λ (z : ℕ → Outcome). ShowsRows rows holders prices watchers (record c { outcome = z })) p s

pub rows_begun : (rows : List Row) (holders prices : List ℕ) (watchers : List Watch) (c : Client) (why : Why) (n : ℕ)
    → AreSettledBelow rows n → ShowsRows rows holders prices watchers c → ShowsRows rows holders prices watchers (finished_below c why n)
rows_begun rows holders prices watchers c why n b s =
    rows_with rows holders prices watchers c c.outcome (finished_below c why n).outcome
    (finish_begun c why n (λ g p l m. s.places.unsettled g p l ∙ b g m))
    (record { places = s.places; sends = s.sends; stand = s.stand })

pub rows_finished : (rows : List Row) (holders prices : List ℕ) (watchers : List Watch) (c : Client) (why : Why) (n : ℕ) → length rows ≤ n
    → 0 < n → ShowsRows rows holders prices watchers (finished_below c why n) → ShowsRows rows holders prices watchers (finish c why)
rows_finished rows holders prices watchers c why n l p s =
    let t = rows_with rows holders prices watchers c (finished_below c why n).outcome (finish c why).outcome
    (finish_whole c why n (last_row c.taken (length rows) n s.places.has_row l p)) s in
    record { places = t.places; sends = t.sends; stand = t.stand }

-- ---- over values

pub values_with : (rows : List Row) (ops : List OpKind) (settled : List Settled) (taken : ℕ) (op : ℕ → Op) (old new : ℕ → Outcome)
    → ((g : ℕ) → old g ≡ new g) → ShowsValues rows ops settled taken op old → ShowsValues rows ops settled taken op new
values_with rows ops settled taken op old new e s =
    record {
      ops_counted = s.ops_counted;
      settled_counted = s.settled_counted;
      op_is = s.op_is;
      outcome_is = λ g p l. sym (e g) ∙ s.outcome_is g p l;
    }

settled_by : (b : Bool) (o : Settled) → b ≡ false → is_unsettled (outcome_by b o) ≡ false
settled_by true o e = absurd (cc)
settled_by false o e = never_unsettled o

pub values_begun : (rows : List Row) (ops : List OpKind) (settled : List Settled) (c : Client) (why : Why) (n : ℕ) → AreSettledBelow rows n
    → ShowsValues rows ops settled c.taken c.op c.outcome → ShowsValues rows ops settled c.taken c.op (finished_below c why n).outcome
values_begun rows ops settled c why n b s =
    values_with rows ops settled c.taken c.op c.outcome (finished_below c why n).outcome
    (finish_begun c why n (λ g p l m. ap (λ o. is_unsettled o) (s.outcome_is g p l)
    ∙ settled_by (stands rows g) (get_or settled (g - 1) (outcomes.NoOpen 0)) (b g m))) s

last_value : (taken s m n : ℕ) → s ≡ taken → s ≡ m - 1 → m ≤ n → 0 < n → taken < n
last_value taken s m n e f l p = omega arith

pub values_finished : (rows : List Row) (ops : List OpKind) (settled : List Settled) (c : Client) (why : Why) (m n : ℕ)
    → length settled ≡ m - 1 → m ≤ n → 0 < n → ShowsValues rows ops settled c.taken c.op (finished_below c why n).outcome
    → ShowsValues rows ops settled c.taken c.op (finish c why).outcome
values_finished rows ops settled c why m n e l p s =
    values_with rows ops settled c.taken c.op (finished_below c why n).outcome (finish c why).outcome
    (finish_whole c why n (last_value c.taken (length settled) m n s.settled_counted e l p)) s

-- ---- one more

-- all below are settled, so nothing holds it up
pub first_below : (rows : List Row) (c : Client) (outcome : ℕ → Outcome) (n : ℕ) → AreSettledBelow rows n → n ≤ c.taken
    → ((g : ℕ) → 0 < g → g ≤ c.taken → is_unsettled (outcome g) ≡ stands rows g)
    → IsClientFirst (ops_of (record c { outcome = outcome })) (standing_of (record c { outcome = outcome })) n
first_below rows c outcome n b l u = λ h p k e w. u h p (omega arith) ∙ b h k

-- at n itself nothing is given up yet
at_itself : (taken n : ℕ) → ((nat_lt 0 n && nat_le n taken) && nat_lt n n) ≡ false
at_itself taken n = grind arith

itself : (c : Client) (why : Why) (n : ℕ) → (finished_below c why n).outcome n ≡ c.outcome n
itself c why n = ap (λ b. if b then outcome_after_finish why (c.outcome n) else c.outcome n) (at_itself c.taken n)

pub still_unsettled : (c : Client) (why : Why) (n : ℕ) → is_unsettled ((finished_below c why n).outcome n) ≡ true
    → is_unsettled (c.outcome n) ≡ true
still_unsettled c why n e = sym (ap (λ o. is_unsettled o) (itself c why n)) ∙ e

pub still_settled : (c : Client) (why : Why) (n : ℕ) → is_unsettled ((finished_below c why n).outcome n) ≡ false
    → is_unsettled (c.outcome n) ≡ false
still_settled c why n e = sym (ap (λ o. is_unsettled o) (itself c why n)) ∙ e

-- what a row says of it, where its value is told
last_of : (x s m taken : ℕ) → s ≡ taken → s ≡ m - 1 → x < m → x ≤ taken
last_of x s m taken e f l = omega arith

unsettled_by : (b : Bool) (o : Settled) → b ≡ true → is_unsettled (outcome_by b o) ≡ true
unsettled_by true o e = refl
unsettled_by false o e = absurd (cc)

module _ (rows : List Row) (ops : List OpKind) (settled : List Settled) (c : Client) (why : Why) (x : ℕ) (p : 0 < x) (l : x < length rows)
    (m : length settled ≡ length rows - 1) where
  taken_so : ShowsValues rows ops settled c.taken c.op (finished_below c why x).outcome → x ≤ c.taken
  taken_so s = last_of x (length settled) (length rows) c.taken s.settled_counted m l

  pub value_unsettled : stands rows x ≡ true → ShowsValues rows ops settled c.taken c.op (finished_below c why x).outcome
      → (x ≤ c.taken) × (is_unsettled (c.outcome x) ≡ true)
  value_unsettled u s = (
    taken_so s,
    still_unsettled c why x (ap (λ o. is_unsettled o) (s.outcome_is x p (taken_so s))
        ∙ unsettled_by (stands rows x) (get_or settled (x - 1) (outcomes.NoOpen 0)) u),
  )

  pub value_settled : stands rows x ≡ false → ShowsValues rows ops settled c.taken c.op (finished_below c why x).outcome
      → is_unsettled (c.outcome x) ≡ false
  value_settled u s =
      still_settled c why x (ap (λ o. is_unsettled o) (s.outcome_is x p (taken_so s))
      ∙ settled_by (stands rows x) (get_or settled (x - 1) (outcomes.NoOpen 0)) u)
