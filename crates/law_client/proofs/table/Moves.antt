-- One event over what was taken: what it may change, and that it keeps all that is kept.
use Rattle.std.proofs.Common.{◌≡◌, ℕ, ◌<◌, ◌≤◌, Bool, true, false, arith, ◌⊎◌, inl, inr, refl}
use Rattle.law_client.specs.table.Columns.{Ops, Standing, IsClientFirst, ClientAllSettled}
use Rattle.law_client.specs.table.Kept.{Ordered, TableStands}

-- it may go out
pub record Goes (o : Ops) (s : Standing) (g : ℕ) : Type 0 where
  pub above : 0 < g
  pub within : g ≤ o.taken
  pub has_open : o.create g ≡ false → s.ok (o.of g) ≡ true
  pub first : IsClientFirst o s g

pub record Moves (o : Ops) (s t : Standing) : Type 0 where
  pub fewer : (g : ℕ) → t.unsettled g ≡ true → s.unsettled g ≡ true
  pub ok_stays : (g : ℕ) → s.ok g ≡ true → t.ok g ≡ true
  pub ok_settled : (g : ℕ) → t.ok g ≡ true → t.unsettled g ≡ false
  pub opens : (g : ℕ) → 0 < g → g ≤ o.taken → o.create g ≡ false → t.unsettled g ≡ true → t.unsettled (o.of g) ≡ false
      → s.unsettled (o.of g) ≡ true → t.ok (o.of g) ≡ true
  pub sends : (g : ℕ) → t.sent g ≡ true → (s.sent g ≡ true) ⊎ Goes o s g
  pub puts_out : (g : ℕ) → t.out g ≡ true → (s.out g ≡ true) ⊎ Goes o s g
  pub out_unsettled : (g : ℕ) → t.out g ≡ true → t.unsettled g ≡ true
  pub out_live : (g : ℕ) → t.out g ≡ true → t.live ≡ true
  pub settles : (g : ℕ) → 0 < g → g ≤ o.taken → t.unsettled g ≡ false → s.unsettled g ≡ true → IsClientFirst o t g
  pub gone : (g : ℕ) → 0 < g → g ≤ o.taken → o.create g ≡ false → t.gone (o.of g) ≡ true → t.unsettled g ≡ false

pub true_or_false : (b : Bool) → (b ≡ true) ⊎ (b ≡ false)
true_or_false true = inl refl
true_or_false false = inr refl

-- settled stays settled
pub stays : (a b : Bool) → (b ≡ true → a ≡ true) → a ≡ false → b ≡ false
stays a b f h = grind arith

pub clash : (a : Bool) → a ≡ true → a ≡ false → ⊥
clash a h k = absurd (cc)

pub first_stays : (o : Ops) (s t : Standing) (g : ℕ) → ((h : ℕ) → t.unsettled h ≡ true → s.unsettled h ≡ true)
    → IsClientFirst o s g → IsClientFirst o t g
first_stays o s t g fewer first h above below same holds = stays (s.unsettled h) (t.unsettled h) (fewer h) (first h above below same holds)

-- where all of its open are settled it waits for nothing
pub whole_first : (o : Ops) (s : Standing) (g : ℕ) → Ordered o → g ≤ o.taken → ClientAllSettled o s (o.of g) → IsClientFirst o s g
whole_first o s g i within whole h above below same holds =
    elim (true_or_false (o.create h)) [
      | inl e ↦ absurd (clash (o.holds h g) holds (i.passes h g e))
      | inr e ↦ whole h above (omega arith) e same
    ]

moved_opened : (o : Ops) (s t : Standing) → TableStands o s → Moves o s t → (g : ℕ) → 0 < g → g ≤ o.taken → o.create g
    ≡ false → t.unsettled g ≡ true → t.unsettled (o.of g) ≡ false → t.ok (o.of g) ≡ true
moved_opened o s t k m g above within other h settled =
    elim (true_or_false (s.unsettled (o.of g))) [
      | inl e ↦ m.opens g above within other h settled e
      | inr e ↦ m.ok_stays (o.of g) (k.opened g above within other (m.fewer g h) e)
    ]

moved_settled : (o : Ops) (s t : Standing) → TableStands o s → Moves o s t → (g : ℕ) → 0 < g → g ≤ o.taken → t.unsettled g
    ≡ false → IsClientFirst o t g
moved_settled o s t k m g above within h =
    elim (true_or_false (s.unsettled g)) [
      | inl e ↦ m.settles g above within h e
      | inr e ↦ first_stays o s t g m.fewer (k.settled_first g above within e)
    ]

pub moved : (o : Ops) (s t : Standing) → TableStands o s → Moves o s t → TableStands o t
moved o s t k m =
    record {
      opened = moved_opened o s t k m;
      ok_settled = m.ok_settled;
      out_unsettled = m.out_unsettled;
      out_taken = λ g h. elim (m.puts_out g h) as (λ _. 0 < g × g ≤ o.taken) [ inl e ↦ k.out_taken g e | inr e ↦ (e.above, e.within) ];
      out_open = λ g h c. m.ok_stays (o.of g) (elim (m.puts_out g h) as (λ _. s.ok (o.of g) ≡ true)
          [ inl e ↦ k.out_open g e c | inr e ↦ e.has_open c ]);
      out_first = λ g h. first_stays o s t g m.fewer (elim (m.puts_out g h) as (λ _. IsClientFirst o s g)
          [ inl e ↦ k.out_first g e | inr e ↦ e.first ]);
      out_live = m.out_live;
      sent_taken = λ g h. elim (m.sends g h) as (λ _. 0 < g × g ≤ o.taken) [ inl e ↦ k.sent_taken g e | inr e ↦ (e.above, e.within) ];
      sent_open = λ g h c. m.ok_stays (o.of g) (elim (m.sends g h) as (λ _. s.ok (o.of g) ≡ true)
          [ inl e ↦ k.sent_open g e c | inr e ↦ e.has_open c ]);
      sent_first = λ g h. first_stays o s t g m.fewer (elim (m.sends g h) as (λ _. IsClientFirst o s g)
          [ inl e ↦ k.sent_first g e | inr e ↦ e.first ]);
      settled_first = moved_settled o s t k m;
      gone_settled = m.gone;
    }
