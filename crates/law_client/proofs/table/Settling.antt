-- A reply settles an operation, and with it what never went out of an open that is gone then.
use Rattle.std.proofs.Common.{◌≡◌, ℕ, ◌<◌, ◌≤◌, true, false, arith, ◌⊎◌, inl, inr, sym, ◌∙◌, ap, subst}
use Rattle.law_client.specs.table.Columns.{Ops, Standing, IsClientFirst, ClientAllSettled}
use Rattle.law_client.specs.table.Kept.{Ordered, TableStands}
use Rattle.law_client.proofs.table.Moves.{moved, true_or_false, stays, clash, first_stays, whole_first}

-- g settles
pub record Settles (o : Ops) (s t : Standing) (g : ℕ) : Type 0 where
  pub there : t.unsettled g ≡ false
  pub fewer : (x : ℕ) → t.unsettled x ≡ true → s.unsettled x ≡ true
  -- any other that settles is of its open, which is gone
  pub given_up : (x : ℕ) → (x ≡ g → ⊥) → t.unsettled x ≡ false → s.unsettled x ≡ true → (o.create x ≡ false)
      × (o.of x ≡ o.of g) × (t.gone (o.of g) ≡ true)
  pub ok_stays : (x : ℕ) → s.ok x ≡ true → t.ok x ≡ true
  pub ok_settled : (x : ℕ) → t.ok x ≡ true → t.unsettled x ≡ false
  -- a create that gives its open is Ok
  pub gives : o.create g ≡ true → t.gone g ≡ false → t.ok g ≡ true
  pub sent : (x : ℕ) → t.sent x ≡ true → s.sent x ≡ true
  pub out : (x : ℕ) → t.out x ≡ true → s.out x ≡ true × (x ≡ g → ⊥)
  pub live : s.live ≡ true → t.live ≡ true
  pub gone_other : (x : ℕ) → (x ≡ o.of g → ⊥) → o.create x ≡ true → t.gone x ≡ true → s.gone x ≡ true
  -- where its open is gone none of it stays behind
  pub whole : t.gone (o.of g) ≡ true → ClientAllSettled o t (o.of g)
  pub none_out : (x : ℕ) → (x ≡ g → ⊥) → o.create x ≡ false → o.of x ≡ o.of g → t.gone (o.of g) ≡ true → s.out x ≡ true → ⊥

same_or_other : (x y : ℕ) → (x ≡ y) ⊎ (x ≡ y → ⊥)
same_or_other x y = grind arith

out_stays : (o : Ops) (s t : Standing) (g : ℕ) → TableStands o s → Settles o s t g → (x : ℕ) → t.out x ≡ true → t.unsettled x ≡ true
out_stays o s t g k f x h =
    elim (true_or_false (t.unsettled x)) as (λ _. t.unsettled x ≡ true) [
      | inl e ↦ e
      | inr e ↦ (
          let p = f.out x h in
          let a = f.given_up x p.1 e (k.out_unsettled x p.0) in
          absurd (f.none_out x p.1 a.0 a.1 a.2 p.0)
          )
    ]

open_stays : (o : Ops) (s t : Standing) (g : ℕ) → Ordered o → TableStands o s → Settles o s t g → (x : ℕ) → 0 < x
    → x ≤ o.taken → o.create x ≡ false → t.unsettled x ≡ true → t.unsettled (o.of x) ≡ false → s.unsettled (o.of x)
    ≡ true → t.ok (o.of x) ≡ true
open_stays o s t g i k f x above within other h settled before =
    let w = i.owned x above within other in
    elim (same_or_other (o.of x) g) [
      | inl e ↦ (
          let c : o.create g ≡ true = ap (λ n. o.create n) (sym e) ∙ w.2 in
          let own : o.of g ≡ g = i.itself g c in
          elim (true_or_false (t.gone g)) [
            | inl q ↦ absurd (clash (t.unsettled x) h (f.whole (ap (λ n. t.gone n) own ∙ q) x above within other (e ∙ sym own)))
            | inr q ↦ ap (λ n. t.ok n) e ∙ f.gives c q
          ]
          )
      | inr e ↦ absurd (clash (o.create (o.of x)) w.2 (f.given_up (o.of x) e settled before).0)
    ]

settled_waits : (o : Ops) (s t : Standing) (g : ℕ) → Ordered o → TableStands o s → s.out g ≡ true → Settles o s t g → (x : ℕ)
    → 0 < x → x ≤ o.taken → t.unsettled x ≡ false → s.unsettled x ≡ true → IsClientFirst o t x
settled_waits o s t g i k out f x above within h before =
    elim (same_or_other x g) [
      | inl e ↦ first_stays o s t x f.fewer (subst (λ n. IsClientFirst o s n) (sym e) (k.out_first g out))
      | inr e ↦ (let a = f.given_up x e h before in whole_first o t x i within
          (subst (λ n. ClientAllSettled o t n) (sym a.1) (f.whole a.2)))
    ]

gone_is_settled : (o : Ops) (s t : Standing) (g : ℕ) → Ordered o → TableStands o s → Settles o s t g → (x : ℕ) → 0 < x
    → x ≤ o.taken → o.create x ≡ false → t.gone (o.of x) ≡ true → t.unsettled x ≡ false
gone_is_settled o s t g i k f x above within other gone =
    elim (same_or_other (o.of x) (o.of g)) [
      | inl e ↦ f.whole (ap (λ n. t.gone n) (sym e) ∙ gone) x above within other e
      | inr e ↦ stays (s.unsettled x) (t.unsettled x) (f.fewer x)
          (k.gone_settled x above within other (f.gone_other (o.of x) e (i.owned x above within other).2 gone))
    ]

pub settled_stands : (o : Ops) (s t : Standing) (g : ℕ) → Ordered o → TableStands o s → s.out g ≡ true → Settles o s t g → TableStands o t
settled_stands o s t g i k out f =
    moved o s t k (record {
      fewer = f.fewer;
      ok_stays = f.ok_stays;
      ok_settled = f.ok_settled;
      opens = open_stays o s t g i k f;
      sends = λ x h. inl (f.sent x h);
      puts_out = λ x h. inl (f.out x h).0;
      out_unsettled = out_stays o s t g k f;
      out_live = λ x h. f.live (k.out_live x (f.out x h).0);
      settles = settled_waits o s t g i k out f;
      gone = gone_is_settled o s t g i k f;
    })

-- ---- which of an open go with it

-- a create that settles otherwise than Ok: none of its open went out
pub create_whole : (o : Ops) (s t : Standing) (g : ℕ) → TableStands o s → s.out g ≡ true → o.of g ≡ g
    → ((x : ℕ) → t.unsettled x ≡ true → s.unsettled x ≡ true)
    → ((x : ℕ) → o.create x ≡ false → o.of x ≡ g → s.sent x ≡ false → t.unsettled x ≡ false)
    → ClientAllSettled o t (o.of g)
create_whole o s t g k out own fewer gives x above within other same =
    let e : o.of x ≡ g = same ∙ own in
    elim (true_or_false (s.sent x)) [
      | inl h ↦ absurd (clash (s.unsettled g) (k.out_unsettled g out) (ap (λ n. s.unsettled n) (sym e)
          ∙ k.ok_settled (o.of x) (k.sent_open x h other)))
      | inr h ↦ gives x other e h
    ]

pub create_none_out : (o : Ops) (s : Standing) (g : ℕ) → TableStands o s → s.out g ≡ true → o.of g ≡ g → (x : ℕ) → o.create x
    ≡ false → o.of x ≡ o.of g → s.out x ≡ true → ⊥
create_none_out o s g k out own x other same h =
    clash (s.unsettled g) (k.out_unsettled g out) (ap (λ n. s.unsettled n) (sym (same ∙ own))
    ∙ k.ok_settled (o.of x) (k.out_open x h other))

three : (x g : ℕ) → (x < g) ⊎ ((x ≡ g) ⊎ (g < x))
three x g = grind arith

-- a close that settles: the lower ones are settled, and none of the higher ones went out
pub close_whole : (o : Ops) (s t : Standing) (g : ℕ) → TableStands o s → s.out g ≡ true
    → ((x : ℕ) → o.create x ≡ false → o.holds x g ≡ true)
    → ((x : ℕ) → o.holds g x ≡ true)
    → t.unsettled g ≡ false
    → ((x : ℕ) → t.unsettled x ≡ true → s.unsettled x ≡ true)
    → ((x : ℕ) → o.create x ≡ false → o.of x ≡ o.of g → s.sent x ≡ false → t.unsettled x ≡ false)
    → ClientAllSettled o t (o.of g)
close_whole o s t g k out under over there fewer gives x above within other same =
    elim (three x g) [
      | inl l ↦ stays (s.unsettled x) (t.unsettled x) (fewer x) (k.out_first g out x above l same (under x other))
      | inr (inl e) ↦ ap (λ n. t.unsettled n) e ∙ there
      | inr (inr l) ↦ (
          elim (true_or_false (s.sent x)) [
            | inl h ↦ absurd (clash (s.unsettled g) (k.out_unsettled g out) (k.sent_first x h g (k.out_taken g out).0 l
                (sym same) (over x)))
            | inr h ↦ gives x other same h
          ]
          )
    ]

pub close_none_out : (o : Ops) (s : Standing) (g : ℕ) → TableStands o s → s.out g ≡ true
    → ((x : ℕ) → o.create x ≡ false → o.holds x g ≡ true)
    → ((x : ℕ) → o.holds g x ≡ true)
    → (x : ℕ) → (x ≡ g → ⊥) → o.create x ≡ false → o.of x ≡ o.of g → s.out x ≡ true → ⊥
close_none_out o s g k out under over x apart other same h =
    elim (three x g) as (λ _. ⊥) [
      | inl l ↦ clash (s.unsettled x) (k.out_unsettled x h) (k.out_first g out x (k.out_taken x h).0 l same (under x other))
      | inr (inl e) ↦ apart e
      | inr (inr l) ↦ clash (s.unsettled g) (k.out_unsettled g out) (k.out_first x h g (k.out_taken g out).0 l (sym same) (over x))
    ]
