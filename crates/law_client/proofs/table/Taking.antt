-- An operation is taken: it is unsettled, or settled where its open is gone.
use Rattle.std.proofs.Common.{◌≡◌, ℕ, ◌+◌, ◌<◌, ◌≤◌, true, false, arith, ◌⊎◌, inl, inr, sym, ◌∙◌, ap, subst}
use Rattle.law_client.specs.table.Columns.{Ops, Standing, IsClientFirst}
use Rattle.law_client.specs.table.Kept.{Ordered, TableStands}
use Rattle.law_client.proofs.table.Moves.{true_or_false, clash}

-- g comes to what was taken, and nothing else changes
pub record Takes (o p : Ops) (s t : Standing) (g : ℕ) : Type 0 where
  pub next : g ≡ o.taken + 1
  pub taken : p.taken ≡ g
  pub create : (x : ℕ) → (x ≡ g → ⊥) → p.create x ≡ o.create x
  pub of : (x : ℕ) → (x ≡ g → ⊥) → p.of x ≡ o.of x
  pub holds : (x y : ℕ) → (x ≡ g → ⊥) → (y ≡ g → ⊥) → p.holds x y ≡ o.holds x y
  pub unsettled : (x : ℕ) → (x ≡ g → ⊥) → t.unsettled x ≡ s.unsettled x
  pub ok : (x : ℕ) → (x ≡ g → ⊥) → t.ok x ≡ s.ok x
  pub not_ok : t.ok g ≡ true → ⊥
  pub sent : (x : ℕ) → t.sent x ≡ s.sent x
  pub out : (x : ℕ) → t.out x ≡ s.out x
  pub live : t.live ≡ s.live
  pub gone : (x : ℕ) → (x ≡ g → ⊥) → t.gone x ≡ s.gone x
  -- it is a create, or of a lower one
  pub ordered : Ordered p
  pub new_open : p.create g ≡ false → t.unsettled g ≡ true → s.unsettled (p.of g) ≡ false → s.ok (p.of g) ≡ true
  pub new_gone : p.create g ≡ false → s.gone (p.of g) ≡ true → t.unsettled g ≡ false
  pub new_settled : t.unsettled g ≡ false → p.create g ≡ false × s.gone (p.of g) ≡ true

apart : (x g n : ℕ) → g ≡ n + 1 → x ≤ n → x ≡ g → ⊥
apart x g n e l h = omega arith

new_or_old : (x g n : ℕ) → g ≡ n + 1 → x ≤ g → (x ≡ g) ⊎ (x ≤ n)
new_or_old x g n e l = grind arith

module _ {o p : Ops} {s t : Standing} {g : ℕ} where
  old : Takes o p s t g → (x : ℕ) → x ≤ o.taken → x ≡ g → ⊥
  old f x l = apart x g o.taken f.next l

  old_first : Ordered o → Takes o p s t g → (x : ℕ) → x ≤ o.taken → IsClientFirst o s x → IsClientFirst p t x
  old_first i f x l first h above below same holds =
      let a = old f x l in
      let b = old f h (omega arith) in
      f.unsettled h b ∙ first h above below (sym (f.of h b) ∙ same ∙ f.of x a) (sym (f.holds h x b a) ∙ holds)

  -- an old operation, and its create
  old_of : Ordered o → Takes o p s t g → (x : ℕ) → 0 < x → x ≤ o.taken → p.create x ≡ false → (p.of x ≡ o.of x)
      × (o.create x ≡ false) × (o.of x ≡ g → ⊥)
  old_of i f x above l other =
      let a = old f x l in
      let c : o.create x ≡ false = sym (f.create x a) ∙ other in
      let w = i.owned x above l c in
      (f.of x a, c, old f (o.of x) (omega arith))

  opened : Ordered o → TableStands o s → Takes o p s t g → (x : ℕ) → 0 < x → x ≤ p.taken → p.create x ≡ false → t.unsettled x
      ≡ true → t.unsettled (p.of x) ≡ false → t.ok (p.of x) ≡ true
  opened i k f x above within other h settled =
      elim (new_or_old x g o.taken f.next (omega (arith, f.taken))) [
        | inl e ↦ (
            let w = f.ordered.owned x above within other in
            let b : p.of x ≡ g → ⊥ = (λ q. omega arith) in
            let q : p.of x ≡ p.of g = ap (λ n. p.of n) e in
            f.ok (p.of x) b ∙ ap (λ n. s.ok n) q
            ∙ f.new_open (ap (λ n. p.create n) (sym e) ∙ other) (ap (λ n. t.unsettled n) (sym e) ∙ h)
            (ap (λ n. s.unsettled n) (sym q) ∙ sym (f.unsettled (p.of x) b) ∙ settled)
            )
        | inr l ↦ (
            let w = old_of i f x above l other in
            let a = old f x l in
            ap (λ n. t.ok n) w.0 ∙ f.ok (o.of x) w.2
            ∙ k.opened x above l w.1 (sym (f.unsettled x a) ∙ h) (sym (f.unsettled (o.of x) w.2)
            ∙ ap (λ n. t.unsettled n) (sym w.0) ∙ settled)
            )
      ]

  new_first : Ordered o → TableStands o s → Takes o p s t g → t.unsettled g ≡ false → IsClientFirst p t g
  new_first i k f h x above below same holds =
      let n = f.new_settled h in
      let l : x ≤ o.taken = omega (arith, f.next) in
      let a = old f x l in
      elim (true_or_false (p.create x)) [
        | inl c ↦ absurd (clash (p.holds x g) holds (f.ordered.passes x g c))
        | inr c ↦ (let w = old_of i f x above l c in f.unsettled x a ∙ k.gone_settled x above l w.1
            (ap (λ m. s.gone m) (sym w.0 ∙ same) ∙ n.1))
      ]

  settled_first : Ordered o → TableStands o s → Takes o p s t g → (x : ℕ) → 0 < x → x ≤ p.taken → t.unsettled x ≡ false
      → IsClientFirst p t x
  settled_first i k f x above within h =
      elim (new_or_old x g o.taken f.next (omega (arith, f.taken))) [
        | inl e ↦ subst (λ n. IsClientFirst p t n) (sym e) (new_first i k f (ap (λ n. t.unsettled n) (sym e) ∙ h))
        | inr l ↦ old_first i f x l (k.settled_first x above l (sym (f.unsettled x (old f x l)) ∙ h))
      ]

  gone_settled : Ordered o → TableStands o s → Takes o p s t g → (x : ℕ) → 0 < x → x ≤ p.taken → p.create x ≡ false
      → t.gone (p.of x) ≡ true → t.unsettled x ≡ false
  gone_settled i k f x above within other gone =
      elim (new_or_old x g o.taken f.next (omega (arith, f.taken))) [
        | inl e ↦ (
            let w = f.ordered.owned x above within other in
            let b : p.of x ≡ g → ⊥ = (λ q. omega arith) in
            let q : p.of x ≡ p.of g = ap (λ n. p.of n) e in
            ap (λ n. t.unsettled n) e ∙ f.new_gone (ap (λ n. p.create n) (sym e) ∙ other) (ap (λ n. s.gone n) (sym q)
            ∙ sym (f.gone (p.of x) b) ∙ gone)
            )
        | inr l ↦ (
            let w = old_of i f x above l other in
            f.unsettled x (old f x l) ∙ k.gone_settled x above l w.1 (sym (f.gone (o.of x) w.2) ∙ ap (λ n. t.gone n) (sym w.0) ∙ gone)
            )
      ]

  pub taken_stands : Ordered o → TableStands o s → Takes o p s t g → TableStands p t
  taken_stands i k f =
      record {
        opened = opened i k f;
        ok_settled = λ x h. (let b : x ≡ g → ⊥ = (λ e. f.not_ok (ap (λ n. t.ok n) (sym e) ∙ h)) in f.unsettled x b
            ∙ k.ok_settled x (sym (f.ok x b) ∙ h));
        out_unsettled = λ x h. (let e = sym (f.out x) ∙ h in f.unsettled x (old f x (k.out_taken x e).1) ∙ k.out_unsettled x e);
        out_taken = λ x h. (let e = k.out_taken x (sym (f.out x) ∙ h) in (e.0, omega (arith, f.taken, f.next)));
        out_open = λ x h c. (let e = sym (f.out x) ∙ h in let n = k.out_taken x e in let w = old_of i f x n.0 n.1 c in
            ap (λ m. t.ok m) w.0 ∙ f.ok (o.of x) w.2 ∙ k.out_open x e w.1);
        out_first = λ x h. (let e = sym (f.out x) ∙ h in old_first i f x (k.out_taken x e).1 (k.out_first x e));
        out_live = λ x h. f.live ∙ k.out_live x (sym (f.out x) ∙ h);
        sent_taken = λ x h. (let e = k.sent_taken x (sym (f.sent x) ∙ h) in (e.0, omega (arith, f.taken, f.next)));
        sent_open = λ x h c. (let e = sym (f.sent x) ∙ h in let n = k.sent_taken x e in let w = old_of i f x n.0 n.1 c
            in ap (λ m. t.ok m) w.0 ∙ f.ok (o.of x) w.2 ∙ k.sent_open x e w.1);
        sent_first = λ x h. (let e = sym (f.sent x) ∙ h in old_first i f x (k.sent_taken x e).1 (k.sent_first x e));
        settled_first = settled_first i k f;
        gone_settled = gone_settled i k f;
      }
