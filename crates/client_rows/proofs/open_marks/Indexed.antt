-- The table of bytes behind one operation more, behind an end or a close, and behind a settling.
use Rattle.std.proofs.Common.{◌≡◌, ℕ, ◌+◌, ◌<◌, ◌≤◌, ◌^◌, Bool, true, false, if◌then◌else◌, ap, sym, ◌∙◌}
use Rattle.std.proofs.Common.{arith, subst, ◌⊎◌, inl, inr}
use Rattle.base_lists.specs.range_index.Tops.{Covers, Forgets, is_in}
use Rattle.client_rows.specs.open_marks.Marks.{Has, IsMarkIndexed}

below_or_not : (i n : ℕ) → (i < n) ⊎ (n ≤ i)
below_or_not i n = grind arith

ways : (x y : ℕ) → (x ≡ y) ⊎ (x ≡ y → ⊥)
ways x y = grind arith

three : (x y : ℕ) → (x < y) ⊎ ((x ≡ y) ⊎ (y < x))
three x y = grind arith

smaller : (h n : ℕ) → h < n + 1 → (h ≡ n → ⊥) → h < n
smaller h n l q =
    elim (three h n) as (λ _. h < n) [ inl k ↦ k | inr (inl e) ↦ absurd (q e) | inr (inr k) ↦ absurd (omega arith) ]

clash : (b : Bool) → b ≡ true → b ≡ false → ⊥
clash b h k = absurd (cc)

in_range : (p n x : ℕ) → p ≤ x → x < p + n → is_in p n x ≡ true
in_range p n x a b = grind (arith, a, b)

before_range : (p n x : ℕ) → x < p → is_in p n x ≡ false
before_range p n x l = grind (arith, l)

behind_range : (p n x : ℕ) → p + n ≤ x → is_in p n x ≡ false
behind_range p n x l = grind (arith, l)

in_or_not : (p n x : ℕ) → ((p ≤ x) × (x < p + n) × (is_in p n x ≡ true)) ⊎ (is_in p n x ≡ false)
in_or_not p n x =
    elim (below_or_not x p) as (λ _. ((p ≤ x) × (x < p + n) × (is_in p n x ≡ true)) ⊎ (is_in p n x ≡ false)) [
      | inl l ↦ inr (before_range p n x l)
      | inr a ↦ (
          elim (below_or_not x (p + n)) as (λ _. ((p ≤ x) × (x < p + n) × (is_in p n x ≡ true)) ⊎ (is_in p n x ≡ false)) [
            | inl b ↦ inl (a, b, in_range p n x a b)
            | inr l ↦ inr (behind_range p n x l)
          ]
          )
    ]

by_test : (b : Bool) (m n : ℕ) → b ≡ true → (if b then m else n) ≡ m
by_test b m n e = ap (λ (t : Bool). if t then m else n) e

by_other : (b : Bool) (m n : ℕ) → b ≡ false → (if b then m else n) ≡ n
by_other b m n e = ap (λ (t : Bool). if t then m else n) e

module _ (o : ℕ → ℕ) (such : ℕ → Bool) (at size : ℕ → ℕ) (u : ℕ → Bool) (create n clear : ℕ) (top : ℕ → ℕ) where
  -- one more, which isn't such a one of this open
  pub indexed_less : ((o n ≡ create → such n ≡ false)) → IsMarkIndexed o such at size u create n clear top
      → IsMarkIndexed o such at size u create (n + 1) clear top
  indexed_less apart i =
      record {
        below = λ x f p. (let l = i.below x f p in omega arith);
        own = i.own;
        is = i.is;
        has = i.has;
        kept = λ h x f c l a e w b. (
            elim (ways h n) as (λ _. (top x ≡ h) ⊎ (h < top x)) [
              | inl q ↦ absurd (clash (such h) e (ap such q ∙ apart (ap o (sym q) ∙ a)))
              | inr q ↦ i.kept h x f c (smaller h n l q) a e w b
            ]
            );
      }

  -- one more, which covers its bytes last
  pub indexed_more : (top2 : ℕ → ℕ) → o n ≡ create → such n ≡ true → Covers top top2 (at n) (size n) n
      → IsMarkIndexed o such at size u create n clear top → IsMarkIndexed o such at size u create (n + 1) clear top2
  indexed_more top2 own s c i =
      record {
        below = λ x f p. (
            elim (in_or_not (at n) (size n) x) as (λ _. top2 x < n + 1) [
              | inl q ↦ (let e = here x f q.2 in omega arith)
              | inr q ↦ (let e = there x f q in let l = i.below x f (subst (λ z. 0 < z) e p) in omega arith)
            ]
            );
        own = λ x f p. (
            elim (in_or_not (at n) (size n) x) as (λ _. o (top2 x) ≡ create) [
              | inl q ↦ ap o (here x f q.2) ∙ own
              | inr q ↦ ap o (there x f q) ∙ i.own x f (subst (λ z. 0 < z) (there x f q) p)
            ]
            );
        is = λ x f p. (
            elim (in_or_not (at n) (size n) x) as (λ _. such (top2 x) ≡ true) [
              | inl q ↦ ap such (here x f q.2) ∙ s
              | inr q ↦ ap such (there x f q) ∙ i.is x f (subst (λ z. 0 < z) (there x f q) p)
            ]
            );
        has = λ x f p. (
            elim (in_or_not (at n) (size n) x) as (λ _. Has at size (top2 x) x) [
              | inl q ↦ subst (λ z. Has at size z x) (sym (here x f q.2)) (record { behind = q.0; within = q.1 })
              | inr q ↦ subst (λ z. Has at size z x) (sym (there x f q)) (i.has x f (subst (λ z. 0 < z) (there x f q) p))
            ]
            );
        kept = λ h x f d l a e w b. (
            elim (in_or_not (at n) (size n) x) as (λ _. (top2 x ≡ h) ⊎ (h < top2 x)) [
              | inl q ↦ (
                  let v = here x f q.2 in
                  elim (ways h n) as (λ _. (top2 x ≡ h) ⊎ (h < top2 x)) [
                    | inl z ↦ inl (v ∙ sym z)
                    | inr z ↦ inr
                        (subst (λ y. h < y) (sym v) (smaller h n l z))
                  ]
                  )
              | inr q ↦ (
                  elim (ways h n) as (λ _. (top2 x ≡ h) ⊎ (h < top2 x)) [
                    | inl z ↦ absurd (clash (is_in (at n) (size n) x) (in_range (at n) (size n) x
                        (subst (λ y. at y ≤ x) z b.behind) (subst (λ y. x < at y + size y) z b.within)) q)
                    | inr z ↦ subst (λ y. (y ≡ h) ⊎ (h < y)) (sym (there x f q)) (i.kept h x f d (smaller h n l z) a e w b)
                  ]
                  )
            ]
            );
      }
    where
      here : (x : ℕ) → x < 2 ^ 64 → is_in (at n) (size n) x ≡ true → top2 x ≡ n
      here x f q = c x f ∙ by_test (is_in (at n) (size n) x) n (top x) q

      there : (x : ℕ) → x < 2 ^ 64 → is_in (at n) (size n) x ≡ false → top2 x ≡ top x
      there x f q = c x f ∙ by_other (is_in (at n) (size n) x) n (top x) q

  -- all below n is behind an end or a close
  pub indexed_cleared : (top2 : ℕ → ℕ) (m : ℕ) → n ≤ m + 1 → ((x : ℕ) → top2 x ≡ 0) → IsMarkIndexed o such at size u create n m top2
  indexed_cleared top2 m below z =
      record {
        below = λ x f p. absurd (let e = z x in omega arith);
        own = λ x f p. absurd (let e = z x in omega arith);
        is = λ x f p. absurd (let e = z x in omega arith);
        has = λ x f p. absurd (let e = z x in omega arith);
        kept = λ h x f d l a e w b. absurd (omega arith);
      }

  -- one settles that waits for nothing, and may leave the table
  pub indexed_settled : (u2 : ℕ → Bool) (top2 : ℕ → ℕ) (g : ℕ) → ((h : ℕ) → u2 h ≡ true → u h ≡ true) → u2 g ≡ false
      → ((h x : ℕ) → h < g → o h ≡ create → such h ≡ true → Has at size h x → x < 2 ^ 64 → top x ≡ g → u2 h ≡ false)
      → Forgets top top2 g → IsMarkIndexed o such at size u create n clear top → IsMarkIndexed o such at size u2 create n clear top2
  indexed_settled u2 top2 g less gone first t i =
      record {
        below = λ x f p. subst (λ z. z < n) (sym (same x f p)) (i.below x f (old x f p));
        own = λ x f p. ap o (same x f p) ∙ i.own x f (old x f p);
        is = λ x f p. ap such (same x f p) ∙ i.is x f (old x f p);
        has = λ x f p. subst (λ z. Has at size z x) (sym (same x f p)) (i.has x f (old x f p));
        kept = λ h x f d l a e w b. (
            elim (t x f) as (λ _. (top2 x ≡ h) ⊎ (h < top2 x)) [
              | inl q ↦ subst (λ y. (y ≡ h) ⊎ (h < y)) (sym q) (i.kept h x f d l a e (less h w) b)
              | inr q ↦ absurd (
                  elim (i.kept h x f d l a e (less h w) b) as (λ _. ⊥) [
                    | inl z ↦ clash (u2 h) w (ap u2 (sym z ∙ q.0) ∙ gone)
                    | inr z ↦ clash (u2 h) w (first h x (subst (λ y. h < y) q.0 z) a e b f q.0)
                  ])
            ]
            );
      }
    where
      same : (x : ℕ) → x < 2 ^ 64 → 0 < top2 x → top2 x ≡ top x
      same x f p = elim (t x f) as (λ _. top2 x ≡ top x) [ inl q ↦ q | inr q ↦ absurd (let e = q.1 in omega arith) ]

      old : (x : ℕ) → x < 2 ^ 64 → 0 < top2 x → 0 < top x
      old x f p = subst (λ z. 0 < z) (same x f p) p
