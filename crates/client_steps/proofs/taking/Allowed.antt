-- Whether an operation may be taken, by the tests of the code.
use Rattle.std.proofs.Common.{◌≡◌, ℕ, ◌+◌, ◌<◌, ◌≤◌, ◌==◌, ◌&&◌, ◌||◌, nat_lt, Bool, true, false, refl, ap, sym, ◌∙◌, arith}
use Rattle.spec_exchange.specs.Operations.{Op, create_of, is_create, keeps_limits}
use Rattle.spec_exchange.specs.Client.{Client, may_take}

pub clash : (b : Bool) → b ≡ true → b ≡ false → ⊥
clash true e f = absurd (cc)
clash false e f = absurd (cc)

is_not : (a b : ℕ) → (a ≡ b → ⊥) → (a == b) ≡ false
is_not a b n = grind arith

is_same : (a b : ℕ) → a ≡ b → (a == b) ≡ true
is_same a b e = grind arith

not_less : (a b : ℕ) → b ≤ a → nat_lt a b ≡ false
not_less a b l = grind arith

less : (a b : ℕ) → nat_lt a b ≡ true → a < b
less a b e = grind arith

-- ---- the create's number

pub none_named : (create : ℕ) (rest : Bool) → create ≡ 0 → false ≡ (nat_lt 0 create && rest)
none_named create rest e = ap (λ b. b && rest) (sym (ap (λ n. nat_lt 0 n) e))

pub not_before : (create number : ℕ) (a x : Bool) → number ≤ create → false ≡ (a && (nat_lt create number && x))
not_before create number true x l = ap (λ b. b && x) (sym (not_less create number l))
not_before create number false x l = refl

pub both_hold : (create number : ℕ) (x : Bool) → 0 < create → create < number → x ≡ (nat_lt 0 create && (nat_lt create number && x))
both_hold create number x p l = by (nat_lt 0 create) (nat_lt create number) (more 0 create p) (more create number l)
  where
    more : (a b : ℕ) → a < b → nat_lt a b ≡ true
    more a b l = grind arith

    by : (a b : Bool) → a ≡ true → b ≡ true → x ≡ (a && (b && x))
    by true true e f = refl
    by true false e f = absurd (cc)
    by false b e f = absurd (cc)

-- and what such a number tells
named_by : (a b x : Bool) → (a && (b && x)) ≡ true → (a ≡ true) × (b ≡ true) × (x ≡ true)
named_by true true true e = (refl, refl, refl)
named_by true true false e = absurd (cc)
named_by true false x e = absurd (cc)
named_by false b x e = absurd (cc)

less_row : (create number n : ℕ) → 0 < create → create < number → (1 < number → number ≤ n) → create < n
less_row create number n p l h = let w = h (omega arith) in omega arith

pub made_so : (create number n : ℕ) (x : Bool) → (nat_lt 0 create && (nat_lt create number && x)) ≡ true → (1 < number → number ≤ n)
    → (0 < create) × (create < n) × (x ≡ true)
made_so create number n x e h =
    let w = named_by (nat_lt 0 create) (nat_lt create number) x e in
    let p = less 0 create w.0 in
    (p, less_row create number n p (less create number w.1) h, w.2)

-- ---- the whole test

pub other_number : (number n : ℕ) (rest : Bool) → (number ≡ n + 1 → ⊥) → false ≡ ((number == n + 1) && rest)
other_number number n rest h = ap (λ b. b && rest) (sym (is_not number (n + 1) h))

pub past_limits : (x k rest : Bool) → k ≡ false → false ≡ (x && (k && rest))
past_limits true k rest e = ap (λ b. b && rest) (sym e)
past_limits false k rest e = refl

same_where : (a b x y : Bool) → (a ≡ true → b ≡ true → x ≡ y) → (a && (b && x)) ≡ (a && (b && y))
same_where true true x y h = h refl refl
same_where true false x y h = refl
same_where false b x y h = refl

module _ (c : Client) (number : ℕ) (op : Op) (next : number ≡ c.taken + 1) (kept : keeps_limits op ≡ true) where
  pub of_create : (create : ℕ) (is : Bool) → is_create op ≡ false → create_of number op ≡ create
      → (0 < create → create < number → is ≡ is_create (c.op create))
      → (nat_lt 0 create && (nat_lt create number && is)) ≡ may_take c number op
  of_create create is e f h =
      same_where (nat_lt 0 create) (nat_lt create number) is (is_create (c.op create))
      (λ p l. h (less 0 create p) (less create number l))
      ∙ ap (λ x. nat_lt 0 x && (nat_lt x number && is_create (c.op x))) (sym f)
      ∙ ap (λ b. b || (nat_lt 0 (create_of number op) && (nat_lt (create_of number op) number && is_create (c.op (create_of number op)))))
      (sym e)
      ∙ ap (λ b. b && (is_create op || (nat_lt 0 (create_of number op)
      && (nat_lt (create_of number op) number && is_create (c.op (create_of number op)))))) (sym kept)
      ∙ ap (λ b. b && (keeps_limits op && (is_create op || (nat_lt 0 (create_of number op)
      && (nat_lt (create_of number op) number && is_create (c.op (create_of number op))))))) (sym (is_same number (c.taken + 1) next))

  pub a_create : is_create op ≡ true → true ≡ may_take c number op
  a_create e =
      ap (λ b. b || (nat_lt 0 (create_of number op) && (nat_lt (create_of number op) number && is_create (c.op (create_of number op)))))
      (sym e)
      ∙ ap (λ b. b && (is_create op || (nat_lt 0 (create_of number op)
      && (nat_lt (create_of number op) number && is_create (c.op (create_of number op)))))) (sym kept)
      ∙ ap (λ b. b && (keeps_limits op && (is_create op || (nat_lt 0 (create_of number op)
      && (nat_lt (create_of number op) number && is_create (c.op (create_of number op))))))) (sym (is_same number (c.taken + 1) next))
