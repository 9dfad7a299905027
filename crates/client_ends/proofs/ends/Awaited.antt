-- The requests that wait: one more, and one less.
use Rattle.std.proofs.Common.{◌≡◌, ℕ, ◌==◌, Bool, true, false, not, cond, if◌then◌else◌, List, [], ◌∷◌, ◌++◌, ◌+◌, ◌<◌}
use Rattle.std.proofs.Common.{length, take, get_or}
use Rattle.std.proofs.Common.{filter, Option, Some, None, option_map, refl, sym, ap, ◌∙◌, arith}
use Rattle.std.proofs.lemmas.Bool.Decides.{nat_tests}
use Rattle.std.proofs.lemmas.List.{take_more}
use Rattle.spec_exchange.specs.Network.{Token}
use Rattle.client_ends.specs.declared.ends.line.Outstanding.{Outstanding}
use Rattle.client_ends.specs.ends.Shown.{token_of, end_later, awaited_in}

-- what one request is for under an id
abbrev pub one_for : Outstanding → ℕ → Option Token
one_for o id = if id == o.id then Some (token_of o.token) else None

-- ---- one more

by_test : (b : Bool) (t : Token) (rest other : Option Token)
    → end_later (if b then Some t else rest) other ≡ (if b then Some t else end_later rest other)
by_test true t rest other = refl
by_test false t rest other = refl

pub awaited_more : (os : List Outstanding) (o : Outstanding) (id : ℕ)
    → awaited_in (os ++ o ∷ []) id ≡ (if id == o.id then Some (token_of o.token) else awaited_in os id)
awaited_more [] o id = refl
awaited_more (p ∷ os) o id =
    ap (λ (t : Option Token). end_later t (one_for p id)) (awaited_more os o id)
    ∙ by_test (id == o.id) (token_of o.token) (awaited_in os id) (one_for p id)

-- ---- the search for the last one: what stands in front of a place, and at it

in_front : (os : List Outstanding) (i : ℕ) (d : Outstanding) (id : ℕ) → i < length os
    → awaited_in (take (i + 1) os) id
    ≡ (if id == (get_or os i d).id then Some (token_of (get_or os i d).token) else awaited_in (take i os) id)
in_front os i d id h =
    ap (λ (xs : List Outstanding). awaited_in xs id) (take_more os i d h) ∙ awaited_more (take i os) (get_or os i d) id

is_same : (n k : ℕ) → n ≡ k → (n == k) ≡ true
is_same n k e = grind arith

is_other : (n k : ℕ) → (n ≡ k → ⊥) → (n == k) ≡ false
is_other n k h = grind (arith, nat_tests)

pub met : (os : List Outstanding) (i : ℕ) (d : Outstanding) (id : ℕ) (found : Option ℕ) → i < length os → id ≡ (get_or os i d).id
    → found ≡ Some (get_or os i d).token → option_map token_of found ≡ awaited_in (take (i + 1) os) id
met os i d id found h same e =
    ap (λ (o : Option ℕ). option_map token_of o) e
    ∙ sym (in_front os i d id h
    ∙ ap (λ (b : Bool). if b then Some (token_of (get_or os i d).token) else awaited_in (take i os) id)
    (is_same id (get_or os i d).id same))

pub passed : (os : List Outstanding) (i : ℕ) (d : Outstanding) (id : ℕ) (old found : Option ℕ) → i < length os
    → (id ≡ (get_or os i d).id → ⊥) → found ≡ old → option_map token_of old ≡ awaited_in (take i os) id
    → option_map token_of found ≡ awaited_in (take (i + 1) os) id
passed os i d id old found h other e before =
    ap (λ (o : Option ℕ). option_map token_of o) e
    ∙ (before ∙ sym (in_front os i d id h
    ∙ ap (λ (b : Bool). if b then Some (token_of (get_or os i d).token) else awaited_in (take i os) id)
    (is_other id (get_or os i d).id other)))

-- ---- one less

none_behind : (t : Option Token) → end_later t None ≡ t
none_behind None = refl
none_behind (Some t) = refl

-- the one in front goes: under its own id nothing is left, and under another it told nothing
goes : (here same : Bool) (t : Token) (rest : Option Token) → (same ≡ true → here ≡ true)
    → (if here then None else rest) ≡ (if here then None else end_later rest (if same then Some t else None))
goes true same t rest h = refl
goes false true t rest h = absurd (let e : false ≡ true = h refl in cc)
goes false false t rest h = sym (none_behind rest)

-- it stays
stays : (here same : Bool) (t : Token) (rest : Option Token) → (here ≡ true → same ≡ false)
    → end_later (if here then None else rest) (if same then Some t else None)
    ≡ (if here then None else end_later rest (if same then Some t else None))
stays false same t rest h = refl
stays true false t rest h = refl
stays true true t rest h = absurd (let e : true ≡ false = h refl in cc)

not_both : (id at k : ℕ) → (at == k) ≡ false → (id == k) ≡ true → (id == at) ≡ false
not_both id at k apart e = grind (arith, nat_tests)

is_here : (id at k : ℕ) → (at == k) ≡ true → (id == at) ≡ true → (id == k) ≡ true
is_here id at k same e = grind (arith, nat_tests)

left : (b : Bool) (o : Outstanding) (os : List Outstanding) (k id : ℕ) → (o.id == k) ≡ b
    → awaited_in (filter (λ p. not (p.id == k)) os) id ≡ (if id == k then None else awaited_in os id)
    → awaited_in (cond (not b) (o ∷ filter (λ p. not (p.id == k)) os) (filter (λ p. not (p.id == k)) os)) id
    ≡ (if id == k then None else awaited_in (o ∷ os) id)
left true o os k id e rest =
    rest ∙ goes (id == k) (id == o.id) (token_of o.token) (awaited_in os id) (λ same. is_here id o.id k e same)
left false o os k id e rest =
    ap (λ (t : Option Token). end_later t (one_for o id)) rest
    ∙ stays (id == k) (id == o.id) (token_of o.token) (awaited_in os id) (λ here. not_both id o.id k e here)

nothing : (b : Bool) (t : Option Token) → t ≡ None → t ≡ (if b then None else t)
nothing true t e = e
nothing false t e = refl

pub awaited_less : (os : List Outstanding) (k id : ℕ)
    → awaited_in (filter (λ p. not (p.id == k)) os) id ≡ (if id == k then None else awaited_in os id)
awaited_less [] k id = nothing (id == k) None refl
awaited_less (o ∷ os) k id = left (o.id == k) o os k id refl (awaited_less os k id)
