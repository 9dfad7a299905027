-- Tokens in code.
use Rattle.std.proofs.Common.{◌≡◌, ℕ, ◌-◌, ◌/◌, ◌%◌, ◌==◌, ◌≤◌, ◌<◌, ◌&&◌, not, Bool, true, false, if◌then◌else◌, refl}
use Rattle.std.proofs.Common.{sym, ap, subst, ◌∙◌, arith}
use Rattle.std.proofs.lemmas.Bool.Decides.{nat_tests}
use Rattle.spec_exchange.specs.Network.{ForAttach, ForDialog, ForOp, is_own, op_of}
use Rattle.client_ends.specs.ends.Shown.{token_of}
use Rattle.world_ends.specs.declared.world.Places.{Places}
use Rattle.world_steps.specs.serving.Noted.{NotesOne}

own_by : (a b : Bool) (n : ℕ) → is_own (if a then ForDialog else if b then ForOp n else ForAttach n) ≡ (not a && b)
own_by true b n = refl
own_by false true n = refl
own_by false false n = refl

pub own_is : (token : ℕ) → is_own (token_of token) ≡ (not (token == 0) && (token % 2 == 0))
own_is token = own_by (token == 0) (token % 2 == 0) (token / 2)

not_zero : (n : ℕ) → (n ≡ 0 → ⊥) → (n == 0) ≡ false
not_zero n h = grind (arith, nat_tests)

pub own_then : (token : ℕ) → (token ≡ 0 → ⊥) → (token % 2 == 0) ≡ is_own (token_of token)
own_then token some = sym (own_is token ∙ ap (λ (b : Bool). not b && (token % 2 == 0)) (not_zero token some))

pub own_else : (token : ℕ) → token ≡ 0 → not (token == 0) ≡ is_own (token_of token)
own_else token none = ap (λ (n : ℕ). not (n == 0)) none ∙ sym (ap (λ (n : ℕ). is_own (token_of n)) none)

number_by : (a b : Bool) (n : ℕ) → (a ≡ true → n ≡ 0) → op_of (if a then ForDialog else if b then ForOp n else ForAttach n) ≡ n
number_by true b n e = sym (e refl)
number_by false true n e = refl
number_by false false n e = refl

half_none : (token : ℕ) → (token == 0) ≡ true → token / 2 ≡ 0
half_none token e = (let z : token ≡ 0 = grind (arith, nat_tests) in omega (arith, z))

-- twice its number, or one more
pub number_is : (token : ℕ) → op_of (token_of token) ≡ token / 2
number_is token = number_by (token == 0) (token % 2 == 0) (token / 2) (half_none token)

front_true : (a b : Bool) → (a && b) ≡ true → a ≡ true
front_true true b e = refl
front_true false b e = absurd (cc)

back_true : (a b : Bool) → (a && b) ≡ true → b ≡ true
back_true true b e = e
back_true false b e = absurd (cc)

above_none : (token : ℕ) → not (token == 0) ≡ true → (token % 2 == 0) ≡ true → 0 < token / 2
above_none token e f = (let z : (token ≡ 0 → ⊥) = (λ d. grind (arith, nat_tests)) in let m : token % 2
    ≡ 0 = grind (arith, nat_tests) in omega (arith, z, m))

-- one with an own request has a number
pub own_number : (token : ℕ) → is_own (token_of token) ≡ true → 0 < token / 2
own_number token e =
    let both = sym (own_is token) ∙ e in
    above_none token (front_true (not (token == 0)) (token % 2 == 0) both) (back_true (not (token == 0)) (token % 2 == 0) both)

-- ---- what is noted of a token

with_makes : (x y : Places) (n : ℕ) (acts makes create : Bool) → (acts ≡ true → makes ≡ create) → NotesOne x n acts makes y
    → NotesOne x n acts create y
with_makes x y n true makes create e r = subst (λ (b : Bool). NotesOne x n true b y) (e refl) r
with_makes x y n false makes create e r = record { served = r.served; marks = r.marks }

pub notes_at : (x y : Places) (token number : ℕ) (acts makes acted create : Bool) → number ≡ token / 2
    → acts ≡ (is_own (token_of token) && acted) → (0 < number → makes ≡ create) → NotesOne x number acts makes y
    → NotesOne x (op_of (token_of token)) (is_own (token_of token) && acted) create y
notes_at x y token number acts makes acted create is own made r =
    let above : (is_own (token_of token) && acted) ≡ true → makes ≡ create =
    (λ e. made (subst (λ (n : ℕ). 0 < n) (sym is) (own_number token (front_true (is_own (token_of token)) acted e)))) in
    with_makes x y (op_of (token_of token)) (is_own (token_of token) && acted) makes create above
    (subst (λ (b : Bool). NotesOne x (op_of (token_of token)) b makes y) own
    (subst (λ (n : ℕ). NotesOne x n acts makes y) (is ∙ sym (number_is token)) r))

-- an operation that was taken is there
pub no_such : (n taken count : ℕ) (create : Bool) → count ≡ taken → 0 < n → n ≤ taken → (n - 1 < count → ⊥) → false ≡ create
no_such n taken count create is above le past = absurd (past (omega (arith, is, above, le)))
