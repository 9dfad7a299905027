-- A request that pays for what it moves is heard.
use Rattle.std.proofs.Common.{◌≡◌, ℕ, ◌+◌, ◌-◌, ◌/◌, ◌≤◌, ◌==◌, Bool, true, false, List, length, refl, sym, subst, arith, eqb-true}
use Rattle.std.specs.Prelude.{max, nat_lt, if◌then◌else◌}
use Rattle.std.proofs.lemmas.Bool.Decides.{nat_tests}
use Rattle.spec_wire.specs.messages.Places.{number}
use Rattle.spec_wire.specs.credits.Ids.{counted}
use Rattle.spec_exchange.specs.Status.{invalid_parameter}
use Rattle.spec_exchange.specs.Commands.{Command, Unreadable}
use Rattle.spec_exchange.specs.Operations.{charge}
use Rattle.spec_commands.specs.Charges.{told_at, payload, is_undercharged, paid_for}

not_more : (ends : Bool) (n : ℕ) → (if ends then 0 else n) ≤ n
not_more true n = omega arith
not_more false n = omega arith

-- what is told is at most what stands there
pub told_most : (m : List ℕ) (at n : ℕ) → number 4 m at ≡ n → told_at m at ≤ n
told_most m at n e = subst (λ v. told_at m at ≤ v) e (not_more (nat_lt (length m) (at + 4)) (number 4 m at))

pub larger_most : (a b n : ℕ) → a ≤ n → b ≤ n → max a b ≤ n
larger_most a b n f g = omega (arith, f, g)

-- a charge grows with its bytes
by_bytes : (none : Bool) (n : ℕ) → (n == 0) ≡ none → (if none then 1 else (n - 1) / 65536 + 1) ≡ (n - 1) / 65536 + 1
by_bytes true n e = subst (λ v. 1 ≡ (v - 1) / 65536 + 1) (sym (eqb-true n 0 e)) refl
by_bytes false n e = refl

charge_is : (n : ℕ) → charge n ≡ (n - 1) / 65536 + 1
charge_is n = by_bytes (n == 0) n refl

pub grows : (p n : ℕ) → p ≤ n → charge p ≤ charge n
grows p n l = omega (arith, l, charge_is p, charge_is n)

not_below : (a b : ℕ) → b ≤ a → nat_lt a b ≡ false
not_below a b l = grind (arith, nat_tests)

enough : (p n paid : ℕ) → p ≤ n → charge n ≤ paid → nat_lt (counted paid) (charge p) ≡ false
enough p n paid l e = not_below (counted paid) (charge p) (omega (arith, grows p n l, e))

heard : (under : Bool) (c d : Command) → under ≡ false → c ≡ d → (if under then Unreadable invalid_parameter else c) ≡ d
heard true c d e f = absurd (let q : true ≡ false = e in cc)
heard false c d e f = f

pub paid_is : (command paid n : ℕ) (m : List ℕ) (c d : Command) → payload command m ≤ n → charge n ≤ paid → c ≡ d
    → paid_for command paid m c ≡ d
paid_is command paid n m c d few pays is =
    heard (is_undercharged command paid m) c d (enough (payload command m) n paid few pays) is
