-- What a map at pairs of numbers is after a change at one pair.
use Rattle.std.proofs.Common.{◌≡◌, ℕ, ◌==◌, nat_eq, Bool, true, false, cond, if◌then◌else◌, Result, Ok, Err, IsOk, OnOk}
use Rattle.std.proofs.Common.{Option, Some, None, refl, arith}
use Rattle.std.proofs.lemmas.Grind.{common_steps}
use Rattle.spec_exchange.specs.Opens.{with_guid}
use Rattle.store_opens.specs.open_table.Shown.{pair_eq}

pub pair_put : {X : Type 0} (client guid c g : ℕ) (w v : X) → cond (pair_eq (client, guid) (c, g)) w v
    ≡ (if c == client then (if g == guid then w else v) else v)
pair_put client guid c g w v = grind (arith, common_steps)

-- what holds where a result is Ok, of a result that is
pub at_ok : {T E : Type 0} (P : Type 0) (r : Result T E) → IsOk r → OnOk r P → P
at_ok P (Ok x) y p = p
at_ok P (Err e) y p = absurd (cc)

-- a guid put into two tables that agree
pub guid_put : (by other : ℕ → ℕ → Option ℕ) (client : ℕ) (guid v : Option ℕ) → ((c g : ℕ) → by c g ≡ other c g)
    → (c g : ℕ) → with_guid by client guid v c g ≡ with_guid other client guid v c g
guid_put by other client None v h c g = h c g
guid_put by other client (Some n) v h c g = rw (h c g) refl

same_number : (a b : ℕ) → (a == b) ≡ true → a ≡ b
same_number a b e = grind arith

-- a guid that named an open, taken away and put back
back_at : (b c : Bool) (v there now : Option ℕ) → (b ≡ true → c ≡ true → there ≡ v)
    → (if b then (if c then None else there) else there) ≡ now → there ≡ (if b then (if c then v else now) else now)
back_at true true v there now same e = same refl refl
back_at true false v there now same e = e
back_at false c v there now same e = e

pub guid_back : (by other : ℕ → ℕ → Option ℕ) (client : ℕ) (guid : Option ℕ) (o : ℕ)
    → ((g : ℕ) → guid ≡ Some g → by client g ≡ Some o) → (k g : ℕ) → with_guid by client guid None k g ≡ other k g
    → by k g ≡ with_guid other client guid (Some o) k g
guid_back by other client None o named k g e = e
guid_back by other client (Some n) o named k g e = back_at (k == client) (g == n) (Some o) (by k g) (other k g)
    (λ p q. rw (same_number k client p, same_number g n q) (named n refl)) e

-- what a map at numbers is after a change at one number
pub number_put : {X : Type 0} (k q : ℕ) (w v : X) → cond (nat_eq k q) w v ≡ (if q == k then w else v)
number_put k q w v = grind (arith, common_steps)
