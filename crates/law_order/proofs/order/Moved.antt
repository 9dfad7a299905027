-- What the server does from one state to the next, as far as opens, sessions and bytes go.
use Rattle.std.proofs.Common.{◌≡◌, ℕ, ◌≤◌, ◌<◌, true, arith, Some}
use Rattle.spec_exchange.specs.State.{Server}
use Rattle.law_order.specs.order.Newest.{Pair}
use Rattle.law_order.specs.order.Contents.{last_id}

pub record Steps (rank : ℕ → ℕ) (s u : Server) : Type 0 where
  pub pair : (x q o : ℕ) → 0 < rank x → o ≤ last_id s → Pair s x q o → Pair u x q o
  pub stands : (o : ℕ) → o ≤ last_id s → u.standing o ≡ true → s.standing o ≡ true
  pub present : (x : ℕ) → 0 < rank x → u.present x ≡ true → s.present x ≡ true
  pub ids : last_id s ≤ last_id u
  pub row : (o : ℕ) → o ≤ last_id s → u.standing o ≡ true → u.opened o ≡ s.opened o

-- where no message comes, no open is attached, made or written to either
pub record Moves (rank : ℕ → ℕ) (s u : Server) : Type 0 where
  pub steps : Steps rank s u
  pub session_of_open : (o x : ℕ) → u.session_of_open o ≡ Some x → s.session_of_open o ≡ Some x × u.sequence o ≤ s.sequence o
  pub given : (o : ℕ) → u.standing o ≡ true → o ≤ last_id s
  pub content : u.content ≡ s.content
  pub guid : (p g o : ℕ) → u.by_guid p g ≡ Some o → s.by_guid p g ≡ Some o

-- what the server would take still, it would have taken before
pub live_back : (rank : ℕ → ℕ) (s u : Server) (x q o : ℕ) → Steps rank s u → 0 < rank x → o ≤ last_id s → Pair s x 0 o
    → u.standing o ≡ true → u.present x ≡ true → u.sequence o ≤ q
    → s.standing o ≡ true × s.present x ≡ true × s.sequence o ≤ q
live_back rank s u x q o k r l p st pr le =
    let a = k.stands o l st in let b = k.present x r pr in let at = (p a b).0 in
    let up = (k.pair x (s.sequence o) o r l (λ t v. (at, omega arith)) st pr).1 in (a, b, omega (arith, up, le))
