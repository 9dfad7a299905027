-- What waits on a connection behind a push at its end, or behind its front.
use Rattle.std.proofs.Common.{◌≡◌, ℕ, ◌+◌, ◌≤◌, ◌==◌, true, false, if◌then◌else◌, List, [], ◌∷◌, ◌++◌, ◌⊎◌, inl, inr}
use Rattle.std.proofs.Common.{refl, arith, Some, slice_get, zero, suc, add-one}
use Rattle.std.proofs.Common.{ap}
use Rattle.spec_exchange.specs.Table.{put}
use Rattle.spec_exchange.specs.Network.{Conn, Sent, Received, ForOp, ForAttach, op_of, behind_front, take_front}
use Rattle.law_sessions.specs.messages.Connections.{count_up, count_down}

-- an element of a list with one more at its end
pub get-push : {X : Type 0} (xs : List X) (y : X) (n : ℕ) → (slice_get (xs ++ y ∷ []) n ≡ slice_get (xs ++ y ∷ []) n)
    × ((slice_get (xs ++ y ∷ []) n ≡ slice_get xs n) ⊎ (slice_get (xs ++ y ∷ []) n ≡ Some y))
get-push [] y zero = (refl, inr refl)
get-push [] y (suc n) = (refl, inl refl)
get-push (x ∷ xs) y zero = (refl, inl refl)
get-push (x ∷ xs) y (suc n) = get-push xs y n

pub count_up-push : (g : ℕ) (xs : List Sent) (x : Sent) → count_up g (xs ++ x ∷ []) ≡ count_up g xs + (if op_of x.token == g then 1 else 0)
count_up-push g [] x = omega arith
count_up-push g (y ∷ ys) x = omega (arith, count_up-push g ys x)

pub count_down-push : (g : ℕ) (ys : List Received) (y : Received) → count_down g (ys ++ y ∷ [])
    ≡ count_down g ys + (if op_of y.token == g then 1 else 0)
count_down-push g [] y = omega arith
count_down-push g (x ∷ xs) y = omega (arith, count_down-push g xs y)

-- what waits is counted
pub counted_up : (g : ℕ) (xs : List Sent) (n : ℕ) (x : Sent) → slice_get xs n ≡ Some x → op_of x.token ≡ g → 1 ≤ count_up g xs
counted_up g [] n x h same = absurd (cc)
counted_up g (y ∷ ys) zero x h same = grind arith
counted_up g (y ∷ ys) (suc n) x h same = omega (arith, counted_up g ys n x h same)

pub counted_down : (g : ℕ) (ys : List Received) (n : ℕ) (y : Received) → slice_get ys n ≡ Some y → op_of y.token ≡ g → 1 ≤ count_down g ys
counted_down g [] n y h same = absurd (cc)
counted_down g (x ∷ xs) zero y h same = grind arith
counted_down g (x ∷ xs) (suc n) y h same = omega (arith, counted_down g xs n y h same)

-- what was behind the front
pub rest_of : {X : Type 0} (xs : List X) (x : X) (rest : List X) (n : ℕ) → xs ≡ x ∷ rest
    → (slice_get rest n ≡ slice_get rest n) × (slice_get xs (n + 1) ≡ slice_get rest n)
rest_of xs x rest n e = (refl, rw (e, add-one) refl)

pub own_up_count : (g : ℕ) (xs : List Sent) (n : ℕ) (x : Sent) → slice_get xs n ≡ Some x → x.token ≡ ForOp g → 1 ≤ count_up g xs
own_up_count g xs n x h t = counted_up g xs n x h (ap op_of t)

pub attach_up_count : (g : ℕ) (xs : List Sent) (n : ℕ) (x : Sent) → slice_get xs n ≡ Some x → x.token ≡ ForAttach g → 1 ≤ count_up g xs
attach_up_count g xs n x h t = counted_up g xs n x h (ap op_of t)

pub own_down_count : (g : ℕ) (ys : List Received) (n : ℕ) (y : Received) → slice_get ys n ≡ Some y → y.token ≡ ForOp g → 1 ≤ count_down g ys
own_down_count g ys n y h t = counted_down g ys n y h (ap op_of t)

pub attach_down_count : (g : ℕ) (ys : List Received) (n : ℕ) (y : Received) → slice_get ys n ≡ Some y → y.token
    ≡ ForAttach g → 1 ≤ count_down g ys
attach_down_count g ys n y h t = counted_down g ys n y h (ap op_of t)

pub front_up : (xs : List Sent) (x : Sent) (rest : List Sent) → xs ≡ x ∷ rest → slice_get xs 0 ≡ Some x
front_up xs x rest is = rw is refl

pub front_down : (ys : List Received) (y : Received) (rest : List Received) → ys ≡ y ∷ rest → slice_get ys 0 ≡ Some y
front_down ys y rest is = rw is refl

-- what waits behind the front waited before it was taken
pub waited : (conns : ℕ → Conn) (k : ℕ) (x0 : Sent) (rest : List Sent) (j n : ℕ) (x : Sent) → (conns k).up ≡ x0 ∷ rest
    → slice_get (put conns k (behind_front (conns k) rest) j).up n ≡ Some x
    → (p : ℕ) × (slice_get (conns j).up p ≡ Some x)
waited conns k x0 rest j n x is h = elim (j == k) as (λ b. j == k ≡ b → (p : ℕ) × (slice_get (conns j).up p ≡ Some x)) [
  | true ↦ λ e. (n + 1, grind (arith, rest_of))
  | false ↦ λ e. (n, grind arith)
] refl

pub waited_down : (conns : ℕ → Conn) (k : ℕ) (y0 : Received) (rest : List Received) (j n : ℕ) (y : Received)
    → (conns k).down ≡ y0 ∷ rest → slice_get (put conns k (take_front (conns k) rest) j).down n ≡ Some y
    → (p : ℕ) × (slice_get (conns j).down p ≡ Some y)
waited_down conns k y0 rest j n y is h = elim (j == k) as (λ b. j == k ≡ b → (p : ℕ) × (slice_get (conns j).down p ≡ Some y)) [
  | true ↦ λ e. (n + 1, grind (arith, rest_of))
  | false ↦ λ e. (n, grind arith)
] refl
