-- Both branches of a test, and a table with one entry more.
use Rattle.std.proofs.Common.{◌≡◌, ℕ, ◌==◌, ◌&&◌, Bool, true, false, if◌then◌else◌, refl, arith}
use Rattle.spec_exchange.specs.Table.{put}
use Rattle.spec_exchange.specs.Client.{Client}
use Rattle.client_events.specs.world_law.Asking.{AsksFit}

pub either : (b : Bool) (x y : Client) → (b ≡ true → AsksFit x) → (b ≡ false → AsksFit y) → AsksFit (if b then x else y)
either true x y f g = f refl
either false x y f g = g refl

pub front_of : (a b : Bool) → (a && b) ≡ true → a ≡ true
front_of a b h = grind arith

pub back_of : (a b : Bool) → (a && b) ≡ true → b ≡ true
back_of a b h = grind arith

by_test : {X : Type 0} (P : X → Type 0) (b : Bool) (x y : X) → P x → P y → P (if b then x else y)
by_test P true x y f g = f
by_test P false x y f g = g

pub one_more : {X : Type 0} (P : X → Type 0) (f : ℕ → X) (k : ℕ) (v : X) → P v → ((q : ℕ) → P (f q)) → (q : ℕ) → P (put f k v q)
one_more P f k v here there q = by_test P (q == k) v (f q) here (there q)
