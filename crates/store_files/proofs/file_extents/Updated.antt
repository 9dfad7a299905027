-- What a map's update says of it as a function.
use Rattle.std.proofs.Common.{◌≡◌, ◌≢◌, ℕ, false, List, arith}
use Rattle.std.specs.Prelude.{Option}
use Rattle.std.specs.Ordering.{nat_cmp, is_eq}
use Rattle.std.specs.BTreeMap.{BTreeMap, get, UpdatesBy}
use Rattle.std.proofs.lemmas.Bool.Decides.{nat_tests}
use Rattle.store_files.specs.file_extents.Shown.{Puts}

other : (k q : ℕ) → q ≢ k → is_eq (nat_cmp k q) ≡ false
other k q h = grind (arith, nat_tests)

pub puts_of : {X : Type 0} (items : X → List ℕ) (m n : BTreeMap ℕ X) (k : ℕ) (w : Option X) → UpdatesBy nat_cmp (nat_cmp k) m n w
    → Puts items (λ q. get nat_cmp m q) (λ q. get nat_cmp n q) k w
puts_of items m n k w u = record { there = u.1; else = λ q h. u.2 q (other k q h) }
