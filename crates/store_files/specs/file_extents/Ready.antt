-- Where a write falls, by which piece begins at a place.
use Rattle.std.specs.Prelude.{◌≡◌, ℕ, ◌+◌, ◌-◌, ◌<◌, ◌≤◌, ◌≢◌, ⊤, List, length, take, drop, Vec, Option, None, Some, IsSome}
use Rattle.std.specs.Global.{Global}
use Rattle.std.specs.Ordering.{nat_cmp}
use Rattle.std.specs.BTreeMap.{get}
use Rattle.store_files.specs.declared.file_extents.extents.Extents.{Extents}
use Rattle.store_files.specs.declared.file_extents.write.Inside.{Inside}
use Rattle.store_files.specs.declared.file_extents.write.Plan.{Plan}
use Rattle.store_files.specs.declared.file_extents.write.Prepared.{Prepared}

-- the bytes of a write from x to y, of one that begins at `at`, fall into a piece that has a place for each
pub record IsPieceInside (f : ℕ → Option (Vec ℕ Global)) (p : Inside) (at x y : ℕ) : Type 0 where
  pub some : x < y
  pub place : p.place + p.offset ≡ x
  pub first : p.first ≡ x - at
  pub count : p.count ≡ y - x
  pub there : IsSome (f p.place)
  pub fits : (q : Vec ℕ Global) → f p.place ≡ Some q → p.offset + p.count ≤ length q.items

abbrev pub IsPiecePart : (ℕ → Option (Vec ℕ Global)) → Option Inside → ℕ → ℕ → ℕ → Type 0
IsPiecePart f None at x y = x ≡ y
IsPiecePart f (Some p) at x y = IsPieceInside f p at x y

-- no part is put into the piece at k
abbrev pub IsAway : Option Inside → ℕ → Type 0
IsAway None k = ⊤
IsAway (Some p) k = k ≢ p.place

-- each piece that begins before k ends there or before
abbrev pub IsClear : (ℕ → Option (Vec ℕ Global)) → ℕ → Type 0
IsClear f k = (q : ℕ) (p : Vec ℕ Global) → f q ≡ Some p → q < k → q + length p.items ≤ k

-- what falls into the piece that has the place `at`
abbrev pub IsPieceLeft : (ℕ → Option (Vec ℕ Global)) → Option Inside → ℕ → ℕ → Type 0
IsPieceLeft f None at end = IsClear f at
IsPieceLeft f (Some p) at end = IsPieceInside f p at at (at + p.count) × (at + p.count < end → IsClear f (at + p.count))

-- what falls into a piece that goes on behind the end
abbrev pub IsRight : (ℕ → Option (Vec ℕ Global)) → Option Inside → ℕ → ℕ → ℕ → Type 0
IsRight f None at from end = (q : ℕ) (p : Vec ℕ Global) → f q ≡ Some p → from ≤ q → q < end → q + length p.items ≤ end
IsRight f (Some p) at from end = IsPieceInside f p at p.place end × IsClear f p.place

-- where these parts end and begin
abbrev pub left_end : Option Inside → ℕ → ℕ
left_end None at = at
left_end (Some p) at = at + p.count

abbrev pub right_begin : Option Inside → ℕ → ℕ
right_begin None end = end
right_begin (Some p) end = p.place

abbrev pub BeginsAt : Option Inside → ℕ → Type 0
BeginsAt None k = ⊤
BeginsAt (Some p) k = p.place ≡ k

pub record IsPlan (f : ℕ → Option (Vec ℕ Global)) (p : Plan) (at end : ℕ) : Type 0 where
  pub order : (at ≤ p.from) × (p.from ≤ p.until) × (p.until ≤ end) × (p.end ≡ end)
  pub left : IsPiecePart f p.left at at p.from
  pub clear : p.from < p.until → IsClear f p.from
  pub inner : (q : ℕ) (o : Vec ℕ Global) → f q ≡ Some o → p.from ≤ q → q < p.until → q + length o.items ≤ p.until
  pub right : IsPiecePart f p.right at p.until end
  pub begins : BeginsAt p.right p.until

-- a write of these bytes can be done with no more memory
pub record IsPieceReady (x : Extents) (p : Prepared) (at : ℕ) (d : List ℕ) : Type 0 where
  pub plan : IsPlan (λ k. get nat_cmp x.pieces k) p.plan at (at + length d)
  pub marked : p.plan.from < p.plan.until → IsSome (get nat_cmp x.pieces p.plan.from)
  pub middle : p.middle.items ≡ take (p.plan.until - p.plan.from) (drop (p.plan.from - at) d)
  pub some : 0 < length d
