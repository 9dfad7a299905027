-- A file's data as one list of bytes, what an operation does to it and what it replies, called the content machine
-- (MS-FSA 2.1.5.3 reading, 2.1.5.4 writing, 2.1.5.15.4 setting the end).
use Rattle.std.specs.Prelude.{ℕ, ◌+◌, ◌-◌, ◌==◌, nat_lt, max, min, Bool, true, false, not, ◌&&◌, if◌then◌else◌, List}
use Rattle.std.specs.Prelude.{[], ◌∷◌, ◌++◌, length, take, drop, replicate}

-- What an operation asks of the bytes. An operation that neither reads nor changes them is Still.
pub data ContentOp : Type 0 where
  Write : (at : ℕ) (bytes : List ℕ) → ContentOp
  SetEnd : (size : ℕ) → ContentOp
  Read : (at size : ℕ) → ContentOp
  Still : ContentOp

-- What a success replies: the count of bytes written, the bytes read, or nothing.
pub data ContentReply : Type 0 where
  Counted : (count : ℕ) → ContentReply
  Gives : (bytes : List ℕ) → ContentReply
  Done : ContentReply

-- the bytes with zeros up to a length
unfoldable pub padded : ℕ → List ℕ → List ℕ
padded n c = c ++ replicate (n - length c) 0

unfoldable pub is_empty : List ℕ → Bool
is_empty [] = true
is_empty (x ∷ xs) = false

-- zeros up to the place, then what is written in the place of what was there; no bytes change nothing
unfoldable pub written : ℕ → List ℕ → List ℕ → List ℕ
written at d c = if is_empty d then c else take at (padded at c) ++ (d ++ drop (at + length d) c)

-- cut, or with zeros up to the new end
unfoldable pub ended : ℕ → List ℕ → List ℕ
ended n c = take n (padded n c)

-- the bytes after an operation that succeeds
unfoldable pub effect : ContentOp → List ℕ → List ℕ
effect (Write at d) c = written at d c
effect (SetEnd n) c = ended n c
effect (Read at n) c = c
effect Still c = c

-- what it replies
unfoldable pub value : ContentOp → List ℕ → ContentReply
value (Write at d) c = Counted (length d)
value (SetEnd n) c = Done
value (Read at n) c = Gives (take n (drop at c))
value Still c = Done

-- it is answered END_OF_FILE: it reads some bytes, from the end on or behind it
unfoldable pub past_end : ContentOp → List ℕ → Bool
past_end (Write at d) c = false
past_end (SetEnd n) c = false
past_end (Read at n) c = not (n == 0) && not (nat_lt at (length c))
past_end Still c = false

-- it may change the bytes
unfoldable pub is_change : ContentOp → Bool
is_change (Write at d) = true
is_change (SetEnd n) = true
is_change (Read at n) = false
is_change Still = false

-- a success of it acts: it writes one byte or more, or sets the end
unfoldable pub touches : ContentOp → Bool
touches (Write at d) = not (is_empty d)
touches (SetEnd n) = true
touches (Read at n) = false
touches Still = false

-- it stands in the order of its open: a write, an end or a read
unfoldable pub is_listed : ContentOp → Bool
is_listed (Write at d) = true
is_listed (SetEnd n) = true
is_listed (Read at n) = true
is_listed Still = false

-- two ranges of bytes have a byte in common
unfoldable pub meets : ℕ → ℕ → ℕ → ℕ → Bool
meets p n q m = nat_lt (max p q) (min (p + n) (q + m))

-- two changes whose order may show in the bytes: two writes that share a byte, or an end with a write or an end
unfoldable pub collides : ContentOp → ContentOp → Bool
collides (Write p d) (Write q e) = meets p (length d) q (length e)
collides (Write p d) (SetEnd n) = true
collides (Write p d) (Read q n) = false
collides (Write p d) Still = false
collides (SetEnd n) (Write q e) = true
collides (SetEnd n) (SetEnd m) = true
collides (SetEnd n) (Read q m) = false
collides (SetEnd n) Still = false
collides (Read p n) b = false
collides Still b = false

unfoldable pub same_bytes : List ℕ → List ℕ → Bool
same_bytes [] [] = true
same_bytes [] (y ∷ ys) = false
same_bytes (x ∷ xs) [] = false
same_bytes (x ∷ xs) (y ∷ ys) = (x == y) && same_bytes xs ys
