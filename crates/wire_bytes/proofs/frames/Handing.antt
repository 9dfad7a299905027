-- A message that is handed out of the bytes behind a place.
use Rattle.std.proofs.Common.{◌≡◌, ℕ, ◌+◌, ◌-◌, ◌≤◌, List, length, take, drop, Option, Some, MatchOption, sym, ap}
use Rattle.std.proofs.Common.{subst, ◌∙◌, arith, length-take, length-drop}
use Rattle.spec_wire.specs.messages.Places.{bytes_at}
use Rattle.spec_wire.specs.messages.Frames.{Waits, Whole, front}

-- what the front of a stream was found to be
abbrev pub Found : List ℕ → Option ℕ → Type 0
Found s o = MatchOption o (front s ≡ Waits) (λ n. (4 + n ≤ length s) × (front s ≡ Whole (bytes_at n s 4) (drop (4 + n) s)))

pub first : (stream bytes : List ℕ) (len : ℕ) (o : Option ℕ) → o ≡ Some len → Found stream o
    → bytes ≡ take (4 + len - 4) (drop 4 stream)
    → (4 + length bytes ≤ length stream) × (front stream ≡ Whole bytes (drop (4 + length bytes) stream))
unfolding bytes_at
first stream bytes len o some found copied =
    let here : Found stream (Some len) = subst (λ (x : Option ℕ). Found stream x) some found in
    let width : 4 + len - 4 ≡ len = omega arith in
    let message : bytes ≡ take len (drop 4 stream) = copied ∙ ap (λ (k : ℕ). take k (drop 4 stream)) width in
    let long : length bytes ≡ len = ap length message ∙ omega (arith, length-take len (drop 4 stream), length-drop 4 stream, here.0) in (
      omega (arith, here.0, long),
      here.1 ∙ ap (λ (b : List ℕ). Whole b (drop (4 + len) stream)) (sym message)
          ∙ ap (λ (k : ℕ). Whole bytes (drop (4 + k) stream)) (sym long),
    )
