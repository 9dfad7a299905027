-- 16 bytes at a place of a request, read and put.
use Rattle.std.proofs.Common.{◌≡◌, ℕ, ◌+◌, ◌<◌, ◌≤◌, nat_le, Bool, true, false, if◌then◌else◌, List, ◌++◌, length, take, drop, replicate}
use Rattle.std.proofs.Common.{Option, Some, refl, ap, ◌∙◌}
use borrow.Rule.Slice.PartMut.{put_mid}
use Rattle.std.proofs.lemmas.List.{drop-drop}
use Rattle.spec_wire.specs.messages.Places.{bytes_at}
use Rattle.spec_world.specs.Related as related
use Rattle.conn_core.proofs.frame_messages.Headers.{at_least, too_few}

by_true : {X : Type 0} (b : Bool) (x y : X) → b ≡ true → x ≡ (if b then x else y)
by_true true x y e = refl
by_true false x y e = absurd cc

by_false : {X : Type 0} (b : Bool) (x y : X) → b ≡ false → y ≡ (if b then x else y)
by_false false x y e = refl
by_false true x y e = absurd cc

pub named_there : (m : List ℕ) (place count : ℕ) → count ≡ 16 → place + 16 ≤ length m
    → take count (drop place m) ≡ related.file_at place m
unfolding bytes_at
named_there m place count e room =
    ap (λ (n : ℕ). take n (drop place m)) e
    ∙ by_true (nat_le (place + 16) (length m)) (take 16 (drop place m)) (replicate 16 0) (at_least (place + 16) (length m) room)

pub named_not : (m : List ℕ) (place : ℕ) → length m < place + 16 → replicate 16 0 ≡ related.file_at place m
named_not m place short =
    by_false (nat_le (place + 16) (length m)) (bytes_at 16 m place) (replicate 16 0) (too_few (place + 16) (length m) short)

pub put_there : (place count : ℕ) (file m : List ℕ) → count ≡ 16 → place + 16 ≤ length m
    → put_mid place count m file ≡ related.with_file_at (Some place) file m
put_there place count file m e room =
    ap (λ (x : List ℕ). take place m ++ (file ++ x)) (drop-drop count place m)
    ∙ ap (λ (n : ℕ). take place m ++ (file ++ drop (place + n) m)) e
    ∙ by_true (nat_le (place + 16) (length m)) (take place m ++ (file ++ drop (place + 16) m)) m (at_least (place + 16) (length m) room)

pub put_not : (place : ℕ) (file m : List ℕ) → length m < place + 16 → m ≡ related.with_file_at (Some place) file m
put_not place file m short =
    by_false (nat_le (place + 16) (length m)) (take place m ++ (file ++ drop (place + 16) m)) m (too_few (place + 16) (length m) short)

-- ---- the place of a command

pub put_by_place : (n : ℕ) (file m : List ℕ) (o : Option ℕ) → o ≡ related.file_place n
    → related.with_file_at o file m ≡ related.with_file n file m
unfolding related.with_file
put_by_place n file m o e = ap (λ (x : Option ℕ). related.with_file_at x file m) e
