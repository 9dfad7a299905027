-- The persistent opens of a list of opens.
use Rattle.std.proofs.Common.{◌≡◌, ◌≢◌, ℕ, ◌≤◌, ◌<◌, ◌==◌, nat_lt, true, false, ◌&&◌, if◌then◌else◌, List, [], ◌∷◌, length, refl, arith}
use Rattle.std.proofs.lemmas.Bool.Decides.{nat_tests}
use Rattle.spec_exchange.specs.Table.{put, has, without, placed_in, is_filled}
use Rattle.spec_exchange.specs.State.{Server, Open}
use Rattle.spec_exchange.specs.Opens.{opens_in}
use Rattle.spec_exchange.specs.Effects.{staying_in}
use Rattle.spec_exchange.specs.Fold.{persistent_in}

-- equal at each key
pub ext : {X : Type 0} (f g : ℕ → X) → ((q : ℕ) → f q ≡ g q) → f ≡ g
ext f g h = λ t q. h q t

pub ext2 : {X : Type 0} (f g : ℕ → ℕ → X) → ((q r : ℕ) → f q r ≡ g q r) → f ≡ g
ext2 f g h = λ t q r. h q r t

pub put_here : {X : Type 0} (f : ℕ → X) (k : ℕ) (v : X) → put f k v k ≡ v
put_here f k v = grind arith

pub put_there : {X : Type 0} (f : ℕ → X) (k : ℕ) (v : X) (q : ℕ) → q ≢ k → put f k v q ≡ f q
put_there f k v q n = grind arith

pub in_tail : (o x : ℕ) (os : List ℕ) → has o os ≡ true → has o (x ∷ os) ≡ true
in_tail o x os h = grind arith

pub at_head : (x : ℕ) (os : List ℕ) → has x (x ∷ os) ≡ true
at_head x os = grind arith

pub has_apart : (o x : ℕ) (os : List ℕ) → has o (x ∷ os) ≡ false → x ≢ o × has o os ≡ false
has_apart o x os h = (grind arith, grind arith)

pub persistent_put : (opened : ℕ → Open) (o : ℕ) (row : Open) (os : List ℕ) → has o os ≡ false
    → persistent_in (put opened o row) os ≡ persistent_in opened os
unfolding persistent_in
persistent_put opened o row [] h = refl
persistent_put opened o row (x ∷ xs) h =
    let a = has_apart o x xs h in let same = put_there opened o row x a.0 in let rest = persistent_put opened o row xs a.1 in grind arith

-- a new plain open
pub persistent_placed_plain : (opened : ℕ → Open) (o : ℕ) (row : Open) (os : List ℕ) → row.persistent ≡ false → has o os
    ≡ false → persistent_in (put opened o row) (placed_in o os) ≡ persistent_in opened os
unfolding persistent_in
persistent_placed_plain opened o row [] plain h = let here = put_here opened o row in grind arith
persistent_placed_plain opened o row (x ∷ xs) plain h =
    let a = has_apart o x xs h in let here = put_here opened o row in let same = put_there opened o row x a.0 in
    let rest = persistent_placed_plain opened o row xs plain a.1 in let all = persistent_put opened o row xs a.1 in grind arith

-- a new persistent open, above all others
pub persistent_placed : (opened : ℕ → Open) (o : ℕ) (row : Open) (os : List ℕ) → row.persistent ≡ true
    → ((p : ℕ) → has p os ≡ true → p < o) → persistent_in (put opened o row) (placed_in o os)
    ≡ placed_in o (persistent_in opened os)
unfolding persistent_in
persistent_placed opened o row [] kept above = let here = put_here opened o row in grind arith
persistent_placed opened o row (x ∷ xs) kept above =
    let low = above x (at_head x xs) in let apart : x ≢ o = omega arith in let past : nat_lt o x ≡ false = grind (arith, nat_tests) in
    let here = put_here opened o row in let same = put_there opened o row x apart in
    let rest = persistent_placed opened o row xs kept (λ p i. above p (in_tail p x xs i)) in grind arith

pub persistent_without : (opened : ℕ → Open) (o : ℕ) (os : List ℕ) → persistent_in opened (without o os)
    ≡ without o (persistent_in opened os)
unfolding persistent_in
persistent_without opened o [] = refl
persistent_without opened o (x ∷ xs) = let rest = persistent_without opened o xs in grind arith

pub without_plain : (opened : ℕ → Open) (o : ℕ) (os : List ℕ) → (opened o).persistent ≡ false
    → persistent_in opened (without o os) ≡ persistent_in opened os
unfolding persistent_in
without_plain opened o [] plain = refl
without_plain opened o (x ∷ xs) plain = let rest = without_plain opened o xs plain in grind arith

pub length_persistent : (opened : ℕ → Open) (os : List ℕ) → length (persistent_in opened os) ≤ length os
unfolding persistent_in
length_persistent opened [] = omega arith
length_persistent opened (x ∷ xs) = elim (opened x).persistent as
    (λ b. length (if b then x ∷ persistent_in opened xs else persistent_in opened xs) ≤ length (x ∷ xs)) [
      | true ↦ let rest = length_persistent opened xs in omega arith
      | false ↦ let rest = length_persistent opened xs in omega arith
    ]

pub has_persistent : (opened : ℕ → Open) (o : ℕ) (os : List ℕ) → has o (persistent_in opened os) ≡ (has o os && (opened o).persistent)
unfolding persistent_in
has_persistent opened o [] = refl
has_persistent opened o (x ∷ xs) = let rest = has_persistent opened o xs in grind arith

-- what stays where a session's plain opens leave
pub persistent_staying : (s : Server) (session : ℕ) (os : List ℕ) → persistent_in s.opened (staying_in s session os)
    ≡ persistent_in s.opened os
unfolding persistent_in staying_in
persistent_staying s session [] = refl
persistent_staying s session (x ∷ xs) = let rest = persistent_staying s session xs in grind arith

pub has_without : (o p : ℕ) (os : List ℕ) → has p (without o os) ≡ (if p == o then false else has p os)
has_without o p [] = grind arith
has_without o p (x ∷ xs) = let rest = has_without o p xs in grind arith

pub has_placed : (o p : ℕ) (os : List ℕ) → has p (placed_in o os) ≡ (if p == o then true else has p os)
has_placed o p [] = grind arith
has_placed o p (x ∷ xs) = let rest = has_placed o p xs in grind arith

-- where no open has the file, no persistent one has
pub none_persistent : (opened rows : ℕ → Open) (os : List ℕ) (f : ℕ)
    → ((o : ℕ) → has o os ≡ true → (opened o).persistent ≡ true → rows o ≡ opened o) → is_filled (opens_in opened os f)
    ≡ false
    → is_filled (opens_in rows (persistent_in opened os) f) ≡ false
unfolding persistent_in opens_in is_filled
none_persistent opened rows [] f same none = refl
none_persistent opened rows (x ∷ xs) f same none =
    let here = same x (at_head x xs) in let rest = none_persistent opened rows xs f (λ o i. same o (in_tail o x xs i)) in grind arith

pub has_file : (opened : ℕ → Open) (o : ℕ) (os : List ℕ) → has o os ≡ true → is_filled (opens_in opened os (opened o).file) ≡ true
unfolding opens_in is_filled
has_file opened o [] h = absurd (cc)
has_file opened o (x ∷ xs) h = let rest = has_file opened o xs in grind arith
