-- What becomes of a file whose open left, by what was found of it.
use Rattle.std.proofs.Common.{◌≡◌, ℕ, ◌==◌, Bool, true, false, not, ◌&&◌, refl, arith, eqb-true, sym, ap}
use Rattle.spec_exchange.specs.State.{Server}
use Rattle.spec_exchange.specs.Files.{root, exists, is_full_directory}
use Rattle.spec_exchange.specs.Opens.{file_has_open, goes, is_kept_back}
use Rattle.server_effects.specs.declared.fates.Fate.TheVariants.{Stays, Unmarked, Goes}
use Rattle.server_effects.specs.Fates.{fate_of, removed_by, unmarked_by}

pub stays_by : (k g : Bool) → k ≡ false → g ≡ false → Stays ≡ fate_of k g
stays_by true g e f = absurd (cc)
stays_by false true e f = absurd (cc)
stays_by false false e f = refl

pub unmarked_if : (k g : Bool) → k ≡ true → Unmarked ≡ fate_of k g
unmarked_if true g e = refl
unmarked_if false g e = absurd (cc)

pub goes_if : (k g : Bool) → k ≡ false → g ≡ true → Goes ≡ fate_of k g
goes_if true g e f = absurd (cc)
goes_if false true e f = refl
goes_if false false e f = absurd (cc)

-- the two tests of it
pub goes_is : (k g : Bool) → (k ≡ true → g ≡ false) → removed_by (fate_of k g) ≡ g
goes_is true g h = sym (h refl)
goes_is false true h = refl
goes_is false false h = refl

pub unmarked_is : (k g : Bool) → unmarked_by (fate_of k g) ≡ k
unmarked_is true g = refl
unmarked_is false true = refl
unmarked_is false false = refl

pub zero_is : (f : ℕ) → f ≡ 0 → (f == root) ≡ true
zero_is f e = ap (λ (n : ℕ). n == 0) e

pub not_zero : (f : ℕ) → (f ≡ 0 → ⊥) → (f == root) ≡ false
not_zero f h = by (f == 0) refl
  where
    by : (b : Bool) → (f == 0) ≡ b → b ≡ false
    by true e = absurd (h (eqb-true f 0 e))
    by false e = refl

-- ---- tests in a row: delete pending, no root, the last open; and full, or not

pub first_off : (p x y : Bool) → p ≡ false → Stays ≡ fate_of (p && x) (p && y)
first_off p x y e = stays_by (p && x) (p && y) (off p x e) (off p y e)
  where
    off : (p x : Bool) → p ≡ false → (p && x) ≡ false
    off p x e = grind arith

pub second_off : (p r x y : Bool) → r ≡ true → Stays ≡ fate_of (p && (not r && x)) (p && (not r && y))
second_off p r x y e = stays_by (p && (not r && x)) (p && (not r && y)) (off p r x e) (off p r y e)
  where
    off : (p r x : Bool) → r ≡ true → (p && (not r && x)) ≡ false
    off p r x e = grind arith

pub third_off : (p r n x y : Bool) → n ≡ false → Stays ≡ fate_of (p && (not r && (n && x))) (p && (not r && (n && y)))
third_off p r n x y e = stays_by (p && (not r && (n && x))) (p && (not r && (n && y))) (off p r n x e) (off p r n y e)
  where
    off : (p r n x : Bool) → n ≡ false → (p && (not r && (n && x))) ≡ false
    off p r n x e = grind arith

pub all_full : (p r n d : Bool) → p ≡ true → r ≡ false → n ≡ true → d ≡ true
    → Unmarked ≡ fate_of (p && (not r && (n && d))) (p && (not r && (n && not d)))
all_full p r n d a b c e = unmarked_if (p && (not r && (n && d))) (p && (not r && (n && not d))) (on p r n d a b c e)
  where
    on : (p r n d : Bool) → p ≡ true → r ≡ false → n ≡ true → d ≡ true → (p && (not r && (n && d))) ≡ true
    on p r n d a b c e = grind arith

pub all_empty : (p r n d : Bool) → p ≡ true → r ≡ false → n ≡ true → d ≡ false
    → Goes ≡ fate_of (p && (not r && (n && d))) (p && (not r && (n && not d)))
all_empty p r n d a b c e =
    goes_if (p && (not r && (n && d))) (p && (not r && (n && not d))) (off p r n d e) (on p r n d a b c e)
  where
    off : (p r n d : Bool) → d ≡ false → (p && (not r && (n && d))) ≡ false
    off p r n d e = grind arith

    on : (p r n d : Bool) → p ≡ true → r ≡ false → n ≡ true → d ≡ false → (p && (not r && (n && not d))) ≡ true
    on p r n d a b c e = grind arith

-- ---- of a file that is there

pub not_pending : (s : Server) (f : ℕ) → s.delete_pending f ≡ false → Stays ≡ fate_of (is_kept_back s f) (goes s f)
unfolding is_kept_back goes
not_pending s f e = first_off (s.delete_pending f)
    (not (f == root) && (exists s f && (not (file_has_open s f) && is_full_directory s f)))
    (not (f == root) && (exists s f && (not (file_has_open s f) && not (is_full_directory s f)))) e

pub at_root : (s : Server) (f : ℕ) → (f == root) ≡ true → Stays ≡ fate_of (is_kept_back s f) (goes s f)
unfolding is_kept_back goes
at_root s f e = second_off (s.delete_pending f) (f == root) (exists s f && (not (file_has_open s f) && is_full_directory s f))
    (exists s f && (not (file_has_open s f) && not (is_full_directory s f))) e

is_off : (m r e o x : Bool) → o ≡ true → (m && (not r && (e && (not o && x)))) ≡ false
is_off m r e o x h = grind arith

pub is_open : (s : Server) (f : ℕ) → file_has_open s f ≡ true → Stays ≡ fate_of (is_kept_back s f) (goes s f)
unfolding is_kept_back goes
is_open s f e = stays_by (is_kept_back s f) (goes s f)
    (is_off (s.delete_pending f) (f == root) (exists s f) (file_has_open s f) (is_full_directory s f) e)
    (is_off (s.delete_pending f) (f == root) (exists s f) (file_has_open s f) (not (is_full_directory s f)) e)

all_on : (m r e o x : Bool) → m ≡ true → r ≡ false → e ≡ true → o ≡ false → x ≡ true → (m && (not r && (e && (not o && x)))) ≡ true
all_on m r e o x a b c d h = grind arith

last_off : (m r e o x : Bool) → x ≡ false → (m && (not r && (e && (not o && x)))) ≡ false
last_off m r e o x h = grind arith

negated : (d : Bool) → d ≡ false → not d ≡ true
negated d e = grind arith

pub is_full : (s : Server) (f : ℕ) → s.delete_pending f ≡ true → (f == root) ≡ false → exists s f ≡ true → file_has_open s f ≡ false
    → is_full_directory s f ≡ true → Unmarked ≡ fate_of (is_kept_back s f) (goes s f)
unfolding is_kept_back
is_full s f a b c d e = unmarked_if (is_kept_back s f) (goes s f)
    (all_on (s.delete_pending f) (f == root) (exists s f) (file_has_open s f) (is_full_directory s f) a b c d e)

pub is_empty : (s : Server) (f : ℕ) → s.delete_pending f ≡ true → (f == root) ≡ false → exists s f ≡ true → file_has_open s f ≡ false
    → is_full_directory s f ≡ false → Goes ≡ fate_of (is_kept_back s f) (goes s f)
unfolding is_kept_back goes
is_empty s f a b c d e = goes_if (is_kept_back s f) (goes s f)
    (last_off (s.delete_pending f) (f == root) (exists s f) (file_has_open s f) (is_full_directory s f) e)
    (all_on (s.delete_pending f) (f == root) (exists s f) (file_has_open s f) (not (is_full_directory s f)) a b c d
    (negated (is_full_directory s f) e))

-- ---- which of them it was

pub kept_of : (k g : Bool) → Unmarked ≡ fate_of k g → k ≡ true
kept_of true g e = refl
kept_of false true e = absurd (let x : true ≡ false = ap unmarked_by e in cc)
kept_of false false e = absurd (let x : true ≡ false = ap unmarked_by e in cc)

pub gone_of : (k g : Bool) → Goes ≡ fate_of k g → k ≡ false × g ≡ true
gone_of true g e = absurd (let x : true ≡ false = ap removed_by e in cc)
gone_of false true e = (refl, refl)
gone_of false false e = absurd (let x : true ≡ false = ap removed_by e in cc)

pub stays_of : (k g : Bool) → Stays ≡ fate_of k g → k ≡ false × g ≡ false
stays_of true g e = absurd (let x : false ≡ true = ap unmarked_by e in cc)
stays_of false true e = absurd (let x : false ≡ true = ap removed_by e in cc)
stays_of false false e = (refl, refl)

-- a file that is kept back doesn't go
apart : (m r e o u : Bool) → (m && (not r && (e && (not o && u)))) ≡ true → (m && (not r && (e && (not o && not u)))) ≡ false
apart m r e o u h = grind arith

pub kept_apart : (s : Server) (f : ℕ) → is_kept_back s f ≡ true → goes s f ≡ false
unfolding is_kept_back goes
kept_apart s f h = apart (s.delete_pending f) (f == root) (exists s f) (file_has_open s f) (is_full_directory s f) h
