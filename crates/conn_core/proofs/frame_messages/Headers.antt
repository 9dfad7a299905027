-- A message whose header reads, or doesn't.
use Rattle.std.proofs.Common.{◌≡◌, ℕ, ◌<◌, ◌≤◌, ◌==◌, nat_le, Bool, true, false, ◌&&◌, List, length, refl, sym}
use Rattle.std.proofs.Common.{◌∙◌, arith}
use Rattle.std.proofs.lemmas.Bool.Decides.{nat_tests}
use Rattle.std.proofs.lemmas.Slice.Eq.{bytes_eq-Decides}
use Rattle.std.specs.Str.{bytes_eq}
use Rattle.spec_wire.specs.messages.Places.{number, bytes_at}
use Rattle.spec_wire.specs.messages.Header.{protocol, SpellsHeader, BreaksHeader}
use Rattle.spec_wire.specs.declared.messages.header.Header.{Header}
use Rattle.spec_wire.specs.declared.messages.error.HeaderError.{HeaderError}
use Rattle.spec_wire.specs.declared.messages.error.HeaderError.TheVariants as errors
use Rattle.spec_world.specs.Messages.{has_header, header_in}

-- ---- tests

pub not_true : (b : Bool) → (b ≡ true → ⊥) → b ≡ false
not_true true h = absurd (h refl)
not_true false h = refl

pub both : (a b : Bool) → a ≡ true → b ≡ true → (a && b) ≡ true
both true b e f = f
both false b e f = e

pub and_front : (a b : Bool) → (a && b) ≡ true → a ≡ true
and_front true b h = refl
and_front false b h = h

pub and_back : (a b : Bool) → (a && b) ≡ true → b ≡ true
and_back true b h = h
and_back false b h = absurd cc

pub at_least : (k n : ℕ) → k ≤ n → nat_le k n ≡ true
at_least k n e = grind (arith, nat_tests)

pub is_least : (k n : ℕ) → nat_le k n ≡ true → k ≤ n
is_least k n e = grind (arith, nat_tests)

pub too_few : (k n : ℕ) → n < k → nat_le k n ≡ false
too_few k n e = grind (arith, nat_tests)

pub same_number : (n k : ℕ) → n ≡ k → (n == k) ≡ true
same_number n k e = grind arith

pub one_number : (n k : ℕ) → (n == k) ≡ true → n ≡ k
one_number n k e = grind (arith, nat_tests)

pub other_number : (n k : ℕ) → (n ≡ k → ⊥) → (n == k) ≡ false
other_number n k differs = not_true (n == k) (λ e. differs (one_number n k e))

pub true_is_not_false : true ≡ false → ⊥
true_is_not_false e = absurd cc

-- ---- a header that reads

pub has : (m : List ℕ) → 64 ≤ length m → bytes_at 4 m 0 ≡ protocol → number 2 m 4 ≡ 64 → has_header m ≡ true
unfolding has_header
has m whole begins size =
    both (nat_le 64 (length m)) _ (at_least 64 (length m) whole)
    (both (bytes_eq (bytes_at 4 m 0) protocol) (number 2 m 4 == 64) ((bytes_eq-Decides (bytes_at 4 m 0) protocol).1 begins)
    (same_number (number 2 m 4) 64 size))

pub header_is : (m : List ℕ) (h : Header) → SpellsHeader m h → header_in m ≡ h
unfolding header_in
header_is m h s =
    let a = s.1.1 in
    let b = a.1.1.1.1.1 in
    let d = b.1.1 in
    λ t. record {
      charge = a.0 t;
      status = a.1.0 t;
      command = a.1.1.0 t;
      credits = a.1.1.1.0 t;
      flags = a.1.1.1.1.0 t;
      next = b.0 t;
      message = b.1.0 t;
      tree = d.0 t;
      session = d.1.0 t;
      signature = d.1.1.0 t;
    }

-- NextCommand
pub next_is : (m : List ℕ) (h : Header) → SpellsHeader m h → number 4 m 20 ≡ h.next
next_is m h s = (let a = s.1.1 in let b = a.1.1.1.1.1 in b.0)

pub whole_of : (m : List ℕ) (h : Header) → SpellsHeader m h → 64 ≤ length m
whole_of m h s = s.1.1.1.1.1.1.1.1.1.1.1.1

-- a message that begins with this header
pub heads : (m : List ℕ) (h : Header) → SpellsHeader m h → has_header m ≡ true
heads m h s = has m (whole_of m h s) s.0 s.1.0

-- ---- what a test of the header says

pub long_of : (m : List ℕ) → has_header m ≡ true → 64 ≤ length m
unfolding has_header
long_of m h = is_least 64 (length m) (and_front (nat_le 64 (length m)) _ h)

pub begins_of : (m : List ℕ) → has_header m ≡ true → bytes_at 4 m 0 ≡ protocol
unfolding has_header
begins_of m h =
    (bytes_eq-Decides (bytes_at 4 m 0) protocol).0
    (and_front (bytes_eq (bytes_at 4 m 0) protocol) (number 2 m 4 == 64) (and_back (nat_le 64 (length m)) _ h))

pub size_of : (m : List ℕ) → has_header m ≡ true → number 2 m 4 ≡ 64
unfolding has_header
size_of m h =
    one_number (number 2 m 4) 64
    (and_back (bytes_eq (bytes_at 4 m 0) protocol) (number 2 m 4 == 64) (and_back (nat_le 64 (length m)) _ h))

-- ---- one that doesn't

lacks : (m : List ℕ) (e : HeaderError) → BreaksHeader m e → has_header m ≡ true → ⊥
lacks m errors.Short b h = true_is_not_false (sym (at_least 64 (length m) (long_of m h)) ∙ too_few 64 (length m) b)
lacks m (errors.BadProtocol p) b h = b.2 (b.1 ∙ begins_of m h)
lacks m (errors.BadSize n) b h = b.3 (b.2 ∙ size_of m h)
lacks m errors.Memory b h = b
lacks m (errors.BadNext at) b h = b

-- bytes that begin with none
pub headless : (m : List ℕ) (e : HeaderError) → BreaksHeader m e → has_header m ≡ false
headless m e b = not_true (has_header m) (λ h. lacks m e b h)
