-- Lists of a frame's messages by their places.
use Rattle.std.proofs.Common.{◌≡◌, ℕ, zero, suc, ◌+◌, ◌≤◌, ◌<◌, List, [], ◌∷◌}
use Rattle.std.proofs.Common.{◌++◌, length, Option, Some, None, slice_get, ◌⊎◌, inl, inr}
use Rattle.std.proofs.Common.{refl, sym, ap, subst, ◌∙◌, arith}
use Rattle.std.proofs.lemmas.Option.{slice_get_within}
use Rattle.spec_world.specs.Hearing as hearing
use Rattle.conn_core.specs.declared.frame_messages.checked.Checked.{Checked}
use Rattle.conn_core.specs.declared.frame_messages.checked.CheckedFrame.{CheckedFrame}
use Rattle.conn_core.specs.frame_messages.Checking.{AreInOrder, ShowsGoing, ShowsMessages, message_in}
use Rattle.conn_core.proofs.frame_messages.Places.{apart}
use Rattle.conn_core.specs.related.Carrying.{SameOthers}
use Rattle.conn_core.specs.message_replies.Replying.{ShowsTaken}
use Rattle.conn_core.proofs.frame_events.Turns.{one_checked}

or_this : Checked → Option Checked → Checked
or_this d None = d
or_this d (Some m) = m

pub one_message : (m n : Checked) → Some m ≡ Some n → m ≡ n
unfolding or_this
one_message m n e = ap (λ (o : Option Checked). or_this m o) e

pub there : (ms : List Checked) (i : ℕ) → i < length ms → (m : Checked) × (slice_get ms i ≡ Some m)
there [] i less = absurd (omega (arith, less))
there (m ∷ ms) zero less = (m, refl)
there (m ∷ ms) (suc i) less = there ms i (omega (arith, less))

pub there_checked : (cs : List hearing.Checked) (i : ℕ) → i < length cs → (c : hearing.Checked) × (slice_get cs i ≡ Some c)
there_checked [] i less = absurd (omega (arith, less))
there_checked (c ∷ cs) zero less = (c, refl)
there_checked (c ∷ cs) (suc i) less = there_checked cs i (omega (arith, less))

-- ---- one more at the end

pub last_message : (ms : List Checked) (n : Checked) (i : ℕ) (m : Checked) → slice_get (ms ++ n ∷ []) i ≡ Some m
    → (slice_get ms i ≡ Some m) ⊎ ((i ≡ length ms) × (n ≡ m))
last_message [] n zero m e = inr (refl, one_message n m e)
last_message [] n (suc zero) m e = absurd cc
last_message [] n (suc (suc i)) m e = absurd cc
last_message (x ∷ xs) n zero m e = inl e
last_message (x ∷ xs) n (suc i) m e = behind (last_message xs n i m e)
  where
    behind : (slice_get xs i ≡ Some m) ⊎ ((i ≡ length xs) × (n ≡ m))
        → (slice_get xs i ≡ Some m) ⊎ ((suc i ≡ suc (length xs)) × (n ≡ m))
    behind (inl f) = inl f
    behind (inr (p, q)) = inr (ap (λ (k : ℕ). suc k) p, q)

pub last_checked : (cs : List hearing.Checked) (t : hearing.Checked) (i : ℕ) (c : hearing.Checked) → slice_get (cs ++ t ∷ []) i ≡ Some c
    → (slice_get cs i ≡ Some c) ⊎ ((i ≡ length cs) × (t ≡ c))
last_checked [] t zero c e = inr (refl, one_checked t c e)
last_checked [] t (suc zero) c e = absurd cc
last_checked [] t (suc (suc i)) c e = absurd cc
last_checked (x ∷ xs) t zero c e = inl e
last_checked (x ∷ xs) t (suc i) c e = behind (last_checked xs t i c e)
  where
    behind : (slice_get xs i ≡ Some c) ⊎ ((i ≡ length xs) × (t ≡ c))
        → (slice_get xs i ≡ Some c) ⊎ ((suc i ≡ suc (length xs)) × (t ≡ c))
    behind (inl f) = inl f
    behind (inr (p, q)) = inr (ap (λ (k : ℕ). suc k) p, q)

pub checked_within : (cs : List hearing.Checked) (i : ℕ) (c : hearing.Checked) → slice_get cs i ≡ Some c → i < length cs
checked_within cs i c e = slice_get_within cs i c e

-- ---- two lists with the same members

pub same_list : (ds ms : List Checked) → length ds ≡ length ms
    → ((i : ℕ) (m : Checked) → slice_get ds i ≡ Some m → slice_get ms i ≡ Some m) → ds ≡ ms
same_list [] [] long h = refl
same_list [] (m ∷ ms) long h = absurd (omega (arith, long))
same_list (d ∷ ds) [] long h = absurd (omega (arith, long))
same_list (d ∷ ds) (m ∷ ms) long h =
    let first : d ≡ m = sym (one_message m d (h 0 d refl)) in
    let rest : ds ≡ ms = same_list ds ms (omega (arith, long)) (λ i n e. h (suc i) n e) in
    λ i. first i ∷ rest i

-- ---- a message beside one that changed

pub going_on : (x y : CheckedFrame) (at i : ℕ) (o m : Checked) (c : hearing.Checked) → AreInOrder x → SameOthers at x y → (i ≡ at → ⊥)
    → slice_get x.messages.items at ≡ Some o → slice_get x.messages.items i ≡ Some m → ShowsGoing x.bytes.items m c
    → ShowsGoing y.bytes.items m c
going_on x y at i o m c order others differs is_at is_m shows =
    let whole : m.span.start + 64 ≤ m.span.end = shows.whole in
    let first : m.span.start ≤ m.span.end = omega (arith, whole) in
    let inside : m.span.end ≤ length x.bytes.items = shows.inside in
    let size : length y.bytes.items ≡ length x.bytes.items = others.size in
    let same : message_in y.bytes.items m ≡ message_in x.bytes.items m =
    others.bytes m o is_at (apart 0 (length x.bytes.items) x.messages.items i at m o order differs is_m is_at) first in
    record {
      whole = shows.whole;
      inside = omega (arith, inside, size);
      header = shows.header;
      bytes_are = shows.bytes_are ∙ sym same;
      raw = λ none. shows.raw none ∙ sym same;
      related = shows.related;
      fault = shows.fault;
      denied = shows.denied;
    }

-- the same message there as before
pub was_there : (x y : CheckedFrame) (at i : ℕ) (m : Checked) → SameOthers at x y → (i ≡ at → ⊥) → slice_get y.messages.items i ≡ Some m
    → slice_get x.messages.items i ≡ Some m
was_there x y at i m others differs e =
    let within : i < length y.messages.items = slice_get_within y.messages.items i m e in
    let count : length y.messages.items ≡ length x.messages.items = others.count in
    let old = there x.messages.items i (omega (arith, within, count)) in
    subst (λ (n : Checked). slice_get x.messages.items i ≡ Some n)
    (one_message old.0 m (sym (others.messages i old.0 differs old.1) ∙ e)) old.1

-- ---- all of them by their places, and one after the other

pub at_places : (bytes : List ℕ) (ms : List Checked) (cs : List hearing.Checked) → ShowsMessages bytes ms cs → (i : ℕ) (m : Checked)
    (c : hearing.Checked) → slice_get ms i ≡ Some m → slice_get cs i ≡ Some c → ShowsGoing bytes m c × (m.fails ≡ None)
at_places bytes [] cs p zero m c e g = absurd cc
at_places bytes [] cs p (suc i) m c e g = absurd cc
at_places bytes (x ∷ xs) [] p i m c e g = absurd p
at_places bytes (x ∷ xs) (y ∷ ys) p zero m c e g =
    let first : x ≡ m = one_message x m e in
    let second : y ≡ c = one_checked y c g in (
      subst (λ (n : Checked). ShowsGoing bytes n c) first (subst (λ (d : hearing.Checked). ShowsGoing bytes x d) second p.0),
      sym (ap (λ (n : Checked). n.fails) first) ∙ p.1,
    )
at_places bytes (x ∷ xs) (y ∷ ys) p (suc i) m c e g = at_places bytes xs ys p.2 i m c e g

pub same_long : (bytes : List ℕ) (ms : List Checked) (cs : List hearing.Checked) → ShowsMessages bytes ms cs → length ms ≡ length cs
same_long bytes [] [] p = refl
same_long bytes [] (c ∷ cs) p = absurd p
same_long bytes (m ∷ ms) [] p = absurd p
same_long bytes (m ∷ ms) (c ∷ cs) p = ap (λ (n : ℕ). suc n) (same_long bytes ms cs p.2)

pub in_a_row : (bytes : List ℕ) (ms : List Checked) (cs : List hearing.Checked) → length ms ≡ length cs
    → ((i : ℕ) (m : Checked) (c : hearing.Checked) → slice_get ms i ≡ Some m → slice_get cs i ≡ Some c → ShowsGoing bytes m c)
    → ShowsTaken bytes ms cs
in_a_row bytes [] [] long h = tt
in_a_row bytes [] (c ∷ cs) long h = absurd (omega (arith, long))
in_a_row bytes (m ∷ ms) [] long h = absurd (omega (arith, long))
in_a_row bytes (m ∷ ms) (c ∷ cs) long h = (h 0 m c refl refl, in_a_row bytes ms cs (omega (arith, long)) (λ i n d e g. h (suc i) n d e g))
