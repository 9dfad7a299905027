-- Messages that were joined are split again.
use Rattle.std.proofs.Common.{◌≡◌, ℕ, zero, suc, Bool, true, false, ◌+◌, ◌^◌, ◌<◌, ◌≤◌, List, [], ◌∷◌, ◌++◌}
use Rattle.std.proofs.Common.{length, drop, refl, sym, ap, subst, ◌∙◌, arith, length-append, append_assoc}
use Rattle.std.specs.Prelude.{nat_lt}
use Rattle.std.proofs.lemmas.Grind.{common_steps}
use Rattle.std.proofs.Math.Seq.{drop-append_seam}
use Rattle.std.proofs.Math.ListN.{drop_of_length-le}
use Rattle.spec_wire.specs.messages.Places.{le, gap_to_8}
use Rattle.spec_wire.specs.messages.Header.{SpellsHeader, IsWritableHeader, header_spelling}
use Rattle.spec_wire.specs.messages.Compound.{HasHeader, AreJoined, IsLast, SpellsCompound}
use Rattle.spec_wire.specs.declared.messages.header.Header.{Header}
use Rattle.spec_wire.specs.declared.messages.header.Span.{Span}
use Rattle.spec_wire.proofs.messages.Numbers.{length-le}
use Rattle.wire_commands.specs.writing.Joining.{JoinedMessage, header_before, joined_message_spelling, message_size}
use Rattle.wire_commands.specs.writing.Joining.{next_place, joined_spelling}
use Rattle.wire_commands.specs.writing.Joining.{spans_from, joined_if, AreJoinable, AreSmall}

record Found (frame : List ℕ) (from : ℕ) (spans : List Span) : Type 0 where
  joined : List Span
  last : Span
  are_joined : AreJoined frame from joined last.start
  is_last : IsLast frame last
  whole : spans ≡ joined ++ last ∷ []

-- what stands behind a front
behind : (front rest : List ℕ) (at : ℕ) → at ≡ length front → drop at (front ++ rest) ≡ rest
behind front rest at e = ap (λ (n : ℕ). drop n (front ++ rest)) e ∙ drop-append_seam front rest

module _ (again : (rest : List ℕ) (h : Header) → IsWritableHeader h → SpellsHeader (header_spelling h ++ rest) h)
    (sized : (h : Header) → IsWritableHeader h → length (header_spelling h) ≡ 64) where
  told : (h : Header) (next : ℕ) → IsWritableHeader (header_before h 0) → next < 256 ^ 4 → IsWritableHeader (header_before h next)
  told h next is small = (
    is.0,
    (
      is.1.0,
      (
        is.1.1.0,
        (is.1.1.1.0, (is.1.1.1.1.0, (is.1.1.1.1.1.0, (is.1.1.1.1.1.1.0, (small, is.1.1.1.1.1.1.1.1))))),
      ),
    ),
  )

  -- the header of a message behind a front
  stands : (front rest : List ℕ) (at : ℕ) (m : JoinedMessage) (next : ℕ) → at ≡ length front
      → IsWritableHeader (header_before m.header next)
      → HasHeader (front ++ (joined_message_spelling m next ++ rest)) at (header_before m.header next)
  stands front rest at m next e is =
      let h : Header = header_before m.header next in
      let same : header_spelling h ++ (m.body ++ rest) ≡ drop at (front ++ (joined_message_spelling m next ++ rest)) =
      sym (behind front (joined_message_spelling m next ++ rest) at e ∙ append_assoc (header_spelling h) m.body rest) in
      subst (λ (l : List ℕ). SpellsHeader l h) same (again (m.body ++ rest) h is)

  size_is : (m : JoinedMessage) (next : ℕ) → IsWritableHeader (header_before m.header next)
      → length (joined_message_spelling m next) ≡ message_size m
  size_is m next is = omega (
    arith,
    length-append (header_spelling (header_before m.header next)) m.body,
    sized (header_before m.header next) is,
  )

  long : (m : JoinedMessage) (ms : List JoinedMessage) → AreJoinable (m ∷ ms) → 64 ≤ length (joined_spelling (m ∷ ms))
  long m [] is = omega (arith, size_is m 0 is, length-append (joined_message_spelling m 0) [])
  long m (n ∷ ns) is =
      let next : ℕ = next_place m in
      let gap : List ℕ = le (gap_to_8 (message_size m)) 0 in
      omega (
        arith,
        size_is m next (told m.header next is.0 is.1),
        length-append (joined_message_spelling m next) gap,
        length-append (joined_message_spelling m next ++ gap) (joined_spelling (n ∷ ns)),
      )

  joined_from : (front : List ℕ) (at : ℕ) (m : JoinedMessage) (ms : List JoinedMessage) → at ≡ length front → AreJoinable (m ∷ ms)
      → Found (front ++ joined_spelling (m ∷ ms)) at (spans_from at (m ∷ ms))
  joined_from front at m [] e is =
      let frame : List ℕ = front ++ joined_spelling (m ∷ []) in
      let end : at + message_size m ≡ length frame = omega (
        arith,
        e,
        size_is m 0 is,
        length-append (joined_message_spelling m 0) [],
        length-append front (joined_spelling (m ∷ [])),
      ) in
      record {
        joined = [];
        last = record { start = at; end = at + message_size m };
        are_joined = refl;
        is_last = (header_before m.header 0, stands front [] at m 0 e is, refl, end);
        whole = refl;
      }
  joined_from front at m (n ∷ ns) e is =
      let next : ℕ = next_place m in
      let gap : List ℕ = le (gap_to_8 (message_size m)) 0 in
      let first : List ℕ = joined_message_spelling m next ++ gap in
      let rest : List ℕ = joined_spelling (n ∷ ns) in
      let frame : List ℕ = front ++ (first ++ rest) in
      let is_next : IsWritableHeader (header_before m.header next) = told m.header next is.0 is.1 in
      let size : length first ≡ next = omega (
        arith,
        size_is m next is_next,
        length-append (joined_message_spelling m next) gap,
        length-le (gap_to_8 (message_size m)) 0,
      ) in
      let place : at + next ≡ length (front ++ first) = omega (arith, e, size, length-append front first) in
      let same : (front ++ first) ++ rest ≡ frame = append_assoc front first rest in
      let later : Found frame (at + next) (spans_from (at + next) (n ∷ ns)) = subst (λ (l : List ℕ). Found l (at + next)
      (spans_from (at + next) (n ∷ ns))) same (joined_from (front ++ first) (at + next) n ns place is.2) in
      let room : at + next + 64 ≤ length frame = omega (
        arith,
        e,
        size,
        long n ns is.2,
        length-append first rest,
        length-append front (first ++ rest),
      ) in
      let header : HasHeader frame at (header_before m.header next) = subst (λ (l : List ℕ). HasHeader (front ++ l) at
      (header_before m.header next)) (sym (append_assoc (joined_message_spelling m next) gap rest))
      (stands front (gap ++ rest) at m next e is_next) in
      record {
        joined = record { start = at; end = at + next } ∷ later.joined;
        last = later.last;
        are_joined = (refl, (header_before m.header next, header, (omega arith, omega arith, room), refl), later.are_joined);
        is_last = later.is_last;
        whole = ap (λ (ss : List Span). record { start = at; end = at + next } ∷ ss) later.whole;
      }

  pub joined_again : (m : JoinedMessage) (ms : List JoinedMessage) → AreJoinable (m ∷ ms) → SpellsCompound (joined_spelling (m ∷ ms))
      (spans_from 0 (m ∷ ms))
  joined_again m ms is =
      let found : Found (joined_spelling (m ∷ ms)) 0 (spans_from 0 (m ∷ ms)) = joined_from [] 0 m ms refl is in
      record { joined = found.joined; last = found.last; are_joined = found.are_joined; is_last = found.is_last; whole = found.whole }

-- ---- one behind the other

some : List JoinedMessage → Bool
some [] = false
some (m ∷ ms) = true

joined_is : (m : JoinedMessage) (ms : List JoinedMessage) → joined_if (some ms) m ++ joined_spelling ms ≡ joined_spelling (m ∷ ms)
unfolding some
joined_is m [] = refl
joined_is m (n ∷ ns) = refl

some_is : (i : ℕ) (ms : List JoinedMessage) → some (drop i ms) ≡ nat_lt i (length ms)
unfolding some
some_is i [] = grind (arith, common_steps)
some_is zero (m ∷ ms) = grind (arith, common_steps)
some_is (suc i) (m ∷ ms) = let h = some_is i ms in grind (arith, common_steps)

pub messages_go_on : (ms : List JoinedMessage) (m : JoinedMessage) (i : ℕ) (out : List ℕ) → drop i ms ≡ m ∷ drop (i + 1) ms
    → joined_spelling ms ≡ out ++ joined_spelling (drop i ms)
    → joined_spelling ms ≡ (out ++ joined_if (nat_lt (i + 1) (length ms)) m) ++ joined_spelling (drop (i + 1) ms)
messages_go_on ms m i out front is =
    is ∙ ap (λ (ns : List JoinedMessage). out ++ joined_spelling ns) front
    ∙ ap (λ (l : List ℕ). out ++ l) (sym (joined_is m (drop (i + 1) ms)) ∙ ap (λ (b : Bool). joined_if b m ++
    joined_spelling (drop (i + 1) ms)) (some_is (i + 1) ms))
    ∙ sym (append_assoc out (joined_if (nat_lt (i + 1) (length ms)) m) (joined_spelling (drop (i + 1) ms)))

-- ---- the size of each but the last

pub is_below : (a b : ℕ) → nat_lt a b ≡ true → a < b
is_below a b e = grind (arith, common_steps)

pub small_at : (ms : List JoinedMessage) (i : ℕ) (m : JoinedMessage) → AreSmall ms → drop i ms ≡ m ∷ drop (i + 1) ms → i + 1 < length ms
    → next_place m < 2 ^ 32
small_at [] i m are is more = absurd (omega (arith, more))
small_at (n ∷ []) i m are is more = absurd (omega (arith, more))
small_at (n ∷ k ∷ ns) zero m are is more = let same : n ≡ m = cc in subst (λ (k : JoinedMessage). next_place k < 2 ^ 32) same are.0
small_at (n ∷ k ∷ ns) (suc i) m are is more =
    let next : suc i + 1 ≡ suc (i + 1) = omega arith in
    small_at (k ∷ ns) i m are.1 (is ∙ ap (λ (j : ℕ). m ∷ drop j (n ∷ k ∷ ns)) next) (omega (arith, more))

small_cons : (m : JoinedMessage) (ms : List JoinedMessage) → (some ms ≡ true → next_place m < 2 ^ 32) → AreSmall ms → AreSmall (m ∷ ms)
unfolding some
small_cons m [] fits are = tt
small_cons m (n ∷ ns) fits are = (fits refl, are)

pub small_on : (ms : List JoinedMessage) (i : ℕ) (m : JoinedMessage) → drop i ms ≡ m ∷ drop (i + 1) ms
    → (nat_lt (i + 1) (length ms) ≡ true → next_place m < 2 ^ 32) → (AreSmall (drop i ms) → AreSmall ms)
    → AreSmall (drop (i + 1) ms) → AreSmall ms
small_on ms i m front fits go are = go (subst AreSmall (sym front) (small_cons m (drop (i + 1) ms) (λ e. fits (sym
    (some_is (i + 1) ms) ∙ e)) are))

pub small_end : (ms : List JoinedMessage) (i : ℕ) → length ms ≤ i → (AreSmall (drop i ms) → AreSmall ms) → AreSmall ms
small_end ms i past go = go (subst AreSmall (sym (drop_of_length-le ms past)) tt)
