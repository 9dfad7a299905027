-- The range that holds a LOCK up stands, and conflicts.
use Rattle.std.proofs.Common.{◌≡◌, Bool, true, false, if◌then◌else◌, List, [], ◌∷◌, Option, Some, None, refl, subst}
use Rattle.std.specs.Prelude.{Contains}
use Rattle.std.proofs.lemmas.List.Elements.{Contains-append_left, Contains-append_right, Contains-push}
use Rattle.spec_exchange.specs.State.{Server, Message, Range}
use Rattle.spec_exchange.specs.CheckOpen.{file_of}
use Rattle.spec_exchange.specs.Check.{check}
use Rattle.law_waiting.specs.held.Held.{IsHeldUp, awaited, ranges_conflict, first_in_the_way, held_by, is_not_granted, would_wait}

chosen : (b : Bool) (q : Range) (rs : List Range) (wanted r : Range) → ranges_conflict q wanted ≡ b
    → (first_in_the_way rs wanted ≡ Some r → Contains rs r × (ranges_conflict r wanted ≡ true))
    → (if b then Some q else first_in_the_way rs wanted) ≡ Some r → Contains (q ∷ rs) r × (ranges_conflict r wanted ≡ true)
chosen true q rs wanted r e rest h =
    let same : q ≡ r = cc in (
      subst (λ x. Contains (q ∷ rs) x) same (Contains-append_left (q ∷ []) rs q (Contains-push [] q)),
      subst (λ x. ranges_conflict x wanted ≡ true) same e,
    )
chosen false q rs wanted r e rest h = (Contains-append_right (q ∷ []) rs r (rest h).0, (rest h).1)

first_stands : (rs : List Range) (wanted r : Range) → first_in_the_way rs wanted ≡ Some r → Contains rs r × (ranges_conflict r wanted ≡ true)
unfolding first_in_the_way
first_stands [] wanted r h = absurd (cc)
first_stands (q ∷ rs) wanted r h = chosen (ranges_conflict q wanted) q rs wanted r refl (first_stands rs wanted r) h

asked : (s : Server) (m : Message) (r : Range) (a : Option Range) → awaited m.command ≡ a → held_by s a ≡ Some r → IsHeldUp s m
asked s m r None e h = absurd (cc)
asked s m r (Some wanted) e h =
    let f : Contains (s.ranges (file_of s wanted.owner)) r × (ranges_conflict r wanted ≡ true) = first_stands
    (s.ranges (file_of s wanted.owner)) wanted r h in
    record { wanted = wanted; standing = r; asks = e; stands = f.0; conflict = f.1 }

tested : (b : Bool) (s : Server) (m : Message) (r : Range) → (if b then held_by s (awaited m.command) else None) ≡ Some r → IsHeldUp s m
tested true s m r h = asked s m r (awaited m.command) refl h
tested false s m r h = absurd (cc)

pub held_is : (s : Server) (m : Message) (r : Range) → would_wait s m ≡ Some r → IsHeldUp s m
unfolding would_wait
held_is s m r h = tested (is_not_granted (check s m)) s m r h
