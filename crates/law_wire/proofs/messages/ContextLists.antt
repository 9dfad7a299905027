-- The contexts of a NEGOTIATE: what stands has no fault, what has no fault stands, and a list that is written at a
-- multiple of 8 stands there.
use Rattle.std.proofs.Common.{◌≡◌, ℕ, zero, suc, ◌+◌, ◌-◌, ◌%◌, ◌≤◌, ◌<◌, ◌⊎◌, List, [], length, take, drop, None, refl}
use Rattle.std.proofs.Common.{sym, ap, subst, ◌∙◌, arith, inl, inr, Bool, true, false}
use Rattle.std.specs.Prelude.{◌==◌, if◌then◌else◌}
use Rattle.std.proofs.lemmas.Grind.{common_steps}
use Rattle.std.proofs.lemmas.List.{take-take, drop-drop, drop-take, nil_from_length}
use Rattle.std.proofs.lemmas.Bool.{cases_lt}
use Rattle.spec_wire.specs.messages.Places.{number, number_of, bytes_at, gap_to_8}
use Rattle.spec_wire.specs.messages.Contexts.{context_place, context_end, contexts_end, contexts_size, contexts_fault}
use Rattle.spec_wire.specs.messages.Contexts.{AreContexts, contexts_told, contexts_gap}
use Rattle.spec_wire.proofs.messages.ContextEnds.{ends_behind, none_more, no_contexts, no_contexts_fault}

inside_fault : (m : List ℕ) (at count fixed : ℕ) → fixed ≤ at → at % 8 ≡ 0 → contexts_end m at count ≤ length m
    → contexts_fault m at count fixed ≡ None
unfolding contexts_fault
inside_fault m at count fixed behind whole inside =
    let begun : at ≤ length m = omega (arith, ends_behind count m at, inside) in
    grind (arith, common_steps)

pub no_list_fault : (m : List ℕ) (at count fixed : ℕ) (part : List ℕ) → AreContexts m at count fixed part
    → contexts_fault m at count fixed ≡ None
no_list_fault m at count fixed part is = placed is.place
  where
    placed : (count ≡ 0) ⊎ (fixed ≤ at) × (at % 8 ≡ 0) × (contexts_end m at count ≤ length m) → contexts_fault m at count fixed ≡ None
    placed (inl none) = no_contexts_fault m at count fixed none
    placed (inr inside) = inside_fault m at count fixed inside.0 inside.1 inside.2

pub list_stands_where : (m : List ℕ) (at count fixed : ℕ) → contexts_fault m at count fixed ≡ None → (count ≡ 0)
    ⊎ (fixed ≤ at) × (at % 8 ≡ 0) × (contexts_end m at count ≤ length m)
unfolding contexts_fault
list_stands_where m at count fixed none = grind (arith, common_steps)

pub contexts_stand : (m : List ℕ) (at count fixed : ℕ) → contexts_fault m at count fixed ≡ None → AreContexts m at count
    fixed (bytes_at (contexts_size m at count) m at)
contexts_stand m at count fixed none = record { bytes = refl; place = list_stands_where m at count fixed none }

-- a number inside a part is one of the message
number_within : (w : ℕ) (m part : List ℕ) (at x : ℕ) → bytes_at (length part) m at ≡ part → x + w ≤ length part
    → number w m (at + x) ≡ number w part x
unfolding bytes_at
number_within w m part at x is inside =
    let size : x + (length part - x) ≡ length part = omega arith in
    let behind : drop x part ≡ take (length part - x) (drop (at + x) m) =
    ap (drop x) (sym is) ∙ ap (λ (k : ℕ). drop x (take k (drop at m))) (sym size) ∙ drop-take x (length part - x)
    (drop at m) ∙ ap (take (length part - x)) (drop-drop x at m) in
    sym (ap (λ (l : List ℕ). number_of (take w l)) behind ∙ ap number_of (take-take w (length part - x) (drop (at + x) m) (omega arith)))

-- contexts that stand in a part end in the message where they end in the part
pub ends_shifted : (n : ℕ) (m part : List ℕ) (at e : ℕ) → bytes_at (length part) m at ≡ part → at % 8 ≡ 0
    → contexts_end part e n ≤ length part → contexts_end m (at + e) n ≡ at + contexts_end part e n
unfolding contexts_end
ends_shifted zero m part at e is whole inside = refl
ends_shifted (suc n) m part at e is whole inside =
    let place : context_place (at + e) ≡ at + context_place e = omega arith in
    let later : context_end part (context_place e) ≤ contexts_end part (context_end part (context_place e)) n =
    ends_behind n part (context_end part (context_place e)) in
    let length_there : number 2 m (at + (context_place e + 2)) ≡ number 2 part (context_place e + 2) = number_within 2 m
    part at (context_place e + 2) is (omega (arith, later, inside)) in
    let told : number 2 m (context_place (at + e) + 2) ≡ number 2 part (context_place e + 2) =
    ap (λ (k : ℕ). number 2 m k) (omega (arith, place)) ∙ length_there in
    let end : context_end m (context_place (at + e)) ≡ at + context_end part (context_place e) = omega (arith, place, told) in
    ap (λ (k : ℕ). contexts_end m k n) end ∙ ends_shifted n m part at (context_end part (context_place e)) is whole inside

-- a list of contexts at a multiple of 8
list_at : (m part : List ℕ) (count at fixed : ℕ) → contexts_end part 0 count ≡ length part → fixed ≤ at → at % 8 ≡ 0
    → bytes_at (length part) m at ≡ part → at + length part ≤ length m → AreContexts m at count fixed part
list_at m part count at fixed whole behind aligned is inside =
    let shifted : contexts_end m (at + 0) count ≡ at + contexts_end part 0 count = ends_shifted count m part at 0 is
    aligned (omega (arith, whole)) in
    let end : contexts_end m at count ≡ at + length part = ap (λ (k : ℕ). contexts_end m k count) (omega arith)
    ∙ shifted ∙ omega (arith, whole) in
    let size : contexts_size m at count ≡ length part = omega (arith, end) in
    record { bytes = sym is ∙ ap (λ (k : ℕ). bytes_at k m at) (sym size); place = inr (behind, aligned, omega (arith, end, inside)) }

told_where : (empty : Bool) (at : ℕ) → (empty ≡ true → ⊥) → (if empty then 0 else at) ≡ at
told_where true at some = absurd (some refl)
told_where false at some = refl

none_where : (n : ℕ) → (n == 0) ≡ true → n ≡ 0
none_where n e = grind (arith, common_steps)

told_at : (count behind : ℕ) → 0 < count → contexts_told count behind ≡ behind + gap_to_8 behind
told_at count behind some = told_where (count == 0) (behind + gap_to_8 behind) (λ e. absurd (omega (arith, none_where count e, some)))

gap_where : (empty : Bool) (gap : ℕ) → (empty ≡ true → ⊥) → (if empty then 0 else gap) ≡ gap
gap_where true gap some = absurd (some refl)
gap_where false gap some = refl

gap_at : (count behind : ℕ) → 0 < count → contexts_gap count behind ≡ gap_to_8 behind
gap_at count behind some = gap_where (count == 0) (gap_to_8 behind) (λ e. absurd (omega (arith, none_where count e, some)))

-- Contexts that are written behind a gap, told as their place unless there are none.
pub contexts_again : (m part : List ℕ) (count behind at fixed : ℕ) → contexts_end part 0 count ≡ length part → at
    ≡ contexts_told count behind → fixed ≤ behind
    → bytes_at (length part) m (behind + contexts_gap count behind) ≡ part → behind + contexts_gap count behind + length
    part ≤ length m → AreContexts m at count fixed part
contexts_again m part count behind at fixed whole is after bytes inside = by_count (cases_lt 0 count)
  where
    by_count : (0 < count) ⊎ (count ≤ 0) → AreContexts m at count fixed part
    by_count (inl some) =
        let gap = gap_at count behind some in
        let place : behind + contexts_gap count behind ≡ behind + gap_to_8 behind = omega (arith, gap) in
        let there : bytes_at (length part) m (behind + gap_to_8 behind) ≡ part =
        ap (λ (k : ℕ). bytes_at (length part) m k) (sym place) ∙ bytes in
        subst (λ (k : ℕ). AreContexts m k count fixed part) (sym (is ∙ told_at count behind some))
        (list_at m part count (behind + gap_to_8 behind) fixed whole (omega (arith, after)) (omega arith) there
        (omega (arith, place, inside)))
    by_count (inr few) =
        let none : count ≡ 0 = omega (arith, few) in
        let empty : part ≡ [] = nil_from_length part (sym whole ∙ none_more count part 0 none) in
        subst (λ (l : List ℕ). AreContexts m at count fixed l) (sym empty) (no_contexts m at count fixed none)
