-- Operations that are submitted one behind another.
use Rattle.std.proofs.Common.{◌≡◌, ℕ, ◌+◌, List, [], ◌∷◌, ◌++◌, length, reverse, arith, refl, sym, ap, ◌∙◌}
use Rattle.std.proofs.lemmas.List.{append-nil, append_assoc, map-append, reverse-append}
use Rattle.client_values.specs.declared.operations.values.OpKind.{OpKind}
use Rattle.client_book.specs.declared.turn.Turn.{Turn}
use Rattle.client_book.specs.declared.turn.Turn.TheVariants as turns
use Rattle.client_book.specs.declared.turn.Told.{Told}
use Rattle.client_channels.specs.channel_threads.Running.{events_of, submits_from}
use Rattle.client_channels.specs.channel_turns.Turning.{Placed, TurnsOnce}

-- what was submitted, in front of what is left, which is taken from the end
abbrev pub submitted : List Placed → ℕ → List OpKind → List Turn
submitted own number left = events_of own ++ submits_from (number + 1) (reverse left)

-- nothing yet
pub submits_none : (own : List Placed) (ops left : List OpKind) → own ≡ [] → left ≡ reverse ops → reverse (reverse ops) ≡ ops
    → submitted own 0 left ≡ submits_from 1 ops
submits_none own ops left none is back =
    ap (λ (l : List Placed). events_of l ++ submits_from 1 (reverse left)) none
    ∙ ap (λ (l : List OpKind). submits_from 1 (reverse l)) is ∙ ap (λ (l : List OpKind). submits_from 1 l) back

-- one more
pub submits_more : (own more : List Placed) (number : ℕ) (left rest : List OpKind) (kind : OpKind) (told : Told) → left ≡ rest ++ kind ∷ []
    → TurnsOnce own (turns.Submit (number + 1) kind) told more → submitted more (number + 1) rest ≡ submitted own number left
submits_more own more number left rest kind told is h =
    let due = submits_from (number + 1 + 1) (reverse rest) in
    ap (λ (l : List Placed). events_of l ++ due) h.own_is
    ∙ ap (λ (l : List Turn). l ++ due) (map-append (λ (p : Placed). p.1.event) own (h.placed ∷ []))
    ∙ append_assoc (events_of own) (h.placed.1.event ∷ []) due
    ∙ ap (λ (t : Turn). events_of own ++ t ∷ due) h.event
    ∙ sym (ap (λ (l : List OpKind). events_of own ++ submits_from (number + 1) l)
    (ap (λ (l : List OpKind). reverse l) is ∙ reverse-append rest (kind ∷ [])))

-- all of them
pub submits_all : (own : List Placed) (number : ℕ) (left ops : List OpKind) → left ≡ [] → submitted own number left ≡ submits_from 1 ops
    → events_of own ≡ submits_from 1 ops
submits_all own number left ops none is =
    sym (append-nil (events_of own)) ∙ sym (ap (λ (l : List OpKind). submitted own number l) none) ∙ is

pub none_left : {X : Type 0} (xs : List X) → length xs ≡ 0 → xs ≡ []
none_left [] is = refl
none_left (x ∷ xs) is = absurd (omega (arith, is))
