-- A text is its first piece and then the pieces of the rest.
use Rattle.std.proofs.Common.{◌≡◌, ℕ, ◌+◌, ◌-◌, ◌≤◌, List, [], ◌∷◌, length, take, drop, refl, sym, subst, arith, Bool}
use Rattle.std.proofs.Common.{true, false, cond, Option, Some, None, nat_eq, nat_lt}
use Rattle.std.specs.Prelude.{position, ◌==◌, not, is_some}
use Rattle.std.proofs.lemmas.Bool.Decides.{nat_tests}
use denote.Ref.{Bor}
use Rattle.std.specs.List.{position_or_len}
use Rattle.std.proofs.lemmas.List.{take_rest}
use Rattle.std.proofs.lemmas.List.Elements.{All-from_get_or}
use Rattle.std.proofs.lemmas.List.Splits.{slice_split_first, slice_split_none, length-slice_split}
use Rattle.std.proofs.lemmas.List.Sums.{fails_before_first}
use Rattle.std.proofs.lemmas.Bool.{ltb-true, ltb-false}
use Rattle.std.proofs.lemmas.Option.{cond_some}
use Rattle.script_words.specs.Pieces.{pieces, pieces_left}

cond_none : (b : Bool) (x : ℕ) → cond b (Some x) None ≡ None → b ≡ false
cond_none true x e = cc
cond_none false x e = refl

pub pieces_at : (separator : ℕ) (text : List ℕ) (place : ℕ)
    → position (λ byte. byte == separator) text ≡ Some place
    → pieces separator text ≡ take place text ∷ pieces separator (take (length text - (place + 1)) (drop (place + 1) text))
pieces_at separator text place found =
    let p : ℕ → Bool = λ byte. byte == separator in
    let split = cond_some (nat_lt (position_or_len p text) (length text)) (position_or_len p text) place found in
    let first = slice_split_first p text 0 (ltb-true _ _ split.0) in
    rw (take_rest text (place + 1)) (subst (λ n. pieces separator text ≡ take n text ∷ pieces separator (drop (n + 1) text)) split.1 first)

pub pieces_whole : (separator : ℕ) (text : List ℕ)
    → position (λ byte. byte == separator) text ≡ None
    → pieces separator text ≡ text ∷ []
pieces_whole separator text missing =
    let p : ℕ → Bool = λ byte. byte == separator in
    let past : length text ≤ position_or_len p text =
    ltb-false _ _ (cond_none (nat_lt (position_or_len p text) (length text)) (position_or_len p text) missing) in
    slice_split_none p text (All-from_get_or (λ x. p x ≡ false) text 0 (λ i h. fails_before_first p text i 0 (omega arith)))

some_left : (n : ℕ) → nat_eq (n + 1) 0 ≡ false
some_left n = grind (arith, nat_tests)

pub is_none_left : (separator : ℕ) (rest : Option (Bor (List ℕ))) (none : Bool) → is_some rest ≡ not none → none
    ≡ nat_eq (length (pieces_left separator rest)) 0
is_none_left separator None true h = refl
is_none_left separator None false h = cc
is_none_left separator (Some text) true h = cc
is_none_left separator (Some text) false h = rw (length-slice_split (λ byte. byte == separator) text.now) (sym (some_left _))

pub pieces_left_over : (separator : ℕ) (text : List ℕ) → nat_eq (length (pieces separator text)) 0 ≡ false
pieces_left_over separator text = rw (length-slice_split (λ byte. byte == separator) text) (some_left _)
