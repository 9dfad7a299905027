-- Fronts of a text, and a text that grows by what was read.
use Rattle.std.proofs.Common.{◌≡◌, ℕ, ◌+◌, ◌-◌, List, ◌++◌, length, take, drop, sym, ap, ◌∙◌, subst}
use Rattle.std.specs.Prelude.{Option}
use Rattle.std.specs.Io.KnownBytes.{Consumes}
use Rattle.std.proofs.KnownBytes.{Consumes-trans}
use Rattle.std.proofs.lemmas.List.{take_rest, length-append}
use Rattle.std.proofs.Math.Seq.{take-add}
use Rattle.base_outside.specs.whole_texts.Outside.{OutsideTakes}

-- a front of what is left behind a front makes a longer front
pub take_on : (at count : ℕ) (text : List ℕ) → take at text ++ take count (take (length text - at) (drop at text)) ≡ take (at + count) text
take_on at count text = rw (take_rest text at) (sym (take-add at count text))

pub read_on : (first left left' : Option (List ℕ)) (text text' : List ℕ) (room count : ℕ) → Consumes first left text
    → OutsideTakes left left' text text' room count → Consumes first left' text'
read_on first left left' text text' room count before takes =
    subst (Consumes first left') (sym takes.added) (Consumes-trans first left left' text takes.bytes before takes.read)

pub grows : (left left' : Option (List ℕ)) (text text' : List ℕ) (room count : ℕ) → OutsideTakes left left' text text' room
    count → length text' ≡ length text + count
grows left left' text text' room count takes = ap length takes.added
    ∙ (length-append text takes.bytes ∙ ap (λ n. length text + n) takes.counted)
