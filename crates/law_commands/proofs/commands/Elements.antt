-- The elements of a LOCK read back.
use Rattle.std.proofs.Common.{◌≡◌, ℕ, ◌*◌, List, [], ◌∷◌, ◌++◌, length, drop, flat_map, refl, ap, ◌∙◌, arith, length-append}
use Rattle.std.proofs.lemmas.List.{drop_at}
use Rattle.spec_wire.specs.messages.Places.{number}
use Rattle.spec_wire.specs.messages.Table.{AreWritable}
use Rattle.spec_wire.specs.messages.Lock.{lock_element_table, lock_element_spelling}
use Rattle.law_wire.proofs.messages.Rows.{table_again, length-with_fields, size_of}
use Rattle.spec_exchange.specs.Commands.{Element}
use Rattle.spec_commands.specs.CommandOf.{elements_in}
use Rattle.spec_commands.specs.BodyOf.{element_of}
use Rattle.law_commands.specs.commands.Fitting.{IsElement, AreElements}

abbrev pub all_bytes : List Element → List ℕ
all_bytes es = flat_map (λ e. lock_element_spelling (element_of e)) es

fits : (e : Element) → IsElement e → AreWritable (lock_element_table (element_of e))
fits e is = (is.at, (is.size, (is.flags, tt)))

length-element : (e : Element) → IsElement e → length (lock_element_spelling (element_of e)) ≡ 24
unfolding size_of
length-element e is = length-with_fields (lock_element_table (element_of e)) [] (fits e is) ∙ omega arith

pub length-elements : (es : List Element) → AreElements es → length (all_bytes es) ≡ 24 * length es
length-elements [] is = omega arith
length-elements (e ∷ es) is = omega (
  arith,
  length-append (lock_element_spelling (element_of e)) (all_bytes es),
  length-element e is.0,
  length-elements es is.1,
)

abbrev made : ℕ → ℕ → ℕ → Element
made at size flags = record { at = at; length = size; flags = flags }

one_again : (e : Element) (rest : List ℕ) → IsElement e
    → made (number 8 (lock_element_spelling (element_of e) ++ rest) 0) (number 8 (lock_element_spelling (element_of e)
    ++ rest) 8) (number 4 (lock_element_spelling (element_of e) ++ rest) 16) ≡ e
one_again e rest is =
    let row = table_again (lock_element_table (element_of e)) [] rest 0 refl (fits e is) in
    let m : List ℕ = lock_element_spelling (element_of e) ++ rest in
    let at : number 8 m 0 ≡ e.at = row.0 in
    let size : number 8 m 8 ≡ e.length = row.1.0 in
    let flags : number 4 m 16 ≡ e.flags = row.1.1.0 in
    ap (λ (x : ℕ). made x (number 8 m 8) (number 4 m 16)) at ∙ ap (λ (x : ℕ). made e.at x (number 4 m 16)) size ∙ ap
    (made e.at e.length) flags

pub elements_again : (es : List Element) → AreElements es → elements_in (length es) (all_bytes es) ≡ es
unfolding elements_in
elements_again [] is = refl
elements_again (e ∷ es) is =
    ap (λ (x : Element). x ∷ elements_in (length es) (drop 24 (all_bytes (e ∷ es)))) (one_again e (all_bytes es) is.0)
    ∙ ap (λ (l : List ℕ). e ∷ elements_in (length es) l) (drop_at (lock_element_spelling (element_of e)) (all_bytes es)
    24 (length-element e is.0))
    ∙ ap (λ (l : List Element). e ∷ l) (elements_again es is.1)
