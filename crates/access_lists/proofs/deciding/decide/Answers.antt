use Rattle.std.proofs.Common.{ℕ, List, sym, ◌∙◌, subst}
use Rattle.access_lists.specs.declared.rules.Rule.{Rule}
use Rattle.access_lists.specs.Index.{reached}
use Rattle.access_lists.specs.Walk.{AreNumbers}
use Rattle.access_lists.proofs.Walking.{numbers_are, numbers_of, decided_there}
use Rattle.access_lists.proofs.deciding.decide.Goals as goal

pub walked-requires-clause-numbers : goal.walked-requires-clause-numbers
walked-requires-clause-numbers c =
    let numbers = numbers_of c.rules.inside.places c.rules.inside.rules c.as_slice.result.now c.index-as_slice-place.result
    c.as_slice-numbers.result.now c.place_of-place.result c.rules.invariant.1 c.place_of-place.ensures.below c.as_slice.ensures
    c.index-as_slice-place.is c.as_slice-numbers.ensures in
    subst (λ (l : List ℕ). AreNumbers l c.as_slice-2.result.now) (sym numbers)
    (subst (λ (l : List Rule). AreNumbers (reached c.place_of-place.result 0 c.rules.inside.rules) l) (sym c.as_slice-2.ensures)
    (numbers_are c.place_of-place.result c.rules.inside.rules))

pub returns : goal.returns
returns c =
    let numbers = numbers_of c.rules.inside.places c.rules.inside.rules c.as_slice.result.now c.index-as_slice-place.result
    c.as_slice-numbers.result.now c.place_of-place.result c.rules.invariant.1 c.place_of-place.ensures.below c.as_slice.ensures
    c.index-as_slice-place.is c.as_slice-numbers.ensures in
    c.walked.ensures ∙ rw (
      numbers,
      c.as_slice-2.ensures,
      c.as_bytes-2.ensures.value,
      c.as_bytes-3.ensures.value,
      c.asked_of.ensures,
      c.place_of-place.ensures.is,
      c.as_bytes.ensures.value,
      c.rules.view_is,
    )
    (decided_there c.args.rules.now c.args.user.now c.args.path.now c.args.rights)
