-- A link that was new, and what passed over it.
use Rattle.std.proofs.Common.{◌≡◌, ℕ, ◌+◌, Bool, List, refl, subst}
use Rattle.serve_turns.specs.declared.shared_book.view.View.{View}
use Rattle.serve_turns.specs.link_serving.Passage.{IsLinkAt, IsNewLink, IsOfLink, Passage, ServesOn, ServesOver}

module _ {K B E R X : Type 0} (told : Type 0) (given left written : K → List ℕ) (faults : K → ℕ) (ended : K → Bool) (number : K → ℕ)
    (serves : ℕ → Passage → View B E R → X → View B E R → Type 0) (before others : ℕ) (sent : List (List ℕ)) where
  pub over_new : (place : ℕ) (from : View B E R) (old : K) (end : X) (to : View B E R) (new : K)
      → IsNewLink told given left written faults ended old
      → ServesOn told given left written faults ended serves (place + 1) from old end to new
      → IsLinkAt told number left before others sent place old
      → ServesOver (IsOfLink told given left written faults ended number before others sent) serves (place + 1) from end to
  over_new place from old end to new fresh s accepted = record {
    passage = s.passage;
    passed = record {
      place = place;
      is_place = refl;
      link = old;
      link' = new;
      is_new = fresh;
      accepted = accepted;
      passes = s.passes;
    };
    served = s.served;
  }

-- a link was served by a service at its place, by other names of both
pub on_as : {K B E R X S : Type 0} (told : Type 0) (given left written : K → List ℕ) (faults : K → ℕ) (ended : K → Bool)
    (serves : S → ℕ → Passage → View B E R → X → View B E R → Type 0) (old new : S) (place same : ℕ) (from : View B E R) (link : K) (end : X)
    (to : View B E R) (behind : K) → old ≡ new → place ≡ same
    → ServesOn told given left written faults ended (serves old) (place + 1) from link end to behind
    → ServesOn told given left written faults ended (serves new) (same + 1) from link end to behind
on_as told given left written faults ended serves old new place same from link end to behind is at on =
    subst (λ s. ServesOn told given left written faults ended (serves s) (same + 1) from link end to behind) is
    (subst (λ (n : ℕ). ServesOn told given left written faults ended (serves old) (n + 1) from link end to behind) at on)
