-- Before any link has come, all are served.
use Rattle.std.proofs.Common.{◌≡◌, ℕ, zero, suc, List, [], Option, None, Some, get_or, replicate, refl, sym, ap, ◌∙◌, subst}
use Rattle.serve_turns.specs.declared.shared_book.view.View.{View}
use Rattle.serve_turns.specs.shared_book.Turns.{first_view}
use Rattle.serve_turns.specs.link_serving.Serving.{AreServed}

module _ {X : Type 0} where
  abbrev none : Option X
  none = None

  apart : (x : X) → none ≡ Some x → ⊥
  apart x e = absurd (let h : None ≡ Some x = e in cc)

  blank : (n at : ℕ) → get_or (replicate n none) at none ≡ none
  blank zero at = refl
  blank (suc n) zero = refl
  blank (suc n) (suc at) = blank n at

  pub blank_served : {B E R K : Type 0} (serves : ℕ → View B E R → X → View B E R → Type 0) (is_at : ℕ → K → Type 0) (n : ℕ)
      (ends : List (Option X)) (book : B) (v : View B E R) → ends ≡ replicate n none → v ≡ first_view book
      → AreServed serves is_at [] 0 ends v
  blank_served serves is_at n ends book v is first = subst (λ w. AreServed serves is_at [] 0 ends w) (sym first) record {
    seat_at = λ _. 0;
    is_first = refl;
    none_own = refl;
    served_now = λ x among. absurd among;
    links = [];
    each = tt;
    told = λ at x e. absurd (apart x (sym (ap (λ (l : List (Option X)). get_or l at none) is ∙ blank n at) ∙ e));
    back = λ n among. absurd among;
    as_many = refl;
  }
