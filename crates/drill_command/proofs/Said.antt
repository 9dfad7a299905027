-- Words, one after the other.
use Rattle.std.proofs.Common.{◌≡◌, ℕ, List, [], ◌∷◌, length, map, sym, ap, ◌∙◌}
use Rattle.std.proofs.lemmas.List.{nil_from_length}

-- a first word, as it is seen, and those behind it
pub behind_first : {X R : Type 0} (v : X → List ℕ) (f : List (List ℕ) → R) (ws : List X) (w : X) (more : List X) (t : List ℕ) → t ≡ v w
    → ws ≡ w ∷ more → f (t ∷ map v more) ≡ f (map v ws)
behind_first v f ws w more t same split =
    ap (λ (s : List ℕ). f (s ∷ map v more)) same ∙ sym (ap (λ l. f (map v l)) split)

-- no word
pub behind_none : {X R : Type 0} (v : X → List ℕ) (f : List (List ℕ) → R) (ws : List X) → length ws ≡ 0 → f [] ≡ f (map v ws)
behind_none v f ws none = sym (ap (λ l. f (map v l)) (nil_from_length ws none))

-- what is the same of all words
pub behind_more : {X R : Type 0} (v : X → List ℕ) (f : List (List ℕ) → R) (ws : List X) (w : X) (more : List X) (r : R)
    → f (v w ∷ map v more) ≡ r → ws ≡ w ∷ more → r ≡ f (map v ws)
behind_more v f ws w more r same split = sym same ∙ sym (ap (λ l. f (map v l)) split)
