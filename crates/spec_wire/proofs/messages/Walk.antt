-- A walk over a chain of items from the front: what was found so far and what is left say what the whole chain says.
use Rattle.std.proofs.Common.{◌≡◌, ℕ, suc, List, [], ◌∷◌, false, drop, Option, Some, None, sym, ap, ◌∙◌}
use Rattle.spec_wire.specs.messages.Places.{number}
use Rattle.spec_wire.specs.messages.Chain.{is_badly_linked, piece, IsChain, IsChainOf, BreaksBehind, BreaksChain}

-- `all` says what a list of items says, `of` what one says, `both` what two parts say together.
module _ {V E C : Type 0} (Is : List ℕ → V → Type 0) (fault : List ℕ → Option E) (of : V → C) (both : C → C → C)
    (none : C) (all : List V → C) where
  -- bytes are items that say c
  pub record Says (bytes : List ℕ) (c : C) : Type 0 where
    pub items : List V
    pub chain : IsChainOf Is bytes items
    pub says : c ≡ all items

  -- so much was found before the rest
  pub record Walked (bytes rest : List ℕ) (found : C) : Type 0 where
    pub some : bytes ≡ [] → ⊥
    pub later : (v : V) (vs : List V) → IsChain Is rest v vs → Says bytes (both found (all (v ∷ vs)))
    pub break : (n : ℕ) (e : E) → BreaksBehind fault n rest e → BreaksChain fault bytes e

  pub begins : ((c : C) → both none c ≡ c) → (bytes : List ℕ) → (bytes ≡ [] → ⊥) → Walked bytes bytes none
  begins unit bytes some = record {
    some = some;
    later = λ v vs chain. record { items = v ∷ vs; chain = chain; says = unit (all (v ∷ vs)) };
    break = λ n e b. record { some = some; count = n; break = b };
  }

  module _ (step : (v : V) (vs : List V) → all (v ∷ vs) ≡ both (of v) (all vs)) where
    pub goes_on : ((a b c : C) → both (both a b) c ≡ both a (both b c)) → (bytes rest : List ℕ) (found : C) (v : V)
        → Walked bytes rest found
        → fault rest ≡ None → (number 4 rest 0 ≡ 0 → ⊥) → is_badly_linked rest ≡ false → Is (piece rest) v
        → Walked bytes (drop (number 4 rest 0) rest) (both found (of v))
    goes_on assoc bytes rest found v walked whole more link is = record {
      some = walked.some;
      later = λ w ws chain.
          let t = walked.later v (w ∷ ws) (more, link, is, chain) in
          record {
            items = t.items;
            chain = t.chain;
            says = assoc found (of v) (all (w ∷ ws)) ∙ ap (both found) (sym (step v (w ∷ ws))) ∙ t.says;
          };
      break = λ n e b. walked.break (suc n) e (whole, more, b);
    }

    pub ends : ((c : C) → both c none ≡ c) → all [] ≡ none → (bytes rest : List ℕ) (found : C) (v : V) → Walked bytes rest found
        → number 4 rest 0 ≡ 0 → is_badly_linked rest ≡ false → Is (piece rest) v → Says bytes (both found (of v))
    ends unit nothing bytes rest found v walked last link is =
        let t = walked.later v [] (last, link, is) in
        let one : all (v ∷ []) ≡ of v = step v [] ∙ ap (both (of v)) nothing ∙ unit (of v) in
        record { items = t.items; chain = t.chain; says = ap (both found) (sym one) ∙ t.says }

  -- the first item of the rest breaks
  pub breaks : (bytes rest : List ℕ) (found : C) (e : E) → Walked bytes rest found → fault rest ≡ Some e → BreaksChain fault bytes e
  breaks bytes rest found e walked here = walked.break 0 e here
