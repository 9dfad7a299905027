-- Chains of items: at most one list of items stands, what stands breaks nothing, there is at most one break, and a chain
-- that is written stands.
use Rattle.std.proofs.Common.{◌≡◌, ℕ, zero, suc, ◌+◌, ◌%◌, ◌<◌, ◌≤◌, Bool, true, false, List, [], ◌∷◌, ◌++◌, length}
use Rattle.std.proofs.Common.{take, drop, Option, None, refl, sym, ap, subst, ◌∙◌, append_assoc, arith, length-append}
use Rattle.std.specs.Prelude.{◌==◌, if◌then◌else◌}
use Rattle.std.proofs.lemmas.Grind.{common_steps}
use Rattle.std.proofs.lemmas.List.{take_at, drop_at, take_all}
use Rattle.spec_wire.specs.messages.Places.{number, le, gap_to_8}
use Rattle.spec_wire.specs.messages.Chain.{is_badly_linked, piece, IsChain, IsChainOf, BreaksBehind, BreaksChain, chain_spelling}
use Rattle.spec_wire.proofs.messages.Numbers.{length-le}

-- ---- the link of the first item

last_piece : (m : List ℕ) → number 4 m 0 ≡ 0 → piece m ≡ m
unfolding piece
last_piece m e = rw e refl

linked_piece : (m : List ℕ) → (number 4 m 0 ≡ 0 → ⊥) → piece m ≡ take (number 4 m 0) m
unfolding piece
linked_piece m some = grind (arith, common_steps)

abbrev no_bytes : List ℕ
no_bytes = []

piece_of_nothing : (some : Bool) (next : ℕ) → (if some then no_bytes else take next no_bytes) ≡ no_bytes
piece_of_nothing true next = refl
piece_of_nothing false next = take_all next [] (omega arith)

last_link : (m : List ℕ) → number 4 m 0 ≡ 0 → is_badly_linked m ≡ false
unfolding is_badly_linked
last_link m e = rw e refl

good_link : (m : List ℕ) → number 4 m 0 % 8 ≡ 0 → number 4 m 0 ≤ length m → is_badly_linked m ≡ false
unfolding is_badly_linked
good_link m whole inside = grind (arith, common_steps)

-- ---- what stands in a chain

module _ {V : Type 0} (Is : List ℕ → V → Type 0) where
  module _ (unique : (m : List ℕ) (v w : V) → Is m v → Is m w → v ≡ w) where
    same_chain : (m : List ℕ) (v w : V) (vs ws : List V) → IsChain Is m v vs → IsChain Is m w ws → (v ∷ vs) ≡ (w ∷ ws)
    same_chain m v w [] [] s t = ap (λ (x : V). x ∷ []) (unique (piece m) v w s.2 t.2)
    same_chain m v w [] (y ∷ ys) s t = absurd (t.0 s.0)
    same_chain m v w (x ∷ xs) [] s t = absurd (s.0 t.0)
    same_chain m v w (x ∷ xs) (y ∷ ys) s t =
        let here : v ≡ w = unique (piece m) v w s.2 t.2 in
        let later : (x ∷ xs) ≡ (y ∷ ys) = same_chain (drop (number 4 m 0) m) x y xs ys s.3 t.3 in
        ap (λ (a : V). a ∷ x ∷ xs) here ∙ ap (λ (b : List V). w ∷ b) later

    nothing_stands : ((v : V) → Is [] v → ⊥) → (v : V) (vs : List V) → IsChain Is [] v vs → ⊥
    unfolding piece
    nothing_stands none v [] s = none v (subst (λ (b : List ℕ). Is b v) (piece_of_nothing (number 4 [] 0 == 0) (number 4 [] 0)) s.2)
    nothing_stands none v (w ∷ ws) s = none v (subst (λ (b : List ℕ). Is b v) (piece_of_nothing (number 4 [] 0 == 0) (number 4 [] 0)) s.2)

    pub same_items : ((v : V) → Is [] v → ⊥) → (m : List ℕ) (vs ws : List V) → IsChainOf Is m vs → IsChainOf Is m ws → vs ≡ ws
    same_items none m [] [] s t = refl
    same_items none m [] (w ∷ ws) s t = absurd (nothing_stands none w ws (subst (λ (b : List ℕ). IsChain Is b w ws) s t))
    same_items none m (v ∷ vs) [] s t = absurd (nothing_stands none v vs (subst (λ (b : List ℕ). IsChain Is b v vs) t s))
    same_items none m (v ∷ vs) (w ∷ ws) s t = same_chain m v w vs ws s t

  module _ {E : Type 0} (fault : List ℕ → Option E) where
    unbroken : ((m : List ℕ) (v : V) → is_badly_linked m ≡ false → Is (piece m) v → fault m ≡ None)
        → (n : ℕ) (m : List ℕ) (e : E) (v : V) (vs : List V) → IsChain Is m v vs → BreaksBehind fault n m e → ⊥
    unbroken whole zero m e v [] s b = absurd (let none = whole m v s.1 s.2 in cc)
    unbroken whole zero m e v (w ∷ ws) s b = absurd (let none = whole m v s.1 s.2 in cc)
    unbroken whole (suc n) m e v [] s b = b.1 s.0
    unbroken whole (suc n) m e v (w ∷ ws) s b = unbroken whole n (drop (number 4 m 0) m) e w ws s.3 b.2

    pub no_break : ((m : List ℕ) (v : V) → is_badly_linked m ≡ false → Is (piece m) v → fault m ≡ None)
        → (m : List ℕ) (e : E) (vs : List V) → IsChainOf Is m vs → BreaksChain fault m e → ⊥
    no_break whole m e [] s b = b.some s
    no_break whole m e (v ∷ vs) s b = unbroken whole b.count m e v vs s b.break

-- ---- at most one break

module _ {E : Type 0} (fault : List ℕ → Option E) where
  same_behind : (n k : ℕ) (m : List ℕ) (e f : E) → BreaksBehind fault n m e → BreaksBehind fault k m f → e ≡ f
  same_behind zero zero m e f s t = cc
  same_behind zero (suc k) m e f s t = absurd (let none = t.0 in cc)
  same_behind (suc n) zero m e f s t = absurd (let none = s.0 in cc)
  same_behind (suc n) (suc k) m e f s t = same_behind n k (drop (number 4 m 0) m) e f s.2 t.2

  pub same_break : (m : List ℕ) (e f : E) → BreaksChain fault m e → BreaksChain fault m f → e ≡ f
  same_break m e f s t = same_behind s.count t.count m e f s.break t.break

-- ---- a chain that is written

aligned : (n : ℕ) → (n + gap_to_8 n) % 8 ≡ 0
aligned n = omega arith

module _ {V : Type 0} (Is : List ℕ → V → Type 0) (item : V → ℕ → List ℕ) (size : V → ℕ) (Fits : V → ℕ → Type 0) where
  -- each item fits with the place of the next one that is written in it
  abbrev pub AllFit : V → List V → Type 0
  AllFit v [] = Fits v 0
  AllFit v (w ∷ ws) = Fits v (size v + gap_to_8 (size v)) × AllFit w ws

  module _ (some : (v : V) → 0 < size v)
      (length-item : (v : V) (next : ℕ) → Fits v next → length (item v next) ≡ size v)
      (next_told : (v : V) (next : ℕ) (rest : List ℕ) → Fits v next → number 4 (item v next ++ rest) 0 ≡ next)
      (again : (v : V) (next : ℕ) (rest : List ℕ) → Fits v next → Is (item v next ++ rest) v) where
    pub spelled : (v : V) (vs : List V) → AllFit v vs → IsChain Is (chain_spelling item size (v ∷ vs)) v vs
    spelled v [] fit =
        let m : List ℕ = item v 0 ++ [] in
        let told : number 4 m 0 ≡ 0 = next_told v 0 [] fit in
        (told, last_link m told, subst (λ (b : List ℕ). Is b v) (sym (last_piece m told)) (again v 0 [] fit))
    spelled v (w ∷ ws) fit =
        let gap : ℕ = gap_to_8 (size v) in
        let next : ℕ = size v + gap in
        let front : List ℕ = item v next ++ le gap 0 in
        let rest : List ℕ = chain_spelling item size (w ∷ ws) in
        let m : List ℕ = front ++ rest in
        let told : number 4 m 0 ≡ next = ap (λ (b : List ℕ). number 4 b 0) (append_assoc (item v next) (le gap 0) rest)
        ∙ next_told v next (le gap 0 ++ rest) fit.0 in
        let len : length front ≡ next = length-append (item v next) (le gap 0) ∙ omega (arith, length-item v next fit.0, length-le gap 0) in
        let head : take next m ≡ front = take_at front rest next len in
        let tail : drop next m ≡ rest = drop_at front rest next len in
        let positive : number 4 m 0 ≡ 0 → ⊥ = λ z. omega (arith, told, some v, z) in
        let whole : number 4 m 0 % 8 ≡ 0 = rw told (aligned (size v)) in
        let inside : number 4 m 0 ≤ length m = omega (arith, told, len, length-append front rest) in
        let first : piece m ≡ front = linked_piece m positive ∙ ap (λ (k : ℕ). take k m) told ∙ head in (
          positive,
          good_link m whole inside,
          subst (λ (b : List ℕ). Is b v) (sym first) (again v next (le gap 0) fit.0),
          subst (λ (b : List ℕ). IsChain Is b w ws) (sym (ap (λ (k : ℕ). drop k m) told ∙ tail)) (spelled w ws fit.1),
        )
