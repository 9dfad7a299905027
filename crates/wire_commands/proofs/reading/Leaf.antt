-- The part of a path behind its last `\`.
use Rattle.std.proofs.Common.{◌≡◌, ℕ, ◌==◌, Bool, false, ◌||◌, List, [], ◌∷◌, ◌++◌, length, take}
use Rattle.std.proofs.Common.{drop, get_or, ◌<◌, ◌≢◌, refl, sym, ap, ◌∙◌, arith}
use Prim.Native.Nat.{suc}
use Rattle.std.proofs.lemmas.Grind.{common_steps}
use Rattle.std.proofs.lemmas.List.{append_assoc, append-nil, take-append-drop}
use Rattle.std.proofs.lemmas.Str.Pattern.{NoCharPasses-char, drop_at_char}
use Rattle.std.specs.Str.{NoCharPasses}
use Rattle.std.specs.Str.Pattern.{HasCharAt}
use Rattle.spec_exchange.specs.Texts.{leaf_from, leaf_of}

unfoldable pub has_slash : List ℕ → Bool
has_slash [] = false
has_slash (c ∷ cs) = (c == 92) || has_slash cs

leaf_stays : (leaf name : List ℕ) → has_slash name ≡ false → leaf_from leaf name ≡ leaf ++ name
unfolding leaf_from has_slash
leaf_stays leaf [] e = sym (append-nil leaf)
leaf_stays leaf (c ∷ cs) e = let a = append_assoc leaf (c ∷ []) cs in let h = leaf_stays (leaf ++ c ∷ []) cs in grind (arith, common_steps)

leaf_found : (leaf d name : List ℕ) → has_slash name ≡ false → leaf_from leaf (d ++ 92 ∷ name) ≡ name
unfolding leaf_from has_slash
leaf_found leaf [] name e = leaf_stays [] name e
leaf_found leaf (c ∷ cs) name e = let h = leaf_found (leaf ++ c ∷ []) cs name e in let g = leaf_found [] cs name e in
    grind (arith, common_steps)

leaf_is : (d name : List ℕ) → has_slash name ≡ false → leaf_of (d ++ 92 ∷ name) ≡ name
unfolding leaf_of
leaf_is d name e = leaf_found [] d name e

no_slash : (bs : List ℕ) → ((i : ℕ) → i < length bs → get_or bs i 0 ≢ 92) → has_slash bs ≡ false
unfolding has_slash
no_slash [] h = refl
no_slash (c ∷ cs) h = let a = h 0 (grind arith) in let b = no_slash cs (λ i l e. h (suc i) (omega arith) e) in grind (arith, common_steps)

-- a path cut at its last backslash
pub leaf_split : (s leaf : List ℕ) (i j : ℕ) → leaf ≡ drop j s → NoCharPasses (λ d. d == 92) (drop j s)
    → HasCharAt 92 s i j → leaf ≡ leaf_of s
leaf_split s leaf i j f n h =
    let d = drop_at_char 92 s i j h (omega arith) in
    f ∙ (sym (leaf_is (take i s) (drop j s)
    (no_slash (drop j s) (λ k l. NoCharPasses-char 92 (drop j s) k n (omega arith) l)))
    ∙ ap leaf_of (ap (λ l. take i s ++ l) (sym d) ∙ take-append-drop i s))

pub leaf_none : (s : List ℕ) → NoCharPasses (λ d. d == 92) s → s ≡ leaf_of s
unfolding leaf_of
leaf_none s n = sym (leaf_stays [] s (no_slash s (λ k l. NoCharPasses-char 92 s k n (omega arith) l)))
