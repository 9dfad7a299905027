-- The name at the end of a path that keeps its form is a short text.
use Rattle.std.proofs.Common.{◌≡◌, ℕ, ◌+◌, ◌<◌, ◌≤◌, ◌==◌, true, List, [], ◌∷◌, ◌++◌, ◌⊎◌, inl, inr, length, drop, IsUtf8}
use Rattle.std.proofs.Common.{length-append, refl, sym, ap, ◌∙◌, subst, arith, eqb-true}
use Rattle.std.specs.Prelude.{get_or, nat_le}
use Rattle.std.proofs.lemmas.List.{append-nil, append_assoc, drop_at, get_or_at}
use Rattle.std.proofs.lemmas.Str.{IsUtf8-drop, IsCharBoundary-after_ascii}
use Rattle.spec_exchange.specs.Texts.{utf16_length, leaf_from, leaf_of, is_path, components_from}
use Rattle.law_server.proofs.tables.Logic.{either, front_of}
use Rattle.law_commands.specs.commands.Fitting.{IsFittingName}
use Rattle.law_commands.proofs.commands.Limits.{at_most}
use Rattle.law_commands.proofs.commands.PathLength.{sum_append}
use Rattle.law_replies.specs.fields.Rows.{IsLeaf}
use Rattle.law_replies.proofs.fields.Paths.{name_is}

-- ---- the name at the end: all, or what stands behind a `\`

abbrev Split : List ℕ → List ℕ → List ℕ → Type 0
Split leaf path r = (r ≡ leaf ++ path) ⊎ ((d : List ℕ) × (path ≡ d ++ 92 ∷ r))

at_slash : (leaf : List ℕ) (c : ℕ) (cs r : List ℕ) → c ≡ 92 → Split [] cs r → Split leaf (c ∷ cs) r
at_slash leaf c cs r e (inl q) = inr ([], ap (λ n. n ∷ cs) e ∙ ap (λ (l : List ℕ). 92 ∷ l) (sym q))
at_slash leaf c cs r e (inr q) = inr (c ∷ q.0, ap (λ (l : List ℕ). c ∷ l) q.1)

past_char : (leaf : List ℕ) (c : ℕ) (cs r : List ℕ) → Split (leaf ++ c ∷ []) cs r → Split leaf (c ∷ cs) r
past_char leaf c cs r (inl q) = inl (q ∙ append_assoc leaf (c ∷ []) cs)
past_char leaf c cs r (inr q) = inr (c ∷ q.0, ap (λ (l : List ℕ). c ∷ l) q.1)

leaf_split : (leaf path : List ℕ) → Split leaf path (leaf_from leaf path)
unfolding leaf_from
leaf_split leaf [] = inl (sym (append-nil leaf))
leaf_split leaf (c ∷ cs) =
    either (λ (r : List ℕ). Split leaf (c ∷ cs) r) (c == 92) (leaf_from [] cs) (leaf_from (leaf ++ c ∷ []) cs)
    (λ e. at_slash leaf c cs (leaf_from [] cs) (eqb-true c 92 e) (leaf_split [] cs))
    (λ _. past_char leaf c cs (leaf_from (leaf ++ c ∷ []) cs) (leaf_split (leaf ++ c ∷ []) cs))

behind_text : (d l : List ℕ) → IsUtf8 (d ++ 92 ∷ l) → IsUtf8 l
behind_text d l u =
    let bs : List ℕ = d ++ 92 ∷ l in
    let at : get_or bs (length d) 0 ≡ 92 = get_or_at d 92 l 0 (length d) refl in
    let inside : length d < length bs = omega (arith, length-append d (92 ∷ l)) in
    let small : get_or bs (length d) 0 < 128 = omega (arith, at) in
    let rest : drop (length d + 1) bs ≡ l =
    ap (λ (q : List ℕ). drop (length d + 1) q) (sym (append_assoc d (92 ∷ []) l))
    ∙ drop_at (d ++ 92 ∷ []) l (length d + 1) (length-append d (92 ∷ [])) in
    subst IsUtf8 rest (IsUtf8-drop bs (length d + 1) u (IsCharBoundary-after_ascii bs (length d) u inside small))

behind_few : (d l : List ℕ) → utf16_length l ≤ utf16_length (d ++ 92 ∷ l)
behind_few d l = omega (arith, sum_append d (92 ∷ l), sum_append (92 ∷ []) l)

leaf_is : (path r : List ℕ) → Split [] path r → IsUtf8 path → utf16_length path ≤ 1024 → IsFittingName r
leaf_is path r (inl q) u few = subst IsFittingName (sym q) (name_is path u few)
leaf_is path r (inr q) u few =
    let text : IsUtf8 (q.0 ++ 92 ∷ r) = subst IsUtf8 q.1 u in
    let short : utf16_length (q.0 ++ 92 ∷ r) ≤ 1024 = subst (λ (l : List ℕ). utf16_length l ≤ 1024) q.1 few in
    name_is r (behind_text q.0 r text) (omega (arith, short, behind_few q.0 r))

no_units : utf16_length [] ≤ 1024
unfolding utf16_length
no_units = omega arith

few_units : (path : List ℕ) → is_path path ≡ true → utf16_length path ≤ 1024
unfolding is_path
few_units [] e = no_units
few_units (c ∷ cs) e = at_most (utf16_length (c ∷ cs)) 1024 (front_of (nat_le (utf16_length (c ∷ cs)) 1024) (components_from [] (c ∷ cs)) e)

pub leaf_of_text : (path : List ℕ) → IsUtf8 path → is_path path ≡ true → IsLeaf path
unfolding leaf_of
leaf_of_text path is e = leaf_is path (leaf_from [] path) (leaf_split [] path) is (few_units path e)
