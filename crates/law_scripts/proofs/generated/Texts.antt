-- The text of made lines, cut at its line feeds.
use Rattle.std.proofs.Common.{◌≡◌, ℕ, ◌+◌, ◌-◌, ◌==◌, Bool, true, false, if◌then◌else◌, List, [], ◌∷◌, ◌++◌, map}
use Rattle.std.proofs.Common.{length, take, get_or, slice_index}
use Rattle.std.proofs.Common.{refl, sym, subst, ap, ◌∙◌, arith, append_assoc, length-append}
use Rattle.script_words.specs.generator.Lines.{line_text}
use Rattle.script_words.specs.declared.generator.lines.MadeLine.{MadeLine}
use Rattle.script_words.specs.text_lines.Script.{without_last_feed}
use Rattle.script_words.specs.Pieces.{pieces}
use Rattle.law_scripts.specs.generated.ReadsBack.{script_text}
use Rattle.law_scripts.proofs.generated.Bytes.{Within, apart, last}

-- all but the last feed
unfoldable joined : MadeLine → List MadeLine → List ℕ
joined l [] = line_text l
joined l (m ∷ ls) = line_text l ++ 10 ∷ joined m ls

text_is : (l : MadeLine) (ls : List MadeLine) → script_text (l ∷ ls) ≡ joined l ls ++ 10 ∷ []
unfolding joined
text_is l [] = append_assoc (line_text l) (10 ∷ []) []
text_is l (m ∷ ls) =
    append_assoc (line_text l) (10 ∷ []) (script_text (m ∷ ls))
    ∙ (ap (λ (rest : List ℕ). line_text l ++ 10 ∷ rest) (text_is m ls)
    ∙ sym (append_assoc (line_text l) (10 ∷ joined m ls) (10 ∷ [])))

-- ---- the last feed

at_end : (x : List ℕ) → get_or (x ++ 10 ∷ []) (length x) 0 ≡ 10
at_end [] = refl
at_end (b ∷ bs) = at_end bs

in_front : (x : List ℕ) → take (length x) (x ++ 10 ∷ []) ≡ x
in_front [] = refl
in_front (b ∷ bs) = ap (λ (r : List ℕ). b ∷ r) (in_front bs)

by_end : (b : Bool) (t e x : List ℕ) → b ≡ true → t ≡ x → (if b then t else e) ≡ x
by_end true t e x h is = is
by_end false t e x h is = absurd cc

pub cut_off : (x : List ℕ) → without_last_feed (x ++ 10 ∷ []) ≡ x
cut_off x =
    let long = length-append x (10 ∷ []) in
    let place : length (x ++ 10 ∷ []) - 1 ≡ length x = omega (arith, long) in
    subst (λ (k : ℕ). (if slice_index (x ++ 10 ∷ []) k == 10 then take k (x ++ 10 ∷ []) else x ++ 10 ∷ []) ≡ x) (sym place)
    (by_end (slice_index (x ++ 10 ∷ []) (length x) == 10) (take (length x) (x ++ 10 ∷ [])) (x ++ 10 ∷ []) x
    (ap (λ (n : ℕ). n == 10) (at_end x)) (in_front x))

-- ---- the lines

unfoldable pub AreWithin : List MadeLine → Type 0
AreWithin [] = Unit {0}
AreWithin (l ∷ ls) = Within 32 (line_text l) × AreWithin ls

cut : (l : MadeLine) (ls : List MadeLine) → AreWithin (l ∷ ls) → pieces 10 (joined l ls) ≡ line_text l ∷ map line_text ls
unfolding joined AreWithin
cut l [] w = last 10 32 (line_text l) (omega arith) w.0
cut l (m ∷ ls) w =
    apart 10 32 (line_text l) (joined m ls) (omega arith) w.0 refl ∙ ap (λ (rest : List (List ℕ)). line_text l ∷ rest) (cut m ls w.1)

pub lines_of_text : (l : MadeLine) (ls : List MadeLine) → AreWithin (l ∷ ls)
    → pieces 10 (without_last_feed (script_text (l ∷ ls))) ≡ line_text l ∷ map line_text ls
lines_of_text l ls w =
    ap (λ (t : List ℕ). pieces 10 (without_last_feed t)) (text_is l ls)
    ∙ (ap (λ (t : List ℕ). pieces 10 t) (cut_off (joined l ls)) ∙ cut l ls w)
