-- A marked text is as long as it was.
use Rattle.std.proofs.Common.{◌≡◌, ℕ, ◌+◌, suc, List, [], ◌∷◌, ◌++◌, Bool, true, false, length, append-nil}
use Rattle.std.proofs.Common.{nat_eq, arith, refl, sym, ap, ◌∙◌}
use Rattle.std.specs.Prelude.{Option, Some, None, replicate, if◌then◌else◌}
use Rattle.std.specs.List.{join_with_byte}
use Rattle.std.proofs.lemmas.Bool.{cond-false}
use Rattle.std.proofs.lemmas.Bool.Decides.{nat_tests}
use Rattle.std.proofs.lemmas.List.{length-append, length-replicate}
use Rattle.std.proofs.lemmas.List.Splits.{join_with_byte-slice_split}
use Rattle.script_words.specs.Pieces.{pieces}
use Rattle.serve_command.specs.server_settings.Served.{as_line, behind, feed_before, has_control, marked, marked_from, nothing_said}
use Rattle.serve_command.specs.server_settings.Served.{own_said}
use Rattle.serve_command.specs.declared.server_settings.own.Own.{Own}

picked : (b : Bool) (line : List ℕ) → length (if b then replicate (length line) 63 else line) ≡ length line
picked true line = length-replicate (length line) 63
picked false line = refl

line_length : (said : Option Own) (line : List ℕ) → length (as_line said line) ≡ length line
line_length None line = picked (has_control line) line
line_length (Some own) line = length-replicate (length line) 35

some_left : (n : ℕ) → nat_eq (suc n) 0 ≡ false
some_left n = grind (arith, nat_tests)

feeds : (next : List ℕ) (more : List (List ℕ)) → feed_before (next ∷ more) ≡ 10 ∷ []
feeds next more = cond-false (nat_eq (length (next ∷ more)) 0) _ _ (some_left (length more))

lines_length : (own : Own) (lines : List (List ℕ)) → length (marked_from own lines) ≡ length (join_with_byte 10 lines)
unfolding marked_from
lines_length own [] = refl
lines_length own (line ∷ []) =
    let said : Option Own = own_said own (pieces 32 line) in
    ap (λ (t : List ℕ). length t) (append-nil (as_line said line)) ∙ line_length said line
lines_length own (line ∷ next ∷ more) =
    let said : Option Own = own_said own (pieces 32 line) in
    ap (λ (f : List ℕ). length (as_line said line ++ (f ++ marked_from (behind own said) (next ∷ more)))) (feeds next more)
    ∙ (length-append (as_line said line) (10 ∷ marked_from (behind own said) (next ∷ more))
    ∙ (ap (λ (n : ℕ). n + length (10 ∷ marked_from (behind own said) (next ∷ more))) (line_length said line)
    ∙ (ap (λ (n : ℕ). length line + suc n) (lines_length (behind own said) (next ∷ more))
    ∙ sym (length-append line (10 ∷ join_with_byte 10 (next ∷ more))))))

pub marked_length : (text : List ℕ) → length (marked text) ≡ length text
marked_length text = lines_length nothing_said (pieces 10 text) ∙ ap (λ (t : List ℕ). length t) (join_with_byte-slice_split 10 text)
