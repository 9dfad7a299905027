-- The lines of a text, marked one by one.
use Rattle.std.proofs.Common.{◌≡◌, ℕ, List, [], ◌∷◌, ◌++◌, append_assoc, append-nil, refl, sym, ap, ◌∙◌}
use Rattle.script_words.specs.Pieces.{pieces}
use Rattle.serve_command.specs.server_settings.Served.{as_line, behind, feed_before, marked_from, own_from, own_said}
use Rattle.serve_command.specs.declared.server_settings.own.Own.{Own}

abbrev shown : Own → List ℕ → List ℕ
shown own line = as_line (own_said own (pieces 32 line)) line

abbrev after : Own → List ℕ → Own
after own line = behind own (own_said own (pieces 32 line))

marked_more : (own : Own) (line : List ℕ) (more : List (List ℕ))
    → marked_from own (line ∷ more) ≡ shown own line ++ (feed_before more ++ marked_from (after own line) more)
unfolding marked_from
marked_more own line more = refl

marked_none : (own : Own) → marked_from own [] ≡ []
unfolding marked_from
marked_none own = refl

own_more : (own : Own) (line : List ℕ) (more : List (List ℕ)) → own_from own (line ∷ more) ≡ own_from (after own line) more
unfolding own_from
own_more own line more = refl

own_none : (own : Own) → own_from own [] ≡ own
unfolding own_from
own_none own = refl

-- a line more, in front of the others
pub text_goes_on : (old new : List ℕ) (own own' : Own) (line : List ℕ) (more left : List (List ℕ)) (all : List ℕ)
    → new ≡ old ++ (shown own line ++ feed_before more)
    → own' ≡ after own line
    → left ≡ line ∷ more
    → old ++ marked_from own left ≡ all
    → new ++ marked_from own' more ≡ all
text_goes_on old new own own' line more left all grown is split so_far =
    ap (λ (t : List ℕ). t ++ marked_from own' more) grown
    ∙ (ap (λ (o : Own). (old ++ (shown own line ++ feed_before more)) ++ marked_from o more) is
    ∙ (append_assoc old (shown own line ++ feed_before more) (marked_from (after own line) more)
    ∙ (ap (λ (t : List ℕ). old ++ t) (append_assoc (shown own line) (feed_before more) (marked_from (after own line) more))
    ∙ (ap (λ (t : List ℕ). old ++ t) (sym (marked_more own line more))
    ∙ (ap (λ (ls : List (List ℕ)). old ++ marked_from own ls) (sym split) ∙ so_far)))))

pub own_goes_on : (own own' : Own) (line : List ℕ) (more left : List (List ℕ)) (all : Own)
    → own' ≡ after own line
    → left ≡ line ∷ more
    → own_from own left ≡ all
    → own_from own' more ≡ all
own_goes_on own own' line more left all is split so_far =
    ap (λ (o : Own). own_from o more) is
    ∙ (sym (own_more own line more)
    ∙ (ap (λ (ls : List (List ℕ)). own_from own ls) (sym split) ∙ so_far))

-- no line is left
pub text_ends : (text : List ℕ) (own : Own) (left : List (List ℕ)) (all : List ℕ)
    → left ≡ []
    → text ++ marked_from own left ≡ all
    → text ≡ all
text_ends text own left all none so_far =
    sym (append-nil text)
    ∙ (ap (λ (t : List ℕ). text ++ t) (sym (marked_none own))
    ∙ (ap (λ (ls : List (List ℕ)). text ++ marked_from own ls) (sym none) ∙ so_far))

pub own_ends : (own : Own) (left : List (List ℕ)) (all : Own) → left ≡ [] → own_from own left ≡ all → own ≡ all
own_ends own left all none so_far =
    sym (own_none own) ∙ (ap (λ (ls : List (List ℕ)). own_from own ls) (sym none) ∙ so_far)
