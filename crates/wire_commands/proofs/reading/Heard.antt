-- The names of a listing, one after the other.
use Rattle.std.proofs.Common.{◌≡◌, ℕ, ◌+◌, ◌≤◌, List, [], ◌∷◌, ◌++◌, length, drop, Option, Some, None, refl, sym, ap, ◌∙◌, append_assoc}
use Rattle.std.specs.Prelude.{option_map}
use Rattle.std.proofs.Math.ListN.{drop_of_length-le}
use Rattle.std.proofs.lemmas.List.{append-nil}
use Rattle.spec_wire.specs.messages.Directory.{DirectoryEntryValue}
use Rattle.spec_exchange.specs.State.{Named}
use Rattle.spec_commands.specs.Text.{text_in}
use Rattle.spec_commands.specs.ReplyOf.{named_of, in_front, names_of}

-- what was found stands before the names of the rest
abbrev pub found_before : List Named → Option (List Named) → Option (List Named)
found_before got o = option_map (λ (rest : List Named). got ++ rest) o

ahead : (got : List Named) (n : Named) (o : Option (List Named))
    → found_before got (option_map (λ (ns : List Named). n ∷ ns) o) ≡ found_before (got ++ n ∷ []) o
ahead got n None = refl
ahead got n (Some rest) = ap Some (sym (append_assoc got (n ∷ []) rest))

pub names_go_on : (es : List DirectoryEntryValue) (got : List Named) (i : ℕ) (v : DirectoryEntryValue) (t : List ℕ)
    → drop i es ≡ v ∷ drop (i + 1) es → text_in v.name ≡ Some t → names_of es ≡ found_before got (names_of (drop i es))
    → names_of es ≡ found_before (got ++ named_of v.end_of_file t ∷ []) (names_of (drop (i + 1) es))
unfolding names_of
names_go_on es got i v t front text is =
    is ∙ ap (λ (l : List DirectoryEntryValue). found_before got (names_of l)) front
    ∙ ap (λ (o : Option (List ℕ)). found_before got (in_front (option_map (named_of v.end_of_file) o) (names_of (drop (i + 1) es)))) text
    ∙ ahead got (named_of v.end_of_file t) (names_of (drop (i + 1) es))

pub names_stop : (es : List DirectoryEntryValue) (got : List Named) (i : ℕ) (v : DirectoryEntryValue) → drop i es ≡ v ∷ drop (i + 1) es
    → text_in v.name ≡ None → names_of es ≡ found_before got (names_of (drop i es)) → None ≡ names_of es
unfolding names_of
names_stop es got i v front text is =
    sym (is ∙ ap (λ (l : List DirectoryEntryValue). found_before got (names_of l)) front
    ∙ ap (λ (o : Option (List ℕ)). found_before got (in_front (option_map (named_of v.end_of_file) o) (names_of (drop (i + 1) es)))) text)

pub names_end : (es : List DirectoryEntryValue) (got : List Named) (i : ℕ) → length es ≤ i → names_of es
    ≡ found_before got (names_of (drop i es))
    → Some got ≡ names_of es
unfolding names_of
names_end es got i past is =
    sym (is ∙ ap (λ (l : List DirectoryEntryValue). found_before got (names_of l)) (drop_of_length-le es past) ∙ ap Some (append-nil got))
