-- The names of a listing are short texts.
use Rattle.std.proofs.Common.{ℕ, ◌+◌, ◌≤◌, Bool, true, false, ◌&&◌, nat_le, List, [], ◌∷◌, IsUtf8, arith, Option}
use Rattle.std.proofs.lemmas.Str.{IsUtf8-nil}
use Rattle.spec_exchange.specs.Texts.{same_name, utf16_length, units_of, parent_of, leaf_of}
use Rattle.spec_exchange.specs.State.{Server, Entry, Named}
use Rattle.spec_exchange.specs.Files.{info_of, path_of}
use Rattle.spec_exchange.specs.Listing.{accepts, listed_before, insert_named, children, all_named, is_behind, wanted, entry_size}
use Rattle.spec_exchange.specs.Listing.{next_multiple, fitting, first_of_them, one_or_all}
use Rattle.law_server.proofs.tables.Logic.{either}
use Rattle.law_commands.specs.commands.Fitting.{IsFittingName, AreFittingNames, AreTexts}
use Rattle.law_commands.proofs.commands.Limits.{ascii_then}
use Rattle.law_replies.specs.fields.Rows.{AreFieldEntries}
use Rattle.law_replies.proofs.fields.Paths.{name_is}

dot_text : IsUtf8 (46 ∷ [])
dot_text = ascii_then 46 [] (omega arith) IsUtf8-nil

dot_few : utf16_length (46 ∷ []) ≤ 1024
unfolding utf16_length units_of
dot_few = omega arith

dots_few : utf16_length (46 ∷ 46 ∷ []) ≤ 1024
unfolding utf16_length units_of
dots_few = omega arith

dot_is : IsFittingName (46 ∷ [])
dot_is = name_is (46 ∷ []) dot_text dot_few

dots_is : IsFittingName (46 ∷ 46 ∷ [])
dots_is = name_is (46 ∷ 46 ∷ []) (ascii_then 46 (46 ∷ []) (omega arith) dot_text) dots_few

inserted : (n : Named) (ns : List Named) → IsFittingName n.name → AreFittingNames ns → AreFittingNames (insert_named n ns)
unfolding insert_named
inserted n [] i h = (i, tt)
inserted n (m ∷ ms) i h =
    either AreFittingNames (listed_before n.name m.name) (n ∷ m ∷ ms) (m ∷ insert_named n ms) (λ _. (i, h))
    (λ _. (h.0, inserted n ms i h.1))

children_named : (s : Server) (es : List Entry) (path : List ℕ) → AreFieldEntries es → AreFittingNames (children s es path)
unfolding children
children_named s [] path h = tt
children_named s (e ∷ es) path h =
    let rest = children_named s es path h.2 in
    let place = h.0 in
    either AreFittingNames (same_name (parent_of e.path) path)
    (insert_named (record { name = leaf_of e.path; info = info_of s e.file }) (children s es path)) (children s es path)
    (λ _. inserted (record { name = leaf_of e.path; info = info_of s e.file }) (children s es path) place.leaf rest) (λ _. rest)

pub all_names : (s : Server) (f : ℕ) → AreFieldEntries s.entries → AreFittingNames (all_named s f)
unfolding all_named
all_names s f h = (dot_is, (dots_is, children_named s s.entries (path_of s f) h))

pub wanted_names : (last : Option (List ℕ)) (pattern : List ℕ) (ns : List Named) → AreFittingNames ns
    → AreFittingNames (wanted last pattern ns)
unfolding wanted
wanted_names last pattern [] h = tt
wanted_names last pattern (n ∷ ns) h =
    either AreFittingNames (is_behind last n.name && accepts pattern n.name) (n ∷ wanted last pattern ns) (wanted last pattern ns)
    (λ _. (h.0, wanted_names last pattern ns h.1)) (λ _. wanted_names last pattern ns h.1)

fitting_names : (class room at : ℕ) (ns : List Named) → AreFittingNames ns → AreFittingNames (fitting class room at ns)
unfolding fitting
fitting_names class room at [] h = tt
fitting_names class room at (n ∷ ns) h =
    let end : ℕ = next_multiple at + entry_size class n in
    either AreFittingNames (nat_le end room) (n ∷ fitting class room end ns) [] (λ _. (h.0, fitting_names class room end ns h.1)) (λ _. tt)

first_names : (ns : List Named) → AreFittingNames ns → AreFittingNames (first_of_them ns)
unfolding first_of_them
first_names [] h = tt
first_names (n ∷ ns) h = (h.0, tt)

pub some_names : (single : Bool) (class room : ℕ) (ns : List Named) → AreFittingNames ns
    → AreFittingNames (one_or_all single (fitting class room 0 ns))
unfolding one_or_all
some_names true class room ns h = first_names (fitting class room 0 ns) (fitting_names class room 0 ns h)
some_names false class room ns h = fitting_names class room 0 ns h

pub texts_of : (ns : List Named) → AreFittingNames ns → AreTexts ns
texts_of [] h = tt
texts_of (n ∷ ns) h = let i = h.0 in (i.utf8, texts_of ns h.1)
