use Rattle.std.proofs.Common.{◌≡◌, ℕ, Bool, List, [], ◌∷◌, ◌++◌, Option, Some, None, refl, sym, ap, ◌∙◌, arith, append_assoc}
use Rattle.std.specs.Prelude.{◌==◌, if◌then◌else◌}
use Rattle.std.proofs.lemmas.List.{append-nil}
use Rattle.spec_wire.specs.declared.messages.header.Header.{Header}
use Rattle.spec_wire.specs.messages.TreeConnect.{TreeConnectRequestValue, SpellsTreeConnectRequest, tree_connect_request_fault}
use Rattle.spec_wire.specs.messages.TreeConnect.{tree_connect_request_in}
use Rattle.spec_exchange.specs.Texts.{leaf_of, leaf_from}
use Rattle.spec_exchange.specs.Commands.{Command, TreeConnect}
use Rattle.spec_commands.specs.Text.{text_in}
use Rattle.spec_commands.specs.BodyOf.{body_of, host, tree_connect_value}
use Rattle.spec_commands.specs.CommandOf.{Told, command_of, named_command, tree_connect_in, tree_connect_of}
use Rattle.law_commands.specs.commands.Fitting.{HasNoBackslash}
use Rattle.law_commands.proofs.commands.ReadBack.{found, read_as}
use Rattle.law_commands.proofs.commands.Texts.{text_again}
use Rattle.law_commands.proofs.commands.dialog.share_law.Goals as goal

abbrev of_value : TreeConnectRequestValue → Command
of_value v = tree_connect_of (text_in v.path)

abbrev by_number : ℕ → Told → Header → List ℕ → Option Command
by_number n t h m = if n == 12 then None else Some (named_command n t h m)

plain_leaf : (leaf cs : List ℕ) → HasNoBackslash cs → leaf_from leaf cs ≡ leaf ++ cs
unfolding leaf_from
plain_leaf leaf [] is = sym (append-nil leaf)
plain_leaf leaf (c ∷ cs) is =
    ap (λ (b : Bool). if b then leaf_from [] cs else leaf_from (leaf ++ c ∷ []) cs) is.0 ∙ plain_leaf (leaf ++ c ∷ [])
    cs is.1 ∙ append_assoc leaf (c ∷ []) cs

share_of : (share : List ℕ) → HasNoBackslash share → leaf_of (host ++ share) ≡ share
unfolding leaf_of leaf_from
share_of share is = plain_leaf [] share is

pub returns : goal.returns
unfolding command_of tree_connect_in body_of
returns c = λ t h header rest share len name plain is.
    let law = c.tree_connect_request_law.ensures in
    let v : TreeConnectRequestValue = tree_connect_value share in
    let m : List ℕ = header ++ (body_of (TreeConnect share) ++ rest) in
    let row = found SpellsTreeConnectRequest tree_connect_request_fault tree_connect_request_in law.one law.whole law.given m v
    (law.again header rest v len (omega arith, (omega arith, (omega arith, (name.short, (refl, tt)))))) in
    ap (λ (n : ℕ). by_number n t h m) is
    ∙ ap Some (read_as SpellsTreeConnectRequest tree_connect_request_fault tree_connect_request_in of_value m v row ∙ ap
    tree_connect_of (text_again (host ++ share) name.utf8) ∙ ap TreeConnect (share_of share plain))
