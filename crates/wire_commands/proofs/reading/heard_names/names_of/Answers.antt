use Rattle.std.proofs.Common.{◌≡◌, ◌≤◌, List, [], ◌∷◌, ◌++◌, length, map, ap, ◌∙◌, arith}
use Rattle.std.proofs.lemmas.Grind.{common_steps}
use Rattle.std.proofs.lemmas.List.{map-append, length-map}
use Rattle.spec_wire.specs.messages.Directory.{DirectoryEntryValue}
use Rattle.wire_info.specs.classes.Views.{directory_entry}
use Rattle.wire_info.specs.classes.Listing.{entries}
use Rattle.spec_exchange.specs.State as says
use Rattle.spec_commands.specs.ReplyOf as heard
use Rattle.wire_commands.specs.values.Meaning.{named_of}
use Rattle.wire_commands.specs.declared.values.reply.Named.{Named}
use Rattle.wire_commands.proofs.reading.Heard.{names_go_on, names_stop, names_end}
use Rattle.wire_commands.proofs.reading.heard_names.names_of.Goals as goal

pub returns-in-None : goal.returns-in-None
returns-in-None c =
    let es : List DirectoryEntryValue = entries c.args.found.now in
    names_stop es (map named_of c.loop-at.names.items) c.loop-at.at (directory_entry c.entry_at-entry.result)
    c.entry_at-entry.ensures (c.in-Ok.ensures ∙ c.in-None.is) c.loop-at.invariant

pub loop-at-preserved : goal.loop-at-preserved
loop-at-preserved c =
    let es : List DirectoryEntryValue = entries c.args.found.now in
    let got : List says.Named = map named_of c.loop-at.names.items in
    let one : Named = record { name = c.in-Some.name; info = c.of_length.result } in
    let pushed : c.push.new.self.items ≡ c.loop-at.names.items ++ one ∷ [] = grind (arith, common_steps) in
    let told : map named_of c.push.new.self.items ≡ got ++ heard.named_of c.entry_at-entry.result.end_of_file c.in-Some.name ∷ [] =
    ap (map named_of) pushed ∙ map-append named_of c.loop-at.names.items (one ∷ [])
    ∙ ap (λ (i : says.Info). got ++ record { name = c.in-Some.name; info = i } ∷ []) c.of_length.ensures in
    rw told (names_go_on es got c.loop-at.at (directory_entry c.entry_at-entry.result) c.in-Some.name c.entry_at-entry.ensures
    (c.in-Ok.ensures ∙ c.in-Some.is) c.loop-at.invariant)

pub returns : goal.returns
returns c =
    let es : List DirectoryEntryValue = entries c.args.found.now in
    let past : length es ≤ c.loop-at.at = omega (arith, length-map c.args.found.now directory_entry, c.loop-at-test.false) in
    names_end es (map named_of c.loop-at.names.items) c.loop-at.at past c.loop-at.invariant
