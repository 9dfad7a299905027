use Rattle.std.proofs.Common.{◌≡◌, List, [], ◌∷◌, ◌++◌, refl, ap, ◌∙◌, arith}
use Rattle.std.proofs.lemmas.Grind.{common_steps}
use Rattle.spec_wire.specs.messages.Directory.{DirectoryEntryValue}
use Rattle.wire_info.specs.classes.Views.{directory_entry}
use Rattle.wire_info.specs.classes.Listing.{entries}
use Rattle.wire_info.specs.declared.classes.directory_entry.DirectoryEntry.{DirectoryEntry}
use Rattle.wire_info.proofs.classes.Entries.{entries_go_on, entries_break}
use Rattle.wire_info.proofs.classes.listing.read_listing.Goals as goal

pub returns-in-Err : goal.returns-in-Err
returns-in-Err c = entries_break c.args.class c.args.m.now c.loop-head.rest.now (entries c.loop-head.found.items)
    c.in-Err.error c.loop-head.invariant c.in-Err.ensures

one_more : (xs : List DirectoryEntry) (e : DirectoryEntry) → entries (xs ++ e ∷ []) ≡ entries xs ++ directory_entry e ∷ []
one_more [] e = refl
one_more (x ∷ xs) e = ap (λ (r : List DirectoryEntryValue). directory_entry x ∷ r) (one_more xs e)

pub loop-head-preserved : goal.loop-head-preserved
loop-head-preserved c =
    let pushed : c.push.new.self.items ≡ c.loop-head.found.items ++ c.in-Ok.head.entry ∷ [] = grind (arith, common_steps) in
    let told : entries c.push.new.self.items ≡ entries c.loop-head.found.items ++ directory_entry c.in-Ok.head.entry ∷
    [] = ap entries pushed ∙ one_more c.loop-head.found.items c.in-Ok.head.entry in
    let first = c.in-Ok.ensures in
    rw (c.items_behind-rest.ensures.value, told) (entries_go_on c.args.class c.args.m.now c.loop-head.rest.now
    (entries c.loop-head.found.items) (directory_entry c.in-Ok.head.entry) c.in-Ok.head.next c.loop-head.invariant
    first.0 first.1 first.2 first.3 c.if-head-eq0.false)
