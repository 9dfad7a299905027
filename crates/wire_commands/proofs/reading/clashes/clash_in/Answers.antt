use Rattle.std.proofs.Common.{not, sym, ap, ◌∙◌, arith}
use Rattle.std.proofs.lemmas.Grind.{common_steps}
use Rattle.wire_commands.proofs.reading.Clashing.{none_clash, goes_begin, goes_whole, goes_twice, goes_end, goes_on, first_is_linked}
use Rattle.wire_commands.proofs.reading.Clashing.{was_met}
use Rattle.wire_commands.proofs.reading.clashes.clash_in.Goals as goal

pub returns-then-is_empty : goal.returns-then-is_empty
returns-then-is_empty c = sym (none_clash c.args.bytes.now (grind (arith, common_steps)))

pub loop-names-init : goal.loop-names-init
loop-names-init c =
    goes_begin c.args.bytes.now c.new-names.result c.new-names.ensures.empty (λ e. grind (arith, common_steps)) c.requires

pub next_at-next-requires : goal.next_at-next-requires
next_at-next-requires c = goes_whole c.args.bytes.now c.loop-names.rest.now c.loop-names.names c.loop-names.invariant

pub name_at-requires-clause-whole : goal.name_at-requires-clause-whole
name_at-requires-clause-whole c = goes_whole c.args.bytes.now c.loop-names.rest.now c.loop-names.names c.loop-names.invariant

pub returns-in-Ok-false : goal.returns-in-Ok-false
returns-in-Ok-false c =
    sym (goes_twice c.args.bytes.now c.loop-names.rest.now c.loop-names.names c.loop-names.invariant
    (was_met c.loop-names.names c.name_at.result c.loop-names.rest.now c.in-Ok-false.field-0 c.name_at.ensures c.in-Ok-false.ensures.added
    ∙ ap not c.in-Ok-false.field-0-test))

pub returns-then-next-eq0 : goal.returns-then-next-eq0
returns-then-next-eq0 c =
    c.mixes_versions.ensures
    ∙ sym (goes_end c.args.bytes.now c.loop-names.rest.now c.loop-names.names c.insert.new.self c.name_at.result c.loop-names.invariant
    c.name_at.ensures (was_met c.loop-names.names c.name_at.result c.loop-names.rest.now c.in-Ok-true.field-0 c.name_at.ensures
    c.in-Ok-true.ensures.added ∙ ap not c.in-Ok-true.field-0-test) c.in-Ok-true.ensures.updates
    (sym c.next_at-next.ensures ∙ c.if-next-eq0.true))

pub items_behind-rest-requires-clause-linked : goal.items_behind-rest-requires-clause-linked
items_behind-rest-requires-clause-linked c =
    first_is_linked c.loop-names.rest.now (goes_whole c.args.bytes.now c.loop-names.rest.now c.loop-names.names c.loop-names.invariant)

pub loop-names-preserved : goal.loop-names-preserved
loop-names-preserved c =
    rw (c.items_behind-rest.ensures.value, c.next_at-next.ensures)
    (goes_on c.args.bytes.now c.loop-names.rest.now c.loop-names.names c.insert.new.self c.name_at.result c.loop-names.invariant
    c.name_at.ensures (was_met c.loop-names.names c.name_at.result c.loop-names.rest.now c.in-Ok-true.field-0 c.name_at.ensures
    c.in-Ok-true.ensures.added ∙ ap not c.in-Ok-true.field-0-test) c.in-Ok-true.ensures.updates
    (λ e. c.if-next-eq0.false (c.next_at-next.ensures ∙ e)))
