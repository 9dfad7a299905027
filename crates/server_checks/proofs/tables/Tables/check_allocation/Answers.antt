use Rattle.std.proofs.Common.{ℕ, ◌==◌, length, ap, sym, ◌∙◌}
use Rattle.wire_commands.specs.values.Meaning.{message_of}
use Rattle.spec_exchange.specs.CheckOpen.{changes_nothing, file_of, size_change}
use Rattle.spec_exchange.specs.Files.{allocated}
use Rattle.server_checks.proofs.Sizes.{allocation_nothing}
use Rattle.server_checks.specs.verdicts.Views.{change_of}
use Rattle.server_checks.proofs.tables.Tables.check_allocation.Goals as goal

pub returns : goal.returns
returns c = λ k s f t st.
    let n = c.length-old.ensures s t (c.file_of.ensures.there s f t st)
    ∙ ap (λ (g : ℕ). length (s.content g)) (c.file_of.ensures.shown s t st) in
    let a = c.allocation-change.ensures k s (file_of s c.args.id) n in
    let b = c.allocated.ensures ∙ ap (allocated c.args.size) n in
    let p = ap (changes_nothing s (file_of s c.args.id)) a
    ∙ (allocation_nothing s (file_of s c.args.id) c.args.size
    ∙ ap (λ (z : ℕ). z == length (s.content (file_of s c.args.id))) (sym b)) in
    c.check_size.ensures k s f t st p
    ∙ (ap (λ (z : ℕ). size_change s (message_of c.args.m.now) c.args.id z (change_of k c.allocation-change.result)) b
    ∙ ap (size_change s (message_of c.args.m.now) c.args.id (allocated c.args.size (length (s.content (file_of s c.args.id))))) a)
