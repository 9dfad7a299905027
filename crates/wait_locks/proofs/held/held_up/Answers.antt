use Rattle.std.proofs.Common.{◌≡◌, true, ap, refl, sym, ◌∙◌, ◌&&◌}
use Rattle.law_waiting.specs.held.Exactly.{is_countable, is_on_file, is_owed}
use Rattle.law_waiting.specs.held.Held.{first_in_the_way, wanted_range}
use Rattle.spec_exchange.specs.CheckOpen.{file_of}
use Rattle.store_opens.specs.share_modes.Locking.{range_of}
use Rattle.wait_locks.proofs.InTheWay.{not_on_file, not_owed, owed_on_file}
use Rattle.wait_locks.specs.Kept.{in_the_way, kept_message}
use Rattle.wait_locks.proofs.held.held_up.Goals as goal

pub returns-then-not-is_owed : goal.returns-then-not-is_owed
returns-then-not-is_owed c = λ s f t.
    let w = c.args.waiter.now in
    sym (c.held_law.ensures.exact s (kept_message w) w.file w.index w.number w.element refl (sym c.if-not-may_wait.ensures)
    ∙ not_owed (is_owed s (kept_message w)) (is_on_file s (kept_message w) w.file w.index w.number && is_countable s w.file w.element)
    (first_in_the_way (s.ranges (file_of s w.file)) (wanted_range w.file w.element)) (sym c.if-not-is_owed.true ∙ c.is_owed.ensures s t))

pub returns-then-not-is_on_file : goal.returns-then-not-is_on_file
returns-then-not-is_on_file c = λ s f t.
    let w = c.args.waiter.now in
    sym (c.held_law.ensures.exact s (kept_message w) w.file w.index w.number w.element refl (sym c.if-not-may_wait.ensures)
    ∙ not_on_file (is_owed s (kept_message w)) (is_on_file s (kept_message w) w.file w.index w.number) (is_countable s w.file w.element)
    (first_in_the_way (s.ranges (file_of s w.file)) (wanted_range w.file w.element))
    (sym c.if-not-is_on_file.true ∙ c.is_on_file.ensures.exact s f t))

pub returns : goal.returns
returns c = λ s f t.
    let w = c.args.waiter.now in
    let stands : s.standing w.file ≡ true = c.is_on_file.ensures.stands s f t c.if-not-is_on_file.false in
    c.in_the_way.ensures
    ∙ ap (λ rs. in_the_way rs (range_of c.wanted-range.result)) (c.ranges-standing.ensures.shown s t.opens)
    ∙ ap (λ x. in_the_way (s.ranges x) (range_of c.wanted-range.result)) (c.file_of-file.ensures.shown s t stands)
    ∙ ap (in_the_way (s.ranges (file_of s w.file))) c.wanted-range.ensures
    ∙ sym (owed_on_file (is_owed s (kept_message w)) (is_on_file s (kept_message w) w.file w.index w.number) (is_countable s w.file w.element)
    (first_in_the_way (s.ranges (file_of s w.file)) (wanted_range w.file w.element)) (sym c.if-not-is_owed.false ∙ c.is_owed.ensures s t)
    (sym c.if-not-is_on_file.false ∙ c.is_on_file.ensures.exact s f t))
    ∙ sym (c.held_law.ensures.exact s (kept_message w) w.file w.index w.number w.element refl (sym c.if-not-may_wait.ensures))
