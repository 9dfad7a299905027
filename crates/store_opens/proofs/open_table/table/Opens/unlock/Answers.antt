use Rattle.std.proofs.Common.{◌≡◌, ℕ, true, List, map, nat_eq, sym, ap, subst, ◌∙◌}
use Rattle.std.specs.HashMap.{get}
use Rattle.spec_exchange.specs.Table.{is_filled}
use Rattle.spec_exchange.specs.Opens.{file_has_open}
use Rattle.spec_exchange.specs.Ranges.{Stands, unlock_ranges}
use Rattle.spec_exchange.specs.Effects.{set_ranges}
use Rattle.store_opens.specs.declared.share_modes.lists.Range.{Range}
use Rattle.store_opens.specs.share_modes.Locking.{range_of, unlock_outcome, RefusedBy}
use Rattle.store_opens.specs.share_modes.Locking as outcomes
use Rattle.store_opens.specs.share_modes.Answers.{AllOf}
use Rattle.store_opens.specs.open_table.Locks.{held_of, held_by, file_at, DeniedBy}
use Rattle.store_opens.specs.open_table.Shown.{ShowsOpens}
use Rattle.store_opens.proofs.open_table.LockLemmas.{row_of_file, stands_with}
use Rattle.store_opens.proofs.open_table.Back.{file_opened}
use Rattle.store_opens.proofs.open_table.table.Opens.unlock.Goals as goal

pub returns-in-Err-clause-range : goal.returns-in-Err-clause-range
returns-in-Err-clause-range c = λ s i h st.
    subst (λ (ws : List Range). RefusedBy c.in-Err.error (unlock_outcome (held_by c.args.self.now c.args.id) ws))
    c.as_slice.ensures c.in-Err.ensures.range

pub returns-in-Err-clause-shown : goal.returns-in-Err-clause-shown
returns-in-Err-clause-shown c = λ s i h st f a. (
  subst (λ (ws : List Range). is_filled ws ≡ true → AllOf c.args.id ws → DeniedBy c.in-Err.error
      (unlock_ranges (s.ranges (s.opened c.args.id).file) (map range_of ws))) c.as_slice.ensures
      (c.in-Err.ensures.shown s h st) f a,
  h,
)

pub returns-in-Ok-clause-range : goal.returns-in-Ok-clause-range
returns-in-Ok-clause-range c = λ s i h st.
    let e = c.file_of.ensures.shown s h st in
    let there = row_of_file c.args.self.now s c.file_of.result h (subst (λ (z : ℕ). file_has_open s z ≡ true) (sym e)
    (file_opened s c.args.id i st)) in
    subst (λ (ws : List Range). unlock_outcome (held_by c.args.self.now c.args.id) ws
    ≡ outcomes.Stands c.in-Ok.ranges.items) c.as_slice.ensures c.in-Ok.ensures.range
    ∙ ap outcomes.Stands (sym (ap (λ (m : _). held_of c.put_ranges.new.self (file_at (get nat_eq m c.args.id))) c.put_ranges.ensures.rows
    ∙ ap (held_of c.put_ranges.new.self) (sym c.file_of.ensures.kept) ∙ c.put_ranges.ensures.held there))

pub returns-in-Ok-clause-shown : goal.returns-in-Ok-clause-shown
returns-in-Ok-clause-shown c = λ s i h st f a.
    let e = c.file_of.ensures.shown s h st in
    stands_with (unlock_ranges (s.ranges (s.opened c.args.id).file) (map range_of c.args.wanted.now)) (map range_of c.in-Ok.ranges.items) _
    (subst (λ (ws : List Range). is_filled ws ≡ true → AllOf c.args.id ws
    → unlock_ranges (s.ranges (s.opened c.args.id).file) (map range_of ws)
    ≡ Stands (map range_of c.in-Ok.ranges.items)) c.as_slice.ensures (c.in-Ok.ensures.shown s h st) f a)
    (subst (λ (z : ℕ). ShowsOpens c.put_ranges.new.self (set_ranges s z (map range_of c.in-Ok.ranges.items))) e
    (c.put_ranges.ensures.shown s h (subst (λ (z : ℕ). file_has_open s z ≡ true) (sym e) (file_opened s c.args.id i st))))
