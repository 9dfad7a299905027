use Rattle.std.proofs.Common.{◌≡◌, ℕ, true, refl, sym, subst}
use Rattle.spec_exchange.specs.Opens.{file_has_open}
use Rattle.store_opens.proofs.open_table.Back.{file_opened}
use Rattle.store_opens.proofs.open_table.Same.{same_rooms}
use Rattle.store_opens.proofs.open_table.StoodLemmas.{shows_pushed}
use Rattle.store_opens.proofs.open_table.table.Opens.push_range.Goals as goal

pub returns-in-Ok : goal.returns-in-Ok
returns-in-Ok c = λ s i h.
    let st = c.if-not-stands.ensures s h in
    let e = c.file_of-file.ensures.shown s h (sym st) in (
      st,
      shows_pushed c.args.self.now (record c.args.self.now { files = c.push_held.new.files }) s c.file_of-file.result c.args.range refl
          c.in-Ok.ensures.ok e h (subst (λ (z : ℕ). file_has_open s z ≡ true) (sym e) (file_opened s c.args.range.owner i (sym st))),
    )

pub returns-in-Err : goal.returns-in-Err
returns-in-Err c = λ s h. same_rooms c.args.self.now (record c.args.self.now { files = c.push_held.new.files }) refl (λ q. refl) refl
    (λ a b. refl) c.in-Err.ensures.err s h
