use Rattle.std.proofs.Common.{refl, sym, ◌∙◌}
use Rattle.store_opens.proofs.open_table.ExpiredLemmas.{shows_expired}
use Rattle.store_opens.proofs.open_table.table.Opens.reserve_expired.Goals as goal

pub returns-clause-same : goal.returns-clause-same
returns-clause-same c = λ s h. shows_expired c.args.self.now (record c.args.self.now { expired = c.reserve.new.self }) s
    s.expired_guids s.expired_count refl (λ a b. h.expired_are a b ∙ sym (c.reserve.ensures.keys.2 (a, b)))
    h.expired_count_is h
