use Rattle.std.proofs.Common.{arith}
use Rattle.store_opens.proofs.open_table.StoodLemmas.{id_free, id_past}
use Rattle.store_opens.proofs.open_table.table.Opens.has_free_id.Goals as goal

pub returns-then-id-last : goal.returns-then-id-last
returns-then-id-last c = λ s h. id_past s c.args.id c.args.self.now.epoch c.args.self.now.given
    (let t = c.if-id-last.true in omega arith) h.epoch_is h.given_is

pub returns : goal.returns
returns c = λ s h. id_free s c.args.id c.args.self.now.epoch c.args.self.now.given c.stands.result
    (let z = c.if-id-eq0.false in omega arith) (let t = c.if-id-last.false in omega arith) h.epoch_is h.given_is (c.stands.ensures s h)
