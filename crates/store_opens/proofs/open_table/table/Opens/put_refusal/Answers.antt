use Rattle.std.proofs.Common.{refl, nat_eq}
use Rattle.std.specs.HashMap.{get}
use Rattle.store_opens.proofs.open_table.Refused.{shows_refused}
use Rattle.store_opens.proofs.open_table.table.Opens.put_refusal.Goals as goal

pub returns : goal.returns
returns c = λ s h f. shows_refused c.args.self.now (record c.args.self.now { sessions = c.count_in.new.sessions })
    (λ q. get nat_eq c.refuse_in.new.sessions q) s c.args.session c.args.guid c.args.status refl
    c.refuse_in.ensures.refuses (c.count_in.ensures.counted c.refuse_in.ensures.there) f h
