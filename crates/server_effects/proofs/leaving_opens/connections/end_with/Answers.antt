use Rattle.std.proofs.Common.{sym, ◌∙◌, take, drop, get_or, ◌+◌, false}
use Rattle.spec_exchange.specs.Step.{take_all_out}
use Rattle.law_records.proofs.leaving_opens.Out.{stand_yet}
use Rattle.server_effects.proofs.leaving_opens.Each.{split_at}
use Rattle.server_effects.proofs.leaving_opens.Files.{on_ok_by}
use Rattle.server_effects.proofs.leaving_opens.Lost.{next_stays, next_ended}
use Rattle.server_effects.proofs.leaving_opens.connections.end_with.Goals as goal

pub returns-in-Some : goal.returns-in-Some
returns-in-Some c = λ s now i f o t h e l r.
    let ends = sym e ∙ c.in-Some.is in
    on_ok_by c.end_in.result
    (c.end_in.ensures s (take_all_out s (take i s.connections) now false) f o t l
    (stand_yet s (take i s.connections) (get_or s.connections i 0) (drop (i + 1) s.connections) now c.in-Some.session f
    (split_at s.connections i h) ends))
    (λ a. next_ended c.end_in.new.leaving s now i c.in-Some.session c.no_message.result _ _ f h ends c.no_message.ensures r a)

pub returns-in-None : goal.returns-in-None
returns-in-None c = λ s now i f o t h e l r. next_stays c.args.leaving.now s now i _ f h (sym e ∙ c.in-None.is) (l, r)
