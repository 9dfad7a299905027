use Rattle.std.proofs.Common.{List, ℕ, subst}
use Rattle.world_steps.specs.Changes.{PutUp, change_of}
use Rattle.world_steps.proofs.Refusing.{result_with}
use Rattle.world_steps.proofs.Tampered.{changes_up}
use Rattle.world_steps.proofs.tampering.change_up.Goals as goal

pub returns-in-Some : goal.returns-in-Some
returns-in-Some c = result_with c.put_up.result
    (λ u r. changes_up (change_of c.args.change) c.args.up.now.items c.in-Some.front c.pop_front.new.self.items
    c.put_up.new.up.items c.in-Some.ensures.items
    (subst (λ (v : List ℕ). PutUp c.pop_front.new.self.items c.in-Some.front.token v c.put_up.new.up.items)
    c.altered-bytes.ensures r)) c.put_up.ensures
