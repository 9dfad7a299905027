use Rattle.std.proofs.Common.{List, ℕ, subst}
use Rattle.world_steps.specs.Changes.{PutDown, change_of}
use Rattle.world_steps.proofs.Refusing.{result_with}
use Rattle.world_steps.proofs.Tampered.{changes_down}
use Rattle.world_steps.proofs.tampering.change_down.Goals as goal

pub returns-in-Some : goal.returns-in-Some
returns-in-Some c = result_with c.put_down.result
    (λ u r. changes_down (change_of c.args.change) c.args.down.now.items c.in-Some.front c.pop_front.new.self.items
    c.put_down.new.down.items c.in-Some.ensures.items
    (subst (λ (v : List ℕ). PutDown c.pop_front.new.self.items c.in-Some.front.place v c.put_down.new.down.items)
    c.altered-bytes.ensures r)) c.put_down.ensures
