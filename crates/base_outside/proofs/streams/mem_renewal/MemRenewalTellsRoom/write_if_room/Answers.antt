use Rattle.std.proofs.Common.{◌≡◌, length, subst}
use Rattle.base_outside.specs.streams.Disk.{Follows, Torn}
use Rattle.base_outside.specs.streams.Drafts.{RenewalState}
use Rattle.base_outside.proofs.streams.mem_renewal.MemRenewalTellsRoom.write_if_room.Goals as goal

pub returns-clause-crash : goal.returns-clause-crash
returns-clause-crash c = subst
    (λ (d : RenewalState). Follows (Torn c.args.at (length c.args.from.now)) (λ f. f ≡ d.bytes) (λ f. f ≡ c.write_if_room.new.self.bytes))
    c.self.view_is c.write_if_room.ensures.crash
