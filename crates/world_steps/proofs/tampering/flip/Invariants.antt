use Rattle.std.proofs.Common.{◌≡◌, drop}
use Rattle.spec_world.specs.Events.{flipped}
use Rattle.world_steps.proofs.tampering.flip.Given as goal

abbrev pub invariant-loop-m : goal.invariant-loop-m
invariant-loop-m l = flipped l.place (drop l.m-index l.mask) l.bytes ≡ flipped l.initial.place l.mask l.initial.bytes
