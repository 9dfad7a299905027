-- What a step on a disk answers: it was done, or the disk has no room for it.
use Rattle.std.specs.Prelude.{Result, Ok, Err, ⊤}
use Rattle.base_outside.specs.declared.streams.room.DiskStep.{DiskStep}
use Rattle.base_outside.specs.declared.streams.room.DiskStep.TheVariants.{Done, NoRoom}

abbrev pub IfDone : {E : Type 0} → Result DiskStep E → Type 0 → Type 0
IfDone (Ok Done) p = p
IfDone (Ok NoRoom) p = ⊤
IfDone (Err e) p = ⊤

abbrev pub IfNoRoom : {E : Type 0} → Result DiskStep E → Type 0 → Type 0
IfNoRoom (Ok Done) p = ⊤
IfNoRoom (Ok NoRoom) p = p
IfNoRoom (Err e) p = ⊤
