-- A fact on what a call gave, where it gave something.
use Rattle.std.proofs.Common.{Result, Ok, Err, IfOk}

pub if_ok_by : {X Y : Type 0} {P Q : X → Type 0} (r : Result X Y) → IfOk r P → ((x : X) → P x → Q x) → IfOk r Q
if_ok_by (Ok x) p f = f x p
if_ok_by (Err e) p f = tt
