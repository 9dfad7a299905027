-- An event is refused exactly where the world doesn't meet it, since frames and messages are as many.
use Rattle.std.proofs.Common.{◌≡◌, ℕ, nat_lt, Bool, true, false, not, ◌&&◌, ◌||◌, if◌then◌else◌, List, [], ◌∷◌, length, refl}
use Rattle.std.proofs.Common.{◌∙◌, ap, Option, Some, None, is_some, arith}
use Rattle.std.specs.Prelude.{is_none}
use Rattle.spec_exchange.specs.Table.{is_filled}
use Rattle.spec_exchange.specs.Network.{Submit, Open, Push, Serve, Take, Cut, Drop, Restart, Crash, Wait, Finish, max_channel}
use Rattle.spec_world.specs.World.{World}
use Rattle.spec_world.specs.Events.{ByteEvent, Plain, Tamper, bytes_run, bytes_start}
use Rattle.spec_world.specs.Notes.{NoChannel, InUse, unless_open, unless_there, making_error, step_error, is_met, is_finish}
use Rattle.spec_world.specs.Notes.{RefusalsAreTold}
use Rattle.spec_world.specs.Statements.{AreAlong}
use Rattle.law_ties.proofs.frame_counts.Along.{always}

filled_alike : {X Y : Type 0} (xs : List X) (ys : List Y) → length xs ≡ length ys → is_filled ys ≡ is_filled xs
unfolding is_filled
filled_alike [] [] e = refl
filled_alike [] (y ∷ ys) e = absurd (omega (arith, e))
filled_alike (x ∷ xs) [] e = absurd (omega (arith, e))
filled_alike (x ∷ xs) (y ∷ ys) e = refl

there_told : (is_open : Bool) (frames : List (List ℕ)) (k : ℕ) → (is_open && is_filled frames) ≡ is_none (unless_there is_open frames k)
unfolding is_filled
there_told false frames k = refl
there_told true [] k = refl
there_told true (b ∷ bs) k = refl

open_told : (is_open : Bool) (k : ℕ) → is_open ≡ is_none (unless_open is_open k)
open_told true k = refl
open_told false k = refl

in_use_told : (below client server : Bool) (making : Option ℕ) (k : ℕ)
    → (below && (not client && (not server && not (is_some making))))
    ≡ is_none (if not below then Some (NoChannel k) else if client || server then Some (InUse k) else making_error making)
in_use_told false client server making k = refl
in_use_told true true server making k = refl
in_use_told true false true making k = refl
in_use_told true false false None k = refl
in_use_told true false false (Some j) k = refl

met_told : (w : World) → AreAlong w → (e : ByteEvent) → is_finish e ≡ false → is_met w e ≡ is_none (step_error w e)
met_told w i (Plain (Submit g op)) other = refl
met_told w i (Plain (Open k)) other =
    in_use_told (nat_lt k max_channel) (w.values.conns k).client_open (w.values.conns k).server_open w.values.client.making k
met_told w i (Plain (Push k slotless pick)) other = open_told (w.values.client.ready k) k
met_told w i (Plain (Serve k)) other =
    ap (λ b. (w.values.conns k).server_open && b) (filled_alike (w.wires k).up (w.values.conns k).up (i.up k))
    ∙ there_told (w.values.conns k).server_open (w.wires k).up k
met_told w i (Plain (Take k)) other =
    ap (λ b. (w.values.conns k).client_open && b) (filled_alike (w.wires k).down (w.values.conns k).down (i.down k))
    ∙ there_told (w.values.conns k).client_open (w.wires k).down k
met_told w i (Plain (Cut k)) other = open_told (w.values.conns k).client_open k
met_told w i (Plain (Drop k)) other = open_told (w.values.conns k).server_open k
met_told w i (Plain Restart) other = refl
met_told w i (Plain (Crash k kept)) other =
    ap (λ b. (w.values.conns k).server_open && b) (filled_alike (w.wires k).up (w.values.conns k).up (i.up k))
    ∙ there_told (w.values.conns k).server_open (w.wires k).up k
met_told w i (Plain (Wait n)) other = refl
met_told w i (Plain (Finish refusal)) other = absurd (cc)
met_told w i (Tamper k true change) other = there_told (w.values.conns k).server_open (w.wires k).up k
met_told w i (Tamper k false change) other = there_told (w.values.conns k).client_open (w.wires k).down k

pub told : RefusalsAreTold
told = λ z events e other. met_told (bytes_run z events (bytes_start z)) (always z events) e other
