-- The faults of a frame's messages where one of them takes over ids.
use Rattle.std.proofs.Common.{◌≡◌, ℕ, List, Option, Some, set, slice_get, sym, subst}
use Rattle.std.proofs.lemmas.List.Elements.{All-set}
use Rattle.std.proofs.lemmas.Option.{get_or_from_slice_get, slice_get_within}
use Rattle.conn_core.specs.declared.frame_messages.checked.Checked.{Checked}
use Rattle.conn_core.specs.frame_messages.Checking.{AllDenied, IsDenied}

pub denied_at : (ms : List Checked) (i : ℕ) (m : Checked) → slice_get ms i ≡ Some m → AllDenied ms → IsDenied m.fault
denied_at ms i m here all =
    subst (λ (n : Checked). IsDenied n.fault) (get_or_from_slice_get ms i m m here) (all i m (slice_get_within ms i m here))

pub set_denied : (old new : List Checked) (at : ℕ) (a b : Checked) → slice_get old at ≡ Some a → new ≡ set old at b → b.fault ≡ a.fault
    → AllDenied old → AllDenied new
set_denied old new at a b here is same all =
    subst (λ (ms : List Checked). AllDenied ms) (sym is) (All-set (λ (n : Checked). IsDenied n.fault) old at b
    (subst (λ (o : Option ℕ). IsDenied o) (sym same) (denied_at old at a here all)) all)
