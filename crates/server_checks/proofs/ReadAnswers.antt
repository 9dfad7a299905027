-- Reads and listings, by the file of their open.
use Rattle.std.proofs.Common.{◌≡◌, ℕ, Bool, true, false, ◌||◌, List, refl, subst}
use Rattle.spec_exchange.specs.CheckOpen.{begins_at, file_of, has_access, list_check, list_from, read_check}
use Rattle.spec_exchange.specs.Files.{is_directory}
use Rattle.spec_exchange.specs.Ranges.{may_read}
use Rattle.spec_exchange.specs.State.{Server}
use Rattle.server_checks.specs.Looks.{read_bytes}

pub read_is : (s : Server) (o f at size minimum : ℕ) → (has_access s o 0x1 || has_access s o 0x20) ≡ true → is_directory s f ≡ false
    → may_read (s.ranges (file_of s o)) o at size ≡ true → f ≡ file_of s o
    → read_bytes s o f at size minimum ≡ read_check s o at size minimum
read_is s o f at size minimum a d r e =
    let g : is_directory s (file_of s o) ≡ false = subst (λ (x : ℕ). is_directory s x ≡ false) e d in
    rw (a, g, r, e) refl

pub list_is : (s : Server) (o class : ℕ) (restart single : Bool) (pattern : List ℕ) (room f : ℕ) → has_access s o 0x1 ≡ true
    → is_directory s f ≡ true → f ≡ file_of s o
    → list_from s o class single pattern room (begins_at restart (s.enumeration_location o))
    ≡ list_check s o class restart single pattern room
list_is s o class restart single pattern room f a d e =
    let g : is_directory s (file_of s o) ≡ true = subst (λ (x : ℕ). is_directory s x ≡ true) e d in
    rw (a, g) refl
