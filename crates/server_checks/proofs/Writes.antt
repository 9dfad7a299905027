-- A replayed write.
use Rattle.std.proofs.Common.{◌≡◌, ℕ, true, false, List, refl}
use Rattle.spec_exchange.specs.CheckOpen.{bytes_change, file_of, is_repeated}
use Rattle.spec_exchange.specs.Content.{is_empty, same_bytes, written}
use Rattle.spec_exchange.specs.State.{Server, Message}

pub never_repeated : (s : Server) (m : Message) (o at : ℕ) (bytes : List ℕ) → m.replay ≡ false
    → false ≡ is_repeated s m o (bytes_change at bytes)
never_repeated s m o at bytes e = rw e refl

pub nothing_repeated : (s : Server) (m : Message) (o at : ℕ) (bytes : List ℕ) → m.replay ≡ true → is_empty bytes ≡ true
    → true ≡ is_repeated s m o (bytes_change at bytes)
nothing_repeated s m o at bytes e f = rw (e, f) refl

pub bytes_repeated : (s : Server) (m : Message) (o at : ℕ) (bytes : List ℕ) → m.replay ≡ true → is_empty bytes ≡ false
    → same_bytes (written at bytes (s.content (file_of s o))) (s.content (file_of s o)) ≡ is_repeated s m o (bytes_change at bytes)
bytes_repeated s m o at bytes e f = rw (e, f) refl
