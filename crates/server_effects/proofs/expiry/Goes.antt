-- Where the file of an open goes with it.
use Rattle.std.proofs.Common.{◌≡◌, ℕ, ◌+◌, ◌==◌, nat_le, true, false, not, ◌&&◌, ◌||◌, length, sym, ◌∙◌}
use Rattle.spec_exchange.specs.State.{Server}
use Rattle.spec_exchange.specs.Files.{root, exists, exists_in, is_full_directory}
use Rattle.spec_exchange.specs.Opens.{opens_of}
use Rattle.law_server.specs.tables.Fits.{Fits}
use Rattle.law_server.proofs.tables.Logic.{front_of, back_of, not_true, other_on}
use Rattle.law_records.specs.leaving_opens.Since.{deletes_at_close, is_last}
use Rattle.law_records.proofs.leaving_opens.Left.{alone}
use Rattle.server_effects.specs.expiry.Expired.{goes_behind}

last_there : (s : Server) (o : ℕ) → Fits s → s.standing o ≡ true → goes_behind s o ≡ true
    → is_last (λ f. 0) s s (s.opened o).file ≡ true
last_there s o i st g =
    back_of (s.delete_pending (s.opened o).file || deletes_at_close (s.opened o))
    (is_last (λ f. 0) s s (s.opened o).file) (sym (alone s o i st) ∙ g)

pub not_root : (s : Server) (o : ℕ) → Fits s → s.standing o ≡ true → goes_behind s o ≡ true → ((s.opened o).file == root) ≡ false
not_root s o i st g =
    not_true ((s.opened o).file == root) (front_of (not ((s.opened o).file == root))
    (nat_le (length (opens_of s (s.opened o).file)) (0 + 1) && not (is_full_directory s (s.opened o).file)) (last_there s o i st g))

pub not_full : (s : Server) (o : ℕ) → Fits s → s.standing o ≡ true → goes_behind s o ≡ true
    → is_full_directory s (s.opened o).file ≡ false
not_full s o i st g =
    let f = (s.opened o).file in
    not_true (is_full_directory s f) (back_of (nat_le (length (opens_of s f)) (0 + 1)) (not (is_full_directory s f))
    (back_of (not (f == root)) (nat_le (length (opens_of s f)) (0 + 1) && not (is_full_directory s f)) (last_there s o i st g)))

pub there : (s : Server) (o : ℕ) → Fits s → s.standing o ≡ true → goes_behind s o ≡ true → exists_in s.entries (s.opened o).file ≡ true
unfolding exists
there s o i st g = other_on ((s.opened o).file == root) (exists_in s.entries (s.opened o).file) (i.open_files o st) (not_root s o i st g)
