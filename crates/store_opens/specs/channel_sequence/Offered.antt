-- What a request's channel sequence is against the one that its open keeps (MS-SMB2 3.3.5.2.10).
use Rattle.std.specs.Prelude.{ℕ, ◌+◌, ◌-◌, ◌%◌, ◌==◌, nat_lt, Bool, true, false, if◌then◌else◌}
use Rattle.store_opens.specs.declared.channel_sequence.seen.Offered.{Offered}
use Rattle.store_opens.specs.declared.channel_sequence.seen.Offered.TheVariants.{Same, Adopted, Stale}

-- how far it is above the kept one, counted modulo 65,536
abbrev pub difference : ℕ → ℕ → ℕ
difference n kept = (n + 65536 - kept) % 65536

-- by 1 to 0x7fff it is newer, by more it is older
abbrev pub offered : ℕ → ℕ → Offered
offered n kept = if difference n kept == 0 then Same else if nat_lt (difference n kept) 0x8000 then Adopted else Stale kept

-- what is kept behind it
abbrev pub kept_after : ℕ → ℕ → ℕ
kept_after n kept = if nat_lt (difference n kept) 0x8000 then n else kept

abbrev pub tells_stale : Offered → Bool
tells_stale Same = false
tells_stale Adopted = false
tells_stale (Stale kept) = true
