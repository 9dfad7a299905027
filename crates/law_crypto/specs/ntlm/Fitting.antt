-- Values whose pairs of target information fit, at the place where a canonical spelling has them.
use Rattle.std.specs.Prelude.{◌≡◌, ◌+◌, ◌==◌, nat_lt, if◌then◌else◌, length, drop, None}
use Rattle.spec_crypto.specs.tokens.Messages.{Type2Value, Type3Value, info_fault, nt_at}

-- there is no target information, or it has an end pair and each pair before it fits
abbrev pub HasPairs2 : Type2Value → Type 0
HasPairs2 v = (if length v.target_info == 0 then None else info_fault (56 + length v.target_name) v.target_info) ≡ None

-- the same behind the first 44 bytes of an NTLMv2 response
abbrev pub HasPairs3 : Type3Value → Type 0
HasPairs3 v = (if nat_lt (length v.nt) 44 then None else info_fault (nt_at v + 44) (drop 44 v.nt)) ≡ None
