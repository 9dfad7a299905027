-- What writers put one behind the other is what the definitions spell.
use Rattle.std.proofs.Common.{◌≡◌, ℕ, ◌+◌, List, [], ◌++◌, append_assoc, refl}
use Rattle.spec_wire.specs.messages.Places.{le}
use Rattle.spec_crypto.specs.tokens.Pairs.{pair, end_pair}
use Rattle.spec_crypto.specs.tokens.Acceptor.{large_name, small_name, server_info}
use Rattle.spec_crypto.specs.tokens.Formulas.{temp}

pub info_spelled : (now : ℕ) → (((((((([] ++ pair 2 large_name) ++ pair 1 large_name) ++ pair 4 small_name) ++ pair 3
    small_name) ++ le 2 7) ++ le 2 8) ++ le 8 now) ++ le 4 0) ≡ server_info now
unfolding le
info_spelled now = refl

pub temp_spelled : (time challenge front : List ℕ) → (((((((((([] ++ le 2 257) ++ le 6 0) ++ time) ++ challenge) ++ le 4
    0) ++ front) ++ le 2 6) ++ le 2 4) ++ le 4 2) ++ le 4 0) ++ le 4 0 ≡ temp time challenge (front ++ (pair 6 (le 4 2)
    ++ end_pair))
unfolding le
temp_spelled time challenge front = simp append_assoc
