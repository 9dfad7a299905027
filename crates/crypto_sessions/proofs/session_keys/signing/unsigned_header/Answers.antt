use Rattle.std.proofs.Common.{sym, arith}
use Rattle.std.proofs.lemmas.List.{length-take-le}
use Rattle.crypto_sessions.proofs.session_keys.signing.unsigned_header.Goals as goal

pub slice_bounds-copy_from_slice-end-2 : goal.slice_bounds-copy_from_slice-end-2
slice_bounds-copy_from_slice-end-2 c = sym (length-take-le 48 c.args.message.now (let h = c.requires in omega arith))

pub copy_from_slice-requires : goal.copy_from_slice-requires
copy_from_slice-requires c = sym (length-take-le 48 c.args.message.now (let h = c.requires in omega arith))
