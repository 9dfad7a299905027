use Rattle.std.proofs.Common.{◌≤◌, length, refl, inl, inr, arith}
use Rattle.std.proofs.Math.ListN.{length-set}
use Rattle.spec_crypto.specs.ciphers.Aes.{rounds}
use Rattle.crypto_ciphers.proofs.aes_block.PlaneCipher.{plane_keys_more}
use Rattle.crypto_ciphers.proofs.aes_block.eight.plane_keys_of.Goals as goal

pub loop-r-init : goal.loop-r-init
loop-r-init c = record { known = λ k lt. absurd (omega arith); len = refl }

pub loop-r-preserved : goal.loop-r-preserved
loop-r-preserved c = record {
  known = plane_keys_more c.args.words.now c.loop-r.keys c.loop-r.r c.key_planes_of-key.result c.loop-r.invariant.len (omega arith)
      c.loop-r.invariant.known c.key_planes_of-key.ensures;
  len = simp length-set c.loop-r.invariant.len;
}

pub returns : goal.returns
unfolding rounds
returns c =
    let many : 44 ≤ length c.args.words.now = elim c.requires [ inl e ↦ omega arith | inr e ↦ omega arith ] in
    λ r le. c.loop-r.invariant.known r (omega arith)
