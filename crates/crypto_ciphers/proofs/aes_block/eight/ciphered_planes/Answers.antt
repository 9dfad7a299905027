use Rattle.std.proofs.Common.{◌≤◌, ◌-◌, [], length, get_or, inl, inr, arith}
use Rattle.spec_crypto.specs.ciphers.Aes.{rounds}
use Rattle.crypto_ciphers.proofs.aes_block.PlaneCipher.{begun_planes, begun_vector, more_planes, next_vector_of, ended_planes, ended_vector}
use Rattle.crypto_ciphers.proofs.aes_block.eight.ciphered_planes.Goals as goal

pub loop-r-init : goal.loop-r-init
loop-r-init c =
    let key = c.requires.keys 0 (omega arith) in
    let vs = c.requires.blocks in
    record {
      planes = begun_planes c.args.words.now c.sums_of-q.result c.turned-planes.result c.args.blocks.now
          (get_or c.args.keys.now 0 []) vs key
          c.turned-planes.ensures c.sums_of-q.ensures;
      bytes = λ j lj. begun_vector c.args.words.now (get_or c.args.keys.now 0 []) (get_or c.args.blocks.now j []) (vs.each j lj) key;
    }

pub loop-r-preserved : goal.loop-r-preserved
unfolding rounds
loop-r-preserved c =
    let r = c.loop-r.r in
    let key = c.requires.keys r (omega arith) in
    let vs = c.requires.blocks in
    record {
      planes = more_planes c.args.words.now c.loop-r.q c.round_of-next.result c.args.blocks.now (get_or c.args.keys.now r []) r
          (omega arith) vs key
          c.loop-r.invariant.bytes c.loop-r.invariant.planes c.round_of-next.ensures;
      bytes = λ j lj. next_vector_of c.args.words.now (get_or c.args.keys.now r []) (get_or c.args.blocks.now j []) r (omega arith)
          (c.loop-r.invariant.bytes j lj) key;
    }

pub returns-clause-planes : goal.returns-clause-planes
unfolding rounds
returns-clause-planes c =
    let many : 44 ≤ length c.args.words.now = elim c.requires.words [ inl e ↦ omega arith | inr e ↦ omega arith ] in
    ended_planes c.args.words.now c.loop-r.q c.last_of.result c.args.blocks.now (get_or c.args.keys.now (rounds c.args.words.now) [])
    (c.loop-r.r - 1)
    (omega arith) c.requires.blocks (c.requires.keys (rounds c.args.words.now) (omega arith)) c.loop-r.invariant.bytes
    c.loop-r.invariant.planes c.last_of.ensures

pub returns-clause-bytes : goal.returns-clause-bytes
unfolding rounds
returns-clause-bytes c =
    let many : 44 ≤ length c.args.words.now = elim c.requires.words [ inl e ↦ omega arith | inr e ↦ omega arith ] in
    λ j lj. ended_vector c.args.words.now (get_or c.args.keys.now (rounds c.args.words.now) []) (get_or c.args.blocks.now j [])
    (c.loop-r.r - 1)
    (omega arith) (c.loop-r.invariant.bytes j lj) (c.requires.keys (rounds c.args.words.now) (omega arith))
