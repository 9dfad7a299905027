use Rattle.std.proofs.Common.{arith, refl, sym, ◌∙◌, ap, subst, take, length-set, ◌≡◌}
use Rattle.std.proofs.lemmas.List.{take_all}
use Rattle.spec_crypto.specs.ciphers.Hmac.{padded_by}
use Rattle.crypto_ciphers.proofs.mac_kdf.Keys.{padded_more}
use Rattle.crypto_ciphers.proofs.mac_kdf.keyed_hash.padded.Goals as goal

pub join-preserved : goal.join-preserved
join-preserved c = record {
  len = length-set c.join.joined c.join.k _ ∙ c.join.invariant.len;
  joined = let len = c.join.invariant.len in padded_more c.args.pad c.join.k _ c.args.block.now c.join.joined
      (omega arith) (omega arith) c.join.invariant.joined refl;
}

pub returns : goal.returns
returns c =
    let all : c.join.k ≡ 64 = omega arith in
    let len = c.join.invariant.len in
    let e : take 64 c.join.joined ≡ padded_by c.args.pad (take 64 c.args.block.now) =
    subst (λ n. take n c.join.joined ≡ padded_by c.args.pad (take n c.args.block.now)) all c.join.invariant.joined
    in
    sym (take_all 64 c.join.joined (omega arith)) ∙ (e ∙ ap (padded_by c.args.pad) (take_all 64 c.args.block.now (omega arith)))
