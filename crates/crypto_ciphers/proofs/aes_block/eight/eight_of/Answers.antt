use Rattle.std.proofs.Common.{◌≡◌, ◌<◌, ℕ, List, [], ◌∷◌, get_or, arith}
use Rattle.spec_crypto.specs.ciphers.Aes.{cipher}
use Rattle.crypto_ciphers.specs.aes_block.Planes.{IsVector, AreVectors}
use Rattle.crypto_ciphers.proofs.aes_block.PlaneCipher.{byte_vector, eight_vectors, held_told}
use Rattle.crypto_ciphers.proofs.aes_block.eight.eight_of.Goals as goal

pub ciphered_planes-ended-requires-clause-blocks : goal.ciphered_planes-ended-requires-clause-blocks
ciphered_planes-ended-requires-clause-blocks c =
    eight_vectors c.args.a c.args.b c.args.c c.args.d c.args.e c.args.f c.args.g c.args.h
    (byte_vector c.args.a c.fits-a.0 c.fits-a.1) (byte_vector c.args.b c.fits-b.0 c.fits-b.1)
    (byte_vector c.args.c c.fits-c.0 c.fits-c.1) (byte_vector c.args.d c.fits-d.0 c.fits-d.1)
    (byte_vector c.args.e c.fits-e.0 c.fits-e.1) (byte_vector c.args.f c.fits-f.0 c.fits-f.1)
    (byte_vector c.args.g c.fits-g.0 c.fits-g.1) (byte_vector c.args.h c.fits-h.0 c.fits-h.1)

pub returns : goal.returns
returns c =
    let ws = c.args.words.now in
    let s : List (List ℕ) = c.args.a ∷ c.args.b ∷ c.args.c ∷ c.args.d ∷ c.args.e ∷ c.args.f ∷ c.args.g ∷ c.args.h ∷ [] in
    let v : AreVectors s = eight_vectors c.args.a c.args.b c.args.c c.args.d c.args.e c.args.f c.args.g c.args.h
    (byte_vector c.args.a c.fits-a.0 c.fits-a.1) (byte_vector c.args.b c.fits-b.0 c.fits-b.1)
    (byte_vector c.args.c c.fits-c.0 c.fits-c.1) (byte_vector c.args.d c.fits-d.0 c.fits-d.1)
    (byte_vector c.args.e c.fits-e.0 c.fits-e.1) (byte_vector c.args.f c.fits-f.0 c.fits-f.1)
    (byte_vector c.args.g c.fits-g.0 c.fits-g.1) (byte_vector c.args.h c.fits-h.0 c.fits-h.1) in
    let at : (j : ℕ) (out : List ℕ) → j < 8 → out ≡ get_or c.turned-w.result j [] → IsVector out → out ≡ cipher ws (get_or s j []) =
    λ j out lj same p. held_told ws c.turned-w.result c.ciphered_planes-ended.result s j out v c.ciphered_planes-ended.ensures.bytes
    c.turned-w.ensures c.ciphered_planes-ended.ensures.planes lj same p in
    let ea = at 0 c.held-out_a.result (omega arith) c.held-out_a.ensures.same c.held-out_a.ensures.bytes in
    let eb = at 1 c.held-out_b.result (omega arith) c.held-out_b.ensures.same c.held-out_b.ensures.bytes in
    let ec = at 2 c.held-out_c.result (omega arith) c.held-out_c.ensures.same c.held-out_c.ensures.bytes in
    let ed = at 3 c.held-out_d.result (omega arith) c.held-out_d.ensures.same c.held-out_d.ensures.bytes in
    let ee = at 4 c.held-out_e.result (omega arith) c.held-out_e.ensures.same c.held-out_e.ensures.bytes in
    let ef = at 5 c.held-out_f.result (omega arith) c.held-out_f.ensures.same c.held-out_f.ensures.bytes in
    let eg = at 6 c.held-out_g.result (omega arith) c.held-out_g.ensures.same c.held-out_g.ensures.bytes in
    let eh = at 7 c.held-out_h.result (omega arith) c.held-out_h.ensures.same c.held-out_h.ensures.bytes in
    λ t. ea t ∷ eb t ∷ ec t ∷ ed t ∷ ee t ∷ ef t ∷ eg t ∷ eh t ∷ []
