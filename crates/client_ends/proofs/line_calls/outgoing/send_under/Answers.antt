use Rattle.std.proofs.Common.{◌≡◌, ℕ, ◌+◌, ◌≤◌, List, length, drop, vec_len, sym, ap, subst, ◌∙◌}
use Rattle.spec_wire.specs.credits.Ids.{counted}
use Rattle.spec_wire.specs.credits.Purse.{Credits}
use Rattle.crypto_sessions.specs.session_keys.Sealing.{HasCipher}
use Rattle.client_ends.specs.ends.Shown.{token_of}
use Rattle.client_ends.proofs.line_calls.Sent.{body_is, frame_fits, front_fits, keeps_all, no_nonce, sealed_counts, sealed_sent}
use Rattle.client_ends.proofs.line_calls.outgoing.send_under.Goals as goal

pub returns-in_default : goal.returns-in_default
returns-in_default c = record { sends = λ n m charge s r e. s; counts = keeps_all c.args.line.now }

pub spend-id-requires : goal.spend-id-requires
spend-id-requires c = record {
  room = c.next_nonce.ensures.room c.requires.room;
  held =
      subst (λ (p : Credits). counted c.args.request.now.header.charge ≤ p.held) (sym c.next_nonce.ensures.same.0) c.requires.held;
}

pub header_of-header-requires : goal.header_of-header-requires
header_of-header-requires c = c.requires.request.flags

pub sealed_frame-requires : goal.sealed_frame-requires
sealed_frame-requires c =
    let body = length c.as_slice.result.now in
    let size : vec_len c.in-Ok.frame ≡ 116 + body = c.in-Ok.ensures.size in
    let fits = body_is c.as_slice.result.now c.args.request.now.body c.as_slice.ensures c.requires.request.body in record {
      whole = front_fits (vec_len c.in-Ok.frame) 116 body size;
      short = frame_fits (vec_len c.in-Ok.frame) body size fits;
      cipher = subst HasCipher (sym (c.spend-id.ensures.keeps.keys ∙ c.next_nonce.ensures.same.2)) c.requires.cipher;
    }

pub returns-in-Some : goal.returns-in-Some
returns-in-Some c = record {
  sends = λ n m charge s r e.
      let same = c.next_nonce.ensures.same in
      sealed_sent c.args.line.now c.next_nonce.new.line c.spend-id.new.self c.args.request.now n m charge c.header_of-header.result
      c.in-Some.nonce (drop 116 c.in-Ok.frame.items) c.sealed_frame.result s r c.requires.seals c.requires.held same.0
      same.1 same.2 same.3 c.in-Some.ensures.gives c.spend-id.ensures.shows c.spend-id.ensures.keeps
      (c.header_of-header.ensures m charge r
      (e ∙ (ap (λ (p : Credits). p.next) s.0.purse ∙ (ap (λ (p : Credits). p.next) (sym same.0) ∙ sym c.spend-id.ensures.id))))
      (ap (λ (x : List ℕ). drop 116 x) c.in-Ok.ensures.items ∙ c.as_slice.ensures) c.sealed_frame.ensures;
  counts = let same = c.next_nonce.ensures.same in
      sealed_counts c.args.line.now c.next_nonce.new.line c.spend-id.new.self c.in-Some.nonce _ c.sealed_frame.result c.requires.seals same.2
      same.3 c.in-Some.ensures.gives c.spend-id.ensures.keeps c.sealed_frame.ensures;
}

pub returns-in-None : goal.returns-in-None
returns-in-None c = record {
  sends = λ n m charge s r e.
      let same = c.next_nonce.ensures.same in
      no_nonce c.args.line.now c.next_nonce.new.line n m charge (token_of c.args.request.now.token) s c.requires.seals same.0 same.1
      same.2 same.3
      c.in-None.ensures.gives;
  counts = record { keys = c.next_nonce.ensures.same.2; encrypts = c.next_nonce.ensures.same.3; nonces = c.in-None.ensures.gives.1 };
}
