use Rattle.std.proofs.Common.{◌≡◌, ℕ, ◌+◌, List, length, drop, vec_len, sym, ap, ◌∙◌}
use Rattle.spec_wire.specs.credits.Purse.{Credits}
use Rattle.client_ends.proofs.line_calls.Sent.{body_is, frame_short, front_fits, keeps_all, plain_sent, signed_counts}
use Rattle.client_ends.proofs.line_calls.outgoing.send_signed.Goals as goal

pub returns-in_default : goal.returns-in_default
returns-in_default c = record { sends = λ n m charge s r e. s; counts = keeps_all c.args.line.now }

pub header_of-header-requires : goal.header_of-header-requires
header_of-header-requires c = c.requires.request.flags

pub signed_frame-requires : goal.signed_frame-requires
signed_frame-requires c =
    let body = length c.as_slice.result.now in
    let size : vec_len c.in-Ok.frame ≡ 64 + body = c.in-Ok.ensures.size in
    let fits = body_is c.as_slice.result.now c.args.request.now.body c.as_slice.ensures c.requires.request.body in record {
      whole = front_fits (vec_len c.in-Ok.frame) 64 body size;
      short = frame_short (vec_len c.in-Ok.frame) body size fits;
    }

pub returns : goal.returns
returns c = record {
  sends = λ n m charge s r e.
      plain_sent c.args.line.now c.spend-id.new.self c.args.request.now n m charge c.header_of-header.result (drop 64 c.in-Ok.frame.items)
      c.signed_frame.result s r c.requires.plain c.requires.held c.spend-id.ensures.shows c.spend-id.ensures.keeps
      (c.header_of-header.ensures m charge r (e ∙ (ap (λ (p : Credits). p.next) s.0.purse ∙ sym c.spend-id.ensures.id)))
      (ap (λ (x : List ℕ). drop 64 x) c.in-Ok.ensures.items ∙ c.as_slice.ensures) c.signed_frame.ensures;
  counts = signed_counts c.args.line.now c.spend-id.new.self _ c.signed_frame.result c.requires.plain c.spend-id.ensures.keeps
      c.signed_frame.ensures;
}
