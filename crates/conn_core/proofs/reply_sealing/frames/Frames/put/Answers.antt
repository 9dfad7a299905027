use Rattle.std.proofs.Common.{◌∙◌, ◌+◌, if◌then◌else◌, Bool, ℕ, ap, take, drop, length, ◌++◌, List, arith}
use Rattle.spec_world.specs.Answering as answering
use Rattle.conn_core.specs.reply_sealing.Joining.{Signs}
use Rattle.conn_core.proofs.reply_sealing.Parts.{written}
use Rattle.conn_core.proofs.reply_sealing.Texts.{text_put}
use Rattle.conn_core.proofs.reply_sealing.frames.Frames.put.Goals as goal

pub returns-clause-size : goal.returns-clause-size
returns-clause-size c =
    let x = c.args.self.now in
    let s = c.args.said.now in
    let out : List ℕ = c.put_message.new.out.items in
    ap length (written c.sign_if.new.out out c.put_message.new.out.len (grind arith))
    ∙ (c.sign_if.auto.out ∙ (ap length c.deref_mut.ensures.value ∙ (c.in_ok-put_message.ensures.size
    ∙ ap (λ (k : ℕ). length x.out.items + (64 + length s.body.now + k))
    (c.gap_if-gap.ensures.is ∙ ap (λ (k : ℕ). answering.padding_if c.args.more k) c.size.ensures))))

pub returns-clause-put : goal.returns-clause-put
returns-clause-put c = λ r said.
    let x = c.args.self.now in
    let s = c.args.said.now in
    let out : List ℕ = c.put_message.new.out.items in
    let signs = c.sign_if.ensures
    ∙ ap (λ (l : List ℕ). take c.len-start.result l ++ Signs c.signer-signer.result (drop c.len-start.result l))
    c.deref_mut.ensures.value in
    text_put x.sealed c.args.more s r c.signer-signer.result c.header_of-header.result c.gap_if-gap.result c.len-start.result x.out.items
    out _ said c.signer-signer.ensures (c.header_of-header.ensures r said
    ∙ ap (λ (b : Bool). if b then record (answering.said_header c.args.more r) {
      flags = r.header.flags + 8;
    } else answering.said_header c.args.more r) c.is_some.ensures)
    (c.gap_if-gap.ensures.is ∙ ap (λ (k : ℕ). answering.padding_if c.args.more k) c.size.ensures)
    (let e = c.len-start.ensures in grind arith)
    c.in_ok-put_message.ensures.is (written c.sign_if.new.out out c.put_message.new.out.len (grind arith) ∙ signs)
