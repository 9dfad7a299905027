use Rattle.std.proofs.Common.{◌∙◌, sym, length-drop, arith}
use Rattle.std.proofs.lemmas.List.{take_rest}
use Rattle.conn_core.proofs.reply_sealing.Parts.{known, unknown, seals_behind}
use Rattle.conn_core.proofs.reply_sealing.putting.seal_by.Goals as goal

pub seal_text-requires-clause-cipher : goal.seal_text-requires-clause-cipher
seal_text-requires-clause-cipher c =
    let has = known c.args.keys.now.cipher (sym c.is_known.ensures ∙ c.if-is_known.true) in
    record { least = has.0; most = has.1 }

pub seal_text-requires-clause-whole : goal.seal_text-requires-clause-whole
seal_text-requires-clause-whole c =
    let size = length-drop c.args.from c.args.out.now in
    let whole = c.requires.whole in
    rw (take_rest c.args.out.now c.args.from) (omega arith)

pub seal_text-requires-clause-short : goal.seal_text-requires-clause-short
seal_text-requires-clause-short c =
    let size = length-drop c.args.from c.args.out.now in
    let whole = c.requires.whole in
    let short = c.requires.short in
    rw (take_rest c.args.out.now c.args.from) (omega arith)

pub returns-then-is_known : goal.returns-then-is_known
returns-then-is_known c =
    let whole = c.requires.whole in
    seals_behind c.args.from c.args.out.now c.seal_text.new.frame c.args.nonces.now c.seal_text.new.nonces c.args.keys.now
    c.seal_text.result (omega arith) c.seal_text.ensures

pub returns-else-is_known : goal.returns-else-is_known
returns-else-is_known c = unknown c.args.keys.now.cipher (sym c.is_known.ensures ∙ c.if-is_known.false)
