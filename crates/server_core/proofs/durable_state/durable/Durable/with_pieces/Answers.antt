use Rattle.std.proofs.Common.{◌≤◌, Bool, length, sym, subst, arith}
use Rattle.journal_bytes.specs.piece_bytes.Meaning.{piece_of}
use Rattle.server_core.specs.durable_state.Durable.{TookPiece}
use Rattle.server_core.proofs.durable_state.ByPiece.{takes_first, took_all, took_next, took_no_more}
use Rattle.server_core.proofs.durable_state.durable.Durable.with_pieces.Goals as goal

pub loop-piece-init : goal.loop-piece-init
loop-piece-init c = λ s i h. takes_first c.args.self.now s c.args.pieces.now i h

pub loop-piece-preserved : goal.loop-piece-preserved
loop-piece-preserved c = λ s i h.
    let v = c.loop-piece.invariant s i h in
    let took = subst (λ (b : Bool). TookPiece c.with_piece.new.self v.0 (piece_of c.piece-item.result) b) c.if-not-branch.false
    (c.in_ok-with_piece.ensures v.0 v.1 v.2) in
    took_next c.loop-piece.self c.with_piece.new.self s c.args.pieces.now c.loop-piece.piece-index c.piece-item.result (grind arith)
    c.piece-item.is v took (c.piece_fits_law.ensures.fits v.0 (piece_of c.piece-item.result) v.1 (sym took.0))

pub returns-then-not-branch : goal.returns-then-not-branch
returns-then-not-branch c = λ s i h.
    let v = c.loop-piece.invariant s i h in
    let took = subst (λ (b : Bool). TookPiece c.with_piece.new.self v.0 (piece_of c.piece-item.result) b) c.if-not-branch.true
    (c.in_ok-with_piece.ensures v.0 v.1 v.2) in (
      took_no_more c.loop-piece.self c.with_piece.new.self s c.args.pieces.now c.loop-piece.piece-index c.piece-item.result (grind arith)
          c.piece-item.is v took,
      λ on. absurd (cc),
    )

pub returns : goal.returns
returns c = λ s i h.
    let end : length c.args.pieces.now ≤ c.loop-piece.piece-index = grind arith in
    took_all c.loop-piece.self s c.args.pieces.now c.loop-piece.piece-index end (c.loop-piece.invariant s i h)
