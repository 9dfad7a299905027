use Rattle.std.proofs.Common.{ℕ, Bool, sym, subst}
use Rattle.std.specs.Prelude.{IfOk}
use Rattle.law_snapshots.specs.snapshots.Pieces.{FilePiece}
use Rattle.server_core.specs.durable_state.Durable.{TookPiece}
use Rattle.server_core.proofs.durable_state.ByPiece.{none_beside, noted_shown}
use Rattle.server_core.proofs.durable_state.durable.Durable.with_file.Goals as goal

pub returns : goal.returns
returns c = λ s i h.
    let front = c.args.front.now in
    subst (λ (k : ℕ). IfOk c.place_file.result (λ (b : Bool). TookPiece c.place_file.new.self s (FilePiece c.args.file c.args.path.now
    front.directory front.pending front.basic front.size k) b)) (sym (none_beside front.stored c.if-front-gt0.false))
    (c.place_file.ensures s i (noted_shown c.args.self.now c.note.new.self s c.note.ensures.rest c.in_ok-note.ensures.before h)
    c.in_ok-note.ensures.noted)
