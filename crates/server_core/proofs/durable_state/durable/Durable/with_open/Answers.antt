use Rattle.std.proofs.Common.{◌≡◌, if◌then◌else◌, sym, subst, ◌∙◌}
use Rattle.store_opens.specs.declared.open_table.row.OpenParts.{OpenParts}
use Rattle.store_opens.specs.open_table.Shown.{ShowsOpens}
use Rattle.journal_bytes.specs.piece_bytes.Meaning.{row_of}
use Rattle.law_snapshots.specs.snapshots.Pieces.{OpenPiece}
use Rattle.store_opens.specs.open_table.Stood.{may_stand_again, stood}
use Rattle.server_core.proofs.durable_state.ByPiece.{closed, open_took, refused}
use Rattle.server_core.proofs.durable_state.durable.Durable.with_open.Goals as goal

pub returns-then-not-may_be_open : goal.returns-then-not-may_be_open
returns-then-not-may_be_open c = λ s i h. refused c.args.self.now s (OpenPiece c.args.id (row_of c.args.user.now c.args.front.now))
    (closed s c.args.id (row_of c.args.user.now c.args.front.now) (sym (c.may_be_open.ensures s h) ∙ c.if-not-may_be_open.true))

pub returns-in-Ok : goal.returns-in-Ok
returns-in-Ok c = λ s i h. open_took c.args.self.now c.stand.new.self s c.args.id c.args.user.now c.args.front.now c.in-Ok.may h
    (sym (c.may_be_open.ensures s h) ∙ c.if-not-may_be_open.false)
    (subst (λ (p : OpenParts). (c.in-Ok.may ≡ may_stand_again s c.args.id p)
    × ShowsOpens c.stand.new.self (if c.in-Ok.may then stood s c.args.id p c.args.user.now else s)) c.parts_of-parts.ensures
    (c.in-Ok.ensures s i h.opens))
