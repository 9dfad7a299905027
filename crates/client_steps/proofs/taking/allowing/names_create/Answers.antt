use Rattle.std.proofs.Common.{◌≡◌, ℕ, ◌&&◌, ◌<◌, nat_lt, ◌∙◌, arith}
use Rattle.client_rows.specs.operation_rows.Rows.{row_at}
use Rattle.client_rows.specs.open_marks.Marks.{is_create_kind}
use Rattle.client_steps.proofs.taking.Allowed.{both_hold, none_named, not_before}
use Rattle.client_steps.proofs.taking.allowing.names_create.Goals as goal

above : (n : ℕ) → (n ≡ 0 → ⊥) → 0 < n
above n e = grind arith

pub returns-then-create-eq0 : goal.returns-then-create-eq0
returns-then-create-eq0 c =
    none_named c.args.create
    (nat_lt c.args.create c.args.number && is_create_kind (row_at c.args.table.now.rows.items c.args.create).kind) c.if-create-eq0.true

pub returns-then-create-number : goal.returns-then-create-number
returns-then-create-number c =
    not_before c.args.create c.args.number (nat_lt 0 c.args.create)
    (is_create_kind (row_at c.args.table.now.rows.items c.args.create).kind) c.if-create-number.true

pub is_create_at-requires : goal.is_create_at-requires
is_create_at-requires c =
    let w = c.requires.within in
    let p : 0 < c.args.create = above c.args.create c.if-create-eq0.false in
    let l = c.if-create-number.false in
    let h = w (omega arith) in
    omega arith

pub returns : goal.returns
returns c =
    let l : c.args.create < c.args.number = (let w = c.if-create-number.false in omega arith) in
    c.is_create_at.ensures ∙ both_hold c.args.create c.args.number (is_create_kind (row_at c.args.table.now.rows.items c.args.create).kind)
    (above c.args.create c.if-create-eq0.false) l
