use Rattle.std.proofs.Common.{◌≡◌, ◌+◌, ◌<◌, ◌≤◌, ◌==◌, ◌&&◌, ◌||◌, nat_lt, ℕ, true, length, ap, sym, ◌∙◌, subst, arith}
use Rattle.std.proofs.lemmas.Grind.{common_steps}
use Rattle.spec_exchange.specs.Operations.{create_of, is_create, keeps_limits}
use Rattle.client_values.specs.operations.Meaning.{op_of}
use Rattle.client_rows.specs.operation_rows.Rows.{row_at}
use Rattle.client_rows.specs.open_marks.Marks.{is_create_kind}
use Rattle.client_tables.proofs.pushes.Picked.{create_kind}
use Rattle.client_steps.proofs.taking.Allowed.{a_create, clash, made_so, of_create, other_number, past_limits}
use Rattle.client_steps.proofs.taking.allowing.may_take.Goals as goal

at_most : (g n m : ℕ) → g < n → n ≡ m + 1 → g ≤ m
at_most g n m l e = omega arith

pub returns-then-number-len : goal.returns-then-number-len
returns-then-number-len c =
    let op = op_of c.args.kind.now in
    let n = c.args.number in
    record {
      shown = λ d s. (
          let k : c.len.result ≡ length c.args.table.now.ops.items = grind (arith, common_steps) in
          let e : c.len.result ≡ d.taken = k ∙ s.values.ops_counted in
          other_number n d.taken (keeps_limits op && (is_create op
          || (nat_lt 0 (create_of n op) && (nat_lt (create_of n op) n && is_create (d.op (create_of n op))))))
          (λ q. c.if-number-len.true (q ∙ sym (ap (λ m. m + 1) e)))
          );
      limits = λ e. absurd (cc);
      made = λ e is create names. absurd (cc);
    }

pub returns-then-not-keeps_limits : goal.returns-then-not-keeps_limits
returns-then-not-keeps_limits c =
    let op = op_of c.args.kind.now in
    let n = c.args.number in
    record {
      shown = λ d s. past_limits (n == d.taken + 1) (keeps_limits op)
          (is_create op || (nat_lt 0 (create_of n op) && (nat_lt (create_of n op) n && is_create (d.op (create_of n op)))))
          (sym c.keeps_limits.ensures ∙ c.if-not-keeps_limits.true);
      limits = λ e. absurd (cc);
      made = λ e is create names. absurd (cc);
    }

pub names_create-requires : goal.names_create-requires
names_create-requires c =
    let f = c.requires.fits.ops_counted in
    let k : c.len.result ≡ length c.args.table.now.ops.items = grind (arith, common_steps) in
    let e = c.if-number-len.false in
    record { within = λ l. omega arith }

pub returns-in-Some : goal.returns-in-Some
returns-in-Some c =
    let op = op_of c.args.kind.now in
    let n = c.args.number in
    let x = c.in-Some.create in
    let rows = c.args.table.now.rows.items in
    let f = c.requires.fits.ops_counted in
    let k : c.len.result ≡ length c.args.table.now.ops.items = grind (arith, common_steps) in
    let w = c.if-number-len.false in
    let kept = sym c.keeps_limits.ensures ∙ c.if-not-keeps_limits.false in
    record {
      shown = λ d s. (
          let e : n ≡ d.taken + 1 = w ∙ ap (λ m. m + 1) (k ∙ s.values.ops_counted) in
          c.names_create.ensures
          ∙ of_create d n op e kept x (is_create_kind (row_at rows x).kind) c.in-Some.ensures.0 (c.in-Some.ensures.1 n)
          (λ p l. sym (create_kind (d.op x) ∙ ap (λ z. is_create_kind z) (s.rows.places.kinds x p (at_most x n d.taken l e))))
          );
      limits = λ e. kept;
      made = λ e is create names. subst (λ y. (0 < y) × (y < length rows) × (is_create_kind (row_at rows y).kind ≡ true))
          (sym (c.in-Some.ensures.1 n) ∙ names n)
          (made_so x n (length rows) (is_create_kind (row_at rows x).kind) (sym c.names_create.ensures ∙ e) (λ l. omega arith));
    }

pub returns-in-None : goal.returns-in-None
returns-in-None c =
    let op = op_of c.args.kind.now in
    let k : c.len.result ≡ length c.args.table.now.ops.items = grind (arith, common_steps) in
    let kept = sym c.keeps_limits.ensures ∙ c.if-not-keeps_limits.false in
    record {
      shown = λ d s. (
          let e : c.args.number ≡ d.taken + 1 = c.if-number-len.false ∙ ap (λ m. m + 1) (k ∙ s.values.ops_counted) in
          a_create d c.args.number op e kept c.in-None.ensures
          );
      limits = λ e. kept;
      made = λ e is create names. absurd (clash (is_create op) c.in-None.ensures is);
    }
