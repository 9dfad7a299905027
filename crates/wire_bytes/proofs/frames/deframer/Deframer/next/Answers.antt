use Rattle.std.proofs.Common.{ℕ, ◌==◌, refl, ap, ◌∙◌, arith}
use Rattle.wire_bytes.proofs.frames.Gathering.{hands, waits}
use Rattle.wire_bytes.proofs.frames.deframer.Deframer.next.Goals as goal

pub returns-then-self-gt0 : goal.returns-then-self-gt0
returns-then-self-gt0 c = (
  waits c.self.inside.head.items c.self.inside.long.items c.self.inside.bytes.items c.args.self.now c.self.inside.missing c.self.inside.at
      c.is_empty.result c.self.invariant c.self.view_is
      (let count = c.self.inside.head.ok.0 in c.is_empty.ensures ∙ ap (λ (n : ℕ). n == 0) (omega (arith, count)))
      c.if-not-is_empty.true c.if-self-gt0.true,
  refl,
)

pub returns-then-not-is_empty : goal.returns-then-not-is_empty
returns-then-not-is_empty c =
    hands c.self.inside.head.items c.self.inside.long.items c.self.inside.bytes.items c.args.self.now c.clear.new.self.items
    c.replace-long.new.dest.items c.from_vec.result c.self.inside.missing c.self.inside.at
    c.is_empty.result c.self.invariant c.self.view_is
    (let count = c.self.inside.head.ok.0 in c.is_empty.ensures ∙ ap (λ (n : ℕ). n == 0) (omega (arith, count)))
    c.if-not-is_empty.true c.if-self-gt0.false c.clear.ensures.items
    (rw c.replace-long.ensures.after c.new.ensures.items)
    (c.from_vec.ensures ∙ (rw c.replace-long.ensures.value refl))
