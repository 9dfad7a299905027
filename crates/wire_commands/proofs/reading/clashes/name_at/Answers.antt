use Rattle.std.proofs.Common.{◌≡◌, ℕ, ◌+◌, ◌≤◌, length, List, arith, ap}
use Rattle.spec_wire.specs.messages.Chain.{piece}
use Rattle.spec_wire.specs.messages.Places.{number}
use Rattle.wire_commands.proofs.reading.Clashing.{first_is_linked, piece_long, name_inside}
use Rattle.wire_commands.proofs.reading.clashes.name_at.Goals as goal

pub piece_of-context-requires-clause-linked : goal.piece_of-context-requires-clause-linked
piece_of-context-requires-clause-linked c = first_is_linked c.args.m.now c.requires.whole

pub u16_at-requires : goal.u16_at-requires
u16_at-requires c = omega (arith, piece_long c.args.m.now c.requires.whole, ap length c.piece_of-context.ensures)

pub u16_at-requires-2 : goal.u16_at-requires-2
u16_at-requires-2 c = omega (arith, piece_long c.args.m.now c.requires.whole, ap length c.piece_of-context.ensures)

pub part_at-requires : goal.part_at-requires
part_at-requires c =
    inside c.args.m.now c.piece_of-context.result.now c.u16_at.result c.u16_at-2.result c.piece_of-context.ensures
    c.u16_at.ensures.value c.u16_at-2.ensures.value (name_inside c.args.m.now c.requires.whole)
  where
    inside : (m p : List ℕ) (at size : ℕ) → p ≡ piece m → at ≡ number 2 p 4 → size ≡ number 2 p 6 → ((number 2 (piece m) 6 ≡ 0 → ⊥)
        → number 2 (piece m) 4 + number 2 (piece m) 6 ≤ length (piece m)) → (size ≡ 0 → ⊥) → at + size ≤ length p
    inside m p at size is a s fits = rw (a, s, is) fits
