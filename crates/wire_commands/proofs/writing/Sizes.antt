-- AllocationSize in a field of 8 bytes.
use Rattle.std.proofs.Common.{◌≡◌, ℕ, ◌+◌, ◌*◌, ◌/◌, ◌%◌, ◌<◌, ◌^◌, ap, ◌∙◌, refl, arith}
use Rattle.spec_wire.specs.messages.Places.{le}
use Rattle.spec_commands.specs.Infos.{allocation}

pub allocation_told : (size told : ℕ) → told ≡ ((size + 4095) / 4096) * 4096 → le 8 told ≡ le 8 (allocation size)
unfolding allocation
allocation_told size told is = ap (le 8) is

nothing : le 8 0 ≡ le 8 0x1_0000_0000_0000_0000
unfolding le
nothing = refl

pub allocation_past : (size : ℕ) → size < 2 ^ 64 → size / 4096 ≡ 0xf_ffff_ffff_ffff → (size % 4096 ≡ 0 → ⊥) → le 8 0 ≡ le 8
    (allocation size)
unfolding allocation
allocation_past size small last some =
    let is : 0x1_0000_0000_0000_0000 ≡ ((size + 4095) / 4096) * 4096 = omega arith in
    nothing ∙ ap (le 8) is
