use Rattle.std.proofs.Common.{◌≡◌, ℕ, ◌+◌, ◌*◌, ◌/◌, ◌%◌, ◌<◌, List, ◌++◌, length, ap, ◌∙◌, arith}
use Rattle.spec_wire.specs.messages.Lock.{IsWritableLockRequest, LockRequestValue, SpellsLockRequest, lock_request_fault, lock_request_in}
use Rattle.spec_exchange.specs.Commands.{Lock}
use Rattle.spec_commands.specs.BodyOf.{body_of, lock_value}
use Rattle.spec_commands.specs.CommandOf.{lock_in, lock_of, elements_in}
use Rattle.law_commands.proofs.commands.Fields.{file_again, length-file_id}
use Rattle.law_commands.proofs.commands.ReadBack.{found, read_as}
use Rattle.law_commands.proofs.commands.Elements.{all_bytes, length-elements, elements_again}
use Rattle.law_commands.proofs.commands.parts.lock_again.Goals as goal

slot_of : (index number : ℕ) → number < 16 → (16 * index + number) / 16 ≡ index
slot_of index number small = omega (arith, small)

number_of_slot : (index number : ℕ) → number < 16 → (16 * index + number) % 16 ≡ number
number_of_slot index number small = omega (arith, small)

pub returns : goal.returns
unfolding lock_in body_of
returns c = λ header rest file index number elements len small low few some many all.
    let law = c.lock_request_law.ensures in
    let v : LockRequestValue = lock_value file index number elements in
    let m : List ℕ = header ++ (body_of (Lock file index number elements) ++ rest) in
    let size = length-elements elements all in
    let count : length (all_bytes elements) / 24 ≡ length elements = omega (arith, size) in
    let fit : IsWritableLockRequest v = record {
      fits = (
        omega arith,
        (
          omega (arith, count, many),
          (
            omega (arith, low, few),
            (
              length-file_id file,
              (
                omega
                    (arith, size, count),
                tt,
              ),
            ),
          ),
        ),
      );
      some = omega (arith, count, some);
    } in
    let is = found SpellsLockRequest lock_request_fault lock_request_in law.one law.whole law.given m v (law.again header rest v len fit) in
    read_as SpellsLockRequest lock_request_fault lock_request_in lock_of m v is
    ∙ ap (λ (o : ℕ). Lock o ((16 * index + number) / 16) ((16 * index + number) % 16) (elements_in (length (all_bytes
    elements) / 24) (all_bytes elements))) (file_again file small)
    ∙ ap (λ (i : ℕ). Lock file i ((16 * index + number) % 16) (elements_in (length (all_bytes elements) / 24) (all_bytes
    elements))) (slot_of index number few)
    ∙ ap (λ (i : ℕ). Lock file index i (elements_in (length (all_bytes elements) / 24) (all_bytes elements)))
    (number_of_slot index number few)
    ∙ ap (Lock file index number) (ap (λ (n : ℕ). elements_in n (all_bytes elements)) count ∙ elements_again elements all)
