use Rattle.std.proofs.Common.{ℕ, Bool, List, refl, subst}
use Rattle.spec_exchange.specs.Commands.{has_bit}
use Rattle.store_files.specs.file_tree.Made.{Prepared}
use Rattle.server_plan.proofs.reserving.make.new_ready.Goals as goal
use Rattle.spec_exchange.specs.Effects.{made_attributes}
use Rattle.wire_commands.specs.values.Meaning.{create_of}

pub returns-in-Ok-clause-room : goal.returns-in-Ok-clause-room
returns-in-Ok-clause-room c = c.in-Ok.ensures.ready

pub returns-in-Ok-clause-shown : goal.returns-in-Ok-clause-shown
returns-in-Ok-clause-shown c = λ s h.
    let p = c.in-Ok.ensures.prepared s h in (
      refl,
      subst (λ (z : List ℕ). Prepared c.prepare_make.new.self c.in-Ok.file s z (has_bit c.args.request.now.options 0x1)
          (made_attributes (create_of c.args.request.now)) c.args.now) c.as_str-path.ensures
          (subst (λ (d : Bool). Prepared c.prepare_make.new.self c.in-Ok.file s c.as_str-path.result.now d
          (made_attributes (create_of c.args.request.now)) c.args.now)
          c.has_bit-directory.ensures
          (subst (λ (a : ℕ). Prepared c.prepare_make.new.self c.in-Ok.file s c.as_str-path.result.now
          c.has_bit-directory.result a c.args.now)
          c.made_attributes-attributes.ensures p.1)),
    )

pub returns-in-Err-clause-shown : goal.returns-in-Err-clause-shown
returns-in-Err-clause-shown c = λ s h. (c.in-Err.ensures.prepared s h).1
