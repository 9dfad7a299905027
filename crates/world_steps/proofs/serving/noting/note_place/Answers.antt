use Rattle.std.proofs.Common.{ℕ, ap, subst, ◌∙◌, length}
use Rattle.world_steps.specs.serving.Noted.{MarksBy}
use Rattle.world_steps.proofs.serving.Placed.{length_end}
use Rattle.world_steps.proofs.serving.noting.note_place.Goals as goal

pub returns-in-Ok : goal.returns-in-Ok
returns-in-Ok c =
    let x = c.args.places.now in
    record {
      served = c.in-Ok.ensures.items;
      marks = subst (λ (n : ℕ). MarksBy c.args.acts x.marks.items c.args.number (length x.served.items) n c.args.makes
          c.note_by.new.marks.items)
          (c.len-behind.ensures ∙ (c.push.new.self.ok.0 ∙ (ap length c.in-Ok.ensures.items ∙ length_end x.served.items c.args.number)))
          (subst (λ (n : ℕ). MarksBy c.args.acts x.marks.items c.args.number n c.len-behind.result c.args.makes c.note_by.new.marks.items)
          (c.len-place.ensures ∙ x.served.ok.0)
          c.note_by.ensures);
    }
