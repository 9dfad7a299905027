use Rattle.std.proofs.Common.{List, ℕ, ap, length, ◌∙◌}
use Rattle.serve_command.proofs.server_settings.Lengths.{marked_length}
use Rattle.serve_command.proofs.server_settings.Marks.{text_goes_on, own_goes_on, text_ends, own_ends}
use Rattle.serve_command.proofs.server_settings.marking.mark.Goals as goal

pub loop-line-preserved : goal.loop-line-preserved
loop-line-preserved c = (
  text_goes_on c.loop-line.marked.text.items c.take.new.self.text.items c.loop-line.marked.own c.take.new.self.own c.in-Some.line.now
      c.next.new.self c.loop-line.rest _ c.in_ok-take.ensures.text c.in_ok-take.ensures.own c.in-Some.ensures c.loop-line.invariant.0,
  own_goes_on c.loop-line.marked.own c.take.new.self.own c.in-Some.line.now c.next.new.self c.loop-line.rest _ c.in_ok-take.ensures.own
      c.in-Some.ensures c.loop-line.invariant.1,
)

pub returns-clause-text : goal.returns-clause-text
returns-clause-text c =
    text_ends c.loop-line.marked.text.items c.loop-line.marked.own c.loop-line.rest _ c.in_default.ensures.0 c.loop-line.invariant.0

pub returns-clause-own : goal.returns-clause-own
returns-clause-own c = own_ends c.loop-line.marked.own c.loop-line.rest _ c.in_default.ensures.0 c.loop-line.invariant.1

pub returns-clause-length : goal.returns-clause-length
returns-clause-length c =
    ap (λ (t : List ℕ). length t)
    (text_ends c.loop-line.marked.text.items c.loop-line.marked.own c.loop-line.rest _ c.in_default.ensures.0 c.loop-line.invariant.0)
    ∙ marked_length c.args.text.now
