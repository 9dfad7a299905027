use Rattle.std.proofs.Common.{arith, refl, ◌∙◌}
use Rattle.std.proofs.lemmas.List.{length-take, length-drop}
use Rattle.client_channels.proofs.channel_links.Passing.{passed_none}
use Rattle.client_channels.proofs.channel_links.Written.{all_written, front_written, more_written, on_err}
use Rattle.client_channels.proofs.channel_links.writing.write_all.Goals as goal

pub loop-at-init : goal.loop-at-init
loop-at-init g c =
    record {
      within = omega arith;
      written = passed_none g.L.Link.told g.L.Link.given g.L.Link.left g.L.Link.written c.args.link.now;
      same = refl;
    }

pub loop-at-preserved : goal.loop-at-preserved
loop-at-preserved g c =
    record {
      within = omega (arith, simp (length-take, length-drop) at c.in_ok-at.ensures.bound);
      written = more_written g.L.Link.told g.L.Link.given g.L.Link.left g.L.Link.written c.args.link.now c.loop-at.link c.write.new.self
          c.args.bytes.now c.loop-at.at c.in_ok-at.field-0 c.loop-at.invariant.written c.in_ok-at.ensures.bytes
          c.in_ok-at.ensures.given;
      same = c.in_ok-at.ensures.cause ∙ c.loop-at.invariant.same;
    }

pub returns-clause-written : goal.returns-clause-written
returns-clause-written g c =
    all_written g.L.Link.told g.L.Link.given g.L.Link.left g.L.Link.written c.args.link.now c.loop-at.link c.args.bytes.now c.loop-at.at
    c.loop-at-test.false c.loop-at.invariant.written

pub returns-in_err-at-clause-front : goal.returns-in_err-at-clause-front
returns-in_err-at-clause-front g c =
    on_err _ c.from_residual.result
    (front_written g.L.Link.told g.L.Link.given g.L.Link.left g.L.Link.written c.args.link.now c.loop-at.link c.write.new.self
    c.args.bytes.now
    c.loop-at.at c.loop-at.invariant.written c.in_err-at.ensures.failed c.in_err-at.ensures.given)
