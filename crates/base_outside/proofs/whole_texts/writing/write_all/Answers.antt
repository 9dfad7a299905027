use Rattle.std.proofs.Common.{arith, ◌∙◌, subst}
use Rattle.std.proofs.KnownBytes.{Appends-trans}
use Rattle.std.proofs.lemmas.List.{length-take, length-drop}
use Rattle.std.specs.Io.KnownBytes.{Appends}
use Rattle.base_outside.proofs.whole_texts.OutsideLemmas.{take_on}
use Rattle.base_outside.proofs.whole_texts.writing.write_all.Goals as goal

pub loop-at-preserved : goal.loop-at-preserved
loop-at-preserved g c =
    let first = g.O.Sink.written c.args.sink.now in
    let last = g.O.Sink.written c.write.new.self in
    record {
      within = omega (arith, simp (length-take, length-drop) at c.in_ok-at.ensures.bound);
      written = subst (Appends first last) (take_on c.loop-at.at c.in_ok-at.field-0 c.args.text.now)
          (Appends-trans first (g.O.Sink.written c.loop-at.sink) last _ _ c.loop-at.invariant.written c.in_ok-at.ensures.bytes);
      same = c.in_ok-at.ensures.cause ∙ c.loop-at.invariant.same;
    }
