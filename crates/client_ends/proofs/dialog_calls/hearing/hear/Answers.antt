use Rattle.std.proofs.Common.{refl, sym, subst, ◌∙◌, IfOk}
use Rattle.std.specs.Prelude.{is_some}
use Rattle.std.specs.declared.alloc.AllocError.{AllocError}
use Rattle.spec_exchange.specs.Client.{Stage, SaidNegotiate, SaidFirst, SaidSecond, AskedTree}
use Rattle.client_ends.specs.declared.ends.dialog.Stage.{Stage as DialogStage}
use Rattle.client_ends.specs.declared.ends.dialog.Stage.TheVariants as stages
use Rattle.client_ends.specs.ends.Shown.{IsStage, ShowsStage}
use Rattle.client_ends.specs.dialog_calls.Turning.{DialogHears}
use Rattle.client_ends.proofs.dialog_calls.Stages.{not_joined, not_over, not_refused, told_so}
use Rattle.client_ends.proofs.dialog_calls.hearing.hear.Goals as goal

pub returns-in-SaidNegotiate : goal.returns-in-SaidNegotiate
returns-in-SaidNegotiate c = record {
  heard = λ n s.
      let d = c.args.d.now in
      let stage = subst (λ (z : DialogStage). IsStage z (is_some d.bound) n.stage) c.in-SaidNegotiate.is s.stage in
      let talking = subst (λ (z : DialogStage). ShowsStage z d n) c.in-SaidNegotiate.is s.shown in
      subst (λ (z : Stage). IfOk c.hear_greeting.result (λ h. DialogHears z d n c.args.message.now c.args.channel c.hear_greeting.new.d h))
      (sym stage) (c.hear_greeting.ensures n c.args.channel talking);
  refused = λ why e. absurd (not_refused c.args.d.now.stage stages.SaidNegotiate why c.in-SaidNegotiate.is e refl);
  over = λ e. absurd (not_over c.args.d.now.stage stages.SaidNegotiate c.in-SaidNegotiate.is e refl);
  joined = λ e. absurd (not_joined c.args.d.now.stage stages.SaidNegotiate c.in-SaidNegotiate.is e refl);
}

pub returns-in-SaidFirst : goal.returns-in-SaidFirst
returns-in-SaidFirst c = record {
  heard = λ n s.
      let d = c.args.d.now in
      let stage = subst (λ (z : DialogStage). IsStage z (is_some d.bound) n.stage) c.in-SaidFirst.is s.stage in
      let talking = subst (λ (z : DialogStage). ShowsStage z d n) c.in-SaidFirst.is s.shown in
      subst (λ (z : Stage). IfOk c.hear_interim.result (λ h. DialogHears z d n c.args.message.now c.args.channel c.hear_interim.new.d h))
      (sym stage) (c.hear_interim.ensures n c.args.channel talking);
  refused = λ why e. absurd (not_refused c.args.d.now.stage stages.SaidFirst why c.in-SaidFirst.is e refl);
  over = λ e. absurd (not_over c.args.d.now.stage stages.SaidFirst c.in-SaidFirst.is e refl);
  joined = λ e. absurd (not_joined c.args.d.now.stage stages.SaidFirst c.in-SaidFirst.is e refl);
}

pub returns-in-SaidSecond : goal.returns-in-SaidSecond
returns-in-SaidSecond c = record {
  heard = λ n s.
      let d = c.args.d.now in
      let stage = subst (λ (z : DialogStage). IsStage z (is_some d.bound) n.stage) c.in-SaidSecond.is s.stage in
      let talking = subst (λ (z : DialogStage). ShowsStage z d n) c.in-SaidSecond.is s.shown in
      subst (λ (z : Stage). IfOk c.hear_final.result (λ h. DialogHears z d n c.args.message.now c.args.channel c.hear_final.new.d h))
      (sym stage) (c.hear_final.ensures n talking);
  refused = λ why e. absurd (not_refused c.args.d.now.stage stages.SaidSecond why c.in-SaidSecond.is e refl);
  over = λ e. absurd (not_over c.args.d.now.stage stages.SaidSecond c.in-SaidSecond.is e refl);
  joined = λ e. absurd (not_joined c.args.d.now.stage stages.SaidSecond c.in-SaidSecond.is e refl);
}

pub returns-in-AskedTree : goal.returns-in-AskedTree
returns-in-AskedTree c = record {
  heard = λ n s.
      let d = c.args.d.now in
      let stage = subst (λ (z : DialogStage). IsStage z (is_some d.bound) n.stage) c.in-AskedTree.is s.stage in
      let talking = subst (λ (z : DialogStage). ShowsStage z d n) c.in-AskedTree.is s.shown in
      subst (λ (z : Stage). IfOk c.hear_tree.result (λ h. DialogHears z d n c.args.message.now c.args.channel c.hear_tree.new.d h))
      (sym stage) (c.hear_tree.ensures n c.args.channel talking);
  refused = λ why e. absurd (not_refused c.args.d.now.stage stages.AskedTree why c.in-AskedTree.is e refl);
  over = λ e. absurd (not_over c.args.d.now.stage stages.AskedTree c.in-AskedTree.is e refl);
  joined = λ e. absurd (not_joined c.args.d.now.stage stages.AskedTree c.in-AskedTree.is e refl);
}

pub returns-in-Joined : goal.returns-in-Joined
returns-in-Joined c = record {
  heard = λ n s.
      let d = c.args.d.now in
      let stage = subst (λ (z : DialogStage). IsStage z (is_some d.bound) n.stage) c.in-Joined.is s.stage in
      let line = subst (λ (z : DialogStage). ShowsStage z d n) c.in-Joined.is s.shown in
      subst (λ (z : Stage). DialogHears z d n c.args.message.now c.args.channel c.joined.new.d c.joined.result) (sym stage)
      (c.joined.ensures n line);
  refused = λ why e. absurd (not_refused c.args.d.now.stage stages.Joined why c.in-Joined.is e refl);
  over = λ e. absurd (not_over c.args.d.now.stage stages.Joined c.in-Joined.is e refl);
  joined = λ e. tt;
}

pub returns-in-Refused : goal.returns-in-Refused
returns-in-Refused c = record {
  heard = λ n s. absurd (subst (λ (z : DialogStage). IsStage z (is_some c.args.d.now.bound) n.stage) c.in-Refused.is s.stage);
  refused = λ why e. (told_so AllocError c.in-Refused.why why (sym c.in-Refused.is ∙ e), refl);
  over = λ e. absurd (not_over c.args.d.now.stage (stages.Refused c.in-Refused.why) c.in-Refused.is e refl);
  joined = λ e. tt;
}

pub returns-in-Over : goal.returns-in-Over
returns-in-Over c = record {
  heard = λ n s. absurd (subst (λ (z : DialogStage). IsStage z (is_some c.args.d.now.bound) n.stage) c.in-Over.is s.stage);
  refused = λ why e. absurd (not_refused c.args.d.now.stage stages.Over why c.in-Over.is e refl);
  over = λ e. (refl, refl);
  joined = λ e. tt;
}
