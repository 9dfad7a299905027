use Rattle.std.proofs.Common.{sym, ◌∙◌, subst}
use Rattle.client_events.specs.declared.event_calls.steps.Event.{Event}
use Rattle.client_events.specs.played_client.Holding.{PlayedComesTo}
use Rattle.client_events.proofs.played_client.Coming.{again_refused, clash, is_not, is_so, not_again}
use Rattle.client_events.proofs.played_client.played.may_come.Goals as goal

pub returns-in-Submit : goal.returns-in-Submit
returns-in-Submit c =
    record {
      comes = λ t d s k. subst (λ (v : Event). PlayedComesTo d v) (sym c.in-Submit.is) (tt, tt);
      refuses = λ f d s k m. absurd (cc);
    }

pub returns-in-Push : goal.returns-in-Push
returns-in-Push c =
    record {
      comes = λ t d s k. subst (λ (v : Event). PlayedComesTo d v) (sym c.in-Push.is) (tt, tt);
      refuses = λ f d s k m. absurd (cc);
    }

pub returns-in-Hear : goal.returns-in-Hear
returns-in-Hear c =
    record {
      comes = λ t d s k. subst (λ (v : Event). PlayedComesTo d v) (sym c.in-Hear.is) (tt, tt);
      refuses = λ f d s k m. absurd (cc);
    }

pub returns-in-Cut : goal.returns-in-Cut
returns-in-Cut c =
    record {
      comes = λ t d s k. subst (λ (v : Event). PlayedComesTo d v) (sym c.in-Cut.is) (tt, tt);
      refuses = λ f d s k m. absurd (cc);
    }

pub returns-in-Refused : goal.returns-in-Refused
returns-in-Refused c =
    record {
      comes = λ t d s k. subst (λ (v : Event). PlayedComesTo d v) (sym c.in-Refused.is) (tt, tt);
      refuses = λ f d s k m. absurd (cc);
    }

pub returns-in-Ready : goal.returns-in-Ready
returns-in-Ready c =
    record {
      comes = λ t d s k. subst (λ (v : Event). PlayedComesTo d v) (sym c.in-Ready.is)
          ((λ r. not_again d _ _ k (sym (c.is_again.ensures d s) ∙ is_not c.is_again.result t) r), tt);
      refuses = λ f d s k m. again_refused d _ _ k (sym (c.is_again.ensures d s) ∙ is_so c.is_again.result f)
          (subst (λ (v : Event). PlayedComesTo d v) c.in-Ready.is m).0;
    }

pub returns-in-Finish : goal.returns-in-Finish
returns-in-Finish c =
    record {
      comes = λ t d s k. subst (λ (v : Event). PlayedComesTo d v) (sym c.in-Finish.is)
          (tt, sym (c.is_live.ensures d s) ∙ is_not c.is_live.result t);
      refuses = λ f d s k m. clash d.live (sym (c.is_live.ensures d s) ∙ is_so c.is_live.result f)
          (subst (λ (v : Event). PlayedComesTo d v) c.in-Finish.is m).1;
    }
