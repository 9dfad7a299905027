use Rattle.std.proofs.Common.{◌==◌, nat_lt, true, refl, sym, ◌∙◌, subst}
use Rattle.spec_exchange.specs.ClientStep.{ready_after}
use Rattle.client_rows.specs.declared.session_state.session.Session.{Session}
use Rattle.client_rows.specs.session_state.Shown.{ClientShowsSession}
use Rattle.client_rows.proofs.session_state.Showing.{has_room, no_both, ready_begun, ready_bound, ready_refused, takes_so}
use Rattle.client_rows.proofs.session_state.session.Session.ready.Goals as goal

pub returns-then-not-takes : goal.returns-then-not-takes
returns-then-not-takes c =
    record {
      shown = λ d h. ready_refused c.args.self.now d c.args.channel c.args.session c.args.tree h
          (sym (c.takes.ensures ∙ takes_so c.args.self.now d c.args.session h) ∙ c.if-not-takes.true);
      told = λ d h. sym c.if-not-takes.true ∙ c.takes.ensures ∙ takes_so c.args.self.now d c.args.session h;
      refused = λ e. refl;
    }

pub begin-requires : goal.begin-requires
begin-requires c =
    record {
      within = c.requires.within;
      room = has_room c.args.self.now.live (c.args.session == c.args.self.now.id) (nat_lt c.args.self.now.id c.args.session)
          c.args.self.now.number c.takes.result c.takes.ensures c.if-not-takes.false c.if-self.false;
    }

pub returns-then-self : goal.returns-then-self
returns-then-self c =
    record {
      shown = λ d h. subst (λ (z : Session). ClientShowsSession z (ready_after d c.args.channel c.args.session c.args.tree))
          (sym c.bind.ensures.is) (ready_bound c.args.self.now d c.args.channel c.args.session c.args.tree h
          c.bind.new.self.channels c.requires.within c.requires.apart c.if-self.true
          (sym (c.takes.ensures ∙ takes_so c.args.self.now d c.args.session h) ∙ c.if-not-takes.false) c.bind.ensures.counted);
      told = λ d h. sym c.if-not-takes.false ∙ c.takes.ensures ∙ takes_so c.args.self.now d c.args.session h;
      refused = λ e. absurd (no_both true refl e);
    }

pub returns-else-self : goal.returns-else-self
returns-else-self c =
    record {
      shown = λ d h. subst (λ (z : Session). ClientShowsSession z (ready_after d c.args.channel c.args.session c.args.tree))
          (sym c.begin.ensures) (ready_begun c.args.self.now d c.args.channel c.args.session c.args.tree h c.requires.within
          c.requires.apart c.if-self.false (sym (c.takes.ensures ∙ takes_so c.args.self.now d c.args.session h) ∙ c.if-not-takes.false));
      told = λ d h. sym c.if-not-takes.false ∙ c.takes.ensures ∙ takes_so c.args.self.now d c.args.session h;
      refused = λ e. absurd (no_both true refl e);
    }
