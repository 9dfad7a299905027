use Rattle.std.proofs.Common.{◌≡◌, ◌<◌, true, sym, ◌∙◌, subst}
use Rattle.spec_exchange.specs.ClientStep.{cut_after}
use Rattle.client_rows.specs.declared.session_state.session.Session.{Session}
use Rattle.client_rows.specs.session_state.Shown.{ClientShowsSession, ready_at}
use Rattle.client_rows.proofs.session_state.Showing.{cut_ends, cut_loses, cut_nothing, ends_told, lost_told, nothing_told}
use Rattle.client_rows.proofs.session_state.session.Session.cut.Goals as goal

pub returns-then-not-is_ready : goal.returns-then-not-is_ready
returns-then-not-is_ready c =
    record {
      shown = λ d h. cut_nothing c.args.self.now d c.args.channel h (sym (c.is_ready.ensures.shown d h) ∙ c.if-not-is_ready.true);
      told = λ d h. nothing_told c.args.self.now d c.args.channel h (sym (c.is_ready.ensures.shown d h) ∙ c.if-not-is_ready.true);
    }

pub returns-then-is_last : goal.returns-then-is_last
returns-then-is_last c =
    let l : c.args.channel < 256 = c.is_ready.ensures.within c.if-not-is_ready.false in
    let r : ready_at c.args.self.now c.args.channel ≡ true = sym (c.is_ready.ensures.here l) ∙ c.if-not-is_ready.false in
    record {
      shown = λ d h. subst (λ (z : Session). ClientShowsSession z (cut_after d c.args.channel)) (sym c.close.ensures)
          (cut_ends c.args.self.now d c.args.channel h (sym (c.is_ready.ensures.shown d h) ∙ c.if-not-is_ready.false)
          (sym (c.is_last.ensures.shown d c.args.channel h l r) ∙ c.if-is_last.true));
      told = λ d h. ends_told c.args.self.now d c.args.channel h (sym (c.is_ready.ensures.shown d h) ∙ c.if-not-is_ready.false)
          (sym (c.is_last.ensures.shown d c.args.channel h l r) ∙ c.if-is_last.true);
    }

pub lose-requires : goal.lose-requires
lose-requires c =
    record {
      within = c.is_ready.ensures.within c.if-not-is_ready.false;
      more = c.is_last.ensures.more c.if-is_last.false;
      below = c.is_last.ensures.below c.if-is_last.false;
    }

pub returns : goal.returns
returns c =
    let l : c.args.channel < 256 = c.is_ready.ensures.within c.if-not-is_ready.false in
    let r : ready_at c.args.self.now c.args.channel ≡ true = sym (c.is_ready.ensures.here l) ∙ c.if-not-is_ready.false in
    record {
      shown = λ d h. subst (λ (z : Session). ClientShowsSession z (cut_after d c.args.channel)) (sym c.lose.ensures)
          (cut_loses c.args.self.now d c.args.channel h l r (c.is_last.ensures.more c.if-is_last.false)
          (c.is_last.ensures.below c.if-is_last.false) (sym (c.is_ready.ensures.shown d h) ∙ c.if-not-is_ready.false)
          (sym (c.is_last.ensures.shown d c.args.channel h l r) ∙ c.if-is_last.false));
      told = λ d h. lost_told c.args.self.now d c.args.channel h (sym (c.is_ready.ensures.shown d h) ∙ c.if-not-is_ready.false)
          (sym (c.is_last.ensures.shown d c.args.channel h l r) ∙ c.if-is_last.false);
    }
