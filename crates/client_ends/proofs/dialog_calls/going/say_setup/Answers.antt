use Rattle.std.proofs.Common.{ℕ, ◌≤◌, List, refl, sym, ap, subst, ◌∙◌}
use Rattle.spec_wire.specs.credits.Ids.{counted}
use Rattle.spec_wire.specs.credits.Purse.{Credits}
use Rattle.spec_crypto.specs.sessions.Chain.{value_behind}
use Rattle.spec_crypto.specs.declared.sessions.material.Keys.{Keys}
use Rattle.spec_world.specs.Sending.{setup_frame}
use Rattle.client_ends.proofs.dialog_calls.going.say_setup.Goals as goal

pub spend-id-requires : goal.spend-id-requires
spend-id-requires c = record {
  room = c.in_ok-reserve.ensures.room;
  held = subst (λ (p : Credits). counted 1 ≤ p.held) (sym c.reserve.ensures.purse) c.requires.held;
}

pub returns : goal.returns
returns c =
    let d = c.args.d.now in
    let keys = c.spend-id.ensures.keeps.keys ∙ c.reserve.ensures.keeps.keys in
    record {
      said = λ n m signs is.
          c.in_ok-frame.ensures n m (λ b. signs (sym c.is_some.ensures ∙ b) ∙ ap (λ (k : Keys). k.signing) (sym keys)) (record {
            number = is.number ∙ (ap (λ (p : Credits). p.next) (sym c.reserve.ensures.purse) ∙ sym c.spend-id.ensures.id);
            logon = is.logon ∙ sym c.session_of.ensures;
            tree = is.tree;
            sequence = is.sequence;
            replay = is.replay;
          })
          ∙ (λ t. setup_frame n (c.is_some.ensures t) (c.previous_of.ensures t) c.args.token.now m);
      talk = λ n s. c.spend-id.ensures.shows n (c.reserve.ensures.shows n s);
      chain = c.take.ensures.behind ∙ ap (λ (x : List ℕ). value_behind d.chain x) c.as_slice.ensures;
      stage = refl;
      rest = record {
        keys = keys;
        encrypts = c.spend-id.ensures.keeps.encrypts ∙ c.reserve.ensures.keeps.encrypts;
        nonces = c.spend-id.ensures.keeps.nonces ∙ c.reserve.ensures.keeps.nonces;
        config = refl;
        base = refl;
        challenge = refl;
        chosen = refl;
        bound = refl;
        previous = refl;
        session = refl;
      };
    }
