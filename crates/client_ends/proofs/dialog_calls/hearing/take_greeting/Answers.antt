use Rattle.std.proofs.Common.{ℕ, ◌<◌, true, false, List, length, refl, sym, subst, ◌∙◌}
use Rattle.std.specs.Prelude.{is_some}
use Rattle.spec_exchange.specs.Client.{SaidNegotiate}
use Rattle.client_ends.specs.declared.ends.dialog.Dialog.{Dialog}
use Rattle.client_ends.proofs.dialog_calls.Behind.{greeted_turn, pays_by, unpaid_turn}
use Rattle.client_ends.proofs.dialog_calls.Talking.{IsNoted}
use Rattle.client_ends.proofs.dialog_calls.hearing.take_greeting.Goals as goal

pub returns-in_ok-said : goal.returns-in_ok-said
returns-in_ok-said c = λ n number s j.
    let d = c.args.d.now in
    let m = c.args.m.now in
    let mid : Dialog = record c.note.new.d { chosen = c.args.told.now.chosen } in
    let note : IsNoted d mid c.args.told.now.header m = record {
      talk = c.note.ensures.talk;
      chain = c.note.ensures.chain;
      keys = c.note.ensures.rest.keys;
      config = c.note.ensures.rest.config;
      base = c.note.ensures.rest.base;
      challenge = c.note.ensures.rest.challenge;
      bound = c.note.ensures.rest.bound;
      previous = c.note.ensures.rest.previous;
    } in
    greeted_turn d mid c.say_setup.new.d n number c.args.told.now m c.as_slice.result.now c.in_ok-said.said c.chain_law.ensures s j note
    refl c.note.ensures.rest.session (sym c.has_credit-some.ensures.some ∙ c.if-some.true)
    (c.as_slice.ensures ∙ c.in_ok-token.ensures.token)
    c.in_ok-said.ensures

pub returns-else-some : goal.returns-else-some
returns-else-some c = λ n number s j.
    let d = c.args.d.now in
    let m = c.args.m.now in
    let mid : Dialog = record c.note.new.d { chosen = c.args.told.now.chosen } in
    let note : IsNoted d mid c.args.told.now.header m = record {
      talk = c.note.ensures.talk;
      chain = c.note.ensures.chain;
      keys = c.note.ensures.rest.keys;
      config = c.note.ensures.rest.config;
      base = c.note.ensures.rest.base;
      challenge = c.note.ensures.rest.challenge;
      bound = c.note.ensures.rest.bound;
      previous = c.note.ensures.rest.previous;
    } in
    unpaid_turn (SaidNegotiate (is_some d.bound)) d c.refuse.new.d n m number c.args.told.now.header c.refuse.result j.1.0 j.1.1 j.0
    (pays_by d mid n c.args.told.now.header m false s note (sym c.has_credit-some.ensures.some ∙ c.if-some.false)) c.refuse.ensures

pub say_setup-requires : goal.say_setup-requires
say_setup-requires c = record {
  token = subst (λ (x : List ℕ). length x < 65536) (sym c.as_slice.ensures) c.in_ok-token.ensures.short;
  held = c.has_credit-some.ensures.held c.if-some.true;
}
