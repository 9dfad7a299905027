use Rattle.std.proofs.Common.{ℕ, ◌≤◌, sym, subst, ◌∙◌, arith}
use Rattle.spec_wire.specs.credits.Ids.{counted}
use Rattle.spec_wire.specs.credits.Purse.{Credits}
use Rattle.spec_crypto.specs.declared.sessions.material.Keys.{Keys}
use Rattle.spec_world.specs.Ends.{no_client_end}
use Rattle.client_ends.proofs.dialog_calls.Beginnings.{spent_talk}
use Rattle.client_ends.proofs.dialog_calls.beginning.spent_line.Goals as goal

pub spend-requires : goal.spend-requires
spend-requires c = record {
  room = c.in_ok-reserve.ensures.room;
  held =
      subst (λ (p : Credits). counted 1 ≤ p.held) (c.new-line.ensures.shows.purse ∙ sym c.reserve.ensures.purse) (omega arith);
}

pub returns : goal.returns
returns c = record {
  talk = λ n purse awaited.
      spent_talk c.spend.new.self n
      (c.spend.ensures.shows no_client_end (c.reserve.ensures.shows no_client_end c.new-line.ensures.shows)) purse awaited;
  plain =
      subst (λ (k : Keys). k.cipher ≤ 4) (sym c.reserve.ensures.keeps.keys ∙ sym c.spend.ensures.keeps.keys)
      (subst (λ (k : ℕ). k ≤ 4) (sym c.new-line.ensures.plain.1) (omega arith));
}
