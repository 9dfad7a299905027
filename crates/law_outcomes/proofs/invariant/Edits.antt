-- The writes and ends of an open that may still act.
use Rattle.std.proofs.lemmas.Bool.Decides.{nat_tests}
use Rattle.std.proofs.Common.{◌≡◌, ◌≢◌, ℕ, ◌<◌, nat_lt, Bool, true, false, refl, arith, sym, ◌∙◌}
use Rattle.spec_exchange.specs.Content.{is_change, collides}
use Rattle.spec_exchange.proofs.Content.{collides_comm}
use Rattle.spec_exchange.specs.Operations.{content_op}
use Rattle.spec_exchange.specs.Client.{create_for}
use Rattle.spec_exchange.specs.Network.{World}
use Rattle.law_sessions.specs.messages.Connections.{its_create}
use Rattle.law_order.specs.order.Contents.{Contents, edits, isolating, clashes, bytes_after, pends}
use Rattle.law_outcomes.specs.invariant.Parts.{EditsAreShown}

less_of : (g h : ℕ) → nat_lt g h ≡ true → g < h
less_of g h e = grind (arith, nat_tests)

more_of : (g h : ℕ) → h ≢ g → nat_lt g h ≡ false → h < g
more_of g h n e = grind (arith, nat_tests)

-- of two the higher one waited for the lower
apart_by : (w : World) (a : ℕ → ℕ) (g h : ℕ) → Contents w.client w.conns w.server w.trace w.log a → h ≢ g
    → w.client.sent g ≡ true → w.client.sent h ≡ true → is_change (content_op (w.client.op g)) ≡ true
    → is_change (content_op (w.client.op h)) ≡ true
    → create_for w.client h ≡ create_for w.client g → pends w.client g ≡ true → pends w.client h ≡ true → (b : Bool)
    → nat_lt g h ≡ b → collides (content_op (w.client.op g)) (content_op (w.client.op h)) ≡ false
unfolding edits clashes its_create
apart_by w a g h i n sg sh eg eh same pg ph true e = i.pairwise g h (less_of g h e) sh eg eh (sym same) pg ph
apart_by w a g h i n sg sh eg eh same pg ph false e = collides_comm (content_op (w.client.op g))
    (content_op (w.client.op h)) ∙ i.pairwise h g (more_of g h n e) sg eh eg same ph pg

pub edits_shown : (w : World) (a : ℕ → ℕ) → Contents w.client w.conns w.server w.trace w.log a → EditsAreShown w
unfolding edits isolating bytes_after its_create
edits_shown w a i g ed sent p iso st =
    record {
      apart = λ h n sh eh same ph. apart_by w a g h i n sent sh ed eh same p ph (nat_lt g h) refl;
      shown = λ first. i.shows g ed iso st p first;
    }
