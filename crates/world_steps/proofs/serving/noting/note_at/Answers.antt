use Rattle.spec_exchange.specs.Network.{op_of}
use Rattle.spec_exchange.specs.Operations.{is_create}
use Rattle.client_ends.specs.ends.Shown.{token_of}
use Rattle.std.proofs.Common.{ℕ, ◌≤◌, ◌&&◌, Bool, sym, ap, subst, ◌∙◌}
use Rattle.world_steps.proofs.serving.Tokens.{notes_at, number_is}
use Rattle.world_steps.proofs.serving.Passing.{result_on}
use Rattle.world_steps.specs.Parts.{IsWorldMemory}
use Rattle.world_steps.proofs.serving.noting.note_at.Goals as goal

pub returns : goal.returns
returns c = λ is.
    result_on (λ e. IsWorldMemory e) c.note_place.result
    (λ u r. λ d shows below.
    let n = c.args.number in
    let same = is ∙ sym (number_is c.args.token) in
    notes_at c.args.places.now c.note_place.new.places c.args.token n c.both-acts.result c.is_create-makes.result c.args.acted
    (is_create (d.op (op_of (token_of c.args.token)))) is
    (c.both-acts.ensures ∙ ap (λ (b : Bool). b && c.args.acted) c.is_own.ensures)
    (λ above. c.is_create-makes.ensures d shows above (subst (λ (m : ℕ). m ≤ d.taken) (sym same) below)
    ∙ ap (λ (m : ℕ). is_create (d.op m)) same) r) c.note_place.ensures
