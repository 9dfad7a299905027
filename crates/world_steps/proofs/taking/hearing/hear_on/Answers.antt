use Rattle.std.proofs.Common.{ℕ, ◌<◌, ◌^◌, List, length, Err, sym, subst}
use Rattle.client_ends.specs.line_calls.Hearing as heard
use Rattle.client_ends.specs.ends.Shown.{ShowsLine}
use Rattle.spec_world.specs.Dialog.{line_response}
use Rattle.spec_world.specs.Ends.{ClientEnd}
use Rattle.world_steps.proofs.Refusing.{result_with}
use Rattle.world_steps.proofs.taking.Read.{heard_as, unheard_as}
use Rattle.world_steps.proofs.taking.hearing.hear_on.Goals as goal

pub hear-requires : goal.hear-requires
hear-requires c = subst (λ (v : List ℕ). length v < 2 ^ 60) (sym c.as_slice.ensures.value) c.requires

pub returns-in-Ok : goal.returns-in-Ok
returns-in-Ok c =
    let before = c.args.line.now in
    let behind = c.hear.new.line in
    result_with c.response_of.result
    (λ o is. heard_as before c.args.down.now behind c.in-Ok.answer o
    (subst (λ (v : List ℕ). (n : ClientEnd) → ShowsLine before n → heard.LineAnswers n (line_response n v) behind c.in-Ok.answer)
    c.as_slice.ensures.value c.in-Ok.ensures) is)
    c.response_of.ensures

pub returns-in-Err : goal.returns-in-Err
returns-in-Err c =
    let before = c.args.line.now in
    let behind = c.hear.new.line in
    result_with c.unheard.result
    (λ o is. unheard_as before c.args.down.now behind c.in-Err.why o
    (subst (λ (v : List ℕ). (n : ClientEnd) → ShowsLine before n → heard.LineHears n (line_response n v) behind (Err c.in-Err.why))
    c.as_slice.ensures.value c.in-Err.ensures) is)
    c.unheard.ensures
