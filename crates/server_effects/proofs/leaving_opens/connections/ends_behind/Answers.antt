use Rattle.std.proofs.Common.{◌≡◌, ◌-◌, ℕ, List, length, take, drop, sym, ap, ◌∙◌, Some, None, refl, arith, length-drop}
use Rattle.std.proofs.lemmas.List.{take_all}
use Rattle.law_records.specs.leaving_opens.Out.{last_left}
use Rattle.server_effects.proofs.leaving_opens.Lost.{ends_lost, ends_on}
use Rattle.server_effects.proofs.leaving_opens.connections.ends_behind.Goals as goal

pub returns-then-is_among : goal.returns-then-is_among
returns-then-is_among c = λ s h. ends_lost s c.args.connections.now c.args.i (sym c.is_among.ensures ∙ c.if-is_among.true)

pub returns-in-Some : goal.returns-in-Some
returns-in-Some c = λ s h.
    let ks = c.args.connections.now in
    let rest : take (length ks - c.args.i) (drop c.args.i ks) ≡ drop c.args.i ks =
    take_all (length ks - c.args.i) (drop c.args.i ks) (omega (arith, length-drop c.args.i ks)) in
    ends_on s ks c.args.i (Some c.in-Some.session) c.last_of.result c.requires (sym c.is_among.ensures ∙ c.if-is_among.false)
    (c.in-Some.ensures s h)
    (c.last_of.ensures s h ∙ ap (λ (v : List ℕ). last_left s (take c.args.i ks) v (Some c.in-Some.session)) rest)

pub returns-in-None : goal.returns-in-None
returns-in-None c = λ s h. ends_on s c.args.connections.now c.args.i None None c.requires
    (sym c.is_among.ensures ∙ c.if-is_among.false) (c.in-None.ensures s h) refl
