use Rattle.std.proofs.Common.{◌≡◌, Bool, true, false, ◌&&◌, refl, sym, ◌∙◌}
use Rattle.server_core.proofs.disk_server.asked.signs_binding.Goals as goal

none_of : (a b x : Bool) → (a && b) ≡ false → false ≡ (a && (b && x))
none_of false b x e = refl
none_of true false x e = refl
none_of true true x e = absurd cc

all_of : (a b x : Bool) → (a && b) ≡ true → x ≡ (a && (b && x))
all_of true true x e = refl
all_of true false x e = absurd cc
all_of false b x e = absurd cc

pub returns-then-not-owes : goal.returns-then-not-owes
returns-then-not-owes c = none_of c.args.setup.now.form.binding c.args.setup.now.form.signed _
    (sym c.is_signed_binding-owes.ensures ∙ c.if-not-owes.true)

pub returns : goal.returns
returns c = c.is_signed.ensures ∙ all_of c.args.setup.now.form.binding c.args.setup.now.form.signed _
    (sym c.is_signed_binding-owes.ensures ∙ c.if-not-owes.false)
