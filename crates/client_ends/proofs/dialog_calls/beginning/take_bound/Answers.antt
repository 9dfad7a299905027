use Rattle.std.proofs.Common.{Option, refl, sym, subst}
use Rattle.client_ends.specs.declared.ends.config.Bound.{Bound}
use Rattle.client_ends.specs.dialog_calls.Opening.{AreKeysOf, CanBind}
use Rattle.client_ends.proofs.dialog_calls.beginning.take_bound.Goals as goal

pub returns-in-Some : goal.returns-in-Some
returns-in-Some c = record {
  talk = λ n s. record { purse = s.purse; awaited = s.awaited };
  keys = subst (λ (o : Option Bound). AreKeysOf o c.in-Some.bound.keys) (sym c.in-Some.is) refl;
  known = λ old. subst (λ (o : Option Bound). CanBind o) c.in-Some.is c.requires;
}

pub returns-in-None : goal.returns-in-None
returns-in-None c = record {
  talk = λ n s. s;
  keys = subst (λ (o : Option Bound). AreKeysOf o c.args.line.now.keys) (sym c.in-None.is) tt;
  known = λ old. old;
}
