use Rattle.std.proofs.Common.{◌≡◌, Bool, true, ◌&&◌, nat_le, ap, ◌∙◌, arith}
use Rattle.spec_exchange.specs.Operations.{is_spelled_path, is_text}
use Rattle.spec_exchange.specs.Texts.{utf16_length}
use Rattle.client_values.proofs.operations.Fitting.{text_is}
use Rattle.client_values.proofs.operations.limits.is_short.Goals as goal

by_text : (text short : Bool) → text ≡ true → short ≡ (text && short)
by_text text short e = grind arith

pub returns : goal.returns
unfolding is_spelled_path
returns c =
    ap (λ n. nat_le n 1024) (c.units.ensures ∙ ap (λ t. utf16_length t) c.as_bytes.ensures.value)
    ∙ by_text (is_text c.args.path.now) (nat_le (utf16_length c.args.path.now) 1024) (text_is c.args.path.now c.utf8.path)
