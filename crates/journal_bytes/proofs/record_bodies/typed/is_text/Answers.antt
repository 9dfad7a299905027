use Rattle.std.proofs.Common.{ℕ, List, subst}
use Rattle.std.specs.Prelude.{IsUtf8}
use Rattle.journal_bytes.proofs.record_bodies.typed.is_text.Goals as goal

pub returns : goal.returns
returns c = subst (λ (t : List ℕ). IsUtf8 t) c.as_str-text.ensures c.as_str-text.utf8
