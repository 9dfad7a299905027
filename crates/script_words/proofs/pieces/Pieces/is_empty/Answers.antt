use Rattle.std.proofs.Common.{ap, ◌∙◌, length, nat_eq}
use Rattle.script_words.proofs.PieceLemmas.{is_none_left}
use Rattle.script_words.proofs.pieces.Pieces.is_empty.Goals as goal

pub returns : goal.returns
returns c =
    is_none_left c.self.inside.separator c.self.inside.rest c.is_none.result c.is_none.ensures
    ∙ ap (λ left. nat_eq (length left) 0) c.self.view_is
