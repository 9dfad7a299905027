use Rattle.std.proofs.Common.{sym, ◌∙◌, ap}
use Rattle.script_words.specs.Pieces.{pieces_left}
use Rattle.script_words.proofs.PieceLemmas.{pieces_at, pieces_whole}
use Rattle.script_words.proofs.pieces.Pieces.next.Goals as goal

pub returns-in-Some : goal.returns-in-Some
returns-in-Some c =
    sym c.self.view_is
    ∙ (ap (pieces_left c.self.inside.separator) c.in_ok-rest.was
    ∙ pieces_at c.self.inside.separator c.in_ok-rest.rest.now c.in-Some.at (sym c.place_of.ensures ∙ c.in-Some.is))

pub returns-in-None : goal.returns-in-None
returns-in-None c =
    sym c.self.view_is
    ∙ (ap (pieces_left c.self.inside.separator) c.in_ok-rest.was
    ∙ pieces_whole c.self.inside.separator c.in_ok-rest.rest.now (sym c.place_of.ensures ∙ c.in-None.is))
