-- What is told of the connections that were served: a line each, with a level of the crate `log`.
use Rattle.std.specs.Prelude.{ℕ, ◌+◌, if◌then◌else◌, List, [], ◌∷◌, ◌++◌, codes}
use Rattle.std.specs.Fmt.{decimal}
use Rattle.log.specs.declared.level.Level.{Level}
use Rattle.log.specs.declared.level.Level.TheVariants.{Error, Warn, Info}
use Rattle.log.specs.declared.level.LevelFilter.{LevelFilter}
use Rattle.log.specs.Level.{allows, level_name}
use Rattle.serve_turns.specs.declared.link_serving.ended.ConnEnd.{ConnEnd}
use Rattle.serve_turns.specs.declared.link_serving.ended.ConnEnd.TheVariants.{BadFrame, OutsideWindow, SecondNegotiate}
use Rattle.serve_turns.specs.declared.link_serving.ended.ConnEnd.TheVariants.{Unsealable, Spent, Full, LinkFault}
use Rattle.serve_turns.specs.declared.link_serving.ended.ConnEnd.TheVariants.{Stopped, Memory}
use Rattle.serve_turns.specs.declared.link_serving.ended.Ended.{Ended}
use Rattle.serve_turns.specs.declared.link_serving.ended.Ended.TheVariants.{Closed, By}

abbrev pub end_level : ConnEnd → Level
end_level BadFrame = Warn
end_level (OutsideWindow _) = Warn
end_level SecondNegotiate = Warn
end_level Unsealable = Warn
end_level Spent = Warn
end_level Full = Warn
end_level (LinkFault _) = Error
end_level (Stopped _) = Error
end_level Memory = Error

abbrev pub end_word : ConnEnd → List ℕ
end_word BadFrame = codes "bad-frame"
end_word (OutsideWindow _) = codes "outside-window"
end_word SecondNegotiate = codes "second-negotiate"
end_word Unsealable = codes "unsealable"
end_word Spent = codes "spent"
end_word Full = codes "full"
end_word (LinkFault _) = codes "link-fault"
end_word (Stopped _) = codes "stopped"
end_word Memory = codes "memory"

abbrev pub ended_level : Ended → Level
ended_level Closed = Info
ended_level (By end) = end_level end

abbrev pub ended_word : Ended → List ℕ
ended_word Closed = codes "closed"
ended_word (By end) = end_word end

-- the level, the number that counts accepts from 1, and the word
unfoldable pub ended_line : ℕ → Ended → List ℕ
ended_line number ended =
    level_name (ended_level ended) ++ (codes " connection " ++ (decimal number ++ (codes " " ++ (ended_word ended ++ codes "\n"))))

-- that line, where the filter lets it through
abbrev pub shown_line : LevelFilter → ℕ → Ended → List ℕ
shown_line filter number ended = if allows filter (ended_level ended) then ended_line number ended else []

-- the lines that a filter lets through, of the connections from a number on
abbrev pub ended_lines : LevelFilter → ℕ → List Ended → List ℕ
ended_lines filter number [] = []
ended_lines filter number (ended ∷ rest) = shown_line filter number ended ++ ended_lines filter (number + 1) rest
