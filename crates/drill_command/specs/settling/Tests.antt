-- What is tested of a connection between two steps.
use Rattle.std.specs.Prelude.{Bool, true, false, not, ◌&&◌, ◌||◌, Option, Some, None}
use Rattle.world_ends.specs.Tests.{opened_in, readied_in, served_in}
use Rattle.world_ends.specs.declared.sides.Channel.{Channel}
use Rattle.world_ends.specs.declared.sides.ClientSide.{ClientSide}
use Rattle.world_ends.specs.declared.sides.ClientSide.TheVariants.{Closed, Talks, Ready}
use Rattle.world_steps.specs.Changes.{coming_in}

abbrev pub linking_in : Option Channel → Bool
linking_in o = (opened_in o && served_in o) && not (readied_in o)

abbrev pub serving_in : Option Channel → Bool
serving_in o = served_in o && coming_in true o

abbrev pub taking_in : Option Channel → Bool
taking_in o = opened_in o && coming_in false o

-- something is on its way, up or down
abbrev pub frames_in : Option Channel → Bool
frames_in o = coming_in true o || coming_in false o

abbrev pub more_in : Option Channel → Bool
more_in o = (opened_in o && served_in o) && frames_in o

abbrev pub talks : ClientSide → Bool
talks Closed = false
talks (Talks d) = true
talks (Ready l) = false

abbrev pub talking_in : Option Channel → Bool
talking_in None = false
talking_in (Some x) = talks x.client

abbrev pub hanging_in : Option Channel → Bool
hanging_in o = opened_in o && (not (served_in o) || talking_in o)

abbrev pub orphan_in : Option Channel → Bool
orphan_in o = served_in o && not (opened_in o)

abbrev pub alone_in : Option Channel → Bool
alone_in o = opened_in o && not (served_in o)

abbrev pub apart_in : Option Channel → Bool
apart_in o = not (opened_in o) && not (served_in o)
