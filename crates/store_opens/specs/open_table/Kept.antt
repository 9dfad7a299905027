-- What a session keeps of a CreateGuid, as a call tells it.
use Rattle.std.specs.Prelude.{Option, Some, None}
use Rattle.store_opens.specs.declared.open_index.keep.KeptCreate.{KeptCreate}
use Rattle.store_opens.specs.declared.open_index.keep.KeptCreate.TheVariants as told
use Rattle.store_opens.specs.declared.open_index.keep.KeptResult.{KeptResult}
use Rattle.store_opens.specs.declared.open_index.keep.KeptResult.TheVariants.{Standing, Closed, Refused}

-- of one that stands nothing is kept yet
abbrev pub kept_result : Option KeptResult → Option KeptCreate
kept_result None = None
kept_result (Some Standing) = None
kept_result (Some Closed) = Some told.Closed
kept_result (Some (Refused status)) = Some (told.Refused status)
