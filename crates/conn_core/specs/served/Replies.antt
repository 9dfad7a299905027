-- What is told of the server's answers to a frame.
use Rattle.std.specs.Prelude.{Bool, true, false, ◌||◌, List, [], ◌∷◌, Result, Ok, Err}
use Rattle.conn_core.specs.declared.served.serve.Reply.{Reply}
use Rattle.conn_core.specs.declared.served.error.ServeError.{ServeError}
use Rattle.conn_core.specs.declared.served.error.ServeError.TheVariants.{Memory, Unanswered}

-- the event found no memory
abbrev pub event_lacks : Result Reply ServeError → Bool
event_lacks (Err Memory) = true
event_lacks _ = false

-- files, the set of opens or ranges changed
abbrev pub event_acts : Result Reply ServeError → Bool
event_acts (Ok r) = r.acted
event_acts (Err (Unanswered acted)) = acted
event_acts (Err e) = false

unfoldable pub some_lacked : List (Result Reply ServeError) → Bool
some_lacked [] = false
some_lacked (r ∷ rs) = event_lacks r || some_lacked rs

unfoldable pub some_acted : List (Result Reply ServeError) → Bool
some_acted [] = false
some_acted (r ∷ rs) = event_acts r || some_acted rs
