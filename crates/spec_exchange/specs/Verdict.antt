-- What the processing of a request (MS-SMB2 3.3.5) comes to: a verdict, which answer applies, with what its effect needs.
use Rattle.std.specs.Prelude.{ℕ, Bool, List, Option}
use Rattle.spec_exchange.specs.Commands.{CreateRequest, SetupRequest, Basic, Element}
use Rattle.spec_exchange.specs.State.{Body, Range}

-- what a WRITE or a SET_INFO does to its file
pub data Change : Type 0 where
  PutBytes : (at : ℕ) (bytes : List ℕ) → Change
  PutEnd : (size : ℕ) → Change
  PutBasic : (basic : Basic) → Change
  PutDeletePending : (delete_pending : Bool) → Change
  PutPath : (replaced : Option ℕ) (path : List ℕ) → Change
  PutNothing : Change  -- no bytes, or an allocation that cuts nothing

-- where an open stands: its listing behind a name, or its position
pub data Place : Type 0 where
  Behind : (last : Option (List ℕ)) → Place
  At : (position : ℕ) → Place

pub data Verdict : Type 0 where
  -- nothing changes
  Refuse : (status : ℕ) → Verdict
  Give : (body : Body) → Verdict  -- SUCCESS, of a request that names no open
  -- CREATE
  KeepRefusal : (guid status : ℕ) → Verdict  -- it comes again at each copy
  Repeat : (o : ℕ) (request : CreateRequest) → Verdict  -- the first answer again
  Attach : (o : ℕ) (request : CreateRequest) → Verdict  -- a DH2C reestablishes this open (3.3.5.9.12)
  Make : (request : CreateRequest) (found : Option ℕ) (action : ℕ) → Verdict  -- a new open, of a file that was found or is made
  -- a request that reached its open o, and so offers its sequence there
  TurnDown : (o status : ℕ) → Verdict  -- it fails
  Tell : (o : ℕ) (body : Body) → Verdict  -- SUCCESS, and nothing else changes
  Show : (o : ℕ) (place : Place) (body : Body) → Verdict  -- SUCCESS, and the open stands at this place from now on
  KeepSlot : (o index number status : ℕ) (elements : List Element) → Verdict  -- a LOCK fails, and its slot keeps the status
  -- a LOCK succeeds: these are the file's ranges
  PutRanges : (o index number : ℕ) (ranges : List Range) (elements : List Element) → Verdict
  Alter : (o : ℕ) (change : Change) (body : Body) → Verdict  -- a WRITE or SET_INFO succeeds
  CloseOpen : (o : ℕ) (body : Body) → Verdict
  -- sessions and trees
  Challenge : Verdict  -- MORE_PROCESSING_REQUIRED, with a new session id
  ChallengeBinding : (session : ℕ) → Verdict  -- the same of a binding
  Begin : (session : ℕ) (user : List ℕ) (previous : Option ℕ) (request : SetupRequest) (quiet : Bool) → Verdict  -- the session is there
  Join : (session : ℕ) → Verdict  -- the channel is bound
  EndSession : (session : ℕ) (quiet : Bool) → Verdict  -- quiet: no record of it fits, so files stay as they are
  AddTree : (pipes : Bool) → Verdict  -- TREE_CONNECT succeeds
  DropTree : Verdict  -- TREE_DISCONNECT does, and the opens of the tree are closed
