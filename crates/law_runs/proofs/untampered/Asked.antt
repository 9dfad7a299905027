-- What the success of an operation tells of files, and that it fits a frame.
use Rattle.std.specs.Prelude.{◌≡◌, ℕ, ◌≤◌, Bool, true, false, length}
use Rattle.spec_exchange.specs.Status.{success}
use Rattle.spec_exchange.specs.Commands.{Command, ListDirectory, QueryFile, QueryVolume}
use Rattle.spec_exchange.specs.State.{Body, Listing, FileInfo, VolumeInfo}
use Rattle.spec_exchange.specs.Operations.{Op, OpCreate, OpStat, OpList}
use Rattle.spec_exchange.specs.Network.{Sent, ForOp, answer}
use Rattle.spec_commands.specs.Infos.{file_bytes, volume_bytes, listing_bytes}
use Rattle.law_commands.specs.commands.Fitting.{IsFittingAnswer}
use Rattle.spec_world.specs.World.{World}

-- its success tells what the server knows of a file
abbrev pub tells_file : Op → Bool
tells_file (OpCreate path access share disposition persist directory) = true
tells_file (OpStat create) = true
tells_file (OpList create) = true
tells_file _ = false

-- what a success tells of files and of the volume fits a frame
abbrev pub IsShort : Command → Body → Type 0
IsShort (ListDirectory file class restart single pattern room) (Listing told entries) = length (listing_bytes told entries) ≤ 1113900
IsShort (QueryFile file class room) (FileInfo told path info access options position) = length (file_bytes told path info access options position) ≤ 1113900
IsShort (QueryVolume file class room) (VolumeInfo told size used) = length (volume_bytes told size used) ≤ 1113900
IsShort _ _ = Unit {0}

-- of the answer to what waits at a front
pub record TellsRows (w : World) (x : Sent) : Type 0 where
  pub short : (answer w.values x).reply.status ≡ success → IsShort x.message.command (answer w.values x).reply.body
  pub told :
      (g : ℕ) → x.token ≡ ForOp g → tells_file (w.values.client.op g) ≡ true → (answer w.values x).reply.status ≡ success →
      IsFittingAnswer (w.values.client.op g) (answer w.values x).reply.body
