use Rattle.law_hostile.proofs.ids.Frames.{own_frames_bear, own_frames_rise}
use Rattle.law_hostile.proofs.ids.PlainRuns.{own_frames_plain}
use Rattle.law_hostile.proofs.ids.own_frames_law.Goals as goal

pub returns : goal.returns
returns c = record { bear = own_frames_bear; rise = own_frames_rise; plain = own_frames_plain }
