pub mod WaitRuns
