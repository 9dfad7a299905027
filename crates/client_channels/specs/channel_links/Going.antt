-- What goes out on a link.
use Rattle.std.specs.Prelude.{◌≡◌, ℕ, List, [], ◌++◌}
use Rattle.base_outside.specs.streams.Faults.{Rose}
use Rattle.serve_turns.specs.link_serving.Passage.{Passed}
use Rattle.spec_wire.specs.messages.Frames.{frame_spelling}
use Rattle.client_channels.specs.declared.channel_links.writing.Said.{Said}
use Rattle.client_channels.specs.declared.channel_links.writing.Said.TheVariants.{Lack, Lost, Whole}

module _ {K : Type 0} (told : Type 0) (given left written : K → List ℕ) (faults : K → ℕ) where
  -- the link failed in the middle of a message's frame, of which it took a front
  pub record IsLost (old new : K) (message : List ℕ) : Type 0 where
    pub wrote : List ℕ
    pub lost : List ℕ
    pub part : wrote ++ lost ≡ frame_spelling message
    pub passed : Passed told given left written old new [] wrote
    pub rose : Rose (faults old) (faults new)

  -- a message was put onto a link as its frame, in part, or not at all for want of memory
  abbrev pub SaysOn : K → K → List ℕ → Said → Type 0
  SaysOn old new message Whole = Passed told given left written old new [] (frame_spelling message) × (faults new ≡ faults old)
  SaysOn old new message Lost = IsLost old new message
  SaysOn old new message Lack = new ≡ old
