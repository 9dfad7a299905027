use Rattle.std.proofs.Common.{refl}
use Rattle.std.specs.Char.Utf16.{utf16_chars}
use lib.Utf8.{encode}
use Rattle.spec_wire.specs.messages.Places.{number_of, le, bytes_at}
use Rattle.spec_wire.specs.messages.Fault.{part_fault}
use Rattle.spec_exchange.specs.Texts.{leaf_from, leaf_of}
use Rattle.spec_commands.specs.Text.{units_in, all_there, characters_in, text_in}
use Rattle.spec_commands.specs.CommandOf.{tree_connect_in, command_of}
use Rattle.examples_world.proofs.commands.tree_connect_example.Goals as goal

pub returns : goal.returns
unfolding utf16_chars encode number_of le bytes_at part_fault leaf_from leaf_of units_in all_there characters_in text_in tree_connect_in command_of
returns c = refl
