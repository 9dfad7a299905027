use Rattle.std.proofs.Common.{refl}
use Rattle.std.specs.Char.Utf16.{utf16_chars}
use lib.Utf8.{encode}
use Rattle.spec_wire.specs.messages.Places.{number_of, le, bytes_at}
use Rattle.spec_wire.specs.messages.Fault.{part_fault}
use Rattle.spec_wire.specs.messages.Chain.{is_badly_linked, piece}
use Rattle.spec_wire.specs.messages.CreateContexts.{is_outside, length_fault, context_fault, first_fault, is_named}
use Rattle.spec_wire.specs.messages.CreateContexts.{is_persistent, request_due}
use Rattle.spec_commands.specs.Ids.{file_of, guid_of}
use Rattle.spec_commands.specs.Text.{units_in, all_there, characters_in, text_in}
use Rattle.spec_commands.specs.Items.{first_items, items_in}
use Rattle.spec_commands.specs.Clashes.{has_named, has_twice, clash_in}
use Rattle.spec_commands.specs.CommandOf.{contexts_in, create_in, command_of}
use Rattle.examples_world.proofs.commands.clash_behind_a_name_example.Goals as goal

pub returns-clause-name : goal.returns-clause-name
unfolding utf16_chars encode number_of le bytes_at part_fault is_badly_linked piece is_outside length_fault context_fault first_fault is_named is_persistent request_due file_of guid_of units_in all_there characters_in text_in first_items items_in contexts_in has_named has_twice clash_in create_in command_of
returns-clause-name c = refl

pub returns-clause-attaching : goal.returns-clause-attaching
unfolding utf16_chars encode number_of le bytes_at part_fault is_badly_linked piece is_outside length_fault context_fault first_fault is_named is_persistent request_due file_of guid_of units_in all_there characters_in text_in first_items items_in contexts_in has_named has_twice clash_in create_in command_of
returns-clause-attaching c = refl

pub returns-clause-twice : goal.returns-clause-twice
unfolding utf16_chars encode number_of le bytes_at part_fault is_badly_linked piece is_outside length_fault context_fault first_fault is_named is_persistent request_due file_of guid_of units_in all_there characters_in text_in first_items items_in contexts_in has_named has_twice clash_in create_in command_of
returns-clause-twice c = refl
