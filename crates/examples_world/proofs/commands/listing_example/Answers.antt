use Rattle.std.proofs.Common.{refl}
use Rattle.std.specs.Char.Utf16.{utf16_chars}
use lib.Utf8.{encode}
use Rattle.spec_wire.specs.messages.Places.{number_of, le, bytes_at}
use Rattle.spec_wire.specs.messages.Fault.{part_fault}
use Rattle.spec_wire.specs.messages.Chain.{is_badly_linked, piece}
use Rattle.spec_wire.specs.messages.Directory.{link_fault}
use Rattle.spec_commands.specs.Tables.{directory_class}
use Rattle.spec_commands.specs.Text.{units_in, all_there, characters_in, text_in}
use Rattle.spec_commands.specs.Items.{first_items, items_in}
use Rattle.spec_commands.specs.ReplyOf.{names_of, listing_in, body_in, reply_of}
use Rattle.examples_world.proofs.commands.listing_example.Goals as goal

pub returns-clause-heard : goal.returns-clause-heard
unfolding utf16_chars encode number_of le bytes_at part_fault is_badly_linked piece link_fault directory_class units_in all_there characters_in text_in first_items items_in names_of listing_in body_in reply_of
returns-clause-heard c = refl
