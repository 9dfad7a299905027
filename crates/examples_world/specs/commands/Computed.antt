-- The definitions that the examples compute: where `computed` is opened, so is each that its `unfolding` line names.
use Rattle.std.specs.Prelude.{ℕ}
use Rattle.std.specs.Str.{chars}
use Rattle.spec_commands.specs.BodyOf.{body_of}
use Rattle.spec_commands.specs.CommandOf.{contexts_in, elements_in, setup_in, logoff_in, tree_connect_in}
use Rattle.spec_commands.specs.CommandOf.{tree_disconnect_in, create_in, close_in, flush_in, read_in, write_in, lock_in}
use Rattle.spec_commands.specs.CommandOf.{ioctl_in, list_in, query_in, set_in, command_of, message_of}
use Rattle.spec_commands.specs.Clashes.{has_named, has_twice, clash_in}
use Rattle.spec_commands.specs.Ids.{file_of, file_id, file_kept, object_id, guid_of, guid_id}
use Rattle.spec_commands.specs.Infos.{allocation, without_bit, attributes_of, file_bytes, volume_bytes, listing_bytes}
use Rattle.spec_commands.specs.Infos.{short_bytes, interface_bytes, object_id_bytes}
use Rattle.spec_exchange.specs.Listing.{is_short_class}
use Rattle.spec_commands.specs.Items.{first_items, items_in}
use Rattle.spec_commands.specs.ReplyBody.{reply_body}
use Rattle.spec_commands.specs.ReplyOf.{names_of, listing_in, file_in, body_in, reply_of}
use Rattle.spec_commands.specs.Tables.{directory_class, bit_if}
use Rattle.spec_commands.specs.Text.{units_in, all_there, characters_in, text_in}
use Rattle.spec_exchange.specs.Commands.{has_bit}
use Rattle.spec_exchange.specs.Texts.{leaf_from, leaf_of}
use Rattle.spec_wire.specs.messages.Chain.{is_badly_linked, piece}
use Rattle.spec_wire.specs.messages.Classes.{is_directory_class, is_query_class, is_set_class, class_fault}
use Rattle.spec_wire.specs.messages.CreateContexts.{is_outside, length_fault, context_fault, first_fault, is_named}
use Rattle.spec_wire.specs.messages.CreateContexts.{is_persistent, flags_of, request_due, reply_due}
use Rattle.spec_wire.specs.messages.Directory.{link_fault}
use Rattle.spec_wire.specs.messages.Fault.{part_fault, count_fault}
use Rattle.spec_wire.specs.messages.Places.{number_of, le, bytes_at}
use Rattle.spec_wire.specs.messages.Utf16.{utf16}

unfoldable pub computed : ℕ
unfolding number_of le bytes_at part_fault count_fault is_directory_class is_query_class is_set_class class_fault utf16
    is_badly_linked piece is_outside length_fault context_fault first_fault is_named is_persistent flags_of request_due
    reply_due link_fault has_bit leaf_from leaf_of chars file_of file_id file_kept guid_of guid_id units_in all_there
    characters_in text_in first_items items_in has_named has_twice clash_in directory_class bit_if contexts_in elements_in setup_in logoff_in
    tree_connect_in tree_disconnect_in create_in close_in flush_in read_in write_in lock_in ioctl_in list_in query_in
    set_in command_of message_of body_of allocation without_bit attributes_of is_short_class short_bytes file_bytes volume_bytes listing_bytes
    interface_bytes object_id object_id_bytes reply_body names_of listing_in file_in body_in reply_of
computed = 0
